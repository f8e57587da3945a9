-- The items of a page go one after another, from the last, to their places in another page.
use Rattle.std.proofs.Common.{◌≡◌, ◌≢◌, inl, inr, ℕ, ◌+◌, ◌<◌, ◌≤◌, Bool, List, [], ◌∷◌, ◌++◌, length, set, refl, sym, ap, subst, ◌∙◌, arith, append_assoc}
use Rattle.std.proofs.Common.{length-append}
use Rattle.std.specs.Prelude.{Contains}
use Rattle.std.specs.List.{insert}
use Rattle.std.specs.List.Sorted.{IsPermutation}
use Rattle.std.specs.declared.cmp.Ordering.TheVariants.{Less}
use Rattle.std.proofs.lemmas.List.{append-nil, map-append, get_or_append_left, get_or_at, get_or_default}
use Rattle.std.proofs.lemmas.List.Elements.{Contains-append_left, Contains-append_right, Contains-get_or}
use Rattle.std.proofs.lemmas.List.Sorted.{IsPermutation-refl, IsPermutation-trans, IsPermutation-to_front, IsPermutation-append_left, IsPermutation-insert}
use Rattle.std.proofs.lemmas.List.Sorted.{length_permutation}
use Rattle.ml_term.specs.Keys.{key_cmp}
use Rattle.ml_region.specs.Prefixes.{bits_at, IsRising, IsPlaceFor}
use Rattle.ml_region.specs.inside.Moves.{IsPoured}
use Rattle.ml_region.specs.Regions.{keys_of}
use Rattle.ml_region.specs.inside.Stored.{page_at, IsFirstFrom}
use Rattle.ml_region.specs.declared.item.Item.{Item}
use Rattle.ml_region.proofs.KeyOrder.{less_is_not_equal}
use Rattle.ml_region.proofs.ListInsertions.{contains_insert, rising_insert}
use Rattle.ml_region.proofs.PageSearch.{fits_first}
use Rattle.ml_region.proofs.RegionItems.{keys_insert}
use Rattle.ml_region.proofs.MovedItems.{set_again, stays_same, page_from, page_to}

pub record Pouring (pages : List (List Item)) (from to : ℕ) (now : List (List Item)) : Type 0 where
  pub left : List Item
  pub got : List Item
  pub all : IsPermutation (page_at pages to ++ page_at pages from) (got ++ left)
  pub rising : IsRising (keys_of got)
  pub left_rising : IsRising (keys_of left)
  pub different : (key : List Bool) → Contains (keys_of left) key → Contains (keys_of got) key → ⊥
  pub same : now ≡ set (set pages from left) to got

pub pouring_begins : (pages : List (List Item)) (from to : ℕ) → from < length pages → to < length pages → from ≢ to → IsRising (keys_of (page_at pages to))
    → IsRising (keys_of (page_at pages from)) → ((key : List Bool) → Contains (keys_of (page_at pages from)) key → Contains (keys_of (page_at pages to)) key →
    ⊥)
    → Pouring pages from to pages
pouring_begins pages from to h g n up left_up other = record {
  left = page_at pages from;
  got = page_at pages to;
  all = IsPermutation-refl (page_at pages to ++ page_at pages from);
  rising = up;
  left_rising = left_up;
  different = other;
  same = sym (stays_same pages from to h g n);
}

pub now_from : (pages : List (List Item)) (from to : ℕ) (now : List (List Item)) (p : Pouring pages from to now) → from < length pages → from ≢ to →
    page_at now from ≡ p.left
now_from pages from to now p h n = ap (λ ps. page_at ps from) p.same ∙ page_from pages from to p.left p.got h n

pub now_to : (pages : List (List Item)) (from to : ℕ) (now : List (List Item)) (p : Pouring pages from to now) → to < length pages → page_at now to ≡ p.got
now_to pages from to now p h = ap (λ ps. page_at ps to) p.same ∙ page_to pages from to p.left p.got h

-- there is room while an item is left
pub pour_room : (pages : List (List Item)) (from to : ℕ) (now : List (List Item)) (p : Pouring pages from to now) → from < length pages → to < length pages →
    from ≢ to
    → length (page_at pages to) + length (page_at pages from) ≤ 31 → 0 < length (page_at now from) → length (page_at now to) < 31
pour_room pages from to now p h g n few some =
    omega (
      arith,
      length_permutation (page_at pages to ++ page_at pages from) (p.got ++ p.left) p.all,
      length-append p.got p.left,
      length-append (page_at pages to) (page_at pages from),
      ap length (now_from pages from to now p h n),
      ap length (now_to pages from to now p g),
    )

rising_front : (xs ys : List (List Bool)) → IsRising (xs ++ ys) → IsRising xs
rising_front xs ys up = record {
  rises = λ i j l h.
      let first : bits_at (xs ++ ys) i ≡ bits_at xs i = get_or_append_left xs ys [] i (omega arith) in
      let second : bits_at (xs ++ ys) j ≡ bits_at xs j = get_or_append_left xs ys [] j h in
      ap (λ x. key_cmp x (bits_at xs j)) (sym first) ∙ ap (key_cmp (bits_at (xs ++ ys) i)) (sym second) ∙ up.rises i j l (omega (arith, length-append xs ys));
}

-- the last of rising lists is none of the others
last_apart : (xs : List (List Bool)) (y k : List Bool) → IsRising (xs ++ y ∷ []) → Contains xs k → y ≢ k
last_apart xs y k up there e =
    let h : there.0 < length xs = there.1 in
    let first : bits_at (xs ++ y ∷ []) there.0 ≡ k = get_or_append_left xs (y ∷ []) [] there.0 h ∙ get_or_default xs there.0 [] k h ∙ there.2 in
    let second : bits_at (xs ++ y ∷ []) (length xs) ≡ y = get_or_at xs y [] [] (length xs) refl in
    let less : key_cmp (bits_at (xs ++ y ∷ []) there.0) (bits_at (xs ++ y ∷ []) (length xs)) ≡ Less =
    up.rises there.0 (length xs) h (omega (arith, length-append xs (y ∷ []))) in
    less_is_not_equal (bits_at (xs ++ y ∷ []) there.0) (bits_at (xs ++ y ∷ []) (length xs)) less (first ∙ sym e ∙ sym second)

keys_append : (xs : List Item) (y : Item) → keys_of (xs ++ y ∷ []) ≡ keys_of xs ++ y.key.bits ∷ []
keys_append xs y = map-append (λ (x : Item). x.key.bits) xs (y ∷ [])

pub pouring_more : (pages : List (List Item)) (from to : ℕ) (now : List (List Item)) (rest : List Item) (x : Item) (j : ℕ) → from < length pages →
    to < length pages → from ≢ to
    → Pouring pages from to now → page_at now from ≡ rest ++ x ∷ [] → IsFirstFrom (keys_of (page_at now to)) x.key.bits j
    → Pouring pages from to (set (set now from rest) to (insert (page_at now to) j x))
pouring_more pages from to now rest x j h g n p popped first =
    let got : List Item = p.got in
    let key : List Bool = x.key.bits in
    let left : p.left ≡ rest ++ x ∷ [] = sym (now_from pages from to now p h n) ∙ popped in
    let other : page_at now to ≡ got = now_to pages from to now p g in
    let keys : keys_of p.left ≡ keys_of rest ++ key ∷ [] = ap keys_of left ∙ keys_append rest x in
    let first' : IsFirstFrom (keys_of got) key j = subst (λ xs. IsFirstFrom (keys_of xs) key j) other first in
    let there : Contains (keys_of p.left) key = subst (λ ks. Contains ks key) (sym keys)
    (Contains-append_right (keys_of rest) (key ∷ []) key (0, omega arith, refl)) in
    let new : (m : ℕ) → m < length (keys_of got) → bits_at (keys_of got) m ≢ key = λ m l e.
    p.different key there (subst (λ k. Contains (keys_of got) k) e (Contains-get_or (keys_of got) m [] l)) in
    let fits : IsPlaceFor (keys_of got) key j = fits_first (keys_of got) key j first' new in
    let up : IsRising (keys_of rest ++ key ∷ []) = subst IsRising keys p.left_rising in
    record {
      left = rest;
      got = insert got j x;
      all =
          IsPermutation-trans (page_at pages to ++ page_at pages from) (got ++ p.left) (insert got j x ++ rest) p.all
          (subst (λ xs. IsPermutation (got ++ xs) (insert got j x ++ rest)) (sym left)
          (subst (λ xs. IsPermutation xs (insert got j x ++ rest)) (append_assoc got rest (x ∷ []))
          (IsPermutation-trans ((got ++ rest) ++ x ∷ []) (x ∷ (got ++ rest)) (insert got j x ++ rest) (IsPermutation-to_front (got ++ rest) x)
          (IsPermutation-append_left rest (x ∷ got) (insert got j x) (IsPermutation-insert got j x)))));
      rising = subst IsRising (sym (keys_insert got j x)) (rising_insert (keys_of got) key j p.rising fits);
      left_rising = rising_front (keys_of rest) (key ∷ []) up;
      different = λ k c d.
          elim (contains_insert (keys_of got) j key k fits.within (subst (λ ks. Contains ks k) (keys_insert got j x) d)) [
            | inl o ↦ p.different k (subst (λ ks. Contains ks k) (sym keys) (Contains-append_left (keys_of rest) (key ∷ []) k c)) o
            | inr e ↦ last_apart (keys_of rest) key k up c e
          ];
      same = ap (λ xs. set (set now from rest) to (insert xs j x)) other ∙ ap (λ ps. set (set ps from rest) to (insert got j x)) p.same
          ∙ set_again pages from to p.left got rest (insert got j x) n;
    }

pub pouring_ends : (pages : List (List Item)) (from to : ℕ) (now : List (List Item)) → from < length pages → from ≢ to → Pouring pages from to now →
    page_at now from ≡ []
    → IsPoured pages from to now
pouring_ends pages from to now h n p none =
    let left : p.left ≡ [] = sym (now_from pages from to now p h n) ∙ none in
    record {
      items = p.got;
      all = subst (IsPermutation (page_at pages to ++ page_at pages from)) (ap (λ xs. p.got ++ xs) left ∙ append-nil p.got) p.all;
      rising = p.rising;
      same = p.same ∙ ap (λ xs. set (set pages from xs) to p.got) left;
    }

pub nothing : (xs : List Item) → length xs ≡ 0 → xs ≡ []
nothing [] e = refl
nothing (x ∷ xs) e = absurd (omega arith)
