-- The items that pass a test of their keys, in their order.
use Rattle.std.proofs.Common.{◌≡◌, ◌⊎◌, inl, inr, ℕ, zero, suc, ◌<◌, ◌≤◌, Bool, true, false, cond, List, [], ◌∷◌, length, get_or, refl, sym, ap, subst, ◌∙◌}
use Rattle.std.proofs.Common.{arith}
use Rattle.std.specs.Prelude.{Contains}
use Rattle.std.specs.List.{filter}
use Rattle.std.specs.declared.cmp.Ordering.TheVariants.{Less}
use Rattle.std.proofs.lemmas.List.{get_or_default}
use Rattle.std.proofs.lemmas.List.Sums.{length-filter, count_by-le-length}
use Rattle.ml_term.specs.Keys.{key_cmp}
use Rattle.ml_region.specs.Prefixes.{bits_at, IsRising}
use Rattle.ml_region.specs.Regions.{keys_of}
use Rattle.ml_region.specs.declared.item.Item.{Item}

-- the items whose keys pass a test
abbrev pub passing : (List Bool → Bool) → List Item → List Item
passing test items = filter (λ (x : Item). test x.key.bits) items

first_contained : (k : List Bool) (ks : List (List Bool)) → Contains (k ∷ ks) k
first_contained k ks = (0, omega arith, refl)

later_contained : (k x : List Bool) (ks : List (List Bool)) → Contains ks k → Contains (x ∷ ks) k
later_contained k x ks c = let h : c.0 < length ks = c.1 in (suc c.0, omega arith, c.2)

contained_cases : (k x : List Bool) (ks : List (List Bool)) → Contains (x ∷ ks) k → (x ≡ k) ⊎ Contains ks k
contained_cases k x ks c = by c.0 c.1 c.2
  where
    by : (i : ℕ) → i < length (x ∷ ks) → get_or (x ∷ ks) i k ≡ k → (x ≡ k) ⊎ Contains ks k
    by zero h e = inl e
    by (suc i) h e = inr (i, omega arith, e)

-- what passes was there and passes
pub passing_keys : (test : List Bool → Bool) (items : List Item) (k : List Bool) → Contains (keys_of (passing test items)) k →
    Contains (keys_of items) k × (test k ≡ true)
passing_keys test [] k c = let h : c.0 < 0 = c.1 in absurd (omega arith)
passing_keys test (x ∷ xs) k c = by (test x.key.bits) refl (passing_keys test xs k) c
  where
    by : (b : Bool) → b ≡ test x.key.bits → (Contains (keys_of (passing test xs)) k → Contains (keys_of xs) k × (test k ≡ true))
        → Contains (keys_of (cond b (x ∷ passing test xs) (passing test xs))) k → Contains (keys_of (x ∷ xs)) k × (test k ≡ true)
    by true e ih d = elim (contained_cases k x.key.bits (keys_of (passing test xs)) d) [
      | inl f ↦ (subst (λ l. Contains (keys_of (x ∷ xs)) l) f (first_contained x.key.bits (keys_of xs)), ap test (sym f) ∙ sym e)
      | inr f ↦ let r = ih f in (later_contained k x.key.bits (keys_of xs) r.0, r.1)
    ]
    by false e ih d = let r = ih d in (later_contained k x.key.bits (keys_of xs) r.0, r.1)

rising_first : (x k : List Bool) (ks : List (List Bool)) → IsRising (x ∷ ks) → Contains ks k → key_cmp x k ≡ Less
rising_first x k ks up c =
    let h : c.0 < length ks = c.1 in
    let e : get_or ks c.0 [] ≡ k = get_or_default ks c.0 [] k h ∙ c.2 in
    ap (key_cmp x) (sym e) ∙ up.rises 0 (suc c.0) (omega arith) (omega arith)

rising_rest : (x : List Bool) (ks : List (List Bool)) → IsRising (x ∷ ks) → IsRising ks
rising_rest x ks up = record { rises = λ i j l h. up.rises (suc i) (suc j) (omega arith) (omega arith) }

rising_more : (x : List Bool) (ks : List (List Bool)) → ((k : List Bool) → Contains ks k → key_cmp x k ≡ Less) → IsRising ks → IsRising (x ∷ ks)
rising_more x ks first up = record { rises = λ i j l h. by i j l h }
  where
    by : (i j : ℕ) → i < j → j < length (x ∷ ks) → key_cmp (bits_at (x ∷ ks) i) (bits_at (x ∷ ks) j) ≡ Less
    by i zero l h = absurd (omega arith)
    by zero (suc j) l h = let g : j < length ks = omega arith in first (get_or ks j []) (j, g, get_or_default ks j (get_or ks j []) [] g)
    by (suc i) (suc j) l h = up.rises i j (omega arith) (omega arith)

pub passing_rising : (test : List Bool → Bool) (items : List Item) → IsRising (keys_of items) → IsRising (keys_of (passing test items))
passing_rising test [] up = up
passing_rising test (x ∷ xs) up = by (test x.key.bits) (passing_rising test xs (rising_rest x.key.bits (keys_of xs) up))
  where
    by : (b : Bool) → IsRising (keys_of (passing test xs)) → IsRising (keys_of (cond b (x ∷ passing test xs) (passing test xs)))
    by true ih = rising_more x.key.bits (keys_of (passing test xs)) (λ k c. rising_first x.key.bits k (keys_of xs) up (passing_keys test xs k c).0) ih
    by false ih = ih

pub passing_length : (test : List Bool → Bool) (items : List Item) → length (passing test items) ≤ length items
passing_length test items = omega (arith, length-filter (λ (x : Item). test x.key.bits) items, count_by-le-length (λ (x : Item). test x.key.bits) items)
