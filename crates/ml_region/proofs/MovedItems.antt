-- The items of a page that begin with a prefix go one after another to the end of another page.
use Rattle.std.proofs.Common.{◌≡◌, ◌≢◌, ℕ, zero, suc, ◌+◌, ◌-◌, ◌<◌, ◌≤◌, Bool, true, false, not, cond, List, [], ◌∷◌, ◌++◌, length, get_or, set, refl, sym, ap}
use Rattle.std.proofs.Common.{◌∙◌, arith, append_assoc, length-append}
use Rattle.std.specs.List.{remove}
use Rattle.std.proofs.Math.ListN.{length-set}
use Rattle.std.proofs.lemmas.List.{get_or-set_same, get_or-set_other, get_or_at, append-nil}
use Rattle.std.proofs.lemmas.List.Elements.{filter-append}
use Rattle.ml_term.specs.Patterns.{begins}
use Rattle.ml_region.specs.Changes.{items_below, items_beside}
use Rattle.ml_region.specs.inside.Moves.{IsMoved}
use Rattle.ml_region.specs.inside.Stored.{page_at}
use Rattle.ml_region.specs.declared.item.Item.{Item}
use Rattle.ml_region.proofs.FilteredItems.{passing_length}

-- two pages that are written twice
pub set_again : (pages : List (List Item)) (from to : ℕ) (a b c d : List Item) → from ≢ to
    → set (set (set (set pages from a) to b) from c) to d ≡ set (set pages from c) to d
set_again [] from to a b c d n = refl
set_again (p ∷ ps) zero zero a b c d n = absurd (n refl)
set_again (p ∷ ps) zero (suc to) a b c d n = ap (λ qs. c ∷ qs) (twice ps to b d)
  where
    twice : (ps : List (List Item)) (to : ℕ) (b d : List Item) → set (set ps to b) to d ≡ set ps to d
    twice [] to b d = refl
    twice (p ∷ ps) zero b d = refl
    twice (p ∷ ps) (suc to) b d = ap (λ qs. p ∷ qs) (twice ps to b d)
set_again (p ∷ ps) (suc from) zero a b c d n = ap (λ qs. d ∷ qs) (twice ps from a c)
  where
    twice : (ps : List (List Item)) (to : ℕ) (b d : List Item) → set (set ps to b) to d ≡ set ps to d
    twice [] to b d = refl
    twice (p ∷ ps) zero b d = refl
    twice (p ∷ ps) (suc to) b d = ap (λ qs. p ∷ qs) (twice ps to b d)
set_again (p ∷ ps) (suc from) (suc to) a b c d n = ap (λ qs. p ∷ qs) (set_again ps from to a b c d (λ e. n (ap suc e)))

pub remove_at : (xs ys : List Item) (y : Item) → remove (xs ++ y ∷ ys) (length xs) ≡ xs ++ ys
remove_at [] ys y = refl
remove_at (x ∷ xs) ys y = ap (λ zs. x ∷ zs) (remove_at xs ys y)

-- what is done: the items that were looked at stand where they belong, and the others still behind those that stay
pub record Moving (pages : List (List Item)) (from to : ℕ) (prefix : List Bool) (now : List (List Item)) (j left : ℕ) : Type 0 where
  pub looked : List Item
  pub rest : List Item
  pub whole : page_at pages from ≡ looked ++ rest
  pub count : left ≡ length rest
  pub place : j ≡ length (items_beside prefix looked)
  pub same : now ≡ set (set pages from (items_beside prefix looked ++ rest)) to (items_below prefix looked)

pub set_own : (pages : List (List Item)) (k : ℕ) → k < length pages → set pages k (page_at pages k) ≡ pages
set_own [] k h = absurd (omega arith)
set_own (p ∷ ps) zero h = refl
set_own (p ∷ ps) (suc k) h = ap (λ qs. p ∷ qs) (set_own ps k (omega arith))

-- pages that are written with what they have
pub stays_same : (pages : List (List Item)) (from to : ℕ) → from < length pages → to < length pages → from ≢ to →
    set (set pages from (page_at pages from)) to (page_at pages to) ≡ pages
stays_same pages from to h g n = ap (λ qs. set qs to (page_at pages to)) (set_own pages from h) ∙ set_own pages to g

pub page_from : (pages : List (List Item)) (from to : ℕ) (a b : List Item) → from < length pages → from ≢ to → page_at (set (set pages from a) to b) from ≡ a
page_from pages from to a b h n = get_or-set_other (set pages from a) to from b [] n ∙ get_or-set_same pages from a [] h

pub page_to : (pages : List (List Item)) (from to : ℕ) (a b : List Item) → to < length pages → page_at (set (set pages from a) to b) to ≡ b
page_to pages from to a b h = get_or-set_same (set pages from a) to b [] (omega (arith, length-set pages from a))

page_now : (pages : List (List Item)) (from to : ℕ) (a b : List Item) (now : List (List Item)) → from < length pages → from ≢ to →
    now ≡ set (set pages from a) to b → page_at now from ≡ a
page_now pages from to a b now h n e = ap (λ ps. page_at ps from) e ∙ page_from pages from to a b h n

-- the next item to look at stands at the place that was reached
pub next_item : (pages : List (List Item)) (from to : ℕ) (prefix : List Bool) (now : List (List Item)) (j left : ℕ) → from < length pages → from ≢ to
    → Moving pages from to prefix now j left → 0 < left → j < length (page_at now from)
next_item pages from to prefix now j left h n m l =
    let page : page_at now from ≡ items_beside prefix m.looked ++ m.rest =
    page_now pages from to (items_beside prefix m.looked ++ m.rest) (items_below prefix m.looked) now h n m.same in
    omega (arith, ap length page, length-append (items_beside prefix m.looked) m.rest, m.count, m.place)

-- the other page has fewer than are looked at
pub next_room : (pages : List (List Item)) (from to : ℕ) (prefix : List Bool) (now : List (List Item)) (j left : ℕ) → to < length pages
    → Moving pages from to prefix now j left → 0 < left → length (page_at pages from) ≤ 31 → length (page_at now to) < 31
next_room pages from to prefix now j left h m l few =
    let page : page_at now to ≡ items_below prefix m.looked =
    ap (λ ps. page_at ps to) m.same ∙ page_to pages from to (items_beside prefix m.looked ++ m.rest) (items_below prefix m.looked) h in
    omega (arith, ap length page, passing_length (begins prefix) m.looked, ap length m.whole, length-append m.looked m.rest, m.count)

stays_in : (prefix : List Bool) (xs : List Item) (y : Item) → begins prefix y.key.bits ≡ false
    → (items_beside prefix (xs ++ y ∷ []) ≡ items_beside prefix xs ++ y ∷ []) × (items_below prefix (xs ++ y ∷ []) ≡ items_below prefix xs)
stays_in prefix xs y t = (
  filter-append (λ (x : Item). not (begins prefix x.key.bits)) xs (y ∷ []) ∙ ap (λ b. items_beside prefix xs ++ cond (not b) (y ∷ []) []) t,
  filter-append (λ (x : Item). begins prefix x.key.bits) xs (y ∷ []) ∙ ap (λ b. items_below prefix xs ++ cond b (y ∷ []) []) t
      ∙ append-nil (items_below prefix xs),
)

goes_over : (prefix : List Bool) (xs : List Item) (y : Item) → begins prefix y.key.bits ≡ true
    → (items_beside prefix (xs ++ y ∷ []) ≡ items_beside prefix xs) × (items_below prefix (xs ++ y ∷ []) ≡ items_below prefix xs ++ y ∷ [])
goes_over prefix xs y t = (
  filter-append (λ (x : Item). not (begins prefix x.key.bits)) xs (y ∷ []) ∙ ap (λ b. items_beside prefix xs ++ cond (not b) (y ∷ []) []) t
      ∙ append-nil (items_beside prefix xs),
  filter-append (λ (x : Item). begins prefix x.key.bits) xs (y ∷ []) ∙ ap (λ b. items_below prefix xs ++ cond b (y ∷ []) []) t,
)

past_by : (pages : List (List Item)) (from to : ℕ) (prefix : List Bool) (now : List (List Item)) (j left : ℕ) (x : Item) (looked rest : List Item) →
    from < length pages → from ≢ to
    → page_at pages from ≡ looked ++ rest → left ≡ length rest → j ≡ length (items_beside prefix looked)
    → now ≡ set (set pages from (items_beside prefix looked ++ rest)) to (items_below prefix looked)
    → 0 < left → x ≡ get_or (page_at now from) j x → begins prefix x.key.bits ≡ false → Moving pages from to prefix now (j + 1) (left - 1)
past_by pages from to prefix now j left x looked [] h n whole count place same l is t = absurd (omega arith)
past_by pages from to prefix now j left x looked (y ∷ ys) h n whole count place same l is t =
    let page : page_at now from ≡ items_beside prefix looked ++ y ∷ ys =
    page_now pages from to (items_beside prefix looked ++ y ∷ ys) (items_below prefix looked) now h n same in
    let one : x ≡ y = is ∙ ap (λ ps. get_or ps j x) page ∙ get_or_at (items_beside prefix looked) y ys x j (sym place) in
    let parts = stays_in prefix looked y (ap (λ (z : Item). begins prefix z.key.bits) (sym one) ∙ t) in
    let next : items_beside prefix looked ++ y ∷ ys ≡ items_beside prefix (looked ++ y ∷ []) ++ ys =
    sym (append_assoc (items_beside prefix looked) (y ∷ []) ys) ∙ ap (λ zs. zs ++ ys) (sym parts.0) in
    record {
      looked = looked ++ y ∷ [];
      rest = ys;
      whole = whole ∙ sym (append_assoc looked (y ∷ []) ys);
      count = omega arith;
      place = omega (arith, place, ap length parts.0, length-append (items_beside prefix looked) (y ∷ []));
      same = same ∙ ap (λ zs. set (set pages from zs) to (items_below prefix looked)) next
          ∙ ap (set (set pages from (items_beside prefix (looked ++ y ∷ []) ++ ys)) to) (sym parts.1);
    }

-- the item stays
pub moving_past : (pages : List (List Item)) (from to : ℕ) (prefix : List Bool) (now : List (List Item)) (j left : ℕ) (x : Item) → from < length pages →
    from ≢ to
    → Moving pages from to prefix now j left → 0 < left → x ≡ get_or (page_at now from) j x → begins prefix x.key.bits ≡ false →
    Moving pages from to prefix now (j + 1) (left - 1)
moving_past pages from to prefix now j left x h n m l is t =
    past_by pages from to prefix now j left x m.looked m.rest h n m.whole m.count m.place m.same l is t

over_by : (pages : List (List Item)) (from to : ℕ) (prefix : List Bool) (now new : List (List Item)) (j left : ℕ) (x : Item) (looked rest : List Item) →
    from < length pages
    → to < length pages → from ≢ to → page_at pages from ≡ looked ++ rest → left ≡ length rest → j ≡ length (items_beside prefix looked)
    → now ≡ set (set pages from (items_beside prefix looked ++ rest)) to (items_below prefix looked)
    → 0 < left → x ≡ get_or (page_at now from) j x → begins prefix x.key.bits ≡ true → IsMoved now from j to new → Moving pages from to prefix new j (left - 1)
over_by pages from to prefix now new j left x looked [] h g n whole count place same l is t moved = absurd (omega arith)
over_by pages from to prefix now new j left x looked (y ∷ ys) h g n whole count place same l is t moved =
    let a : List Item = items_beside prefix looked ++ y ∷ ys in
    let b : List Item = items_below prefix looked in
    let page : page_at now from ≡ a = page_now pages from to a b now h n same in
    let other : page_at now to ≡ b = ap (λ ps. page_at ps to) same ∙ page_to pages from to a b g in
    let one : x ≡ y = is ∙ ap (λ ps. get_or ps j x) page ∙ get_or_at (items_beside prefix looked) y ys x j (sym place) in
    let its : moved.item ≡ y = moved.there ∙ ap (λ ps. get_or ps j moved.item) page ∙ get_or_at (items_beside prefix looked) y ys moved.item j (sym place) in
    let parts = goes_over prefix looked y (ap (λ (z : Item). begins prefix z.key.bits) (sym one) ∙ t) in
    let less : remove (page_at now from) j ≡ items_beside prefix looked ++ ys =
    ap (λ zs. remove zs j) page ∙ ap (remove a) place ∙ remove_at (items_beside prefix looked) ys y in
    let more : page_at now to ++ moved.item ∷ [] ≡ items_below prefix (looked ++ y ∷ []) =
    ap (λ zs. zs ++ moved.item ∷ []) other ∙ ap (λ z. b ++ z ∷ []) its ∙ sym parts.1 in
    let rest : items_beside prefix looked ++ ys ≡ items_beside prefix (looked ++ y ∷ []) ++ ys = ap (λ zs. zs ++ ys) (sym parts.0) in
    record {
      looked = looked ++ y ∷ [];
      rest = ys;
      whole = whole ∙ sym (append_assoc looked (y ∷ []) ys);
      count = omega arith;
      place = place ∙ ap length (sym parts.0);
      same = moved.same ∙ ap (λ zs. set (set now from zs) to (page_at now to ++ moved.item ∷ [])) (less ∙ rest)
          ∙ ap (set (set now from (items_beside prefix (looked ++ y ∷ []) ++ ys)) to) more
          ∙ ap (λ ps. set (set ps from (items_beside prefix (looked ++ y ∷ []) ++ ys)) to (items_below prefix (looked ++ y ∷ []))) same
          ∙ set_again pages from to a b (items_beside prefix (looked ++ y ∷ []) ++ ys) (items_below prefix (looked ++ y ∷ [])) n;
    }

-- the item goes over
pub moving_over : (pages : List (List Item)) (from to : ℕ) (prefix : List Bool) (now new : List (List Item)) (j left : ℕ) (x : Item) → from < length pages →
    to < length pages → from ≢ to
    → Moving pages from to prefix now j left → 0 < left → x ≡ get_or (page_at now from) j x → begins prefix x.key.bits ≡ true → IsMoved now from j to new
    → Moving pages from to prefix new j (left - 1)
moving_over pages from to prefix now new j left x h g n m l is t moved =
    over_by pages from to prefix now new j left x m.looked m.rest h g n m.whole m.count m.place m.same l is t moved

end_by : (pages : List (List Item)) (from to : ℕ) (prefix : List Bool) (now : List (List Item)) (looked rest : List Item) →
    page_at pages from ≡ looked ++ rest → 0 ≡ length rest
    → now ≡ set (set pages from (items_beside prefix looked ++ rest)) to (items_below prefix looked)
    → now ≡ set (set pages from (items_beside prefix (page_at pages from))) to (items_below prefix (page_at pages from))
end_by pages from to prefix now looked (y ∷ ys) whole count same = absurd (omega arith)
end_by pages from to prefix now looked [] whole count same =
    let all : looked ≡ page_at pages from = sym (whole ∙ append-nil looked) in
    same ∙ ap (λ zs. set (set pages from zs) to (items_below prefix looked)) (append-nil (items_beside prefix looked))
    ∙ ap (λ zs. set (set pages from (items_beside prefix zs)) to (items_below prefix zs)) all

pub moving_ends : (pages : List (List Item)) (from to : ℕ) (prefix : List Bool) (now : List (List Item)) (j left : ℕ) → Moving pages from to prefix now j left →
    left ≡ 0
    → now ≡ set (set pages from (items_beside prefix (page_at pages from))) to (items_below prefix (page_at pages from))
moving_ends pages from to prefix now j left m e = end_by pages from to prefix now m.looked m.rest m.whole (sym e ∙ m.count) m.same

pub next_place : (pages : List (List Item)) (from to : ℕ) (prefix : List Bool) (now : List (List Item)) (j left : ℕ) → Moving pages from to prefix now j left
    → length (page_at pages from) ≤ 31 → j ≤ 31
next_place pages from to prefix now j left m few =
    omega (arith, m.place, passing_length (λ k. not (begins prefix k)) m.looked, ap length m.whole, length-append m.looked m.rest)
