-- Lists with one element more or one less: where each element of the new list stood, and what that means for rising lists.
use Rattle.std.proofs.Common.{◌≡◌, ◌⊎◌, inl, inr, ℕ, suc, ◌+◌, ◌-◌, ◌<◌, ◌≤◌, Bool, List, [], ◌∷◌, ◌++◌, length, get_or, take, drop, map, sym, ap, ◌∙◌, arith}
use Rattle.std.specs.Prelude.{Contains}
use Rattle.std.specs.List.{insert, remove}
use Rattle.std.specs.declared.cmp.Ordering.TheVariants.{Less}
use Rattle.std.proofs.lemmas.Bool.{cases_lt, cases_order}
use Rattle.std.proofs.lemmas.List.{map-append, take-map, drop-map}
use Rattle.std.proofs.lemmas.List.Edits.{length-insert, length-remove, get_or-insert_below, get_or-insert_at, get_or-insert_above, get_or-remove_below}
use Rattle.std.proofs.lemmas.List.Edits.{get_or-remove_above}
use Rattle.ml_term.specs.Keys.{key_cmp}
use Rattle.ml_region.specs.Prefixes.{bits_at, IsRising, IsPlaceFor}

pub map_insert : {X Y : Type 0} (f : X → Y) (xs : List X) (i : ℕ) (x : X) → map f (insert xs i x) ≡ insert (map f xs) i (f x)
map_insert f xs i x =
    map-append f (take i xs) (x ∷ drop i xs)
    ∙ ap (λ ys. ys ++ f x ∷ map f (drop i xs)) (sym (take-map f i xs))
    ∙ ap (λ ys. take i (map f xs) ++ f x ∷ ys) (sym (drop-map f i xs))

pub map_remove : {X Y : Type 0} (f : X → Y) (xs : List X) (i : ℕ) → map f (remove xs i) ≡ remove (map f xs) i
map_remove f xs i =
    map-append f (take i xs) (drop (suc i) xs)
    ∙ ap (λ ys. ys ++ map f (drop (suc i) xs)) (sym (take-map f i xs))
    ∙ ap (λ ys. take i (map f xs) ++ ys) (sym (drop-map f (suc i) xs))

-- ---- one more

-- where an element stood before one more was put at a place
pub data InInsert {X : Type 0} (xs : List X) (c : ℕ) (y d : X) (i : ℕ) : Type 0 where
  in_front : i < c → get_or (insert xs c y) i d ≡ get_or xs i d → InInsert xs c y d i
  itself : i ≡ c → get_or (insert xs c y) i d ≡ y → InInsert xs c y d i
  behind : (j : ℕ) → i ≡ j + 1 → c ≤ j → get_or (insert xs c y) i d ≡ get_or xs j d → InInsert xs c y d i

pub in_insert : {X : Type 0} (xs : List X) (c : ℕ) (y d : X) (i : ℕ) → c ≤ length xs → InInsert xs c y d i
in_insert xs c y d i h =
    elim (cases_order i c) [
      | inl e ↦ itself e (ap (λ k. get_or (insert xs c y) k d) e ∙ get_or-insert_at xs c y d h)
      | inr o ↦ elim o [
        | inl l ↦ in_front l (get_or-insert_below xs c y d i l h)
        | inr l ↦
            let e : i ≡ (i - 1) + 1 = omega arith in
            behind (i - 1) e (omega arith) (ap (λ k. get_or (insert xs c y) k d) e ∙ get_or-insert_above xs c y d (i - 1) (omega arith) h)
      ]
    ]

pub contains_insert : {X : Type 0} (xs : List X) (c : ℕ) (y x : X) → c ≤ length xs → Contains (insert xs c y) x → Contains xs x ⊎ (y ≡ x)
contains_insert xs c y x h e =
    let long : length (insert xs c y) ≡ length xs + 1 = length-insert xs c y h in
    elim (in_insert xs c y x e.0 h) [
      | in_front l s ↦ inl (e.0, omega arith, sym s ∙ e.2)
      | itself l s ↦ inr (sym s ∙ e.2)
      | behind j f l s ↦ let g : e.0 < length (insert xs c y) = e.1 in inl (j, omega arith, sym s ∙ e.2)
    ]

pub rising_insert : (ps : List (List Bool)) (p : List Bool) (c : ℕ) → IsRising ps → IsPlaceFor ps p c → IsRising (insert ps c p)
rising_insert ps p c up fits = record {
  rises = λ i j l h.
      let long : length (insert ps c p) ≡ length ps + 1 = length-insert ps c p fits.within in
      elim (in_insert ps c p [] i fits.within) [
        | in_front a e ↦ elim (in_insert ps c p [] j fits.within) [
          | in_front b f ↦ both i j (bits_at ps i) (bits_at ps j) e f (up.rises i j l (omega (arith, fits.within)))
          | itself b f ↦ both i j (bits_at ps i) p e f (fits.below i a)
          | behind m g b f ↦ both i j (bits_at ps i) (bits_at ps m) e f (up.rises i m (omega arith) (omega arith))
        ]
        | itself a e ↦ elim (in_insert ps c p [] j fits.within) [
          | in_front b f ↦ absurd (omega arith)
          | itself b f ↦ absurd (omega arith)
          | behind m g b f ↦ both i j p (bits_at ps m) e f (fits.above m b (omega arith))
        ]
        | behind k g a e ↦ elim (in_insert ps c p [] j fits.within) [
          | in_front b f ↦ absurd (omega arith)
          | itself b f ↦ absurd (omega arith)
          | behind m o b f ↦ both i j (bits_at ps k) (bits_at ps m) e f (up.rises k m (omega arith) (omega arith))
        ]
      ];
}
  where
    both : (i j : ℕ) (x y : List Bool) → bits_at (insert ps c p) i ≡ x → bits_at (insert ps c p) j ≡ y → key_cmp x y ≡ Less
        → key_cmp (bits_at (insert ps c p) i) (bits_at (insert ps c p) j) ≡ Less
    both i j x y e f o = ap (λ a. key_cmp a (bits_at (insert ps c p) j)) e ∙ ap (key_cmp x) f ∙ o

-- ---- one less

-- where an element stood before one was taken out
pub data InRemove {X : Type 0} (xs : List X) (k : ℕ) (d : X) (i : ℕ) : Type 0 where
  stays : i < k → get_or (remove xs k) i d ≡ get_or xs i d → InRemove xs k d i
  moves : k ≤ i → get_or (remove xs k) i d ≡ get_or xs (i + 1) d → InRemove xs k d i

pub in_remove : {X : Type 0} (xs : List X) (k : ℕ) (d : X) (i : ℕ) → k < length xs → InRemove xs k d i
in_remove xs k d i h =
    elim (cases_lt i k) [
      | inl l ↦ stays l (get_or-remove_below xs k d i l h)
      | inr l ↦ moves l (get_or-remove_above xs k d i l h)
    ]

pub contains_remove : {X : Type 0} (xs : List X) (k : ℕ) (x : X) → k < length xs → Contains (remove xs k) x → Contains xs x
contains_remove xs k x h e =
    let long : length (remove xs k) + 1 ≡ length xs = length-remove xs k h in
    let g : e.0 < length (remove xs k) = e.1 in
    elim (in_remove xs k x e.0 h) [
      | stays l s ↦ (e.0, omega arith, sym s ∙ e.2)
      | moves l s ↦ (e.0 + 1, omega arith, sym s ∙ e.2)
    ]

pub rising_remove : (ps : List (List Bool)) (k : ℕ) → IsRising ps → k < length ps → IsRising (remove ps k)
rising_remove ps k up h = record {
  rises = λ i j l g.
      let long : length (remove ps k) + 1 ≡ length ps = length-remove ps k h in
      elim (in_remove ps k [] i h) [
        | stays a e ↦ elim (in_remove ps k [] j h) [
          | stays b f ↦ both i j i j e f (up.rises i j l (omega arith))
          | moves b f ↦ both i j i (j + 1) e f (up.rises i (j + 1) (omega arith) (omega arith))
        ]
        | moves a e ↦ elim (in_remove ps k [] j h) [
          | stays b f ↦ absurd (omega arith)
          | moves b f ↦ both i j (i + 1) (j + 1) e f (up.rises (i + 1) (j + 1) (omega arith) (omega arith))
        ]
      ];
}
  where
    both : (i j m n : ℕ) → bits_at (remove ps k) i ≡ bits_at ps m → bits_at (remove ps k) j ≡ bits_at ps n → key_cmp (bits_at ps m) (bits_at ps n) ≡ Less
        → key_cmp (bits_at (remove ps k) i) (bits_at (remove ps k) j) ≡ Less
    both i j m n e f o = ap (λ a. key_cmp a (bits_at (remove ps k) j)) e ∙ ap (key_cmp (bits_at ps m)) f ∙ o
