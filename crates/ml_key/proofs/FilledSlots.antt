-- Slots filled one after another, each from the item at its place.
use Rattle.std.specs.Prelude.{◌≡◌, ℕ, ◌+◌, ◌<◌, List, [], ◌∷◌, ◌++◌, map, length, take}
use Rattle.std.proofs.Common.{refl, sym, ap, ◌∙◌, get_or}
use Rattle.std.proofs.Math.ListN.{set}
use Rattle.std.proofs.lemmas.List.{take_more, take_more_set, map-append}

take_length : {A : Type 0} (xs : List A) → take (length xs) xs ≡ xs
take_length [] = refl
take_length (x ∷ xs) = ap (λ ys. x ∷ ys) (take_length xs)

module _ {A B C : Type 0} (f : A → C) (g : B → C) where
  -- the next slot is filled from the next item
  pub filled_more : (items : List A) (slots : List B) (i : ℕ) (d : A) (v : B) → i < length items → i < length slots → g v ≡ f (get_or items i d)
      → map g (take i slots) ≡ map f (take i items) → map g (take (i + 1) (set slots i v)) ≡ map f (take (i + 1) items)
  filled_more items slots i d v here there same before =
      ap (map g) (take_more_set slots i v there)
      ∙ map-append g (take i slots) (v ∷ [])
      ∙ ap (λ xs. xs ++ g v ∷ []) before
      ∙ ap (λ x. map f (take i items) ++ x ∷ []) same
      ∙ sym (map-append f (take i items) (get_or items i d ∷ []))
      ∙ sym (ap (map f) (take_more items i d here))

  -- every slot is filled that has an item
  pub all_filled : (items : List A) (slots : List B) (n : ℕ) → n ≡ length items → map g (take n slots) ≡ map f (take n items) →
      map g (take (length items) slots) ≡ map f items
  all_filled items slots n all filled =
      sym (ap (λ k. map g (take k slots)) all) ∙ filled ∙ ap (λ k. map f (take k items)) all ∙ ap (map f) (take_length items)

-- a map of a map
pub map_twice : {A B C : Type 0} (f : B → C) (g : A → B) (xs : List A) → map (λ x. f (g x)) xs ≡ map f (map g xs)
map_twice f g [] = refl
map_twice f g (x ∷ xs) = ap (λ ys. f (g x) ∷ ys) (map_twice f g xs)
