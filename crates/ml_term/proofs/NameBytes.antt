-- Bytes that may all stand in a name.
use Rattle.std.specs.Prelude.{◌≡◌, ℕ, ◌+◌, ◌≤◌, true, false, List, [], ◌∷◌, length}
use Rattle.std.specs.List.{prefix_len, list_all}
use Rattle.std.proofs.Common.{refl, arith, inl, inr}
use Rattle.std.proofs.lemmas.Bool.{and_from, le-leb, cases_Bool}
use Rattle.ml_term.specs.Names.{is_name, is_name_byte}

pub all_pass : (f : List ℕ) → length f ≤ prefix_len is_name_byte f → list_all is_name_byte f ≡ true
all_pass [] h = refl
all_pass (b ∷ f) h = elim (cases_Bool (is_name_byte b)) [
  | inl t ↦ and_from _ _ t (all_pass f (passes t))
  | inr n ↦ absurd (fails n)
]
  where
    passes : is_name_byte b ≡ true → length f ≤ prefix_len is_name_byte f
    passes t = let e : prefix_len is_name_byte (b ∷ f) ≡ 1 + prefix_len is_name_byte f = rw t refl in omega (arith, e, h)

    fails : is_name_byte b ≡ false → ⊥
    fails n = let e : prefix_len is_name_byte (b ∷ f) ≡ 0 = rw n refl in omega (arith, e, h)

pub is_a_name : (f : List ℕ) → length f ≤ 255 → length f ≤ prefix_len is_name_byte f → is_name f ≡ true
is_a_name f few good = and_from _ _ (le-leb (length f) 255 few) (all_pass f good)
