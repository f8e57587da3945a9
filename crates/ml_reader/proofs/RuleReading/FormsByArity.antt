-- The forms of terms by how many arguments they have.
use Rattle.std.specs.Prelude.{◌≡◌, ◌≢◌, ℕ, Bool, true, false, cond, List, [], ◌∷◌, length, None, codes}
use Rattle.std.specs.Str.{bytes_eq}
use Rattle.std.proofs.Common.{refl, ap, ◌∙◌}
use Rattle.ml_term.specs.Tree.{Tree, compound, compound_1, compound_2, trees_of}
use Rattle.ml_reader.specs.Forms.{form, directive, query, rule, fact, directive_of}
use Rattle.ml_reader.specs.inside.rules.DeclarationSteps.{predicate, cell_parts, declaration_parts, without_keys_of, with_keys_of, kind_by_name}

pub one_fact : (f : List ℕ) (ts : List Tree) → length ts ≡ 1 → bytes_eq (codes ":-") f ≡ false → bytes_eq (codes "?-") f ≡ false
    → form (compound f (trees_of ts)) ≡ fact (compound f (trees_of ts))
one_fact f [] one neck query_neck = cc
one_fact f (t ∷ []) one neck query_neck =
    ap (λ b. cond b (directive t) (cond (bytes_eq (codes "?-") f) (query t) (fact (compound_1 f t)))) neck
    ∙ ap (λ b. cond b (query t) (fact (compound_1 f t))) query_neck
one_fact f (t ∷ u ∷ ts) one neck query_neck = cc

pub two_fact : (f : List ℕ) (ts : List Tree) → length ts ≡ 2 → bytes_eq (codes ":-") f ≡ false
    → form (compound f (trees_of ts)) ≡ fact (compound f (trees_of ts))
two_fact f [] two neck = cc
two_fact f (t ∷ []) two neck = cc
two_fact f (t ∷ u ∷ []) two neck = ap (λ b. cond b (rule t u) (fact (compound_2 f t u))) neck
two_fact f (t ∷ u ∷ v ∷ ts) two neck = cc

pub other_fact : (f : List ℕ) (ts : List Tree) → length ts ≢ 1 → length ts ≢ 2 → form (compound f (trees_of ts)) ≡ fact (compound f (trees_of ts))
other_fact f [] one two = refl
other_fact f (t ∷ []) one two = absurd (one refl)
other_fact f (t ∷ u ∷ []) one two = absurd (two refl)
other_fact f (t ∷ u ∷ v ∷ ts) one two = refl

-- no clause `:- T` has another number of arguments
pub directive_of_none : (f : List ℕ) (ts : List Tree) → length ts ≢ 1 → directive_of (form (compound f (trees_of ts))) ≡ None
directive_of_none f [] one = refl
directive_of_none f (t ∷ []) one = absurd (one refl)
directive_of_none f (t ∷ u ∷ []) one = by (bytes_eq (codes ":-") f)
  where
    by : (b : Bool) → directive_of (cond b (rule t u) (fact (compound_2 f t u))) ≡ None
    by true = refl
    by false = refl
directive_of_none f (t ∷ u ∷ v ∷ ts) one = refl

pub no_predicate : (f : List ℕ) (ts : List Tree) → length ts ≢ 2 → predicate (compound f (trees_of ts)) ≡ None
no_predicate f [] two = refl
no_predicate f (t ∷ []) two = refl
no_predicate f (t ∷ u ∷ []) two = absurd (two refl)
no_predicate f (t ∷ u ∷ v ∷ ts) two = refl

pub no_cell : (f : List ℕ) (ts : List Tree) → length ts ≢ 2 → cell_parts (compound f (trees_of ts)) ≡ None
no_cell f [] two = refl
no_cell f (t ∷ []) two = refl
no_cell f (t ∷ u ∷ []) two = absurd (two refl)
no_cell f (t ∷ u ∷ v ∷ ts) two = refl

-- nothing is declared by a term with another number of arguments
pub nothing_said : (f : List ℕ) (ts : List Tree) → length ts ≢ 1 → length ts ≢ 2 → declaration_parts (compound f (trees_of ts)) ≡ None
nothing_said f [] one two = refl
nothing_said f (t ∷ []) one two = absurd (one refl)
nothing_said f (t ∷ u ∷ []) one two = absurd (two refl)
nothing_said f (t ∷ u ∷ v ∷ ts) one two = refl

-- nor by one of another name
pub nothing_named : (f : List ℕ) (ts : List Tree) → kind_by_name f ≡ None → declaration_parts (compound f (trees_of ts)) ≡ None
nothing_named f [] none = refl
nothing_named f (t ∷ []) none = ap (λ k. without_keys_of k t) none
nothing_named f (t ∷ u ∷ []) none = ap (λ k. with_keys_of k t u) none
nothing_named f (t ∷ u ∷ v ∷ ts) none = refl
