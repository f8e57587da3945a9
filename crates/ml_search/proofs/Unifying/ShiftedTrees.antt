-- The trees of terms whose variables are counted from a base, by their kinds.
use Rattle.std.specs.Prelude.{◌≡◌, ℕ, ◌+◌, ℤ, List, [], ◌∷◌}
use Rattle.std.proofs.Common.{refl, ap, ◌∙◌}
use Rattle.ml_term.specs.Tree.{variable, integer, atom, compound, list_of}
use Rattle.ml_term.specs.Seen.{seen}
use Rattle.ml_term.specs.declared.term.Term.{Term}
use Rattle.ml_term.specs.declared.term.Term.TheVariants.{Var, Int, Atom, Cmp}
use Rattle.ml_term.proofs.CompoundTrees.{seen_variable, seen_integer, seen_atom, seen_compound}
use Rattle.ml_search.specs.declared.unification.pair.Shifted.{Shifted}
use Rattle.ml_search.specs.Actions.{shift_variables}
use Rattle.ml_search.specs.inside.Unifying.{tree_of, trees_from, arguments_from}

pub is_variable : (s : Shifted) (n : ℕ) → s.term.now ≡ Var n → tree_of s ≡ variable (s.base + n)
is_variable s n e = ap (shift_variables s.base) (ap seen e ∙ seen_variable n)

pub is_integer : (s : Shifted) (z : ℤ) → s.term.now ≡ Int z → tree_of s ≡ integer z
is_integer s z e = ap (shift_variables s.base) (ap seen e ∙ seen_integer z)

pub is_atom : (s : Shifted) (f : List ℕ) → s.term.now ≡ Atom f → tree_of s ≡ atom f
is_atom s f e = ap (shift_variables s.base) (ap seen e ∙ seen_atom f)

pub is_compound : (s : Shifted) (f : List ℕ) (ts : List Term) → s.term.now ≡ Cmp f ts → tree_of s ≡ compound f (arguments_from s.base ts)
is_compound s f ts e = ap (shift_variables s.base) (ap seen e ∙ seen_compound f ts)

-- the same arguments as a list
pub list_from : (base : ℕ) (ts : List Term) → list_of (arguments_from base ts) ≡ trees_from base ts
list_from base [] = refl
list_from base (t ∷ ts) = ap (λ us. shift_variables base (seen t) ∷ us) (list_from base ts)
