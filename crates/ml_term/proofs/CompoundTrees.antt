-- The tree of a compound.
use Rattle.std.specs.Prelude.{◌≡◌, ℕ, ℤ, List}
use Rattle.std.proofs.Common.{ap, sym, ◌∙◌}
use Rattle.ml_term.specs.Tree.{Tree, variable, integer, atom, compound, trees_of}
use Rattle.ml_term.specs.Seen.{seen, seen_step, all_seen}
use Rattle.ml_term.specs.declared.term.Term.{Term, Term-F, fold-roll-Term}
use Rattle.ml_term.specs.declared.term.Term.TheVariants.{Var, Int, Atom, Cmp, rolls-Var, rolls-Int, rolls-Atom, rolls-Cmp}

pub seen_compound : (f : List ℕ) (ts : List Term) → seen (Cmp f ts) ≡ compound f (trees_of (all_seen ts))
seen_compound f ts = ap seen (sym (rolls-Cmp f ts)) ∙ fold-roll-Term Tree seen_step (Term-F.Cmp f ts)

pub seen_integer : (z : ℤ) → seen (Int z) ≡ integer z
seen_integer z = ap seen (sym (rolls-Int z)) ∙ fold-roll-Term Tree seen_step (Term-F.Int z)

pub seen_atom : (f : List ℕ) → seen (Atom f) ≡ atom f
seen_atom f = ap seen (sym (rolls-Atom f)) ∙ fold-roll-Term Tree seen_step (Term-F.Atom f)

pub seen_variable : (n : ℕ) → seen (Var n) ≡ variable n
seen_variable n = ap seen (sym (rolls-Var n)) ∙ fold-roll-Term Tree seen_step (Term-F.Var n)
