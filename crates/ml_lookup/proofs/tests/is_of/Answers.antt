-- A compound with the predicate's name and as many arguments is of the predicate.
use Rattle.std.proofs.Common.{◌≡◌, ℕ, List, length, true, sym, ap, ◌∙◌, subst, eqb-true, eq-eqb}
use Rattle.std.specs.Prelude.{◌==◌}
use Rattle.std.specs.Str.{bytes_eq}
use Rattle.std.proofs.lemmas.Bool.{and_from}
use Rattle.std.proofs.lemmas.Slice.Eq.{bytes_eq-Decides}
use Rattle.ml_search.specs.Program.{is_of}
use Rattle.ml_term.specs.Seen.{seen, all_seen}
use Rattle.ml_term.specs.Tree.{compound, arity, trees_of}
use Rattle.ml_term.proofs.TermSizes.{arity_of_trees}
use Rattle.ml_term.proofs.CompoundTrees.{seen_compound}
use Rattle.ml_lookup.proofs.tests.is_of.Goals as goal

pub returns-then-is : goal.returns-then-is
returns-then-is c t =
    let name : List ℕ = c.args.pred.now.name in
    let n : ℕ = c.args.pred.now.arity in
    let named : c.in-Cmp.f ≡ name = c.is.ensures.0 c.if-is.true in
    let many : length c.in-Cmp.ts ≡ n = sym (ap length c.as_slice.ensures.same) ∙ eqb-true _ _ t ∙ c.from.ensures in
    let whole : seen c.args.t.now ≡ compound c.in-Cmp.f (trees_of (all_seen c.in-Cmp.ts)) = ap seen c.in-Cmp.is ∙ seen_compound c.in-Cmp.f c.in-Cmp.ts in
    subst (λ x. is_of name n x ≡ true) (sym whole)
    (and_from (bytes_eq c.in-Cmp.f name) (arity (trees_of (all_seen c.in-Cmp.ts)) == n) ((bytes_eq-Decides c.in-Cmp.f name).1 named)
    (eq-eqb _ _ (arity_of_trees seen c.in-Cmp.ts ∙ many)))
