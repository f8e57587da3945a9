use Rattle.std.proofs.Common.{ap, sym, ◌∙◌, ◌&&◌, ◌≡◌, ◌≤◌, true, arith}
use Rattle.std.proofs.lemmas.Bool.{and_from, le-leb}
use Rattle.ml_term.specs.Names.{is_name}
use Rattle.ml_term.specs.Seen.{seen, all_seen}
use Rattle.ml_term.specs.Tree.{arity, trees_of}
use Rattle.ml_term.specs.Valid.{is_valid, are_valid}
use Rattle.std.specs.Prelude.{nat_le}
use Rattle.ml_term.proofs.TermSizes.{arity_of_trees}
use Rattle.ml_term.proofs.CompoundTrees.{seen_compound}
use Rattle.ml_term.proofs.valid.+valid.Goals as goal

pub is_valid-returns-in-Cmp : goal.is_valid-returns-in-Cmp
is_valid-returns-in-Cmp t c =
    let ts = trees_of (all_seen c.in-Cmp.ts) in
    let low : 1 ≤ arity ts = omega (arith, arity_of_trees seen c.in-Cmp.ts, c.as_slice.ensures.low) in
    let high : arity ts ≤ 255 = omega (arith, arity_of_trees seen c.in-Cmp.ts, c.as_slice.ensures.high) in
    let shape : (is_name c.in-Cmp.f && nat_le 1 (arity ts) && nat_le (arity ts) 255) ≡ true =
    and_from _ _ (and_from _ _ c.as_slice-is_name-in-Cmp.ensures.valid (le-leb 1 (arity ts) low)) (le-leb (arity ts) 255 high) in
    c.are_valid.ensures
    ∙ ap (λ us. are_valid (trees_of (all_seen us))) c.as_slice.ensures.same
    ∙ sym (ap (λ b. b && are_valid ts) shape)
    ∙ sym (ap is_valid (ap seen c.in-Cmp.is ∙ seen_compound c.in-Cmp.f c.in-Cmp.ts))
