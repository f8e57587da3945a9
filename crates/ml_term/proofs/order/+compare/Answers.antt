use Rattle.std.proofs.Common.{◌≡◌, ap, sym, ◌∙◌}
use Rattle.std.specs.Cmp.Lexicographic.{slice_cmp}
use Rattle.std.specs.Ordering.{nat_cmp, ordering_then}
use Rattle.ml_term.specs.Tree.{compound, trees_of, arity}
use Rattle.ml_term.specs.Order.{trees_cmp}
use Rattle.ml_term.specs.Seen.{seen, all_seen}
use Rattle.ml_term.proofs.TermSizes.{arity_of_trees}
use Rattle.ml_term.proofs.CompoundTrees.{seen_compound}
use Rattle.ml_term.proofs.Orderings.{decided_later, decided_here}
use Rattle.ml_term.proofs.order.+compare.Goals as goal

pub compare-returns-in-Equal : goal.compare-returns-in-Equal
compare-returns-in-Equal t c =
    let ts = trees_of (all_seen c.in-Cmp-Cmp.ts) in
    let us = trees_of (all_seen c.in-Cmp-Cmp.us) in
    let a : seen c.args.a.now ≡ compound c.in-Cmp-Cmp.f ts = ap seen c.in-Cmp-Cmp.is-0 ∙ seen_compound _ _ in
    let b : seen c.args.b.now ≡ compound c.in-Cmp-Cmp.g us = ap seen c.in-Cmp-Cmp.is-1 ∙ seen_compound _ _ in
    let same_shape : c.then.result ≡ ordering_then (nat_cmp (arity ts) (arity us)) (slice_cmp nat_cmp c.in-Cmp-Cmp.f c.in-Cmp-Cmp.g) =
    cc (arity_of_trees seen c.in-Cmp-Cmp.ts, arity_of_trees seen c.in-Cmp-Cmp.us) in
    let rest : c.compare_all.result ≡ trees_cmp ts us = cc in
    rw (a, b) (rest ∙ sym (decided_later _ _ _ (sym same_shape ∙ c.in-Equal.is)))

pub compare-returns-in_default-then : goal.compare-returns-in_default-then
compare-returns-in_default-then t c =
    let ts = trees_of (all_seen c.in-Cmp-Cmp.ts) in
    let us = trees_of (all_seen c.in-Cmp-Cmp.us) in
    let a : seen c.args.a.now ≡ compound c.in-Cmp-Cmp.f ts = ap seen c.in-Cmp-Cmp.is-0 ∙ seen_compound _ _ in
    let b : seen c.args.b.now ≡ compound c.in-Cmp-Cmp.g us = ap seen c.in-Cmp-Cmp.is-1 ∙ seen_compound _ _ in
    let arities = nat_cmp (arity ts) (arity us) in
    let names = slice_cmp nat_cmp c.in-Cmp-Cmp.f c.in-Cmp-Cmp.g in
    let shape : c.then.result ≡ ordering_then arities names =
    cc (arity_of_trees seen c.in-Cmp-Cmp.ts, arity_of_trees seen c.in-Cmp-Cmp.us) in
    rw (a, b) (shape ∙ sym (decided_here arities names (trees_cmp ts us) (λ e. c.in_default-then.not-Equal (shape ∙ e))))
