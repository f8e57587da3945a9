use Rattle.std.proofs.Common.{refl, ap, sym, ◌∙◌}
use Rattle.std.specs.Cmp.Lexicographic.{slice_cmp}
use Rattle.std.specs.Ordering.{nat_cmp, ordering_then}
use Rattle.ml_term.specs.CanonicalBytes.{bytes_of}
use Rattle.ml_term.specs.Seen.{all_seen, seen}
use Rattle.ml_term.specs.Tree.{trees_of}
use Rattle.ml_term.proofs.KeyOrder.{order_of_tuples}
use Rattle.ml_term.proofs.Orderings.{decides_alone}
use Rattle.ml_term.proofs.key.key_cmp.Goals as goal

pub returns-in-Equal : goal.returns-in-Equal
returns-in-Equal c =
    ap (λ o. ordering_then o c.canonical_cmp.result) (sym c.in-Equal.is)
    ∙ order_of_tuples c.as_slice.result.now c.args.decl.now.keys (trees_of (all_seen c.arguments_of.result.now))
    (trees_of (all_seen c.arguments_of-2.result.now))
    (seen c.args.a.now) (seen c.args.b.now) c.head_cmp.result c.canonical_cmp.result
    c.as_slice.ensures c.arguments_of.ensures.same c.arguments_of-2.ensures.same c.requires.valid_a c.requires.valid_b c.head_cmp.ensures
    c.canonical_cmp.ensures

pub returns-in_default : goal.returns-in_default
returns-in_default c =
    let tails = slice_cmp nat_cmp (bytes_of (seen c.args.a.now)) (bytes_of (seen c.args.b.now)) in
    sym (decides_alone c.head_cmp.result tails c.in_default.not-Equal)
    ∙ order_of_tuples c.as_slice.result.now c.args.decl.now.keys (trees_of (all_seen c.arguments_of.result.now))
    (trees_of (all_seen c.arguments_of-2.result.now))
    (seen c.args.a.now) (seen c.args.b.now) c.head_cmp.result tails
    c.as_slice.ensures c.arguments_of.ensures.same c.arguments_of-2.ensures.same c.requires.valid_a c.requires.valid_b c.head_cmp.ensures refl
