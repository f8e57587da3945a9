-- Each instruction builds a term more; the compounds along last arguments wait until the term is at its end.
use Rattle.std.proofs.Common.{◌≡◌, FitsSigned, w64, to_z, of_z, arith, ap, sym, ◌∙◌, rules}
use Rattle.std.proofs.lemmas.Int.{to_z-of_z}
use Rattle.ml_term.specs.Seen.{seen}
use Rattle.ml_term.specs.Tree.{integer, atom}
use Rattle.ml_term.proofs.CompoundTrees.{seen_variable, seen_integer, seen_atom}
use Rattle.ml_compile.proofs.TermParts.{seen_parts, nodes_of_parts, fewer_nodes, seen_more, count_of_parts}
use Rattle.ml_compile.proofs.TermsBuilt.{builds_variable, builds_integer, builds_atom, builds_none, builds_more, builds_last, built_so, first_of_them}
use Rattle.ml_compile.proofs.arguments.+build.Goals as goal

pub build_all-loop-term-init : goal.build_all-loop-term-init
build_all-loop-term-init t c = builds_none _

pub build_all-build-requires : goal.build_all-build-requires
build_all-build-requires t c =
    let fewer = fewer_nodes _ _ _ c.loop-term-test.true c.term-item.is in
    (omega (arith, fewer), tt)

pub build_all-loop-term-preserved : goal.build_all-loop-term-preserved
build_all-loop-term-preserved t c =
    rw (seen_more _ _ _ c.loop-term-test.true c.term-item.is) (builds_more _ _ _ _ _ c.loop-term.invariant c.in_ok-build.ensures)

pub build_inside-returns-in-Var : goal.build_inside-returns-in-Var
build_inside-returns-in-Var t c =
    c.loop-rest.invariant.awaits _
    (built_so _ _ _ _ _ (ap seen c.in-Var.is ∙ seen_variable c.in-Var.n) c.in_ok-push-in-Var.ensures.items (builds_variable _ c.in-Var.n))

pub build_inside-returns-in-Int : goal.build_inside-returns-in-Int
build_inside-returns-in-Int t c =
    let value = c.in-Int.value in
    let fits : FitsSigned w64 value = search rules in
    let same : to_z w64 (of_z w64 value) ≡ value = to_z-of_z w64 value fits in
    c.loop-rest.invariant.awaits _
    (built_so _ _ _ _ _ (ap seen c.in-Int.is ∙ seen_integer value ∙ ap integer (sym same)) c.in_ok-push-in-Int.ensures.items
    (builds_integer _ (to_z w64 (of_z w64 value))))

pub build_inside-returns-in-Atom : goal.build_inside-returns-in-Atom
build_inside-returns-in-Atom t c =
    let name = c.in_ok-copy_of-in-Atom.field-0 in
    let same : name ≡ c.in-Atom.name = c.in_ok-copy_of-in-Atom.ensures in
    c.loop-rest.invariant.awaits _
    (built_so _ _ _ _ _ (ap seen c.in-Atom.is ∙ seen_atom c.in-Atom.name ∙ ap atom (sym same)) c.in_ok-push-in-Atom.ensures.items (builds_atom _ name))

pub build_inside-build_all-requires : goal.build_inside-build_all-requires
build_inside-build_all-requires t c =
    let parts = nodes_of_parts _ _ _ _ _ c.in-Cmp.is c.front_and_last.ensures in
    (omega (arith, parts, c.loop-rest.invariant.small), tt)

pub build_inside-loop-rest-smaller : goal.build_inside-loop-rest-smaller
build_inside-loop-rest-smaller t c =
    let parts = nodes_of_parts _ _ _ _ _ c.in-Cmp.is c.front_and_last.ensures in
    omega (arith, parts)

pub build_inside-loop-rest-preserved : goal.build_inside-loop-rest-preserved
build_inside-loop-rest-preserved t c =
    let parts = nodes_of_parts _ _ _ _ _ c.in-Cmp.is c.front_and_last.ensures in
    let tree = seen_parts _ _ _ _ _ c.in-Cmp.is c.front_and_last.ensures in
    let len = count_of_parts _ _ _ _ c.as_slice.ensures.same c.front_and_last.ensures in
    record {
      small = omega (arith, parts, c.loop-rest.invariant.small);
      awaits = λ new b.
          rw (first_of_them new _ _ _ c.in_ok-push-in-Cmp.ensures.items)
          (c.loop-rest.invariant.awaits _ (builds_last _ _ new _ _ _ _ _ _ tree c.in_ok-copy_of-in-Cmp.ensures len c.in_ok-build_all-in-Cmp.ensures b));
    }
