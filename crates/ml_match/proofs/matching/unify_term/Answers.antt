-- The term that was built is the one to be unified.
use Rattle.std.proofs.Common.{rules, ◌≡◌, ◌∷◌, [], true, false, sym, ◌∙◌, arith, refl}
use Rattle.ml_heap.proofs.CarriedTrees.{carries_unified}
use Rattle.ml_heap.proofs.HeapMarks.{marks_go_on}
use Rattle.ml_match.proofs.CellLists.{cells_come}
use Rattle.ml_match.proofs.HeadParts.{takes_some}
use Rattle.ml_match.proofs.HeadsRun.{early, cell_inside, slots_below, built_inside, unified_fails, unified_goes}
use Rattle.ml_match.proofs.Solving.{none_from, some_from}
use Rattle.ml_match.proofs.matching.unify_term.Goals as goal

pub write_terms-requires : goal.write_terms-requires
write_terms-requires c =
    let r = c.requires.running in
    let f = c.requires.ends r.q r.running.met r.running.after r.running.terms r.running.matches (early _ _ _ _ _ _ _ _ _ _ _ r.running _ _ refl) in
    (r.running.met, f.between, (_, (f.front, slots_below _ _ _ _ _ _ _ _ _ _ _ r.running _ _ refl _ f)))

pub unify-requires-clause-a_inside : goal.unify-requires-clause-a_inside
unify-requires-clause-a_inside c =
    let r = c.requires.running in
    let l = cell_inside _ _ _ _ _ _ _ _ _ _ _ r.running _ _ refl in
    omega (arith, l, c.in_ok-write_terms.ensures.grown.cells)

pub unify-requires-clause-b_inside : goal.unify-requires-clause-b_inside
unify-requires-clause-b_inside c =
    let r = c.requires.running in
    let f = c.requires.ends r.q r.running.met r.running.after r.running.terms r.running.matches (early _ _ _ _ _ _ _ _ _ _ _ r.running _ _ refl) in
    built_inside _ _ _ _ _ _ _ _ _ _ _ r.running _ _ refl _ f _ _ _ _ c.in_ok-write_terms.ensures.grown
    (c.in_ok-write_terms.ensures.built r.running.met f.between (f.term ∷ []) f.front (slots_below _ _ _ _ _ _ _ _ _ _ _ r.running _ _ refl _ f))
    c.in-Some.ensures.items

pub unreachable-requires : goal.unreachable-requires
unreachable-requires c =
    let r = c.requires.running in
    let f = c.requires.ends r.q r.running.met r.running.after r.running.terms r.running.matches (early _ _ _ _ _ _ _ _ _ _ _ r.running _ _ refl) in
    let b = c.in_ok-write_terms.ensures.built r.running.met f.between (f.term ∷ []) f.front (slots_below _ _ _ _ _ _ _ _ _ _ _ r.running _ _ refl _ f) in
    let some = cells_come _ _ _ _ b in
    omega (arith, some, c.in_default.ensures.cases.0, c.write_terms.new.cells.ok.0)

pub returns-in_err-unify-clause-marks : goal.returns-in_err-unify-clause-marks
returns-in_err-unify-clause-marks c = marks_go_on _ _ _ c.in_ok-write_terms.ensures.grown.marks c.in_err-unify.ensures.marks

pub returns-then-branch-clause-marks : goal.returns-then-branch-clause-marks
returns-then-branch-clause-marks c = marks_go_on _ _ _ c.in_ok-write_terms.ensures.grown.marks c.in_ok-unify.ensures.marks

pub returns-else-branch-clause-marks : goal.returns-else-branch-clause-marks
returns-else-branch-clause-marks c = marks_go_on _ _ _ c.in_ok-write_terms.ensures.grown.marks c.in_ok-unify.ensures.marks

pub returns-then-branch-clause-later : goal.returns-then-branch-clause-later
returns-then-branch-clause-later c =
    let r = c.requires.running in
    let f = c.requires.ends r.q r.running.met r.running.after r.running.terms r.running.matches (early _ _ _ _ _ _ _ _ _ _ _ r.running _ _ refl) in
    takes_some f.front

pub returns-then-branch-clause-goes_on : goal.returns-then-branch-clause-goes_on
returns-then-branch-clause-goes_on c es old next wide q s =
    let f = c.requires.ends q s.met s.after s.terms s.matches (early _ _ _ _ _ _ _ _ _ _ _ s _ _ refl) in
    let b = c.in_ok-write_terms.ensures.built s.met f.between (f.term ∷ []) f.front (slots_below _ _ _ _ _ _ _ _ _ _ _ s _ _ refl _ f) in
    let yes : c.in_ok-unify.field-0 ≡ true = search rules in
    let u = some_from _ (sym yes ∙ c.in_ok-unify.ensures.found) in
    unified_goes _ _ _ _ _ _ _ _ _ _ _ s _ _ refl _ f _ _ _ _ c.in_ok-write_terms.ensures.grown b c.in-Some.ensures.items c.unify.new.self u.0 u.1
    (carries_unified _ _ u.0 (c.in_ok-unify.ensures.replaced u.0 u.1) c.in_ok-unify.ensures.marks)

pub returns-else-branch-clause-goes_on : goal.returns-else-branch-clause-goes_on
returns-else-branch-clause-goes_on c es old next wide q s =
    let f = c.requires.ends q s.met s.after s.terms s.matches (early _ _ _ _ _ _ _ _ _ _ _ s _ _ refl) in
    let b = c.in_ok-write_terms.ensures.built s.met f.between (f.term ∷ []) f.front (slots_below _ _ _ _ _ _ _ _ _ _ _ s _ _ refl _ f) in
    let fails : c.in_ok-unify.field-0 ≡ false = search rules in
    unified_fails _ _ _ _ _ _ _ _ _ _ _ s _ _ refl _ f _ _ _ _ c.in_ok-write_terms.ensures.grown b c.in-Some.ensures.items
    (none_from _ (sym fails ∙ c.in_ok-unify.ensures.found))
