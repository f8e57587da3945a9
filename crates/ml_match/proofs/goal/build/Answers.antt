-- The call ends the arguments, and no other instruction does.
use Rattle.std.proofs.Common.{refl, List, length, sym, ap, subst, ◌∙◌, arith}
use Rattle.ml_heap.proofs.CarriedTrees.{carries_grown}
use Rattle.ml_heap.proofs.StoredTerms.{grows_on}
use Rattle.ml_compile.specs.declared.instr.Instr.TheVariants.{Call}
use Rattle.ml_compile.specs.declared.instr.Instr.{Instr}
use Rattle.ml_compile.specs.Spells.{StandsAt}
use Rattle.ml_match.proofs.CellLists.{reads}
use Rattle.ml_match.proofs.GoalsBuilt.{all_built, place_inside, not_a_call}
use Rattle.ml_match.proofs.goal.build.Goals as goal

pub returns-in-Call-clause-place : goal.returns-in-Call-clause-place
returns-in-Call-clause-place c ts q b k s =
    let i = c.loop-at.invariant.building q ts b k s in
    let x : StandsAt c.args.code.now c.loop-at.at (Call c.in-Call.field-0) =
    subst (λ (is : List Instr). StandsAt is c.loop-at.at (Call c.in-Call.field-0)) refl
    (reads _ _ _ _ c.loop-at-test.true (sym c.index-code-at.is ∙ c.in-Call.is)) in
    (all_built _ _ _ _ _ _ _ _ _ _ i (c.in-Call.field-0, x)).0

pub returns-in-Call-clause-built : goal.returns-in-Call-clause-built
returns-in-Call-clause-built c ts q b k s =
    let i = c.loop-at.invariant.building q ts b k s in
    let x : StandsAt c.args.code.now c.loop-at.at (Call c.in-Call.field-0) =
    subst (λ (is : List Instr). StandsAt is c.loop-at.at (Call c.in-Call.field-0)) refl
    (reads _ _ _ _ c.loop-at-test.true (sym c.index-code-at.is ∙ c.in-Call.is)) in
    (all_built _ _ _ _ _ _ _ _ _ _ i (c.in-Call.field-0, x)).1

pub returns-in-Call-clause-carried : goal.returns-in-Call-clause-carried
returns-in-Call-clause-carried c = carries_grown _ _ c.loop-at.invariant.grown

pub put-requires-clause-early : goal.put-requires-clause-early
put-requires-clause-early c k = not_a_call _ _ _ c.loop-at-test.true c.index-code-at.is c.in_default.not-Call k

pub returns-in_err-put-in_default-clause-carried : goal.returns-in_err-put-in_default-clause-carried
returns-in_err-put-in_default-clause-carried c = carries_grown _ _ (grows_on _ _ _ c.loop-at.invariant.grown c.in_err-put-in_default.ensures.grown)

pub unreachable-requires : goal.unreachable-requires
unreachable-requires c =
    let r = c.requires in
    let i = c.loop-at.invariant.building r.1.0 r.0 r.1.1.0 r.1.1.1 r.1.1.2 in
    let lt = place_inside _ _ _ _ _ _ _ _ _ _ i in
    omega (arith, lt)
