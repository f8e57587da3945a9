-- The clause's variables are created, and its head is matched by its instructions.
use Rattle.std.proofs.Common.{◌≡◌, ℕ, List, ◌++◌, map, reverse, drop, length, sym, ap, subst, ◌∙◌, arith}
use mathlib.Core.List.{IsPrefix}
use Rattle.ml_heap.specs.Changes.{stands_for}
use Rattle.ml_heap.proofs.HeapMarks.{marks_go_on}
use Rattle.ml_match.specs.Entered.{HasEntered}
use Rattle.ml_match.proofs.HeadsBegun.{all_written, may_begin, running_begins, running_ends}
use Rattle.ml_match.proofs.clause.enter.Goals as goal

pub match_head-requires : goal.match_head-requires
match_head-requires c =
    let r = c.requires.spelled in
    let at : c.len-env.result ≡ length c.args.slots.now.items = omega (arith, c.len-env.ensures) in
    let v = c.in_ok-create_variables.ensures in
    may_begin c.args.code.now r.0 r.1.0 c.args.args.now r.1.1 c.args.heap.now c.args.slots.now.items c.len-env.result at
    c.width_of.result c.width_of.ensures c.create_variables.new.heap c.create_variables.new.slots.items c.as_mut_slice.result.now
    c.push_turned.new.todo.items c.as_mut_slice.ensures.value c.requires.inside v.grown
    (c.in_ok-push_turned.ensures ∙ ap (λ (qs : List ℕ). qs ++ reverse c.args.args.now) c.truncate.ensures.items) v.made

pub returns-in_err-match_head-clause-front : goal.returns-in_err-match_head-clause-front
returns-in_err-match_head-clause-front c =
    let new = c.match_head.new.slots in
    let written = all_written new (drop (length new) c.create_variables.new.slots.items) c.create_variables.new.slots.len
    (sym (c.match_head.auto.slots ∙ c.as_mut_slice.ensures.len)) in
    let begins = subst (λ (qs : List ℕ). IsPrefix c.args.slots.now.items qs) (sym c.as_mut_slice.ensures.value) c.in_ok-create_variables.ensures.front in
    subst (λ (qs : List ℕ). IsPrefix c.args.slots.now.items qs) (sym written)
    (c.in_err-match_head.ensures.front c.args.slots.now.items (omega (arith, c.len-env.ensures)) begins)

pub returns-in_err-match_head-clause-marks : goal.returns-in_err-match_head-clause-marks
returns-in_err-match_head-clause-marks c =
    marks_go_on c.args.heap.now c.create_variables.new.heap c.match_head.new.heap c.in_ok-create_variables.ensures.grown.marks
    c.in_err-match_head.ensures.marks

pub returns-clause-entered : goal.returns-clause-entered
returns-clause-entered c k s many =
    let at : c.len-env.result ≡ length c.args.slots.now.items = omega (arith, c.len-env.ensures) in
    let v = c.in_ok-create_variables.ensures in
    let m = c.in_ok-match_head.ensures in
    let new = c.match_head.new.slots in
    let written = all_written new (drop (length new) c.create_variables.new.slots.items) c.create_variables.new.slots.len
    (sym (c.match_head.auto.slots ∙ c.as_mut_slice.ensures.len)) in
    let begun = running_begins c.args.code.now k s c.args.args.now many c.args.heap.now c.args.slots.now.items c.len-env.result at
    c.width_of.result c.width_of.ensures c.create_variables.new.heap c.create_variables.new.slots.items c.as_mut_slice.result.now
    c.push_turned.new.todo.items c.as_mut_slice.ensures.value c.requires.inside v.grown
    (c.in_ok-push_turned.ensures ∙ ap (λ (qs : List ℕ). qs ++ reverse c.args.args.now) c.truncate.ensures.items) v.made in
    subst (λ (qs : List ℕ). HasEntered c.args.code.now c.args.heap.now c.match_head.new.heap c.args.slots.now.items qs k
    (map (stands_for c.args.heap.now) c.args.args.now) c.in_ok-match_head.field-0) (sym written)
    (running_ends c.args.code.now k s c.args.args.now many c.args.heap.now c.args.slots.now.items c.len-env.result at
    c.width_of.result c.width_of.ensures c.create_variables.new.heap c.match_head.new.heap c.as_mut_slice.result.now new v.counted m.counted
    (ap length c.as_mut_slice.ensures.value ∙ v.many) m.many c.in_ok-match_head.field-0 (m.goes_on _ _ _ _ _ begun))

pub returns-clause-front : goal.returns-clause-front
returns-clause-front c =
    let new = c.match_head.new.slots in
    let written = all_written new (drop (length new) c.create_variables.new.slots.items) c.create_variables.new.slots.len
    (sym (c.match_head.auto.slots ∙ c.as_mut_slice.ensures.len)) in
    let begins = subst (λ (qs : List ℕ). IsPrefix c.args.slots.now.items qs) (sym c.as_mut_slice.ensures.value) c.in_ok-create_variables.ensures.front in
    subst (λ (qs : List ℕ). IsPrefix c.args.slots.now.items qs) (sym written)
    (c.in_ok-match_head.ensures.front c.args.slots.now.items (omega (arith, c.len-env.ensures)) begins)

pub returns-clause-marks : goal.returns-clause-marks
returns-clause-marks c =
    marks_go_on c.args.heap.now c.create_variables.new.heap c.match_head.new.heap c.in_ok-create_variables.ensures.grown.marks
    c.in_ok-match_head.ensures.marks
