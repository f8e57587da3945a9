-- Each instruction builds a term more in front of those that follow.
use Rattle.std.proofs.Common.{rules, w64, SFits, ◌+◌, ◌<◌, length, ap, subst, arith, refl, reverse}
use Rattle.std.proofs.Common.{length-append}
use Rattle.std.proofs.lemmas.Int.{to_z-of_z}
use Rattle.std.proofs.lemmas.List.{get_or_read, length-reverse}
use Rattle.ml_term.specs.Tree.{integer}
use Rattle.ml_heap.specs.Changes.{HasOneMore}
use Rattle.ml_match.proofs.CellLists.{slot_within}
use Rattle.ml_match.proofs.HeadParts.{early_within, is_one}
use Rattle.ml_match.proofs.HeadsWritten.{read_here, first_slot, again_slot, after_first, after_again, after_integer, after_atom, after_compound, front_cells, last_cells, all_cells, as_many, last_inside, compound_grows}
use Rattle.ml_match.proofs.head.write.Goals as goal

pub bounds-code-at : goal.bounds-code-at
bounds-code-at c = early_within c.requires.matches c.requires.early

pub offset_bounds-code-at : goal.offset_bounds-code-at
offset_bounds-code-at c =
    let lt : c.args.at < length c.args.code.now = early_within c.requires.matches c.requires.early in
    search rules

pub overflow_add-env : goal.overflow_add-env
overflow_add-env c =
    let lt : c.args.env + c.in-GetFirst.n < length c.args.slots.now =
    slot_within c.requires.old c.args.slots.now _ (first_slot _ _ _ _ _ c.requires c.index-code-at.result _ c.index-code-at.is c.in-GetFirst.is) in
    search rules

pub bounds-slots-env : goal.bounds-slots-env
bounds-slots-env c = slot_within c.requires.old c.args.slots.now _
    (first_slot _ _ _ _ _ c.requires c.index-code-at.result _ c.index-code-at.is c.in-GetFirst.is)

pub offset_bounds-slots-env : goal.offset_bounds-slots-env
offset_bounds-slots-env c =
    let lt : c.args.env + c.in-GetFirst.n < length c.args.slots.now =
    slot_within c.requires.old c.args.slots.now _ (first_slot _ _ _ _ _ c.requires c.index-code-at.result _ c.index-code-at.is c.in-GetFirst.is) in
    search rules

pub overflow_add-env-in-GetAgain : goal.overflow_add-env-in-GetAgain
overflow_add-env-in-GetAgain c =
    let lt : c.args.env + c.in-GetAgain.n < length c.args.slots.now =
    slot_within c.requires.old c.args.slots.now _ (again_slot _ _ _ _ _ c.requires c.index-code-at.result _ c.index-code-at.is c.in-GetAgain.is) in
    search rules

pub bounds-slots-env-in-GetAgain : goal.bounds-slots-env-in-GetAgain
bounds-slots-env-in-GetAgain c = slot_within c.requires.old c.args.slots.now _
    (again_slot _ _ _ _ _ c.requires c.index-code-at.result _ c.index-code-at.is c.in-GetAgain.is)

pub offset_bounds-slots-env-in-GetAgain : goal.offset_bounds-slots-env-in-GetAgain
offset_bounds-slots-env-in-GetAgain c =
    let lt : c.args.env + c.in-GetAgain.n < length c.args.slots.now =
    slot_within c.requires.old c.args.slots.now _ (again_slot _ _ _ _ _ c.requires c.index-code-at.result _ c.index-code-at.is c.in-GetAgain.is) in
    search rules

pub reverse_last-requires : goal.reverse_last-requires
reverse_last-requires c =
    let r = c.requires in
    let x = read_here _ _ _ _ _ r c.index-code-at.result _ c.index-code-at.is c.in-GetCmp.is in
    let front = front_cells _ _ _ _ _ _ _ _ _ _ r.writing r.early _ _ _ _ x _ r.matches in
    let last = last_cells _ _ _ _ _ _ _ _ _ _ r.writing r.early _ _ _ _ x _ r.matches in
    omega (
      arith,
      ap length (all_cells _ _ _ _ _ _ _ _ _ _ r.writing r.early _ _ _ _ x _ r.matches),
      length-append front last,
      as_many _ _ _ _ _ _ _ _ _ _ r.writing r.early _ _ _ _ x _ r.matches,
    )

pub join_last-requires : goal.join_last-requires
join_last-requires c =
    let r = c.requires in
    let x = read_here _ _ _ _ _ r c.index-code-at.result _ c.index-code-at.is c.in-GetCmp.is in
    let front = front_cells _ _ _ _ _ _ _ _ _ _ r.writing r.early _ _ _ _ x _ r.matches in
    let last = last_cells _ _ _ _ _ _ _ _ _ _ r.writing r.early _ _ _ _ x _ r.matches in
    let many = as_many _ _ _ _ _ _ _ _ _ _ r.writing r.early _ _ _ _ x _ r.matches in (
      front,
      (
        reverse last,
        (
          c.reverse_last.ensures front last (all_cells _ _ _ _ _ _ _ _ _ _ r.writing r.early _ _ _ _ x _ r.matches) many,
          omega (arith, length-reverse last, many),
          last_inside _ _ _ _ _ _ _ _ _ _ r.writing r.early _ _ _ _ x _ r.matches,
        ),
      ),
    )

pub unreachable-requires : goal.unreachable-requires
unreachable-requires c =
    let r = c.requires in
    is_one (read_here _ _ _ _ _ r c.index-code-at.result _ c.index-code-at.is refl) r.early r.matches
    c.in_default.not-GetFirst c.in_default.not-GetAgain c.in_default.not-GetInt c.in_default.not-GetAtom c.in_default.not-GetCmp

pub returns-in_ok-push-in-GetFirst-clause-built : goal.returns-in_ok-push-in-GetFirst-clause-built
returns-in_ok-push-in-GetFirst-clause-built c old before to after w l =
    let r = c.requires in
    after_first _ _ _ _ _ _ _ _ _ _ w l c.push.new.self.items c.in-GetFirst.n c.index-slots-env.result
    (read_here _ _ _ _ _ r c.index-code-at.result _ c.index-code-at.is c.in-GetFirst.is)
    (get_or_read c.args.slots.now _ _
    (slot_within r.old c.args.slots.now _ (first_slot _ _ _ _ _ r c.index-code-at.result _ c.index-code-at.is c.in-GetFirst.is)) c.index-slots-env.is 0)
    c.in_ok-push-in-GetFirst.ensures.items

pub returns-in_ok-push-in-GetAgain-clause-built : goal.returns-in_ok-push-in-GetAgain-clause-built
returns-in_ok-push-in-GetAgain-clause-built c old before to after w l =
    let r = c.requires in
    after_again _ _ _ _ _ _ _ _ _ _ w l c.push-in-GetAgain.new.self.items c.in-GetAgain.n c.index-slots-env-in-GetAgain.result
    (read_here _ _ _ _ _ r c.index-code-at.result _ c.index-code-at.is c.in-GetAgain.is)
    (get_or_read c.args.slots.now _ _
    (slot_within r.old c.args.slots.now _ (again_slot _ _ _ _ _ r c.index-code-at.result _ c.index-code-at.is c.in-GetAgain.is))
    c.index-slots-env-in-GetAgain.is 0)
    c.in_ok-push-in-GetAgain.ensures.items

pub returns-in_ok-push-in-GetInt-clause-built : goal.returns-in_ok-push-in-GetInt-clause-built
returns-in_ok-push-in-GetInt-clause-built c old before to after w l =
    let fits : SFits w64 c.in-GetInt.value = search rules in
    let made =
    subst (λ z. HasOneMore c.args.heap.now c.new_integer.new.heap c.in_ok-cell-in-GetInt.cell (integer z)) (to_z-of_z w64 c.in-GetInt.value fits)
    c.in_ok-cell-in-GetInt.ensures.made in
    after_integer _ _ _ _ _ _ _ _ _ _ w l c.new_integer.new.heap c.push-in-GetInt.new.self.items c.in-GetInt.value c.in_ok-cell-in-GetInt.cell
    (read_here _ _ _ _ _ c.requires c.index-code-at.result _ c.index-code-at.is c.in-GetInt.is)
    made c.in_ok-push-in-GetInt.ensures.items

pub returns-in_ok-push-in-GetAtom-clause-built : goal.returns-in_ok-push-in-GetAtom-clause-built
returns-in_ok-push-in-GetAtom-clause-built c old before to after w l =
    after_atom _ _ _ _ _ _ _ _ _ _ w l c.new_atom.new.self c.push-in-GetAtom.new.self.items c.in-GetAtom.name c.in_ok-cell-in-GetAtom.cell
    (read_here _ _ _ _ _ c.requires c.index-code-at.result _ c.index-code-at.is c.in-GetAtom.is)
    c.in_ok-cell-in-GetAtom.ensures.made c.in_ok-push-in-GetAtom.ensures.items

pub returns-in_ok-join_last-in-GetCmp-clause-grown : goal.returns-in_ok-join_last-in-GetCmp-clause-grown
returns-in_ok-join_last-in-GetCmp-clause-grown c =
    let r = c.requires in
    let x = read_here _ _ _ _ _ r c.index-code-at.result _ c.index-code-at.is c.in-GetCmp.is in
    compound_grows _ _ _ _ _ _ _ _ _ _ r.writing r.early _ _ _ _ x _ r.matches c.join_last.new.heap c.reverse_last.new.cells.items
    c.join_last.new.cells.items c.reverse_last.ensures c.in_ok-join_last-in-GetCmp.ensures.joined

pub returns-in_ok-join_last-in-GetCmp-clause-built : goal.returns-in_ok-join_last-in-GetCmp-clause-built
returns-in_ok-join_last-in-GetCmp-clause-built c old before to after w l =
    let r = c.requires in
    let x = read_here _ _ _ _ _ r c.index-code-at.result _ c.index-code-at.is c.in-GetCmp.is in
    after_compound _ _ _ _ _ _ _ _ _ _ w l _ _ _ c.join_last.new.heap c.reverse_last.new.cells.items c.join_last.new.cells.items x
    c.reverse_last.ensures c.in_ok-join_last-in-GetCmp.ensures.joined
    (compound_grows _ _ _ _ _ _ _ _ _ _ r.writing r.early _ _ _ _ x _ r.matches c.join_last.new.heap c.reverse_last.new.cells.items
    c.join_last.new.cells.items c.reverse_last.ensures c.in_ok-join_last-in-GetCmp.ensures.joined)
