-- Each instruction builds a term more, or makes one of the last ones.
use Rattle.std.proofs.Common.{rules, w64, SFits, ◌+◌, ◌<◌, length, sym, subst, ◌∙◌}
use Rattle.std.proofs.lemmas.Int.{to_z-of_z}
use Rattle.std.proofs.lemmas.List.{get_or_read}
use Rattle.ml_term.specs.Tree.{integer}
use Rattle.ml_heap.specs.Changes.{HasOneMore}
use Rattle.ml_heap.proofs.StoredTerms.{grows_one}
use Rattle.ml_compile.specs.Spells.{StandsAt}
use Rattle.ml_compile.specs.declared.instr.Instr.TheVariants.{PutCmp}
use Rattle.ml_match.proofs.CellLists.{reads, slot_within}
use Rattle.ml_match.proofs.GoalsBuilt.{place_inside, slot_here, after_variable, after_integer, after_atom, after_compound, front_cells, last_cells, all_cells, as_many, last_inside, is_one_of_these}
use Rattle.ml_match.proofs.goal.put.Goals as goal

pub bounds-code-at : goal.bounds-code-at
bounds-code-at c = let r = c.requires.known in place_inside r.0 c.args.slots.now c.args.env c.args.code.now r.1.0 r.1.1.0 r.1.1.1.0 c.args.at c.args.heap.now
    c.args.cells.now.items r.1.1.1.1

pub offset_bounds-code-at : goal.offset_bounds-code-at
offset_bounds-code-at c =
    let r = c.requires.known in
    let lt : c.args.at < length c.args.code.now =
    place_inside r.0 c.args.slots.now c.args.env c.args.code.now r.1.0 r.1.1.0 r.1.1.1.0 c.args.at c.args.heap.now c.args.cells.now.items r.1.1.1.1 in
    search rules

pub overflow_add-env : goal.overflow_add-env
overflow_add-env c =
    let lt : c.args.env + c.in-PutVar.n < length c.args.slots.now = slot_within c.requires.known.0 c.args.slots.now _
    (slot_here _ _ _ _ _ _ _ _ _ _ c.requires.known.1.1.1.1 c.index-code-at.result c.in-PutVar.n c.index-code-at.is c.in-PutVar.is) in
    search rules

pub bounds-slots-env : goal.bounds-slots-env
bounds-slots-env c = slot_within c.requires.known.0 c.args.slots.now _
    (slot_here _ _ _ _ _ _ _ _ _ _ c.requires.known.1.1.1.1 c.index-code-at.result c.in-PutVar.n c.index-code-at.is c.in-PutVar.is)

pub offset_bounds-slots-env : goal.offset_bounds-slots-env
offset_bounds-slots-env c =
    let lt : c.args.env + c.in-PutVar.n < length c.args.slots.now = slot_within c.requires.known.0 c.args.slots.now _
    (slot_here _ _ _ _ _ _ _ _ _ _ c.requires.known.1.1.1.1 c.index-code-at.result c.in-PutVar.n c.index-code-at.is c.in-PutVar.is) in
    search rules

pub join_last-requires : goal.join_last-requires
join_last-requires c =
    let r = c.requires.known in
    let b = r.1.1.1.1 in
    let x : StandsAt c.args.code.now c.args.at (PutCmp c.in-PutCmp.name c.in-PutCmp.arity) =
    reads c.args.code.now c.args.at c.index-code-at.result _
    (place_inside r.0 c.args.slots.now c.args.env c.args.code.now r.1.0 r.1.1.0 r.1.1.1.0 c.args.at c.args.heap.now c.args.cells.now.items b)
    (sym c.index-code-at.is ∙ c.in-PutCmp.is) in (
      front_cells _ _ _ _ _ _ _ _ _ _ b _ _ x,
      (
        last_cells _ _ _ _ _ _ _ _ _ _ b _ _ x,
        (all_cells _ _ _ _ _ _ _ _ _ _ b _ _ x, as_many _ _ _ _ _ _ _ _ _ _ b _ _ x, last_inside _ _ _ _ _ _ _ _ _ _ b _ _ x),
      ),
    )

pub unreachable-requires : goal.unreachable-requires
unreachable-requires c =
    let r = c.requires.known in
    let b = r.1.1.1.1 in
    is_one_of_these _ _ _ _ _ _ _ _ _ _ b c.index-code-at.result
    (reads c.args.code.now c.args.at c.index-code-at.result _ (place_inside _ _ _ _ _ _ _ _ _ _ b) (sym c.index-code-at.is))
    c.requires.early c.in_default.not-PutVar c.in_default.not-PutInt c.in_default.not-PutAtom c.in_default.not-PutCmp

pub returns-in_ok-push-in-PutVar-clause-built : goal.returns-in_ok-push-in-PutVar-clause-built
returns-in_ok-push-in-PutVar-clause-built c old before q ts b =
    after_variable old c.args.slots.now c.args.env c.args.code.now before q ts c.args.at c.args.heap.now c.args.cells.now.items b
    c.push.new.self.items c.in-PutVar.n c.index-slots-env.result
    (reads c.args.code.now c.args.at c.index-code-at.result _ (place_inside _ _ _ _ _ _ _ _ _ _ b) (sym c.index-code-at.is ∙ c.in-PutVar.is))
    (get_or_read c.args.slots.now _ _ (slot_within old c.args.slots.now _
    (slot_here _ _ _ _ _ _ _ _ _ _ b c.index-code-at.result c.in-PutVar.n c.index-code-at.is c.in-PutVar.is)) c.index-slots-env.is 0)
    c.in_ok-push-in-PutVar.ensures.items

pub returns-in_ok-push-in-PutInt-clause-built : goal.returns-in_ok-push-in-PutInt-clause-built
returns-in_ok-push-in-PutInt-clause-built c old before q ts b =
    let fits : SFits w64 c.in-PutInt.value = search rules in
    let made =
    subst (λ z. HasOneMore c.args.heap.now c.new_integer.new.heap c.in_ok-cell-in-PutInt.cell (integer z)) (to_z-of_z w64 c.in-PutInt.value fits)
    c.in_ok-cell-in-PutInt.ensures.made in
    after_integer old c.args.slots.now c.args.env c.args.code.now before q ts c.args.at c.args.heap.now c.args.cells.now.items b
    c.new_integer.new.heap c.push-in-PutInt.new.self.items c.in-PutInt.value c.in_ok-cell-in-PutInt.cell
    (reads c.args.code.now c.args.at c.index-code-at.result _ (place_inside _ _ _ _ _ _ _ _ _ _ b) (sym c.index-code-at.is ∙ c.in-PutInt.is))
    made c.in_ok-push-in-PutInt.ensures.items

pub returns-in_ok-push-in-PutAtom-clause-built : goal.returns-in_ok-push-in-PutAtom-clause-built
returns-in_ok-push-in-PutAtom-clause-built c old before q ts b =
    after_atom old c.args.slots.now c.args.env c.args.code.now before q ts c.args.at c.args.heap.now c.args.cells.now.items b
    c.new_atom.new.self c.push-in-PutAtom.new.self.items c.in-PutAtom.name c.in_ok-cell-in-PutAtom.cell
    (reads c.args.code.now c.args.at c.index-code-at.result _ (place_inside _ _ _ _ _ _ _ _ _ _ b) (sym c.index-code-at.is ∙ c.in-PutAtom.is))
    c.in_ok-cell-in-PutAtom.ensures.made c.in_ok-push-in-PutAtom.ensures.items

pub returns-in_ok-join_last-in-PutCmp-clause-built : goal.returns-in_ok-join_last-in-PutCmp-clause-built
returns-in_ok-join_last-in-PutCmp-clause-built c old before q ts b =
    let x : StandsAt c.args.code.now c.args.at (PutCmp c.in-PutCmp.name c.in-PutCmp.arity) =
    reads c.args.code.now c.args.at c.index-code-at.result _ (place_inside _ _ _ _ _ _ _ _ _ _ b) (sym c.index-code-at.is ∙ c.in-PutCmp.is) in
    let j = c.in_ok-join_last-in-PutCmp.ensures.joined (front_cells _ _ _ _ _ _ _ _ _ _ b _ _ x) (last_cells _ _ _ _ _ _ _ _ _ _ b _ _ x)
    (all_cells _ _ _ _ _ _ _ _ _ _ b _ _ x) (as_many _ _ _ _ _ _ _ _ _ _ b _ _ x) in
    after_compound _ _ _ _ _ _ _ _ _ _ b _ _ x c.join_last.new.heap c.join_last.new.cells.items j.0 j.1.0 j.1.1

pub returns-in_ok-join_last-in-PutCmp-clause-grown : goal.returns-in_ok-join_last-in-PutCmp-clause-grown
returns-in_ok-join_last-in-PutCmp-clause-grown c =
    let b = c.requires.known.1.1.1.1 in
    let x : StandsAt c.args.code.now c.args.at (PutCmp c.in-PutCmp.name c.in-PutCmp.arity) =
    reads c.args.code.now c.args.at c.index-code-at.result _ (place_inside _ _ _ _ _ _ _ _ _ _ b) (sym c.index-code-at.is ∙ c.in-PutCmp.is) in
    let j = c.in_ok-join_last-in-PutCmp.ensures.joined (front_cells _ _ _ _ _ _ _ _ _ _ b _ _ x) (last_cells _ _ _ _ _ _ _ _ _ _ b _ _ x)
    (all_cells _ _ _ _ _ _ _ _ _ _ b _ _ x) (as_many _ _ _ _ _ _ _ _ _ _ b _ _ x) in
    grows_one c.args.heap.now c.join_last.new.heap j.0 _ j.1.1
