-- A variable has its cell, a constant one of its own, and a compound one after those of its arguments.
use Rattle.std.proofs.lemmas.Int.{to_z-of_z}
use Rattle.std.proofs.Common.{rules, w64, SFits, ◌≡◌, ◌++◌, ◌∷◌, [], ◌∙◌, sym, ap, subst, arith, take, length, length-append}
use Rattle.std.proofs.lemmas.List.{take_all}
use Rattle.ml_term.specs.Tree.{integer, compound, trees_of, variables_of}
use Rattle.ml_term.specs.Seen.{seen, all_seen}
use Rattle.ml_term.proofs.CompoundTrees.{seen_integer, seen_atom, seen_compound}
use Rattle.ml_heap.specs.Changes.{HasOneMore}
use Rattle.ml_heap.specs.Storing.{AreStored}
use Rattle.ml_heap.proofs.StoredTerms.{stored_variable, stored_integer, stored_atom, stored_compound, one_more_stored, grows_on, nodes_of_item, valid_item}
use Rattle.ml_heap.proofs.StoredTerms.{seen_so_far, seen_variable}
use Rattle.ml_heap.proofs.TermWalks.{cells_at}
use Rattle.ml_heap.proofs.heap.Heap.+store.Goals as goal

pub store-new_cmp-requires-clause-low : goal.store-new_cmp-requires-clause-low
store-new_cmp-requires-clause-low t c =
    omega (arith, c.as_slice.ensures.low, ap length c.as_slice.ensures.same, c.in_ok-args-in-Cmp.ensures.many, ap length c.as_slice-in-Cmp.ensures.value)

pub store-new_cmp-requires-clause-high : goal.store-new_cmp-requires-clause-high
store-new_cmp-requires-clause-high t c =
    omega (arith, c.as_slice.ensures.high, ap length c.as_slice.ensures.same, c.in_ok-args-in-Cmp.ensures.many, ap length c.as_slice-in-Cmp.ensures.value)

pub store-new_cmp-requires-clause-inside : goal.store-new_cmp-requires-clause-inside
store-new_cmp-requires-clause-inside t c =
    let a = c.in_ok-args-in-Cmp.ensures.stored c.requires.known.0 c.requires.known.1.0 c.requires.known.1.1 in
    let value : c.as_slice-in-Cmp.result.now ≡ c.in_ok-args-in-Cmp.args.items = c.as_slice-in-Cmp.ensures.value in
    rw value (cells_at _ _ a.inside)

pub store-returns-in_ok-store_variable-in-Var-clause-stored : goal.store-returns-in_ok-store_variable-in-Var-clause-stored
store-returns-in_ok-store_variable-in-Var-clause-stored t c base ns w =
    stored_variable _ _ _ _ _ _ _ (ap seen c.in-Var.is ∙ seen_variable _) (c.in_ok-store_variable-in-Var.ensures.stored base ns w)

pub store-returns-in_ok-new_int-in-Int-clause-stored : goal.store-returns-in_ok-new_int-in-Int-clause-stored
store-returns-in_ok-new_int-in-Int-clause-stored t c base ns w =
    let e = ap seen c.in-Int.is ∙ seen_integer _ in
    let fits : SFits w64 c.in-Int.v = search rules in
    let one =
    subst (λ z. HasOneMore c.args.self.now c.new_int.new.self c.in_ok-new_int-in-Int.field-0 (integer z))
    (to_z-of_z w64 c.in-Int.v fits) c.in_ok-new_int-in-Int.ensures.made in
    stored_integer _ _ _ _ _ _ _ w (subst (HasOneMore c.args.self.now c.new_int.new.self c.in_ok-new_int-in-Int.field-0) (sym e) one)
    c.in_ok-new_int-in-Int.ensures.counted _ e

pub store-returns-in_ok-new_atom-in-Atom-clause-stored : goal.store-returns-in_ok-new_atom-in-Atom-clause-stored
store-returns-in_ok-new_atom-in-Atom-clause-stored t c base ns w =
    let e = ap seen c.in-Atom.is ∙ seen_atom _ in
    stored_atom _ _ _ _ _ _ _ w (subst (HasOneMore c.args.self.now c.new_atom.new.self c.in_ok-new_atom-in-Atom.field-0)
    (sym e) c.in_ok-new_atom-in-Atom.ensures.made)
    c.in_ok-new_atom-in-Atom.ensures.counted _ e

pub store-returns-in_ok-new_cmp-in-Cmp-clause-stored : goal.store-returns-in_ok-new_cmp-in-Cmp-clause-stored
store-returns-in_ok-new_cmp-in-Cmp-clause-stored t c base ns w =
    let ts = trees_of (all_seen c.as_slice.result.now) in
    let e : seen c.args.t.now ≡ compound c.in-Cmp.f ts =
    ap seen c.in-Cmp.is ∙ (seen_compound _ _ ∙ ap (λ us. compound c.in-Cmp.f (trees_of (all_seen us))) (sym c.as_slice.ensures.same)) in
    let value : c.as_slice-in-Cmp.result.now ≡ c.in_ok-args-in-Cmp.args.items = c.as_slice-in-Cmp.ensures.value in
    let a = c.in_ok-args-in-Cmp.ensures.stored base ns w in
    stored_compound _ _ _ _ _ _ _ _ _ _ e (subst (λ qs. AreStored c.store_all.new.self base (ns ++ variables_of ts) c.store_all.new.met qs ts) (sym value) a)
    c.in_ok-new_cmp-in-Cmp.ensures.made c.in_ok-new_cmp-in-Cmp.ensures.counted

pub store_all-store-requires : goal.store_all-store-requires
store_all-store-requires t c =
    let s = c.loop-t.invariant.stored c.requires.known.0 c.requires.known.1.0 c.requires.known.1.1 in (
      omega (arith, nodes_of_item _ _ _ c.loop-t-test.true c.t-item.is, c.decreases),
      (valid_item _ _ _ c.loop-t-test.true c.t-item.is c.requires.valid, (c.requires.known.0, (_, s.knows))),
    )

pub store_all-loop-t-preserved : goal.store_all-loop-t-preserved
store_all-loop-t-preserved t c = record {
  grown = grows_on _ _ _ c.loop-t.invariant.grown c.in_ok-store.ensures.grown;
  many = omega (arith, ap length c.in_ok-push.ensures.items, length-append c.loop-t.cells.items (c.in_ok-store.field-0 ∷ []), c.loop-t.invariant.many);
  stored = λ base ns w.
      let a = c.loop-t.invariant.stored base ns w in
      let s = c.in_ok-store.ensures.stored base (ns ++ variables_of (trees_of (all_seen (take c.loop-t.t-index c.args.ts.now)))) a.knows in
      let e = seen_so_far _ _ _ c.loop-t-test.true c.t-item.is in
      rw (e, c.in_ok-push.ensures.items) (one_more_stored _ _ _ _ _ _ _ _ _ _ a s c.in_ok-store.ensures.grown);
}

pub store_all-returns-clause-stored : goal.store_all-returns-clause-stored
store_all-returns-clause-stored t c base ns w =
    let all : take c.loop-t.t-index c.args.ts.now ≡ c.args.ts.now = take_all _ _ (omega (arith, c.loop-t-test.false)) in
    subst (λ us. AreStored c.loop-t.self base (ns ++ variables_of (trees_of (all_seen us))) c.loop-t.met c.loop-t.cells.items (trees_of (all_seen us))) all
    (c.loop-t.invariant.stored base ns w)
