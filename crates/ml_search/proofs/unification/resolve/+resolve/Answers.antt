use Rattle.std.proofs.Common.{arith, ap, sym, subst, ◌∙◌, ◌≡◌, ◌∷◌, ◌+◌, ◌++◌, [], ◌≤◌, true, length, take, get_or, None}
use Rattle.std.proofs.lemmas.Bool.{and_from, le-leb}
use Rattle.std.proofs.lemmas.List.{map_push, take_more, take_all}
use Rattle.ml_term.specs.Seen.{seen, all_seen}
use Rattle.ml_term.specs.Tree.{variable, compound, arity, trees_of, nodes, nodes_of}
use Rattle.ml_term.specs.Unify.{apply}
use Rattle.ml_term.specs.Valid.{is_valid, are_valid}
use Rattle.ml_term.proofs.NumberedArguments.{argument_is_valid}
use Rattle.ml_term.specs.Names.{is_name}
use Rattle.ml_term.specs.declared.term.Term.TheViews.{Cmp}
use Rattle.ml_term.proofs.TermSizes.{arity_of_trees}
use Rattle.ml_search.specs.Actions.{shift_variables}
use Rattle.ml_term.proofs.CompoundTrees.{seen_variable, seen_compound}
use Rattle.ml_search.specs.MapSeen.{bound_term}
use Rattle.ml_search.specs.inside.Triangular.{IsFree, map_of}
use Rattle.ml_search.specs.inside.Unifying.{bindings_of, tree_of, trees_under}
use Rattle.ml_search.proofs.Unifying.BoundChains.{stands_for_itself}
use Rattle.ml_search.proofs.Unifying.TermsResolved.{under_map, all_under, valid_more, one_of_the_nodes, sound_for_more, base_is_zero}
use Rattle.ml_search.proofs.Unifying.ShiftedTrees.{is_variable}
use Rattle.ml_search.proofs.unification.resolve.+resolve.Goals as goal

pub resolve-end_of-end-requires-clause-sound :
    goal.resolve-end_of-end-requires-clause-sound
resolve-end_of-end-requires-clause-sound t c = sound_for_more 4294967296 c.args.bindings.now.entries c.requires.sound

pub resolve-returns-in-Var-clause-same : goal.resolve-returns-in-Var-clause-same
resolve-returns-in-Var-clause-same t c =
    let bs = bindings_of c.args.bindings.now.entries in
    let k = c.end_of-end.result.base + c.in-Var.n in
    let is : tree_of c.end_of-end.result ≡ variable k = is_variable c.end_of-end.result c.in-Var.n c.in-Var.is in
    let free : bound_term bs k ≡ None = subst (IsFree bs) is c.end_of-end.ensures.free in
    let base = base_is_zero c.end_of-end.result (c.end_of-end.ensures.sound 0 c.requires.sound c.requires.at) in
    let same : k ≡ c.in-Var.n = omega (arith, base) in
    seen_variable c.in-Var.n
    ∙ ap variable (sym same)
    ∙ sym (sym c.end_of-end.ensures.same ∙ ap (apply (map_of bs)) is ∙ stands_for_itself bs k c.requires.triangular free)

pub resolve-returns-in_ok-args-in-Cmp-clause-valid :
    goal.resolve-returns-in_ok-args-in-Cmp-clause-valid
resolve-returns-in_ok-args-in-Cmp-clause-valid t c =
    let name = c.in_ok-name-in-Cmp.name in
    let ts = c.in_ok-args-in-Cmp.args.items in
    let is : seen (Cmp name c.new.result) ≡ compound name (trees_of (all_seen ts)) = ap (λ args. seen (Cmp name args)) c.new.ensures ∙ seen_compound name ts in
    let named : is_name name ≡ true = ap is_name (sym c.name.view_is) ∙ c.name.invariant in
    let args : length c.as_slice.result.now ≡ length c.in-Cmp.ts = ap length c.as_slice.ensures.same in
    let many : arity (trees_of (all_seen ts)) ≡ length c.as_slice.result.now = arity_of_trees seen ts ∙ c.in_ok-args-in-Cmp.ensures.count in
    ap is_valid is
    ∙ and_from _ _
    (and_from _ _ (and_from _ _ named (le-leb 1 (arity (trees_of (all_seen ts))) (omega (arith, many, args, c.as_slice.ensures.low))))
    (le-leb (arity (trees_of (all_seen ts))) 255 (omega (arith, many, args, c.as_slice.ensures.high))))
    c.in_ok-args-in-Cmp.ensures.valid

pub resolve_all-resolve-requires : goal.resolve_all-resolve-requires
resolve_all-resolve-requires t c =
    let m = map_of (bindings_of c.args.bindings.now.entries) in
    let i = c.loop-t.t-index in
    let is : seen (get_or c.args.ts.now i c.t-item.result) ≡ seen c.t-item.result = sym (ap seen c.t-item.is) in
    let fewer : nodes (apply m (shift_variables 0 (seen c.t-item.result))) ≤ nodes_of (trees_under m 0 c.args.ts.now) =
    subst (λ u. nodes (apply m (shift_variables 0 u)) ≤ nodes_of (trees_under m 0 c.args.ts.now)) is
    (one_of_the_nodes m c.args.ts.now i c.t-item.result c.loop-t-test.true) in (
      omega (arith, fewer),
      (
        c.requires.triangular,
        (c.requires.sound, sym (ap is_valid is) ∙ argument_is_valid seen i c.args.ts.now c.t-item.result c.loop-t-test.true c.requires.valid),
      ),
    )

pub resolve_all-loop-t-preserved : goal.resolve_all-loop-t-preserved
resolve_all-loop-t-preserved t c =
    let m = map_of (bindings_of c.args.bindings.now.entries) in
    let i = c.loop-t.t-index in
    let us = c.loop-t.us.items in
    let u = c.in_ok-resolve.field-0 in
    let more : all_seen c.push.new.self.items ≡ all_seen us ++ seen u ∷ [] = ap all_seen c.in_ok-push.ensures.items ∙ map_push seen us u in
    let next : take (i + 1) c.args.ts.now ≡ take i c.args.ts.now ++ c.t-item.result ∷ [] =
    take_more c.args.ts.now i c.t-item.result c.loop-t-test.true ∙ ap (λ x. take i c.args.ts.now ++ x ∷ []) (sym c.t-item.is) in
    record {
      same = more
          ∙ ap (λ xs. xs ++ seen u ∷ []) c.loop-t.invariant.same
          ∙ ap (λ x. under_map m (take i c.args.ts.now) ++ x ∷ []) c.in_ok-resolve.ensures.same
          ∙ sym (ap (under_map m) next ∙ map_push (λ t. apply m (shift_variables 0 (seen t))) (take i c.args.ts.now) c.t-item.result);
      valid = ap (λ xs. are_valid (trees_of xs)) more ∙ valid_more (all_seen us) (seen u) c.loop-t.invariant.valid c.in_ok-resolve.ensures.valid;
      count = omega (arith, c.in_ok-push.ensures.len, c.loop-t.invariant.count);
    }

pub resolve_all-returns-clause-same : goal.resolve_all-returns-clause-same
resolve_all-returns-clause-same t c =
    let m = map_of (bindings_of c.args.bindings.now.entries) in
    let all : take c.loop-t.t-index c.args.ts.now ≡ c.args.ts.now = take_all c.loop-t.t-index c.args.ts.now (omega (arith, c.loop-t-test.false)) in
    ap trees_of c.loop-t.invariant.same ∙ ap (λ ts. trees_of (under_map m ts)) all ∙ all_under m c.args.ts.now
