use Rattle.std.proofs.Common.{arith, ap, sym, ◌∙◌, ◌≡◌, true, length}
use Rattle.std.proofs.lemmas.Result.{IfOk-weaker}
use Rattle.ml_term.specs.Names.{is_name}
use Rattle.ml_term.specs.Seen.{seen}
use Rattle.ml_term.specs.Tree.{variable, trees_of}
use Rattle.ml_term.specs.Unify.{apply, value_of}
use Rattle.ml_term.specs.Valid.{is_valid}
use Rattle.ml_term.specs.declared.term.Term.TheViews.{Cmp}
use Rattle.ml_term.proofs.CompoundTrees.{seen_variable}
use Rattle.ml_search.specs.MapSeen.{map_seen}
use Rattle.ml_search.proofs.Unifying.BoundChains.{value_is, value_is_itself}
use Rattle.ml_search.proofs.Unifying.TermsBuilt.{valid_compound, next_is_valid, built_more, built_valid, built_all, fewer_nodes, all_substituted}
use Rattle.ml_search.proofs.unification.apply.+replace.Goals as goal

pub replace-returns-in-Some-clause-same : goal.replace-returns-in-Some-clause-same
replace-returns-in-Some-clause-same t c =
    let m = map_seen c.args.m.now in
    let is : seen c.args.t.now ≡ variable c.in-Var.n = ap seen c.in-Var.is ∙ seen_variable c.in-Var.n in
    let stands : apply m (seen c.args.t.now) ≡ seen c.in-Some.term.now =
    ap (apply m) is ∙ value_is m c.in-Var.n (seen c.in-Some.term.now) c.in-Some.ensures.same in
    IfOk-weaker c.copy_of.result (λ term. term ≡ c.in-Some.term.now) (λ u. seen u ≡ apply m (seen c.args.t.now))
    (λ term e. ap seen e ∙ sym stands) c.copy_of.ensures

pub replace-returns-in-None-clause-same : goal.replace-returns-in-None-clause-same
replace-returns-in-None-clause-same t c =
    let m = map_seen c.args.m.now in
    let is : seen c.args.t.now ≡ variable c.in-Var.n = ap seen c.in-Var.is ∙ seen_variable c.in-Var.n in
    seen_variable c.in-Var.n ∙ sym (ap (apply m) is ∙ value_is_itself m c.in-Var.n c.in-None.ensures.same)

pub replace-returns-in_ok-args-in-Cmp-clause-valid :
    goal.replace-returns-in_ok-args-in-Cmp-clause-valid
replace-returns-in_ok-args-in-Cmp-clause-valid t c =
    let name = c.in_ok-name-in-Cmp.name in
    let named : is_name name ≡ true = ap is_name (sym c.name.view_is) ∙ c.name.invariant in
    let args : length c.as_slice.result.now ≡ length c.in-Cmp.ts = ap length c.as_slice.ensures.same in
    ap (λ ts. is_valid (seen (Cmp name ts))) c.new.ensures
    ∙ valid_compound name c.in_ok-args-in-Cmp.args.items (length c.in-Cmp.ts) named
    (c.in_ok-args-in-Cmp.ensures.count ∙ args) c.as_slice.ensures.low c.as_slice.ensures.high c.in_ok-args-in-Cmp.ensures.valid

pub replace_all-replace-requires : goal.replace_all-replace-requires
replace_all-replace-requires t c =
    let fewer = fewer_nodes c.args.ts.now c.loop-t.t-index c.t-item.result c.loop-t-test.true c.t-item.is in
    (omega (arith, fewer), next_is_valid c.args.ts.now c.loop-t.t-index c.t-item.result c.loop-t-test.true c.t-item.is c.requires)

pub replace_all-loop-t-preserved : goal.replace_all-loop-t-preserved
replace_all-loop-t-preserved t c =
    let ts = c.args.ts.now in
    let i = c.loop-t.t-index in
    let x = c.t-item.result in
    record {
      same =
          built_more ts i x c.loop-t-test.true c.t-item.is
          (λ t. apply (map_seen c.args.m.now) (seen t)) c.loop-t.us.items c.push.new.self.items c.in_ok-replace.field-0 c.in_ok-push.ensures.items
          c.in_ok-replace.ensures.same c.loop-t.invariant.same;
      valid =
          built_valid ts i x c.loop-t-test.true c.t-item.is
          (λ t. apply (map_seen c.args.m.now) (seen t)) c.loop-t.us.items c.push.new.self.items c.in_ok-replace.field-0 c.in_ok-push.ensures.items
          c.loop-t.invariant.valid c.in_ok-replace.ensures.valid;
      count = omega (arith, c.in_ok-push.ensures.len, c.loop-t.invariant.count);
    }

pub replace_all-returns-clause-same : goal.replace_all-returns-clause-same
replace_all-returns-clause-same t c =
    let m = map_seen c.args.m.now in
    ap trees_of
    (built_all (λ t. apply m (seen t)) c.args.ts.now c.loop-t.us.items c.loop-t.t-index (omega (arith, c.loop-t-test.false)) c.loop-t.invariant.same)
    ∙ all_substituted (value_of m) c.args.ts.now
