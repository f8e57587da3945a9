use Rattle.std.proofs.Common.{◌≡◌, ◌∙◌, ◌≤◌, true, ap, sym, subst}
use Rattle.std.proofs.lemmas.Result.{IfOk-weaker}
use Rattle.ml_search.specs.Program.{is_of}
use Rattle.ml_term.specs.Names.{is_name}
use Rattle.ml_term.specs.Seen.{seen}
use Rattle.ml_term.specs.Tree.{nodes}
use Rattle.ml_term.specs.Valid.{is_valid}
use Rattle.ml_bench.specs.Tuples.{term_of}
use Rattle.ml_bench.proofs.AllowedTuples.{of_predicate, valid, few}
use Rattle.ml_bench.proofs.relation.Relation.head.Goals as goal

pub returns : goal.returns
returns c =
    let d = c.args.self.now.file.decl in
    let w = c.args.self.now.width in
    let x = seen c.argument-first.result in
    let y = seen c.argument-second.result in
    let z = seen c.argument-third.result in
    let named : is_name d.pred.name ≡ true = subst (λ q. is_name q.pred.name ≡ true) c.decl.ensures c.as_slice-is_name.ensures.valid in
    let same = ap (λ q. term_of w q.pred.name x y z) c.decl.ensures in
    record {
      declared = IfOk-weaker c.term_of.result _ _ (λ t e. subst (λ u. is_of d.pred.name d.pred.arity u ≡ true) (sym (e ∙ same))
          (of_predicate w d x y z c.args.self.now.declared)) c.term_of.ensures;
      valid = IfOk-weaker c.term_of.result _ _ (λ t e. subst (λ u. is_valid u ≡ true) (sym (e ∙ same))
          (valid w d.pred.name x y z named c.argument-first.ensures.valid c.argument-second.ensures.valid c.argument-third.ensures.valid)) c.term_of.ensures;
      small = IfOk-weaker c.term_of.result _ _ (λ t e. subst (λ u. nodes u ≤ 4096) (sym (e ∙ same))
          (few w d.pred.name x y z c.argument-first.ensures.single c.argument-second.ensures.single c.argument-third.ensures.single)) c.term_of.ensures;
    }
