use Rattle.std.proofs.Common.{◌≡◌, ◌∙◌, true, ap, sym, subst}
use Rattle.std.proofs.lemmas.Result.{IfOk-weaker}
use Rattle.ml_search.specs.Db.{is_allowed}
use Rattle.ml_term.specs.Names.{is_name}
use Rattle.ml_term.specs.Seen.{seen}
use Rattle.ml_bench.specs.Tuples.{term_of}
use Rattle.ml_bench.proofs.AllowedTuples.{allowed}
use Rattle.ml_bench.proofs.relation.Relation.tuple.Goals as goal

pub returns : goal.returns
returns c =
    let d = c.args.self.now.file.decl in
    let w = c.args.self.now.width in
    let x = seen c.number-first.result in
    let y = seen c.number-second.result in
    let z = seen c.number-third.result in
    let named : is_name d.pred.name ≡ true = subst (λ q. is_name q.pred.name ≡ true) c.decl.ensures c.as_slice-is_name.ensures.valid in
    let same = ap (λ q. term_of w q.pred.name x y z) c.decl.ensures in
    IfOk-weaker c.term_of.result _ _ (λ t e. subst (λ u. is_allowed d u ≡ true) (sym (e ∙ same))
    (allowed w d x y z _ _ _ c.number-first.ensures.same c.number-second.ensures.same c.number-third.ensures.same c.args.self.now.declared named
    c.number-first.ensures.in_range c.number-second.ensures.in_range c.number-third.ensures.in_range)) c.term_of.ensures
