use Rattle.std.proofs.Common.{◌+◌, ◌≤◌, length, map, take, subst, sym, arith}
use Rattle.std.proofs.lemmas.Result.{err_from_is_err_and}
use Rattle.ml_reader.specs.Rules.{Declare}
use Rattle.ml_reader.specs.Seen.{read_seen}
use Rattle.ml_reader.proofs.RuleReading.DeclarationsInOrder.{handed_on, comes_next, one_read_further, goes_wrong, declare_more, one_at_most}
use Rattle.ml_reader.proofs.rules.rules_of.declarations.Goals as goal

pub returns-in_err-declare-clause-fault : goal.returns-in_err-declare-clause-fault
returns-in_err-declare-clause-fault c = λ f e.
    let reads = c.args.reads.now in
    let i = c.loop-read.read-index in
    let p = err_from_is_err_and c.from_residual.result c.from_residual.ensures.1 in
    let wrong = c.in_err-declare.ensures.fault f (handed_on c.from_residual.result p.0 _ f p.1 p.2 e) in
    goes_wrong (map read_seen reads) (map read_seen (take i reads)) (read_seen c.read-item.result) c.loop-read.decls f
    (comes_next reads i c.read-item.result c.loop-read-test.true c.read-item.is)
    c.loop-read.invariant.declare
    wrong

pub loop-read-preserved : goal.loop-read-preserved
loop-read-preserved c =
    let reads = c.args.reads.now in
    let i = c.loop-read.read-index in
    let becomes = c.in_ok-declare.ensures.ok in
    let few : length c.declare.new.decls ≤ i + 1 = omega (arith, one_at_most _ _ _ becomes, c.loop-read.invariant.few) in record {
      declare =
          subst (λ cs. Declare cs c.declare.new.decls) (sym (one_read_further reads i c.read-item.result c.loop-read-test.true c.read-item.is))
          (declare_more _ _ _ _ c.loop-read.invariant.declare becomes);
      few = few;
    }
