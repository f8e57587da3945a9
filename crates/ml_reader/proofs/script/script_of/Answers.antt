use Rattle.std.proofs.Common.{◌≡◌, length, map, arith}
use Rattle.std.proofs.lemmas.List.{length-map}
use Rattle.std.specs.Vec.Iter.{into_iter_items}
use Rattle.ml_reader.specs.inside.script.ScriptSeen.{draft_seen}
use Rattle.ml_reader.specs.Seen.{read_seen}
use Rattle.ml_reader.proofs.ScriptReading.ScriptRuns.{whole_script, some_budget, few_inferences, few_goals}
use Rattle.ml_reader.proofs.script.script_of.Goals as goal

pub script_from-requires : goal.script_from-requires
script_from-requires c =
    let it = c.loop-clause.clause-iterator in
    let none : length (into_iter_items it) ≡ 0 = omega (arith, it.rest.ok.0, c.in-None.ensures.steps.0) in
    let is = whole_script read_seen (draft_seen c.loop-clause.draft) (into_iter_items it) (map read_seen c.args.clauses.items) none
    c.loop-clause.invariant.same in
    record {
      some = some_budget is;
      few = few_inferences is;
      goals = omega (arith, few_goals is, length-map c.args.clauses.items read_seen, c.requires.few);
    }
