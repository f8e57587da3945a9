use Rattle.std.proofs.Common.{◌∙◌, ap, map, subst, sym, length}
use Rattle.std.specs.List.{flat_map}
use Rattle.std.proofs.lemmas.List.{length-map}
use Rattle.std.proofs.lemmas.Result.{on_ok_weaker}
use Rattle.ml_entries.specs.Entries.{contents, AreEntries}
use Rattle.ml_outside.specs.Written.{Appended, AppendedFront}
use Rattle.ml_search.specs.ItemsSeen.{items_seen}
use Rattle.ml_search.specs.Loading.{first_db}
use Rattle.ml_search.specs.ProgramSeen.{script_seen}
use Rattle.ml_run.specs.inside.Seen.{rules_seen, scripts_seen}
use Rattle.ml_run.proofs.EntryBlocks.{blocks_printed}
use Rattle.ml_run.proofs.WriteCauses.{both_err, play_stops}
use Rattle.ml_run.proofs.run_and_print.run_and_print.Goals as goal

pub returns-clause-ok : goal.returns-clause-ok
returns-clause-ok g c =
    let i = c.args.inputs in
    let p = (rules_seen i.rules).0 in
    let ss = scripts_seen i.scripts.items in
    let blocks = contents c.in_ok-blocks.blocks.items in
    let db = first_db i.rules.program.decls (items_seen c.into_vec.result.items) in
    let e = ap (λ es. first_db i.rules.program.decls (items_seen es)) c.into_vec.ensures in
    let after = c.in_ok-blocks.ensures.0 in
    let are = subst (λ xs. AreEntries p db (map script_seen xs) (length xs) blocks after) c.deref.ensures.value c.in_ok-blocks.ensures.1 in
    on_ok_weaker c.write_blocks.result (λ appended.
    blocks_printed p (rules_seen i.rules).1 ss db after (length i.scripts.items) blocks
    (Appended (g.K.Sink.written c.args.out.now) (g.K.Sink.written c.write_blocks.new.out)) e (sym (length-map i.scripts.items script_seen)) are
    (subst
    (λ bs. Appended (g.K.Sink.written c.args.out.now) (g.K.Sink.written c.write_blocks.new.out) (flat_map (λ b. b) (contents bs))) c.deref-2.ensures.value
    appended)) c.write_blocks.ensures.ok

pub returns-clause-err : goal.returns-clause-err
returns-clause-err g c =
    let i = c.args.inputs in
    let p = (rules_seen i.rules).0 in
    let ss = scripts_seen i.scripts.items in
    let blocks = contents c.in_ok-blocks.blocks.items in
    let db = first_db i.rules.program.decls (items_seen c.into_vec.result.items) in
    let e = ap (λ es. first_db i.rules.program.decls (items_seen es)) c.into_vec.ensures in
    let after = c.in_ok-blocks.ensures.0 in
    let are = subst (λ xs. AreEntries p db (map script_seen xs) (length xs) blocks after) c.deref.ensures.value c.in_ok-blocks.ensures.1 in
    both_err c.write_blocks.result c.write_blocks.ensures.err c.write_blocks.ensures.front (λ status stops front.
    play_stops i _ _ _ _ status stops
    (blocks_printed p (rules_seen i.rules).1 ss db after (length i.scripts.items) blocks
    (AppendedFront (g.K.Sink.written c.args.out.now) (g.K.Sink.written c.write_blocks.new.out)) e (sym (length-map i.scripts.items script_seen)) are
    (subst
    (λ bs. AppendedFront (g.K.Sink.written c.args.out.now) (g.K.Sink.written c.write_blocks.new.out) (flat_map (λ b. b) (contents bs)))
    c.deref-2.ensures.value front)))
