use Rattle.std.proofs.Common.{◌≡◌, ◌++◌, suc, List, refl, sym, ap, ◌∙◌, subst}
use Rattle.std.specs.List.{flat_map}
use Rattle.ml_desk.specs.Sealing.{IsSealed}
use Rattle.ml_list_desk.specs.Items.{lists_seen}
use Rattle.ml_program.specs.LoadedProgram.{program_of}
use Rattle.ml_search.specs.Db.{Db}
use Rattle.ml_search.specs.Operations.{is_log}
use Rattle.ml_search.specs.Printed.{ending_text, session_line}
use Rattle.ml_search.specs.ProgramSeen.{program_seen, script_seen}
use Rattle.ml_search.specs.Replay.{Replays}
use Rattle.ml_search.specs.Seen.{log_seen}
use Rattle.ml_entries.specs.Entries.{AreLists}
use Rattle.ml_entries.proofs.SessionEntries.{HasLaws, entry_made, lists_after, lists_grow, moved}
use Rattle.ml_entries.proofs.session.session_block.Goals as goal

pub returns-in_err-session-clause-lists : goal.returns-in_err-session-clause-lists
returns-in_err-session-clause-lists c =
    let L = c.lists_stay_lists.ensures in
    let ds = c.args.decls.now in
    let laws : HasLaws ds = record {
      committed = L.committed ds;
      all_committed = L.all_committed;
      below = L.below ds;
      uncommitted = L.uncommitted;
      grows = L.grows;
    } in
    lists_grow ds laws c.args.number (lists_seen c.args.items.now.items) c.requires.lists

pub returns-in_err-block-clause-lists : goal.returns-in_err-block-clause-lists
returns-in_err-block-clause-lists c =
    let L = c.lists_stay_lists.ensures in
    let ds = c.args.decls.now in
    let laws : HasLaws ds = record {
      committed = L.committed ds;
      all_committed = L.all_committed;
      below = L.below ds;
      uncommitted = L.uncommitted;
      grows = L.grows;
    } in
    lists_grow ds laws c.args.number (lists_seen c.args.items.now.items) c.requires.lists

pub returns-in_err-keep_committed-clause-lists : goal.returns-in_err-keep_committed-clause-lists
returns-in_err-keep_committed-clause-lists c =
    let L = c.lists_stay_lists.ensures in
    let ds = c.args.decls.now in
    let laws : HasLaws ds = record {
      committed = L.committed ds;
      all_committed = L.all_committed;
      below = L.below ds;
      uncommitted = L.uncommitted;
      grows = L.grows;
    } in
    subst (λ is. AreLists ds (suc c.args.number) (lists_seen is.items)) (sym c.in_err-keep_committed.ensures.same)
    (lists_grow ds laws c.args.number (lists_seen c.args.items.now.items) c.requires.lists)

pub returns-clause-lists : goal.returns-clause-lists
returns-clause-lists c =
    let L = c.lists_stay_lists.ensures in
    let ds = c.args.decls.now in
    let laws : HasLaws ds = record {
      committed = L.committed ds;
      all_committed = L.all_committed;
      below = L.below ds;
      uncommitted = L.uncommitted;
      grows = L.grows;
    } in
    let k = c.args.number in
    let E = c.in_ok-session.ensures in
    let K = c.in_ok-keep_committed.ensures in
    let desk = c.in_ok-session.desk in
    let log = log_seen c.in_ok-session.session.log in
    let db = lists_seen c.args.items.now.items in
    let here = ap lists_seen c.deref.ensures.value in
    let same = c.ending.ensures.same in
    let left = moved k desk.decls ds (lists_seen desk.first.value.items) db (log_seen desk.log.items) log E.decls (ap lists_seen E.items ∙ here)
    (ap log_seen E.log)
    in
    lists_after ds laws k db (lists_seen c.keep_committed.new.items.items) log c.in_ok-session.session.ending c.requires.lists E.logged
    (subst (λ db. Replays ds db log) here E.replays) (λ e. K.committed (same ∙ e) ∙ left)
    (λ h. ap (λ is. lists_seen is.items) (K.other (λ e. h (sym same ∙ e))))

pub returns-clause-entry : goal.returns-clause-entry
returns-clause-entry c =
    let L = c.lists_stay_lists.ensures in
    let ds = c.args.decls.now in
    let laws : HasLaws ds = record {
      committed = L.committed ds;
      all_committed = L.all_committed;
      below = L.below ds;
      uncommitted = L.uncommitted;
      grows = L.grows;
    } in
    let k = c.args.number in
    let E = c.in_ok-session.ensures in
    let K = c.in_ok-keep_committed.ensures in
    let session = c.in_ok-session.session in
    let desk = c.in_ok-session.desk in
    let log = log_seen session.log in
    let db = lists_seen c.args.items.now.items in
    let here = ap lists_seen c.deref.ensures.value in
    let same = c.ending.ensures.same in
    let left = moved k desk.decls ds (lists_seen desk.first.value.items) db (log_seen desk.log.items) log E.decls (ap lists_seen E.items ∙ here)
    (ap log_seen E.log)
    in
    let meant : IsSealed (program_of c.args.program.now) (script_seen c.args.script.now) log session.lines.lines session.ending =
    subst (λ p. IsSealed (program_seen p) (script_seen c.args.script.now) log session.lines.lines session.ending) E.program
    (subst (λ s. IsSealed (program_seen session.program) (script_seen s) log session.lines.lines session.ending) E.script c.ending.ensures.meant) in
    let bytes = c.in_ok-block.ensures ∙ ap (λ n. session_line n (ending_text session.ending) ++ flat_map (λ l. l) session.lines.lines) E.number in
    entry_made (program_of c.args.program.now) (script_seen c.args.script.now) k db (lists_seen c.keep_committed.new.items.items) log session.lines.lines
    c.in_ok-block.block.items session.ending ds c.requires.declared meant bytes laws c.requires.lists
    (subst (λ db. Replays ds db log) here E.replays) (λ e. K.committed (same ∙ e) ∙ left)
    (λ h. ap (λ is. lists_seen is.items) (K.other (λ e. h (sym same ∙ e))))
