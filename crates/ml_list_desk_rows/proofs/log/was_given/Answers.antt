-- An entry by which the cursor gave the item says that it was given.
use Rattle.std.proofs.Common.{◌≡◌, sym, ◌∙◌, rules, tests}
use Rattle.std.specs.List.{list_any}
use Rattle.std.proofs.lemmas.Iterator.{YieldsList-from_slice}
use Rattle.std.proofs.lemmas.Iterator.Search.{any_from_yields_List}
use Rattle.ml_list_desk_rows.specs.Entries.{gave_numbered}
use Rattle.ml_list_desk_rows.proofs.EntriesOfLogs.{numbered_by_entries}
use Rattle.ml_list_desk_rows.proofs.log.was_given.Goals as goal

pub returns : goal.returns
returns c told =
    let any : c.any.result ≡ list_any (gave_numbered c.args.c c.args.i) c.args.log.now =
    any_from_yields_List (gave_numbered c.args.c c.args.i) _ _ c.any.result c.any.ensures.ran (YieldsList-from_slice c.args.log.now cc)
    (λ x r q k. search (rules, tests)) in
    numbered_by_entries c.args.log.now c.args.c c.args.i (sym any ∙ told)
