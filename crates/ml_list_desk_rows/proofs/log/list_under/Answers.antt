-- The entries give the opened lists, one after another.
use Rattle.std.proofs.Common.{sym, ap, ◌∙◌, rules, tests}
use Rattle.std.specs.Prelude.{slice_get}
use Rattle.std.proofs.lemmas.Iterator.{YieldsList-from_slice}
use Rattle.std.proofs.lemmas.Iterator.Consumers.{YieldsList-from_filter_map, nth_from_yields_List}
use Rattle.ml_list_desk_rows.specs.Entries.{list_opened}
use Rattle.ml_list_desk_rows.proofs.EntriesOfLogs.{opened_by_entries, whole}
use Rattle.ml_list_desk_rows.proofs.log.list_under.Goals as goal

pub returns : goal.returns
returns c =
    sym (whole c.nth.result)
    ∙ (nth_from_yields_List c.nth.result _ c.args.c c.nth.ensures.ran
    (YieldsList-from_filter_map _ list_opened (YieldsList-from_slice c.args.log.now cc) c.filter_map.ensures.closure (λ x r q k. search (rules, tests)))
    ∙ ap (λ xs. slice_get xs c.args.c) (opened_by_entries c.args.log.now))
