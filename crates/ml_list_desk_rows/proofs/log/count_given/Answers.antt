-- The entries by which the cursor gave an item are as many as its items.
use Rattle.std.proofs.Common.{◌∙◌, rules, tests}
use Rattle.std.proofs.lemmas.Iterator.{YieldsList-from_slice}
use Rattle.std.proofs.lemmas.Iterator.Consumers.{YieldsList-from_filter, count_from_yields_List}
use Rattle.ml_list_desk_rows.specs.Entries.{gave}
use Rattle.ml_list_desk_rows.proofs.EntriesOfLogs.{given_by_entries}
use Rattle.ml_list_desk_rows.proofs.log.count_given.Goals as goal

pub returns : goal.returns
returns c =
    count_from_yields_List c.filter.result c.count.result c.count.ensures.ran
    (YieldsList-from_filter _ (gave c.args.c) (YieldsList-from_slice c.args.log.now cc) c.filter.ensures.closure (λ x r q k. search (rules, tests)))
    ∙ given_by_entries c.args.log.now c.args.c
