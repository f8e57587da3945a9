use Rattle.std.proofs.Common.{List, [], sym, subst, arith}
use Rattle.std.specs.Prelude.{IfOk, None}
use Rattle.std.specs.Option.{option_copied}
use Rattle.std.proofs.lemmas.Result.{IfOk-weaker}
use Rattle.ml_file.specs.Files.{items_in}
use Rattle.ml_region.proofs.StoredRegions.{region_prefixes_length}
use Rattle.ml_region.specs.Prefixes.{IsLastUpTo}
use Rattle.ml_region.specs.Regions.{IsWellPlaced, Region, region_prefixes}
use Rattle.ml_term.specs.Seen.{seen}
use Rattle.ml_lookup.specs.Next.{IsNextIn}
use Rattle.ml_lookup.proofs.NextItems.{none_in}
use Rattle.ml_lookup.proofs.Walking.{above_before, nothing_before}
use Rattle.ml_lookup.proofs.next.next_after.Goals as goal

pub returns-in_default : goal.returns-in_default
returns-in_default c =
    let kind = c.args.file.now.decl.kind in
    let pattern = seen c.args.head.now in
    let regions : List Region = c.args.file.now.regions in
    subst (λ a. IfOk c.next_from.result (λ found. IsNextIn kind pattern (option_copied a) (items_in regions) found)) (sym c.in_default.is)
    (IfOk-weaker c.next_from.result _ _ (λ found f. f [] (none_in kind pattern None) (nothing_before kind pattern None regions)) c.next_from.ensures)

pub overflow_add-from : goal.overflow_add-from
overflow_add-from c =
    omega (arith, c.last_not_after-from.ensures.within, region_prefixes_length c.regions-regions.result.now.regions, c.len-well_placed.ensures.length)

pub returns : goal.returns
returns c =
    let kind = c.args.file.now.decl.kind in
    let pattern = seen c.args.head.now in
    let regions : List Region = c.args.file.now.regions in
    let key = c.in-Some.key.now in
    let found = c.in_ok-best.ensures in
    let last : IsLastUpTo (region_prefixes regions) key.bits c.last_not_after-from.result =
    subst (λ rs. IsLastUpTo (region_prefixes rs) key.bits c.last_not_after-from.result) c.regions-regions.ensures c.last_not_after-from.ensures in
    let well = subst IsWellPlaced c.regions-regions.ensures c.len-well_placed.ensures.well_placed in
    subst (λ a. IfOk c.next_from-2.result (λ found. IsNextIn kind pattern (option_copied a) (items_in regions) found)) (sym c.in-Some.is)
    (IfOk-weaker c.next_from-2.result _ _
    (λ next f. f found.0 found.1.0 (above_before kind pattern key regions c.last_not_after-from.result found.0 well last found.1.1)) c.next_from-2.ensures)
