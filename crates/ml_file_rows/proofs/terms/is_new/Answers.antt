-- An item of a file lies in one of its regions, and none there has the number.
use Rattle.std.proofs.Common.{ℕ, ◌<◌, List, length, get_or, arith}
use Rattle.std.specs.Prelude.{◌≢◌}
use Rattle.std.specs.List.{All}
use Rattle.std.proofs.lemmas.List.Elements.{All-contains, Contains-get_or}
use Rattle.ml_region.specs.Regions.{Region, items_at}
use Rattle.ml_region.specs.declared.item.Item.{Item}
use Rattle.ml_file.specs.Files.{items_in}
use Rattle.ml_file.proofs.HeldItems.{LiesIn, item_lies}
use Rattle.ml_file_rows.proofs.terms.is_new.Goals as goal

all_new : (regions : List Region) (number : ℕ) → ((k : ℕ) → k < length regions → All (λ (x : Item). x.number ≢ number) (items_at regions k))
    → All (λ (x : Item). x.number ≢ number) (items_in regions)
all_new regions number each k d l =
    let x : Item = get_or (items_in regions) k d in
    let lies : LiesIn regions x = item_lies regions x (Contains-get_or (items_in regions) k d l) in
    All-contains (λ (y : Item). y.number ≢ number) (items_at regions lies.region) x (each lies.region lies.within) lies.inside

pub returns : goal.returns
returns c t =
    all_new c.args.file.now.regions c.args.number (λ k l. c.loop-i.invariant k (omega (arith, c.len-i-end.ensures.length, c.loop-i-test.false, l)))
