use Rattle.std.proofs.Common.{◌≡◌, [], length, set, ap, ◌∙◌, arith, length-append}
use Rattle.std.proofs.Math.ListN.{length-set}
use Rattle.std.proofs.lemmas.List.{get_or-set_same}
use Rattle.std.proofs.lemmas.List.Sorted.{length_permutation}
use Rattle.ml_region.specs.inside.Stored.{page_at}
use Rattle.ml_region.proofs.moves.pour_and_part.Goals as goal

pub move_below-requires-clause-few : goal.move_below-requires-clause-few
move_below-requires-clause-few c =
    let pages = c.args.pages.now in
    let poured = c.pour.ensures in
    let page : page_at c.pour.new.pages c.args.to ≡ poured.items =
    ap (λ ps. page_at ps c.args.to) poured.same ∙ get_or-set_same (set pages c.args.from []) c.args.to poured.items []
    (omega (arith, length-set pages c.args.from [], c.requires.to)) in
    omega (
      arith,
      ap length page,
      length_permutation _ poured.items poured.all,
      length-append (page_at pages c.args.to) (page_at pages c.args.from),
      c.requires.few,
    )
