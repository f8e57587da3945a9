use Rattle.std.proofs.Common.{ap, subst}
use Rattle.std.specs.Prelude.{MatchOption}
use Rattle.ml_region.specs.Regions.{HasNoKey, IsFound}
use Rattle.ml_file.specs.Files.{File, IsAbsent, IsHeld}
use Rattle.ml_file.proofs.HeldItems.{weaker, absent_from, held_from}
use Rattle.ml_file.proofs.file.BangFile.at.Goals as goal

pub returns : goal.returns
returns c =
    let regions = c.self.inside.regions.regions in
    let key = c.args.key.now.bits in
    subst (λ rs. MatchOption c.find.result (IsAbsent rs key) (λ item. IsHeld rs key item.now)) (ap (λ (f : File). f.regions) c.self.view_is)
    (weaker c.find.result (HasNoKey regions key) (IsAbsent regions key) (λ item. IsFound regions key item.now) (λ item. IsHeld regions key item.now)
    (absent_from regions key) (λ item. held_from regions key item.now) c.find.ensures)
