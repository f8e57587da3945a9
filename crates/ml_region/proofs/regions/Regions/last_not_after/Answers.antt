use Rattle.std.proofs.Common.{Bool, List, take, sym, subst, arith}
use Rattle.std.proofs.lemmas.List.{take_all}
use Rattle.ml_region.specs.Prefixes.{AreRooted, IsLastUpTo}
use Rattle.ml_region.specs.Regions.{region_prefixes}
use Rattle.ml_region.proofs.regions.Regions.last_not_after.Goals as goal

pub last_up_to-requires-clause-rooted : goal.last_up_to-requires-clause-rooted
last_up_to-requires-clause-rooted g c = subst AreRooted (sym c.prefixes.ensures.same) c.prefixes.ensures.rooted

pub returns : goal.returns
returns g c =
    let key : List Bool = c.args.key.now.bits in
    let ps : List (List Bool) = region_prefixes c.args.self.now.regions in
    let last : IsLastUpTo ps (take c.len.result key) c.last_up_to.result =
    subst (λ ps. IsLastUpTo ps (take c.len.result key) c.last_up_to.result) c.prefixes.ensures.same c.last_up_to.ensures in
    subst (λ k. IsLastUpTo ps k c.last_up_to.result) (take_all c.len.result key (omega (arith, c.len.ensures.length))) last
