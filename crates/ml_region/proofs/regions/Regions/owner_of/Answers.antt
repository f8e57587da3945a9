use Rattle.std.proofs.Common.{Bool, List, take, sym, subst, arith}
use Rattle.std.proofs.lemmas.List.{take_all}
use Rattle.ml_region.specs.Prefixes.{AreRooted, IsOwner}
use Rattle.ml_region.specs.Regions.{region_prefixes}
use Rattle.ml_region.proofs.regions.Regions.owner_of.Goals as goal

pub owner_within-requires-clause-rooted : goal.owner_within-requires-clause-rooted
owner_within-requires-clause-rooted g c = subst AreRooted (sym c.prefixes.ensures.same) c.prefixes.ensures.rooted

pub returns : goal.returns
returns g c =
    let key : List Bool = c.args.key.now.bits in
    let ps : List (List Bool) = region_prefixes c.args.self.now.regions in
    let own : IsOwner ps (take c.len.result key) c.owner_within.result =
    subst (λ ps. IsOwner ps (take c.len.result key) c.owner_within.result) c.prefixes.ensures.same c.owner_within.ensures in
    subst (λ k. IsOwner ps k c.owner_within.result) (take_all c.len.result key (omega (arith, c.len.ensures.length))) own
