use Rattle.std.proofs.Common.{refl, subst, eqb-true}
use Rattle.ml_region.specs.Prefixes.{IsOwner}
use Rattle.ml_region.specs.Regions.{region_prefixes}
use Rattle.ml_split.proofs.tests.takes_in.Goals as goal

pub returns : goal.returns
returns g c t =
    record {
      owner = subst (IsOwner (region_prefixes c.args.regions.now.regions) c.args.key.now.bits) (eqb-true _ _ t) c.owner_of.ensures;
      apart = c.if-not-is_apart.ensures refl;
    }
