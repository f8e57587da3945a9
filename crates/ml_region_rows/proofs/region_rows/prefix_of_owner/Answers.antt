use Rattle.std.proofs.Common.{sym, arith}
use Rattle.ml_region.proofs.ListingChanges.{prefixes_length}
use Rattle.ml_region_rows.proofs.region_rows.prefix_of_owner.Goals as goal

pub prefix_of-requires : goal.prefix_of-requires
prefix_of-requires c =
    record {
      place = c.owner.ensures.place;
      within = omega (arith, c.owner.ensures.owner.within, prefixes_length c.args.dir.now.entries);
      same = sym c.owner.ensures.same;
    }
