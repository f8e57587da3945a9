use Rattle.std.proofs.Common.{sym, ◌∙◌}
use Rattle.ml_region.proofs.ListingChanges.{prefixes_length}
use Rattle.ml_region.proofs.prefixes.DirectoryPrefixesPrefixes.len.Goals as goal

pub returns : goal.returns
returns g c = c.args.self.now.all ∙ sym (prefixes_length (g.D.Directory.listing c.args.self.now.dir.now).entries)
