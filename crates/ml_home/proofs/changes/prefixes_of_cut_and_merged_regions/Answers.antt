use Rattle.ml_home.proofs.RegionPrefixes.{above_of, cut_prefixes, merged_prefixes}
use Rattle.ml_home.proofs.changes.prefixes_of_cut_and_merged_regions.Goals as goal

pub returns : goal.returns
returns c = record {
  cut = cut_prefixes;
  merged = merged_prefixes;
  parent = λ old new i merged. above_of old _ merged.parent merged.is_parent;
}
