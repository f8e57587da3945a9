use Rattle.ml_home.proofs.RegionPrefixes.{cut_prefixes, home_by, split_divides}
use Rattle.ml_home.proofs.changes.prefixes_of_a_split_region.Goals as goal

pub returns : goal.returns
returns c = record {
  came = λ old new i key split. cut_prefixes old new i split.prefix split.cut;
  divides = split_divides;
  home = λ regions i key new. home_by regions key i new.owner;
}
