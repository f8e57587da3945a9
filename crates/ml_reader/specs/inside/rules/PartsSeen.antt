-- What the code's parts and items of rules are seen as: the same, with trees in place of terms. No
-- public clause cites this module.
use Rattle.ml_term.specs.Seen.{seen}
use Rattle.ml_search.specs.ClauseSeen.{clause_seen}
use Rattle.ml_reader.specs.Rules.{Part, program_clause, list_item, wrong_part}
use Rattle.ml_reader.specs.declared.rules.part.Part as P
use Rattle.ml_reader.specs.declared.rules.part.Part.TheVariants.{Program, Item, Wrong}

-- the part that it is
abbrev pub part_seen : P.Part → Part
part_seen (Program c) = program_clause (clause_seen c)
part_seen (Item k t) = list_item k (seen t)
part_seen (Wrong kind) = wrong_part kind
