use Rattle.ml_home.proofs.RegionPrefixes.{marked_prefixes, put_prefixes, taken_prefixes}
use Rattle.ml_home.proofs.changes.prefixes_of_changed_items.Goals as goal

pub returns : goal.returns
returns c = record { put = put_prefixes; taken = taken_prefixes; marked = marked_prefixes }
