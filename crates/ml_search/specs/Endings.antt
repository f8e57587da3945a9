-- How the entry of a session ends. The code keeps it beside the entry's lines; here it is found in
-- what the session gave.
use Rattle.std.specs.Prelude.{Option, Some, None}
use Rattle.ml_search.specs.declared.ending.Ending.{Ending}
use Rattle.ml_search.specs.declared.ending.Ending.TheVariants as E
use Rattle.ml_search.specs.declared.ending.EntryEnding.{EntryEnding}
use Rattle.ml_search.specs.declared.ending.EntryEnding.TheVariants.{Committed, Aborted, Refused}
use Rattle.ml_search.specs.declared.ending.EntryEnding.TheVariants.{Failed, OutOfMemory}
use Rattle.ml_search.specs.Session.{Session}
use Rattle.ml_search.specs.History.{Entry}

-- the ending of an entry by that of its session
abbrev pub entry_ending : Ending → EntryEnding
entry_ending E.Committed = Committed
entry_ending E.Aborted = Aborted
entry_ending E.Refused = Refused
entry_ending (E.Failed j) = Failed j

-- the ending of an entry
abbrev pub ending_of : Entry → EntryEnding
ending_of e = by e.ran
  where
    by : Option Session → EntryEnding
    by None = OutOfMemory
    by (Some s) = entry_ending s.ending
