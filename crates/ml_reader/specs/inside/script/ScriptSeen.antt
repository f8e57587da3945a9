-- What the items and drafts of the code stand for, and what its answers have to be. No public
-- clause cites this module.
use Rattle.std.specs.Prelude.{◌≡◌, ℕ, ◌⊎◌, Option, Some, None, Result, Ok, Err}
use Rattle.ml_search.specs.GoalSeen.{goal_seen, goals_seen, last_seen}
use Rattle.ml_search.specs.Program.{Script}
use Rattle.ml_search.specs.ProgramSeen.{script_seen}
use Rattle.ml_search.specs.declared.script.Script as S
use Rattle.ml_reader.specs.Faults.{fault}
use Rattle.ml_reader.specs.Lexemes.{ReadClause}
use Rattle.ml_reader.specs.inside.script.ScriptItems as I
use Rattle.ml_reader.specs.declared.fault.ReadKind.TheVariants.{BadScriptItem}
use Rattle.ml_reader.specs.declared.fault.ReadStop.{ReadStop}
use Rattle.ml_reader.specs.declared.fault.ReadStop.TheVariants.{Fault, OutOfMemory}
use Rattle.ml_reader.specs.declared.script.draft.Draft.{Draft}
use Rattle.ml_reader.specs.declared.script.draft.Draft.TheVariants.{NoClauses, GoalsSoFar}
use Rattle.ml_reader.specs.declared.script.draft.Draft.TheVariants.{CompleteScript}
use Rattle.ml_reader.specs.declared.script.item.Item.{Item}
use Rattle.ml_reader.specs.declared.script.item.Item.TheVariants.{Budget, Query, Ending, Other}

-- an item
abbrev pub item_seen : Item → I.Item
item_seen (Budget n) = I.set_budget n
item_seen (Query g) = I.goal_item (goal_seen g)
item_seen (Ending l) = I.end_item (last_seen l)
item_seen Other = I.other_item

-- what stands of a script
abbrev pub draft_seen : Draft → I.Draft
draft_seen NoClauses = I.no_clauses
draft_seen (GoalsSoFar n gs) = I.goals_so_far n (goals_seen gs.items)
draft_seen (CompleteScript n gs l) =
    I.complete_script (I.script n (goals_seen gs.items) (last_seen l))

-- no script has the clause at this place, if none is what it comes to; or memory was refused
abbrev pub IsRefused : Option I.Draft → ℕ → ReadStop → Type 0
IsRefused d place stop =
    (stop ≡ OutOfMemory) ⊎ ((stop ≡ Fault (fault BadScriptItem place)) × (d ≡ None))

-- what one item more comes to
abbrev pub IsAdded : Option I.Draft → ℕ → Result Draft ReadStop → Type 0
IsAdded d place (Ok e) = d ≡ Some (draft_seen e)
IsAdded d place (Err stop) = IsRefused d place stop

-- what all clauses come to
abbrev pub IsRun : Result Script ReadClause → Result S.Script ReadStop → Type 0
IsRun r (Ok s) = r ≡ Ok (script_seen s)
IsRun r (Err stop) = (stop ≡ OutOfMemory)
    ⊎ ((w : ReadClause) × (stop ≡ Fault (fault BadScriptItem w.place)) × (r ≡ Err w))
