-- Which script a text is, within all limits, and the first fault of a text that is none.
use Rattle.std.specs.Prelude.{ℕ, List}
use Rattle.ml_search.specs.Program.{Script}
use Rattle.ml_reader.specs.Lexemes.{ReadClause}
use Rattle.ml_reader.specs.Texts.{IsRead}
use Rattle.ml_reader.specs.Faults.{fault, HasFirstFault}
use Rattle.ml_reader.specs.Scripts.{IsScriptOf, IsFirstWrong}
use Rattle.ml_reader.specs.declared.fault.ReadFault.{ReadFault}
use Rattle.ml_reader.specs.declared.fault.ReadKind.TheVariants.{BadScriptItem}

-- the bytes are a text of clauses that are this script
pub record IsScript (bytes : List ℕ) (s : Script) : Type 0 where
  pub clauses : List ReadClause
  pub read : IsRead bytes clauses
  pub script : IsScriptOf clauses s

-- the first fault of a text that is no script. One that is no text of clauses has its own first
-- fault, wherever that stands, and else the fault is the first clause with which no script goes on,
-- at the place of its first token
pub data HasScriptFault (bytes : List ℕ) : ReadFault → Type 0 where
  no_text : {f : ReadFault} → HasFirstFault bytes f → HasScriptFault bytes f
  wrong_item : {cs : List ReadClause} {w : ReadClause} → IsRead bytes cs → IsFirstWrong cs w
      → HasScriptFault bytes (fault BadScriptItem w.place)
