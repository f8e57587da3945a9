-- What a link tells of a goal, in the words of the search.
use Rattle.std.specs.Prelude.{◌≡◌, ℕ, List, [], ◌∷◌, length, slice_get, Option, Some, None, codes}
use Rattle.ml_term.specs.Tree.{Tree}
use Rattle.ml_search.specs.Actions.{program_predicate}
use Rattle.ml_search.specs.Bodies.{Body, call, once, not_provable, throw, findall, catch}
use Rattle.ml_search.specs.Procedures.{procedure_of}
use Rattle.ml_search.specs.Program.{Program}
use Rattle.ml_stack.specs.Memories.{CompiledProcedure}
use Rattle.ml_program.specs.declared.link.ControlCall.{ControlCall}
use Rattle.ml_program.specs.declared.link.ControlCall.TheVariants.{Call, Once, NotProvable, Throw}
use Rattle.ml_program.specs.declared.link.ControlCall.TheVariants.{Findall, Catch}
use Rattle.ml_program.specs.declared.link.StoreCall.{StoreCall}
use Rattle.ml_program.specs.declared.link.StoreCall.TheVariants.{InsertTuple, DeleteTuple, Asserta}
use Rattle.ml_program.specs.declared.link.StoreCall.TheVariants.{Assertz, Retract}
use Rattle.ml_program.specs.declared.link.Link.{Link}
use Rattle.ml_program.specs.declared.link.Link.TheVariants.{Control}

-- the control construct to which a link leads, if it leads to one
abbrev pub control_of : Link → Option ControlCall
control_of (Control c) = Some c
control_of l = None

-- a control construct with its arguments, as a body
pub data IsControlBody : ControlCall → List Tree → Body → Type 0 where
  calls_goal : {t : Tree} → IsControlBody Call (t ∷ []) (call t)
  calls_once : {t : Tree} → IsControlBody Once (t ∷ []) (once t)
  refutes_goal : {t : Tree} → IsControlBody NotProvable (t ∷ []) (not_provable t)
  throws_ball : {t : Tree} → IsControlBody Throw (t ∷ []) (throw t)
  finds_all : {t u v : Tree} → IsControlBody Findall (t ∷ u ∷ v ∷ []) (findall t u v)
  catches_ball : {t u v : Tree} → IsControlBody Catch (t ∷ u ∷ v ∷ []) (catch t u v)

-- the name of a built-in that changes lists
abbrev pub store_name : StoreCall → List ℕ
store_name InsertTuple = codes "insert_tuple"
store_name DeleteTuple = codes "delete_tuple"
store_name Asserta = codes "asserta"
store_name Assertz = codes "assertz"
store_name Retract = codes "retract"

-- a goal of a predicate with clauses in the program: its procedure has this number, and the search
-- tries the clauses of that procedure
pub record IsProgramGoal (program : Program) (ps : List CompiledProcedure) (f : List ℕ)
    (ts : List Tree) (p : ℕ) : Type 0 where
  pub procedure : CompiledProcedure
  pub there : slice_get ps p ≡ Some procedure
  pub name : procedure.name ≡ f
  pub arity : procedure.arity ≡ length ts
  pub is : procedure_of program f ts ≡ program_predicate procedure.clauses
