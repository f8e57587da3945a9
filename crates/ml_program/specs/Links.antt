-- Where calls lead. The search decides at each call what its goal is; the code decides it once for
-- each name and arity, and keeps the answer beside the call.
use Rattle.std.specs.Prelude.{ℕ, suc, Bool, ◌&&◌, ◌==◌, List, [], ◌∷◌, Option, Some, None, codes}
use Rattle.std.specs.Prelude.{option_map, unwrap_or, if◌then◌else◌}
use Rattle.std.specs.Str.{bytes_eq}
use Rattle.ml_search.specs.Names.{look_up}
use Rattle.ml_search.specs.Program.{Program}
use Rattle.ml_search.specs.Standing.{Standing, of_plain, of_store, of_declared, of_program}
use Rattle.ml_search.specs.Standing.{of_nothing, standing}
use Rattle.ml_builtin.specs.Tables.{plain_of}
use Rattle.ml_builtin.specs.declared.plain.Plain as B
use Rattle.ml_compile.specs.declared.instr.Instr.{Instr}
use Rattle.ml_compile.specs.declared.instr.Instr.TheVariants.{Call as CallOf}
use Rattle.ml_stack.specs.Memories.{CompiledProcedure}
use Rattle.ml_program.specs.declared.link.ControlCall.{ControlCall}
use Rattle.ml_program.specs.declared.link.ControlCall.TheVariants.{Call, Once, NotProvable, Throw}
use Rattle.ml_program.specs.declared.link.ControlCall.TheVariants.{Findall, Catch}
use Rattle.ml_program.specs.declared.link.StoreCall.{StoreCall}
use Rattle.ml_program.specs.declared.link.StoreCall.TheVariants.{InsertTuple, DeleteTuple, Asserta}
use Rattle.ml_program.specs.declared.link.StoreCall.TheVariants.{Assertz, Retract}
use Rattle.ml_program.specs.declared.link.Link.{Link}
use Rattle.ml_program.specs.declared.link.Link.TheVariants.{Control, Plain, Store, Declared}
use Rattle.ml_program.specs.declared.link.Link.TheVariants.{Procedure, Unknown}

-- the control constructs of one argument that are called
abbrev pub control_calls_1 : List (List ℕ × ControlCall)
control_calls_1 =
    (codes "call", Call) ∷ (codes "once", Once) ∷ (codes "\\+", NotProvable)
    ∷ (codes "throw", Throw) ∷ []

-- those of three arguments
abbrev pub control_calls_3 : List (List ℕ × ControlCall)
control_calls_3 = (codes "findall", Findall) ∷ (codes "catch", Catch) ∷ []

-- the control construct of a name and arity, if it is one that is called
abbrev pub control_call : List ℕ → ℕ → Option ControlCall
control_call f n =
    if n == 1 then look_up control_calls_1 f
    else if n == 3 then look_up control_calls_3 f
    else None

-- the built-ins that change lists
abbrev pub store_calls : List (List ℕ × StoreCall)
store_calls =
    (codes "insert_tuple", InsertTuple) ∷ (codes "delete_tuple", DeleteTuple)
    ∷ (codes "assertz", Assertz) ∷ (codes "asserta", Asserta) ∷ (codes "retract", Retract) ∷ []

-- the built-in that changes lists of a name and arity
abbrev pub store_call : List ℕ → ℕ → Option StoreCall
store_call f n = if n == 1 then look_up store_calls f else None

-- whether a procedure is of this name and arity
abbrev pub is_procedure_of : List ℕ → ℕ → CompiledProcedure → Bool
is_procedure_of f n d = bytes_eq d.name f && (d.arity == n)

-- the number of a predicate's procedure, from 0
abbrev pub procedure_place : List CompiledProcedure → List ℕ → ℕ → Option ℕ
procedure_place [] f n = None
procedure_place (d ∷ ds) f n =
    if is_procedure_of f n d then Some 0
    else option_map suc (procedure_place ds f n)

-- The link of a predicate: by the control construct that it is, its standing, the plain built-in
-- and the store built-in that it is, and the number of its procedure. A control construct is one
-- whatever else stands under its name, since a body is taken in before any name is looked up.
abbrev pub link_by : Option ControlCall → Standing → Option B.Plain → Option StoreCall → ℕ → Link
link_by (Some c) s b k p = Control c
link_by None of_plain (Some b) k p = Plain b
link_by None of_plain None k p = Unknown
link_by None of_store b (Some k) p = Store k
link_by None of_store b None p = Unknown
link_by None (of_declared kind d) b k p = Declared kind d
link_by None of_program b k p = Procedure p
link_by None of_nothing b k p = Unknown

-- the link of a predicate in a program with these procedures
unfoldable pub link_of : Program → List CompiledProcedure → List ℕ → ℕ → Link
link_of program ps f n =
    link_by (control_call f n) (standing program f n) (plain_of f n) (store_call f n)
    (unwrap_or (procedure_place ps f n) 0)

-- what stands beside an instruction: the link of a call; beside any other the link that leads
-- nowhere
abbrev pub link_beside : Program → List CompiledProcedure → Instr → Link
link_beside program ps (CallOf g) = link_of program ps g.name g.arity
link_beside program ps i = Unknown
