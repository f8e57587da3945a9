-- The tables by which links are made, and links beside codes. No public clause cites this module.
use Rattle.std.specs.Prelude.{◌≡◌, ℕ, ◌^◌, ◌<◌, Bool, ◌&&◌, ◌==◌, List, length, map, position}
use Rattle.std.specs.Prelude.{is_some, slice_get, Some}
use Rattle.std.specs.Str.{bytes_eq}
use Rattle.ml_term.specs.declared.declaration.Decl.{Decl}
use Rattle.ml_term.specs.declared.declaration.Pred.{Pred}
use Rattle.ml_search.specs.declared.program.Program as P
use Rattle.ml_search.specs.Program.{Program}
use Rattle.ml_search.specs.ProgramSeen.{program_seen}
use Rattle.ml_search.specs.Procedures.{is_defined}
use Rattle.ml_stack.specs.Memories.{CompiledProcedure}
use Rattle.ml_program.specs.declared.procedure.LinkedProcedure.{LinkedProcedure}
use Rattle.ml_program.specs.Links.{procedure_place, link_beside}
use Rattle.ml_program.specs.LoadedProgram.{LoadedProgram, IsLoaded, procedures_of}
use Rattle.ml_program.specs.inside.Filing.{procedure_seen}

-- whether two predicates are the same
abbrev pub is_same : Pred → Pred → Bool
is_same p q = bytes_eq p.name q.name && (p.arity == q.arity)

-- Tables are those of a program with these procedures: its declarations, and the predicates of the
-- procedures in their order.
pub record AreTablesOf (program : Program) (ps : List CompiledProcedure) (decls : List Decl)
    (places : List Pred) : Type 0 where
  pub decls_are : decls ≡ program.decls
  pub places_are : (p : Pred) → position (is_same p) places ≡ procedure_place ps p.name p.arity
  pub defined : (f : List ℕ) (n : ℕ) → is_some (procedure_place ps f n) ≡ is_defined program f n
  pub few_decls : length decls < 2 ^ 32
  pub few : length places < 2 ^ 32

-- the links of a procedure stand beside its codes
pub record IsLinked (program : Program) (ps : List CompiledProcedure) (l : LinkedProcedure) :
    Type 0 where
  pub links : l.links.items ≡ map (map (link_beside program ps)) l.procedure.codes.items

-- each of these procedures is linked
abbrev pub AreLinked : Program → List CompiledProcedure → List LinkedProcedure → Type 0
AreLinked program ps ls =
    (p : ℕ) (l : LinkedProcedure) → slice_get ls p ≡ Some l → IsLinked program ps l

-- a loaded program as contracts see it
abbrev pub loaded_seen : P.Program → List LinkedProcedure → LoadedProgram
loaded_seen program ls =
    record { program = program; procedures = map (λ l. procedure_seen l.procedure) ls }

-- what the type of loaded programs keeps: the program is loaded, the tables are its tables, and
-- links stand beside all codes
pub record IsKept (program : P.Program) (ls : List LinkedProcedure) (decls : List Decl)
    (places : List Pred) : Type 0 where
  pub loaded : IsLoaded (program_seen program) (procedures_of (loaded_seen program ls))
  pub tables : AreTablesOf (program_seen program) (procedures_of (loaded_seen program ls)) decls
      places
  pub linked : AreLinked (program_seen program) (procedures_of (loaded_seen program ls)) ls
