-- What contracts see of a loaded program, and what its type keeps. The code has a table of
-- predicates, vectors of codes, and links beside them; here a program is its clauses, and
-- procedures are a list.
use Rattle.std.specs.Prelude.{◌≡◌, ℕ, ◌^◌, ◌<◌, ◌≤◌, List, [], ◌∷◌, length, map, slice_get, Some}
use Rattle.std.specs.Prelude.{is_some}
use Rattle.ml_term.specs.declared.declaration.Pred.{Pred}
use Rattle.ml_search.specs.declared.program.Program as P
use Rattle.ml_search.specs.Program.{Clause, Program, clauses_of}
use Rattle.ml_search.specs.ProgramSeen.{program_seen}
use Rattle.ml_search.specs.Procedures.{is_defined}
use Rattle.ml_compile.specs.declared.instr.Instr.{Instr}
use Rattle.ml_compile.specs.Spells.{SpellsClause}
use Rattle.ml_stack.specs.Memories.{CompiledProcedure}
use Rattle.ml_program.specs.Links.{procedure_place}

-- a predicate and the codes of its clauses, in order
pub record PredicateCodes : Type 0 where
  pub pred : Pred
  pub codes : List (List Instr)

-- the program that was loaded, and the codes of its predicates
pub record LoadedProgram : Type 0 where
  pub program : P.Program
  pub procedures : List PredicateCodes

-- a procedure of a program: the codes of a predicate, with the clauses that the program has of it
abbrev pub compiled_in : Program → PredicateCodes → CompiledProcedure
compiled_in program p =
    record {
      name = p.pred.name;
      arity = p.pred.arity;
      clauses = clauses_of program.clauses p.pred.name p.pred.arity;
      codes = p.codes;
    }

-- the program that was loaded
abbrev pub program_of : LoadedProgram → Program
program_of l = program_seen l.program

-- its procedures
abbrev pub procedures_of : LoadedProgram → List CompiledProcedure
procedures_of l = map (compiled_in (program_of l)) l.procedures

-- codes spell clauses, one for one and in order
pub data SpellEach : List (List Instr) → List Clause → Type 0 where
  none_spelled : SpellEach [] []
  one_more_spelled : {code : List Instr} {c : Clause} {codes : List (List Instr)}
      {cs : List Clause} → SpellsClause code c → SpellEach codes cs
      → SpellEach (code ∷ codes) (c ∷ cs)

-- A procedure is compiled: its clauses are those that the program has of its predicate, one at
-- least, and its codes spell them. They are numbered by 32 bits.
pub record IsCompiled (program : Program) (d : CompiledProcedure) : Type 0 where
  pub clauses : d.clauses ≡ clauses_of program.clauses d.name d.arity
  pub spelled : SpellEach d.codes d.clauses
  pub some : 1 ≤ length d.clauses
  pub few : length d.codes < 2 ^ 32

-- A program is loaded: its procedures are compiled, each is found under its predicate, so that no
-- two are of one, and a predicate has one if and only if it has clauses in the program. They are
-- numbered by 32 bits.
pub record IsLoaded (program : Program) (ps : List CompiledProcedure) : Type 0 where
  pub compiled : (p : ℕ) (d : CompiledProcedure) → slice_get ps p ≡ Some d → IsCompiled program d
  pub found : (p : ℕ) (d : CompiledProcedure) → slice_get ps p ≡ Some d
      → procedure_place ps d.name d.arity ≡ Some p
  pub defined : (f : List ℕ) (n : ℕ) → is_some (procedure_place ps f n) ≡ is_defined program f n
  pub few : length ps < 2 ^ 32
