-- Clauses filed one after another, each under its predicate. No public clause cites this module.
use Rattle.std.specs.Prelude.{◌≡◌, ℕ, suc, ◌^◌, ◌<◌, ◌≤◌, Bool, ◌&&◌, ◌==◌, List, [], ◌∷◌, ◌++◌}
use Rattle.std.specs.Prelude.{length, map, Option, Some, None, option_map, if◌then◌else◌}
use Rattle.std.specs.Str.{bytes_eq}
use Rattle.ml_term.specs.declared.declaration.Pred.{Pred}
use Rattle.ml_search.specs.Program.{Clause, clauses_of}
use Rattle.ml_compile.specs.declared.instr.Instr.{Instr}
use Rattle.ml_program.specs.declared.procedure.Procedure.{Procedure}
use Rattle.ml_program.specs.LoadedProgram.{PredicateCodes, SpellEach}

-- a procedure of the code, with lists in place of vectors
abbrev pub procedure_seen : Procedure → PredicateCodes
procedure_seen p = record { pred = p.pred; codes = p.codes.items }

-- procedures of the code
abbrev pub procedures_seen : List Procedure → List PredicateCodes
procedures_seen = map procedure_seen

-- the predicates of procedures of the code
abbrev pub predicates_of : List Procedure → List Pred
predicates_of = map (λ p. p.pred)

-- whether codes are of a predicate of this name and arity
abbrev pub are_of : List ℕ → ℕ → PredicateCodes → Bool
are_of f n d = bytes_eq d.pred.name f && (d.pred.arity == n)

-- the place of a predicate's codes, from 0
abbrev pub filed_place : List PredicateCodes → List ℕ → ℕ → Option ℕ
filed_place [] f n = None
filed_place (d ∷ ds) f n = if are_of f n d then Some 0 else option_map suc (filed_place ds f n)

-- one code more of a predicate: behind its other codes, or, where it has none, behind all others
abbrev pub with_code : List PredicateCodes → Pred → List Instr → List PredicateCodes
with_code [] p code = record { pred = p; codes = code ∷ [] } ∷ []
with_code (d ∷ ds) p code =
    if are_of p.name p.arity d then record { pred = d.pred; codes = d.codes ++ code ∷ [] } ∷ ds
    else d ∷ with_code ds p code

-- the codes of a predicate spell the clauses that a list has of it, one at least
pub record AreCodesOf (cs : List Clause) (d : PredicateCodes) : Type 0 where
  pub spelled : SpellEach d.codes (clauses_of cs d.pred.name d.pred.arity)
  pub some : 1 ≤ length d.codes

-- each codes are those of their predicate, and no two are of one
abbrev pub EachIsFiled : List Clause → List PredicateCodes → Type 0
EachIsFiled cs [] = Unit {0}
EachIsFiled cs (d ∷ ds) =
    AreCodesOf cs d × (filed_place ds d.pred.name d.pred.arity ≡ None) × EachIsFiled cs ds

-- the clauses of a list are filed: each codes are those of their predicate, and a predicate that
-- has none has no clauses
pub record AreFiled (cs : List Clause) (ds : List PredicateCodes) : Type 0 where
  pub each : EachIsFiled cs ds
  pub all : (f : List ℕ) (n : ℕ) → filed_place ds f n ≡ None → clauses_of cs f n ≡ []

-- no predicate has more codes than 32 bits can number
abbrev pub EachIsFew : List PredicateCodes → Type 0
EachIsFew [] = Unit {0}
EachIsFew (d ∷ ds) = (length d.codes < 2 ^ 32) × EachIsFew ds

-- nor are there more predicates
pub record AreFew (ds : List PredicateCodes) : Type 0 where
  pub each : EachIsFew ds
  pub few : length ds < 2 ^ 32
