-- What rules are: declared predicates, clauses of a program, and the items that the lists of
-- declared predicates have at first; and where rules go wrong first. Each clause is looked at under
-- all declarations of the text. The code goes through the clauses twice, and stops at the first
-- fault.
use Rattle.std.specs.Prelude.{◌≡◌, ℕ, Bool, true, false, ◌&&◌, IsTrue, List, Option, Some, None}
use Rattle.std.specs.Prelude.{IsSome, if◌then◌else◌, slice_get}
use Rattle.std.specs.List.{list_all, filter_map, AllZip}
use Rattle.ml_term.specs.Tree.{Tree, is_ground}
use Rattle.ml_term.specs.declared.declaration.Decl.{Decl}
use Rattle.ml_search.specs.Program.{Clause, Program, name_of, arity_of, true_body, clause_term}
use Rattle.ml_search.specs.Program.{place_of, holds_of, is_relation}
use Rattle.ml_search.specs.Bodies.{is_callable}
use Rattle.ml_search.specs.Procedures.{is_over_bytes}
use Rattle.ml_search.specs.WellFormed.{is_clause_head, are_declared_once}
use Rattle.ml_reader.specs.Lexemes.{ReadClause}
use Rattle.ml_reader.specs.Declarations.{Declares}
use Rattle.ml_reader.specs.Faults.{fault, HasFirstFault}
use Rattle.ml_reader.specs.Forms.{Form, directive, query, rule, fact, form, directives, ComesNext}
use Rattle.ml_reader.specs.Texts.{IsRead}
use Rattle.ml_reader.specs.declared.fault.ReadFault.{ReadFault}
use Rattle.ml_reader.specs.declared.fault.ReadKind.{ReadKind}
use Rattle.ml_reader.specs.declared.fault.ReadKind.TheVariants.{BadDeclaration, TwiceDeclared}
use Rattle.ml_reader.specs.declared.fault.ReadKind.TheVariants.{BadClause, ItemTooLarge}

-- the clauses `:- T` declare these, in order, and no predicate twice
pub record Declare (cs : List ReadClause) (ds : List Decl) : Type 0 where
  pub each : AllZip Declares (directives cs) ds
  pub once : IsTrue (are_declared_once ds)

-- What a clause is: it belongs to the program, it is an item of the declaration with a number, or
-- it is wrong.
pub data Part : Type 0 where
  program_clause : Clause → Part
  list_item : ℕ → Tree → Part
  wrong_part : ReadKind → Part

-- an item of a declaration, unless it is too large
abbrev pub item_within_size : ℕ → Tree → Part
item_within_size k t = if is_over_bytes t then wrong_part ItemTooLarge else list_item k t

-- whether the declaration with a number is one of a relation
abbrev pub is_relation_at : List Decl → ℕ → Bool
is_relation_at ds k = holds_of is_relation (slice_get ds k)

-- the number of the declaration of a head's predicate
abbrev pub place_for : List Decl → Tree → Option ℕ
place_for ds h = place_of ds (name_of h) (arity_of h)

-- `HEAD`: a relation has it as its ground tuple, and a list of clauses with the body `true`
abbrev pub fact_at : List Decl → Option ℕ → Tree → Part
fact_at ds None h = program_clause (record { head = h; body = true_body })
fact_at ds (Some k) h =
    if is_relation_at ds k then (if is_ground h then item_within_size k h else wrong_part BadClause)
    else item_within_size k (clause_term h true_body)

-- `HEAD :- BODY`: no relation has it
abbrev pub rule_at : List Decl → Option ℕ → Tree → Tree → Part
rule_at ds None h b = program_clause (record { head = h; body = b })
rule_at ds (Some k) h b =
    if is_relation_at ds k then wrong_part BadClause else item_within_size k (clause_term h b)

-- what a clause is that is no `:- T`
abbrev pub part : List Decl → Form → Option Part
part ds (directive t) = None
part ds (query t) = Some (wrong_part BadClause)
part ds (rule h b) = Some
    (if is_clause_head h && is_callable b then rule_at ds (place_for ds h) h b
    else wrong_part BadClause)
part ds (fact h) = Some
    (if is_clause_head h then fact_at ds (place_for ds h) h else wrong_part BadClause)

-- what the clauses are that are no `:- T`, in order
abbrev pub parts : List Decl → List ReadClause → List Part
parts ds cs = filter_map (λ c. part ds (form c.term)) cs

-- whether a part isn't wrong
abbrev pub is_right : Part → Bool
is_right (program_clause c) = true
is_right (list_item k t) = true
is_right (wrong_part k) = false

-- the clause of a part that belongs to the program
abbrev pub clause_part : Part → Option Clause
clause_part (program_clause c) = Some c
clause_part (list_item k t) = None
clause_part (wrong_part k) = None

-- the item of a part that belongs to a list, with the number of its declaration
abbrev pub item_part : Part → Option (ℕ × Tree)
item_part (program_clause c) = None
item_part (list_item k t) = Some (k, t)
item_part (wrong_part k) = None

-- the clauses are rules of this program, with these initial items, each with the number of its
-- declaration, in the order of the text
pub record AreRules (cs : List ReadClause) (program : Program) (items : List (ℕ × Tree)) : Type
    0 where
  pub declared : Declare cs program.decls
  pub right : IsTrue (list_all is_right (parts program.decls cs))
  pub in_program : program.clauses ≡ filter_map clause_part (parts program.decls cs)
  pub in_lists : items ≡ filter_map item_part (parts program.decls cs)

-- Where the clauses go wrong first. A clause `:- T` that declares nothing, or a predicate that was
-- declared before, where those before it are right; or, where all of these are right, the first
-- other clause that is wrong.
pub data RulesGoWrong (cs : List ReadClause) : ReadFault → Type 0 where
  bad_declaration : {before : List ReadClause} {c : ReadClause} {ds : List Decl} (t : Tree)
      → ComesNext cs before c → Declare before ds → form c.term ≡ directive t
      → ((d : Decl) → Declares t d → ⊥) → RulesGoWrong cs (fault BadDeclaration c.place)
  declared_twice : {before : List ReadClause} {c : ReadClause} {ds : List Decl} (t : Tree)
      (d : Decl) → ComesNext cs before c → Declare before ds → form c.term ≡ directive t
      → Declares t d → IsSome (place_of ds d.pred.name d.pred.arity)
      → RulesGoWrong cs (fault TwiceDeclared c.place)
  wrong_clause : {before : List ReadClause} {c : ReadClause} {ds : List Decl} (k : ReadKind)
      → Declare cs ds → ComesNext cs before c
      → IsTrue (list_all is_right (parts ds before)) → part ds (form c.term) ≡ Some (wrong_part k)
      → RulesGoWrong cs (fault k c.place)

-- the bytes are rules of this program with these items
pub record IsRules (bytes : List ℕ) (program : Program) (items : List (ℕ × Tree)) : Type 0 where
  pub clauses : List ReadClause
  pub read : IsRead bytes clauses
  pub rules : AreRules clauses program items

-- the bytes' first fault as rules: that of the text, or, where it is read, that of its clauses
pub data RulesHaveFault (bytes : List ℕ) : ReadFault → Type 0 where
  in_text : {f : ReadFault} → HasFirstFault bytes f → RulesHaveFault bytes f
  in_rules : {cs : List ReadClause} {f : ReadFault} → IsRead bytes cs → RulesGoWrong cs f
      → RulesHaveFault bytes f
