-- What clauses are keeps the facts of programs and of items.
use Rattle.std.specs.Prelude.{◌≡◌, ℕ, Bool, true, false, ◌&&◌, nat_le, cond, List, [], ◌∷◌, length, slice_get, Option, Some, None, is_none}
use Rattle.std.specs.List.{filter_map, cons_option, AllByRecursion}
use Rattle.std.proofs.Common.{refl, sym, ap, ◌∙◌}
use Rattle.std.proofs.lemmas.Bool.{and_parts, and_from, le-leb, ltb-false, true≢false}
use Rattle.ml_term.specs.Tree.{Tree, variable, integer, atom, compound, arity, is_ground, is_numbered}
use Rattle.ml_term.specs.Valid.{is_valid}
use Rattle.ml_term.specs.CanonicalBytes.{bytes_of}
use Rattle.ml_term.specs.declared.declaration.Decl.{Decl}
use Rattle.ml_term.specs.declared.declaration.Kind.{Kind}
use Rattle.ml_term.specs.declared.declaration.Kind.TheVariants.{Relation, Clauses}
use Rattle.ml_search.specs.Bodies.{is_callable}
use Rattle.ml_search.specs.Db.{is_tuple, is_stored_clause, is_allowed}
use Rattle.ml_search.specs.Procedures.{is_over_bytes}
use Rattle.ml_search.specs.Limits.{max_item_bytes}
use Rattle.ml_search.specs.Program.{name_of, arity_of, is_of, true_body, clause_term, has_predicate, holds_of, is_relation}
use Rattle.ml_search.specs.WellFormed.{is_clause_head, are_undeclared}
use Rattle.ml_search.proofs.DeclarationsFound.{declared_at, equal_swapped, names_swapped}
use Rattle.ml_reader.specs.Lexemes.{ReadClause}
use Rattle.ml_reader.specs.Forms.{Form, directive, query, rule, fact, form}
use Rattle.ml_reader.specs.Rules.{Part, program_clause, list_item, wrong_part, item_within_size, is_relation_at, place_for, fact_at, rule_at, part, parts}
use Rattle.ml_reader.specs.Rules.{clause_part, item_part}
use Rattle.ml_search.specs.Loading.{are_items}
use Rattle.ml_reader.specs.Texts.{IsWellRead}
use Rattle.ml_reader.specs.declared.fault.ReadKind.TheVariants.{BadClause, ItemTooLarge}
use Rattle.ml_reader.proofs.RuleReading.TermForms.{term_of, term_is, valid_fact, numbered_fact}

-- what a part keeps: a clause of the program is of a predicate that isn't declared, and an item is one of its declaration
abbrev pub Keeps : List Decl → Part → Type 0
Keeps ds (program_clause c) = is_none (place_for ds c.head) ≡ true
Keeps ds (list_item k t) = holds_of (λ d. is_allowed d t) (slice_get ds k) ≡ true
Keeps ds (wrong_part k) = Unit {0}

abbrev pub KeepsAny : List Decl → Option Part → Type 0
KeepsAny ds None = Unit {0}
KeepsAny ds (Some p) = Keeps ds p

-- a head is of a predicate where the predicate is that of the head
head_is : (h : Tree) (d : Decl) → is_clause_head h ≡ true → has_predicate (name_of h) (arity_of h) d ≡ true → is_of d.pred.name d.pred.arity h ≡ true
head_is (variable n) d head e = absurd (true≢false (sym head))
head_is (integer z) d head e = absurd (true≢false (sym head))
head_is (atom f) d head e = let parts = and_parts _ _ e in and_from _ _ (names_swapped f d.pred.name ∙ parts.0) (equal_swapped 0 d.pred.arity ∙ parts.1)
head_is (compound f ts) d head e =
    let parts = and_parts _ _ e in and_from _ _ (names_swapped f d.pred.name ∙ parts.0) (equal_swapped (arity ts) d.pred.arity ∙ parts.1)

not_over : (t : Tree) → is_over_bytes t ≡ false → nat_le (length (bytes_of t)) max_item_bytes ≡ true
not_over t e = le-leb (length (bytes_of t)) max_item_bytes (ltb-false max_item_bytes (length (bytes_of t)) e)

allowed_tuple : (d : Decl) (t : Tree) → is_relation d ≡ true → is_tuple d t ≡ true → is_allowed d t ≡ true
allowed_tuple d t e h = by d.kind refl
  where
    by : (k : Kind) → d.kind ≡ k → is_allowed d t ≡ true
    by Relation is = rw is h
    by Clauses is = absurd (true≢false (sym e ∙ rw is refl))

allowed_clause : (d : Decl) (t : Tree) → is_relation d ≡ false → is_stored_clause d t ≡ true → is_allowed d t ≡ true
allowed_clause d t e h = by d.kind refl
  where
    by : (k : Kind) → d.kind ≡ k → is_allowed d t ≡ true
    by Relation is = absurd (true≢false (rw is refl ∙ e))
    by Clauses is = rw is h

-- a property of the declaration at a place
at_place : (p : Decl → Bool) (ds : List Decl) (k : ℕ) (d : Decl) → slice_get ds k ≡ Some d → holds_of p (slice_get ds k) ≡ p d
at_place p ds k d at = ap (holds_of p) at

sized_keeps : (ds : List Decl) (k : ℕ) (t : Tree) → (is_over_bytes t ≡ false → holds_of (λ d. is_allowed d t) (slice_get ds k) ≡ true)
    → Keeps ds (item_within_size k t)
sized_keeps ds k t h = by (is_over_bytes t) refl
  where
    by : (b : Bool) → is_over_bytes t ≡ b → Keeps ds (cond b (wrong_part ItemTooLarge) (list_item k t))
    by true e = tt
    by false e = h e

stored : (ds : List Decl) (k : ℕ) (d : Decl) (h b : Tree) → slice_get ds k ≡ Some d → has_predicate (name_of h) (arity_of h) d ≡ true
    → is_relation_at ds k ≡ false
    → is_valid (clause_term h b) ≡ true → is_numbered (clause_term h b) ≡ true → is_clause_head h ≡ true → is_callable b ≡ true
    → Keeps ds (item_within_size k (clause_term h b))
stored ds k d h b at has other valid numbered head callable =
    let clauses : is_relation d ≡ false = sym (at_place is_relation ds k d at) ∙ other in
    sized_keeps ds k (clause_term h b) (λ small.
    at_place (λ d. is_allowed d (clause_term h b)) ds k d at
    ∙ allowed_clause d (clause_term h b) clauses
    (and_from _ _ (and_from _ _ (and_from _ _ (and_from _ _ (and_from _ _ valid refl) (head_is h d head has)) callable) numbered)
    (not_over (clause_term h b) small)))

tuple : (ds : List Decl) (k : ℕ) (d : Decl) (h : Tree) → slice_get ds k ≡ Some d → has_predicate (name_of h) (arity_of h) d ≡ true → is_relation_at ds k ≡ true
    → is_valid h ≡ true → is_clause_head h ≡ true → is_ground h ≡ true → Keeps ds (item_within_size k h)
tuple ds k d h at has relation valid head ground_head =
    let tuples : is_relation d ≡ true = sym (at_place is_relation ds k d at) ∙ relation in
    sized_keeps ds k h (λ small.
    at_place (λ d. is_allowed d h) ds k d at
    ∙ allowed_tuple d h tuples (and_from _ _ (and_from _ _ (and_from _ _ valid (head_is h d head has)) ground_head) (not_over h small)))

rule_keeps : (ds : List Decl) (h b : Tree) (r : Option ℕ) → place_for ds h ≡ r → is_valid (clause_term h b) ≡ true → is_numbered (clause_term h b) ≡ true
    → is_clause_head h ≡ true → is_callable b ≡ true → Keeps ds (rule_at ds r h b)
rule_keeps ds h b None place valid numbered head callable = ap is_none place
rule_keeps ds h b (Some k) place valid numbered head callable = by (is_relation_at ds k) refl
  where
    at : (d : Decl) × (slice_get ds k ≡ Some d) × (has_predicate (name_of h) (arity_of h) d ≡ true)
    at = declared_at ds (name_of h) (arity_of h) k place

    by : (v : Bool) → is_relation_at ds k ≡ v → Keeps ds (cond v (wrong_part BadClause) (item_within_size k (clause_term h b)))
    by true e = tt
    by false e = stored ds k at.0 h b at.1 at.2 e valid numbered head callable

fact_keeps : (ds : List Decl) (h : Tree) (r : Option ℕ) → place_for ds h ≡ r → is_valid h ≡ true → is_numbered h ≡ true → is_clause_head h ≡ true
    → Keeps ds (fact_at ds r h)
fact_keeps ds h None place valid numbered head = ap is_none place
fact_keeps ds h (Some k) place valid numbered head = by (is_relation_at ds k) refl
  where
    at : (d : Decl) × (slice_get ds k ≡ Some d) × (has_predicate (name_of h) (arity_of h) d ≡ true)
    at = declared_at ds (name_of h) (arity_of h) k place

    closed : is_relation_at ds k ≡ true → (v : Bool) → is_ground h ≡ v → Keeps ds (cond v (item_within_size k h) (wrong_part BadClause))
    closed e true g = tuple ds k at.0 h at.1 at.2 e valid head g
    closed e false g = tt

    by : (v : Bool) → is_relation_at ds k ≡ v
        → Keeps ds (cond v (cond (is_ground h) (item_within_size k h) (wrong_part BadClause)) (item_within_size k (clause_term h true_body)))
    by true e = closed e (is_ground h) refl
    by false e = stored ds k at.0 h true_body at.1 at.2 e (valid_fact h valid) (numbered_fact h numbered) head refl

part_keeps : (ds : List Decl) (x : Form) → is_valid (term_of x) ≡ true → is_numbered (term_of x) ≡ true → KeepsAny ds (part ds x)
part_keeps ds (directive t) valid numbered = tt
part_keeps ds (query t) valid numbered = tt
part_keeps ds (rule h b) valid numbered = by (is_clause_head h && is_callable b) refl
  where
    by : (v : Bool) → (is_clause_head h && is_callable b) ≡ v → Keeps ds (cond v (rule_at ds (place_for ds h) h b) (wrong_part BadClause))
    by true e = let parts = and_parts (is_clause_head h) (is_callable b) e in rule_keeps ds h b (place_for ds h) refl valid numbered parts.0 parts.1
    by false e = tt
part_keeps ds (fact h) valid numbered = by (is_clause_head h) refl
  where
    by : (v : Bool) → is_clause_head h ≡ v → Keeps ds (cond v (fact_at ds (place_for ds h) h) (wrong_part BadClause))
    by true e = fact_keeps ds h (place_for ds h) refl valid numbered e
    by false e = tt

clause_keeps : (ds : List Decl) (c : ReadClause) → IsWellRead c → KeepsAny ds (part ds (form c.term))
clause_keeps ds c h =
    let same : c.term ≡ term_of (form c.term) = term_is c.term (form c.term) refl in
    part_keeps ds (form c.term) (sym (ap is_valid same) ∙ h.valid) (sym (ap is_numbered same) ∙ h.numbered)

-- the clauses of the program are of predicates that aren't declared
pub clauses_kept : (ds : List Decl) (cs : List ReadClause) → AllByRecursion IsWellRead cs → are_undeclared ds (filter_map clause_part (parts ds cs)) ≡ true
clauses_kept ds [] h = refl
clauses_kept ds (c ∷ cs) h = by (part ds (form c.term)) (clause_keeps ds c h.0) (clauses_kept ds cs h.1)
  where
    by : (r : Option Part) → KeepsAny ds r → are_undeclared ds (filter_map clause_part (parts ds cs)) ≡ true
        → are_undeclared ds (filter_map clause_part (cons_option r (parts ds cs))) ≡ true
    by None k rest = rest
    by (Some (program_clause p)) k rest = and_from _ _ k rest
    by (Some (list_item n t)) k rest = rest
    by (Some (wrong_part n)) k rest = rest

-- the items are items of their declarations
pub items_kept : (ds : List Decl) (cs : List ReadClause) → AllByRecursion IsWellRead cs → are_items ds (filter_map item_part (parts ds cs)) ≡ true
items_kept ds [] h = refl
items_kept ds (c ∷ cs) h = by (part ds (form c.term)) (clause_keeps ds c h.0) (items_kept ds cs h.1)
  where
    by : (r : Option Part) → KeepsAny ds r → are_items ds (filter_map item_part (parts ds cs)) ≡ true
        → are_items ds (filter_map item_part (cons_option r (parts ds cs))) ≡ true
    by None k rest = rest
    by (Some (program_clause p)) k rest = rest
    by (Some (list_item n t)) k rest = and_from _ _ k rest
    by (Some (wrong_part n)) k rest = rest
