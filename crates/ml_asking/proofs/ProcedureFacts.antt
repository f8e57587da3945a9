-- What is known of a goal that is no control construct: which list it means, and what its checks leave.
use Rattle.std.specs.Prelude.{◌≡◌, ℕ, suc, Bool, true, false, not, List, [], ◌∷◌, length, slice_get, Option, Some, None, option_map, unwrap_or, cond}
use Rattle.std.proofs.Common.{refl, ap, subst}
use Rattle.ml_term.specs.Tree.{Tree, is_ground, rename}
use Rattle.ml_term.specs.declared.declaration.Decl.{Decl}
use Rattle.ml_term.specs.declared.declaration.Kind.{Kind}
use Rattle.ml_term.specs.declared.declaration.Kind.TheVariants.{Relation, Clauses}
use Rattle.ml_search.specs.Names.{look_up}
use Rattle.ml_search.specs.Program.{Clause, Program, name_of, arity_of, clause_term, has_predicate, place_of, declaration_of, holds_of, is_relation}
use Rattle.ml_search.specs.Program.{is_clause_list, clauses_of}
use Rattle.ml_search.specs.TypeTests.{is_variable, is_integer}
use Rattle.ml_search.specs.Errors.{first_fault, is_too_large}
use Rattle.ml_search.specs.Bodies.{is_callable}
use Rattle.ml_search.specs.Builtins.{BuiltinResult, builtin, with, or_else}
use Rattle.ml_search.specs.Changes.{list_for}
use Rattle.ml_search.specs.Actions.{Usage, to_retract, Procedure, plain_builtin, declared_predicate, retract_clause, program_predicate, raise_error}
use Rattle.ml_search.specs.Actions.{insert_tuple, delete_tuple, assert_first, assert_last, unknown_procedure}
use Rattle.ml_search.specs.Procedures.{given_head, given_body, is_over_bytes, tuple_fault, retract_fault, assert_fault, procedure_unless, store_procedure}
use Rattle.ml_search.specs.Procedures.{store_builtins, usage_of, declared_procedure, program_procedure, procedure_of}
use Rattle.ml_asking.specs.Expand.{is_stored}

-- a declaration of a predicate stands at a place, and its items are used so
pub record IsListOf (decls : List Decl) (how : Usage) (d : ℕ) (f : List ℕ) (n : ℕ) : Type 0 where
  pub decl : Decl
  pub stands : slice_get decls d ≡ Some decl
  pub has : has_predicate f n decl ≡ true
  pub kind : is_clause_list decl ≡ is_stored how

-- a term is an atom or a compound
pub record IsHeadTerm (t : Tree) : Type 0 where
  pub no_variable : is_variable t ≡ false
  pub no_integer : is_integer t ≡ false

-- what the checks of a tuple leave
pub record IsTupleTerm (decls : List Decl) (t : Tree) : Type 0 where
  pub decl : Decl
  pub declared : declaration_of decls (name_of t) (arity_of t) ≡ Some decl
  pub has : has_predicate (name_of t) (arity_of t) decl ≡ true
  pub kind : is_relation decl ≡ true
  pub head : IsHeadTerm t
  pub ground : is_ground t ≡ true
  pub short : is_over_bytes t ≡ false

-- what the checks of a clause to be put leave
pub record IsClauseTerm (decls : List Decl) (c : Tree) : Type 0 where
  pub head_term : Tree
  pub body_term : Tree
  pub is : c ≡ rename 0 (clause_term head_term body_term)
  pub decl : Decl
  pub declared : declaration_of decls (name_of head_term) (arity_of head_term) ≡ Some decl
  pub has : has_predicate (name_of head_term) (arity_of head_term) decl ≡ true
  pub kind : is_clause_list decl ≡ true
  pub head : IsHeadTerm head_term
  pub callable : is_callable body_term ≡ true
  pub short : is_over_bytes (clause_term head_term body_term) ≡ false

-- what the checks of a clause to be taken out leave
pub record IsRetractTerm (decls : List Decl) (d : ℕ) (h b : Tree) : Type 0 where
  pub list : IsListOf decls (to_retract b) d (name_of h) (arity_of h)
  pub head : IsHeadTerm h
  pub small : is_too_large (clause_term h b) ≡ false

abbrev pub KnownWell : List Decl → List ℕ → List Tree → Procedure → Type 0
KnownWell decls f ts (plain_builtin d) = Unit {0}
KnownWell decls f ts (declared_predicate how d) = IsListOf decls how d f (length ts)
KnownWell decls f ts (retract_clause d h b) = IsRetractTerm decls d h b
KnownWell decls f ts (program_predicate cs) = Unit {0}
KnownWell decls f ts (raise_error t) = Unit {0}
KnownWell decls f ts (insert_tuple t) = IsTupleTerm decls t
KnownWell decls f ts (delete_tuple t) = IsTupleTerm decls t
KnownWell decls f ts (assert_first c) = IsClauseTerm decls c
KnownWell decls f ts (assert_last c) = IsClauseTerm decls c
KnownWell decls f ts unknown_procedure = Unit {0}

first_none : (b : Bool) (t : Tree) (o : Option Tree) → cond b (Some t) o ≡ None → (b ≡ false) × (o ≡ None)
first_none true t o e = absurd (cc e)
first_none false t o e = (refl, e)

is_true : (b : Bool) → not b ≡ false → b ≡ true
is_true true e = refl
is_true false e = absurd (cc e)

-- where a declaration is found
abbrev Found : List Decl → List ℕ → ℕ → Decl → Type 0
Found ds f n q = (has_predicate f n q ≡ true) × ((k : ℕ) × ((place_of ds f n ≡ Some k) × (slice_get ds k ≡ Some q)))

pub found : (ds : List Decl) (f : List ℕ) (n : ℕ) (q : Decl) → declaration_of ds f n ≡ Some q → Found ds f n q
found [] f n q e = absurd (cc e)
found (d ∷ ds) f n q e = test (found ds f n q) (has_predicate f n d) refl
  where
    test : (declaration_of ds f n ≡ Some q → Found ds f n q) → (b : Bool) → has_predicate f n d ≡ b → Found (d ∷ ds) f n q
    test further true h =
        let i : d ≡ q = cc (rw h at e) in
        (subst (λ z. has_predicate f n z ≡ true) i h, (0, (rw h refl, ap Some i)))
    test further false h =
        let r = further (rw h at e) in
        (r.0, (suc r.1.0, (rw h (ap (option_map suc) r.1.1.0), r.1.1.1)))

held : (p : Decl → Bool) (o : Option Decl) → not (holds_of p o) ≡ false → (q : Decl) × ((o ≡ Some q) × (p q ≡ true))
held p None e = absurd (cc e)
held p (Some q) e = (q, (refl, is_true (p q) e))

kind_used : (program : Program) (q : Decl) (k : Kind) → q.kind ≡ k → is_clause_list q ≡ is_stored (usage_of program k)
kind_used program q Relation e = rw e refl
kind_used program q Clauses e = rw e refl

module _ (program : Program) (f : List ℕ) (ts : List Tree) where
  abbrev OptionWell : Option Procedure → Type 0
  OptionWell None = Unit {0}
  OptionWell (Some k) = KnownWell program.decls f ts k

  else_well : (a b : Option Procedure) → OptionWell a → OptionWell b → OptionWell (or_else a b)
  else_well None b h k = k
  else_well (Some x) b h k = h

  unwrapped_well : (o : Option Procedure) → OptionWell o → KnownWell program.decls f ts (unwrap_or o unknown_procedure)
  unwrapped_well None h = tt
  unwrapped_well (Some k) h = h

  plain_well : (o : Option (ℕ → BuiltinResult)) → OptionWell (with plain_builtin o)
  plain_well None = tt
  plain_well (Some d) = tt

  defined_well : (cs : List Clause) → OptionWell (program_procedure program cs)
  defined_well [] = tt
  defined_well (c ∷ cs) = tt

  -- each entry of a table
  abbrev EachWell : Tree → List (List ℕ × (Tree → Procedure)) → Type 0
  EachWell t [] = Unit {0}
  EachWell t (e ∷ es) = KnownWell program.decls f ts (e.1 t) × EachWell t es

  named_well : (t : Tree) (es : List (List ℕ × (Tree → Procedure))) (g : List ℕ) → EachWell t es → OptionWell (with (λ k. k t) (look_up es g))
  named_well t [] g h = tt
  named_well t (e ∷ es) g h = chosen _ e.1 (look_up es g) h.0 (named_well t es g h.1)
    where
      chosen : (b : Bool) (k : Tree → Procedure) (o : Option (Tree → Procedure)) → KnownWell program.decls f ts (k t) → OptionWell (with (λ k. k t) o) →
          OptionWell (with (λ k. k t) (cond b (Some k) o))
      chosen true k o h i = h
      chosen false k o h i = i

  refused_or : (o : Option Tree) (k : Procedure) → (o ≡ None → KnownWell program.decls f ts k) → KnownWell program.decls f ts (procedure_unless program o k)
  refused_or None k h = h refl
  refused_or (Some t) k h = tt

module _ (program : Program) where
  tuple_well : (t : Tree) → tuple_fault program t ≡ None → IsTupleTerm program.decls t
  tuple_well t e =
      let a = first_none _ _ _ e in
      let b = first_none _ _ _ a.1 in
      let c = first_none _ _ _ b.1 in
      let d = first_none _ _ _ c.1 in
      let g = first_none _ _ _ d.1 in
      let h = first_none _ _ _ g.1 in
      let i = first_none _ _ _ h.1 in
      let q = held is_relation (declaration_of program.decls (name_of t) (arity_of t)) d.0 in
      record {
        decl = q.0;
        declared = q.1.0;
        has = (found program.decls (name_of t) (arity_of t) q.0 q.1.0).0;
        kind = q.1.1;
        head = record { no_variable = a.0; no_integer = b.0 };
        ground = is_true (is_ground t) h.0;
        short = i.0;
      }

  listed : (b h : Tree) (q : Decl) → declaration_of program.decls (name_of h) (arity_of h) ≡ Some q → is_clause_list q ≡ true →
      IsListOf program.decls (to_retract b) (list_for program.decls h) (name_of h) (arity_of h)
  listed b h q e k =
      let w = found program.decls (name_of h) (arity_of h) q e in
      record { decl = q; stands = rw w.1.1.0 w.1.1.1; has = w.0; kind = k }

  retract_well : (h b : Tree) → retract_fault program h b ≡ None → IsRetractTerm program.decls (list_for program.decls h) h b
  retract_well h b e =
      let a = first_none _ _ _ e in
      let c = first_none _ _ _ a.1 in
      let d = first_none _ _ _ c.1 in
      let g = first_none _ _ _ d.1 in
      let i = first_none _ _ _ g.1 in
      let q = held is_clause_list (declaration_of program.decls (name_of h) (arity_of h)) g.0 in
      record { list = listed b h q.0 q.1.0 q.1.1; head = record { no_variable = a.0; no_integer = c.0 }; small = i.0 }

  assert_well : (h b : Tree) → assert_fault program h b ≡ None → IsClauseTerm program.decls (rename 0 (clause_term h b))
  assert_well h b e = after (retract_fault program h b) refl
    where
      after : (o : Option Tree) → retract_fault program h b ≡ o → IsClauseTerm program.decls (rename 0 (clause_term h b))
      after (Some t) r = absurd (cc (rw r at e))
      after None r =
          let z : first_fault ((not (is_callable b), _) ∷ (is_over_bytes (clause_term h b), _) ∷ []) ≡ None = rw r at e in
          let x = first_none _ _ _ z in
          let y = first_none _ _ _ x.1 in
          let a = first_none _ _ _ r in
          let c = first_none _ _ _ a.1 in
          let d = first_none _ _ _ c.1 in
          let g = first_none _ _ _ d.1 in
          let q = held is_clause_list (declaration_of program.decls (name_of h) (arity_of h)) g.0 in
          record {
            head_term = h;
            body_term = b;
            is = refl;
            decl = q.0;
            declared = q.1.0;
            has = (found program.decls (name_of h) (arity_of h) q.0 q.1.0).0;
            kind = q.1.1;
            head = record { no_variable = a.0; no_integer = c.0 };
            callable = is_true (is_callable b) x.0;
            short = y.0;
          }

  store_well : (f : List ℕ) (ts : List Tree) → OptionWell program f ts (store_procedure program f ts)
  store_well f [] = tt
  store_well f (t ∷ []) = named_well program f (t ∷ []) t (store_builtins program) f (
    refused_or program f (t ∷ []) (tuple_fault program t) (insert_tuple t) (tuple_well t),
    (
      refused_or program f (t ∷ []) (tuple_fault program t) (delete_tuple t) (tuple_well t),
      (
        refused_or program f (t ∷ []) (assert_fault program (given_head t) (given_body t)) (assert_first (rename 0 (clause_term (given_head t) (given_body t))))
            (assert_well (given_head t) (given_body t)),
        (
          refused_or program f (t ∷ []) (assert_fault program (given_head t) (given_body t))
              (assert_last (rename 0 (clause_term (given_head t) (given_body t)))) (assert_well (given_head t) (given_body t)),
          (
            refused_or program f (t ∷ []) (retract_fault program (given_head t) (given_body t))
                (retract_clause (list_for program.decls (given_head t)) (given_head t) (given_body t)) (retract_well (given_head t) (given_body t)),
            tt,
          ),
        ),
      ),
    ),
  )
  store_well f (t ∷ u ∷ ts) = tt

  declared_well : (f : List ℕ) (ts : List Tree) → OptionWell program f ts (declared_procedure program f (length ts))
  declared_well f ts = after (declaration_of program.decls f (length ts)) refl
    where
      after : (o : Option Decl) → declaration_of program.decls f (length ts) ≡ o → OptionWell program f ts (declared_procedure program f (length ts))
      after None e = rw e tt
      after (Some q) e =
          let w = found program.decls f (length ts) q e in
          let l : IsListOf program.decls (usage_of program q.kind) (unwrap_or (place_of program.decls f (length ts)) 0) f (length ts) =
          record { decl = q; stands = rw w.1.1.0 w.1.1.1; has = w.0; kind = kind_used program q q.kind refl } in
          rw e l

  -- what a goal is, is right
  pub known_well : (f : List ℕ) (ts : List Tree) → KnownWell program.decls f ts (procedure_of program f ts)
  known_well f ts =
      unwrapped_well program f ts _
      (else_well program f ts (with plain_builtin (builtin f ts)) _ (plain_well program f ts (builtin f ts))
      (else_well program f ts (store_procedure program f ts) _ (store_well f ts)
      (else_well program f ts (declared_procedure program f (length ts)) _ (declared_well f ts)
      (defined_well program f ts (clauses_of program.clauses f (length ts))))))
