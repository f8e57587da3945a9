-- What links tell of goals.
use Rattle.std.proofs.Common.{◌≡◌, ℕ, zero, suc, ◌≤◌, ◌⊎◌, Bool, true, false, ◌==◌, List, [], ◌∷◌, length, Some, None, refl, sym, ap, ◌∙◌, cond, subst, inl, inr, arith}
use Rattle.std.specs.Prelude.{Option, option_map, unwrap_or, slice_get, is_some, codes}
use Rattle.std.specs.Str.{bytes_eq}
use Rattle.std.specs.Cmp.Lexicographic.{bytes_decides}
use Rattle.std.proofs.lemmas.Bool.{and_parts, eqb-true, ne_eqb, true≢false}
use Rattle.ml_term.specs.Tree.{Tree}
use Rattle.ml_term.specs.declared.declaration.Decl.{Decl}
use Rattle.ml_term.specs.declared.declaration.Kind.{Kind}
use Rattle.ml_search.specs.Actions.{program_predicate, declared_predicate, unknown_procedure}
use Rattle.ml_search.specs.Builtins.{is_plain}
use Rattle.ml_search.specs.Bodies.{predication, body_from_1, body_from_3}
use Rattle.ml_search.specs.Names.{look_up}
use Rattle.ml_search.specs.Procedures.{procedure_of, usage_of, is_defined, has_name, store_names}
use Rattle.ml_search.specs.Program.{Clause, Program, clauses_of}
use Rattle.ml_search.specs.Standing.{Standing, of_plain, of_store, of_declared, of_program, of_nothing, standing, standing_by, IsPlainGoal, IsStoreGoal}
use Rattle.ml_search.proofs.DeclarationsFound.{names_swapped}
use Rattle.ml_search.proofs.Standings.{standing_is, plain_goal, store_goal, declared_goal, program_goal, nothing_goal}
use Rattle.ml_builtin.specs.Tables.{plain_name, plain_arity, plain_of}
use Rattle.ml_builtin.specs.declared.plain.Plain as B
use Rattle.ml_builtin.proofs.PlainsFound.{has_plain, plain_named}
use Rattle.ml_compile.specs.Spells.{called_body, SpellsClause}
use Rattle.ml_compile.specs.declared.instr.Instr.{Instr}
use Rattle.ml_stack.specs.Memories.{CompiledProcedure}
use Rattle.ml_program.specs.declared.link.ControlCall.{ControlCall}
use Rattle.ml_program.specs.declared.link.ControlCall.TheVariants.{Call, Once, NotProvable, Throw, Findall, Catch}
use Rattle.ml_program.specs.declared.link.StoreCall.{StoreCall}
use Rattle.ml_program.specs.declared.link.Link.{Link}
use Rattle.ml_program.specs.declared.link.Link.TheVariants.{Control, Plain, Store, Declared, Procedure, Unknown}
use Rattle.ml_program.specs.LinkedGoals.{control_of, IsControlBody, calls_goal, calls_once, refutes_goal, throws_ball, finds_all, catches_ball, store_name, IsProgramGoal}
use Rattle.ml_program.specs.Links.{control_calls_1, control_calls_3, control_call, store_calls, store_call, is_procedure_of, procedure_place, link_by, link_of}
use Rattle.ml_program.specs.LoadedProgram.{SpellEach, none_spelled, one_more_spelled, IsLoaded}
use Rattle.ml_program.proofs.LinksMade.{link_is}
use Rattle.ml_program.proofs.NamesFound.{has_store}

-- what stands behind a link
by_control : (o : Option ControlCall) (s : Standing) (b : Option B.Plain) (k : Option StoreCall) (p : ℕ) (c : ControlCall) → link_by o s b k p ≡ Control c →
    o ≡ Some c
by_control (Some d) s b k p c e = let same : d ≡ c = cc e in ap Some same
by_control None of_plain (Some x) k p c e = absurd (cc e)
by_control None of_plain None k p c e = absurd (cc e)
by_control None of_store b (Some x) p c e = absurd (cc e)
by_control None of_store b None p c e = absurd (cc e)
by_control None (of_declared kind d) b k p c e = absurd (cc e)
by_control None of_program b k p c e = absurd (cc e)
by_control None of_nothing b k p c e = absurd (cc e)

by_plain : (o : Option ControlCall) (s : Standing) (b : Option B.Plain) (k : Option StoreCall) (p : ℕ) (c : B.Plain) → link_by o s b k p ≡ Plain c →
    (o ≡ None) × (s ≡ of_plain) × (b ≡ Some c)
by_plain (Some d) s b k p c e = absurd (cc e)
by_plain None of_plain (Some x) k p d e = let same : x ≡ d = cc e in (refl, refl, ap Some same)
by_plain None of_plain None k p d e = absurd (cc e)
by_plain None of_store b (Some x) p c e = absurd (cc e)
by_plain None of_store b None p c e = absurd (cc e)
by_plain None (of_declared kind d) b k p c e = absurd (cc e)
by_plain None of_program b k p c e = absurd (cc e)
by_plain None of_nothing b k p c e = absurd (cc e)

by_store : (o : Option ControlCall) (s : Standing) (b : Option B.Plain) (k : Option StoreCall) (p : ℕ) (j : StoreCall) → link_by o s b k p ≡ Store j →
    (o ≡ None) × (s ≡ of_store) × (k ≡ Some j)
by_store (Some d) s b k p j e = absurd (cc e)
by_store None of_plain (Some x) k p j e = absurd (cc e)
by_store None of_plain None k p j e = absurd (cc e)
by_store None of_store b (Some x) p j e = let same : x ≡ j = cc e in (refl, refl, ap Some same)
by_store None of_store b None p j e = absurd (cc e)
by_store None (of_declared kind d) b k p j e = absurd (cc e)
by_store None of_program b k p j e = absurd (cc e)
by_store None of_nothing b k p j e = absurd (cc e)

by_declared : (o : Option ControlCall) (s : Standing) (b : Option B.Plain) (k : Option StoreCall) (p : ℕ) (kind' : Kind) (j : ℕ)
    → link_by o s b k p ≡ Declared kind' j →
    (o ≡ None) × (s ≡ of_declared kind' j)
by_declared (Some d) s b k p kind' j e = absurd (cc e)
by_declared None of_plain (Some x) k p kind' j e = absurd (cc e)
by_declared None of_plain None k p kind' j e = absurd (cc e)
by_declared None of_store b (Some x) p kind' j e = absurd (cc e)
by_declared None of_store b None p kind' j e = absurd (cc e)
by_declared None (of_declared kind d) b k p kind' j e = let same : kind ≡ kind' = cc e in let place : d ≡ j = cc e in (
  refl,
  ap (λ q. of_declared q d) same
      ∙ ap (of_declared kind') place,
)
by_declared None of_program b k p kind' j e = absurd (cc e)
by_declared None of_nothing b k p kind' j e = absurd (cc e)

by_program : (o : Option ControlCall) (s : Standing) (b : Option B.Plain) (k : Option StoreCall) (p : ℕ) (j : ℕ) → link_by o s b k p ≡ Procedure j →
    (o ≡ None) × (s ≡ of_program) × (p ≡ j)
by_program (Some d) s b k p j e = absurd (cc e)
by_program None of_plain (Some x) k p j e = absurd (cc e)
by_program None of_plain None k p j e = absurd (cc e)
by_program None of_store b (Some x) p j e = absurd (cc e)
by_program None of_store b None p j e = absurd (cc e)
by_program None (of_declared kind d) b k p j e = absurd (cc e)
by_program None of_program b k p j e = (refl, refl, cc e)
by_program None of_nothing b k p j e = absurd (cc e)

by_nothing : (o : Option ControlCall) (s : Standing) (b : Option B.Plain) (k : Option StoreCall) (p : ℕ) → link_by o s b k p ≡ Unknown →
    (s ≡ of_nothing) ⊎ (((s ≡ of_store) × (k ≡ None)) ⊎ ((s ≡ of_plain) × (b ≡ None)))
by_nothing (Some d) s b k p e = absurd (cc e)
by_nothing None of_plain (Some x) k p e = absurd (cc e)
by_nothing None of_plain None k p e = inr (inr (refl, refl))
by_nothing None of_store b (Some x) p e = absurd (cc e)
by_nothing None of_store b None p e = inr (inl (refl, refl))
by_nothing None (of_declared kind d) b k p e = absurd (cc e)
by_nothing None of_program b k p e = absurd (cc e)
by_nothing None of_nothing b k p e = inl refl

by_other : (o : Option ControlCall) (s : Standing) (b : Option B.Plain) (k : Option StoreCall) (p : ℕ) → control_of (link_by o s b k p) ≡ None → o ≡ None
by_other (Some d) s b k p e = absurd (cc e)
by_other None s b k p e = refl

-- what holds of each entry of a table
abbrev pub EachEntry : {A : Type 0} → (List ℕ → A → Type 0) → List (List ℕ × A) → Type 0
EachEntry P [] = Unit {0}
EachEntry P (x ∷ es) = P x.0 x.1 × EachEntry P es

-- it holds of what is found under a name
looked_up : {A : Type 0} (P : List ℕ → A → Type 0) (es : List (List ℕ × A)) (f : List ℕ) (a : A) → EachEntry P es → look_up es f ≡ Some a → P f a
looked_up P [] f a each e = absurd (cc e)
looked_up P (x ∷ es) f a each e = by (bytes_eq x.0 f) refl e (looked_up P es f a each.1)
  where
    by : (b : Bool) → bytes_eq x.0 f ≡ b → cond b (Some x.1) (look_up es f) ≡ Some a → (look_up es f ≡ Some a → P f a) → P f a
    by true h e again =
        let name : x.0 ≡ f = (bytes_decides x.0 f).0 h in
        let value : x.1 ≡ a = cc e in
        subst (P f) value (subst (λ g. P g x.1) name each.0)
    by false h e again = again e

-- a name that isn't found is none of the table's
unnamed : {A : Type 0} (x : List ℕ × A) (es : List (List ℕ × A)) (f : List ℕ) → look_up (x ∷ es) f ≡ None → (bytes_eq f x.0 ≡ false) × (look_up es f ≡ None)
unnamed x es f e = by (bytes_eq x.0 f) refl e
  where
    by : (b : Bool) → bytes_eq x.0 f ≡ b → cond b (Some x.1) (look_up es f) ≡ None → (bytes_eq f x.0 ≡ false) × (look_up es f ≡ None)
    by true h e = absurd (cc e)
    by false h e = (names_swapped f x.0 ∙ h, e)

control_1 : (f : List ℕ) (t : Tree) (c : ControlCall) → look_up control_calls_1 f ≡ Some c → IsControlBody c (t ∷ []) (body_from_1 f t)
control_1 f t c e =
    looked_up (λ g d. IsControlBody d (t ∷ []) (body_from_1 g t)) control_calls_1 f c (calls_goal, (calls_once, (refutes_goal, (throws_ball, tt)))) e

control_3 : (f : List ℕ) (t u v : Tree) (c : ControlCall) → look_up control_calls_3 f ≡ Some c → IsControlBody c (t ∷ u ∷ v ∷ []) (body_from_3 f t u v)
control_3 f t u v c e =
    looked_up (λ g d. IsControlBody d (t ∷ u ∷ v ∷ []) (body_from_3 g t u v)) control_calls_3 f c (finds_all, (catches_ball, tt)) e

skipped : {A : Type 0} (b : Bool) (x y z : A) → b ≡ false → y ≡ z → cond b x y ≡ z
skipped true x y z e h = absurd (cc e)
skipped false x y z e h = h

other_1 : (f : List ℕ) (t : Tree) → look_up control_calls_1 f ≡ None → body_from_1 f t ≡ predication f (t ∷ [])
other_1 f t e =
    let a = unnamed (codes "call", Call) ((codes "once", Once) ∷ (codes "\\+", NotProvable) ∷ (codes "throw", Throw) ∷ []) f e in
    let b = unnamed (codes "once", Once) ((codes "\\+", NotProvable) ∷ (codes "throw", Throw) ∷ []) f a.1 in
    let d = unnamed (codes "\\+", NotProvable) ((codes "throw", Throw) ∷ []) f b.1 in
    let g = unnamed (codes "throw", Throw) [] f d.1 in
    skipped (bytes_eq f (codes "call")) _ _ _ a.0
    (skipped (bytes_eq f (codes "once")) _ _ _ b.0
    (skipped (bytes_eq f (codes "\\+")) _ _ _ d.0 (skipped (bytes_eq f (codes "throw")) _ _ _ g.0 refl)))

other_3 : (f : List ℕ) (t u v : Tree) → look_up control_calls_3 f ≡ None → body_from_3 f t u v ≡ predication f (t ∷ u ∷ v ∷ [])
other_3 f t u v e =
    let a = unnamed (codes "findall", Findall) ((codes "catch", Catch) ∷ []) f e in
    let b = unnamed (codes "catch", Catch) [] f a.1 in
    skipped (bytes_eq f (codes "findall")) _ _ _ a.0 (skipped (bytes_eq f (codes "catch")) _ _ _ b.0 refl)

-- no predicate of four and more arguments is a control construct
control_many : (f : List ℕ) (n : ℕ) → 4 ≤ n → control_call f n ≡ None
control_many f n high =
    skipped (n == 1) _ _ _ (ne_eqb n 1 (λ h. omega (arith, h))) (skipped (n == 3) _ _ _ (ne_eqb n 3 (λ h. omega (arith, h))) refl)

told_control : (f : List ℕ) (ts : List Tree) (c : ControlCall) → control_call f (length ts) ≡ Some c → IsControlBody c ts (called_body f ts)
told_control f [] c e = absurd (cc e)
told_control f (t ∷ []) c e = control_1 f t c e
told_control f (t ∷ u ∷ []) c e = absurd (cc e)
told_control f (t ∷ u ∷ v ∷ []) c e = control_3 f t u v c e
told_control f (t ∷ u ∷ v ∷ w ∷ ts) c e =
    let none = control_many f (length (t ∷ u ∷ v ∷ w ∷ ts)) (omega arith) in absurd (cc (sym none ∙ e))

told_other : (f : List ℕ) (ts : List Tree) → control_call f (length ts) ≡ None → called_body f ts ≡ predication f ts
told_other f [] e = refl
told_other f (t ∷ []) e = other_1 f t e
told_other f (t ∷ u ∷ []) e = refl
told_other f (t ∷ u ∷ v ∷ []) e = other_3 f t u v e
told_other f (t ∷ u ∷ v ∷ w ∷ ts) e = refl

store_named : (f : List ℕ) (n : ℕ) (k : StoreCall) → store_call f n ≡ Some k → f ≡ store_name k
store_named f n k e = by (n == 1) e
  where
    by : (b : Bool) → cond b (look_up store_calls f) None ≡ Some k → f ≡ store_name k
    by true h = looked_up (λ g j. g ≡ store_name j) store_calls f k (refl, (refl, (refl, (refl, (refl, tt))))) h
    by false h = absurd (cc h)

stands_plain : (a s : Bool) (o : Option Decl) (k : ℕ) (c : Bool) → standing_by a s o k c ≡ of_plain → a ≡ true
stands_plain true s o k c e = refl
stands_plain false true o k c e = absurd (cc e)
stands_plain false false (Some d) k c e = absurd (cc e)
stands_plain false false None k true e = absurd (cc e)
stands_plain false false None k false e = absurd (cc e)

stands_store : (a s : Bool) (o : Option Decl) (k : ℕ) (c : Bool) → standing_by a s o k c ≡ of_store → s ≡ true
stands_store true s o k c e = absurd (cc e)
stands_store false true o k c e = refl
stands_store false false (Some d) k c e = absurd (cc e)
stands_store false false None k true e = absurd (cc e)
stands_store false false None k false e = absurd (cc e)

stands_program : (a s : Bool) (o : Option Decl) (k : ℕ) (c : Bool) → standing_by a s o k c ≡ of_program → c ≡ true
stands_program true s o k c e = absurd (cc e)
stands_program false true o k c e = absurd (cc e)
stands_program false false (Some d) k c e = absurd (cc e)
stands_program false false None k true e = refl
stands_program false false None k false e = absurd (cc e)

there_is : {A : Type 0} (o : Option A) → is_some o ≡ true → (a : A) × (o ≡ Some a)
there_is None e = absurd (cc e)
there_is (Some a) e = (a, refl)

-- what is found of a predicate is its procedure
procedure_found : (ps : List CompiledProcedure) (f : List ℕ) (n i : ℕ) → procedure_place ps f n ≡ Some i →
    (d : CompiledProcedure) × (slice_get ps i ≡ Some d) × (is_procedure_of f n d ≡ true)
procedure_found [] f n i e = absurd (cc e)
procedure_found (d ∷ ds) f n i e = by (is_procedure_of f n d) (procedure_place ds f n) i refl refl e (procedure_found ds f n)
  where
    by : (b : Bool) (r : Option ℕ) (i : ℕ) → is_procedure_of f n d ≡ b → procedure_place ds f n ≡ r → cond b (Some 0) (option_map suc r) ≡ Some i →
        ((j : ℕ) → procedure_place ds f n ≡ Some j → (e : CompiledProcedure) × (slice_get ds j ≡ Some e) × (is_procedure_of f n e ≡ true)) →
        (e : CompiledProcedure) × (slice_get (d ∷ ds) i ≡ Some e) × (is_procedure_of f n e ≡ true)
    by true r zero here is e again = (d, refl, here)
    by true r (suc i) here is e again = absurd (cc e)
    by false None i here is e again = absurd (cc e)
    by false (Some k) zero here is e again = absurd (cc e)
    by false (Some k) (suc i) here is e again = let same : k ≡ i = cc e in again i (is ∙ ap Some same)

module _ (program : Program) (ps : List CompiledProcedure) (f : List ℕ) (ts : List Tree) where
  abbrev n : ℕ
  n = length ts

  abbrev place : ℕ
  place = unwrap_or (procedure_place ps f n) 0

  made : (l : Link) → link_of program ps f n ≡ l → link_by (control_call f n) (standing program f n) (plain_of f n) (store_call f n) place ≡ l
  made l e = sym (link_is program ps f n) ∙ e

  pub tells_control : (c : ControlCall) → link_of program ps f n ≡ Control c → IsControlBody c ts (called_body f ts)
  tells_control c e = told_control f ts c (by_control (control_call f n) (standing program f n) (plain_of f n) (store_call f n) place c (made (Control c) e))

  pub tells_other : control_of (link_of program ps f n) ≡ None → called_body f ts ≡ predication f ts
  tells_other e =
      told_other f ts
      (by_other (control_call f n) (standing program f n) (plain_of f n) (store_call f n) place (ap control_of (sym (link_is program ps f n)) ∙ e))

  pub tells_plain : (b : B.Plain) → link_of program ps f n ≡ Plain b → IsPlainGoal program f ts
  tells_plain b e =
      plain_goal program f ts (by_plain (control_call f n) (standing program f n) (plain_of f n) (store_call f n) place b (made (Plain b) e)).1

  pub tells_built_in : (b : B.Plain) → link_of program ps f n ≡ Plain b → (plain_name b ≡ f) × (plain_arity b ≡ n)
  tells_built_in b e =
      plain_named f n b (by_plain (control_call f n) (standing program f n) (plain_of f n) (store_call f n) place b (made (Plain b) e)).2

  pub tells_store : (k : StoreCall) → link_of program ps f n ≡ Store k → IsStoreGoal program f ts
  tells_store k e = store_goal program f ts (by_store (control_call f n) (standing program f n) (plain_of f n) (store_call f n) place k (made (Store k) e)).1

  pub tells_name : (k : StoreCall) → link_of program ps f n ≡ Store k → f ≡ store_name k
  tells_name k e = store_named f n k (by_store (control_call f n) (standing program f n) (plain_of f n) (store_call f n) place k (made (Store k) e)).2

  pub tells_declared : (kind : Kind) (d : ℕ) → link_of program ps f n ≡ Declared kind d →
      procedure_of program f ts ≡ declared_predicate (usage_of program kind) d
  tells_declared kind d e =
      declared_goal program f ts kind d
      (by_declared (control_call f n) (standing program f n) (plain_of f n) (store_call f n) place kind d (made (Declared kind d) e)).1

  pub tells_procedure : (p : ℕ) → IsLoaded program ps → link_of program ps f n ≡ Procedure p → IsProgramGoal program ps f ts p
  tells_procedure p loaded e =
      let h = by_program (control_call f n) (standing program f n) (plain_of f n) (store_call f n) place p (made (Procedure p) e) in
      let defined : is_defined program f n ≡ true = stands_program _ _ _ _ _ (sym (standing_is program f n) ∙ h.1) in
      let there = there_is (procedure_place ps f n) (loaded.defined f n ∙ defined) in
      let same : there.0 ≡ p = sym (ap (λ o. unwrap_or o 0) there.1) ∙ h.2 in
      let found = procedure_found ps f n p (there.1 ∙ ap Some same) in
      let parts = and_parts (bytes_eq found.0.name f) (found.0.arity == n) found.2 in
      let name : found.0.name ≡ f = (bytes_decides found.0.name f).0 parts.0 in
      let arity : found.0.arity ≡ n = eqb-true found.0.arity n parts.1 in
      record {
        procedure = found.0;
        there = found.1;
        name = name;
        arity = arity;
        is =
            program_goal program f ts h.1
            ∙ ap program_predicate
            (sym ((loaded.compiled p found.0 found.1).clauses ∙ ap (λ g. clauses_of program.clauses g found.0.arity) name
            ∙ ap (clauses_of program.clauses f) arity));
      }

  pub tells_unknown : link_of program ps f n ≡ Unknown → procedure_of program f ts ≡ unknown_procedure
  tells_unknown e = by (by_nothing (control_call f n) (standing program f n) (plain_of f n) (store_call f n) place (made Unknown e))
    where
      by : (standing program f n ≡ of_nothing) ⊎
          (((standing program f n ≡ of_store) × (store_call f n ≡ None)) ⊎ ((standing program f n ≡ of_plain) × (plain_of f n ≡ None)))
          → procedure_of program f ts ≡ unknown_procedure
      by (inl h) = nothing_goal program f ts h
      by (inr (inl h)) =
          let has : has_name store_names f n ≡ true = stands_store _ _ _ _ _ (sym (standing_is program f n) ∙ h.0) in
          absurd (true≢false (sym has ∙ has_store f n ∙ ap is_some h.1))
      by (inr (inr h)) =
          let has : is_plain f n ≡ true = stands_plain _ _ _ _ _ (sym (standing_is program f n) ∙ h.0) in
          absurd (true≢false (sym has ∙ has_plain f n ∙ ap is_some h.1))

pub clause_of_code : {codes : List (List Instr)} {cs : List Clause} → SpellEach codes cs → (i : ℕ) (code : List Instr) → slice_get codes i ≡ Some code →
    (c : Clause) × (slice_get cs i ≡ Some c) × SpellsClause code c
clause_of_code none_spelled i code at = absurd (cc at)
clause_of_code (one_more_spelled {code = d} {c = c} s h) zero code at = let same : d ≡ code = cc at in (c, refl, subst (λ k. SpellsClause k c) same s)
clause_of_code (one_more_spelled s h) (suc i) code at = clause_of_code h i code at

pub code_of_clause : {codes : List (List Instr)} {cs : List Clause} → SpellEach codes cs → (i : ℕ) (c : Clause) → slice_get cs i ≡ Some c →
    (code : List Instr) × (slice_get codes i ≡ Some code) × SpellsClause code c
code_of_clause none_spelled i c at = absurd (cc at)
code_of_clause (one_more_spelled {code = code} {c = d} s h) zero c at = let same : d ≡ c = cc at in (code, refl, subst (SpellsClause code) same s)
code_of_clause (one_more_spelled s h) (suc i) c at = code_of_clause h i c at
