-- Heads and goals whose first arguments clash have no unifier; others are unified by their arguments.
use Rattle.std.proofs.Common.{◌≡◌, ℕ, ◌+◌, inl, inr, List, [], ◌∷◌, map, length, Option, Some, None, IsSome, refl, sym, ap, subst, ◌∙◌, arith}
use Rattle.std.specs.List.{zip}
use Rattle.std.proofs.lemmas.List.{append-nil}
use Rattle.ml_term.specs.Tree.{Tree, Trees, no_trees, tree, variable, integer, atom, compound, trees_of, list_of, arity, substitute, substitute_in}
use Rattle.ml_term.specs.Keys.{arguments}
use Rattle.ml_term.specs.Unify.{Map, mgu, unifier}
use Rattle.ml_term.proofs.Substitutions.{arity_kept}
use Rattle.ml_term.proofs.UnifierIsOne.{terms_unified_exactly}
use Rattle.ml_term.proofs.EqualEquations.{same}
use Rattle.ml_term.proofs.GroundTerms.{arguments_solved}
use Rattle.ml_search.specs.Program.{Clause, arity_of}
use Rattle.ml_search.specs.Bodies.{goal_term}
use Rattle.ml_search.specs.Actions.{shift_variables}
use Rattle.ml_compile.specs.declared.instr.Instr.{Instr}
use Rattle.ml_compile.specs.declared.instr.Instr.TheVariants.{Enter, GetFirst, GetAgain, GetInt, GetAtom, GetCmp, PutVar, PutInt, PutAtom, PutCmp, Call, Proceed, True, Fail, Cut, Try, Choose}
use Rattle.ml_compile.specs.Spells.{StandsAt, Matches, SpellsClause}
use Rattle.ml_match.specs.Entered.{head_equations}
use Rattle.ml_match.specs.inside.Clashes.{Clashes}
use Rattle.ml_match.proofs.GoalsBuilt.{substituted_trees}
use Rattle.ml_match.proofs.HeadParts.{takes_some, next_integer, next_atom, next_compound}

none_unless : (r : Option Map) → (IsSome r → ⊥) → r ≡ None
none_unless None h = refl
none_unless (Some m) h = absurd (h refl)

as_long : (ts : Trees) → length (list_of ts) ≡ arity ts
as_long no_trees = refl
as_long (tree t ts) = omega (arith, as_long ts)

-- what a term is that an instruction matches
abbrev pub IsMatchedBy : Instr → Tree → Type 0
IsMatchedBy (GetInt z) u = u ≡ integer z
IsMatchedBy (GetAtom f) u = u ≡ atom f
IsMatchedBy (GetCmp f n s) u = (us : Trees) × ((u ≡ compound f us) × (arity us ≡ n))
IsMatchedBy x u = Unit {0}

-- terms that clash are made equal by no substitution
clash_apart : (s r : ℕ → Tree) (t u : Tree) (x : Instr) → Clashes t x → IsMatchedBy x u → substitute s t ≡ substitute s (substitute r u) → ⊥
clash_apart s r (integer y) u (GetInt z) c m e =
    let k : integer y ≡ integer z = e ∙ ap (λ v. substitute s (substitute r v)) m in c (cc k)
clash_apart s r (integer y) u (GetAtom f) c m e =
    let k : integer y ≡ atom f = e ∙ ap (λ v. substitute s (substitute r v)) m in cc k
clash_apart s r (integer y) u (GetCmp f n z) c m e =
    let k : integer y ≡ substitute s (substitute r (compound f m.0)) = e ∙ ap (λ v. substitute s (substitute r v)) m.1.0 in cc k
clash_apart s r (atom f) u (GetInt z) c m e =
    let k : atom f ≡ integer z = e ∙ ap (λ v. substitute s (substitute r v)) m in cc k
clash_apart s r (atom f) u (GetAtom g) c m e =
    let k : atom f ≡ atom g = e ∙ ap (λ v. substitute s (substitute r v)) m in c (cc k)
clash_apart s r (atom f) u (GetCmp g n z) c m e =
    let k : atom f ≡ substitute s (substitute r (compound g m.0)) = e ∙ ap (λ v. substitute s (substitute r v)) m.1.0 in cc k
clash_apart s r (compound f ts) u (GetInt z) c m e =
    let k : substitute s (compound f ts) ≡ integer z = e ∙ ap (λ v. substitute s (substitute r v)) m in cc k
clash_apart s r (compound f ts) u (GetAtom g) c m e =
    let k : substitute s (compound f ts) ≡ atom g = e ∙ ap (λ v. substitute s (substitute r v)) m in cc k
clash_apart s r (compound f ts) u (GetCmp g n z) c m e =
    let k : compound f (substitute_in s ts) ≡ compound g (substitute_in s (substitute_in r m.0)) = e ∙ ap (λ v. substitute s (substitute r v)) m.1.0 in
    let many : arity (substitute_in s ts) ≡ arity (substitute_in s (substitute_in r m.0)) = ap arity (inside k) in
    elim c [
      | inl d ↦ d (cc k)
      | inr d ↦ d (omega (arith, as_long ts, many, arity_kept s ts, arity_kept s (substitute_in r m.0), arity_kept r m.0, m.1.1))
    ]
  where
    inside : {f g : List ℕ} {ts us : Trees} → compound f ts ≡ compound g us → ts ≡ us
    inside e = cc e
clash_apart s r (variable k) u x c m e = absurd c
clash_apart s r (integer y) u (Enter n) c m e = c
clash_apart s r (integer y) u (GetFirst n) c m e = c
clash_apart s r (integer y) u (GetAgain n) c m e = c
clash_apart s r (integer y) u (PutVar n) c m e = c
clash_apart s r (integer y) u (PutInt z) c m e = c
clash_apart s r (integer y) u (PutAtom f) c m e = c
clash_apart s r (integer y) u (PutCmp f n) c m e = c
clash_apart s r (integer y) u (Call g) c m e = c
clash_apart s r (integer y) u Proceed c m e = c
clash_apart s r (integer y) u True c m e = c
clash_apart s r (integer y) u Fail c m e = c
clash_apart s r (integer y) u Cut c m e = c
clash_apart s r (integer y) u (Try a b) c m e = c
clash_apart s r (integer y) u (Choose a b d) c m e = c
clash_apart s r (atom h) u (Enter n) c m e = c
clash_apart s r (atom h) u (GetFirst n) c m e = c
clash_apart s r (atom h) u (GetAgain n) c m e = c
clash_apart s r (atom h) u (PutVar n) c m e = c
clash_apart s r (atom h) u (PutInt z) c m e = c
clash_apart s r (atom h) u (PutAtom f) c m e = c
clash_apart s r (atom h) u (PutCmp f n) c m e = c
clash_apart s r (atom h) u (Call g) c m e = c
clash_apart s r (atom h) u Proceed c m e = c
clash_apart s r (atom h) u True c m e = c
clash_apart s r (atom h) u Fail c m e = c
clash_apart s r (atom h) u Cut c m e = c
clash_apart s r (atom h) u (Try a b) c m e = c
clash_apart s r (atom h) u (Choose a b d) c m e = c
clash_apart s r (compound h ts) u (Enter n) c m e = c
clash_apart s r (compound h ts) u (GetFirst n) c m e = c
clash_apart s r (compound h ts) u (GetAgain n) c m e = c
clash_apart s r (compound h ts) u (PutVar n) c m e = c
clash_apart s r (compound h ts) u (PutInt z) c m e = c
clash_apart s r (compound h ts) u (PutAtom f) c m e = c
clash_apart s r (compound h ts) u (PutCmp f n) c m e = c
clash_apart s r (compound h ts) u (Call g) c m e = c
clash_apart s r (compound h ts) u Proceed c m e = c
clash_apart s r (compound h ts) u True c m e = c
clash_apart s r (compound h ts) u Fail c m e = c
clash_apart s r (compound h ts) u Cut c m e = c
clash_apart s r (compound h ts) u (Try a b) c m e = c
clash_apart s r (compound h ts) u (Choose a b d) c m e = c

-- the first of some terms is what the first instruction matches
pub first_matched_by : {code : List Instr} {p q met after : ℕ} {u : Tree} {us : List Tree} (x : Instr) → StandsAt code p x
    → Matches code p q met (u ∷ us) after → IsMatchedBy x u
first_matched_by {u} {us} (GetInt z) s m = first (next_integer z s (takes_some m) m).is
  where
    first : {t : Tree} {ts : List Tree} → u ∷ us ≡ t ∷ ts → u ≡ t
    first e = cc e
first_matched_by {u} {us} (GetAtom f) s m = first (next_atom f s (takes_some m) m).is
  where
    first : {t : Tree} {ts : List Tree} → u ∷ us ≡ t ∷ ts → u ≡ t
    first e = cc e
first_matched_by {u} {us} (GetCmp f n z) s m =
    let k = next_compound f n z s (takes_some m) m in
    (k.args, (first k.is, k.many))
  where
    first : {t : Tree} {ts : List Tree} → u ∷ us ≡ t ∷ ts → u ≡ t
    first e = cc e
first_matched_by (Enter n) s m = tt
first_matched_by (GetFirst n) s m = tt
first_matched_by (GetAgain n) s m = tt
first_matched_by (PutVar n) s m = tt
first_matched_by (PutInt z) s m = tt
first_matched_by (PutAtom f) s m = tt
first_matched_by (PutCmp f n) s m = tt
first_matched_by (Call g) s m = tt
first_matched_by Proceed s m = tt
first_matched_by True s m = tt
first_matched_by Fail s m = tt
first_matched_by Cut s m = tt
first_matched_by (Try a b) s m = tt
first_matched_by (Choose a b d) s m = tt

-- a term has no unifier with a head's term that it clashes with
pub clash_fails : {code : List Instr} {p q met after : ℕ} {us : List Tree} (r : ℕ → Tree) (t u : Tree) (x : Instr) → StandsAt code p x
    → Matches code p q met (u ∷ us) after → Clashes t x → unifier t (substitute r u) ≡ None
clash_fails r t u x s m c =
    none_unless _ (λ i. let v = (terms_unified_exactly t (substitute r u)).0 i in clash_apart v.0 r t u x c (first_matched_by x s m) v.1)

-- compounds are equal only where their first arguments are
pub no_unifier : (code : List Instr) (c : Clause) (x : Instr) (t : Tree) (next : ℕ) (name : List ℕ) (ts : List Tree) → SpellsClause code c
    → StandsAt code 1 x → Clashes t x → arity_of c.head ≡ 1 + length ts
    → unifier (compound name (tree t (trees_of ts))) (shift_variables next c.head) ≡ None
no_unifier code c x t next name ts s a k n =
    none_unless _ (λ i. let u = (terms_unified_exactly _ _).0 i in by_head c.head s.head n u.0 u.1)
  where
    by_head : (h : Tree) → Matches code 1 s.body_at 0 (list_of (arguments h)) s.met → arity_of h ≡ 1 + length ts
        → (r : ℕ → Tree) → substitute r (compound name (tree t (trees_of ts))) ≡ substitute r (shift_variables next h) → ⊥
    by_head (variable m) h e r q = omega (arith, e)
    by_head (integer z) h e r q = omega (arith, e)
    by_head (atom f) h e r q = omega (arith, e)
    by_head (compound f no_trees) h e r q = omega (arith, e)
    by_head (compound f (tree u us)) h e r q =
        clash_apart r (λ k. variable (next + k)) t u x k (first_matched_by x a h) (first q)
      where
        first : {f g : List ℕ} {v w : Tree} {vs ws : Trees} → compound f (tree v vs) ≡ compound g (tree w ws) → v ≡ w
        first e = cc e

-- a goal and a head of one name and arity
list_of_trees : (ts : List Tree) → list_of (trees_of ts) ≡ ts
list_of_trees [] = refl
list_of_trees (t ∷ ts) = ap (λ us. t ∷ us) (list_of_trees ts)

arity_listed : (ts : List Tree) → arity (trees_of ts) ≡ length ts
arity_listed [] = refl
arity_listed (t ∷ ts) = omega (arith, arity_listed ts)

by_goal : (next : ℕ) (name : List ℕ) (ts us : List Tree) → length us ≡ length ts
    → unifier (goal_term name ts) (shift_variables next (goal_term name us)) ≡ mgu (head_equations next ts (goal_term name us))
by_goal next name [] [] e = same (atom name) [] []
by_goal next name [] (u ∷ us) e = absurd (omega arith)
by_goal next name (t ∷ ts) [] e = absurd (omega arith)
by_goal next name (t ∷ ts) (u ∷ us) e =
    let r : ℕ → Tree = λ k. variable (next + k) in
    let vs : List Tree = u ∷ us in
    let all : List Tree = t ∷ ts in
    let many : arity (trees_of all) ≡ arity (substitute_in r (trees_of vs)) =
    omega (arith, arity_listed all, arity_kept r (trees_of vs), arity_listed vs, e) in
    let listed : list_of (substitute_in r (trees_of vs)) ≡ map (substitute r) (list_of (trees_of vs)) =
    ap list_of (substituted_trees r vs) ∙ (list_of_trees (map (substitute r) vs) ∙ ap (map (substitute r)) (sym (list_of_trees vs))) in
    arguments_solved name (trees_of all) (substitute_in r (trees_of vs)) [] [] many
    ∙ ap mgu (append-nil (zip (list_of (trees_of all)) (list_of (substitute_in r (trees_of vs))))
    ∙ (ap (λ ws. zip ws (list_of (substitute_in r (trees_of vs)))) (list_of_trees all) ∙ ap (zip all) listed))

pub matched_by_arguments : (next : ℕ) (name : List ℕ) (ts us : List Tree) (head : Tree) → head ≡ goal_term name us → length us ≡ length ts
    → unifier (goal_term name ts) (shift_variables next head) ≡ mgu (head_equations next ts head)
matched_by_arguments next name ts us head e n =
    subst (λ (h : Tree). unifier (goal_term name ts) (shift_variables next h) ≡ mgu (head_equations next ts h)) (sym e) (by_goal next name ts us n)
