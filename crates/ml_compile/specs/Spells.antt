-- What instructions spell: terms, heads, bodies and clauses. The compiler appends instructions;
-- here a list of them is read from a place on, and nothing is said of how it came about. A block
-- may stand anywhere, and a term may be built in any way that gives it.
use Rattle.std.specs.Prelude.{◌≡◌, ℕ, ◌+◌, ◌<◌, ℤ, List, [], ◌∷◌, ◌++◌, length, Some, slice_get, true}
use Rattle.ml_term.specs.Tree.{Tree, Trees, variable, integer, atom, compound, trees_of, list_of, arity, has, variables, width}
use Rattle.ml_term.specs.Keys.{arguments}
use Rattle.ml_term.specs.declared.declaration.Pred.{Pred}
use Rattle.ml_search.specs.Bodies.{Body, true_goal, fail_goal, cut, conjunction, disjunction, if_then, if_then_else, predication, body_from, body_from_1, body_from_3}
use Rattle.ml_search.specs.Program.{Clause, clause_term}
use Rattle.ml_compile.specs.declared.instr.Instr.{Instr}
use Rattle.ml_compile.specs.declared.instr.Instr.TheVariants.{Enter, GetFirst, GetAgain, GetInt, GetAtom, GetCmp, PutVar, PutInt, PutAtom, PutCmp, Call, Proceed, True, Fail, Cut, Try, Choose}

-- the instruction at a place
abbrev pub StandsAt : List Instr → ℕ → Instr → Type 0
StandsAt code p i = slice_get code p ≡ Some i

-- The instructions from one place to another turn some terms into others. Terms are put behind
-- those that are there; a compound takes the last ones for its arguments.
pub data Builds (code : List Instr) : ℕ → ℕ → List Tree → List Tree → Type 0 where
  nothing_built : {p : ℕ} {ts : List Tree} → Builds code p p ts ts
  variable_built : {p q n : ℕ} {ts us : List Tree} → StandsAt code p (PutVar n)
      → Builds code (p + 1) q (ts ++ variable n ∷ []) us → Builds code p q ts us
  integer_built : {p q : ℕ} {z : ℤ} {ts us : List Tree} → StandsAt code p (PutInt z)
      → Builds code (p + 1) q (ts ++ integer z ∷ []) us → Builds code p q ts us
  atom_built : {p q : ℕ} {f : List ℕ} {ts us : List Tree} → StandsAt code p (PutAtom f)
      → Builds code (p + 1) q (ts ++ atom f ∷ []) us → Builds code p q ts us
  compound_built : {p q n : ℕ} {f : List ℕ} {vs us : List Tree} (ts args : List Tree)
      → StandsAt code p (PutCmp f n) → length args ≡ n → vs ≡ ts ++ args
      → Builds code (p + 1) q (ts ++ compound f (trees_of args) ∷ []) us → Builds code p q vs us

-- The instructions from one place to another match some terms, from the left. Variables are
-- numbered by first place: those below the first number have been met before, and those below the
-- second one afterwards.
pub data Matches (code : List Instr) : ℕ → ℕ → ℕ → List Tree → ℕ → Type 0 where
  nothing_matched : {p met : ℕ} → Matches code p p met [] met
  first_matched : {p q met after : ℕ} {ts : List Tree} → StandsAt code p (GetFirst met)
      → Matches code (p + 1) q (met + 1) ts after → Matches code p q met (variable met ∷ ts) after
  again_matched : {p q met after n : ℕ} {ts : List Tree} → StandsAt code p (GetAgain n) → n < met
      → Matches code (p + 1) q met ts after → Matches code p q met (variable n ∷ ts) after
  integer_matched : {p q met after : ℕ} {z : ℤ} {ts : List Tree} → StandsAt code p (GetInt z)
      → Matches code (p + 1) q met ts after → Matches code p q met (integer z ∷ ts) after
  atom_matched : {p q met after : ℕ} {f : List ℕ} {ts : List Tree} → StandsAt code p (GetAtom f)
      → Matches code (p + 1) q met ts after → Matches code p q met (atom f ∷ ts) after
  compound_matched : {p q met between after n size : ℕ} {f : List ℕ} {us : Trees} {ts : List Tree}
      → StandsAt code p (GetCmp f n size) → arity us ≡ n
      → Matches code (p + 1) (p + size) met (list_of us) between
      → Matches code (p + size) q between ts after → Matches code p q met (compound f us ∷ ts) after

-- what a name calls with some arguments, as a body: every goal but `true`, `fail`, `!`, `,`, `;`
-- and `->` is called
abbrev pub called_body : List ℕ → List Tree → Body
called_body f (t ∷ []) = body_from_1 f t
called_body f (t ∷ u ∷ v ∷ []) = body_from_3 f t u v
called_body f ts = predication f ts

mutual
  -- The instructions from one place to another spell a body that is no conjunction. A condition
  -- without an alternative has one that fails.
  pub data SpellsGoal (code : List Instr) : ℕ → Body → ℕ → Type 0 where
    true_spelled : {p : ℕ} → StandsAt code p True → SpellsGoal code p true_goal (p + 1)
    fail_spelled : {p : ℕ} → StandsAt code p Fail → SpellsGoal code p fail_goal (p + 1)
    cut_spelled : {p : ℕ} → StandsAt code p Cut → SpellsGoal code p cut (p + 1)
    disjunction_spelled : {p second end : ℕ} {a b : Body} → StandsAt code p (Try second end)
        → IsBlock code (p + 1) a → IsBlock code (p + second) b
        → SpellsGoal code p (disjunction a b) (p + end)
    if_then_else_spelled : {p second third end : ℕ} {c t e : Body}
        → StandsAt code p (Choose second third end)
        → IsBlock code (p + 1) c → IsBlock code (p + second) t → IsBlock code (p + third) e
        → SpellsGoal code p (if_then_else c t e) (p + end)
    if_then_spelled : {p second third end : ℕ} {c t : Body}
        → StandsAt code p (Choose second third end)
        → IsBlock code (p + 1) c → IsBlock code (p + second) t → IsBlock code (p + third) fail_goal
        → SpellsGoal code p (if_then c t) (p + end)
    call_spelled : {p q : ℕ} {g : Pred} {ts : List Tree} {b : Body}
        → Builds code p q [] ts → StandsAt code q (Call g)
        → length ts ≡ g.arity → b ≡ called_body g.name ts → SpellsGoal code p b (q + 1)

  -- The instructions from one place to another spell a body.
  pub data Spells (code : List Instr) : ℕ → Body → ℕ → Type 0 where
    goal_spelled : {p q : ℕ} {b : Body} → SpellsGoal code p b q → Spells code p b q
    conjunction_spelled : {p q r : ℕ} {a b : Body} → Spells code p a q → Spells code q b r
        → Spells code p (conjunction a b) r

  -- A block of a body begins at a place.
  pub data IsBlock (code : List Instr) : ℕ → Body → Type 0 where
    block : {p q : ℕ} {b : Body} → Spells code p b q → StandsAt code q Proceed → IsBlock code p b

-- A clause: its variables are created, the arguments of its head are matched from the left, and its
-- body is a block. `met` variables stand in the head.
pub record SpellsClause (code : List Instr) (c : Clause) : Type 0 where
  pub body_at : ℕ
  pub met : ℕ
  pub enters : StandsAt code 0 (Enter (width (clause_term c.head c.body)))
  pub head : Matches code 1 body_at 0 (list_of (arguments c.head)) met
  pub body : IsBlock code body_at (body_from c.body)
  pub within : (n : ℕ) → has n (variables (clause_term c.head c.body)) ≡ true
      → n < width (clause_term c.head c.body)
