-- What code spells from a place on, other code spells there that has the same instructions from that place on.
use Rattle.std.proofs.Common.{◌≡◌, ℕ, zero, suc, ◌+◌, ◌<◌, ◌≤◌, List, [], ◌∷◌, ◌++◌, length, set, refl, sym, ap, subst, ◌∙◌, arith, append_assoc, length-append}
use mathlib.Core.List.{IsPrefix}
use Rattle.ml_term.specs.Tree.{Tree}
use Rattle.ml_search.specs.Bodies.{Body}
use Rattle.ml_compile.specs.declared.instr.Instr.{Instr}
use Rattle.ml_compile.specs.Spells.{StandsAt, Builds, nothing_built, variable_built, integer_built, atom_built, compound_built, Matches, nothing_matched, first_matched, again_matched, integer_matched, atom_matched, compound_matched, SpellsGoal, true_spelled, fail_spelled, cut_spelled, disjunction_spelled, if_then_else_spelled, if_then_spelled, call_spelled, Spells, goal_spelled, conjunction_spelled, IsBlock, block}

-- what stands from a place on stands in other code
pub record Keeps (from : ℕ) (code code' : List Instr) : Type 0 where
  pub stands : (i : ℕ) (x : Instr) → from ≤ i → StandsAt code i x → StandsAt code' i x

-- instructions that build follow one another
pub builds_on : {code : List Instr} {p q r : ℕ} {ts us vs : List Tree} → Builds code p q ts us → Builds code q r us vs → Builds code p r ts vs
builds_on nothing_built d = d
builds_on (variable_built s b) d = variable_built s (builds_on b d)
builds_on (integer_built s b) d = integer_built s (builds_on b d)
builds_on (atom_built s b) d = atom_built s (builds_on b d)
builds_on (compound_built ts args s n e b) d = compound_built ts args s n e (builds_on b d)

-- instructions that match follow one another
pub matches_on : {code : List Instr} {p q r met between after : ℕ} {ts us : List Tree} → Matches code p q met ts between → Matches code q r between us after
    → Matches code p r met (ts ++ us) after
matches_on nothing_matched d = d
matches_on (first_matched s m) d = first_matched s (matches_on m d)
matches_on (again_matched s l m) d = again_matched s l (matches_on m d)
matches_on (integer_matched s m) d = integer_matched s (matches_on m d)
matches_on (atom_matched s m) d = atom_matched s (matches_on m d)
matches_on (compound_matched s n inner m) d = compound_matched s n inner (matches_on m d)

-- instructions lead forward
pub builds_forward : {code : List Instr} {p q : ℕ} {ts us : List Tree} → Builds code p q ts us → p ≤ q
builds_forward nothing_built = omega arith
builds_forward (variable_built s b) = let h = builds_forward b in omega arith
builds_forward (integer_built s b) = let h = builds_forward b in omega arith
builds_forward (atom_built s b) = let h = builds_forward b in omega arith
builds_forward (compound_built ts args s n e b) = let h = builds_forward b in omega arith

pub matches_forward : {code : List Instr} {p q met after : ℕ} {ts : List Tree} → Matches code p q met ts after → p ≤ q
matches_forward nothing_matched = omega arith
matches_forward (first_matched s m) = let h = matches_forward m in omega arith
matches_forward (again_matched s l m) = let h = matches_forward m in omega arith
matches_forward (integer_matched s m) = let h = matches_forward m in omega arith
matches_forward (atom_matched s m) = let h = matches_forward m in omega arith
matches_forward (compound_matched s n inner m) = let h = matches_forward m in let k = matches_forward inner in omega arith

mutual
  pub goal_forward : {code : List Instr} {p q : ℕ} {b : Body} → SpellsGoal code p b q → p ≤ q
  goal_forward (true_spelled s) = omega arith
  goal_forward (fail_spelled s) = omega arith
  goal_forward (cut_spelled s) = omega arith
  goal_forward (disjunction_spelled s a b) = omega arith
  goal_forward (if_then_else_spelled s c t e) = omega arith
  goal_forward (if_then_spelled s c t e) = omega arith
  goal_forward (call_spelled b s n e) = let h = builds_forward b in omega arith

  pub spells_forward : {code : List Instr} {p q : ℕ} {b : Body} → Spells code p b q → p ≤ q
  spells_forward (goal_spelled g) = goal_forward g
  spells_forward (conjunction_spelled a b) = let h = spells_forward a in let k = spells_forward b in omega arith

module _ (from : ℕ) (code code' : List Instr) (k : Keeps from code code') where
  pub builds_kept : {p q : ℕ} {ts us : List Tree} → from ≤ p → Builds code p q ts us → Builds code' p q ts us
  builds_kept le nothing_built = nothing_built
  builds_kept le (variable_built s b) = variable_built (k.stands _ _ le s) (builds_kept (omega arith) b)
  builds_kept le (integer_built s b) = integer_built (k.stands _ _ le s) (builds_kept (omega arith) b)
  builds_kept le (atom_built s b) = atom_built (k.stands _ _ le s) (builds_kept (omega arith) b)
  builds_kept le (compound_built ts args s n e b) = compound_built ts args (k.stands _ _ le s) n e (builds_kept (omega arith) b)

  pub matches_kept : {p q met after : ℕ} {ts : List Tree} → from ≤ p → Matches code p q met ts after → Matches code' p q met ts after
  matches_kept le nothing_matched = nothing_matched
  matches_kept le (first_matched s m) = first_matched (k.stands _ _ le s) (matches_kept (omega arith) m)
  matches_kept le (again_matched s l m) = again_matched (k.stands _ _ le s) l (matches_kept (omega arith) m)
  matches_kept le (integer_matched s m) = integer_matched (k.stands _ _ le s) (matches_kept (omega arith) m)
  matches_kept le (atom_matched s m) = atom_matched (k.stands _ _ le s) (matches_kept (omega arith) m)
  matches_kept le (compound_matched s n inner m) = compound_matched (k.stands _ _ le s) n (matches_kept (omega arith) inner) (matches_kept (omega arith) m)

  mutual
    pub goal_kept : {p q : ℕ} {b : Body} → from ≤ p → SpellsGoal code p b q → SpellsGoal code' p b q
    goal_kept le (true_spelled s) = true_spelled (k.stands _ _ le s)
    goal_kept le (fail_spelled s) = fail_spelled (k.stands _ _ le s)
    goal_kept le (cut_spelled s) = cut_spelled (k.stands _ _ le s)
    goal_kept le (disjunction_spelled s a b) = disjunction_spelled (k.stands _ _ le s) (block_kept (omega arith) a) (block_kept (omega arith) b)
    goal_kept le (if_then_else_spelled s c t e) =
        if_then_else_spelled (k.stands _ _ le s) (block_kept (omega arith) c) (block_kept (omega arith) t) (block_kept (omega arith) e)
    goal_kept le (if_then_spelled s c t e) =
        if_then_spelled (k.stands _ _ le s) (block_kept (omega arith) c) (block_kept (omega arith) t) (block_kept (omega arith) e)
    goal_kept le (call_spelled b s n e) = let h = builds_forward b in call_spelled (builds_kept le b) (k.stands _ _ (omega arith) s) n e

    pub spells_kept : {p q : ℕ} {b : Body} → from ≤ p → Spells code p b q → Spells code' p b q
    spells_kept le (goal_spelled g) = goal_spelled (goal_kept le g)
    spells_kept le (conjunction_spelled a b) = let h = spells_forward a in conjunction_spelled (spells_kept le a) (spells_kept (omega arith) b)

    pub block_kept : {p : ℕ} {b : Body} → from ≤ p → IsBlock code p b → IsBlock code' p b
    block_kept le (block b s) = let h = spells_forward b in block (spells_kept le b) (k.stands _ _ (omega arith) s)

stands_before : (xs ys : List Instr) (i : ℕ) (x : Instr) → StandsAt xs i x → StandsAt (xs ++ ys) i x
stands_before [] ys i x h = cc
stands_before (y ∷ xs) ys zero x h = h
stands_before (y ∷ xs) ys (suc i) x h = stands_before xs ys i x h

-- code that is appended to keeps all
pub keeps_prefix : (xs ys : List Instr) → IsPrefix xs ys → Keeps 0 xs ys
keeps_prefix xs ys p = record { stands = λ i x le h. subst (λ (zs : List Instr). StandsAt zs i x) p.1 (stands_before xs p.0 i x h) }

pub stands_last : (xs : List Instr) (x : Instr) → StandsAt (xs ++ x ∷ []) (length xs) x
stands_last [] x = refl
stands_last (y ∷ xs) x = stands_last xs x

stands_past : (xs : List Instr) (k : ℕ) (y : Instr) (i : ℕ) (x : Instr) → suc k ≤ i → StandsAt xs i x → StandsAt (set xs k y) i x
stands_past [] k y i x le h = h
stands_past (z ∷ xs) zero y zero x le h = absurd (omega arith)
stands_past (z ∷ xs) zero y (suc i) x le h = h
stands_past (z ∷ xs) (suc k) y zero x le h = absurd (omega arith)
stands_past (z ∷ xs) (suc k) y (suc i) x le h = stands_past xs k y i x (omega arith) h

-- code with one instruction written anew keeps all that stands above it
pub keeps_set : (xs : List Instr) (k : ℕ) (y : Instr) → Keeps (suc k) xs (set xs k y)
keeps_set xs k y = record { stands = stands_past xs k y }

pub stands_set : (xs : List Instr) (k : ℕ) (y : Instr) → k < length xs → StandsAt (set xs k y) k y
stands_set [] k y lt = absurd (omega arith)
stands_set (z ∷ xs) zero y lt = refl
stands_set (z ∷ xs) (suc k) y lt = stands_set xs k y (omega arith)

pub prefix_on : (xs ys zs : List Instr) → IsPrefix xs ys → IsPrefix ys zs → IsPrefix xs zs
prefix_on xs ys zs p q = (p.0 ++ q.0, sym (append_assoc xs p.0 q.0) ∙ (ap (λ w. w ++ q.0) p.1 ∙ q.1))

pub prefix_length : (xs ys : List Instr) → IsPrefix xs ys → length xs ≤ length ys
prefix_length xs ys p = omega (arith, ap length p.1, length-append xs p.0)

pub one_more : (xs : List Instr) (x : Instr) → length xs + 1 ≡ length (xs ++ x ∷ [])
one_more xs x = omega (arith, length-append xs (x ∷ []))

-- an instruction that is written anew behind some code leaves that code
pub prefix_set : (old new : List Instr) (k : ℕ) (x : Instr) → length old ≤ k → IsPrefix old new → IsPrefix old (set new k x)
prefix_set [] new k x le p = (set new k x, refl)
prefix_set (y ∷ old) [] k x le p = absurd (cc (p.1))
prefix_set (y ∷ old) (z ∷ new) zero x le p = absurd (omega arith)
prefix_set (y ∷ old) (z ∷ new) (suc k) x le p =
    let heads : y ≡ z = cc (p.1) in
    let rest : IsPrefix old (set new k x) = prefix_set old new k x (omega arith) (p.0, cc (p.1)) in
    (rest.0, cc (heads, rest.1))
