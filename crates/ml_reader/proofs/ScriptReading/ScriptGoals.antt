-- The goals that stand in clauses: those whose term is callable are well formed.
use Rattle.std.specs.Prelude.{◌≡◌, ℕ, ◌+◌, ◌<◌, true, ◌&&◌, nat_le, List, [], ◌∷◌, map, Some}
use Rattle.std.specs.List.{list_all}
use Rattle.std.proofs.Common.{refl, ap, subst, ◌∙◌, arith, append-nil}
use Rattle.std.proofs.lemmas.Bool.{and_parts, and_from, leb-true, lt-ltb}
use Rattle.ml_term.specs.Seen.{seen, all_seen}
use Rattle.ml_term.specs.declared.term.Term.{Term}
use Rattle.ml_term.specs.declared.term.Term.TheVariants.{Cmp}
use Rattle.ml_term.proofs.CompoundTrees.{seen_compound}
use Rattle.ml_term.specs.Tree.{Tree, compound, compound_1, trees_of, variables, has, firsts, counts_from, is_numbered}
use Rattle.ml_term.specs.Valid.{is_valid}
use Rattle.ml_term.specs.Names.{is_name}
use Rattle.ml_search.specs.Bodies.{is_callable}
use Rattle.ml_search.specs.WellFormed.{is_goal, are_rising}
use Rattle.ml_reader.specs.Lexemes.{ReadClause}
use Rattle.ml_reader.specs.inside.script.ScriptItems.{IsGoalIfCallable, goal_of, only_tree}
use Rattle.ml_reader.specs.Texts.{IsWellRead, rise_from}

-- numbers that rise by steps
rising : (k : ℕ) (ns : List (List ℕ × ℕ)) → rise_from k ns ≡ true → are_rising (map (λ e. e.1) ns) ≡ true
rising k [] h = refl
rising k (n ∷ []) h = refl
rising k (n ∷ m ∷ ns) h =
    let p = and_parts (nat_le k n.1) (rise_from (1 + n.1) (m ∷ ns)) h in
    let q = and_parts (nat_le (1 + n.1) m.1) (rise_from (1 + m.1) ns) p.1 in
    let l : n.1 < m.1 = omega (arith, leb-true (1 + n.1) m.1 q.0) in
    and_from _ _ (lt-ltb n.1 m.1 l) (rising (1 + n.1) (m ∷ ns) p.1)

-- what makes a goal
record Parts (t : Tree) (ns : List (List ℕ × ℕ)) : Type 0 where
  valid : is_valid t ≡ true
  callable : is_callable t ≡ true
  numbered : is_numbered t ≡ true
  of_term : list_all (λ e. has e.1 (variables t)) ns ≡ true
  rises : are_rising (map (λ e. e.1) ns) ≡ true

made : (t : Tree) (ns : List (List ℕ × ℕ)) → Parts t ns → is_goal (goal_of t ns) ≡ true
made t ns p = and_from _ _ (and_from _ _ (and_from _ _ (and_from _ _ p.valid p.callable) p.numbered) p.of_term) p.rises

goal_parts : (t : Tree) (ns : List (List ℕ × ℕ)) → is_goal (goal_of t ns) ≡ true → Parts t ns
goal_parts t ns h =
    let a = and_parts (is_valid t && is_callable t && is_numbered t && list_all (λ e. has e.1 (variables t)) ns) (are_rising (map (λ e. e.1) ns)) h in
    let b = and_parts (is_valid t && is_callable t && is_numbered t) (list_all (λ e. has e.1 (variables t)) ns) a.0 in
    let d = and_parts (is_valid t && is_callable t) (is_numbered t) b.0 in
    let e = and_parts (is_valid t) (is_callable t) d.0 in
    record { valid = e.0; callable = e.1; numbered = d.1; of_term = b.1; rises = a.1 }

-- a clause that is read
pub read_goal : (w : ReadClause) → IsWellRead w → IsGoalIfCallable w.term w.names
read_goal w h k = made w.term w.names (record { valid = h.valid; callable = k; numbered = h.numbered; of_term = h.of_term; rises = rising 0 w.names h.rising })

-- the argument of a compound
pub goal_inside : (f : List ℕ) (t : Tree) (ns : List (List ℕ × ℕ)) → IsGoalIfCallable (compound_1 f t) ns → IsGoalIfCallable t ns
goal_inside f t ns h k =
    let p = goal_parts (compound_1 f t) ns (h refl) in
    let same = append-nil (variables t) in
    let v = and_parts (is_name f && true && true) (is_valid t && true) p.valid in
    let n : List ℕ → Type 0 = λ l. counts_from 0 (firsts l) ≡ true in
    let o : List ℕ → Type 0 = λ l. list_all (λ e. has e.1 l) ns ≡ true in
    made t ns (record {
      valid = (and_parts (is_valid t) true v.1).0;
      callable = k;
      numbered = subst n same p.numbered;
      of_term = subst o same p.of_term;
      rises = p.rises;
    })

only_one : (ts : List Tree) (t : Tree) → Some t ≡ only_tree ts → ts ≡ t ∷ []
only_one [] t e = absurd (cc)
only_one (u ∷ []) t e = cc
only_one (u ∷ v ∷ ts) t e = absurd (cc)

-- a compound of one argument
pub one_argument : (t : Term) (f : List ℕ) (ts : List Term) (u : Tree) → t ≡ Cmp f ts → Some u ≡ only_tree (all_seen ts) → seen t ≡ compound_1 f u
one_argument t f ts u e h = ap seen e ∙ (seen_compound f ts ∙ ap (λ us. compound f (trees_of us)) (only_one (all_seen ts) u h))
