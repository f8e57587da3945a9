-- What a clause is in a script, by the facts that say so.
use Rattle.std.specs.Prelude.{pos, negsuc, ◌≡◌, ℕ, Bool, true, false, ◌&&◌, nat_le, List, codes}
use Rattle.std.specs.Str.{bytes_eq}
use Rattle.std.proofs.Common.{refl, sym, ap, ◌∙◌}
use Rattle.std.proofs.lemmas.Bool.{and_parts, and_from, le-leb, leb-true}
use Rattle.std.proofs.lemmas.Slice.Eq.{bytes_eq-Decides}
use Rattle.ml_term.specs.Tree.{Tree, variable, integer, atom, compound, compound_1, no_trees, tree}
use Rattle.ml_search.specs.Bodies.{is_callable}
use Rattle.ml_search.specs.Program.{Goal, abort, unless}
use Rattle.ml_search.specs.Limits.{max_inferences}
use Rattle.ml_reader.specs.Lexemes.{ReadClause}
use Rattle.ml_reader.specs.Scripts.{directive_term, IsBudget, IsQuery, IsAbort, IsCondition}
use Rattle.ml_reader.specs.inside.script.ScriptItems.{Item, set_budget, goal_item, end_item, other_item, item_if, goal_of, budget_of, directive_by_name, directive_item, item_by_name, item_of, item}

-- the clause is this item
pub data View (w : ReadClause) : Item → Type 0 where
  budget_view_of : {n : ℕ} → IsBudget w n → View w (set_budget n)
  query_view_of : {g : Goal} → IsQuery w g → View w (goal_item g)
  abort_view_of : IsAbort w → View w (end_item abort)
  condition_view_of : {g : Goal} → IsCondition w g → View w (end_item (unless g))
  no_item_view : View w other_item

same_name : (g f : List ℕ) (t : Tree) → bytes_eq g f ≡ true → compound_1 f t ≡ compound_1 g t
same_name g f t e = ap (λ h. compound_1 h t) (sym ((bytes_eq-Decides g f).0 e))

module _ (ns : List (List ℕ × ℕ)) (place : ℕ) where
  -- the clause of a term
  abbrev viewed_clause : Tree → ReadClause
  viewed_clause t = record { term = t; names = ns; place = place }

  budget_test : (f : Tree) (n : ℕ) (b : Bool) → (nat_le 1 n && nat_le n max_inferences) ≡ b → f ≡ directive_term (compound_1 (codes "budget") (integer (pos n)))
      → View (viewed_clause f) (item_if b (set_budget n))
  budget_test f n true e h =
      let p = and_parts (nat_le 1 n) (nat_le n max_inferences) e in
      budget_view_of (record { term = h; some = leb-true 1 n p.0; few = leb-true n max_inferences p.1 })
  budget_test f n false e h = no_item_view

  budget_view : (f : Tree) (t : Tree) → f ≡ directive_term (compound_1 (codes "budget") t) → View (viewed_clause f) (budget_of t)
  budget_view f (variable n) h = no_item_view
  budget_view f (integer (pos n)) h = budget_test f n (nat_le 1 n && nat_le n max_inferences) refl h
  budget_view f (integer (negsuc n)) h = no_item_view
  budget_view f (atom g) h = no_item_view
  budget_view f (compound g ts) h = no_item_view

  query_view : (f t : Tree) (b : Bool) → is_callable t ≡ b → f ≡ compound_1 (codes "?-") t → View (viewed_clause f) (item_if b (goal_item (goal_of t ns)))
  query_view f t true e h = query_view_of (record { term = h; names = refl; callable = e })
  query_view f t false e h = no_item_view

  condition_view : (f t : Tree) (b : Bool) → is_callable t ≡ b → f ≡ directive_term (compound_1 (codes "commit_unless") t)
      → View (viewed_clause f) (item_if b (end_item (unless (goal_of t ns))))
  condition_view f t true e h = condition_view_of (record { term = h; names = refl; callable = e })
  condition_view f t false e h = no_item_view

  abort_view : (f : Tree) (g : List ℕ) (b : Bool) → bytes_eq (codes "abort") g ≡ b → f ≡ directive_term (atom g)
      → View (viewed_clause f) (item_if b (end_item abort))
  abort_view f g true e h = abort_view_of (record { term = h ∙ ap (λ g. directive_term (atom g)) (sym ((bytes_eq-Decides (codes "abort") g).0 e)) })
  abort_view f g false e h = no_item_view

  named_view : (f : Tree) (g : List ℕ) (t : Tree) (b d : Bool) → bytes_eq (codes "budget") g ≡ b → bytes_eq (codes "commit_unless") g ≡ d
      → f ≡ directive_term (compound_1 g t) → View (viewed_clause f) (directive_by_name b d t ns)
  named_view f g t true d e k h = budget_view f t (h ∙ ap directive_term (same_name (codes "budget") g t e))
  named_view f g t false true e k h = condition_view f t (is_callable t) refl (h ∙ ap directive_term (same_name (codes "commit_unless") g t k))
  named_view f g t false false e k h = no_item_view

  directed_view : (f t : Tree) → f ≡ directive_term t → View (viewed_clause f) (directive_item t ns)
  directed_view f (variable n) h = no_item_view
  directed_view f (integer z) h = no_item_view
  directed_view f (atom g) h = abort_view f g (bytes_eq (codes "abort") g) refl h
  directed_view f (compound g no_trees) h = no_item_view
  directed_view f (compound g (tree t no_trees)) h = named_view f g t (bytes_eq (codes "budget") g) (bytes_eq (codes "commit_unless") g) refl refl h
  directed_view f (compound g (tree t (tree u us))) h = no_item_view

  prefixed_view : (f : Tree) (g : List ℕ) (t : Tree) (b d : Bool) → bytes_eq (codes "?-") g ≡ b → bytes_eq (codes ":-") g ≡ d → f ≡ compound_1 g t
      → View (viewed_clause f) (item_by_name b d t ns)
  prefixed_view f g t true d e k h = query_view f t (is_callable t) refl (h ∙ same_name (codes "?-") g t e)
  prefixed_view f g t false true e k h = directed_view f t (h ∙ same_name (codes ":-") g t k)
  prefixed_view f g t false false e k h = no_item_view

  term_view : (t : Tree) → View (viewed_clause t) (item_of t ns)
  term_view (variable n) = no_item_view
  term_view (integer z) = no_item_view
  term_view (atom f) = no_item_view
  term_view (compound f no_trees) = no_item_view
  term_view (compound f (tree t no_trees)) = prefixed_view (compound_1 f t) f t (bytes_eq (codes "?-") f) (bytes_eq (codes ":-") f) refl refl refl
  term_view (compound f (tree t (tree u us))) = no_item_view

-- every clause is an item
pub viewed : (w : ReadClause) → View w (item w)
viewed w = term_view w.names w.place w.term

-- a clause is the item that the facts say
pub budget_item : {w : ReadClause} {n : ℕ} → IsBudget w n → item w ≡ set_budget n
budget_item {w} {n} h =
    ap (λ t. item_of t w.names) h.term
    ∙ ap (λ b. item_if b (set_budget n)) (and_from (nat_le 1 n) (nat_le n max_inferences) (le-leb 1 n h.some) (le-leb n max_inferences h.few))

pub query_item : {w : ReadClause} {g : Goal} → IsQuery w g → item w ≡ goal_item g
query_item {w} {g} h =
    ap (λ t. item_of t w.names) h.term ∙ ap (λ b. item_if b (goal_item (goal_of g.term w.names))) h.callable
    ∙ ap (λ ns. goal_item (goal_of g.term ns)) (sym h.names)

pub abort_item : {w : ReadClause} → IsAbort w → item w ≡ end_item abort
abort_item {w} h = ap (λ t. item_of t w.names) h.term

pub condition_item : {w : ReadClause} {g : Goal} → IsCondition w g → item w ≡ end_item (unless g)
condition_item {w} {g} h =
    ap (λ t. item_of t w.names) h.term ∙ ap (λ b. item_if b (end_item (unless (goal_of g.term w.names)))) h.callable
    ∙ ap (λ ns. end_item (unless (goal_of g.term ns))) (sym h.names)
