-- What every older cell's tree becomes.
use Rattle.std.specs.Prelude.{◌≡◌, ℕ, ◌<◌, pos, List, [], map, length, get_or}
use Rattle.std.proofs.Common.{sym, ap, ◌∙◌, arith}
use Rattle.std.proofs.Math.ListN.{get_or-map}
use Rattle.std.proofs.lemmas.List.{length-map}
use Rattle.ml_term.specs.Tree.{Tree, variable, integer}
use Rattle.ml_term.specs.Unify.{Map, apply, binding}
use Rattle.ml_term.specs.Unifiers.{compose}
use Rattle.ml_term.proofs.MapComposition.{applied_followed, applied_empty}
use Rattle.ml_heap.specs.Changes.{Changes, trees, cell_count, stands_for, tree_in, bind_in, KeepsMarks, HasOneMore, Grows, HasTree}
use Rattle.ml_heap.specs.Carries.{Carries}
use Rattle.ml_heap.proofs.HeapMarks.{marks_stay, marks_go_on}
use Rattle.ml_heap.proofs.StoredTerms.{grows_one}

pub carries_stay : (h : Changes) → Carries h h []
carries_stay h = record { cells = omega arith; trees = λ r l. sym (applied_empty (stands_for h r)); marks = marks_stay h }

pub carries_go_on : (a b c : Changes) (m n : Map) → Carries a b m → Carries b c n → Carries a c (compose m n)
carries_go_on a b c m n g k = record {
  cells = omega (arith, g.cells, k.cells);
  trees = λ r l. k.trees r (omega (arith, l, g.cells)) ∙ (ap (apply n) (g.trees r l) ∙ sym (applied_followed m n (stands_for a r)));
  marks = marks_go_on a b c g.marks k.marks;
}

pub carries_grown : (h h' : Changes) → Grows h h' → Carries h h' []
carries_grown h h' g = record { cells = g.cells; trees = λ r l. g.others r l ∙ sym (applied_empty (stands_for h r)); marks = g.marks }

pub carries_made : (h h' : Changes) (r : ℕ) (t : Tree) → HasOneMore h h' r t → Carries h h' []
carries_made h h' r t m = carries_grown h h' (grows_one h h' r t m)

pub carries_stored : (h h' : Changes) (r : ℕ) (t : Tree) → HasTree h h' r t → Carries h h' []
carries_stored h h' r t m = carries_grown h h' m.grown

pub carries_same : (h h' : Changes) → trees h' ≡ trees h → KeepsMarks h h' → Carries h h' []
carries_same h h' e k = record {
  cells = omega (arith, ap length e);
  trees = λ r l. ap (λ ts. tree_in ts r) e ∙ sym (applied_empty (stands_for h r));
  marks = k;
}

pub carries_unified : (h h' : Changes) (m : Map) → trees h' ≡ map (apply m) (trees h) → KeepsMarks h h' → Carries h h' m
carries_unified h h' m e k = record {
  cells = omega (arith, ap length e, length-map (trees h) (apply m));
  trees = λ r l. ap (λ ts. tree_in ts r) e ∙ get_or-map (apply m) (trees h) r (integer (pos 0));
  marks = k;
}

pub carries_bound : (h h' : Changes) (n : ℕ) (t : Tree) → trees h' ≡ bind_in (variable n) t (trees h) → KeepsMarks h h' → Carries h h' (binding n t)
carries_bound h h' n t e k = carries_unified h h' (binding n t) e k
