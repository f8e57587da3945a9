-- A binding made in the fields: what is kept, and what the heap is seen as.
use Rattle.std.specs.Prelude.{◌≡◌, ℕ, ◌<◌, ◌≤◌, false, List, [], ◌∷◌, ◌++◌, length, set}
use Rattle.std.proofs.Common.{sym, ap, ◌∙◌, subst}
use Rattle.ml_term.specs.Tree.{Tree, variable, integer, atom, compound, occurs}
use Rattle.ml_heap.specs.Changes.{Changes, state, tree_in, stands_for, bind_in, KeepsMarks, MayBeBound, IsYounger, IsVariable}
use Rattle.ml_heap.specs.declared.cell.Cell.{Cell}
use Rattle.ml_heap.specs.declared.cell.Cell.TheVariants.{Unbound, Bound}
use Rattle.ml_heap.specs.declared.cell.Step.{Step}
use Rattle.ml_heap.specs.declared.cell.Step.TheVariants.{Binding}
use Rattle.ml_heap.specs.inside.Layout.{changes_of, cell_in, rank_of, Fits, IsEnd, IsKept}
use Rattle.ml_heap.proofs.CellTrees.{fits_at}
use Rattle.ml_heap.proofs.HeapInvariant.{stands, is_lower}
use Rattle.ml_heap.proofs.VariableReplacement.{binding_kept, binding_trees, binding_count, binding_marks}

-- only a variable may be bound
pub must_be_variable : (t u : Tree) → MayBeBound t u → IsVariable t
must_be_variable (variable n) u f = tt
must_be_variable (integer z) u f = f
must_be_variable (atom g) u f = f
must_be_variable (compound g ts) u f = f

module _ (steps : List Step) (cells : List Cell) (m : ℕ) (k : IsKept steps cells m) (h : Changes) (e : changes_of steps cells ≡ h)
    (v q n var to : ℕ) (in_v : v < length cells) (in_q : q < length cells) (at_v : cell_in cells v ≡ Unbound n) (q_end : IsEnd (cell_in cells q))
    (same_v : stands_for h v ≡ stands_for h var) (same_q : stands_for h q ≡ stands_for h to) (free : MayBeBound (stands_for h var) (stands_for h to)) where
  tree_v : stands_for h var ≡ variable n
  tree_v = sym same_v ∙ fits_at (state h).trees cells v (Unbound n) (stands steps cells m k h e).fit in_v at_v

  allowed : (occurs n (stands_for h to) ≡ false) × IsYounger n (stands_for h to)
  allowed = subst (λ t. MayBeBound t (stands_for h to)) tree_v free

  lower : rank_of (cell_in cells q) ≤ n
  lower = is_lower (state h).trees cells (stands_for h to) (cell_in cells q) n
      (subst (λ t. Fits (state h).trees cells t (cell_in cells q)) same_q ((stands steps cells m k h e).fit q in_q)) q_end allowed.1

  absent : occurs n (tree_in (state (changes_of steps cells)).trees q) ≡ false
  absent = ap (λ h. occurs n (stands_for h q)) e ∙ (ap (occurs n) same_q ∙ allowed.0)

  module _ (steps' : List Step) (p : steps' ≡ steps ++ Binding v q ∷ []) where
    pub binding_is_kept : IsKept steps' (set cells v (Bound n q)) m
    binding_is_kept = subst (λ ss. IsKept ss (set cells v (Bound n q)) m) (sym p) (binding_kept steps cells m v n q k in_v in_q at_v lower absent)

    pub trees_bound : (state (changes_of steps' (set cells v (Bound n q)))).trees ≡ bind_in (stands_for h var) (stands_for h to) (state h).trees
    trees_bound = ap (λ ss. (state (changes_of ss (set cells v (Bound n q)))).trees) p
        ∙ (binding_trees steps cells m v n q k in_v in_q at_v lower absent
        ∙ (ap (λ h. bind_in (stands_for h v) (stands_for h q) (state h).trees) e
        ∙ (ap (λ t. bind_in t (stands_for h q) (state h).trees) same_v ∙ ap (λ t. bind_in (stands_for h var) t (state h).trees) same_q)))

    pub none_counted : (state (changes_of steps' (set cells v (Bound n q)))).created ≡ (state h).created
    none_counted = ap (λ ss. (state (changes_of ss (set cells v (Bound n q)))).created) p
        ∙ (binding_count steps cells m v n q k in_v in_q at_v lower absent ∙ ap (λ h. (state h).created) e)

    pub marks_bound : KeepsMarks h (changes_of steps' (set cells v (Bound n q)))
    marks_bound = subst (λ h'. KeepsMarks h' (changes_of steps' (set cells v (Bound n q)))) e
        (subst (λ ss. KeepsMarks (changes_of steps cells) (changes_of ss (set cells v (Bound n q)))) (sym p)
        (binding_marks steps cells m v n q k in_v in_q at_v lower absent))
