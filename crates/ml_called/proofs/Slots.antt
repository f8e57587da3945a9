-- Slots with cells behind them.
use Rattle.std.specs.Prelude.{◌≡◌, ℕ, suc, ◌+◌, ◌<◌, List, [], ◌∷◌, ◌++◌, length, map, take, get_or}
use Rattle.std.proofs.Common.{refl, ap, sym, ◌∙◌, subst, arith, append_assoc, length-append}
use Rattle.std.proofs.lemmas.List.{map-append, length-map, get_or-append-add, append-nil}
use Rattle.ml_term.specs.Tree.{Tree}
use Rattle.ml_heap.specs.Changes.{Changes, cell_count, stands_for}
use Rattle.ml_heap.proofs.TermWalks.{cells_append}
use Rattle.ml_called.specs.Called.{value_at}
use Rattle.ml_called.specs.inside.Outlines.{HasCells, Begins}
use Rattle.ml_called.proofs.RestoredTerms.{Fits}

pub begins_itself : (old : List ℕ) → Begins old old
begins_itself old = record { more = []; is = sym (append-nil old) }

pub begins_more : (old new more : List ℕ) → new ≡ old ++ more → Begins old new
begins_more old new more e = record { more = more; is = e }

pub begins_on : (old mid new : List ℕ) → Begins old mid → Begins mid new → Begins old new
begins_on old mid new a b = record {
  more = a.more ++ b.more;
  is = b.is ∙ (ap (λ x. x ++ b.more) a.is ∙ append_assoc old a.more b.more);
}

-- what was there is there again when the rest is cut off
pub cut_off : (old new : List ℕ) → Begins old new → take (length old) new ≡ old
cut_off old new b = ap (take (length old)) b.is ∙ front old b.more
  where
    front : (xs ys : List ℕ) → take (length xs) (xs ++ ys) ≡ xs
    front [] ys = refl
    front (x ∷ xs) ys = ap (λ zs. x ∷ zs) (front xs ys)

module _ (h : Changes) where
  pub no_cells : (old : List ℕ) → HasCells h old old []
  no_cells old = record { cells = []; slots = sym (append-nil old); inside = tt; trees = refl }

  pub one_cell : (old new : List ℕ) (r : ℕ) (t : Tree) → r < cell_count h → stands_for h r ≡ t → new ≡ old ++ r ∷ [] → HasCells h old new (t ∷ [])
  one_cell old new r t i e n = record { cells = r ∷ []; slots = n; inside = (i, tt); trees = ap (λ x. x ∷ []) e }

  pub cells_on : (old mid new : List ℕ) (ts us : List Tree) → HasCells h old mid ts → HasCells h mid new us → HasCells h old new (ts ++ us)
  cells_on old mid new ts us a b = record {
    cells = a.cells ++ b.cells;
    slots = b.slots ∙ (ap (λ x. x ++ b.cells) a.slots ∙ append_assoc old a.cells b.cells);
    inside = cells_append (cell_count h) a.cells b.cells a.inside b.inside;
    trees = map-append (stands_for h) a.cells b.cells ∙ (ap (λ x. x ++ map (stands_for h) b.cells) a.trees ∙ ap (λ y. ts ++ y) b.trees);
  }

  pub how_many : (old new : List ℕ) (ts : List Tree) → HasCells h old new ts → length new ≡ length old + length ts
  how_many old new ts a = omega (arith, ap length a.slots, length-append old a.cells, length-map a.cells (stands_for h), ap length a.trees)

  -- the variables of an environment stand for the cells behind the old slots
  slots_fit : (new cs : List ℕ) (env n : ℕ) → ((i : ℕ) → i < length cs → get_or new (env + (n + i)) 0 ≡ get_or cs i 0) →
      Fits (value_at h new env) n (map (stands_for h) cs)
  slots_fit new [] env n g = tt
  slots_fit new (c ∷ cs) env n g =
      let e : env + (n + 0) ≡ env + n = omega arith in (
        ap (stands_for h) (ap (λ k. get_or new k 0) (sym e) ∙ g 0 (omega arith)),
        slots_fit new cs env (n + 1) (λ i l. let f : env + (n + 1 + i) ≡ env + (n + suc i) = omega arith in ap (λ k. get_or new k 0) f
            ∙ g (suc i) (omega arith)),
      )

  pub cells_fit : (old new : List ℕ) (ts : List Tree) → HasCells h old new ts → Fits (value_at h new (length old)) 0 ts
  cells_fit old new ts a =
      subst (λ (us : List Tree). Fits (value_at h new (length old)) 0 us) a.trees
      (slots_fit new a.cells (length old) 0 (λ i l.
      let e : length old + (0 + i) ≡ length old + i = omega arith in
      ap (λ k. get_or new k 0) e ∙ (ap (λ x. get_or x (length old + i) 0) a.slots ∙ get_or-append-add old a.cells i 0)))
