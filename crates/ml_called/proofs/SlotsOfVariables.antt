-- Each variable of a called body has a slot.
use Rattle.std.specs.Prelude.{◌≡◌, ℕ, ◌+◌, ◌<◌, ◌==◌, Bool, true, false, ◌||◌, List, [], ◌∷◌, length, get_or}
use Rattle.std.specs.List.{list_any}
use Rattle.std.proofs.Common.{refl, sym, ap, ◌∙◌, subst, arith, length-append}
use Rattle.std.proofs.lemmas.Bool.{eqb-true}
use Rattle.std.proofs.lemmas.List.{get_or-append-add}
use Rattle.std.proofs.lemmas.Option.{slice_get-get_or}
use Rattle.ml_term.specs.Tree.{occurs}
use Rattle.ml_compile.specs.declared.instr.Instr.{Instr}
use Rattle.ml_heap.specs.Changes.{Changes, cell_count}
use Rattle.ml_heap.proofs.TermWalks.{cells_at}
use Rattle.ml_called.specs.Called.{numbered, IsCalled, HasSlot}
use Rattle.ml_called.specs.Goals.{terms_in}

next_numbered : (n k : ℕ) (x : ℕ) (xs : List ℕ) (b : Bool) → (k == n) ≡ b → list_any (occurs n) (numbered k (x ∷ xs)) ≡ true
    → (list_any (occurs n) (numbered (k + 1) xs) ≡ true → n < k + 1 + length xs) → n < k + length (x ∷ xs)
next_numbered n k x xs true e o later = omega (arith, eqb-true k n e)
next_numbered n k x xs false e o later =
    let rest : list_any (occurs n) (numbered (k + 1) xs) ≡ true = sym (ap (λ b. (b || false) || list_any (occurs n) (numbered (k + 1) xs)) e) ∙ o in
    omega (arith, later rest)

-- variables that are numbered one after another are below the last number
below_count : (n k : ℕ) (xs : List ℕ) → list_any (occurs n) (numbered k xs) ≡ true → n < k + length xs
below_count n k [] o = absurd (cc o)
below_count n k (x ∷ xs) o = next_numbered n k x xs (k == n) refl o (below_count n (k + 1) xs)

pub has_slot : (h : Changes) (r : ℕ) (old new : List ℕ) (code : List Instr) (called : IsCalled h r old new code) (n : ℕ)
    → list_any (occurs n) (terms_in called.body) ≡ true → HasSlot h new (length old + n)
has_slot h r old new code called n o =
    let l : n < length called.cells =
    omega (arith, below_count n 0 called.cells (sym (ap (list_any (occurs n)) called.terms) ∙ o)) in
    let inside : length old + n < length new = omega (arith, ap length called.slots, length-append old called.cells) in
    let same : get_or new (length old + n) 0 ≡ get_or called.cells n 0 =
    ap (λ xs. get_or xs (length old + n) 0) called.slots ∙ get_or-append-add old called.cells n 0 in
    record {
      cell = get_or new (length old + n) 0;
      slot = slice_get-get_or new (length old + n) 0 inside;
      inside = subst (λ (q : ℕ). q < cell_count h) (sym same) (cells_at (cell_count h) called.cells called.inside n l);
    }
