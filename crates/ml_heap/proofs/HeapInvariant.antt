-- What a heap's fields say of the trees that it is seen as.
use Rattle.std.specs.Prelude.{◌≡◌, ℕ, suc, ◌<◌, ◌≤◌, Bool, true, zero, List, [], ◌∷◌, map, reverse, length, get_or}
use Rattle.std.proofs.Common.{refl, sym, ap, ◌∙◌, subst, arith}
use Rattle.std.proofs.lemmas.List.{length-map, get_or_read}
use Rattle.ml_term.specs.Tree.{Tree, compound, trees_of, list_of}
use Rattle.ml_heap.specs.Changes.{Changes, state, tree_in, stands_for, cell_count, arguments_of, IsVariable, IsYounger}
use Rattle.ml_heap.specs.declared.cell.Cell.{Cell}
use Rattle.ml_heap.specs.declared.cell.Cell.TheVariants.{Unbound, Bound, Int, Atom, Cmp}
use Rattle.ml_heap.specs.declared.cell.Step.{Step}
use Rattle.std.specs.List.{list_all}
use Rattle.ml_term.specs.Valid.{is_valid}
use Rattle.ml_heap.specs.Looks.{Tells}
use Rattle.ml_heap.specs.inside.Layout.{changes_of, is_valid_change, cell_in, rank_of, Fits, FitAll, StandFor, AreLinked, IsEnd, IsKept}
use Rattle.ml_heap.proofs.KeptCells.{stand_now}
use Rattle.ml_heap.proofs.TreeValidity.{stands_for_a_term}
use Rattle.ml_heap.proofs.CellTrees.{linked, fits_at}

-- the arguments of a compound as a list
pub listed : (us : List Tree) → list_of (trees_of us) ≡ us
listed [] = refl
listed (u ∷ us) = ap (λ z. u ∷ z) (listed us)

-- a tree read from others by a place in a list of places
read_placed : (ts : List Tree) (qs : List ℕ) (i : ℕ) → i < length qs → tree_in (map (tree_in ts) qs) i ≡ tree_in ts (get_or qs i 0)
read_placed ts [] i l = absurd (omega arith)
read_placed ts (q ∷ qs) zero l = refl
read_placed ts (q ∷ qs) (suc i) l = read_placed ts qs i (omega arith)

module _ (steps : List Step) (cells : List Cell) (n : ℕ) (k : IsKept steps cells n) (h : Changes) (e : changes_of steps cells ≡ h) where
  pub stands : StandFor cells (state h)
  stands = subst (λ h. StandFor cells (state h)) e (stand_now (reverse steps) cells k.kept)

  pub is_term : (r : ℕ) → is_valid (stands_for h r) ≡ true
  is_term = stands_for_a_term h (subst (λ h. list_all is_valid_change h ≡ true) e k.valid) (omega (arith, k.few, k.count, ap (λ h. (state h).created) e))

  pub are_linked : (seen : List Cell) → seen ≡ cells → AreLinked seen
  are_linked seen p = subst AreLinked (sym p) (linked (state h).trees cells stands.fit)

  pub is_inside : (seen : List Cell) (r : ℕ) → seen ≡ cells → r < cell_count h → r < length seen
  is_inside seen r p l = omega (arith, ap length p, stands.size, l)

  pub fit_seen : (seen : List Cell) → seen ≡ cells → FitAll (state h).trees seen
  fit_seen seen p = subst (FitAll (state h).trees) (sym p) stands.fit

  -- the end of a cell's bindings, and what the cell that was read there says of the first cell's tree
  module _ (seen : List Cell) (p : seen ≡ cells) (at place end : ℕ) (in_end : end < length seen)
      (same : (ts : List Tree) → FitAll ts seen → tree_in ts end ≡ tree_in ts place) (q : place ≡ at) where
    pub end_inside : end < length cells
    end_inside = omega (arith, in_end, ap length p)

    pub same_tree : stands_for h end ≡ stands_for h at
    same_tree = same (state h).trees (fit_seen seen p) ∙ ap (tree_in (state h).trees) q

    module _ (c : Cell) (read : c ≡ get_or cells end c) where
      pub cell_is : cell_in cells end ≡ c
      cell_is = sym (get_or_read cells end c end_inside read (Unbound 0))

      pub found : Fits (state h).trees cells (stands_for h at) c
      found = subst (λ t. Fits (state h).trees cells t c) same_tree (fits_at (state h).trees cells end c stands.fit end_inside cell_is)

      pub is_end : IsEnd (cell_in seen end) → IsEnd c
      is_end d = subst IsEnd (ap (λ cs. cell_in cs end) p ∙ cell_is) d

  pub shows_compound : (t : Tree) (f qs : List ℕ) (g : Bool) → Fits (state h).trees cells t (Cmp f qs g) →
      (t ≡ compound f (trees_of (arguments_of t))) × (length (arguments_of t) ≡ length qs)
  shows_compound t f qs g fit =
      let args : arguments_of t ≡ map (tree_in (state h).trees) qs = ap arguments_of fit.0 ∙ listed (map (tree_in (state h).trees) qs) in
      (fit.0 ∙ ap (λ us. compound f (trees_of us)) (sym args), ap length args ∙ length-map qs (tree_in (state h).trees))

  pub has_argument : (t : Tree) (f qs : List ℕ) (g : Bool) (i : ℕ) → Fits (state h).trees cells t (Cmp f qs g) → i < length (arguments_of t)
      → (i < length qs) × (get_or qs i 0 < cell_count h) × (stands_for h (get_or qs i 0) ≡ tree_in (arguments_of t) i)
  has_argument t f qs g i fit l =
      let args : arguments_of t ≡ map (tree_in (state h).trees) qs = ap arguments_of fit.0 ∙ listed (map (tree_in (state h).trees) qs) in
      let within : i < length qs = omega (arith, ap length args, length-map qs (tree_in (state h).trees), l) in
      (within, omega (arith, fit.1 i within, stands.size), sym (read_placed (state h).trees qs i within) ∙ sym (ap (λ us. tree_in us i) args))

-- a cell at the end of bindings that stands for a variable is unbound
pub variable_is_unbound : (ts : List Tree) (cells : List Cell) (t : Tree) (c : Cell) → Fits ts cells t c → IsEnd c → IsVariable t →
    ((n : ℕ) → c ≡ Unbound n → ⊥) → ⊥
variable_is_unbound ts cells t (Unbound n) f e v d = d n refl
variable_is_unbound ts cells t (Bound n q) f e v d = e
variable_is_unbound ts cells t (Int z) f e v d = subst IsVariable f v
variable_is_unbound ts cells t (Atom g) f e v d = subst IsVariable f v
variable_is_unbound ts cells t (Cmp g qs b) f e v d = subst IsVariable f.0 v

-- a cell at the end of bindings that stands for a compound is one
pub compound_is_one : (ts : List Tree) (cells : List Cell) (t : Tree) (c : Cell) (i : ℕ) → Fits ts cells t c → IsEnd c → i < length (arguments_of t)
    → ((f qs : List ℕ) (g : Bool) → c ≡ Cmp f qs g → ⊥) → ⊥
compound_is_one ts cells t (Unbound n) i f e l d = no_argument (subst (λ t. i < length (arguments_of t)) f l)
  where
    no_argument : {i : ℕ} → i < 0 → ⊥
    no_argument h = absurd (omega arith)
compound_is_one ts cells t (Bound n q) i f e l d = e
compound_is_one ts cells t (Int z) i f e l d = let h = subst (λ t. i < length (arguments_of t)) f l in omega arith
compound_is_one ts cells t (Atom g) i f e l d = let h = subst (λ t. i < length (arguments_of t)) f l in omega arith
compound_is_one ts cells t (Cmp g qs b) i f e l d = d g qs b refl

-- a cell at the end of bindings has a rank no higher than an older or no variable allows
pub is_lower : (ts : List Tree) (cells : List Cell) (t : Tree) (c : Cell) (n : ℕ) → Fits ts cells t c → IsEnd c → IsYounger n t → rank_of c ≤ n
is_lower ts cells t (Unbound m) n f e y = let h : m < n = subst (IsYounger n) f y in omega arith
is_lower ts cells t (Bound m q) n f e y = absurd e
is_lower ts cells t (Int z) n f e y = omega arith
is_lower ts cells t (Atom g) n f e y = omega arith
is_lower ts cells t (Cmp g qs b) n f e y = omega arith

-- a cell that fits its tree and isn't bound tells it
pub tells : (h : Changes) (cells : List Cell) (t : Tree) (c : Cell) → length (state h).trees ≡ length cells → Fits (state h).trees cells t c → IsEnd c →
    Tells h t c
tells h cells t (Unbound n) s f e = f
tells h cells t (Bound n q) s f e = e
tells h cells t (Int z) s f e = f
tells h cells t (Atom g) s f e = f
tells h cells t (Cmp g qs b) s f e = (f.0, (λ i l. omega (arith, f.1 i l, s)), f.2)
