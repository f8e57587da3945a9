-- A worklist of cells whose terms are walked: whether a variable occurs in one of them, and how many nodes they have.
use Rattle.std.specs.Prelude.{◌≡◌, ℕ, zero, suc, nat_lt, ◌+◌, ◌<◌, ◌≤◌, true, false, Bool, ◌||◌, ℤ, List, [], ◌∷◌, ◌++◌, map, reverse, length, drop, get_or}
use Rattle.std.proofs.Common.{inl, inr, refl, sym, ap, ◌∙◌, subst, arith, add-one, length-append}
use Rattle.std.proofs.Math.Seq.{drop-cons}
use Rattle.std.proofs.lemmas.Bool.Decides.{eqb_tells, nat_tests}
use Rattle.std.proofs.lemmas.List.{reverse-append, length-reverse}
use Rattle.ml_term.specs.Tree.{Tree, compound, trees_of, has, occurs, variables, variables_of, is_ground, nodes, nodes_of, variable, integer, atom}
use Rattle.ml_term.proofs.DistinctCounts.{has_append}
use Rattle.ml_term.proofs.GroundTerms.{no_variable}
use Rattle.ml_term.proofs.TermSizes.{nodes_above_zero}
use Rattle.ml_heap.specs.Changes.{Changes, cell_count, stands_for}
use Rattle.ml_heap.specs.Looks.{Tells}
use Rattle.ml_heap.specs.Changes.{AreCells}
use Rattle.ml_heap.specs.inside.Walks.{occurs_at, nodes_at}
use Rattle.ml_heap.specs.declared.cell.Cell.{Cell}
use Rattle.ml_heap.specs.declared.cell.Cell.TheVariants.{Unbound, Bound, Int, Atom, Cmp}

-- what a list reversed comes to, one at a time
turned : {A : Type 0} (x : A) (xs : List A) → reverse (x ∷ xs) ≡ reverse xs ++ x ∷ []
turned x xs = reverse-append (x ∷ []) xs

pub cells_append : (n : ℕ) (ps qs : List ℕ) → AreCells n ps → AreCells n qs → AreCells n (ps ++ qs)
cells_append n [] qs a b = b
cells_append n (p ∷ ps) qs a b = (a.0, cells_append n ps qs a.1 b)

pub cells_front : (n : ℕ) (ps qs : List ℕ) → AreCells n (ps ++ qs) → AreCells n ps
cells_front n [] qs a = tt
cells_front n (p ∷ ps) qs a = (a.0, cells_front n ps qs a.1)

pub cells_back : (n : ℕ) (ps qs : List ℕ) → AreCells n (ps ++ qs) → AreCells n qs
cells_back n [] qs a = a
cells_back n (p ∷ ps) qs a = cells_back n ps qs a.1

pub cells_reversed : (n : ℕ) (qs : List ℕ) → AreCells n qs → AreCells n (reverse qs)
cells_reversed n [] a = tt
cells_reversed n (q ∷ qs) a = rw (turned q qs) (cells_append n (reverse qs) (q ∷ []) (cells_reversed n qs a.1) (a.0, tt))

pub cells_each : (n : ℕ) (qs : List ℕ) → ((i : ℕ) → i < length qs → get_or qs i 0 < n) → AreCells n qs
cells_each n [] h = tt
cells_each n (q ∷ qs) h = (h 0 (omega arith), cells_each n qs (λ i l. h (suc i) (omega arith)))

pub cells_wider : (n m : ℕ) (qs : List ℕ) → n ≤ m → AreCells n qs → AreCells m qs
cells_wider n m [] l a = tt
cells_wider n m (q ∷ qs) l a = (omega (arith, l, a.0), cells_wider n m qs l a.1)

pub cells_at : (n : ℕ) (qs : List ℕ) → AreCells n qs → (i : ℕ) → i < length qs → get_or qs i 0 < n
cells_at n [] a i l = absurd (omega arith)
cells_at n (q ∷ qs) a zero l = a.0
cells_at n (q ∷ qs) a (suc i) l = cells_at n qs a.1 i (omega arith)

or_assoc : (a b c : Bool) → (a || (b || c)) ≡ ((a || b) || c)
or_assoc true b c = refl
or_assoc false b c = refl

or_swapped : (a b : Bool) → (a || b) ≡ (b || a)
or_swapped true true = refl
or_swapped true false = refl
or_swapped false true = refl
or_swapped false false = refl

or_false : (a : Bool) → (a || false) ≡ a
or_false true = refl
or_false false = refl

module _ (h : Changes) where
  pub occurs_append : (n : ℕ) (ps qs : List ℕ) → occurs_at h n (ps ++ qs) ≡ occurs_at h n ps || occurs_at h n qs
  occurs_append n [] qs = refl
  occurs_append n (p ∷ ps) qs = ap (λ b. occurs n (stands_for h p) || b) (occurs_append n ps qs)
      ∙ or_assoc (occurs n (stands_for h p)) (occurs_at h n ps) (occurs_at h n qs)

  pub occurs_reversed : (n : ℕ) (qs : List ℕ) → occurs_at h n (reverse qs) ≡ occurs_at h n qs
  occurs_reversed n [] = refl
  occurs_reversed n (q ∷ qs) =
      ap (occurs_at h n) (turned q qs)
      ∙ (occurs_append n (reverse qs) (q ∷ [])
      ∙ (ap (λ b. b || (occurs n (stands_for h q) || false)) (occurs_reversed n qs)
      ∙ (ap (λ b. occurs_at h n qs || b) (or_false (occurs n (stands_for h q))) ∙ or_swapped (occurs_at h n qs) (occurs n (stands_for h q)))))

  pub occurs_compound : (n : ℕ) (f qs : List ℕ) → occurs n (compound f (trees_of (map (stands_for h) qs))) ≡ occurs_at h n qs
  occurs_compound n f [] = refl
  occurs_compound n f (q ∷ qs) =
      has_append n (variables (stands_for h q)) (variables_of (trees_of (map (stands_for h) qs)))
      ∙ ap (λ b. occurs n (stands_for h q) || b) (occurs_compound n f qs)

  pub nodes_append : (ps qs : List ℕ) → nodes_at h (ps ++ qs) ≡ nodes_at h ps + nodes_at h qs
  nodes_append [] qs = omega arith
  nodes_append (p ∷ ps) qs = omega (arith, nodes_append ps qs)

  pub nodes_reversed : (qs : List ℕ) → nodes_at h (reverse qs) ≡ nodes_at h qs
  nodes_reversed [] = refl
  nodes_reversed (q ∷ qs) = ap (nodes_at h) (turned q qs) ∙ omega (arith, nodes_append (reverse qs) (q ∷ []), nodes_reversed qs)

  pub nodes_compound : (f qs : List ℕ) → nodes (compound f (trees_of (map (stands_for h) qs))) ≡ 1 + nodes_at h qs
  nodes_compound f qs = ap (λ n. 1 + n) (each qs)
    where
      each : (qs : List ℕ) → nodes_of (trees_of (map (stands_for h) qs)) ≡ nodes_at h qs
      each [] = refl
      each (q ∷ qs) = omega (arith, each qs)

-- no variable occurs in a ground term
pub occurs_in_none : (n : ℕ) (t : Tree) → is_ground t ≡ true → occurs n t ≡ false
occurs_in_none n t g = none (occurs n t) refl
  where
    none : (b : Bool) → occurs n t ≡ b → b ≡ false
    none true e = absurd (no_variable t g n e)
    none false e = refl

-- the last cell is inside, and has the nodes that the others lack
module _ (h : Changes) (left rest : List ℕ) (at : ℕ) (e : left ≡ rest ++ at ∷ []) where
  pub last_inside : AreCells (cell_count h) left → at < cell_count h
  last_inside a = (cells_back (cell_count h) rest (at ∷ []) (subst (AreCells (cell_count h)) e a)).0

  pub rest_inside : AreCells (cell_count h) left → AreCells (cell_count h) rest
  rest_inside a = cells_front (cell_count h) rest (at ∷ []) (subst (AreCells (cell_count h)) e a)

  pub as_many : nodes_at h left ≡ nodes_at h rest + nodes (stands_for h at)
  as_many = ap (nodes_at h) e ∙ omega (arith, nodes_append h rest (at ∷ []))

-- a node that is taken, and the cells of its arguments put last
module _ (h : Changes) (left all : List ℕ) (at q : ℕ) (cell : Cell) (p : q ≡ at) (told : Tells h (stands_for h q) cell) where
  pub one_node : (e : all ≡ left) → nodes (stands_for h at) ≡ 1 → nodes_at h all + 1 ≡ nodes_at h left + nodes (stands_for h at)
  one_node e k = omega (arith, ap (nodes_at h) e)

  at_place : (c : Cell) → cell ≡ c → Tells h (stands_for h at) c
  at_place c k = subst (λ r. Tells h (stands_for h r) c) p (subst (Tells h (stands_for h q)) k told)

  pub leaf_nodes : (c : Cell) → cell ≡ c → ((f qs : List ℕ) (g : Bool) → c ≡ Cmp f qs g → ⊥) → nodes (stands_for h at) ≡ 1
  leaf_nodes (Unbound n) k d = ap nodes (at_place (Unbound n) k)
  leaf_nodes (Bound n r) k d = absurd (at_place (Bound n r) k)
  leaf_nodes (Int z) k d = ap nodes (at_place (Int z) k)
  leaf_nodes (Atom f) k d = ap nodes (at_place (Atom f) k)
  leaf_nodes (Cmp f qs g) k d = absurd (d f qs g refl)

  module _ (f qs : List ℕ) (g : Bool) (k : cell ≡ Cmp f qs g) (e : all ≡ left ++ reverse qs) where
    pub nodes_of_arguments : nodes_at h all + 1 ≡ nodes_at h left + nodes (stands_for h at)
    nodes_of_arguments =
        let t = at_place (Cmp f qs g) k in
        let n : nodes (stands_for h at) ≡ 1 + nodes_at h qs = ap nodes t.0 ∙ nodes_compound h f qs in
        omega (arith, ap (nodes_at h) e, nodes_append h left (reverse qs), nodes_reversed h qs)

    pub arguments_inside : AreCells (cell_count h) left → AreCells (cell_count h) all
    arguments_inside a = rw e (cells_append (cell_count h) left (reverse qs) a
        (cells_reversed (cell_count h) qs (cells_each (cell_count h) qs (at_place (Cmp f qs g) k).1)))

    pub as_many_more : length qs ≤ 255 → length all ≤ length left + 255
    as_many_more l = omega (arith, ap length e, length-append left (reverse qs), length-reverse qs)

-- every cell has a node
pub nodes_at_least : (h : Changes) (qs : List ℕ) → length qs ≤ nodes_at h qs
nodes_at_least h [] = omega arith
nodes_at_least h (q ∷ qs) = omega (arith, nodes_above_zero (stands_for h q), nodes_at_least h qs)

-- each of some cells has no more nodes than all of them
pub nodes_of_one : (h : Changes) (qs : List ℕ) (i : ℕ) → i < length qs → nodes (stands_for h (get_or qs i 0)) ≤ nodes_at h qs
nodes_of_one h [] i l = absurd (omega arith)
nodes_of_one h (q ∷ qs) zero l = omega arith
nodes_of_one h (q ∷ qs) (suc i) l = omega (arith, nodes_of_one h qs i (omega arith))

-- a number above another one, by its test
pub is_above : (m n : ℕ) → m < n → true ≡ nat_lt m n
is_above m n l = grind (arith, nat_tests)

pub is_not_above : (m n : ℕ) → n ≤ m → false ≡ nat_lt m n
is_not_above m n l = grind (arith, nat_tests)

-- a compound's cell: its arguments have one node less, and are inside
module _ (h : Changes) (at q : ℕ) (cell : Cell) (f qs qs' : List ℕ) (g : Bool) (p : q ≡ at) (told : Tells h (stands_for h q) cell) (k : cell ≡ Cmp f qs g)
    (e : qs' ≡ qs) where
  it_tells : Tells h (stands_for h at) (Cmp f qs' g)
  it_tells = rw e (subst (λ r. Tells h (stands_for h r) (Cmp f qs g)) p (subst (Tells h (stands_for h q)) k told))

  pub arguments_nodes : nodes (stands_for h at) ≡ 1 + nodes_at h qs'
  arguments_nodes = ap nodes it_tells.0 ∙ nodes_compound h f qs'

  pub arguments_occurs : (n : ℕ) → occurs n (stands_for h at) ≡ occurs_at h n qs'
  arguments_occurs n = ap (occurs n) it_tells.0 ∙ occurs_compound h n f qs'

  pub arguments_are_inside : (i : ℕ) → i < length qs' → get_or qs' i 0 < cell_count h
  arguments_are_inside = it_tells.1

-- a cell that is put last
module _ (h : Changes) (qs all : List ℕ) (at : ℕ) (e : all ≡ qs ++ at ∷ []) where
  pub occurs_last : (n : ℕ) → occurs_at h n all ≡ occurs_at h n qs || occurs n (stands_for h at)
  occurs_last n = ap (occurs_at h n) e ∙ (occurs_append h n qs (at ∷ []) ∙ ap (λ b. occurs_at h n qs || b) (or_false (occurs n (stands_for h at))))

  pub found_last : (n : ℕ) → occurs n (stands_for h at) ≡ true → occurs_at h n all ≡ true
  found_last n o = occurs_last n ∙ (ap (λ b. occurs_at h n qs || b) o ∙ or_swapped (occurs_at h n qs) true)

  pub nodes_last : nodes_at h all ≤ nodes_at h qs + nodes (stands_for h at)
  nodes_last = omega (arith, ap (nodes_at h) e, nodes_append h qs (at ∷ []))

  pub inside_last : at < cell_count h → AreCells (cell_count h) qs → AreCells (cell_count h) all
  inside_last l a = rw e (cells_append (cell_count h) qs (at ∷ []) a (l, tt))

-- a variable that occurs in the term of one cell occurs in one of some cells' terms
module _ (h : Changes) (n : ℕ) (qs : List ℕ) (i : ℕ) (l : i < length qs) where
  pub one_occurs : occurs n (stands_for h (get_or qs i 0)) ≡ true → occurs_at h n qs ≡ true
  one_occurs = it_does qs i l
    where
      it_does : (qs : List ℕ) (i : ℕ) → i < length qs → occurs n (stands_for h (get_or qs i 0)) ≡ true → occurs_at h n qs ≡ true
      it_does [] i l e = absurd (omega arith)
      it_does (q ∷ qs) zero l e = ap (λ b. b || occurs_at h n qs) e
      it_does (q ∷ qs) (suc i) l e = ap (λ b. occurs n (stands_for h q) || b) (it_does qs i (omega arith) e) ∙ or_swapped (occurs n (stands_for h q)) true
