-- A worklist of cells whose terms are to be without variables.
use Rattle.std.specs.Prelude.{◌≡◌, ℕ, ◌+◌, ◌<◌, Bool, true, false, ◌&&◌, ◌==◌, List, [], ◌∷◌, ◌++◌, map, reverse, length}
use Rattle.std.proofs.Common.{refl, sym, ap, ◌∙◌, subst, arith, inl, inr}
use Rattle.std.proofs.lemmas.Bool.Decides.{eqb_tells}
use Rattle.std.proofs.lemmas.List.{reverse-append}
use Rattle.ml_term.specs.Tree.{Tree, variable, integer, atom, compound, trees_of, variables, variables_of, is_ground, nodes}
use Rattle.ml_heap.specs.Changes.{Changes, cell_count, stands_for, arguments_of, AreCells, IsVariable}
use Rattle.ml_heap.specs.inside.Walks.{nodes_at}
use Rattle.ml_heap.proofs.TermWalks.{cells_append, cells_reversed, nodes_append, nodes_reversed, nodes_compound}
use Rattle.ml_builtin.specs.inside.Grounds.{are_ground_at}

not_empty : (n : ℕ) (ns : List ℕ) → ((length (n ∷ ns)) == 0) ≡ false
not_empty n ns = elim (eqb_tells (length (n ∷ ns)) 0) [ inl q ↦ absurd (omega (arith, q.1)) | inr q ↦ q.0 ]

empty_both : (xs ys : List ℕ) → ((length (xs ++ ys)) == 0) ≡ (((length xs) == 0) && ((length ys) == 0))
empty_both [] ys = refl
empty_both (x ∷ xs) ys = not_empty x (xs ++ ys) ∙ ap (λ b. b && ((length ys) == 0)) (sym (not_empty x xs))

and_assoc : (a b c : Bool) → ((a && b) && c) ≡ (a && (b && c))
and_assoc true b c = refl
and_assoc false b c = refl

and_swapped : (a b : Bool) → (a && b) ≡ (b && a)
and_swapped true true = refl
and_swapped true false = refl
and_swapped false true = refl
and_swapped false false = refl

and_true : (a : Bool) → (a && true) ≡ a
and_true true = refl
and_true false = refl

turned : (q : ℕ) (qs : List ℕ) → reverse (q ∷ qs) ≡ reverse qs ++ q ∷ []
turned q qs = reverse-append (q ∷ []) qs

pub variable_not_ground : (t : Tree) → IsVariable t → is_ground t ≡ false
variable_not_ground (variable n) v = not_empty n []
variable_not_ground (integer z) v = absurd v
variable_not_ground (atom f) v = absurd v
variable_not_ground (compound f ts) v = absurd v

module _ (h : Changes) where
  pub ground_append : (ps qs : List ℕ) → are_ground_at h (ps ++ qs) ≡ (are_ground_at h ps && are_ground_at h qs)
  ground_append [] qs = refl
  ground_append (p ∷ ps) qs = ap (λ b. is_ground (stands_for h p) && b) (ground_append ps qs)
      ∙ sym (and_assoc (is_ground (stands_for h p)) (are_ground_at h ps) (are_ground_at h qs))

  pub ground_reversed : (qs : List ℕ) → are_ground_at h (reverse qs) ≡ are_ground_at h qs
  ground_reversed [] = refl
  ground_reversed (q ∷ qs) =
      ap (are_ground_at h) (turned q qs)
      ∙ (ground_append (reverse qs) (q ∷ [])
      ∙ (ap (λ b. b && (is_ground (stands_for h q) && true)) (ground_reversed qs)
      ∙ (ap (λ b. are_ground_at h qs && b) (and_true (is_ground (stands_for h q))) ∙ and_swapped (are_ground_at h qs) (is_ground (stands_for h q)))))

  pub ground_compound : (f qs : List ℕ) → is_ground (compound f (trees_of (map (stands_for h) qs))) ≡ are_ground_at h qs
  ground_compound f [] = refl
  ground_compound f (q ∷ qs) = empty_both (variables (stands_for h q)) (variables_of (trees_of (map (stands_for h) qs)))
      ∙ ap (λ b. is_ground (stands_for h q) && b) (ground_compound f qs)

  -- the last cell of a worklist
  module _ (left rest : List ℕ) (at : ℕ) (e : left ≡ rest ++ at ∷ []) where
    pub ground_last : are_ground_at h left ≡ (are_ground_at h rest && is_ground (stands_for h at))
    ground_last = ap (are_ground_at h) e ∙ (ground_append rest (at ∷ []) ∙ ap (λ b. are_ground_at h rest && b) (and_true (is_ground (stands_for h at))))

    pub not_ground : is_ground (stands_for h at) ≡ false → are_ground_at h left ≡ false
    not_ground g = ground_last ∙ (ap (λ b. are_ground_at h rest && b) g ∙ and_swapped (are_ground_at h rest) false)

  -- a compound leaves its arguments
  module _ (t : Tree) (f : List ℕ) (is : t ≡ compound f (trees_of (arguments_of t)))
      (left all args : List ℕ) (put : all ≡ left ++ reverse args) (inside : AreCells (cell_count h) args)
      (stand : map (stands_for h) args ≡ arguments_of t) where
    whole : t ≡ compound f (trees_of (map (stands_for h) args))
    whole = is ∙ ap (λ ts. compound f (trees_of ts)) (sym stand)

    pub ground_left : are_ground_at h all ≡ (are_ground_at h left && is_ground t)
    ground_left = ap (are_ground_at h) put ∙ (ground_append left (reverse args)
        ∙ ap (λ b. are_ground_at h left && b) (ground_reversed args ∙ (sym (ground_compound f args) ∙ sym (ap is_ground whole))))

    pub still_inside : AreCells (cell_count h) left → AreCells (cell_count h) all
    still_inside a = subst (AreCells (cell_count h)) (sym put) (cells_append (cell_count h) left (reverse args) a (cells_reversed (cell_count h) args inside))

    pub fewer_nodes : nodes_at h all < nodes_at h left + nodes t
    fewer_nodes = omega (arith, ap (nodes_at h) put, nodes_append h left (reverse args), nodes_reversed h args, ap nodes whole, nodes_compound h f args)

-- the first cell on a worklist
pub at_first : (h : Changes) (at : ℕ) (left : List ℕ) → left ≡ at ∷ [] → are_ground_at h left ≡ is_ground (stands_for h at)
at_first h at left e = ap (are_ground_at h) e ∙ and_true (is_ground (stands_for h at))

-- a term that isn't a compound leaves nothing, and is ground if it is no variable
pub leaf_ground : (b : Bool) (c : Bool) → c ≡ true → b ≡ (b && c)
leaf_ground b c e = sym (ap (λ x. b && x) e ∙ and_true b)
