-- Cells that are left of a walk through connectives.
use Rattle.std.specs.Prelude.{◌≡◌, ℕ, ◌+◌, ◌<◌, Bool, true, false, cond, ◌&&◌, List, [], ◌∷◌, ◌++◌}
use Rattle.std.proofs.Common.{refl, ap, sym, ◌∙◌, subst, arith}
use Rattle.ml_term.specs.Tree.{Tree, compound_2, nodes}
use Rattle.ml_search.specs.Bodies.{joins_bodies, is_callable}
use Rattle.ml_heap.specs.Changes.{Changes, AreCells, stands_for}
use Rattle.ml_heap.proofs.TermWalks.{cells_back, cells_front}
use Rattle.ml_called.specs.inside.Pairs.{are_callable, nodes_at}

module _ (h : Changes) where
  pub nodes_more : (ps qs : List ℕ) → nodes_at h (ps ++ qs) ≡ nodes_at h ps + nodes_at h qs
  nodes_more [] qs = omega arith
  nodes_more (p ∷ ps) qs = omega (arith, nodes_more ps qs)

  pub callable_more : (ps qs : List ℕ) → are_callable h (ps ++ qs) ≡ (are_callable h ps && are_callable h qs)
  callable_more [] qs = refl
  callable_more (p ∷ ps) qs = ap (λ b. is_callable (stands_for h p) && b) (callable_more ps qs) ∙ together (is_callable (stands_for h p)) _ _
    where
      together : (a b c : Bool) → (a && (b && c)) ≡ ((a && b) && c)
      together true b c = refl
      together false b c = refl

  pub callable_last : (ps : List ℕ) (q : ℕ) → are_callable h (ps ++ q ∷ []) ≡ (are_callable h ps && is_callable (stands_for h q))
  callable_last ps q = callable_more ps (q ∷ []) ∙ ap (λ b. are_callable h ps && b) (alone (is_callable (stands_for h q)))
    where
      alone : (b : Bool) → (b && true) ≡ b
      alone true = refl
      alone false = refl

  module _ (t : Tree) (f : List ℕ) (a b : ℕ) (is : t ≡ compound_2 f (stands_for h a) (stands_for h b)) (j : joins_bodies f ≡ true) where
    callable_two : is_callable t ≡ (is_callable (stands_for h a) && is_callable (stands_for h b))
    callable_two = ap is_callable is ∙ ap (λ x. cond x (is_callable (stands_for h a) && is_callable (stands_for h b)) true) j

    nodes_two : nodes t ≡ 1 + (nodes (stands_for h a) + nodes (stands_for h b))
    nodes_two = omega (arith, ap nodes is)

    module _ (old between new : List ℕ) (d : between ≡ old ++ b ∷ []) (e : new ≡ between ++ a ∷ []) where
      pub operands_left : are_callable h new ≡ (are_callable h old && is_callable t)
      operands_left =
          ap (are_callable h) e
          ∙ (callable_last between a
          ∙ (ap (λ x. are_callable h x && is_callable (stands_for h a)) d
          ∙ (ap (λ x. x && is_callable (stands_for h a)) (callable_last old b)
          ∙ (turned (are_callable h old) (is_callable (stands_for h a)) (is_callable (stands_for h b))
          ∙ ap (λ x. are_callable h old && x) (sym callable_two)))))
        where
          turned : (x y z : Bool) → ((x && z) && y) ≡ (x && (y && z))
          turned false y z = refl
          turned true true true = refl
          turned true true false = refl
          turned true false true = refl
          turned true false false = refl

      pub fewer_nodes : nodes_at h new < nodes_at h old + nodes t
      fewer_nodes = omega (arith, ap (nodes_at h) e, nodes_more between (a ∷ []), ap (nodes_at h) d, nodes_more old (b ∷ []), nodes_two)

-- cells with one more, taken from the end
module _ (n : ℕ) where
  pub last_inside : (old new : List ℕ) (q : ℕ) → old ≡ new ++ q ∷ [] → AreCells n old → q < n
  last_inside old new q e a = (cells_back n new (q ∷ []) (subst (λ (x : List ℕ). AreCells n x) e a)).0

  pub front_inside : (old new : List ℕ) (q : ℕ) → old ≡ new ++ q ∷ [] → AreCells n old → AreCells n new
  front_inside old new q e a = cells_front n new (q ∷ []) (subst (λ (x : List ℕ). AreCells n x) e a)

module _ (h : Changes) (old new : List ℕ) (q : ℕ) (e : old ≡ new ++ q ∷ []) where
  pub taken_nodes : nodes_at h old ≡ nodes_at h new + nodes (stands_for h q)
  taken_nodes = omega (arith, ap (nodes_at h) e, nodes_more h new (q ∷ []))

  -- one that isn't callable
  pub not_callable : (b : Bool) → are_callable h old ≡ b → is_callable (stands_for h q) ≡ false → false ≡ b
  not_callable b same never =
      sym (none (are_callable h new)) ∙ (sym (ap (λ x. are_callable h new && x) never) ∙ (sym (callable_last h new q) ∙ (sym (ap (are_callable h) e) ∙ same)))
    where
      none : (b : Bool) → (b && false) ≡ false
      none true = refl
      none false = refl

  pub still_callable : (b : Bool) (left : List ℕ) → are_callable h old ≡ b → are_callable h left ≡ (are_callable h new && is_callable (stands_for h q)) →
      are_callable h left ≡ b
  still_callable b left same l = l ∙ (sym (callable_last h new q) ∙ (sym (ap (are_callable h) e) ∙ same))
