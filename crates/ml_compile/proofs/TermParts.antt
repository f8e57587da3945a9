-- Terms by their parts: a compound by its last argument and those before it, and some terms by those that a loop has gone over.
use Rattle.std.proofs.Common.{◌≡◌, ℕ, zero, suc, ◌+◌, ◌<◌, ◌≤◌, true, ◌&&◌, List, [], ◌∷◌, ◌++◌, length, take, get_or, refl, sym, ap, ◌∙◌, arith, append_assoc, length-append}
use Rattle.std.proofs.lemmas.Bool.{and_parts}
use Rattle.std.proofs.lemmas.List.{append-nil, length-map, map_push, take_more, take_all}
use Rattle.ml_term.specs.Tree.{Tree, compound, trees_of, list_of, arity, nodes, nodes_of, variables, variables_of}
use Rattle.ml_term.specs.Seen.{seen, all_seen}
use Rattle.ml_term.specs.inside.Reading.{are_in_order, met_after_variables}
use Rattle.ml_term.specs.declared.term.Term.{Term}
use Rattle.ml_term.specs.declared.term.Term.TheVariants.{Cmp}
use Rattle.ml_term.proofs.CompoundTrees.{seen_compound}
use Rattle.ml_term.proofs.VariablesInOrder.{met_after-append, in_order-append}

pub list_of_trees : (ts : List Tree) → list_of (trees_of ts) ≡ ts
list_of_trees [] = refl
list_of_trees (t ∷ ts) = ap (λ us. t ∷ us) (list_of_trees ts)

pub arity_is_length : (ts : List Tree) → arity (trees_of ts) ≡ length ts
arity_is_length [] = refl
arity_is_length (t ∷ ts) = omega (arith, arity_is_length ts)

pub nodes_of_more : (ts us : List Tree) → nodes_of (trees_of (ts ++ us)) ≡ nodes_of (trees_of ts) + nodes_of (trees_of us)
nodes_of_more [] us = omega arith
nodes_of_more (t ∷ ts) us = omega (arith, nodes_of_more ts us)

pub variables_of_more : (ts us : List Tree) → variables_of (trees_of (ts ++ us)) ≡ variables_of (trees_of ts) ++ variables_of (trees_of us)
variables_of_more [] us = refl
variables_of_more (t ∷ ts) us =
    ap (λ b. variables t ++ b) (variables_of_more ts us) ∙ sym (append_assoc (variables t) (variables_of (trees_of ts)) (variables_of (trees_of us)))

variables_of_one : (ts : List Tree) (t : Tree) → variables_of (trees_of (ts ++ t ∷ [])) ≡ variables_of (trees_of ts) ++ variables t
variables_of_one ts t = variables_of_more ts (t ∷ []) ∙ ap (λ b. variables_of (trees_of ts) ++ b) (append-nil (variables t))

-- a compound's tree, by its last argument and those before it
pub seen_parts : (rest : Term) (f : List ℕ) (ts front : List Term) (last : Term) → rest ≡ Cmp f ts → ts ≡ front ++ last ∷ []
    → seen rest ≡ compound f (trees_of (all_seen front ++ seen last ∷ []))
seen_parts rest f ts front last is parts = ap seen is ∙ seen_compound f ts ∙ ap (λ us. compound f (trees_of us)) (ap all_seen parts ∙ map_push seen front last)

-- what a compound has, by its parts
module _ (rest : Term) (f : List ℕ) (ts front : List Term) (last : Term) (is : rest ≡ Cmp f ts) (parts : ts ≡ front ++ last ∷ []) where
  pub nodes_of_parts : nodes (seen rest) ≡ 1 + nodes_of (trees_of (all_seen front)) + nodes (seen last)
  nodes_of_parts = omega (arith, ap nodes (seen_parts rest f ts front last is parts), nodes_of_more (all_seen front) (seen last ∷ []))

  pub variables_of_parts : variables (seen rest) ≡ variables_of (trees_of (all_seen front)) ++ variables (seen last)
  variables_of_parts = ap variables (seen_parts rest f ts front last is parts) ∙ variables_of_one (all_seen front) (seen last)

  pub met_after_parts : (met : ℕ) → met_after_variables met (variables (seen rest))
      ≡ met_after_variables (met_after_variables met (variables_of (trees_of (all_seen front)))) (variables (seen last))
  met_after_parts met =
      ap (met_after_variables met) variables_of_parts ∙ met_after-append met (variables_of (trees_of (all_seen front))) (variables (seen last))

  pub parts_in_order : (met : ℕ) → are_in_order met (variables (seen rest)) ≡ true
      → (are_in_order met (variables_of (trees_of (all_seen front))) ≡ true)
      × (are_in_order (met_after_variables met (variables_of (trees_of (all_seen front)))) (variables (seen last)) ≡ true)
  parts_in_order met h =
      let front_vs = variables_of (trees_of (all_seen front)) in
      and_parts (are_in_order met front_vs) (are_in_order (met_after_variables met front_vs) (variables (seen last)))
      (sym (ap (are_in_order met) variables_of_parts ∙ in_order-append met front_vs (variables (seen last))) ∙ h)

nodes_at : (ts : List Term) (i : ℕ) (d : Term) → i < length ts → nodes (seen (get_or ts i d)) ≤ nodes_of (trees_of (all_seen ts))
nodes_at [] i d low = absurd (omega (arith, low))
nodes_at (t ∷ ts) zero d low = omega arith
nodes_at (t ∷ ts) (suc i) d low = omega (arith, nodes_at ts i d (omega (arith, low)))

in_order_at : (ts : List Term) (i : ℕ) (d : Term) (met : ℕ) → i < length ts → are_in_order met (variables_of (trees_of (all_seen ts))) ≡ true
    → are_in_order (met_after_variables met (variables_of (trees_of (all_seen (take i ts))))) (variables (seen (get_or ts i d))) ≡ true
in_order_at [] i d met low h = absurd (omega (arith, low))
in_order_at (t ∷ ts) zero d met low h =
    (and_parts _ _ (sym (in_order-append met (variables (seen t)) (variables_of (trees_of (all_seen ts)))) ∙ h)).0
in_order_at (t ∷ ts) (suc i) d met low h =
    let met_then = met_after_variables met (variables (seen t)) in
    let both : (are_in_order met (variables (seen t)) && are_in_order met_then (variables_of (trees_of (all_seen ts)))) ≡ true =
    sym (in_order-append met (variables (seen t)) (variables_of (trees_of (all_seen ts)))) ∙ h in
    let front : met_after_variables met (variables_of (trees_of (all_seen (take (suc i) (t ∷ ts)))))
    ≡ met_after_variables met_then (variables_of (trees_of (all_seen (take i ts)))) =
    met_after-append met (variables (seen t)) (variables_of (trees_of (all_seen (take i ts)))) in
    let below : i < length ts = omega (arith, low) in
    ap (λ m. are_in_order m (variables (seen (get_or ts i d)))) front
    ∙ in_order_at ts i d met_then below
    (and_parts (are_in_order met (variables (seen t))) (are_in_order met_then (variables_of (trees_of (all_seen ts)))) both).1

-- one term of some
module _ (ts : List Term) (i : ℕ) (t : Term) (low : i < length ts) (is : t ≡ get_or ts i t) where
  -- it has at most the nodes of all
  pub fewer_nodes : nodes (seen t) ≤ nodes_of (trees_of (all_seen ts))
  fewer_nodes = let e = ap (λ x. nodes (seen x)) is in omega (arith, e, nodes_at ts i t low)

  pub seen_more : all_seen (take (i + 1) ts) ≡ all_seen (take i ts) ++ seen t ∷ []
  seen_more = ap all_seen (take_more ts i t low ∙ ap (λ x. take i ts ++ x ∷ []) (sym is)) ∙ map_push seen (take i ts) t

  pub nodes_more : nodes_of (trees_of (all_seen (take (i + 1) ts))) ≡ nodes_of (trees_of (all_seen (take i ts))) + nodes (seen t)
  nodes_more = omega (arith, ap (λ us. nodes_of (trees_of us)) seen_more, nodes_of_more (all_seen (take i ts)) (seen t ∷ []))

  pub met_after_more : (met : ℕ) → met_after_variables met (variables_of (trees_of (all_seen (take (i + 1) ts))))
      ≡ met_after_variables (met_after_variables met (variables_of (trees_of (all_seen (take i ts))))) (variables (seen t))
  met_after_more met =
      ap (λ us. met_after_variables met (variables_of (trees_of us))) seen_more
      ∙ ap (met_after_variables met) (variables_of_one (all_seen (take i ts)) (seen t))
      ∙ met_after-append met (variables_of (trees_of (all_seen (take i ts)))) (variables (seen t))

  pub next_in_order : (met : ℕ) → are_in_order met (variables_of (trees_of (all_seen ts))) ≡ true
      → are_in_order (met_after_variables met (variables_of (trees_of (all_seen (take i ts))))) (variables (seen t)) ≡ true
  next_in_order met h =
      ap (λ x. are_in_order (met_after_variables met (variables_of (trees_of (all_seen (take i ts))))) (variables (seen x))) is ∙ in_order_at ts i t met low h

-- a loop that has gone over all
pub all_taken : (ts : List Term) (i : ℕ) → length ts ≤ i → all_seen (take i ts) ≡ all_seen ts
all_taken ts i high = ap all_seen (take_all i ts high)

-- how many arguments there are, by their list
pub count_of_parts : (ts us front : List Term) (last : Term) → us ≡ ts → ts ≡ front ++ last ∷ [] → length (all_seen front ++ seen last ∷ []) ≡ length us
count_of_parts ts us front last same parts =
    omega (arith, ap length same, ap length parts, length-append (all_seen front) (seen last ∷ []), length-append front (last ∷ []), length-map front seen)
