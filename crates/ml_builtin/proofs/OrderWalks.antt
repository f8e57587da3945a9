-- A worklist of pairs of cells whose terms are to be compared.
use Rattle.std.specs.Prelude.{◌≡◌, ◌≢◌, ℕ, ◌+◌, ◌<◌, Bool, true, false, List, [], ◌∷◌, ◌++◌, map, reverse, length}
use Rattle.std.specs.declared.cmp.Ordering.{Ordering}
use Rattle.std.specs.declared.cmp.Ordering.TheVariants.{Less, Equal, Greater}
use Rattle.std.specs.Ordering.{nat_cmp, ordering_then, is_ne}
use Rattle.std.specs.Cmp.Lexicographic.{slice_cmp}
use Rattle.std.proofs.Common.{refl, sym, ap, ◌∙◌, subst, arith}
use Rattle.std.proofs.lemmas.List.{reverse-append}
use Rattle.ml_term.specs.Tree.{Tree, compound, trees_of, arity, nodes, nodes_of}
use Rattle.ml_term.specs.Order.{tree_cmp, trees_cmp}
use Rattle.ml_term.proofs.Orderings.{regrouped, equal_numbers}
use Rattle.ml_heap.specs.Changes.{Changes, cell_count, stands_for, arguments_of}
use Rattle.ml_heap.specs.inside.Equations.{AreBelow}
use Rattle.ml_heap.proofs.Worklists.{below_append}
use Rattle.ml_builtin.specs.inside.Orders.{order_left, nodes_left}

abbrev pair : ℕ → ℕ → ℕ × ℕ
pair q r = (q, r)

turned : (p : ℕ × ℕ) (ps : List (ℕ × ℕ)) → reverse (p ∷ ps) ≡ reverse ps ++ p ∷ []
turned p ps = reverse-append (p ∷ []) ps

then_equal : (o : Ordering) → ordering_then o Equal ≡ o
then_equal Less = refl
then_equal Equal = refl
then_equal Greater = refl

arity_counts : (ts : List Tree) → arity (trees_of ts) ≡ length ts
arity_counts [] = refl
arity_counts (t ∷ ts) = omega (arith, arity_counts ts)

-- pairs that are all below a count
below_reversed : (n : ℕ) (ps : List (ℕ × ℕ)) → AreBelow n ps → AreBelow n (reverse ps)
below_reversed n [] a = tt
below_reversed n (p ∷ ps) a = subst (AreBelow n) (sym (turned p ps)) (below_append n (reverse ps) (p ∷ []) (below_reversed n ps a.2) (a.0, a.1, tt))

module _ (h : Changes) where
  abbrev first : ℕ × ℕ → Tree
  first p = stands_for h p.0

  abbrev second : ℕ × ℕ → Tree
  second p = stands_for h p.1

  -- the last pair comes first
  pub order_last : (ps : List (ℕ × ℕ)) (p : ℕ × ℕ) → order_left h (ps ++ p ∷ []) ≡ ordering_then (tree_cmp (first p) (second p)) (order_left h ps)
  order_last [] p = sym (then_equal (tree_cmp (first p) (second p)))
  order_last (q ∷ ps) p = ap (λ o. ordering_then o (tree_cmp (first q) (second q))) (order_last ps p)
      ∙ regrouped (tree_cmp (first p) (second p)) (order_left h ps) (tree_cmp (first q) (second q))

  append_assoc_pairs : (ps qs : List (ℕ × ℕ)) (p : ℕ × ℕ) → ps ++ (qs ++ p ∷ []) ≡ (ps ++ qs) ++ p ∷ []
  append_assoc_pairs [] qs p = refl
  append_assoc_pairs (q ∷ ps) qs p = ap (λ zs. q ∷ zs) (append_assoc_pairs ps qs p)

  none_more : (ps : List (ℕ × ℕ)) → ps ++ [] ≡ ps
  none_more [] = refl
  none_more (p ∷ ps) = ap (λ zs. p ∷ zs) (none_more ps)

  -- pairs of arguments that are put last, the first after all others
  pub order_pushed : (left ps : List (ℕ × ℕ)) → order_left h (left ++ reverse ps)
      ≡ ordering_then (trees_cmp (trees_of (map first ps)) (trees_of (map second ps))) (order_left h left)
  order_pushed left [] = ap (order_left h) (none_more left)
  order_pushed left (p ∷ ps) =
      ap (λ zs. order_left h (left ++ zs)) (turned p ps)
      ∙ (ap (order_left h) (append_assoc_pairs left (reverse ps) p)
      ∙ (order_last (left ++ reverse ps) p
      ∙ (ap (ordering_then (tree_cmp (first p) (second p))) (order_pushed left ps)
      ∙ sym (regrouped (tree_cmp (first p) (second p)) (trees_cmp (trees_of (map first ps)) (trees_of (map second ps))) (order_left h left)))))

  pub nodes_last : (ps : List (ℕ × ℕ)) (p : ℕ × ℕ) → nodes_left h (ps ++ p ∷ []) ≡ nodes_left h ps + nodes (first p)
  nodes_last [] p = omega arith
  nodes_last (q ∷ ps) p = omega (arith, nodes_last ps p)

  nodes_pushed : (left ps : List (ℕ × ℕ)) → nodes_left h (left ++ reverse ps) ≡ nodes_left h left + nodes_of (trees_of (map first ps))
  nodes_pushed left [] = ap (nodes_left h) (none_more left) ∙ omega arith
  nodes_pushed left (p ∷ ps) =
      ap (λ zs. nodes_left h (left ++ zs)) (turned p ps)
      ∙ (ap (nodes_left h) (append_assoc_pairs left (reverse ps) p)
      ∙ (nodes_last (left ++ reverse ps) p ∙ omega (arith, nodes_pushed left ps)))

  -- the pair that is taken is the last one
  module _ (left rest : List (ℕ × ℕ)) (a b : ℕ) (e : left ≡ rest ++ pair a b ∷ []) where
    pub order_taken : order_left h left ≡ ordering_then (tree_cmp (stands_for h a) (stands_for h b)) (order_left h rest)
    order_taken = ap (order_left h) e ∙ order_last rest (pair a b)

    pub nodes_taken : nodes_left h left ≡ nodes_left h rest + nodes (stands_for h a)
    nodes_taken = ap (nodes_left h) e ∙ nodes_last rest (pair a b)

  -- two compounds
  module _ (t u : Tree) (f g : List ℕ) (m n : ℕ) (is_t : t ≡ compound f (trees_of (arguments_of t))) (is_u : u ≡ compound g (trees_of (arguments_of u)))
      (many_t : length (arguments_of t) ≡ m) (many_u : length (arguments_of u) ≡ n) where
    abbrev heads : Ordering
    heads = ordering_then (nat_cmp m n) (slice_cmp nat_cmp f g)

    abbrev rest : Ordering
    rest = trees_cmp (trees_of (arguments_of t)) (trees_of (arguments_of u))

    compared : tree_cmp t u ≡ ordering_then heads rest
    compared =
        ap (λ x. tree_cmp x u) is_t ∙ (ap (tree_cmp (compound f (trees_of (arguments_of t)))) is_u
        ∙ (ap (λ k. ordering_then (nat_cmp k (arity (trees_of (arguments_of u)))) (ordering_then (slice_cmp nat_cmp f g) rest))
        (arity_counts (arguments_of t) ∙ many_t)
        ∙ (ap (λ k. ordering_then (nat_cmp m k) (ordering_then (slice_cmp nat_cmp f g) rest)) (arity_counts (arguments_of u) ∙ many_u)
        ∙ sym (regrouped (nat_cmp m n) (slice_cmp nat_cmp f g) rest))))

    pub heads_differ : (o : Ordering) (left : List (ℕ × ℕ)) → o ≡ heads → o ≢ Equal
        → ordering_then o (order_left h left) ≡ ordering_then (tree_cmp t u) (order_left h left)
    heads_differ o left e d = by o heads rest (order_left h left) e d ∙ ap (λ x. ordering_then x (order_left h left)) (sym compared)
      where
        by : (o p q r : Ordering) → o ≡ p → o ≢ Equal → ordering_then o r ≡ ordering_then (ordering_then p q) r
        by Less p q r e d = ap (λ x. ordering_then (ordering_then x q) r) e
        by Equal p q r e d = absurd (d refl)
        by Greater p q r e d = ap (λ x. ordering_then (ordering_then x q) r) e

    pub equal_arity : heads ≡ Equal → m ≡ n
    equal_arity e = by (nat_cmp m n) refl e
      where
        by : (o : Ordering) → nat_cmp m n ≡ o → ordering_then o (slice_cmp nat_cmp f g) ≡ Equal → m ≡ n
        by Less k e = cc
        by Equal k e = equal_numbers m n k
        by Greater k e = cc

    -- their arguments were put last
    module _ (o : Ordering) (same_heads : o ≡ heads) (equal : o ≡ Equal) (left all ps : List (ℕ × ℕ)) (put : all ≡ left ++ reverse ps)
        (firsts_are : map first ps ≡ arguments_of t) (seconds_are : map second ps ≡ arguments_of u) where
      pub order_of_arguments : ordering_then o (order_left h all) ≡ ordering_then (tree_cmp t u) (order_left h left)
      order_of_arguments =
          ap (λ x. ordering_then x (order_left h all)) equal
          ∙ (ap (order_left h) put
          ∙ (order_pushed left ps
          ∙ (ap (λ ts. ordering_then (trees_cmp (trees_of ts) (trees_of (map second ps))) (order_left h left)) firsts_are
          ∙ (ap (λ us. ordering_then (trees_cmp (trees_of (arguments_of t)) (trees_of us)) (order_left h left)) seconds_are
          ∙ ap (λ x. ordering_then x (order_left h left)) (sym (compared ∙ ap (λ x. ordering_then x rest) (sym same_heads ∙ equal)))))))

      pub fewer_nodes : nodes_left h all < nodes_left h left + nodes t
      fewer_nodes =
          let n : nodes t ≡ 1 + nodes_of (trees_of (map first ps)) = ap nodes is_t ∙ ap (λ ts. 1 + nodes_of (trees_of ts)) (sym firsts_are) in
          omega (arith, ap (nodes_left h) put, nodes_pushed left ps, n)

      pub still_below : AreBelow (cell_count h) ps → AreBelow (cell_count h) left → AreBelow (cell_count h) all
      still_below b a = subst (AreBelow (cell_count h)) (sym put) (below_append (cell_count h) left (reverse ps) a (below_reversed (cell_count h) ps b))

-- terms without arguments to be compared
pub no_arguments : (h : Changes) (left all : List (ℕ × ℕ)) (t u : Tree) (o : Ordering) → o ≡ tree_cmp t u → all ≡ left
    → ordering_then o (order_left h all) ≡ ordering_then (tree_cmp t u) (order_left h left)
no_arguments h left all t u o e k = ap (λ x. ordering_then x (order_left h all)) e ∙ ap (λ ps. ordering_then (tree_cmp t u) (order_left h ps)) k

-- the first pair on a worklist
pub at_first : (h : Changes) (a b : ℕ) (left : List (ℕ × ℕ)) → left ≡ pair a b ∷ [] → order_left h left ≡ tree_cmp (stands_for h a) (stands_for h b)
at_first h a b left e = ap (order_left h) e

-- the order of two heads decides, or what is left does
pub decided : (o x : Ordering) (b : Bool) → b ≡ true → b ≡ is_ne o → ordering_then o x ≡ o
decided Less x b e f = refl
decided Equal x b e f = absurd (cc (sym e ∙ f))
decided Greater x b e f = refl

pub goes_on : (o x y : Ordering) (b : Bool) → b ≡ false → b ≡ is_ne o → ordering_then o x ≡ y → x ≡ y
goes_on Less x y b e f k = absurd (cc (sym e ∙ f))
goes_on Equal x y b e f k = k
goes_on Greater x y b e f k = absurd (cc (sym e ∙ f))
