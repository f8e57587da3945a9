-- Terms that are built of others, one argument after the other.
use Rattle.std.specs.Prelude.{◌≡◌, ℕ, zero, suc, ◌+◌, ◌<◌, ◌≤◌, true, List, [], ◌∷◌, ◌++◌, map, take, length}
use Rattle.std.proofs.Common.{refl, sym, ap, ◌∙◌, arith, get_or}
use Rattle.std.proofs.lemmas.Bool.{and_parts, and_from, le-leb}
use Rattle.std.proofs.lemmas.List.{map_push, take_more, take_all}
use Rattle.ml_term.specs.Names.{is_name}
use Rattle.ml_term.specs.Seen.{seen, all_seen}
use Rattle.ml_term.specs.Tree.{Tree, trees_of, arity, nodes, nodes_of, substitute, substitute_in}
use Rattle.ml_term.specs.Valid.{is_valid, are_valid}
use Rattle.ml_term.specs.declared.term.Term.{Term}
use Rattle.ml_term.specs.declared.term.Term.TheVariants.{Cmp}
use Rattle.ml_term.proofs.NumberedArguments.{argument_is_valid}
use Rattle.ml_term.proofs.TermSizes.{arity_of_trees}
use Rattle.ml_term.proofs.CompoundTrees.{seen_compound}

pub valid_more : (ts : List Tree) (t : Tree) → are_valid (trees_of ts) ≡ true → is_valid t ≡ true → are_valid (trees_of (ts ++ t ∷ [])) ≡ true
valid_more [] t h v = and_from _ _ v refl
valid_more (u ∷ ts) t h v = let parts = and_parts (is_valid u) (are_valid (trees_of ts)) h in and_from _ _ parts.0 (valid_more ts t parts.1 v)

-- a compound of a name and 1 to 255 valid arguments
pub valid_compound : (f : List ℕ) (ts : List Term) (n : ℕ) → is_name f ≡ true → length ts ≡ n → 1 ≤ n → n ≤ 255 → are_valid (trees_of (all_seen ts)) ≡ true →
    is_valid (seen (Cmp f ts)) ≡ true
valid_compound f ts n name len low high valid =
    let many = arity_of_trees seen ts in
    ap is_valid (seen_compound f ts)
    ∙ and_from _ _
    (and_from _ _ (and_from _ _ name (le-leb 1 (arity (trees_of (all_seen ts))) (omega (arith, many, len, low))))
    (le-leb (arity (trees_of (all_seen ts))) 255 (omega (arith, many, len, high)))) valid

-- one argument of some
module _ (ts : List Term) (i : ℕ) (t : Term) (low : i < length ts) (is : t ≡ get_or ts i t) where
  pub next_is_valid : are_valid (trees_of (all_seen ts)) ≡ true → is_valid (seen t) ≡ true
  next_is_valid h = ap (λ x. is_valid (seen x)) is ∙ argument_is_valid seen i ts t low h

  pub one_more_taken : take (i + 1) ts ≡ take i ts ++ t ∷ []
  one_more_taken = take_more ts i t low ∙ ap (λ x. take i ts ++ x ∷ []) (sym is)

  -- a term was built from it
  module _ (g : Term → Tree) (us us' : List Term) (u : Term) (more : us' ≡ us ++ u ∷ []) where
    grown : all_seen us' ≡ all_seen us ++ seen u ∷ []
    grown = ap all_seen more ∙ map_push seen us u

    pub built_more : seen u ≡ g t → all_seen us ≡ map g (take i ts) → all_seen us' ≡ map g (take (i + 1) ts)
    built_more e so_far =
        grown ∙ ap (λ xs. xs ++ seen u ∷ []) so_far ∙ ap (λ x. map g (take i ts) ++ x ∷ []) e ∙ sym (ap (map g) one_more_taken ∙ map_push g (take i ts) t)

    pub built_valid : are_valid (trees_of (all_seen us)) ≡ true → is_valid (seen u) ≡ true → are_valid (trees_of (all_seen us')) ≡ true
    built_valid h v = ap (λ xs. are_valid (trees_of xs)) grown ∙ valid_more (all_seen us) (seen u) h v

pub built_all : (g : Term → Tree) (ts us : List Term) (i : ℕ) → length ts ≤ i → all_seen us ≡ map g (take i ts) → all_seen us ≡ map g ts
built_all g ts us i high so_far = so_far ∙ ap (map g) (take_all i ts high)

nodes_at : (ts : List Term) (i : ℕ) (d : Term) → i < length ts → nodes (seen (get_or ts i d)) ≤ nodes_of (trees_of (all_seen ts))
nodes_at [] i d low = absurd (omega (arith, low))
nodes_at (t ∷ ts) zero d low = omega arith
nodes_at (t ∷ ts) (suc i) d low = omega (arith, nodes_at ts i d (omega (arith, low)))

-- an argument has at most the nodes of all
pub fewer_nodes : (ts : List Term) (i : ℕ) (t : Term) → i < length ts → t ≡ get_or ts i t → nodes (seen t) ≤ nodes_of (trees_of (all_seen ts))
fewer_nodes ts i t low is = let e = ap (λ x. nodes (seen x)) is in omega (arith, e, nodes_at ts i t low)

-- substitution in all arguments
pub all_substituted : (s : ℕ → Tree) (ts : List Term) → trees_of (map (λ t. substitute s (seen t)) ts) ≡ substitute_in s (trees_of (all_seen ts))
all_substituted s [] = refl
all_substituted s (t ∷ ts) = rw (all_substituted s ts) refl
