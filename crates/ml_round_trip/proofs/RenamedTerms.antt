-- A valid term stays one where its variables are numbered anew.
use Rattle.std.specs.Prelude.{◌≡◌, ℕ, ◌^◌, ◌<◌, Bool, true, ◌&&◌, nat_le}
use Rattle.std.proofs.Common.{refl, sym, ap, ◌∙◌}
use Rattle.std.proofs.lemmas.Bool.{lt-ltb}
use Rattle.ml_term.specs.Tree.{Tree, Trees, variable, integer, atom, compound, no_trees, tree, arity, variables, variables_of, substitute, substitute_in}
use Rattle.ml_term.specs.Names.{is_name}
use Rattle.ml_term.specs.Valid.{is_valid, are_valid}
use Rattle.ml_term.proofs.DistinctCounts.{In}
use Rattle.ml_term.proofs.UnificationEnds.{in_left, in_right}
use Rattle.ml_term.proofs.Substitutions.{in_itself, arity_kept}
use Rattle.ml_round_trip.proofs.BooleanTests.{both, both_hold}

valid_from : (a : Bool) (m n : ℕ) (b c : Bool) → m ≡ n → (b ≡ true → c ≡ true) → (a && nat_le 1 m && nat_le m 255 && b) ≡ true
    → (a && nat_le 1 n && nat_le n 255 && c) ≡ true
valid_from a m n b c e f v =
    let h = both (a && nat_le 1 m && nat_le m 255) b v in
    both_hold (a && nat_le 1 n && nat_le n 255) c (ap (λ k. a && nat_le 1 k && nat_le k 255) (sym e) ∙ h.0) (f h.1)

module _ (number : ℕ → ℕ) where
  mutual
    pub stays_valid : (t : Tree) → is_valid t ≡ true → ((n : ℕ) → In n (variables t) → number n < 2 ^ 32)
        → is_valid (substitute (λ n. variable (number n)) t) ≡ true
    stays_valid (variable n) v h = lt-ltb (number n) (2 ^ 32) (h n (in_itself n))
    stays_valid (integer z) v h = v
    stays_valid (atom f) v h = v
    stays_valid (compound f ts) v h =
        valid_from (is_name f) (arity ts) (arity (substitute_in (λ n. variable (number n)) ts)) (are_valid ts)
        (are_valid (substitute_in (λ n. variable (number n)) ts))
        (sym (arity_kept (λ n. variable (number n)) ts)) (λ w. stay_valid ts w h) v

    stay_valid : (ts : Trees) → are_valid ts ≡ true → ((n : ℕ) → In n (variables_of ts) → number n < 2 ^ 32)
        → are_valid (substitute_in (λ n. variable (number n)) ts) ≡ true
    stay_valid no_trees v h = refl
    stay_valid (tree t ts) v h =
        let w = both (is_valid t) (are_valid ts) v in
        both_hold (is_valid (substitute (λ n. variable (number n)) t)) (are_valid (substitute_in (λ n. variable (number n)) ts))
        (stays_valid t w.0 (λ n i. h n (in_left n (variables t) (variables_of ts) i)))
        (stay_valid ts w.1 (λ n i. h n (in_right n (variables t) (variables_of ts) i)))
