-- A node that stands there is read, and terms that are read one after the other are read together.
use Rattle.std.specs.Prelude.{◌≡◌, ℕ, ◌+◌, ◌≤◌, true, List, [], ◌∷◌, ◌++◌, length, drop}
use Rattle.std.proofs.Common.{refl, sym, ap, ◌∙◌, arith, subst, append_assoc}
use Rattle.std.proofs.lemmas.Bool.{and_parts, and_from, le-leb}
use Rattle.std.proofs.lemmas.List.{drop_at, drop-drop, length-append, length-drop, append-nil}
use Rattle.ml_term.specs.declared.reading.Progress.{Progress}
use Rattle.ml_term.specs.Tree.{Tree, Trees, compound, no_trees, arity, trees_of, nodes, nodes_of, variables, variables_of}
use Rattle.ml_term.specs.CanonicalBytes.{bytes_of, bytes_of_all, name_bytes}
use Rattle.ml_term.specs.Names.{is_name}
use Rattle.ml_term.specs.Valid.{is_valid, are_valid}
use Rattle.ml_term.specs.Limits.{max_term_nodes}
use Rattle.ml_term.specs.inside.Reading.{IsRead, AreRead, met_after_variables, are_in_order}
use Rattle.ml_term.proofs.VariablesInOrder.{met_after-append, in_order-append}

-- what stands behind a front of the bytes
pub behind : (all : List ℕ) (at n : ℕ) (front rest : List ℕ) → at ≤ length all → drop at all ≡ front ++ rest → length front ≡ n →
    (drop (at + n) all ≡ rest) × (at + n ≤ length all)
behind all at n front rest low e len =
    (drops, omega (arith, length-drop at all, ap length e, length-append front rest))
  where
    drops : drop (at + n) all ≡ rest
    drops = sym (drop-drop n at all) ∙ ap (drop n) e ∙ drop_at front rest n len

pub is_inside : (all : List ℕ) (at b : ℕ) (rest : List ℕ) → drop at all ≡ b ∷ rest → at ≤ length all
is_inside all at b rest e = omega (arith, length-drop at all, ap length e)

-- a node without arguments
pub node_read : (all : List ℕ) (before after : Progress) (t : Tree) (rest : List ℕ) → before.at ≤ length all → drop before.at all ≡ bytes_of t ++ rest
    → after.at ≡ before.at + length (bytes_of t) → is_valid t ≡ true → are_in_order before.met (variables t) ≡ true →
    after.met ≡ met_after_variables before.met (variables t)
    → nodes t ≡ 1 → before.left ≡ 1 + after.left → after.met + after.left ≤ max_term_nodes → IsRead all before t after
node_read all before after t rest low here at valid order met one left room =
    let b = behind all before.at (length (bytes_of t)) (bytes_of t) rest low here refl in
    record {
      spelled = here ∙ ap (λ r. bytes_of t ++ r) (sym b.0 ∙ ap (λ n. drop n all) (sym at));
      ended = at;
      within = omega (arith, at, b.1);
      valid = valid;
      in_order = order;
      met = met;
      left = omega (arith, one, left);
      room = room;
    }

-- a compound whose arguments were read
pub compound_read : (all rest : List ℕ) (before inner after : Progress) (f : List ℕ) (ts : Trees) → before.at ≤ length all →
    drop before.at all ≡ (3 ∷ arity ts ∷ name_bytes f) ++ rest
    → drop inner.at all ≡ rest → inner.at ≡ before.at + (3 + length f) → is_name f ≡ true → 1 ≤ arity ts → arity ts ≤ 255 → inner.met ≡ before.met →
    before.left ≡ 1 + inner.left
    → AreRead all inner ts after → IsRead all before (compound f ts) after
compound_read all rest before inner after f ts low here next at name some few met left read = record {
  spelled = here ∙ ap (λ r. (3 ∷ arity ts ∷ name_bytes f) ++ r) (sym next ∙ read.spelled)
      ∙ sym (append_assoc (3 ∷ arity ts ∷ name_bytes f) (bytes_of_all ts) (drop after.at all));
  ended = omega (arith, read.ended, at, length-append (3 ∷ arity ts ∷ name_bytes f) (bytes_of_all ts));
  within = read.within;
  valid = and_from _ _ (and_from _ _ (and_from _ _ name (le-leb 1 (arity ts) some)) (le-leb (arity ts) 255 few)) read.valid;
  in_order = subst (λ m. are_in_order m (variables_of ts) ≡ true) met read.in_order;
  met = read.met ∙ ap (λ m. met_after_variables m (variables_of ts)) met;
  left = omega (arith, left, read.left);
  room = read.room;
}

-- no terms yet
pub none_read : (all : List ℕ) (before : Progress) → before.at ≤ length all → before.met + before.left ≤ max_term_nodes → AreRead all before no_trees before
none_read all before low room = record {
  spelled = refl;
  ended = omega arith;
  within = low;
  valid = refl;
  in_order = refl;
  met = refl;
  left = omega arith;
  room = room;
}

-- one term more at the end
bytes_of_more : (ts : List Tree) (t : Tree) → bytes_of_all (trees_of (ts ++ t ∷ [])) ≡ bytes_of_all (trees_of ts) ++ bytes_of t
bytes_of_more [] t = append-nil (bytes_of t)
bytes_of_more (u ∷ ts) t = ap (λ b. bytes_of u ++ b) (bytes_of_more ts t) ∙ sym (append_assoc (bytes_of u) (bytes_of_all (trees_of ts)) (bytes_of t))

variables_of_more : (ts : List Tree) (t : Tree) → variables_of (trees_of (ts ++ t ∷ [])) ≡ variables_of (trees_of ts) ++ variables t
variables_of_more [] t = append-nil (variables t)
variables_of_more (u ∷ ts) t = ap (λ b. variables u ++ b) (variables_of_more ts t) ∙ sym (append_assoc (variables u) (variables_of (trees_of ts)) (variables t))

nodes_of_more : (ts : List Tree) (t : Tree) → nodes_of (trees_of (ts ++ t ∷ [])) ≡ nodes_of (trees_of ts) + nodes t
nodes_of_more [] t = omega arith
nodes_of_more (u ∷ ts) t = omega (arith, nodes_of_more ts t)

valid_more : (ts : List Tree) (t : Tree) → are_valid (trees_of ts) ≡ true → is_valid t ≡ true → are_valid (trees_of (ts ++ t ∷ [])) ≡ true
valid_more [] t h v = and_from _ _ v refl
valid_more (u ∷ ts) t h v = let parts = and_parts _ _ h in and_from _ _ parts.0 (valid_more ts t parts.1 v)

pub one_more : (all : List ℕ) (before middle after : Progress) (ts : List Tree) (t : Tree) → AreRead all before (trees_of ts) middle →
    IsRead all middle t after → AreRead all before (trees_of (ts ++ t ∷ [])) after
one_more all before middle after ts t first next =
    let bs = bytes_of_more ts t in
    let vs = variables_of_more ts t in
    record {
      spelled = first.spelled ∙ ap (λ r. bytes_of_all (trees_of ts) ++ r) next.spelled
          ∙ sym (append_assoc (bytes_of_all (trees_of ts)) (bytes_of t) (drop after.at all)) ∙ ap (λ b. b ++ drop after.at all) (sym bs);
      ended = omega (arith, first.ended, next.ended, ap length bs, length-append (bytes_of_all (trees_of ts)) (bytes_of t));
      within = next.within;
      valid = valid_more ts t first.valid next.valid;
      in_order = ap (are_in_order before.met) vs ∙ in_order-append before.met (variables_of (trees_of ts)) (variables t)
          ∙ and_from _ _ first.in_order (ap (λ m. are_in_order m (variables t)) (sym first.met) ∙ next.in_order);
      met = next.met ∙ ap (λ m. met_after_variables m (variables t)) first.met ∙ sym (met_after-append before.met (variables_of (trees_of ts)) (variables t))
          ∙ ap (met_after_variables before.met) (sym vs);
      left = omega (arith, first.left, next.left, nodes_of_more ts t);
      room = next.room;
    }
