-- Nodes that stand as bytes are found whole, and a term's nodes are found one after the other.
use Rattle.std.specs.Prelude.{◌≡◌, ◌≢◌, ℕ, zero, suc, ◌+◌, ◌^◌, ◌<◌, ◌≤◌, nat_lt, true, false, ℤ, List, [], ◌∷◌, ◌++◌, length, drop}
use Rattle.std.specs.List.{prefix_len, list_all}
use Rattle.std.specs.Int.{from_be_bytes, to_be_bytes, w32, w64}
use Rattle.std.proofs.Common.{refl, sym, ap, ◌∙◌, arith, append_assoc, zero-add, add-zero}
use Rattle.std.proofs.lemmas.Bool.{and_parts, le-ltb, ltb-true, leb-true, lt-ltb, eq-eqb}
use Rattle.std.proofs.lemmas.List.{take_at, drop_at, length-append}
use Rattle.std.proofs.lemmas.Nat.{from_be_bytes-to_be_bytes_4, from_be_bytes-to_be_bytes_8}
use Rattle.ml_term.specs.Tree.{Tree, Trees, variable, integer, atom, compound, no_trees, tree, arity, nodes, nodes_of, variables, variables_of}
use Rattle.ml_term.specs.CanonicalBytes.{bytes_of, bytes_of_all, counted_from_smallest, name_bytes}
use Rattle.ml_term.specs.Names.{is_name, is_name_byte}
use Rattle.ml_term.specs.Valid.{is_valid, are_valid, is_in_range}
use Rattle.ml_term.specs.FirstDefect.{whole_node, defect_at, met_after_variable, variable_at, integer_at, name_at, compound_at, node_at, defect_after}
use Rattle.ml_term.specs.FirstDefect.{defect_from}
use Rattle.ml_term.specs.inside.Reading.{met_after_variables, are_in_order}
use Rattle.ml_term.proofs.CanonicalOrder.{counted_below}
use Rattle.ml_term.proofs.VariablesInOrder.{met_after-append, in_order-append}

variable_again : (met at : ℕ) (bs rest : List ℕ) → length bs ≡ 4 → nat_lt met (from_be_bytes w32 bs) ≡ false →
    variable_at met at (bs ++ rest) ≡ whole_node 5 0 (met_after_variable met (from_be_bytes w32 bs))
variable_again met at bs rest len low =
    let long : nat_lt (length (bs ++ rest)) 4 ≡ false = le-ltb _ _ (omega (arith, length-append bs rest)) in
    rw (long, take_at bs rest 4 len, low) refl

integer_again : (met at : ℕ) (bs rest : List ℕ) → length bs ≡ 8 → nat_lt (from_be_bytes w64 bs) 4611686018427387904 ≡ true →
    integer_at met at (bs ++ rest) ≡ whole_node 9 0 met
integer_again met at bs rest len low =
    let long : nat_lt (length (bs ++ rest)) 8 ≡ false = le-ltb _ _ (omega (arith, length-append bs rest)) in
    rw (long, take_at bs rest 8 len, low) refl

-- all bytes of a list may stand in a name
pub all_good : (f : List ℕ) → list_all is_name_byte f ≡ true → prefix_len is_name_byte f ≡ length f
all_good [] e = refl
all_good (b ∷ f) e = let parts = and_parts (is_name_byte b) (list_all is_name_byte f) e in rw parts.0 (omega (arith, all_good f parts.1))

pub name_again : (front arguments met at : ℕ) (f rest : List ℕ) → is_name f ≡ true →
    name_at front arguments met at (name_bytes f ++ rest) ≡ whole_node (front + 1 + length f) arguments met
name_again front arguments met at f rest e =
    let parts = and_parts _ _ e in
    rw (take_at f rest (length f) refl, all_good f parts.1, eq-eqb (length f) (length f) refl) refl

variable_stands : (met at n : ℕ) (rest : List ℕ) → n < 2 ^ 32 → n ≤ met →
    node_at met at (bytes_of (variable n) ++ rest) ≡ whole_node 5 0 (met_after_variable met n)
unfolding node_at
variable_stands met at n rest fits low =
    let back = from_be_bytes-to_be_bytes_4 n fits in
    let known : nat_lt met (from_be_bytes w32 (to_be_bytes w32 n)) ≡ false = le-ltb _ _ (omega (arith, back)) in
    variable_again met at (to_be_bytes w32 n) rest refl known ∙ ap (λ m. whole_node 5 0 (met_after_variable met m)) back

integer_stands : (met at : ℕ) (z : ℤ) (rest : List ℕ) → is_in_range z ≡ true → node_at met at (bytes_of (integer z) ++ rest) ≡ whole_node 9 0 met
unfolding node_at
integer_stands met at z rest valid =
    let low = counted_below z valid in
    let back = from_be_bytes-to_be_bytes_8 (counted_from_smallest z) (omega (arith, low)) in
    integer_again met at (to_be_bytes w64 (counted_from_smallest z)) rest refl (lt-ltb _ _ (omega (arith, low, back)))

atom_stands : (met at : ℕ) (f rest : List ℕ) → is_name f ≡ true → node_at met at (bytes_of (atom f) ++ rest) ≡ whole_node (2 + length f) 0 met
unfolding node_at
atom_stands met at f rest e = name_again 1 0 met at f rest e

pub compound_stands : (met at count : ℕ) (f rest : List ℕ) → is_name f ≡ true → 1 ≤ count →
    node_at met at (3 ∷ count ∷ (name_bytes f ++ rest)) ≡ whole_node (3 + length f) count met
unfolding node_at
compound_stands met at zero f rest e low = absurd (omega arith)
compound_stands met at (suc n) f rest e low = name_again 2 (suc n) met at f rest e

pub compound_named : (met at count : ℕ) (rest : List ℕ) → count ≢ 0 → compound_at met at (count ∷ rest) ≡ name_at 2 count met at rest
compound_named met at zero rest some = absurd (some refl)
compound_named met at (suc n) rest some = refl

pub other_tag : (met at tag : ℕ) (rest : List ℕ) → tag ≢ 0 → tag ≢ 1 → tag ≢ 2 → tag ≢ 3 → node_at met at (tag ∷ rest) ≡ defect_at at
unfolding node_at
other_tag met at zero rest a b c d = absurd (a refl)
other_tag met at (suc zero) rest a b c d = absurd (b refl)
other_tag met at (suc (suc zero)) rest a b c d = absurd (c refl)
other_tag met at (suc (suc (suc zero))) rest a b c d = absurd (d refl)
other_tag met at (suc (suc (suc (suc tag)))) rest a b c d = refl

-- the defect behind a whole node
pub after_whole : (left wanted met at : ℕ) (front rest : List ℕ) (size arguments met' : ℕ) → length front ≡ size →
    node_at met at (front ++ rest) ≡ whole_node size arguments met'
    → defect_from (1 + left) (suc wanted) met at (front ++ rest) ≡ defect_from left (arguments + wanted) met' (at + size) rest
unfolding defect_from
after_whole left wanted met at front rest size arguments met' len found =
    let one : 1 + left ≡ suc left = omega arith in
    ap (λ n. defect_from n (suc wanted) met at (front ++ rest)) one
    ∙ ap (defect_after (λ size' arguments' met''. defect_from left (arguments' + wanted) met'' (at + size') (drop size' (front ++ rest)))) found
    ∙ ap (defect_from left (arguments + wanted) met' (at + size)) (drop_at front rest size len)

longer : (at : ℕ) (f : List ℕ) → at + (2 + length f) ≡ at + length (bytes_of (atom f))
longer at f = omega arith

mutual
  -- behind a term's bytes the defects are those of what follows
  pub term_stands : (left wanted met at : ℕ) (t : Tree) (rest : List ℕ) → is_valid t ≡ true → are_in_order met (variables t) ≡ true
      → defect_from (nodes t + left) (suc wanted) met at (bytes_of t ++ rest)
      ≡ defect_from left wanted (met_after_variables met (variables t)) (at + length (bytes_of t)) rest
  term_stands left wanted met at (variable n) rest valid order =
      after_whole left wanted met at (bytes_of (variable n)) rest 5 0 (met_after_variable met n) refl
      (variable_stands met at n rest (ltb-true n (2 ^ 32) valid) (leb-true n met (and_parts _ _ order).0))
      ∙ ap (λ w. defect_from left w (met_after_variable met n) (at + 5) rest) (zero-add wanted)
  term_stands left wanted met at (integer z) rest valid order =
      after_whole left wanted met at (bytes_of (integer z)) rest 9 0 met refl (integer_stands met at z rest valid)
      ∙ ap (λ w. defect_from left w met (at + 9) rest) (zero-add wanted)
  term_stands left wanted met at (atom f) rest valid order =
      after_whole left wanted met at (bytes_of (atom f)) rest (2 + length f) 0 met (omega arith) (atom_stands met at f rest valid)
      ∙ ap (λ w. defect_from left w met (at + (2 + length f)) rest) (zero-add wanted)
      ∙ ap (λ n. defect_from left wanted met n rest) (longer at f)
  term_stands left wanted met at (compound f ts) rest valid order =
      let parts = and_parts _ _ valid in
      let shape = and_parts _ _ parts.0 in
      let name = and_parts _ _ shape.0 in
      let front : List ℕ = 3 ∷ arity ts ∷ name_bytes f in
      let more = bytes_of_all ts ++ rest in
      let regrouped : bytes_of (compound f ts) ++ rest ≡ front ++ more = append_assoc front (bytes_of_all ts) rest in
      let many : 1 + nodes_of ts + left ≡ 1 + (nodes_of ts + left) = omega arith in
      let head = after_whole (nodes_of ts + left) wanted met at front more (3 + length f) (arity ts) met (omega arith)
      (compound_stands met at (arity ts) f more name.0 (leb-true 1 (arity ts) name.1)) in
      let others = terms_stand left wanted met (at + (3 + length f)) ts rest parts.1 order in
      let last : at + (3 + length f) + length (bytes_of_all ts) ≡ at + length (bytes_of (compound f ts)) =
      omega (arith, length-append front (bytes_of_all ts)) in
      ap (λ n. defect_from n (suc wanted) met at (bytes_of (compound f ts) ++ rest)) many
      ∙ ap (defect_from (1 + (nodes_of ts + left)) (suc wanted) met at) regrouped
      ∙ head
      ∙ others
      ∙ ap (λ n. defect_from left wanted (met_after_variables met (variables_of ts)) n rest) last

  pub terms_stand : (left wanted met at : ℕ) (ts : Trees) (rest : List ℕ) → are_valid ts ≡ true → are_in_order met (variables_of ts) ≡ true
      → defect_from (nodes_of ts + left) (arity ts + wanted) met at (bytes_of_all ts ++ rest)
      ≡ defect_from left wanted (met_after_variables met (variables_of ts)) (at + length (bytes_of_all ts)) rest
  terms_stand left wanted met at no_trees rest valid order = rw (zero-add left, zero-add wanted, add-zero at) refl
  terms_stand left wanted met at (tree t ts) rest valid order =
      let parts = and_parts _ _ valid in
      let orders = and_parts _ _ (sym (in_order-append met (variables t) (variables_of ts)) ∙ order) in
      let more = bytes_of_all ts ++ rest in
      let met' = met_after_variables met (variables t) in
      let many : nodes t + nodes_of ts + left ≡ nodes t + (nodes_of ts + left) = omega arith in
      let wants : 1 + arity ts + wanted ≡ suc (arity ts + wanted) = omega arith in
      let first = term_stands (nodes_of ts + left) (arity ts + wanted) met at t more parts.0 orders.0 in
      let others = terms_stand left wanted met' (at + length (bytes_of t)) ts rest parts.1 orders.1 in
      let last : at + length (bytes_of t) + length (bytes_of_all ts) ≡ at + length (bytes_of t ++ bytes_of_all ts) =
      omega (arith, length-append (bytes_of t) (bytes_of_all ts)) in
      ap (λ n. defect_from n (1 + arity ts + wanted) met at ((bytes_of t ++ bytes_of_all ts) ++ rest)) many
      ∙ ap (λ n. defect_from (nodes t + (nodes_of ts + left)) n met at ((bytes_of t ++ bytes_of_all ts) ++ rest)) wants
      ∙ ap (defect_from (nodes t + (nodes_of ts + left)) (suc (arity ts + wanted)) met at) (append_assoc (bytes_of t) (bytes_of_all ts) rest)
      ∙ first
      ∙ others
      ∙ ap (λ n. defect_from left wanted (met_after_variables met' (variables_of ts)) n rest) last
      ∙ ap (λ n. defect_from left wanted n (at + length (bytes_of t ++ bytes_of_all ts)) rest) (sym (met_after-append met (variables t) (variables_of ts)))
