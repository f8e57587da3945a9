-- An item's key in its two parts and its length, and what a declaration's keys say of the arity and of their number.
use Rattle.std.specs.Prelude.{◌≡◌, ℕ, ◌*◌, ◌≤◌, nat_le, true, ◌&&◌, List, [], ◌∷◌, ◌++◌, length}
use Rattle.std.specs.List.{list_all}
use Rattle.std.proofs.Common.{refl, sym, ap, ◌∙◌, arith, length-append}
use Rattle.std.proofs.lemmas.Bool.{and_parts, leb-true}
use Rattle.ml_term.specs.declared.declaration.Kind.{Kind}
use Rattle.ml_term.specs.declared.declaration.Kind.TheVariants.{Relation, Clauses}
use Rattle.ml_term.specs.declared.declaration.Decl.{Decl}
use Rattle.ml_term.specs.Tree.{Tree, variable}
use Rattle.ml_term.specs.CanonicalBytes.{bytes_of}
use Rattle.ml_term.specs.Codes.{bits, byte_bits}
use Rattle.ml_term.specs.Keys.{argument, arguments, are_different, are_keys, key_head}
use Rattle.ml_term.specs.Seen.{seen, seen_step}
use Rattle.ml_term.specs.declared.term.Term.{Term-F, fold-roll-Term}
use Rattle.ml_term.specs.declared.term.Term.TheVariants.{Var, rolls-Var}
use Rattle.ml_term.proofs.Bits.{length-bits}
use Rattle.ml_term.proofs.FittingKeys.{length_of_key_head}
use Rattle.ml_key.specs.ItemKeys.{head_bits, item_head, item_key, item_tail}
use Rattle.ml_key.proofs.GrowingLists.{length-byte_bits}

pub whole_key : (kind : Kind) (keys : List ℕ) (t : Tree) (number : ℕ) →
    head_bits keys (item_head kind t) ++ item_tail kind t number ≡ item_key kind keys t number
unfolding head_bits
whole_key Relation keys t number = refl
whole_key Clauses keys t number = refl

pub length-head_bits : (keys : List ℕ) (t : Tree) → length (head_bits keys t) ≡ 64 * length keys
unfolding head_bits
length-head_bits keys t = length_of_key_head keys t

-- a declaration's predicate has an argument
pub has_arguments : (n : ℕ) (keys : List ℕ) → are_keys n keys ≡ true → 1 ≤ n
has_arguments n [] h = absurd (cc h)
has_arguments n (k ∷ keys) h =
    let all : list_all (λ j. nat_le 1 j && nat_le j n) (k ∷ keys) ≡ true =
    (and_parts (nat_le 1 (length (k ∷ keys)) && nat_le (length (k ∷ keys)) 8) _ (and_parts _ (are_different (k ∷ keys)) h).0).1 in
    let first : (nat_le 1 k ≡ true) × (nat_le k n ≡ true) =
    and_parts (nat_le 1 k) (nat_le k n) (and_parts (nat_le 1 k && nat_le k n) (list_all (λ j. nat_le 1 j && nat_le j n) keys) all).0 in
    let low : 1 ≤ k = leb-true 1 k first.0 in
    let high : k ≤ n = leb-true k n first.1 in
    omega (arith, low, high)

pub seen_variable : (n : ℕ) → seen (Var n) ≡ variable n
seen_variable n = ap seen (sym (rolls-Var n)) ∙ fold-roll-Term Tree seen_step (Term-F.Var n)

-- a declaration has 8 keys at most
few_keys : (n : ℕ) (keys : List ℕ) → are_keys n keys ≡ true → length keys ≤ 8
few_keys n keys h =
    let low = nat_le 1 (length keys) in
    let high = nat_le (length keys) 8 in
    let range = list_all (λ k. nat_le 1 k && nat_le k n) keys in
    leb-true (length keys) 8 (and_parts low high (and_parts (low && high) range (and_parts (low && high && range) (are_different keys) h).0).0).1

key_within : (kind : Kind) (keys : List ℕ) (t : Tree) (number : ℕ) → length keys ≤ 8 → length (bytes_of t) ≤ 4096 → length (item_key kind keys t number) ≤ 33280
key_within Relation keys t number few short =
    omega (arith, length-append (key_head keys t) (byte_bits (bytes_of t)), length_of_key_head keys t, length-byte_bits (bytes_of t))
key_within Clauses keys t number few short =
    let head : Tree = argument 1 (arguments t) in
    omega (arith, length-append (key_head keys head) (bits 64 number), length_of_key_head keys head, length-bits 64 number)

-- how long the key of an item is at most
pub most_key_bits : (decl : Decl) (t : Tree) (number : ℕ) → length (bytes_of t) ≤ 4096 → length (item_key decl.kind decl.keys t number) ≤ 33280
most_key_bits decl t number short = key_within decl.kind decl.keys t number (few_keys decl.pred.arity decl.keys decl.keyed) short
