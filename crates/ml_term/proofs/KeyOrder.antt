-- The order of two tuples' keys: their heads first, and then their canonical bytes.
use Rattle.std.specs.Prelude.{◌≡◌, ℕ, true, List, length}
use Rattle.std.specs.Ordering.{bool_cmp, nat_cmp, ordering_then}
use Rattle.std.specs.Cmp.Lexicographic.{slice_cmp}
use Rattle.std.proofs.Common.{sym, ap, ◌∙◌}
use Rattle.std.specs.declared.cmp.Ordering.{Ordering}
use Rattle.ml_term.specs.Tree.{Tree, Trees}
use Rattle.ml_term.specs.CanonicalBytes.{bytes_of}
use Rattle.ml_term.specs.Codes.{byte_bits}
use Rattle.ml_term.specs.Keys.{arguments, tuple_cmp}
use Rattle.ml_term.specs.inside.KeyHeads.{key_head_of, keyed_codes}
use Rattle.ml_term.specs.Valid.{is_valid}
use Rattle.ml_term.proofs.Bits.{byte_bits_compare}
use Rattle.ml_term.proofs.Interleaving.{length-interleaved}
use Rattle.ml_term.proofs.KeyHeads.{length-keyed_codes}
use Rattle.ml_term.proofs.Orderings.{slice_cmp-append}
use Rattle.ml_term.proofs.ValidBytes.{valid_bytes}

pub length-head_of : (keys : List ℕ) (t u : Tree) → length (key_head_of keys (arguments t)) ≡ length (key_head_of keys (arguments u))
length-head_of keys t u =
    length-interleaved 64 (keyed_codes keys (arguments t)) (keyed_codes keys (arguments u))
    (length-keyed_codes keys (arguments t) ∙ sym (length-keyed_codes keys (arguments u)))

pub tuples_compare : (keys : List ℕ) (t u : Tree) → is_valid t ≡ true → is_valid u ≡ true
    → tuple_cmp keys t u ≡ ordering_then (slice_cmp bool_cmp (key_head_of keys (arguments t)) (key_head_of keys (arguments u)))
    (slice_cmp nat_cmp (bytes_of t) (bytes_of u))
tuples_compare keys t u p q =
    slice_cmp-append bool_cmp (key_head_of keys (arguments t)) (key_head_of keys (arguments u)) (byte_bits (bytes_of t)) (byte_bits (bytes_of u))
    (length-head_of keys t u)
    ∙ ap (ordering_then (slice_cmp bool_cmp (key_head_of keys (arguments t)) (key_head_of keys (arguments u))))
    (byte_bits_compare (bytes_of t) (bytes_of u) (valid_bytes t p) (valid_bytes u q))

pub order_of_tuples : (ks keys : List ℕ) (ts us : Trees) (t u : Tree) (o p : Ordering) → ks ≡ keys → ts ≡ arguments t → us ≡ arguments u → is_valid t ≡ true →
    is_valid u ≡ true
    → o ≡ slice_cmp bool_cmp (key_head_of ks ts) (key_head_of ks us) → p ≡ slice_cmp nat_cmp (bytes_of t) (bytes_of u) → ordering_then o p ≡ tuple_cmp keys t u
order_of_tuples ks keys ts us t u o p same_keys same_ts same_us valid_t valid_u heads tails =
    let all_heads : o ≡ slice_cmp bool_cmp (key_head_of keys (arguments t)) (key_head_of keys (arguments u)) =
    heads
    ∙ ap (λ k. slice_cmp bool_cmp (key_head_of k ts) (key_head_of k us)) same_keys
    ∙ ap (λ x. slice_cmp bool_cmp (key_head_of keys x) (key_head_of keys us)) same_ts
    ∙ ap (λ x. slice_cmp bool_cmp (key_head_of keys (arguments t)) (key_head_of keys x)) same_us in
    ap (λ x. ordering_then x p) all_heads
    ∙ ap (ordering_then (slice_cmp bool_cmp (key_head_of keys (arguments t)) (key_head_of keys (arguments u)))) tails
    ∙ sym (tuples_compare keys t u valid_t valid_u)
