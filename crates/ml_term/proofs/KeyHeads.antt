-- Keyed arguments one after another: which of them decides the order of the heads.
use Rattle.std.specs.Prelude.{◌≡◌, ℕ, ◌^◌, ◌<◌, ◌≤◌, nat_lt, min, bit_xor, List, [], ◌∷◌, ◌++◌, map, length, cond}
use Rattle.std.specs.declared.cmp.Ordering.{Ordering}
use Rattle.std.specs.declared.cmp.Ordering.TheVariants.{Equal}
use Rattle.std.specs.Ordering.{bool_cmp, nat_cmp}
use Rattle.std.specs.Cmp.Lexicographic.{slice_cmp}
use Rattle.std.specs.Int.Count.{count_leading_zeros}
use Rattle.std.proofs.Common.{sym, ap, ◌∙◌, arith}
use Rattle.std.proofs.lemmas.Bool.{lt-ltb, le-ltb}
use Rattle.std.proofs.lemmas.List.{map-append, length-map}
use Rattle.ml_term.specs.Tree.{Trees}
use Rattle.ml_term.specs.Codes.{bits, code}
use Rattle.ml_term.specs.Keys.{argument, interleave}
use Rattle.ml_term.specs.inside.KeyHeads.{keyed_codes}
use Rattle.ml_term.proofs.Bits.{bits_compare, length-bits}
use Rattle.ml_term.proofs.Interleaving.{raced, lead, HasColumn, one_column_more, interleaved_one, no_column, lead_of_none}
use Rattle.ml_term.proofs.LeadingZeros.{lead_is_zeros}

keyed_codes-append : (keys : List ℕ) (k : ℕ) (ts : Trees) → keyed_codes (keys ++ k ∷ []) ts ≡ keyed_codes keys ts ++ code (argument k ts) ∷ []
keyed_codes-append keys k ts =
    ap (map code) (map-append (λ k. argument k ts) keys (k ∷ [])) ∙ map-append code (map (λ k. argument k ts) keys) (argument k ts ∷ [])

pub length-keyed_codes : (keys : List ℕ) (ts : Trees) → length (keyed_codes keys ts) ≡ length keys
length-keyed_codes keys ts = length-map (map (λ k. argument k ts) keys) code ∙ length-map keys (λ k. argument k ts)

-- of n rows of these keys' codes, how many are the same before the first that isn't, and which order that one gives
pub record IsAhead (n : ℕ) (keys : List ℕ) (ts us : Trees) (rows : ℕ) (order : Ordering) : Type 0 where
  pub same : rows ≡ lead n (keyed_codes keys ts) (keyed_codes keys us)
  pub decided : order ≡ raced n (keyed_codes keys ts) (keyed_codes keys us)

pub begun : (n : ℕ) (ts us : Trees) → IsAhead n [] ts us n Equal
begun n ts us = record { same = sym (lead_of_none n); decided = sym (no_column n) }

-- one key more, and the words of its arguments' codes
pub record IsCoded (n k : ℕ) (ts us : Trees) (x y : ℕ) : Type 0 where
  pub first : bits n x ≡ code (argument k ts)
  pub second : bits n y ≡ code (argument k us)
  pub first_fits : x < 2 ^ n
  pub second_fits : y < 2 ^ n

one_alone : (n k : ℕ) (ts us : Trees) (x y : ℕ) → IsCoded n k ts us x y → raced n (code (argument k ts) ∷ []) (code (argument k us) ∷ []) ≡ nat_cmp x y
one_alone n k ts us x y h =
    ap (λ c. raced n (c ∷ []) (code (argument k us) ∷ [])) (sym h.first)
    ∙ ap (λ d. raced n (bits n x ∷ []) (d ∷ [])) (sym h.second)
    ∙ ap (λ c. slice_cmp bool_cmp c (interleave n (bits n y ∷ []))) (interleaved_one n (bits n x) (length-bits n x))
    ∙ ap (slice_cmp bool_cmp (bits n x)) (interleaved_one n (bits n y) (length-bits n y))
    ∙ bits_compare n x y h.first_fits h.second_fits

lead_alone : (n k : ℕ) (ts us : Trees) (x y : ℕ) → IsCoded n k ts us x y
    → lead n (code (argument k ts) ∷ []) (code (argument k us) ∷ []) ≡ count_leading_zeros n (bit_xor x y)
lead_alone n k ts us x y h =
    ap (λ c. lead n (c ∷ []) (code (argument k us) ∷ [])) (sym h.first)
    ∙ ap (λ d. lead n (bits n x ∷ []) (d ∷ [])) (sym h.second)
    ∙ lead_is_zeros n x y h.first_fits h.second_fits

pub one_key_more : (n k : ℕ) (keys : List ℕ) (ts us : Trees) (x y rows zeros : ℕ) (order : Ordering) → IsCoded n k ts us x y →
    zeros ≡ count_leading_zeros n (bit_xor x y)
    → IsAhead n keys ts us rows order → IsAhead n (keys ++ k ∷ []) ts us (min rows zeros) (cond (nat_lt zeros rows) (nat_cmp x y) order)
one_key_more n k keys ts us x y rows zeros order coded counted ahead =
    let cs = keyed_codes keys ts in
    let ds = keyed_codes keys us in
    let c = code (argument k ts) in
    let d = code (argument k us) in
    let column : HasColumn n cs ds c d = one_column_more n cs ds c d (length-keyed_codes keys ts ∙ sym (length-keyed_codes keys us)) in
    let zeros_are : lead n (c ∷ []) (d ∷ []) ≡ zeros = lead_alone n k ts us x y coded ∙ sym counted in
    let alone : raced n (c ∷ []) (d ∷ []) ≡ nat_cmp x y = one_alone n k ts us x y coded in
    let after_ts = keyed_codes-append keys k ts in
    let after_us = keyed_codes-append keys k us in
    record {
      same =
          ap (λ r. min r zeros) ahead.same
          ∙ ap (min (lead n cs ds)) (sym zeros_are)
          ∙ sym column.rows
          ∙ sym (ap (λ xs. lead n xs (keyed_codes (keys ++ k ∷ []) us)) after_ts ∙ ap (lead n (cs ++ c ∷ [])) after_us);
      decided =
          ap (λ r. cond (nat_lt zeros r) (nat_cmp x y) order) ahead.same
          ∙ ap (λ z. cond (nat_lt z (lead n cs ds)) (nat_cmp x y) order) (sym zeros_are)
          ∙ ap (λ p. cond (nat_lt (lead n (c ∷ []) (d ∷ [])) (lead n cs ds)) p order) (sym alone)
          ∙ ap (cond (nat_lt (lead n (c ∷ []) (d ∷ [])) (lead n cs ds)) (raced n (c ∷ []) (d ∷ []))) ahead.decided
          ∙ sym column.order
          ∙ sym (ap (λ xs. raced n xs (keyed_codes (keys ++ k ∷ []) us)) after_ts ∙ ap (raced n (cs ++ c ∷ [])) after_us);
    }

-- the key's word comes first
pub key_decides : (n k : ℕ) (keys : List ℕ) (ts us : Trees) (x y rows zeros : ℕ) (order : Ordering) → IsCoded n k ts us x y →
    zeros ≡ count_leading_zeros n (bit_xor x y)
    → zeros < rows → IsAhead n keys ts us rows order → IsAhead n (keys ++ k ∷ []) ts us zeros (nat_cmp x y)
key_decides n k keys ts us x y rows zeros order coded counted below ahead =
    let h : IsAhead n (keys ++ k ∷ []) ts us (min rows zeros) (cond (nat_lt zeros rows) (nat_cmp x y) order) =
    one_key_more n k keys ts us x y rows zeros order coded counted ahead in
    let e : min rows zeros ≡ zeros = omega arith in
    record { same = sym e ∙ h.same; decided = sym (ap (λ b. cond b (nat_cmp x y) order) (lt-ltb zeros rows below)) ∙ h.decided }

-- the keys before it come first
pub key_follows : (n k : ℕ) (keys : List ℕ) (ts us : Trees) (x y rows zeros : ℕ) (order : Ordering) → IsCoded n k ts us x y →
    zeros ≡ count_leading_zeros n (bit_xor x y)
    → rows ≤ zeros → IsAhead n keys ts us rows order → IsAhead n (keys ++ k ∷ []) ts us rows order
key_follows n k keys ts us x y rows zeros order coded counted above ahead =
    let h : IsAhead n (keys ++ k ∷ []) ts us (min rows zeros) (cond (nat_lt zeros rows) (nat_cmp x y) order) =
    one_key_more n k keys ts us x y rows zeros order coded counted ahead in
    let e : min rows zeros ≡ rows = omega arith in
    record { same = sym e ∙ h.same; decided = sym (ap (λ b. cond b (nat_cmp x y) order) (le-ltb zeros rows above)) ∙ h.decided }

pub along : (n : ℕ) (keys keys' : List ℕ) (ts us : Trees) (rows rows' : ℕ) (order order' : Ordering) → keys ≡ keys' → rows ≡ rows' → order ≡ order'
    → IsAhead n keys' ts us rows' order' → IsAhead n keys ts us rows order
along n keys keys' ts us rows rows' order order' e f g h = record {
  same = f ∙ h.same ∙ sym (ap (λ ks. lead n (keyed_codes ks ts) (keyed_codes ks us)) e);
  decided = g ∙ h.decided ∙ sym (ap (λ ks. raced n (keyed_codes ks ts) (keyed_codes ks us)) e);
}
