-- The prefixes that begin with one stand together behind it.
use Rattle.std.proofs.Common.{◌≡◌, inl, inr, ℕ, zero, suc, ◌+◌, ◌-◌, ◌<◌, ◌≤◌, Bool, true, false, cond, List, [], ◌∷◌, ◌++◌, length, take, Option, refl, sym}
use Rattle.std.proofs.Common.{ap, subst, ◌∙◌, arith}
use Rattle.std.specs.List.{filter}
use Rattle.std.specs.declared.cmp.Ordering.TheVariants.{Less, Greater}
use Rattle.std.proofs.lemmas.Bool.{cases_lt, false_from_ne_true}
use Rattle.std.proofs.lemmas.List.Elements.{filter_more}
use Rattle.std.proofs.lemmas.List.{append-nil}
use Rattle.ml_bits.specs.BitList.{Begins}
use Rattle.ml_bits.proofs.OrderLaws.{begins_itself}
use Rattle.ml_key.proofs.BitBeginnings.{shorter_holds}
use Rattle.ml_term.specs.Keys.{key_cmp}
use Rattle.ml_term.specs.Patterns.{may_hold}
use Rattle.ml_region.specs.Prefixes.{bits_at, IsRising}
use Rattle.ml_region.specs.Below.{IsEndOfBelow}

-- what comes between a list and one that it begins, it begins too
pub between : (x y z : List Bool) → key_cmp x y ≡ Less → key_cmp y z ≡ Less → Begins x z → Begins x y
between [] y z e f b = refl
between (a ∷ x) [] z e f b = let g : Greater ≡ Less = e in cc
between (a ∷ x) (c ∷ y) [] e f b = let g : Greater ≡ Less = f in cc
between (true ∷ x) (true ∷ y) (true ∷ z) e f b = ap (λ k. true ∷ k) (between x y z e f (rest x z true b))
  where
    rest : (x z : List Bool) (a : Bool) → Begins (a ∷ x) (a ∷ z) → Begins x z
    rest x z a b = cc
between (false ∷ x) (false ∷ y) (false ∷ z) e f b = ap (λ k. false ∷ k) (between x y z e f (rest x z false b))
  where
    rest : (x z : List Bool) (a : Bool) → Begins (a ∷ x) (a ∷ z) → Begins x z
    rest x z a b = cc
between (true ∷ x) (true ∷ y) (false ∷ z) e f b = let g : Greater ≡ Less = f in cc
between (true ∷ x) (false ∷ y) z e f b = let g : Greater ≡ Less = e in cc
between (false ∷ x) (true ∷ y) (true ∷ z) e f b = let g : true ∷ take (length x) z ≡ false ∷ x = b in cc
between (false ∷ x) (true ∷ y) (false ∷ z) e f b = let g : Greater ≡ Less = f in cc
between (false ∷ x) (false ∷ y) (true ∷ z) e f b = let g : true ∷ take (length x) z ≡ false ∷ x = b in cc

-- what a search by halves knows of the end of the prefixes below one: it lies behind one place and not behind another
pub record Spanning (prefixes : List (List Bool)) (i low high : ℕ) : Type 0 where
  pub from : i ≤ low
  pub some : low < high
  pub within : high ≤ length prefixes
  pub at_low : Begins (bits_at prefixes i) (bits_at prefixes low)

pub spanning_begins : (prefixes : List (List Bool)) (i n : ℕ) → i < n → n ≡ length prefixes → Spanning prefixes i i n
spanning_begins prefixes i n h e = record { from = omega arith; some = h; within = omega arith; at_low = begins_itself (bits_at prefixes i) }

pub spanned : (prefixes : List (List Bool)) (i low high : ℕ) → IsRising prefixes → high ≤ low + 1 → Spanning prefixes i low high → IsEndOfBelow prefixes i high
spanned prefixes i low high up h s = record {
  behind = omega (arith, s.from, s.some);
  within = s.within;
  below = λ k g l. elim (cases_lt i k) [
    | inl m ↦ elim (cases_lt k low) [
      | inl n ↦
          between (bits_at prefixes i) (bits_at prefixes k) (bits_at prefixes low) (up.rises i k m (omega (arith, s.within)))
          (up.rises k low n (omega (arith, s.some, s.within))) s.at_low
      | inr n ↦ let e : k ≡ low = omega arith in subst (λ j. Begins (bits_at prefixes i) (bits_at prefixes j)) (sym e) s.at_low
    ]
    | inr m ↦ let e : k ≡ i = omega arith in subst (λ j. Begins (bits_at prefixes i) (bits_at prefixes j)) (sym e) (begins_itself (bits_at prefixes i))
  ];
}

-- ---- what a walk over the prefixes has found

none_so_far : (pattern : List (Option (List Bool))) (prefixes : List (List Bool)) (i end d : ℕ) → IsEndOfBelow prefixes i end →
    may_hold pattern (bits_at prefixes i) ≡ false → i + d ≤ end
    → filter (may_hold pattern) (take (i + d) prefixes) ≡ filter (may_hold pattern) (take i prefixes)
none_so_far pattern prefixes i end zero e h l = let same : i + 0 ≡ i = omega arith in ap (λ n. filter (may_hold pattern) (take n prefixes)) same
none_so_far pattern prefixes i end (suc d) e h l =
    let k : ℕ = i + d in
    let next : i + suc d ≡ k + 1 = omega arith in
    let inside : k < length prefixes = omega (arith, e.within) in
    let not_held : may_hold pattern (bits_at prefixes k) ≡ false =
    false_from_ne_true (may_hold pattern (bits_at prefixes k)) (λ t.
    let f : false ≡ true = sym h ∙ shorter_holds pattern (bits_at prefixes i) (bits_at prefixes k) (e.below k (omega arith) (omega arith)) t in cc) in
    ap (λ n. filter (may_hold pattern) (take n prefixes)) next
    ∙ filter_more (may_hold pattern) prefixes k [] inside
    ∙ ap (λ b. filter (may_hold pattern) (take k prefixes) ++ cond b (bits_at prefixes k ∷ []) []) not_held
    ∙ append-nil (filter (may_hold pattern) (take k prefixes))
    ∙ none_so_far pattern prefixes i end d e h (omega arith)

-- a prefix that may not hold a fitting key rules out all below it
pub none_below : (pattern : List (Option (List Bool))) (prefixes : List (List Bool)) (i end : ℕ) → IsEndOfBelow prefixes i end →
    may_hold pattern (bits_at prefixes i) ≡ false
    → filter (may_hold pattern) (take end prefixes) ≡ filter (may_hold pattern) (take i prefixes)
none_below pattern prefixes i end e h =
    let whole : end ≡ i + (end - i) = omega (arith, e.behind) in
    ap (λ n. filter (may_hold pattern) (take n prefixes)) whole ∙ none_so_far pattern prefixes i end (end - i) e h (omega (arith, e.behind))

-- one that may comes behind those found
pub one_more : (pattern : List (Option (List Bool))) (prefixes : List (List Bool)) (i : ℕ) → i < length prefixes → may_hold pattern (bits_at prefixes i) ≡ true
    → filter (may_hold pattern) (take (i + 1) prefixes) ≡ filter (may_hold pattern) (take i prefixes) ++ bits_at prefixes i ∷ []
one_more pattern prefixes i h t =
    filter_more (may_hold pattern) prefixes i [] h ∙ ap (λ b. filter (may_hold pattern) (take i prefixes) ++ cond b (bits_at prefixes i ∷ []) []) t
