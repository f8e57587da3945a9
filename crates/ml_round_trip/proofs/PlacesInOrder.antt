-- Variables that are numbered by first place: each has a number that stood before, or the next one.
use Rattle.std.specs.Prelude.{◌≡◌, ℕ, suc, ◌+◌, ◌^◌, ◌<◌, ◌≤◌, nat_lt, cond, List, [], ◌∷◌, ◌++◌, length}
use Rattle.std.proofs.Common.{refl, arith}
use Rattle.ml_round_trip.proofs.BooleanTests.{cond_cases}

-- how many variables stand before, behind one more
abbrev pub grown : ℕ → ℕ → ℕ
grown v p = cond (nat_lt p v) v (suc v)

grown_above : (v p : ℕ) → v ≤ grown v p
grown_above v p = cond_cases (λ n. v ≤ n) (nat_lt p v) v (suc v) (λ e. omega arith) (λ e. omega arith)

grown_few : (v p : ℕ) → grown v p ≤ suc v
grown_few v p = cond_cases (λ n. n ≤ suc v) (nat_lt p v) v (suc v) (λ e. omega arith) (λ e. omega arith)

module _ (place : ℕ → ℕ) where
  -- how many stand before, behind these
  abbrev pub counted : ℕ → List ℕ → ℕ
  counted v [] = v
  counted v (n ∷ ns) = counted (grown v (place n)) ns

  abbrev pub InOrder : ℕ → List ℕ → Type 0
  InOrder v [] = Unit {0}
  InOrder v (n ∷ ns) = (place n ≤ v) × InOrder (grown v (place n)) ns

  -- they are in order, and their numbers have at most 20 digits
  pub record AreFit (v : ℕ) (ns : List ℕ) : Type 0 where
    pub order : InOrder v ns
    pub few : 1 + counted v ns < 10 ^ 20

  pub counted_append : (v : ℕ) (ms ns : List ℕ) → counted v (ms ++ ns) ≡ counted (counted v ms) ns
  counted_append v [] ns = refl
  counted_append v (m ∷ ms) ns = counted_append (grown v (place m)) ms ns

  pub counted_above : (v : ℕ) (ns : List ℕ) → v ≤ counted v ns
  counted_above v [] = omega arith
  counted_above v (n ∷ ns) = omega (arith, grown_above v (place n), counted_above (grown v (place n)) ns)

  pub counted_few : (v : ℕ) (ns : List ℕ) → counted v ns ≤ v + length ns
  counted_few v [] = omega arith
  counted_few v (n ∷ ns) = omega (arith, grown_few v (place n), counted_few (grown v (place n)) ns)

  order_first : (v : ℕ) (ms ns : List ℕ) → InOrder v (ms ++ ns) → InOrder v ms
  order_first v [] ns h = tt
  order_first v (m ∷ ms) ns h = (h.0, order_first (grown v (place m)) ms ns h.1)

  order_second : (v : ℕ) (ms ns : List ℕ) → InOrder v (ms ++ ns) → InOrder (counted v ms) ns
  order_second v [] ns h = h
  order_second v (m ∷ ms) ns h = order_second (grown v (place m)) ms ns h.1

  pub fit_first : (v : ℕ) (ms ns : List ℕ) → AreFit v (ms ++ ns) → AreFit v ms
  fit_first v ms ns h = record { order = order_first v ms ns h.order; few = omega (arith, h.few, counted_append v ms ns, counted_above (counted v ms) ns) }

  pub fit_second : (v : ℕ) (ms ns : List ℕ) → AreFit v (ms ++ ns) → AreFit (counted v ms) ns
  fit_second v ms ns h = record { order = order_second v ms ns h.order; few = omega (arith, h.few, counted_append v ms ns) }
