-- Where the rule of a split leads, and what it leaves.
use Rattle.std.proofs.Common.{◌≡◌, ℕ, zero, suc, ◌+◌, ◌*◌, ◌<◌, ◌≤◌, Bool, true, false, not, ◌&&◌, List, [], ◌∷◌, ◌++◌, length, get_or, refl, sym, ap, ◌∙◌}
use Rattle.std.proofs.Common.{subst, inl, inr, arith, length-append, append_assoc}
use Rattle.std.specs.List.{All}
use Rattle.std.proofs.lemmas.Bool.{and_parts, and_from, cases_Bool, leb-true, leb-false, le-leb, lt-leb, not-true, not_from_false}
use Rattle.std.proofs.lemmas.List.{append-nil}
use Rattle.std.proofs.lemmas.List.Sums.{count_by-le-length, length-filter}
use Rattle.ml_bits.specs.BitList.{Begins}
use Rattle.ml_bits.proofs.OrderLaws.{begins_append}
use Rattle.ml_term.specs.Patterns.{begins, same_bit}
use Rattle.ml_term.proofs.KeyColumns.{same_bit_itself, same_bit_equal}
use Rattle.ml_key.proofs.BitBeginnings.{begun}
use Rattle.ml_split.specs.Splitting.{count_under, half, fuller_half, is_light, goes_on_by, IsSplit, AreApart, IsFair}
use Rattle.ml_split.proofs.KeyCounts.{Passes, some_pass, count_longer, halves_whole, halves_of, fuller_half_most, fuller_half_is, none_under, total_bits}
use Rattle.ml_split.proofs.KeyCounts.{all_under}

pub count_within : (a : List Bool) (keys : List (List Bool)) → count_under a keys ≤ length keys
count_within a keys = omega (arith, length-filter (begins a) keys, count_by-le-length (begins a) keys)

-- the last step of the rule
goes_one : (keys : List (List Bool)) (a : List Bool) (bit : Bool) → 2 * length keys < 3 * count_under a keys → bit ≡ fuller_half a keys →
    is_light (half a bit) keys ≡ true
    → goes_on_by keys a (bit ∷ []) ≡ true
goes_one keys a bit heavy chosen light =
    let not_yet : is_light a keys ≡ false = lt-leb (3 * count_under a keys) (2 * length keys) heavy in
    and_from (not (is_light a keys)) (same_bit bit (fuller_half a keys) && is_light (half a bit) keys) (not_from_false (is_light a keys) not_yet)
    (and_from (same_bit bit (fuller_half a keys)) (is_light (half a bit) keys) (ap (same_bit bit) (sym chosen) ∙ same_bit_itself bit) light)

-- a prefix that begins more than two thirds of the keys lies on the rule's way from what begins it
pub goes_there : (keys : List (List Bool)) (a rest : List Bool) (bit : Bool) (front : List Bool) → front ≡ a ++ rest →
    2 * length keys < 3 * count_under front keys
    → bit ≡ fuller_half front keys → is_light (half front bit) keys ≡ true → goes_on_by keys a (rest ++ bit ∷ []) ≡ true
goes_there keys a [] bit front e heavy chosen light =
    subst (λ p. goes_on_by keys p (bit ∷ []) ≡ true) (e ∙ append-nil a) (goes_one keys front bit heavy chosen light)
goes_there keys a (c ∷ rest) bit front e heavy chosen light =
    let e' : front ≡ half a c ++ rest = e ∙ sym (append_assoc a (c ∷ []) rest) in
    let more : count_under front keys ≤ count_under (half a c) keys =
    subst (λ p. count_under p keys ≤ count_under (half a c) keys) (sym e') (count_longer (half a c) rest keys) in
    let both : count_under (half a (not c)) keys + count_under (half a c) keys ≤ count_under a keys = halves_of a keys c in
    let all : count_under a keys ≤ length keys = count_within a keys in
    let is : fuller_half a keys ≡ c = fuller_half_is a keys c (omega arith) in
    let not_yet : is_light a keys ≡ false = lt-leb (3 * count_under a keys) (2 * length keys) (omega arith) in
    let later : goes_on_by keys (half a c) (rest ++ bit ∷ []) ≡ true = goes_there keys (half a c) rest bit front e' heavy chosen light in
    and_from (not (is_light a keys)) (same_bit c (fuller_half a keys) && goes_on_by keys (half a c) (rest ++ bit ∷ []))
    (not_from_false (is_light a keys) not_yet)
    (and_from (same_bit c (fuller_half a keys)) (goes_on_by keys (half a c) (rest ++ bit ∷ [])) (ap (same_bit c) is ∙ same_bit_itself c) later)

-- ---- the rule ends

-- the bits by which the rule goes on
pub record Goes (keys : List (List Bool)) (old : List Bool) : Type 0 where
  pub bits : List Bool
  pub goes : goes_on_by keys old bits ≡ true

-- it has at most as many steps as all keys have bits
ends_within : (steps : ℕ) (keys : List (List Bool)) (old : List Bool) → total_bits keys < length old + steps → Goes keys old
ends_within zero keys old h =
    let none : count_under old keys ≡ 0 = none_under keys old (omega arith) in
    record { bits = []; goes = le-leb (3 * count_under old keys) (2 * length keys) (omega arith) }
ends_within (suc steps) keys old h =
    elim (cases_Bool (is_light old keys)) [
      | inl light ↦ record { bits = []; goes = light }
      | inr heavy ↦
          let bit : Bool = fuller_half old keys in
          let later : Goes keys (half old bit) = ends_within steps keys (half old bit) (omega (arith, length-append old (bit ∷ []))) in
          record {
            bits = bit ∷ later.bits;
            goes = and_from (not (is_light old keys)) (same_bit bit (fuller_half old keys) && goes_on_by keys (half old bit) later.bits)
                (not_from_false (is_light old keys) heavy)
                (and_from (same_bit bit (fuller_half old keys)) (goes_on_by keys (half old bit) later.bits) (same_bit_itself bit) later.goes);
          }
    ]

pub rule_ends : (keys : List (List Bool)) (old : List Bool) → Goes keys old
rule_ends keys old = ends_within (total_bits keys + 1) keys old (omega arith)

-- at one place
one_way : (keys : List (List Bool)) (old xs ys : List Bool) → goes_on_by keys old xs ≡ true → goes_on_by keys old ys ≡ true → xs ≡ ys
one_way keys old [] [] h k = refl
one_way keys old [] (y ∷ ys) h k =
    let parts = and_parts (not (is_light old keys)) (same_bit y (fuller_half old keys) && goes_on_by keys (half old y) ys) k in
    absurd (cc (h, not-true (is_light old keys) parts.0))
one_way keys old (x ∷ xs) [] h k =
    let parts = and_parts (not (is_light old keys)) (same_bit x (fuller_half old keys) && goes_on_by keys (half old x) xs) h in
    absurd (cc (k, not-true (is_light old keys) parts.0))
one_way keys old (x ∷ xs) (y ∷ ys) h k =
    let p = and_parts (not (is_light old keys)) (same_bit x (fuller_half old keys) && goes_on_by keys (half old x) xs) h in
    let q = and_parts (not (is_light old keys)) (same_bit y (fuller_half old keys) && goes_on_by keys (half old y) ys) k in
    let p' = and_parts (same_bit x (fuller_half old keys)) (goes_on_by keys (half old x) xs) p.1 in
    let q' = and_parts (same_bit y (fuller_half old keys)) (goes_on_by keys (half old y) ys) q.1 in
    let same : y ≡ x = same_bit_equal y (fuller_half old keys) q'.0 ∙ sym (same_bit_equal x (fuller_half old keys) p'.0) in
    let later : goes_on_by keys (half old x) ys ≡ true = subst (λ b. goes_on_by keys (half old b) ys ≡ true) same q'.1 in
    let rest : xs ≡ ys = one_way keys (half old x) xs ys p'.1 later in
    cc (same, rest)

pub one_split : (keys : List (List Bool)) (old first second : List Bool) → IsSplit keys old first → IsSplit keys old second → first ≡ second
one_split keys old first second a b =
    let same : a.bits ≡ b.bits = one_way keys old a.bits b.bits a.goes b.goes in
    a.new_is ∙ ap (λ x. old ++ x) same ∙ sym b.new_is

-- ---- what it leaves

-- the new prefix is the fuller half of one that begins more than two thirds of the keys, and begins no more itself
record EndsAt (keys : List (List Bool)) (new : List Bool) : Type 0 where
  front : List Bool
  heavy : 2 * length keys < 3 * count_under front keys
  new_is : new ≡ half front (fuller_half front keys)
  light : 3 * count_under new keys ≤ 2 * length keys

ends_at : (keys : List (List Bool)) (old : List Bool) (bit : Bool) (bits : List Bool) → goes_on_by keys old (bit ∷ bits) ≡ true →
    EndsAt keys (old ++ bit ∷ bits)
ends_at keys old bit [] h =
    let p = and_parts (not (is_light old keys)) (same_bit bit (fuller_half old keys) && is_light (half old bit) keys) h in
    let q = and_parts (same_bit bit (fuller_half old keys)) (is_light (half old bit) keys) p.1 in
    record {
      front = old;
      heavy = leb-false (3 * count_under old keys) (2 * length keys) (not-true (is_light old keys) p.0);
      new_is = ap (half old) (same_bit_equal bit (fuller_half old keys) q.0);
      light = leb-true (3 * count_under (half old bit) keys) (2 * length keys) q.1;
    }
ends_at keys old bit (c ∷ bits) h =
    let p = and_parts (not (is_light old keys)) (same_bit bit (fuller_half old keys) && goes_on_by keys (half old bit) (c ∷ bits)) h in
    let q = and_parts (same_bit bit (fuller_half old keys)) (goes_on_by keys (half old bit) (c ∷ bits)) p.1 in
    subst (EndsAt keys) (append_assoc old (bit ∷ []) (c ∷ bits)) (ends_at keys (half old bit) c bits q.1)

fair_from : (keys : List (List Bool)) (old new : List Bool) (bits : List Bool) → 1 < length keys → AreApart keys → All (Begins old) keys
    → new ≡ old ++ bits → goes_on_by keys old bits ≡ true → IsFair keys old new
fair_from keys old new [] more apart all e h =
    absurd (omega (arith, all_under keys old all, leb-true (3 * count_under old keys) (2 * length keys) h))
fair_from keys old new (bit ∷ bits) more apart all e h =
    let end : EndsAt keys new = subst (EndsAt keys) (sym e) (ends_at keys old bit bits h) in
    let heavy : 2 * length keys < 3 * count_under end.front keys = end.heavy in
    let whole : count_under end.front keys ≤ count_under (half end.front false) keys + count_under (half end.front true) keys =
    halves_whole keys apart end.front (omega arith) in
    let zeros = fuller_half_most end.front keys false in
    let ones = fuller_half_most end.front keys true in
    let chosen : count_under new keys ≡ count_under (half end.front (fuller_half end.front keys)) keys = ap (λ x. count_under x keys) end.new_is in
    let third : length keys ≤ 3 * count_under new keys = omega arith in
    let found : Passes (begins new) [] keys = some_pass (begins new) [] keys (omega arith) in
    record {
      longer = omega (arith, ap length e, length-append old (bit ∷ bits));
      extends = subst (Begins old) (sym e) (begins_append old (bit ∷ bits));
      place = found.place;
      place_within = found.within;
      begins_key = begun new (get_or keys found.place []) found.passes;
      at_least = third;
      at_most = end.light;
    }

pub is_fair : (keys : List (List Bool)) (old new : List Bool) → 1 < length keys → AreApart keys → All (Begins old) keys → IsSplit keys old new →
    IsFair keys old new
is_fair keys old new more apart all split = fair_from keys old new split.bits more apart all split.new_is split.goes
