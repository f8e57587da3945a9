-- How many keys begin with a prefix, and with its halves.
use Rattle.std.proofs.Common.{◌≡◌, ℕ, zero, suc, ◌+◌, ◌<◌, ◌≤◌, Bool, true, false, cond, not, ltb, ◌&&◌, List, [], ◌∷◌, ◌++◌, length, get_or, refl, sym, ap}
use Rattle.std.proofs.Common.{◌∙◌, subst, inl, inr, arith}
use Rattle.std.specs.List.{filter, All}
use Rattle.std.proofs.lemmas.Bool.{and_parts, and_from, cases_lt, cases_Bool, lt-ltb, le-ltb, false_from_ne_true}
use Rattle.std.proofs.lemmas.List.{take_all}
use Rattle.ml_bits.specs.BitList.{Begins}
use Rattle.ml_term.specs.Patterns.{begins, same_bit}
use Rattle.ml_key.proofs.BitBeginnings.{begun, begins_so}
use Rattle.ml_split.specs.Splitting.{count_under, half, fuller_half, AreApart}

-- ---- lists that are filtered

abbrev one : Bool → ℕ
one true = 1
one false = 0

counted : {X : Type 0} (b : Bool) (x : X) (ys : List X) → length (cond b (x ∷ ys) ys) ≡ one b + length ys
counted true x ys = omega arith
counted false x ys = omega arith

-- one element counts once if it passes
count_cons : {X : Type 0} (p : X → Bool) (x : X) (xs : List X) → length (filter p (x ∷ xs)) ≡ one (p x) + length (filter p xs)
count_cons p x xs = counted (p x) x (filter p xs)

one_le : (a b : Bool) → (a ≡ true → b ≡ true) → one a ≤ one b
one_le true true h = omega arith
one_le true false h = absurd (cc (h refl))
one_le false true h = omega arith
one_le false false h = omega arith

-- a test that passes less
pub fewer : {X : Type 0} (p q : X → Bool) → ((x : X) → p x ≡ true → q x ≡ true) → (xs : List X) → length (filter p xs) ≤ length (filter q xs)
fewer p q h [] = omega arith
fewer p q h (x ∷ xs) = omega (arith, count_cons p x xs, count_cons q x xs, one_le (p x) (q x) (h x), fewer p q h xs)

ones_within : (a b c : Bool) → (a ≡ true → c ≡ true) → (b ≡ true → c ≡ true) → (a ≡ true → b ≡ true → ⊥) → one a + one b ≤ one c
ones_within true true c h k d = absurd (d refl refl)
ones_within true false true h k d = omega arith
ones_within true false false h k d = absurd (cc (h refl))
ones_within false true true h k d = omega arith
ones_within false true false h k d = absurd (cc (k refl))
ones_within false false true h k d = omega arith
ones_within false false false h k d = omega arith

-- two tests that exclude each other pass no more than a weaker one
pub apart_within : {X : Type 0} (p q r : X → Bool) → ((x : X) → p x ≡ true → r x ≡ true) → ((x : X) → q x ≡ true → r x ≡ true)
    → ((x : X) → p x ≡ true → q x ≡ true → ⊥) → (xs : List X) → length (filter p xs) + length (filter q xs) ≤ length (filter r xs)
apart_within p q r h k d [] = omega arith
apart_within p q r h k d (x ∷ xs) =
    omega (arith, count_cons p x xs, count_cons q x xs, count_cons r x xs, ones_within (p x) (q x) (r x) (h x) (k x) (d x), apart_within p q r h k d xs)

ones_cover : (a b c : Bool) → (c ≡ true → a ≡ false → b ≡ true) → one c ≤ one a + one b
ones_cover a b false h = omega arith
ones_cover true b true h = omega arith
ones_cover false true true h = omega arith
ones_cover false false true h = absurd (cc (h refl refl))

-- two tests of which one passes wherever a third one does
pub covered : {X : Type 0} (p q r : X → Bool) (d : X) (xs : List X)
    → ((i : ℕ) → i < length xs → r (get_or xs i d) ≡ true → p (get_or xs i d) ≡ false → q (get_or xs i d) ≡ true)
    → length (filter r xs) ≤ length (filter p xs) + length (filter q xs)
covered p q r d [] h = omega arith
covered p q r d (x ∷ xs) h =
    let first : one (r x) ≤ one (p x) + one (q x) = ones_cover (p x) (q x) (r x) (h 0 (omega arith)) in
    let rest : length (filter r xs) ≤ length (filter p xs) + length (filter q xs) = covered p q r d xs (λ i l. h (suc i) (omega arith)) in
    omega (arith, count_cons p x xs, count_cons q x xs, count_cons r x xs)

-- a test that never passes
pub none_pass : {X : Type 0} (p : X → Bool) (d : X) (xs : List X) → ((i : ℕ) → i < length xs → p (get_or xs i d) ≡ true → ⊥) → length (filter p xs) ≡ 0
none_pass p d [] h = refl
none_pass p d (x ∷ xs) h =
    let first : p x ≡ false = false_from_ne_true (p x) (h 0 (omega arith)) in
    let rest : length (filter p xs) ≡ 0 = none_pass p d xs (λ i l. h (suc i) (omega arith)) in
    omega (arith, count_cons p x xs, ap one first)

-- a test that passes at one place at most
pub one_passes : {X : Type 0} (p : X → Bool) (d : X) (xs : List X)
    → ((i j : ℕ) → i < length xs → j < length xs → p (get_or xs i d) ≡ true → p (get_or xs j d) ≡ true → i ≡ j) → length (filter p xs) ≤ 1
one_passes p d [] h = omega arith
one_passes p d (x ∷ xs) h =
    elim (cases_Bool (p x)) [
      | inl pass ↦
          let rest : length (filter p xs) ≡ 0 = none_pass p d xs (λ i l t.
          let same : 0 ≡ suc i = h 0 (suc i) (omega arith) (omega arith) pass t in
          omega arith) in
          omega (arith, count_cons p x xs, ap one pass)
      | inr fails ↦
          let rest : length (filter p xs) ≤ 1 = one_passes p d xs (λ i j l m t u.
          let same : suc i ≡ suc j = h (suc i) (suc j) (omega arith) (omega arith) t u in
          omega arith) in
          omega (arith, count_cons p x xs, ap one fails)
    ]

-- where some pass there is one
pub record Passes {X : Type 0} (p : X → Bool) (d : X) (xs : List X) : Type 0 where
  pub place : ℕ
  pub within : place < length xs
  pub passes : p (get_or xs place d) ≡ true

pub some_pass : {X : Type 0} (p : X → Bool) (d : X) (xs : List X) → 0 < length (filter p xs) → Passes p d xs
some_pass p d [] h = absurd (omega arith)
some_pass p d (x ∷ xs) h =
    elim (cases_Bool (p x)) [
      | inl pass ↦ record { place = 0; within = omega arith; passes = pass }
      | inr fails ↦
          let later : Passes p d xs = some_pass p d xs (omega (arith, count_cons p x xs, ap one fails)) in
          record { place = suc later.place; within = omega (arith, later.within); passes = later.passes }
    ]

-- a test that always passes
pub all_pass : {X : Type 0} (p : X → Bool) (d : X) (xs : List X) → ((i : ℕ) → i < length xs → p (get_or xs i d) ≡ true) → length (filter p xs) ≡ length xs
all_pass p d [] h = refl
all_pass p d (x ∷ xs) h =
    let first : p x ≡ true = h 0 (omega arith) in
    let rest : length (filter p xs) ≡ length xs = all_pass p d xs (λ i l. h (suc i) (omega arith)) in
    omega (arith, count_cons p x xs, ap one first)

-- ---- lists that begin others

pub begins_front : (a b key : List Bool) → begins (a ++ b) key ≡ true → begins a key ≡ true
begins_front [] b key h = refl
begins_front (x ∷ a) b [] h = absurd (cc h)
begins_front (x ∷ a) b (c ∷ key) h =
    let parts = and_parts (same_bit x c) (begins (a ++ b) key) h in
    and_from (same_bit x c) (begins a key) parts.0 (begins_front a b key parts.1)

pub begins_one_half : (a key : List Bool) → begins (a ++ false ∷ []) key ≡ true → begins (a ++ true ∷ []) key ≡ true → ⊥
begins_one_half [] [] h k = absurd (cc h)
begins_one_half [] (true ∷ key) h k = absurd (cc h)
begins_one_half [] (false ∷ key) h k = absurd (cc k)
begins_one_half (x ∷ a) [] h k = absurd (cc h)
begins_one_half (x ∷ a) (c ∷ key) h k =
    let p = and_parts (same_bit x c) (begins (a ++ false ∷ []) key) h in
    let q = and_parts (same_bit x c) (begins (a ++ true ∷ []) key) k in
    begins_one_half a key p.1 q.1

pub begins_some_half : (a key : List Bool) → begins a key ≡ true → length a < length key → begins (a ++ false ∷ []) key ≡ false →
    begins (a ++ true ∷ []) key ≡ true
begins_some_half [] [] h l fails = absurd (omega arith)
begins_some_half [] (true ∷ key) h l fails = refl
begins_some_half [] (false ∷ key) h l fails = absurd (cc fails)
begins_some_half (x ∷ a) [] h l fails = absurd (omega arith)
begins_some_half (x ∷ a) (c ∷ key) h l fails =
    let parts = and_parts (same_bit x c) (begins a key) h in
    let rest : begins (a ++ false ∷ []) key ≡ false = sym (ap (λ b. b && begins (a ++ false ∷ []) key) parts.0) ∙ fails in
    and_from (same_bit x c) (begins (a ++ true ∷ []) key) parts.0 (begins_some_half a key parts.1 (omega arith) rest)

pub begins_within : (a key : List Bool) → begins a key ≡ true → length a ≤ length key
begins_within [] key h = omega arith
begins_within (x ∷ a) [] h = absurd (cc h)
begins_within (x ∷ a) (c ∷ key) h = omega (arith, begins_within a key (and_parts (same_bit x c) (begins a key) h).1)

-- what begins a list that isn't longer is that list
pub begins_whole : (a key : List Bool) → begins a key ≡ true → length key ≤ length a → a ≡ key
begins_whole a key h l = sym (begun a key h) ∙ take_all (length a) key l

-- ---- keys under prefixes

-- fewer keys begin with a longer prefix
pub count_longer : (a b : List Bool) (keys : List (List Bool)) → count_under (a ++ b) keys ≤ count_under a keys
count_longer a b keys = fewer (begins (a ++ b)) (begins a) (begins_front a b) keys

-- a key begins with one half at most
pub halves_within : (a : List Bool) (keys : List (List Bool)) → count_under (half a false) keys + count_under (half a true) keys ≤ count_under a keys
halves_within a keys =
    apart_within (begins (half a false)) (begins (half a true)) (begins a) (begins_front a (false ∷ [])) (begins_front a (true ∷ [])) (begins_one_half a) keys

-- a key of the list begins itself alone
pub one_key : (keys : List (List Bool)) → AreApart keys → (i : ℕ) → i < length keys → count_under (get_or keys i []) keys ≤ 1
one_key keys apart i l =
    one_passes (begins (get_or keys i [])) [] keys (λ j k m n s t.
    sym (apart i j l m (begun (get_or keys i []) (get_or keys j []) s)) ∙ apart i k l n (begun (get_or keys i []) (get_or keys k []) t))

-- where more than one key begins with a prefix each of them is longer
pub keys_longer : (keys : List (List Bool)) → AreApart keys → (a : List Bool) → 1 < count_under a keys → (i : ℕ) → i < length keys
    → begins a (get_or keys i []) ≡ true → length a < length (get_or keys i [])
keys_longer keys apart a more i l b =
    elim (cases_lt (length a) (length (get_or keys i []))) [
      | inl longer ↦ longer
      | inr short ↦
          let few : count_under (get_or keys i []) keys ≤ 1 = one_key keys apart i l in
          let same : count_under a keys ≤ 1 = subst (λ x. count_under x keys ≤ 1) (sym (begins_whole a (get_or keys i []) b short)) few in
          absurd (omega arith)
    ]

-- and then each begins with one half
pub halves_whole : (keys : List (List Bool)) → AreApart keys → (a : List Bool) → 1 < count_under a keys
    → count_under a keys ≤ count_under (half a false) keys + count_under (half a true) keys
halves_whole keys apart a more =
    covered (begins (half a false)) (begins (half a true)) (begins a) [] keys (λ i l b fails.
    begins_some_half a (get_or keys i []) b (keys_longer keys apart a more i l b) fails)

fuller : (f : Bool → ℕ) (b : Bool) → f b ≤ f (ltb (f false) (f true))
fuller f true =
    elim (cases_lt (f false) (f true)) [
      | inl l ↦ subst (λ x. f true ≤ f x) (sym (lt-ltb (f false) (f true) l)) (omega arith)
      | inr l ↦ subst (λ x. f true ≤ f x) (sym (le-ltb (f false) (f true) l)) l
    ]
fuller f false =
    elim (cases_lt (f false) (f true)) [
      | inl l ↦ subst (λ x. f false ≤ f x) (sym (lt-ltb (f false) (f true) l)) (omega arith)
      | inr l ↦ subst (λ x. f false ≤ f x) (sym (le-ltb (f false) (f true) l)) (omega arith)
    ]

-- the fuller half has as many keys as each half
pub fuller_half_most : (a : List Bool) (keys : List (List Bool)) (b : Bool) → count_under (half a b) keys ≤ count_under (half a (fuller_half a keys)) keys
fuller_half_most a keys b = fuller (λ x. count_under (half a x) keys) b

-- a half with more keys than the other one is the fuller one
pub fuller_half_is : (a : List Bool) (keys : List (List Bool)) (b : Bool) → count_under (half a (not b)) keys < count_under (half a b) keys →
    fuller_half a keys ≡ b
fuller_half_is a keys true h = lt-ltb (count_under (half a false) keys) (count_under (half a true) keys) h
fuller_half_is a keys false h = le-ltb (count_under (half a false) keys) (count_under (half a true) keys) (omega arith)

pub halves_of : (a : List Bool) (keys : List (List Bool)) (b : Bool) → count_under (half a (not b)) keys + count_under (half a b) keys ≤ count_under a keys
halves_of a keys true = halves_within a keys
halves_of a keys false = omega (arith, halves_within a keys)

-- how many bits all keys have together
abbrev pub total_bits : List (List Bool) → ℕ
total_bits [] = 0
total_bits (key ∷ keys) = length key + total_bits keys

pub key_bits : (keys : List (List Bool)) (i : ℕ) → i < length keys → length (get_or keys i []) ≤ total_bits keys
key_bits [] i l = absurd (omega arith)
key_bits (key ∷ keys) zero l = omega arith
key_bits (key ∷ keys) (suc i) l = omega (arith, key_bits keys i (omega arith))

-- no key begins with what is longer than all of them together
pub none_under : (keys : List (List Bool)) (a : List Bool) → total_bits keys < length a → count_under a keys ≡ 0
none_under keys a h = none_pass (begins a) [] keys (λ i l t. omega (arith, begins_within a (get_or keys i []) t, key_bits keys i l))

-- every key is under a prefix with which all begin
pub all_under : (keys : List (List Bool)) (a : List Bool) → All (Begins a) keys → count_under a keys ≡ length keys
all_under keys a h = all_pass (begins a) [] keys (λ i l. begins_so a (get_or keys i []) (h i [] l))
