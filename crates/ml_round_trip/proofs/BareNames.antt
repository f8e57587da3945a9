-- A name that is written bare is one token, whatever of canonical text stands behind it.
use Rattle.std.specs.Prelude.{◌≡◌, ℕ, ◌≤◌, Bool, true, false, ◌&&◌, ◌||◌, ◌==◌, not, List, [], ◌∷◌, ◌++◌, length, codes}
use Rattle.std.specs.List.{list_all}
use Rattle.std.specs.Str.{bytes_eq}
use Rattle.std.proofs.Common.{inl, inr, refl, sym, arith, subst, eqb-true}
use Rattle.ml_token.specs.Limits.{max_name_bytes}
use Rattle.ml_token.specs.declared.tokens.TokenKind.TheVariants.{Name}
use Rattle.ml_token.specs.Bytes.{is_one_of, is_layout, is_digit, is_alphanumeric, is_symbol, begins_with, ends_clause}
use Rattle.ml_token.specs.Language as language
use Rattle.ml_token.specs.Language.{StopsAt, IsRun, IsToken}
use Rattle.ml_token.proofs.NameBytes.{is_one_of-passes}
use Rattle.ml_term.specs.Tree.{has}
use Rattle.ml_term.specs.Text as T
use Rattle.ml_term.specs.Text.{symbols, is_word, opens_comment, is_symbol_name, is_solo, is_bare}
use Rattle.ml_reader.specs.Lexemes.{brackets_name, braces_name}
use Rattle.ml_round_trip.proofs.BooleanTests.{both, either, same_bytes}

-- the bytes that stand behind names, numbers and variables in canonical text
abbrev pub is_stop : ℕ → Bool
is_stop b = is_one_of (codes ",)]|( ") b

abbrev pub StopsFirst : List ℕ → Type 0
StopsFirst [] = ⊥
StopsFirst (b ∷ bs) = is_stop b ≡ true

not_true : (b : Bool) → not b ≡ true → b ≡ false
not_true true e = absurd (cc)
not_true false e = refl

-- what fails at each of these bytes fails at the first one
stop_fails : (test : ℕ → Bool) → list_all (λ b. not (test b)) (codes ",)]|( ") ≡ true → (b : ℕ) → is_stop b ≡ true → test b ≡ false
stop_fails test all b h = not_true (test b) (is_one_of-passes (λ b. not (test b)) (codes ",)]|( ") b h all)

pub no_letter : (rest : List ℕ) → StopsFirst rest → StopsAt is_alphanumeric rest
no_letter [] h = absurd h
no_letter (b ∷ bs) h = stop_fails is_alphanumeric refl b h

pub no_digit : (rest : List ℕ) → StopsFirst rest → StopsAt is_digit rest
no_digit [] h = absurd h
no_digit (b ∷ bs) h = stop_fails is_digit refl b h

pub no_symbol : (rest : List ℕ) → StopsFirst rest → StopsAt is_symbol rest
no_symbol [] h = absurd h
no_symbol (b ∷ bs) h = stop_fails is_symbol refl b h

pub no_quote : (rest : List ℕ) → StopsFirst rest → begins_with 39 rest ≡ false
no_quote [] h = absurd h
no_quote (b ∷ bs) h = stop_fails (λ b. b == 39) refl b h

no_star : (rest : List ℕ) → StopsFirst rest → begins_with 42 rest ≡ false
no_star [] h = absurd h
no_star (b ∷ bs) h = stop_fails (λ b. b == 42) refl b h

and_false : (a b : Bool) → b ≡ false → (a && b) ≡ false
and_false true b e = e
and_false false b e = refl

-- a test that some numbers pass
has-passes : (test : ℕ → Bool) (n : ℕ) (ms : List ℕ) → has n ms ≡ true → list_all test ms ≡ true → test n ≡ true
has-passes test n [] h all = absurd (cc)
has-passes test n (m ∷ ms) h all = by_test (m == n) refl h (λ k. has-passes test n ms k (both (test m) (list_all test ms) all).1)
  where
    by_test : (b : Bool) → (m == n) ≡ b → (b || has n ms) ≡ true → (has n ms ≡ true → test n ≡ true) → test n ≡ true
    by_test true e h rest = subst (λ n. test n ≡ true) (eqb-true m n e) (both (test m) (list_all test ms) all).0
    by_test false e h rest = rest h

-- both lists of symbol characters are one
same_symbol : (b : ℕ) → T.is_symbol b ≡ true → is_symbol b ≡ true
same_symbol b e = has-passes is_symbol b symbols e refl

-- a full stop before a symbol character ends no clause
symbol_behind : (b : ℕ) → T.is_symbol b ≡ true → (is_layout b || b == 37) ≡ false
symbol_behind b e = not_true (is_layout b || b == 37) (has-passes (λ b. not (is_layout b || b == 37)) b symbols e refl)

all_symbols : (bs : List ℕ) → list_all T.is_symbol bs ≡ true → list_all is_symbol bs ≡ true
all_symbols [] e = refl
all_symbols (b ∷ bs) e = let h = both (T.is_symbol b) (list_all T.is_symbol bs) e in rw (same_symbol b h.0, all_symbols bs h.1) refl

pub word_token : (f rest : List ℕ) → is_word f ≡ true → length f ≤ max_name_bytes → StopsFirst rest → IsToken Name f rest
word_token [] rest e short stops = absurd (cc)
word_token (b ∷ bs) rest e short stops =
    let h = both (T.is_lowercase b) (list_all T.is_alphanumeric bs) e in
    language.small_name h.0 (record { all = h.1; longest = no_letter rest stops }) (omega arith)

first_false : (a b : Bool) → (a && true) ≡ false → (a && b) ≡ false
first_false true b e = absurd (cc)
first_false false b e = refl

no_end : (b : ℕ) (bs rest : List ℕ) → list_all T.is_symbol (b ∷ bs) ≡ true → bytes_eq (b ∷ bs) (codes ".") ≡ false
    → (b == 46 && ends_clause (bs ++ rest)) ≡ false
no_end b [] rest all other = first_false (b == 46) (ends_clause rest) other
no_end b (c ∷ cs) rest all other =
    let h = both (T.is_symbol b) (T.is_symbol c && list_all T.is_symbol cs) all in
    and_false (b == 46) (is_layout c || c == 37) (symbol_behind c (both (T.is_symbol c) (list_all T.is_symbol cs) h.1).0)

no_comment : (b : ℕ) (bs rest : List ℕ) → opens_comment (b ∷ bs) ≡ false → StopsFirst rest → (b == 47 && begins_with 42 (bs ++ rest)) ≡ false
no_comment b [] rest other stops = and_false (b == 47) (begins_with 42 rest) (no_star rest stops)
no_comment b (c ∷ cs) rest other stops = other

pub symbol_token : (f rest : List ℕ) → is_symbol_name f ≡ true → length f ≤ max_name_bytes → StopsFirst rest → IsToken Name f rest
symbol_token [] rest e short stops = absurd (cc)
symbol_token (b ∷ bs) rest e short stops =
    let h = both (list_all T.is_symbol (b ∷ bs) && not (bytes_eq (b ∷ bs) (codes "."))) (not (opens_comment (b ∷ bs))) e in
    let k = both (list_all T.is_symbol (b ∷ bs)) (not (bytes_eq (b ∷ bs) (codes "."))) h.0 in
    let all = both (T.is_symbol b) (list_all T.is_symbol bs) k.0 in
    language.symbol_name (same_symbol b all.0) (record { all = all_symbols bs all.1; longest = no_symbol rest stops })
    (no_end b bs rest k.0 (not_true (bytes_eq (b ∷ bs) (codes ".")) k.1)) (no_comment b bs rest (not_true (opens_comment (b ∷ bs)) h.1) stops) (omega arith)

-- the solo names that are one token
solo_token : (f rest : List ℕ) → is_solo f ≡ true → bytes_eq f brackets_name ≡ false → bytes_eq f braces_name ≡ false → IsToken Name f rest
solo_token f rest e one other =
    elim (either (bytes_eq f (codes "!")) (bytes_eq f (codes ";")) (rw (one, other) at e)) [
      | inl h ↦ subst (λ g. IsToken Name g rest) (sym (same_bytes f (codes "!") h)) (language.solo_name refl)
      | inr h ↦ subst (λ g. IsToken Name g rest) (sym (same_bytes f (codes ";") h)) (language.solo_name refl)
    ]

pub bare_token : (f rest : List ℕ) → is_bare f ≡ true → bytes_eq f brackets_name ≡ false → bytes_eq f braces_name ≡ false → length f ≤ max_name_bytes
    → StopsFirst rest
    → IsToken Name f rest
bare_token f rest e one other short stops =
    elim (either (is_word f || is_symbol_name f) (is_solo f) e) [
      | inl h ↦ elim (either (is_word f) (is_symbol_name f) h) [ inl k ↦ word_token f rest k short stops | inr k ↦ symbol_token f rest k short stops ]
      | inr h ↦ solo_token f rest h one other
    ]
