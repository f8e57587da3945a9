-- What holds of a text's beginning that the parser has taken within the limits.
use Rattle.std.specs.Prelude.{◌≡◌, ℕ, ◌+◌, ◌≤◌, ◌<◌, Bool, true, false, ◌&&◌, IsTrue, nat_lt, List, [], ◌∷◌, ◌++◌, Ok, Err}
use Rattle.std.proofs.Common.{refl, sym, ap, ◌∙◌, subst, arith, true≢false}
use Rattle.std.proofs.lemmas.Bool.{lt-ltb, ltb-true}
use Rattle.ml_reader.specs.Lexemes.{Lexeme, end}
use Rattle.ml_reader.specs.Tokens.{TokenContext, text_start, GoesOn, no_token}
use Rattle.ml_reader.specs.Grammar.{Viable}
use Rattle.ml_reader.specs.inside.parser.Parser.{root, State, expect_term, Fault, Next, step, run_tokens, read_tokens}
use Rattle.ml_reader.specs.Texts.{are_short}
use Rattle.ml_reader.specs.inside.parser.LimitedSteps.{levels}
use Rattle.ml_reader.specs.Limits.{max_text_levels, max_clause_tokens}
use Rattle.ml_reader.proofs.Parsing.StateCompletions.{run_append, viable}
use Rattle.ml_reader.proofs.Parsing.RunsWithinLimits.{Fine, Kept, done, kept}
use Rattle.ml_reader.proofs.Parsing.LevelsAfterOperands.{height, levels_low}
use Rattle.ml_reader.proofs.Parsing.TextBeginnings.{count, counted}

-- the parser has taken the tokens xs within the limits and stands in s, and the next token finds c before it
pub record Reading (bytes : List ℕ) (xs : List Lexeme) (c : TokenContext) (s : State) : Type 0 where
  pub goes : GoesOn bytes text_start xs c
  pub parsed : read_tokens true xs ≡ Ok s
  pub kept : Kept (expect_term (root [])) xs
  pub short : IsTrue (are_short 0 xs)
  pub low : height s ≤ max_text_levels

-- few levels are open
pub reading_few : {bytes : List ℕ} {xs : List Lexeme} {c : TokenContext} {s : State} → Reading bytes xs c s → levels s ≤ max_text_levels
reading_few {s = s} r = let l = r.low in let m = levels_low s in omega arith

abbrev fine : State → Next
fine s = Ok s

pub same_state : {r s : State} → fine r ≡ fine s → r ≡ s
same_state e = cc

pub not_both : {s : State} {k : Fault} → Err k ≡ fine s → ⊥
not_both e = cc

-- a run over more tokens is one over fewer, and goes on
pub record Split (n : Next) (xs ys : List Lexeme) (s : State) : Type 0 where
  pub state : State
  pub first : run_tokens true n xs ≡ Ok state
  pub second : run_tokens true (Ok state) ys ≡ Ok s

fault_stays : (k : Fault) (xs : List Lexeme) → run_tokens true (Err k) xs ≡ Err k
fault_stays k [] = refl
fault_stays k (x ∷ xs) = refl

pub split_run : (n : Next) (xs ys : List Lexeme) (s : State) → run_tokens true n (xs ++ ys) ≡ Ok s → Split n xs ys s
split_run n xs ys s e = go (run_tokens true n xs) refl
  where
    go : (m : Next) → run_tokens true n xs ≡ m → Split n xs ys s
    go (Ok r) f = record { state = r; first = f; second = sym (ap (λ m. run_tokens true m ys) f) ∙ (sym (run_append true n xs ys) ∙ e) }
    go (Err k) f = absurd (not_both (sym (fault_stays k ys) ∙ (sym (ap (λ m. run_tokens true m ys) f) ∙ (sym (run_append true n xs ys) ∙ e))))

-- one token more
pub one_more : (n : Next) (xs : List Lexeme) (s : State) (x : Lexeme) → run_tokens true n xs ≡ Ok s → run_tokens true n (xs ++ x ∷ []) ≡ step true s x
one_more n xs s x e = run_append true n xs (x ∷ []) ∙ ap (λ m. run_tokens true m (x ∷ [])) e

kept_more : (r s s' : State) (xs : List Lexeme) (x : Lexeme) → Kept r xs → run_tokens true (Ok r) xs ≡ Ok s → Fine s x → step true s x ≡ Ok s'
    → Kept r (xs ++ x ∷ [])
kept_more r s s' [] x done e f i = subst (λ r. Kept r (x ∷ [])) (sym (same_state e)) (kept f i done)
kept_more r s s' (y ∷ xs) x (kept {r = q} g j k) e f i = kept g j (kept_more q s s' xs x k (sym (ap (λ n. run_tokens true n xs) j) ∙ e) f i)

both : (a b : Bool) → IsTrue a → IsTrue b → IsTrue (a && b)
both true b e e' = e'
both false b e e' = absurd (true≢false (sym e))

first_of : (a b : Bool) → IsTrue (a && b) → IsTrue a
first_of true b e = refl
first_of false b e = absurd (true≢false (sym e))

second_of : (a b : Bool) → IsTrue (a && b) → IsTrue b
second_of true b e = e
second_of false b e = absurd (true≢false (sym e))

short_one : (k : ℕ) (x : Lexeme) → k < max_clause_tokens → IsTrue (are_short k (x ∷ []))
short_one k (end m) l = both (nat_lt k max_clause_tokens) true (lt-ltb k max_clause_tokens l) refl
short_one k x l = both (nat_lt k max_clause_tokens) true (lt-ltb k max_clause_tokens l) refl

short_more : (k : ℕ) (xs : List Lexeme) (x : Lexeme) → IsTrue (are_short k xs) → count k xs < max_clause_tokens → IsTrue (are_short k (xs ++ x ∷ []))
short_more k [] x h l = short_one k x l
short_more k (end m ∷ xs) x h l = both (nat_lt k max_clause_tokens) _ (first_of _ _ h) (short_more 0 xs x (second_of (nat_lt k max_clause_tokens) _ h) l)
short_more k (y ∷ xs) x h l = both (nat_lt k max_clause_tokens) _ (first_of _ _ h) (short_more (1 + k) xs x (second_of (nat_lt k max_clause_tokens) _ h) l)

short_head : (k : ℕ) (x : Lexeme) (xs : List Lexeme) → IsTrue (are_short k (x ∷ xs)) → k < max_clause_tokens
short_head k (end m) xs h = ltb-true k max_clause_tokens (first_of _ _ h)
short_head k x xs h = ltb-true k max_clause_tokens (first_of _ _ h)

pub short_at : (k : ℕ) (xs : List Lexeme) (x : Lexeme) (zs : List Lexeme) → IsTrue (are_short k ((xs ++ x ∷ []) ++ zs)) → count k xs < max_clause_tokens
short_at k [] x zs h = short_head k x zs h
short_at k (end m ∷ xs) x zs h = short_at 0 xs x zs (second_of (nat_lt k max_clause_tokens) _ h)
short_at k (y ∷ xs) x zs h = short_at (1 + k) xs x zs (second_of (nat_lt k max_clause_tokens) _ h)

-- a token of a run within the limits
pub record KeptAt (r : State) (xs : List Lexeme) (x : Lexeme) (zs : List Lexeme) : Type 0 where
  pub before : State
  pub behind_it : State
  pub first : run_tokens true (Ok r) xs ≡ Ok before
  pub is_fine : Fine before x
  pub taken : step true before x ≡ Ok behind_it
  pub rest : Kept behind_it zs

pub kept_at : (r : State) (xs : List Lexeme) (x : Lexeme) (zs : List Lexeme) → Kept r ((xs ++ x ∷ []) ++ zs) → KeptAt r xs x zs
kept_at r [] x zs (kept {r = q} f e k) = record { before = r; behind_it = q; first = refl; is_fine = f; taken = e; rest = k }
kept_at r (y ∷ xs) x zs (kept {r = q} f e k) =
    let h = kept_at q xs x zs k in
    record {
      before = h.before;
      behind_it = h.behind_it;
      first = ap (λ n. run_tokens true n xs) e ∙ h.first;
      is_fine = h.is_fine;
      taken = h.taken;
      rest =
          h.rest;
    }

module _ (bytes : List ℕ) where
  pub reading_starts : Reading bytes [] text_start (expect_term (root []))
  reading_starts = record { goes = no_token; parsed = refl; kept = done; short = refl; low = omega arith }

  pub reading_goes_on : {xs : List Lexeme} {c d : TokenContext} {s r : State} {x : Lexeme} → Reading bytes xs c s → GoesOn bytes text_start (xs ++ x ∷ []) d
      → Fine s x → step true s x ≡ Ok r → height r ≤ max_text_levels → c.tokens < max_clause_tokens
      → Reading bytes (xs ++ x ∷ []) d r
  reading_goes_on {xs} {c} {d} {s} {r} {x} h g f e l n = record {
    goes = g;
    parsed = one_more (Ok (expect_term (root []))) xs s x h.parsed ∙ e;
    kept = kept_more (expect_term (root [])) s r xs x h.kept h.parsed f e;
    short = short_more 0 xs x h.short (let j = counted bytes h.goes in omega arith);
    low = l;
  }

  pub reading_viable : {xs : List Lexeme} {c : TokenContext} {s : State} → Reading bytes xs c s → Viable true xs
  reading_viable {xs} {c} {s} h = viable true xs s h.parsed
