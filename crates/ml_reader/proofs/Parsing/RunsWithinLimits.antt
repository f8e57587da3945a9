-- Runs of the parser that keep within the limits of levels, arguments, numbers and nodes.
use Rattle.std.specs.Prelude.{◌≡◌, ◌≤◌, ◌<◌, ◌^◌, Bool, true, false, IsTrue, nat_le, List, [], ◌∷◌, length, Option, Some, None, Ok}
use Rattle.std.proofs.Common.{sym, ◌∙◌, subst}
use Rattle.ml_term.specs.Tree.{arity, nodes}
use Rattle.ml_term.specs.Names.{is_name}
use Rattle.ml_reader.specs.Lexemes.{Lexeme, name, variable_lexeme, number}
use Rattle.ml_reader.specs.inside.parser.Parser.{arguments, root, ◌▹◌, State, expect_term, Next, step}
use Rattle.ml_reader.specs.Levels.{Level}
use Rattle.ml_reader.specs.inside.parser.LimitedSteps.{is_lone}
use Rattle.ml_term.specs.Limits.{max_term_nodes, integer_offset}
use Rattle.ml_reader.specs.Limits.{max_text_levels}
use Rattle.ml_reader.proofs.Parsing.OpenLevels.{path_before, Alike}

-- these levels are few, if there are any
abbrev pub AreFew : Option (List Level) → Type 0
AreFew (Some ls) = length ls ≤ max_text_levels
AreFew None = Unit {0}

-- no argument past the limit begins, and no clause past the limit ends
abbrev pub is_moderate : Next → Bool
is_moderate (Ok (expect_term (arguments f ts ▹ fs))) = nat_le (arity ts) 254
is_moderate (Ok (expect_term (root (w ∷ cs)))) = nat_le (nodes w.term) max_term_nodes
is_moderate n = true

-- a token is within the limits
pub record Fine (s : State) (x : Lexeme) : Type 0 where
  pub levels : AreFew (path_before s x)
  pub moderate : IsTrue (is_moderate (step true s x))
  pub alone : is_lone s x ≡ false

-- the parser takes all these tokens, each within the limits
pub data Kept : State → List Lexeme → Type 0 where
  done : {s : State} → Kept s []
  kept : {s r : State} {x : Lexeme} {xs : List Lexeme} → Fine s x → step true s x ≡ Ok r → Kept r xs → Kept s (x ∷ xs)

abbrev fine : State → Next
fine s = Ok s

same_state : {r s : State} → fine r ≡ fine s → r ≡ s
same_state e = cc

pub fine_alike : (s r : State) (x : Lexeme) → Alike s r x → Fine s x → Fine r x
fine_alike s r x a f =
    record {
      levels = subst AreFew a.same_path f.levels;
      moderate = subst (λ n. IsTrue (is_moderate n)) a.same_step f.moderate;
      alone = sym a.same_lone
          ∙ f.alone;
    }

pub alike_sym : {s r : State} {x : Lexeme} → Alike s r x → Alike r s x
alike_sym a = record { same_step = sym a.same_step; same_path = sym a.same_path; same_past = sym a.same_past; same_lone = sym a.same_lone }

pub kept_tail : {s r : State} {x : Lexeme} {xs : List Lexeme} → step true s x ≡ Ok r → Kept s (x ∷ xs) → Kept r xs
kept_tail {xs = xs} e (kept f e' k) = subst (λ s. Kept s xs) (same_state (sym e' ∙ e)) k

pub kept_head : {s : State} {x : Lexeme} {xs : List Lexeme} → Kept s (x ∷ xs) → Fine s x
kept_head (kept f e k) = f

pub kept_alike : {s r : State} {x : Lexeme} {xs : List Lexeme} → Alike s r x → Kept s (x ∷ xs) → Kept r (x ∷ xs)
kept_alike {s} {r} {x} a (kept f e k) = kept (fine_alike s r x a f) (sym a.same_step ∙ e) k

-- a token's value is in range
abbrev pub IsGood : Lexeme → Type 0
IsGood (name q f) = IsTrue (is_name f)
IsGood (variable_lexeme n) = n < 2 ^ 32
IsGood (number k n) = n ≤ integer_offset
IsGood x = Unit {0}

abbrev pub AreGood : List Lexeme → Type 0
AreGood [] = Unit {0}
AreGood (x ∷ xs) = IsGood x × AreGood xs
