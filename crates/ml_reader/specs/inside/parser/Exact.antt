-- What the reader of a text answers: the clauses, or the first token at which no text goes on. No
-- public clause but the law `the_parser_is_exact` cites this module.
use Rattle.std.specs.Prelude.{◌≡◌, ℕ, ◌+◌, ◌<◌, true, false, List, [], ◌∷◌, length, take, Ok, Err}
use Rattle.ml_reader.specs.Lexemes.{ReadClause, Lexeme, clauses_onto}
use Rattle.ml_reader.specs.Grammar.{IsText, Viable}
use Rattle.ml_reader.specs.inside.parser.Parser.{root, State, expect_term, Fault, clash, unexpected}
use Rattle.ml_reader.specs.inside.parser.Parser.{step}

-- The clauses that were read, or the token that was refused, or a text that ends inside a clause.
pub data Answer : Type 0 where
  clauses : List ReadClause → Answer
  refused_at : ℕ → Fault → Answer  -- the place of the token
  ends_inside : Answer

-- some clause begins with the tokens when no priority counts, or none does
abbrev pub IsKind : Fault → List Lexeme → Type 0
IsKind clash xs = Viable false xs
IsKind unexpected xs = Viable false xs → ⊥

-- an answer is right: the clauses are the only ones that the tokens are; the token is the first
-- with which no text goes on; or some text begins with the tokens, but they are none
abbrev pub Exact : List Lexeme → Answer → Type 0
Exact xs (clauses cs) = IsText true xs cs × ((ds : List ReadClause) → IsText true xs ds → ds ≡ cs)
Exact xs (refused_at n k) = (n < length xs) × Viable true (take n xs)
    × (Viable true (take (n + 1) xs) → ⊥) × IsKind k (take (n + 1) xs)
Exact xs ends_inside = Viable true xs × ((cs : List ReadClause) → IsText true xs cs → ⊥)

-- the parser's answer, n tokens having been taken
abbrev pub answer_at_end : State → Answer
answer_at_end (expect_term (root cs)) = clauses (clauses_onto cs [])
answer_at_end s = ends_inside

-- the parser's answer from a state on
abbrev pub answer : ℕ → State → List Lexeme → Answer
answer n s [] = answer_at_end s
answer n s (x ∷ xs) = elim (step true s x) [ Ok s' ↦ answer (n + 1) s' xs | Err k ↦ refused_at n k ]
