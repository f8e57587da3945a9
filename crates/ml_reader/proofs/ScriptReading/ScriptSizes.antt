-- A text has fewer clauses than half of its bytes: each takes a token for its term and one for its end.
use Rattle.std.specs.Prelude.{ℕ, ◌+◌, ◌*◌, ◌≤◌, ◌<◌, Bool, List, length}
use Rattle.std.proofs.Common.{arith}
use Rattle.ml_term.specs.Tree.{Tree, Trees}
use Rattle.ml_token.proofs.ScannerComplete.{token-only}
use Rattle.ml_token.proofs.TokensInText.{first-stands}
use Rattle.ml_reader.specs.Lexemes.{Lexeme, ReadClause}
use Rattle.ml_reader.specs.Tokens.{TokenContext, text_start, Ends, the_end, one_more_token}
use Rattle.ml_reader.specs.Grammar.{Word, plain, brackets, curlies, Derives, a_variable, a_number, a_negative, in_braces, an_atom, a_compound, in_parens}
use Rattle.ml_reader.specs.Grammar.{a_list, a_prefix, an_infix, Arguments, last_argument, argument, Elements, last_element, before_bar, element, IsText}
use Rattle.ml_reader.specs.Grammar.{no_clause, a_clause}
use Rattle.ml_reader.specs.Texts.{IsRead}
use Rattle.ml_reader.proofs.Parsing.TextBeginnings.{behind_to}

word_takes : {xs ys : List Lexeme} {m : Bool} {f : List ℕ} → Word xs ys m f → length ys < length xs
word_takes plain = omega arith
word_takes brackets = omega arith
word_takes curlies = omega arith

mutual
  term_takes : {b c : Bool} {xs ys : List Lexeme} {p : ℕ} {t : Tree} → Derives b c xs ys p t → length ys < length xs
  term_takes a_variable = omega arith
  term_takes a_number = omega arith
  term_takes (a_negative w) = let i = word_takes w in omega arith
  term_takes (in_braces d l) = let i = term_takes d in omega arith
  term_takes (an_atom w a) = word_takes w
  term_takes (a_compound w ds) = let i = word_takes w in let j = arguments_take ds in omega arith
  term_takes (in_parens d l) = let i = term_takes d in omega arith
  term_takes (a_list ds) = let i = elements_take ds in omega arith
  term_takes (a_prefix w e n d l) = let i = word_takes w in let j = term_takes d in omega arith
  term_takes (an_infix d e l d' l') = let i = term_takes d in let j = term_takes d' in omega arith

  arguments_take : {b : Bool} {xs ys : List Lexeme} {ts : Trees} → Arguments b xs ys ts → length ys < length xs
  arguments_take (last_argument d l) = let i = term_takes d in omega arith
  arguments_take (argument d l ds) = let i = term_takes d in let j = arguments_take ds in omega arith

  elements_take : {b : Bool} {xs ys : List Lexeme} {t : Tree} → Elements b xs ys t → length ys < length xs
  elements_take (last_element d l) = let i = term_takes d in omega arith
  elements_take (before_bar d l d' l') = let i = term_takes d in let j = term_takes d' in omega arith
  elements_take (element d l ds) = let i = term_takes d in let j = elements_take ds in omega arith

clauses_take : {b : Bool} {xs : List Lexeme} {cs : List ReadClause} → IsText b xs cs → 2 * length cs ≤ length xs
clauses_take no_clause = omega arith
clauses_take (a_clause d l i) = let j = term_takes d in let k = clauses_take i in omega arith

module _ (bytes : List ℕ) where
  tokens_take : {c : TokenContext} {xs : List Lexeme} → c.to ≤ length bytes → Ends bytes c xs → c.to + length xs ≤ length bytes
  tokens_take h (the_end t e k) = omega arith
  tokens_take {c} h (one_more_token t e k ds) =
      let s = first-stands bytes c.to t h (token-only bytes c.to t e) in
      let b = s.behind in
      let w = s.within in
      let n = s.some k in
      let i = behind_to bytes c t k in
      let j = tokens_take (omega arith) ds in
      omega arith

  pub few_clauses : {cs : List ReadClause} → IsRead bytes cs → 2 * length cs ≤ length bytes
  few_clauses r =
      let i = clauses_take r.text in
      let j = tokens_take {c = text_start} (omega arith) r.whole in
      omega arith
