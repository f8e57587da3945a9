-- A text has no more than half as many clauses as bytes.
use Rattle.std.specs.Prelude.{ℕ, ◌+◌, ◌*◌, ◌≤◌, Bool, List, length}
use Rattle.std.proofs.Common.{arith}
use Rattle.ml_term.specs.Tree.{Tree, Trees}
use Rattle.ml_reader.specs.Lexemes.{ReadClause, Lexeme}
use Rattle.ml_reader.specs.Tokens.{TokenContext, behind, text_start, Ends, the_end, one_more_token}
use Rattle.ml_reader.specs.Grammar.{Word, plain, brackets, curlies, Derives, a_variable, a_number, a_negative, in_braces, an_atom, a_compound, in_parens}
use Rattle.ml_reader.specs.Grammar.{a_list, a_prefix, an_infix, Arguments, last_argument, argument, Elements, last_element, before_bar, element, IsText}
use Rattle.ml_reader.specs.Grammar.{no_clause, a_clause}
use Rattle.ml_reader.specs.Texts.{IsRead}
use Rattle.ml_reader.proofs.Parsing.TextBeginnings.{Stand, behind_to}

word_shorter : {xs ys : List Lexeme} {m : Bool} {f : List ℕ} → Word xs ys m f → 1 + length ys ≤ length xs
word_shorter plain = omega arith
word_shorter brackets = omega arith
word_shorter curlies = omega arith

mutual
  derives_shorter : {b c : Bool} {xs ys : List Lexeme} {p : ℕ} {t : Tree} → Derives b c xs ys p t → 1 + length ys ≤ length xs
  derives_shorter a_variable = omega arith
  derives_shorter a_number = omega arith
  derives_shorter (a_negative w) = omega (arith, word_shorter w)
  derives_shorter (in_braces d l) = omega (arith, derives_shorter d)
  derives_shorter (an_atom w a) = word_shorter w
  derives_shorter (a_compound w ds) = omega (arith, word_shorter w, arguments_shorter ds)
  derives_shorter (in_parens d l) = omega (arith, derives_shorter d)
  derives_shorter (a_list ds) = omega (arith, elements_shorter ds)
  derives_shorter (a_prefix w e n d l) = omega (arith, word_shorter w, derives_shorter d)
  derives_shorter (an_infix d e l d' l') = omega (arith, derives_shorter d, derives_shorter d')

  arguments_shorter : {b : Bool} {xs ys : List Lexeme} {ts : Trees} → Arguments b xs ys ts → 1 + length ys ≤ length xs
  arguments_shorter (last_argument d l) = omega (arith, derives_shorter d)
  arguments_shorter (argument d l ds) = omega (arith, derives_shorter d, arguments_shorter ds)

  elements_shorter : {b : Bool} {xs ys : List Lexeme} {t : Tree} → Elements b xs ys t → 1 + length ys ≤ length xs
  elements_shorter (last_element d l) = omega (arith, derives_shorter d)
  elements_shorter (before_bar d l d' l') = omega (arith, derives_shorter d, derives_shorter d')
  elements_shorter (element d l ds) = omega (arith, derives_shorter d, elements_shorter ds)

text_longer : {b : Bool} {xs : List Lexeme} {cs : List ReadClause} → IsText b xs cs → 2 * length cs ≤ length xs
text_longer no_clause = omega arith
text_longer (a_clause d l i) = omega (arith, derives_shorter d, text_longer i)

module _ (bytes : List ℕ) (stand : Stand bytes) where
  tokens_within : {c : TokenContext} {xs : List Lexeme} → c.to ≤ length bytes → Ends bytes c xs → c.to + length xs ≤ length bytes
  tokens_within low (the_end t e k) = omega arith
  tokens_within {c} low (one_more_token t e k ds) =
      let s = stand.token c.to t low e in
      let to = behind_to bytes c t k in
      let within : (behind bytes c t).to ≤ length bytes = omega (arith, to, s.within) in
      omega (arith, to, s.behind, s.some k, tokens_within within ds)

  pub clauses_are_few : (cs : List ReadClause) → IsRead bytes cs → 2 * length cs ≤ length bytes
  clauses_are_few cs r = omega (arith, text_longer r.text, tokens_within {c = text_start} (omega arith) r.whole)
