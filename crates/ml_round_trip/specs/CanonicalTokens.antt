-- The tokens of canonical text, as a recursion on trees that has a case for each case of the text.
-- It knows no bytes; the grammar and the cutting of a text into tokens know no canonical text.
use Rattle.std.specs.Prelude.{ℕ, suc, true, false, not, ℤ, pos, negsuc, List, ◌∷◌, if◌then◌else◌}
use Rattle.std.specs.Prelude.{codes}
use Rattle.std.specs.Str.{bytes_eq}
use Rattle.ml_term.specs.Tree.{Tree, Trees, variable, integer, atom, compound, no_trees, tree}
use Rattle.ml_term.specs.Tree.{variables, firsts, place_in}
use Rattle.ml_term.specs.Text.{is_bare, is_cell}
use Rattle.ml_reader.specs.Lexemes.{Lexeme, name, variable_lexeme, number, open_paren, close_paren}
use Rattle.ml_reader.specs.Lexemes.{open_list, close_list, open_curly, close_curly}
use Rattle.ml_reader.specs.Lexemes.{head_tail_separator, comma, brackets_name, braces_name}

-- the tokens of a name before others: two brackets, two braces, or one token, which stands in
-- quotes unless it is written bare
abbrev pub name_tokens : List ℕ → List Lexeme → List Lexeme
name_tokens f ys =
    if bytes_eq f brackets_name then open_list ∷ close_list ∷ ys
    else (if bytes_eq f braces_name then open_curly ∷ close_curly ∷ ys
    else name (not (is_bare f)) f ∷ ys)

-- the tokens of an integer before others: a minus where it is negative, and a number that directly
-- follows the token before
abbrev pub integer_tokens : ℤ → List Lexeme → List Lexeme
integer_tokens (pos n) ys = number true n ∷ ys
integer_tokens (negsuc n) ys = name false (codes "-") ∷ number true (suc n) ∷ ys

-- the tokens, where each variable has a number. Each function gives them before others
module _ (place : ℕ → ℕ) where
  abbrev mutual
    -- a term
    pub tokens : Tree → List Lexeme → List Lexeme
    tokens (variable n) ys = variable_lexeme (place n) ∷ ys
    tokens (integer z) ys = integer_tokens z ys
    tokens (atom f) ys = name_tokens f ys
    tokens (compound f ts) ys =
        if is_cell f ts then open_list ∷ cell_tokens ts (close_list ∷ ys)
        else name_tokens f (open_paren true ∷ argument_tokens ts (close_paren ∷ ys))

    -- arguments
    pub argument_tokens : Trees → List Lexeme → List Lexeme
    argument_tokens no_trees ys = ys
    argument_tokens (tree t ts) ys = tokens t (more_tokens ts ys)

    -- more arguments behind one
    pub more_tokens : Trees → List Lexeme → List Lexeme
    more_tokens no_trees ys = ys
    more_tokens (tree t ts) ys = comma ∷ tokens t (more_tokens ts ys)

    -- inside brackets: the head of a cell and what follows it
    pub cell_tokens : Trees → List Lexeme → List Lexeme
    cell_tokens (tree h (tree t no_trees)) ys = tokens h (rest_tokens t ys)
    cell_tokens ts ys = ys

    -- what follows a head: a comma and the next cell, nothing at the end `[]`, or a bar and another
    -- end
    pub rest_tokens : Tree → List Lexeme → List Lexeme
    rest_tokens (variable n) ys = head_tail_separator ∷ variable_lexeme (place n) ∷ ys
    rest_tokens (integer z) ys = head_tail_separator ∷ integer_tokens z ys
    rest_tokens (atom f) ys =
        if bytes_eq f brackets_name then ys else head_tail_separator ∷ name_tokens f ys
    rest_tokens (compound f ts) ys =
        if is_cell f ts then comma ∷ cell_tokens ts ys
        else head_tail_separator ∷ name_tokens f
        (open_paren true ∷ argument_tokens ts (close_paren ∷ ys))

-- the tokens of a term's canonical text before others, its variables numbered from 0 by first place
abbrev pub tokens_of : Tree → List Lexeme → List Lexeme
tokens_of t ys = tokens (place_in (firsts (variables t))) t ys
