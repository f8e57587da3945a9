-- How many levels the canonical text of a term opens at once, as a recursion on trees that has a
-- case for each case of the text: one in the brackets of a list and one in the parentheses of
-- arguments, however many elements and arguments there are, and one in the name `[]` or `{}`.
use Rattle.std.specs.Prelude.{ℕ, ◌+◌, max, ◌||◌, if◌then◌else◌, List}
use Rattle.std.specs.Str.{bytes_eq}
use Rattle.ml_term.specs.Tree.{Tree, Trees, variable, integer, atom, compound, no_trees, tree}
use Rattle.ml_term.specs.Text.{is_cell}
use Rattle.ml_reader.specs.Lexemes.{brackets_name, braces_name}

-- a name
abbrev pub name_levels : List ℕ → ℕ
name_levels f = if bytes_eq f brackets_name || bytes_eq f braces_name then 1 else 0

abbrev mutual
  -- a term
  pub text_levels : Tree → ℕ
  text_levels (variable n) = 0
  text_levels (integer z) = 0
  text_levels (atom f) = name_levels f
  text_levels (compound f ts) = 1 + (if is_cell f ts then cell_levels ts else argument_levels ts)

  -- arguments
  pub argument_levels : Trees → ℕ
  argument_levels no_trees = 0
  argument_levels (tree t ts) = max (text_levels t) (argument_levels ts)

  -- inside brackets: the head of a cell and what follows it
  pub cell_levels : Trees → ℕ
  cell_levels (tree h (tree t no_trees)) = max (text_levels h) (rest_levels t)
  cell_levels ts = 0

  -- what follows a head: the next cell, nothing at the end `[]`, or another end
  pub rest_levels : Tree → ℕ
  rest_levels (variable n) = 0
  rest_levels (integer z) = 0
  rest_levels (atom f) = if bytes_eq f brackets_name then 0 else name_levels f
  rest_levels (compound f ts) = if is_cell f ts then cell_levels ts else 1 + argument_levels ts
