-- The canonical text of a term: no operator is used, lists stand in brackets, and a variable is
-- written by its first place in the line. The code appends pieces and remembers the variables that
-- it met; here the text is a recursion on trees, with a number for each variable.
use Rattle.std.specs.Prelude.{ℕ, ◌+◌, ◌-◌, ◌==◌, nat_le, Bool, false, ◌&&◌, ◌||◌, not, List, []}
use Rattle.std.specs.Prelude.{◌∷◌, ◌++◌, codes, if◌then◌else◌, slice_index}
use Rattle.std.specs.List.{flat_map, list_all}
use Rattle.ml_term.specs.Decimal.{decimal_text, integer_text}
use Rattle.std.specs.Str.{bytes_eq}
use Rattle.ml_term.specs.Tree.{Tree, Trees, variable, integer, atom, compound, no_trees, tree}
use Rattle.ml_term.specs.Tree.{arity, variables, firsts, place_in, has}

-- what separates the arguments and the elements
abbrev pub comma : ℕ
comma = 44

-- what begins the arguments of a compound
abbrev pub open_paren : ℕ
open_paren = 40

-- what ends them
abbrev pub close_paren : ℕ
close_paren = 41

-- what begins a list
abbrev pub open_bracket : ℕ
open_bracket = 91

-- what ends it
abbrev pub close_bracket : ℕ
close_bracket = 93

-- what stands before a list's end that isn't `[]`
abbrev pub bar : ℕ
bar = 124

-- what stands around a name that isn't bare
abbrev pub quote : ℕ
quote = 39

-- what begins an escape
abbrev pub backslash : ℕ
backslash = 92

-- what begins the text of a variable
abbrev pub underscore : ℕ
underscore = 95

-- what begins a comment, before a star
abbrev pub slash : ℕ
slash = 47

-- what begins a comment, behind a slash
abbrev pub star : ℕ
star = 42

-- a small letter
abbrev pub is_lowercase : ℕ → Bool
is_lowercase b = nat_le 97 b && nat_le b 122

-- a capital letter
abbrev pub is_uppercase : ℕ → Bool
is_uppercase b = nat_le 65 b && nat_le b 90

-- a decimal digit
abbrev pub is_digit : ℕ → Bool
is_digit b = nat_le 48 b && nat_le b 57

-- a letter, a digit or `_`
abbrev pub is_alphanumeric : ℕ → Bool
is_alphanumeric b = is_lowercase b || is_uppercase b || is_digit b || (b == underscore)

-- the symbol characters
abbrev pub symbols : List ℕ
symbols = codes "+-*/\\^<>=~:.?@#&$"

-- a symbol character
abbrev pub is_symbol : ℕ → Bool
is_symbol b = has b symbols

-- whether a name is a lower-case letter followed by letters, digits and `_`
abbrev pub is_word : List ℕ → Bool
is_word [] = false
is_word (b ∷ bs) = is_lowercase b && list_all is_alphanumeric bs

-- whether a name begins a comment
abbrev pub opens_comment : List ℕ → Bool
opens_comment (b ∷ c ∷ bs) = (b == slash) && (c == star)
opens_comment bs = false

-- whether a name is a run of symbol characters that is read back as this name: no full stop, and no
-- comment
abbrev pub is_symbol_name : List ℕ → Bool
is_symbol_name [] = false
is_symbol_name bs = list_all is_symbol bs && not (bytes_eq bs (codes ".")) && not (opens_comment bs)

-- whether a name is one of those that stand for themselves
abbrev pub is_solo : List ℕ → Bool
is_solo f = bytes_eq f (codes "[]") || bytes_eq f (codes "{}") || bytes_eq f (codes "!")
    || bytes_eq f (codes ";")

-- whether a name is written without quotes
abbrev pub is_bare : List ℕ → Bool
is_bare f = is_word f || is_symbol_name f || is_solo f

-- the letters of the escapes for the bytes 7 to 13
abbrev pub escape_letters : List ℕ
escape_letters = codes "abtnvfr"

-- a byte of a quoted name: the bytes 7 to 13, the backslash and the quote are escaped
abbrev pub quoted_byte : ℕ → List ℕ
quoted_byte b =
    if nat_le 7 b && nat_le b 13 then backslash ∷ slice_index escape_letters (b - 7) ∷ []
    else (if (b == backslash) || (b == quote) then backslash ∷ b ∷ [] else b ∷ [])

-- a name as an atom
abbrev pub atom_text : List ℕ → List ℕ
atom_text f = if is_bare f then f else quote ∷ flat_map quoted_byte f ++ quote ∷ []

-- the name of a list's cell, and of its end
abbrev pub dot : List ℕ
dot = codes "."

-- the name of the empty list
abbrev pub nil : List ℕ
nil = codes "[]"

-- whether a compound is a cell of a list
abbrev pub is_cell : List ℕ → Trees → Bool
is_cell f ts = bytes_eq f dot && (arity ts == 2)

-- texts with a comma between each two
abbrev pub join_by_commas : List (List ℕ) → List ℕ
join_by_commas [] = []
join_by_commas (t ∷ []) = t
join_by_commas (t ∷ ts) = t ++ comma ∷ join_by_commas ts

-- a compound that is no cell of a list: its name, and its arguments in parentheses
abbrev pub compound_text : List ℕ → List (List ℕ) → List ℕ
compound_text f ts = atom_text f ++ open_paren ∷ join_by_commas ts ++ close_paren ∷ []

-- the text, where each variable has a number
module _ (number : ℕ → ℕ) where
  abbrev mutual
    -- `_` and a number, a decimal number, an atom, a list in brackets, or a compound
    pub text : Tree → List ℕ
    text (variable n) = underscore ∷ decimal_text (number n)
    text (integer z) = integer_text z
    text (atom f) = atom_text f
    text (compound f ts) =
        if is_cell f ts then open_bracket ∷ cell_text ts ++ close_bracket ∷ []
        else compound_text f (texts ts)

    -- the texts of arguments
    pub texts : Trees → List (List ℕ)
    texts no_trees = []
    texts (tree t ts) = text t ∷ texts ts

    -- inside brackets: the head of a cell and what follows it
    pub cell_text : Trees → List ℕ
    cell_text (tree h (tree t no_trees)) = text h ++ rest_text t
    cell_text ts = []

    -- what follows a head: a comma and the next cell, nothing at the end `[]`, or a bar and another
    -- end
    pub rest_text : Tree → List ℕ
    rest_text (variable n) = bar ∷ underscore ∷ decimal_text (number n)
    rest_text (integer z) = bar ∷ integer_text z
    rest_text (atom f) = if bytes_eq f nil then [] else bar ∷ atom_text f
    rest_text (compound f ts) =
        if is_cell f ts then comma ∷ cell_text ts else bar ∷ compound_text f (texts ts)

-- the number with which a variable is written, from 1: its first place among the variables of the
-- line
abbrev pub number_in : List ℕ → ℕ → ℕ
number_in line n = 1 + place_in line n

-- the text of a term, where `met` are the variables that the line met before it
abbrev pub text_of : Tree → List ℕ → List ℕ
text_of t met = text (number_in (firsts (met ++ variables t))) t
