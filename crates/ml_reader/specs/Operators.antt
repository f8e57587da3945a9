-- The table of operators.
use Rattle.std.specs.Prelude.{ℕ, Bool, true, false, ◌||◌, nat_le, if◌then◌else◌, List, [], ◌∷◌}
use Rattle.std.specs.Prelude.{Option, Some, None, codes, is_some}
use Rattle.std.specs.Str.{bytes_eq}
use Rattle.std.specs.List.{list_any}
use Rattle.ml_reader.specs.Lexemes.{Lexeme, name, close_paren, close_list, close_curly}
use Rattle.ml_reader.specs.Lexemes.{head_tail_separator, comma, end}

-- an operator: its name, its priority, the greatest priority on its left (infix operators) and on
-- its right
pub record Operator : Type 0 where
  pub name : List ℕ
  pub priority : ℕ
  pub left : ℕ
  pub right : ℕ

-- an operator of these
abbrev pub operator : List ℕ → ℕ → ℕ → ℕ → Operator
operator f p l r = record { name = f; priority = p; left = l; right = r }

-- a row of the table: the names of operators, their priority, and the greatest priorities on their
-- left and right
pub record Row : Type 0 where
  pub names : List (List ℕ)
  pub priority : ℕ
  pub left : ℕ
  pub right : ℕ

-- a row of these
abbrev pub row : List (List ℕ) → ℕ → ℕ → ℕ → Row
row names p l r = record { names = names; priority = p; left = l; right = r }

-- the greatest priority of a term
abbrev pub max_priority : ℕ
max_priority = 1200

-- the greatest priority of an argument of a compound and of an element of a list
abbrev pub max_argument_priority : ℕ
max_argument_priority = 999

-- the operators that compare
abbrev pub comparisons : List (List ℕ)
comparisons =
    codes "=" ∷ codes "\\=" ∷ codes "==" ∷ codes "\\==" ∷ codes "@<" ∷ codes "@=<" ∷ codes "@>"
    ∷ codes "@>=" ∷ codes "=.." ∷ codes "is" ∷ codes "=:="
    ∷ codes "=\\=" ∷ codes "<" ∷ codes "=<" ∷ codes ">" ∷ codes ">=" ∷ []

-- the infix operators
abbrev pub infixes : List Row
infixes =
    row (codes ":-" ∷ []) 1200 1199 1199
    ∷ row (codes ";" ∷ []) 1100 1099 1100
    ∷ row (codes "->" ∷ []) 1050 1049 1050
    ∷ row (codes "," ∷ []) 1000 999 1000
    ∷ row comparisons 700 699 699
    ∷ row (codes "+" ∷ codes "-" ∷ []) 500 500 499
    ∷ row (codes "*" ∷ codes "/" ∷ codes "//" ∷ codes "rem" ∷ codes "mod" ∷ []) 400 400 399
    ∷ []

-- the prefix operators
abbrev pub prefixes : List Row
prefixes =
    row (codes ":-" ∷ codes "?-" ∷ []) 1200 0 1199
    ∷ row (codes "\\+" ∷ []) 900 0 900
    ∷ row (codes "-" ∷ []) 200 0 200
    ∷ []

-- the comma
abbrev pub comma_operator : Operator
comma_operator = operator (codes ",") 1000 999 1000

-- whether a name stands among some
abbrev pub is_among : List (List ℕ) → List ℕ → Bool
is_among names f = list_any (λ n. bytes_eq n f) names

-- the operator of a name in a table
abbrev pub find_operator : List Row → List ℕ → Option Operator
find_operator [] f = None
find_operator (r ∷ rs) f =
    if is_among r.names f then Some (operator f r.priority r.left r.right) else find_operator rs f

-- the infix operator of a name
unfoldable pub infix_of : List ℕ → Option Operator
infix_of f = find_operator infixes f

-- the prefix operator of a name
unfoldable pub prefix_of : List ℕ → Option Operator
prefix_of f = find_operator prefixes f

-- whether a name is an operator
abbrev pub is_operator : List ℕ → Bool
is_operator f = is_some (infix_of f) || is_some (prefix_of f)

-- the infix operator that a token is after a complete operand; c: commas are operators here
abbrev pub infix_at : Bool → Lexeme → Option Operator
infix_at c (name q f) = infix_of f
infix_at true comma = Some comma_operator
infix_at c x = None

-- the token ends an operand
abbrev pub closes : Lexeme → Bool
closes close_paren = true
closes close_list = true
closes close_curly = true
closes head_tail_separator = true
closes comma = true
closes (end n) = true
closes x = false

-- whether an operand of priority p may stand where at most q may; b: priorities count
abbrev pub priority_fits : Bool → ℕ → ℕ → Bool
priority_fits true p q = nat_le p q
priority_fits false p q = true
