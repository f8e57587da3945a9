-- The grammar. Each rule says what the tokens begin with, and which tokens are left after it.
use Rattle.std.specs.Prelude.{pos, neg_ℤ, ◌≡◌, ℕ, Bool, true, false, ◌&&◌, ◌||◌, not, IsTrue, List}
use Rattle.std.specs.Prelude.{[], ◌∷◌, ◌++◌, Some}
use Rattle.ml_term.specs.Tree.{Tree, Trees, variable, integer, atom, compound, compound_1}
use Rattle.ml_term.specs.Tree.{compound_2, no_trees, tree}
use Rattle.ml_reader.specs.Lexemes.{ClauseEnd, ReadClause, clause_from, Lexeme, name}
use Rattle.ml_reader.specs.Lexemes.{variable_lexeme, number, open_paren, close_paren, open_list}
use Rattle.ml_reader.specs.Lexemes.{close_list, open_curly, close_curly, head_tail_separator, comma}
use Rattle.ml_reader.specs.Lexemes.{end, brackets_name, braces_name, is_minus, cell}
use Rattle.ml_reader.specs.Operators.{Operator, max_priority, max_argument_priority, prefix_of}
use Rattle.ml_reader.specs.Operators.{is_operator, infix_at, closes, priority_fits}

-- the name of an atom or a compound: a name, or brackets with nothing between them
-- m: it is the bare name `-`
pub data Word : List Lexeme → List Lexeme → Bool → List ℕ → Type 0 where
  plain : {q : Bool} {f : List ℕ} {ys : List Lexeme} → Word (name q f ∷ ys) ys (is_minus q f) f
  brackets : {ys : List Lexeme} → Word (open_list ∷ close_list ∷ ys) ys false brackets_name
  curlies : {ys : List Lexeme} → Word (open_curly ∷ close_curly ∷ ys) ys false braces_name

-- the operator is an atom before such a token, and else it isn't
abbrev pub AtomBefore : List ℕ → List Lexeme → Type 0
AtomBefore f [] = IsTrue (not (is_operator f))
AtomBefore f (x ∷ ys) = IsTrue (not (is_operator f) || closes x)

-- what a name joins to: the parenthesis of its arguments, or the number of a bare `-`
abbrev pub joins : Bool → List Lexeme → Bool
joins m (open_paren true ∷ ys) = true
joins m (number k n ∷ ys) = m && k
joins m ys = false

mutual
  -- xs begin with the term t of priority p, and ys are left; c: commas are operators here; b:
  -- priorities count
  pub data Derives (b : Bool) : Bool → List Lexeme → List Lexeme → ℕ → Tree → Type 0 where
    a_variable : {c : Bool} {n : ℕ} {ys : List Lexeme}
        → Derives b c (variable_lexeme n ∷ ys) ys 0 (variable n)
    a_number : {c k : Bool} {n : ℕ} {ys : List Lexeme}
        → Derives b c (number k n ∷ ys) ys 0 (integer (pos n))
    a_negative : {c : Bool} {f : List ℕ} {n : ℕ} {xs ys : List Lexeme}
        → Word xs (number true n ∷ ys) true f → Derives b c xs ys 0 (integer (neg_ℤ (pos n)))
    in_braces : {c : Bool} {xs ys : List Lexeme} {p : ℕ} {t : Tree}
        → Derives b true xs (close_curly ∷ ys) p t → IsTrue (priority_fits b p max_priority)
        → Derives b c (open_curly ∷ xs) ys 0 (compound_1 braces_name t)
    an_atom : {c m : Bool} {f : List ℕ} {xs ys : List Lexeme} → Word xs ys m f → AtomBefore f ys
        → Derives b c xs ys 0 (atom f)
    a_compound : {c m : Bool} {f : List ℕ} {xs ys zs : List Lexeme} {ts : Trees}
        → Word xs (open_paren true ∷ ys) m f → Arguments b ys zs ts
        → Derives b c xs zs 0 (compound f ts)
    in_parens : {c k : Bool} {xs ys : List Lexeme} {p : ℕ} {t : Tree}
        → Derives b true xs (close_paren ∷ ys) p t → IsTrue (priority_fits b p max_priority)
        → Derives b c (open_paren k ∷ xs) ys 0 t
    a_list : {c : Bool} {xs ys : List Lexeme} {t : Tree} → Elements b xs ys t
        → Derives b c (open_list ∷ xs) ys 0 t
    a_prefix : {c m : Bool} {f : List ℕ} {xs ys zs : List Lexeme} {o : Operator} {p : ℕ} {t : Tree}
        → Word xs ys m f → prefix_of f ≡ Some o → IsTrue (not (joins m ys))
        → Derives b c ys zs p t → IsTrue (priority_fits b p o.right)
        → Derives b c xs zs o.priority (compound_1 f t)
    an_infix : {c : Bool} {x : Lexeme} {xs ys zs : List Lexeme} {o : Operator} {p q : ℕ}
        {t u : Tree} → Derives b c xs (x ∷ ys) p t → infix_at c x ≡ Some o
        → IsTrue (priority_fits b p o.left) → Derives b c ys zs q u
        → IsTrue (priority_fits b q o.right) → Derives b c xs zs o.priority (compound_2 o.name t u)

  -- arguments up to the closing parenthesis
  pub data Arguments (b : Bool) : List Lexeme → List Lexeme → Trees → Type 0 where
    last_argument : {xs ys : List Lexeme} {p : ℕ} {t : Tree}
        → Derives b false xs (close_paren ∷ ys) p t
        → IsTrue (priority_fits b p max_argument_priority) → Arguments b xs ys (tree t no_trees)
    argument : {xs ys zs : List Lexeme} {p : ℕ} {t : Tree} {ts : Trees}
        → Derives b false xs (comma ∷ ys) p t → IsTrue (priority_fits b p max_argument_priority)
        → Arguments b ys zs ts → Arguments b xs zs (tree t ts)

  -- elements up to the closing bracket
  pub data Elements (b : Bool) : List Lexeme → List Lexeme → Tree → Type 0 where
    last_element : {xs ys : List Lexeme} {p : ℕ} {t : Tree}
        → Derives b false xs (close_list ∷ ys) p t
        → IsTrue (priority_fits b p max_argument_priority)
        → Elements b xs ys (cell t (atom brackets_name))
    before_bar : {xs ys zs : List Lexeme} {p q : ℕ} {t u : Tree}
        → Derives b false xs (head_tail_separator ∷ ys) p t
        → IsTrue (priority_fits b p max_argument_priority)
        → Derives b false ys (close_list ∷ zs) q u
        → IsTrue (priority_fits b q max_argument_priority) → Elements b xs zs (cell t u)
    element : {xs ys zs : List Lexeme} {p : ℕ} {t u : Tree} → Derives b false xs (comma ∷ ys) p t
        → IsTrue (priority_fits b p max_argument_priority) → Elements b ys zs u
        → Elements b xs zs (cell t u)

-- the tokens are clauses, one after another
pub data IsText (b : Bool) : List Lexeme → List ReadClause → Type 0 where
  no_clause : IsText b [] []
  a_clause : {m : ClauseEnd} {xs ys : List Lexeme} {p : ℕ} {t : Tree} {cs : List ReadClause}
      → Derives b true xs (end m ∷ ys) p t → IsTrue (priority_fits b p max_priority)
      → IsText b ys cs → IsText b xs (clause_from m t ∷ cs)

-- some text begins with the tokens
abbrev pub Viable : Bool → List Lexeme → Type 0
Viable b xs = (ys : List Lexeme) × (cs : List ReadClause) × IsText b (xs ++ ys) cs
