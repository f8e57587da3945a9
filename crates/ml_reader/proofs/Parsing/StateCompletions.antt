-- Every state has a completion: a variable where a term is wanted, what closes each bracket, and the end.
use Rattle.std.specs.Prelude.{◌≡◌, ℕ, Bool, true, false, ◌||◌, not, List, [], ◌∷◌, ◌++◌, None, Ok, Err}
use Rattle.std.proofs.Common.{refl, ap, ◌∙◌}
use Rattle.ml_term.specs.Tree.{Tree, variable, atom, compound, compound_1, compound_2, no_trees, tree}
use Rattle.ml_reader.specs.Lexemes.{ReadClause, nameless_end, clause_from, Lexeme, variable_lexeme, close_paren, close_list, close_curly, end, trees_onto}
use Rattle.ml_reader.specs.Lexemes.{clauses_onto, brackets_name, braces_name, cell, cells}
use Rattle.ml_reader.specs.Operators.{is_operator, infix_at}
use Rattle.ml_reader.specs.Grammar.{Viable}
use Rattle.ml_reader.specs.inside.parser.Parser.{prefix_frame, infix_frame, parens, braces, arguments, list_elements, list_tail, Stack, root, ◌▹◌, State}
use Rattle.ml_reader.specs.inside.parser.Parser.{expect_term, after_open, after_name, after_term, Next, commas, finish_operand, follow_term_as, follow_term}
use Rattle.ml_reader.specs.inside.parser.Parser.{operand_or_prefix, follow_name, step, run_tokens, read_tokens}
use Rattle.ml_reader.proofs.Parsing.AcceptedTerms.{sound}

-- the token that closes the innermost bracket, and those that close the others
abbrev pub closer : Stack → Lexeme
closer (root cs) = end nameless_end
closer (prefix_frame f o ▹ fs) = closer fs
closer (infix_frame o t ▹ fs) = closer fs
closer (parens ▹ fs) = close_paren
closer (braces ▹ fs) = close_curly
closer (arguments f ts ▹ fs) = close_paren
closer (list_elements ts ▹ fs) = close_list
closer (list_tail ts ▹ fs) = close_list

abbrev pub others : Stack → List Lexeme
others (root cs) = []
others (prefix_frame f o ▹ fs) = others fs
others (infix_frame o t ▹ fs) = others fs
others (f ▹ fs) = closer fs ∷ others fs

abbrev pub completion : State → List Lexeme
completion (expect_term fs) = variable_lexeme 0 ∷ closer fs ∷ others fs
completion (after_open true fs) = close_list ∷ closer fs ∷ others fs
completion (after_open false fs) = close_curly ∷ closer fs ∷ others fs
completion (after_name m f fs) = closer fs ∷ others fs
completion (after_term p t fs) = closer fs ∷ others fs

closer_ends : (b : Bool) (p : ℕ) (t : Tree) (fs : Stack) → follow_term b (closer fs) p t fs ≡ finish_operand (closer fs) t fs
closer_ends b p t fs = ap (λ m. follow_term_as b m (closer fs) p t fs) (no_infix fs (commas fs))
  where
    no_infix : (fs : Stack) (c : Bool) → infix_at c (closer fs) ≡ None
    no_infix (root cs) true = refl
    no_infix (root cs) false = refl
    no_infix (prefix_frame f o ▹ fs) c = no_infix fs c
    no_infix (infix_frame o t ▹ fs) c = no_infix fs c
    no_infix (parens ▹ fs) true = refl
    no_infix (parens ▹ fs) false = refl
    no_infix (braces ▹ fs) true = refl
    no_infix (braces ▹ fs) false = refl
    no_infix (arguments f ts ▹ fs) true = refl
    no_infix (arguments f ts ▹ fs) false = refl
    no_infix (list_elements ts ▹ fs) true = refl
    no_infix (list_elements ts ▹ fs) false = refl
    no_infix (list_tail ts ▹ fs) true = refl
    no_infix (list_tail ts ▹ fs) false = refl

module _ (b : Bool) where
  abbrev Finishes : Next → List Lexeme → Type 0
  Finishes n xs = (cs : List ReadClause) × (run_tokens b n xs ≡ Ok (expect_term (root cs)))

  -- from an operand
  onward : (p : ℕ) (t : Tree) (fs : Stack) → Finishes (finish_operand (closer fs) t fs) (others fs) → Finishes (Ok (after_term p t fs)) (closer fs ∷ others fs)
  onward p t fs h = (h.0, ap (λ n. run_tokens b n (others fs)) (closer_ends b p t fs) ∙ h.1)

  closed : (t : Tree) (fs : Stack) → Finishes (finish_operand (closer fs) t fs) (others fs)
  closed t (root cs) = (clause_from nameless_end t ∷ cs, refl)
  closed t (prefix_frame f o ▹ fs) = closed (compound_1 f t) fs
  closed t (infix_frame o u ▹ fs) = closed (compound_2 o.name u t) fs
  closed t (parens ▹ fs) = onward 0 t fs (closed t fs)
  closed t (braces ▹ fs) = let u : Tree = compound_1 braces_name t in onward 0 u fs (closed u fs)
  closed t (arguments f ts ▹ fs) = let u : Tree = compound f (trees_onto ts (tree t no_trees)) in onward 0 u fs (closed u fs)
  closed t (list_elements ts ▹ fs) = let u : Tree = cells ts (cell t (atom brackets_name)) in onward 0 u fs (closed u fs)
  closed t (list_tail ts ▹ fs) = let u : Tree = cells ts t in onward 0 u fs (closed u fs)

  or_true : (k : Bool) → (k || true) ≡ true
  or_true true = refl
  or_true false = refl

  word_closes : (m : Bool) (f : List ℕ) (fs : Stack) → follow_name b m f (closer fs) fs ≡ follow_term b (closer fs) 0 (atom f) fs
  word_closes m f fs = by_closer fs fs
    where
      as_atom : (x : Lexeme) (gs : Stack) (k : Bool) → k ≡ true → operand_or_prefix b k f x gs ≡ follow_term b x 0 (atom f) gs
      as_atom x gs k e = ap (λ k. operand_or_prefix b k f x gs) e

      by_closer : (gs fs : Stack) → follow_name b m f (closer gs) fs ≡ follow_term b (closer gs) 0 (atom f) fs
      by_closer (root cs) fs = as_atom (end nameless_end) fs (not (is_operator f) || true) (or_true (not (is_operator f)))
      by_closer (prefix_frame g o ▹ gs) fs = by_closer gs fs
      by_closer (infix_frame o t ▹ gs) fs = by_closer gs fs
      by_closer (parens ▹ gs) fs = as_atom close_paren fs (not (is_operator f) || true) (or_true (not (is_operator f)))
      by_closer (braces ▹ gs) fs = as_atom close_curly fs (not (is_operator f) || true) (or_true (not (is_operator f)))
      by_closer (arguments g ts ▹ gs) fs = as_atom close_paren fs (not (is_operator f) || true) (or_true (not (is_operator f)))
      by_closer (list_elements ts ▹ gs) fs = as_atom close_list fs (not (is_operator f) || true) (or_true (not (is_operator f)))
      by_closer (list_tail ts ▹ gs) fs = as_atom close_list fs (not (is_operator f) || true) (or_true (not (is_operator f)))

  closes_word : (m : Bool) (f : List ℕ) (fs : Stack) → Finishes (Ok (after_name m f fs)) (closer fs ∷ others fs)
  closes_word m f fs =
      let h = onward 0 (atom f) fs (closed (atom f) fs) in
      (h.0, ap (λ n. run_tokens b n (others fs)) (word_closes m f fs) ∙ h.1)

  pub completes : (s : State) → Finishes (Ok s) (completion s)
  completes (expect_term fs) = onward 0 (variable 0) fs (closed (variable 0) fs)
  completes (after_open true fs) = closes_word false brackets_name fs
  completes (after_open false fs) = closes_word false braces_name fs
  completes (after_name m f fs) = closes_word m f fs
  completes (after_term p t fs) = onward p t fs (closed t fs)

  pub run_append : (n : Next) (xs ys : List Lexeme) → run_tokens b n (xs ++ ys) ≡ run_tokens b (run_tokens b n xs) ys
  run_append n [] ys = refl
  run_append (Ok s) (x ∷ xs) ys = run_append (step b s x) xs ys
  run_append (Err e) (x ∷ xs) [] = stays xs
    where
      stays : (xs : List Lexeme) → run_tokens b (Err e) (x ∷ (xs ++ [])) ≡ Err e
      stays xs = refl
  run_append (Err e) (x ∷ xs) (y ∷ ys) = refl

-- what is read without a fault goes on to a clause
pub viable : (b : Bool) (xs : List Lexeme) (s : State) → read_tokens b xs ≡ Ok s → Viable b xs
viable b xs s e =
    let h = completes b s in (
      completion s,
      clauses_onto h.0 [],
      sound b (xs ++ completion s) h.0 (run_append b (Ok (expect_term (root []))) xs (completion s)
          ∙ (ap (λ n. run_tokens b n (completion s)) e ∙ h.1)),
    )
