-- The canonical text before other bytes, bracketed to the right as the tokens are.
use Rattle.std.specs.Prelude.{◌≡◌, ℕ, Bool, true, false, List, [], ◌∷◌, ◌++◌, cond}
use Rattle.std.specs.Str.{bytes_eq}
use Rattle.std.proofs.Common.{refl, sym, ap, ◌∙◌, append_assoc, append-nil}
use Rattle.ml_term.specs.Tree.{Tree, Trees, variable, integer, atom, compound, no_trees, tree}
use Rattle.ml_term.specs.Decimal.{decimal_text, integer_text}
use Rattle.ml_term.specs.Text.{comma, atom_text, is_cell, nil, join_by_commas, text, texts, cell_text, rest_text}

module _ (number : ℕ → ℕ) where
  abbrev mutual
    -- a term
    pub text_before : Tree → List ℕ → List ℕ
    text_before (variable n) bs = 95 ∷ (decimal_text (number n) ++ bs)
    text_before (integer z) bs = integer_text z ++ bs
    text_before (atom f) bs = atom_text f ++ bs
    text_before (compound f ts) bs = cond (is_cell f ts) (91 ∷ cell_before ts (93 ∷ bs)) (atom_text f ++ 40 ∷ arguments_before ts (41 ∷ bs))

    -- arguments
    pub arguments_before : Trees → List ℕ → List ℕ
    arguments_before no_trees bs = bs
    arguments_before (tree t ts) bs = text_before t (more_before ts bs)

    -- more arguments behind one
    pub more_before : Trees → List ℕ → List ℕ
    more_before no_trees bs = bs
    more_before (tree t ts) bs = comma ∷ text_before t (more_before ts bs)

    -- inside brackets
    pub cell_before : Trees → List ℕ → List ℕ
    cell_before (tree h (tree t no_trees)) bs = text_before h (rest_before t bs)
    cell_before ts bs = bs

    -- behind a head
    pub rest_before : Tree → List ℕ → List ℕ
    rest_before (variable n) bs = 124 ∷ 95 ∷ (decimal_text (number n) ++ bs)
    rest_before (integer z) bs = 124 ∷ (integer_text z ++ bs)
    rest_before (atom f) bs = cond (bytes_eq f nil) bs (124 ∷ (atom_text f ++ bs))
    rest_before (compound f ts) bs = cond (is_cell f ts) (comma ∷ cell_before ts bs) (124 ∷ (atom_text f ++ 40 ∷ arguments_before ts (41 ∷ bs)))

  -- arguments behind one, with a comma before each
  abbrev more_text : Trees → List ℕ
  more_text no_trees = []
  more_text (tree t ts) = comma ∷ (text number t ++ more_text ts)

  joined_more : (t : Tree) (ts : Trees) → join_by_commas (text number t ∷ texts number ts) ≡ text number t ++ more_text ts
  joined_more t no_trees = sym (append-nil (text number t))
  joined_more t (tree u us) = ap (λ xs. text number t ++ comma ∷ xs) (joined_more u us)

  cond_before : (b : Bool) (xs ys bs us vs : List ℕ) → xs ++ bs ≡ us → ys ++ bs ≡ vs → cond b xs ys ++ bs ≡ cond b us vs
  cond_before true xs ys bs us vs e f = e
  cond_before false xs ys bs us vs e f = f

  -- a list in brackets
  in_brackets : (xs bs us : List ℕ) → xs ++ (93 ∷ bs) ≡ us → (91 ∷ xs ++ 93 ∷ []) ++ bs ≡ 91 ∷ us
  in_brackets xs bs us e = ap (λ zs. 91 ∷ zs) (append_assoc xs (93 ∷ []) bs ∙ e)

  -- a name and its arguments
  in_parentheses : (f xs bs us : List ℕ) → xs ++ (41 ∷ bs) ≡ us → (f ++ 40 ∷ xs ++ 41 ∷ []) ++ bs ≡ f ++ 40 ∷ us
  in_parentheses f xs bs us e =
      append_assoc (f ++ 40 ∷ xs) (41 ∷ []) bs ∙ (append_assoc f (40 ∷ xs) (41 ∷ bs) ∙ ap (λ zs. f ++ 40 ∷ zs) e)

  mutual
    pub text_is : (t : Tree) (bs : List ℕ) → text number t ++ bs ≡ text_before t bs
    text_is (variable n) bs = refl
    text_is (integer z) bs = refl
    text_is (atom f) bs = refl
    text_is (compound f ts) bs =
        cond_before (is_cell f ts) (91 ∷ cell_text number ts ++ 93 ∷ []) (atom_text f ++ 40 ∷ join_by_commas (texts number ts) ++ 41 ∷ []) bs _ _
        (in_brackets (cell_text number ts) bs _ (cell_is ts (93 ∷ bs)))
        (in_parentheses (atom_text f) (join_by_commas (texts number ts)) bs _ (arguments_are ts (41 ∷ bs)))

    arguments_are : (ts : Trees) (bs : List ℕ) → join_by_commas (texts number ts) ++ bs ≡ arguments_before ts bs
    arguments_are no_trees bs = refl
    arguments_are (tree t ts) bs =
        ap (λ xs. xs ++ bs) (joined_more t ts) ∙
        (append_assoc (text number t) (more_text ts) bs ∙ (ap (λ xs. text number t ++ xs) (more_is ts bs) ∙ text_is t (more_before ts bs)))

    more_is : (ts : Trees) (bs : List ℕ) → more_text ts ++ bs ≡ more_before ts bs
    more_is no_trees bs = refl
    more_is (tree t ts) bs =
        ap (λ xs. comma ∷ xs)
        (append_assoc (text number t) (more_text ts) bs ∙ (ap (λ xs. text number t ++ xs) (more_is ts bs) ∙ text_is t (more_before ts bs)))

    cell_is : (ts : Trees) (bs : List ℕ) → cell_text number ts ++ bs ≡ cell_before ts bs
    cell_is no_trees bs = refl
    cell_is (tree h no_trees) bs = refl
    cell_is (tree h (tree t no_trees)) bs =
        append_assoc (text number h) (rest_text number t) bs ∙ (ap (λ xs. text number h ++ xs) (rest_is t bs) ∙ text_is h (rest_before t bs))
    cell_is (tree h (tree t (tree u us))) bs = refl

    rest_is : (t : Tree) (bs : List ℕ) → rest_text number t ++ bs ≡ rest_before t bs
    rest_is (variable n) bs = refl
    rest_is (integer z) bs = refl
    rest_is (atom f) bs = cond_before (bytes_eq f nil) [] (124 ∷ atom_text f) bs _ _ refl refl
    rest_is (compound f ts) bs =
        cond_before (is_cell f ts) (comma ∷ cell_text number ts) (124 ∷ (atom_text f ++ 40 ∷ join_by_commas (texts number ts) ++ 41 ∷ [])) bs _ _
        (ap (λ xs. comma ∷ xs) (cell_is ts bs))
        (ap (λ xs. 124 ∷ xs) (in_parentheses (atom_text f) (join_by_commas (texts number ts)) bs _ (arguments_are ts (41 ∷ bs))))
