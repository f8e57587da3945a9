-- The text of a term in a longer line, and in parts.
use Rattle.std.specs.Prelude.{◌≡◌, ℕ, true, false, cond, List, [], ◌∷◌, ◌++◌}
use Rattle.std.proofs.Common.{refl, sym, ap, ◌∙◌, append_assoc, append-nil}
use Rattle.std.specs.Str.{bytes_eq}
use Rattle.ml_term.specs.Tree.{Tree, Trees, variable, integer, atom, compound, no_trees, tree, variables, variables_of, firsts}
use Rattle.ml_term.specs.Text.{text, texts, cell_text, rest_text, text_of, atom_text, compound_text, is_cell, nil, number_in, join_by_commas, comma}
use Rattle.ml_term.specs.Decimal.{decimal_text}
use Rattle.ml_term.proofs.DistinctCounts.{In}
use Rattle.ml_term.proofs.Substitutions.{in_itself}
use Rattle.ml_term.proofs.UnificationEnds.{in_left, in_right}
use Rattle.ml_writer.specs.inside.Parts.{arguments_text, elements_text, tail_text}
use Rattle.ml_writer.proofs.FirstPlaces.{number_stays, firsts_before}

mutual
  -- a term's text depends on the numbers of its own variables alone
  text_alike : (f g : ℕ → ℕ) (t : Tree) → ((n : ℕ) → In n (variables t) → f n ≡ g n) → text f t ≡ text g t
  text_alike f g (variable n) h = ap (λ k. 95 ∷ decimal_text k) (h n (in_itself n))
  text_alike f g (integer z) h = refl
  text_alike f g (atom a) h = refl
  text_alike f g (compound a ts) h = rw (cell_alike f g ts h, texts_alike f g ts h) refl

  texts_alike : (f g : ℕ → ℕ) (ts : Trees) → ((n : ℕ) → In n (variables_of ts) → f n ≡ g n) → texts f ts ≡ texts g ts
  texts_alike f g no_trees h = refl
  texts_alike f g (tree t ts) h =
      rw (
        text_alike f g t (λ n i. h n (in_left n (variables t) (variables_of ts) i)),
        texts_alike f g ts
            (λ n i. h n (in_right n (variables t) (variables_of ts) i)),
      ) refl

  cell_alike : (f g : ℕ → ℕ) (ts : Trees) → ((n : ℕ) → In n (variables_of ts) → f n ≡ g n) → cell_text f ts ≡ cell_text g ts
  cell_alike f g (tree h (tree t no_trees)) same =
      rw (
        text_alike f g h (λ n i. same n (in_left n (variables h) (variables t ++ []) i)),
        rest_alike f g t (λ n i. same n (in_right n (variables h) (variables t ++ []) (in_left n (variables t) [] i))),
      ) refl
  cell_alike f g no_trees same = refl
  cell_alike f g (tree h no_trees) same = refl
  cell_alike f g (tree h (tree t (tree u ts))) same = refl

  rest_alike : (f g : ℕ → ℕ) (t : Tree) → ((n : ℕ) → In n (variables t) → f n ≡ g n) → rest_text f t ≡ rest_text g t
  rest_alike f g (variable n) h = ap (λ k. 124 ∷ 95 ∷ decimal_text k) (h n (in_itself n))
  rest_alike f g (integer z) h = refl
  rest_alike f g (atom a) h = refl
  rest_alike f g (compound a ts) h = rw (cell_alike f g ts h, texts_alike f g ts h) refl

-- what was met counts by its first places
pub same_after : (met others more : List ℕ) → firsts met ≡ firsts others → firsts (met ++ more) ≡ firsts (others ++ more)
same_after met others more e = sym (firsts_before met more) ∙ (ap (λ z. firsts (z ++ more)) e ∙ firsts_before others more)

pub same_text : (t : Tree) (met others : List ℕ) → firsts met ≡ firsts others → text_of t met ≡ text_of t others
same_text t met others e = ap (λ z. text (number_in z) t) (same_after met others (variables t) e)

pub same_arguments : (ts : Trees) (met others : List ℕ) → firsts met ≡ firsts others → arguments_text ts met ≡ arguments_text ts others
same_arguments ts met others e = ap (λ z. join_by_commas (texts (number_in z) ts)) (same_after met others (variables_of ts) e)

pub same_tail : (t : Tree) (met others : List ℕ) → firsts met ≡ firsts others → tail_text t met ≡ tail_text t others
same_tail t met others e = ap (λ z. rest_text (number_in z) t) (same_after met others (variables t) e)

-- one call after another meets what both meet
pub met_both : (met one two more others : List ℕ) → firsts one ≡ firsts (met ++ more) → firsts two ≡ firsts (one ++ others)
    → firsts two ≡ firsts (met ++ (more ++ others))
met_both met one two more others d e = e ∙ (same_after one (met ++ more) others d ∙ ap firsts (append_assoc met more others))

-- a term's variables keep their numbers in a longer line
numbers_stay : (met vs more : List ℕ) (n : ℕ) → In n vs → number_in (firsts (met ++ (vs ++ more))) n ≡ number_in (firsts (met ++ vs)) n
numbers_stay met vs more n i =
    ap (λ z. number_in (firsts z) n) (sym (append_assoc met vs more)) ∙ number_stays n (met ++ vs) more (in_right n met vs i)

pub text_in_line : (t : Tree) (met more : List ℕ) → text (number_in (firsts (met ++ (variables t ++ more)))) t ≡ text_of t met
text_in_line t met more = text_alike _ _ t (numbers_stay met (variables t) more)

-- arguments in parts
pub one_argument : (t : Tree) (met : List ℕ) → arguments_text (tree t no_trees) met ≡ text_of t met
one_argument t met = text_in_line t met []

pub more_arguments : (t u : Tree) (us : Trees) (met : List ℕ)
    → arguments_text (tree t (tree u us)) met ≡ text_of t met ++ comma ∷ arguments_text (tree u us) (met ++ variables t)
more_arguments t u us met =
    let vs = variables_of (tree u us) in
    ap (λ z. z ++ comma ∷ join_by_commas (texts (number_in (firsts (met ++ (variables t ++ vs)))) (tree u us))) (text_in_line t met vs)
    ∙ ap (λ z. text_of t met ++ comma ∷ join_by_commas (texts (number_in (firsts z)) (tree u us))) (sym (append_assoc met (variables t) vs))

-- elements in parts
elements : (h t : Tree) (met : List ℕ) → cell_text (number_in (firsts (met ++ variables_of (tree h (tree t no_trees))))) (tree h (tree t no_trees))
    ≡ elements_text h t met
elements h t met =
    let vs = variables t ++ [] in
    ap (λ z. z ++ rest_text (number_in (firsts (met ++ (variables h ++ vs)))) t) (text_in_line h met vs)
    ∙ ap (λ z. text_of h met ++ rest_text (number_in (firsts z)) t) (ap (λ z. met ++ (variables h ++ z)) (append-nil (variables t))
    ∙ sym (append_assoc met (variables h) (variables t)))

-- a list, and a compound that is none
pub list_text : (f : List ℕ) (h t : Tree) (met : List ℕ) → is_cell f (tree h (tree t no_trees)) ≡ true
    → text_of (compound f (tree h (tree t no_trees))) met ≡ 91 ∷ elements_text h t met ++ 93 ∷ []
list_text f h t met e =
    let ts = tree h (tree t no_trees) in
    let number = number_in (firsts (met ++ variables_of ts)) in
    ap (λ b. cond b (91 ∷ cell_text number ts ++ 93 ∷ []) (compound_text f (texts number ts))) e ∙ ap (λ z. 91 ∷ z ++ 93 ∷ []) (elements h t met)

pub compound_in_parts : (f : List ℕ) (ts : Trees) (met : List ℕ) → is_cell f ts ≡ false
    → text_of (compound f ts) met ≡ atom_text f ++ 40 ∷ arguments_text ts met ++ 41 ∷ []
compound_in_parts f ts met e =
    let number = number_in (firsts (met ++ variables_of ts)) in
    ap (λ b. cond b (91 ∷ cell_text number ts ++ 93 ∷ []) (compound_text f (texts number ts))) e

-- what follows an element
pub list_tail : (f : List ℕ) (h t : Tree) (met : List ℕ) → is_cell f (tree h (tree t no_trees)) ≡ true
    → tail_text (compound f (tree h (tree t no_trees))) met ≡ comma ∷ elements_text h t met
list_tail f h t met e =
    let ts = tree h (tree t no_trees) in
    let number = number_in (firsts (met ++ variables_of ts)) in
    ap (λ b. cond b (comma ∷ cell_text number ts) (124 ∷ compound_text f (texts number ts))) e ∙ ap (λ z. comma ∷ z) (elements h t met)

pub compound_tail : (f : List ℕ) (ts : Trees) (met : List ℕ) → is_cell f ts ≡ false → tail_text (compound f ts) met ≡ 124 ∷ text_of (compound f ts) met
compound_tail f ts met e =
    let number = number_in (firsts (met ++ variables_of ts)) in
    ap (λ b. cond b (comma ∷ cell_text number ts) (124 ∷ compound_text f (texts number ts))) e
    ∙ sym (ap (λ b. 124 ∷ cond b (91 ∷ cell_text number ts ++ 93 ∷ []) (compound_text f (texts number ts))) e)

pub atom_tail : (f : List ℕ) (met : List ℕ) → bytes_eq f nil ≡ false → tail_text (atom f) met ≡ 124 ∷ text_of (atom f) met
atom_tail f met e = ap (λ b. cond b [] (124 ∷ atom_text f)) e

pub no_tail : (f : List ℕ) (met : List ℕ) → bytes_eq f nil ≡ true → tail_text (atom f) met ≡ []
no_tail f met e = ap (λ b. cond b [] (124 ∷ atom_text f)) e
