-- What a term is, by its form.
use Rattle.std.specs.Prelude.{◌≡◌, ℕ, Bool, true, false, cond, List, codes}
use Rattle.std.specs.Str.{bytes_eq}
use Rattle.std.specs.Cmp.Lexicographic.{bytes_decides}
use Rattle.std.proofs.Common.{refl, sym, ap, ◌∙◌}
use Rattle.std.proofs.lemmas.Bool.{and_from}
use Rattle.std.proofs.lemmas.List.{append-nil}
use Rattle.ml_term.specs.Tree.{Tree, variable, integer, atom, compound, no_trees, tree, compound_1, compound_2, variables, firsts, counts_from, is_numbered}
use Rattle.ml_term.specs.Valid.{is_valid}
use Rattle.ml_search.specs.Program.{clause_term, true_body}
use Rattle.ml_reader.specs.Forms.{Form, form, directive, query, rule, fact}

-- what a term of one argument is
pub data OneIs (f : List ℕ) (t : Tree) : Form → Type 0 where
  a_directive : codes ":-" ≡ f → OneIs f t (directive t)
  a_query : codes "?-" ≡ f → OneIs f t (query t)
  a_fact : OneIs f t (fact (compound_1 f t))

pub one_is : (f : List ℕ) (t : Tree) → OneIs f t (form (compound_1 f t))
one_is f t = by (bytes_eq (codes ":-") f) (bytes_eq (codes "?-") f) refl refl
  where
    by : (a b : Bool) → bytes_eq (codes ":-") f ≡ a → bytes_eq (codes "?-") f ≡ b → OneIs f t (cond a (directive t) (cond b (query t) (fact (compound_1 f t))))
    by true b neck other = a_directive ((bytes_decides _ _).0 neck)
    by false true neck other = a_query ((bytes_decides _ _).0 other)
    by false false neck other = a_fact

pub data TwoIs (f : List ℕ) (t u : Tree) : Form → Type 0 where
  a_rule : codes ":-" ≡ f → TwoIs f t u (rule t u)
  a_fact_of_two : TwoIs f t u (fact (compound_2 f t u))

pub two_is : (f : List ℕ) (t u : Tree) → TwoIs f t u (form (compound_2 f t u))
two_is f t u = by (bytes_eq (codes ":-") f) refl
  where
    by : (a : Bool) → bytes_eq (codes ":-") f ≡ a → TwoIs f t u (cond a (rule t u) (fact (compound_2 f t u)))
    by true neck = a_rule ((bytes_decides _ _).0 neck)
    by false neck = a_fact_of_two

-- the term of a form
abbrev pub term_of : Form → Tree
term_of (directive t) = compound_1 (codes ":-") t
term_of (query t) = compound_1 (codes "?-") t
term_of (rule h b) = clause_term h b
term_of (fact h) = h

one_term : (f : List ℕ) (t : Tree) (x : Form) → OneIs f t x → term_of x ≡ compound_1 f t
one_term f t x (a_directive e) = ap (λ g. compound_1 g t) e
one_term f t x (a_query e) = ap (λ g. compound_1 g t) e
one_term f t x a_fact = refl

two_term : (f : List ℕ) (t u : Tree) (x : Form) → TwoIs f t u x → term_of x ≡ compound_2 f t u
two_term f t u x (a_rule e) = ap (λ g. compound_2 g t u) e
two_term f t u x a_fact_of_two = refl

-- a term is that of its form
pub form_term : (t : Tree) → term_of (form t) ≡ t
form_term (variable n) = refl
form_term (integer z) = refl
form_term (atom f) = refl
form_term (compound f no_trees) = refl
form_term (compound f (tree t no_trees)) = one_term f t _ (one_is f t)
form_term (compound f (tree t (tree u no_trees))) = two_term f t u _ (two_is f t u)
form_term (compound f (tree t (tree u (tree v ts)))) = refl

pub term_is : (t : Tree) (x : Form) → form t ≡ x → t ≡ term_of x
term_is t x e = sym (form_term t) ∙ ap term_of e

-- a fact as a clause is a term of the language, and numbered
pub valid_fact : (h : Tree) → is_valid h ≡ true → is_valid (clause_term h true_body) ≡ true
valid_fact h e = and_from _ _ e refl

pub numbered_fact : (h : Tree) → is_numbered h ≡ true → is_numbered (clause_term h true_body) ≡ true
numbered_fact h e = ap (λ vs. counts_from 0 (firsts vs)) (append-nil (variables h)) ∙ e
