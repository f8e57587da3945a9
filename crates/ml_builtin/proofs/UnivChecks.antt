-- The checks of `=../2`, and its two ways.
use Rattle.std.specs.Prelude.{◌≡◌, ℕ, ◌<◌, ◌≤◌, nat_lt, true, false, ◌&&◌, not, List, [], ◌∷◌, map, length, get_or, codes, Option, Some, None, ◌==◌}
use Rattle.std.proofs.Common.{refl, sym, ap, ◌∙◌, subst, arith}
use Rattle.std.proofs.lemmas.Bool.Decides.{nat_tests}
use Rattle.ml_term.specs.Tree.{Tree, list_of}
use Rattle.ml_term.specs.Keys.{arguments}
use Rattle.ml_term.specs.declared.term.Term.{Term}
use Rattle.ml_heap.specs.Changes.{Changes, stands_for}
use Rattle.ml_search.specs.Builtins.{unify_result, result_unless, name_term, univ, univ_fault, first_element, term_of_list}
use Rattle.ml_search.specs.Errors.{instantiation_error, type_error, domain_error, arity_error}
use Rattle.ml_search.specs.ListTerms.{list_term, elements, is_list, is_nil, ends_in_variable}
use Rattle.ml_search.specs.TypeTests.{is_variable, is_atom, is_compound}
use Rattle.ml_builtin.specs.declared.outcome.Outcome.{Outcome}
use Rattle.ml_builtin.specs.declared.outcome.Outcome.TheVariants.{Raised}
use Rattle.ml_builtin.specs.Outcomes.{Agrees}
use Rattle.ml_builtin.specs.inside.Faults.{IsFault, head_fault}
use Rattle.ml_builtin.proofs.FaultChecks.{not_both, not_false, passed, raised_result, sound_result}
use Rattle.ml_builtin.proofs.ListElements.{as_many, some_is_no_nil, the_first}

-- `=../2`
module _ (l h : Tree) (n : ℕ) where
  module _ (bound : ends_in_variable l ≡ false) where
    module _ (proper : is_list l ≡ true) where
      pub univ_nil : is_nil l ≡ true → univ_fault l h n ≡ Some (domain_error (codes "non_empty_list") l)
      univ_nil e = rw (bound, proper, e) refl

      pub univ_head : is_nil l ≡ false → univ_fault l h n ≡ head_fault h n
      univ_head e = rw (bound, proper, e) refl

    pub univ_no_list : is_list l ≡ false → univ_fault l h n ≡ Some (type_error (codes "list") l)
    univ_no_list e = rw (bound, e) refl

  pub univ_unbound : ends_in_variable l ≡ true → univ_fault l h n ≡ Some instantiation_error
  univ_unbound e = rw e refl

-- the first of the elements
module _ (h : Tree) (n : ℕ) where
  module _ (bound : is_variable h ≡ false) where
    module _ (one : ((n == 1) && is_compound h) ≡ false) where
      module _ (named : (nat_lt 1 n && not (is_atom h)) ≡ false) where
        pub head_too_many : nat_lt 256 n ≡ true → head_fault h n ≡ Some arity_error
        head_too_many e = rw (bound, one, named, e) refl

        pub head_has_none : nat_lt 256 n ≡ false → head_fault h n ≡ None
        head_has_none e = rw (bound, one, named, e) refl

      pub head_no_atom : (nat_lt 1 n && not (is_atom h)) ≡ true → head_fault h n ≡ Some (type_error (codes "atom") h)
      head_no_atom e = rw (bound, one, e) refl

    pub head_lone : ((n == 1) && is_compound h) ≡ true → head_fault h n ≡ Some (type_error (codes "atomic") h)
    head_lone e = rw (bound, e) refl

  pub head_unbound : is_variable h ≡ true → head_fault h n ≡ Some instantiation_error
  head_unbound e = rw e refl

above : (n : ℕ) → 1 < n → nat_lt 1 n ≡ true
above n l = grind (arith, nat_tests)

few : (n : ℕ) → nat_lt 256 n ≡ false → n ≤ 256
few n e = grind (arith, nat_tests)

pub more : (n : ℕ) → 256 < n → nat_lt 256 n ≡ true
more n l = grind (arith, nat_tests)

pub no_more_than : (n : ℕ) → n ≤ 256 → nat_lt 256 n ≡ false
no_more_than n l = grind (arith, nat_tests)

pub univ_sound : (l h : Tree) (n : ℕ) → univ_fault l h n ≡ None → (is_list l ≡ true) × (is_nil l ≡ false) × (n ≤ 256) × (1 < n → is_atom h ≡ true)
univ_sound l h n e =
    let p = passed (ends_in_variable l) instantiation_error _ e in
    let q = passed (not (is_list l)) (type_error (codes "list") l) _ p.1 in
    let r = passed (is_nil l) (domain_error (codes "non_empty_list") l) _ q.1 in
    let s = passed (is_variable h) instantiation_error _ r.1 in
    let t = passed ((n == 1) && is_compound h) (type_error (codes "atomic") h) _ s.1 in
    let u = passed (nat_lt 1 n && not (is_atom h)) (type_error (codes "atom") h) _ t.1 in
    let v = passed (nat_lt 256 n) arity_error _ u.1 in (
      not_false (is_list l) q.0,
      r.0,
      few n v.0,
      λ k. not_false (is_atom h) (not_both (nat_lt 1 n) (not (is_atom h)) u.0 (above n k)),
    )

-- the two ways of `=../2`
pub univ_known : (t l : Tree) (next : ℕ) → is_variable t ≡ false
    → univ t l next ≡ unify_result ((l, list_term (name_term t ∷ list_of (arguments t))) ∷ []) next
univ_known t l next e = rw e refl

pub univ_new : (t l : Tree) (next : ℕ) → is_variable t ≡ true
    → univ t l next ≡ result_unless (univ_fault l (first_element (elements l)) (length (elements l))) (unify_result ((t, term_of_list (elements l)) ∷ []) next)
univ_new t l next e = rw e refl

module _ (h h' : Changes) (t l : Tree) (next : ℕ) where
  abbrev fault : Option Tree
  fault = univ_fault l (first_element (elements l)) (length (elements l))

  pub univ_told : (o : Outcome) → is_variable t ≡ false
      → Agrees h h' (unify_result ((l, list_term (name_term t ∷ list_of (arguments t))) ∷ []) next) o → Agrees h h' (univ t l next) o
  univ_told o e x = subst (λ r. Agrees h h' r o) (sym (univ_known t l next e)) x

  pub univ_raised : (u : Term) → is_variable t ≡ true → IsFault fault (Some u) → h' ≡ h → Agrees h h' (univ t l next) (Raised u)
  univ_raised u e f k =
      subst (λ r. Agrees h h' r (Raised u)) (sym (univ_new t l next e))
      (raised_result h h' fault (unify_result ((t, term_of_list (elements l)) ∷ []) next) u f k)

  pub univ_made : (o : Outcome) → is_variable t ≡ true → IsFault fault None
      → Agrees h h' (unify_result ((t, term_of_list (elements l)) ∷ []) next) o → Agrees h h' (univ t l next) o
  univ_made o e f x =
      subst (λ r. Agrees h h' r o) (sym (univ_new t l next e))
      (sound_result h h' fault (unify_result ((t, term_of_list (elements l)) ∷ []) next) o f x)

-- the first element's checks are those that are left
pub head_checks : (h : Changes) (l : Tree) (cells : List ℕ) (n : ℕ) (u : Option Term) → map (stands_for h) cells ≡ elements l → 0 < length cells
    → ends_in_variable l ≡ false → is_list l ≡ true → n ≡ length cells
    → IsFault (head_fault (stands_for h (get_or cells 0 0)) n) u → IsFault (univ_fault l (first_element (elements l)) (length (elements l))) u
head_checks h l cells n u e some bound proper count f =
    let many : n ≡ length (elements l) = count ∙ as_many h l cells e in
    let no_nil : is_nil l ≡ false = some_is_no_nil l (omega (arith, some, as_many h l cells e)) in
    subst (λ o. IsFault o u)
    (ap (λ x. head_fault x n) (the_first h l cells e some)
    ∙ (ap (head_fault (first_element (elements l))) many ∙ sym (univ_head l (first_element (elements l)) (length (elements l)) bound proper no_nil))) f
