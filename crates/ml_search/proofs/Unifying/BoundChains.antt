-- What a bound variable stands for, and that chains of bound variables end.
use Rattle.std.specs.Prelude.{◌≡◌, ℕ, ◌+◌, ◌<◌, true, cond, [], ◌∷◌, map, Some, None}
use Rattle.std.specs.List.{list_all}
use Rattle.std.proofs.Common.{refl, sym, ap, ◌∙◌, arith}
use Rattle.std.proofs.lemmas.Bool.{and_parts, ltb-true}
use Rattle.std.proofs.lemmas.Bool.Decides.{eqb_tells}
use Rattle.std.proofs.Common.{inl, inr}
use Rattle.ml_term.specs.Tree.{Tree, variable, integer, atom, compound}
use Rattle.ml_term.specs.Unify.{Map, apply, value_of}
use Rattle.ml_search.specs.MapSeen.{bound_term}
use Rattle.ml_search.specs.inside.Triangular.{map_of, is_older, IsTriangular}

abbrev terms_by : Map → Map → Map
terms_by m bs = map (λ b. (b.0, apply m b.1)) bs

value_found : (m bs : Map) (n : ℕ) (t : Tree) → bound_term bs n ≡ Some t → value_of (terms_by m bs) n ≡ apply m t
value_found m [] n t e = absurd (cc e)
value_found m (b ∷ bs) n t e = elim (eqb_tells b.0 n) [
  | inl q ↦ let is : Some b.1 ≡ Some t = ap (λ c. cond c (Some b.1) (bound_term bs n)) (sym q.0) ∙ e in rw q.0 (ap (apply m) (cc is))
  | inr q ↦ rw q.0 (value_found m bs n t (ap (λ c. cond c (Some b.1) (bound_term bs n)) (sym q.0) ∙ e))
]

value_free : (m bs : Map) (n : ℕ) → bound_term bs n ≡ None → value_of (terms_by m bs) n ≡ variable n
value_free m [] n e = refl
value_free m (b ∷ bs) n e = elim (eqb_tells b.0 n) [
  | inl q ↦ let is : Some b.1 ≡ None = ap (λ c. cond c (Some b.1) (bound_term bs n)) (sym q.0) ∙ e in absurd (cc is)
  | inr q ↦ rw q.0 (value_free m bs n (ap (λ c. cond c (Some b.1) (bound_term bs n)) (sym q.0) ∙ e))
]

pub stands_for_bound : (bs : Map) (n : ℕ) (t : Tree) → IsTriangular bs → bound_term bs n ≡ Some t → apply (map_of bs) (variable n) ≡ apply (map_of bs) t
stands_for_bound bs n t h e = ap (λ m. value_of m n) h.resolved ∙ value_found (map_of bs) bs n t e

pub stands_for_itself : (bs : Map) (n : ℕ) → IsTriangular bs → bound_term bs n ≡ None → apply (map_of bs) (variable n) ≡ variable n
stands_for_itself bs n h e = ap (λ m. value_of m n) h.resolved ∙ value_free (map_of bs) bs n e

older_one : (bs : Map) (n : ℕ) (t : Tree) → list_all (λ b. is_older b.0 b.1) bs ≡ true → bound_term bs n ≡ Some t → is_older n t ≡ true
older_one [] n t h e = absurd (cc e)
older_one (b ∷ bs) n t h e =
    let parts = and_parts (is_older b.0 b.1) (list_all (λ b. is_older b.0 b.1) bs) h in
    elim (eqb_tells b.0 n) [
      | inl q ↦ let is : Some b.1 ≡ Some t = ap (λ c. cond c (Some b.1) (bound_term bs n)) (sym q.0) ∙ e in cc (parts.0, is, q.1)
      | inr q ↦ older_one bs n t parts.1 (ap (λ c. cond c (Some b.1) (bound_term bs n)) (sym q.0) ∙ e)
    ]

-- how long a chain of variables can be from a term on
abbrev pub age : Tree → ℕ
age (variable n) = 1 + n
age (integer z) = 0
age (atom f) = 0
age (compound f ts) = 0

ages_fall : (n : ℕ) (t : Tree) → is_older n t ≡ true → age t < age (variable n)
ages_fall n (variable k) h = omega (arith, ltb-true k n h)
ages_fall n (integer z) h = omega arith
ages_fall n (atom f) h = omega arith
ages_fall n (compound f ts) h = omega arith

pub chain_falls : (bs : Map) (n : ℕ) (t : Tree) → IsTriangular bs → bound_term bs n ≡ Some t → age t < age (variable n)
chain_falls bs n t h e = ages_fall n t (older_one bs n t h.older e)

-- what a map has for a variable
pub value_is : (m : Map) (n : ℕ) (t : Tree) → bound_term m n ≡ Some t → value_of m n ≡ t
value_is [] n t e = absurd (cc e)
value_is (b ∷ bs) n t e = elim (eqb_tells b.0 n) [
  | inl q ↦ let is : Some b.1 ≡ Some t = ap (λ c. cond c (Some b.1) (bound_term bs n)) (sym q.0) ∙ e in rw q.0 (cc is)
  | inr q ↦ rw q.0 (value_is bs n t (ap (λ c. cond c (Some b.1) (bound_term bs n)) (sym q.0) ∙ e))
]

pub value_is_itself : (m : Map) (n : ℕ) → bound_term m n ≡ None → value_of m n ≡ variable n
value_is_itself [] n e = refl
value_is_itself (b ∷ bs) n e = elim (eqb_tells b.0 n) [
  | inl q ↦ let is : Some b.1 ≡ None = ap (λ c. cond c (Some b.1) (bound_term bs n)) (sym q.0) ∙ e in absurd (cc is)
  | inr q ↦ rw q.0 (value_is_itself bs n (ap (λ c. cond c (Some b.1) (bound_term bs n)) (sym q.0) ∙ e))
]
