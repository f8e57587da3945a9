-- Items put into the lists of their declarations one after another.
use Rattle.std.proofs.Common.{◌≡◌, ℕ, zero, suc, ◌+◌, ◌<◌, Bool, true, false, nat_eq, List, [], ◌∷◌, ◌++◌, length, Option, Some, None, replicate, refl, sym, ap}
use Rattle.std.proofs.Common.{◌∙◌, subst, append_assoc, append-nil, cond, arith}
use Rattle.std.specs.Prelude.{slice_get, ◌==◌}
use Rattle.std.specs.List.{list_all, All, cons_option}
use Rattle.std.specs.Str.{bytes_eq}
use Rattle.std.proofs.lemmas.Bool.Decides.{nat_tests}
use Rattle.std.proofs.lemmas.List.Elements.{All-nil, All-cons}
use Rattle.ml_term.specs.Tree.{Tree, variable, integer, atom, compound, arity}
use Rattle.ml_term.specs.Valid.{is_valid}
use Rattle.ml_term.specs.declared.declaration.Decl.{Decl}
use Rattle.ml_term.specs.declared.declaration.Kind.{Kind}
use Rattle.ml_term.specs.declared.declaration.Kind.TheVariants.{Relation, Clauses}
use Rattle.ml_term.proofs.KeyColumns.{and_first, and_second}
use Rattle.ml_search.specs.Program.{holds_of, is_of}
use Rattle.ml_search.specs.Db.{is_allowed, is_tuple, is_stored_clause}
use Rattle.ml_search.specs.Loading.{are_items, terms_for, first_list, first_lists_from}
use Rattle.ml_loading.specs.Items.{with_term, gathered, in_order, IsSized, AreSized}
use Rattle.ml_loading.specs.KeyOrder.{size}

-- lists with all items put in
abbrev pub filled : List (List Tree) → List (ℕ × Tree) → List (List Tree)
filled lists [] = lists
filled lists (e ∷ es) = filled (with_term lists e.0 e.1) es

-- each list with the terms of its items behind it, the first list's place being d
abbrev joined : ℕ → List (List Tree) → List (ℕ × Tree) → List (List Tree)
joined d [] es = []
joined d (ts ∷ lists) es = (ts ++ terms_for d es) ∷ joined (1 + d) lists es

other_place : (d k : ℕ) (t : Tree) (es : List (ℕ × Tree)) → nat_eq k d ≡ false → terms_for d ((k, t) ∷ es) ≡ terms_for d es
other_place d k t es e = ap (λ b. cons_option (cond b (Some t) None) (terms_for d es)) e

this_place : (d k : ℕ) (t : Tree) (es : List (ℕ × Tree)) → nat_eq k d ≡ true → terms_for d ((k, t) ∷ es) ≡ t ∷ terms_for d es
this_place d k t es e = ap (λ b. cons_option (cond b (Some t) None) (terms_for d es)) e

earlier : (d k : ℕ) (t : Tree) (lists : List (List Tree)) (es : List (ℕ × Tree)) → k < d → joined d lists ((k, t) ∷ es) ≡ joined d lists es
earlier d k t [] es h = refl
earlier d k t (ts ∷ lists) es h =
    let other : nat_eq k d ≡ false = grind (arith, nat_tests) in
    ap (λ us. (ts ++ us) ∷ joined (1 + d) lists ((k, t) ∷ es)) (other_place d k t es other)
    ∙ ap (λ us. (ts ++ terms_for d es) ∷ us) (earlier (1 + d) k t lists es (omega arith))

put_behind : (d k : ℕ) (t : Tree) (lists : List (List Tree)) (es : List (ℕ × Tree)) (p : ℕ) → p ≡ d + k →
    joined d (with_term lists k t) es ≡ joined d lists ((p, t) ∷ es)
put_behind d k t [] es p q = refl
put_behind d zero t (ts ∷ lists) es p q =
    let this : nat_eq p d ≡ true = grind (arith, nat_tests) in
    ap (λ us. us ∷ joined (1 + d) lists es) (append_assoc ts (t ∷ []) (terms_for d es) ∙ ap (λ us. ts ++ us) (sym (this_place d p t es this)))
    ∙ ap (λ us. (ts ++ terms_for d ((p, t) ∷ es)) ∷ us) (sym (earlier (1 + d) p t lists es (omega (arith, q))))
put_behind d (suc k) t (ts ∷ lists) es p q =
    let other : nat_eq p d ≡ false = grind (arith, nat_tests) in
    ap (λ us. (ts ++ us) ∷ joined (1 + d) (with_term lists k t) es) (sym (other_place d p t es other))
    ∙ ap (λ us. (ts ++ terms_for d ((p, t) ∷ es)) ∷ us) (put_behind (1 + d) k t lists es p (omega (arith, q)))

nothing_behind : (d : ℕ) (lists : List (List Tree)) → joined d lists [] ≡ lists
nothing_behind d [] = refl
nothing_behind d (ts ∷ lists) = ap (λ us. us ∷ joined (1 + d) lists []) (append-nil ts) ∙ ap (λ us. ts ∷ us) (nothing_behind (1 + d) lists)

filled_is : (lists : List (List Tree)) (es : List (ℕ × Tree)) → filled lists es ≡ joined 0 lists es
filled_is lists [] = sym (nothing_behind 0 lists)
filled_is lists (e ∷ es) = filled_is (with_term lists e.0 e.1) es ∙ put_behind 0 e.0 e.1 lists es e.0 (omega arith)

from_nothing : (d : ℕ) (ds : List Decl) (es : List (ℕ × Tree)) → joined d (replicate (length ds) []) es ≡ gathered d ds es
from_nothing d [] es = refl
from_nothing d (q ∷ ds) es = ap (λ us. terms_for d es ∷ us) (from_nothing (1 + d) ds es)

pub all_gathered : (ds : List Decl) (es : List (ℕ × Tree)) → filled (replicate (length ds) []) es ≡ gathered 0 ds es
all_gathered ds es = filled_is (replicate (length ds) []) es ∙ from_nothing 0 ds es

pub size_kept : (lists : List (List Tree)) (k : ℕ) (t : Tree) → length (with_term lists k t) ≡ length lists
size_kept [] k t = refl
size_kept (ts ∷ lists) zero t = refl
size_kept (ts ∷ lists) (suc k) t = ap suc (size_kept lists k t)

-- the lists in order are the first lists
pub ordered : (d : ℕ) (ds : List Decl) (es : List (ℕ × Tree)) → in_order ds (gathered d ds es) ≡ first_lists_from d ds es
ordered d [] es = refl
ordered d (q ∷ ds) es = ap (λ lists. first_list q.kind q.keys (terms_for d es) ∷ lists) (ordered (1 + d) ds es)

-- what is known of an item of a declaration
pub record IsItem (q : Decl) (t : Tree) : Type 0 where
  pub valid : is_valid t ≡ true
  pub sized : q.kind ≡ Relation → size t ≡ q.pred.arity

size_is : (t : Tree) (f : List ℕ) (n : ℕ) → is_of f n t ≡ true → size t ≡ n
size_is (variable m) f n h = cc
size_is (integer z) f n h = cc
size_is (atom g) f n h = let e : nat_eq 0 n ≡ true = and_second (bytes_eq g f) (0 == n) h in grind (arith, nat_tests)
size_is (compound g ts) f n h = let e : nat_eq (arity ts) n ≡ true = and_second (bytes_eq g f) (arity ts == n) h in grind (arith, nat_tests)

tuple_is : (q : Decl) (t : Tree) → is_tuple q t ≡ true → IsItem q t
tuple_is q t h =
    let of_predicate = and_first _ _ (and_first _ _ h) in
    record {
      valid = and_first _ _ of_predicate;
      sized = λ r. size_is t q.pred.name q.pred.arity (and_second _ _ of_predicate);
    }

clause_is : (q : Decl) (t : Tree) → q.kind ≡ Clauses → is_stored_clause q t ≡ true → IsItem q t
clause_is q t e h = record {
  valid = and_first _ _ (and_first _ _ (and_first _ _ (and_first _ _ (and_first _ _ h))));
  sized = λ r. cc;
}

item_by : (q : Decl) (k : Kind) (t : Tree) → q.kind ≡ k → is_allowed q t ≡ true → IsItem q t
item_by q Relation t e h = let is : is_tuple q t ≡ true = sym (rw e refl) ∙ h in tuple_is q t is
item_by q Clauses t e h = let is : is_stored_clause q t ≡ true = sym (rw e refl) ∙ h in clause_is q t e is

-- the declaration at an item's place
abbrev pub IsItemAt : Option Decl → Tree → Type 0
IsItemAt None t = ⊥
IsItemAt (Some q) t = IsItem q t

item_at : (o : Option Decl) (t : Tree) → holds_of (λ d. is_allowed d t) o ≡ true → IsItemAt o t
item_at None t h = cc
item_at (Some q) t h = item_by q q.kind t refl h

-- all items are items of their declarations
abbrev pub AllItems : List Decl → List (ℕ × Tree) → Type 0
AllItems ds [] = Unit {0}
AllItems ds (e ∷ es) = IsItemAt (slice_get ds e.0) e.1 × AllItems ds es

pub all_items : (ds : List Decl) (es : List (ℕ × Tree)) → are_items ds es ≡ true → AllItems ds es
all_items ds [] h = tt
all_items ds (e ∷ es) h = (
  item_at (slice_get ds e.0) e.1 (and_first (holds_of (λ d. is_allowed d e.1) (slice_get ds e.0)) (are_items ds es) h),
  all_items ds es (and_second (holds_of (λ d. is_allowed d e.1) (slice_get ds e.0)) (are_items ds es) h),
)

-- an item's place is that of a declaration
pub within : (ds : List Decl) (k : ℕ) (t : Tree) → IsItemAt (slice_get ds k) t → k < length ds
within [] k t h = absurd h
within (q ∷ ds) zero t h = omega arith
within (q ∷ ds) (suc k) t h = omega (arith, within ds k t h)

pub item_valid : (o : Option Decl) (t : Tree) → IsItemAt o t → is_valid t ≡ true
item_valid None t h = absurd h
item_valid (Some q) t h = h.valid

-- the lists that are gathered have terms of the right sizes
abbrev HasSize : Decl → Tree → Type 0
HasSize q t = size t ≡ q.pred.arity

item_sized : (o : Option Decl) (q : Decl) (t : Tree) → o ≡ Some q → q.kind ≡ Relation → IsItemAt o t → HasSize q t
item_sized None q t e r h = cc
item_sized (Some p) q t e r h =
    let same : p ≡ q = cc in subst (λ q. HasSize q t) same (h.sized (ap (λ (d : Decl). d.kind) same ∙ r))

terms_sized : (ds : List Decl) (d : ℕ) (q : Decl) (es : List (ℕ × Tree)) → slice_get ds d ≡ Some q → AllItems ds es → IsSized q (terms_for d es)
terms_sized ds d q [] e h r = All-nil (HasSize q)
terms_sized ds d q (x ∷ es) e h r = by (terms_sized ds d q es e h.1 r) (nat_eq x.0 d) refl
  where
    by : All (HasSize q) (terms_for d es) → (b : Bool) → nat_eq x.0 d ≡ b → All (HasSize q) (cons_option (cond b (Some x.1) None) (terms_for d es))
    by rest true p =
        let same : x.0 ≡ d = grind (arith, nat_tests) in
        All-cons (HasSize q) x.1 (terms_for d es) (item_sized (slice_get ds x.0) q x.1 (ap (slice_get ds) same ∙ e) r h.0) rest
    by rest false p = rest

sized_from : (ds : List Decl) (d : ℕ) (qs : List Decl) (es : List (ℕ × Tree)) → ((k : ℕ) → slice_get ds (d + k) ≡ slice_get qs k) → AllItems ds es →
    AreSized qs (gathered d qs es)
sized_from ds d [] es same h = tt
sized_from ds d (q ∷ qs) es same h =
    let here : d ≡ d + 0 = omega arith in (
      terms_sized ds d q es (ap (slice_get ds) here ∙ same 0) h,
      sized_from ds (1 + d) qs es (λ k. let next : (1 + d) + k ≡ d + suc k = omega arith in ap (slice_get ds) next ∙ same (suc k)) h,
    )

pub are_sized : (ds : List Decl) (es : List (ℕ × Tree)) → AllItems ds es → AreSized ds (gathered 0 ds es)
are_sized ds es h = sized_from ds 0 ds es (λ k. let same : 0 + k ≡ k = omega arith in ap (slice_get ds) same) h
