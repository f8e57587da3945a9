-- Declarations are found by their predicates.
use Rattle.std.specs.Prelude.{◌≡◌, ℕ, zero, suc, ◌+◌, ◌<◌, Bool, true, false, ◌&&◌, ◌==◌, cond, List, [], ◌∷◌, ◌++◌, length, map, take, position}
use Rattle.std.specs.Prelude.{slice_get, Option, Some, None, option_map, is_none}
use Rattle.std.specs.List.{position_from}
use Rattle.std.specs.Map.{lookup, keys_of}
use Rattle.std.specs.Str.{bytes_eq}
use Rattle.std.specs.Cmp.Lexicographic.{bytes_decides}
use Rattle.std.proofs.Common.{refl, sym, ap, ◌∙◌, arith}
use Rattle.std.proofs.lemmas.Bool.{and_parts, and_from, eqb-true, eq-eqb, true≢false}
use Rattle.std.proofs.lemmas.Bool.Decides.{same_from_decides}
use Rattle.std.proofs.lemmas.Iterator.Adapters.{position_from-zero}
use Rattle.std.proofs.lemmas.Option.{slice_get_within, get_or_from_slice_get}
use Rattle.std.proofs.lemmas.List.{take_more, length-append, map-append}
use Rattle.ml_term.specs.declared.declaration.Decl.{Decl}
use Rattle.ml_term.specs.declared.declaration.Pred.{Pred}
use Rattle.ml_search.specs.Limits.{max_declarations}
use Rattle.ml_search.specs.Program.{has_predicate, place_of}
use Rattle.ml_search.specs.WellFormed.{are_declared_once}
use Rattle.ml_search.specs.inside.DeclTable.{IsDeclared}

-- the test of the table
abbrev pub is_same : Pred → Pred → Bool
is_same p q = bytes_eq p.name q.name && (p.arity == q.arity)

pub equal_swapped : (m n : ℕ) → (m == n) ≡ (n == m)
equal_swapped m n =
    same_from_decides {P = m ≡ n} (m == n) (n == m) (eqb-true m n, eq-eqb m n) ((λ e. sym (eqb-true n m e)), (λ e. eq-eqb n m (sym e)))

pub names_swapped : (f g : List ℕ) → bytes_eq f g ≡ bytes_eq g f
names_swapped f g =
    same_from_decides {P = f ≡ g} (bytes_eq f g) (bytes_eq g f) (bytes_decides f g) ((λ e. sym ((bytes_decides g f).0 e)), (λ e. (bytes_decides g f).1 (sym e)))

pub same_has : (p : Pred) (d : Decl) → is_same p d.pred ≡ has_predicate p.name p.arity d
same_has p d =
    ap (λ b. b && (p.arity == d.pred.arity)) (names_swapped p.name d.pred.name)
    ∙ ap (λ b. bytes_eq d.pred.name p.name && b) (equal_swapped p.arity d.pred.arity)

has_swapped : (c d : Decl) → has_predicate c.pred.name c.pred.arity d ≡ has_predicate d.pred.name d.pred.arity c
has_swapped c d = sym (same_has c.pred d)

one_further : (i : ℕ) (r : Option ℕ) → option_map (λ k. (i + 1) + k) r ≡ option_map (λ k. i + k) (option_map suc r)
one_further i None = refl
one_further i (Some k) = let e : (i + 1) + k ≡ i + suc k = omega arith in ap Some e

from_place : (p : Pred) (i : ℕ) (ds : List Decl) → position_from (is_same p) i (map (λ d. d.pred) ds) ≡ option_map (λ k. i + k) (place_of ds p.name p.arity)
from_place p i [] = refl
from_place p i (d ∷ ds) =
    ap (λ b. cond b (Some i) (position_from (is_same p) (i + 1) (map (λ d. d.pred) ds))) (same_has p d)
    ∙ by (has_predicate p.name p.arity d) (from_place p (i + 1) ds ∙ one_further i (place_of ds p.name p.arity))
  where
    by : (b : Bool) → position_from (is_same p) (i + 1) (map (λ d. d.pred) ds) ≡ option_map (λ k. i + k) (option_map suc (place_of ds p.name p.arity))
        →
        cond b (Some i) (position_from (is_same p) (i + 1) (map (λ d. d.pred) ds))
        ≡ option_map (λ k. i + k) (cond b (Some 0) (option_map suc (place_of ds p.name p.arity)))
    by true e = let e : i ≡ i + 0 = omega arith in ap Some e
    by false e = e

from_none : (r : Option ℕ) → option_map (λ k. 0 + k) r ≡ r
from_none None = refl
from_none (Some k) = let e : 0 + k ≡ k = omega arith in ap Some e

preds : (es : List (Pred × Decl)) → map (λ e. e.1.pred) es ≡ map (λ d. d.pred) (map (λ e. e.1) es)
preds [] = refl
preds (e ∷ es) = ap (λ ps. e.1.pred ∷ ps) (preds es)

-- where the declarations stand under their predicates, the place of a predicate among the keys is that of its declaration
pub place_is : (p : Pred) (es : List (Pred × Decl)) → IsDeclared es → position (is_same p) (keys_of es) ≡ place_of (map (λ e. e.1) es) p.name p.arity
place_is p es d =
    position_from-zero (is_same p) (keys_of es)
    ∙ ap (position_from (is_same p) 0) (d.by_predicate ∙ preds es)
    ∙ from_place p 0 (map (λ e. e.1) es)
    ∙ from_none _

not_some : (b : Bool) (r : Option ℕ) → cond b (Some 0) (option_map suc r) ≡ None → (b ≡ false) × (r ≡ None)
not_some true r e = cc
not_some false None e = (refl, refl)
not_some false (Some k) e = cc

-- a predicate that isn't declared is no key
pub no_key : (p : Pred) (es : List (Pred × Decl)) → map (λ e. e.0) es ≡ map (λ e. e.1.pred) es → place_of (map (λ e. e.1) es) p.name p.arity ≡ None
    → lookup (is_same p) es ≡ None
no_key p [] keyed none = refl
no_key p (e ∷ es) keyed none =
    let first : e.0 ≡ e.1.pred = cc keyed in
    let others : map (λ e. e.0) es ≡ map (λ e. e.1.pred) es = cc keyed in
    let here = not_some _ _ none in
    ap (λ b. cond b (Some e.1) (lookup (is_same p) es)) (ap (is_same p) first ∙ same_has p e.1 ∙ here.0) ∙ no_key p es others here.1

none_with_other : (f : List ℕ) (n : ℕ) (ds : List Decl) (d : Decl) → place_of ds f n ≡ None → has_predicate f n d ≡ false → place_of (ds ++ d ∷ []) f n ≡ None
none_with_other f n [] d none other = ap (λ b. cond b (Some 0) (option_map suc None)) other
none_with_other f n (c ∷ ds) d none other =
    let here = not_some _ _ none in
    ap (λ b. cond b (Some 0) (option_map suc (place_of (ds ++ d ∷ []) f n))) here.0 ∙ ap (option_map suc) (none_with_other f n ds d here.1 other)

is_none_none : (r : Option ℕ) → is_none r ≡ true → r ≡ None
is_none_none None e = refl
is_none_none (Some k) e = absurd (true≢false (sym e))

-- one more declaration, of another predicate
pub once_more : (ds : List Decl) (d : Decl) → are_declared_once ds ≡ true → place_of ds d.pred.name d.pred.arity ≡ None →
    are_declared_once (ds ++ d ∷ []) ≡ true
once_more [] d once none = refl
once_more (c ∷ ds) d once none =
    let parts = and_parts _ _ once in
    let here = not_some _ _ none in
    and_from _ _ (ap is_none (none_with_other c.pred.name c.pred.arity ds d (is_none_none _ parts.0) (has_swapped c d ∙ here.0)))
    (once_more ds d parts.1 here.1)

none_at : (f : List ℕ) (n : ℕ) (ds : List Decl) (i : ℕ) (d : Decl) → place_of ds f n ≡ None → slice_get ds i ≡ Some d → has_predicate f n d ≡ false
none_at f n [] i d none at = cc
none_at f n (c ∷ ds) zero d none at = let e : c ≡ d = cc in ap (has_predicate f n) (sym e) ∙ (not_some _ _ none).0
none_at f n (c ∷ ds) (suc i) d none at = none_at f n ds i d (not_some _ _ none).1 at

-- the declarations before one are of other predicates
pub others_before : (ds : List Decl) (i : ℕ) (d : Decl) → are_declared_once ds ≡ true → slice_get ds i ≡ Some d →
    place_of (take i ds) d.pred.name d.pred.arity ≡ None
others_before [] i d once at = cc
others_before (c ∷ ds) zero d once at = refl
others_before (c ∷ ds) (suc i) d once at =
    let parts = and_parts _ _ once in
    ap (λ b. cond b (Some 0) (option_map suc (place_of (take i ds) d.pred.name d.pred.arity)))
    (has_swapped d c ∙ none_at c.pred.name c.pred.arity ds i d (is_none_none _ parts.0) at)
    ∙ ap (option_map suc) (others_before ds i d parts.1 at)

-- the list up to an item, and this item
pub up_to : {X : Type 0} (xs : List X) (i : ℕ) (x : X) → slice_get xs i ≡ Some x → take i xs ++ x ∷ [] ≡ take (i + 1) xs
up_to xs i x at = sym (take_more xs i x (slice_get_within xs i x at) ∙ ap (λ y. take i xs ++ y ∷ []) (get_or_from_slice_get xs i x x at))

-- a table with one more declaration, of another predicate
pub declared_more : (es : List (Pred × Decl)) (p : Pred) (d : Decl) → IsDeclared es → p ≡ d.pred →
    place_of (map (λ e. e.1) es) d.pred.name d.pred.arity ≡ None → length es < max_declarations
    → IsDeclared (es ++ (p, d) ∷ [])
declared_more es p d h same none few = record {
  by_predicate =
      map-append (λ e. e.0) es ((p, d) ∷ []) ∙ ap (λ ps. ps ++ p ∷ []) h.by_predicate ∙ ap (λ q. map (λ e. e.1.pred) es ++ q ∷ []) same
      ∙ sym (map-append (λ e. e.1.pred) es ((p, d) ∷ []));
  once = ap are_declared_once (map-append (λ e. e.1) es ((p, d) ∷ [])) ∙ once_more (map (λ e. e.1) es) d h.once none;
  few = omega (arith, length-append es ((p, d) ∷ []));
}

-- the declaration at the place of a predicate is one of it
pub declared_at : (ds : List Decl) (f : List ℕ) (n k : ℕ) → place_of ds f n ≡ Some k → (d : Decl) × (slice_get ds k ≡ Some d) × (has_predicate f n d ≡ true)
declared_at [] f n k e = cc
declared_at (d ∷ ds) f n k e = by (has_predicate f n d) refl (place_of ds f n) refl e (declared_at ds f n)
  where
    later : (j : ℕ) → suc j ≡ k → (c : Decl) × (slice_get ds j ≡ Some c) × (has_predicate f n c ≡ true) →
        (c : Decl) × (slice_get (d ∷ ds) k ≡ Some c) × (has_predicate f n c ≡ true)
    later j same h = (h.0, sym (ap (slice_get (d ∷ ds)) same) ∙ h.1, h.2)

    by : (b : Bool) → has_predicate f n d ≡ b → (r : Option ℕ) → place_of ds f n ≡ r → cond b (Some 0) (option_map suc r) ≡ Some k
        → ((j : ℕ) → place_of ds f n ≡ Some j → (c : Decl) × (slice_get ds j ≡ Some c) × (has_predicate f n c ≡ true))
        → (c : Decl) × (slice_get (d ∷ ds) k ≡ Some c) × (has_predicate f n c ≡ true)
    by true here r there h found = let same : 0 ≡ k = cc h in (d, sym (ap (slice_get (d ∷ ds)) same), here)
    by false here None there h found = cc h
    by false here (Some j) there h found = let same : suc j ≡ k = cc h in later j same (found j there)

none_in_front : (f : List ℕ) (n : ℕ) (ds es : List Decl) → place_of (ds ++ es) f n ≡ None → place_of ds f n ≡ None
none_in_front f n [] es none = refl
none_in_front f n (d ∷ ds) es none =
    let here = not_some _ _ none in
    ap (λ b. cond b (Some 0) (option_map suc (place_of ds f n))) here.0 ∙ ap (option_map suc) (none_in_front f n ds es here.1)

none_behind : (f : List ℕ) (n : ℕ) (ds es : List Decl) → place_of (ds ++ es) f n ≡ None → place_of es f n ≡ None
none_behind f n [] es none = none
none_behind f n (d ∷ ds) es none = none_behind f n ds es (not_some _ _ none).1

-- a declaration among others is of another predicate than those before it
pub declared_before : (ds : List Decl) (d : Decl) (es : List Decl) → are_declared_once (ds ++ d ∷ es) ≡ true →
    (are_declared_once ds ≡ true) × (place_of ds d.pred.name d.pred.arity ≡ None)
declared_before [] d es once = (refl, refl)
declared_before (c ∷ ds) d es once =
    let parts = and_parts _ _ once in
    let rest = declared_before ds d es parts.1 in
    let apart = is_none_none _ parts.0 in (
      and_from _ _ (ap is_none (none_in_front c.pred.name c.pred.arity ds (d ∷ es) apart)) rest.0,
      ap (λ b. cond b (Some 0) (option_map suc (place_of ds d.pred.name d.pred.arity)))
          (has_swapped d c ∙ (not_some _ _ (none_behind c.pred.name c.pred.arity ds (d ∷ es) apart)).0)
          ∙ ap (option_map suc) rest.1,
    )
