-- Codes are put where their predicate stands in the table.
use Rattle.std.proofs.Common.{◌≡◌, ℕ, suc, zero, ◌<◌, ◌+◌, ◌^◌, Bool, true, false, ◌&&◌, ◌==◌, List, [], ◌∷◌, ◌++◌, length, map, Some, None, refl, ap, ◌∙◌, cond, set, arith}
use Rattle.std.specs.Prelude.{Option, option_map, position, slice_get}
use Rattle.std.specs.List.{position_from}
use Rattle.std.specs.Str.{bytes_eq}
use Rattle.std.proofs.lemmas.Iterator.Adapters.{position_from-zero}
use Rattle.ml_term.specs.declared.declaration.Pred.{Pred}
use Rattle.ml_search.proofs.DeclarationsFound.{equal_swapped, names_swapped}
use Rattle.ml_compile.specs.declared.instr.Instr.{Instr}
use Rattle.ml_program.specs.LoadedProgram.{PredicateCodes}
use Rattle.ml_program.specs.inside.Filing.{are_of, filed_place, with_code, EachIsFew}
use Rattle.ml_program.specs.inside.Linking.{is_same}

-- the test of the table, the other way round
pub same_are : (p : Pred) (d : PredicateCodes) → is_same p d.pred ≡ are_of p.name p.arity d
same_are p d =
    ap (λ b. b && (p.arity == d.pred.arity)) (names_swapped p.name d.pred.name)
    ∙ ap (λ b. bytes_eq d.pred.name p.name && b) (equal_swapped p.arity d.pred.arity)

one_further : (i : ℕ) (r : Option ℕ) → option_map (λ k. (i + 1) + k) r ≡ option_map (λ k. i + k) (option_map suc r)
one_further i None = refl
one_further i (Some k) = let e : (i + 1) + k ≡ i + suc k = omega arith in ap Some e

from_place : (p : Pred) (i : ℕ) (ds : List PredicateCodes) →
    position_from (is_same p) i (map (λ d. d.pred) ds) ≡ option_map (λ k. i + k) (filed_place ds p.name p.arity)
from_place p i [] = refl
from_place p i (d ∷ ds) =
    ap (λ b. cond b (Some i) (position_from (is_same p) (i + 1) (map (λ d. d.pred) ds))) (same_are p d)
    ∙ by (are_of p.name p.arity d) (from_place p (i + 1) ds ∙ one_further i (filed_place ds p.name p.arity))
  where
    by : (b : Bool) → position_from (is_same p) (i + 1) (map (λ d. d.pred) ds) ≡ option_map (λ k. i + k) (option_map suc (filed_place ds p.name p.arity))
        →
        cond b (Some i) (position_from (is_same p) (i + 1) (map (λ d. d.pred) ds))
        ≡ option_map (λ k. i + k) (cond b (Some 0) (option_map suc (filed_place ds p.name p.arity)))
    by true e = let e : i ≡ i + 0 = omega arith in ap Some e
    by false e = e

from_none : (r : Option ℕ) → option_map (λ k. 0 + k) r ≡ r
from_none None = refl
from_none (Some k) = let e : 0 + k ≡ k = omega arith in ap Some e

-- the place of a predicate among those of codes is that of its codes
pub place_is : (p : Pred) (ds : List PredicateCodes) → position (is_same p) (map (λ d. d.pred) ds) ≡ filed_place ds p.name p.arity
place_is p ds =
    position_from-zero (is_same p) (map (λ d. d.pred) ds) ∙ from_place p 0 ds ∙ from_none (filed_place ds p.name p.arity)

-- codes of a predicate that has some are written back at its place
pub with_code_there : (ds : List PredicateCodes) (p : Pred) (code : List Instr) (i : ℕ) (d : PredicateCodes) →
    filed_place ds p.name p.arity ≡ Some i → slice_get ds i ≡ Some d →
    with_code ds p code ≡ set ds i (record { pred = d.pred; codes = d.codes ++ code ∷ [] })
with_code_there [] p code i d place at = absurd (cc place)
with_code_there (e ∷ ds) p code i d place at = by (are_of p.name p.arity e) (filed_place ds p.name p.arity) i refl place at
    (λ j is at. with_code_there ds p code j d is at)
  where
    by : (b : Bool) (r : Option ℕ) (i : ℕ) → filed_place ds p.name p.arity ≡ r → cond b (Some 0) (option_map suc r) ≡ Some i →
        slice_get (e ∷ ds) i ≡ Some d →
        ((j : ℕ) → filed_place ds p.name p.arity ≡ Some j → slice_get ds j ≡ Some d →
        with_code ds p code ≡ set ds j (record { pred = d.pred; codes = d.codes ++ code ∷ [] })) →
        cond b (record { pred = e.pred; codes = e.codes ++ code ∷ [] } ∷ ds) (e ∷ with_code ds p code)
        ≡ set (e ∷ ds) i (record { pred = d.pred; codes = d.codes ++ code ∷ [] })
    by true r zero is place at again =
        let same : e ≡ d = cc at in ap (λ (x : PredicateCodes). record { pred = x.pred; codes = x.codes ++ code ∷ [] } ∷ ds) same
    by true r (suc i) is place at again = absurd (cc place)
    by false None i is place at again = absurd (cc place)
    by false (Some k) zero is place at again = absurd (cc place)
    by false (Some k) (suc i) is place at again =
        let same : k ≡ i = cc place in ap (λ l. e ∷ l) (again i (is ∙ ap Some same) at)

-- codes of a predicate that has none go behind all others
pub with_code_new : (ds : List PredicateCodes) (p : Pred) (code : List Instr) → filed_place ds p.name p.arity ≡ None →
    with_code ds p code ≡ ds ++ record { pred = p; codes = code ∷ [] } ∷ []
with_code_new [] p code none = refl
with_code_new (d ∷ ds) p code none = by (are_of p.name p.arity d) (filed_place ds p.name p.arity) refl none (with_code_new ds p code)
  where
    by : (b : Bool) (r : Option ℕ) → filed_place ds p.name p.arity ≡ r → cond b (Some 0) (option_map suc r) ≡ None →
        (filed_place ds p.name p.arity ≡ None → with_code ds p code ≡ ds ++ record { pred = p; codes = code ∷ [] } ∷ []) →
        cond b (record { pred = d.pred; codes = d.codes ++ code ∷ [] } ∷ ds) (d ∷ with_code ds p code)
        ≡ d ∷ (ds ++ record { pred = p; codes = code ∷ [] } ∷ [])
    by true r is none again = absurd (cc none)
    by false None is none again = ap (λ l. d ∷ l) (again is)
    by false (Some k) is none again = absurd (cc none)

pub few_set : (ds : List PredicateCodes) (i : ℕ) (d : PredicateCodes) → EachIsFew ds → length d.codes < 2 ^ 32 → EachIsFew (set ds i d)
few_set [] i d few one = tt
few_set (e ∷ ds) zero d few one = (one, few.1)
few_set (e ∷ ds) (suc i) d few one = (few.0, few_set ds i d few.1 one)

pub few_more : (ds : List PredicateCodes) (d : PredicateCodes) → EachIsFew ds → length d.codes < 2 ^ 32 → EachIsFew (ds ++ d ∷ [])
few_more [] d few one = (one, tt)
few_more (e ∷ ds) d few one = (few.0, few_more ds d few.1 one)
