-- A clause that is filed under its predicate joins the codes of that predicate, and all others stay as they were.
use Rattle.std.proofs.Common.{◌≡◌, ℕ, suc, Bool, true, false, ◌&&◌, ◌==◌, List, [], ◌∷◌, ◌++◌, Some, None, refl, sym, ap, ◌∙◌, cond, subst, arith, length-append}
use Rattle.std.specs.Prelude.{Option, option_map}
use Rattle.std.specs.Str.{bytes_eq}
use Rattle.std.specs.Cmp.Lexicographic.{bytes_decides}
use Rattle.std.proofs.lemmas.Bool.{and_parts, and_from, eqb-true, eq-eqb}
use Rattle.std.proofs.lemmas.List.Elements.{filter-append}
use Rattle.ml_term.specs.declared.declaration.Pred.{Pred}
use Rattle.ml_search.specs.Program.{Clause, is_of, clauses_of}
use Rattle.ml_search.proofs.DeclarationsFound.{equal_swapped, names_swapped}
use Rattle.ml_compile.specs.declared.instr.Instr.{Instr}
use Rattle.ml_compile.specs.Spells.{SpellsClause}
use Rattle.ml_program.specs.LoadedProgram.{PredicateCodes, SpellEach, none_spelled, one_more_spelled}
use Rattle.ml_program.specs.inside.Filing.{are_of, filed_place, with_code, AreCodesOf, EachIsFiled, AreFiled}

-- whether a predicate is of a name and arity
abbrev pub is_named : Pred → List ℕ → ℕ → Bool
is_named p f n = bytes_eq p.name f && (p.arity == n)

-- a clause is of a predicate
pub record IsClauseOf (c : Clause) (p : Pred) : Type 0 where
  pub is : (f : List ℕ) (n : ℕ) → is_of f n c.head ≡ is_named p f n

pub not_some : (b : Bool) (r : Option ℕ) → cond b (Some 0) (option_map suc r) ≡ None → (b ≡ false) × (r ≡ None)
not_some true r e = absurd (cc e)
not_some false None e = (refl, refl)
not_some false (Some k) e = absurd (cc e)

pub none_behind : (b : Bool) (r : Option ℕ) → b ≡ false → r ≡ None → cond b (Some 0) (option_map suc r) ≡ None
none_behind true r e none = absurd (cc e)
none_behind false None e none = refl
none_behind false (Some k) e none = absurd (cc none)

-- a test of codes for a predicate, the other way round
pub named_swapped : (p : Pred) (d : PredicateCodes) → are_of p.name p.arity d ≡ is_named p d.pred.name d.pred.arity
named_swapped p d =
    ap (λ b. b && (d.pred.arity == p.arity)) (names_swapped d.pred.name p.name)
    ∙ ap (λ b. bytes_eq p.name d.pred.name && b) (equal_swapped d.pred.arity p.arity)

-- a predicate is of its own name and arity
pub itself : (p : Pred) → is_named p p.name p.arity ≡ true
itself p = and_from (bytes_eq p.name p.name) (p.arity == p.arity) ((bytes_decides p.name p.name).1 refl) (eq-eqb p.arity p.arity refl)

-- codes of a predicate have its name and arity
pub same_pred : (p : Pred) (d : PredicateCodes) → are_of p.name p.arity d ≡ true → (d.pred.name ≡ p.name) × (d.pred.arity ≡ p.arity)
same_pred p d e =
    let parts = and_parts (bytes_eq d.pred.name p.name) (d.pred.arity == p.arity) e in
    ((bytes_decides d.pred.name p.name).0 parts.0, eqb-true d.pred.arity p.arity parts.1)

pub one_more_code : {codes : List (List Instr)} {cs : List Clause} {code : List Instr} {c : Clause} → SpellEach codes cs → SpellsClause code c →
    SpellEach (codes ++ code ∷ []) (cs ++ c ∷ [])
one_more_code none_spelled s = one_more_spelled s none_spelled
one_more_code (one_more_spelled h hs) s = one_more_spelled h (one_more_code hs s)

module _ (cs : List Clause) (c : Clause) (p : Pred) (code : List Instr) (of : IsClauseOf c p) (spells : SpellsClause code c) where
  abbrev more : List Clause
  more = cs ++ c ∷ []

  clauses_more : (f : List ℕ) (n : ℕ) → clauses_of more f n ≡ clauses_of cs f n ++ cond (is_named p f n) (c ∷ []) []
  clauses_more f n =
      filter-append (λ (k : Clause). is_of f n k.head) cs (c ∷ [])
      ∙ ap (λ b. clauses_of cs f n ++ cond b (c ∷ []) []) (of.is f n)

  clauses_join : (f : List ℕ) (n : ℕ) → is_named p f n ≡ true → clauses_of more f n ≡ clauses_of cs f n ++ c ∷ []
  clauses_join f n e = clauses_more f n ∙ ap (λ b. clauses_of cs f n ++ cond b (c ∷ []) []) e

  nothing_behind : (ks : List Clause) → ks ++ [] ≡ ks
  nothing_behind [] = refl
  nothing_behind (k ∷ ks) = ap (λ l. k ∷ l) (nothing_behind ks)

  clauses_stay : (f : List ℕ) (n : ℕ) → is_named p f n ≡ false → clauses_of more f n ≡ clauses_of cs f n
  clauses_stay f n e =
      clauses_more f n ∙ ap (λ b. clauses_of cs f n ++ cond b (c ∷ []) []) e ∙ nothing_behind (clauses_of cs f n)

  kept : (d : PredicateCodes) → are_of p.name p.arity d ≡ false → AreCodesOf cs d → AreCodesOf more d
  kept d other a = record {
    spelled = subst (SpellEach d.codes) (sym (clauses_stay d.pred.name d.pred.arity (sym (named_swapped p d) ∙ other))) a.spelled;
    some = a.some;
  }

  others_kept : (ds : List PredicateCodes) → filed_place ds p.name p.arity ≡ None → EachIsFiled cs ds → EachIsFiled more ds
  others_kept [] none each = tt
  others_kept (d ∷ ds) none each =
      let here = not_some (are_of p.name p.arity d) (filed_place ds p.name p.arity) none in
      (kept d here.0 each.0, each.1, others_kept ds here.1 each.2)

  -- a predicate that has no codes and isn't this one has none afterwards
  still_none : (ds : List PredicateCodes) (f : List ℕ) (n : ℕ) → filed_place ds f n ≡ None → is_named p f n ≡ false →
      filed_place (with_code ds p code) f n ≡ None
  still_none [] f n none other = none_behind (is_named p f n) None other refl
  still_none (d ∷ ds) f n none other =
      let here = not_some (are_of f n d) (filed_place ds f n) none in
      by (are_of p.name p.arity d) here.0 here.1 (still_none ds f n here.1 other)
    where
      by : (b : Bool) → are_of f n d ≡ false → filed_place ds f n ≡ None → filed_place (with_code ds p code) f n ≡ None →
          filed_place (cond b (record { pred = d.pred; codes = d.codes ++ code ∷ [] } ∷ ds) (d ∷ with_code ds p code)) f n ≡ None
      by true e h again = none_behind (are_of f n d) (filed_place ds f n) e h
      by false e h again = none_behind (are_of f n d) (filed_place (with_code ds p code) f n) e again

  each_with_code : (ds : List PredicateCodes) → (filed_place ds p.name p.arity ≡ None → clauses_of cs p.name p.arity ≡ []) → EachIsFiled cs ds →
      EachIsFiled more (with_code ds p code)
  each_with_code [] first each =
      let clauses : clauses_of more p.name p.arity ≡ c ∷ [] =
      clauses_join p.name p.arity (itself p) ∙ ap (λ ks. ks ++ c ∷ []) (first refl) in (
        record {
          spelled = subst (SpellEach (code ∷ [])) (sym clauses) (one_more_spelled spells none_spelled);
          some = omega arith;
        },
        refl,
        tt,
      )
  each_with_code (d ∷ ds) first each = by (are_of p.name p.arity d) refl (λ h. each_with_code ds h each.2)
    where
      by : (b : Bool) → are_of p.name p.arity d ≡ b →
          ((filed_place ds p.name p.arity ≡ None → clauses_of cs p.name p.arity ≡ []) → EachIsFiled more (with_code ds p code)) →
          EachIsFiled more (cond b (record { pred = d.pred; codes = d.codes ++ code ∷ [] } ∷ ds) (d ∷ with_code ds p code))
      by true e again =
          let same = same_pred p d e in
          let none : filed_place ds p.name p.arity ≡ None =
          ap (λ f. filed_place ds f p.arity) (sym same.0) ∙ ap (filed_place ds d.pred.name) (sym same.1) ∙ each.1 in (
            record {
              spelled =
                  subst (SpellEach (d.codes ++ code ∷ [])) (sym (clauses_join d.pred.name d.pred.arity (sym (named_swapped p d) ∙ e)))
                  (one_more_code each.0.spelled spells);
              some = omega (arith, length-append d.codes (code ∷ []));
            },
            each.1,
            others_kept ds none each.2,
          )
      by false e again = (
        kept d e each.0,
        still_none ds d.pred.name d.pred.arity each.1 (sym (named_swapped p d) ∙ e),
        again (λ none. first (none_behind (are_of p.name p.arity d) (filed_place ds p.name p.arity) e none)),
      )

  -- a predicate that has no codes afterwards had none, and isn't this one
  none_before : (ds : List PredicateCodes) (f : List ℕ) (n : ℕ) → filed_place (with_code ds p code) f n ≡ None →
      (filed_place ds f n ≡ None) × (is_named p f n ≡ false)
  none_before [] f n none = (refl, (not_some (is_named p f n) None none).0)
  none_before (d ∷ ds) f n none = by (are_of p.name p.arity d) refl none (none_before ds f n)
    where
      by : (b : Bool) → are_of p.name p.arity d ≡ b →
          filed_place (cond b (record { pred = d.pred; codes = d.codes ++ code ∷ [] } ∷ ds) (d ∷ with_code ds p code)) f n ≡ None →
          (filed_place (with_code ds p code) f n ≡ None → (filed_place ds f n ≡ None) × (is_named p f n ≡ false)) →
          (filed_place (d ∷ ds) f n ≡ None) × (is_named p f n ≡ false)
      by true e h again =
          let same = same_pred p d e in
          let here = not_some (are_of f n d) (filed_place ds f n) h in
          (h, ap (λ g. bytes_eq g f && (p.arity == n)) (sym same.0) ∙ ap (λ k. bytes_eq d.pred.name f && (k == n)) (sym same.1) ∙ here.0)
      by false e h again =
          let here = not_some (are_of f n d) (filed_place (with_code ds p code) f n) h in
          let before = again here.1 in
          (none_behind (are_of f n d) (filed_place ds f n) here.0 before.0, before.1)

  -- the clauses and one more are filed
  pub one_more_filed : (ds : List PredicateCodes) → AreFiled cs ds → AreFiled more (with_code ds p code)
  one_more_filed ds a = record {
    each = each_with_code ds (a.all p.name p.arity) a.each;
    all = λ f n none. let before = none_before ds f n none in clauses_stay f n before.1 ∙ a.all f n before.0;
  }
