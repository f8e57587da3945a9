-- Where the clauses of a program are filed, the program is loaded.
use Rattle.std.proofs.Common.{◌≡◌, ℕ, suc, zero, ◌<◌, ◌≤◌, ◌^◌, Bool, true, false, ◌&&◌, ◌==◌, List, [], ◌∷◌, length, map, Some, None, refl, sym, ap, ◌∙◌, cond, subst, arith}
use Rattle.std.proofs.lemmas.List.{length-map}
use Rattle.std.specs.Prelude.{Option, option_map, position, slice_get, is_some, nat_le}
use Rattle.std.specs.Str.{bytes_eq}
use Rattle.std.specs.Cmp.Lexicographic.{bytes_decides}
use Rattle.std.proofs.lemmas.Bool.{and_parts, eqb-true, le-leb}
use Rattle.ml_term.specs.declared.declaration.Pred.{Pred}
use Rattle.ml_term.specs.declared.declaration.Decl.{Decl}
use Rattle.ml_search.specs.Program.{Clause, Program, clauses_of}
use Rattle.ml_search.specs.Procedures.{is_defined}
use Rattle.ml_search.proofs.DeclarationsFound.{equal_swapped, names_swapped}
use Rattle.ml_compile.specs.declared.instr.Instr.{Instr}
use Rattle.ml_stack.specs.Memories.{CompiledProcedure}
use Rattle.ml_program.specs.Links.{procedure_place}
use Rattle.ml_program.specs.LoadedProgram.{PredicateCodes, SpellEach, none_spelled, one_more_spelled, compiled_in, IsCompiled, IsLoaded}
use Rattle.ml_program.specs.inside.Filing.{are_of, filed_place, AreCodesOf, EachIsFiled, AreFiled, EachIsFew, AreFew}
use Rattle.ml_program.specs.inside.Linking.{is_same, AreTablesOf}
use Rattle.ml_program.proofs.CodesFiled.{not_some, itself}
use Rattle.ml_program.proofs.CodesPlaced.{place_is}

pub as_many_spelled : {codes : List (List Instr)} {cs : List Clause} → SpellEach codes cs → length codes ≡ length cs
as_many_spelled none_spelled = refl
as_many_spelled (one_more_spelled s h) = ap suc (as_many_spelled h)

-- what stands at a place of a list that was mapped
pub mapped_at : {A B : Type 0} (g : A → B) (xs : List A) (i : ℕ) (y : B) → slice_get (map g xs) i ≡ Some y → (x : A) × (slice_get xs i ≡ Some x) × (y ≡ g x)
mapped_at g [] i y e = absurd (cc e)
mapped_at g (x ∷ xs) zero y e = let same : g x ≡ y = cc e in (x, refl, sym same)
mapped_at g (x ∷ xs) (suc i) y e = mapped_at g xs i y e

-- what is found of a predicate is of it
pub found_at : (ds : List PredicateCodes) (f : List ℕ) (n i : ℕ) → filed_place ds f n ≡ Some i →
    (d : PredicateCodes) × (slice_get ds i ≡ Some d) × (are_of f n d ≡ true)
found_at [] f n i e = absurd (cc e)
found_at (d ∷ ds) f n i e = by (are_of f n d) (filed_place ds f n) i refl refl e (found_at ds f n)
  where
    by : (b : Bool) (r : Option ℕ) (i : ℕ) → are_of f n d ≡ b → filed_place ds f n ≡ r → cond b (Some 0) (option_map suc r) ≡ Some i →
        ((j : ℕ) → filed_place ds f n ≡ Some j → (e : PredicateCodes) × (slice_get ds j ≡ Some e) × (are_of f n e ≡ true)) →
        (e : PredicateCodes) × (slice_get (d ∷ ds) i ≡ Some e) × (are_of f n e ≡ true)
    by true r zero here is e again = (d, refl, here)
    by true r (suc i) here is e again = absurd (cc e)
    by false None i here is e again = absurd (cc e)
    by false (Some k) zero here is e again = absurd (cc e)
    by false (Some k) (suc i) here is e again = let same : k ≡ i = cc e in again i (is ∙ ap Some same)

-- what isn't found of a predicate isn't of it
not_found_at : (ds : List PredicateCodes) (f : List ℕ) (n i : ℕ) (d : PredicateCodes) → filed_place ds f n ≡ None → slice_get ds i ≡ Some d →
    are_of f n d ≡ false
not_found_at [] f n i d none at = absurd (cc at)
not_found_at (e ∷ ds) f n zero d none at = let same : e ≡ d = cc at in ap (are_of f n) (sym same) ∙ (not_some (are_of f n e) (filed_place ds f n) none).0
not_found_at (e ∷ ds) f n (suc i) d none at = not_found_at ds f n i d (not_some (are_of f n e) (filed_place ds f n) none).1 at

are_swapped : (d e : PredicateCodes) → are_of e.pred.name e.pred.arity d ≡ are_of d.pred.name d.pred.arity e
are_swapped d e =
    ap (λ b. b && (d.pred.arity == e.pred.arity)) (names_swapped d.pred.name e.pred.name)
    ∙ ap (λ b. bytes_eq e.pred.name d.pred.name && b) (equal_swapped d.pred.arity e.pred.arity)

module _ (cs : List Clause) where
  pub filed_at : (ds : List PredicateCodes) (i : ℕ) (d : PredicateCodes) → EachIsFiled cs ds → slice_get ds i ≡ Some d → AreCodesOf cs d
  filed_at [] i d each at = absurd (cc at)
  filed_at (e ∷ ds) zero d each at = let same : e ≡ d = cc at in subst (AreCodesOf cs) same each.0
  filed_at (e ∷ ds) (suc i) d each at = filed_at ds i d each.2 at

  -- each is found under its own predicate
  found_itself : (ds : List PredicateCodes) (i : ℕ) (d : PredicateCodes) → are_of d.pred.name d.pred.arity d ≡ true → EachIsFiled cs ds →
      slice_get ds i ≡ Some d → filed_place ds d.pred.name d.pred.arity ≡ Some i
  found_itself [] i d itself each at = absurd (cc at)
  found_itself (e ∷ ds) zero d itself each at =
      let same : e ≡ d = cc at in
      ap (λ b. cond b (Some 0) (option_map suc (filed_place ds d.pred.name d.pred.arity))) (ap (are_of d.pred.name d.pred.arity) same ∙ itself)
  found_itself (e ∷ ds) (suc i) d itself each at =
      ap (λ b. cond b (Some 0) (option_map suc (filed_place ds d.pred.name d.pred.arity)))
      (are_swapped e d ∙ not_found_at ds e.pred.name e.pred.arity i d each.1 at)
      ∙ ap (option_map suc) (found_itself ds i d itself each.2 at)

are_itself : (d : PredicateCodes) → are_of d.pred.name d.pred.arity d ≡ true
are_itself d = itself d.pred

few_at : (ds : List PredicateCodes) (i : ℕ) (d : PredicateCodes) → EachIsFew ds → slice_get ds i ≡ Some d → length d.codes < 2 ^ 32
few_at [] i d few at = absurd (cc at)
few_at (e ∷ ds) zero d few at = let same : e ≡ d = cc at in subst (λ (x : PredicateCodes). length x.codes < 2 ^ 32) same few.0
few_at (e ∷ ds) (suc i) d few at = few_at ds i d few.1 at

module _ (program : Program) where
  pub place_in : (ds : List PredicateCodes) (f : List ℕ) (n : ℕ) → procedure_place (map (compiled_in program) ds) f n ≡ filed_place ds f n
  place_in [] f n = refl
  place_in (d ∷ ds) f n = ap (λ r. cond (are_of f n d) (Some 0) (option_map suc r)) (place_in ds f n)

  module _ (ds : List PredicateCodes) (filed : AreFiled program.clauses ds) (few : AreFew ds) where
    abbrev ps : List CompiledProcedure
    ps = map (compiled_in program) ds

    compiled_at : (i : ℕ) (e : PredicateCodes) → slice_get ds i ≡ Some e → IsCompiled program (compiled_in program e)
    compiled_at i e at =
        let a = filed_at program.clauses ds i e filed.each at in
        record {
          clauses = refl;
          spelled = a.spelled;
          some = omega (arith, as_many_spelled a.spelled, a.some);
          few = few_at ds i e few.each at;
        }

    defined_so : (f : List ℕ) (n : ℕ) → is_some (filed_place ds f n) ≡ is_defined program f n
    defined_so f n = by (filed_place ds f n) refl
      where
        by : (r : Option ℕ) → filed_place ds f n ≡ r → is_some r ≡ is_defined program f n
        by None e = sym (ap (λ (ks : List Clause). nat_le 1 (length ks)) (filed.all f n e))
        by (Some i) e =
            let d = found_at ds f n i e in
            let parts = and_parts (bytes_eq d.0.pred.name f) (d.0.pred.arity == n) d.2 in
            let name : d.0.pred.name ≡ f = (bytes_decides d.0.pred.name f).0 parts.0 in
            let arity : d.0.pred.arity ≡ n = eqb-true d.0.pred.arity n parts.1 in
            let clauses : clauses_of program.clauses d.0.pred.name d.0.pred.arity ≡ clauses_of program.clauses f n =
            ap (λ g. clauses_of program.clauses g d.0.pred.arity) name ∙ ap (clauses_of program.clauses f) arity in
            sym (le-leb 1 (length (clauses_of program.clauses f n))
            (subst (λ (ks : List Clause). 1 ≤ length ks) clauses (compiled_at i d.0 d.1).some))

    pub loaded : IsLoaded program ps
    loaded = record {
      compiled = λ i d at.
          let e = mapped_at (compiled_in program) ds i d at in
          subst (IsCompiled program) (sym e.2) (compiled_at i e.0 e.1);
      found = λ i d at.
          let e = mapped_at (compiled_in program) ds i d at in
          subst (λ (x : CompiledProcedure). procedure_place ps x.name x.arity ≡ Some i) (sym e.2)
          (place_in ds e.0.pred.name e.0.pred.arity ∙ found_itself program.clauses ds i e.0 (are_itself e.0) filed.each e.1);
      defined = λ f n. ap is_some (place_in ds f n) ∙ defined_so f n;
      few = omega (arith, length-map ds (compiled_in program), few.few);
    }

    pub tables : (decls : List Decl) (places : List Pred) → decls ≡ program.decls → length program.decls < 2 ^ 32 →
        places ≡ map (λ d. d.pred) ds → AreTablesOf program ps decls places
    tables decls places same declared keys = record {
      decls_are = same;
      few_decls = omega (arith, ap length same, declared);
      places_are = λ p. ap (position (is_same p)) keys ∙ place_is p ds ∙ sym (place_in ds p.name p.arity);
      defined = λ f n. ap is_some (place_in ds f n) ∙ defined_so f n;
      few = omega (arith, ap length keys, length-map ds (λ (d : PredicateCodes). d.pred), few.few);
    }
