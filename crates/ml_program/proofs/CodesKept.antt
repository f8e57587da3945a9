-- What the vectors of the code keep, as clauses are filed.
use Rattle.std.proofs.Common.{◌≡◌, ℕ, suc, zero, ◌<◌, ◌+◌, ◌^◌, true, ◌&&◌, ◌==◌, List, [], ◌∷◌, ◌++◌, length, map, Some, None, refl, sym, ap, ◌∙◌, subst, set, get_or, take, arith, length-append, length-set}
use Rattle.std.specs.Prelude.{option_map, position, slice_get}
use Rattle.std.specs.Str.{bytes_eq}
use Rattle.std.proofs.lemmas.Bool.{and_parts}
use Rattle.std.proofs.lemmas.List.{length-map, map-append, map-set}
use Rattle.std.proofs.lemmas.Option.{slice_get-map, slice_get_read}
use Rattle.ml_term.specs.Tree.{Tree, variable, integer, atom, compound}
use Rattle.ml_term.specs.Seen.{seen}
use Rattle.ml_term.specs.declared.declaration.Pred.{Pred}
use Rattle.ml_search.specs.declared.clause.Clause as C
use Rattle.ml_search.specs.ClauseSeen.{clause_seen, clauses_seen}
use Rattle.ml_search.specs.Program.{is_of, name_of, arity_of}
use Rattle.ml_search.specs.WellFormed.{is_clause_head}
use Rattle.ml_search.proofs.DeclarationsFound.{up_to}
use Rattle.ml_compile.specs.declared.instr.Instr.{Instr}
use Rattle.ml_program.specs.declared.procedure.Procedure.{Procedure}
use Rattle.ml_program.specs.LoadedProgram.{PredicateCodes}
use Rattle.ml_program.specs.inside.Filing.{procedure_seen, procedures_seen, predicates_of, filed_place, with_code, EachIsFew, AreFew}
use Rattle.ml_program.specs.inside.Linking.{is_same}
use Rattle.ml_program.proofs.CodesFiled.{IsClauseOf}
use Rattle.ml_program.proofs.CodesPlaced.{place_is, with_code_there, with_code_new, few_set, few_more}

preds_seen : (xs : List Procedure) → predicates_of xs ≡ map (λ (d : PredicateCodes). d.pred) (procedures_seen xs)
preds_seen [] = refl
preds_seen (x ∷ xs) = ap (λ ps. x.pred ∷ ps) (preds_seen xs)

-- the place of a predicate in the table is that of its codes
pub place_seen : (p : Pred) (keys : List Pred) (xs : List Procedure) → keys ≡ predicates_of xs →
    position (is_same p) keys ≡ filed_place (procedures_seen xs) p.name p.arity
place_seen p keys xs same = ap (position (is_same p)) (same ∙ preds_seen xs) ∙ place_is p (procedures_seen xs)

pub preds_are : (keys : List Pred) (xs : List Procedure) → keys ≡ predicates_of xs → keys ≡ map (λ (d : PredicateCodes). d.pred) (procedures_seen xs)
preds_are keys xs same = same ∙ preds_seen xs

preds_kept : (xs : List Procedure) (i : ℕ) (y x : Procedure) → slice_get xs i ≡ Some x → y.pred ≡ x.pred → predicates_of xs ≡ predicates_of (set xs i y)
preds_kept [] i y x at e = absurd (cc at)
preds_kept (z ∷ xs) zero y x at e =
    let same : z ≡ x = cc at in ap (λ p. p ∷ predicates_of xs) (ap (λ (w : Procedure). w.pred) same ∙ sym e)
preds_kept (z ∷ xs) (suc i) y x at e = ap (λ ps. z.pred ∷ ps) (preds_kept xs i y x at e)

-- after one more code
pub record HasOneMore (keys : List Pred) (xs ys : List Procedure) (p : Pred) (code : List Instr) : Type 0 where
  pub places : keys ≡ predicates_of ys
  pub filed : procedures_seen ys ≡ with_code (procedures_seen xs) p code
  pub few : AreFew (procedures_seen ys)

seen_so : (x y : Procedure) (code : List Instr) → y.pred ≡ x.pred → y.codes.items ≡ x.codes.items ++ code ∷ [] →
    procedure_seen y ≡ record { pred = x.pred; codes = x.codes.items ++ code ∷ [] }
seen_so x y code e h =
    let made : Pred → List (List Instr) → PredicateCodes = λ p cs. record { pred = p; codes = cs } in
    ap (λ p. made p y.codes.items) e ∙ ap (made x.pred) h

pub written_back : (keys : List Pred) (xs : List Procedure) (p : Pred) (code : List Instr) (i : ℕ) (x y : Procedure) → keys ≡ predicates_of xs →
    Some i ≡ position (is_same p) keys → i < length keys → x ≡ get_or xs i x → y.pred ≡ x.pred → y.codes.items ≡ x.codes.items ++ code ∷ [] →
    length x.codes.items + 1 < 2 ^ 32 → AreFew (procedures_seen xs) → HasOneMore keys xs (set xs i y) p code
written_back keys xs p code i x y same place within at pred codes room few =
    let inside : i < length xs = omega (arith, ap length same, length-map xs (λ (q : Procedure). q.pred), within) in
    let there : slice_get xs i ≡ Some x = slice_get_read xs (length xs) i x refl inside at in
    let seen_there : slice_get (procedures_seen xs) i ≡ Some (procedure_seen x) = slice_get-map procedure_seen xs i
    ∙ ap (λ o. option_map procedure_seen o) there in
    let put : procedures_seen (set xs i y) ≡ set (procedures_seen xs) i (record { pred = x.pred; codes = x.codes.items ++ code ∷ [] }) =
    map-set procedure_seen xs i y ∙ ap (set (procedures_seen xs) i) (seen_so x y code pred codes) in
    record {
      places = same ∙ preds_kept xs i y x there pred;
      filed =
          put ∙ sym (with_code_there (procedures_seen xs) p code i (procedure_seen x) (sym (place_seen p keys xs same) ∙ sym place) seen_there);
      few = record {
        each =
            subst EachIsFew (sym put)
            (few_set (procedures_seen xs) i (record { pred = x.pred; codes = x.codes.items ++ code ∷ [] }) few.each
            (omega (arith, length-append x.codes.items (code ∷ []), room)));
        few =
            omega
            (arith, ap length (map-set procedure_seen xs i y), length-set (procedures_seen xs) i (procedure_seen y), few.few);
      };
    }

pub put_behind : (keys new : List Pred) (xs ys : List Procedure) (p q : Pred) (code : List Instr) (y : Procedure) → keys ≡ predicates_of xs →
    None ≡ position (is_same p) keys → new ≡ keys ++ q ∷ [] → q ≡ p → ys ≡ xs ++ y ∷ [] → y.pred ≡ p → y.codes.items ≡ code ∷ [] →
    length xs + 1 < 2 ^ 32 → AreFew (procedures_seen xs) → HasOneMore new xs ys p code
put_behind keys new xs ys p q code y same place added copied behind pred codes room few =
    let made : Pred → List (List Instr) → PredicateCodes = λ p cs. record { pred = p; codes = cs } in
    let one : procedure_seen y ≡ made p (code ∷ []) = ap (λ r. made r y.codes.items) pred ∙ ap (made p) codes in
    let put : procedures_seen ys ≡ procedures_seen xs ++ made p (code ∷ []) ∷ [] =
    ap procedures_seen behind ∙ map-append procedure_seen xs (y ∷ []) ∙ ap (λ d. procedures_seen xs ++ d ∷ []) one in
    record {
      places =
          added ∙ ap (λ ps. ps ++ q ∷ []) same ∙ ap (λ r. predicates_of xs ++ r ∷ []) (copied ∙ sym pred)
          ∙ sym (ap predicates_of behind ∙ map-append (λ (r : Procedure). r.pred) xs (y ∷ []));
      filed = put ∙ sym (with_code_new (procedures_seen xs) p code (sym (place_seen p keys xs same) ∙ sym place));
      few = record {
        each = subst EachIsFew (sym put) (few_more (procedures_seen xs) (made p (code ∷ [])) few.each (omega arith));
        few = omega (arith, length-map ys procedure_seen, ap length behind, length-append xs (y ∷ []), room);
      };
    }

-- the head of a clause is of a predicate by its name and arity
head_is : (t : Tree) (f : List ℕ) (n : ℕ) → is_clause_head t ≡ true → is_of f n t ≡ bytes_eq (name_of t) f && (arity_of t == n)
head_is (variable m) f n e = absurd (cc e)
head_is (integer z) f n e = absurd (cc e)
head_is (atom g) f n e = refl
head_is (compound g ts) f n e = refl

pub has_head : (c : C.Clause) → is_clause_head (seen c.head) ≡ true
has_head c = (and_parts _ _ (and_parts _ _ (and_parts _ _ c.well_formed).0).0).1

pub clause_is_of : (c : C.Clause) (p : Pred) → p.name ≡ name_of (seen c.head) → p.arity ≡ arity_of (seen c.head) → IsClauseOf (clause_seen c) p
clause_is_of c p name arity = record {
  is = λ f n.
      head_is (seen c.head) f n (has_head c)
      ∙ ap (λ g. bytes_eq g f && (arity_of (seen c.head) == n)) (sym name)
      ∙ ap (λ k. bytes_eq p.name f && (k == n)) (sym arity);
}

pub one_more_seen : (cs : List C.Clause) (i : ℕ) (c : C.Clause) → slice_get cs i ≡ Some c →
    clauses_seen (take i cs) ++ clause_seen c ∷ [] ≡ clauses_seen (take (i + 1) cs)
one_more_seen cs i c at = sym (map-append clause_seen (take i cs) (c ∷ [])) ∙ ap clauses_seen (up_to cs i c at)
