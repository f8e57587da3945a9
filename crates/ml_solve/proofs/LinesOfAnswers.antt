-- An answer's line, by the names and terms that the code has.
use Rattle.std.proofs.Common.{◌≡◌, ℕ, ◌+◌, ◌<◌, ◌≤◌, true, false, nat_lt, List, [], ◌∷◌, ◌++◌, length, map, codes, Option, Some, None, option_map, refl, sym, ap, ◌∙◌, subst}
use Rattle.std.specs.List.{list_any}
use Rattle.std.proofs.lemmas.Bool.{lt-ltb, le-ltb}
use Rattle.ml_term.specs.Tree.{Tree, variables}
use Rattle.ml_term.specs.Text.{text_of}
use Rattle.ml_term.specs.Seen.{seen}
use Rattle.ml_term.specs.declared.term.Term.{Term}
use Rattle.ml_search.specs.Errors.{is_too_large, resource_error}
use Rattle.ml_search.specs.Limits.{max_answer_bytes}
use Rattle.ml_search.specs.Program.{Goal}
use Rattle.ml_search.specs.Session.{AnswerLines, answer_lines, answer_line, bindings_text, line, shown_names}
use Rattle.ml_writer.specs.AnswerText.{bindings_seen, line_of_answer, names_of, terms_of}
use Rattle.ml_writer.specs.Output.{Output, with_counted, with_line}
use Rattle.ml_solve.specs.Answered.{with_answer_lines}
use Rattle.ml_solve.specs.inside.Searching.{HasAnswerLine}
use Rattle.ml_solve.proofs.LinesAdded.{by_tests}

-- a line's text doesn't depend on the numbers that stand beside the names
same_text : (es fs : List (List ℕ × ℕ)) (ts : List Tree) (met : List ℕ) → map (λ e. e.0) es ≡ map (λ e. e.0) fs →
    bindings_text es ts met ≡ bindings_text fs ts met
same_text [] [] ts met e = refl
same_text [] (f ∷ fs) ts met e = absurd (cc e)
same_text (e ∷ es) [] ts met q = absurd (cc q)
same_text (e ∷ []) (f ∷ []) [] met q = refl
same_text (e ∷ []) (f ∷ []) (t ∷ ts) met q = let n : e.0 ≡ f.0 = cc q in ap (λ x. x ++ codes " = " ++ text_of t met) n
same_text (e ∷ []) (f ∷ g ∷ fs) ts met q = absurd (cc q)
same_text (e ∷ d ∷ es) (f ∷ []) ts met q = absurd (cc q)
same_text (e ∷ d ∷ es) (f ∷ g ∷ fs) [] met q = refl
same_text (e ∷ d ∷ es) (f ∷ g ∷ fs) (t ∷ ts) met q =
    let n : e.0 ≡ f.0 = cc q in
    let rest : map (λ e. e.0) (d ∷ es) ≡ map (λ e. e.0) (g ∷ fs) = cc q in
    ap (λ x. x ++ codes " = " ++ text_of t met ++ codes ", " ++ bindings_text (d ∷ es) ts (met ++ variables t)) n
    ∙ ap (λ x. f.0 ++ codes " = " ++ text_of t met ++ codes ", " ++ x) (same_text (d ∷ es) (g ∷ fs) ts (met ++ variables t) rest)

names_are : (bs : List (List ℕ × Term)) → map (λ e. e.0) (names_of (bindings_seen bs)) ≡ map (λ b. b.0) bs
names_are [] = refl
names_are (b ∷ bs) = ap (λ ns. b.0 ∷ ns) (names_are bs)

terms_are : (bs : List (List ℕ × Term)) → terms_of (bindings_seen bs) ≡ map (λ b. seen b.1) bs
terms_are [] = refl
terms_are (b ∷ bs) = ap (λ ts. seen b.1 ∷ ts) (terms_are bs)

module _ (g : Goal) (bs : List (List ℕ × Term)) (ts : List Tree) (names : map (λ b. b.0) bs ≡ map (λ e. e.0) (shown_names g))
    (terms : map (λ b. seen b.1) bs ≡ ts) where
  -- the line of names and terms is the answer's
  line_is : line_of_answer (bindings_seen bs) ≡ answer_line g ts
  line_is =
      ap (λ us. line (codes "  " ++ bindings_text (names_of (bindings_seen bs)) us [])) (terms_are bs ∙ terms)
      ∙ ap (λ x. line (codes "  " ++ x)) (same_text (names_of (bindings_seen bs)) (shown_names g) ts [] (names_are bs ∙ names))

  module _ (old new : Output) (small : list_any is_too_large ts ≡ false) where
    -- there was room for the line
    pub line_written : new ≡ with_counted (line_of_answer (bindings_seen bs)) (with_line (line_of_answer (bindings_seen bs)) old)
        → old.answer_bytes + length (line_of_answer (bindings_seen bs)) ≤ max_answer_bytes → (raised : Option Term) → raised ≡ None
        → HasAnswerLine g ts old new raised
    line_written is fits raised r =
        let l = answer_line g ts in
        let room : old.answer_bytes + length l ≤ max_answer_bytes = subst (λ x. old.answer_bytes + length x ≤ max_answer_bytes) line_is fits in
        let within : nat_lt max_answer_bytes (old.answer_bytes + length l) ≡ false = le-ltb max_answer_bytes (old.answer_bytes + length l) room in
        let lines : answer_lines g (ts ∷ []) old.answer_bytes ≡ by_tests false false l old.answer_bytes (answer_lines g [] (old.answer_bytes + length l)) =
        ap (λ b. by_tests b (nat_lt max_answer_bytes (old.answer_bytes + length l)) l old.answer_bytes (answer_lines g [] (old.answer_bytes + length l))) small
        ∙ ap (λ b. by_tests false b l old.answer_bytes (answer_lines g [] (old.answer_bytes + length l))) within in
        record {
          line = is ∙ ap (λ x. with_counted x (with_line x old)) line_is ∙ ap (λ (w : AnswerLines). with_answer_lines w.lines old) (sym lines);
          fault = ap (λ (w : AnswerLines). w.fault) lines ∙ ap (option_map seen) (sym r);
        }

    -- there was none
    pub line_refused : new ≡ old → max_answer_bytes < old.answer_bytes + length (line_of_answer (bindings_seen bs))
        → (raised : Option Term) (t : Term) → raised ≡ Some t → seen t ≡ resource_error (codes "output") → HasAnswerLine g ts old new raised
    line_refused is full raised t r named =
        let l = answer_line g ts in
        let high : max_answer_bytes < old.answer_bytes + length l = subst (λ x. max_answer_bytes < old.answer_bytes + length x) line_is full in
        let over : nat_lt max_answer_bytes (old.answer_bytes + length l) ≡ true = lt-ltb max_answer_bytes (old.answer_bytes + length l) high in
        let lines : answer_lines g (ts ∷ []) old.answer_bytes ≡ by_tests false true l old.answer_bytes (answer_lines g [] (old.answer_bytes + length l)) =
        ap (λ b. by_tests b (nat_lt max_answer_bytes (old.answer_bytes + length l)) l old.answer_bytes (answer_lines g [] (old.answer_bytes + length l))) small
        ∙ ap (λ b. by_tests false b l old.answer_bytes (answer_lines g [] (old.answer_bytes + length l))) over in
        record {
          line = is ∙ ap (λ (w : AnswerLines). with_answer_lines w.lines old) (sym lines);
          fault = ap (λ (w : AnswerLines). w.fault) lines ∙ ap Some (sym named) ∙ ap (option_map seen) (sym r);
        }

-- an answer with a term that is too large
pub too_large_raised : (g : Goal) (ts : List Tree) (old new : Output) → list_any is_too_large ts ≡ true → new ≡ old
    → (raised : Option Term) (t : Term) → raised ≡ Some t → seen t ≡ resource_error (codes "term") → HasAnswerLine g ts old new raised
too_large_raised g ts old new large is raised t r named =
    let l = answer_line g ts in
    let over = nat_lt max_answer_bytes (old.answer_bytes + length l) in
    let lines : answer_lines g (ts ∷ []) old.answer_bytes ≡ by_tests true over l old.answer_bytes (answer_lines g [] (old.answer_bytes + length l)) =
    ap (λ b. by_tests b over l old.answer_bytes (answer_lines g [] (old.answer_bytes + length l))) large in
    record {
      line = is ∙ ap (λ (w : AnswerLines). with_answer_lines w.lines old) (sym lines);
      fault = ap (λ (w : AnswerLines). w.fault) lines ∙ ap Some (sym named) ∙ ap (option_map seen) (sym r);
    }
