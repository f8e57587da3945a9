-- The levels that are open in front of a token are the parser's, and a bare `-` where a term begins is a state of its own.
use Rattle.std.specs.Prelude.{◌≡◌, ℕ, Bool, true, false, ◌&&◌, not, IsTrue, List, [], ◌∷◌, ◌++◌, Option, Some, None, codes, Ok, Err}
use Rattle.std.proofs.Common.{refl, sym, ap, ◌∙◌, subst, true≢false, append-nil}
use Rattle.std.proofs.lemmas.Slice.Eq.{bytes_eq-Decides}
use Rattle.ml_term.specs.Tree.{no_trees}
use Rattle.ml_reader.specs.Lexemes.{Lexeme, name, number, open_paren, is_minus}
use Rattle.ml_reader.specs.Operators.{Operator, prefix_of, is_operator, closes}
use Rattle.ml_reader.specs.Grammar.{Word, plain, brackets, curlies, joins}
use Rattle.ml_reader.specs.inside.parser.Parser.{braces, list_elements, Stack, root, ◌▹◌, State, expect_term, after_open, after_name, after_term, Fault}
use Rattle.ml_reader.specs.inside.parser.Parser.{Next, step, run_tokens, read_tokens}
use Rattle.ml_reader.specs.Levels.{Level, right_of, Wants, behind_brace, behind_bracket, OpenBefore, before_term, before_operand}
use Rattle.ml_reader.specs.inside.parser.LimitedSteps.{joins_minus}
use Rattle.ml_reader.specs.Faults.{EndsInMinus}
use Rattle.ml_reader.proofs.Parsing.OpenLevels.{opened, prefix_path, path_before, Alike}
use Rattle.ml_reader.proofs.Parsing.TokensAfterOperands.{word_begins, yes_op}
use Rattle.ml_reader.proofs.Parsing.TermsRunThrough as C
use Rattle.ml_reader.proofs.Parsing.FramesAsLevels.{same_some, begun_more, Way, straight, at_bracket, at_brace, go_in, reach}
use Rattle.ml_reader.proofs.Parsing.AcceptedTerms.{Holds, placed_in, read_holds}

abbrev fine : State → Next
fine s = Ok s

same_state : {r s : State} → fine r ≡ fine s → r ≡ s
same_state e = cc

never_both : {s : State} {k : Fault} → Err k ≡ fine s → ⊥
never_both e = cc

-- what is asked of the parser's state and a token
module _ (A : Type 0) (ask : State → Lexeme → A) (none : A) where
  -- the same in front of the last token of a run
  abbrev pub ask_last : Next → List Lexeme → A
  ask_last (Ok s) [] = none
  ask_last (Ok s) (x ∷ []) = ask s x
  ask_last (Ok s) (x ∷ y ∷ ys) = ask_last (step true s x) (y ∷ ys)
  ask_last (Err e) xs = none

  pub last_front : (r : State) (xs : List Lexeme) (y : Lexeme) (s : State) → run_tokens true (Ok r) xs ≡ Ok s → ask_last (Ok r) (xs ++ y ∷ []) ≡ ask s y
  last_front r [] y s e = ap (λ s. ask s y) (same_state e)
  last_front r (x ∷ []) y s e = go (step true r x) e
    where
      go : (n : Next) → run_tokens true n [] ≡ Ok s → ask_last n (y ∷ []) ≡ ask s y
      go (Ok q) e = ap (λ s. ask s y) (same_state e)
      go (Err k) e = absurd (never_both e)
  last_front r (x ∷ z ∷ xs) y s e = go (step true r x) (λ q. last_front q (z ∷ xs) y s) e
    where
      go : (n : Next) → ((q : State) → run_tokens true (Ok q) (z ∷ xs) ≡ Ok s → ask_last (Ok q) (z ∷ (xs ++ y ∷ [])) ≡ ask s y)
          → run_tokens true n (z ∷ xs) ≡ Ok s → ask_last n (z ∷ (xs ++ y ∷ [])) ≡ ask s y
      go (Ok q) h e = h q e
      go (Err k) h e = absurd (never_both e)

  pub last_fails : (n : Next) (xs : List Lexeme) (y : Lexeme) (k : Fault) → run_tokens true n xs ≡ Err k → ask_last n (xs ++ y ∷ []) ≡ none
  last_fails (Ok r) [] y k e = absurd (never_both (sym e))
  last_fails (Ok r) (x ∷ []) y k e = last_fails (step true r x) [] y k e
  last_fails (Ok r) (x ∷ z ∷ xs) y k e = last_fails (step true r x) (z ∷ xs) y k e
  last_fails (Err j) xs y k e = refl

  module _ (same : (s r : State) (x : Lexeme) → Alike s r x → ask s x ≡ ask r x) (v : A) where
    abbrev pub Leads : State → List Lexeme → Type 0
    Leads r zs = v ≡ ask_last (Ok r) zs

    pub leads_forward : (s r : State) (x y : Lexeme) (ys : List Lexeme) → step true s x ≡ Ok r → Leads s (x ∷ y ∷ ys) → Leads r (y ∷ ys)
    leads_forward s r x y ys e h = h ∙ ap (λ n. ask_last n (y ∷ ys)) e

    pub leads_alike : (s r : State) (x : Lexeme) (ys : List Lexeme) → Alike s r x → Leads s (x ∷ ys) → Leads r (x ∷ ys)
    leads_alike s r x [] a h = h ∙ same s r x a
    leads_alike s r x (y ∷ ys) a h = h ∙ ap (λ n. ask_last n (y ∷ ys)) a.same_step

abbrev last_path : Next → List Lexeme → Option (List Level)
last_path n xs = ask_last (Option (List Level)) path_before None n xs

same_paths : (s r : State) (x : Lexeme) → Alike s r x → path_before s x ≡ path_before r x
same_paths s r x a = a.same_path

module _ (v : Option (List Level)) where
  abbrev Found : State → List Lexeme → Type 0
  Found r zs = v ≡ last_path (Ok r) zs

  found_forward : (s r : State) (x y : Lexeme) (ys : List Lexeme) → step true s x ≡ Ok r → Found s (x ∷ y ∷ ys) → Found r (y ∷ ys)
  found_forward s r x y ys e h = leads_forward (Option (List Level)) path_before None same_paths v s r x y ys e h

  found_alike : (s r : State) (x : Lexeme) (ys : List Lexeme) → Alike s r x → Found s (x ∷ ys) → Found r (x ∷ ys)
  found_alike s r x ys a h = leads_alike (Option (List Level)) path_before None same_paths v s r x ys a h

  way_found : {fs : Stack} {y : Lexeme} → Way Found found_forward found_alike fs (y ∷ []) → v ≡ Some (opened fs)
  way_found (straight h) = h
  way_found (at_bracket h) = h
  way_found (at_brace h) = h

  all_three : (m : Bool) (f : List ℕ) (o : Operator) (y : Lexeme) → prefix_of f ≡ Some o → IsTrue (not (joins m (y ∷ []))) → closes y ≡ false
      → (not (joins m (y ∷ [])) && not (closes y) && is_operator f) ≡ true
  all_three m f o y e n s = go (not (joins m (y ∷ []))) (closes y) (is_operator f) n s (yes_op f o e)
    where
      go : (a b c : Bool) → IsTrue a → b ≡ false → c ≡ true → (a && not b && c) ≡ true
      go true false true n s e = refl
      go true false false n s e = e
      go true true c n s e = absurd (true≢false s)
      go false b c n s e = absurd (true≢false (sym n))

  path_of_end : (xs ys : List Lexeme) (y : Lexeme) (ls : List Level) → ys ≡ y ∷ [] → v ≡ last_path (Ok (expect_term (root []))) xs → OpenBefore xs ys ls
      → v ≡ Some ls
  path_of_end xs ys y ls i e (before_term w) =
      let r = reach Found found_forward found_alike (subst (λ l. Wants true xs l ls) i w) tt e in way_found r.way ∙ ap (λ l. Some l) r.levels
  path_of_end xs (z ∷ zs) y ls i e (before_operand {ys = ys} {m = m} {f = f} {o = o} w d j n s) =
      let r = reach Found found_forward found_alike w (begun_more ys (word_begins d)) e in
      let h = C.carry_word Found found_forward found_alike d r.frames (go_in Found found_forward found_alike ys (word_begins d) r.way) in
      let k : v ≡ path_before (after_name m f r.frames) z = subst (λ l. Found (after_name m f r.frames) (z ∷ l)) (tail_of i) h in
      k ∙ (ap (λ k. prefix_path k (prefix_of f) r.frames) (all_three m f o z j (subst (λ l. IsTrue (not (joins m (z ∷ l)))) (tail_of i) n) s)
      ∙ (ap (λ q. prefix_path true q r.frames) j ∙ ap (λ l. Some (right_of o.right ∷ l)) r.levels))
    where
      tail_of : {zs : List Lexeme} → z ∷ zs ≡ y ∷ [] → zs ≡ []
      tail_of e = cc

-- the levels that are open in front of a token are those of the parser
pub path_of_open : (xs : List Lexeme) (y : Lexeme) (s : State) (ls : List Level) → read_tokens true xs ≡ Ok s → OpenBefore (xs ++ y ∷ []) (y ∷ []) ls
    → path_before s y ≡ Some ls
path_of_open xs y s ls e w =
    path_of_end (path_before s y) (xs ++ y ∷ []) (y ∷ []) y ls refl
    (sym (last_front (Option (List Level)) path_before None (expect_term (root [])) xs y s e)) w

-- behind tokens that the parser refuses no levels are open
pub none_open : (xs : List Lexeme) (y : Lexeme) (k : Fault) (ls : List Level) → read_tokens true xs ≡ Err k → OpenBefore (xs ++ y ∷ []) (y ∷ []) ls → ⊥
none_open xs y k ls e w =
    none_some (sym (last_fails (Option (List Level)) path_before None (Ok (expect_term (root []))) xs y k e)
    ∙ path_of_end (last_path (Ok (expect_term (root []))) (xs ++ y ∷ [])) (xs ++ y ∷ []) (y ∷ []) y ls refl refl w)
  where
    none_some : {ls : List Level} → None ≡ Some ls → ⊥
    none_some e = cc

module _ (v : Next) where
  abbrev Runs : State → List Lexeme → Type 0
  Runs r zs = v ≡ run_tokens true (Ok r) zs

  runs_forward : (s r : State) (x y : Lexeme) (ys : List Lexeme) → step true s x ≡ Ok r → Runs s (x ∷ y ∷ ys) → Runs r (y ∷ ys)
  runs_forward s r x y ys e h = h ∙ ap (λ n. run_tokens true n (y ∷ ys)) e

  runs_alike : (s r : State) (x : Lexeme) (ys : List Lexeme) → Alike s r x → Runs s (x ∷ ys) → Runs r (x ∷ ys)
  runs_alike s r x ys a h = h ∙ ap (λ n. run_tokens true n ys) a.same_step

  way_runs : {fs : Stack} → Way Runs runs_forward runs_alike fs (name false (codes "-") ∷ []) → (gs : Stack) × (v ≡ Ok (after_name true (codes "-") gs))
  way_runs (straight {fs = fs} h) = (fs, h)
  way_runs (at_bracket {fs = fs} h) = (list_elements no_trees ▹ fs, h)
  way_runs (at_brace {fs = fs} h) = (braces ▹ fs, h)

-- behind a bare `-` where a term begins the parser has read that name
pub minus_read : (xs : List Lexeme) (s : State) → read_tokens true xs ≡ Ok s → EndsInMinus xs → (k : Bool) → joins_minus s k ≡ k
minus_read xs s e m k = go (way_runs (Ok s) (reach (Runs (Ok s)) (runs_forward (Ok s)) (runs_alike (Ok s)) m.1 tt (sym e)).way)
  where
    go : (gs : Stack) × (fine s ≡ Ok (after_name true (codes "-") gs)) → joins_minus s k ≡ k
    go (gs, h) = ap (λ s. joins_minus s k) (same_state h)

minus_name : (q : Bool) (f : List ℕ) → is_minus q f ≡ true → (q ≡ false) × (f ≡ codes "-")
minus_name true f e = absurd (true≢false (sym e))
minus_name false f e = (refl, sym ((bytes_eq-Decides (codes "-") f).0 e))

minus_word : {xs : List Lexeme} {m : Bool} {f : List ℕ} → Word xs [] m f → m ≡ true → xs ≡ name false (codes "-") ∷ []
minus_word (plain {q = q} {f = f}) e = let h = minus_name q f e in ap (λ q. name q f ∷ []) h.0 ∙ ap (λ f. name false f ∷ []) h.1
minus_word brackets e = absurd (true≢false (sym e))
minus_word curlies e = absurd (true≢false (sym e))

-- where the parser has read a bare `-` the tokens end in it
pub ends_in_minus : (xs : List Lexeme) (f : List ℕ) (fs : Stack) → read_tokens true xs ≡ Ok (after_name true f fs) → EndsInMinus xs
ends_in_minus xs f fs e =
    let h = read_holds true xs [] (after_name true f fs) e in (
      opened fs,
      subst (λ l. Wants true l (name false (codes "-") ∷ []) (opened fs)) (append-nil xs) (subst (λ l. Wants true (xs ++ []) l (opened fs))
          (minus_word h.2 refl) (placed_in true (xs ++ []) fs h.0 h.1)),
    )

-- whether a token joins to a name is a fact of that token
pub joins_first : (m : Bool) (y : Lexeme) (ys : List Lexeme) → joins m (y ∷ ys) ≡ joins m (y ∷ [])
joins_first m (open_paren true) ys = refl
joins_first m (number k n) ys = refl
joins_first m y ys = refl

-- the levels of the parser in front of a token are open there
module _ (xs : List Lexeme) (y : Lexeme) (ys : List Lexeme) (ls : List Level) where
  abbrev Open : List Level → Type 0
  Open ms = OpenBefore (xs ++ y ∷ ys) (y ∷ ys) ms

  with_levels : {ms : List Level} → Some ms ≡ Some ls → Open ms → Open ls
  with_levels e w = subst Open (same_some e) w

  both : (a b c : Bool) → (a && b && c) ≡ true → IsTrue a × IsTrue b
  both true true c e = (refl, refl)
  both true false c e = absurd (true≢false (sym e))
  both false b c e = absurd (true≢false (sym e))

  open_if : (k : Bool) → IsTrue (not k) → k ≡ false
  open_if true e = absurd (true≢false (sym e))
  open_if false e = refl

  operator_before : (m : Bool) (f : List ℕ) (fs : Stack) (zs : List Lexeme) → Wants true (xs ++ y ∷ ys) zs (opened fs) → Word zs (y ∷ ys) m f → (k : Bool)
      → (not (joins m (y ∷ [])) && not (closes y) && is_operator f) ≡ k
      → (i : Option Operator) → prefix_of f ≡ i → prefix_path k i fs ≡ Some ls → Open ls
  operator_before m f fs zs w d true e (Some o) e' p =
      let h = both (not (joins m (y ∷ []))) (not (closes y)) (is_operator f) e in
      with_levels p (before_operand w d e' (subst (λ k. IsTrue (not k)) (sym (joins_first m y ys)) h.0) (open_if (closes y) h.1))
  operator_before m f fs zs w d true e None e' p = absurd cc
  operator_before m f fs zs w d false e i e' p = absurd cc

  open_in : (s : State) → Holds true (xs ++ y ∷ ys) s (y ∷ ys) → path_before s y ≡ Some ls → Open ls
  open_in (expect_term fs) h p = with_levels p (before_term (placed_in true (xs ++ y ∷ ys) fs (y ∷ ys) h))
  open_in (after_open true fs) h p =
      with_levels p (before_term (behind_bracket (subst (λ l. Wants true (xs ++ y ∷ ys) l (opened fs)) h.2 (placed_in true (xs ++ y ∷ ys) fs h.0 h.1))))
  open_in (after_open false fs) h p =
      with_levels p (before_term (behind_brace (subst (λ l. Wants true (xs ++ y ∷ ys) l (opened fs)) h.2 (placed_in true (xs ++ y ∷ ys) fs h.0 h.1))))
  open_in (after_name m f fs) h p = operator_before m f fs h.0 (placed_in true (xs ++ y ∷ ys) fs h.0 h.1) h.2 (not (joins m (y ∷ [])) && not (closes y)
      && is_operator f) refl (prefix_of f) refl p
  open_in (after_term q t fs) h p = absurd cc

  pub open_before : (s : State) → read_tokens true xs ≡ Ok s → path_before s y ≡ Some ls → Open ls
  open_before s e p = open_in s (read_holds true xs (y ∷ ys) s e) p
