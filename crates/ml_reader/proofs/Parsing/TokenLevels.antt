-- A token opens a level past the limit in the parser where it does in the grammar, and where the parser refuses it, also the other way round.
use Rattle.std.specs.Prelude.{pos, neg_ℤ, ◌≡◌, ℕ, ◌+◌, ◌≤◌, ◌<◌, Bool, true, false, ◌&&◌, ◌||◌, not, IsTrue, nat_le, if◌then◌else◌, List, [], ◌∷◌, ◌++◌}
use Rattle.std.specs.Prelude.{length, Option, Some, None, Ok, Err}
use Rattle.std.proofs.Common.{refl, sym, ap, ◌∙◌, subst, arith, true≢false}
use Rattle.std.proofs.lemmas.Bool.{and_from, le-leb, leb-true}
use Rattle.ml_term.specs.Tree.{Tree, variable, integer, atom, compound_1, no_trees}
use Rattle.ml_reader.specs.Lexemes.{Lexeme, variable_lexeme, number, open_paren, close_paren, open_list, open_curly, close_curly, braces_name}
use Rattle.ml_reader.specs.Operators.{Operator, prefix_of, is_operator, infix_at, closes}
use Rattle.ml_reader.specs.Grammar.{Word, AtomBefore, joins, Derives, a_variable, a_number, a_negative, in_braces, an_atom, a_compound, in_parens, a_list}
use Rattle.ml_reader.specs.Grammar.{a_prefix, an_infix}
use Rattle.ml_reader.specs.Levels.{Level, enclosed, in_list, right_of, commas_inside, Wants, is_opening, left_open, OpensLevel, bracket_of_term}
use Rattle.ml_reader.specs.Levels.{bracket_behind_operand, bracket_behind_name, infix_behind_operand}
use Rattle.ml_reader.specs.inside.parser.Parser.{Frame, prefix_frame, infix_frame, parens, braces, arguments, list_elements, list_tail, Stack, root, ◌▹◌, State}
use Rattle.ml_reader.specs.inside.parser.Parser.{expect_term, after_open, after_name, after_term, Fault, Next, commas, step, read_tokens}
use Rattle.ml_reader.specs.inside.parser.LimitedSteps.{depth, frames_left, bracket_past, operator_past, past_operand, past_prefix, past_name, makes_prefix}
use Rattle.ml_reader.specs.inside.parser.LimitedSteps.{token_too_deep}
use Rattle.ml_reader.specs.Limits.{max_text_levels}
use Rattle.ml_reader.proofs.Parsing.OperatorRows.{infix_lawful, prefix_lawful, positive}
use Rattle.ml_reader.proofs.Parsing.OpenLevels.{opened, commas_opened, length_opened, prefix_path, path_before, Alike}
use Rattle.ml_reader.proofs.Parsing.TokensAfterOperands.{by_end, IsMore, begins, arguments_begin, elements_begin, word_begins}
use Rattle.ml_reader.proofs.Parsing.TermsRunThrough as C
use Rattle.ml_reader.proofs.Parsing.AcceptedTerms.{placed_in, read_holds}
use Rattle.ml_reader.proofs.Parsing.FramesAsLevels.{same_some, begun_more, go_in, reach}
use Rattle.ml_reader.proofs.Parsing.LevelsBeforeTokens.{ask_last, last_front, leads_forward, leads_alike, path_of_open, open_before}

-- a term that is no operator term, right before the last token, whatever that is
module _ (P : State → List Lexeme → Type 0) (forward : (s r : State) (x y : Lexeme) (ys : List Lexeme) → step true s x ≡ Ok r → P s (x ∷ y ∷ ys) → P r (y ∷ ys))
    (alike : (s r : State) (x : Lexeme) (ys : List Lexeme) → Alike s r x → P s (x ∷ ys) → P r (x ∷ ys))
    (whole : (m : Bool) (f : List ℕ) (y : Lexeme) (ys : List Lexeme) (fs : Stack) → ys ≡ [] → AtomBefore f (y ∷ ys) → P (after_name m f fs) (y ∷ ys)
    → P (after_term 0 (atom f) fs) (y ∷ ys))
    (x : Lexeme) where
  is_more : (ys : List Lexeme) → ys ≡ x ∷ [] → IsMore ys
  is_more [] e = absurd cc
  is_more (y ∷ ys) e = tt

  last_atom : (m : Bool) (f : List ℕ) (xs ys : List Lexeme) (fs : Stack) → ys ≡ x ∷ [] → Word xs ys m f → AtomBefore f ys → P (expect_term fs) xs
      → P (after_term 0 (atom f) fs) ys
  last_atom m f xs [] fs e w a h = absurd cc
  last_atom m f xs (y ∷ ys) fs e w a h = whole m f y ys fs (tail_of e) a (C.carry_word P forward alike w fs h)
    where
      tail_of : {zs : List Lexeme} → y ∷ zs ≡ x ∷ [] → zs ≡ []
      tail_of e = cc

  carry_last : {c : Bool} {xs ys : List Lexeme} {p : ℕ} {t : Tree} → Derives true c xs ys p t → p ≡ 0 → ys ≡ x ∷ [] → (fs : Stack) → P (expect_term fs) xs
      → P (after_term 0 t fs) ys
  carry_last (a_variable {n = n} {ys = ys}) z e fs h =
      C.carry_past P forward alike (expect_term fs) (after_term 0 (variable n) fs) (variable_lexeme n) ys (is_more ys e) refl h
  carry_last (a_number {k = k} {n = n} {ys = ys}) z e fs h =
      C.carry_past P forward alike (expect_term fs) (after_term 0 (integer (pos n)) fs) (number k n) ys (is_more ys e) refl h
  carry_last (a_negative {f = f} {n = n} {ys = ys} w) z e fs h =
      C.carry_past P forward alike (after_name true f fs) (after_term 0 (integer (neg_ℤ (pos n))) fs) (number true n) ys (is_more ys e) refl
      (C.carry_word P forward alike w fs h)
  carry_last (in_braces {xs = xs} {ys = ys} {p = p} {t = t} d l) z e fs h =
      C.carry_past P forward alike (after_term p t (braces ▹ fs)) (after_term 0 (compound_1 braces_name t) fs) close_curly ys (is_more ys e) refl
      (C.carry P forward alike d (braces ▹ fs) refl l (by_end refl refl) (C.carry_brace P forward alike xs fs (begins d) (C.carry_on P forward alike
      (expect_term fs) (after_open false fs) open_curly xs (begins d) refl h)))
  carry_last (an_atom {m = m} {f = f} {xs = xs} {ys = ys} w a) z e fs h = last_atom m f xs ys fs e w a h
  carry_last (a_compound {m = m} {f = f} {ys = ys} {zs = zs} w d) z e fs h =
      C.carry_arguments P forward alike d f no_trees fs (is_more zs e) (C.carry_on P forward alike (after_name m f fs) (expect_term (arguments f no_trees ▹ fs))
      (open_paren true) ys (arguments_begin d) refl (C.carry_word P forward alike w fs h))
  carry_last (in_parens {k = k} {xs = xs} {ys = ys} {p = p} {t = t} d l) z e fs h =
      C.carry_past P forward alike (after_term p t (parens ▹ fs)) (after_term 0 t fs) close_paren ys (is_more ys e) refl
      (C.carry P forward alike d (parens ▹ fs) refl l (by_end refl refl) (C.carry_on P forward alike (expect_term fs) (expect_term (parens ▹ fs))
      (open_paren k) xs (begins d) refl h))
  carry_last (a_list {xs = xs} {ys = ys} d) z e fs h =
      C.carry_elements P forward alike d no_trees fs (is_more ys e) (C.carry_fresh P forward alike xs fs (elements_begin d) (C.carry_on P forward alike
      (expect_term fs) (after_open true fs) open_list xs (elements_begin d) refl h))
  carry_last (a_prefix {f = f} {o = o} w e' n d l) z e fs h = absurd (let q = positive o (prefix_lawful f o e') in omega arith)
  carry_last (an_infix {c = c} {x = y} {o = o} d e' l d' l') z e fs h = absurd (let q = positive o (infix_lawful c y o e') in omega arith)

if_left : (k : Bool) (f : Frame) (l : Level) (fs gs : Stack) (ls : List Level) → opened (f ▹ fs) ≡ l ∷ opened fs → opened gs ≡ ls
    → opened (if k then f ▹ fs else gs) ≡ (if k then l ∷ opened fs else ls)
if_left true f l fs gs ls e i = e
if_left false f l fs gs ls e i = i

-- what an infix operator leaves open
left_levels : (p : ℕ) (fs : Stack) → opened (frames_left p fs) ≡ left_open p (opened fs)
left_levels p (root cs) = refl
left_levels p (prefix_frame f o ▹ fs) = if_left (nat_le p o.right) (prefix_frame f o) (right_of o.right) fs _ _ refl (left_levels p fs)
left_levels p (infix_frame o t ▹ fs) = if_left (nat_le p o.right) (infix_frame o t) (right_of o.right) fs _ _ refl (left_levels p fs)
left_levels p (parens ▹ fs) = refl
left_levels p (braces ▹ fs) = refl
left_levels p (arguments f ts ▹ fs) = refl
left_levels p (list_elements ts ▹ fs) = refl
left_levels p (list_tail ts ▹ fs) = refl

abbrev fine : State → Next
fine s = Ok s

both : (a b : Bool) → (a && b) ≡ true → IsTrue a × IsTrue b
both true true e = (refl, refl)
both true false e = absurd (true≢false (sym e))
both false b e = absurd (true≢false (sym e))

no_infix : (c : Bool) (x : Lexeme) → IsTrue (is_opening x) → infix_at c x ≡ None
no_infix true (open_paren k) b = refl
no_infix true open_list b = refl
no_infix true open_curly b = refl
no_infix false (open_paren k) b = refl
no_infix false open_list b = refl
no_infix false open_curly b = refl
no_infix c x b = absurd (true≢false (sym b))

no_infix_number : (c j : Bool) (n : ℕ) → infix_at c (number j n) ≡ None
no_infix_number true j n = refl
no_infix_number false j n = refl

bracket_over : (x : Lexeme) (n : ℕ) → IsTrue (is_opening x) → max_text_levels ≤ n → bracket_past x n ≡ true
bracket_over x n b l = and_from (is_opening x) (nat_le max_text_levels n) b (le-leb max_text_levels n l)

no_prefix : (j k l : Bool) → IsTrue (not l || k) → (j && not k && l) ≡ false
no_prefix true true l e = refl
no_prefix false true l e = refl
no_prefix j false true e = absurd (true≢false (sym e))
no_prefix true false false e = refl
no_prefix false false false e = refl

same_past : (s r : State) (x : Lexeme) → Alike s r x → token_too_deep s x ≡ token_too_deep r x
same_past s r x a = a.same_past

module _ (v : Bool) where
  abbrev Past : State → List Lexeme → Type 0
  Past r zs = v ≡ ask_last Bool token_too_deep false (Ok r) zs

  past_forward : (s r : State) (x y : Lexeme) (ys : List Lexeme) → step true s x ≡ Ok r → Past s (x ∷ y ∷ ys) → Past r (y ∷ ys)
  past_forward s r x y ys e h = leads_forward Bool token_too_deep false same_past v s r x y ys e h

  past_alike : (s r : State) (x : Lexeme) (ys : List Lexeme) → Alike s r x → Past s (x ∷ ys) → Past r (x ∷ ys)
  past_alike s r x ys a h = leads_alike Bool token_too_deep false same_past v s r x ys a h

  past_atom : (m : Bool) (f : List ℕ) (y : Lexeme) (ys : List Lexeme) (fs : Stack) → ys ≡ [] → AtomBefore f (y ∷ ys) → Past (after_name m f fs) (y ∷ ys)
      → Past (after_term 0 (atom f) fs) (y ∷ ys)
  past_atom m f y [] fs e a h = h ∙ ap (λ k. past_name k f y fs) (no_prefix (not (joins m (y ∷ []))) (closes y) (is_operator f) a)
  past_atom m f y (z ∷ ys) fs e a h = absurd cc

  -- behind an operand
  record Behind (x : Lexeme) (t : Tree) (ls : List Level) : Type 0 where
    frames : Stack
    levels : opened frames ≡ ls
    past : v ≡ past_operand x frames

  behind_it : (xs ys : List Lexeme) (x : Lexeme) (t : Tree) (ls : List Level) → v ≡ ask_last Bool token_too_deep false (Ok (expect_term (root []))) xs
      → Wants true xs ys ls → Derives true (commas_inside ls) ys (x ∷ []) 0 t → Behind x t ls
  behind_it xs ys x t ls e w d =
      let r = reach Past past_forward past_alike w (begun_more ys (begins d)) e in
      record {
        frames = r.frames;
        levels = r.levels;
        past = carry_last Past past_forward past_alike past_atom x d refl refl r.frames (go_in Past past_forward past_alike ys (begins d) r.way);
      }

  record BehindName (m : Bool) (f : List ℕ) (x : Lexeme) (ls : List Level) : Type 0 where
    frames : Stack
    levels : opened frames ≡ ls
    past : v ≡ past_name (makes_prefix (after_name m f frames) x) f x frames

  behind_name : (xs ys : List Lexeme) (m : Bool) (f : List ℕ) (x : Lexeme) (ls : List Level)
      → v ≡ ask_last Bool token_too_deep false (Ok (expect_term (root []))) xs → Wants true xs ys ls → Word ys (x ∷ []) m f → BehindName m f x ls
  behind_name xs ys m f x ls e w d =
      let r = reach Past past_forward past_alike w (begun_more ys (word_begins d)) e in
      record {
        frames = r.frames;
        levels = r.levels;
        past = C.carry_word Past past_forward past_alike d r.frames (go_in Past past_forward past_alike ys (word_begins d) r.way);
      }

-- where a bracket stands where a term may begin
past_of_path : (s : State) (x : Lexeme) (ls : List Level) → path_before s x ≡ Some ls → IsTrue (is_opening x) → max_text_levels ≤ length ls
    → token_too_deep s x ≡ true
past_of_path (expect_term fs) x ls p b l = bracket_over x (depth fs) b (omega (arith, ap length (same_some p), length_opened fs))
past_of_path (after_open true fs) x ls p b l = bracket_over x (1 + depth fs) b (let i = ap length (same_some p) in omega (arith, length_opened fs))
past_of_path (after_open false fs) x ls p b l = bracket_over x (1 + depth fs) b (let i = ap length (same_some p) in omega (arith, length_opened fs))
past_of_path (after_name m f fs) x ls p b l = go (makes_prefix (after_name m f fs) x) (prefix_of f) refl p
  where
    go : (k : Bool) (i : Option Operator) → prefix_of f ≡ i → prefix_path k i fs ≡ Some ls → past_name k f x fs ≡ true
    go true (Some o) i p =
        ap (λ q. past_prefix q x fs) i ∙ bracket_over x (1 + depth fs) b (let j = ap length (same_some p) in omega (arith, length_opened fs))
    go true None i p = absurd cc
    go false q i p = absurd cc
past_of_path (after_term p t fs) x ls i b l = absurd cc

-- what opens a level past the limit in the grammar does so in the parser
pub past_of_opens : (xs : List Lexeme) (x : Lexeme) (s : State) (n : ℕ) → read_tokens true xs ≡ Ok s → OpensLevel xs x n → max_text_levels < n
    → token_too_deep s x ≡ true
past_of_opens xs x s n e (bracket_of_term {ls = ls} w b) l = past_of_path s x ls (path_of_open xs x s ls e w) b (omega arith)
past_of_opens xs x s n e (bracket_behind_operand {ys = ys} {ls = ls} {t = t} w d b) l =
    let h = behind_it (token_too_deep s x) (xs ++ x ∷ []) ys x t ls (sym (last_front Bool token_too_deep false (expect_term (root [])) xs x s e)) w d in
    h.past ∙ (ap (λ m. operator_past m x h.frames) (no_infix (commas h.frames) x b)
    ∙ bracket_over x (depth h.frames) b (omega (arith, ap length h.levels, length_opened h.frames)))
past_of_opens xs x s n e (bracket_behind_name {ys = ys} {ls = ls} {m = m} {f = f} w d o p i b) l =
    let h = behind_name (token_too_deep s x) (xs ++ x ∷ []) ys m f x ls (sym (last_front Bool token_too_deep false (expect_term (root [])) xs x s e)) w d in
    h.past ∙ (ap (λ k. past_name k f x h.frames) (all_three (not (joins m (x ∷ []))) (closes x) (is_operator f) i (opens_not x b) o)
    ∙ (ap (λ q. past_prefix q x h.frames) p ∙ bracket_over x (depth h.frames) b (omega (arith, ap length h.levels, length_opened h.frames))))
  where
    opens_not : (x : Lexeme) → IsTrue (is_opening x) → closes x ≡ false
    opens_not (open_paren k) b = refl
    opens_not open_list b = refl
    opens_not open_curly b = refl
    opens_not x b = absurd (true≢false (sym b))

    all_three : (j k q : Bool) → IsTrue j → k ≡ false → IsTrue q → (j && not k && q) ≡ true
    all_three true false true i k q = refl
    all_three true false false i k q = q
    all_three true true q i k o = absurd (true≢false k)
    all_three false k q i j o = absurd (true≢false (sym i))
past_of_opens xs x s n e (infix_behind_operand {ys = ys} {ls = ls} {t = t} {o = o} w d i) l =
    let h = behind_it (token_too_deep s x) (xs ++ x ∷ []) ys x t ls (sym (last_front Bool token_too_deep false (expect_term (root [])) xs x s e)) w d in
    let q : infix_at (commas h.frames) x ≡ Some o = ap (λ c. infix_at c x) (sym (commas_opened h.frames) ∙ ap commas_inside h.levels) ∙ i in
    h.past ∙ (ap (λ m. operator_past m x h.frames) q
    ∙ le-leb max_text_levels (depth (frames_left o.priority h.frames))
    (omega (
      arith,
      length_opened (frames_left o.priority h.frames),
      ap length (left_levels o.priority h.frames ∙ ap (left_open o.priority) h.levels),
    )))

-- the level past the limit that a token opens
abbrev pub OpensPast : List Lexeme → Lexeme → Type 0
OpensPast xs x = (n : ℕ) × OpensLevel xs x n × (max_text_levels < n)

module _ (xs : List Lexeme) (x : Lexeme) where
  operand_opens : (fs : Stack) (zs : List Lexeme) (t : Tree) → Wants true (xs ++ x ∷ []) zs (opened fs) → Derives true (commas fs) zs (x ∷ []) 0 t
      → past_operand x fs ≡ true → OpensPast xs x
  operand_opens fs zs t w d h = go (infix_at (commas fs) x) refl h
    where
      inside : Derives true (commas_inside (opened fs)) zs (x ∷ []) 0 t
      inside = subst (λ c. Derives true c zs (x ∷ []) 0 t) (sym (commas_opened fs)) d

      go : (m : Option Operator) → infix_at (commas fs) x ≡ m → operator_past m x fs ≡ true → OpensPast xs x
      go None e h =
          let b = both (is_opening x) (nat_le max_text_levels (depth fs)) h in
          let l = leb-true max_text_levels (depth fs) b.1 in
          (1 + length (opened fs), bracket_behind_operand w inside b.0, omega (arith, length_opened fs))
      go (Some o) e h =
          let l = leb-true max_text_levels (depth (frames_left o.priority fs)) h in (
            1 + length (left_open o.priority (opened fs)),
            infix_behind_operand w inside (ap (λ c. infix_at c x) (commas_opened fs) ∙ e),
            omega (arith, length_opened (frames_left o.priority fs), ap length (left_levels o.priority fs)),
          )

  bracket_opens : (s : State) (ls : List Level) (n : ℕ) → read_tokens true xs ≡ Ok s → path_before s x ≡ Some ls → length ls ≡ n → bracket_past x n ≡ true
      → OpensPast xs x
  bracket_opens s ls n e p i h =
      let b = both (is_opening x) (nat_le max_text_levels n) h in
      let l = leb-true max_text_levels n b.1 in
      (1 + length ls, bracket_of_term (open_before xs x [] ls s e p) b.0, omega arith)

  name_opens : (m : Bool) (f : List ℕ) (fs : Stack) (k : Fault) → read_tokens true xs ≡ Ok (after_name m f fs) → step true (after_name m f fs) x ≡ Err k
      → (j : Bool) → makes_prefix (after_name m f fs) x ≡ j → (i : Option Operator) → prefix_of f ≡ i → past_name j f x fs ≡ true → OpensPast xs x
  name_opens m f fs k e r true j (Some o) i h =
      bracket_opens (after_name m f fs) (right_of o.right ∷ opened fs) (1 + depth fs) e
      (ap (λ j. prefix_path j (prefix_of f) fs) j ∙ ap (λ i. prefix_path true i fs) i) (omega (arith, length_opened fs))
      (sym (ap (λ q. past_prefix q x fs) i) ∙ h)
  name_opens m f fs k e r true j None i h =
      let g = read_holds true xs (x ∷ []) (after_name m f fs) e in
      let b = both (is_opening x) (nat_le max_text_levels (depth fs)) (sym (ap (λ q. past_prefix q x fs) i) ∙ h) in
      let l = leb-true max_text_levels (depth fs) b.1 in
      let q = parts (not (joins m (x ∷ []))) (not (closes x)) (is_operator f) j in
      (1 + length (opened fs), bracket_behind_name (placed_in true (xs ++ x ∷ []) fs g.0 g.1) g.2 q.1 i q.0 b.0, omega (arith, length_opened fs))
    where
      parts : (a b c : Bool) → (a && b && c) ≡ true → IsTrue a × IsTrue c
      parts true true c e = (refl, e)
      parts true false c e = absurd (true≢false (sym e))
      parts false b c e = absurd (true≢false (sym e))
  name_opens m f fs k e r false j i p h =
      let g = read_holds true xs (x ∷ []) (after_name m f fs) e in
      operand_opens fs g.0 (atom f) (placed_in true (xs ++ x ∷ []) fs g.0 g.1)
      (an_atom g.2 (is_atom (joins m (x ∷ [])) (closes x) (is_operator f) (joins_not x h r) j)) h
    where
      joins_not : (x : Lexeme) → past_operand x fs ≡ true → step true (after_name m f fs) x ≡ Err k → joins m (x ∷ []) ≡ false
      joins_not (open_paren true) h r = absurd (never_both r)
        where
          never_both : {s : State} → fine s ≡ Err k → ⊥
          never_both e = cc
      joins_not (number q n) h r = absurd (true≢false (sym h ∙ ap (λ m. operator_past m (number q n) fs) (no_infix_number (commas fs) q n)))
      joins_not x h r = refl

      is_atom : (a b c : Bool) → a ≡ false → (not a && not b && c) ≡ false → IsTrue (not c || b)
      is_atom false true true e h = refl
      is_atom false true false e h = refl
      is_atom false false true e h = absurd (true≢false h)
      is_atom false false false e h = refl
      is_atom true b c e h = absurd (true≢false e)

  -- what the parser refuses, and what opens a level past the limit there, does so in the grammar
  pub opens_of_past : (s : State) (k : Fault) → read_tokens true xs ≡ Ok s → step true s x ≡ Err k → token_too_deep s x ≡ true → OpensPast xs x
  opens_of_past (expect_term fs) k e r h = bracket_opens (expect_term fs) (opened fs) (depth fs) e refl (length_opened fs) h
  opens_of_past (after_open true fs) k e r h =
      bracket_opens (after_open true fs) (in_list ∷ opened fs) (1 + depth fs) e refl (omega (arith, length_opened fs)) h
  opens_of_past (after_open false fs) k e r h =
      bracket_opens (after_open false fs) (enclosed ∷ opened fs) (1 + depth fs) e refl (omega (arith, length_opened fs)) h
  opens_of_past (after_name m f fs) k e r h = name_opens m f fs k e r (makes_prefix (after_name m f fs) x) refl (prefix_of f) refl h
  opens_of_past (after_term p t fs) k e r h =
      let g = read_holds true xs (x ∷ []) (after_term p t fs) e in
      operand_opens fs g.0 t (placed_in true (xs ++ x ∷ []) fs g.0 g.1) (subst (λ p. Derives true (commas fs) g.0 (x ∷ []) p t) g.4 g.2) h
