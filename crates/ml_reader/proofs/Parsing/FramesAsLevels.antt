-- Where a term is wanted, the parser's frames are the levels that are open.
use Rattle.std.specs.Prelude.{◌≡◌, ℕ, ◌+◌, true, false, IsTrue, List, [], ◌∷◌, Some, Ok}
use Rattle.std.proofs.Common.{refl, sym, ap, ◌∙◌, subst, arith}
use Rattle.ml_term.specs.Tree.{Trees, arity, no_trees, tree}
use Rattle.ml_reader.specs.Lexemes.{ReadClause, clause_from, Lexeme, open_paren, open_list, open_curly, head_tail_separator, comma, end}
use Rattle.ml_reader.specs.Operators.{infix_at, priority_fits}
use Rattle.ml_reader.specs.inside.parser.Parser.{prefix_frame, infix_frame, parens, braces, arguments, list_elements, list_tail, Stack, root, ◌▹◌, State}
use Rattle.ml_reader.specs.inside.parser.Parser.{expect_term, after_open, after_name, after_term, commas, limit, follow_term_as, step}
use Rattle.ml_reader.specs.Levels.{Level, enclosed, in_argument, in_list, in_tail, right_of, commas_inside, greatest_inside, Wants, at_first, behind_clause}
use Rattle.ml_reader.specs.Levels.{behind_paren, behind_brace, behind_bracket, behind_functor, behind_argument, behind_element, behind_bar, behind_prefix}
use Rattle.ml_reader.specs.Levels.{behind_infix}
use Rattle.ml_reader.proofs.Parsing.OperatorRows.{infix_lawful, left_within}
use Rattle.ml_reader.proofs.Parsing.OpenLevels.{opened, commas_opened, greatest_opened, Alike}
use Rattle.ml_reader.proofs.Parsing.TokensAfterOperands.{by_infix, by_end, IsMore, Begins, begins, word_begins, place, fit, fit_again}
use Rattle.ml_reader.proofs.Parsing.TermsRunThrough as C

pub same_some : {ls ms : List Level} → Some ls ≡ Some ms → ls ≡ ms
same_some e = cc

-- Where the levels say so, the frames are these.
record InArguments (fs : Stack) (n : ℕ) (ls : List Level) : Type 0 where
  functor : List ℕ
  trees : Trees
  below : Stack
  frames : fs ≡ arguments functor trees ▹ below
  count : 1 + arity trees ≡ n
  levels : opened below ≡ ls

in_arguments : (fs : Stack) (n : ℕ) (ls : List Level) → opened fs ≡ in_argument n ∷ ls → InArguments fs n ls
in_arguments (arguments f ts ▹ fs) n ls e = record { functor = f; trees = ts; below = fs; frames = refl; count = cc; levels = cc }
in_arguments fs n ls e = absurd cc

record InList (fs : Stack) (ls : List Level) : Type 0 where
  trees : Trees
  below : Stack
  frames : fs ≡ list_elements trees ▹ below
  levels : opened below ≡ ls

in_elements : (fs : Stack) (ls : List Level) → opened fs ≡ in_list ∷ ls → InList fs ls
in_elements (list_elements ts ▹ fs) ls e = record { trees = ts; below = fs; frames = refl; levels = cc }
in_elements fs ls e = absurd cc

at_bottom : (fs : Stack) → opened fs ≡ [] → (cs : List ReadClause) × (fs ≡ root cs)
at_bottom (root cs) e = (cs, refl)
at_bottom (prefix_frame f o ▹ fs) e = absurd cc
at_bottom (infix_frame o t ▹ fs) e = absurd cc
at_bottom (parens ▹ fs) e = absurd cc
at_bottom (braces ▹ fs) e = absurd cc
at_bottom (arguments f ts ▹ fs) e = absurd cc
at_bottom (list_elements ts ▹ fs) e = absurd cc
at_bottom (list_tail ts ▹ fs) e = absurd cc

pub begun_more : (ys : List Lexeme) → Begins ys → IsMore ys
begun_more [] b = absurd b
begun_more (y ∷ ys) b = tt

module _ (P : State → List Lexeme → Type 0) (forward : (s r : State) (x y : Lexeme) (ys : List Lexeme) → step true s x ≡ Ok r → P s (x ∷ y ∷ ys) → P r (y ∷ ys))
    (alike : (s r : State) (x : Lexeme) (ys : List Lexeme) → Alike s r x → P s (x ∷ ys) → P r (x ∷ ys)) where
  -- the parser stands in these frames, or behind the bracket that opens the first of them
  pub data Way : Stack → List Lexeme → Type 0 where
    straight : {fs : Stack} {ys : List Lexeme} → P (expect_term fs) ys → Way fs ys
    at_bracket : {fs : Stack} {ys : List Lexeme} → P (after_open true fs) ys → Way (list_elements no_trees ▹ fs) ys
    at_brace : {fs : Stack} {ys : List Lexeme} → P (after_open false fs) ys → Way (braces ▹ fs) ys

  pub go_in : {fs : Stack} (ys : List Lexeme) → Begins ys → Way fs ys → P (expect_term fs) ys
  go_in ys b (straight h) = h
  go_in ys b (at_bracket {fs = fs} h) = C.carry_fresh P forward alike ys fs b h
  go_in ys b (at_brace {fs = fs} h) = C.carry_brace P forward alike ys fs b h

  pub record Reached (ys : List Lexeme) (ls : List Level) : Type 0 where
    pub frames : Stack
    pub levels : opened frames ≡ ls
    pub way : Way frames ys

  pub reach : {xs ys : List Lexeme} {ls : List Level} → Wants true xs ys ls → IsMore ys → P (expect_term (root [])) xs → Reached ys ls
  reach at_first m h = record { frames = root []; levels = refl; way = straight h }
  reach (behind_clause {ys = ys} {zs = zs} {m = m} {p = p} {t = t} w d l) i h =
      let r = reach w (begun_more ys (begins d)) h in
      let f = at_bottom r.frames r.levels in
      let k = go_in ys (begins d) (subst (λ fs. Way fs ys) f.1 r.way) in
      record {
        frames = root (clause_from m t ∷ f.0);
        levels = refl;
        way = straight (C.carry_past P forward alike (after_term p t (root f.0)) (expect_term (root (clause_from m t ∷ f.0))) (end m) zs i refl
            (C.carry P forward alike d (root f.0) refl l (by_end refl refl) k));
      }
  reach (behind_paren {ys = ys} {k = k} w) i h =
      let r = reach w tt h in
      record {
        frames = parens ▹ r.frames;
        levels = ap (λ ls. enclosed ∷ ls) r.levels;
        way = straight (C.carry_past P forward alike (expect_term r.frames) (expect_term (parens ▹ r.frames)) (open_paren k) ys i refl
            (go_in (open_paren k ∷ ys) refl r.way));
      }
  reach (behind_brace {ys = ys} w) i h =
      let r = reach w tt h in
      record {
        frames = braces ▹ r.frames;
        levels = ap (λ ls. enclosed ∷ ls) r.levels;
        way = at_brace (C.carry_past P forward alike (expect_term r.frames) (after_open false r.frames) open_curly ys i refl
            (go_in (open_curly ∷ ys) refl r.way));
      }
  reach (behind_bracket {ys = ys} w) i h =
      let r = reach w tt h in
      record {
        frames = list_elements no_trees ▹ r.frames;
        levels = ap (λ ls. in_list ∷ ls) r.levels;
        way =
            at_bracket (C.carry_past P forward alike (expect_term r.frames) (after_open true r.frames) open_list ys i refl (go_in (open_list ∷ ys) refl r.way));
      }
  reach (behind_functor {ys = ys} {zs = zs} {m = m} {f = f} w d) i h =
      let r = reach w (begun_more ys (word_begins d)) h in
      record {
        frames = arguments f no_trees ▹ r.frames;
        levels = ap (λ ls. in_argument 1 ∷ ls) r.levels;
        way = straight (C.carry_past P forward alike (after_name m f r.frames) (expect_term (arguments f no_trees ▹ r.frames)) (open_paren true) zs i refl
            (C.carry_word P forward alike d r.frames (go_in ys (word_begins d) r.way)));
      }
  reach (behind_argument {ys = ys} {zs = zs} {ls = ls} {n = n} {p = p} {t = t} w d l) i h =
      let r = reach w (begun_more ys (begins d)) h in
      let a = in_arguments r.frames n ls r.levels in
      let k = go_in ys (begins d) (subst (λ fs. Way fs ys) a.frames r.way) in
      record {
        frames = arguments a.functor (tree t a.trees) ▹ a.below;
        levels = ap (λ n. in_argument (1 + n) ∷ opened a.below) a.count ∙ ap (λ ls. in_argument (1 + n) ∷ ls) a.levels;
        way = straight (C.carry_past P forward alike (after_term p t (arguments a.functor a.trees ▹ a.below))
            (expect_term (arguments a.functor (tree t a.trees) ▹ a.below)) comma zs i refl
            (C.carry P forward alike d (arguments a.functor a.trees ▹ a.below) refl l (by_end refl refl) k));
      }
  reach (behind_element {ys = ys} {zs = zs} {ls = ls} {p = p} {t = t} w d l) i h =
      let r = reach w (begun_more ys (begins d)) h in
      let a = in_elements r.frames ls r.levels in
      let k = go_in ys (begins d) (subst (λ fs. Way fs ys) a.frames r.way) in
      record {
        frames = list_elements (tree t a.trees) ▹ a.below;
        levels = ap (λ ls. in_list ∷ ls) a.levels;
        way = straight (C.carry_past P forward alike (after_term p t (list_elements a.trees ▹ a.below)) (expect_term (list_elements (tree t a.trees) ▹ a.below))
            comma zs i refl
            (C.carry P forward alike d (list_elements a.trees ▹ a.below) refl l (by_end refl refl) k));
      }
  reach (behind_bar {ys = ys} {zs = zs} {ls = ls} {p = p} {t = t} w d l) i h =
      let r = reach w (begun_more ys (begins d)) h in
      let a = in_elements r.frames ls r.levels in
      let k = go_in ys (begins d) (subst (λ fs. Way fs ys) a.frames r.way) in
      record {
        frames = list_tail (tree t a.trees) ▹ a.below;
        levels = ap (λ ls. in_tail ∷ ls) a.levels;
        way = straight (C.carry_past P forward alike (after_term p t (list_elements a.trees ▹ a.below)) (expect_term (list_tail (tree t a.trees) ▹ a.below))
            head_tail_separator zs i refl
            (C.carry P forward alike d (list_elements a.trees ▹ a.below) refl l (by_end refl refl) k));
      }
  reach (behind_prefix {y = y} {ys = ys} {zs = zs} {ls = ls} {m = m} {f = f} {o = o} w d e n s l) i h =
      let r = reach w (begun_more ys (word_begins d)) h in
      let q : IsTrue (priority_fits true o.priority (limit r.frames)) = subst (λ q. IsTrue (priority_fits true o.priority q)) (sym (ap greatest_inside r.levels)
      ∙ greatest_opened r.frames) l in
      record {
        frames = prefix_frame f o ▹ r.frames;
        levels = ap (λ ls. right_of o.right ∷ ls) r.levels;
        way = straight (C.carry_prefix P forward alike m f o ys (y ∷ zs) r.frames d e n s q (go_in ys (word_begins d) r.way));
      }
  reach (behind_infix {x = x} {ys = ys} {zs = zs} {ls = ls} {o = o} {p = p} {t = t} w d e l g) i h =
      let r = reach w (begun_more ys (begins d)) h in
      let ec : commas r.frames ≡ commas_inside ls = sym (commas_opened r.frames) ∙ ap commas_inside r.levels in
      let q : IsTrue (priority_fits true o.priority (limit r.frames)) = subst (λ q. IsTrue (priority_fits true o.priority q)) (sym (ap greatest_inside r.levels)
      ∙ greatest_opened r.frames) g in
      let law = infix_lawful (commas_inside ls) x o e in
      let l' : IsTrue (priority_fits true p (limit r.frames)) = fit_again p (limit r.frames) (let a = fit p o.left l in let b = left_within o law in
      let c = fit o.priority (limit r.frames) q in omega arith) in
      record {
        frames = infix_frame o t ▹ r.frames;
        levels = ap (λ ls. right_of o.right ∷ ls) r.levels;
        way = straight (C.carry_past P forward alike (after_term p t r.frames) (expect_term (infix_frame o t ▹ r.frames)) x zs i
            (ap (λ m. follow_term_as true m x p t r.frames) (ap (λ c. infix_at c x) ec ∙ e) ∙ place o p t r.frames l q)
            (C.carry P forward alike d r.frames ec l' (by_infix e (fit p o.left l)) (go_in ys (begins d) r.way)));
      }
