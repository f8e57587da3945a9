-- The stack by its last frame, and lists of terms by their last term.
use Rattle.std.specs.Prelude.{◌≡◌, ℕ, ◌<◌, ◌≤◌, nat_le, true, false, Ok, Err, Result, Option, Some, ◌+◌, nat_lt, if◌then◌else◌, List, [], ◌∷◌, ◌++◌, length}
use Rattle.std.proofs.Common.{refl, ap, sym, ◌∙◌, arith}
use Rattle.std.proofs.lemmas.Bool.{le-leb, lt-ltb, le-ltb}
use Rattle.ml_term.specs.Tree.{arity, Tree, Trees, tree, no_trees, trees_of, compound_1, compound_2}
use Rattle.ml_term.specs.Seen.{seen, all_seen}
use Rattle.ml_term.specs.declared.term.Term.{Term}
use Rattle.ml_reader.specs.Lexemes.{Lexeme, comma, trees_onto, cells, cell}
use Rattle.ml_reader.specs.Operators.{Operator}
use Rattle.ml_reader.specs.inside.parser.Parser as P
use Rattle.ml_reader.specs.inside.parser.Parser.{◌▹◌}
use Rattle.ml_reader.specs.Seen.{reversed_trees, operator_seen, lexeme_seen}
use Rattle.ml_reader.specs.inside.parser.Frames.{few, bracket_seen, frame_seen, stack_on, stack}
use Rattle.ml_reader.specs.inside.parser.LimitedSteps.{frames_left}
use Rattle.ml_reader.specs.declared.parser.operators.OperatorPriorities.{OperatorPriorities}
use Rattle.ml_reader.specs.declared.parser.lexeme.Lexeme.{Lexeme as Token}
use Rattle.ml_reader.specs.declared.parser.lexeme.Lexeme.TheVariants as T
use Rattle.ml_reader.specs.declared.parser.frames.Bracket.{Bracket}
use Rattle.ml_reader.specs.declared.parser.frames.Bracket.TheVariants as B
use Rattle.ml_reader.specs.declared.parser.frames.Frame.{Frame}
use Rattle.ml_reader.specs.declared.parser.frames.Refusal.{Refusal}
use Rattle.ml_reader.specs.declared.parser.frames.Refusal.TheVariants as R
use Rattle.ml_reader.specs.declared.parser.frames.Frame.TheVariants as F
use Rattle.ml_reader.proofs.Parsing.TokensAfterOperands.{place, leb_not}

abbrev frames_before : List Term → Trees → Trees
frames_before [] vs = vs
frames_before (t ∷ ts) vs = tree (seen t) (frames_before ts vs)

pub stack_on_last : (fs : List Frame) (f : Frame) (gs : P.Stack) → stack_on (fs ++ (f ∷ [])) gs ≡ frame_seen f ▹ stack_on fs gs
stack_on_last [] f gs = refl
stack_on_last (g ∷ fs) f gs = stack_on_last fs f (frame_seen g ▹ gs)

pub stack_last : (fs : List Frame) (f : Frame) → stack (fs ++ (f ∷ [])) ≡ frame_seen f ▹ stack fs
stack_last fs f = stack_on_last fs f (P.root [])

pub back_on_last : (ts : List Term) (t : Term) (us : Trees) → reversed_trees (all_seen (ts ++ (t ∷ []))) us ≡ tree (seen t) (reversed_trees (all_seen ts) us)
back_on_last [] t us = refl
back_on_last (u ∷ ts) t us = back_on_last ts t (tree (seen u) us)

pub last_of_reversed : (ts : List Term) (t : Term) → reversed_trees (all_seen (ts ++ (t ∷ []))) no_trees ≡ tree (seen t) (reversed_trees (all_seen ts) no_trees)
last_of_reversed ts t = back_on_last ts t no_trees

pub limit_at : (fs rest : List Frame) (f f' : Frame) → fs ≡ rest ++ (f ∷ []) → f ≡ f' → P.limit (stack fs) ≡ P.limit (frame_seen f' ▹ stack rest)
limit_at fs rest f f' e e' = ap (λ l. P.limit (stack l)) e ∙ (ap P.limit (stack_last rest f) ∙ ap (λ g. P.limit (frame_seen g ▹ stack rest)) e')

pub commas_at : (fs rest : List Frame) (f f' : Frame) → fs ≡ rest ++ (f ∷ []) → f ≡ f' → P.commas (stack fs) ≡ P.commas (frame_seen f' ▹ stack rest)
commas_at fs rest f f' e e' = ap (λ l. P.commas (stack l)) e ∙ (ap P.commas (stack_last rest f) ∙ ap (λ g. P.commas (frame_seen g ▹ stack rest)) e')

pub list_step : (old new : List Term) (t end end' : Term) → old ≡ new ++ (t ∷ []) → seen end' ≡ cell (seen t) (seen end)
    → cells (reversed_trees (all_seen new) no_trees) (seen end') ≡ cells (reversed_trees (all_seen old) no_trees) (seen end)
list_step old new t end end' e e' = ap (λ u. cells (reversed_trees (all_seen new) no_trees) u) e'
    ∙ sym (ap (λ l. cells (reversed_trees (all_seen l) no_trees) (seen end)) e ∙ ap (λ l. cells l (seen end)) (last_of_reversed new t))

onto_back : (ts : List Term) (us vs : Trees) → trees_onto (reversed_trees (all_seen ts) us) vs ≡ trees_onto us (frames_before ts vs)
onto_back [] us vs = refl
onto_back (t ∷ ts) us vs = onto_back ts (tree (seen t) us) vs

last_before : (ts : List Term) (t : Term) → trees_of (all_seen (ts ++ (t ∷ []))) ≡ frames_before ts (tree (seen t) no_trees)
last_before [] t = refl
last_before (u ∷ ts) t = ap (λ l. tree (seen u) l) (last_before ts t)

pub all_args : (ts us : List Term) (t : Term) → us ≡ ts ++ (t ∷ [])
    → trees_of (all_seen us) ≡ trees_onto (reversed_trees (all_seen ts) no_trees) (tree (seen t) no_trees)
all_args ts us t e = ap (λ l. trees_of (all_seen l)) e ∙ (last_before ts t ∙ sym (onto_back ts no_trees (tree (seen t) no_trees)))

pub stack_pushed : (fs new : List Frame) (f : Frame) (g : P.Frame) → new ≡ fs ++ (f ∷ []) → frame_seen f ≡ g → stack new ≡ g ▹ stack fs
stack_pushed fs new f g e e' = ap stack e ∙ (stack_last fs f ∙ ap (λ h. h ▹ stack fs) e')

pub back_pushed : (ts us : List Term) (t : Term) → us ≡ ts ++ (t ∷ [])
    → reversed_trees (all_seen us) no_trees ≡ tree (seen t) (reversed_trees (all_seen ts) no_trees)
back_pushed ts us t e = ap (λ l. reversed_trees (all_seen l) no_trees) e ∙ last_of_reversed ts t

pub limit_bracket : (b : Bracket) (fs : P.Stack) → P.limit (bracket_seen b ▹ P.root []) ≡ P.limit (bracket_seen b ▹ fs)
limit_bracket B.Parens fs = refl
limit_bracket B.Braces fs = refl
limit_bracket (B.Arguments a) fs = refl
limit_bracket (B.ListElements ts) fs = refl
limit_bracket (B.ListTail ts) fs = refl

pub commas_bracket : (b : Bracket) (fs : P.Stack) → P.commas (bracket_seen b ▹ P.root []) ≡ P.commas (bracket_seen b ▹ fs)
commas_bracket B.Parens fs = refl
commas_bracket B.Braces fs = refl
commas_bracket (B.Arguments a) fs = refl
commas_bracket (B.ListElements ts) fs = refl
commas_bracket (B.ListTail ts) fs = refl

left_bracket : (p : ℕ) (b : Bracket) (fs : P.Stack) → frames_left p (bracket_seen b ▹ fs) ≡ bracket_seen b ▹ fs
left_bracket p B.Parens fs = refl
left_bracket p B.Braces fs = refl
left_bracket p (B.Arguments a) fs = refl
left_bracket p (B.ListElements ts) fs = refl
left_bracket p (B.ListTail ts) fs = refl

-- what the last frame of a vector is, on the stack
top : (old new : List Frame) (f f' : Frame) → old ≡ new ++ (f ∷ []) → f ≡ f' → stack old ≡ frame_seen f' ▹ stack new
top old new f f' e e' = ap stack e ∙ (stack_last new f ∙ ap (λ g. frame_seen g ▹ stack new) e')

-- what an infix operator of this priority leaves of a vector's frames, by the last one
module _ (p : ℕ) (old new : List Frame) (fr : Frame) (e : old ≡ new ++ (fr ∷ [])) where
  pub left_open : (b : Bracket) → fr ≡ F.Open b → frames_left p (stack old) ≡ stack old
  left_open b i = let h = top old new fr (F.Open b) e i in ap (frames_left p) h ∙ (left_bracket p b (stack new) ∙ sym h)

  pub left_prefix : (f : List ℕ) (s : OperatorPriorities) → fr ≡ F.Prefix f s → p ≤ s.right → frames_left p (stack old) ≡ stack old
  left_prefix f s i l =
      let h = top old new fr (F.Prefix f s) e i in
      ap (frames_left p) h
      ∙ (ap (λ k. if k then frame_seen (F.Prefix f s) ▹ stack new else frames_left p (stack new)) (le-leb p s.right l) ∙ sym h)

  pub ends_prefix : (f : List ℕ) (s : OperatorPriorities) → fr ≡ F.Prefix f s → s.right < p → frames_left p (stack old) ≡ frames_left p (stack new)
  ends_prefix f s i l =
      ap (frames_left p) (top old new fr (F.Prefix f s) e i)
      ∙ ap (λ k. if k then frame_seen (F.Prefix f s) ▹ stack new else frames_left p (stack new)) (leb_not p s.right l)

  pub left_infix : (f : List ℕ) (s : OperatorPriorities) (t : Term) → fr ≡ F.Infix f s t → p ≤ s.right → frames_left p (stack old) ≡ stack old
  left_infix f s t i l =
      let h = top old new fr (F.Infix f s t) e i in
      ap (frames_left p) h
      ∙ (ap (λ k. if k then frame_seen (F.Infix f s t) ▹ stack new else frames_left p (stack new)) (le-leb p s.right l) ∙ sym h)

  pub ends_infix : (f : List ℕ) (s : OperatorPriorities) (t : Term) → fr ≡ F.Infix f s t → s.right < p → frames_left p (stack old) ≡ frames_left p (stack new)
  ends_infix f s t i l =
      ap (frames_left p) (top old new fr (F.Infix f s t) e i)
      ∙ ap (λ k. if k then frame_seen (F.Infix f s t) ▹ stack new else frames_left p (stack new)) (leb_not p s.right l)

module _ (old new : List Frame) (fr : Frame) (t t' : Term) (e : old ≡ new ++ (fr ∷ [])) where
  pub ended_before : (x : Lexeme) (f : List ℕ) (s : OperatorPriorities) → fr ≡ F.Prefix f s → seen t' ≡ compound_1 f (seen t)
      → P.finish_operand x (seen t') (stack new) ≡ P.finish_operand x (seen t) (stack old)
  ended_before x f s i e' = ap (λ u. P.finish_operand x u (stack new)) e' ∙ sym (ap (λ l. P.finish_operand x (seen t) l) (top old new fr (F.Prefix f s) e i))

  pub ended_between : (x : Lexeme) (f : List ℕ) (s : OperatorPriorities) (u : Term) → fr ≡ F.Infix f s u → seen t' ≡ compound_2 f (seen u) (seen t)
      → P.finish_operand x (seen t') (stack new) ≡ P.finish_operand x (seen t) (stack old)
  ended_between x f s u i e' =
      ap (λ u. P.finish_operand x u (stack new)) e' ∙ sym (ap (λ l. P.finish_operand x (seen t) l) (top old new fr (F.Infix f s u) e i))

  pub ended_open : (x : Lexeme) (b : Bracket) → fr ≡ F.Open b
      → P.finish_operand x (seen t) (bracket_seen b ▹ stack new) ≡ P.finish_operand x (seen t) (stack old)
  ended_open x b i = sym (ap (λ l. P.finish_operand x (seen t) l) (top old new fr (F.Open b) e i))

  pub operated_before : (o : Operator) (p : ℕ) (f : List ℕ) (s : OperatorPriorities) → fr ≡ F.Prefix f s → seen t' ≡ compound_1 f (seen t)
      → P.limit (stack old) < o.priority
      → P.infix_operator true o s.priority (seen t') (stack new) ≡ P.infix_operator true o p (seen t) (stack old)
  operated_before o p f s i e' l =
      let h = top old new fr (F.Prefix f s) e i in
      let l' : s.right < o.priority = omega (arith, l, ap P.limit h) in
      ap (λ u. P.infix_operator true o s.priority u (stack new)) e'
      ∙ sym (ap (λ l. P.infix_operator true o p (seen t) l) h ∙ ap (λ k. P.try_infix true k o p (seen t) (frame_seen (F.Prefix f s) ▹ stack new)
      (P.infix_operator true o s.priority (compound_1 f (seen t)) (stack new))) (leb_not o.priority s.right l'))

  pub operated_between : (o : Operator) (p : ℕ) (f : List ℕ) (s : OperatorPriorities) (u : Term) → fr ≡ F.Infix f s u → seen t' ≡ compound_2 f (seen u) (seen t)
      → P.limit (stack old) < o.priority
      → P.infix_operator true o s.priority (seen t') (stack new) ≡ P.infix_operator true o p (seen t) (stack old)
  operated_between o p f s u i e' l =
      let h = top old new fr (F.Infix f s u) e i in
      let l' : s.right < o.priority = omega (arith, l, ap P.limit h) in
      ap (λ u. P.infix_operator true o s.priority u (stack new)) e'
      ∙ sym (ap (λ l. P.infix_operator true o p (seen t) l) h ∙ ap (λ k. P.try_infix true k o p (seen t) (frame_seen (F.Infix f s u) ▹ stack new)
      (P.infix_operator true o s.priority (compound_2 f (seen u) (seen t)) (stack new))) (leb_not o.priority s.right l'))

  pub operated_open : (o : Operator) (p : ℕ) (b : Bracket) → fr ≡ F.Open b → P.limit (stack old) < o.priority
      → Err P.clash ≡ P.infix_operator true o p (seen t) (stack old)
  operated_open o p b i l =
      let h = top old new fr (F.Open b) e i in
      let l' : P.limit (bracket_seen b ▹ stack new) < o.priority = omega (arith, l, ap P.limit h) in
      sym (ap (λ l. P.infix_operator true o p (seen t) l) h ∙ at_bracket b (leb_not o.priority (P.limit (bracket_seen b ▹ stack new)) l'))
    where
      at_bracket : (b : Bracket) → nat_le o.priority (P.limit (bracket_seen b ▹ stack new)) ≡ false
          → P.infix_operator true o p (seen t) (bracket_seen b ▹ stack new) ≡ Err P.clash
      at_bracket B.Parens k = ap (λ k. P.try_infix true k o p (seen t) (bracket_seen B.Parens ▹ stack new) (Err P.clash)) k
      at_bracket B.Braces k = ap (λ k. P.try_infix true k o p (seen t) (bracket_seen B.Braces ▹ stack new) (Err P.clash)) k
      at_bracket (B.Arguments a) k = ap (λ k. P.try_infix true k o p (seen t) (bracket_seen (B.Arguments a) ▹ stack new) (Err P.clash)) k
      at_bracket (B.ListElements ts) k = ap (λ k. P.try_infix true k o p (seen t) (bracket_seen (B.ListElements ts) ▹ stack new) (Err P.clash)) k
      at_bracket (B.ListTail ts) k = ap (λ k. P.try_infix true k o p (seen t) (bracket_seen (B.ListTail ts) ▹ stack new) (Err P.clash)) k

pub operated_none : (o : Operator) (p : ℕ) (t : Tree) → 1200 < o.priority → P.infix_operator true o p t (P.root []) ≡ Err P.clash
operated_none o p t l = ap (λ k. P.try_infix true k o p t (P.root []) (Err P.clash)) (leb_not o.priority 1200 l)

pub operated_clash : (o : Operator) (p : ℕ) (t : Tree) (fs : P.Stack) → o.priority ≤ P.limit fs → o.left < p → P.infix_operator true o p t fs ≡ Err P.clash
operated_clash o p t fs h l = go fs (le-leb _ _ h)
  where
    over : (fs : P.Stack) → P.place_infix (nat_le p o.left) o t fs ≡ Err P.clash
    over fs = ap (λ k. P.place_infix k o t fs) (leb_not p o.left l)

    go : (fs : P.Stack) → nat_le o.priority (P.limit fs) ≡ true → P.infix_operator true o p t fs ≡ Err P.clash
    go (P.prefix_frame f o' ▹ fs) e = ap (λ k. P.try_infix true k o p t (P.prefix_frame f o' ▹ fs) (P.infix_operator true o o'.priority (compound_1 f t) fs)) e
        ∙ over (P.prefix_frame f o' ▹ fs)
    go (P.infix_frame o' u ▹ fs) e = ap (λ k. P.try_infix true k o p t (P.infix_frame o' u ▹ fs) (P.infix_operator true o o'.priority (compound_2 o'.name u t)
        fs)) e ∙ over (P.infix_frame o' u ▹ fs)
    go (P.root cs) e = ap (λ k. P.try_infix true k o p t (P.root cs) (Err P.clash)) e ∙ over (P.root cs)
    go (P.parens ▹ fs) e = ap (λ k. P.try_infix true k o p t (P.parens ▹ fs) (Err P.clash)) e ∙ over (P.parens ▹ fs)
    go (P.braces ▹ fs) e = ap (λ k. P.try_infix true k o p t (P.braces ▹ fs) (Err P.clash)) e ∙ over (P.braces ▹ fs)
    go (P.arguments f ts ▹ fs) e = ap (λ k. P.try_infix true k o p t (P.arguments f ts ▹ fs) (Err P.clash)) e ∙ over (P.arguments f ts ▹ fs)
    go (P.list_elements ts ▹ fs) e = ap (λ k. P.try_infix true k o p t (P.list_elements ts ▹ fs) (Err P.clash)) e ∙ over (P.list_elements ts ▹ fs)
    go (P.list_tail ts ▹ fs) e = ap (λ k. P.try_infix true k o p t (P.list_tail ts ▹ fs) (Err P.clash)) e ∙ over (P.list_tail ts ▹ fs)

pub operated_placed : (o : Operator) (p : ℕ) (t : Tree) (fs : P.Stack) → o.priority ≤ P.limit fs → p ≤ o.left
    → P.infix_operator true o p t fs ≡ Ok (P.expect_term (P.infix_frame o t ▹ fs))
operated_placed o p t fs h l = place o p t fs (le-leb _ _ l) (le-leb _ _ h)

-- the parser goes on in a state
abbrev pub going : P.State → Result P.State Refusal
going s = Ok s

arity_back : (ts : List Term) (us : Trees) → arity (reversed_trees (all_seen ts) us) ≡ length ts + arity us
arity_back [] us = omega arith
arity_back (t ∷ ts) us = let h = arity_back ts (tree (seen t) us) in omega (arith, h)

-- a comma behind 254 arguments and one more begins argument 256
pub many_stop : (f : List ℕ) (ts : List Term) (t : Tree) (fs : P.Stack) → 254 ≤ length ts
    → Err R.ManyArguments ≡ few (P.finish_operand comma t (P.arguments f (reversed_trees (all_seen ts) no_trees) ▹ fs))
many_stop f ts t fs l =
    let n : ℕ = 1 + arity (reversed_trees (all_seen ts) no_trees) in
    let h : nat_lt 254 n ≡ true = lt-ltb 254 n (let a = arity_back ts no_trees in omega (arith, a, l)) in
    sym (ap (λ k. if k then Err R.ManyArguments else going (P.expect_term (P.arguments f (tree t (reversed_trees (all_seen ts) no_trees)) ▹ fs))) h)

-- a comma behind fewer arguments begins another one
pub few_go : (f : List ℕ) (ts : List Term) (t : Tree) (fs : P.Stack) → length ts < 254
    → going (P.expect_term (P.arguments f (tree t (reversed_trees (all_seen ts) no_trees)) ▹ fs))
    ≡ few (P.finish_operand comma t (P.arguments f (reversed_trees (all_seen ts) no_trees) ▹ fs))
few_go f ts t fs l =
    let n : ℕ = 1 + arity (reversed_trees (all_seen ts) no_trees) in
    let h : nat_lt 254 n ≡ false = le-ltb 254 n (let a = arity_back ts no_trees in omega (arith, a, l)) in
    sym (ap (λ k. if k then Err R.ManyArguments else going (P.expect_term (P.arguments f (tree t (reversed_trees (all_seen ts) no_trees)) ▹ fs))) h)

pub operated_empty : (o : Operator) (p : ℕ) (t : Tree) (fs : List Frame) → length fs ≡ 0 → P.limit (stack fs) < o.priority
    → Err P.clash ≡ P.infix_operator true o p t (stack fs)
operated_empty o p t [] e l = sym (operated_none o p t l)
operated_empty o p t (f ∷ fs) e l = absurd (omega (arith, e))

pub prefix_placed : (f : List ℕ) (s : OperatorPriorities) (m : Option Operator) (x : Lexeme) (fs : P.Stack) → m ≡ Some (operator_seen f s)
    → s.priority ≤ P.limit fs
    → P.begin_term x (P.prefix_frame f (operator_seen f s) ▹ fs) ≡ P.prefix_operator true m f x fs
prefix_placed f s m x fs e l = sym (ap (λ m. P.prefix_operator true m f x fs) e ∙ ap (λ k. P.place_prefix k f (operator_seen f s) x fs) (le-leb _ _ l))

-- where a `[` isn't closed at once, an element is wanted
pub square_other : (x : Token) → (x ≡ T.CloseList → ⊥) → (fs : P.Stack)
    → P.begin_term (lexeme_seen x) (P.list_elements no_trees ▹ fs) ≡ P.follow_open true (lexeme_seen x) fs
square_other T.CloseList n fs = absurd (n refl)
square_other (T.Name q f) n fs = refl
square_other (T.Variable v) n fs = refl
square_other (T.Number k v) n fs = refl
square_other (T.OpenParen k) n fs = refl
square_other T.CloseParen n fs = refl
square_other T.OpenList n fs = refl
square_other T.OpenCurly n fs = refl
square_other T.CloseCurly n fs = refl
square_other T.HeadTailSeparator n fs = refl
square_other T.Comma n fs = refl
square_other (T.End m) n fs = refl

-- where a `{` isn't closed at once, a term is wanted
pub curly_other : (x : Token) → (x ≡ T.CloseCurly → ⊥) → (fs : P.Stack) → P.begin_term (lexeme_seen x) (P.braces ▹ fs) ≡ P.follow_open false (lexeme_seen x) fs
curly_other T.CloseCurly n fs = absurd (n refl)
curly_other (T.Name q f) n fs = refl
curly_other (T.Variable v) n fs = refl
curly_other (T.Number k v) n fs = refl
curly_other (T.OpenParen k) n fs = refl
curly_other T.CloseParen n fs = refl
curly_other T.OpenList n fs = refl
curly_other T.CloseList n fs = refl
curly_other T.OpenCurly n fs = refl
curly_other T.HeadTailSeparator n fs = refl
curly_other T.Comma n fs = refl
curly_other (T.End m) n fs = refl
