-- A turn over clauses that were read before is the turn over none.
use Rattle.std.specs.Prelude.{◌≡◌, ℕ, ◌+◌, Bool, true, false, ◌&&◌, ◌||◌, not, nat_le, nat_lt, if◌then◌else◌, List, [], ◌∷◌, length, Option, Some, None, Result}
use Rattle.std.specs.Prelude.{Ok, Err}
use Rattle.std.proofs.Common.{refl, ap, ◌∙◌}
use Rattle.ml_token.specs.inside.Tokens.{first_token}
use Rattle.ml_token.specs.declared.tokens.Token.{Token}
use Rattle.ml_token.specs.declared.tokens.TokenFault.{TokenFault}
use Rattle.ml_reader.specs.Lexemes.{ReadClause, Lexeme, number}
use Rattle.ml_reader.specs.Operators.{Operator, prefix_of, infix_at}
use Rattle.ml_reader.specs.Tokens.{TokenContext, lexeme, behind}
use Rattle.ml_reader.specs.inside.parser.Parser.{Frame, prefix_frame, infix_frame, parens, braces, arguments, list_elements, list_tail, Stack, root, ◌▹◌, State}
use Rattle.ml_reader.specs.inside.parser.Parser.{expect_term, after_open, after_name, after_term, clash, unexpected, Next, commas, step}
use Rattle.ml_reader.specs.inside.parser.Frames.{has_many, few}
use Rattle.ml_term.specs.Tree.{nodes}
use Rattle.ml_reader.specs.inside.parser.LimitedSteps.{depth, levels, opens_past, frames_left, bracket_past, operator_past, past_operand}
use Rattle.ml_reader.specs.inside.parser.LimitedSteps.{past_prefix, past_name, token_past, token_too_deep, name_too_deep, makes_prefix, joins_minus, is_lone, LimitedOutcome, to_state}
use Rattle.ml_reader.specs.inside.parser.LimitedSteps.{name_over_limit, to_fault, fault_at, clause_within_nodes, too_many, stop_within_limits, check_limits}
use Rattle.ml_reader.specs.inside.parser.LimitedSteps.{limited_step}
use Rattle.ml_reader.specs.inside.parser.Turns.{ReadOutcome, reads_on, ends_between, finds_fault, is_eof, is_between, over_limit_kind, stays_open}
use Rattle.ml_reader.specs.inside.parser.Turns.{outcome_of_step, place_at, outcome_at_end, outcome_at, read_outcome}
use Rattle.ml_reader.specs.Faults.{fault, read_kind_of}
use Rattle.ml_reader.specs.declared.parser.frames.Refusal.{Refusal}
use Rattle.ml_reader.specs.declared.parser.frames.Refusal.TheVariants.{ManyArguments}
use Rattle.ml_reader.specs.declared.fault.ReadKind.{ReadKind}
use Rattle.ml_reader.specs.declared.fault.ReadKind.TheVariants.{TooDeep, ClauseTooLong, NumberTooLarge, PriorityClash, Unexpected, TooManyNodes}
use Rattle.ml_term.specs.Limits.{max_term_nodes, integer_offset}
use Rattle.ml_reader.specs.Limits.{max_text_levels, max_clause_tokens}
use Rattle.ml_reader.specs.declared.parser.limited.TokenPlace.{TokenPlace}
use Rattle.ml_reader.proofs.Parsing.ClausesBefore.{over, state_over, next_over, commas_over, step_over}
use Rattle.ml_reader.proofs.Parsing.ClauseEnds.{EndsClause, step_ends}

module _ (ws : List ReadClause) where
  abbrev pub outcome_over : LimitedOutcome → LimitedOutcome
  outcome_over (to_state s) = to_state (state_over ws s)
  outcome_over (name_over_limit s) = name_over_limit (state_over ws s)
  outcome_over (to_fault f) = to_fault f

  abbrev pub turned_over : ReadOutcome → ReadOutcome
  turned_over (reads_on c s) = reads_on c (state_over ws s)
  turned_over ends_between = ends_between
  turned_over (finds_fault f) = finds_fault f

  abbrev result_over : Result State Refusal → Result State Refusal
  result_over (Ok s) = Ok (state_over ws s)
  result_over (Err k) = Err k

  depth_over : (fs : Stack) → depth (over ws fs) ≡ depth fs
  depth_over (root ds) = refl
  depth_over (f ▹ fs) = ap (λ n. 1 + n) (depth_over fs)

  if_depth : (k : Bool) (f : Frame) (fs gs hs : Stack) → depth gs ≡ depth hs
      → depth (if k then f ▹ over ws fs else gs) ≡ depth (if k then f ▹ fs else hs)
  if_depth true f fs gs hs e = ap (λ n. 1 + n) (depth_over fs)
  if_depth false f fs gs hs e = e

  past_over : (m : Option Operator) (fs : Stack) → opens_past m (over ws fs) ≡ opens_past m fs
  past_over None fs = refl
  past_over (Some o) fs = ap (λ d. nat_le max_text_levels d) (depth_over fs)

  deep_over : (s : State) → name_too_deep (state_over ws s) ≡ name_too_deep s
  deep_over (expect_term fs) = refl
  deep_over (after_open k fs) = refl
  deep_over (after_name m f fs) = past_over (prefix_of f) fs
  deep_over (after_term p t fs) = refl

  prefix_over : (s : State) (x : Lexeme) → makes_prefix (state_over ws s) x ≡ makes_prefix s x
  prefix_over (expect_term fs) x = refl
  prefix_over (after_open k fs) x = refl
  prefix_over (after_name m f fs) x = refl
  prefix_over (after_term p t fs) x = refl

  left_over : (p : ℕ) (fs : Stack) → depth (frames_left p (over ws fs)) ≡ depth (frames_left p fs)
  left_over p (root ds) = refl
  left_over p (prefix_frame f o ▹ fs) = if_depth (nat_le p o.right) (prefix_frame f o) fs _ _ (left_over p fs)
  left_over p (infix_frame o t ▹ fs) = if_depth (nat_le p o.right) (infix_frame o t) fs _ _ (left_over p fs)
  left_over p (f ▹ fs) = ap (λ n. 1 + n) (depth_over fs)

  operator_over : (m : Option Operator) (x : Lexeme) (fs : Stack) → operator_past m x (over ws fs) ≡ operator_past m x fs
  operator_over None x fs = ap (bracket_past x) (depth_over fs)
  operator_over (Some o) x fs = ap (nat_le max_text_levels) (left_over o.priority fs)

  operand_over : (x : Lexeme) (fs : Stack) → past_operand x (over ws fs) ≡ past_operand x fs
  operand_over x fs = ap (λ c. operator_past (infix_at c x) x (over ws fs)) (commas_over ws fs) ∙ operator_over (infix_at (commas fs) x) x fs

  name_over : (k : Bool) (f : List ℕ) (x : Lexeme) (fs : Stack) → past_name k f x (over ws fs) ≡ past_name k f x fs
  name_over false f x fs = operand_over x fs
  name_over true f x fs = go (prefix_of f)
    where
      go : (m : Option Operator) → past_prefix m x (over ws fs) ≡ past_prefix m x fs
      go None = ap (bracket_past x) (depth_over fs)
      go (Some o) = ap (λ n. bracket_past x (1 + n)) (depth_over fs)

  token_over : (k : Bool) (s : State) (x : Lexeme) → token_past k (state_over ws s) x ≡ token_past k s x
  token_over k (expect_term fs) x = ap (bracket_past x) (depth_over fs)
  token_over k (after_open j fs) x = ap (λ n. bracket_past x (1 + n)) (depth_over fs)
  token_over k (after_name m f fs) x = name_over k f x fs
  token_over k (after_term p t fs) x = operand_over x fs

  levels_over : (s : State) → levels (state_over ws s) ≡ levels s
  levels_over (expect_term fs) = depth_over fs
  levels_over (after_open k fs) = ap (λ n. 1 + n) (depth_over fs)
  levels_over (after_name m f fs) = refl
  levels_over (after_term p t fs) = refl

  joined_over : (s : State) (k : Bool) → joins_minus (state_over ws s) k ≡ joins_minus s k
  joined_over (expect_term fs) k = refl
  joined_over (after_open j fs) k = refl
  joined_over (after_name m f fs) k = refl
  joined_over (after_term p t fs) k = refl

  lone_over : (s : State) (x : Lexeme) → is_lone (state_over ws s) x ≡ is_lone s x
  lone_over s (number k n) = ap (λ j. nat_le integer_offset n && not j) (joined_over s k)
  lone_over s x = refl

  between_over : (s : State) → is_between (state_over ws s) ≡ is_between s
  between_over (expect_term (root cs)) = refl
  between_over (expect_term (f ▹ fs)) = refl
  between_over (after_open k fs) = refl
  between_over (after_name m f fs) = refl
  between_over (after_term p t fs) = refl

  many_over : (s : State) → has_many (state_over ws s) ≡ has_many s
  many_over (expect_term (root cs)) = refl
  many_over (expect_term (prefix_frame f o ▹ fs)) = refl
  many_over (expect_term (infix_frame o t ▹ fs)) = refl
  many_over (expect_term (parens ▹ fs)) = refl
  many_over (expect_term (braces ▹ fs)) = refl
  many_over (expect_term (arguments f ts ▹ fs)) = refl
  many_over (expect_term (list_elements ts ▹ fs)) = refl
  many_over (expect_term (list_tail ts ▹ fs)) = refl
  many_over (after_open k fs) = refl
  many_over (after_name m f fs) = refl
  many_over (after_term p t fs) = refl

  few_over : (n : Next) → few (next_over ws n) ≡ result_over (few n)
  few_over (Ok s) = ap (λ k. if k then Err ManyArguments else Ok (state_over ws s)) (many_over s) ∙ go (has_many s)
    where
      go : (k : Bool) → (if k then Err ManyArguments else Ok (state_over ws s)) ≡ result_over (if k then Err ManyArguments else Ok s)
      go true = refl
      go false = refl
  few_over (Err k) = refl

  abbrev chosen : Bool → Bool → Bool → LimitedOutcome → LimitedOutcome → LimitedOutcome → LimitedOutcome → LimitedOutcome
  chosen k l m a b c d = if k then a else (if l then b else (if m then c else d))

  chosen_over : (k l m : Bool) (a b c d : LimitedOutcome) → chosen k l m (outcome_over a) (outcome_over b) (outcome_over c) (outcome_over d) ≡ outcome_over
      (chosen k l m a b c d)
  chosen_over true l m a b c d = refl
  chosen_over false true m a b c d = refl
  chosen_over false false true a b c d = refl
  chosen_over false false false a b c d = refl

  if_over : (k : Bool) (a b : LimitedOutcome) → (if k then outcome_over a else outcome_over b) ≡ outcome_over (if k then a else b)
  if_over true a b = refl
  if_over false a b = refl

  sized_over : (x : Lexeme) (s : State) → EndsClause x (Ok s) → clause_within_nodes (state_over ws s) ≡ outcome_over (clause_within_nodes s)
  sized_over x (expect_term (root [])) e = absurd e
  sized_over x (expect_term (root (w ∷ cs))) e =
      if_over (nat_le (nodes w.term) max_term_nodes) (to_state (expect_term (root (w ∷ cs)))) (fault_at TooManyNodes w.place)
  sized_over x (expect_term (f ▹ fs)) e = refl
  sized_over x (after_open k fs) e = refl
  sized_over x (after_name m f fs) e = refl
  sized_over x (after_term p t fs) e = refl

  too_many_over : (h : TokenPlace) (s : State) → too_many h (state_over ws s) ≡ outcome_over (too_many h s)
  too_many_over h s = ap (λ k. if k then name_over_limit (state_over ws s) else fault_at ClauseTooLong h.place) (deep_over s)
      ∙ if_over (name_too_deep s) (name_over_limit s) (fault_at ClauseTooLong h.place)

  stopped_over : (h : TokenPlace) (deep lone : Bool) (k : ReadKind) → stop_within_limits h deep lone k ≡ outcome_over (stop_within_limits h deep lone k)
  stopped_over h deep lone k =
      chosen_over deep (nat_le max_clause_tokens h.tokens) lone (fault_at TooDeep h.place) (fault_at ClauseTooLong h.place) (fault_at NumberTooLarge h.place)
      (fault_at k h.place)

  fine_over : (h : TokenPlace) (deep lone : Bool) (x : Lexeme) (s : State) → EndsClause x (Ok s)
      → check_limits h deep lone (Ok (state_over ws s)) ≡ outcome_over (check_limits h deep lone (Ok s))
  fine_over h deep lone x s e =
      let a : LimitedOutcome = fault_at TooDeep h.place in
      let c : LimitedOutcome = fault_at NumberTooLarge h.place in
      ap (λ n. chosen (nat_lt max_text_levels n) (nat_le max_clause_tokens h.tokens) lone a (too_many h (state_over ws s)) c
      (clause_within_nodes (state_over ws s))) (levels_over s)
      ∙ ap (λ b. chosen (nat_lt max_text_levels (levels s)) (nat_le max_clause_tokens h.tokens) lone a b c (clause_within_nodes (state_over ws s)))
      (too_many_over h s)
      ∙ ap (λ d. chosen (nat_lt max_text_levels (levels s)) (nat_le max_clause_tokens h.tokens) lone a (outcome_over (too_many h s)) c d) (sized_over x s e)
      ∙ chosen_over (nat_lt max_text_levels (levels s)) (nat_le max_clause_tokens h.tokens) lone a (too_many h s) c (clause_within_nodes s)

  checked_over : (h : TokenPlace) (deep lone : Bool) (x : Lexeme) (n : Next) → EndsClause x n
      → check_limits h deep lone (few (next_over ws n)) ≡ outcome_over (check_limits h deep lone (few n))
  checked_over h deep lone x (Err clash) e = stopped_over h deep lone PriorityClash
  checked_over h deep lone x (Err unexpected) e = stopped_over h deep lone Unexpected
  checked_over h deep lone x (Ok s) e = ap (check_limits h deep lone) (few_over (Ok s)) ∙ go (has_many s)
    where
      go : (k : Bool)
          → check_limits h deep lone (result_over (if k then Err ManyArguments else Ok s)) ≡ outcome_over
          (check_limits h deep lone (if k then Err ManyArguments else Ok s))
      go true = refl
      go false = fine_over h deep lone x s e

  limited_over : (h : TokenPlace) (s : State) (x : Lexeme) → limited_step h (state_over ws s) x ≡ outcome_over (limited_step h s x)
  limited_over h s x =
      ap (λ k. if k then fault_at TooDeep h.last else check_limits h (token_too_deep (state_over ws s) x) (is_lone (state_over ws s) x)
      (few (step true (state_over ws s) x)))
      (ap (λ k. k && name_too_deep (state_over ws s)) (prefix_over s x) ∙ ap (λ k. makes_prefix s x && k) (deep_over s))
      ∙ ap (λ o. if makes_prefix s x && name_too_deep s then fault_at TooDeep h.last else o) rest_over
      ∙ if_over (makes_prefix s x && name_too_deep s) (fault_at TooDeep h.last) (check_limits h (token_too_deep s x) (is_lone s x) (few (step true s x)))
    where
      past_it : token_too_deep (state_over ws s) x ≡ token_too_deep s x
      past_it = ap (λ k. token_past k (state_over ws s) x) (prefix_over s x) ∙ token_over (makes_prefix s x) s x

      rest_over : check_limits h (token_too_deep (state_over ws s) x) (is_lone (state_over ws s) x) (few (step true (state_over ws s) x)) ≡ outcome_over
          (check_limits h (token_too_deep s x) (is_lone s x) (few (step true s x)))
      rest_over = ap (λ d. check_limits h d (is_lone (state_over ws s) x) (few (step true (state_over ws s) x))) past_it
          ∙ (ap (λ k. check_limits h (token_too_deep s x) k (few (step true (state_over ws s) x))) (lone_over s x)
          ∙ (ap (λ n. check_limits h (token_too_deep s x) (is_lone s x) (few n)) (step_over ws true s x)
          ∙ checked_over h (token_too_deep s x) (is_lone s x) x (step true s x) (step_ends s x)))

  module _ (bytes : List ℕ) where
    open_over : (c : TokenContext) (s : State) (r : Result Token TokenFault) → stays_open bytes c (state_over ws s) r ≡ stays_open bytes c s r
    open_over c s (Err e) = refl
    open_over c s (Ok t) = ap (λ k. is_eof t.kind || k) (prefix_over s (lexeme bytes c t))

    taken_over : (c : TokenContext) (o : LimitedOutcome) → outcome_of_step bytes c (outcome_over o) ≡ turned_over (outcome_of_step bytes c o)
    taken_over c (to_state s) = refl
    taken_over c (name_over_limit s) = ap (λ k. finds_fault (fault (over_limit_kind k) c.last)) (open_over c s (first_token bytes c.to))
    taken_over c (to_fault f) = refl

    abbrev pick : Bool → Bool → ReadOutcome → ReadOutcome → ReadOutcome → ReadOutcome
    pick a b x y z = if a then x else (if b then y else z)

    pick_over : (a b : Bool) (x y z : ReadOutcome) → pick a b (turned_over x) (turned_over y) (turned_over z) ≡ turned_over (pick a b x y z)
    pick_over true b x y z = refl
    pick_over false true x y z = refl
    pick_over false false x y z = refl

    ended_over : (len : ℕ) (c : TokenContext) (s : State) → outcome_at_end len c (state_over ws s) ≡ turned_over (outcome_at_end len c s)
    ended_over len c s =
        ap (λ k. pick k (is_between (state_over ws s)) (finds_fault (fault TooDeep c.last)) ends_between (finds_fault (fault Unexpected len))) (deep_over s)
        ∙ ap (λ k. pick (name_too_deep s) k (finds_fault (fault TooDeep c.last)) ends_between (finds_fault (fault Unexpected len))) (between_over s)
        ∙ pick_over (name_too_deep s) (is_between s) (finds_fault (fault TooDeep c.last)) ends_between (finds_fault (fault Unexpected len))

    found_over : (c : TokenContext) (s : State) (r : Result Token TokenFault) → outcome_at bytes c (state_over ws s) r ≡ turned_over (outcome_at bytes c s r)
    found_over c s (Err e) = ap (λ k. finds_fault (if k then fault TooDeep c.last else fault (read_kind_of e.kind) e.place)) (deep_over s)
    found_over c s (Ok t) = go (is_eof t.kind)
      where
        go : (k : Bool)
            → (if k then outcome_at_end (length bytes) c (state_over ws s) else outcome_of_step bytes (behind bytes c t)
            (limited_step (place_at c t) (state_over ws s) (lexeme bytes c t)))
            ≡ turned_over (if k then outcome_at_end (length bytes) c s else outcome_of_step bytes (behind bytes c t)
            (limited_step (place_at c t) s (lexeme bytes c t)))
        go true = ended_over (length bytes) c s
        go false = ap (outcome_of_step bytes (behind bytes c t)) (limited_over (place_at c t) s (lexeme bytes c t))
            ∙ taken_over (behind bytes c t) (limited_step (place_at c t) s (lexeme bytes c t))

    -- a turn over clauses is the turn over none
    pub turned_is_over : (c : TokenContext) (s : State) → read_outcome bytes c (state_over ws s) ≡ turned_over (read_outcome bytes c s)
    turned_is_over c s = found_over c s (first_token bytes c.to)
