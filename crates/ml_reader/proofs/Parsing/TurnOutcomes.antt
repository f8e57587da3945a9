-- What a turn comes to: one token more within the limits, all of the text, or its first fault.
use Rattle.std.specs.Prelude.{◌≡◌, ◌≢◌, ℕ, ◌+◌, ◌≤◌, ◌<◌, Bool, true, false, ◌&&◌, ◌||◌, not, if◌then◌else◌, IsTrue, nat_le, nat_lt, List, [], ◌∷◌, ◌++◌}
use Rattle.std.specs.Prelude.{length, drop, Option, Some, None, Result, Ok, Err}
use Rattle.std.proofs.Common.{refl, sym, ap, ◌∙◌, subst, arith, append_assoc, true≢false}
use Rattle.std.proofs.lemmas.Bool.{and_from, le-leb, leb-true, leb-false, ltb-true, ltb-false}
use Rattle.ml_term.specs.Tree.{no_trees, tree, arity, nodes}
use Rattle.ml_token.specs.inside.Tokens.{first_token}
use Rattle.ml_token.specs.Language.{HasToken}
use Rattle.ml_token.proofs.ScannerTotal.{token-found, fault-found}
use Rattle.ml_token.specs.Values.{number_of}
use Rattle.ml_token.specs.declared.tokens.Token.{Token}
use Rattle.ml_token.specs.declared.tokens.TokenFault.{TokenFault}
use Rattle.ml_token.specs.declared.tokens.TokenKind.{TokenKind}
use Rattle.ml_token.specs.declared.tokens.TokenKind.TheVariants.{Name, QuotedName, Variable, Number, Punct, End, Eof}
use Rattle.ml_reader.specs.Lexemes.{ReadClause, Lexeme, variable_lexeme, number, end, clauses_onto}
use Rattle.ml_reader.specs.Operators.{Operator, prefix_of, is_operator}
use Rattle.ml_reader.specs.Tokens.{TokenContext, lexeme, lexeme_of, behind, is_tight}
use Rattle.ml_reader.specs.Grammar.{IsText, Viable}
use Rattle.ml_reader.specs.inside.parser.Parser.{arguments, root, Stack, ◌▹◌, State, expect_term, after_open, after_name, after_term, Fault, Next, step}
use Rattle.ml_reader.specs.inside.parser.Parser.{run_tokens, read_tokens}
use Rattle.ml_reader.specs.inside.parser.Parser as P
use Rattle.ml_reader.specs.inside.parser.Frames.{has_many, few}
use Rattle.ml_reader.specs.declared.parser.frames.Refusal.TheVariants.{ManyArguments}
use Rattle.ml_reader.specs.Levels.{Level, enclosed, in_argument, in_list, OpenBefore}
use Rattle.ml_reader.specs.inside.parser.LimitedSteps.{depth, levels, opens_past, name_too_deep, makes_prefix, joins_minus, is_lone, LimitedOutcome, to_state}
use Rattle.ml_reader.specs.inside.parser.LimitedSteps.{token_too_deep}
use Rattle.ml_reader.specs.inside.parser.LimitedSteps.{name_over_limit, fault_at, clause_within_nodes, too_many, stop_within_limits, check_limits, limited_step}
use Rattle.ml_reader.specs.inside.parser.Turns.{ReadOutcome, reads_on, ends_between, finds_fault, is_eof, is_between, over_limit_kind, stays_open}
use Rattle.ml_reader.specs.inside.parser.Turns.{outcome_of_step, place_at, outcome_at_end, outcome_at, read_outcome}
use Rattle.ml_reader.specs.Faults.{read_kind_of, fault, rank, IsNext, MayBeNext, next, at_end, at_fault, AreOpen, EndsInMinus, FaultBehind, too_deep}
use Rattle.ml_reader.specs.Faults.{refused_too_deep}
use Rattle.ml_reader.specs.Faults.{many_arguments, long_clause, large_number, priority_clash, unexpected_token, many_nodes, HasFirstFault}
use Rattle.ml_reader.specs.declared.fault.ReadFault.{ReadFault}
use Rattle.ml_reader.specs.declared.fault.ReadKind.{ReadKind}
use Rattle.ml_reader.specs.declared.fault.ReadKind.TheVariants.{TooDeep, ArityTooLarge, ClauseTooLong, NumberTooLarge, PriorityClash, Unexpected, TooManyNodes}
use Rattle.ml_term.specs.Limits.{max_arguments, max_term_nodes, integer_offset}
use Rattle.ml_reader.specs.Limits.{max_text_levels, max_clause_tokens}
use Rattle.ml_reader.proofs.Parsing.TokensAfterOperands.{yes_op}
use Rattle.ml_reader.proofs.Parsing.StateCompletions.{viable}
use Rattle.ml_reader.proofs.Parsing.AcceptedTerms.{sound}
use Rattle.ml_reader.proofs.Parsing.ExactAnswers.{stuck, right_kind, no_text_yet}
use Rattle.ml_reader.proofs.Parsing.OpenLevels.{opened, length_opened, path_before}
use Rattle.ml_reader.proofs.Parsing.LevelsBeforeTokens.{path_of_open, none_open, open_before, minus_read, ends_in_minus}
use Rattle.ml_reader.proofs.Parsing.TokenLevels.{past_of_opens, opens_of_past}
use Rattle.ml_reader.proofs.Parsing.RunsWithinLimits.{AreFew, is_moderate}
use Rattle.ml_reader.proofs.Parsing.ClauseEnds.{IsEndToken, EndsClause, step_ends}
use Rattle.ml_reader.proofs.Parsing.LevelsAfterOperands.{height, IsOther, IsLow, step_low}
use Rattle.ml_reader.proofs.Parsing.TextBeginnings.{Stand, goes_further, same_token, behind_last, next_is, not_found, first_sign_is}
use Rattle.ml_reader.proofs.Parsing.BeginningsWithinLimits.{Reading, reading_few, reading_goes_on, one_more}
use Rattle.ml_reader.proofs.Parsing.BeginningsWithoutFaults.{IsDeepName, deep_name, deep_path, in_argument_is, lone_is_joined, number_lexeme}
use Rattle.ml_reader.proofs.Parsing.FirstFaults.{Ranks, deep_first, token_fault_first, end_first, at_token_first}

-- what holds of each choice holds of the chosen one
pub if_cases : {A : Type 0} (P : A → Type 0) (k : Bool) (x y : A) → (k ≡ true → P x) → (k ≡ false → P y) → P (if k then x else y)
if_cases P true x y p q = p refl
if_cases P false x y p q = q refl

pub eof_is : (k : TokenKind) → is_eof k ≡ true → k ≡ Eof
eof_is Eof e = refl
eof_is k e = absurd (true≢false (sym e))

pub not_eof_is : (k : TokenKind) → is_eof k ≡ false → k ≢ Eof
not_eof_is Eof e i = true≢false e
not_eof_is k e i = true≢false (sym (ap is_eof i) ∙ e)

-- some token may stand next
some_next : (bytes : List ℕ) (c : TokenContext) → (y : Lexeme) × MayBeNext bytes c y
some_next bytes c = go (first_token bytes c.to) refl
  where
    known : (t : Token) → HasToken bytes c.to t → (k : Bool) → is_eof t.kind ≡ k → (y : Lexeme) × MayBeNext bytes c y
    known t h true e = (variable_lexeme 0, at_end t h (eof_is t.kind e))
    known t h false e = (lexeme bytes c t, next t (record { found = h; some = not_eof_is t.kind e }))

    go : (r : Result Token TokenFault) → first_token bytes c.to ≡ r → (y : Lexeme) × MayBeNext bytes c y
    go (Err e) h = (variable_lexeme 0, at_fault (fault-found bytes c.to e h))
    go (Ok t) h = known t (token-found bytes c.to t h) (is_eof t.kind) refl

-- a name that is an operator is a prefix operator before a variable
deep_before_variable : (s : State) → name_too_deep s ≡ true → IsDeepName s (variable_lexeme 0)
deep_before_variable (expect_term fs) e = absurd (true≢false (sym e))
deep_before_variable (after_open k fs) e = absurd (true≢false (sym e))
deep_before_variable (after_name m f fs) e = record { deep = e; prefix = go (prefix_of f) refl e }
  where
    go : (i : Option Operator) → prefix_of f ≡ i → opens_past i fs ≡ true → is_operator f ≡ true
    go None i e = absurd (true≢false (sym e))
    go (Some o) i e = yes_op f o i
deep_before_variable (after_term p t fs) e = absurd (true≢false (sym e))

-- more levels than the limit are open in front of what may stand next
many_levels : (s : State) (y : Lexeme) → max_text_levels < levels s → (ls : List Level) × (path_before s y ≡ Some ls) × (max_text_levels < length ls)
many_levels (expect_term fs) y l = (opened fs, refl, omega (arith, length_opened fs))
many_levels (after_open true fs) y l = (in_list ∷ opened fs, refl, omega (arith, length_opened fs))
many_levels (after_open false fs) y l = (enclosed ∷ opened fs, refl, omega (arith, length_opened fs))
many_levels (after_name m f fs) y l = absurd (omega arith)
many_levels (after_term p t fs) y l = absurd (omega arith)

-- no number comes but of a number
lone_is_number : (bytes : List ℕ) (c : TokenContext) (t : Token) (s : State) → is_lone s (lexeme bytes c t) ≡ true → t.kind ≡ Number
lone_is_number bytes c t s e = go t.kind refl e
  where
    go : (k : TokenKind) → t.kind ≡ k → is_lone s (lexeme_of k bytes c t) ≡ true → t.kind ≡ Number
    go Number i e = i
    go Name i e = absurd (true≢false (sym e))
    go QuotedName i e = absurd (true≢false (sym e))
    go Variable i e = absurd (true≢false (sym e))
    go Punct i e =
        absurd (true≢false (sym e ∙ first_sign_is (λ x. is_lone s x ≡ false) (is_tight c t) (drop t.from bytes) refl refl refl refl refl refl refl refl))
    go End i e = absurd (true≢false (sym e))
    go Eof i e = absurd (true≢false (sym e))

token_parts : (a b : Bool) → (a && b) ≡ true → (a ≡ true) × (b ≡ true)
token_parts true true e = (refl, refl)
token_parts true false e = absurd (true≢false (sym e))
token_parts false b e = absurd (true≢false (sym e))

turned_before : (cs us : List ReadClause) → clauses_onto cs us ≡ clauses_onto cs [] ++ us
turned_before [] us = refl
turned_before (c ∷ cs) us =
    turned_before cs (c ∷ us) ∙ (sym (append_assoc (clauses_onto cs []) (c ∷ []) us) ∙ ap (λ l. l ++ us) (sym (turned_before cs (c ∷ []))))

module _ (bytes : List ℕ) (stand : Stand bytes) {xs : List Lexeme} {c : TokenContext} {s : State} (r : Reading bytes xs c s) where
  -- what a turn says
  abbrev pub SaysAtToken : ReadOutcome → Type 0
  SaysAtToken (reads_on d s') = (t : Token) × IsNext bytes c t × (d ≡ behind bytes c t) × Reading bytes (xs ++ lexeme bytes c t ∷ []) d s'
  SaysAtToken ends_between = (cs : List ReadClause) × (t : Token) × (s ≡ expect_term (root cs)) × HasToken bytes c.to t × (t.kind ≡ Eof)
  SaysAtToken (finds_fault f) = HasFirstFault bytes f

  -- one token, with which the name before it opens no level past the limit
  module _ (t : Token) (n : IsNext bytes c t) (shallow : IsDeepName s (lexeme bytes c t) → ⊥) where
    read_on : {s' : State} → step true s (lexeme bytes c t) ≡ Ok s' → read_tokens true (xs ++ lexeme bytes c t ∷ []) ≡ Ok s'
    read_on i = one_more (Ok (expect_term (root []))) xs s (lexeme bytes c t) r.parsed ∙ i

    -- the levels behind it are the parser's
    path_behind : {s' : State} {ls : List Level} → step true s (lexeme bytes c t) ≡ Ok s' → (o : AreOpen bytes xs c t ls) → path_before s' o.following ≡ Some ls
    path_behind {s'} {ls} i o =
        path_of_open (xs ++ lexeme bytes c t ∷ []) o.following s' ls (read_on i) (subst (λ l. OpenBefore l (o.following ∷ []) ls)
        (sym (append_assoc xs (lexeme bytes c t ∷ []) (o.following ∷ []))) o.open_there)

    none_behind : {k : Fault} {ls : List Level} → step true s (lexeme bytes c t) ≡ Err k → AreOpen bytes xs c t ls → ⊥
    none_behind {k} {ls} i o =
        none_open (xs ++ lexeme bytes c t ∷ []) o.following k ls (one_more (Ok (expect_term (root []))) xs s (lexeme bytes c t) r.parsed ∙ i)
        (subst (λ l. OpenBefore l (o.following ∷ []) ls) (sym (append_assoc xs (lexeme bytes c t ∷ []) (o.following ∷ []))) o.open_there)

    -- levels of the parser are open behind it
    open_behind : {s' : State} {ls : List Level} (y : Lexeme) → MayBeNext bytes (behind bytes c t) y → step true s (lexeme bytes c t) ≡ Ok s'
        → path_before s' y ≡ Some ls → AreOpen bytes xs c t ls
    open_behind {s'} {ls} y may i p = record {
      following = y;
      may = may;
      open_there = subst (λ l. OpenBefore l (y ∷ []) ls) (append_assoc xs (lexeme bytes c t ∷ []) (y ∷ []))
          (open_before (xs ++ lexeme bytes c t ∷ []) y [] ls s' (read_on i) p);
    }

    no_argument : {s' : State} {ls : List Level} {j : ℕ} → step true s (lexeme bytes c t) ≡ Ok s' → has_many s' ≡ false
        → AreOpen bytes xs c t (in_argument j ∷ ls) → max_arguments < j → ⊥
    no_argument {s'} {ls} {j} i m o l =
        let h = in_argument_is s' o.following j ls (path_behind i o) in
        let k : arity h.trees ≤ 254 = ltb-false 254 (arity h.trees) (sym (ap has_many h.state) ∙ m) in
        let e = h.count in omega arith

    no_large : is_lone s (lexeme bytes c t) ≡ false → t.kind ≡ Number → integer_offset ≤ number_of bytes t → (is_tight c t ≡ true → EndsInMinus xs → ⊥) → ⊥
    no_large a k l m =
        let b : is_lone s (number (is_tight c t) (number_of bytes t)) ≡ false = sym (ap (is_lone s) (number_lexeme bytes c t k)) ∙ a in
        let h = lone_is_joined s (is_tight c t) (number_of bytes t) b l in
        m h.3 (ends_in_minus xs h.0 h.1 (r.parsed ∙ ap (λ s. Ok s) h.2))

    no_long : nat_le max_clause_tokens c.tokens ≡ false → max_clause_tokens ≤ c.tokens → ⊥
    no_long e l = let h = leb-false max_clause_tokens c.tokens e in omega arith

    viable_on : {s' : State} → step true s (lexeme bytes c t) ≡ Ok s' → Viable true (xs ++ lexeme bytes c t ∷ [])
    viable_on {s'} i = viable true (xs ++ lexeme bytes c t ∷ []) s' (read_on i)

    first : (f : ReadFault) → Ranks bytes stand r t n (rank f.kind) → FaultBehind bytes xs c t.from f → HasFirstFault bytes f
    first f q h = at_token_first bytes stand r t n f q h shallow

    -- the number is past the limit
    large_here : is_lone s (lexeme bytes c t) ≡ true → FaultBehind bytes xs c t.from (fault NumberTooLarge t.from)
    large_here e =
        let k = lone_is_number bytes c t s e in
        let h = token_parts (nat_le integer_offset (number_of bytes t)) (not (joins_minus s (is_tight c t))) (sym (ap (is_lone s) (number_lexeme bytes c t k))
        ∙ e) in
        large_number n k (leb-true integer_offset (number_of bytes t) h.0)
        (λ i m. true≢false (sym h.1 ∙ ap not (minus_read xs s r.parsed m (is_tight c t) ∙ i)))

    -- the parser refuses it
    abbrev SaidAtTurn : LimitedOutcome → Type 0
    SaidAtTurn o = SaysAtToken (outcome_of_step bytes (behind bytes c t) o)

    refused_ranks : (k : Fault) → step true s (lexeme bytes c t) ≡ Err k → (m : ℕ) → (token_too_deep s (lexeme bytes c t) ≡ true → m ≤ 6)
        → (max_clause_tokens ≤ c.tokens → m ≤ 8)
        → (is_lone s (lexeme bytes c t) ≡ true → m ≤ 9) → (Viable false (xs ++ lexeme bytes c t ∷ []) → m ≤ 10) → m ≤ 11
        → Ranks bytes stand r t n m
    refused_ranks k i m d l a v e = record {
      deep = λ ls o h. absurd (none_behind i o);
      refused = λ j w o h. d (past_of_opens xs (lexeme bytes c t) s j r.parsed o h);
      many = λ j ls o h. absurd (none_behind i o);
      long = l;
      large = λ j h q. large_rank (is_lone s (lexeme bytes c t)) refl j h q;
      clashing = λ w x. v x;
      stray = λ w. e;
      last = omega arith;
    }
      where
        large_rank : (b : Bool) → is_lone s (lexeme bytes c t) ≡ b → t.kind ≡ Number → integer_offset ≤ number_of bytes t
            → (is_tight c t ≡ true → EndsInMinus xs → ⊥) → m ≤ 9
        large_rank true e j h q = a e
        large_rank false e j h q = absurd (no_large e j h q)

    stopped_said : (k : Fault) (f : ReadKind) → step true s (lexeme bytes c t) ≡ Err k
        → (token_too_deep s (lexeme bytes c t) ≡ false → is_lone s (lexeme bytes c t) ≡ false → nat_le max_clause_tokens c.tokens ≡ false
        → HasFirstFault bytes (fault f t.from))
        → SaidAtTurn (stop_within_limits (place_at c t) (token_too_deep s (lexeme bytes c t)) (is_lone s (lexeme bytes c t)) f)
    stopped_said k f i h =
        if_cases SaidAtTurn (token_too_deep s (lexeme bytes c t)) (fault_at TooDeep t.from) _
        (λ d. let o = opens_of_past xs (lexeme bytes c t) s k r.parsed i d in
        first (fault TooDeep t.from) (refused_ranks k i 6 (λ l. omega arith) (λ l. omega arith) (λ l. omega arith) (λ l. omega arith) (omega arith))
        (refused_too_deep n (stuck xs s r.parsed (lexeme bytes c t) k i) o.1 o.2))
        (λ d. if_cases SaidAtTurn (nat_le max_clause_tokens c.tokens) (fault_at ClauseTooLong t.from) _
        (λ e. first (fault ClauseTooLong t.from) (refused_ranks k i 8 (λ l. absurd (true≢false (sym l ∙ d))) (λ l. omega arith) (λ l. omega arith)
        (λ l. omega arith) (omega arith))
        (long_clause n (leb-true max_clause_tokens c.tokens e)))
        (λ e. if_cases SaidAtTurn (is_lone s (lexeme bytes c t)) (fault_at NumberTooLarge t.from) (fault_at f t.from)
        (λ a. first (fault NumberTooLarge t.from) (refused_ranks k i 9 (λ l. absurd (true≢false (sym l ∙ d))) (λ l. absurd (no_long e l)) (λ l. omega arith)
        (λ l. omega arith) (omega arith))
        (large_here a))
        (λ a. h d a e)))

    -- the parser refuses it
    err_said : (k : Fault) → step true s (lexeme bytes c t) ≡ Err k → SaidAtTurn (check_limits (place_at c t)
        (token_too_deep s (lexeme bytes c t)) (is_lone s (lexeme bytes c t)) (few (Err k)))
    err_said P.clash i =
        stopped_said P.clash PriorityClash i (λ d a e.
        first (fault PriorityClash t.from) (refused_ranks P.clash i 10 (λ l. absurd (true≢false (sym l ∙ d))) (λ l. absurd (no_long e l))
        (λ b. absurd (true≢false (sym b ∙ a))) (λ v. omega arith) (omega arith))
        (priority_clash n (stuck xs s r.parsed (lexeme bytes c t) P.clash i) (right_kind xs s r.parsed (lexeme bytes c t) P.clash i)))
    err_said P.unexpected i =
        stopped_said P.unexpected Unexpected i (λ d a e.
        first (fault Unexpected t.from) (refused_ranks P.unexpected i 11 (λ l. absurd (true≢false (sym l ∙ d))) (λ l. absurd (no_long e l))
        (λ b. absurd (true≢false (sym b ∙ a))) (λ v. absurd (right_kind xs s r.parsed (lexeme bytes c t) P.unexpected i v)) (omega arith))
        (unexpected_token n (stuck xs s r.parsed (lexeme bytes c t) P.unexpected i) (right_kind xs s r.parsed (lexeme bytes c t) P.unexpected i)))

    -- the parser takes it
    taken_ranks : {s' : State} → step true s (lexeme bytes c t) ≡ Ok s' → (m : ℕ)
        → ((ls : List Level) → AreOpen bytes xs c t ls → max_text_levels < length ls → m ≤ 6) → (has_many s' ≡ true → m ≤ 7)
        → (max_clause_tokens ≤ c.tokens → m ≤ 8)
        → (is_lone s (lexeme bytes c t) ≡ true → m ≤ 9) → m ≤ 12 → Ranks bytes stand r t n m
    taken_ranks {s'} i m d a l b e = record {
      deep = d;
      refused = λ j v o h. absurd (v (viable_on i));
      many = λ j ls o h. many_rank (has_many s') refl j ls o h;
      long = l;
      large = λ j h q. large_rank (is_lone s (lexeme bytes c t)) refl j h q;
      clashing = λ v w. absurd (v (viable_on i));
      stray = λ v. absurd (v (viable_on i));
      last = e;
    }
      where
        many_rank : (k : Bool) → has_many s' ≡ k → (j : ℕ) (ls : List Level) → AreOpen bytes xs c t (in_argument j ∷ ls) → max_arguments < j → m ≤ 7
        many_rank true f j ls o h = a f
        many_rank false f j ls o h = absurd (no_argument i f o h)

        large_rank : (k : Bool) → is_lone s (lexeme bytes c t) ≡ k → t.kind ≡ Number → integer_offset ≤ number_of bytes t
            → (is_tight c t ≡ true → EndsInMinus xs → ⊥) → m ≤ 9
        large_rank true f j h q = b f
        large_rank false f j h q = absurd (no_large f j h q)

    -- where few levels are open behind it, more can only be those of its name
    few_behind : {s' : State} → step true s (lexeme bytes c t) ≡ Ok s' → levels s' ≤ max_text_levels → (ls : List Level) → (o : AreOpen bytes xs c t ls)
        → max_text_levels < length ls → IsDeepName s' o.following
    few_behind {s'} i l ls o h = deep_name s' o.following ls l (path_behind i o) h

    -- few levels are open in front of it
    few_before : AreFew (path_before s (lexeme bytes c t))
    few_before = go (path_before s (lexeme bytes c t)) refl
      where
        go : (p : Option (List Level)) → path_before s (lexeme bytes c t) ≡ p → AreFew p
        go None e = tt
        go (Some ls) e = decide (nat_le (length ls) max_text_levels) refl
          where
            decide : (k : Bool) → nat_le (length ls) max_text_levels ≡ k → length ls ≤ max_text_levels
            decide true i = leb-true (length ls) max_text_levels i
            decide false i = absurd (shallow (deep_name s (lexeme bytes c t) ls (reading_few r) e (leb-false (length ls) max_text_levels i)))

    low_behind : {s' : State} → step true s (lexeme bytes c t) ≡ Ok s' → IsLow (lexeme bytes c t) (Ok s')
    low_behind i = subst (IsLow (lexeme bytes c t)) i (step_low s (lexeme bytes c t) r.low few_before)

    -- argument 256 begins
    many_said : (s' : State) → step true s (lexeme bytes c t) ≡ Ok s' → has_many s' ≡ true → HasFirstFault bytes (fault ArityTooLarge t.from)
    many_said (expect_term (arguments f (tree u us) ▹ fs)) i m =
        let y = some_next bytes (behind bytes c t) in
        let l : 1 + depth fs ≤ max_text_levels = low_behind i in
        first (fault ArityTooLarge t.from)
        (taken_ranks i 7 (λ ls o h. absurd (true≢false (sym (few_behind i l ls o h).deep))) (λ a. omega arith) (λ a. omega arith) (λ a. omega arith)
        (omega arith))
        (many_arguments n (open_behind y.0 y.1 i refl) (let h : 254 < arity (tree u us) = ltb-true 254 (arity (tree u us)) m in omega arith))
    many_said (expect_term (arguments f no_trees ▹ fs)) i m = absurd (true≢false (sym m))
    many_said (expect_term (root cs)) i m = absurd (true≢false (sym m))
    many_said (expect_term (fr ▹ fs)) i m = absurd (true≢false (sym m))
    many_said s' i m = absurd (true≢false (sym m))

    -- it opens a level past the limit
    deep_said : (s' : State) → step true s (lexeme bytes c t) ≡ Ok s' → (y : Lexeme) → MayBeNext bytes (behind bytes c t) y → (ls : List Level)
        → path_before s' y ≡ Some ls → max_text_levels < length ls → HasFirstFault bytes (fault TooDeep t.from)
    deep_said s' i y may ls p l = first (fault TooDeep t.from) (taken_ranks i 6 (λ ls o h. omega arith) (λ a. omega arith) (λ a. omega arith) (λ a. omega arith)
        (omega arith)) (too_deep n (open_behind y may i p) l)

    -- it is one token too many
    long_said : (s' : State) → step true s (lexeme bytes c t) ≡ Ok s' → has_many s' ≡ false → nat_le max_clause_tokens c.tokens ≡ true
        → ((ls : List Level) → AreOpen bytes xs c t ls → max_text_levels < length ls → ⊥) → HasFirstFault bytes (fault ClauseTooLong t.from)
    long_said s' i m e d =
        first (fault ClauseTooLong t.from) (taken_ranks i 8 (λ ls o h. absurd (d ls o h)) (λ a. absurd (true≢false (sym a ∙ m))) (λ a. omega arith)
        (λ a. omega arith) (omega arith)) (long_clause n (leb-true max_clause_tokens c.tokens e))

    place_behind : (behind bytes c t).last ≡ t.from
    place_behind = behind_last bytes c t n.some

    -- it is one token too many, and a name that may open a level past the limit
    late_said : (s' : State) → step true s (lexeme bytes c t) ≡ Ok s' → has_many s' ≡ false → levels s' ≤ max_text_levels
        → nat_le max_clause_tokens c.tokens ≡ true → name_too_deep s' ≡ true → SaidAtTurn (name_over_limit s')
    late_said s' i m l e d = go (first_token bytes (behind bytes c t).to) refl
      where
        deep_name_said : (y : Lexeme) → MayBeNext bytes (behind bytes c t) y → IsDeepName s' y → HasFirstFault bytes (fault TooDeep (behind bytes c t).last)
        deep_name_said y may h =
            let q = deep_path s' y h in subst (λ p. HasFirstFault bytes (fault TooDeep p)) (sym place_behind) (deep_said s' i y may q.levels q.path q.many)

        long_name_said : (u : Token) → HasToken bytes (behind bytes c t).to u → (is_eof u.kind || makes_prefix s' (lexeme bytes (behind bytes c t) u)) ≡ false
            → HasFirstFault bytes (fault ClauseTooLong (behind bytes c t).last)
        long_name_said u h k =
            subst (λ p. HasFirstFault bytes (fault ClauseTooLong p)) (sym place_behind) (long_said s' i m e (λ ls o j. refuted (few_behind i l ls o j) o.may))
          where
            neither : (a b : Bool) → (a || b) ≡ false → (a ≡ false) × (b ≡ false)
            neither false false e = (refl, refl)
            neither true b e = absurd (true≢false e)
            neither false true e = absurd (true≢false e)

            refuted : {y : Lexeme} → IsDeepName s' y → MayBeNext bytes (behind bytes c t) y → ⊥
            refuted d (next v w) =
                true≢false (sym (subst (λ v. makes_prefix s' (lexeme bytes (behind bytes c t) v) ≡ true) (next_is w h) d.prefix)
                ∙ (neither (is_eof u.kind) (makes_prefix s' (lexeme bytes (behind bytes c t) u)) k).1)
            refuted d (at_end v w x) = true≢false (sym (ap is_eof (ap (λ t. t.kind) (same_token h w) ∙ x))
                ∙ (neither (is_eof u.kind) (makes_prefix s' (lexeme bytes (behind bytes c t) u)) k).0)
            refuted d (at_fault w) = not_found h w

        some_name_said : (u : Token) → HasToken bytes (behind bytes c t).to u → (is_eof u.kind || makes_prefix s' (lexeme bytes (behind bytes c t) u)) ≡ true
            → HasFirstFault bytes (fault TooDeep (behind bytes c t).last)
        some_name_said u h k = which (is_eof u.kind) refl k
          where
            which : (a : Bool) → is_eof u.kind ≡ a → (a || makes_prefix s' (lexeme bytes (behind bytes c t) u)) ≡ true
                → HasFirstFault bytes (fault TooDeep (behind bytes c t).last)
            which true j k = deep_name_said (variable_lexeme 0) (at_end u h (eof_is u.kind j)) (deep_before_variable s' d)
            which false j k =
                deep_name_said (lexeme bytes (behind bytes c t) u) (next u (record { found = h; some = not_eof_is u.kind j })) (record { deep = d; prefix = k })

        go : (q : Result Token TokenFault) → first_token bytes (behind bytes c t).to ≡ q
            → HasFirstFault bytes (fault (over_limit_kind (stays_open bytes (behind bytes c t) s' q)) (behind bytes c t).last)
        go (Err f) h = deep_name_said (variable_lexeme 0) (at_fault (fault-found bytes (behind bytes c t).to f h)) (deep_before_variable s' d)
        go (Ok u) found = known (is_eof u.kind || makes_prefix s' (lexeme bytes (behind bytes c t) u)) refl
          where
            h : HasToken bytes (behind bytes c t).to u
            h = token-found bytes (behind bytes c t).to u found

            known : (k : Bool) → (is_eof u.kind || makes_prefix s' (lexeme bytes (behind bytes c t) u)) ≡ k
                → HasFirstFault bytes (fault (over_limit_kind k) (behind bytes c t).last)
            known true k = some_name_said u h k
            known false k = long_name_said u h k

    -- it is taken
    goes_said : (s' : State) → step true s (lexeme bytes c t) ≡ Ok s' → levels s' ≤ max_text_levels → nat_le max_clause_tokens c.tokens ≡ false
        → is_lone s (lexeme bytes c t) ≡ false → IsTrue (is_moderate (Ok s')) → SaidAtTurn (to_state s')
    goes_said s' i l e a m = (
      t,
      n,
      refl,
      reading_goes_on bytes r (goes_further bytes t r.goes n) (record {
        levels = few_before;
        moderate = subst (λ n. IsTrue (is_moderate n)) (sym i) m;
        alone =
            a;
      }) i (low_height s' l (low_behind i)) (leb-false max_clause_tokens c.tokens e),
    )
      where
        low_height : (s' : State) → levels s' ≤ max_text_levels → IsLow (lexeme bytes c t) (Ok s') → height s' ≤ max_text_levels
        low_height (expect_term fs) l h = l
        low_height (after_open k fs) l h = l
        low_height (after_name m f fs) l h = h.0
        low_height (after_term p u fs) l h = h

    -- a clause of too many nodes ends
    nodes_said : (w : ReadClause) (cs : List ReadClause) → step true s (lexeme bytes c t) ≡ Ok (expect_term (root (w ∷ cs))) → IsEndToken (lexeme bytes c t)
        → nat_le max_clause_tokens c.tokens ≡ false → is_lone s (lexeme bytes c t) ≡ false → max_term_nodes < nodes w.term
        → HasFirstFault bytes (fault TooManyNodes w.place)
    nodes_said w cs i j e a l =
        let text : IsText true (xs ++ end j.0 ∷ []) (clauses_onto cs [] ++ w ∷ []) =
        subst (λ x. IsText true (xs ++ x ∷ []) (clauses_onto cs [] ++ w ∷ [])) j.1 (subst (λ l. IsText true (xs ++ lexeme bytes c t ∷ []) l)
        (turned_before cs (w ∷ [])) (sound true (xs ++ lexeme bytes c t ∷ []) (w ∷ cs) (read_on i))) in
        first (fault TooManyNodes w.place)
        (taken_ranks i 12 (λ ls o h. absurd (true≢false (sym (few_behind i (omega arith) ls o h).deep))) (λ b. absurd (true≢false (sym b)))
        (λ b. absurd (no_long e b)) (λ b. absurd (true≢false (sym b ∙ a))) (omega arith))
        (many_nodes (clauses_onto cs []) w n j.1 text l)

    sized_said : (s' : State) → step true s (lexeme bytes c t) ≡ Ok s' → EndsClause (lexeme bytes c t) (Ok s') → has_many s' ≡ false
        → levels s' ≤ max_text_levels → nat_le max_clause_tokens c.tokens ≡ false → is_lone s (lexeme bytes c t) ≡ false → SaidAtTurn (clause_within_nodes s')
    sized_said (expect_term (root [])) i j m l e a = absurd j
    sized_said (expect_term (root (w ∷ cs))) i j m l e a =
        if_cases SaidAtTurn (nat_le (nodes w.term) max_term_nodes) (to_state (expect_term (root (w ∷ cs)))) (fault_at TooManyNodes w.place)
        (λ k. goes_said (expect_term (root (w ∷ cs))) i l e a k)
        (λ k. nodes_said w cs i j e a (leb-false (nodes w.term) max_term_nodes k))
    sized_said (expect_term (arguments f ts ▹ fs)) i j m l e a =
        goes_said (expect_term (arguments f ts ▹ fs)) i l e a (le-leb (arity ts) 254 (ltb-false 254 (arity ts) m))
    sized_said (expect_term (fr ▹ fs)) i j m l e a = goes_said (expect_term (fr ▹ fs)) i l e a refl
    sized_said (after_open k fs) i j m l e a = goes_said (after_open k fs) i l e a refl
    sized_said (after_name b f fs) i j m l e a = goes_said (after_name b f fs) i l e a refl
    sized_said (after_term p u fs) i j m l e a = goes_said (after_term p u fs) i l e a refl

    -- a number past the limit leads to no name
    no_name : (s' : State) → is_lone s (lexeme bytes c t) ≡ true → IsLow (lexeme bytes c t) (Ok s') → name_too_deep s' ≡ true → ⊥
    no_name (expect_term fs) a h d = true≢false (sym d)
    no_name (after_open k fs) a h d = true≢false (sym d)
    no_name (after_name m f fs) a h d = subst IsOther (number_lexeme bytes c t (lone_is_number bytes c t s a)) h.1
    no_name (after_term p u fs) a h d = true≢false (sym d)

    fine_said : (s' : State) → step true s (lexeme bytes c t) ≡ Ok s' → EndsClause (lexeme bytes c t) (Ok s') → has_many s' ≡ false
        → SaidAtTurn (check_limits (place_at c t) (token_too_deep s (lexeme bytes c t)) (is_lone s (lexeme bytes c t)) (Ok s'))
    fine_said s' i j m =
        if_cases SaidAtTurn (nat_lt max_text_levels (levels s')) (fault_at TooDeep t.from) _
        (λ d. let y = some_next bytes (behind bytes c t) in let q = many_levels s' y.0 (ltb-true max_text_levels (levels s') d) in
        deep_said s' i y.0 y.1 q.0 q.1 q.2)
        (λ d. let l = ltb-false max_text_levels (levels s') d in
        if_cases SaidAtTurn (nat_le max_clause_tokens c.tokens) (too_many (place_at c t) s') _
        (λ e. if_cases SaidAtTurn (name_too_deep s') (name_over_limit s') (fault_at ClauseTooLong t.from)
        (λ k. late_said s' i m l e k)
        (λ k. long_said s' i m e (λ ls o h. true≢false (sym (few_behind i l ls o h).deep ∙ k))))
        (λ e. if_cases SaidAtTurn (is_lone s (lexeme bytes c t)) (fault_at NumberTooLarge t.from) (clause_within_nodes s')
        (λ a. first (fault NumberTooLarge t.from)
        (taken_ranks i 9 (λ ls o h. absurd (no_name s' a (low_behind i) (few_behind i l ls o h).deep)) (λ b. absurd (true≢false (sym b ∙ m)))
        (λ b. absurd (no_long e b)) (λ b. omega arith) (omega arith))
        (large_here a))
        (λ a. sized_said s' i j m l e a)))

    step_said : (q : Next) → step true s (lexeme bytes c t) ≡ q → EndsClause (lexeme bytes c t) q
        → SaidAtTurn (check_limits (place_at c t) (token_too_deep s (lexeme bytes c t)) (is_lone s (lexeme bytes c t)) (few q))
    step_said (Err k) i j = err_said k i
    step_said (Ok s') i j =
        if_cases (λ q. SaidAtTurn (check_limits (place_at c t) (token_too_deep s (lexeme bytes c t)) (is_lone s (lexeme bytes c t)) q))
        (has_many s') (Err ManyArguments) (Ok s') (λ m. many_said s' i m) (λ m. fine_said s' i j m)

  token_says : (t : Token) → IsNext bytes c t → SaysAtToken (outcome_of_step bytes (behind bytes c t) (limited_step (place_at c t) s (lexeme bytes c t)))
  token_says t n =
      if_cases (λ o. SaysAtToken (outcome_of_step bytes (behind bytes c t) o)) (makes_prefix s (lexeme bytes c t) && name_too_deep s)
      (fault_at TooDeep c.last) _
      (λ e. let h = token_parts (makes_prefix s (lexeme bytes c t)) (name_too_deep s) e in deep_first bytes stand r (lexeme bytes c t) (next t n)
      (record { deep = h.1; prefix = h.0 }))
      (λ e. step_said t n (λ d. true≢false (sym (and_from (makes_prefix s (lexeme bytes c t)) (name_too_deep s) d.prefix d.deep) ∙ e))
      (step true s (lexeme bytes c t)) refl (step_ends s (lexeme bytes c t)))

  end_says : (t : Token) → HasToken bytes c.to t → t.kind ≡ Eof → SaysAtToken (outcome_at_end (length bytes) c s)
  end_says t h k =
      if_cases SaysAtToken (name_too_deep s) (finds_fault (fault TooDeep c.last)) _
      (λ e. deep_first bytes stand r (variable_lexeme 0) (at_end t h k) (deep_before_variable s e))
      (λ e. if_cases SaysAtToken (is_between s) ends_between (finds_fault (fault Unexpected (length bytes)))
      (λ b. between s b refl)
      (λ b. end_first bytes stand r t h k e (no_text_yet xs s r.parsed (λ cs i. true≢false (sym (ap is_between i) ∙ b)))))
    where
      between : (s' : State) → is_between s' ≡ true → s ≡ s' → SaysAtToken ends_between
      between (expect_term (root cs)) b e = (cs, t, e, h, k)
      between (expect_term (f ▹ fs)) b e = absurd (true≢false (sym b))
      between (after_open j fs) b e = absurd (true≢false (sym b))
      between (after_name m f fs) b e = absurd (true≢false (sym b))
      between (after_term p u fs) b e = absurd (true≢false (sym b))

  -- what a turn comes to
  pub turn_says : SaysAtToken (read_outcome bytes c s)
  turn_says = go (first_token bytes c.to) refl
    where
      go : (q : Result Token TokenFault) → first_token bytes c.to ≡ q → SaysAtToken (outcome_at bytes c s q)
      go (Err e) h =
          if_cases (λ f. HasFirstFault bytes f) (name_too_deep s) (fault TooDeep c.last) (fault (read_kind_of e.kind) e.place)
          (λ d. deep_first bytes stand r (variable_lexeme 0) (at_fault (fault-found bytes c.to e h)) (deep_before_variable s d))
          (λ d. token_fault_first bytes stand r e (fault-found bytes c.to e h) d)
      go (Ok t) h =
          if_cases SaysAtToken (is_eof t.kind) (outcome_at_end (length bytes) c s) _
          (λ e. end_says t (token-found bytes c.to t h) (eof_is t.kind e))
          (λ e. token_says t (record { found = token-found bytes c.to t h; some = not_eof_is t.kind e }))
