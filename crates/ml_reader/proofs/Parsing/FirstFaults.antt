-- When a fault is a text's first one.
use Rattle.std.specs.Prelude.{◌≡◌, ◌≢◌, ℕ, ◌≤◌, ◌<◌, ◌⊎◌, true, false, List, [], ◌∷◌, ◌++◌, length, Ok}
use Rattle.std.proofs.Common.{refl, sym, ap, ◌∙◌, subst, arith, append_assoc, true≢false, inl, inr}
use Rattle.ml_token.specs.Language.{HasToken, HasFault as HasTokenFault}
use Rattle.ml_token.specs.Values.{number_of}
use Rattle.ml_token.specs.declared.tokens.Token.{Token}
use Rattle.ml_token.specs.declared.tokens.TokenFault.{TokenFault}
use Rattle.ml_token.specs.declared.tokens.TokenKind.TheVariants.{Number, Eof}
use Rattle.ml_reader.specs.Lexemes.{ReadClause, Lexeme}
use Rattle.ml_reader.specs.Tokens.{TokenContext, lexeme, is_tight, text_start, GoesOn}
use Rattle.ml_reader.specs.Grammar.{IsText, Viable}
use Rattle.ml_reader.specs.inside.parser.Parser.{root, Stack, State, expect_term, read_tokens}
use Rattle.ml_reader.specs.Levels.{Level, in_argument, OpenBefore, OpensLevel}
use Rattle.ml_reader.specs.inside.parser.LimitedSteps.{name_too_deep}
use Rattle.ml_reader.specs.Faults.{read_kind_of, fault, rank, IsNext, MayBeNext, next, at_end, at_fault, AreOpen, EndsInMinus, FaultBehind, bad_token, too_deep}
use Rattle.ml_reader.specs.Faults.{refused_too_deep}
use Rattle.ml_reader.specs.Faults.{many_arguments, long_clause, large_number, priority_clash, unexpected_token, cut_off, many_nodes, HasFault, HasFirstFault}
use Rattle.ml_reader.specs.declared.fault.ReadFault.{ReadFault}
use Rattle.ml_reader.specs.declared.fault.ReadKind.{ReadKind}
use Rattle.ml_reader.specs.declared.fault.ReadKind.TheVariants.{TooDeep, ArityTooLarge, ClauseTooLong, NumberTooLarge, PriorityClash, Unexpected, TooManyNodes}
use Rattle.ml_term.specs.Limits.{max_arguments, integer_offset}
use Rattle.ml_reader.specs.Limits.{max_text_levels, max_clause_tokens}
use Rattle.ml_reader.proofs.Parsing.StateCompletions.{viable}
use Rattle.ml_reader.proofs.Parsing.LevelsBeforeTokens.{open_before}
use Rattle.ml_reader.proofs.Parsing.TextBeginnings.{Stand, not_found, same_first_fault, next_is, not_eof, behind_to, behind_last, goes_up, Last, last_token}
use Rattle.ml_reader.proofs.Parsing.BeginningsWithinLimits.{Reading, reading_viable, same_state, split_run}
use Rattle.ml_reader.proofs.Parsing.BeginningsWithoutFaults.{IsDeepName, deep_path, Where, pending, here, later, where_met, met_after}

-- the earlier of two places, or the same one with an earlier kind
abbrev pub Comes : ℕ → ReadKind → ℕ → ReadKind → Type 0
Comes met k other j = (met < other) ⊎ ((met ≡ other) × (rank k ≤ rank j))

same_fault_place : {met other : ℕ} {k j : ReadKind} → met ≡ other → k ≡ j → Comes met k other j
same_fault_place {k = k} e i = inr (e, let h = ap rank i in omega arith)

module _ (bytes : List ℕ) (stand : Stand bytes) {xs : List Lexeme} {c : TokenContext} {s : State} (r : Reading bytes xs c s) where
  within : c.to ≤ length bytes
  within = (goes_up bytes stand r.goes (omega arith)).1

  -- a fault stands here
  pub there : {met : ℕ} {f : ReadFault} → FaultBehind bytes xs c met f → HasFault bytes met f
  there h = record { tokens = xs; context = c; before = r.goes; viable = reading_viable bytes r; there = h }

  -- the last token, where the parser has read a name
  record LastName : Type 0 where
    last : Last bytes text_start xs c
    near : c.last < c.to

  last_of : (ys : List Lexeme) → xs ≡ ys → ys ≢ [] → Last bytes text_start xs c
  last_of [] e n = absurd (n refl)
  last_of (y ∷ ys) e n = subst (λ l. Last bytes text_start l c) (sym e) (last_token bytes (subst (λ l. GoesOn bytes text_start l c) e r.goes))

  last_name : ((fs : Stack) → s ≢ expect_term fs) → LastName
  last_name n =
      let l = last_of xs refl (λ e. n (root []) (same_state (sym r.parsed ∙ ap (λ l. read_tokens true l) e))) in
      let u = goes_up bytes stand l.before (omega arith) in
      let t = stand.token l.context.to l.token u.1 l.next.found in
      let o = t.some l.next.some in
      let p : c.last ≡ l.token.from = ap (λ c. c.last) l.behind_it ∙ behind_last bytes l.context l.token l.next.some in
      let q : c.to ≡ l.token.to = ap (λ c. c.to) l.behind_it ∙ behind_to bytes l.context l.token l.next.some in
      record { last = l; near = omega arith }

  is_name : (y : Lexeme) → IsDeepName s y → (fs : Stack) → s ≢ expect_term fs
  is_name y d fs e = true≢false (sym d.deep ∙ ap name_too_deep e)

  front_viable : (l : Last bytes text_start xs c) → Viable true l.front
  front_viable l =
      let h = split_run (Ok (expect_term (root []))) l.front (lexeme bytes l.context l.token ∷ []) s (sym (ap (λ l. read_tokens true l) l.whole) ∙ r.parsed) in
      viable true l.front h.state h.first

  -- the name that was read last opens a level past the limit, and that is the first fault
  pub deep_first : (y : Lexeme) → MayBeNext bytes c y → IsDeepName s y → HasFirstFault bytes (fault TooDeep c.last)
  deep_first y may d =
      let l = last_name (is_name y d) in
      let k = l.last in
      let p : c.last ≡ k.token.from = ap (λ c. c.last) k.behind_it ∙ behind_last bytes k.context k.token k.next.some in
      let q = deep_path s y d in
      let w : OpenBefore (k.front ++ lexeme bytes k.context k.token ∷ y ∷ []) (y ∷ []) q.levels =
      subst (λ l. OpenBefore l (y ∷ []) q.levels) (ap (λ l. l ++ y ∷ []) k.whole ∙ append_assoc k.front (lexeme bytes k.context k.token ∷ []) (y ∷ []))
      (open_before xs y [] q.levels s r.parsed q.path) in
      let o : AreOpen bytes k.front k.context k.token q.levels =
      record { following = y; may = subst (λ c. MayBeNext bytes c y) k.behind_it may; open_there = w } in
      let h : HasFault bytes k.token.from (fault TooDeep k.token.from) = record {
        tokens = k.front;
        context = k.context;
        before = k.before;
        viable =
            front_viable k;
        there = too_deep k.next o q.many;
      } in
      record {
        met = c.last;
        there = subst (λ n. HasFault bytes n (fault TooDeep n)) (sym p) h;
        first = λ other g i. others l.near other g
            (where_met bytes stand r i);
      }
    where
      others : c.last < c.to → (other : ℕ) (g : ReadFault) → Where bytes xs c s other g → Comes c.last TooDeep other g.kind
      others n other g (pending z m e i j) = same_fault_place (sym i) (ap (λ g. g.kind) (sym j))
      others n other g (here i) = let a = met_after bytes stand i within in inl (omega arith)
      others n other g (later u m i) =
          let a = stand.token c.to u within m.found in
          let b = a.behind in
          let e = a.ordered in
          inl (omega arith)

  -- the next token has a fault
  pub token_fault_first : (e : TokenFault) → HasTokenFault bytes c.to e → name_too_deep s ≡ false → HasFirstFault bytes (fault (read_kind_of e.kind) e.place)
  token_fault_first e h n = record { met = e.place; there = there (bad_token h); first = λ other g i. others other g (where_met bytes stand r i) }
    where
      here_it : (other : ℕ) (g : ReadFault) → FaultBehind bytes xs c other g → Comes e.place (read_kind_of e.kind) other g.kind
      here_it other g (bad_token {e = e'} i) = let j = same_first_fault h i in same_fault_place (ap (λ e. e.place) j) (ap (λ e. read_kind_of e.kind) j)
      here_it other g (too_deep m o l) = absurd (not_found m.found h)
      here_it other g (refused_too_deep m v o l) = absurd (not_found m.found h)
      here_it other g (many_arguments m o l) = absurd (not_found m.found h)
      here_it other g (long_clause m l) = absurd (not_found m.found h)
      here_it other g (large_number m k l j) = absurd (not_found m.found h)
      here_it other g (priority_clash m v w) = absurd (not_found m.found h)
      here_it other g (unexpected_token m v w) = absurd (not_found m.found h)
      here_it other g (cut_off i k v) = absurd (not_found i h)
      here_it other g (many_nodes cs w m i j l) = absurd (not_found m.found h)

      others : (other : ℕ) (g : ReadFault) → Where bytes xs c s other g → Comes e.place (read_kind_of e.kind) other g.kind
      others other g (pending z m d i j) = absurd (true≢false (sym d.deep ∙ n))
      others other g (here i) = here_it other g i
      others other g (later u m i) = absurd (not_found m.found h)

  -- the text ends inside a clause
  pub end_first : (t : Token) → HasToken bytes c.to t → t.kind ≡ Eof → name_too_deep s ≡ false → ((cs : List ReadClause) → IsText true xs cs → ⊥)
      → HasFirstFault bytes (fault Unexpected (length bytes))
  end_first t h k n v = record { met = length bytes; there = there (cut_off h k v); first = λ other g i. others other g (where_met bytes stand r i) }
    where
      here_it : (other : ℕ) (g : ReadFault) → FaultBehind bytes xs c other g → Comes (length bytes) Unexpected other g.kind
      here_it other g (bad_token i) = absurd (not_found h i)
      here_it other g (too_deep m o l) = absurd (not_eof m h k)
      here_it other g (refused_too_deep m v o l) = absurd (not_eof m h k)
      here_it other g (many_arguments m o l) = absurd (not_eof m h k)
      here_it other g (long_clause m l) = absurd (not_eof m h k)
      here_it other g (large_number m i l j) = absurd (not_eof m h k)
      here_it other g (priority_clash m i j) = absurd (not_eof m h k)
      here_it other g (unexpected_token m i j) = absurd (not_eof m h k)
      here_it other g (cut_off i j l) = inr (refl, omega arith)
      here_it other g (many_nodes cs w m i j l) = absurd (not_eof m h k)

      others : (other : ℕ) (g : ReadFault) → Where bytes xs c s other g → Comes (length bytes) Unexpected other g.kind
      others other g (pending z m d i j) = absurd (true≢false (sym d.deep ∙ n))
      others other g (here i) = here_it other g i
      others other g (later u m i) = absurd (not_eof m h k)

  module _ (t : Token) (n : IsNext bytes c t) where
    -- which faults don't come before one of this rank at the next token
    pub record Ranks (k : ℕ) : Type 0 where
      pub deep : (ls : List Level) → AreOpen bytes xs c t ls → max_text_levels < length ls → k ≤ 6
      pub refused : (i : ℕ) → (Viable true (xs ++ lexeme bytes c t ∷ []) → ⊥) → OpensLevel xs (lexeme bytes c t) i → max_text_levels < i → k ≤ 6
      pub many : (i : ℕ) (ls : List Level) → AreOpen bytes xs c t (in_argument i ∷ ls) → max_arguments < i → k ≤ 7
      pub long : max_clause_tokens ≤ c.tokens → k ≤ 8
      pub large : t.kind ≡ Number → integer_offset ≤ number_of bytes t → (is_tight c t ≡ true → EndsInMinus xs → ⊥) → k ≤ 9
      pub clashing : (Viable true (xs ++ lexeme bytes c t ∷ []) → ⊥) → Viable false (xs ++ lexeme bytes c t ∷ []) → k ≤ 10
      pub stray : (Viable true (xs ++ lexeme bytes c t ∷ []) → ⊥) → k ≤ 11
      pub last : k ≤ 12

    -- a fault of the next token
    pub at_token_first : (f : ReadFault) → Ranks (rank f.kind) → FaultBehind bytes xs c t.from f → (IsDeepName s (lexeme bytes c t) → ⊥) → HasFirstFault bytes f
    at_token_first f q h d = record { met = t.from; there = there h; first = λ other g i. others other g (where_met bytes stand r i) }
      where
        at_place : {u : Token} (j : ReadKind) → IsNext bytes c u → rank f.kind ≤ rank j → Comes t.from f.kind u.from j
        at_place j m l = inr (ap (λ t. t.from) (next_is n m.found), l)

        here_it : (other : ℕ) (g : ReadFault) → FaultBehind bytes xs c other g → Comes t.from f.kind other g.kind
        here_it other g (bad_token i) = absurd (not_found n.found i)
        here_it other g (too_deep {ls = ls} m o l) = at_place TooDeep m (q.deep ls (subst (λ u. AreOpen bytes xs c u ls) (sym (next_is n m.found)) o) l)
        here_it other g (refused_too_deep {n = i} m v o l) =
            let e = sym (next_is n m.found) in
            at_place TooDeep m (q.refused i (subst (λ u. Viable true (xs ++ lexeme bytes c u ∷ []) → ⊥) e v)
            (subst (λ u. OpensLevel xs (lexeme bytes c u) i) e o) l)
        here_it other g (many_arguments {ls = ls} {n = i} m o l) =
            at_place ArityTooLarge m (q.many i ls (subst (λ u. AreOpen bytes xs c u (in_argument i ∷ ls)) (sym (next_is n m.found)) o) l)
        here_it other g (long_clause m l) = at_place ClauseTooLong m (q.long l)
        here_it other g (large_number m k l j) =
            let e = sym (next_is n m.found) in
            at_place NumberTooLarge m (q.large (subst (λ u. u.kind ≡ Number) e k) (subst (λ u. integer_offset ≤ number_of bytes u) e l)
            (subst (λ u. is_tight c u ≡ true → EndsInMinus xs → ⊥) e j))
        here_it other g (priority_clash m v w) = let e = sym (next_is n m.found) in
            at_place PriorityClash m (q.clashing (subst (λ u. Viable true (xs ++ lexeme bytes c u ∷ []) → ⊥) e v)
            (subst (λ u. Viable false (xs ++ lexeme bytes c u ∷ [])) e w))
        here_it other g (unexpected_token m v w) =
            let e = sym (next_is n m.found) in at_place Unexpected m (q.stray (subst (λ u. Viable true (xs ++ lexeme bytes c u ∷ []) → ⊥) e v))
        here_it other g (cut_off i j l) = absurd (not_eof n i j)
        here_it other g (many_nodes cs w m i j l) = at_place TooManyNodes m q.last

        not_pending : (z : Lexeme) → MayBeNext bytes c z → IsDeepName s z → ⊥
        not_pending z (next u m) i = d (subst (λ u. IsDeepName s (lexeme bytes c u)) (sym (next_is n m.found)) i)
        not_pending z (at_end u e k) i = not_eof n e k
        not_pending z (at_fault e) i = not_found n.found e

        others : (other : ℕ) (g : ReadFault) → Where bytes xs c s other g → Comes t.from f.kind other g.kind
        others other g (pending z m i j k) = absurd (not_pending z m i)
        others other g (here i) = here_it other g i
        others other g (later u m i) =
            let a = stand.token c.to t within n.found in
            let o = a.some n.some in
            let e = ap (λ t. t.to) (next_is n m.found) in
            inl (omega arith)
