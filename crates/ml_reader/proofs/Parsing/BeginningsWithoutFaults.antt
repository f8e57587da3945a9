-- Where the parser has taken a text's beginning within the limits, the faults of the text stand behind it, or the name that
-- it ends in is a prefix operator that opens a level past the limit.
use Rattle.std.specs.Prelude.{◌≡◌, ℕ, ◌+◌, ◌≤◌, ◌<◌, Bool, true, false, ◌&&◌, not, IsTrue, nat_le, List, [], ◌∷◌, ◌++◌, length, Option, Some, None, Ok}
use Rattle.std.proofs.Common.{refl, sym, ap, ◌∙◌, subst, arith, append_assoc, true≢false}
use Rattle.std.proofs.lemmas.Bool.{le-leb, leb-true}
use Rattle.ml_term.specs.Tree.{Trees, arity, nodes}
use Rattle.ml_token.specs.Values.{number_of}
use Rattle.ml_token.specs.declared.tokens.Token.{Token}
use Rattle.ml_token.specs.declared.tokens.TokenKind.TheVariants.{Number}
use Rattle.ml_reader.specs.Lexemes.{ReadClause, ClauseEnd, Lexeme, number, end}
use Rattle.ml_reader.specs.Operators.{Operator, prefix_of}
use Rattle.ml_reader.specs.Tokens.{TokenContext, lexeme, lexeme_of, behind, is_tight, text_start, GoesOn}
use Rattle.ml_reader.specs.Grammar.{IsText, Viable}
use Rattle.ml_reader.specs.inside.parser.Parser.{arguments, root, Stack, ◌▹◌, State, expect_term, after_open, after_name, after_term, run_tokens}
use Rattle.ml_reader.specs.inside.parser.Parser.{read_tokens}
use Rattle.ml_reader.specs.Levels.{Level, in_argument, right_of, OpenBefore}
use Rattle.ml_reader.specs.inside.parser.LimitedSteps.{depth, levels, opens_past, name_too_deep, makes_prefix, joins_minus, is_lone}
use Rattle.ml_reader.specs.Texts.{are_short}
use Rattle.ml_reader.specs.Faults.{fault, IsNext, MayBeNext, next, at_end, at_fault, AreOpen, EndsInMinus, FaultBehind, bad_token, too_deep, refused_too_deep}
use Rattle.ml_reader.specs.Faults.{many_arguments}
use Rattle.ml_reader.specs.Faults.{long_clause, large_number, priority_clash, unexpected_token, cut_off, many_nodes, HasFault}
use Rattle.ml_reader.specs.declared.fault.ReadFault.{ReadFault}
use Rattle.ml_reader.specs.declared.fault.ReadKind.TheVariants.{TooDeep}
use Rattle.ml_term.specs.Limits.{max_arguments, max_term_nodes, integer_offset}
use Rattle.ml_reader.specs.Limits.{max_text_levels, max_clause_tokens}
use Rattle.ml_reader.proofs.Parsing.OpenLevels.{opened, length_opened, prefix_path, path_before}
use Rattle.ml_reader.proofs.Parsing.StateCompletions.{viable}
use Rattle.ml_reader.proofs.Parsing.TermsRunThrough.{reads, text_back}
use Rattle.ml_reader.proofs.Parsing.FramesAsLevels.{same_some}
use Rattle.ml_reader.proofs.Parsing.LevelsBeforeTokens.{path_of_open, ends_in_minus}
use Rattle.ml_reader.proofs.Parsing.RunsWithinLimits.{AreFew, is_moderate, Fine, Kept, kept_head}
use Rattle.ml_reader.proofs.Parsing.TextBeginnings.{Stand, not_found, next_is, not_eof, behind_to, behind_last, Along, same, longer, shorter, along, goes_up}
use Rattle.ml_reader.proofs.Parsing.TextBeginnings.{counted, goes_nowhere, FirstOfThem, first_of_them}
use Rattle.ml_reader.proofs.Parsing.BeginningsWithinLimits.{Reading, reading_few, same_state, one_more, short_at, KeptAt, kept_at, split_run}

-- levels past the limit in front of a token are those of a name that is a prefix operator there
pub record IsDeepName (s : State) (y : Lexeme) : Type 0 where
  pub deep : name_too_deep s ≡ true
  pub prefix : makes_prefix s y ≡ true

too_long : (fs : Stack) (ls : List Level) → opened fs ≡ ls → max_text_levels < length ls → depth fs ≤ max_text_levels → ⊥
too_long fs ls e l m = omega (arith, ap length e, length_opened fs)

pub deep_name : (s : State) (y : Lexeme) (ls : List Level) → levels s ≤ max_text_levels → path_before s y ≡ Some ls → max_text_levels < length ls
    → IsDeepName s y
deep_name (expect_term fs) y ls m e l = absurd (too_long fs ls (same_some e) l m)
deep_name (after_open true fs) y ls m e l = absurd (let i = ap length (same_some e) in omega (arith, length_opened fs))
deep_name (after_open false fs) y ls m e l = absurd (let i = ap length (same_some e) in omega (arith, length_opened fs))
deep_name (after_name m f fs) y ls n e l = go (makes_prefix (after_name m f fs) y) refl (prefix_of f) refl e
  where
    go : (k : Bool) → makes_prefix (after_name m f fs) y ≡ k → (i : Option Operator) → prefix_of f ≡ i → prefix_path k i fs ≡ Some ls
        → IsDeepName (after_name m f fs) y
    go true k (Some o) i e =
        record {
          deep = ap (λ i. opens_past i fs) i ∙ le-leb max_text_levels (depth fs) (let q = ap length (same_some e) in omega (arith, length_opened fs));
          prefix = k;
        }
    go true k None i e = absurd cc
    go false k i j e = absurd cc
deep_name (after_term p t fs) y ls m e l = absurd cc

-- the levels of such a name
pub record DeepPath (s : State) (y : Lexeme) : Type 0 where
  pub levels : List Level
  pub path : path_before s y ≡ Some levels
  pub many : max_text_levels < length levels

pub deep_path : (s : State) (y : Lexeme) → IsDeepName s y → DeepPath s y
deep_path (expect_term fs) y d = absurd (true≢false (sym d.deep))
deep_path (after_open k fs) y d = absurd (true≢false (sym d.deep))
deep_path (after_name m f fs) y d = go (prefix_of f) refl d.deep
  where
    go : (i : Option Operator) → prefix_of f ≡ i → opens_past i fs ≡ true → DeepPath (after_name m f fs) y
    go None i e = absurd (true≢false (sym e))
    go (Some o) i e =
        let l : max_text_levels ≤ depth fs = leb-true max_text_levels (depth fs) e in
        record {
          levels = right_of o.right ∷ opened fs;
          path = ap (λ k. prefix_path k (prefix_of f) fs) d.prefix ∙ ap (λ i. prefix_path true i fs) i;
          many = omega (arith, length_opened fs);
        }
deep_path (after_term p t fs) y d = absurd (true≢false (sym d.deep))

-- an argument that a term is wanted in is the innermost frame
pub record InArgument (s : State) (n : ℕ) : Type 0 where
  pub functor : List ℕ
  pub trees : Trees
  pub below : Stack
  pub state : s ≡ expect_term (arguments functor trees ▹ below)
  pub count : 1 + arity trees ≡ n

no_operator : (k : Bool) (i : Option Operator) (fs : Stack) (n : ℕ) (ls : List Level) → prefix_path k i fs ≡ Some (in_argument n ∷ ls) → ⊥
no_operator true (Some o) fs n ls e = absurd cc
no_operator true None fs n ls e = absurd cc
no_operator false i fs n ls e = absurd cc

pub in_argument_is : (s : State) (y : Lexeme) (n : ℕ) (ls : List Level) → path_before s y ≡ Some (in_argument n ∷ ls) → InArgument s n
in_argument_is (expect_term (arguments f ts ▹ fs)) y n ls e = record { functor = f; trees = ts; below = fs; state = refl; count = first (same_some e) }
  where
    first : {a b : ℕ} {ks ms : List Level} → in_argument a ∷ ks ≡ in_argument b ∷ ms → a ≡ b
    first e = cc
in_argument_is (expect_term fs) y n ls e = absurd cc
in_argument_is (after_open true fs) y n ls e = absurd cc
in_argument_is (after_open false fs) y n ls e = absurd cc
in_argument_is (after_name m f fs) y n ls e = absurd (no_operator (makes_prefix (after_name m f fs) y) (prefix_of f) fs n ls e)
in_argument_is (after_term p t fs) y n ls e = absurd cc

-- a number past the limit is one with the bare `-` before it
pub lone_is_joined : (s : State) (k : Bool) (n : ℕ) → is_lone s (number k n) ≡ false → integer_offset ≤ n → (f : List ℕ) × (fs : Stack)
    × (s ≡ after_name true f fs) × (k ≡ true)
lone_is_joined s k n e l = go s (both (nat_le integer_offset n) (joins_minus s k) (le-leb integer_offset n l) e)
  where
    both : (a j : Bool) → a ≡ true → (a && not j) ≡ false → j ≡ true
    both true true e f = refl
    both true false e f = absurd (true≢false f)
    both false j e f = absurd (true≢false (sym e))

    parts : (a b : Bool) → (a && b) ≡ true → (a ≡ true) × (b ≡ true)
    parts true true e = (refl, refl)
    parts true false e = absurd (true≢false (sym e))
    parts false b e = absurd (true≢false (sym e))

    go : (s : State) → joins_minus s k ≡ true → (f : List ℕ) × (fs : Stack) × (s ≡ after_name true f fs) × (k ≡ true)
    go (expect_term fs) e = absurd (true≢false (sym e))
    go (after_open j fs) e = absurd (true≢false (sym e))
    go (after_name m f fs) e = let h = parts m k e in (f, fs, ap (λ m. after_name m f fs) h.0, h.1)
    go (after_term p t fs) e = absurd (true≢false (sym e))

-- a number token is a number
pub number_lexeme : (bytes : List ℕ) (c : TokenContext) (t : Token) → t.kind ≡ Number → lexeme bytes c t ≡ number (is_tight c t) (number_of bytes t)
number_lexeme bytes c t e = ap (λ k. lexeme_of k bytes c t) e

back_last : (cs : List ReadClause) (w : ReadClause) (ds : List ReadClause) → (es : List ReadClause) × (text_back (cs ++ w ∷ []) ds ≡ w ∷ es)
back_last [] w ds = (ds, refl)
back_last (c ∷ cs) w ds = back_last cs w (c ∷ ds)

-- where a fault of the text is met
pub data Where (bytes : List ℕ) (xs : List Lexeme) (c : TokenContext) (s : State) (met : ℕ) (f : ReadFault) : Type 0 where
  pending : (y : Lexeme) → MayBeNext bytes c y → IsDeepName s y → met ≡ c.last → f ≡ fault TooDeep c.last → Where bytes xs c s met f
  here : FaultBehind bytes xs c met f → Where bytes xs c s met f
  later : (t : Token) → IsNext bytes c t → t.to ≤ met → Where bytes xs c s met f

module _ (bytes : List ℕ) (stand : Stand bytes) where
  -- a fault is met behind the tokens before it
  pub met_after : {xs : List Lexeme} {c : TokenContext} {met : ℕ} {f : ReadFault} → FaultBehind bytes xs c met f → c.to ≤ length bytes → c.to ≤ met
  met_after {c = c} (bad_token {e = e} h) l = (stand.fault c.to e l h).0
  met_after {c = c} (too_deep {t = t} n o m) l = (stand.token c.to t l n.found).behind
  met_after {c = c} (refused_too_deep {t = t} n v o m) l = (stand.token c.to t l n.found).behind
  met_after {c = c} (many_arguments {t = t} n o m) l = (stand.token c.to t l n.found).behind
  met_after {c = c} (long_clause {t = t} n m) l = (stand.token c.to t l n.found).behind
  met_after {c = c} (large_number {t = t} n k m i) l = (stand.token c.to t l n.found).behind
  met_after {c = c} (priority_clash {t = t} n v w) l = (stand.token c.to t l n.found).behind
  met_after {c = c} (unexpected_token {t = t} n v w) l = (stand.token c.to t l n.found).behind
  met_after (cut_off h k n) l = l
  met_after {c = c} (many_nodes {t = t} cs w n e i m) l = (stand.token c.to t l n.found).behind

  -- a beginning within the limits, and a token in it
  module _ {xs : List Lexeme} {c : TokenContext} {s : State} (r : Reading bytes xs c s) (ys zs : List Lexeme) (d : TokenContext) (t : Token)
      (g : GoesOn bytes text_start ys d) (n : IsNext bytes d t)
      (whole : xs ≡ (ys ++ lexeme bytes d t ∷ []) ++ zs) (onward : GoesOn bytes (behind bytes d t) zs c) where
    at_it : KeptAt (expect_term (root [])) ys (lexeme bytes d t) zs
    at_it = kept_at (expect_term (root [])) ys (lexeme bytes d t) zs (subst (λ l. Kept (expect_term (root [])) l) whole r.kept)

    read_it : read_tokens true (ys ++ lexeme bytes d t ∷ []) ≡ Ok at_it.behind_it
    read_it = one_more (Ok (expect_term (root []))) ys at_it.before (lexeme bytes d t) at_it.first ∙ at_it.taken

    read_rest : run_tokens true (Ok at_it.behind_it) zs ≡ Ok s
    read_rest =
        let h = split_run (Ok (expect_term (root []))) (ys ++ lexeme bytes d t ∷ []) zs s (sym (ap (λ l. read_tokens true l) whole) ∙ r.parsed) in
        ap (λ n. run_tokens true n zs) (sym read_it ∙ h.first) ∙ h.second

    viable_it : Viable true (ys ++ lexeme bytes d t ∷ [])
    viable_it = viable true (ys ++ lexeme bytes d t ∷ []) at_it.behind_it read_it

    path_behind : (ls : List Level) (o : AreOpen bytes ys d t ls) → path_before at_it.behind_it o.following ≡ Some ls
    path_behind ls o =
        path_of_open (ys ++ lexeme bytes d t ∷ []) o.following at_it.behind_it ls read_it
        (subst (λ l. OpenBefore l (o.following ∷ []) ls) (sym (append_assoc ys (lexeme bytes d t ∷ []) (o.following ∷ []))) o.open_there)

    -- more levels than the limit behind it
    deep_it : {ls : List Level} → AreOpen bytes ys d t ls → max_text_levels < length ls → Where bytes xs c s t.from (fault TooDeep t.from)
    deep_it {ls} o l = go zs onward read_rest at_it.rest
      where
        at_last : c ≡ behind bytes d t → at_it.behind_it ≡ s → Where bytes xs c s t.from (fault TooDeep t.from)
        at_last e i =
            let q : t.from ≡ c.last = sym (behind_last bytes d t n.some) ∙ sym (ap (λ c. c.last) e) in
            pending o.following (subst (λ c. MayBeNext bytes c o.following) (sym e) o.may) (deep_name s o.following ls (reading_few r)
            (subst (λ s. path_before s o.following ≡ Some ls) i (path_behind ls o)) l) q (ap (λ p. fault TooDeep p) q)

        within : (z : Lexeme) → o.following ≡ z → Fine at_it.behind_it z → ⊥
        within z e f =
            let h : length ls ≤ max_text_levels = subst AreFew (sym (ap (λ z. path_before at_it.behind_it z) e) ∙ path_behind ls o) f.levels in omega arith

        followed : (z : Lexeme) → FirstOfThem bytes (behind bytes d t) z → Fine at_it.behind_it z → (y : Lexeme) → o.following ≡ y
            → MayBeNext bytes (behind bytes d t) y → ⊥
        followed z h f y e (next v k) = within z (e ∙ (ap (λ u. lexeme bytes (behind bytes d t) u) (next_is k h.next.found) ∙ sym h.is)) f
        followed z h f y e (at_end v i k) = not_eof h.next i k
        followed z h f y e (at_fault i) = not_found h.next.found i

        go : (zs : List Lexeme) → GoesOn bytes (behind bytes d t) zs c → run_tokens true (Ok at_it.behind_it) zs ≡ Ok s → Kept at_it.behind_it zs
            → Where bytes xs c s t.from (fault TooDeep t.from)
        go [] j e k = at_last (sym (goes_nowhere bytes j)) (same_state e)
        go (z ∷ zs) j e k = absurd (followed z (first_of_them bytes j) (kept_head k) o.following refl o.may)

    many_it : {ls : List Level} {i : ℕ} → AreOpen bytes ys d t (in_argument i ∷ ls) → max_arguments < i → ⊥
    many_it {ls} {i} o l =
        let h = in_argument_is at_it.behind_it o.following i ls (path_behind (in_argument i ∷ ls) o) in
        let m : arity h.trees ≤ 254 = leb-true (arity h.trees) 254 (subst (λ n. IsTrue (is_moderate n)) (at_it.taken ∙ ap (λ s. Ok s) h.state)
        at_it.is_fine.moderate) in
        let k = h.count in omega arith

    long_it : max_clause_tokens ≤ d.tokens → ⊥
    long_it l =
        let h = short_at 0 ys (lexeme bytes d t) zs (subst (λ l. IsTrue (are_short 0 l)) whole r.short) in
        let k = counted bytes g in omega arith

    large_it : t.kind ≡ Number → integer_offset ≤ number_of bytes t → (is_tight d t ≡ true → EndsInMinus ys → ⊥) → ⊥
    large_it k l m =
        let a : is_lone at_it.before (number (is_tight d t) (number_of bytes t)) ≡ false = sym (ap (λ x. is_lone at_it.before x) (number_lexeme bytes d t k))
        ∙ at_it.is_fine.alone in
        let h = lone_is_joined at_it.before (is_tight d t) (number_of bytes t) a l in
        m h.3 (ends_in_minus ys h.0 h.1 (at_it.first ∙ ap (λ s. Ok s) h.2))

    nodes_it : (m : ClauseEnd) (cs : List ReadClause) (w : ReadClause) → lexeme bytes d t ≡ end m → IsText true (ys ++ end m ∷ []) (cs ++ w ∷ [])
        → max_term_nodes < nodes w.term → ⊥
    nodes_it m cs w e i l =
        let b = back_last cs w [] in
        let q : read_tokens true (ys ++ lexeme bytes d t ∷ []) ≡ Ok (expect_term (root (w ∷ b.0))) = ap (λ x. read_tokens true (ys ++ x ∷ [])) e
        ∙ (reads (ys ++ end m ∷ []) (cs ++ w ∷ []) i ∙ ap (λ l. Ok (expect_term (root l))) b.1) in
        let k : IsTrue (nat_le (nodes w.term) max_term_nodes) = subst (λ n. IsTrue (is_moderate n)) (at_it.taken ∙ (sym read_it ∙ q)) at_it.is_fine.moderate in
        let h = leb-true (nodes w.term) max_term_nodes k in omega arith

    -- a fault at it is that its name opens a level past the limit
    earlier : {met : ℕ} {f : ReadFault} → FaultBehind bytes ys d met f → Where bytes xs c s met f
    earlier (bad_token h) = absurd (not_found n.found h)
    earlier (too_deep {t = u} {ls = ls} m o l) =
        let e = next_is n m.found in
        subst (λ u. Where bytes xs c s u.from (fault TooDeep u.from)) e (deep_it (subst (λ u. AreOpen bytes ys d u ls) (sym e) o) l)
    earlier (refused_too_deep {t = u} m v o l) = absurd (v (subst (λ u. Viable true (ys ++ lexeme bytes d u ∷ [])) (next_is n m.found) viable_it))
    earlier (many_arguments {t = u} {ls = ls} {n = i} m o l) =
        absurd (many_it (subst (λ u. AreOpen bytes ys d u (in_argument i ∷ ls)) (sym (next_is n m.found)) o) l)
    earlier (long_clause m l) = absurd (long_it l)
    earlier (large_number {t = u} m k l j) =
        let e = sym (next_is n m.found) in
        absurd (large_it (subst (λ u. u.kind ≡ Number) e k) (subst (λ u. integer_offset ≤ number_of bytes u) e l)
        (subst (λ u. is_tight d u ≡ true → EndsInMinus ys → ⊥) e j))
    earlier (priority_clash {t = u} m v w) = absurd (v (subst (λ u. Viable true (ys ++ lexeme bytes d u ∷ [])) (next_is n m.found) viable_it))
    earlier (unexpected_token {t = u} m v w) = absurd (v (subst (λ u. Viable true (ys ++ lexeme bytes d u ∷ [])) (next_is n m.found) viable_it))
    earlier (cut_off h k v) = absurd (not_eof n h k)
    earlier (many_nodes {t = u} {m = m} cs w k e i l) = absurd (nodes_it m cs w (ap (λ u. lexeme bytes d u) (next_is n k.found) ∙ e) i l)

  -- where a fault is met
  pub where_met : {xs : List Lexeme} {c : TokenContext} {s : State} {met : ℕ} {f : ReadFault} → Reading bytes xs c s → HasFault bytes met f
      → Where bytes xs c s met f
  where_met {xs} {c} {s} {met} {f} r h = go (along bytes h.before r.goes)
    where
      go : Along bytes h.tokens h.context xs c → Where bytes xs c s met f
      go (same e i) = here (subst (λ c. FaultBehind bytes xs c met f) i (subst (λ l. FaultBehind bytes l h.context met f) e h.there))
      go (longer zs t n w g) = earlier r h.tokens zs h.context t h.before n w g h.there
      go (shorter zs t n w g) =
          let u = goes_up bytes stand r.goes (omega arith) in
          let q = behind_to bytes c t n.some in
          let k = stand.token c.to t u.1 n.found in
          let j = k.within in
          let a = goes_up bytes stand g (omega arith) in
          let b = met_after h.there a.1 in
          later t n (omega (arith, a.0))
