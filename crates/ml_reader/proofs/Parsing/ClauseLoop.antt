-- What the loop over a text keeps.
use Rattle.std.specs.Prelude.{◌≡◌, ℕ, ◌≤◌, ◌<◌, ◌^◌, List, [], ◌∷◌, ◌++◌, length, map}
use Rattle.std.proofs.Common.{refl, sym, ap, ◌∙◌, subst, arith, append-nil}
use Rattle.ml_reader.specs.Lexemes.{ReadClause, Lexeme, clauses_onto}
use Rattle.ml_reader.specs.Tokens.{TokenContext, text_start}
use Rattle.ml_reader.specs.inside.parser.Parser as P
use Rattle.ml_reader.specs.inside.parser.Parser.{◌▹◌}
use Rattle.ml_reader.specs.Seen.{read_seen}
use Rattle.ml_reader.specs.inside.parser.Frames.{frame_seen, stack_on, stack, state_seen}
use Rattle.ml_reader.specs.inside.parser.ContextSeen.{IsWithin}
use Rattle.ml_reader.specs.Texts.{IsRead}
use Rattle.ml_reader.specs.inside.parser.Turns.{ReadOutcome, reads_on, ends_between, finds_fault, read_outcome}
use Rattle.ml_reader.specs.Faults.{HasFirstFault}
use Rattle.ml_reader.specs.declared.fault.ReadFault.{ReadFault}
use Rattle.ml_reader.specs.declared.parser.frames.Frame.{Frame}
use Rattle.ml_reader.specs.declared.parser.frames.State.{State}
use Rattle.ml_reader.specs.declared.parser.frames.State.TheVariants as S
use Rattle.ml_reader.specs.declared.parser.lexeme.Read.{Read}
use Rattle.ml_reader.proofs.Parsing.TermsRunThrough.{text_back}
use Rattle.ml_reader.proofs.Parsing.ClausesBefore.{over, state_over}
use Rattle.ml_reader.proofs.Parsing.TextBeginnings.{Stand}
use Rattle.ml_reader.proofs.Parsing.ContextCounts.{behind_within, behind_ends}
use Rattle.ml_reader.proofs.Parsing.BeginningsWithinLimits.{Reading, reading_starts}
use Rattle.ml_reader.proofs.Parsing.TurnsAfterClauses.{turned_over, turned_is_over}
use Rattle.ml_reader.proofs.Parsing.TurnOutcomes.{SaysAtToken, turn_says}
use Rattle.ml_reader.proofs.Parsing.OneTextReading.{read_whole}

-- the clauses that were read, the last first
abbrev pub read_back : List Read → List ReadClause
read_back rs = text_back (map read_seen rs) []

-- the tokens so far were taken within the limits, as these clauses and what stands open
pub record LoopKeeps (bytes : List ℕ) (c : TokenContext) (rs : List Read) (s : P.State) : Type 0 where
  pub tokens : List Lexeme
  pub reading : Reading bytes tokens c (state_over (read_back rs) s)
  pub counts : IsWithin c
  pub within : c.to ≤ length bytes

-- one token more
pub record LoopGoes (bytes : List ℕ) (c d : TokenContext) (rs : List Read) (s : P.State) : Type 0 where
  pub keeps : LoopKeeps bytes d rs s
  pub forth : c.to < d.to

back_more : (ws : List ReadClause) (w : ReadClause) (ds : List ReadClause) → text_back (ws ++ w ∷ []) ds ≡ w ∷ text_back ws ds
back_more [] w ds = refl
back_more (v ∷ ws) w ds = back_more ws w (v ∷ ds)

map_more : (rs : List Read) (r : Read) → map read_seen (rs ++ r ∷ []) ≡ map read_seen rs ++ read_seen r ∷ []
map_more [] r = refl
map_more (q ∷ rs) r = ap (λ l. read_seen q ∷ l) (map_more rs r)

read_more : (rs : List Read) (r : Read) → read_back (rs ++ r ∷ []) ≡ read_seen r ∷ read_back rs
read_more rs r = ap (λ l. text_back l []) (map_more rs r) ∙ back_more (map read_seen rs) (read_seen r) []

turned_back : (ds cs es : List ReadClause) → clauses_onto (text_back ds cs) es ≡ clauses_onto cs (ds ++ es)
turned_back [] cs es = refl
turned_back (d ∷ ds) cs es = turned_back ds (d ∷ cs) es

-- between clauses there are those that were read
deep_root : (ws : List ReadClause) (fs : List Frame) (g : P.Frame) (gs : P.Stack) (cs : List ReadClause) → over ws (stack_on fs (g ▹ gs)) ≡ P.root cs → ⊥
deep_root ws [] g gs cs e = cc
deep_root ws (f ∷ fs) g gs cs e = deep_root ws fs (frame_seen f) (g ▹ gs) cs e

same_want : {fs gs : P.Stack} → P.expect_term fs ≡ P.expect_term gs → fs ≡ gs
same_want e = cc

at_root : (ws : List ReadClause) (s : State) (cs : List ReadClause) → state_over ws (state_seen s) ≡ P.expect_term (P.root cs) → cs ≡ ws
at_root ws (S.ExpectTerm fs) cs e = go fs.items (same_want e)
  where
    same_clauses : {a b : List ReadClause} → P.root a ≡ P.root b → a ≡ b
    same_clauses e = cc

    go : (fs : List Frame) → over ws (stack fs) ≡ P.root cs → cs ≡ ws
    go [] e = sym (same_clauses e)
    go (f ∷ fs) e = absurd (deep_root ws fs (frame_seen f) (P.root []) cs e)
at_root ws (S.AfterOpen k fs) cs e = absurd cc
at_root ws (S.AfterName m f fs) cs e = absurd cc
at_root ws (S.AfterTerm p t fs) cs e = absurd cc

module _ (bytes : List ℕ) where
  -- nothing was read
  keeps_start : LoopKeeps bytes text_start [] (P.expect_term (P.root []))
  keeps_start = record { tokens = []; reading = reading_starts bytes; counts = record { tokens = omega arith; variables = omega arith }; within = omega arith }

  pub keeps_begin : (d : TokenContext) (rs : List Read) (fs : List Frame) → d ≡ text_start → rs ≡ [] → fs ≡ [] → LoopKeeps bytes d rs (P.expect_term (stack fs))
  keeps_begin d rs fs e i j = subst (λ d. LoopKeeps bytes d rs (P.expect_term (stack fs))) (sym e)
      (subst (λ rs. LoopKeeps bytes text_start rs (P.expect_term (stack fs))) (sym i) (subst (λ fs. LoopKeeps bytes text_start [] (P.expect_term (stack fs)))
      (sym j) keeps_start))

  module _ (stand : Stand bytes) {c : TokenContext} {rs : List Read} {s : P.State} (k : LoopKeeps bytes c rs s) where
    says : (u : ReadOutcome) → read_outcome bytes c s ≡ u → SaysAtToken bytes stand k.reading (turned_over (read_back rs) u)
    says u e = subst (SaysAtToken bytes stand k.reading) (turned_is_over (read_back rs) bytes c s ∙ ap (turned_over (read_back rs)) e)
        (turn_says bytes stand k.reading)

    -- a token is taken
    pub keeps_on : (d : TokenContext) (r : P.State) → read_outcome bytes c s ≡ reads_on d r → LoopGoes bytes c d rs r
    keeps_on d r e =
        let h = says (reads_on d r) e in
        let t = stand.token c.to h.0 k.within h.1.found in
        let w = behind_ends bytes c h.0 t h.1.some in
        record {
          keeps = record {
            tokens = _;
            reading = h.3;
            counts = subst IsWithin (sym h.2) (behind_within bytes c h.0 k.counts t h.1.some);
            within =
                subst (λ d. d.to ≤ length bytes) (sym h.2) w.1;
          };
          forth = subst (λ d. c.to < d.to) (sym h.2) w.0;
        }

    -- the first fault is met
    pub keeps_wrong : (f : ReadFault) → read_outcome bytes c s ≡ finds_fault f → HasFirstFault bytes f
    keeps_wrong f e = says (finds_fault f) e

  -- a clause ended
  keeps_clause : {d : TokenContext} {rs : List Read} (r : Read) → LoopKeeps bytes d rs (P.expect_term (P.root (read_seen r ∷ [])))
      → LoopKeeps bytes d (rs ++ r ∷ []) (P.expect_term (P.root []))
  keeps_clause {d} {rs} r k =
      record {
        tokens = k.tokens;
        reading = subst (λ cs. Reading bytes k.tokens d (P.expect_term (P.root cs))) (sym (read_more rs r)) k.reading;
        counts =
            k.counts;
        within = k.within;
      }

  pub keeps_next : (d : TokenContext) (rs qs : List Read) (fs : List Frame) (r : Read) → LoopKeeps bytes d rs (P.expect_term (P.root (read_seen r ∷ [])))
      → qs ≡ rs ++ r ∷ [] → fs ≡ [] → LoopKeeps bytes d qs (P.expect_term (stack fs))
  keeps_next d rs qs fs r k e i = subst (λ qs. LoopKeeps bytes d qs (P.expect_term (stack fs))) (sym e)
      (subst (λ fs. LoopKeeps bytes d (rs ++ r ∷ []) (P.expect_term (stack fs))) (sym i) (keeps_clause r k))

  -- the text is read
  pub keeps_whole : Stand bytes → length bytes < 2 ^ 32 → {c : TokenContext} {rs : List Read} (s : State) → LoopKeeps bytes c rs (state_seen s)
      → read_outcome bytes c (state_seen s) ≡ ends_between → IsRead bytes (map read_seen rs)
  keeps_whole stand short {c} {rs} s k e =
      let h = says stand k ends_between e in
      let i = at_root (read_back rs) s h.0 h.2 in
      let r : Reading bytes k.tokens c (P.expect_term (P.root (read_back rs))) = subst (λ s. Reading bytes k.tokens c s) (h.2
      ∙ ap (λ cs. P.expect_term (P.root cs)) i) k.reading in
      subst (IsRead bytes) (turned_back (map read_seen rs) [] [] ∙ append-nil (map read_seen rs)) (read_whole bytes stand short h.1 r h.3 h.4)
