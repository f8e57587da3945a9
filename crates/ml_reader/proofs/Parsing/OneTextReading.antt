-- A text is one list of clauses, or has one first fault.
use Rattle.std.specs.Prelude.{◌≡◌, ℕ, zero, suc, ◌+◌, ◌≤◌, ◌<◌, ◌^◌, ◌⊎◌, true, List, [], ◌∷◌, ◌++◌, length, get_or}
use Rattle.std.proofs.Common.{refl, sym, ap, ◌∙◌, subst, arith, true≢false, inl, inr}
use Rattle.ml_token.specs.Language.{HasToken}
use Rattle.ml_token.specs.declared.tokens.Token.{Token}
use Rattle.ml_token.specs.declared.tokens.TokenFaultKind.{TokenFaultKind}
use Rattle.ml_token.specs.declared.tokens.TokenFaultKind.TheVariants as token
use Rattle.ml_token.specs.declared.tokens.TokenKind.TheVariants.{Eof}
use Rattle.ml_reader.specs.Lexemes.{ReadClause, ClauseEnd, Lexeme, end, clauses_onto}
use Rattle.ml_reader.specs.Tokens.{TokenContext, lexeme, behind, text_start, GoesOn, no_token, a_token, Ends, the_end, one_more_token}
use Rattle.ml_reader.specs.Grammar.{IsText}
use Rattle.ml_reader.specs.inside.parser.Parser.{root, State, expect_term}
use Rattle.ml_reader.specs.Reading.{Reads}
use Rattle.ml_reader.specs.Texts.{IsRead}
use Rattle.ml_reader.specs.inside.parser.Turns.{ReadOutcome, reads_on, ends_between, finds_fault, read_outcome}
use Rattle.ml_reader.specs.Faults.{read_kind_of, fault, rank, IsNext, FaultBehind, bad_token, too_deep, refused_too_deep}
use Rattle.ml_reader.specs.Faults.{many_arguments, long_clause, large_number}
use Rattle.ml_reader.specs.Faults.{priority_clash, unexpected_token, cut_off, many_nodes, HasFault, HasFirstFault}
use Rattle.ml_reader.specs.declared.fault.ReadFault.{ReadFault}
use Rattle.ml_reader.specs.declared.fault.ReadKind.{ReadKind}
use Rattle.ml_reader.specs.declared.fault.ReadKind.TheVariants as kind
use Rattle.ml_reader.proofs.Parsing.AcceptedTerms.{sound}
use Rattle.ml_reader.proofs.Parsing.TermsRunThrough.{reads, text_back}
use Rattle.ml_reader.proofs.Parsing.ExactAnswers.{only_clauses}
use Rattle.ml_reader.proofs.Parsing.ClausesWithinLimits.{text_within}
use Rattle.ml_reader.proofs.Parsing.TextsWithinLimits.{text_stays}
use Rattle.ml_reader.proofs.Parsing.TextBeginnings.{Stand, same_token, not_found, next_is, not_eof, Along, same, longer, shorter, along, goes_up, behind_to}
use Rattle.ml_reader.proofs.Parsing.BeginningsWithinLimits.{Reading, reading_starts}
use Rattle.ml_reader.proofs.Parsing.BeginningsWithoutFaults.{Where, pending, here, later, where_met}
use Rattle.ml_reader.proofs.Parsing.TurnOutcomes.{SaysAtToken, turn_says}
use Rattle.ml_reader.proofs.Parsing.TokenValues.{good_text}

module _ (bytes : List ℕ) where
  ends_here : {c d : TokenContext} {xs : List Lexeme} (t : Token) → GoesOn bytes c xs d → HasToken bytes d.to t → t.kind ≡ Eof → Ends bytes c xs
  ends_here t no_token e k = the_end t e k
  ends_here t (a_token u f l ds) e k = one_more_token u f l (ends_here t ds e k)

  -- the tokens up to the end of a text lead to its end
  record AtEnd (c : TokenContext) (xs : List Lexeme) : Type 0 where
    context : TokenContext
    goes : GoesOn bytes c xs context
    token : Token
    found : HasToken bytes context.to token
    is_end : token.kind ≡ Eof

  at_the_end : {c : TokenContext} {xs : List Lexeme} → Ends bytes c xs → AtEnd c xs
  at_the_end {c} (the_end t e k) = record { context = c; goes = no_token; token = t; found = e; is_end = k }
  at_the_end (one_more_token t e k ds) =
      let h = at_the_end ds in record { context = h.context; goes = a_token t e k h.goes; token = h.token; found = h.found; is_end = h.is_end }

  -- the tokens up to the end of a text are one list
  pub only_tokens : {c : TokenContext} {xs ys : List Lexeme} → Ends bytes c xs → Ends bytes c ys → xs ≡ ys
  only_tokens (the_end t e k) (the_end u f l) = refl
  only_tokens (the_end t e k) (one_more_token u f l ds) = absurd (l (subst (λ t. t.kind ≡ Eof) (same_token e f) k))
  only_tokens (one_more_token u f l ds) (the_end t e k) = absurd (l (subst (λ t. t.kind ≡ Eof) (same_token e f) k))
  only_tokens {c} (one_more_token {xs = xs} t e k ds) (one_more_token {xs = ys} u f l es) =
      let i = same_token e f in
      ap (λ l. lexeme bytes c t ∷ l) (only_tokens ds (subst (λ t. Ends bytes (behind bytes c t) ys) (sym i) es)) ∙ ap (λ t. lexeme bytes c t ∷ ys) i

  -- a text has at most one list of clauses, the limits aside
  pub only_reading : (cs ds : List ReadClause) → Reads bytes cs → Reads bytes ds → cs ≡ ds
  only_reading cs ds r s = only_clauses s.tokens cs ds (subst (λ xs. IsText true xs cs) (only_tokens r.whole s.whole) r.text) s.text

  -- a text has at most one list of clauses
  pub read_once : (cs ds : List ReadClause) → IsRead bytes cs → IsRead bytes ds → cs ≡ ds
  read_once cs ds r s =
      only_reading cs ds (record { tokens = r.tokens; whole = r.whole; text = r.text }) (record { tokens = s.tokens; whole = s.whole; text = s.text })

  module _ (stand : Stand bytes) where
    -- a text that was taken whole within the limits is read
    pub read_whole : length bytes < 2 ^ 32 → {xs : List Lexeme} {c : TokenContext} {cs : List ReadClause} (t : Token)
        → Reading bytes xs c (expect_term (root cs)) → HasToken bytes c.to t → t.kind ≡ Eof → IsRead bytes (clauses_onto cs [])
    read_whole short {xs} {c} {cs} t r e k =
        let ds = ends_here t r.goes e k in
        let text = sound true xs cs r.parsed in
        let w = text_within text [] r.kept (good_text bytes stand short ds) in
        record { tokens = xs; whole = ds; text = text; levels = w.levels; short = r.short; valid = w.valid; small = w.small }

    -- the parser takes a text that is read whole within the limits
    taken_whole : (cs : List ReadClause) (r : IsRead bytes cs) → (h : AtEnd text_start r.tokens)
        → Reading bytes r.tokens h.context (expect_term (root (text_back cs [])))
    taken_whole cs r h =
        record { goes = h.goes; parsed = reads r.tokens cs r.text; kept = text_stays r.text [] r.levels r.valid r.small; short = r.short; low = omega arith }

    -- a text that is read has no fault
    pub read_without_fault : (cs : List ReadClause) (met : ℕ) (f : ReadFault) → IsRead bytes cs → HasFault bytes met f → ⊥
    read_without_fault cs met f r g = go (where_met bytes stand (taken_whole cs r h) g)
      where
        h : AtEnd text_start r.tokens
        h = at_the_end r.whole

        here_it : {met : ℕ} {f : ReadFault} → FaultBehind bytes r.tokens h.context met f → ⊥
        here_it (bad_token e) = not_found h.found e
        here_it (too_deep n o l) = not_eof n h.found h.is_end
        here_it (refused_too_deep n v o l) = not_eof n h.found h.is_end
        here_it (many_arguments n o l) = not_eof n h.found h.is_end
        here_it (long_clause n l) = not_eof n h.found h.is_end
        here_it (large_number n k l j) = not_eof n h.found h.is_end
        here_it (priority_clash n v w) = not_eof n h.found h.is_end
        here_it (unexpected_token n v w) = not_eof n h.found h.is_end
        here_it (cut_off e k n) = n cs r.text
        here_it (many_nodes ds w n e i l) = not_eof n h.found h.is_end

        go : Where bytes r.tokens h.context (expect_term (root (text_back cs []))) met f → ⊥
        go (pending y m d e i) = true≢false (sym d.deep)
        go (here i) = here_it i
        go (later t n l) = not_eof n h.found h.is_end

    -- a fault has the place where it is met, or is of too many nodes
    place_met : {xs : List Lexeme} {c : TokenContext} {met : ℕ} {f : ReadFault} → FaultBehind bytes xs c met f → (f.place ≡ met) ⊎ (f.kind ≡ kind.TooManyNodes)
    place_met (bad_token e) = inl refl
    place_met (too_deep n o l) = inl refl
    place_met (refused_too_deep n v o l) = inl refl
    place_met (many_arguments n o l) = inl refl
    place_met (long_clause n l) = inl refl
    place_met (large_number n k l j) = inl refl
    place_met (priority_clash n v w) = inl refl
    place_met (unexpected_token n v w) = inl refl
    place_met (cut_off e k n) = inl refl
    place_met (many_nodes cs w n e i l) = inr refl

    -- a clause of too many nodes that ends here
    record Nodes (xs : List Lexeme) (c : TokenContext) (met : ℕ) (f : ReadFault) : Type 0 where
      token : Token
      mark : ClauseEnd
      clauses : List ReadClause
      clause : ReadClause
      next : IsNext bytes c token
      is_end : lexeme bytes c token ≡ end mark
      text : IsText true (xs ++ end mark ∷ []) (clauses ++ clause ∷ [])
      at : met ≡ token.from
      place : f.place ≡ clause.place

    not_nodes : (k : TokenFaultKind) → read_kind_of k ≡ kind.TooManyNodes → ⊥
    not_nodes token.BadCharacter e = cc
    not_nodes token.OpenQuote e = cc
    not_nodes token.OpenComment e = cc
    not_nodes token.BadEscape e = cc
    not_nodes token.NumberTooLarge e = cc
    not_nodes token.NameTooLong e = cc
    not_nodes token.LeftOutQuote e = cc

    nodes_here : {xs : List Lexeme} {c : TokenContext} {met : ℕ} {f : ReadFault} → FaultBehind bytes xs c met f → f.kind ≡ kind.TooManyNodes → Nodes xs c met f
    nodes_here (bad_token {e = e} h) i = absurd (not_nodes e.kind i)
    nodes_here (too_deep n o l) i = absurd cc
    nodes_here (refused_too_deep n v o l) i = absurd cc
    nodes_here (many_arguments n o l) i = absurd cc
    nodes_here (long_clause n l) i = absurd cc
    nodes_here (large_number n k l j) i = absurd cc
    nodes_here (priority_clash n v w) i = absurd cc
    nodes_here (unexpected_token n v w) i = absurd cc
    nodes_here (cut_off e k n) i = absurd cc
    nodes_here (many_nodes {t = t} {m = m} cs w n e i l) j =
        record { token = t; mark = m; clauses = cs; clause = w; next = n; is_end = e; text = i; at = refl; place = refl }

    last_same : (cs ds : List ReadClause) (v w : ReadClause) → cs ++ v ∷ [] ≡ ds ++ w ∷ [] → v ≡ w
    last_same [] [] v w e = cc
    last_same [] (d ∷ []) v w e = absurd cc
    last_same [] (d ∷ e ∷ ds) v w i = absurd cc
    last_same (c ∷ []) [] v w e = absurd cc
    last_same (c ∷ e ∷ cs) [] v w i = absurd cc
    last_same (c ∷ cs) (d ∷ ds) v w e = last_same cs ds v w cc

    same_mark : {a b : ClauseEnd} → end a ≡ end b → a ≡ b
    same_mark e = cc

    -- a token behind a longer beginning stands at a later place
    later_place : {xs zs : List Lexeme} {c d : TokenContext} {t u : Token} → GoesOn bytes text_start xs c → IsNext bytes c t
        → GoesOn bytes (behind bytes c t) zs d → IsNext bytes d u → t.from < u.from
    later_place {c = c} {d = d} {t = t} {u = u} g n h m =
        let a = goes_up bytes stand g (omega arith) in
        let k = stand.token c.to t a.1 n.found in
        let w = k.within in
        let o = k.some n.some in
        let e = behind_to bytes c t n.some in
        let b = goes_up bytes stand h (omega arith) in
        let p = (stand.token d.to u b.1 m.found).behind in
        let q = b.0 in
        omega arith

    same_nodes : {xs ys : List Lexeme} {c d : TokenContext} {met : ℕ} {f g : ReadFault} → GoesOn bytes text_start xs c → GoesOn bytes text_start ys d
        → Nodes xs c met f → Nodes ys d met g → f.place ≡ g.place
    same_nodes {xs} {ys} {c} {d} {met} {f} {g} a b h i = go (along bytes a b)
      where
        go : Along bytes xs c ys d → f.place ≡ g.place
        go (same e j) =
            let t = next_is h.next (subst (λ d. HasToken bytes d.to i.token) (sym j) i.next.found) in
            let m = same_mark (sym h.is_end ∙ (ap (λ t. lexeme bytes c t) t ∙ (ap (λ c. lexeme bytes c i.token) j ∙ i.is_end))) in
            let text : IsText true (xs ++ end h.mark ∷ []) (i.clauses ++ i.clause ∷ []) =
            subst (λ m. IsText true (xs ++ end m ∷ []) (i.clauses ++ i.clause ∷ [])) (sym m)
            (subst (λ l. IsText true (l ++ end i.mark ∷ []) (i.clauses ++ i.clause ∷ [])) (sym e) i.text) in
            h.place ∙ (ap (λ w. w.place) (last_same h.clauses i.clauses h.clause i.clause (only_clauses (xs ++ end h.mark ∷ []) _ _ h.text text)) ∙ sym i.place)
        go (longer zs t n w k) =
            absurd (let l = later_place a n k i.next in let e = ap (λ t. t.from) (next_is n h.next.found) in let p = h.at in let q = i.at in omega arith)
        go (shorter zs t n w k) =
            absurd (let l = later_place b n k h.next in let e = ap (λ t. t.from) (next_is n i.next.found) in let p = h.at in let q = i.at in omega arith)

    -- the kinds in the order of their ranks
    kinds : List ReadKind
    kinds =
        kind.BadCharacter ∷ kind.OpenQuote ∷ kind.OpenComment ∷ kind.BadEscape ∷ kind.NameTooLong ∷ kind.LeftOutQuote ∷ kind.TooDeep ∷ kind.ArityTooLarge
        ∷ kind.ClauseTooLong ∷ kind.NumberTooLarge ∷ kind.PriorityClash ∷ kind.Unexpected
        ∷ kind.TooManyNodes ∷ kind.BadDeclaration ∷ kind.TwiceDeclared ∷ kind.BadClause ∷ kind.ItemTooLarge ∷ kind.BadScriptItem ∷ []

    ranked : (k : ReadKind) → get_or kinds (rank k) kind.BadCharacter ≡ k
    unfolding kinds
    ranked kind.BadCharacter = refl
    ranked kind.OpenQuote = refl
    ranked kind.OpenComment = refl
    ranked kind.BadEscape = refl
    ranked kind.NumberTooLarge = refl
    ranked kind.NameTooLong = refl
    ranked kind.LeftOutQuote = refl
    ranked kind.TooDeep = refl
    ranked kind.ArityTooLarge = refl
    ranked kind.ClauseTooLong = refl
    ranked kind.PriorityClash = refl
    ranked kind.Unexpected = refl
    ranked kind.TooManyNodes = refl
    ranked kind.BadDeclaration = refl
    ranked kind.TwiceDeclared = refl
    ranked kind.BadClause = refl
    ranked kind.ItemTooLarge = refl
    ranked kind.BadScriptItem = refl

    same_kind : (j k : ReadKind) → rank j ≡ rank k → j ≡ k
    same_kind j k e = sym (ranked j) ∙ (ap (λ n. get_or kinds n kind.BadCharacter) e ∙ ranked k)

    -- faults of one kind that are met at one place are one
    same_fault : (met : ℕ) (f g : ReadFault) → HasFault bytes met f → HasFault bytes met g → f.kind ≡ g.kind → f ≡ g
    same_fault met f g h i e = made (go (place_met h.there) (place_met i.there)) e
      where
        made : f.place ≡ g.place → f.kind ≡ g.kind → f ≡ g
        made p k = ap (λ p. fault f.kind p) p ∙ ap (λ k. fault k g.place) k

        go : (f.place ≡ met) ⊎ (f.kind ≡ kind.TooManyNodes) → (g.place ≡ met) ⊎ (g.kind ≡ kind.TooManyNodes) → f.place ≡ g.place
        go (inl p) (inl q) = p ∙ sym q
        go (inr p) j = same_nodes h.before i.before (nodes_here h.there p) (nodes_here i.there (sym e ∙ p))
        go j (inr q) = same_nodes h.before i.before (nodes_here h.there (e ∙ q)) (nodes_here i.there q)

    -- a text has at most one first fault
    pub one_first_fault : (f g : ReadFault) → HasFirstFault bytes f → HasFirstFault bytes g → f ≡ g
    one_first_fault f g h i = go (h.first i.met g i.there) (i.first h.met f h.there)
      where
        go : (h.met < i.met) ⊎ ((h.met ≡ i.met) × (rank f.kind ≤ rank g.kind)) → (i.met < h.met) ⊎ ((i.met ≡ h.met) × (rank g.kind ≤ rank f.kind)) → f ≡ g
        go (inl a) (inl b) = absurd (omega arith)
        go (inl a) (inr b) = absurd (let e = b.0 in omega arith)
        go (inr a) (inl b) = absurd (let e = a.0 in omega arith)
        go (inr a) (inr b) =
            same_fault i.met f g (subst (λ n. HasFault bytes n f) a.0 h.there) i.there (same_kind f.kind g.kind (let l = a.1 in let m = b.1 in omega arith))

    -- a text is read, or has a first fault
    abbrev pub IsTold : Type 0
    IsTold = ((cs : List ReadClause) × IsRead bytes cs) ⊎ ((f : ReadFault) × HasFirstFault bytes f)

    told : length bytes < 2 ^ 32 → (n : ℕ) {xs : List Lexeme} {c : TokenContext} {s : State} → Reading bytes xs c s → c.to ≤ length bytes
        → length bytes ≤ n + c.to → IsTold
    told short zero {xs} {c} {s} r l m = go (read_outcome bytes c s) (turn_says bytes stand r)
      where
        go : (u : ReadOutcome) → SaysAtToken bytes stand r u → IsTold
        go (reads_on d s') h =
            absurd (let k = stand.token c.to h.0 l h.1.found in let a = k.behind in let b = k.some h.1.some in let w = k.within in omega arith)
        go ends_between h = inl (clauses_onto h.0 [], read_whole short h.1 (subst (λ s. Reading bytes xs c s) h.2 r) h.3 h.4)
        go (finds_fault f) h = inr (f, h)
    told short (suc n) {xs} {c} {s} r l m = go (read_outcome bytes c s) (turn_says bytes stand r) (λ xs c s r l m. told short n r l m)
      where
        go : (u : ReadOutcome) → SaysAtToken bytes stand r u → ((xs : List Lexeme) (c : TokenContext) (s : State) → Reading bytes xs c s → c.to ≤ length bytes
            → length bytes ≤ n + c.to → IsTold) → IsTold
        go (reads_on d s') h next =
            let k = stand.token c.to h.0 l h.1.found in
            let a = k.behind in
            let b = k.some h.1.some in
            let w = k.within in
            let e = ap (λ d. d.to) h.2 in
            let i = behind_to bytes c h.0 h.1.some in
            next _ d s' h.3 (omega arith) (omega arith)
        go ends_between h next = inl (clauses_onto h.0 [], read_whole short h.1 (subst (λ s. Reading bytes xs c s) h.2 r) h.3 h.4)
        go (finds_fault f) h next = inr (f, h)

    pub every_text : length bytes < 2 ^ 32 → IsTold
    every_text short = told short (length bytes) (reading_starts bytes) (omega arith) (omega arith)
