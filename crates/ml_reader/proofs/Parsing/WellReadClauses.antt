-- What holds of each clause of a text: its variables are numbered, its names are theirs, and its tokens' values are in range.
use Rattle.std.specs.Prelude.{◌≡◌, ◌≢◌, ℕ, ◌-◌, ◌≤◌, Bool, true, false, ◌&&◌, not, IsTrue, nat_le, List, [], ◌∷◌, ◌++◌, length, drop, Some}
use Rattle.std.specs.List.{list_all, AllByRecursion}
use Rattle.std.proofs.Common.{refl, sym, ap, ◌∙◌, subst, arith, append_assoc, append-nil, true≢false}
use Rattle.std.proofs.lemmas.Bool.{leb-true}
use Rattle.ml_term.specs.Tree.{Tree, Trees, variables, variables_of, is_numbered, nodes, has}
use Rattle.ml_term.specs.Names.{is_name}
use Rattle.ml_term.specs.Valid.{is_valid}
use Rattle.ml_token.specs.Values.{name_of, spelled_text, HasValue, StandsIn}
use Rattle.ml_token.specs.declared.tokens.Token.{Token}
use Rattle.ml_token.specs.declared.tokens.TokenKind.{TokenKind}
use Rattle.ml_token.specs.declared.tokens.TokenKind.TheVariants.{Name, QuotedName, Variable, Number, Punct, End, Eof}
use Rattle.ml_reader.specs.Lexemes.{ReadClause, ClauseEnd, Lexeme, name, variable_lexeme, end}
use Rattle.ml_reader.specs.Tokens.{TokenContext, lexeme, lexeme_of, behind, behind_kind, is_tight, clause_end_at, is_anonymous, text_start, Ends}
use Rattle.ml_reader.specs.Tokens.{one_more_token}
use Rattle.ml_reader.specs.Grammar.{Word, plain, brackets, curlies, Derives, a_variable, a_number, a_negative, in_braces, an_atom, a_compound, in_parens}
use Rattle.ml_reader.specs.Grammar.{a_list, a_prefix, an_infix, Arguments, last_argument, argument, Elements, last_element, before_bar, element, IsText}
use Rattle.ml_reader.specs.Grammar.{no_clause, a_clause}
use Rattle.ml_reader.specs.Operators.{Operator, infix_at}
use Rattle.ml_reader.specs.Texts.{IsRead, IsWellRead, rise_from, are_different}
use Rattle.ml_reader.specs.Faults.{IsNext}
use Rattle.ml_term.specs.Limits.{max_term_nodes}
use Rattle.ml_reader.proofs.Parsing.TextBeginnings.{Stand, behind_to, first_sign_is}
use Rattle.ml_reader.proofs.Parsing.NumberedVariables.{Numbered, numbered_still, numbered_variable}

-- a token that is no variable and no end
abbrev IsPlain : Lexeme → Type 0
IsPlain (variable_lexeme n) = ⊥
IsPlain (end m) = ⊥
IsPlain x = Unit {0}

module _ (bytes : List ℕ) (stand : Stand bytes) where
  -- the text goes on to its end with these tokens, and the numbers of the clause's variables so far are us
  record Going (c : TokenContext) (us : List ℕ) (xs : List Lexeme) : Type 0 where
    ends : Ends bytes c xs
    numbered : Numbered c us
    within : c.to ≤ length bytes

  -- the first of them is the next token
  record FirstNumbered (c : TokenContext) (x : Lexeme) (xs : List Lexeme) : Type 0 where
    token : Token
    next : IsNext bytes c token
    is : x ≡ lexeme bytes c token
    rest : Ends bytes (behind bytes c token) xs

  first_of_ends : {c : TokenContext} {x : Lexeme} {xs : List Lexeme} → Ends bytes c (x ∷ xs) → FirstNumbered c x xs
  first_of_ends (one_more_token t h k ds) = record { token = t; next = record { found = h; some = k }; is = refl; rest = ds }

  stands_at : {c : TokenContext} {t : Token} → c.to ≤ length bytes → IsNext bytes c t → StandsIn bytes c.to t
  stands_at {c} {t} l n = stand.token c.to t l n.found

  within_behind : {c : TokenContext} {t : Token} → c.to ≤ length bytes → IsNext bytes c t → (behind bytes c t).to ≤ length bytes
  within_behind {c} {t} l n = let w = (stands_at l n).within in let e = behind_to bytes c t n.some in omega arith

  -- a plain token leaves the numbers
  plain_kind : (k : TokenKind) (c : TokenContext) (t : Token) (us : List ℕ) → k ≢ Eof → Numbered c us → IsPlain (lexeme_of k bytes c t)
      → Numbered (behind_kind k bytes c t) us
  plain_kind Name c t us n h p = numbered_still c us t h
  plain_kind QuotedName c t us n h p = numbered_still c us t h
  plain_kind Variable c t us n h p = absurd p
  plain_kind Number c t us n h p = numbered_still c us t h
  plain_kind Punct c t us n h p = numbered_still c us t h
  plain_kind End c t us n h p = absurd p
  plain_kind Eof c t us n h p = absurd (n refl)

  pass : {us : List ℕ} {x : Lexeme} {xs : List Lexeme} {c : TokenContext} → Going c us (x ∷ xs) → IsPlain x → (d : TokenContext) × Going d us xs
  pass {us} {x} {xs} {c} g p =
      let f = first_of_ends g.ends in (
        behind bytes c f.token,
        record {
          ends = f.rest;
          numbered = plain_kind f.token.kind c f.token us f.next.some g.numbered (subst IsPlain f.is p);
          within =
              within_behind g.within f.next;
        },
      )

  -- a name is one
  name_kind : (k : TokenKind) (t : Token) → t.kind ≡ k → IsTrue (is_name (spelled_text k (drop t.from bytes) (t.to - t.from)))
      → IsTrue (is_name (name_of bytes t))
  name_kind k t e h = subst (λ k. IsTrue (is_name (spelled_text k (drop t.from bytes) (t.to - t.from)))) (sym e) h

  value_kind : {c : TokenContext} {t : Token} (k : TokenKind) → c.to ≤ length bytes → IsNext bytes c t → t.kind ≡ k
      → HasValue k (drop t.from bytes) (t.to - t.from)
  value_kind {c} {t} k l n e = subst (λ k. HasValue k (drop t.from bytes) (t.to - t.from)) e (stands_at l n).value

  same_number : {a b : ℕ} → variable_lexeme a ≡ variable_lexeme b → a ≡ b
  same_number e = cc

  other : {n : ℕ} {f : List ℕ} {q : Bool} → variable_lexeme n ≡ name q f → ⊥
  other e = cc

  -- a variable adds its number
  unknown_kind : (k : TokenKind) (c : TokenContext) (t : Token) (us : List ℕ) (n : ℕ) → Numbered c us → c.to ≤ length bytes → IsNext bytes c t → t.kind ≡ k
      → variable_lexeme n ≡ lexeme_of k bytes c t → Numbered (behind_kind k bytes c t) (us ++ n ∷ [])
  unknown_kind Name c t us n h l m e i = absurd (other i)
  unknown_kind QuotedName c t us n h l m e i = absurd (other i)
  unknown_kind Variable c t us n h l m e i =
      subst (λ n. Numbered (behind_kind Variable bytes c t) (us ++ n ∷ [])) (sym (same_number i)) (numbered_variable c us t h (name_of bytes t)
      (name_kind Variable t e (value_kind Variable l m e)))
  unknown_kind Number c t us n h l m e i = absurd cc
  unknown_kind Punct c t us n h l m e i = absurd (first_sign_is (λ x. variable_lexeme n ≡ x → ⊥) (is_tight c t) (drop t.from bytes) (λ e. cc) (λ e. cc)
      (λ e. cc) (λ e. cc) (λ e. cc) (λ e. cc) (λ e. cc) (λ e. cc) i)
  unknown_kind End c t us n h l m e i = absurd cc
  unknown_kind Eof c t us n h l m e i = absurd cc

  pass_unknown : {us : List ℕ} {n : ℕ} {xs : List Lexeme} {c : TokenContext} → Going c us (variable_lexeme n ∷ xs) → (d : TokenContext)
      × Going d (us ++ n ∷ []) xs
  pass_unknown {us} {n} {xs} {c} g =
      let f = first_of_ends g.ends in (
        behind bytes c f.token,
        record {
          ends = f.rest;
          numbered = unknown_kind f.token.kind c f.token us n g.numbered g.within f.next refl f.is;
          within =
              within_behind g.within f.next;
        },
      )

  -- an end tells of its clause
  end_kind : (k : TokenKind) (c : TokenContext) (t : Token) (us : List ℕ) (m : ClauseEnd) → end m ≡ lexeme_of k bytes c t → Numbered c us
      → (m ≡ clause_end_at c t) × Numbered (behind_kind k bytes c t) []
  end_kind Name c t us m i h = absurd cc
  end_kind QuotedName c t us m i h = absurd cc
  end_kind Variable c t us m i h = absurd cc
  end_kind Number c t us m i h = absurd cc
  end_kind Punct c t us m i h = absurd (first_sign_is (λ x. end m ≡ x → ⊥) (is_tight c t) (drop t.from bytes) (λ e. cc) (λ e. cc) (λ e. cc) (λ e. cc) (λ e. cc)
      (λ e. cc) (λ e. cc) (λ e. cc) i)
  end_kind End c t us m i h =
      (same_mark i, record { counting = refl; many = refl; below = refl; of_term = refl; rising = refl; different = refl; spelled = refl })
    where
      same_mark : {a b : ClauseEnd} → end a ≡ end b → a ≡ b
      same_mark e = cc
  end_kind Eof c t us m i h = absurd cc

  -- from a place in a text on, behind numbers
  abbrev Gone : List ℕ → List Lexeme → Type 0
  Gone us xs = (d : TokenContext) × Going d us xs

  more_plain : {us : List ℕ} {x : Lexeme} {xs : List Lexeme} → Gone us (x ∷ xs) → IsPlain x → Gone us xs
  more_plain g p = pass g.1 p

  same_numbers : {us vs : List ℕ} {xs : List Lexeme} → us ≡ vs → Gone us xs → Gone vs xs
  same_numbers {xs = xs} e g = subst (λ us. Gone us xs) e g

  through_word : {us : List ℕ} {xs ys : List Lexeme} {m : Bool} {f : List ℕ} → Word xs ys m f → Gone us xs → Gone us ys
  through_word plain g = more_plain g tt
  through_word brackets g = more_plain (more_plain g tt) tt
  through_word curlies g = more_plain (more_plain g tt) tt

  operator_plain : (c : Bool) (x : Lexeme) (o : Operator) → infix_at c x ≡ Some o → IsPlain x
  operator_plain c (variable_lexeme n) o e = absurd cc
  operator_plain c (end m) o e = absurd cc
  operator_plain c x o e = tt

  mutual
    through : {c : Bool} {us : List ℕ} {xs ys : List Lexeme} {p : ℕ} {t : Tree} → Derives true c xs ys p t → Gone us xs → Gone (us ++ variables t) ys
    through (a_variable {n = n}) g = pass_unknown g.1
    through {us = us} a_number g = same_numbers (sym (append-nil us)) (more_plain g tt)
    through {us = us} (a_negative w) g = same_numbers (sym (append-nil us)) (more_plain (through_word w g) tt)
    through {us = us} (in_braces {t = t} d l) g =
        same_numbers (ap (λ l. us ++ l) (sym (append-nil (variables t)))) (more_plain (through d (more_plain g tt)) tt)
    through {us = us} (an_atom w a) g = same_numbers (sym (append-nil us)) (through_word w g)
    through (a_compound w ds) g = through_arguments ds (more_plain (through_word w g) tt)
    through (in_parens d l) g = more_plain (through d (more_plain g tt)) tt
    through (a_list ds) g = through_elements ds (more_plain g tt)
    through {us = us} (a_prefix {t = t} w e n d l) g = same_numbers (ap (λ l. us ++ l) (sym (append-nil (variables t)))) (through d (through_word w g))
    through {us = us} (an_infix {c = c} {x = x} {o = o} {t = t} {u = u} d e l d' l') g =
        same_numbers (append_assoc us (variables t) (variables u) ∙ ap (λ l. us ++ (variables t ++ l)) (sym (append-nil (variables u))))
        (through d' (more_plain (through d g) (operator_plain c x o e)))

    through_arguments : {us : List ℕ} {xs ys : List Lexeme} {ts : Trees} → Arguments true xs ys ts → Gone us xs → Gone (us ++ variables_of ts) ys
    through_arguments {us} (last_argument {t = t} d l) g = same_numbers (ap (λ l. us ++ l) (sym (append-nil (variables t)))) (more_plain (through d g) tt)
    through_arguments {us} (argument {t = t} {ts = ts} d l ds) g =
        same_numbers (append_assoc us (variables t) (variables_of ts)) (through_arguments ds (more_plain (through d g) tt))

    through_elements : {us : List ℕ} {xs ys : List Lexeme} {u : Tree} → Elements true xs ys u → Gone us xs → Gone (us ++ variables u) ys
    through_elements {us} (last_element {t = t} d l) g = same_numbers (ap (λ l. us ++ l) (sym (append-nil (variables t)))) (more_plain (through d g) tt)
    through_elements {us} (before_bar {t = t} {u = u} d l d' l') g =
        same_numbers (append_assoc us (variables t) (variables u) ∙ ap (λ l. us ++ (variables t ++ l)) (sym (append-nil (variables u))))
        (more_plain (through d' (more_plain (through d g) tt)) tt)
    through_elements {us} (element {t = t} {u = u} d l ds) g =
        same_numbers (append_assoc us (variables t) (variables u) ∙ ap (λ l. us ++ (variables t ++ l)) (sym (append-nil (variables u))))
        (through_elements ds (more_plain (through d g) tt))

  -- what the text tells of a clause
  record IsNumbered (w : ReadClause) : Type 0 where
    numbered : IsTrue (is_numbered w.term)
    of_term : IsTrue (list_all (λ n. has n.1 (variables w.term)) w.names)
    rising : IsTrue (rise_from 0 w.names)
    different : IsTrue (are_different w.names)
    spelled : IsTrue (list_all (λ n. is_name n.0 && not (is_anonymous n.0)) w.names)

  text_numbered : {xs : List Lexeme} {cs : List ReadClause} → IsText true xs cs → Gone [] xs → AllByRecursion IsNumbered cs
  text_numbered no_clause g = tt
  text_numbered (a_clause {m = m} {ys = ys} {t = t} d l i) g =
      let h = through d g in
      let f = first_of_ends h.1.ends in
      let e = end_kind f.token.kind h.0 f.token (variables t) m f.is h.1.numbered in
      let n : m.names ≡ h.0.names = ap (λ m. m.names) e.0 in
      let k = h.1.numbered in (
        record {
          numbered = k.counting;
          of_term = subst (λ ns. IsTrue (list_all (λ n. has n.1 (variables t)) ns)) (sym n) k.of_term;
          rising = subst (λ ns. IsTrue (rise_from 0 ns)) (sym n) k.rising;
          different = subst (λ ns. IsTrue (are_different ns)) (sym n) k.different;
          spelled = subst (λ ns. IsTrue (list_all (λ n. is_name n.0 && not (is_anonymous n.0)) ns)) (sym n) k.spelled;
        },
        text_numbered i (behind bytes h.0 f.token, record { ends = f.rest; numbered = e.1; within = within_behind h.1.within f.next }),
      )

  nothing_numbered : Numbered text_start []
  nothing_numbered = record { counting = refl; many = refl; below = refl; of_term = refl; rising = refl; different = refl; spelled = refl }

  all_well : (cs : List ReadClause) → AllByRecursion IsNumbered cs → IsTrue (list_all (λ w. is_valid w.term) cs)
      → IsTrue (list_all (λ w. nat_le (nodes w.term) max_term_nodes) cs) → AllByRecursion IsWellRead cs
  all_well [] h v s = tt
  all_well (w ∷ cs) h v s =
      let k = h.0 in (
        record {
          valid = first_of (is_valid w.term) _ v;
          small = leb-true (nodes w.term) max_term_nodes (first_of (nat_le (nodes w.term) max_term_nodes) _ s);
          numbered = k.numbered;
          of_term = k.of_term;
          rising = k.rising;
          different = k.different;
          spelled = k.spelled;
        },
        all_well cs h.1 (second_of (is_valid w.term) _ v) (second_of (nat_le (nodes w.term) max_term_nodes) _ s),
      )
    where
      first_of : (a b : Bool) → IsTrue (a && b) → IsTrue a
      first_of true b e = refl
      first_of false b e = absurd (true≢false (sym e))

      second_of : (a b : Bool) → IsTrue (a && b) → IsTrue b
      second_of true b e = e
      second_of false b e = absurd (true≢false (sym e))

  -- what is read is well read
  pub well_read : (cs : List ReadClause) → IsRead bytes cs → AllByRecursion IsWellRead cs
  well_read cs r = all_well cs (text_numbered r.text (text_start, record { ends = r.whole; numbered = nothing_numbered; within = omega arith })) r.valid r.small
