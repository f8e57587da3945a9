-- Punctuation, quoted names, variables and the end of a clause, each with the tokens behind it up to the text's end.
use Rattle.std.specs.Prelude.{◌≡◌, ◌≢◌, ℕ, suc, ◌+◌, ◌<◌, ◌≤◌, true, false, if◌then◌else◌, List, [], ◌∷◌, ◌++◌, length, drop, Option, Some, None, unwrap_or}
use Rattle.std.specs.Prelude.{codes}
use Rattle.std.proofs.Common.{inl, inr, refl, sym, ap, ◌∙◌, arith, subst, append_assoc, length-drop}
use Rattle.std.proofs.lemmas.Bool.{eq-eqb}
use Rattle.std.proofs.lemmas.Bool.Decides.{eqb_tells}
use Rattle.ml_token.specs.Limits.{max_name_bytes}
use Rattle.ml_token.specs.declared.tokens.Token.{Token}
use Rattle.ml_token.specs.declared.tokens.TokenKind.TheVariants.{QuotedName, Variable, Punct, End, Eof}
use Rattle.ml_token.specs.declared.quoted.Ending.TheVariants.{Closed}
use Rattle.ml_token.specs.Bytes.{is_one_of, begins_with}
use Rattle.ml_token.specs.Quoted.{Inside, inside}
use Rattle.ml_token.specs.Values.{name_of}
use Rattle.ml_token.specs.Language as language
use Rattle.ml_token.specs.Language.{HasToken, IsToken, no_gap, layout, Spells}
use Rattle.ml_token.proofs.ScannerComplete.{inside-ends, quote-closed}
use Rattle.ml_reader.specs.Lexemes.{ClauseEnd, Lexeme, name, variable_lexeme, end}
use Rattle.ml_reader.specs.Tokens.{TokenContext, find_name, is_anonymous, variable_number, sign, first_sign, first_place, clause_end_at, behind_token}
use Rattle.ml_reader.specs.Tokens.{behind_named, behind_variable, behind, Ends, the_end, one_more_token}
use Rattle.ml_round_trip.specs.ReadBack.{variable_name, variable_names}
use Rattle.ml_round_trip.proofs.TokensInText.{IsAt, tight, at_next, EndsAs, found_here, left_behind, text_is_there, a_token_first}

module _ (bytes : List ℕ) where
  pub punctuation : (v b : ℕ) (rest : List ℕ) (ys : List Lexeme) → is_one_of (codes "()[]{},|") b ≡ true → EndsAs bytes v rest ys
      → EndsAs bytes v (b ∷ rest) (sign true b ∷ ys)
  punctuation v b rest ys is ends c h e =
      a_token_first bytes Punct v c (b ∷ []) rest _ ys e (language.punct is) (λ z. cc)
      (ap (λ k. first_sign k (drop c.to bytes)) (eq-eqb c.to c.to refl) ∙ ap (λ bs. first_sign true bs) e)
      (at_next v v c (tight Punct c (b ∷ [])) c.names c.variables h refl h.names h.variables) refl ends

  spelled_name : (c : TokenContext) (text f rest : List ℕ) → Spells text f → begins_with 39 rest ≡ false → drop c.to bytes ≡ (39 ∷ text ++ 39 ∷ []) ++ rest
      → name_of bytes (tight QuotedName c (39 ∷ text ++ 39 ∷ [])) ≡ f
  spelled_name c text f rest spells stops e =
      ap (λ bs. (inside 0 (drop 1 bs)).name) e
      ∙ (ap (λ bs. (inside 0 bs).name) (append_assoc text (39 ∷ []) rest) ∙ ap (λ (q : Inside). q.name)
      (inside-ends (39 ∷ rest) Closed spells (quote-closed rest stops)))

  pub quoted_name : (v : ℕ) (text f rest : List ℕ) (ys : List Lexeme) → Spells text f → length f ≤ max_name_bytes → begins_with 39 rest ≡ false
      → EndsAs bytes v rest ys
      → EndsAs bytes v ((39 ∷ text ++ 39 ∷ []) ++ rest) (name true f ∷ ys)
  quoted_name v text f rest ys spells short stops ends c h e =
      a_token_first bytes QuotedName v c (39 ∷ text ++ 39 ∷ []) rest _ ys e (language.quoted_name text f spells short stops) (λ z. cc)
      (ap (λ g. name true g) (spelled_name c text f rest spells stops e))
      (at_next v v c (tight QuotedName c (39 ∷ text ++ 39 ∷ [])) c.names c.variables h refl h.names h.variables) refl ends

  module _ (v : ℕ) (f rest : List ℕ) (c : TokenContext) (h : IsAt v c) (e : drop c.to bytes ≡ f ++ rest) (named : is_anonymous f ≡ false) where
    token : Token
    token = tight Variable c f

    name_is : name_of bytes (tight Variable c f) ≡ f
    name_is = text_is_there bytes Variable c f rest e

    number_is : (o : Option ℕ) → find_name (variable_names v) f ≡ o → variable_number c (name_of bytes (tight Variable c f)) ≡ unwrap_or o c.variables
    number_is o i =
        ap (λ g. variable_number c g) name_is
        ∙ (ap (λ b. if b then c.variables else unwrap_or (find_name c.names f) c.variables) named
        ∙ ap (λ o. unwrap_or o c.variables) (ap (λ ns. find_name ns f) h.names ∙ i))

    behind_is : (o : Option ℕ) → find_name (variable_names v) f ≡ o → behind bytes c (tight Variable c f) ≡ behind_named o f c (tight Variable c f)
    behind_is o i =
        ap (λ g. behind_variable g c (tight Variable c f)) name_is
        ∙ (ap (λ b. if b then behind_token c (tight Variable c f) c.names (1 + c.variables) else behind_named (find_name c.names f) f c
        (tight Variable c f)) named
        ∙ ap (λ o. behind_named o f c (tight Variable c f)) (ap (λ ns. find_name ns f) h.names ∙ i))

  -- a variable that stands before
  pub known_variable : (v p : ℕ) (f rest : List ℕ) (ys : List Lexeme) → IsToken Variable f rest → is_anonymous f ≡ false
      → find_name (variable_names v) f ≡ Some p
      → EndsAs bytes v rest ys → EndsAs bytes v (f ++ rest) (variable_lexeme p ∷ ys)
  known_variable v p f rest ys is named i ends c h e =
      let b = behind_is v f rest c h e named (Some p) i in
      a_token_first bytes Variable v c f rest _ ys e is (λ z. cc) (ap variable_lexeme (number_is v f rest c h e named (Some p) i))
      (subst (λ d. IsAt v d) (sym b) (at_next v v c (tight Variable c f) c.names c.variables h refl h.names h.variables))
      (ap (λ (d : TokenContext). d.to) b) ends

  -- a variable that doesn't
  pub new_variable : (v : ℕ) (f rest : List ℕ) (ys : List Lexeme) → IsToken Variable f rest → is_anonymous f ≡ false → find_name (variable_names v) f ≡ None
      → f ≡ variable_name v
      → EndsAs bytes (suc v) rest ys → EndsAs bytes v (f ++ rest) (variable_lexeme v ∷ ys)
  new_variable v f rest ys is named i j ends c h e =
      let b = behind_is v f rest c h e named None i in
      let names : c.names ++ (f, c.variables) ∷ [] ≡ variable_names (suc v) =
      ap (λ ns. ns ++ (f, c.variables) ∷ []) h.names ∙ (ap (λ n. variable_names v ++ (f, n) ∷ []) h.variables ∙ ap (λ g. variable_names v ++ (g, v) ∷ []) j) in
      a_token_first bytes Variable (suc v) c f rest _ ys e is (λ z. cc) (ap variable_lexeme (number_is v f rest c h e named None i ∙ h.variables))
      (subst (λ d. IsAt (suc v) d) (sym b)
      (at_next v (suc v) c (tight Variable c f) (c.names ++ (f, c.variables) ∷ []) (1 + c.variables) h refl names (omega (arith, h.variables))))
      (ap (λ (d : TokenContext). d.to) b) ends

  -- the text ends here
  nothing_left : (c : TokenContext) → drop c.to bytes ≡ [] → Ends bytes c []
  nothing_left c e = the_end (tight Eof c []) (found_here bytes Eof c [] [] e language.eof) refl

  two_more : (n : ℕ) → n + 1 + 1 ≡ n + 2
  two_more n = omega arith

  last_mark : (v : ℕ) → 2 < length bytes → (c : TokenContext) → IsAt v c → drop c.to bytes ≡ 32 ∷ 46 ∷ [] → (from to : ℕ)
      → clause_end_at c (record { kind = End; from = from; to = to }) ≡ record { names = variable_names v; place = 0 }
  last_mark v long c h e from to =
      let stop : Token = record { kind = End; from = from; to = to } in
      ap (λ ns. let m : ClauseEnd = record { names = ns; place = first_place c stop } in m) h.names ∙ ap
      (λ n. let m : ClauseEnd = record { names = variable_names v; place = n } in m) place
    where
      some : c.tokens ≢ 0
      some z = omega (arith, h.begun z, ap length e, length-drop c.to bytes)

      place : first_place c (record { kind = End; from = from; to = to }) ≡ 0
      place = elim (eqb_tells c.tokens 0) [ inl q ↦ absurd (some q.1) | inr q ↦ rw q.0 h.first ]

  -- a space and a full stop
  pub last_token_named : (v : ℕ) → 2 < length bytes → EndsAs bytes v (32 ∷ 46 ∷ []) (end (record { names = variable_names v; place = 0 }) ∷ [])
  last_token_named v long c h e =
      let stop : Token = record { kind = End; from = c.to + 1; to = c.to + 1 + 1 } in
      let here : HasToken bytes c.to stop =
      record { gap = 32 ∷ []; text = 46 ∷ []; rest = []; whole = e; before = layout refl no_gap; token = language.end refl; from = refl; to = refl } in
      let left : drop (c.to + 1 + 1) bytes ≡ [] = ap (λ n. drop n bytes) (two_more c.to) ∙ left_behind bytes c (32 ∷ 46 ∷ []) [] e in
      subst (λ y. Ends bytes c (y ∷ [])) (ap end (last_mark v long c h e (c.to + 1) (c.to + 1 + 1)))
      (one_more_token stop here (λ z. cc) (nothing_left (behind bytes c stop) left))
