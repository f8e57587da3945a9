-- One token of a text, and the tokens behind it up to the text's end.
use Rattle.std.specs.Prelude.{◌≡◌, ◌≢◌, ℕ, ◌+◌, ◌-◌, true, false, List, [], ◌∷◌, ◌++◌, length, take, drop}
use Rattle.std.proofs.Common.{inl, inr, refl, sym, ap, ◌∙◌, arith, subst}
use Rattle.std.proofs.Math.Seq.{drop-append_seam, take-append_seam}
use Rattle.std.proofs.lemmas.List.{drop-drop}
use Rattle.std.proofs.lemmas.Bool.{eq-eqb}
use Rattle.std.proofs.lemmas.Bool.Decides.{eqb_tells}
use Rattle.ml_token.specs.declared.tokens.Token.{Token}
use Rattle.ml_token.specs.declared.tokens.TokenKind.{TokenKind}
use Rattle.ml_token.specs.declared.tokens.TokenKind.TheVariants.{Name, Number, Eof}
use Rattle.ml_token.specs.Values.{text_of, number_of}
use Rattle.ml_token.specs.Number.{value_of}
use Rattle.ml_token.specs.Language.{HasToken, IsToken, no_gap}
use Rattle.ml_reader.specs.Lexemes.{Lexeme, name, number}
use Rattle.ml_reader.specs.Tokens.{TokenContext, is_tight, first_place, lexeme, behind_token, behind, Ends, one_more_token}
use Rattle.ml_round_trip.specs.ReadBack.{variable_names}

-- in the first clause of a text, that begins the text: the first variables stand before the next token
pub record IsAt (v : ℕ) (c : TokenContext) : Type 0 where
  pub names : c.names ≡ variable_names v
  pub variables : c.variables ≡ v
  pub first : c.first ≡ 0
  pub begun : c.tokens ≡ 0 → c.to ≡ 0

-- the token of these bytes that directly follows
abbrev pub tight : TokenKind → TokenContext → List ℕ → Token
tight kind c text = record { kind = kind; from = c.to; to = c.to + length text }

first_is : (v : ℕ) (c : TokenContext) (t : Token) → IsAt v c → t.from ≡ c.to → first_place c t ≡ 0
first_is v c t h e = elim (eqb_tells c.tokens 0) [ inl q ↦ rw q.0 (e ∙ h.begun q.1) | inr q ↦ rw q.0 h.first ]

-- behind a token that directly follows
pub at_next : (v w : ℕ) (c : TokenContext) (t : Token) (names : List (List ℕ × ℕ)) (variables : ℕ) → IsAt v c → t.from ≡ c.to → names ≡ variable_names w
    → variables ≡ w
    → IsAt w (behind_token c t names variables)
at_next v w c t names variables h e n m = record { names = n; variables = m; first = first_is v c t h e; begun = λ z. absurd (omega arith) }

module _ (bytes : List ℕ) where
  -- wherever the first variables stand before and these bytes behind, these tokens are left up to the end
  abbrev pub EndsAs : ℕ → List ℕ → List Lexeme → Type 0
  EndsAs v bs xs = (c : TokenContext) → IsAt v c → drop c.to bytes ≡ bs → Ends bytes c xs

  pub found_here : (kind : TokenKind) (c : TokenContext) (text rest : List ℕ) → drop c.to bytes ≡ text ++ rest → IsToken kind text rest
      → HasToken bytes c.to (tight kind c text)
  found_here kind c text rest e is =
      record { gap = []; text = text; rest = rest; whole = e; before = no_gap; token = is; from = omega arith; to = refl }

  pub left_behind : (c : TokenContext) (text rest : List ℕ) → drop c.to bytes ≡ text ++ rest → drop (c.to + length text) bytes ≡ rest
  left_behind c text rest e = sym (drop-drop (length text) c.to bytes) ∙ (ap (λ bs. drop (length text) bs) e ∙ drop-append_seam text rest)

  -- the bytes of a token
  pub text_is_there : (kind : TokenKind) (c : TokenContext) (text rest : List ℕ) → drop c.to bytes ≡ text ++ rest → text_of bytes (tight kind c text) ≡ text
  text_is_there kind c text rest e =
      let size : c.to + length text - c.to ≡ length text = omega arith in
      ap (λ n. take n (drop c.to bytes)) size ∙ (ap (λ bs. take (length text) bs) e ∙ take-append_seam text rest)

  -- a token and what is left behind it
  pub a_token_first : (kind : TokenKind) (w : ℕ) (c : TokenContext) (text rest : List ℕ) (x : Lexeme) (ys : List Lexeme) → drop c.to bytes ≡ text ++ rest
      → IsToken kind text rest → kind ≢ Eof
      → lexeme bytes c (tight kind c text) ≡ x → IsAt w (behind bytes c (tight kind c text)) → (behind bytes c (tight kind c text)).to ≡ c.to + length text
      → EndsAs w rest ys → Ends bytes c (x ∷ ys)
  a_token_first kind w c text rest x ys e is k l h to ends =
      subst (λ y. Ends bytes c (y ∷ ys)) l
      (one_more_token (tight kind c text) (found_here kind c text rest e is) k
      (ends (behind bytes c (tight kind c text)) h (ap (λ n. drop n bytes) to ∙ left_behind c text rest e)))

  pub bare_name : (v : ℕ) (text rest : List ℕ) (ys : List Lexeme) → IsToken Name text rest → EndsAs v rest ys → EndsAs v (text ++ rest) (name false text ∷ ys)
  bare_name v text rest ys is ends c h e =
      a_token_first Name v c text rest _ ys e is (λ z. cc) (ap (λ f. name false f) (text_is_there Name c text rest e))
      (at_next v v c (tight Name c text) c.names c.variables h refl h.names h.variables) refl ends

  is_tight_here : (kind : TokenKind) (c : TokenContext) (text : List ℕ) → is_tight c (tight kind c text) ≡ true
  is_tight_here kind c text = eq-eqb c.to c.to refl

  pub decimal_number : (v n : ℕ) (text rest : List ℕ) (ys : List Lexeme) → IsToken Number text rest → value_of text ≡ n → EndsAs v rest ys
      → EndsAs v (text ++ rest) (number true n ∷ ys)
  decimal_number v n text rest ys is m ends c h e =
      a_token_first Number v c text rest _ ys e is (λ z. cc)
      (ap (λ b. number b (number_of bytes (tight Number c text))) (is_tight_here Number c text)
      ∙ ap (λ k. number true k) (ap value_of (text_is_there Number c text rest e) ∙ m))
      (at_next v v c (tight Number c text) c.names c.variables h refl h.names h.variables) refl ends
