-- What a token's text spells is the name that is read from it.
use Rattle.std.proofs.Common.{◌≡◌, ◌≢◌, ℕ, ◌-◌, List, [], ◌∷◌, ◌++◌, length, take, drop, sym, ap, ◌∙◌, arith, subst, append_assoc, Result, Ok, Err, IfOk}
use Rattle.std.proofs.Math.Seq.{drop-append_seam, take-append_seam}
use Rattle.std.proofs.lemmas.List.{drop-drop}
use Rattle.ml_token.specs.declared.quoted.Ending.TheVariants.{Closed}
use Rattle.ml_token.specs.declared.tokens.Token.{Token}
use Rattle.ml_token.specs.declared.tokens.TokenFault.{TokenFault}
use Rattle.ml_token.specs.declared.tokens.TokenKind.{TokenKind}
use Rattle.ml_token.specs.declared.tokens.TokenKind.TheVariants.{Name, QuotedName, Variable, Number, Punct, End, Eof}
use Rattle.ml_token.specs.Quoted.{Inside, inside}
use Rattle.ml_token.specs.Language as language
use Rattle.ml_token.specs.Language.{IsToken, HasToken, SpellsName, bare, between_quotes}
use Rattle.ml_token.specs.inside.Tokens.{first_token}
use Rattle.ml_token.specs.Values.{spelled_text, text_of, name_of}
use Rattle.ml_token.proofs.ScannerComplete.{inside-ends, quote-closed}
use Rattle.ml_token.proofs.ScannerTotal.{token-found}

bare-spelled : (kind : TokenKind) (text rest : List ℕ) → kind ≢ QuotedName → SpellsName kind text (take (length text) (text ++ rest))
bare-spelled kind text rest other = subst (λ (xs : List ℕ). SpellsName kind text xs) (sym (take-append_seam text rest)) (bare other)

token-spelled : {kind : TokenKind} {text rest : List ℕ} → IsToken kind text rest → SpellsName kind text (spelled_text kind (text ++ rest) (length text))
token-spelled {rest = rest} (language.small_name {b = b} {text = text} is run short) = bare-spelled Name (b ∷ text) rest (λ is. cc)
token-spelled {rest = rest} (language.symbol_name {b = b} {text = text} is run end comment short) = bare-spelled Name (b ∷ text) rest (λ is. cc)
token-spelled {rest = rest} (language.solo_name {b = b} is) = bare-spelled Name (b ∷ []) rest (λ is. cc)
token-spelled {rest = rest} (language.quoted_name text name spells short stops) =
    let same : (inside 0 ((text ++ 39 ∷ []) ++ rest)).name ≡ name =
    ap (λ (xs : List ℕ). (inside 0 xs).name) (append_assoc text (39 ∷ []) rest)
    ∙ ap (λ (q : Inside). q.name) (inside-ends (39 ∷ rest) Closed spells (quote-closed rest stops)) in
    subst (λ (xs : List ℕ). SpellsName QuotedName (39 ∷ (text ++ 39 ∷ [])) xs) (sym same) (between_quotes spells)
token-spelled {rest = rest} (language.variable {b = b} {text = text} is run short) = bare-spelled Variable (b ∷ text) rest (λ is. cc)
token-spelled {rest = rest} (language.number {b = b} {text = text} is run small) = bare-spelled Number (b ∷ text) rest (λ is. cc)
token-spelled {rest = rest} (language.punct {b = b} is) = bare-spelled Punct (b ∷ []) rest (λ is. cc)
token-spelled {rest = rest} (language.end is) = bare-spelled End (46 ∷ []) rest (λ is. cc)
token-spelled language.eof = bare-spelled Eof [] [] (λ is. cc)

-- the bytes from the token on
from-token : (bytes : List ℕ) (at : ℕ) (t : Token) (has : HasToken bytes at t) → drop t.from bytes ≡ has.text ++ has.rest
from-token bytes at t has =
    ap (λ (n : ℕ). drop n bytes) has.from ∙ sym (drop-drop (length has.gap) at bytes)
    ∙ ap (λ (xs : List ℕ). drop (length has.gap) xs) has.whole ∙ drop-append_seam has.gap (has.text ++ has.rest)

name-spelled : (bytes : List ℕ) (at : ℕ) (t : Token) → HasToken bytes at t → SpellsName t.kind (text_of bytes t) (name_of bytes t)
name-spelled bytes at t has =
    let bytes_from : drop t.from bytes ≡ has.text ++ has.rest = from-token bytes at t has in
    let size : t.to - t.from ≡ length has.text = omega (arith, has.to) in
    let text : text_of bytes t ≡ has.text =
    ap (λ (n : ℕ). take n (drop t.from bytes)) size ∙ ap (λ (xs : List ℕ). take (length has.text) xs) bytes_from ∙ take-append_seam has.text has.rest in
    let name : name_of bytes t ≡ spelled_text t.kind (has.text ++ has.rest) (length has.text) =
    ap (λ (n : ℕ). spelled_text t.kind (drop t.from bytes) n) size ∙ ap (λ (xs : List ℕ). spelled_text t.kind xs (length has.text)) bytes_from in
    subst (λ (xs : List ℕ). SpellsName t.kind xs (name_of bytes t)) (sym text)
    (subst (λ (xs : List ℕ). SpellsName t.kind has.text xs) (sym name) (token-spelled has.token))

-- the name of the token that is found
pub found-spelled : (bytes : List ℕ) (at : ℕ) (r : Result Token TokenFault) → r ≡ first_token bytes at
    → IfOk r (λ t. SpellsName t.kind (text_of bytes t) (name_of bytes t))
found-spelled bytes at (Ok t) is = name-spelled bytes at t (token-found bytes at t (sym is))
found-spelled bytes at (Err f) is = tt
