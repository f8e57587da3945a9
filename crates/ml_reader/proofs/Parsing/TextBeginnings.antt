-- Of two beginnings of a text one goes on where the other ends, or they are the same; and what a token leaves behind it.
use Rattle.std.specs.Prelude.{◌≡◌, ◌≢◌, ℕ, ◌+◌, ◌≤◌, ◌<◌, Bool, true, false, ◌==◌, if◌then◌else◌, List, [], ◌∷◌, ◌++◌, length, drop, Option, Some, None, Result}
use Rattle.std.specs.Prelude.{Ok, Err}
use Rattle.std.proofs.Common.{refl, sym, ap, ◌∙◌, subst, arith}
use Rattle.ml_token.specs.Language.{HasToken, HasFault as HasTokenFault}
use Rattle.ml_token.proofs.ScannerComplete.{token-only, fault-only}
use Rattle.ml_token.specs.Values.{name_of, StandsIn}
use Rattle.ml_token.specs.declared.tokens.Token.{Token}
use Rattle.ml_token.specs.declared.tokens.TokenFault.{TokenFault}
use Rattle.ml_token.specs.declared.tokens.TokenKind.{TokenKind}
use Rattle.ml_token.specs.declared.tokens.TokenKind.TheVariants.{Name, QuotedName, Variable, Number, Punct, End, Eof}
use Rattle.ml_reader.specs.Lexemes.{Lexeme, open_paren, close_paren, open_list, close_list, open_curly, close_curly, head_tail_separator, comma, end}
use Rattle.ml_reader.specs.Tokens.{TokenContext, lexeme, lexeme_of, behind, behind_kind, behind_variable, behind_named, find_name, is_anonymous, sign}
use Rattle.ml_reader.specs.Tokens.{first_sign, GoesOn, no_token, a_token}
use Rattle.ml_reader.specs.Faults.{IsNext}

-- tokens and faults stand in the bytes
pub record Stand (bytes : List ℕ) : Type 0 where
  pub token : (at : ℕ) (t : Token) → at ≤ length bytes → HasToken bytes at t → StandsIn bytes at t
  pub fault : (at : ℕ) (f : TokenFault) → at ≤ length bytes → HasTokenFault bytes at f → (at ≤ f.place) × (f.place < length bytes)

-- by the law of tokens
pub stand_by : ((bytes : List ℕ) (at : ℕ) (t : Token) → at ≤ length bytes → HasToken bytes at t → StandsIn bytes at t)
    → ((bytes : List ℕ) (at : ℕ) (f : TokenFault) → at ≤ length bytes → HasTokenFault bytes at f → (at ≤ f.place) × (f.place < length bytes)) → (bytes : List ℕ)
    → Stand bytes
stand_by token fault bytes = record { token = token bytes; fault = fault bytes }

abbrev token_found : Token → Result Token TokenFault
token_found t = Ok t

abbrev fault_found : TokenFault → Result Token TokenFault
fault_found e = Err e

ok_same : {t u : Token} → token_found t ≡ token_found u → t ≡ u
ok_same e = cc

err_same : {e f : TokenFault} → fault_found e ≡ fault_found f → e ≡ f
err_same e = cc

never_both : {t : Token} {e : TokenFault} → token_found t ≡ fault_found e → ⊥
never_both e = cc

-- one token at most stands from a place on
pub same_token : {bytes : List ℕ} {at : ℕ} {t u : Token} → HasToken bytes at t → HasToken bytes at u → t ≡ u
same_token {bytes} {at} {t} {u} h k = ok_same (sym (token-only bytes at t h) ∙ token-only bytes at u k)

-- and one fault at most
pub same_first_fault : {bytes : List ℕ} {at : ℕ} {e f : TokenFault} → HasTokenFault bytes at e → HasTokenFault bytes at f → e ≡ f
same_first_fault {bytes} {at} {e} {f} h k = err_same (sym (fault-only bytes at e h) ∙ fault-only bytes at f k)

-- but no token where a fault stands
pub not_found : {bytes : List ℕ} {at : ℕ} {t : Token} {e : TokenFault} → HasToken bytes at t → HasTokenFault bytes at e → ⊥
not_found {bytes} {at} {t} {e} h k = never_both (sym (token-only bytes at t h) ∙ fault-only bytes at e k)

pub next_is : {bytes : List ℕ} {c : TokenContext} {t u : Token} → IsNext bytes c t → HasToken bytes c.to u → t ≡ u
next_is n e = same_token n.found e

pub not_eof : {bytes : List ℕ} {c : TokenContext} {t u : Token} → IsNext bytes c t → HasToken bytes c.to u → u.kind ≡ Eof → ⊥
not_eof n e k = n.some (ap (λ t. t.kind) (next_is n e) ∙ k)

-- what holds of both choices holds of the chosen one
pub if_either : {A : Type 0} (P : A → Type 0) (k : Bool) (x y : A) → P x → P y → P (if k then x else y)
if_either P true x y p q = p
if_either P false x y p q = q

-- what a token leaves behind it: where it ended, its place, and one more token, or none behind an end
record Left (t : Token) (n : ℕ) (d : TokenContext) : Type 0 where
  to : d.to ≡ t.to
  last : d.last ≡ t.from
  tokens : d.tokens ≡ n

left_named : (i : Option ℕ) (f : List ℕ) (c : TokenContext) (t : Token) → Left t (1 + c.tokens) (behind_named i f c t)
left_named (Some n) f c t = record { to = refl; last = refl; tokens = refl }
left_named None f c t = record { to = refl; last = refl; tokens = refl }

left_variable : (f : List ℕ) (c : TokenContext) (t : Token) → Left t (1 + c.tokens) (behind_variable f c t)
left_variable f c t =
    if_either (λ d. Left t (1 + c.tokens) d) (is_anonymous f) _ _ (record { to = refl; last = refl; tokens = refl }) (left_named (find_name c.names f) f c t)

-- how many tokens of the last clause there are, so many standing before these
abbrev pub count : ℕ → List Lexeme → ℕ
count k [] = k
count k (end m ∷ xs) = count 0 xs
count k (x ∷ xs) = count (1 + k) xs

-- a sign is one of these
pub sign_is : (P : Lexeme → Type 0) (k : Bool) (b : ℕ) → P (open_paren k) → P close_paren → P open_list → P close_list → P open_curly → P close_curly → P comma
    → P head_tail_separator → P (sign k b)
sign_is P k b p1 p2 p3 p4 p5 p6 p7 p8 =
    if_either P (b == 40) _ _ p1 (if_either P (b == 41) _ _ p2 (if_either P (b == 91) _ _ p3 (if_either P (b == 93) _ _ p4
    (if_either P (b == 123) _ _ p5 (if_either P (b == 125) _ _ p6 (if_either P (b == 44) _ _ p7 p8))))))

pub first_sign_is : (P : Lexeme → Type 0) (k : Bool) (bs : List ℕ) → P (open_paren k) → P close_paren → P open_list → P close_list → P open_curly
    → P close_curly → P comma → P head_tail_separator → P (first_sign k bs)
first_sign_is P k [] p1 p2 p3 p4 p5 p6 p7 p8 = p8
first_sign_is P k (b ∷ bs) p1 p2 p3 p4 p5 p6 p7 p8 = sign_is P k b p1 p2 p3 p4 p5 p6 p7 p8

module _ (bytes : List ℕ) (c : TokenContext) (t : Token) where
  left_kind : (k : TokenKind) → k ≢ Eof → Left t (count c.tokens (lexeme_of k bytes c t ∷ [])) (behind_kind k bytes c t)
  left_kind Name n = record { to = refl; last = refl; tokens = refl }
  left_kind QuotedName n = record { to = refl; last = refl; tokens = refl }
  left_kind Variable n = left_variable (name_of bytes t) c t
  left_kind Number n = record { to = refl; last = refl; tokens = refl }
  left_kind Punct n = record {
    to = refl;
    last = refl;
    tokens = first_sign_is (λ x. 1 + c.tokens ≡ count c.tokens (x ∷ [])) (t.from == c.to) (drop t.from bytes) refl refl refl refl refl refl refl refl;
  }
  left_kind End n = record { to = refl; last = refl; tokens = refl }
  left_kind Eof n = absurd (n refl)

  left : t.kind ≢ Eof → Left t (count c.tokens (lexeme bytes c t ∷ [])) (behind bytes c t)
  left n = left_kind t.kind n

  pub behind_to : t.kind ≢ Eof → (behind bytes c t).to ≡ t.to
  behind_to n = (left n).to

  pub behind_last : t.kind ≢ Eof → (behind bytes c t).last ≡ t.from
  behind_last n = (left n).last

  pub behind_tokens : t.kind ≢ Eof → (behind bytes c t).tokens ≡ count c.tokens (lexeme bytes c t ∷ [])
  behind_tokens n = (left n).tokens

module _ (bytes : List ℕ) where
  -- of two beginnings of a text one goes on where the other ends, or they are the same
  pub data Along (xs : List Lexeme) (c : TokenContext) (ys : List Lexeme) (d : TokenContext) : Type 0 where
    same : xs ≡ ys → c ≡ d → Along xs c ys d
    longer : (zs : List Lexeme) (t : Token) → IsNext bytes c t → ys ≡ (xs ++ lexeme bytes c t ∷ []) ++ zs → GoesOn bytes (behind bytes c t) zs d
        → Along xs c ys d
    shorter : (zs : List Lexeme) (t : Token) → IsNext bytes d t → xs ≡ (ys ++ lexeme bytes d t ∷ []) ++ zs → GoesOn bytes (behind bytes d t) zs c
        → Along xs c ys d

  one_ahead : {xs ys : List Lexeme} {c d : TokenContext} (x : Lexeme) → Along xs c ys d → Along (x ∷ xs) c (x ∷ ys) d
  one_ahead x (same e i) = same (ap (λ l. x ∷ l) e) i
  one_ahead x (longer zs t n w g) = longer zs t n (ap (λ l. x ∷ l) w) g
  one_ahead x (shorter zs t n w g) = shorter zs t n (ap (λ l. x ∷ l) w) g

  pub along : {b c d : TokenContext} {xs ys : List Lexeme} → GoesOn bytes b xs c → GoesOn bytes b ys d → Along xs c ys d
  along no_token no_token = same refl refl
  along no_token (a_token {xs = ys} t e k ds) = longer ys t (record { found = e; some = k }) refl ds
  along (a_token {xs = xs} t e k ds) no_token = shorter xs t (record { found = e; some = k }) refl ds
  along {b} {c} {d} (a_token {xs = xs} t e k ds) (a_token {xs = ys} u f l es) =
      let i = same_token e f in
      subst (λ u. Along (lexeme bytes b t ∷ xs) c (lexeme bytes b u ∷ ys) d) i
      (one_ahead (lexeme bytes b t) (along ds (subst (λ u. GoesOn bytes (behind bytes b u) ys d) (sym i) es)))

  -- one token more
  pub goes_further : {c d : TokenContext} {xs : List Lexeme} (t : Token) → GoesOn bytes c xs d → IsNext bytes d t
      → GoesOn bytes c (xs ++ lexeme bytes d t ∷ []) (behind bytes d t)
  goes_further t no_token n = a_token t n.found n.some no_token
  goes_further t (a_token u f l ds) n = a_token u f l (goes_further t ds n)

  -- a text's beginning stands in the text
  pub goes_up : {c d : TokenContext} {xs : List Lexeme} → Stand bytes → GoesOn bytes c xs d → c.to ≤ length bytes → (c.to ≤ d.to) × (d.to ≤ length bytes)
  goes_up s no_token l = (omega arith, l)
  goes_up {c} s (a_token t e k ds) l =
      let a = s.token c.to t l e in
      let b = a.behind in
      let o = a.ordered in
      let w = a.within in
      let i = behind_to bytes c t k in
      let h = goes_up s ds (omega arith) in
      (omega (arith, h.0), h.1)

  count_first : (k : ℕ) (x : Lexeme) (xs : List Lexeme) → count k (x ∷ xs) ≡ count (count k (x ∷ [])) xs
  count_first k (end m) xs = refl
  count_first k x xs = refl

  -- the count of tokens is that of the text
  pub counted : {c d : TokenContext} {xs : List Lexeme} → GoesOn bytes c xs d → count c.tokens xs ≡ d.tokens
  counted no_token = refl
  counted {c} (a_token {xs = xs} t e k ds) = count_first c.tokens (lexeme bytes c t) xs ∙ (ap (λ n. count n xs) (sym (behind_tokens bytes c t k)) ∙ counted ds)

  -- the last token of a beginning
  pub record Last (b : TokenContext) (xs : List Lexeme) (d : TokenContext) : Type 0 where
    pub front : List Lexeme
    pub context : TokenContext
    pub token : Token
    pub before : GoesOn bytes b front context
    pub next : IsNext bytes context token
    pub whole : xs ≡ front ++ lexeme bytes context token ∷ []
    pub behind_it : d ≡ behind bytes context token

  pub last_token : {b d : TokenContext} {x : Lexeme} {xs : List Lexeme} → GoesOn bytes b (x ∷ xs) d → Last b (x ∷ xs) d
  last_token {b} (a_token t e k no_token) =
      record { front = []; context = b; token = t; before = no_token; next = record { found = e; some = k }; whole = refl; behind_it = refl }
  last_token {b} (a_token t e k (a_token u f l ds)) =
      let h = last_token (a_token u f l ds) in
      record {
        front = lexeme bytes b t ∷ h.front;
        context = h.context;
        token = h.token;
        before = a_token t e k h.before;
        next = h.next;
        whole = ap (λ l. lexeme bytes b t ∷ l) h.whole;
        behind_it = h.behind_it;
      }

  -- no token leads nowhere, and some tokens begin with the next one
  pub goes_nowhere : {b d : TokenContext} → GoesOn bytes b [] d → b ≡ d
  goes_nowhere no_token = refl

  pub record FirstOfThem (b : TokenContext) (x : Lexeme) : Type 0 where
    pub token : Token
    pub next : IsNext bytes b token
    pub is : x ≡ lexeme bytes b token

  pub first_of_them : {b d : TokenContext} {x : Lexeme} {xs : List Lexeme} → GoesOn bytes b (x ∷ xs) d → FirstOfThem b x
  first_of_them (a_token t e k ds) = record { token = t; next = record { found = e; some = k }; is = refl }
