-- The values of a text's tokens are in range.
use Rattle.std.specs.Prelude.{◌≡◌, ℕ, ◌+◌, ◌-◌, ◌≤◌, ◌<◌, ◌^◌, Bool, true, false, ◌&&◌, if◌then◌else◌, IsTrue, nat_lt, List, [], ◌∷◌, ◌++◌, length, drop}
use Rattle.std.specs.Prelude.{Option, Some, None, unwrap_or}
use Rattle.std.specs.Str.{bytes_eq}
use Rattle.std.specs.List.{list_all}
use Rattle.std.proofs.Common.{refl, sym, subst, arith, true≢false}
use Rattle.std.proofs.lemmas.Bool.{lt-ltb, ltb-true}
use Rattle.ml_term.specs.Names.{is_name}
use Rattle.ml_token.specs.Values.{name_of, spelled_text, HasValue}
use Rattle.ml_token.specs.declared.tokens.Token.{Token}
use Rattle.ml_token.specs.declared.tokens.TokenKind.{TokenKind}
use Rattle.ml_token.specs.declared.tokens.TokenKind.TheVariants.{Name, QuotedName, Variable, Number, Punct, End, Eof}
use Rattle.ml_reader.specs.Lexemes.{Lexeme}
use Rattle.ml_reader.specs.Tokens.{TokenContext, lexeme_of, behind_kind, behind_variable, behind_named, is_tight, behind_token, variable_number, find_name}
use Rattle.ml_reader.specs.Tokens.{is_anonymous, text_start, Ends, the_end, one_more_token}
use Rattle.ml_reader.proofs.Parsing.TextBeginnings.{Stand, behind_to, first_sign_is}
use Rattle.ml_reader.proofs.Parsing.RunsWithinLimits.{IsGood, AreGood}

both : (a b : Bool) → IsTrue a → IsTrue b → IsTrue (a && b)
both true b e e' = e'
both false b e e' = absurd (true≢false (sym e))

first_of : (a b : Bool) → IsTrue (a && b) → IsTrue a
first_of true b e = refl
first_of false b e = absurd (true≢false (sym e))

second_of : (a b : Bool) → IsTrue (a && b) → IsTrue b
second_of true b e = e
second_of false b e = absurd (true≢false (sym e))

-- the numbers of names are below a limit
abbrev AreBelow : ℕ → List (List ℕ × ℕ) → Type 0
AreBelow v ns = IsTrue (list_all (λ n. nat_lt n.1 v) ns)

below_more : (v : ℕ) (ns : List (List ℕ × ℕ)) → AreBelow v ns → AreBelow (1 + v) ns
below_more v [] h = refl
below_more v (n ∷ ns) h =
    both (nat_lt n.1 (1 + v)) _ (lt-ltb n.1 (1 + v) (let l = ltb-true n.1 v (first_of (nat_lt n.1 v) _ h) in omega arith))
    (below_more v ns (second_of (nat_lt n.1 v) _ h))

below_end : (v : ℕ) (f : List ℕ) (ns : List (List ℕ × ℕ)) → AreBelow v ns → AreBelow (1 + v) (ns ++ (f, v) ∷ [])
below_end v f [] h = both (nat_lt v (1 + v)) true (lt-ltb v (1 + v) (omega arith)) refl
below_end v f (n ∷ ns) h =
    both (nat_lt n.1 (1 + v)) _ (lt-ltb n.1 (1 + v) (let l = ltb-true n.1 v (first_of (nat_lt n.1 v) _ h) in omega arith))
    (below_end v f ns (second_of (nat_lt n.1 v) _ h))

found_below : (v : ℕ) (ns : List (List ℕ × ℕ)) (f : List ℕ) → AreBelow v ns → unwrap_or (find_name ns f) v ≤ v
found_below v [] f h = omega arith
found_below v (n ∷ ns) f h = go (bytes_eq n.0 f) (found_below v ns f (second_of (nat_lt n.1 v) _ h))
  where
    go : (k : Bool) → unwrap_or (find_name ns f) v ≤ v → unwrap_or (if k then Some n.1 else find_name ns f) v ≤ v
    go true r = let l = ltb-true n.1 v (first_of (nat_lt n.1 v) _ h) in omega arith
    go false r = r

-- variables' numbers are no more than the bytes
record Bounded (c : TokenContext) : Type 0 where
  variables : c.variables ≤ c.to
  names : AreBelow c.variables c.names

number_below : (c : TokenContext) (f : List ℕ) → Bounded c → variable_number c f ≤ c.variables
number_below c f b = go (is_anonymous f)
  where
    go : (k : Bool) → (if k then c.variables else unwrap_or (find_name c.names f) c.variables) ≤ c.variables
    go true = omega arith
    go false = found_below c.variables c.names f b.names

bounded_variable : (c : TokenContext) (f : List ℕ) (t : Token) → Bounded c → c.to < t.to → Bounded (behind_variable f c t)
bounded_variable c f t b l = go (is_anonymous f) (find_name c.names f)
  where
    go : (k : Bool) (i : Option ℕ) → Bounded (if k then behind_token c t c.names (1 + c.variables) else behind_named i f c t)
    go true i = let v = b.variables in record { variables = omega arith; names = below_more c.variables c.names b.names }
    go false (Some n) = let v = b.variables in record { variables = omega arith; names = b.names }
    go false None = let v = b.variables in record { variables = omega arith; names = below_end c.variables f c.names b.names }

module _ (bytes : List ℕ) (stand : Stand bytes) (short : length bytes < 2 ^ 32) where
  bounded_kind : (k : TokenKind) (c : TokenContext) (t : Token) → Bounded c → c.to < t.to → Bounded (behind_kind k bytes c t)
  bounded_kind Name c t b l = let v = b.variables in record { variables = omega arith; names = b.names }
  bounded_kind QuotedName c t b l = let v = b.variables in record { variables = omega arith; names = b.names }
  bounded_kind Variable c t b l = bounded_variable c (name_of bytes t) t b l
  bounded_kind Number c t b l = let v = b.variables in record { variables = omega arith; names = b.names }
  bounded_kind Punct c t b l = let v = b.variables in record { variables = omega arith; names = b.names }
  bounded_kind End c t b l = record { variables = omega arith; names = refl }
  bounded_kind Eof c t b l = let v = b.variables in record { variables = omega arith; names = b.names }

  good_kind : (k : TokenKind) (c : TokenContext) (t : Token) → t.kind ≡ k → HasValue k (drop t.from bytes) (t.to - t.from) → Bounded c → c.to ≤ length bytes
      → IsGood (lexeme_of k bytes c t)
  good_kind Name c t e v b l = subst (λ k. IsTrue (is_name (spelled_text k (drop t.from bytes) (t.to - t.from)))) (sym e) v
  good_kind QuotedName c t e v b l = subst (λ k. IsTrue (is_name (spelled_text k (drop t.from bytes) (t.to - t.from)))) (sym e) v
  good_kind Variable c t e v b l = let n = number_below c (name_of bytes t) b in let m = b.variables in omega arith
  good_kind Number c t e v b l = v
  good_kind Punct c t e v b l = first_sign_is IsGood (is_tight c t) (drop t.from bytes) tt tt tt tt tt tt tt tt
  good_kind End c t e v b l = tt
  good_kind Eof c t e v b l = tt

  good_from : {c : TokenContext} {xs : List Lexeme} → Ends bytes c xs → Bounded c → c.to ≤ length bytes → AreGood xs
  good_from (the_end t h k) b l = tt
  good_from {c} (one_more_token t h k ds) b l =
      let s = stand.token c.to t l h in
      let w = s.within in
      let o = s.some k in
      let a = s.behind in
      let e = behind_to bytes c t k in
      (good_kind t.kind c t refl s.value b l, good_from ds (bounded_kind t.kind c t b (omega arith)) (omega arith))

  -- the tokens of a text have values in range
  pub good_text : {xs : List Lexeme} → Ends bytes text_start xs → AreGood xs
  good_text ds = good_from ds (record { variables = omega arith; names = refl }) (omega arith)
