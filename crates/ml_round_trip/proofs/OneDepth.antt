-- However the tokens of canonical text are derived, the same tokens are left and the same levels are open.
use Rattle.std.specs.Prelude.{◌≡◌, ℕ, ◌+◌, max, ◌⊎◌, Bool, true, false, not, IsTrue, List, [], ◌∷◌, Some, None, codes}
use Rattle.std.proofs.Common.{inl, inr, refl, sym, ap, ◌∙◌, subst, arith}
use Rattle.ml_term.specs.Tree.{Tree, Trees}
use Rattle.ml_reader.specs.Lexemes.{ClauseEnd, ReadClause, Lexeme, name, variable_lexeme, number, open_paren, close_paren, open_list, close_list, open_curly}
use Rattle.ml_reader.specs.Lexemes.{head_tail_separator, comma, end}
use Rattle.ml_reader.specs.Operators.{Operator, infix_at, closes}
use Rattle.ml_reader.specs.Grammar as G
use Rattle.ml_reader.specs.Grammar.{Word, plain, brackets, curlies, AtomBefore, joins, Derives, a_negative, in_braces, an_atom, a_compound, in_parens, a_list}
use Rattle.ml_reader.specs.Grammar.{a_prefix, an_infix, Arguments, last_argument, argument, Elements, last_element, before_bar, element, IsText, no_clause}
use Rattle.ml_reader.specs.Grammar.{a_clause}
use Rattle.ml_reader.proofs.Parsing.TokensAfterOperands.{Begins, begins, elements_begin}
use Rattle.ml_reader.specs.Levels.{levels_of_name, most_levels, most_levels_of_arguments, most_levels_of_elements, most_levels_of_text}
use Rattle.ml_round_trip.proofs.ShownTrees as S
use Rattle.ml_round_trip.proofs.ShownTrees.{NameShown, one_token, two_brackets, two_braces, Shown, a_variable, a_number, a_name, a_call, list_in_brackets}
use Rattle.ml_round_trip.proofs.ShownTrees.{ArgumentsShown, the_last, one_more, ElementsShown, no_more, a_tail, one_element}

-- a token that closes, and is no operator, stands first
abbrev pub EndsFirst : Bool → List Lexeme → Type 0
EndsFirst c [] = ⊥
EndsFirst c (y ∷ ys) = (closes y ≡ true) × (infix_at c y ≡ None)

-- what may stand behind an operand: a token that closes, or an infix operator
abbrev Follows : Bool → List Lexeme → Type 0
Follows c [] = ⊥
Follows c (y ∷ ys) = (closes y ≡ true) ⊎ ((o : Operator) × (infix_at c y ≡ Some o))

-- the same tokens are left
record Same (zs ys : List Lexeme) (m n : ℕ) : Type 0 where
  left : zs ≡ ys
  depth : m ≡ n

no_paren : (c k : Bool) (ys zs : List Lexeme) → zs ≡ open_paren k ∷ ys → Follows c zs → ⊥
no_paren c k ys zs e h = go (subst (Follows c) e h)
  where
    go : Follows c (open_paren k ∷ ys) → ⊥
    go (inl e) = cc
    go (inr o) = grind (arith, o.1)

no_number : (c k : Bool) (n : ℕ) (ys zs : List Lexeme) → zs ≡ number k n ∷ ys → Follows c zs → ⊥
no_number c k n ys zs e h = go (subst (Follows c) e h)
  where
    go : Follows c (number k n ∷ ys) → ⊥
    go (inl e) = cc
    go (inr o) = grind (arith, o.1)

no_infix : (c : Bool) (y : Lexeme) (zs ys : List Lexeme) (o : Operator) → infix_at c y ≡ Some o → y ∷ zs ≡ ys → EndsFirst c ys → ⊥
no_infix c y zs [] o e q h = absurd h
no_infix c y zs (x ∷ ys) o e q h = let same : y ≡ x = cc in let none : infix_at c y ≡ None = ap (infix_at c) same ∙ h.1 in cc

ends_begin : (c : Bool) (ys : List Lexeme) → EndsFirst c ys → Begins ys → ⊥
ends_begin c [] h b = h
ends_begin c (y ∷ ys) h b = cc

abbrev begins_name : Lexeme → Bool
begins_name (name q f) = true
begins_name open_list = true
begins_name open_curly = true
begins_name x = false

-- a name is a word in one way
one_word : {xs ys zs : List Lexeme} {f g : List ℕ} {n : ℕ} {m : Bool} → NameShown xs ys f n → (w : Word xs zs m g) → Same zs ys (levels_of_name w) n
one_word one_token plain = record { left = refl; depth = refl }
one_word two_brackets brackets = record { left = refl; depth = refl }
one_word two_braces curlies = record { left = refl; depth = refl }

-- so is the bare minus
one_minus : {xs zs : List Lexeme} {g : List ℕ} {m : Bool} → Word (name false (codes "-") ∷ xs) zs m g → (zs ≡ xs) × (m ≡ true)
one_minus plain = (refl, refl)

-- no variable, number or parenthesis begins a name
no_name : {x : Lexeme} {xs ys : List Lexeme} {f : List ℕ} {n : ℕ} → begins_name x ≡ false → NameShown (x ∷ xs) ys f n → ⊥
no_name e one_token = cc
no_name e two_brackets = cc
no_name e two_braces = cc

no_word : {x : Lexeme} {xs ys : List Lexeme} {f : List ℕ} {m : Bool} → begins_name x ≡ false → Word (x ∷ xs) ys m f → ⊥
no_word e plain = cc
no_word e brackets = cc
no_word e curlies = cc

-- what is written of a term doesn't begin with a token that closes
name_begins : {xs ys : List Lexeme} {f : List ℕ} {n : ℕ} → NameShown xs ys f n → Begins xs
name_begins one_token = refl
name_begins two_brackets = refl
name_begins two_braces = refl

shown_begins : {xs ys : List Lexeme} {t : Tree} {n : ℕ} → Shown xs ys t n → Begins xs
shown_begins a_variable = refl
shown_begins a_number = refl
shown_begins S.a_negative = refl
shown_begins (a_name s) = name_begins s
shown_begins (a_call s ss) = name_begins s
shown_begins (list_in_brackets ss) = refl

elements_shown_begin : {xs ys : List Lexeme} {t : Tree} {n : ℕ} → ElementsShown xs ys t n → Begins xs
elements_shown_begin (no_more s) = shown_begins s
elements_shown_begin (a_tail s r) = shown_begins s
elements_shown_begin (one_element s ss) = shown_begins s

-- the bracket of a list isn't followed by its closing one
no_empty : {xs ys zs : List Lexeme} {t : Tree} {n : ℕ} {f : List ℕ} {m : Bool} → ElementsShown xs ys t n → Word (open_list ∷ xs) zs m f → ⊥
no_empty ss brackets = let h = elements_shown_begin ss in cc

-- what each derivation is, by what is written
at_variable : {n k : ℕ} {zs ys : List Lexeme} {t : Tree} → Shown (variable_lexeme n ∷ zs) ys t k → Same zs ys 0 k
at_variable a_variable = record { left = refl; depth = refl }
at_variable (a_name s) = absurd (no_name refl s)
at_variable (a_call s ss) = absurd (no_name refl s)

at_number : {b : Bool} {n k : ℕ} {zs ys : List Lexeme} {t : Tree} → Shown (number b n ∷ zs) ys t k → Same zs ys 0 k
at_number a_number = record { left = refl; depth = refl }
at_number (a_name s) = absurd (no_name refl s)
at_number (a_call s ss) = absurd (no_name refl s)

number_first : (c b : Bool) (n : ℕ) (zs ys : List Lexeme) → number b n ∷ zs ≡ ys → EndsFirst c ys → ⊥
number_first c b n zs ys e h = let g : EndsFirst c (number b n ∷ zs) = subst (EndsFirst c) (sym e) h in cc (g.0)

paren_first : (c b : Bool) (zs ys : List Lexeme) → open_paren b ∷ zs ≡ ys → EndsFirst c ys → ⊥
paren_first c b zs ys e h = let g : EndsFirst c (open_paren b ∷ zs) = subst (EndsFirst c) (sym e) h in cc (g.0)

at_negative : (c : Bool) {xs ys zs : List Lexeme} {t : Tree} {n k : ℕ} {f : List ℕ} → Shown xs ys t k → Word xs (number true n ∷ zs) true f → EndsFirst c ys
    → Same zs ys 0 k
at_negative c a_variable w h = absurd (no_word refl w)
at_negative c a_number w h = absurd (no_word refl w)
at_negative c S.a_negative w h = let e = (one_minus w).0 in record { left = cc; depth = refl }
at_negative c (a_name s) w h = absurd (number_first c _ _ _ _ (one_word s w).left h)
at_negative c (a_call s ss) w h = absurd (let e = (one_word s w).left in cc)
at_negative c (list_in_brackets ss) w h = absurd (no_empty ss w)

at_brace : {xs ys : List Lexeme} {t : Tree} {k : ℕ} → Shown (open_curly ∷ xs) ys t k → Begins xs → ⊥
at_brace (a_name two_braces) b = cc
at_brace (a_call two_braces ss) b = cc

at_paren : {b : Bool} {xs ys : List Lexeme} {t : Tree} {k : ℕ} → Shown (open_paren b ∷ xs) ys t k → ⊥
at_paren (a_name s) = no_name refl s
at_paren (a_call s ss) = no_name refl s

at_atom : (c : Bool) {xs ys zs : List Lexeme} {t : Tree} {k : ℕ} {f : List ℕ} {m : Bool} → Shown xs ys t k → (w : Word xs zs m f) → Follows c zs
    → Same zs ys (levels_of_name w) k
at_atom c a_variable w h = absurd (no_word refl w)
at_atom c a_number w h = absurd (no_word refl w)
at_atom c S.a_negative w h = absurd (no_number c _ _ _ _ (one_minus w).0 h)
at_atom c (a_name s) w h = one_word s w
at_atom c (a_call s ss) w h = absurd (no_paren c _ _ _ (one_word s w).left h)
at_atom c (list_in_brackets ss) w h = absurd (no_empty ss w)

tails_same : (x : Lexeme) (xs ys : List Lexeme) → x ∷ xs ≡ x ∷ ys → xs ≡ ys
tails_same x xs ys e = cc

at_compound : (c : Bool) {xs ys zs vs : List Lexeme} {t : Tree} {k : ℕ} {f : List ℕ} {m : Bool} (depth : ℕ) → Shown xs ys t k
    → Word xs (open_paren true ∷ zs) m f
    → EndsFirst c ys
    → ((ts : Trees) (n : ℕ) → ArgumentsShown zs ys ts n → Same vs ys depth n) → Same vs ys (1 + depth) k
at_compound c depth a_variable w h r = absurd (no_word refl w)
at_compound c depth a_number w h r = absurd (no_word refl w)
at_compound c depth S.a_negative w h r = absurd (let e = (one_minus w).0 in cc)
at_compound c depth (a_name s) w h r = absurd (paren_first c _ _ _ (one_word s w).left h)
at_compound c {zs = zs} {vs = vs} depth (a_call {ys = ys} {zs = us} {ts = ts} {n = n} s ss) w h r =
    let e : zs ≡ ys = tails_same (open_paren true) _ _ (one_word s w).left in
    let d : Same vs us depth n = r ts n (subst (λ l. ArgumentsShown l us ts n) (sym e) ss) in
    record { left = d.left; depth = ap (λ n. 1 + n) d.depth }
at_compound c depth (list_in_brackets ss) w h r = absurd (no_empty ss w)

at_list : {xs ys vs : List Lexeme} {t : Tree} {k : ℕ} (depth : ℕ) → Shown (open_list ∷ xs) ys t k → Begins xs
    → ((u : Tree) (n : ℕ) → ElementsShown xs ys u n → Same vs ys depth n)
    → Same vs ys (1 + depth) k
at_list depth (a_name two_brackets) b r = absurd (cc)
at_list depth (a_call two_brackets ss) b r = absurd (cc)
at_list {vs = vs} depth (list_in_brackets {ys = ys} {t = t} {n = n} ss) b r =
    let d : Same vs ys depth n = r t n ss in record { left = d.left; depth = ap (λ n. 1 + n) d.depth }

at_prefix : (c : Bool) {xs ys zs : List Lexeme} {t : Tree} {k : ℕ} {f : List ℕ} {m : Bool} → Shown xs ys t k → Word xs zs m f → EndsFirst c ys
    → IsTrue (not (joins m zs)) → Begins zs → ⊥
at_prefix c a_variable w h j b = no_word refl w
at_prefix c a_number w h j b = no_word refl w
at_prefix c {zs = zs} {m = m} (S.a_negative {n = n} {ys = ys}) w h j b =
    let o = one_minus w in
    let e : joins m zs ≡ true = ap (λ l. joins m l) o.0 ∙ ap (λ b. joins b (number true n ∷ ys)) o.1 in
    cc
at_prefix c (a_name s) w h j b = ends_begin c _ h (subst Begins (one_word s w).left b)
at_prefix c {m = m} (a_call s ss) w h j b = let g = subst (λ l. IsTrue (not (joins m l))) (one_word s w).left j in cc
at_prefix c (list_in_brackets ss) w h j b = no_empty ss w

-- behind the same closing token the same is left
behind : {zs ys : List Lexeme} {m n : ℕ} (x : Lexeme) → Same (x ∷ zs) (x ∷ ys) m n → Same zs ys m n
behind x h = record { left = tails_same x _ _ h.left; depth = h.depth }

closed : {zs ys : List Lexeme} {m n : ℕ} (x : Lexeme) → Same (x ∷ zs) (x ∷ ys) m n → Same zs ys m (max n 0)
closed x h = record { left = tails_same x _ _ h.left; depth = omega (arith, h.depth) }

greatest : {vs us zs ys : List Lexeme} {k l m n : ℕ} → Same vs us k l → Same zs ys m n → Same zs ys (max k m) (max l n)
greatest h i = record { left = i.left; depth = omega (arith, h.depth, i.depth) }

-- different tokens aren't the same
other : {x y : Lexeme} {zs ys : List Lexeme} {m n : ℕ} → (x ≡ y → ⊥) → Same (x ∷ zs) (y ∷ ys) m n → ⊥
other {x} {y} f h = let q = h.left in f (cc q)

mutual
  one_depth : {c : Bool} {xs ys zs : List Lexeme} {p n : ℕ} {t u : Tree} → Shown xs ys t n → EndsFirst c ys → (d : Derives true c xs zs p u) → Follows c zs
      → Same zs ys (most_levels d) n
  one_depth s h G.a_variable f = at_variable s
  one_depth s h G.a_number f = at_number s
  one_depth {c} s h (a_negative w) f = at_negative c s w h
  one_depth s h (in_braces d l) f = absurd (at_brace s (begins d))
  one_depth {c} s h (an_atom w a) f = at_atom c s w f
  one_depth {c} s h (a_compound w ds) f = at_compound c (most_levels_of_arguments ds) s w h (λ ts n ss. one_depth_of_arguments ss ds)
  one_depth s h (in_parens d l) f = absurd (at_paren s)
  one_depth s h (a_list ds) f = at_list (most_levels_of_elements ds) s (elements_begin ds) (λ u n ss. one_depth_of_elements ss ds)
  one_depth {c} s h (a_prefix w e n d l) f = absurd (at_prefix c s w h n (begins d))
  one_depth {c} s h (an_infix {x = x} {ys = ys} {o = o} d e l d' l') f = absurd (no_infix c x ys _ o e (one_depth s h d (inr (o, e))).left h)

  one_depth_of_arguments : {xs ys zs : List Lexeme} {n : ℕ} {ts us : Trees} → ArgumentsShown xs ys ts n → (d : Arguments true xs zs us)
      → Same zs ys (most_levels_of_arguments d) n
  one_depth_of_arguments (the_last s) (last_argument d l) = closed close_paren (one_depth s (refl, refl) d (inl refl))
  one_depth_of_arguments (the_last s) (argument d l ds) = absurd (other (λ q. cc) (one_depth s (refl, refl) d (inl refl)))
  one_depth_of_arguments (one_more s ss) (last_argument d l) = absurd (other (λ q. cc) (one_depth s (refl, refl) d (inl refl)))
  one_depth_of_arguments (one_more {ys = ys} {zs = zs} {ts = ts} {n = n} s ss) (argument {ys = us} d l ds) =
      let h = one_depth s (refl, refl) d (inl refl) in
      greatest h (one_depth_of_arguments (subst (λ l. ArgumentsShown l zs ts n) (sym (tails_same comma us ys h.left)) ss) ds)

  one_depth_of_elements : {xs ys zs : List Lexeme} {n : ℕ} {t u : Tree} → ElementsShown xs ys t n → (d : Elements true xs zs u)
      → Same zs ys (most_levels_of_elements d) n
  one_depth_of_elements (no_more s) (last_element d l) = closed close_list (one_depth s (refl, refl) d (inl refl))
  one_depth_of_elements (no_more s) (before_bar d l d' l') = absurd (other (λ q. cc) (one_depth s (refl, refl) d (inl refl)))
  one_depth_of_elements (no_more s) (element d l ds) = absurd (other (λ q. cc) (one_depth s (refl, refl) d (inl refl)))
  one_depth_of_elements (a_tail s r) (last_element d l) = absurd (other (λ q. cc) (one_depth s (refl, refl) d (inl refl)))
  one_depth_of_elements (a_tail {ys = ys} {zs = zs} {u = u} {n = n} s r) (before_bar {ys = us} d l d' l') =
      let h = one_depth s (refl, refl) d (inl refl) in
      greatest h (behind close_list (one_depth (subst (λ l. Shown l (close_list ∷ zs) u n) (sym (tails_same head_tail_separator us ys h.left)) r) (refl, refl)
      d' (inl refl)))
  one_depth_of_elements (a_tail s r) (element d l ds) = absurd (other (λ q. cc) (one_depth s (refl, refl) d (inl refl)))
  one_depth_of_elements (one_element s ss) (last_element d l) = absurd (other (λ q. cc) (one_depth s (refl, refl) d (inl refl)))
  one_depth_of_elements (one_element s ss) (before_bar d l d' l') = absurd (other (λ q. cc) (one_depth s (refl, refl) d (inl refl)))
  one_depth_of_elements (one_element {ys = ys} {zs = zs} {u = u} {n = n} s ss) (element {ys = us} d l ds) =
      let h = one_depth s (refl, refl) d (inl refl) in
      greatest h (one_depth_of_elements (subst (λ l. ElementsShown l zs u n) (sym (tails_same comma us ys h.left)) ss) ds)

-- no term begins where no token is left
none_left : {cs : List ReadClause} (xs : List Lexeme) → xs ≡ [] → (d : IsText true xs cs) → most_levels_of_text d ≡ 0
none_left xs e no_clause = refl
none_left xs e (a_clause d l i) = absurd (subst Begins e (begins d))

-- so the tokens of a clause are
pub one_depth_of_clause : {xs : List Lexeme} {m : ClauseEnd} {t : Tree} {n : ℕ} {cs : List ReadClause} → Shown xs (end m ∷ []) t n → (d : IsText true xs cs)
    → most_levels_of_text d ≡ n
one_depth_of_clause s no_clause = absurd (shown_begins s)
one_depth_of_clause s (a_clause {m = k} {ys = ys} d l i) =
    let h = one_depth {c = true} s (refl, refl) d (inl refl) in
    let none : ys ≡ [] = cc (h.left) in
    omega (arith, h.depth, none_left ys none i)
