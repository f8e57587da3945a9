-- The variables of a clause are numbered from 0 by first place, and its names are theirs.
use Rattle.std.specs.Prelude.{◌≡◌, ℕ, ◌+◌, ◌≤◌, Bool, true, false, ◌&&◌, not, if◌then◌else◌, IsTrue, nat_le, nat_lt, List, [], ◌∷◌, ◌++◌, length, Option, Some}
use Rattle.std.specs.Prelude.{None, is_none, unwrap_or}
use Rattle.std.specs.Str.{bytes_eq}
use Rattle.std.specs.List.{list_all}
use Rattle.std.proofs.Common.{refl, sym, ap, ◌∙◌, subst, arith, length-append, true≢false}
use Rattle.std.proofs.lemmas.Bool.{le-leb, lt-ltb, ltb-true}
use Rattle.std.proofs.lemmas.Slice.Eq.{bytes_eq-Decides}
use Rattle.ml_term.specs.Tree.{has, firsts, counts_from}
use Rattle.ml_term.specs.Names.{is_name}
use Rattle.ml_token.specs.declared.tokens.Token.{Token}
use Rattle.ml_reader.specs.Tokens.{TokenContext, find_name, is_anonymous, variable_number, behind_token, behind_variable, behind_named}
use Rattle.ml_reader.specs.Texts.{are_different, rise_from}
use Rattle.ml_reader.proofs.Parsing.FirstPlaceNumbers.{first_more, counts_more, has_below, has_last, has_more}

both_numbered : (a b : Bool) → IsTrue a → IsTrue b → IsTrue (a && b)
both_numbered true b e e' = e'
both_numbered false b e e' = absurd (true≢false (sym e))

first_of : (a b : Bool) → IsTrue (a && b) → IsTrue a
first_of true b e = refl
first_of false b e = absurd (true≢false (sym e))

second_of : (a b : Bool) → IsTrue (a && b) → IsTrue b
second_of true b e = e
second_of false b e = absurd (true≢false (sym e))

-- the numbers of a clause's variables so far are us, and the context knows them
pub record Numbered (c : TokenContext) (us : List ℕ) : Type 0 where
  pub counting : IsTrue (counts_from 0 (firsts us))
  pub many : length (firsts us) ≡ c.variables
  pub below : IsTrue (list_all (λ u. nat_lt u c.variables) us)
  pub of_term : IsTrue (list_all (λ n. has n.1 us) c.names)
  pub rising : IsTrue (rise_from 0 c.names)
  pub different : IsTrue (are_different c.names)
  pub spelled : IsTrue (list_all (λ n. is_name n.0 && not (is_anonymous n.0)) c.names)

-- a test that is passed goes over to what passes where that does
all_more : (p q : List ℕ × ℕ → Bool) → ((n : List ℕ × ℕ) → p n ≡ true → q n ≡ true) → (ns : List (List ℕ × ℕ)) → IsTrue (list_all p ns) → IsTrue (list_all q ns)
all_more p q h [] e = refl
all_more p q h (n ∷ ns) e = both_numbered (q n) (list_all q ns) (h n (first_of (p n) (list_all p ns) e)) (all_more p q h ns (second_of (p n) (list_all p ns) e))

all_numbers : (p q : ℕ → Bool) → ((n : ℕ) → p n ≡ true → q n ≡ true) → (ns : List ℕ) → IsTrue (list_all p ns) → IsTrue (list_all q ns)
all_numbers p q h [] e = refl
all_numbers p q h (n ∷ ns) e =
    both_numbered (q n) (list_all q ns) (h n (first_of (p n) (list_all p ns) e)) (all_numbers p q h ns (second_of (p n) (list_all p ns) e))

all_end : (p : ℕ → Bool) (ns : List ℕ) (n : ℕ) → IsTrue (list_all p ns) → p n ≡ true → IsTrue (list_all p (ns ++ n ∷ []))
all_end p [] n e h = both_numbered (p n) true h refl
all_end p (m ∷ ms) n e h =
    both_numbered (p m) (list_all p (ms ++ n ∷ [])) (first_of (p m) (list_all p ms) e) (all_end p ms n (second_of (p m) (list_all p ms) e) h)

all_pairs_end : (p : List ℕ × ℕ → Bool) (ns : List (List ℕ × ℕ)) (n : List ℕ × ℕ) → IsTrue (list_all p ns) → p n ≡ true → IsTrue (list_all p (ns ++ n ∷ []))
all_pairs_end p [] n e h = both_numbered (p n) true h refl
all_pairs_end p (m ∷ ms) n e h =
    both_numbered (p m) (list_all p (ms ++ n ∷ [])) (first_of (p m) (list_all p ms) e) (all_pairs_end p ms n (second_of (p m) (list_all p ms) e) h)

-- the number beside a name is one of the numbers
find_has : (us : List ℕ) (ns : List (List ℕ × ℕ)) (f : List ℕ) (n : ℕ) → IsTrue (list_all (λ n. has n.1 us) ns) → find_name ns f ≡ Some n → has n us ≡ true
find_has us [] f n h e = absurd cc
find_has us (m ∷ ms) f n h e = go (bytes_eq m.0 f) (λ e. find_has us ms f n (second_of (has m.1 us) _ h) e) e
  where
    same : {a b : ℕ} → Some a ≡ Some b → a ≡ b
    same e = cc

    go : (k : Bool) → (find_name ms f ≡ Some n → has n us ≡ true) → (if k then Some m.1 else find_name ms f) ≡ Some n → has n us ≡ true
    go true r e = subst (λ n. has n us ≡ true) (same e) (first_of (has m.1 us) _ h)
    go false r e = r e

-- numbers that rise go on rising with a greater one
rise_more : (k v : ℕ) (f : List ℕ) (ns : List (List ℕ × ℕ)) → k ≤ v → IsTrue (rise_from k ns) → IsTrue (list_all (λ n. nat_lt n.1 v) ns)
    → IsTrue (rise_from k (ns ++ (f, v) ∷ []))
rise_more k v f [] l r b = both_numbered (nat_le k v) true (le-leb k v l) refl
rise_more k v f (n ∷ ns) l r b =
    both_numbered (nat_le k n.1) _ (first_of (nat_le k n.1) _ r)
    (rise_more (1 + n.1) v f ns (let h = ltb-true n.1 v (first_of (nat_lt n.1 v) _ b) in omega arith) (second_of (nat_le k n.1) _ r)
    (second_of (nat_lt n.1 v) _ b))

-- a name that isn't found is another one
other_name : (n f : List ℕ) → bytes_eq n f ≡ false → bytes_eq f n ≡ false
other_name n f e = decide (bytes_eq f n) refl
  where
    decide : (k : Bool) → bytes_eq f n ≡ k → k ≡ false
    decide true i = absurd (true≢false (sym ((bytes_eq-Decides n f).1 (sym ((bytes_eq-Decides f n).0 i))) ∙ e))
    decide false i = refl

not_there : (ns : List (List ℕ × ℕ)) (g f : List ℕ) (v : ℕ) → IsTrue (is_none (find_name ns g)) → bytes_eq f g ≡ false
    → IsTrue (is_none (find_name (ns ++ (f, v) ∷ []) g))
not_there [] g f v h e = ap (λ k. is_none (if k then Some v else None)) e
not_there (n ∷ ns) g f v h e = go (bytes_eq n.0 g) (λ h. not_there ns g f v h e) h
  where
    go : (k : Bool) → (IsTrue (is_none (find_name ns g)) → IsTrue (is_none (find_name (ns ++ (f, v) ∷ []) g)))
        → IsTrue (is_none (if k then Some n.1 else find_name ns g))
        → IsTrue (is_none (if k then Some n.1 else find_name (ns ++ (f, v) ∷ []) g))
    go true r h = absurd (true≢false (sym h))
    go false r h = r h

different_more : (ns : List (List ℕ × ℕ)) (f : List ℕ) (v : ℕ) → IsTrue (are_different ns) → find_name ns f ≡ None → IsTrue (are_different (ns ++ (f, v) ∷ []))
different_more [] f v d e = refl
different_more (n ∷ ns) f v d e = go (bytes_eq n.0 f) refl (λ e. different_more ns f v (second_of (is_none (find_name ns n.0)) _ d) e) e
  where
    go : (k : Bool) → bytes_eq n.0 f ≡ k → (find_name ns f ≡ None → IsTrue (are_different (ns ++ (f, v) ∷ [])))
        → (if k then Some n.1 else find_name ns f) ≡ None
        → IsTrue (is_none (find_name (ns ++ (f, v) ∷ []) n.0) && are_different (ns ++ (f, v) ∷ []))
    go true i r e = absurd cc
    go false i r e = both_numbered (is_none (find_name (ns ++ (f, v) ∷ []) n.0)) _ (not_there ns n.0 f v (first_of (is_none (find_name ns n.0)) _ d)
        (other_name n.0 f i)) (r e)

-- a token that begins no variable
pub numbered_still : (c : TokenContext) (us : List ℕ) (t : Token) → Numbered c us → Numbered (behind_token c t c.names c.variables) us
numbered_still c us t h =
    record { counting = h.counting; many = h.many; below = h.below; of_term = h.of_term; rising = h.rising; different = h.different; spelled = h.spelled }

module _ (c : TokenContext) (us : List ℕ) (t : Token) (h : Numbered c us) where
  is_new : has c.variables us ≡ false
  is_new = decide (has c.variables us) refl
    where
      decide : (k : Bool) → has c.variables us ≡ k → k ≡ false
      decide true e = absurd (let l = has_below c.variables c.variables us h.below e in omega arith)
      decide false e = refl

  firsts_new : firsts (us ++ c.variables ∷ []) ≡ firsts us ++ c.variables ∷ []
  firsts_new = first_more c.variables us ∙ ap (λ k. if k then firsts us else firsts us ++ c.variables ∷ []) is_new

  counting_new : IsTrue (counts_from 0 (firsts (us ++ c.variables ∷ [])))
  counting_new = subst (λ l. IsTrue (counts_from 0 l)) (sym firsts_new) (counts_more 0 c.variables (firsts us) h.counting (let m = h.many in omega arith))

  many_new : length (firsts (us ++ c.variables ∷ [])) ≡ 1 + c.variables
  many_new = ap length firsts_new ∙ (let m = h.many in omega (arith, length-append (firsts us) (c.variables ∷ [])))

  below_new : IsTrue (list_all (λ u. nat_lt u (1 + c.variables)) (us ++ c.variables ∷ []))
  below_new =
      all_end (λ u. nat_lt u (1 + c.variables)) us c.variables
      (all_numbers (λ u. nat_lt u c.variables) (λ u. nat_lt u (1 + c.variables)) (λ n e. lt-ltb n (1 + c.variables) (let l = ltb-true n c.variables e in
      omega arith)) us h.below) (lt-ltb c.variables (1 + c.variables) (omega arith))

  of_term_new : (n : ℕ) → IsTrue (list_all (λ m. has m.1 (us ++ n ∷ [])) c.names)
  of_term_new n = all_more (λ m. has m.1 us) (λ m. has m.1 (us ++ n ∷ [])) (λ m e. has_more m.1 n us e) c.names h.of_term

  names_below : IsTrue (list_all (λ n. nat_lt n.1 c.variables) c.names)
  names_below =
      all_more (λ m. has m.1 us) (λ m. nat_lt m.1 c.variables) (λ m e. lt-ltb m.1 c.variables (has_below m.1 c.variables us h.below e)) c.names h.of_term

  -- a new variable without a name
  anonymous : Numbered (behind_token c t c.names (1 + c.variables)) (us ++ c.variables ∷ [])
  anonymous = record {
    counting = counting_new;
    many = many_new;
    below = below_new;
    of_term = of_term_new c.variables;
    rising = h.rising;
    different =
        h.different;
    spelled = h.spelled;
  }

  -- a new variable with a name
  fresh_name : (f : List ℕ) → find_name c.names f ≡ None → IsTrue (is_name f) → is_anonymous f ≡ false
      → Numbered (behind_token c t (c.names ++ (f, c.variables) ∷ []) (1 + c.variables)) (us ++ c.variables ∷ [])
  fresh_name f e g a = record {
    counting = counting_new;
    many = many_new;
    below = below_new;
    of_term = all_pairs_end (λ m. has m.1 (us ++ c.variables ∷ [])) c.names (f, c.variables) (of_term_new c.variables) (has_last c.variables us);
    rising = rise_more 0 c.variables f c.names (omega arith) h.rising names_below;
    different = different_more c.names f c.variables h.different e;
    spelled = all_pairs_end (λ n. is_name n.0 && not (is_anonymous n.0)) c.names (f, c.variables) h.spelled (both_numbered (is_name f) _ g (ap not a));
  }

  -- a variable that was there before
  known : (f : List ℕ) (n : ℕ) → find_name c.names f ≡ Some n → Numbered (behind_token c t c.names c.variables) (us ++ n ∷ [])
  known f n e =
      let k = find_has us c.names f n h.of_term e in
      let i : firsts (us ++ n ∷ []) ≡ firsts us = first_more n us ∙ ap (λ k. if k then firsts us else firsts us ++ n ∷ []) k in
      record {
        counting = subst (λ l. IsTrue (counts_from 0 l)) (sym i) h.counting;
        many = ap length i ∙ h.many;
        below = all_end (λ u. nat_lt u c.variables) us n h.below (lt-ltb n c.variables (has_below n c.variables us h.below k));
        of_term = of_term_new n;
        rising = h.rising;
        different = h.different;
        spelled = h.spelled;
      }

  -- a variable
  pub numbered_variable : (f : List ℕ) → IsTrue (is_name f) → Numbered (behind_variable f c t) (us ++ variable_number c f ∷ [])
  numbered_variable f g = go (is_anonymous f) refl (find_name c.names f) refl
    where
      go : (k : Bool) → is_anonymous f ≡ k → (i : Option ℕ) → find_name c.names f ≡ i
          → Numbered (if k then behind_token c t c.names (1 + c.variables) else behind_named i f c t)
          (us ++ (if k then c.variables else unwrap_or i c.variables) ∷ [])
      go true a i e = anonymous
      go false a (Some n) e = known f n e
      go false a None e = fresh_name f e g a
