-- What holds of every row of the table, by a computed test.
use Rattle.std.specs.Prelude.{if◌then◌else◌, ◌≡◌, ◌≢◌, ℕ, ◌<◌, ◌≤◌, Bool, true, false, ◌&&◌, ◌||◌, ◌==◌, IsTrue, nat_le, nat_lt, List, [], ◌∷◌, Some}
use Rattle.std.proofs.Common.{refl, sym, ap, ◌∙◌, subst, arith, true≢false}
use Rattle.std.proofs.lemmas.Bool.{leb-true, ltb-true}
use Rattle.ml_reader.specs.Lexemes.{Lexeme, name, comma}
use Rattle.ml_reader.specs.Operators.{Row, Operator, operator, infixes, prefixes, is_among, find_operator, infix_of, prefix_of, infix_at}

-- the operators of a priority take terms of it on the right, if any
abbrev pub right_first : ℕ → Bool
right_first p = p == 1100 || (p == 1050 || (p == 1000 || (p == 900 || p == 200)))

abbrev pub lawful : Operator → Bool
lawful o = nat_le o.left o.priority && (nat_le o.right o.priority && (if right_first o.priority then nat_lt o.left o.priority else nat_lt o.right o.priority))

abbrev all_lawful : List Row → Bool
all_lawful [] = true
all_lawful (r ∷ rs) = lawful (operator [] r.priority r.left r.right) && all_lawful rs

both : (a b : Bool) → IsTrue (a && b) → IsTrue a × IsTrue b
both true true e = (refl, refl)
both true false e = absurd (grind (arith, e))
both false b e = absurd (grind (arith, e))

named_lawful : (rs : List Row) (f : List ℕ) (o : Operator) → IsTrue (all_lawful rs) → find_operator rs f ≡ Some o → IsTrue (lawful o)
named_lawful [] f o h e = absurd (grind (arith, e))
named_lawful (r ∷ rs) f o h e = go (is_among r.names f) (both (lawful (operator [] r.priority r.left r.right)) (all_lawful rs) h) (λ h. named_lawful rs f o h) e
  where
    some_inj : {a b : Operator} → Some a ≡ Some b → a ≡ b
    some_inj e = cc

    go : (k : Bool) → IsTrue (lawful (operator [] r.priority r.left r.right)) × IsTrue (all_lawful rs)
        → (IsTrue (all_lawful rs) → find_operator rs f ≡ Some o → IsTrue (lawful o))
        → (if k then Some (operator f r.priority r.left r.right) else find_operator rs f) ≡ Some o → IsTrue (lawful o)
    go true h r e = subst (λ o. IsTrue (lawful o)) (some_inj e) h.0
    go false h r e = r h.1 e

pub infix_lawful : (c : Bool) (x : Lexeme) (o : Operator) → infix_at c x ≡ Some o → IsTrue (lawful o)
unfolding infix_of
infix_lawful c (name q f) o e = named_lawful infixes f o refl e
infix_lawful true comma o e = subst (λ o. IsTrue (lawful o)) (some_inj e) refl
  where
    some_inj : {a b : Operator} → Some a ≡ Some b → a ≡ b
    some_inj e = cc
infix_lawful c x o e = absurd (grind (arith, e))

pub prefix_lawful : (f : List ℕ) (o : Operator) → prefix_of f ≡ Some o → IsTrue (lawful o)
unfolding prefix_of
prefix_lawful f o e = named_lawful prefixes f o refl e

pub left_within : (o : Operator) → IsTrue (lawful o) → o.left ≤ o.priority
left_within o h = leb-true _ _ (both (nat_le o.left o.priority) _ h).0

pub right_within : (o : Operator) → IsTrue (lawful o) → o.right ≤ o.priority
right_within o h = leb-true _ _ (both (nat_le o.right o.priority) _ (both (nat_le o.left o.priority) _ h).1).0

abbrev third_of : Operator → Bool → Type 0
third_of o k = IsTrue (if k then nat_lt o.left o.priority else nat_lt o.right o.priority)

third : (o : Operator) → IsTrue (lawful o) → third_of o (right_first o.priority)
third o h = (both (nat_le o.right o.priority) _ (both (nat_le o.left o.priority) _ h).1).1

pub positive : (o : Operator) → IsTrue (lawful o) → 0 < o.priority
positive o h = go (right_first o.priority) (third o h)
  where
    go : (k : Bool) → third_of o k → 0 < o.priority
    go true i = let j : o.left < o.priority = ltb-true _ _ i in omega arith
    go false i = let j : o.right < o.priority = ltb-true _ _ i in omega arith

differ : (p q : ℕ) → right_first p ≡ true → right_first q ≡ false → p ≢ q
differ p q e e' i = true≢false (sym e ∙ (ap right_first i ∙ e'))

-- an operator that may stand on the left of another one doesn't take it into its right side
pub apart : (o o' : Operator) → IsTrue (lawful o) → IsTrue (lawful o') → o.priority ≤ o'.left → o.right < o'.priority
apart o o' h h' l = go (right_first o.priority) refl (right_first o'.priority) refl (third o h) (third o' h') (right_within o h) (left_within o' h')
  where
    go : (k : Bool) → right_first o.priority ≡ k → (k' : Bool) → right_first o'.priority ≡ k' → third_of o k → third_of o' k' → o.right ≤ o.priority
        → o'.left ≤ o'.priority → o.right < o'.priority
    go true e true e' i i' r m = let j : o'.left < o'.priority = ltb-true _ _ i' in omega arith
    go false e k' e' i i' r m = let j : o.right < o.priority = ltb-true _ _ i in omega arith
    go true e false e' i i' r m = let n = differ o.priority o'.priority e e' in omega arith
