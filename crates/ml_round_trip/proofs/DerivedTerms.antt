-- What canonical text shows is derived as the term: each argument and each element has priority 0, and each of them stands before a token that closes, so
-- that an operator's name is an atom. The derivation has as many levels open as the text.
use Rattle.std.specs.Prelude.{◌≡◌, ℕ, ◌+◌, Bool, true, false, not, List, [], ◌∷◌}
use Rattle.std.proofs.Common.{refl, ap, arith}
use Rattle.ml_term.specs.Tree.{Tree, Trees}
use Rattle.ml_reader.specs.Lexemes.{Lexeme, is_minus}
use Rattle.ml_reader.specs.Operators.{is_operator, closes}
use Rattle.ml_reader.specs.Grammar as G
use Rattle.ml_reader.specs.Grammar.{Word, plain, brackets, curlies, AtomBefore, Derives, an_atom, a_compound, a_list, Arguments, last_argument, argument}
use Rattle.ml_reader.specs.Grammar.{Elements, last_element, before_bar, element}
use Rattle.ml_reader.specs.Levels.{levels_of_name, most_levels, most_levels_of_arguments, most_levels_of_elements}
use Rattle.ml_round_trip.proofs.BooleanTests.{or_true}
use Rattle.ml_round_trip.proofs.ShownTrees.{NameShown, one_token, two_brackets, two_braces, Shown, a_variable, a_number, a_negative, a_name, a_call}
use Rattle.ml_round_trip.proofs.ShownTrees.{list_in_brackets, ArgumentsShown, the_last, one_more, ElementsShown, no_more, a_tail, one_element}

-- a derivation of priority 0 with so many levels
pub record Within (c : Bool) (xs ys : List Lexeme) (t : Tree) (n : ℕ) : Type 0 where
  pub derivation : Derives true c xs ys 0 t
  pub depth : most_levels derivation ≡ n

record ArgumentsWithin (xs ys : List Lexeme) (ts : Trees) (n : ℕ) : Type 0 where
  derivation : Arguments true xs ys ts
  depth : most_levels_of_arguments derivation ≡ n

record ElementsWithin (xs ys : List Lexeme) (t : Tree) (n : ℕ) : Type 0 where
  derivation : Elements true xs ys t
  depth : most_levels_of_elements derivation ≡ n

record WordWithin (xs ys : List Lexeme) (f : List ℕ) (n : ℕ) : Type 0 where
  minus : Bool
  word : Word xs ys minus f
  depth : levels_of_name word ≡ n

-- a token that closes stands first
abbrev pub ClosesFirst : List Lexeme → Type 0
ClosesFirst [] = ⊥
ClosesFirst (y ∷ ys) = closes y ≡ true

atom_before : (f : List ℕ) (ys : List Lexeme) → ClosesFirst ys → AtomBefore f ys
atom_before f [] h = absurd h
atom_before f (y ∷ ys) h = or_true (not (is_operator f)) (closes y) h

name_derived : {xs ys : List Lexeme} {f : List ℕ} {n : ℕ} → NameShown xs ys f n → WordWithin xs ys f n
name_derived (one_token {q = q} {f = f}) = record { minus = is_minus q f; word = plain; depth = refl }
name_derived two_brackets = record { minus = false; word = brackets; depth = refl }
name_derived two_braces = record { minus = false; word = curlies; depth = refl }

mutual
  pub derived : {c : Bool} {xs ys : List Lexeme} {t : Tree} {n : ℕ} → Shown xs ys t n → ClosesFirst ys → Within c xs ys t n
  derived a_variable h = record { derivation = G.a_variable; depth = refl }
  derived a_number h = record { derivation = G.a_number; depth = refl }
  derived a_negative h = record { derivation = G.a_negative plain; depth = refl }
  derived (a_name {f = f} {ys = ys} s) h = let w = name_derived s in record { derivation = an_atom w.word (atom_before f ys h); depth = w.depth }
  derived (a_call s ss) h =
      let ds = arguments_derived ss in record { derivation = a_compound (name_derived s).word ds.derivation; depth = ap (λ n. 1 + n) ds.depth }
  derived (list_in_brackets ss) h = let ds = elements_derived ss in record { derivation = a_list ds.derivation; depth = ap (λ n. 1 + n) ds.depth }

  arguments_derived : {xs ys : List Lexeme} {ts : Trees} {n : ℕ} → ArgumentsShown xs ys ts n → ArgumentsWithin xs ys ts n
  arguments_derived (the_last s) = let d = derived {c = false} s refl in record { derivation = last_argument d.derivation refl; depth = omega (arith, d.depth) }
  arguments_derived (one_more s ss) =
      let d = derived {c = false} s refl in
      let ds = arguments_derived ss in
      record { derivation = argument d.derivation refl ds.derivation; depth = omega (arith, d.depth, ds.depth) }

  elements_derived : {xs ys : List Lexeme} {t : Tree} {n : ℕ} → ElementsShown xs ys t n → ElementsWithin xs ys t n
  elements_derived (no_more s) = let d = derived {c = false} s refl in record { derivation = last_element d.derivation refl; depth = omega (arith, d.depth) }
  elements_derived (a_tail s r) =
      let d = derived {c = false} s refl in
      let e = derived {c = false} r refl in
      record { derivation = before_bar d.derivation refl e.derivation refl; depth = omega (arith, d.depth, e.depth) }
  elements_derived (one_element s ss) =
      let d = derived {c = false} s refl in
      let ds = elements_derived ss in
      record { derivation = element d.derivation refl ds.derivation; depth = omega (arith, d.depth, ds.depth) }
