-- Words in the order of the table are of the form.
use Rattle.std.specs.Prelude.{◌≡◌, ℕ, ◌+◌, ◌≤◌, ◌==◌, ◌&&◌, zero, suc, Bool, true, false, List, [], ◌∷◌, Option, Some, None, IsTrue, length, codes, nat_le}
use Rattle.std.specs.Prelude.{if◌then◌else◌, not, option_map}
use Rattle.std.specs.Char.{is_ascii_digit}
use Rattle.std.specs.Str.{all_ascii_digits}
use Rattle.std.specs.Str.Parse.{digits_value}
use Rattle.std.specs.List.{list_all}
use Rattle.std.proofs.Common.{inl, inr, refl, sym, ap, ◌∙◌, subst, arith, true≢false}
use Rattle.std.proofs.lemmas.Bool.Decides.{eqb_tells}
use Rattle.std.proofs.lemmas.Bool.{le-leb}
use Rattle.clap.specs.Words.{fault_of}
use Rattle.ml_words.specs.Walks.{Walk, any_word, never, walk_over}
use Rattle.ml_words.specs.Commands.{sessions_app, takes}
use Rattle.ml_words.specs.Forms.{Form, app_of_form, asked_as, asked_by, check, check_form, command_of, is_decimal, made_number, make, make_form, sessions, sessions_form}
use Rattle.ml_words.specs.Forms.{within_limits}
use Rattle.ml_words.specs.InOrder.{is_plain_name, name_from, option_before, option_is_plain, places_from, rules_place, sessions_in_order, words_of_option, sessions_word}
use Rattle.ml_words.proofs.PlainWords.{is_plain}
use Rattle.ml_words.proofs.TakenInOrder.{PlainOption, AllPlain, none_left, one_plain, taken_in_order}
use Rattle.ml_words.proofs.WalkInOrder.{PlainNames, no_name, one_name, all_found, given_from, more_names}
use Rattle.ml_words.proofs.TakenShort.{check_taken, make_taken}

both : (a b : Bool) → IsTrue (a && b) → IsTrue a × IsTrue b
both true b e = (refl, e)
both false b e = absurd (true≢false (sym e))

plain_option : (o : Option (List ℕ)) → IsTrue (option_is_plain o) → PlainOption o
plain_option None e = tt
plain_option (Some name) e = is_plain name e

all_plain : (ss : List (List ℕ)) → IsTrue (list_all is_plain_name ss) → AllPlain ss
all_plain [] e = none_left
all_plain (s ∷ ss) e = let h = both (is_plain_name s) (list_all is_plain_name ss) e in one_plain (is_plain s h.0) (all_plain ss h.1)

plain_names : (ss : List (List ℕ)) → IsTrue (list_all is_plain_name ss) → PlainNames ss
plain_names [] e = no_name
plain_names (s ∷ ss) e = let h = both (is_plain_name s) (list_all is_plain_name ss) e in one_name h.0 (plain_names ss h.1)

many_places : (n place : ℕ) → length (places_from place n) ≡ n
many_places zero place = refl
many_places (suc n) place = let more = many_places n (place + 1) in omega (arith, more)

none_some : (n : ℕ) → None ≡ Some n → ⊥
none_some n e = cc

decimal_if : (b : Bool) (o : Option ℕ) (n : ℕ) → (if b then o else None) ≡ Some n → b ≡ true
decimal_if true o n e = refl
decimal_if false o n e = absurd (none_some n e)

not_minus : (b : ℕ) → is_ascii_digit b ≡ true → not (b == 45) ≡ true
not_minus b e = elim (eqb_tells b 45) [
  | inl q ↦
      let bad : is_ascii_digit 45 ≡ true = subst (λ (n : ℕ). is_ascii_digit n ≡ true) q.1 e in
      absurd (true≢false (sym bad))
  | inr q ↦ rw q.0 refl
]

-- what a taken word list asks for, by what the walk found
pub asked_when : (form : Form) (words rest : List (List ℕ)) (w : Walk) → fault_of (app_of_form form) words ≡ [] → walk_over rest ≡ w
    → asked_as form words rest ≡ asked_by form words w
asked_when form words rest w none found =
    ap (λ kinds. if length kinds == 0 then asked_by form words (walk_over rest) else None) none ∙ ap (λ u. asked_by form words u) found

few_asked : (threads : Bool) (rules : ℕ) (places : List ℕ) (image save : Option (List ℕ)) → length places ≤ 64 → (words : List (List ℕ))
    → asked_by (sessions_form threads) words (record {
      next = any_word;
      image = given_from 1 image;
      save = given_from (1 + words_of_option image) save;
      names = rules ∷ places;
    })
    ≡ Some (sessions threads rules (name_from 1 image) (name_from (1 + words_of_option image) save) places)
few_asked threads rules places None None le words = rw (le-leb (length places) 64 le) refl
few_asked threads rules places (Some i) None le words = rw (le-leb (length places) 64 le) refl
few_asked threads rules places None (Some s) le words = rw (le-leb (length places) 64 le) refl
few_asked threads rules places (Some i) (Some s) le words = rw (le-leb (length places) 64 le) refl

module _ (image save : Option (List ℕ)) (rules : List ℕ) (scripts : List (List ℕ)) (p : IsTrue (option_is_plain image)) (q : IsTrue (option_is_plain save))
    (r : IsTrue (is_plain_name rules)) (s : IsTrue (list_all is_plain_name scripts)) (few : length scripts ≤ 64) where
  abbrev rest : List (List ℕ)
  rest = option_before (codes "--image") image (option_before (codes "--save") save (rules ∷ scripts))

  by_word : (threads : Bool) (word : List ℕ) → asked_as (sessions_form threads) (word ∷ rest) rest
      ≡ Some (sessions threads (rules_place image save) (name_from 1 image) (name_from (1 + words_of_option image) save)
      (places_from (rules_place image save + 1) (length scripts)))
  by_word threads word =
      let places = places_from (rules_place image save + 1) (length scripts) in
      asked_when (sessions_form threads) (word ∷ rest) rest _
      (taken_in_order word image save rules scripts (plain_option image p) (plain_option save q) (is_plain rules r) (all_plain scripts s) few)
      (all_found image save rules scripts r (plain_names scripts s))
      ∙ few_asked threads (rules_place image save) places image save
      (omega (arith, few, many_places (length scripts) (rules_place image save + 1))) (word ∷ rest)

  pub in_order : (threads : Bool) → command_of (sessions_in_order threads image save rules scripts)
      ≡ Some (sessions threads (rules_place image save) (name_from 1 image) (name_from (1 + words_of_option image) save)
      (places_from (rules_place image save + 1) (length scripts)))
  in_order true = by_word true (codes "run")
  in_order false = by_word false (codes "serial")

-- a check
pub check_in_order : (rules image : List ℕ) → IsTrue (is_plain_name rules) → IsTrue (is_plain_name image)
    → command_of (codes "check" ∷ rules ∷ image ∷ []) ≡ Some (check 1 2)
check_in_order rules image p q =
    asked_when check_form (codes "check" ∷ rules ∷ image ∷ []) (rules ∷ image ∷ []) _
    (check_taken (codes "check") rules image (is_plain rules p) (is_plain image q))
    (more_names (rules ∷ image ∷ []) (one_name p (one_name q no_name)) 1 never never [])

-- a number of `make` begins with a digit
digits_plain : (number : List ℕ) (n : ℕ) → made_number number ≡ Some n → IsTrue (is_plain_name number)
digits_plain [] n e = absurd (none_some n e)
digits_plain (b ∷ rest) n e =
    let decimal : is_decimal (b ∷ rest) ≡ true = decimal_if (is_decimal (b ∷ rest)) (within_limits (digits_value 10 (b ∷ rest))) n e in
    let digits = both (nat_le (length (b ∷ rest)) 5) (all_ascii_digits (b ∷ rest)) (both (nat_le 1 (length (b ∷ rest))) _ decimal).1 in
    let digit : is_ascii_digit b ≡ true = (both (is_ascii_digit b) (all_ascii_digits rest) digits.1).0 in
    not_minus b digit

-- a made run
pub make_in_order : (number : List ℕ) (n : ℕ) → made_number number ≡ Some n → command_of (codes "make" ∷ number ∷ []) ≡ Some (make n)
make_in_order number n e =
    let p = digits_plain number n e in
    asked_when make_form (codes "make" ∷ number ∷ []) (number ∷ []) _ (make_taken (codes "make") number (is_plain number p))
    (more_names (number ∷ []) (one_name p no_name) 1 never never [])
    ∙ ap (option_map make) e
