-- The walk over words in the order of the table finds their places.
use Rattle.std.specs.Prelude.{◌≡◌, ℕ, ◌+◌, ◌==◌, Bool, true, false, List, [], ◌∷◌, ◌++◌, Option, Some, None, length, codes, eqb, IsTrue}
use Rattle.std.proofs.Common.{inl, inr, refl, sym, ap, ◌∙◌, subst, true≢false, append_assoc}
use Rattle.std.proofs.lemmas.List.{append-nil}
use Rattle.std.proofs.lemmas.Bool.Decides.{eqb_tells}
use Rattle.ml_words.specs.Walks.{Given, never, once, Walk, any_word, behind_words, look_of, other_look, walk_over, walk_start}
use Rattle.ml_words.specs.InOrder.{is_plain_name, option_before, places_from, rules_place, words_of_option}
use Rattle.ml_words.proofs.PlainWords.{not_so}

-- words that don't begin with a hyphen
pub data PlainNames : List (List ℕ) → Type 0 where
  no_name : PlainNames []
  one_name : {s : List ℕ} {rest : List (List ℕ)} → IsTrue (is_plain_name s) → PlainNames rest → PlainNames (s ∷ rest)

other_way : (b : ℕ) → (b == 45) ≡ false → (45 == b) ≡ false
other_way b e = elim (eqb_tells 45 b) [
  | inl q ↦
      let same : (45 == 45) ≡ false = subst (λ (n : ℕ). (n == 45) ≡ false) (sym q.1) e in
      absurd (true≢false same)
  | inr q ↦ q.0
]

pub looks_other : (word : List ℕ) → IsTrue (is_plain_name word) → look_of word ≡ other_look
looks_other [] e = absurd (true≢false (sym e))
looks_other (b ∷ rest) e =
    let this : (b == 45) ≡ false = not_so (b == 45) e in
    let that : (45 == b) ≡ false = other_way b this in
    rw (this, that) refl

abbrev walk_at : Given → Given → List ℕ → Walk
walk_at image save names = record { next = any_word; image = image; save = save; names = names }

one_more_name : (place : ℕ) (word : List ℕ) (rest : List (List ℕ)) (image save : Given) (names : List ℕ) → IsTrue (is_plain_name word)
    → behind_words place (word ∷ rest) (walk_at image save names) ≡ behind_words (place + 1) rest (walk_at image save (names ++ place ∷ []))
one_more_name place word rest image save names e = rw (looks_other word e) refl

pub more_names : (scripts : List (List ℕ)) → PlainNames scripts → (place : ℕ) (image save : Given) (names : List ℕ)
    → behind_words place scripts (walk_at image save names) ≡ walk_at image save (names ++ places_from place (length scripts))
more_names [] ps place image save names = ap (λ (ns : List ℕ). walk_at image save ns) (sym (append-nil names))
more_names (s ∷ scripts) (one_name p ps) place image save names =
    one_more_name place s scripts image save names p
    ∙ more_names scripts ps (place + 1) image save (names ++ place ∷ [])
    ∙ ap (λ (ns : List ℕ). walk_at image save ns) (append_assoc names (place ∷ []) (places_from (place + 1) (length scripts)))

-- the name of an option whose words begin at this place
abbrev pub given_from : ℕ → Option (List ℕ) → Given
given_from place None = never
given_from place (Some name) = once (record { word = place + 1; from = 0 })

options_found : (image save : Option (List ℕ)) (rest : List (List ℕ))
    → behind_words 1 (option_before (codes "--image") image (option_before (codes "--save") save rest)) walk_start
    ≡ behind_words (rules_place image save) rest (walk_at (given_from 1 image) (given_from (1 + words_of_option image) save) [])
options_found None None rest = refl
options_found (Some i) None rest = refl
options_found None (Some s) rest = refl
options_found (Some i) (Some s) rest = refl

pub all_found : (image save : Option (List ℕ)) (rules : List ℕ) (scripts : List (List ℕ)) → IsTrue (is_plain_name rules) → PlainNames scripts
    → walk_over (option_before (codes "--image") image (option_before (codes "--save") save (rules ∷ scripts)))
    ≡ walk_at (given_from 1 image) (given_from (1 + words_of_option image) save)
    (rules_place image save ∷ places_from (rules_place image save + 1) (length scripts))
all_found image save rules scripts p ps =
    options_found image save (rules ∷ scripts)
    ∙ one_more_name (rules_place image save) rules scripts (given_from 1 image) (given_from (1 + words_of_option image) save) [] p
    ∙ more_names scripts ps (rules_place image save + 1) (given_from 1 image) (given_from (1 + words_of_option image) save) (rules_place image save ∷ [])
