-- What runs and quoted names spell are names.
use Rattle.std.proofs.Common.{◌≡◌, ℕ, zero, suc, ◌-◌, ◌<◌, Bool, true, false, ◌&&◌, ◌||◌, ◌==◌, List, [], ◌∷◌, take, refl, sym, arith, subst, codes, eqb-true}
use Rattle.std.proofs.Common.{Option, nat_le, if◌then◌else◌}
use Rattle.std.specs.List.{list_all, prefix_len}
use Rattle.std.proofs.lemmas.List.{get_or-take}
use Rattle.std.proofs.lemmas.List.Sums.{list_all-from_AllPass, prefix_len_passes}
use Rattle.std.proofs.lemmas.List.Folds.{length-prefix_len}
use Rattle.std.proofs.lemmas.Bool.Decides.{nat_tests}
use Rattle.ml_token.specs.declared.quoted.Part.{Part}
use Rattle.ml_token.specs.declared.quoted.Part.TheVariants.{Spelled, Last}
use Rattle.ml_token.specs.Bytes.{is_one_of, is_symbol, is_alphanumeric}
use Rattle.ml_token.specs.Quoted.{Inside, part_of, behind_quote, behind_backslash, escape_part, escape_of, inside, with_byte}
use Rattle.ml_token.specs.Values.{is_name_byte}

-- cases of a choice, each with what its test says
pub if_cases : {A : Type 0} (P : A → Type 0) (c : Bool) (x y : A) → (c ≡ true → P x) → (c ≡ false → P y) → P (if c then x else y)
if_cases P true x y holds fails = holds refl
if_cases P false x y holds fails = fails refl

-- two tests hold that hold together
pub both : (a b : Bool) → (a && b) ≡ true → (a ≡ true) × (b ≡ true)
both true b e = (refl, e)
both false b e = absurd (let clash : false ≡ true = e in cc)

-- one of these bytes passes what they all pass
one_passes : (q : ℕ → Bool) (x b : ℕ) (others same : Bool) → (b == x) ≡ same → (same || others) ≡ true → q x ≡ true
    → (others ≡ true → q b ≡ true) → q b ≡ true
one_passes q x b others true is one first rest = subst (λ (n : ℕ). q n ≡ true) (sym (eqb-true b x is)) first
one_passes q x b others false is one first rest = rest one

pub is_one_of-passes : (q : ℕ → Bool) (bytes : List ℕ) (b : ℕ) → is_one_of bytes b ≡ true → list_all q bytes ≡ true → q b ≡ true
is_one_of-passes q [] b one all = absurd (cc)
is_one_of-passes q (x ∷ xs) b one all =
    let split = both (q x) (list_all q xs) all in
    one_passes q x b (is_one_of xs b) (b == x) refl one split.0 (λ rest. is_one_of-passes q xs b rest split.1)

pub symbol-is_name_byte : (b : ℕ) → is_symbol b ≡ true → is_name_byte b ≡ true
symbol-is_name_byte b symbol = is_one_of-passes is_name_byte (codes "+-*/\\^<>=~:.?@#&$") b symbol refl

pub alphanumeric-is_name_byte : (b : ℕ) → is_alphanumeric b ≡ true → is_name_byte b ≡ true
alphanumeric-is_name_byte b letter = grind (arith, nat_tests)

-- a run of bytes that may stand in a name
pub run-passes : (p q : ℕ → Bool) → ((b : ℕ) → p b ≡ true → q b ≡ true) → (xs : List ℕ) → list_all q (take (prefix_len p xs) xs) ≡ true
run-passes p q implied xs = list_all-from_AllPass q (take (prefix_len p xs) xs) (λ k d lt.
    let below : k < prefix_len p xs = omega (arith, length-prefix_len p xs) in
    rw (get_or-take (prefix_len p xs) xs k d below) (implied _ (prefix_len_passes p xs k d below)))

-- what a part spells may stand in a name
abbrev SpellsNameByte : Part → Type 0
SpellsNameByte (Spelled v n) = is_name_byte v ≡ true
SpellsNameByte (Last ending) = Unit {0}

quote_part : (bs : List ℕ) → SpellsNameByte (behind_quote bs)
quote_part [] = tt
quote_part (b ∷ bs) = if_cases SpellsNameByte (b == 39) _ _ (λ is. refl) (λ is. tt)

-- every escape spells such a byte
escape-is_name_byte : (b : ℕ) → SpellsNameByte (escape_part (escape_of b))
escape-is_name_byte b =
    let P : Option ℕ → Type 0 = λ o. SpellsNameByte (escape_part o) in
    if_cases P (b == 97) _ _ (λ is. refl) (λ is.
    if_cases P (b == 98) _ _ (λ is. refl) (λ is.
    if_cases P (b == 116) _ _ (λ is. refl) (λ is.
    if_cases P (b == 110) _ _ (λ is. refl) (λ is.
    if_cases P (b == 118) _ _ (λ is. refl) (λ is.
    if_cases P (b == 102) _ _ (λ is. refl) (λ is.
    if_cases P (b == 114) _ _ (λ is. refl) (λ is.
    if_cases P (b == 92) _ _ (λ is. refl) (λ is.
    if_cases P (b == 39) _ _ (λ is. refl) (λ is.
    if_cases P (b == 34) _ _ (λ is. refl) (λ is.
    if_cases P (b == 96) _ _ (λ is. refl) (λ is. tt)))))))))))

backslash_part : (bs : List ℕ) → SpellsNameByte (behind_backslash bs)
backslash_part [] = tt
backslash_part (b ∷ bs) = escape-is_name_byte b

printing-is_name_byte : (b : ℕ) → (nat_le 32 b && nat_le b 126) ≡ true → is_name_byte b ≡ true
printing-is_name_byte b printing = grind (arith, nat_tests)

pub part-is_name_byte : (bs : List ℕ) → SpellsNameByte (part_of bs)
part-is_name_byte [] = tt
part-is_name_byte (b ∷ bs) =
    if_cases SpellsNameByte (b == 39) _ _ (λ is. quote_part bs) (λ is.
    if_cases SpellsNameByte (b == 92) _ _ (λ is. backslash_part bs) (λ is.
    if_cases SpellsNameByte (b == 10) _ _ (λ is. tt) (λ is.
    if_cases SpellsNameByte (nat_le 32 b && nat_le b 126) _ _ (λ is. printing-is_name_byte b is) (λ is. tt))))

pub both_hold : (a b : Bool) → a ≡ true → b ≡ true → (a && b) ≡ true
both_hold a b e f = cc

inside_name_by : (p : Part) (bs : List ℕ) → SpellsNameByte p → ((k : ℕ) → list_all is_name_byte (inside k bs).name ≡ true)
    → list_all is_name_byte (let i : Inside = elim p [
      | Spelled v n ↦ with_byte v n (inside (n - 1) bs)
      | Last ending ↦ record { name = []; width = 0; ending = ending }
    ] in i.name) ≡ true
inside_name_by (Spelled v n) bs spells rest = both_hold (is_name_byte v) (list_all is_name_byte (inside (n - 1) bs).name) spells (rest (n - 1))
inside_name_by (Last ending) bs spells rest = refl

-- so does all that a text spells
pub inside-passes : (k : ℕ) (bs : List ℕ) → list_all is_name_byte (inside k bs).name ≡ true
inside-passes k [] = refl
inside-passes (suc k) (b ∷ bs) = inside-passes k bs
inside-passes zero (b ∷ bs) = inside_name_by (part_of (b ∷ bs)) bs (part-is_name_byte (b ∷ bs)) (λ k. inside-passes k bs)
