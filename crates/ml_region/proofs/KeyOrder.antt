-- Laws of the order of keys and of beginnings that the searches of a directory rest on.
use Rattle.std.proofs.Common.{◌≡◌, ◌≢◌, ◌⊎◌, inl, inr, ℕ, ◌<◌, ◌≤◌, Bool, true, false, List, length, get_or, take, refl, sym, ap, ◌∙◌, arith}
use Rattle.std.specs.declared.cmp.Ordering.{Ordering}
use Rattle.std.specs.declared.cmp.Ordering.TheVariants.{Less, Equal, Greater}
use Rattle.std.specs.Ordering.{bool_cmp, nat_cmp, ordering_reverse, is_gt, is_lt, is_eq}
use Rattle.std.specs.Cmp.{IsTotalOrder, bool_cmp_total}
use Rattle.std.specs.Cmp.Lexicographic.{lists_total}
use Rattle.std.proofs.lemmas.List.{take-take, take_all, length-take-le, get_or-take}
use Rattle.std.proofs.lemmas.Bool.{cases_lt}
use Rattle.std.proofs.lemmas.Bool.Decides.{nat_tests}
use Rattle.ml_bits.specs.BitList.{Begins, IsCommonLength}
use Rattle.ml_bits.proofs.OrderLaws.{itself_cmp, extension_cmp, difference_cmp}
use Rattle.ml_term.specs.Keys.{key_cmp}

pub key_total : IsTotalOrder key_cmp
key_total = lists_total bool_cmp_total

pub less_trans : (x y z : List Bool) → key_cmp x y ≡ Less → key_cmp y z ≡ Less → key_cmp x z ≡ Less
less_trans x y z e f = key_total.trans x y z e f

pub greater_from_less : (x y : List Bool) → key_cmp x y ≡ Less → key_cmp y x ≡ Greater
greater_from_less x y e = key_total.antisymm y x ∙ ap ordering_reverse e

pub less_from_greater : (x y : List Bool) → key_cmp x y ≡ Greater → key_cmp y x ≡ Less
less_from_greater x y e = key_total.antisymm y x ∙ ap ordering_reverse e

pub not_greater : (o : Ordering) → o ≢ Greater → (o ≡ Less) ⊎ (o ≡ Equal)
not_greater Less h = inl refl
not_greater Equal h = inr refl
not_greater Greater h = absurd (h refl)

-- what a test says
pub greater_from_test : (o : Ordering) (b : Bool) → b ≡ is_gt o → b ≡ true → o ≡ Greater
greater_from_test Less b e t = let f : false ≡ true = sym e ∙ t in cc
greater_from_test Equal b e t = let f : false ≡ true = sym e ∙ t in cc
greater_from_test Greater b e t = refl

pub not_greater_from_test : (o : Ordering) (b : Bool) → b ≡ is_gt o → b ≡ false → o ≢ Greater
not_greater_from_test o b e t g = let f : false ≡ true = sym t ∙ e ∙ ap is_gt g in cc

pub less_from_test : (o : Ordering) (b : Bool) → b ≡ is_lt o → b ≡ true → o ≡ Less
less_from_test Less b e t = refl
less_from_test Equal b e t = let f : false ≡ true = sym e ∙ t in cc
less_from_test Greater b e t = let f : false ≡ true = sym e ∙ t in cc

pub not_less_from_test : (o : Ordering) (b : Bool) → b ≡ is_lt o → b ≡ false → o ≢ Less
not_less_from_test o b e t g = let f : false ≡ true = sym t ∙ e ∙ ap is_lt g in cc

pub not_equal_from_test : (o : Ordering) (b : Bool) → b ≡ is_eq o → b ≡ false → o ≢ Equal
not_equal_from_test o b e t g = let f : false ≡ true = sym t ∙ e ∙ ap is_eq g in cc

pub less_is_not_greater : (o : Ordering) → o ≡ Less → o ≢ Greater
less_is_not_greater o e g = let h : Less ≡ Greater = sym e ∙ g in cc

pub less_is_not_equal : (x y : List Bool) → key_cmp x y ≡ Less → x ≢ y
less_is_not_equal x y e g = let h : Less ≡ Equal = sym e ∙ ap (key_cmp x) (sym g) ∙ itself_cmp x in cc

-- what begins a key does not come after it
pub beginning_upto : (front key : List Bool) → Begins front key → key_cmp front key ≢ Greater
beginning_upto front key b =
    elim (cases_lt (length front) (length key)) [
      | inl h ↦ less_is_not_greater (key_cmp front key) (extension_cmp front key b h)
      | inr h ↦
          let same : front ≡ key = sym b ∙ take_all (length front) key h in
          let e : key_cmp front key ≡ Equal = ap (key_cmp front) (sym same) ∙ itself_cmp front in
          λ g. let f : Equal ≡ Greater = sym e ∙ g in cc
    ]

-- a longer list comes after what begins it
pub longer_after : (list front : List Bool) → Begins front list → length front < length list → key_cmp list front ≡ Greater
longer_after list front b h = greater_from_less front list (extension_cmp front list b h)

-- a list that has more bits than are asked for, and these in common with a key, comes after that beginning of the key
pub past_front : (list key : List Bool) (common n : ℕ) → IsCommonLength list key common → n ≤ common → n < length list → key_cmp list (take n key) ≡ Greater
past_front list key common n c h g =
    let alike : take n list ≡ take n key =
    sym (take-take n common list h) ∙ ap (take n) c.same ∙ take-take n common key h in
    let long : length (take n key) ≡ n = ap length (sym alike) ∙ length-take-le n list (omega arith) in
    let begins : Begins (take n key) list = ap (λ k. take k list) long ∙ alike in
    longer_after list (take n key) begins (omega (arith, long))

-- where they differ, the first bits that differ decide
pub apart_front : (list key : List Bool) (common n : ℕ) → IsCommonLength list key common → common < n → n ≤ length key → common < length list
    → key_cmp list (take n key) ≡ bool_cmp (get_or list common false) (get_or key common false)
apart_front list key common n c h g l =
    let long : length (take n key) ≡ n = length-take-le n key g in
    let alike : take common list ≡ take common (take n key) = c.same ∙ sym (take-take common n key (omega arith)) in
    let there : get_or (take n key) common false ≡ get_or key common false = get_or-take n key common false h in
    let differ : get_or list common false ≢ get_or (take n key) common false = λ e. c.apart l (omega arith) (e ∙ there) in
    difference_cmp list (take n key) common alike l (omega (arith, long)) differ ∙ ap (bool_cmp (get_or list common false)) there

-- a list that begins a key and has fewer bits than are asked for
pub whole_before : (list key : List Bool) (common n : ℕ) → IsCommonLength list key common → common ≡ length list → common < n → n ≤ length key
    → key_cmp list (take n key) ≡ Less
whole_before list key common n c e h g =
    let long : length (take n key) ≡ n = length-take-le n key g in
    let all : take common list ≡ list = take_all common list (omega arith) in
    let begins : Begins list (take n key) =
    ap (λ k. take k (take n key)) (sym e) ∙ take-take common n key (omega arith) ∙ sym c.same ∙ all in
    extension_cmp list (take n key) begins (omega (arith, long))

-- the order where all that is asked for is common: the longer list comes later
pub common_front : (list key : List Bool) (common n : ℕ) → IsCommonLength list key common → n ≤ common → key_cmp list (take n key) ≡ nat_cmp (length list) n
common_front list key common n c h =
    elim (cases_lt n (length list)) [
      | inl g ↦ past_front list key common n c h g ∙ sym (above n (length list) g)
      | inr g ↦
          let long : length list ≡ n = omega (arith, c.within_first) in
          let same : list ≡ take n key =
          sym (take_all n list g) ∙ sym (take-take n common list h) ∙ ap (take n) c.same ∙ take-take n common key h in
          ap (key_cmp list) (sym same) ∙ itself_cmp list ∙ sym (equal (length list) n long)
    ]
  where
    above : (n m : ℕ) → n < m → nat_cmp m n ≡ Greater
    above n m l = grind (arith, nat_tests)

    equal : (m n : ℕ) → m ≡ n → nat_cmp m n ≡ Equal
    equal m n l = grind (arith, nat_tests)
