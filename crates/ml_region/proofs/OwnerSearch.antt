-- The last of some rising prefixes up to a key, and how it leads to the key's owner.
use Rattle.std.proofs.Common.{◌≡◌, ◌≢◌, inl, inr, ℕ, ◌+◌, ◌-◌, ◌<◌, ◌≤◌, Bool, true, false, List, [], ◌∷◌, length, get_or, take, refl, sym, ap, ◌∙◌, subst}
use Rattle.std.proofs.Common.{arith}
use Rattle.std.specs.declared.cmp.Ordering.TheVariants.{Less, Equal, Greater}
use Rattle.std.specs.Ordering.{bool_cmp}
use Rattle.std.proofs.lemmas.List.{take-take, take_all, length-take-le, get_or-take}
use Rattle.std.proofs.lemmas.Bool.{cases_lt}
use Rattle.ml_bits.specs.BitList.{Begins, IsCommonLength}
use Rattle.ml_bits.proofs.OrderLaws.{itself_cmp, begins_itself, begins_within, begins_trans, begins_shorter, difference_cmp, same_from_cmp}
use Rattle.ml_term.specs.Keys.{key_cmp}
use Rattle.ml_region.specs.Prefixes.{bits_at, IsRising, IsPlaceFor, IsLastUpTo, IsOwner, IsParent}
use Rattle.ml_region.proofs.KeyOrder.{less_trans, greater_from_less, less_from_greater, not_greater, less_is_not_greater, less_is_not_equal, beginning_upto}
use Rattle.ml_region.proofs.KeyOrder.{longer_after, past_front, apart_front}

-- ---- the last place up to a key

-- what a search by halves knows of the last list up to a key: it stands from one place on and in front of another
pub record Halving (lists : List (List Bool)) (key : List Bool) (low high : ℕ) : Type 0 where
  pub some : low < high
  pub within : high ≤ length lists
  pub at_low : key_cmp (bits_at lists low) key ≢ Greater
  pub at_high : high < length lists → key_cmp (bits_at lists high) key ≡ Greater

pub halving_begins : (lists : List (List Bool)) (key : List Bool) → 0 < length lists → bits_at lists 0 ≡ [] → Halving lists key 0 (length lists)
halving_begins lists key h root = record {
  some = h;
  within = omega arith;
  at_low = subst (λ p. key_cmp p key ≢ Greater) (sym root) (beginning_upto [] key refl);
  at_high = λ l. absurd (omega arith);
}

pub halving_up : (lists : List (List Bool)) (key : List Bool) (low mid high : ℕ) → mid < high → Halving lists key low high →
    key_cmp (bits_at lists mid) key ≢ Greater
    → Halving lists key mid high
halving_up lists key low mid high l h at = record { some = l; within = h.within; at_low = at; at_high = h.at_high }

pub halving_down : (lists : List (List Bool)) (key : List Bool) (low mid high : ℕ) → low < mid → mid < high → Halving lists key low high
    → key_cmp (bits_at lists mid) key ≡ Greater → Halving lists key low mid
halving_down lists key low mid high l m h at = record { some = l; within = omega (arith, h.within); at_low = h.at_low; at_high = λ _. at }

upto_less : (lists : List (List Bool)) (key : List Bool) (low i : ℕ) → IsRising lists → i < low → low < length lists → key_cmp (bits_at lists low) key ≢ Greater
    → key_cmp (bits_at lists i) key ≢ Greater
upto_less lists key low i up m l at_low =
    let first : key_cmp (bits_at lists i) (bits_at lists low) ≡ Less = up.rises i low m l in
    elim (not_greater (key_cmp (bits_at lists low) key) at_low) [
      | inl e ↦ less_is_not_greater (key_cmp (bits_at lists i) key) (less_trans (bits_at lists i) (bits_at lists low) key first e)
      | inr e ↦
          let same : bits_at lists low ≡ key = same_from_cmp (bits_at lists low) key e in
          less_is_not_greater (key_cmp (bits_at lists i) key) (subst (λ k. key_cmp (bits_at lists i) k ≡ Less) same first)
    ]

-- a search by halves that ends between two neighbours
pub last_between : (lists : List (List Bool)) (key : List Bool) (low high : ℕ) → IsRising lists → high ≤ low + 1 → Halving lists key low high →
    IsLastUpTo lists key low
last_between lists key low high up n halving =
    let h : low < high = halving.some in
    let g : high ≤ length lists = halving.within in
    let at_low : key_cmp (bits_at lists low) key ≢ Greater = halving.at_low in
    let at_high : high < length lists → key_cmp (bits_at lists high) key ≡ Greater = halving.at_high in
    record {
      within = omega arith;
      upto = λ i l. elim (cases_lt i low) [
        | inl m ↦ upto_less lists key low i up m (omega arith) at_low
        | inr m ↦ let e : i ≡ low = omega arith in subst (λ j. key_cmp (bits_at lists j) key ≢ Greater) (sym e) at_low
      ];
      above = λ i l m. elim (cases_lt high i) [
        | inl o ↦
            let at : key_cmp key (bits_at lists high) ≡ Less = less_from_greater (bits_at lists high) key (at_high (omega arith)) in
            greater_from_less key (bits_at lists i) (less_trans key (bits_at lists high) (bits_at lists i) at (up.rises high i o m))
        | inr o ↦ let e : i ≡ high = omega arith in subst (λ j. key_cmp (bits_at lists j) key ≡ Greater) (sym e) (at_high (omega arith))
      ];
    }

-- where the key is not among the lists, it belongs behind the last one up to it
pub place_behind : (lists : List (List Bool)) (key : List Bool) (place : ℕ) → IsLastUpTo lists key place → ((i : ℕ) → i < length lists → bits_at lists i ≢ key)
    → IsPlaceFor lists key (place + 1)
place_behind lists key place last new = record {
  within = omega (arith, last.within);
  below = λ i h. elim (not_greater (key_cmp (bits_at lists i) key) (last.upto i (omega arith))) [
    | inl e ↦ e
    | inr e ↦ absurd (new i (omega (arith, last.within)) (same_from_cmp (bits_at lists i) key e))
  ];
  above = λ i h g. less_from_greater (bits_at lists i) key (last.above i (omega arith) g);
}

-- ---- owners

-- what begins a key stands at the last place up to it or in front of that
stands_upto : (lists : List (List Bool)) (key : List Bool) (place i : ℕ) → IsLastUpTo lists key place → i < length lists → Begins (bits_at lists i) key →
    i ≤ place
stands_upto lists key place i last h b =
    elim (cases_lt place i) [
      | inl g ↦ absurd (beginning_upto (bits_at lists i) key b (last.above i g h))
      | inr g ↦ g
    ]

no_longer : (prefixes : List (List Bool)) (key : List Bool) (place i : ℕ) → IsRising prefixes → IsLastUpTo prefixes key place →
    Begins (bits_at prefixes place) key
    → i < length prefixes → Begins (bits_at prefixes i) key → length (bits_at prefixes place) < length (bits_at prefixes i) → ⊥
no_longer prefixes key place i up last b h d g =
    let upto : i ≤ place = stands_upto prefixes key place i last h d in
    let front : Begins (bits_at prefixes place) (bits_at prefixes i) = begins_shorter (bits_at prefixes place) (bits_at prefixes i) key b d (omega arith) in
    let after : key_cmp (bits_at prefixes i) (bits_at prefixes place) ≡ Greater = longer_after (bits_at prefixes i) (bits_at prefixes place) front g in
    elim (cases_lt i place) [
      | inl l ↦ less_is_not_greater (key_cmp (bits_at prefixes i) (bits_at prefixes place)) (up.rises i place l last.within) after
      | inr l ↦
          let e : i ≡ place = omega arith in
          let e' : length (bits_at prefixes i) ≡ length (bits_at prefixes place) = ap (λ j. length (bits_at prefixes j)) e in
          omega arith
    ]

-- where the last prefix up to a key begins it, this is the owner
pub owner_at_last : (prefixes : List (List Bool)) (key : List Bool) (place : ℕ) → IsRising prefixes → IsLastUpTo prefixes key place →
    Begins (bits_at prefixes place) key
    → IsOwner prefixes key place
owner_at_last prefixes key place up last b = record {
  within = last.within;
  begins = b;
  longest = λ i h d. elim (cases_lt (length (bits_at prefixes place)) (length (bits_at prefixes i))) [
    | inl g ↦ absurd (no_longer prefixes key place i up last b h d g)
    | inr g ↦ g
  ];
}

-- the last prefix up to the first n bits of a key begins these bits, where it begins the key
pub begins_front : (prefixes : List (List Bool)) (key : List Bool) (n place common : ℕ) → n ≤ length key → IsLastUpTo prefixes (take n key) place
    → IsCommonLength (bits_at prefixes place) key common → common ≡ length (bits_at prefixes place) → Begins (bits_at prefixes place) (take n key)
begins_front prefixes key n place common h last c e =
    elim (cases_lt n (length (bits_at prefixes place))) [
      | inl g ↦ absurd (last.upto place (omega arith) (past_front (bits_at prefixes place) key common n c (omega arith) g))
      | inr g ↦
          let all : take common (bits_at prefixes place) ≡ bits_at prefixes place = take_all common (bits_at prefixes place) (omega arith) in
          ap (λ k. take k (take n key)) (sym e) ∙ take-take common n key (omega arith) ∙ sym c.same ∙ all
    ]

-- where it does not, less is common than was asked for
pub less_common : (prefixes : List (List Bool)) (key : List Bool) (n place common : ℕ) → IsLastUpTo prefixes (take n key) place
    → IsCommonLength (bits_at prefixes place) key common → common ≢ length (bits_at prefixes place) → common < n
less_common prefixes key n place common last c d =
    elim (cases_lt common n) [
      | inl g ↦ g
      | inr g ↦
          let short : common < length (bits_at prefixes place) = omega (arith, c.within_first, d) in
          absurd (last.upto place (omega arith) (past_front (bits_at prefixes place) key common n c g (omega arith)))
    ]

-- the bit of a list at a place is that of what it begins
bit_of_beginning : (front key : List Bool) (k : ℕ) → Begins front key → k < length front → get_or front k false ≡ get_or key k false
bit_of_beginning front key k b h = ap (λ l. get_or l k false) (sym b) ∙ get_or-take (length front) key k false h

first_bits_of_beginning : (front key : List Bool) (k : ℕ) → Begins front key → k ≤ length front → take k front ≡ take k key
first_bits_of_beginning front key k b h = ap (take k) (sym b) ∙ take-take k (length front) key h

-- of two bits that differ, one comes before the other
turned : (x y : Bool) → bool_cmp x y ≡ Less → bool_cmp y x ≡ Greater
turned true true e = cc
turned true false e = cc
turned false true e = refl
turned false false e = cc

-- no prefix that begins the first n bits of a key has more bits than the key and the last prefix up to these have in common
differing : (prefixes : List (List Bool)) (key : List Bool) (n place common i : ℕ) → IsRising prefixes → n ≤ length key → IsLastUpTo prefixes (take n key) place
    → IsCommonLength (bits_at prefixes place) key common → common < length (bits_at prefixes place) → common < n
    → i < length prefixes → Begins (bits_at prefixes i) (take n key) → common < length (bits_at prefixes i) → ⊥
differing prefixes key n place common i up h last c short less within b g =
    let q : List Bool = bits_at prefixes i in
    let p : List Bool = bits_at prefixes place in
    let upto : i ≤ place = stands_upto prefixes (take n key) place i last within b in
    let bit : get_or q common false ≡ get_or key common false = bit_of_beginning q (take n key) common b g ∙ get_or-take n key common false less in
    let bits : take common q ≡ take common p =
    first_bits_of_beginning q (take n key) common b (omega arith) ∙ take-take common n key (omega arith) ∙ sym c.same in
    let apart : get_or q common false ≢ get_or p common false = λ e. c.apart short (omega (arith, h)) (sym e ∙ bit) in
    let later : key_cmp p (take n key) ≡ bool_cmp (get_or p common false) (get_or key common false) = apart_front p key common n c less h short in
    elim (cases_lt i place) [
      | inl l ↦
          let first : key_cmp q p ≡ Less = up.rises i place l last.within in
          let by_bit : bool_cmp (get_or q common false) (get_or p common false) ≡ Less = sym (difference_cmp q p common bits g short apart) ∙ first in
          let by_bit' : bool_cmp (get_or key common false) (get_or p common false) ≡ Less = ap (λ x. bool_cmp x (get_or p common false)) (sym bit) ∙ by_bit in
          last.upto place (omega arith) (later ∙ turned (get_or key common false) (get_or p common false) by_bit')
      | inr l ↦
          let e : i ≡ place = omega arith in
          apart (ap (λ j. get_or (bits_at prefixes j) common false) e)
    ]

-- and what begins the first n bits begins what is common
pub begins_common : (prefixes : List (List Bool)) (key : List Bool) (n place common i : ℕ) → IsRising prefixes → n ≤ length key →
    IsLastUpTo prefixes (take n key) place
    → IsCommonLength (bits_at prefixes place) key common → common < length (bits_at prefixes place) → common < n
    → i < length prefixes → Begins (bits_at prefixes i) (take n key) → Begins (bits_at prefixes i) (take common key)
begins_common prefixes key n place common i up h last c short less within b =
    elim (cases_lt common (length (bits_at prefixes i))) [
      | inl g ↦ absurd (differing prefixes key n place common i up h last c short less within b g)
      | inr g ↦
          let front : Begins (take common key) (take n key) =
          ap (λ k. take k (take n key)) (length-take-le common key (omega (arith, c.within_second))) ∙ take-take common n key (omega arith) in
          begins_shorter (bits_at prefixes i) (take common key) (take n key) b front (omega (arith, length-take-le common key (omega (arith, c.within_second))))
    ]

-- so the owner of what is common is the owner of the first n bits
pub owner_of_common : (prefixes : List (List Bool)) (key : List Bool) (n place common m : ℕ) → IsRising prefixes → n ≤ length key →
    IsLastUpTo prefixes (take n key) place
    → IsCommonLength (bits_at prefixes place) key common → common ≢ length (bits_at prefixes place)
    → IsOwner prefixes (take common key) m → IsOwner prefixes (take n key) m
owner_of_common prefixes key n place common m up h last c d owner =
    let short : common < length (bits_at prefixes place) = omega (arith, c.within_first, d) in
    let less : common < n = less_common prefixes key n place common last c d in
    let long : length (take common key) ≡ common = length-take-le common key (omega (arith, c.within_second)) in
    let front : Begins (take common key) (take n key) = ap (λ k. take k (take n key)) long ∙ take-take common n key (omega arith) in
    record {
      within = owner.within;
      begins = begins_trans (bits_at prefixes m) (take common key) (take n key) owner.begins front;
      longest = λ i g b. owner.longest i g (begins_common prefixes key n place common i up h last c short less g b);
    }

-- the prefixes that begin a list and are shorter are those that begin it without its last bit
pub parent_from_owner : (prefixes : List (List Bool)) (prefix : List Bool) (place : ℕ) → 0 < length prefix →
    IsOwner prefixes (take (length prefix - 1) prefix) place
    → IsParent prefixes prefix place
parent_from_owner prefixes prefix place h owner =
    let long : length (take (length prefix - 1) prefix) ≡ length prefix - 1 = length-take-le (length prefix - 1) prefix (omega arith) in
    let front : Begins (take (length prefix - 1) prefix) prefix = ap (λ k. take k prefix) long in
    record {
      within = owner.within;
      begins = begins_trans (bits_at prefixes place) (take (length prefix - 1) prefix) prefix owner.begins front;
      shorter = omega (arith, begins_within (bits_at prefixes place) (take (length prefix - 1) prefix) owner.begins, long);
      longest = λ i g b s. owner.longest i g (begins_shorter (bits_at prefixes i) (take (length prefix - 1) prefix) prefix b front (omega (arith, long)));
    }

-- each list stands at one place
pub one_place : (lists : List (List Bool)) (i j : ℕ) → IsRising lists → i < length lists → j < length lists → bits_at lists i ≡ bits_at lists j → i ≡ j
one_place lists i j up h g e =
    elim (cases_lt i j) [
      | inl l ↦ absurd (less_is_not_equal (bits_at lists i) (bits_at lists j) (up.rises i j l g) e)
      | inr l ↦ elim (cases_lt j i) [
        | inl m ↦ absurd (less_is_not_equal (bits_at lists j) (bits_at lists i) (up.rises j i m h) (sym e))
        | inr m ↦ omega arith
      ]
    ]

-- a key has one owner
pub one_owner : (prefixes : List (List Bool)) (key : List Bool) (i j : ℕ) → IsRising prefixes → IsOwner prefixes key i → IsOwner prefixes key j → i ≡ j
one_owner prefixes key i j up a b =
    let long : length (bits_at prefixes i) ≡ length (bits_at prefixes j) =
    omega (arith, a.longest j b.within b.begins, b.longest i a.within a.begins) in
    let same : bits_at prefixes i ≡ bits_at prefixes j = sym a.begins ∙ ap (λ n. take n key) long ∙ b.begins in
    one_place prefixes i j up a.within b.within same

-- a prefix owns itself
pub owns_itself : (prefixes : List (List Bool)) (i : ℕ) → i < length prefixes → IsOwner prefixes (bits_at prefixes i) i
owns_itself prefixes i h = record {
  within = h;
  begins = begins_itself (bits_at prefixes i);
  longest = λ j g b. begins_within (bits_at prefixes j) (bits_at prefixes i) b;
}

-- the last place up to a list is where the list stands
pub last_is : (lists : List (List Bool)) (key : List Bool) (place i : ℕ) → IsRising lists → IsLastUpTo lists key place → i < length lists →
    bits_at lists i ≡ key → place ≡ i
last_is lists key place i up last h same =
    let equal : key_cmp (bits_at lists i) key ≡ Equal = ap (λ l. key_cmp l key) same ∙ itself_cmp key in
    elim (cases_lt place i) [
      | inl l ↦ let e : Greater ≡ Equal = sym (last.above i l h) ∙ equal in cc
      | inr l ↦ elim (cases_lt i place) [
        | inl m ↦
            let less : key_cmp key (bits_at lists place) ≡ Less = subst (λ k. key_cmp k (bits_at lists place) ≡ Less) same (up.rises i place m last.within) in
            absurd (last.upto place (omega arith) (greater_from_less key (bits_at lists place) less))
        | inr m ↦ omega arith
      ]
    ]

pub some_length : (xs : List Bool) → xs ≢ [] → 0 < length xs
some_length [] d = absurd (d refl)
some_length (x ∷ xs) d = omega arith

-- a prefix has one parent
pub one_parent : (prefixes : List (List Bool)) (prefix : List Bool) (i j : ℕ) → IsRising prefixes → IsParent prefixes prefix i → IsParent prefixes prefix j →
    i ≡ j
one_parent prefixes prefix i j up a b =
    let long : length (bits_at prefixes i) ≡ length (bits_at prefixes j) =
    omega (arith, a.longest j b.within b.begins b.shorter, b.longest i a.within a.begins a.shorter) in
    let same : bits_at prefixes i ≡ bits_at prefixes j = sym a.begins ∙ ap (λ n. take n prefix) long ∙ b.begins in
    one_place prefixes i j up a.within b.within same
