-- Items read by their places in a list.
use Rattle.std.proofs.Common.{◌≡◌, ℕ, zero, suc, ◌<◌, true, List, [], ◌∷◌, length, get_or, refl, sym, ap, ◌∙◌, subst, arith}
use Rattle.std.proofs.lemmas.List.{get_or_read}
use Rattle.std.specs.Prelude.{nat_lt}
use Rattle.std.proofs.lemmas.Bool.{and_parts}
use Rattle.ml_list_desk.specs.inside.ItemList.{are_allowed, are_within, IsKept, item_with, items_with, no_item}
use Rattle.ml_list_desk.specs.declared.list_item.ListItem.{ListItem}
use Rattle.ml_list_desk.proofs.Numbers.{below_from}
use Rattle.ml_search.specs.Db.{is_allowed}
use Rattle.ml_term.specs.Seen.{seen}
use Rattle.ml_term.specs.declared.declaration.Decl.{Decl}
use Rattle.ml_term.specs.declared.term.Term.{Term}

pub as_many : (pool : List ListItem) (ns : List ℕ) → length (items_with pool ns) ≡ length ns
as_many pool [] = refl
as_many pool (n ∷ ns) = ap suc (as_many pool ns)

-- the number at a place is that of an item
pub number_within : (pool : List ListItem) (ns : List ℕ) (at n : ℕ) → are_within pool ns ≡ true → at < length ns → n ≡ get_or ns at 0 → n < length pool
number_within pool [] at n w h e = absurd (omega arith)
number_within pool (m ∷ ns) zero n w h e =
    let l : m < length pool = below_from m (length pool) (and_parts (nat_lt m (length pool)) (are_within pool ns) w).0 in
    omega arith
number_within pool (m ∷ ns) (suc at) n w h e = number_within pool ns at n (and_parts (nat_lt m (length pool)) (are_within pool ns) w).1 (omega arith) e

-- the item with that number stands there
pub item_there : (pool : List ListItem) (ns : List ℕ) (at n : ℕ) → at < length ns → n ≡ get_or ns at 0
    → item_with (items_with pool ns) at ≡ item_with pool n
item_there pool [] at n h e = absurd (omega arith)
item_there pool (m ∷ ns) zero n h e = ap (item_with pool) (sym e)
item_there pool (m ∷ ns) (suc at) n h e = item_there pool ns at n (omega arith) e

-- an item is one that the list may hold
pub allowed_there : (d : Decl) (pool : List ListItem) (n : ℕ) → are_allowed d pool ≡ true → n < length pool
    → is_allowed d (seen (item_with pool n).term) ≡ true
allowed_there d [] n a h = absurd (omega arith)
allowed_there d (i ∷ pool) zero a h = (and_parts (is_allowed d (seen i.term)) (are_allowed d pool) a).0
allowed_there d (i ∷ pool) (suc n) a h = allowed_there d pool n (and_parts (is_allowed d (seen i.term)) (are_allowed d pool) a).1 (omega arith)

-- what is read of a list by a place: a number, and its item
pub record IsItemAt (d : Decl) (pool : List ListItem) (numbers : List ℕ) (at n : ℕ) (item : ListItem) : Type 0 where
  pub number : n ≡ get_or numbers at 0
  pub within : n < length pool
  pub item_is : item ≡ item_with pool n
  pub there : item ≡ item_with (items_with pool numbers) at
  pub allowed : is_allowed d (seen item.term) ≡ true

pub item_read : (d : Decl) (pool : List ListItem) (numbers : List ℕ) (room : List Term) (capacity at n : ℕ) (item : ListItem)
    → IsKept d pool numbers room capacity → at < length numbers → n ≡ get_or numbers at n
    → item ≡ get_or pool n item → IsItemAt d pool numbers at n item
item_read d pool numbers room capacity at n item k h e f =
    let number : n ≡ get_or numbers at 0 = get_or_read numbers at n h e 0 in
    let within : n < length pool = number_within pool numbers at n k.within h number in
    let is : item ≡ item_with pool n = get_or_read pool n item within f no_item in
    record {
      number = number;
      within = within;
      item_is = is;
      there = is ∙ sym (item_there pool numbers at n h number);
      allowed = subst (λ (i : ListItem). is_allowed d (seen i.term) ≡ true) (sym is) (allowed_there d pool n k.allowed within);
    }
