-- Numbers of items: what stays where one is put in or taken out, or where more items come.
use Rattle.std.proofs.Common.{◌≡◌, ℕ, zero, suc, ◌+◌, ◌<◌, ◌≤◌, true, List, [], ◌∷◌, ◌++◌, length, refl, sym, ap, ◌∙◌, subst, arith, map, length-append, nat_lt, append_assoc, add-zero, zero-add}
use Rattle.std.specs.List.{insert, range_with_len, remove}
use Rattle.std.proofs.lemmas.Bool.{and_parts, and_from}
use Rattle.std.proofs.lemmas.Bool.Decides.{nat_tests}
use Rattle.std.proofs.lemmas.List.{get_or_append_left}
use Rattle.std.proofs.Math.Seq.{get_or-append_seam}
use Rattle.ml_list_desk.specs.inside.ItemList.{AreDifferent, are_within, IsNone, item_with, items_with, no_item}
use Rattle.ml_list_desk.specs.declared.list_item.ListItem.{ListItem}

-- a test as a fact, and back
pub below_from : (m n : ℕ) → nat_lt m n ≡ true → m < n
below_from m n e = grind (arith, nat_tests)

pub below_to : (m n : ℕ) → m < n → nat_lt m n ≡ true
below_to m n h = grind (arith, nat_tests)

-- ---- more items

pub within_grown : (pool more : List ListItem) (ns : List ℕ) → are_within pool ns ≡ true → are_within (pool ++ more) ns ≡ true
within_grown pool more [] e = refl
within_grown pool more (n ∷ ns) e =
    let parts = and_parts (nat_lt n (length pool)) (are_within pool ns) e in
    let l : n < length (pool ++ more) = omega (arith, below_from n (length pool) parts.0, length-append pool more) in
    and_from (nat_lt n (length (pool ++ more))) (are_within (pool ++ more) ns) (below_to n (length (pool ++ more)) l) (within_grown pool more ns parts.1)

pub items_grown : (pool more : List ListItem) (ns : List ℕ) → are_within pool ns ≡ true → items_with (pool ++ more) ns ≡ items_with pool ns
items_grown pool more [] e = refl
items_grown pool more (n ∷ ns) e =
    let parts = and_parts (nat_lt n (length pool)) (are_within pool ns) e in
    let same : item_with (pool ++ more) n ≡ item_with pool n = get_or_append_left pool more no_item n (below_from n (length pool) parts.0) in
    let rest : items_with (pool ++ more) ns ≡ items_with pool ns = items_grown pool more ns parts.1 in
    cc

pub last_item : (pool : List ListItem) (x : ListItem) → item_with (pool ++ x ∷ []) (length pool) ≡ x
last_item pool x = get_or-append_seam pool x [] no_item

-- ---- a number put in

pub within_inserted : (pool : List ListItem) (ns : List ℕ) (at n : ℕ) → are_within pool ns ≡ true → n < length pool
    → are_within pool (insert ns at n) ≡ true
within_inserted pool ns zero n e l = and_from (nat_lt n (length pool)) (are_within pool ns) (below_to n (length pool) l) e
within_inserted pool [] (suc at) n e l = and_from (nat_lt n (length pool)) true (below_to n (length pool) l) refl
within_inserted pool (m ∷ ns) (suc at) n e l =
    let parts = and_parts (nat_lt m (length pool)) (are_within pool ns) e in
    and_from (nat_lt m (length pool)) (are_within pool (insert ns at n)) parts.0 (within_inserted pool ns at n parts.1 l)

none_inserted : (m : ℕ) (ns : List ℕ) (at n : ℕ) → IsNone m ns → (m ≡ n → ⊥) → IsNone m (insert ns at n)
none_inserted m ns zero n h d = (d, h)
none_inserted m [] (suc at) n h d = (d, tt)
none_inserted m (k ∷ ns) (suc at) n h d = (h.0, none_inserted m ns at n h.1 d)

different_inserted : (ns : List ℕ) (at n : ℕ) → AreDifferent ns → IsNone n ns → AreDifferent (insert ns at n)
different_inserted ns zero n h d = (d, h)
different_inserted [] (suc at) n h d = (tt, tt)
different_inserted (m ∷ ns) (suc at) n h d = (none_inserted m ns at n h.0 (λ q. d.0 (sym q)), different_inserted ns at n h.1 d.1)

none_of_them : (pool : List ListItem) (ns : List ℕ) (n : ℕ) → are_within pool ns ≡ true → length pool ≤ n → IsNone n ns
none_of_them pool [] n e h = tt
none_of_them pool (m ∷ ns) n e h =
    let parts = and_parts (nat_lt m (length pool)) (are_within pool ns) e in
    let l : m < length pool = below_from m (length pool) parts.0 in
    ((λ q. omega arith), none_of_them pool ns n parts.1 h)

-- a number that no item had
pub new_is_different : (pool : List ListItem) (ns : List ℕ) (at : ℕ) → are_within pool ns ≡ true → AreDifferent ns
    → AreDifferent (insert ns at (length pool))
new_is_different pool ns at e h = different_inserted ns at (length pool) h (none_of_them pool ns (length pool) e (omega arith))

pub map_inserted : {A B : Type 0} (f : A → B) (xs : List A) (at : ℕ) (x : A) → map f (insert xs at x) ≡ insert (map f xs) at (f x)
map_inserted f xs zero x = refl
map_inserted f [] (suc at) x = refl
map_inserted f (y ∷ xs) (suc at) x = ap (λ ys. f y ∷ ys) (map_inserted f xs at x)

pub length_inserted : {A : Type 0} (xs : List A) (at : ℕ) (x : A) → length (insert xs at x) ≡ length xs + 1
length_inserted xs zero x = omega arith
length_inserted [] (suc at) x = omega arith
length_inserted (y ∷ xs) (suc at) x = omega (arith, length_inserted xs at x)

-- ---- a number taken out

pub within_removed : (pool : List ListItem) (ns : List ℕ) (at : ℕ) → are_within pool ns ≡ true → are_within pool (remove ns at) ≡ true
within_removed pool [] zero e = refl
within_removed pool [] (suc at) e = refl
within_removed pool (n ∷ ns) zero e = (and_parts (nat_lt n (length pool)) (are_within pool ns) e).1
within_removed pool (n ∷ ns) (suc at) e =
    let parts = and_parts (nat_lt n (length pool)) (are_within pool ns) e in
    and_from (nat_lt n (length pool)) (are_within pool (remove ns at)) parts.0 (within_removed pool ns at parts.1)

none_removed : (m : ℕ) (ns : List ℕ) (at : ℕ) → IsNone m ns → IsNone m (remove ns at)
none_removed m [] zero h = tt
none_removed m [] (suc at) h = tt
none_removed m (n ∷ ns) zero h = h.1
none_removed m (n ∷ ns) (suc at) h = (h.0, none_removed m ns at h.1)

pub different_removed : (ns : List ℕ) (at : ℕ) → AreDifferent ns → AreDifferent (remove ns at)
different_removed [] zero h = tt
different_removed [] (suc at) h = tt
different_removed (n ∷ ns) zero h = h.1
different_removed (n ∷ ns) (suc at) h = (none_removed n ns at h.0, different_removed ns at h.1)

pub map_removed : {A B : Type 0} (f : A → B) (xs : List A) (at : ℕ) → map f (remove xs at) ≡ remove (map f xs) at
map_removed f [] zero = refl
map_removed f [] (suc at) = refl
map_removed f (x ∷ xs) zero = refl
map_removed f (x ∷ xs) (suc at) = ap (λ ys. f x ∷ ys) (map_removed f xs at)

pub length_removed : {A : Type 0} (xs : List A) (at : ℕ) → length (remove xs at) ≤ length xs
length_removed [] zero = omega arith
length_removed [] (suc at) = omega arith
length_removed (x ∷ xs) zero = omega arith
length_removed (x ∷ xs) (suc at) = omega (arith, length_removed xs at)

-- ---- all numbers in turn

seam : (front rest : List ListItem) (x : ListItem) → (front ++ x ∷ []) ++ rest ≡ front ++ x ∷ rest
seam front rest x = append_assoc front (x ∷ []) rest

one_more : (front : List ListItem) (x : ListItem) → length (front ++ x ∷ []) ≡ length front + 1
one_more front x = omega (arith, length-append front (x ∷ []))

items_from : (front rest : List ListItem) → items_with (front ++ rest) (range_with_len (length front) (length rest)) ≡ rest
items_from front [] = refl
items_from front (x ∷ rest) =
    let first : item_with (front ++ x ∷ rest) (length front) ≡ x = get_or-append_seam front x rest no_item in
    let others : items_with (front ++ x ∷ rest) (range_with_len (length front + 1) (length rest)) ≡ rest =
    subst (λ pool. items_with pool (range_with_len (length front + 1) (length rest)) ≡ rest) (seam front rest x)
    (subst (λ n. items_with ((front ++ x ∷ []) ++ rest) (range_with_len n (length rest)) ≡ rest) (one_more front x) (items_from (front ++ x ∷ []) rest)) in
    cc

pub items_in_turn : (pool : List ListItem) → items_with pool (range_with_len 0 (length pool)) ≡ pool
items_in_turn pool = items_from [] pool

within_from : (pool : List ListItem) (a n : ℕ) → a + n ≤ length pool → are_within pool (range_with_len a n) ≡ true
within_from pool a zero h = refl
within_from pool a (suc n) h =
    and_from (nat_lt a (length pool)) (are_within pool (range_with_len (a + 1) n)) (below_to a (length pool) (omega arith))
    (within_from pool (a + 1) n (omega arith))

pub within_in_turn : (pool : List ListItem) → are_within pool (range_with_len 0 (length pool)) ≡ true
within_in_turn pool = within_from pool 0 (length pool) (omega arith)

none_from : (m a n : ℕ) → m < a → IsNone m (range_with_len a n)
none_from m a zero h = tt
none_from m a (suc n) h = ((λ q. omega arith), none_from m (a + 1) n (omega arith))

pub different_in_turn : (a n : ℕ) → AreDifferent (range_with_len a n)
different_in_turn a zero = tt
different_in_turn a (suc n) = (none_from a (a + 1) n (omega arith), different_in_turn (a + 1) n)

pub turn_more : (a n : ℕ) → range_with_len a (n + 1) ≡ range_with_len a n ++ (a + n) ∷ []
turn_more a zero = rw (add-zero) refl
turn_more a (suc n) =
    let up : suc n + 1 ≡ suc (n + 1) = omega arith in
    let same : a + 1 + n ≡ a + suc n = omega arith in
    ap (range_with_len a) up ∙ ap (λ ns. a ∷ ns) (turn_more (a + 1) n ∙ ap (λ k. range_with_len (a + 1) n ++ k ∷ []) same)

pub length_in_turn : (a n : ℕ) → length (range_with_len a n) ≡ n
length_in_turn a zero = refl
length_in_turn a (suc n) = ap suc (length_in_turn (a + 1) n)

pub turn_on : (n : ℕ) → range_with_len 0 (n + 1) ≡ range_with_len 0 n ++ n ∷ []
turn_on n = turn_more 0 n ∙ ap (λ k. range_with_len 0 n ++ k ∷ []) (zero-add n)
