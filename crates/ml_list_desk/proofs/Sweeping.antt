-- Items with an id taken out one after another, from the last on.
use Rattle.std.proofs.Common.{◌≡◌, ℕ, zero, suc, ◌<◌, ◌≤◌, Bool, true, false, List, [], ◌∷◌, ◌++◌, length, take, drop, refl, sym, ap, ◌∙◌, arith}
use Rattle.std.specs.Prelude.{if◌then◌else◌, ◌||◌}
use Rattle.std.specs.List.{remove}
use Rattle.ml_list_desk.proofs.Numbers.{map_removed}
use Rattle.std.specs.Option.{is_some}
use Rattle.ml_list_desk.specs.inside.ItemList.{item_with}
use Rattle.ml_list_desk.specs.Items.{item_seen, items_seen}
use Rattle.ml_list_desk.specs.declared.list_item.ListItem.{ListItem}
use Rattle.ml_search.specs.Changes.{without_id}
use Rattle.ml_search.specs.Db.{Id, is_same_id, Item, with_id}

-- the items of a list from a place on were looked at
abbrev pub swept : Id → List Item → ℕ → List Item
swept a is n = take n is ++ without_id a (drop n is)

-- the item before that place
abbrev pub id_at : List Item → ℕ → Id → Id
id_at [] n a = a
id_at (i ∷ is) zero a = i.id
id_at (i ∷ is) (suc n) a = id_at is n a

-- one that has the id goes
pub swept_out : (a : Id) (is : List Item) (n : ℕ) → n < length is → is_same_id (id_at is n a) a ≡ true → remove (swept a is (suc n)) n ≡ swept a is n
swept_out a [] n h e = absurd (omega arith)
swept_out a (i ∷ is) zero h e = rw e refl
swept_out a (i ∷ is) (suc n) h e = ap (λ js. i ∷ js) (swept_out a is n (omega arith) e)

-- and the others stay
pub swept_by : (a : Id) (is : List Item) (n : ℕ) → n < length is → is_same_id (id_at is n a) a ≡ false → swept a is (suc n) ≡ swept a is n
swept_by a [] n h e = absurd (omega arith)
swept_by a (i ∷ is) zero h e = rw e refl
swept_by a (i ∷ is) (suc n) h e = ap (λ js. i ∷ js) (swept_by a is n (omega arith) e)

-- whether one was found
pub found_here : (a : Id) (is : List Item) (n : ℕ) → n < length is → is_same_id (id_at is n a) a ≡ true → is_some (with_id a (drop n is)) ≡ true
found_here a [] n h e = absurd (omega arith)
found_here a (i ∷ is) zero h e = rw e refl
found_here a (i ∷ is) (suc n) h e = found_here a is n (omega arith) e

pub found_before : (a : Id) (is : List Item) (n : ℕ) → n < length is → is_same_id (id_at is n a) a ≡ false
    → with_id a (drop n is) ≡ with_id a (drop (suc n) is)
found_before a [] n h e = absurd (omega arith)
found_before a (i ∷ is) zero h e = rw e refl
found_before a (i ∷ is) (suc n) h e = found_before a is n (omega arith) e

-- at first nothing was looked at, and at last everything
pub swept_none : (a : Id) (is : List Item) → swept a is (length is) ≡ is
swept_none a [] = refl
swept_none a (i ∷ is) = ap (λ js. i ∷ js) (swept_none a is)

pub none_found : (a : Id) (is : List Item) → with_id a (drop (length is) is) ≡ with_id a []
none_found a [] = refl
none_found a (i ∷ is) = none_found a is

-- the place is one of the list as it is
pub swept_length : (a : Id) (is : List Item) (n : ℕ) → n ≤ length is → n ≤ length (swept a is n)
swept_length a is zero h = omega arith
swept_length a [] (suc n) h = absurd (omega arith)
swept_length a (i ∷ is) (suc n) h = omega (arith, swept_length a is n (omega arith))

-- the item before it is that of the list as it was
pub id_there : (a : Id) (is : List Item) (items : List ListItem) (n : ℕ) → n < length is → items_seen items ≡ swept a is (suc n)
    → (item_seen (item_with items n)).id ≡ id_at is n a
id_there a [] items n h e = absurd (omega arith)
id_there a (i ∷ is) [] zero h e = absurd (cc e)
id_there a (i ∷ is) [] (suc n) h e = absurd (cc e)
id_there a (i ∷ is) (x ∷ items) zero h e = let q : item_seen x ≡ i = cc in ap (λ j. j.id) q
id_there a (i ∷ is) (x ∷ items) (suc n) h e = let q : items_seen items ≡ swept a is (suc n) = cc in id_there a is items n (omega arith) q

pub seen_removed : (items : List ListItem) (n : ℕ) → items_seen (remove items n) ≡ remove (items_seen items) n
seen_removed items n = map_removed item_seen items n

-- one item more is looked at
pub record IsSwept (a : Id) (is : List Item) (items' : List ListItem) (n : ℕ) (found : Bool) : Type 0 where
  pub items : items_seen items' ≡ swept a is n
  pub found_is : found ≡ is_some (with_id a (drop n is))

pub swept_on : (a : Id) (is : List Item) (items items' : List ListItem) (n : ℕ) (gone found : Bool) → n < length is → items_seen items ≡ swept a is (suc n)
    → found ≡ is_some (with_id a (drop (suc n) is)) → gone ≡ is_same_id (item_seen (item_with items n)).id a
    → items_seen items' ≡ (if gone then remove (items_seen items) n else items_seen items) → IsSwept a is items' n (found || gone)
swept_on a is items items' n true found h e f g r =
    let same : is_same_id (id_at is n a) a ≡ true = ap (λ i. is_same_id i a) (sym (id_there a is items n h e)) ∙ sym g in
    record {
      items = r ∙ ap (λ js. remove js n) e ∙ swept_out a is n h same;
      found_is = by found ∙ sym (found_here a is n h same);
    }
  where
    by : (b : Bool) → (b || true) ≡ true
    by true = refl
    by false = refl
swept_on a is items items' n false found h e f g r =
    let other : is_same_id (id_at is n a) a ≡ false = ap (λ i. is_same_id i a) (sym (id_there a is items n h e)) ∙ sym g in
    record {
      items = r ∙ e ∙ swept_by a is n h other;
      found_is = by found ∙ f ∙ ap is_some (sym (found_before a is n h other));
    }
  where
    by : (b : Bool) → (b || false) ≡ b
    by true = refl
    by false = refl
