-- What the code keeps of a list stays: at first, where an item comes, and where one goes.
use Rattle.std.proofs.Common.{◌≡◌, ℕ, ◌+◌, ◌≤◌, true, List, [], ◌∷◌, ◌++◌, length, refl, sym, ap, ◌∙◌, subst, arith}
use Rattle.std.specs.List.{insert, range_with_len, remove}
use Rattle.std.proofs.lemmas.Bool.{and_parts, and_from}
use Rattle.ml_list_desk.specs.inside.ItemList.{AreDifferent, are_allowed, are_within, IsKept, item_with, ItemList, items_with}
use Rattle.ml_list_desk.specs.Items.{item_seen, items_seen}
use Rattle.ml_list_desk.specs.declared.list_item.ListItem.{ListItem}
use Rattle.ml_list_desk.proofs.KeyOrder.{rises_removed}
use Rattle.ml_list_desk.proofs.Numbers.{different_in_turn, different_removed, items_grown, items_in_turn, last_item, length_in_turn, length_inserted, length_removed, map_inserted, map_removed, new_is_different, within_grown, within_in_turn, within_inserted, within_removed}
use Rattle.ml_search.specs.Db.{is_allowed, rises}
use Rattle.ml_term.specs.Seen.{seen}
use Rattle.ml_term.specs.declared.declaration.Decl.{Decl}
use Rattle.ml_term.specs.declared.declaration.Kind.TheVariants.{Relation}
use Rattle.ml_term.specs.declared.term.Term.{Term}

-- a list by its parts
abbrev pub listed : Decl → List ListItem → List ListItem → ItemList
listed d items pool = record { decl = d; items = items; pool = pool }

-- ---- all items in turn

pub all_in_turn : (pool : List ListItem) (ns : List ℕ) (n : ℕ) → ns ≡ range_with_len 0 n → n ≡ length pool → items_with pool ns ≡ pool
all_in_turn pool ns n e f = ap (items_with pool) (e ∙ ap (range_with_len 0) f) ∙ items_in_turn pool

pub kept_in_turn : (d : Decl) (pool : List ListItem) (ns : List ℕ) (room : List Term) (n capacity : ℕ) → ns ≡ range_with_len 0 n → n ≡ length pool
    → room ≡ [] → n ≤ capacity
    → are_allowed d pool ≡ true → (d.kind ≡ Relation → rises d.keys (items_seen pool) ≡ true) → IsKept d pool ns room capacity
kept_in_turn d pool ns room n capacity e f g h a r =
    let all : ns ≡ range_with_len 0 (length pool) = e ∙ ap (range_with_len 0) f in
    record {
      within = subst (λ ms. are_within pool ms ≡ true) (sym all) (within_in_turn pool);
      different = subst AreDifferent (sym all) (different_in_turn 0 (length pool));
      allowed = a;
      ordered = λ k. subst (λ is. rises d.keys (items_seen is) ≡ true) (sym (all_in_turn pool ns n e f)) (r k);
      empty = g;
      roomy = let count : length ns ≡ n = ap length e ∙ length_in_turn 0 n in omega arith;
    }

-- ---- an item less

pub items_removed : (pool : List ListItem) (ns ms : List ℕ) (at : ℕ) → ms ≡ remove ns at → items_with pool ms ≡ remove (items_with pool ns) at
items_removed pool ns ms at e = ap (items_with pool) e ∙ map_removed (item_with pool) ns at

pub kept_removed : (d : Decl) (pool : List ListItem) (ns ms : List ℕ) (room : List Term) (capacity at : ℕ) → ms ≡ remove ns at
    → IsKept d pool ns room capacity → IsKept d pool ms room capacity
kept_removed d pool ns ms room capacity at e k = record {
  within = subst (λ js. are_within pool js ≡ true) (sym e) (within_removed pool ns at k.within);
  different = subst AreDifferent (sym e) (different_removed ns at k.different);
  allowed = k.allowed;
  ordered = λ q.
      subst (λ is. rises d.keys is ≡ true) (sym (ap items_seen (items_removed pool ns ms at e) ∙ map_removed item_seen (items_with pool ns) at))
      (rises_removed d.keys (items_seen (items_with pool ns)) at (k.ordered q));
  empty = k.empty;
  roomy = let fewer : length ms ≤ length ns = subst (λ js. length js ≤ length ns) (sym e) (length_removed ns at) in omega (arith, k.roomy);
}

-- ---- an item more

allowed_more : (d : Decl) (pool : List ListItem) (x : ListItem) → are_allowed d pool ≡ true → is_allowed d (seen x.term) ≡ true
    → are_allowed d (pool ++ x ∷ []) ≡ true
allowed_more d [] x a b = and_from (is_allowed d (seen x.term)) true b refl
allowed_more d (i ∷ pool) x a b =
    let parts = and_parts (is_allowed d (seen i.term)) (are_allowed d pool) a in
    and_from (is_allowed d (seen i.term)) (are_allowed d (pool ++ x ∷ [])) parts.0 (allowed_more d pool x parts.1 b)

pub items_inserted : (pool more : List ListItem) (ns ms : List ℕ) (x : ListItem) (at n : ℕ) → are_within pool ns ≡ true → more ≡ pool ++ x ∷ []
    → ms ≡ insert ns at n → n ≡ length pool
    → items_with more ms ≡ insert (items_with pool ns) at x
items_inserted pool more ns ms x at n w e f g =
    ap (λ p. items_with p ms) e
    ∙ ap (items_with (pool ++ x ∷ [])) f
    ∙ map_inserted (item_with (pool ++ x ∷ [])) ns at n
    ∙ ap (λ is. insert is at (item_with (pool ++ x ∷ []) n)) (items_grown pool (x ∷ []) ns w)
    ∙ ap (insert (items_with pool ns) at) (ap (item_with (pool ++ x ∷ [])) g ∙ last_item pool x)

pub kept_inserted : (d : Decl) (pool more : List ListItem) (ns ms : List ℕ) (room room' : List Term) (x : ListItem) (at n capacity capacity' : ℕ)
    → more ≡ pool ++ x ∷ [] → ms ≡ insert ns at n → n ≡ length pool
    → room' ≡ room → length ns + 1 ≤ capacity' → is_allowed d (seen x.term) ≡ true
    → (d.kind ≡ Relation → rises d.keys (insert (items_seen (items_with pool ns)) at (item_seen x)) ≡ true) → IsKept d pool ns room capacity
    → IsKept d more ms room' capacity'
kept_inserted d pool more ns ms room room' x at n capacity capacity' e f g h l a r k = record {
  within =
      subst (λ p. are_within p ms ≡ true) (sym e)
      (subst (λ js. are_within (pool ++ x ∷ []) js ≡ true) (sym f)
      (within_inserted (pool ++ x ∷ []) ns at n (within_grown pool (x ∷ []) ns k.within) (omega (arith, g, one_longer pool x))));
  different = subst AreDifferent (sym (f ∙ ap (insert ns at) g)) (new_is_different pool ns at k.within k.different);
  allowed = subst (λ p. are_allowed d p ≡ true) (sym e) (allowed_more d pool x k.allowed a);
  ordered = λ q.
      subst (λ is. rises d.keys is ≡ true)
      (sym (ap items_seen (items_inserted pool more ns ms x at n k.within e f g) ∙ map_inserted item_seen (items_with pool ns) at x)) (r q);
  empty = h ∙ k.empty;
  roomy = let longer : length ms ≡ length ns + 1 = ap length f ∙ length_inserted ns at n in omega arith;
}
  where
    one_longer : (pool : List ListItem) (x : ListItem) → length (pool ++ x ∷ []) ≡ length pool + 1
    one_longer [] x = omega arith
    one_longer (i ∷ pool) x = omega (arith, one_longer pool x)
