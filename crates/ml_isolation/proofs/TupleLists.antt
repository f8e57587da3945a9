-- Lists of tuples in the order of their keys.
use Rattle.std.specs.Prelude.{◌≡◌, ℕ, Bool, true, false, List, [], ◌∷◌, cond}
use Rattle.std.specs.declared.cmp.Ordering.TheVariants.{Equal}
use Rattle.std.proofs.Common.{refl, sym, ◌∙◌, subst}
use Rattle.std.proofs.lemmas.Bool.{or_parts}
use Rattle.ml_term.specs.Tree.{Tree}
use Rattle.ml_term.specs.Keys.{tuple_cmp}
use Rattle.ml_term.specs.Valid.{is_valid}
use Rattle.ml_search.specs.Db.{Item, is_less, is_same, rises}
use Rattle.ml_search.specs.Changes.{insert_by_key, has_term}
use Rattle.ml_isolation.proofs.Ordered.{Each, each_by, Ordered, chain, ordered_chain, chain_ordered}
use Rattle.ml_isolation.proofs.TermOrders.{key_total, key_tells, less_through, not_less_turned, same_term}

-- the key of one tuple comes before that of another
abbrev pub is_before : List ℕ → Item → Item → Bool
is_before keys i j = is_less (tuple_cmp keys i.term j.term)

abbrev pub IsBefore : List ℕ → Item → Item → Type 0
IsBefore keys i j = is_before keys i j ≡ true

before_through : (keys : List ℕ) (i j k : Item) → IsBefore keys i j → IsBefore keys j k → IsBefore keys i k
before_through keys i j k = less_through (tuple_cmp keys) (key_total keys) i.term j.term k.term

rises_by_chain : (keys : List ℕ) (is : List Item) → rises keys is ≡ chain (is_before keys) is
rises_by_chain keys [] = refl
rises_by_chain keys (i ∷ []) = refl
rises_by_chain keys (i ∷ j ∷ is) = rw (rises_by_chain keys (j ∷ is)) refl

pub rising_ordered : (keys : List ℕ) (is : List Item) → rises keys is ≡ true → Ordered (IsBefore keys) is
rising_ordered keys is h = ordered_chain (is_before keys) (before_through keys) is (sym (rises_by_chain keys is) ∙ h)

pub ordered_rises : (keys : List ℕ) (is : List Item) → Ordered (IsBefore keys) is → rises keys is ≡ true
ordered_rises keys is o = rises_by_chain keys is ∙ chain_ordered (is_before keys) is o

-- a tuple put at its key's place
pub each_inserted : (P : Item → Type 0) (keys : List ℕ) (i : Item) (js : List Item) → P i → Each P js → Each P (insert_by_key keys i js)
each_inserted P keys i [] p e = (p, tt)
each_inserted P keys i (j ∷ js) p e = chosen (is_before keys i j) (each_inserted P keys i js p e.1)
  where
    chosen : (b : Bool) → Each P (insert_by_key keys i js) → Each P (cond b (i ∷ j ∷ js) (j ∷ insert_by_key keys i js))
    chosen true h = (p, e)
    chosen false h = (e.0, h)

pub ordered_inserted : (keys : List ℕ) (i : Item) (js : List Item) → Ordered (IsBefore keys) js →
    Each (λ j. tuple_cmp keys i.term j.term ≡ Equal → ⊥) js
    → Ordered (IsBefore keys) (insert_by_key keys i js)
ordered_inserted keys i [] o n = (tt, tt)
ordered_inserted keys i (j ∷ js) o n = chosen (is_before keys i j) refl (ordered_inserted keys i js o.1 n.1)
  where
    chosen : (b : Bool) → is_before keys i j ≡ b → Ordered (IsBefore keys) (insert_by_key keys i js) →
        Ordered (IsBefore keys) (cond b (i ∷ j ∷ js) (j ∷ insert_by_key keys i js))
    chosen true h rest = ((h, each_by (IsBefore keys j) (IsBefore keys i) js (λ k e. before_through keys i j k h e) o.0), o)
    chosen false h rest =
        (each_inserted (IsBefore keys j) keys i js (not_less_turned (tuple_cmp keys) (key_total keys) i.term j.term h n.0) o.0, rest)

-- a tuple that isn't in a list has a key of its own
both_ways : (b : Bool) → b ≡ true → b ≡ false → ⊥
both_ways true p q = cc q
both_ways false p q = cc p

pub own_key : (keys : List ℕ) (t : Tree) (js : List Item) → is_valid t ≡ true → has_term t js ≡ false → Each (λ j. is_valid j.term ≡ true) js →
    Each (λ j. tuple_cmp keys t j.term ≡ Equal → ⊥) js
own_key keys t [] v h e = tt
own_key keys t (j ∷ js) v h e =
    let p = or_parts (is_same j.term t) (has_term t js) h in (
      λ q. both_ways (is_same j.term t) (subst (λ z. is_same z t ≡ true) (key_tells keys t j.term v e.0 q) (same_term t)) p.0,
      own_key keys t js v p.1 e.1,
    )
