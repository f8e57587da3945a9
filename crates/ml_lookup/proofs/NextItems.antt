-- The first of some items that is met behind a key.
use Rattle.std.proofs.Common.{◌≡◌, ◌≢◌, ◌⊎◌, inl, inr, ℕ, ◌<◌, Bool, List, [], ◌++◌, length, get_or, refl, sym, ap, ◌∙◌, subst, arith}
use Rattle.std.specs.Prelude.{Contains, MatchOption, Option, Some, None}
use Rattle.std.specs.Borrow.{Bor}
use Rattle.std.specs.declared.cmp.Ordering.{Ordering}
use Rattle.std.specs.declared.cmp.Ordering.TheVariants.{Less, Equal, Greater}
use Rattle.std.proofs.lemmas.Bool.{cases_lt}
use Rattle.std.proofs.lemmas.List.{get_or_default, length-map}
use Rattle.std.proofs.lemmas.List.Elements.{Contains-append_left, Contains-append_right, Contains-append_cases}
use Rattle.ml_bits.specs.BitList.{BitList}
use Rattle.ml_bits.proofs.OrderLaws.{itself_cmp, same_from_cmp}
use Rattle.ml_region.proofs.FoundItems.{key_of_item}
use Rattle.ml_region.proofs.KeyOrder.{greater_from_less, less_from_greater, less_trans}
use Rattle.ml_region.specs.Prefixes.{IsRising, bits_at}
use Rattle.ml_region.specs.Regions.{keys_of}
use Rattle.ml_region.specs.declared.item.Item.{Item}
use Rattle.ml_term.specs.Keys.{key_cmp}
use Rattle.ml_term.specs.Tree.{Tree}
use Rattle.ml_term.specs.declared.declaration.Kind.{Kind}
use Rattle.ml_lookup.specs.Next.{HasNoneMet, IsMet, IsNextIn, IsNextMet}

-- ---- the order of keys

-- what comes before a key comes before all that doesn't come before that key
pub before_all : (x y z : List Bool) → key_cmp x y ≡ Less → key_cmp z y ≢ Less → key_cmp x z ≡ Less
before_all x y z e d = by (key_cmp z y) refl
  where
    by : (o : Ordering) → key_cmp z y ≡ o → key_cmp x z ≡ Less
    by Less f = absurd (d f)
    by Equal f = subst (λ k. key_cmp x k ≡ Less) (sym (same_from_cmp z y f)) e
    by Greater f = less_trans x y z e (less_from_greater z y f)

pub not_itself : (x : List Bool) → key_cmp x x ≢ Less
not_itself x e = let f : Equal ≡ Less = sym (itself_cmp x) ∙ e in cc

pub not_back : (x y : List Bool) → key_cmp x y ≡ Less → key_cmp y x ≢ Less
not_back x y e f = let g : Greater ≡ Less = sym (greater_from_less x y e) ∙ f in cc

-- ---- among two lists

module _ (kind : Kind) (pattern : Tree) (after : Option BitList) where
  pub none_in : HasNoneMet kind pattern after []
  none_in x there met = absurd (omega (arith, there.1))

  pub second_in : (items others : List Item) (found : Option (Bor Item)) → HasNoneMet kind pattern after items → IsNextIn kind pattern after others found →
      IsNextIn kind pattern after (items ++ others) found
  second_in items others None none next = λ x there met. elim (Contains-append_cases items others x there) [
    | inl h ↦ none x h met
    | inr h ↦ next x h met
  ]
  second_in items others (Some y) none next = record {
    inside = Contains-append_right items others y.now next.inside;
    met = next.met;
    first = λ x there met. elim (Contains-append_cases items others x there) [
      | inl h ↦ absurd (none x h met)
      | inr h ↦ next.first x h met
    ];
  }

  pub first_stays : (items others : List Item) (one : Bor Item) (found : Option (Bor Item)) → IsNextMet kind pattern after items one.now →
      IsNextIn kind pattern after others found → (MatchOption found ⊥ (λ (y : Bor Item). key_cmp y.now.key.bits one.now.key.bits ≡ Less) → ⊥)
      → IsNextMet kind pattern after (items ++ others) one.now
  first_stays items others one None is next far = record {
    inside = Contains-append_left items others one.now is.inside;
    met = is.met;
    first = λ x there met. elim (Contains-append_cases items others x there) [
      | inl h ↦ is.first x h met
      | inr h ↦ absurd (next x h met)
    ];
  }
  first_stays items others one (Some y) is next far = record {
    inside = Contains-append_left items others one.now is.inside;
    met = is.met;
    first = λ x there met. elim (Contains-append_cases items others x there) [
      | inl h ↦ is.first x h met
      | inr h ↦ λ e. next.first x h met (before_all x.key.bits one.now.key.bits y.now.key.bits e far)
    ];
  }

  pub second_nearer : (items others : List Item) (one : Bor Item) (found : Option (Bor Item)) → IsNextMet kind pattern after items one.now →
      IsNextIn kind pattern after others found → MatchOption found ⊥ (λ (y : Bor Item). key_cmp y.now.key.bits one.now.key.bits ≡ Less)
      → IsNextIn kind pattern after (items ++ others) found
  second_nearer items others one None is next near = absurd near
  second_nearer items others one (Some y) is next near = record {
    inside = Contains-append_right items others y.now next.inside;
    met = next.met;
    first = λ x there met. elim (Contains-append_cases items others x there) [
      | inl h ↦ λ e. is.first x h met (less_trans x.key.bits y.now.key.bits one.now.key.bits e near)
      | inr h ↦ next.first x h met
    ];
  }

  -- ---- among more items

  -- of some of the items, where all others that are met don't come before it
  pub first_of_all : (items all : List Item) (one : Item) → IsNextMet kind pattern after items one → ((x : Item) → Contains items x → Contains all x)
      → ((x : Item) → Contains all x → IsMet kind pattern after x → Contains items x ⊎ (key_cmp x.key.bits one.key.bits ≢ Less)) →
      IsNextMet kind pattern after all one
  first_of_all items all one is part rest = record {
    inside = part one is.inside;
    met = is.met;
    first = λ x there met. elim (rest x there met) [ inl h ↦ is.first x h met | inr h ↦ h ];
  }

  -- where all that are met are among them
  pub next_of_all : (items all : List Item) (found : Option (Bor Item)) → IsNextIn kind pattern after items found →
      ((x : Item) → Contains items x → Contains all x) → ((x : Item) → Contains all x → IsMet kind pattern after x → Contains items x) →
      IsNextIn kind pattern after all found
  next_of_all items all None next part rest = λ x there met. next x (rest x there met) met
  next_of_all items all (Some y) next part rest = first_of_all items all y.now next part (λ x there met. inl (rest x there met))

  -- ---- in a list in the order of keys

  -- the first one that is met, where none in front of it is
  pub first_at : (items : List Item) (i : ℕ) (one : Item) → IsRising (keys_of items) → i < length items → one ≡ get_or items i one →
      ((k : ℕ) → k < i → (x : Item) → get_or items k x ≡ x → IsMet kind pattern after x → ⊥) → IsMet kind pattern after one →
      IsNextMet kind pattern after items one
  first_at items i one up h is none met = record {
    inside = (i, h, sym is);
    met = met;
    first = λ x there seen. elim (cases_lt there.0 i) [
      | inl l ↦ absurd (none there.0 l x there.2 seen)
      | inr l ↦ elim (cases_lt i there.0) [
        | inl m ↦
            let long = length-map items (λ (y : Item). y.key.bits) in
            let own : bits_at (keys_of items) i ≡ one.key.bits = key_of_item items i one h ∙ ap (λ (y : Item). y.key.bits) (sym is) in
            let other : bits_at (keys_of items) there.0 ≡ x.key.bits = key_of_item items there.0 x there.1 ∙ ap (λ (y : Item). y.key.bits) there.2 in
            let less : key_cmp one.key.bits x.key.bits ≡ Less =
            subst (λ k. key_cmp k x.key.bits ≡ Less) own
            (subst (λ k. key_cmp (bits_at (keys_of items) i) k ≡ Less) other (up.rises i there.0 m (omega (arith, there.1, long)))) in
            not_back one.key.bits x.key.bits less
        | inr m ↦
            let place : there.0 ≡ i = omega arith in
            let same : x ≡ one = sym there.2 ∙ get_or_default items there.0 x one there.1 ∙ ap (λ k. get_or items k one) place ∙ sym is in
            subst (λ (y : Item). key_cmp y.key.bits one.key.bits ≢ Less) (sym same) (not_itself one.key.bits)
      ]
    ];
  }
