-- The plain list of those items that pass a test, where the items change.
use Rattle.std.proofs.Common.{◌≡◌, inl, inr, Bool, true, false, not, List, sym, ap, ◌∙◌, subst}
use Rattle.std.specs.Prelude.{Contains, ◌≢◌, ◌↔◌}
use Rattle.std.specs.List.{All, filter}
use Rattle.std.specs.declared.cmp.Ordering.TheVariants.{Less, Equal}
use Rattle.std.proofs.lemmas.Bool.{both_ways}
use Rattle.std.proofs.lemmas.List.Elements.{All-contains}
use Rattle.std.proofs.lemmas.List.Kept.{AllPairs-filter}
use Rattle.ml_term.specs.Patterns.{same_bits}
use Rattle.ml_term.specs.declared.declaration.Kind.{Kind}
use Rattle.ml_term.specs.declared.declaration.Kind.TheVariants.{Clauses}
use Rattle.ml_region.specs.Changes.{with_mark}
use Rattle.ml_region.specs.Regions.{Region}
use Rattle.ml_region.specs.declared.item.Id.{Id}
use Rattle.ml_region.specs.declared.item.Item.{Item}
use Rattle.ml_file.specs.Adding.{IsAdded}
use Rattle.ml_file.specs.Files.{items_in, IsRemoved}
use Rattle.ml_file.specs.ListSteps.{with_item, without_key}
use Rattle.ml_file.specs.Marking.{HasMark}
use Rattle.ml_file.specs.PlainList.{item_cmp, IsListOf, IsWith}
use Rattle.ml_file.specs.Settled.{HasSameItems}
use Rattle.ml_file.proofs.ListSteps.{has_not, is_not, kept_from, kept_in, list_with, own_place}

-- ---- the same items, and those that pass a test

relisted : (kind : Kind) (items others list : List Item) → ((x : Item) → Contains others x ↔ Contains items x) → IsListOf kind items list →
    IsListOf kind others list
relisted kind items others list same is = record {
  holds = λ x. (λ there. (is.holds x).0 ((same x).0 there), λ there. (same x).1 ((is.holds x).1 there));
  rises = is.rises;
}

pub part_list : (kind : Kind) (items list : List Item) (test : Item → Bool) → IsListOf kind items list → IsListOf kind (filter test items) (filter test list)
part_list kind items list test is = record {
  holds = λ x. (
    λ there. let kept = kept_from test items x there in kept_in test list x ((is.holds x).0 kept.0) kept.1,
    λ there. let kept = kept_from test list x there in kept_in test items x ((is.holds x).1 kept.0) kept.1,
  );
  rises = AllPairs-filter (λ a b. item_cmp kind a b ≡ Less) test list is.rises;
}

-- ---- one item more

with_part : (test : Item → Bool) (before : List Item) (item : Item) (after : List Item) → IsWith before item after → test item ≡ true →
    IsWith (filter test before) item (filter test after)
with_part test before item after more passes x = (
  λ there.
      let kept = kept_from test after x there in
      elim ((more x).0 kept.0) [ inl was ↦ inl (kept_in test before x was kept.1) | inr e ↦ inr e ],
  λ either. elim either [
    | inl there ↦ let kept = kept_from test before x there in kept_in test after x ((more x).1 (inl kept.0)) kept.1
    | inr e ↦ kept_in test after x ((more x).1 (inr e)) (subst (λ y. test y ≡ true) (sym e) passes)
  ],
)

pub part_with : (kind : Kind) (old new : List Region) (item : Item) (list : List Item) (test : Item → Bool) → IsAdded old item new →
    (kind ≡ Clauses → All (λ (x : Item). x.number ≢ item.number) (items_in old)) → test item ≡ true → IsListOf kind (filter test (items_in old)) list →
    IsListOf kind (filter test (items_in new)) (with_item kind item list)
part_with kind old new item list test added numbered passes is =
    list_with kind (filter test (items_in old)) item (filter test (items_in new)) list (with_part test (items_in old) item (items_in new) added.more passes)
    (λ x there. own_place kind (items_in old) item added.absent numbered x (kept_from test (items_in old) x there).0) is

pub part_beside : (kind : Kind) (old new : List Region) (item : Item) (list : List Item) (test : Item → Bool) → IsAdded old item new → test item ≡ false →
    IsListOf kind (filter test (items_in old)) list → IsListOf kind (filter test (items_in new)) list
part_beside kind old new item list test added fails is =
    relisted kind (filter test (items_in old)) (filter test (items_in new)) list (λ x. (
      λ there.
          let kept = kept_from test (items_in new) x there in
          elim ((added.more x).0 kept.0) [
            | inl was ↦ kept_in test (items_in old) x was kept.1
            | inr e ↦ absurd (both_ways (test item) fails (subst (λ y. test y ≡ true) e kept.1))
          ],
      λ there. let kept = kept_from test (items_in old) x there in kept_in test (items_in new) x ((added.more x).1 (inl kept.0)) kept.1,
    )) is

-- ---- without a key

without_of : (kind : Kind) (before after list : List Item) (key : List Bool)
    → ((x : Item) → Contains after x ↔ (Contains before x × (x.key.bits ≢ key))) → IsListOf kind before list → IsListOf kind after (without_key key list)
without_of kind before after list key left is =
    let test : Item → Bool = λ (x : Item). not (same_bits x.key.bits key) in
    record {
      holds = λ x. (
        λ there. let kept = (left x).0 there in kept_in test list x ((is.holds x).0 kept.0) (is_not x key kept.1),
        λ there. let kept = kept_from test list x there in (left x).1 ((is.holds x).1 kept.0, has_not x key kept.1),
      );
      rises = AllPairs-filter (λ a b. item_cmp kind a b ≡ Less) test list is.rises;
    }

pub part_without : (kind : Kind) (old new : List Region) (key : List Bool) (list : List Item) (test : Item → Bool) → IsRemoved old key new →
    IsListOf kind (filter test (items_in old)) list → IsListOf kind (filter test (items_in new)) (without_key key list)
part_without kind old new key list test removed is =
    without_of kind (filter test (items_in old)) (filter test (items_in new)) list key (λ x. (
      λ there.
          let kept = kept_from test (items_in new) x there in (
            kept_in test (items_in old) x ((removed.left x).1 (inl kept.0)) kept.1,
            All-contains (λ (y : Item). y.key.bits ≢ key) (items_in new) x removed.gone kept.0,
          ),
      λ both.
          let kept = kept_from test (items_in old) x both.0 in
          elim ((removed.left x).0 kept.0) [
            | inl stays ↦ kept_in test (items_in new) x stays kept.1
            | inr e ↦ absurd (both.1 (ap (λ (y : Item). y.key.bits) e ∙ removed.held.key_is))
          ],
    )) is

-- ---- a mark

pub part_unmarked : (kind : Kind) (old new : List Region) (key : List Bool) (committed : Bool) (id : Id) (list : List Item) (test : Item → Bool)
    → (mark : HasMark old key committed id new) → test (with_mark mark.item committed id) ≡ false → IsListOf kind (filter test (items_in old)) list →
    IsListOf kind (filter test (items_in new)) (without_key key list)
part_unmarked kind old new key committed id list test mark fails is =
    without_of kind (filter test (items_in old)) (filter test (items_in new)) list key (λ x. (
      λ there.
          let kept = kept_from test (items_in new) x there in
          elim ((mark.items x).0 kept.0) [
            | inl was ↦ (kept_in test (items_in old) x was.0 kept.1, was.1)
            | inr e ↦ absurd (both_ways (test (with_mark mark.item committed id)) fails (subst (λ y. test y ≡ true) e kept.1))
          ],
      λ both.
          let kept = kept_from test (items_in old) x both.0 in
          kept_in test (items_in new) x ((mark.items x).1 (inl (kept.0, both.1))) kept.1,
    )) is

pub part_marked : (kind : Kind) (old new : List Region) (key : List Bool) (committed : Bool) (id : Id) (list : List Item) (test : Item → Bool)
    → (mark : HasMark old key committed id new) → test (with_mark mark.item committed id) ≡ true →
    ((x : Item) → Contains (filter test (items_in old)) x → x.key.bits ≢ key → item_cmp kind x (with_mark mark.item committed id) ≢ Equal)
    → IsListOf kind (filter test (items_in old)) list →
    IsListOf kind (filter test (items_in new)) (with_item kind (with_mark mark.item committed id) (without_key key list))
part_marked kind old new key committed id list test mark passes differ is =
    let marked : Item = with_mark mark.item committed id in
    let before : List Item = filter test (items_in old) in
    let other : Item → Bool = λ (x : Item). not (same_bits x.key.bits key) in
    let more : IsWith (filter other before) marked (filter test (items_in new)) = λ x. (
      λ there.
          let kept = kept_from test (items_in new) x there in
          elim ((mark.items x).0 kept.0) [
            | inl was ↦ inl (kept_in other before x (kept_in test (items_in old) x was.0 kept.1) (is_not x key was.1))
            | inr e ↦ inr e
          ],
      λ either. elim either [
        | inl there ↦
            let beside = kept_from other before x there in
            let kept = kept_from test (items_in old) x beside.0 in
            kept_in test (items_in new) x ((mark.items x).1 (inl (kept.0, has_not x key beside.1))) kept.1
        | inr e ↦ kept_in test (items_in new) x ((mark.items x).1 (inr e)) (subst (λ y. test y ≡ true) (sym e) passes)
      ],
    ) in
    list_with kind (filter other before) marked (filter test (items_in new)) (without_key key list) more
    (λ x there. let beside = kept_from other before x there in differ x beside.0 (has_not x key beside.1))
    (part_list kind before list other is)

-- ---- settling

pub part_settled : (kind : Kind) (old new : List Region) (list : List Item) (test : Item → Bool) → HasSameItems old new →
    IsListOf kind (filter test (items_in old)) list → IsListOf kind (filter test (items_in new)) list
part_settled kind old new list test same is =
    relisted kind (filter test (items_in old)) (filter test (items_in new)) list (λ x. (
      λ there. let kept = kept_from test (items_in new) x there in kept_in test (items_in old) x ((same.same x).0 kept.0) kept.1,
      λ there. let kept = kept_from test (items_in old) x there in kept_in test (items_in new) x ((same.same x).1 kept.0) kept.1,
    )) is
