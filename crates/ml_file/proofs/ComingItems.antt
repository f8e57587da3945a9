-- An item that may come to a file.
use Rattle.std.proofs.Common.{◌≡◌, inl, inr, ℕ, ◌^◌, ◌<◌, ◌≤◌, Bool, true, List, [], ◌∷◌, length, get_or, map, refl, sym, ap, ◌∙◌, subst, arith}
use Rattle.std.specs.Prelude.{Contains, IsTrue, ◌≢◌}
use Rattle.std.specs.List.{All}
use Rattle.std.proofs.lemmas.List.Elements.{All-contains, Contains-get_or}
use Rattle.ml_bits.specs.BitList.{Begins}
use Rattle.ml_bits.proofs.OrderLaws.{begins_itself}
use Rattle.ml_key.specs.ItemKeys.{item_key}
use Rattle.ml_key.proofs.BitBeginnings.{tuples_differ, clauses_differ}
use Rattle.ml_region.specs.Regions.{Region, IsApart, items_at, keys_at}
use Rattle.ml_region.specs.declared.item.Item.{Item}
use Rattle.ml_search.specs.Db.{is_allowed}
use Rattle.ml_term.specs.Keys.{tuple_key}
use Rattle.ml_term.specs.Seen.{seen}
use Rattle.ml_term.specs.Tree.{Tree}
use Rattle.ml_term.specs.Valid.{is_valid}
use Rattle.ml_term.specs.declared.declaration.Decl.{Decl}
use Rattle.ml_term.specs.declared.declaration.Kind.{Kind}
use Rattle.ml_term.specs.declared.declaration.Kind.TheVariants.{Relation, Clauses}
use Rattle.ml_file.specs.Adding.{MayCome}
use Rattle.ml_file.specs.Files.{items_in, IsAbsent, IsFile, IsHeld}
use Rattle.ml_file.specs.PlainList.{IsWith}
use Rattle.ml_file.proofs.ItemOrders.{contains_cases, contains_first, contains_later}
use Rattle.ml_file.proofs.HeldItems.{LiesIn, item_lies, item_in, contains_key}

-- an item with a key that stands among the keys
pub record HasKeyOf (items : List Item) (key : List Bool) : Type 0 where
  pub item : Item
  pub among : Contains items item
  pub key_is : item.key.bits ≡ key

pub key_of_one : (items : List Item) (key : List Bool) → Contains (map (λ (y : Item). y.key.bits) items) key → HasKeyOf items key
key_of_one [] key h = absurd (omega (arith, h.1))
key_of_one (x ∷ items) key h =
    elim (contains_cases x.key.bits key (map (λ (y : Item). y.key.bits) items) h) [
      | inl e ↦ record { item = x; among = contains_first x items; key_is = e }
      | inr later ↦
          let found : HasKeyOf items key = key_of_one items key later in
          record { item = found.item; among = contains_later x found.item items found.among; key_is = found.key_is }
    ]

-- a key that is apart from all items is apart from some of them
pub apart_part : (old new : List Region) (key : List Bool) → IsApart old key → ((x : Item) → Contains (items_in new) x → Contains (items_in old) x) →
    IsApart new key
apart_part old new key apart part i other h there =
    let found : HasKeyOf (items_at new i) other = key_of_one (items_at new i) other there in
    let lies : LiesIn old found.item = item_lies old found.item (part found.item (item_in new i found.item h found.among)) in
    apart lies.region other lies.within (subst (Contains (keys_at old lies.region)) found.key_is
    (contains_key (items_at old lies.region) found.item lies.inside))

-- different keys of one kind don't begin one another
keys_clash : (kind : Kind) (keys : List ℕ) (t u : Tree) (m n : ℕ) → is_valid t ≡ true → is_valid u ≡ true → m < 2 ^ 64 → n < 2 ^ 64 →
    (kind ≡ Clauses → m ≡ n → ⊥)
    → (item_key kind keys t m ≡ item_key kind keys u n → ⊥) → Begins (item_key kind keys t m) (item_key kind keys u n) → ⊥
keys_clash Relation keys t u m n p q l k numbers differ begin = differ (ap (tuple_key keys) (tuples_differ Relation refl keys t u m n p q begin))
keys_clash Clauses keys t u m n p q l k numbers differ begin = numbers refl (clauses_differ Clauses refl keys t u m n l k begin)

-- the key of an item that may come is apart from all keys, if no item has it
pub apart_new : (decl : Decl) (regions : List Region) (room : ℕ) (item : Item) → IsFile decl regions room → MayCome decl regions item → item.number < 2 ^ 64
    → IsAbsent regions item.key.bits → IsApart regions item.key.bits
apart_new decl regions room item file may fits absent i other h there =
    let found : HasKeyOf (items_at regions i) other = key_of_one (items_at regions i) other there in
    let x : Item = found.item in
    let inside : Contains (items_in regions) x = item_in regions i x h found.among in
    let its : x.key.bits ≡ item_key decl.kind decl.keys (seen x.term) x.number =
    All-contains (λ (y : Item). y.key.bits ≡ item_key decl.kind decl.keys (seen y.term) y.number) (items_in regions) x file.keyed inside in
    let small : x.number < 2 ^ 64 = All-contains (λ (y : Item). y.number < 2 ^ 64) (items_in regions) x file.fit inside in
    let differ : x.key.bits ≡ item.key.bits → ⊥ = All-contains (λ (y : Item). y.key.bits ≢ item.key.bits) (items_in regions) x absent inside in
    let numbers : decl.kind ≡ Clauses → x.number ≡ item.number →
    ⊥ = λ kind. All-contains (λ (y : Item). y.number ≢ item.number) (items_in regions) x (may.numbered kind) inside in (
      λ begin.
          keys_clash decl.kind decl.keys (seen x.term) (seen item.term) x.number item.number x.valid item.valid small fits numbers
          (λ e. differ (its ∙ e ∙ sym may.keyed))
          (subst (Begins (item_key decl.kind decl.keys (seen x.term) x.number)) may.keyed (subst (λ k. Begins k item.key.bits) (sym found.key_is ∙ its) begin)),
      λ begin.
          keys_clash decl.kind decl.keys (seen item.term) (seen x.term) item.number x.number item.valid x.valid fits small (λ kind e. numbers kind (sym e))
          (λ e. differ (its ∙ sym e ∙ sym may.keyed))
          (subst (Begins (item_key decl.kind decl.keys (seen item.term) item.number)) (sym found.key_is ∙ its) (subst (λ k. Begins k other) may.keyed begin)),
    )

-- a clause that may come has a number of its own, so no item has its key
pub clause_absent : (decl : Decl) (regions : List Region) (room : ℕ) (item x : Item) → IsFile decl regions room → MayCome decl regions item →
    item.number < 2 ^ 64
    → IsHeld regions item.key.bits x → decl.kind ≡ Clauses → ⊥
clause_absent decl regions room item x file may fits held kind =
    let its : x.key.bits ≡ item_key decl.kind decl.keys (seen x.term) x.number =
    All-contains (λ (y : Item). y.key.bits ≡ item_key decl.kind decl.keys (seen y.term) y.number) (items_in regions) x file.keyed held.inside in
    let small : x.number < 2 ^ 64 = All-contains (λ (y : Item). y.number < 2 ^ 64) (items_in regions) x file.fit held.inside in
    let own : List Bool = item_key decl.kind decl.keys (seen x.term) x.number in
    let begin : Begins own (item_key decl.kind decl.keys (seen item.term) item.number) =
    subst (Begins own) (sym its ∙ held.key_is ∙ may.keyed) (begins_itself own) in
    All-contains (λ (y : Item). y.number ≢ item.number) (items_in regions) x (may.numbered kind) held.inside
    (clauses_differ decl.kind kind decl.keys (seen x.term) (seen item.term) x.number item.number small fits begin)

-- ---- what the file keeps

all_more : (P : Item → Type 0) (xs : List Item) (y : Item) (ys : List Item) → IsWith xs y ys → All P xs → P y → All P ys
all_more P xs y ys more all here k d l =
    elim ((more (get_or ys k d)).0 (Contains-get_or ys k d l)) [
      | inl was ↦ All-contains P xs (get_or ys k d) all was
      | inr e ↦ subst P (sym e) here
    ]

all_weaker : (P Q : Item → Type 0) (xs : List Item) → ((x : Item) → P x → Q x) → All P xs → All Q xs
all_weaker P Q xs h all k d l = h (get_or xs k d) (all k d l)

pub file_roomier : (decl : Decl) (regions : List Region) (room more : ℕ) → room ≤ more → IsFile decl regions room → IsFile decl regions more
file_roomier decl regions room more h file =
    record {
      few = file.few;
      allowed = file.allowed;
      keyed = file.keyed;
      numbers = file.numbers;
      fit = file.fit;
      roomy = all_weaker (λ (x : Item). length x.key.bits ≤ room) (λ (x : Item). length x.key.bits ≤ more) (items_in regions) (λ x l. omega arith) file.roomy;
    }

pub file_more : (decl : Decl) (old new : List Region) (room : ℕ) (item : Item) → IsFile decl old room → MayCome decl old item → item.number < 2 ^ 64 →
    length item.key.bits ≤ room
    → IsWith (items_in old) item (items_in new) → ((i : ℕ) → i < length new → length (items_at new i) ≤ 24) → IsFile decl new room
file_more decl old new room item file may fits short more few =
    let xs : List Item = items_in old in
    let ys : List Item = items_in new in
    record {
      few = few;
      allowed = all_more (λ (x : Item). IsTrue (is_allowed decl (seen x.term))) xs item ys more file.allowed may.allowed;
      keyed = all_more (λ (x : Item). x.key.bits ≡ item_key decl.kind decl.keys (seen x.term) x.number) xs item ys more file.keyed may.keyed;
      numbers = λ kind x y a b e.
          elim ((more x).0 a) [
            | inl was_x ↦ elim ((more y).0 b) [
              | inl was_y ↦ file.numbers kind x y was_x was_y e
              | inr is_y ↦ absurd (All-contains (λ (z : Item). z.number ≢ item.number) xs x (may.numbered kind) was_x (e ∙ ap (λ (z : Item). z.number) is_y))
            ]
            | inr is_x ↦ elim ((more y).0 b) [
              | inl was_y ↦ absurd (All-contains (λ (z : Item). z.number ≢ item.number) xs y (may.numbered kind) was_y
                  (sym e ∙ ap (λ (z : Item). z.number) is_x))
              | inr is_y ↦ is_x ∙ sym is_y
            ]
          ];
      fit = all_more (λ (x : Item). x.number < 2 ^ 64) xs item ys more file.fit fits;
      roomy = all_more (λ (x : Item). length x.key.bits ≤ room) xs item ys more file.roomy short;
    }
