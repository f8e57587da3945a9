-- The keys of regions that are split or meet: none begins another one, and all begin with one prefix.
use Rattle.std.proofs.Common.{◌≡◌, ℕ, zero, suc, ◌-◌, ◌+◌, ◌<◌, ◌≤◌, Bool, List, [], ◌∷◌, ◌++◌, length, refl, sym, ap, ◌∙◌, subst, inl, inr, arith}
use Rattle.std.proofs.Common.{length-append}
use Rattle.std.specs.Prelude.{Option, Some, None}
use Rattle.std.specs.Option.{ForSome}
use Rattle.std.specs.List.{All, filter}
use Rattle.std.specs.declared.cmp.Ordering.TheVariants.{Less, Equal}
use Rattle.std.proofs.lemmas.Bool.{cases_lt, cases_order}
use Rattle.std.proofs.lemmas.List.{length-map, get_or_push, get_or_append_left, get_or-append_right, get_or-map, get_or_default}
use Rattle.std.proofs.lemmas.List.Elements.{All-append, Contains-get_or, filter-append}
use Rattle.ml_bits.specs.BitList.{BitList, Begins}
use Rattle.ml_bits.proofs.OrderLaws.{begins_both, begins_shorter, begins_trans, itself_cmp}
use Rattle.ml_term.specs.Keys.{key_cmp}
use Rattle.ml_region.specs.Prefixes.{bits_at, IsRising, IsOwner, IsParent}
use Rattle.ml_region.specs.Regions.{Region, IsWellPlaced, region_at, region_prefixes, keys_at, items_at, empty_region}
use Rattle.ml_region.specs.declared.item.Item.{Item}
use Rattle.ml_term.specs.Patterns.{begins}
use Rattle.ml_split.specs.Splitting.{AreApart, IsFair, count_under}
use Rattle.ml_split.proofs.SplitWalk.{count_within}
use Rattle.ml_split.specs.RegionSplits.{keys_with, IsNewTo}

-- ---- lists of keys

-- rising keys are different
pub rising_once : (keys : List (List Bool)) → IsRising keys → (a b : ℕ) → a < length keys → b < length keys → bits_at keys a ≡ bits_at keys b → a ≡ b
rising_once keys rising a b h k e =
    elim (cases_order a b) [
      | inl same ↦ same
      | inr other ↦ elim other [
        | inl l ↦
            let both : Less ≡ Equal = sym (rising.rises a b l k) ∙ ap (key_cmp (bits_at keys a)) (sym e) ∙ itself_cmp (bits_at keys a) in
            absurd (cc both)
        | inr l ↦
            let both : Less ≡ Equal = sym (rising.rises b a l h) ∙ ap (key_cmp (bits_at keys b)) e ∙ itself_cmp (bits_at keys b) in
            absurd (cc both)
      ]
    ]

-- two lists of which no key begins one of the other's
pub apart_append : (xs ys : List (List Bool)) → AreApart xs → AreApart ys
    → ((a b : ℕ) → a < length xs → b < length ys → Begins (bits_at xs a) (bits_at ys b) → ⊥)
    → ((a b : ℕ) → a < length xs → b < length ys → Begins (bits_at ys b) (bits_at xs a) → ⊥)
    → AreApart (xs ++ ys)
apart_append xs ys first second across back a b h k begin =
    let all = length-append xs ys in
    elim (cases_lt a (length xs)) [
      | inl l ↦
          let at_a : bits_at (xs ++ ys) a ≡ bits_at xs a = get_or_append_left xs ys [] a l in
          elim (cases_lt b (length xs)) [
            | inl m ↦ first a b l m (subst (λ x. Begins x (bits_at xs b)) at_a (subst (Begins (bits_at (xs ++ ys) a)) (get_or_append_left xs ys [] b m) begin))
            | inr m ↦
                let there : b - length xs < length ys = omega arith in
                absurd (across a (b - length xs) l there (subst (λ x. Begins x (bits_at ys (b - length xs))) at_a
                (subst (Begins (bits_at (xs ++ ys) a)) (get_or-append_right xs ys (length xs) b [] refl m) begin)))
          ]
      | inr l ↦
          let there : a - length xs < length ys = omega arith in
          let at_a : bits_at (xs ++ ys) a ≡ bits_at ys (a - length xs) = get_or-append_right xs ys (length xs) a [] refl l in
          elim (cases_lt b (length xs)) [
            | inl m ↦ absurd (back b (a - length xs) m there (subst (λ x. Begins x (bits_at xs b)) at_a
                (subst (Begins (bits_at (xs ++ ys) a)) (get_or_append_left xs ys [] b m) begin)))
            | inr m ↦
                let here : b - length xs < length ys = omega arith in
                let same : a - length xs ≡ b - length xs = second (a - length xs) (b - length xs) there here
                (subst (λ x. Begins x (bits_at ys (b - length xs))) at_a
                (subst (Begins (bits_at (xs ++ ys) a)) (get_or-append_right xs ys (length xs) b [] refl m) begin)) in
                omega arith
          ]
    ]

-- what holds at each place
pub all_at : (prefix : List Bool) (keys : List (List Bool)) → ((a : ℕ) → a < length keys → Begins prefix (bits_at keys a)) → All (Begins prefix) keys
all_at prefix keys h a d l = subst (Begins prefix) (get_or_default keys a [] d l) (h a l)

pub one_apart : (key : List Bool) → AreApart (key ∷ [])
one_apart key a b h k begin = omega arith

pub only : (key : List Bool) (b : ℕ) → b < 1 → bits_at (key ∷ []) b ≡ key
only key zero l = refl
only key (suc b) l = absurd (omega arith)

pub one_begins : (prefix key : List Bool) → Begins prefix key → All (Begins prefix) (key ∷ [])
one_begins prefix key begin = all_at prefix (key ∷ []) (λ a l. subst (Begins prefix) (sym (only key a l)) begin)

-- ---- one region

pub prefix_is : (regions : List Region) (i : ℕ) → i < length regions → bits_at (region_prefixes regions) i ≡ (region_at regions i).prefix
prefix_is regions i h = get_or-map (λ (r : Region). r.prefix) regions i empty_region [] h

pub owned_at : (regions : List Region) → IsWellPlaced regions → (i a : ℕ) → i < length regions → a < length (keys_at regions i)
    → IsOwner (region_prefixes regions) (bits_at (keys_at regions i) a) i
owned_at regions well i a h l = well.owned i (bits_at (keys_at regions i) a) h (Contains-get_or (keys_at regions i) a [] l)

pub region_apart : (regions : List Region) → IsWellPlaced regions → (i : ℕ) → i < length regions → AreApart (keys_at regions i)
region_apart regions well i h a b l m begin =
    rising_once (keys_at regions i) (well.ordered i h) a b l m
    (well.apart i i (bits_at (keys_at regions i) a) (bits_at (keys_at regions i) b) h h (Contains-get_or (keys_at regions i) a [] l)
    (Contains-get_or (keys_at regions i) b [] m) begin)

pub region_begins : (regions : List Region) → IsWellPlaced regions → (i : ℕ) → i < length regions →
    All (Begins (region_at regions i).prefix) (keys_at regions i)
region_begins regions well i h =
    all_at (region_at regions i).prefix (keys_at regions i) (λ a l.
    let own : IsOwner (region_prefixes regions) (bits_at (keys_at regions i) a) i = owned_at regions well i a h l in
    subst (λ p. Begins p (bits_at (keys_at regions i) a)) (prefix_is regions i h) own.begins)

-- ---- a region and its parent

-- no key is owned by a region and by its parent
owned_once : (regions : List Region) (i p : ℕ) (key : List Bool) → i < length regions → IsParent (region_prefixes regions) (region_at regions i).prefix p
    → IsOwner (region_prefixes regions) key i → IsOwner (region_prefixes regions) key p → ⊥
owned_once regions i p key h parent low high =
    let long : length (bits_at (region_prefixes regions) i) ≤ length (bits_at (region_prefixes regions) p) = high.longest i low.within low.begins in
    let same : bits_at (region_prefixes regions) i ≡ (region_at regions i).prefix = prefix_is regions i h in
    omega (arith, long, ap length same, parent.shorter)

pub parent_within : (regions : List Region) (i p : ℕ) → IsParent (region_prefixes regions) (region_at regions i).prefix p → p < length regions
parent_within regions i p parent = omega (arith, parent.within, length-map regions (λ (r : Region). r.prefix))

pub meeting_apart : (regions : List Region) → IsWellPlaced regions → (i p : ℕ) → i < length regions →
    IsParent (region_prefixes regions) (region_at regions i).prefix p
    → AreApart (keys_at regions i ++ keys_at regions p)
meeting_apart regions well i p h parent =
    let k : p < length regions = parent_within regions i p parent in
    let xs : List (List Bool) = keys_at regions i in
    let ys : List (List Bool) = keys_at regions p in
    apart_append xs ys (region_apart regions well i h) (region_apart regions well p k)
    (λ a b l m begin.
    let same : bits_at xs a ≡ bits_at ys b = well.apart i p (bits_at xs a) (bits_at ys b) h k (Contains-get_or xs a [] l) (Contains-get_or ys b [] m) begin in
    owned_once regions i p (bits_at ys b) h parent (subst (λ x. IsOwner (region_prefixes regions) x i) same (owned_at regions well i a h l))
    (owned_at regions well p b k m))
    (λ a b l m begin.
    let same : bits_at ys b ≡ bits_at xs a = well.apart p i (bits_at ys b) (bits_at xs a) k h (Contains-get_or ys b [] m) (Contains-get_or xs a [] l) begin in
    owned_once regions i p (bits_at xs a) h parent (owned_at regions well i a h l)
    (subst (λ x. IsOwner (region_prefixes regions) x p) same (owned_at regions well p b k m)))

pub meeting_begins : (regions : List Region) → IsWellPlaced regions → (i p : ℕ) → i < length regions →
    IsParent (region_prefixes regions) (region_at regions i).prefix p
    → All (Begins (region_at regions p).prefix) (keys_at regions i ++ keys_at regions p)
meeting_begins regions well i p h parent =
    let k : p < length regions = parent_within regions i p parent in
    let above : Begins (region_at regions p).prefix (region_at regions i).prefix =
    subst (λ q. Begins q (region_at regions i).prefix) (prefix_is regions p k) parent.begins in
    let low : All (Begins (region_at regions i).prefix) (keys_at regions i) = region_begins regions well i h in
    All-append (Begins (region_at regions p).prefix) (keys_at regions i) (keys_at regions p)
    (all_at (region_at regions p).prefix (keys_at regions i) (λ a l.
    begins_trans (region_at regions p).prefix (region_at regions i).prefix (bits_at (keys_at regions i) a) above (low a [] l)))
    (region_begins regions well p k)

-- ---- a region and a further key

pub further_apart : (regions : List Region) → IsWellPlaced regions → (i : ℕ) → i < length regions → (further : Option BitList) →
    ForSome further (λ key. IsNewTo regions i key.bits)
    → AreApart (keys_with (keys_at regions i) further)
further_apart regions well i h None new = region_apart regions well i h
further_apart regions well i h (Some key) new =
    let known : IsNewTo regions i key.bits = new key refl in
    let xs : List (List Bool) = keys_at regions i in
    apart_append xs (key.bits ∷ []) (region_apart regions well i h) (one_apart key.bits)
    (λ a b l m begin. (known.apart i (bits_at xs a) h (Contains-get_or xs a [] l)).0 (subst (Begins (bits_at xs a)) (only key.bits b m) begin))
    (λ a b l m begin. (known.apart i (bits_at xs a) h (Contains-get_or xs a [] l)).1 (subst (λ x. Begins x (bits_at xs a)) (only key.bits b m) begin))

pub further_begins : (regions : List Region) → IsWellPlaced regions → (i : ℕ) → i < length regions → (further : Option BitList) →
    ForSome further (λ key. IsNewTo regions i key.bits)
    → All (Begins (region_at regions i).prefix) (keys_with (keys_at regions i) further)
further_begins regions well i h None new = region_begins regions well i h
further_begins regions well i h (Some key) new =
    let known : IsNewTo regions i key.bits = new key refl in
    All-append (Begins (region_at regions i).prefix) (keys_at regions i) (key.bits ∷ []) (region_begins regions well i h)
    (one_begins (region_at regions i).prefix key.bits (subst (λ p. Begins p key.bits) (prefix_is regions i h) known.owner.begins))

pub few_with : (regions : List Region) → IsWellPlaced regions → (i : ℕ) → i < length regions → (further : Option BitList) →
    length (keys_with (keys_at regions i) further) ≤ 32
few_with regions well i h None = omega (arith, well.few i h, length-map (items_at regions i) (λ (x : Item). x.key.bits))
few_with regions well i h (Some key) =
    omega (arith, well.few i h, length-map (items_at regions i) (λ (x : Item). x.key.bits), length-append (keys_at regions i) (key.bits ∷ []))

-- a region has one parent
pub one_parent : (regions : List Region) → IsWellPlaced regions → (prefix : List Bool) (a b : ℕ) → IsParent (region_prefixes regions) prefix a →
    IsParent (region_prefixes regions) prefix b → a ≡ b
one_parent regions well prefix a b first second =
    let prefixes : List (List Bool) = region_prefixes regions in
    let up : length (bits_at prefixes a) ≤ length (bits_at prefixes b) = second.longest a first.within first.begins first.shorter in
    let down : length (bits_at prefixes b) ≤ length (bits_at prefixes a) = first.longest b second.within second.begins second.shorter in
    rising_once prefixes well.rising a b first.within second.within
    (begins_both (bits_at prefixes a) (bits_at prefixes b) (begins_shorter (bits_at prefixes a) (bits_at prefixes b) prefix first.begins second.begins up)
    (begins_shorter (bits_at prefixes b) (bits_at prefixes a) prefix second.begins first.begins down))

-- how many keys there are where a region meets its parent
pub meeting_length : (regions : List Region) (i p : ℕ) →
    length (keys_at regions i ++ keys_at regions p) ≡ length (items_at regions i) + length (items_at regions p)
meeting_length regions i p =
    omega (
      arith,
      length-append (keys_at regions i) (keys_at regions p),
      length-map (items_at regions i) (λ (x : Item). x.key.bits),
      length-map (items_at regions p) (λ (x : Item). x.key.bits),
    )

-- where a fair split's prefix begins at least a third of 25 keys or more, it begins another key than the last
pub others_under : (keys : List (List Bool)) (key old new : List Bool) → 24 ≤ length keys → IsFair (keys ++ key ∷ []) old new → 0 < count_under new keys
others_under keys key old new many fair =
    let parts : count_under new (keys ++ key ∷ []) ≡ count_under new keys + count_under new (key ∷ []) =
    ap length (filter-append (begins new) keys (key ∷ [])) ∙ length-append (filter (begins new) keys) (filter (begins new) (key ∷ [])) in
    omega (arith, parts, fair.at_least, length-append keys (key ∷ []), count_within new (key ∷ []))

-- the last of some keys
pub last_key : (keys : List (List Bool)) (key : List Bool) (a own : ℕ) → own ≡ length keys → own ≤ a → a < length (keys ++ key ∷ []) →
    bits_at (keys ++ key ∷ []) a ≡ key
last_key keys key a own e h l =
    let same : a ≡ length keys = omega (arith, length-append keys (key ∷ [])) in
    get_or_push keys key [] a (sym same)
