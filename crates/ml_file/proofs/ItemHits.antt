-- Where the items are that a pattern meets: in regions that may hold a fitting key.
use Rattle.std.proofs.Common.{◌≡◌, ℕ, suc, ◌+◌, ◌<◌, ◌≤◌, Bool, true, false, cond, List, [], ◌∷◌, ◌++◌, length, get_or, map, take, refl, sym, ap, ◌∙◌, subst}
use Rattle.std.proofs.Common.{true≢false, arith, append-nil, append_assoc}
use Rattle.std.specs.Prelude.{Contains, Option}
use Rattle.std.specs.List.{filter}
use Rattle.std.proofs.lemmas.List.{length-map, get_or-map, get_or_default, take_more, take_all}
use Rattle.std.proofs.lemmas.List.Elements.{All-contains, filter-append, All-filter, All-contains_itself}
use Rattle.ml_bits.specs.BitList.{BitList}
use Rattle.ml_key.specs.ItemKeys.{item_head, item_key}
use Rattle.ml_search.specs.Db.{is_allowed}
use Rattle.ml_search.specs.Replay.{number_above}
use Rattle.ml_search.proofs.Unifying.TermsRenamedApart.{apart_from_pattern, instance_of}
use Rattle.ml_term.proofs.FittingKeys.{key_fits}
use Rattle.ml_term.specs.CanonicalBytes.{bytes_of}
use Rattle.ml_term.specs.Codes.{bits, byte_bits}
use Rattle.ml_term.specs.Instances.{HaveACommonInstance, is_head}
use Rattle.ml_term.specs.Patterns.{fits, may_hold, pattern_of}
use Rattle.ml_term.specs.Seen.{seen}
use Rattle.ml_term.specs.Tree.{Tree, variables}
use Rattle.ml_term.specs.declared.declaration.Decl.{Decl}
use Rattle.ml_term.specs.declared.declaration.Kind.{Kind}
use Rattle.ml_term.specs.declared.declaration.Kind.TheVariants.{Relation, Clauses}
use Rattle.ml_region.specs.Prefixes.{bits_at, IsOwner}
use Rattle.ml_region.specs.Regions.{Region, IsWellPlaced, empty_region, items_at, region_at, region_prefixes}
use Rattle.ml_region.specs.declared.item.Item.{Item}
use Rattle.ml_region.proofs.ItemPlaces.{owner_may_hold}
use Rattle.ml_region.proofs.OwnerSearch.{one_owner, owns_itself}
use Rattle.ml_region.proofs.StoredRegions.{prefix_of_region, region_prefixes_length}
use Rattle.ml_file.specs.Files.{items_in, IsFile}
use Rattle.ml_file.specs.Hits.{is_hit, hits_in, stored_head}
use Rattle.ml_file.proofs.HeldItems.{item_in, contains_key}
use Rattle.ml_file.proofs.StoredHeads.{stored_head_is, stored_head_is_head}

-- ---- keys of items that are met

-- the key of an item that a pattern meets fits the pattern
pub met_key_fits : (d : Decl) (pattern t : Tree) (number : ℕ) → is_head pattern ≡ true → is_allowed d t ≡ true → is_hit d.kind pattern t ≡ true
    → fits (pattern_of d.keys pattern) (item_key d.kind d.keys t number) ≡ true
met_key_fits d pattern t number head allowed met =
    let h : Tree = stored_head d.kind t in
    let same : h ≡ item_head d.kind t = stored_head_is d t allowed in
    let both : HaveACommonInstance pattern (item_head d.kind t) =
    subst (HaveACommonInstance pattern) same (instance_of (number_above (variables pattern)) pattern h (apart_from_pattern pattern h) met) in
    let is : is_head (item_head d.kind t) ≡ true = subst (λ u. is_head u ≡ true) same (stored_head_is_head d t allowed) in
    by d.kind both is
  where
    by : (kind : Kind) → HaveACommonInstance pattern (item_head kind t) → is_head (item_head kind t) ≡ true →
        fits (pattern_of d.keys pattern) (item_key kind d.keys t number) ≡ true
    by Relation both is = key_fits d.keys pattern t (byte_bits (bytes_of t)) head is both
    by Clauses both is = key_fits d.keys pattern (item_head Clauses t) (bits 64 number) head is both

met_fits : (d : Decl) (pattern : Tree) (x : Item) → is_head pattern ≡ true → is_allowed d (seen x.term) ≡ true →
    x.key.bits ≡ item_key d.kind d.keys (seen x.term) x.number
    → is_hit d.kind pattern (seen x.term) ≡ true → fits (pattern_of d.keys pattern) x.key.bits ≡ true
met_fits d pattern x head allowed keyed met =
    subst (λ k. fits (pattern_of d.keys pattern) k ≡ true) (sym keyed) (met_key_fits d pattern (seen x.term) x.number head allowed met)

-- ---- the regions that may hold a fitting key

-- the regions with such prefixes
abbrev pub chosen : List (Option (List Bool)) → List Region → List Region
chosen p regions = filter (λ (r : Region). may_hold p r.prefix) regions

filter_none : {X : Type 0} (test : X → Bool) (xs : List X) → ((x : X) → Contains xs x → test x ≡ false) → filter test xs ≡ []
filter_none test [] none = refl
filter_none test (x ∷ xs) none =
    ap (λ b. cond b (x ∷ filter test xs) (filter test xs)) (none x (0, omega arith, refl))
    ∙ filter_none test xs (λ z there. none z (suc there.0, omega (arith, there.1), there.2))

-- where the other regions have nothing that passes a test, nothing is lost
none_lost : (test : Item → Bool) (p : List (Option (List Bool))) (regions : List Region)
    → ((i : ℕ) (x : Item) → i < length regions → may_hold p (region_at regions i).prefix ≡ false → Contains (items_at regions i) x → test x ≡ false)
    → filter test (items_in (chosen p regions)) ≡ filter test (items_in regions)
none_lost test p [] none = refl
none_lost test p (r ∷ rs) none = by (none_lost test p rs (λ i x h. none (suc i) x (omega (arith, h)))) (may_hold p r.prefix) refl
  where
    by : filter test (items_in (chosen p rs)) ≡ filter test (items_in rs)
        → (b : Bool) → may_hold p r.prefix ≡ b → filter test (items_in (cond b (r ∷ chosen p rs) (chosen p rs))) ≡ filter test (items_in (r ∷ rs))
    by rest true e = filter-append test r.items (items_in (chosen p rs)) ∙ ap (λ xs. filter test r.items ++ xs) rest
        ∙ sym (filter-append test r.items (items_in rs))
    by rest false e =
        rest
        ∙ ap (λ xs. xs ++ filter test (items_in rs)) (sym (filter_none test r.items (λ x there. none 0 x (omega arith) e there)))
        ∙ sym (filter-append test r.items (items_in rs))

not_true : (b : Bool) → (b ≡ true → ⊥) → b ≡ false
not_true true h = absurd (h refl)
not_true false h = refl

-- all items that a pattern meets lie in the regions that may hold a fitting key
pub all_chosen : (d : Decl) (regions : List Region) (room : ℕ) (pattern : Tree) → IsWellPlaced regions → IsFile d regions room → is_head pattern ≡ true
    → hits_in d.kind pattern (items_in (chosen (pattern_of d.keys pattern) regions)) ≡ hits_in d.kind pattern (items_in regions)
all_chosen d regions room pattern well file head = none_lost (λ (x : Item). is_hit d.kind pattern (seen x.term)) (pattern_of d.keys pattern) regions none
  where
    none : (i : ℕ) (x : Item) → i < length regions → may_hold (pattern_of d.keys pattern) (region_at regions i).prefix ≡ false →
        Contains (items_at regions i) x → is_hit d.kind pattern (seen x.term) ≡ false
    none i x h lacks there = not_true _ (λ met.
        let all : Contains (items_in regions) x = item_in regions i x h there in
        let allowed : is_allowed d (seen x.term) ≡ true = All-contains (λ (y : Item). is_allowed d (seen y.term) ≡ true)
        (items_in regions) x file.allowed all in
        let keyed : x.key.bits ≡ item_key d.kind d.keys (seen x.term) x.number =
        All-contains (λ (y : Item). y.key.bits ≡ item_key d.kind d.keys (seen y.term) y.number) (items_in regions) x file.keyed all in
        let owner : IsOwner (region_prefixes regions) x.key.bits i = well.owned i x.key.bits h (contains_key (items_at regions i) x there) in
        let holds : may_hold (pattern_of d.keys pattern) (bits_at (region_prefixes regions) i) ≡ true =
        owner_may_hold regions (pattern_of d.keys pattern) x.key.bits i owner (met_fits d pattern x head allowed keyed met) in
        true≢false (sym (subst (λ q. may_hold (pattern_of d.keys pattern) q ≡ true) (prefix_of_region regions i) holds) ∙ lacks))

-- ---- one after another

prefixes_chosen : (p : List (Option (List Bool))) (regions : List Region) →
    filter (λ prefix. may_hold p prefix) (region_prefixes regions) ≡ region_prefixes (chosen p regions)
prefixes_chosen p [] = refl
prefixes_chosen p (r ∷ rs) = by (may_hold p r.prefix) (prefixes_chosen p rs)
  where
    by : (b : Bool) → filter (λ prefix. may_hold p prefix) (region_prefixes rs) ≡ region_prefixes (chosen p rs)
        → cond b (r.prefix ∷ filter (λ prefix. may_hold p prefix) (region_prefixes rs)) (filter (λ prefix. may_hold p prefix) (region_prefixes rs))
        ≡ region_prefixes (cond b (r ∷ chosen p rs) (chosen p rs))
    by true e = ap (λ ps. r.prefix ∷ ps) e
    by false e = e

abbrev prefix_bits : List BitList → List (List Bool)
prefix_bits found = map (λ (b : BitList). b.bits) found

pub many_chosen : (p : List (Option (List Bool))) (regions : List Region) (found : List BitList) →
    map (λ (b : BitList). b.bits) found ≡ filter (λ prefix. may_hold p prefix) (region_prefixes regions)
    → length found ≡ length (chosen p regions)
many_chosen p regions found is =
    sym (length-map found (λ (b : BitList). b.bits)) ∙ ap length (is ∙ prefixes_chosen p regions) ∙ region_prefixes_length (chosen p regions)

items_push : (rs : List Region) (r : Region) → items_in (rs ++ r ∷ []) ≡ items_in rs ++ r.items
items_push [] r = append-nil r.items
items_push (s ∷ rs) r = ap (λ xs. s.items ++ xs) (items_push rs r) ∙ sym (append_assoc s.items (items_in rs) r.items)

-- the items of the region that owns the next prefix come behind those of the chosen regions before
pub next_chosen : (p : List (Option (List Bool))) (regions : List Region) (found : List BitList) (k i : ℕ) (prefix : BitList) → IsWellPlaced regions
    → map (λ (b : BitList). b.bits) found ≡ filter (λ prefix. may_hold p prefix) (region_prefixes regions) → k < length found → get_or found k prefix ≡ prefix →
    IsOwner (region_prefixes regions) prefix.bits i
    → items_in (take (k + 1) (chosen p regions)) ≡ items_in (take k (chosen p regions)) ++ items_at regions i
next_chosen p regions found k i prefix well is h at owner =
    let cs : List Region = chosen p regions in
    let inside : k < length cs = omega (arith, h, many_chosen p regions found is) in
    let r : Region = get_or cs k empty_region in
    let here : Contains regions r = All-filter (λ (s : Region). may_hold p s.prefix) (Contains regions) regions
    (All-contains_itself regions) k empty_region inside in
    let m : ℕ = here.0 in
    let within : m < length regions = here.1 in
    let there : region_at regions m ≡ r = get_or_any regions m within r here.2 in
    let bits_are : prefix.bits ≡ bits_at (region_prefixes regions) m =
    ap (λ (b : BitList). b.bits) (sym at)
    ∙ sym (get_or-map (λ (b : BitList). b.bits) found k prefix [] h)
    ∙ ap (λ ps. bits_at ps k) (is ∙ prefixes_chosen p regions)
    ∙ prefix_of_region cs k
    ∙ ap (λ (s : Region). s.prefix) (sym there)
    ∙ sym (prefix_of_region regions m) in
    let own : IsOwner (region_prefixes regions) prefix.bits m =
    subst (λ b. IsOwner (region_prefixes regions) b m) (sym bits_are)
    (owns_itself (region_prefixes regions) m (omega (arith, within, region_prefixes_length regions))) in
    let same : i ≡ m = one_owner (region_prefixes regions) prefix.bits i m well.rising owner own in
    ap items_in (take_more cs k empty_region inside)
    ∙ items_push (take k cs) r
    ∙ ap (λ (s : Region). items_in (take k cs) ++ s.items) (sym there)
    ∙ ap (λ j. items_in (take k cs) ++ items_at regions j) (sym same)
  where
    get_or_any : (regions : List Region) (m : ℕ) → m < length regions → (r : Region) → get_or regions m r ≡ r → region_at regions m ≡ r
    get_or_any regions m h r e = get_or_default regions m empty_region r h ∙ e

-- and so do those that a pattern meets
pub next_met : (kind : Kind) (pattern : Tree) (p : List (Option (List Bool))) (regions : List Region) (k i : ℕ) (before after : List Item)
    → items_in (take (k + 1) (chosen p regions)) ≡ items_in (take k (chosen p regions)) ++ items_at regions i
    → before ≡ hits_in kind pattern (items_in (take k (chosen p regions))) → after ≡ before ++ hits_in kind pattern (items_at regions i)
    → after ≡ hits_in kind pattern (items_in (take (k + 1) (chosen p regions)))
next_met kind pattern p regions k i before after next was is =
    let test : Item → Bool = λ (x : Item). is_hit kind pattern (seen x.term) in
    is
    ∙ ap (λ xs. xs ++ hits_in kind pattern (items_at regions i)) was
    ∙ sym (filter-append test (items_in (take k (chosen p regions))) (items_at regions i))
    ∙ ap (filter test) (sym next)

-- where all chosen regions were looked at, all that is met was found
pub all_met : (d : Decl) (regions : List Region) (room : ℕ) (pattern : Tree) (found : List BitList) (k : ℕ) (list : List Item) → IsWellPlaced regions →
    IsFile d regions room → is_head pattern ≡ true
    → map (λ (b : BitList). b.bits) found ≡ filter (λ prefix. may_hold (pattern_of d.keys pattern) prefix) (region_prefixes regions) → length found ≤ k
    → list ≡ hits_in d.kind pattern (items_in (take k (chosen (pattern_of d.keys pattern) regions))) → list ≡ hits_in d.kind pattern (items_in regions)
all_met d regions room pattern found k list well file head is h was =
    let cs : List Region = chosen (pattern_of d.keys pattern) regions in
    was
    ∙ ap (λ rs. hits_in d.kind pattern (items_in rs)) (take_all k cs (omega (arith, h, many_chosen (pattern_of d.keys pattern) regions found is)))
    ∙ all_chosen d regions room pattern well file head
