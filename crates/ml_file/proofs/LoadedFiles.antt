-- A file that has taken all its terms holds the list that these make.
use Rattle.std.proofs.Common.{◌≡◌, ◌≢◌, inl, inr, true, ℕ, ◌+◌, ◌<◌, ◌≤◌, List, [], ◌∷◌, length, get_or, map, refl, sym, ap, ◌∙◌, subst, arith}
use Rattle.std.specs.Prelude.{Contains, ◌↔◌}
use Rattle.std.specs.List.{AllPairs, remove}
use Rattle.std.specs.declared.cmp.Ordering.TheVariants.{Less}
use Rattle.std.proofs.lemmas.List.{length-map, get_or-map}
use Rattle.std.proofs.lemmas.List.Edits.{length-remove}
use Rattle.std.proofs.lemmas.List.Elements.{Contains-get_or}
use Rattle.std.proofs.lemmas.List.Kept.{AllPairs-cons}
use Rattle.ml_key.specs.ItemKeys.{item_key}
use Rattle.ml_region.specs.declared.item.Item.{Item}
use Rattle.ml_search.specs.Db.{Item as ListItem, at, terms, load_list_from}
use Rattle.ml_search.specs.Loading.{first_list, in_key_order}
use Rattle.ml_term.proofs.Orderings.{less}
use Rattle.ml_term.specs.Keys.{key_cmp, tuple_key}
use Rattle.ml_term.specs.Seen.{seen}
use Rattle.ml_term.specs.Tree.{Tree}
use Rattle.ml_term.specs.Valid.{is_valid}
use Rattle.ml_term.specs.declared.declaration.Decl.{Decl}
use Rattle.ml_term.specs.declared.declaration.Kind.{Kind}
use Rattle.ml_term.specs.declared.declaration.Kind.TheVariants.{Relation, Clauses}
use Rattle.ml_file.specs.Files.{File, items_in}
use Rattle.ml_file.specs.PlainList.{clause_cmp, item_cmp, IsListOf}
use Rattle.ml_file.specs.Settled.{AreSettled, HasSameItems}
use Rattle.ml_file.specs.Stores.{IsLoadedItem, AreListed, IsLoadedFile, IsNthItem, AreFrom, HaveTerms, HasTaken, list_item_of, terms_in}
use Rattle.ml_file.proofs.HeldItems.{after_remove}
use Rattle.ml_file.proofs.KeyOrderedTuples.{Precedes, all_from, all_has, has_all, first_or_later, is_first, rises_all}
use Rattle.ml_file.proofs.FileLoads.{Among, among, has_term}
use Rattle.ml_file.proofs.ItemOrders.{contains_later, first_before, item_itself, rest_rises}

-- ---- clauses

-- an item that came earlier comes before
earlier : (decl : Decl) (m n : ℕ) (x y : Item) → IsNthItem decl m x → IsNthItem decl n y → m < n → clause_cmp x y ≡ Less
earlier decl m n x y p q l =
    rw (p.front, q.front, p.place, q.place, p.change, q.change, less m n l) refl

in_turn : (decl : Decl) (n : ℕ) (items : List Item) → AreFrom decl n items → AllPairs (λ (a : Item) (b : Item). clause_cmp a b ≡ Less) items
in_turn decl n [] h = λ i j d l k. absurd (omega (arith, k))
in_turn decl n (x ∷ xs) h =
    AllPairs-cons (λ (a : Item) (b : Item). clause_cmp a b ≡ Less) x xs
    (all_from (λ y. clause_cmp x y ≡ Less) xs
    (λ y there. let found : Among decl (1 + n) xs y = among decl (1 + n) xs y h.1 there in
    earlier decl n found.turn x y h.0 found.is (omega (arith, found.low))))
    (in_turn decl (1 + n) xs h.1)

all_listed : (decl : Decl) (n : ℕ) (items : List Item) → AreFrom decl n items → map list_item_of items ≡ load_list_from n (terms_in items)
all_listed decl n [] h = refl
all_listed decl n (x ∷ xs) h =
    let rest : map list_item_of xs ≡ load_list_from (1 + n) (terms_in xs) = all_listed decl (1 + n) xs h.1 in
    λ i. record { id = record { place = at (h.0.place i); change = h.0.change i }; term = seen x.term } ∷ rest i

-- ---- tuples

-- items with some terms, picked from those that came
record Picked (came : List Item) (us : List Tree) : Type 0 where
  list : List Item
  same : terms_in list ≡ us
  part : (x : Item) → Contains list x → Contains came x

record HasTerm (came : List Item) (t : Tree) : Type 0 where
  item : Item
  inside : Contains came item
  is : seen item.term ≡ t

with_term : (came : List Item) (t : Tree) → Contains (terms_in came) t → HasTerm came t
with_term [] t h = absurd (omega (arith, h.1))
with_term (x ∷ xs) t h =
    elim (first_or_later (seen x.term) t (terms_in xs) h) [
      | inl e ↦ record { item = x; inside = is_first x x xs refl; is = sym e }
      | inr later ↦ let found : HasTerm xs t = with_term xs t later in
          record { item = found.item; inside = contains_later x found.item xs found.inside; is = found.is }
    ]

picked : (came : List Item) (us : List Tree) → ((t : Tree) → Contains us t → Contains (terms_in came) t) → Picked came us
picked came [] all = record { list = []; same = refl; part = λ x h. absurd (omega (arith, h.1)) }
picked came (u ∷ us) all =
    let one : HasTerm came u = with_term came u (all u (is_first u u us refl)) in
    let rest : Picked came us = picked came us (λ t h. all t (contains_later u t us h)) in
    record {
      list = one.item ∷ rest.list;
      same = (λ i. one.is i ∷ rest.same i);
      part = λ x h. elim (first_or_later one.item x rest.list h) [ inl e ↦ subst (Contains came) (sym e) one.inside | inr later ↦ rest.part x later ];
    }

-- of items with different terms, those with one term are one
same_item : (items : List Item) → AllPairs (λ (a : Item) (b : Item). seen a.term ≢ seen b.term) items → (x y : Item) → Contains items x → Contains items y →
    seen x.term ≡ seen y.term → x ≡ y
same_item [] differ x y p q e = absurd (omega (arith, p.1))
same_item (z ∷ zs) differ x y p q e =
    let R : Item → Item → Type 0 = λ a b. seen a.term ≢ seen b.term in
    elim (first_or_later z x zs p) [
      | inl first_x ↦ elim (first_or_later z y zs q) [
        | inl first_y ↦ first_x ∙ sym first_y
        | inr later_y ↦ absurd (first_before R z zs differ y later_y (ap (λ (w : Item). seen w.term) (sym first_x) ∙ e))
      ]
      | inr later_x ↦ elim (first_or_later z y zs q) [
        | inl first_y ↦ absurd (first_before R z zs differ x later_x (ap (λ (w : Item). seen w.term) (sym first_y) ∙ sym e))
        | inr later_y ↦ same_item zs (rest_rises R z zs differ) x y later_x later_y e
      ]
    ]

-- different elements that are all in a list are no more than it has
no_more : {X : Type 0} (xs ys : List X) → AllPairs (λ (a : X) (b : X). a ≢ b) xs → ((z : X) → Contains xs z → Contains ys z) → length xs ≤ length ys
no_more [] ys differ within = omega arith
no_more {X} (x ∷ xs) ys differ within =
    let R : X → X → Type 0 = λ a b. a ≢ b in
    let there : Contains ys x = within x (is_first x x xs refl) in
    let rest : length xs ≤ length (remove ys there.0) =
    no_more xs (remove ys there.0) (rest_rises R x xs differ)
    (λ z h. elim (after_remove ys there.0 x z there.1 there.2 (within z (contains_later x z xs h))) [
      | inl kept ↦ kept
      | inr e ↦ absurd (first_before R x xs differ z h (sym e))
    ]) in
    omega (arith, rest, length-remove ys there.0 there.1)

-- elements that differ in something differ
differ_by : {X Y : Type 0} (f : X → Y) (xs : List X) → AllPairs (λ (a : X) (b : X). f a ≢ f b) xs → AllPairs (λ (a : X) (b : X). a ≢ b) xs
differ_by f xs differ i j d l h e = differ i j d l h (ap f e)

-- items whose terms rise rise by their keys
by_keys : (keys : List ℕ) (list : List Item) → ((x : Item) → Contains list x → x.key.bits ≡ tuple_key keys (seen x.term)) →
    AllPairs (Precedes keys) (terms_in list)
    → AllPairs (λ (a : Item) (b : Item). item_cmp Relation a b ≡ Less) list
by_keys keys list keyed rises i j d l h =
    let x : Item = get_or list i d in
    let y : Item = get_or list j d in
    let many = length-map list (λ (z : Item). seen z.term) in
    let first : get_or (terms_in list) i (seen d.term) ≡ seen x.term = get_or-map (λ (z : Item). seen z.term) list i d (seen d.term) (omega (arith, l, h)) in
    let second : get_or (terms_in list) j (seen d.term) ≡ seen y.term = get_or-map (λ (z : Item). seen z.term) list j d (seen d.term) h in
    let before : Precedes keys (seen x.term) (seen y.term) =
    subst (λ u. Precedes keys (seen x.term) u) second (subst (λ t. Precedes keys t (get_or (terms_in list) j (seen d.term))) first
    (rises i j (seen d.term) l (omega (arith, h, many)))) in
    let key_x : x.key.bits ≡ tuple_key keys (seen x.term) = keyed x (Contains-get_or list i d (omega (arith, l, h))) in
    let key_y : y.key.bits ≡ tuple_key keys (seen y.term) = keyed y (Contains-get_or list j d h) in
    subst (λ k. key_cmp k y.key.bits ≡ Less) (sym key_x) (subst (λ k. key_cmp (tuple_key keys (seen x.term)) k ≡ Less) (sym key_y) before)

-- ---- the plain list

-- the plain list of a file's items, which are those that came, and the list of the store that it is
record PlainOf (kind : Kind) (items came : List Item) (list : List ListItem) : Type 0 where
  plain : List Item
  is : IsListOf kind items plain
  same : AreListed kind plain list
  part : (x : Item) → Contains plain x → Contains came x
  many : length came ≡ length plain

terms_loaded : (n : ℕ) (ts : List Tree) → terms (load_list_from n ts) ≡ ts
terms_loaded n [] = refl
terms_loaded n (t ∷ ts) = ap (λ us. t ∷ us) (terms_loaded (1 + n) ts)

plain_of : (decl : Decl) (kind : Kind) (keys : List ℕ) (items came : List Item) (ts : List Tree) → ((x : Item) → Contains items x ↔ Contains came x) →
    AreFrom decl 0 came
    → ((x : Item) → kind ≡ Relation → Contains came x → x.key.bits ≡ tuple_key keys (seen x.term)) → HaveTerms kind came ts
    → PlainOf kind items came (load_list_from 0 (first_list kind keys ts))
plain_of decl Relation keys items came ts inside each keyed have =
    let ordered : List Tree = in_key_order keys ts in
    let back : (t : Tree) → Contains ordered t → Contains (terms_in came) t = λ t h. (have.1 t).1 (all_has keys ts t h) in
    let pick : Picked came ordered = picked came ordered back in
    let valid : (v : Tree) → Contains ts v → is_valid v ≡ true = λ v h.
    let one : HasTerm came v = with_term came v ((have.1 v).1 h) in subst (λ t. is_valid t ≡ true) one.is one.item.valid in
    let forth : (x : Item) → Contains came x → Contains pick.list x = λ x h.
    let among_terms : Contains (terms_in pick.list) (seen x.term) =
    subst (λ us. Contains us (seen x.term)) (sym pick.same) (has_all keys ts valid (seen x.term) ((have.1 (seen x.term)).0 (has_term came x h))) in
    let one : HasTerm pick.list (seen x.term) = with_term pick.list (seen x.term) among_terms in
    subst (Contains pick.list) (same_item came have.0 one.item x (pick.part one.item one.inside) h one.is) one.inside in
    let rises : AllPairs (λ (a : Item) (b : Item). item_cmp Relation a b ≡ Less) pick.list =
    by_keys keys pick.list (λ x h. keyed x refl (pick.part x h)) (subst (AllPairs (Precedes keys)) (sym pick.same) (rises_all keys ts)) in
    let differ : AllPairs (λ (a : Item) (b : Item). a ≢ b) pick.list = λ i j d l h e.
    item_itself Relation (get_or pick.list i d) (subst (λ y. item_cmp Relation (get_or pick.list i d) y ≡ Less) (sym e) (rises i j d l h)) in
    let up : length came ≤ length pick.list = no_more came pick.list (differ_by (λ (x : Item). seen x.term) came have.0) forth in
    let down : length pick.list ≤ length came = no_more pick.list came differ pick.part in
    record {
      plain = pick.list;
      is = record { holds = λ x. (λ h. forth x ((inside x).0 h), λ h. (inside x).1 (pick.part x h)); rises = rises };
      same = pick.same ∙ sym (terms_loaded 0 ordered);
      part = pick.part;
      many = omega (arith, up, down);
    }
plain_of decl Clauses keys items came ts inside each keyed have =
    record {
      plain = came;
      is = record { holds = inside; rises = in_turn decl 0 came each };
      same = all_listed decl 0 came each ∙ ap (load_list_from 0) have;
      part = λ x h. h;
      many = refl;
    }

key_of_tuple : (kind : Kind) (keys : List ℕ) (t : Tree) (n : ℕ) → kind ≡ Relation → item_key kind keys t n ≡ tuple_key keys t
key_of_tuple Relation keys t n is = refl
key_of_tuple Clauses keys t n is = absurd (cc is)

-- ---- the file

pub taken_settled : (decl : Decl) (ts : List Tree) (old new : File) → HasTaken decl ts old → HasSameItems old.regions new.regions →
    new ≡ record old { regions = new.regions }
    → HasTaken decl ts new
taken_settled decl ts old new taken items others =
    record {
      declared = ap (λ (f : File). f.decl) others ∙ taken.declared;
      came = taken.came;
      inside = λ x. (λ h. (taken.inside x).0 ((items.same x).0 h), λ h. (items.same x).1 ((taken.inside x).1 h));
      each = taken.each;
      have = taken.have;
      counted = ap (λ (f : File). f.added) others ∙ taken.counted;
      few = taken.few;
    }

pub loaded_file : (decl : Decl) (ts : List Tree) (file : File) → HasTaken decl ts file → AreSettled file.regions
    → IsLoadedFile decl (load_list_from 0 (first_list decl.kind decl.keys ts)) file
loaded_file decl ts file taken settled =
    let came : List Item = taken.came in
    let of_turn : (x : Item) → Contains came x → Among decl 0 came x = λ x h. among decl 0 came x taken.each h in
    let told : PlainOf decl.kind (items_in file.regions) came (load_list_from 0 (first_list decl.kind decl.keys ts)) =
    plain_of decl decl.kind decl.keys (items_in file.regions) came ts taken.inside taken.each
    (λ x relation h. (of_turn x h).is.keyed ∙ key_of_tuple decl.kind decl.keys (seen x.term) x.number relation) taken.have in
    record {
      declared = taken.declared;
      items = told.plain;
      plain = told.is;
      same = told.same;
      loaded = all_from (IsLoadedItem decl.kind) told.plain (λ x h.
          let found : Among decl 0 came x = of_turn x (told.part x h) in
          record {
            committed = found.is.committed;
            front = found.is.front;
            place = found.is.place;
            numbered = λ clauses. found.is.number ∙ sym found.is.change;
          });
      counted = taken.counted ∙ told.many;
      settled = settled;
    }
