-- A file that takes one term more.
use Rattle.std.proofs.Common.{◌≡◌, ◌≢◌, ◌⊎◌, inl, inr, true, ℕ, ◌+◌, ◌^◌, ◌<◌, ◌≤◌, min, List, [], ◌∷◌, ◌++◌, length, get_or, refl, sym, ap, ◌∙◌, subst, arith}
use Rattle.std.specs.Prelude.{Contains, ◌↔◌}
use Rattle.std.specs.List.{All}
use Rattle.std.proofs.lemmas.List.{length-map, get_or-map, length_push, map_push}
use Rattle.std.proofs.lemmas.List.Elements.{All-contains, Contains-append_left, Contains-get_or, Contains-push, Contains-push_cases}
use Rattle.std.proofs.lemmas.List.Quantifiers.{all_pairs_push}
use Rattle.ml_key.specs.ItemKeys.{item_key}
use Rattle.ml_region.specs.Regions.{Region}
use Rattle.ml_region.specs.declared.item.Item.{Item}
use Rattle.ml_term.specs.Keys.{argument, arguments, tuple_key}
use Rattle.ml_term.specs.Seen.{seen}
use Rattle.ml_term.specs.Tree.{Tree}
use Rattle.ml_term.specs.Valid.{is_valid}
use Rattle.ml_term.specs.declared.declaration.Decl.{Decl}
use Rattle.ml_term.specs.declared.declaration.Kind.{Kind}
use Rattle.ml_term.specs.declared.declaration.Kind.TheVariants.{Relation, Clauses}
use Rattle.ml_term.specs.declared.term.Term.{Term}
use Rattle.ml_term.proofs.KeysTellTuples.{tuple_keys_tell, clause_keys_tell}
use Rattle.ml_file.specs.Adding.{IsPutAs, IsAdded, IsPresent}
use Rattle.ml_file.specs.Files.{File, items_in}
use Rattle.ml_file.specs.Inserting.{IsInserted, count_after}
use Rattle.ml_file.specs.Stores.{IsNthItem, AreFrom, HaveTerms, HasTaken, terms_in}
use Rattle.ml_file.specs.declared.file.put.Put.{Put}
use Rattle.ml_file.specs.declared.file.put.Put.TheVariants.{Added, Present}
use Rattle.ml_file.proofs.KeyOrderedTuples.{first_or_later}

-- ---- items that came one after another

-- an item among those that came, from the n-th on
pub record Among (decl : Decl) (n : ℕ) (items : List Item) (x : Item) : Type 0 where
  pub turn : ℕ
  pub low : n ≤ turn
  pub high : turn < n + length items
  pub is : IsNthItem decl turn x

pub among : (decl : Decl) (n : ℕ) (items : List Item) (x : Item) → AreFrom decl n items → Contains items x → Among decl n items x
among decl n [] x h there = absurd (omega (arith, there.1))
among decl n (y ∷ ys) x h there =
    elim (first_or_later y x ys there) [
      | inl e ↦ record { turn = n; low = omega arith; high = omega arith; is = subst (IsNthItem decl n) (sym e) h.0 }
      | inr later ↦
          let found : Among decl (1 + n) ys x = among decl (1 + n) ys x h.1 later in
          record { turn = found.turn; low = omega (arith, found.low); high = omega (arith, found.high); is = found.is }
    ]

one_more : (decl : Decl) (n : ℕ) (items : List Item) (x : Item) → AreFrom decl n items → IsNthItem decl (n + length items) x → AreFrom decl n (items ++ x ∷ [])
one_more decl n [] x h one = let e : n + 0 ≡ n = omega arith in (subst (λ m. IsNthItem decl m x) e one, tt)
one_more decl n (y ∷ ys) x h one =
    let e : n + length (y ∷ ys) ≡ (1 + n) + length ys = omega arith in
    (h.0, one_more decl (1 + n) ys x h.1 (subst (λ m. IsNthItem decl m x) e one))

-- ---- their terms

-- an element of a list, or one more behind it
pub pushed : {X : Type 0} (xs : List X) (y z : X) → Contains (xs ++ y ∷ []) z ↔ (Contains xs z ⊎ (z ≡ y))
pushed xs y z = (
  λ h. elim (Contains-push_cases xs y z h) [ inl there ↦ inl there | inr e ↦ inr (sym e) ],
  λ h. elim h [ inl there ↦ Contains-append_left xs (y ∷ []) z there | inr e ↦ subst (Contains (xs ++ y ∷ [])) (sym e) (Contains-push xs y) ],
)

-- of a term that is there already, nothing more comes
present_terms : (kind : Kind) (keys : List ℕ) (came : List Item) (ts : List Tree) (y : Item) (t : Tree) (n : ℕ) → is_valid t ≡ true → y.number < n → n < 2 ^ 64
    → Contains (terms_in came) (seen y.term) → y.key.bits ≡ item_key kind keys (seen y.term) y.number → y.key.bits ≡ item_key kind keys t n →
    HaveTerms kind came ts
    → HaveTerms kind came (ts ++ t ∷ [])
present_terms Relation keys came ts y t n valid low high there its is terms =
    let same : seen y.term ≡ t = tuple_keys_tell keys (seen y.term) t [] [] y.valid valid (ap (λ bits. bits ++ []) (sym its ∙ is)) in (
      terms.0,
      λ u. (
        λ h. (pushed ts t u).1 (inl ((terms.1 u).0 h)),
        λ h. elim ((pushed ts t u).0 h) [ inl was ↦ (terms.1 u).1 was | inr e ↦ subst (Contains (terms_in came)) (same ∙ sym e) there ],
      ),
    )
present_terms Clauses keys came ts y t n valid low high there its is terms =
    let same : y.number ≡ n =
    clause_keys_tell keys (argument 1 (arguments (seen y.term))) (argument 1 (arguments t)) y.number n [] [] (omega (arith, low, high)) high
    (ap (λ bits. bits ++ []) (sym its ∙ is)) in
    absurd (omega (arith, same, low))

-- a term that wasn't there comes last
added_terms : (kind : Kind) (came : List Item) (ts : List Tree) (x : Item) → ((y : Item) → kind ≡ Relation → Contains came y → seen y.term ≢ seen x.term) →
    HaveTerms kind came ts
    → HaveTerms kind (came ++ x ∷ []) (ts ++ seen x.term ∷ [])
added_terms Relation came ts x fresh terms =
    let more : terms_in (came ++ x ∷ []) ≡ terms_in came ++ seen x.term ∷ [] = map_push (λ (y : Item). seen y.term) came x in (
      all_pairs_push (λ (a : Item) (b : Item). seen a.term ≢ seen b.term) came x terms.0 (λ k d l. fresh (get_or came k d) refl (Contains-get_or came k d l)),
      λ u. (
        λ h. (pushed ts (seen x.term) u).1
            (elim ((pushed (terms_in came) (seen x.term) u).0 (subst (λ us. Contains us u) more h)) [ inl was ↦ inl ((terms.1 u).0 was) | inr e ↦ inr e ]),
        λ h. subst (λ us. Contains us u) (sym more)
            ((pushed (terms_in came) (seen x.term) u).1 (elim ((pushed ts (seen x.term) u).0 h) [ inl was ↦ inl ((terms.1 u).1 was) | inr e ↦ inr e ])),
      ),
    )
added_terms Clauses came ts x fresh terms = map_push (λ (y : Item). seen y.term) came x ∙ ap (λ us. us ++ seen x.term ∷ []) terms

-- tuples of one term have one key
one_key : (kind : Kind) (keys : List ℕ) (t u : Tree) (m n : ℕ) → kind ≡ Relation → t ≡ u → item_key kind keys t m ≡ item_key kind keys u n
one_key Relation keys t u m n is e = ap (tuple_key keys) e
one_key Clauses keys t u m n is e = absurd (cc is)

-- an item's term is among the terms
pub has_term : (items : List Item) (x : Item) → Contains items x → Contains (terms_in items) (seen x.term)
has_term items x h = (
  h.0,
  omega (arith, h.1, length-map items (λ (y : Item). seen y.term)),
  get_or-map (λ (y : Item). seen y.term) items h.0 x (seen x.term) h.1 ∙ ap (λ (y : Item). seen y.term) h.2,
)

-- ---- one term more

-- what an insert may be asked: no clause has the number
pub fresh_number : (decl : Decl) (ts : List Tree) (file : File) → HasTaken decl ts file → All (λ (x : Item). x.number ≢ file.added) (items_in file.regions)
fresh_number decl ts file taken k d l e =
    let x : Item = get_or (items_in file.regions) k d in
    let found : Among decl 0 taken.came x = among decl 0 taken.came x taken.each ((taken.inside x).0 (Contains-get_or (items_in file.regions) k d l)) in
    omega (arith, found.high, found.is.number, taken.counted, e)

module _ (decl : Decl) (ts : List Tree) (put : Put) (old new : File) (t : Term) (taken : HasTaken decl ts old) (inserted : IsInserted put old t old.added new)
    (kept : new.decl ≡ old.decl) (few : length ts < 4294967295) where
  abbrev item : Item
  item = inserted.item

  abbrev came : List Item
  came = taken.came

  term_is : seen item.term ≡ seen t
  term_is = ap seen inserted.term_is

  key_is : item.key.bits ≡ item_key decl.kind decl.keys (seen t) old.added
  key_is = inserted.key_is ∙ ap (λ (d : Decl). item_key d.kind d.keys (seen t) old.added) taken.declared

  valid : is_valid (seen t) ≡ true
  valid = subst (λ u. is_valid u ≡ true) term_is item.valid

  nth : IsNthItem decl (length came) item
  nth = record {
    committed = inserted.committed;
    front = inserted.front;
    place = inserted.place;
    change = inserted.change ∙ taken.counted;
    number = inserted.number_is ∙ taken.counted;
    keyed = key_is ∙ ap (λ u. item_key decl.kind decl.keys u old.added) (sym term_is)
        ∙ ap (item_key decl.kind decl.keys (seen item.term)) (sym inserted.number_is);
  }

  longer : length (ts ++ seen t ∷ []) ≡ length ts + 1
  longer = length_push ts (seen t)

  -- no tuple that came has the term of an item whose key is not there
  is_new : IsAdded old.regions item new.regions → (y : Item) → decl.kind ≡ Relation → Contains came y → seen y.term ≢ seen item.term
  is_new done y relation there same =
      let found : Among decl 0 came y = among decl 0 came y taken.each there in
      All-contains (λ (z : Item). z.key.bits ≢ item.key.bits) (items_in old.regions) y done.absent ((taken.inside y).1 there)
      (found.is.keyed ∙ one_key decl.kind decl.keys (seen y.term) (seen t) y.number old.added relation (same ∙ term_is) ∙ sym key_is)

  is_added : IsAdded old.regions item new.regions → new.added ≡ min (old.added + 1) 4294967295 → HasTaken decl (ts ++ seen t ∷ []) new
  is_added done count =
      record {
        declared = kept ∙ taken.declared;
        came = came ++ item ∷ [];
        inside = λ x. (
          λ h. (pushed came item x).1 (elim ((done.more x).0 h) [ inl was ↦ inl ((taken.inside x).0 was) | inr e ↦ inr e ]),
          λ h. (done.more x).1 (elim ((pushed came item x).0 h) [ inl was ↦ inl ((taken.inside x).1 was) | inr e ↦ inr e ]),
        );
        each = one_more decl 0 came item taken.each (let turn : length came ≡ 0 + length came = omega arith in subst (λ n. IsNthItem decl n item) turn nth);
        have = subst (λ u. HaveTerms decl.kind (came ++ item ∷ []) (ts ++ u ∷ [])) term_is (added_terms decl.kind came ts item (is_new done) taken.have);
        counted = omega (arith, count, taken.counted, taken.few, few, length_push came item);
        few = omega (arith, taken.few, longer, length_push came item);
      }

  is_present : IsPresent old.regions item.key.bits new.regions → new.added ≡ old.added → HasTaken decl (ts ++ seen t ∷ []) new
  is_present done count =
      let y : Item = done.item in
      let there : Contains came y = (taken.inside y).0 done.held.inside in
      let found : Among decl 0 came y = among decl 0 came y taken.each there in
      record {
        declared = kept ∙ taken.declared;
        came = came;
        inside = λ x. subst (λ (rs : List Region). Contains (items_in rs) x ↔ Contains came x) (sym done.same) (taken.inside x);
        each = taken.each;
        have =
            present_terms decl.kind decl.keys came ts y (seen t) old.added valid (omega (arith, found.high, found.is.number, taken.counted))
            (omega (arith, taken.counted, taken.few, few)) (has_term came y there) found.is.keyed (done.held.key_is ∙ key_is) taken.have;
        counted = count ∙ taken.counted;
        few = omega (arith, taken.few, longer);
      }

  by_put : (p : Put) → IsPutAs p old.regions item new.regions → new.added ≡ count_after p old.added → HasTaken decl (ts ++ seen t ∷ []) new
  by_put Added done count = is_added done count
  by_put Present done count = is_present done count

  pub taken_more : HasTaken decl (ts ++ seen t ∷ []) new
  taken_more = by_put put inserted.done inserted.added
