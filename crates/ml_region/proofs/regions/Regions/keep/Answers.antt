use Rattle.std.proofs.Common.{◌≡◌, ℕ, ◌<◌, true, List, [], length, set, sym, ap, ◌∙◌, subst, arith}
use Rattle.std.specs.Prelude.{Contains, vec_capacity}
use Rattle.std.proofs.lemmas.List.{get_or_read}
use Rattle.ml_region.specs.Changes.{IsMarkedAt}
use Rattle.ml_region.specs.Keeping.{IsCommittedAt}
use Rattle.ml_region.specs.Prefixes.{bits_at, IsRising}
use Rattle.ml_region.specs.Listing.{Entry, slot_at}
use Rattle.ml_region.specs.Regions.{Region, RegionList, HasNoKey, IsFound, keys_of}
use Rattle.ml_region.specs.inside.Stored.{page_at, regions_of}
use Rattle.ml_region.specs.declared.item.Id.{Id}
use Rattle.ml_region.specs.declared.item.Item.{Item}
use Rattle.ml_region.proofs.FoundItems.{found_stored, key_of_item}
use Rattle.ml_region.proofs.StoredRegions.{prefixes_length}
use Rattle.ml_region.proofs.ItemChanges.{owner_inside, owner_rising, owner_lacks, mark_item}
use Rattle.ml_region.proofs.regions.Regions.keep.Goals as goal

pub index-requires : goal.index-requires
index-requires g c =
    let entries : List Entry = (g.D.Directory.listing c.self.inside.dir).entries in
    let pages : List (List Item) = c.self.inside.pages.items in
    let free : List ℕ = c.self.inside.free.items in
    let reserved : ℕ = vec_capacity c.self.inside.free in
    let slot : ℕ = c.owner-slot.result in
    let inside : slot < length pages = owner_inside entries pages free reserved c.args.key.now.bits slot c.self.invariant c.owner-slot.ensures in
    omega (arith, inside, c.self.inside.pages.ok.0)

pub find-requires : goal.find-requires
find-requires g c =
    let entries : List Entry = (g.D.Directory.listing c.self.inside.dir).entries in
    let pages : List (List Item) = c.self.inside.pages.items in
    let free : List ℕ = c.self.inside.free.items in
    let reserved : ℕ = vec_capacity c.self.inside.free in
    let slot : ℕ = c.owner-slot.result in
    let inside : slot < length pages = owner_inside entries pages free reserved c.args.key.now.bits slot c.self.invariant c.owner-slot.ensures in
    let first : c.index.result.now ≡ page_at pages slot = get_or_read pages slot c.index.result.now inside c.index.ensures [] in
    subst (λ xs. IsRising (keys_of xs)) (sym first) (owner_rising entries pages free reserved c.args.key.now.bits slot c.self.invariant c.owner-slot.ensures)

pub index-requires-in-Some : goal.index-requires-in-Some
index-requires-in-Some g c =
    let entries : List Entry = (g.D.Directory.listing c.self.inside.dir).entries in
    let pages : List (List Item) = c.self.inside.pages.items in
    let free : List ℕ = c.self.inside.free.items in
    let reserved : ℕ = vec_capacity c.self.inside.free in
    let slot : ℕ = c.owner-slot.result in
    let inside : slot < length pages = owner_inside entries pages free reserved c.args.key.now.bits slot c.self.invariant c.owner-slot.ensures in
    omega (arith, inside, c.self.inside.pages.ok.0)

pub item-requires : goal.item-requires
item-requires g c =
    let entries : List Entry = (g.D.Directory.listing c.self.inside.dir).entries in
    let pages : List (List Item) = c.self.inside.pages.items in
    let free : List ℕ = c.self.inside.free.items in
    let reserved : ℕ = vec_capacity c.self.inside.free in
    let slot : ℕ = c.owner-slot.result in
    let inside : slot < length pages = owner_inside entries pages free reserved c.args.key.now.bits slot c.self.invariant c.owner-slot.ensures in
    let first : c.index.result.now ≡ page_at pages slot = get_or_read pages slot c.index.result.now inside c.index.ensures [] in
    let again : c.index-in-Some.result.now ≡ page_at pages slot = get_or_read pages slot c.index-in-Some.result.now inside c.index-in-Some.ensures [] in
    subst (λ xs. c.in-Some.j < length xs) (first ∙ sym again) c.in-Some.ensures.0

pub index_mut-requires : goal.index_mut-requires
index_mut-requires g c =
    let entries : List Entry = (g.D.Directory.listing c.self.inside.dir).entries in
    let pages : List (List Item) = c.self.inside.pages.items in
    let free : List ℕ = c.self.inside.free.items in
    let reserved : ℕ = vec_capacity c.self.inside.free in
    let slot : ℕ = c.owner-slot.result in
    let inside : slot < length pages = owner_inside entries pages free reserved c.args.key.now.bits slot c.self.invariant c.owner-slot.ensures in
    omega (arith, inside, c.self.inside.pages.ok.0)

pub mark-requires : goal.mark-requires
mark-requires g c =
    let entries : List Entry = (g.D.Directory.listing c.self.inside.dir).entries in
    let pages : List (List Item) = c.self.inside.pages.items in
    let free : List ℕ = c.self.inside.free.items in
    let reserved : ℕ = vec_capacity c.self.inside.free in
    let slot : ℕ = c.owner-slot.result in
    let inside : slot < length pages = owner_inside entries pages free reserved c.args.key.now.bits slot c.self.invariant c.owner-slot.ensures in
    let first : c.index.result.now ≡ page_at pages slot = get_or_read pages slot c.index.result.now inside c.index.ensures [] in
    let second : c.index_mut.result.now ≡ page_at pages slot = get_or_read pages slot c.index_mut.result.now inside c.index_mut.ensures.value [] in
    subst (λ xs. c.in-Some.j < length xs) (first ∙ sym second) c.in-Some.ensures.0

pub invariant_of-self : goal.invariant_of-self
invariant_of-self g c =
    let entries : List Entry = (g.D.Directory.listing c.self.inside.dir).entries in
    let pages : List (List Item) = c.self.inside.pages.items in
    let free : List ℕ = c.self.inside.free.items in
    let reserved : ℕ = vec_capacity c.self.inside.free in
    let slot : ℕ = c.owner-slot.result in
    let inside : slot < length pages = owner_inside entries pages free reserved c.args.key.now.bits slot c.self.invariant c.owner-slot.ensures in
    let first : c.index.result.now ≡ page_at pages slot = get_or_read pages slot c.index.result.now inside c.index.ensures [] in
    let second : c.index_mut.result.now ≡ page_at pages slot = get_or_read pages slot c.index_mut.result.now inside c.index_mut.ensures.value [] in
    let j : ℕ = c.in-Some.j in
    let within : j < length (page_at pages slot) = subst (λ xs. j < length xs) first c.in-Some.ensures.0 in
    let key : bits_at (keys_of (page_at pages slot)) j ≡ c.args.key.now.bits =
    subst (λ xs. bits_at (keys_of xs) j ≡ c.args.key.now.bits) first c.in-Some.ensures.1 in
    let id : Id = record { place = c.args.place; change = c.item.result.now.id.change } in
    let at : IsMarkedAt (page_at pages slot) j true id c.mark.new.self =
    subst (λ xs. IsMarkedAt xs j true id c.mark.new.self) second c.mark.ensures in
    let both = mark_item entries pages free reserved c.args.key.now.bits slot j true id c.mark.new.self c.self.invariant c.owner-slot.ensures
    within key at in
    both.0

pub unreachable-requires : goal.unreachable-requires
unreachable-requires g c =
    let entries : List Entry = (g.D.Directory.listing c.self.inside.dir).entries in
    let pages : List (List Item) = c.self.inside.pages.items in
    let free : List ℕ = c.self.inside.free.items in
    let reserved : ℕ = vec_capacity c.self.inside.free in
    let slot : ℕ = c.owner-slot.result in
    let same : regions_of entries pages ≡ c.args.self.now.regions = ap (λ (v : RegionList). v.regions) c.self.view_is in
    let inside : slot < length pages = owner_inside entries pages free reserved c.args.key.now.bits slot c.self.invariant c.owner-slot.ensures in
    let first : c.index.result.now ≡ page_at pages slot = get_or_read pages slot c.index.result.now inside c.index.ensures [] in
    let none : HasNoKey (regions_of entries pages) c.args.key.now.bits =
    owner_lacks entries pages free reserved c.args.key.now.bits slot c.self.invariant c.owner-slot.ensures
    (subst (λ xs. Contains (keys_of xs) c.args.key.now.bits → ⊥) first c.in-None.ensures) in
    subst (λ (q : List Region). HasNoKey q c.args.key.now.bits) same none c.requires.region c.requires.within c.requires.among

pub returns-clause-regions : goal.returns-clause-regions
returns-clause-regions g c =
    let entries : List Entry = (g.D.Directory.listing c.self.inside.dir).entries in
    let pages : List (List Item) = c.self.inside.pages.items in
    let free : List ℕ = c.self.inside.free.items in
    let reserved : ℕ = vec_capacity c.self.inside.free in
    let slot : ℕ = c.owner-slot.result in
    let same : regions_of entries pages ≡ c.args.self.now.regions = ap (λ (v : RegionList). v.regions) c.self.view_is in
    let inside : slot < length pages = owner_inside entries pages free reserved c.args.key.now.bits slot c.self.invariant c.owner-slot.ensures in
    let first : c.index.result.now ≡ page_at pages slot = get_or_read pages slot c.index.result.now inside c.index.ensures [] in
    let again : c.index-in-Some.result.now ≡ page_at pages slot = get_or_read pages slot c.index-in-Some.result.now inside c.index-in-Some.ensures [] in
    let second : c.index_mut.result.now ≡ page_at pages slot = get_or_read pages slot c.index_mut.result.now inside c.index_mut.ensures.value [] in
    let j : ℕ = c.in-Some.j in
    let within : j < length (page_at pages slot) = subst (λ xs. j < length xs) first c.in-Some.ensures.0 in
    let key : bits_at (keys_of (page_at pages slot)) j ≡ c.args.key.now.bits =
    subst (λ xs. bits_at (keys_of xs) j ≡ c.args.key.now.bits) first c.in-Some.ensures.1 in
    let id : Id = record { place = c.args.place; change = c.item.result.now.id.change } in
    let at : IsMarkedAt (page_at pages slot) j true id c.mark.new.self =
    subst (λ xs. IsMarkedAt xs j true id c.mark.new.self) second c.mark.ensures in
    let both = mark_item entries pages free reserved c.args.key.now.bits slot j true id c.mark.new.self c.self.invariant c.owner-slot.ensures
    within key at in
    let h : c.owner-slot.ensures.place < length entries = omega (arith, c.owner-slot.ensures.owner.within, prefixes_length entries) in
    let page : c.index-in-Some.result.now ≡ page_at pages (slot_at entries c.owner-slot.ensures.place) =
    again ∙ ap (page_at pages) c.owner-slot.ensures.same in
    let here : j < length c.index-in-Some.result.now = subst (λ xs. j < length xs) (sym again) within in
    let named : bits_at (keys_of c.index-in-Some.result.now) j ≡ c.args.key.now.bits =
    subst (λ xs. bits_at (keys_of xs) j ≡ c.args.key.now.bits) (sym again) key in
    let is : c.item.result.now.key.bits ≡ c.args.key.now.bits =
    ap (λ (x : Item). x.key.bits) c.item.ensures ∙ sym (key_of_item c.index-in-Some.result.now j c.item.result.now here) ∙ named in
    let found : IsFound (regions_of entries pages) c.args.key.now.bits c.item.result.now =
    found_stored entries pages c.owner-slot.ensures.place j c.args.key.now.bits c.index-in-Some.result.now c.item.result.now h page here
    c.item.ensures is in
    subst (λ (q : List Region). IsCommittedAt q c.args.key.now.bits c.args.place (regions_of entries (set pages slot c.mark.new.self))) same
    (record { item = c.item.result.now; found = found; marked = both.1 })
