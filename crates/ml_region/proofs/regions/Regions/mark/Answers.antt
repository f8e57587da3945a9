use Rattle.std.proofs.Common.{◌≡◌, ℕ, ◌<◌, List, [], length, set, sym, ap, ◌∙◌, subst, arith}
use Rattle.std.specs.Prelude.{Contains, vec_capacity}
use Rattle.std.proofs.lemmas.List.{get_or_read}
use Rattle.ml_region.specs.Changes.{IsMarked, IsMarkedAt}
use Rattle.ml_region.specs.Prefixes.{bits_at, IsRising}
use Rattle.ml_region.specs.Listing.{Entry}
use Rattle.ml_region.specs.Regions.{Region, RegionList, HasNoKey, keys_of}
use Rattle.ml_region.specs.inside.Stored.{page_at, regions_of}
use Rattle.ml_region.specs.declared.item.Item.{Item}
use Rattle.ml_region.proofs.ItemChanges.{owner_inside, owner_rising, owner_lacks, mark_item}
use Rattle.ml_region.proofs.regions.Regions.mark.Goals as goal

pub index-requires : goal.index-requires
index-requires g c =
    let entries : List Entry = (g.D.Directory.listing c.self.inside.dir).entries in
    let pages : List (List Item) = c.self.inside.pages.items in
    let free : List ℕ = c.self.inside.free.items in
    let reserved : ℕ = vec_capacity c.self.inside.free in
    let slot : ℕ = c.owner-slot.result in
    let same : regions_of entries pages ≡ c.args.self.now.regions = ap (λ (v : RegionList). v.regions) c.self.view_is in
    let inside : slot < length pages = owner_inside entries pages free reserved c.args.key.now.bits slot c.self.invariant c.owner-slot.ensures in
    omega (arith, inside, c.self.inside.pages.ok.0)

pub find-requires : goal.find-requires
find-requires g c =
    let entries : List Entry = (g.D.Directory.listing c.self.inside.dir).entries in
    let pages : List (List Item) = c.self.inside.pages.items in
    let free : List ℕ = c.self.inside.free.items in
    let reserved : ℕ = vec_capacity c.self.inside.free in
    let slot : ℕ = c.owner-slot.result in
    let same : regions_of entries pages ≡ c.args.self.now.regions = ap (λ (v : RegionList). v.regions) c.self.view_is in
    let inside : slot < length pages = owner_inside entries pages free reserved c.args.key.now.bits slot c.self.invariant c.owner-slot.ensures in
    let first : c.index.result.now ≡ page_at pages slot = get_or_read pages slot c.index.result.now inside c.index.ensures [] in
    subst (λ xs. IsRising (keys_of xs)) (sym first) (owner_rising entries pages free reserved c.args.key.now.bits slot c.self.invariant c.owner-slot.ensures)

pub index_mut-requires : goal.index_mut-requires
index_mut-requires g c =
    let entries : List Entry = (g.D.Directory.listing c.self.inside.dir).entries in
    let pages : List (List Item) = c.self.inside.pages.items in
    let free : List ℕ = c.self.inside.free.items in
    let reserved : ℕ = vec_capacity c.self.inside.free in
    let slot : ℕ = c.owner-slot.result in
    let same : regions_of entries pages ≡ c.args.self.now.regions = ap (λ (v : RegionList). v.regions) c.self.view_is in
    let inside : slot < length pages = owner_inside entries pages free reserved c.args.key.now.bits slot c.self.invariant c.owner-slot.ensures in
    omega (arith, inside, c.self.inside.pages.ok.0)

pub mark-requires : goal.mark-requires
mark-requires g c =
    let entries : List Entry = (g.D.Directory.listing c.self.inside.dir).entries in
    let pages : List (List Item) = c.self.inside.pages.items in
    let free : List ℕ = c.self.inside.free.items in
    let reserved : ℕ = vec_capacity c.self.inside.free in
    let slot : ℕ = c.owner-slot.result in
    let same : regions_of entries pages ≡ c.args.self.now.regions = ap (λ (v : RegionList). v.regions) c.self.view_is in
    let inside : slot < length pages = owner_inside entries pages free reserved c.args.key.now.bits slot c.self.invariant c.owner-slot.ensures in
    let first : c.index.result.now ≡ page_at pages slot = get_or_read pages slot c.index.result.now inside c.index.ensures [] in
    let second : c.index_mut.result.now ≡ page_at pages slot = get_or_read pages slot c.index_mut.result.now inside c.index_mut.ensures.value [] in
    subst (λ xs. c.in-Some.j < length xs) (first ∙ sym second) c.in-Some.ensures.0

pub invariant_of-self : goal.invariant_of-self
invariant_of-self g c =
    let entries : List Entry = (g.D.Directory.listing c.self.inside.dir).entries in
    let pages : List (List Item) = c.self.inside.pages.items in
    let free : List ℕ = c.self.inside.free.items in
    let reserved : ℕ = vec_capacity c.self.inside.free in
    let slot : ℕ = c.owner-slot.result in
    let same : regions_of entries pages ≡ c.args.self.now.regions = ap (λ (v : RegionList). v.regions) c.self.view_is in
    let inside : slot < length pages = owner_inside entries pages free reserved c.args.key.now.bits slot c.self.invariant c.owner-slot.ensures in
    let first : c.index.result.now ≡ page_at pages slot = get_or_read pages slot c.index.result.now inside c.index.ensures [] in
    let second : c.index_mut.result.now ≡ page_at pages slot = get_or_read pages slot c.index_mut.result.now inside c.index_mut.ensures.value [] in
    let j : ℕ = c.in-Some.j in
    let within : j < length (page_at pages slot) = subst (λ xs. j < length xs) first c.in-Some.ensures.0 in
    let key : bits_at (keys_of (page_at pages slot)) j ≡ c.args.key.now.bits =
    subst (λ xs. bits_at (keys_of xs) j ≡ c.args.key.now.bits) first c.in-Some.ensures.1 in
    let at : IsMarkedAt (page_at pages slot) j c.args.committed c.args.id c.mark.new.self =
    subst (λ xs. IsMarkedAt xs j c.args.committed c.args.id c.mark.new.self) second c.mark.ensures in
    let both = mark_item entries pages free reserved c.args.key.now.bits slot j c.args.committed c.args.id c.mark.new.self c.self.invariant c.owner-slot.ensures
    within key at in
    both.0

pub returns-clause-regions : goal.returns-clause-regions
returns-clause-regions g c =
    let entries : List Entry = (g.D.Directory.listing c.self.inside.dir).entries in
    let pages : List (List Item) = c.self.inside.pages.items in
    let free : List ℕ = c.self.inside.free.items in
    let reserved : ℕ = vec_capacity c.self.inside.free in
    let slot : ℕ = c.owner-slot.result in
    let same : regions_of entries pages ≡ c.args.self.now.regions = ap (λ (v : RegionList). v.regions) c.self.view_is in
    let inside : slot < length pages = owner_inside entries pages free reserved c.args.key.now.bits slot c.self.invariant c.owner-slot.ensures in
    let first : c.index.result.now ≡ page_at pages slot = get_or_read pages slot c.index.result.now inside c.index.ensures [] in
    let second : c.index_mut.result.now ≡ page_at pages slot = get_or_read pages slot c.index_mut.result.now inside c.index_mut.ensures.value [] in
    let j : ℕ = c.in-Some.j in
    let within : j < length (page_at pages slot) = subst (λ xs. j < length xs) first c.in-Some.ensures.0 in
    let key : bits_at (keys_of (page_at pages slot)) j ≡ c.args.key.now.bits =
    subst (λ xs. bits_at (keys_of xs) j ≡ c.args.key.now.bits) first c.in-Some.ensures.1 in
    let at : IsMarkedAt (page_at pages slot) j c.args.committed c.args.id c.mark.new.self =
    subst (λ xs. IsMarkedAt xs j c.args.committed c.args.id c.mark.new.self) second c.mark.ensures in
    let both = mark_item entries pages free reserved c.args.key.now.bits slot j c.args.committed c.args.id c.mark.new.self c.self.invariant c.owner-slot.ensures
    within key at in
    subst (λ (q : List Region). IsMarked q c.args.key.now.bits c.args.committed c.args.id (regions_of entries (set pages slot c.mark.new.self))) same both.1

pub unreachable-requires : goal.unreachable-requires
unreachable-requires g c =
    let entries : List Entry = (g.D.Directory.listing c.self.inside.dir).entries in
    let pages : List (List Item) = c.self.inside.pages.items in
    let free : List ℕ = c.self.inside.free.items in
    let reserved : ℕ = vec_capacity c.self.inside.free in
    let slot : ℕ = c.owner-slot.result in
    let same : regions_of entries pages ≡ c.args.self.now.regions = ap (λ (v : RegionList). v.regions) c.self.view_is in
    let inside : slot < length pages = owner_inside entries pages free reserved c.args.key.now.bits slot c.self.invariant c.owner-slot.ensures in
    let first : c.index.result.now ≡ page_at pages slot = get_or_read pages slot c.index.result.now inside c.index.ensures [] in
    let none : HasNoKey (regions_of entries pages) c.args.key.now.bits =
    owner_lacks entries pages free reserved c.args.key.now.bits slot c.self.invariant c.owner-slot.ensures
    (subst (λ xs. Contains (keys_of xs) c.args.key.now.bits → ⊥) first c.in-None.ensures) in
    subst (λ (q : List Region). HasNoKey q c.args.key.now.bits) same none c.requires.region c.requires.within c.requires.among
