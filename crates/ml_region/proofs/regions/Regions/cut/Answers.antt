use Rattle.std.proofs.Common.{◌≡◌, ℕ, ◌-◌, ◌<◌, ◌≤◌, Bool, List, [], ◌++◌, length, get_or, set, take, drop, sym, ap, ◌∙◌, subst, arith}
use Rattle.std.specs.Prelude.{Contains, vec_capacity}
use Rattle.std.proofs.Math.ListN.{length-set}
use Rattle.std.proofs.lemmas.List.{get_or_read}
use Rattle.ml_bits.specs.BitList.{BitList}
use Rattle.ml_region.specs.Changes.{IsCut, items_below, items_beside}
use Rattle.ml_region.specs.Prefixes.{bits_at}
use Rattle.ml_region.specs.Listing.{Entry, Listing, IsListing, IsNewPrefix, IsWithEntry, prefixes_of}
use Rattle.ml_region.specs.Regions.{Region, RegionList, items_at, keys_of, keys_at, region_at}
use Rattle.ml_region.specs.inside.Stored.{page_at, regions_of, IsStored}
use Rattle.ml_region.specs.declared.item.Item.{Item}
use Rattle.ml_region.proofs.StoredRegions.{regions_length, slot_within, listing_of}
use Rattle.ml_region.proofs.FoundItems.{items_of_page, key_of_item}
use Rattle.ml_region.proofs.SortedElements.{whole_back}
use Rattle.ml_region.proofs.RegionCuts.{IsCutting}
use Rattle.ml_region.proofs.CutStored.{same_pages}
use Rattle.ml_region.proofs.CutSteps.{on_err, spare_stored, cutting, cutting_new_prefix, last_is_new, page_beside, cut_end, listing_with, among_with, same_key}
use Rattle.ml_region.proofs.regions.Regions.cut.Goals as goal

pub slot_of-from-requires-clause-listing : goal.slot_of-from-requires-clause-listing
slot_of-from-requires-clause-listing g c =
    listing_of (g.D.Directory.listing c.self.inside.dir).entries c.self.inside.pages.items c.self.inside.free.items
    (vec_capacity c.self.inside.free) c.self.invariant

pub index-requires : goal.index-requires
index-requires g c =
    let entries : List Entry = (g.D.Directory.listing c.self.inside.dir).entries in
    let pages : List (List Item) = c.self.inside.pages.items in
    let free : List ℕ = c.self.inside.free.items in
    let reserved : ℕ = vec_capacity c.self.inside.free in
    let i : ℕ = c.args.i in
    let now : regions_of entries pages ≡ c.args.self.now.regions = ap (λ (v : RegionList). v.regions) c.self.view_is in
    let h : i < length entries = omega (arith, regions_length entries pages, ap length now, c.requires.region) in
    let from : ℕ = c.slot_of-from.result in
    let inside : from < length pages = omega (arith, c.slot_of-from.ensures, slot_within entries free (length pages) i c.self.invariant.shared h) in
    omega (arith, inside, c.self.inside.pages.ok.0)

pub item-requires : goal.item-requires
item-requires g c =
    let entries : List Entry = (g.D.Directory.listing c.self.inside.dir).entries in
    let pages : List (List Item) = c.self.inside.pages.items in
    let free : List ℕ = c.self.inside.free.items in
    let reserved : ℕ = vec_capacity c.self.inside.free in
    let i : ℕ = c.args.i in
    let now : regions_of entries pages ≡ c.args.self.now.regions = ap (λ (v : RegionList). v.regions) c.self.view_is in
    let h : i < length entries = omega (arith, regions_length entries pages, ap length now, c.requires.region) in
    let from : ℕ = c.slot_of-from.result in
    let inside : from < length pages = omega (arith, c.slot_of-from.ensures, slot_within entries free (length pages) i c.self.invariant.shared h) in
    let page : c.index.result.now ≡ items_at (regions_of entries pages) i =
    get_or_read pages from c.index.result.now inside c.index.ensures [] ∙ ap (page_at pages) c.slot_of-from.ensures ∙ sym (items_of_page entries pages i h) in
    let within : c.args.j < length (items_at (regions_of entries pages) i) =
    subst (λ (q : List Region). c.args.j < length (items_at q i)) (sym now) c.requires.item in
    let j_in : c.args.j < length c.index.result.now = subst (λ xs. c.args.j < length xs) (sym page) within in
    j_in

pub prefix-requires : goal.prefix-requires
prefix-requires g c =
    let entries : List Entry = (g.D.Directory.listing c.self.inside.dir).entries in
    let pages : List (List Item) = c.self.inside.pages.items in
    let free : List ℕ = c.self.inside.free.items in
    let reserved : ℕ = vec_capacity c.self.inside.free in
    let i : ℕ = c.args.i in
    let now : regions_of entries pages ≡ c.args.self.now.regions = ap (λ (v : RegionList). v.regions) c.self.view_is in
    let h : i < length entries = omega (arith, regions_length entries pages, ap length now, c.requires.region) in
    let from : ℕ = c.slot_of-from.result in
    let inside : from < length pages = omega (arith, c.slot_of-from.ensures, slot_within entries free (length pages) i c.self.invariant.shared h) in
    let page : c.index.result.now ≡ items_at (regions_of entries pages) i =
    get_or_read pages from c.index.result.now inside c.index.ensures [] ∙ ap (page_at pages) c.slot_of-from.ensures ∙ sym (items_of_page entries pages i h) in
    let within : c.args.j < length (items_at (regions_of entries pages) i) =
    subst (λ (q : List Region). c.args.j < length (items_at q i)) (sym now) c.requires.item in
    let j_in : c.args.j < length c.index.result.now = subst (λ xs. c.args.j < length xs) (sym page) within in
    let key : List Bool = c.item.result.now.key.bits in
    let key_is : bits_at (keys_at (regions_of entries pages) i) c.args.j ≡ key =
    ap (λ xs. bits_at (keys_of xs) c.args.j) (sym page) ∙ key_of_item c.index.result.now c.args.j c.item.result.now j_in
    ∙ ap (λ (x : Item). x.key.bits) (sym c.item.ensures) in
    let long : c.args.n ≤ length key =
    omega (arith, c.requires.within, ap length (ap (λ (q : List Region). bits_at (keys_at q i) c.args.j) (sym now) ∙ key_is)) in
    long

pub invariant_of-self : goal.invariant_of-self
invariant_of-self g c =
    let entries : List Entry = (g.D.Directory.listing c.self.inside.dir).entries in
    let pages : List (List Item) = c.self.inside.pages.items in
    let free : List ℕ = c.self.inside.free.items in
    let reserved : ℕ = vec_capacity c.self.inside.free in
    let i : ℕ = c.args.i in
    let now : regions_of entries pages ≡ c.args.self.now.regions = ap (λ (v : RegionList). v.regions) c.self.view_is in
    let h : i < length entries = omega (arith, regions_length entries pages, ap length now, c.requires.region) in
    let more : List (List Item) = c.make_spare.new.pages.items in
    let spare : List ℕ = c.make_spare.new.free.items in
    let room : ℕ = vec_capacity c.make_spare.new.free in
    let stored : IsStored entries more spare room =
    spare_stored entries pages more free spare reserved room c.self.invariant
    (c.make_spare.ensures.shared entries c.self.invariant.shared) c.make_spare.ensures.pages c.make_spare.ensures.reserved in
    let same : regions_of entries more ≡ regions_of entries pages = same_pages entries more pages c.make_spare.ensures.pages in
    stored

pub returns-in_err-make_spare-clause-err : goal.returns-in_err-make_spare-clause-err
returns-in_err-make_spare-clause-err g c =
    let entries : List Entry = (g.D.Directory.listing c.self.inside.dir).entries in
    let pages : List (List Item) = c.self.inside.pages.items in
    let free : List ℕ = c.self.inside.free.items in
    let reserved : ℕ = vec_capacity c.self.inside.free in
    let i : ℕ = c.args.i in
    let now : regions_of entries pages ≡ c.args.self.now.regions = ap (λ (v : RegionList). v.regions) c.self.view_is in
    let h : i < length entries = omega (arith, regions_length entries pages, ap length now, c.requires.region) in
    let more : List (List Item) = c.make_spare.new.pages.items in
    let spare : List ℕ = c.make_spare.new.free.items in
    let room : ℕ = vec_capacity c.make_spare.new.free in
    let stored : IsStored entries more spare room =
    spare_stored entries pages more free spare reserved room c.self.invariant
    (c.make_spare.ensures.shared entries c.self.invariant.shared) c.make_spare.ensures.pages c.make_spare.ensures.reserved in
    let same : regions_of entries more ≡ regions_of entries pages = same_pages entries more pages c.make_spare.ensures.pages in
    on_err c.from_residual-in_err-make_spare.result (same ∙ now)

pub add-requires-clause-prefix : goal.add-requires-clause-prefix
add-requires-clause-prefix g c =
    let entries : List Entry = (g.D.Directory.listing c.self.inside.dir).entries in
    let pages : List (List Item) = c.self.inside.pages.items in
    let free : List ℕ = c.self.inside.free.items in
    let reserved : ℕ = vec_capacity c.self.inside.free in
    let i : ℕ = c.args.i in
    let now : regions_of entries pages ≡ c.args.self.now.regions = ap (λ (v : RegionList). v.regions) c.self.view_is in
    let h : i < length entries = omega (arith, regions_length entries pages, ap length now, c.requires.region) in
    let from : ℕ = c.slot_of-from.result in
    let inside : from < length pages = omega (arith, c.slot_of-from.ensures, slot_within entries free (length pages) i c.self.invariant.shared h) in
    let page : c.index.result.now ≡ items_at (regions_of entries pages) i =
    get_or_read pages from c.index.result.now inside c.index.ensures [] ∙ ap (page_at pages) c.slot_of-from.ensures ∙ sym (items_of_page entries pages i h) in
    let within : c.args.j < length (items_at (regions_of entries pages) i) =
    subst (λ (q : List Region). c.args.j < length (items_at q i)) (sym now) c.requires.item in
    let j_in : c.args.j < length c.index.result.now = subst (λ xs. c.args.j < length xs) (sym page) within in
    let key : List Bool = c.item.result.now.key.bits in
    let key_is : bits_at (keys_at (regions_of entries pages) i) c.args.j ≡ key =
    ap (λ xs. bits_at (keys_of xs) c.args.j) (sym page) ∙ key_of_item c.index.result.now c.args.j c.item.result.now j_in
    ∙ ap (λ (x : Item). x.key.bits) (sym c.item.ensures) in
    let long : c.args.n ≤ length key =
    omega (arith, c.requires.within, ap length (ap (λ (q : List Region). bits_at (keys_at q i) c.args.j) (sym now) ∙ key_is)) in
    let p : List Bool = take c.args.n key in
    let bits : c.in_ok-prefix.prefix.bits ≡ p = ap (λ (b : BitList). b.bits) c.in_ok-prefix.ensures in
    let longer : length (region_at (regions_of entries pages) i).prefix < c.args.n =
    subst (λ (q : List Region). length (region_at q i).prefix < c.args.n) (sym now) c.requires.longer in
    let cut : IsCutting (regions_of entries pages) i key p =
    cutting (regions_of entries pages) i c.args.j c.args.n key (omega (arith, regions_length entries pages)) within key_is longer long in
    subst (IsNewPrefix entries) (sym bits) (cutting_new_prefix entries pages free reserved i key p c.self.invariant cut)

pub add-requires-clause-slot : goal.add-requires-clause-slot
add-requires-clause-slot g c =
    let entries : List Entry = (g.D.Directory.listing c.self.inside.dir).entries in
    let pages : List (List Item) = c.self.inside.pages.items in
    let free : List ℕ = c.self.inside.free.items in
    let reserved : ℕ = vec_capacity c.self.inside.free in
    let i : ℕ = c.args.i in
    let now : regions_of entries pages ≡ c.args.self.now.regions = ap (λ (v : RegionList). v.regions) c.self.view_is in
    let h : i < length entries = omega (arith, regions_length entries pages, ap length now, c.requires.region) in
    let more : List (List Item) = c.make_spare.new.pages.items in
    let spare : List ℕ = c.make_spare.new.free.items in
    let room : ℕ = vec_capacity c.make_spare.new.free in
    let stored : IsStored entries more spare room =
    spare_stored entries pages more free spare reserved room c.self.invariant
    (c.make_spare.ensures.shared entries c.self.invariant.shared) c.make_spare.ensures.pages c.make_spare.ensures.reserved in
    let same : regions_of entries more ≡ regions_of entries pages = same_pages entries more pages c.make_spare.ensures.pages in
    let to : ℕ = c.index-to.result.now in
    let some : 0 < length spare = c.in_ok-make_spare.ensures.ok in
    let last : to ≡ get_or spare (length spare - 1) to = c.index-to.ensures
    ∙ ap (λ n. get_or spare (n - 1) to) (omega (arith, c.len.ensures, c.make_spare.new.free.ok.0)) in
    let facts = last_is_new entries more spare room to stored some last in
    facts.0

pub invariant_of-self-in_err-add : goal.invariant_of-self-in_err-add
invariant_of-self-in_err-add g c =
    let entries : List Entry = (g.D.Directory.listing c.self.inside.dir).entries in
    let pages : List (List Item) = c.self.inside.pages.items in
    let free : List ℕ = c.self.inside.free.items in
    let reserved : ℕ = vec_capacity c.self.inside.free in
    let i : ℕ = c.args.i in
    let now : regions_of entries pages ≡ c.args.self.now.regions = ap (λ (v : RegionList). v.regions) c.self.view_is in
    let h : i < length entries = omega (arith, regions_length entries pages, ap length now, c.requires.region) in
    let more : List (List Item) = c.make_spare.new.pages.items in
    let spare : List ℕ = c.make_spare.new.free.items in
    let room : ℕ = vec_capacity c.make_spare.new.free in
    let stored : IsStored entries more spare room =
    spare_stored entries pages more free spare reserved room c.self.invariant
    (c.make_spare.ensures.shared entries c.self.invariant.shared) c.make_spare.ensures.pages c.make_spare.ensures.reserved in
    let same : regions_of entries more ≡ regions_of entries pages = same_pages entries more pages c.make_spare.ensures.pages in
    subst (λ (l : Listing). IsStored l.entries more spare room) (sym c.in_err-add.ensures.err) stored

pub index-requires-2 : goal.index-requires-2
index-requires-2 g c =
    let entries : List Entry = (g.D.Directory.listing c.self.inside.dir).entries in
    let pages : List (List Item) = c.self.inside.pages.items in
    let free : List ℕ = c.self.inside.free.items in
    let reserved : ℕ = vec_capacity c.self.inside.free in
    let i : ℕ = c.args.i in
    let now : regions_of entries pages ≡ c.args.self.now.regions = ap (λ (v : RegionList). v.regions) c.self.view_is in
    let h : i < length entries = omega (arith, regions_length entries pages, ap length now, c.requires.region) in
    let from : ℕ = c.slot_of-from.result in
    let inside : from < length pages = omega (arith, c.slot_of-from.ensures, slot_within entries free (length pages) i c.self.invariant.shared h) in
    let page : c.index.result.now ≡ items_at (regions_of entries pages) i =
    get_or_read pages from c.index.result.now inside c.index.ensures [] ∙ ap (page_at pages) c.slot_of-from.ensures ∙ sym (items_of_page entries pages i h) in
    let within : c.args.j < length (items_at (regions_of entries pages) i) =
    subst (λ (q : List Region). c.args.j < length (items_at q i)) (sym now) c.requires.item in
    let j_in : c.args.j < length c.index.result.now = subst (λ xs. c.args.j < length xs) (sym page) within in
    let key : List Bool = c.item.result.now.key.bits in
    let key_is : bits_at (keys_at (regions_of entries pages) i) c.args.j ≡ key =
    ap (λ xs. bits_at (keys_of xs) c.args.j) (sym page) ∙ key_of_item c.index.result.now c.args.j c.item.result.now j_in
    ∙ ap (λ (x : Item). x.key.bits) (sym c.item.ensures) in
    let long : c.args.n ≤ length key =
    omega (arith, c.requires.within, ap length (ap (λ (q : List Region). bits_at (keys_at q i) c.args.j) (sym now) ∙ key_is)) in
    let p : List Bool = take c.args.n key in
    let bits : c.in_ok-prefix.prefix.bits ≡ p = ap (λ (b : BitList). b.bits) c.in_ok-prefix.ensures in
    let longer : length (region_at (regions_of entries pages) i).prefix < c.args.n =
    subst (λ (q : List Region). length (region_at q i).prefix < c.args.n) (sym now) c.requires.longer in
    let cut : IsCutting (regions_of entries pages) i key p =
    cutting (regions_of entries pages) i c.args.j c.args.n key (omega (arith, regions_length entries pages)) within key_is longer long in
    let more : List (List Item) = c.make_spare.new.pages.items in
    let spare : List ℕ = c.make_spare.new.free.items in
    let room : ℕ = vec_capacity c.make_spare.new.free in
    let stored : IsStored entries more spare room =
    spare_stored entries pages more free spare reserved room c.self.invariant
    (c.make_spare.ensures.shared entries c.self.invariant.shared) c.make_spare.ensures.pages c.make_spare.ensures.reserved in
    let same : regions_of entries more ≡ regions_of entries pages = same_pages entries more pages c.make_spare.ensures.pages in
    let to : ℕ = c.index-to.result.now in
    let some : 0 < length spare = c.in_ok-make_spare.ensures.ok in
    let last : to ≡ get_or spare (length spare - 1) to = c.index-to.ensures
    ∙ ap (λ n. get_or spare (n - 1) to) (omega (arith, c.len.ensures, c.make_spare.new.free.ok.0)) in
    let facts = last_is_new entries more spare room to stored some last in
    let more_in : from < length more = omega (arith, c.slot_of-from.ensures, slot_within entries spare (length more) i stored.shared h) in
    omega (arith, more_in, c.make_spare.new.pages.ok.0)

pub item-requires-2 : goal.item-requires-2
item-requires-2 g c =
    let entries : List Entry = (g.D.Directory.listing c.self.inside.dir).entries in
    let pages : List (List Item) = c.self.inside.pages.items in
    let free : List ℕ = c.self.inside.free.items in
    let reserved : ℕ = vec_capacity c.self.inside.free in
    let i : ℕ = c.args.i in
    let now : regions_of entries pages ≡ c.args.self.now.regions = ap (λ (v : RegionList). v.regions) c.self.view_is in
    let h : i < length entries = omega (arith, regions_length entries pages, ap length now, c.requires.region) in
    let from : ℕ = c.slot_of-from.result in
    let inside : from < length pages = omega (arith, c.slot_of-from.ensures, slot_within entries free (length pages) i c.self.invariant.shared h) in
    let page : c.index.result.now ≡ items_at (regions_of entries pages) i =
    get_or_read pages from c.index.result.now inside c.index.ensures [] ∙ ap (page_at pages) c.slot_of-from.ensures ∙ sym (items_of_page entries pages i h) in
    let within : c.args.j < length (items_at (regions_of entries pages) i) =
    subst (λ (q : List Region). c.args.j < length (items_at q i)) (sym now) c.requires.item in
    let j_in : c.args.j < length c.index.result.now = subst (λ xs. c.args.j < length xs) (sym page) within in
    let key : List Bool = c.item.result.now.key.bits in
    let key_is : bits_at (keys_at (regions_of entries pages) i) c.args.j ≡ key =
    ap (λ xs. bits_at (keys_of xs) c.args.j) (sym page) ∙ key_of_item c.index.result.now c.args.j c.item.result.now j_in
    ∙ ap (λ (x : Item). x.key.bits) (sym c.item.ensures) in
    let long : c.args.n ≤ length key =
    omega (arith, c.requires.within, ap length (ap (λ (q : List Region). bits_at (keys_at q i) c.args.j) (sym now) ∙ key_is)) in
    let p : List Bool = take c.args.n key in
    let bits : c.in_ok-prefix.prefix.bits ≡ p = ap (λ (b : BitList). b.bits) c.in_ok-prefix.ensures in
    let longer : length (region_at (regions_of entries pages) i).prefix < c.args.n =
    subst (λ (q : List Region). length (region_at q i).prefix < c.args.n) (sym now) c.requires.longer in
    let cut : IsCutting (regions_of entries pages) i key p =
    cutting (regions_of entries pages) i c.args.j c.args.n key (omega (arith, regions_length entries pages)) within key_is longer long in
    let more : List (List Item) = c.make_spare.new.pages.items in
    let spare : List ℕ = c.make_spare.new.free.items in
    let room : ℕ = vec_capacity c.make_spare.new.free in
    let stored : IsStored entries more spare room =
    spare_stored entries pages more free spare reserved room c.self.invariant
    (c.make_spare.ensures.shared entries c.self.invariant.shared) c.make_spare.ensures.pages c.make_spare.ensures.reserved in
    let same : regions_of entries more ≡ regions_of entries pages = same_pages entries more pages c.make_spare.ensures.pages in
    let to : ℕ = c.index-to.result.now in
    let some : 0 < length spare = c.in_ok-make_spare.ensures.ok in
    let last : to ≡ get_or spare (length spare - 1) to = c.index-to.ensures
    ∙ ap (λ n. get_or spare (n - 1) to) (omega (arith, c.len.ensures, c.make_spare.new.free.ok.0)) in
    let facts = last_is_new entries more spare room to stored some last in
    let more_in : from < length more = omega (arith, c.slot_of-from.ensures, slot_within entries spare (length more) i stored.shared h) in
    let second : c.index-2.result.now ≡ c.index.result.now =
    get_or_read more from c.index-2.result.now more_in c.index-2.ensures [] ∙ c.make_spare.ensures.pages from
    ∙ sym (get_or_read pages from c.index.result.now inside c.index.ensures []) in
    subst (λ xs. c.args.j < length xs) (sym second) j_in

pub prefix_among-added-requires-clause-listing : goal.prefix_among-added-requires-clause-listing
prefix_among-added-requires-clause-listing g c =
    let entries : List Entry = (g.D.Directory.listing c.self.inside.dir).entries in
    let pages : List (List Item) = c.self.inside.pages.items in
    let free : List ℕ = c.self.inside.free.items in
    let reserved : ℕ = vec_capacity c.self.inside.free in
    let i : ℕ = c.args.i in
    let now : regions_of entries pages ≡ c.args.self.now.regions = ap (λ (v : RegionList). v.regions) c.self.view_is in
    let h : i < length entries = omega (arith, regions_length entries pages, ap length now, c.requires.region) in
    let from : ℕ = c.slot_of-from.result in
    let inside : from < length pages = omega (arith, c.slot_of-from.ensures, slot_within entries free (length pages) i c.self.invariant.shared h) in
    let page : c.index.result.now ≡ items_at (regions_of entries pages) i =
    get_or_read pages from c.index.result.now inside c.index.ensures [] ∙ ap (page_at pages) c.slot_of-from.ensures ∙ sym (items_of_page entries pages i h) in
    let within : c.args.j < length (items_at (regions_of entries pages) i) =
    subst (λ (q : List Region). c.args.j < length (items_at q i)) (sym now) c.requires.item in
    let j_in : c.args.j < length c.index.result.now = subst (λ xs. c.args.j < length xs) (sym page) within in
    let key : List Bool = c.item.result.now.key.bits in
    let key_is : bits_at (keys_at (regions_of entries pages) i) c.args.j ≡ key =
    ap (λ xs. bits_at (keys_of xs) c.args.j) (sym page) ∙ key_of_item c.index.result.now c.args.j c.item.result.now j_in
    ∙ ap (λ (x : Item). x.key.bits) (sym c.item.ensures) in
    let long : c.args.n ≤ length key =
    omega (arith, c.requires.within, ap length (ap (λ (q : List Region). bits_at (keys_at q i) c.args.j) (sym now) ∙ key_is)) in
    let p : List Bool = take c.args.n key in
    let bits : c.in_ok-prefix.prefix.bits ≡ p = ap (λ (b : BitList). b.bits) c.in_ok-prefix.ensures in
    let longer : length (region_at (regions_of entries pages) i).prefix < c.args.n =
    subst (λ (q : List Region). length (region_at q i).prefix < c.args.n) (sym now) c.requires.longer in
    let cut : IsCutting (regions_of entries pages) i key p =
    cutting (regions_of entries pages) i c.args.j c.args.n key (omega (arith, regions_length entries pages)) within key_is longer long in
    let more : List (List Item) = c.make_spare.new.pages.items in
    let spare : List ℕ = c.make_spare.new.free.items in
    let room : ℕ = vec_capacity c.make_spare.new.free in
    let stored : IsStored entries more spare room =
    spare_stored entries pages more free spare reserved room c.self.invariant
    (c.make_spare.ensures.shared entries c.self.invariant.shared) c.make_spare.ensures.pages c.make_spare.ensures.reserved in
    let same : regions_of entries more ≡ regions_of entries pages = same_pages entries more pages c.make_spare.ensures.pages in
    let to : ℕ = c.index-to.result.now in
    let some : 0 < length spare = c.in_ok-make_spare.ensures.ok in
    let last : to ≡ get_or spare (length spare - 1) to = c.index-to.ensures
    ∙ ap (λ n. get_or spare (n - 1) to) (omega (arith, c.len.ensures, c.make_spare.new.free.ok.0)) in
    let facts = last_is_new entries more spare room to stored some last in
    let after : List Entry = (g.D.Directory.listing c.add.new.self).entries in
    let with_entry : IsWithEntry entries (record { prefix = p; slot = to }) after =
    subst (λ b. IsWithEntry entries (record { prefix = b; slot = to }) after) bits c.in_ok-add.ensures.ok in
    let listing : IsListing entries = listing_of entries pages free reserved c.self.invariant in
    listing_with entries (record { prefix = p; slot = to }) after listing facts.0 with_entry

pub prefix_among-added-requires-clause-within : goal.prefix_among-added-requires-clause-within
prefix_among-added-requires-clause-within g c =
    let entries : List Entry = (g.D.Directory.listing c.self.inside.dir).entries in
    let pages : List (List Item) = c.self.inside.pages.items in
    let free : List ℕ = c.self.inside.free.items in
    let reserved : ℕ = vec_capacity c.self.inside.free in
    let i : ℕ = c.args.i in
    let now : regions_of entries pages ≡ c.args.self.now.regions = ap (λ (v : RegionList). v.regions) c.self.view_is in
    let h : i < length entries = omega (arith, regions_length entries pages, ap length now, c.requires.region) in
    let from : ℕ = c.slot_of-from.result in
    let inside : from < length pages = omega (arith, c.slot_of-from.ensures, slot_within entries free (length pages) i c.self.invariant.shared h) in
    let page : c.index.result.now ≡ items_at (regions_of entries pages) i =
    get_or_read pages from c.index.result.now inside c.index.ensures [] ∙ ap (page_at pages) c.slot_of-from.ensures ∙ sym (items_of_page entries pages i h) in
    let within : c.args.j < length (items_at (regions_of entries pages) i) =
    subst (λ (q : List Region). c.args.j < length (items_at q i)) (sym now) c.requires.item in
    let j_in : c.args.j < length c.index.result.now = subst (λ xs. c.args.j < length xs) (sym page) within in
    let key : List Bool = c.item.result.now.key.bits in
    let key_is : bits_at (keys_at (regions_of entries pages) i) c.args.j ≡ key =
    ap (λ xs. bits_at (keys_of xs) c.args.j) (sym page) ∙ key_of_item c.index.result.now c.args.j c.item.result.now j_in
    ∙ ap (λ (x : Item). x.key.bits) (sym c.item.ensures) in
    let long : c.args.n ≤ length key =
    omega (arith, c.requires.within, ap length (ap (λ (q : List Region). bits_at (keys_at q i) c.args.j) (sym now) ∙ key_is)) in
    let p : List Bool = take c.args.n key in
    let bits : c.in_ok-prefix.prefix.bits ≡ p = ap (λ (b : BitList). b.bits) c.in_ok-prefix.ensures in
    let longer : length (region_at (regions_of entries pages) i).prefix < c.args.n =
    subst (λ (q : List Region). length (region_at q i).prefix < c.args.n) (sym now) c.requires.longer in
    let cut : IsCutting (regions_of entries pages) i key p =
    cutting (regions_of entries pages) i c.args.j c.args.n key (omega (arith, regions_length entries pages)) within key_is longer long in
    let more : List (List Item) = c.make_spare.new.pages.items in
    let spare : List ℕ = c.make_spare.new.free.items in
    let room : ℕ = vec_capacity c.make_spare.new.free in
    let stored : IsStored entries more spare room =
    spare_stored entries pages more free spare reserved room c.self.invariant
    (c.make_spare.ensures.shared entries c.self.invariant.shared) c.make_spare.ensures.pages c.make_spare.ensures.reserved in
    let same : regions_of entries more ≡ regions_of entries pages = same_pages entries more pages c.make_spare.ensures.pages in
    let to : ℕ = c.index-to.result.now in
    let some : 0 < length spare = c.in_ok-make_spare.ensures.ok in
    let last : to ≡ get_or spare (length spare - 1) to = c.index-to.ensures
    ∙ ap (λ n. get_or spare (n - 1) to) (omega (arith, c.len.ensures, c.make_spare.new.free.ok.0)) in
    let facts = last_is_new entries more spare room to stored some last in
    let more_in : from < length more = omega (arith, c.slot_of-from.ensures, slot_within entries spare (length more) i stored.shared h) in
    let again : c.item-2.result.now.key.bits ≡ key =
    same_key pages more from c.args.j c.index.result.now c.index-2.result.now c.item.result.now c.item-2.result.now inside more_in
    (c.make_spare.ensures.pages from) c.index.ensures c.index-2.ensures j_in
    c.item.ensures c.item-2.ensures in
    omega (arith, long, ap length again)

pub prefix_among-added-requires-clause-there : goal.prefix_among-added-requires-clause-there
prefix_among-added-requires-clause-there g c =
    let entries : List Entry = (g.D.Directory.listing c.self.inside.dir).entries in
    let pages : List (List Item) = c.self.inside.pages.items in
    let free : List ℕ = c.self.inside.free.items in
    let reserved : ℕ = vec_capacity c.self.inside.free in
    let i : ℕ = c.args.i in
    let now : regions_of entries pages ≡ c.args.self.now.regions = ap (λ (v : RegionList). v.regions) c.self.view_is in
    let h : i < length entries = omega (arith, regions_length entries pages, ap length now, c.requires.region) in
    let from : ℕ = c.slot_of-from.result in
    let inside : from < length pages = omega (arith, c.slot_of-from.ensures, slot_within entries free (length pages) i c.self.invariant.shared h) in
    let page : c.index.result.now ≡ items_at (regions_of entries pages) i =
    get_or_read pages from c.index.result.now inside c.index.ensures [] ∙ ap (page_at pages) c.slot_of-from.ensures ∙ sym (items_of_page entries pages i h) in
    let within : c.args.j < length (items_at (regions_of entries pages) i) =
    subst (λ (q : List Region). c.args.j < length (items_at q i)) (sym now) c.requires.item in
    let j_in : c.args.j < length c.index.result.now = subst (λ xs. c.args.j < length xs) (sym page) within in
    let key : List Bool = c.item.result.now.key.bits in
    let key_is : bits_at (keys_at (regions_of entries pages) i) c.args.j ≡ key =
    ap (λ xs. bits_at (keys_of xs) c.args.j) (sym page) ∙ key_of_item c.index.result.now c.args.j c.item.result.now j_in
    ∙ ap (λ (x : Item). x.key.bits) (sym c.item.ensures) in
    let long : c.args.n ≤ length key =
    omega (arith, c.requires.within, ap length (ap (λ (q : List Region). bits_at (keys_at q i) c.args.j) (sym now) ∙ key_is)) in
    let p : List Bool = take c.args.n key in
    let bits : c.in_ok-prefix.prefix.bits ≡ p = ap (λ (b : BitList). b.bits) c.in_ok-prefix.ensures in
    let longer : length (region_at (regions_of entries pages) i).prefix < c.args.n =
    subst (λ (q : List Region). length (region_at q i).prefix < c.args.n) (sym now) c.requires.longer in
    let cut : IsCutting (regions_of entries pages) i key p =
    cutting (regions_of entries pages) i c.args.j c.args.n key (omega (arith, regions_length entries pages)) within key_is longer long in
    let more : List (List Item) = c.make_spare.new.pages.items in
    let spare : List ℕ = c.make_spare.new.free.items in
    let room : ℕ = vec_capacity c.make_spare.new.free in
    let stored : IsStored entries more spare room =
    spare_stored entries pages more free spare reserved room c.self.invariant
    (c.make_spare.ensures.shared entries c.self.invariant.shared) c.make_spare.ensures.pages c.make_spare.ensures.reserved in
    let same : regions_of entries more ≡ regions_of entries pages = same_pages entries more pages c.make_spare.ensures.pages in
    let to : ℕ = c.index-to.result.now in
    let some : 0 < length spare = c.in_ok-make_spare.ensures.ok in
    let last : to ≡ get_or spare (length spare - 1) to = c.index-to.ensures
    ∙ ap (λ n. get_or spare (n - 1) to) (omega (arith, c.len.ensures, c.make_spare.new.free.ok.0)) in
    let facts = last_is_new entries more spare room to stored some last in
    let more_in : from < length more = omega (arith, c.slot_of-from.ensures, slot_within entries spare (length more) i stored.shared h) in
    let again : c.item-2.result.now.key.bits ≡ key =
    same_key pages more from c.args.j c.index.result.now c.index-2.result.now c.item.result.now c.item-2.result.now inside more_in
    (c.make_spare.ensures.pages from) c.index.ensures c.index-2.ensures j_in
    c.item.ensures c.item-2.ensures in
    let after : List Entry = (g.D.Directory.listing c.add.new.self).entries in
    let with_entry : IsWithEntry entries (record { prefix = p; slot = to }) after =
    subst (λ b. IsWithEntry entries (record { prefix = b; slot = to }) after) bits c.in_ok-add.ensures.ok in
    subst (λ k. Contains (prefixes_of after) (take c.args.n k)) (sym again) (among_with entries (record { prefix = p; slot = to }) after with_entry)

pub index_mut-requires : goal.index_mut-requires
index_mut-requires g c =
    let entries : List Entry = (g.D.Directory.listing c.self.inside.dir).entries in
    let pages : List (List Item) = c.self.inside.pages.items in
    let free : List ℕ = c.self.inside.free.items in
    let reserved : ℕ = vec_capacity c.self.inside.free in
    let i : ℕ = c.args.i in
    let now : regions_of entries pages ≡ c.args.self.now.regions = ap (λ (v : RegionList). v.regions) c.self.view_is in
    let h : i < length entries = omega (arith, regions_length entries pages, ap length now, c.requires.region) in
    let more : List (List Item) = c.make_spare.new.pages.items in
    let spare : List ℕ = c.make_spare.new.free.items in
    let room : ℕ = vec_capacity c.make_spare.new.free in
    let stored : IsStored entries more spare room =
    spare_stored entries pages more free spare reserved room c.self.invariant
    (c.make_spare.ensures.shared entries c.self.invariant.shared) c.make_spare.ensures.pages c.make_spare.ensures.reserved in
    let same : regions_of entries more ≡ regions_of entries pages = same_pages entries more pages c.make_spare.ensures.pages in
    let to : ℕ = c.index-to.result.now in
    let some : 0 < length spare = c.in_ok-make_spare.ensures.ok in
    let last : to ≡ get_or spare (length spare - 1) to = c.index-to.ensures
    ∙ ap (λ n. get_or spare (n - 1) to) (omega (arith, c.len.ensures, c.make_spare.new.free.ok.0)) in
    let facts = last_is_new entries more spare room to stored some last in
    omega (arith, facts.1, c.make_spare.new.pages.ok.0)

pub move_below-requires-clause-from : goal.move_below-requires-clause-from
move_below-requires-clause-from g c =
    let entries : List Entry = (g.D.Directory.listing c.self.inside.dir).entries in
    let pages : List (List Item) = c.self.inside.pages.items in
    let free : List ℕ = c.self.inside.free.items in
    let reserved : ℕ = vec_capacity c.self.inside.free in
    let i : ℕ = c.args.i in
    let now : regions_of entries pages ≡ c.args.self.now.regions = ap (λ (v : RegionList). v.regions) c.self.view_is in
    let h : i < length entries = omega (arith, regions_length entries pages, ap length now, c.requires.region) in
    let from : ℕ = c.slot_of-from.result in
    let inside : from < length pages = omega (arith, c.slot_of-from.ensures, slot_within entries free (length pages) i c.self.invariant.shared h) in
    let more : List (List Item) = c.make_spare.new.pages.items in
    let spare : List ℕ = c.make_spare.new.free.items in
    let room : ℕ = vec_capacity c.make_spare.new.free in
    let stored : IsStored entries more spare room =
    spare_stored entries pages more free spare reserved room c.self.invariant
    (c.make_spare.ensures.shared entries c.self.invariant.shared) c.make_spare.ensures.pages c.make_spare.ensures.reserved in
    let same : regions_of entries more ≡ regions_of entries pages = same_pages entries more pages c.make_spare.ensures.pages in
    let to : ℕ = c.index-to.result.now in
    let some : 0 < length spare = c.in_ok-make_spare.ensures.ok in
    let last : to ≡ get_or spare (length spare - 1) to = c.index-to.ensures
    ∙ ap (λ n. get_or spare (n - 1) to) (omega (arith, c.len.ensures, c.make_spare.new.free.ok.0)) in
    let facts = last_is_new entries more spare room to stored some last in
    let clear : c.deref_mut.result.now ≡ set more to [] = c.deref_mut.ensures.value ∙ ap (set more to) c.clear.ensures in
    let from_in : from < length more = omega (arith, c.slot_of-from.ensures, slot_within entries spare (length more) i stored.shared h) in
    omega (arith, from_in, ap length clear, length-set more to [])

pub move_below-requires-clause-to : goal.move_below-requires-clause-to
move_below-requires-clause-to g c =
    let entries : List Entry = (g.D.Directory.listing c.self.inside.dir).entries in
    let pages : List (List Item) = c.self.inside.pages.items in
    let free : List ℕ = c.self.inside.free.items in
    let reserved : ℕ = vec_capacity c.self.inside.free in
    let i : ℕ = c.args.i in
    let now : regions_of entries pages ≡ c.args.self.now.regions = ap (λ (v : RegionList). v.regions) c.self.view_is in
    let h : i < length entries = omega (arith, regions_length entries pages, ap length now, c.requires.region) in
    let from : ℕ = c.slot_of-from.result in
    let inside : from < length pages = omega (arith, c.slot_of-from.ensures, slot_within entries free (length pages) i c.self.invariant.shared h) in
    let more : List (List Item) = c.make_spare.new.pages.items in
    let spare : List ℕ = c.make_spare.new.free.items in
    let room : ℕ = vec_capacity c.make_spare.new.free in
    let stored : IsStored entries more spare room =
    spare_stored entries pages more free spare reserved room c.self.invariant
    (c.make_spare.ensures.shared entries c.self.invariant.shared) c.make_spare.ensures.pages c.make_spare.ensures.reserved in
    let same : regions_of entries more ≡ regions_of entries pages = same_pages entries more pages c.make_spare.ensures.pages in
    let to : ℕ = c.index-to.result.now in
    let some : 0 < length spare = c.in_ok-make_spare.ensures.ok in
    let last : to ≡ get_or spare (length spare - 1) to = c.index-to.ensures
    ∙ ap (λ n. get_or spare (n - 1) to) (omega (arith, c.len.ensures, c.make_spare.new.free.ok.0)) in
    let facts = last_is_new entries more spare room to stored some last in
    let clear : c.deref_mut.result.now ≡ set more to [] = c.deref_mut.ensures.value ∙ ap (set more to) c.clear.ensures in
    omega (arith, facts.1, ap length clear, length-set more to [])

pub move_below-requires-clause-apart : goal.move_below-requires-clause-apart
move_below-requires-clause-apart g c =
    let entries : List Entry = (g.D.Directory.listing c.self.inside.dir).entries in
    let pages : List (List Item) = c.self.inside.pages.items in
    let free : List ℕ = c.self.inside.free.items in
    let reserved : ℕ = vec_capacity c.self.inside.free in
    let i : ℕ = c.args.i in
    let now : regions_of entries pages ≡ c.args.self.now.regions = ap (λ (v : RegionList). v.regions) c.self.view_is in
    let h : i < length entries = omega (arith, regions_length entries pages, ap length now, c.requires.region) in
    let from : ℕ = c.slot_of-from.result in
    let inside : from < length pages = omega (arith, c.slot_of-from.ensures, slot_within entries free (length pages) i c.self.invariant.shared h) in
    let more : List (List Item) = c.make_spare.new.pages.items in
    let spare : List ℕ = c.make_spare.new.free.items in
    let room : ℕ = vec_capacity c.make_spare.new.free in
    let stored : IsStored entries more spare room =
    spare_stored entries pages more free spare reserved room c.self.invariant
    (c.make_spare.ensures.shared entries c.self.invariant.shared) c.make_spare.ensures.pages c.make_spare.ensures.reserved in
    let same : regions_of entries more ≡ regions_of entries pages = same_pages entries more pages c.make_spare.ensures.pages in
    let to : ℕ = c.index-to.result.now in
    let some : 0 < length spare = c.in_ok-make_spare.ensures.ok in
    let last : to ≡ get_or spare (length spare - 1) to = c.index-to.ensures
    ∙ ap (λ n. get_or spare (n - 1) to) (omega (arith, c.len.ensures, c.make_spare.new.free.ok.0)) in
    let facts = last_is_new entries more spare room to stored some last in
    λ e. facts.0 i h (sym c.slot_of-from.ensures ∙ e)

pub move_below-requires-clause-few : goal.move_below-requires-clause-few
move_below-requires-clause-few g c =
    let entries : List Entry = (g.D.Directory.listing c.self.inside.dir).entries in
    let pages : List (List Item) = c.self.inside.pages.items in
    let free : List ℕ = c.self.inside.free.items in
    let reserved : ℕ = vec_capacity c.self.inside.free in
    let i : ℕ = c.args.i in
    let now : regions_of entries pages ≡ c.args.self.now.regions = ap (λ (v : RegionList). v.regions) c.self.view_is in
    let h : i < length entries = omega (arith, regions_length entries pages, ap length now, c.requires.region) in
    let from : ℕ = c.slot_of-from.result in
    let inside : from < length pages = omega (arith, c.slot_of-from.ensures, slot_within entries free (length pages) i c.self.invariant.shared h) in
    let more : List (List Item) = c.make_spare.new.pages.items in
    let spare : List ℕ = c.make_spare.new.free.items in
    let room : ℕ = vec_capacity c.make_spare.new.free in
    let stored : IsStored entries more spare room =
    spare_stored entries pages more free spare reserved room c.self.invariant
    (c.make_spare.ensures.shared entries c.self.invariant.shared) c.make_spare.ensures.pages c.make_spare.ensures.reserved in
    let same : regions_of entries more ≡ regions_of entries pages = same_pages entries more pages c.make_spare.ensures.pages in
    let to : ℕ = c.index-to.result.now in
    let some : 0 < length spare = c.in_ok-make_spare.ensures.ok in
    let last : to ≡ get_or spare (length spare - 1) to = c.index-to.ensures
    ∙ ap (λ n. get_or spare (n - 1) to) (omega (arith, c.len.ensures, c.make_spare.new.free.ok.0)) in
    let facts = last_is_new entries more spare room to stored some last in
    let clear : c.deref_mut.result.now ≡ set more to [] = c.deref_mut.ensures.value ∙ ap (set more to) c.clear.ensures in
    let few : length (items_at (regions_of entries more) i) ≤ 31 = stored.placed.few i (omega (arith, regions_length entries more)) in
    subst (λ xs. length xs ≤ 31) (sym (ap (λ ps. page_at ps from) clear ∙ ap (page_at (set more to [])) c.slot_of-from.ensures
    ∙ page_beside entries more to i facts.0 h)) few

pub invariant_of-self-2 : goal.invariant_of-self-2
invariant_of-self-2 g c =
    let entries : List Entry = (g.D.Directory.listing c.self.inside.dir).entries in
    let pages : List (List Item) = c.self.inside.pages.items in
    let free : List ℕ = c.self.inside.free.items in
    let reserved : ℕ = vec_capacity c.self.inside.free in
    let i : ℕ = c.args.i in
    let now : regions_of entries pages ≡ c.args.self.now.regions = ap (λ (v : RegionList). v.regions) c.self.view_is in
    let h : i < length entries = omega (arith, regions_length entries pages, ap length now, c.requires.region) in
    let from : ℕ = c.slot_of-from.result in
    let inside : from < length pages = omega (arith, c.slot_of-from.ensures, slot_within entries free (length pages) i c.self.invariant.shared h) in
    let page : c.index.result.now ≡ items_at (regions_of entries pages) i =
    get_or_read pages from c.index.result.now inside c.index.ensures [] ∙ ap (page_at pages) c.slot_of-from.ensures ∙ sym (items_of_page entries pages i h) in
    let within : c.args.j < length (items_at (regions_of entries pages) i) =
    subst (λ (q : List Region). c.args.j < length (items_at q i)) (sym now) c.requires.item in
    let j_in : c.args.j < length c.index.result.now = subst (λ xs. c.args.j < length xs) (sym page) within in
    let key : List Bool = c.item.result.now.key.bits in
    let key_is : bits_at (keys_at (regions_of entries pages) i) c.args.j ≡ key =
    ap (λ xs. bits_at (keys_of xs) c.args.j) (sym page) ∙ key_of_item c.index.result.now c.args.j c.item.result.now j_in
    ∙ ap (λ (x : Item). x.key.bits) (sym c.item.ensures) in
    let long : c.args.n ≤ length key =
    omega (arith, c.requires.within, ap length (ap (λ (q : List Region). bits_at (keys_at q i) c.args.j) (sym now) ∙ key_is)) in
    let p : List Bool = take c.args.n key in
    let bits : c.in_ok-prefix.prefix.bits ≡ p = ap (λ (b : BitList). b.bits) c.in_ok-prefix.ensures in
    let longer : length (region_at (regions_of entries pages) i).prefix < c.args.n =
    subst (λ (q : List Region). length (region_at q i).prefix < c.args.n) (sym now) c.requires.longer in
    let cut : IsCutting (regions_of entries pages) i key p =
    cutting (regions_of entries pages) i c.args.j c.args.n key (omega (arith, regions_length entries pages)) within key_is longer long in
    let more : List (List Item) = c.make_spare.new.pages.items in
    let spare : List ℕ = c.make_spare.new.free.items in
    let room : ℕ = vec_capacity c.make_spare.new.free in
    let stored : IsStored entries more spare room =
    spare_stored entries pages more free spare reserved room c.self.invariant
    (c.make_spare.ensures.shared entries c.self.invariant.shared) c.make_spare.ensures.pages c.make_spare.ensures.reserved in
    let same : regions_of entries more ≡ regions_of entries pages = same_pages entries more pages c.make_spare.ensures.pages in
    let to : ℕ = c.index-to.result.now in
    let some : 0 < length spare = c.in_ok-make_spare.ensures.ok in
    let last : to ≡ get_or spare (length spare - 1) to = c.index-to.ensures
    ∙ ap (λ n. get_or spare (n - 1) to) (omega (arith, c.len.ensures, c.make_spare.new.free.ok.0)) in
    let facts = last_is_new entries more spare room to stored some last in
    let clear : c.deref_mut.result.now ≡ set more to [] = c.deref_mut.ensures.value ∙ ap (set more to) c.clear.ensures in
    let after : List Entry = (g.D.Directory.listing c.add.new.self).entries in
    let new : List (List Item) = c.move_below.new.pages in
    let with_entry : IsWithEntry entries (record { prefix = p; slot = to }) after =
    subst (λ b. IsWithEntry entries (record { prefix = b; slot = to }) after) bits c.in_ok-add.ensures.ok in
    let more_in : from < length more = omega (arith, c.slot_of-from.ensures, slot_within entries spare (length more) i stored.shared h) in
    let again : c.item-2.result.now.key.bits ≡ key =
    same_key pages more from c.args.j c.index.result.now c.index-2.result.now c.item.result.now c.item-2.result.now inside more_in
    (c.make_spare.ensures.pages from) c.index.ensures c.index-2.ensures j_in
    c.item.ensures c.item-2.ensures in
    let owned : c.prefix_among-added.result.now.bits ≡ p = c.prefix_among-added.ensures ∙ ap (take c.args.n) again in
    let moved : new ≡ set (set (set more to []) from (items_beside p (page_at (set more to []) from))) to (items_below p (page_at (set more to []) from)) =
    c.move_below.ensures ∙ ap (λ ps. set (set ps from (items_beside c.prefix_among-added.result.now.bits (page_at ps from))) to
    (items_below c.prefix_among-added.result.now.bits (page_at ps from))) clear
    ∙ ap (λ b. set (set (set more to []) from (items_beside b (page_at (set more to []) from))) to (items_below b (page_at (set more to []) from))) owned in
    let left : c.pop-taken.new.self.items ≡ take (length spare - 1) spare =
    c.pop-taken.ensures.rest ∙ ap (λ n. take (n - 1) spare) (omega (arith, c.make_spare.new.free.ok.0)) in
    let enough : room ≤ vec_capacity c.pop-taken.new.self = omega (arith, c.pop-taken.ensures.capacity) in
    let old : List (List Item) = set more to c.clear.new.self in
    let size : length new ≡ length old =
    ap length moved ∙ length-set (set (set more to []) from (items_beside p (page_at (set more to []) from))) to (items_below p (page_at (set more to []) from))
    ∙ length-set (set more to []) from (items_beside p (page_at (set more to []) from)) ∙ length-set more to [] ∙ sym (length-set more to c.clear.new.self) in
    let back : take c.make_spare.new.pages.len (new ++ drop (length new) old) ≡ new =
    whole_back new old c.make_spare.new.pages.len size (omega (arith, length-set more to c.clear.new.self, c.make_spare.new.pages.ok.0)) in
    let both = cut_end entries more spare room to from i key p new after c.pop-taken.new.self.items (vec_capacity c.pop-taken.new.self) stored some last
    (subst (λ (q : List Region). IsCutting q i key p) (sym same) cut) with_entry left enough c.slot_of-from.ensures moved in
    subst (λ ps. IsStored after ps c.pop-taken.new.self.items (vec_capacity c.pop-taken.new.self)) (sym back) both.0

pub returns-clause-ok : goal.returns-clause-ok
returns-clause-ok g c =
    let entries : List Entry = (g.D.Directory.listing c.self.inside.dir).entries in
    let pages : List (List Item) = c.self.inside.pages.items in
    let free : List ℕ = c.self.inside.free.items in
    let reserved : ℕ = vec_capacity c.self.inside.free in
    let i : ℕ = c.args.i in
    let now : regions_of entries pages ≡ c.args.self.now.regions = ap (λ (v : RegionList). v.regions) c.self.view_is in
    let h : i < length entries = omega (arith, regions_length entries pages, ap length now, c.requires.region) in
    let from : ℕ = c.slot_of-from.result in
    let inside : from < length pages = omega (arith, c.slot_of-from.ensures, slot_within entries free (length pages) i c.self.invariant.shared h) in
    let page : c.index.result.now ≡ items_at (regions_of entries pages) i =
    get_or_read pages from c.index.result.now inside c.index.ensures [] ∙ ap (page_at pages) c.slot_of-from.ensures ∙ sym (items_of_page entries pages i h) in
    let within : c.args.j < length (items_at (regions_of entries pages) i) =
    subst (λ (q : List Region). c.args.j < length (items_at q i)) (sym now) c.requires.item in
    let j_in : c.args.j < length c.index.result.now = subst (λ xs. c.args.j < length xs) (sym page) within in
    let key : List Bool = c.item.result.now.key.bits in
    let key_is : bits_at (keys_at (regions_of entries pages) i) c.args.j ≡ key =
    ap (λ xs. bits_at (keys_of xs) c.args.j) (sym page) ∙ key_of_item c.index.result.now c.args.j c.item.result.now j_in
    ∙ ap (λ (x : Item). x.key.bits) (sym c.item.ensures) in
    let long : c.args.n ≤ length key =
    omega (arith, c.requires.within, ap length (ap (λ (q : List Region). bits_at (keys_at q i) c.args.j) (sym now) ∙ key_is)) in
    let p : List Bool = take c.args.n key in
    let bits : c.in_ok-prefix.prefix.bits ≡ p = ap (λ (b : BitList). b.bits) c.in_ok-prefix.ensures in
    let longer : length (region_at (regions_of entries pages) i).prefix < c.args.n =
    subst (λ (q : List Region). length (region_at q i).prefix < c.args.n) (sym now) c.requires.longer in
    let cut : IsCutting (regions_of entries pages) i key p =
    cutting (regions_of entries pages) i c.args.j c.args.n key (omega (arith, regions_length entries pages)) within key_is longer long in
    let more : List (List Item) = c.make_spare.new.pages.items in
    let spare : List ℕ = c.make_spare.new.free.items in
    let room : ℕ = vec_capacity c.make_spare.new.free in
    let stored : IsStored entries more spare room =
    spare_stored entries pages more free spare reserved room c.self.invariant
    (c.make_spare.ensures.shared entries c.self.invariant.shared) c.make_spare.ensures.pages c.make_spare.ensures.reserved in
    let same : regions_of entries more ≡ regions_of entries pages = same_pages entries more pages c.make_spare.ensures.pages in
    let to : ℕ = c.index-to.result.now in
    let some : 0 < length spare = c.in_ok-make_spare.ensures.ok in
    let last : to ≡ get_or spare (length spare - 1) to = c.index-to.ensures
    ∙ ap (λ n. get_or spare (n - 1) to) (omega (arith, c.len.ensures, c.make_spare.new.free.ok.0)) in
    let facts = last_is_new entries more spare room to stored some last in
    let clear : c.deref_mut.result.now ≡ set more to [] = c.deref_mut.ensures.value ∙ ap (set more to) c.clear.ensures in
    let after : List Entry = (g.D.Directory.listing c.add.new.self).entries in
    let new : List (List Item) = c.move_below.new.pages in
    let with_entry : IsWithEntry entries (record { prefix = p; slot = to }) after =
    subst (λ b. IsWithEntry entries (record { prefix = b; slot = to }) after) bits c.in_ok-add.ensures.ok in
    let more_in : from < length more = omega (arith, c.slot_of-from.ensures, slot_within entries spare (length more) i stored.shared h) in
    let again : c.item-2.result.now.key.bits ≡ key =
    same_key pages more from c.args.j c.index.result.now c.index-2.result.now c.item.result.now c.item-2.result.now inside more_in
    (c.make_spare.ensures.pages from) c.index.ensures c.index-2.ensures j_in
    c.item.ensures c.item-2.ensures in
    let owned : c.prefix_among-added.result.now.bits ≡ p = c.prefix_among-added.ensures ∙ ap (take c.args.n) again in
    let moved : new ≡ set (set (set more to []) from (items_beside p (page_at (set more to []) from))) to (items_below p (page_at (set more to []) from)) =
    c.move_below.ensures ∙ ap (λ ps. set (set ps from (items_beside c.prefix_among-added.result.now.bits (page_at ps from))) to
    (items_below c.prefix_among-added.result.now.bits (page_at ps from))) clear
    ∙ ap (λ b. set (set (set more to []) from (items_beside b (page_at (set more to []) from))) to (items_below b (page_at (set more to []) from))) owned in
    let left : c.pop-taken.new.self.items ≡ take (length spare - 1) spare =
    c.pop-taken.ensures.rest ∙ ap (λ n. take (n - 1) spare) (omega (arith, c.make_spare.new.free.ok.0)) in
    let enough : room ≤ vec_capacity c.pop-taken.new.self = omega (arith, c.pop-taken.ensures.capacity) in
    let old : List (List Item) = set more to c.clear.new.self in
    let size : length new ≡ length old =
    ap length moved ∙ length-set (set (set more to []) from (items_beside p (page_at (set more to []) from))) to (items_below p (page_at (set more to []) from))
    ∙ length-set (set more to []) from (items_beside p (page_at (set more to []) from)) ∙ length-set more to [] ∙ sym (length-set more to c.clear.new.self) in
    let back : take c.make_spare.new.pages.len (new ++ drop (length new) old) ≡ new =
    whole_back new old c.make_spare.new.pages.len size (omega (arith, length-set more to c.clear.new.self, c.make_spare.new.pages.ok.0)) in
    let both = cut_end entries more spare room to from i key p new after c.pop-taken.new.self.items (vec_capacity c.pop-taken.new.self) stored some last
    (subst (λ (q : List Region). IsCutting q i key p) (sym same) cut) with_entry left enough c.slot_of-from.ensures moved in
    let whole : IsCut (regions_of entries more) i p (regions_of after (take c.make_spare.new.pages.len (new ++ drop (length new) old))) =
    subst (λ ps. IsCut (regions_of entries more) i p (regions_of after ps)) (sym back) both.1 in
    let all : IsCut c.args.self.now.regions i p (regions_of after (take c.make_spare.new.pages.len (new ++ drop (length new) old))) =
    subst (λ (q : List Region). IsCut q i p (regions_of after (take c.make_spare.new.pages.len (new ++ drop (length new) old)))) (same ∙ now) whole in
    let key_now : key ≡ bits_at (keys_at c.args.self.now.regions i) c.args.j = sym key_is ∙ ap (λ (q : List Region). bits_at (keys_at q i) c.args.j) now in
    subst (λ k. IsCut c.args.self.now.regions i (take c.args.n k) (regions_of after (take c.make_spare.new.pages.len (new ++ drop (length new) old)))) key_now
    all
