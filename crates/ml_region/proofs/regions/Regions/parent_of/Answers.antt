use Rattle.std.proofs.Common.{◌≡◌, ℕ, ◌-◌, ◌<◌, Bool, true, false, List, length, take, sym, ◌∙◌, subst, arith}
use Rattle.ml_region.specs.Prefixes.{AreRooted, IsOwner, IsParent, bits_at}
use Rattle.ml_region.specs.Regions.{region_prefixes}
use Rattle.ml_region.proofs.OwnerSearch.{one_place, parent_from_owner, some_length}
use Rattle.ml_region.proofs.StoredRegions.{prefix_of_region, region_prefixes_length}
use Rattle.ml_region.proofs.regions.Regions.parent_of.Goals as goal

pub returns-then-is_empty : goal.returns-then-is_empty
returns-then-is_empty g c =
    let ps : List (List Bool) = region_prefixes c.args.self.now.regions in
    let rooted : AreRooted ps = c.prefixes-prefixes.ensures.rooted in
    let empty : bits_at ps c.args.i ≡ bits_at ps 0 =
    prefix_of_region c.args.self.now.regions c.args.i ∙ sym c.prefix-prefix.ensures.bits ∙ c.is_empty.ensures.0 c.if-is_empty.true ∙ sym rooted.root in
    one_place ps c.args.i 0 rooted.rising (omega (arith, region_prefixes_length c.args.self.now.regions, c.requires)) rooted.some empty

pub owner_within-requires-clause-rooted : goal.owner_within-requires-clause-rooted
owner_within-requires-clause-rooted g c = subst AreRooted (sym c.prefixes-prefixes.ensures.same) c.prefixes-prefixes.ensures.rooted

pub returns : goal.returns
returns g c =
    let prefix : List Bool = c.prefix-prefix.result.now.bits in
    let ps : List (List Bool) = region_prefixes c.args.self.now.regions in
    let i : ℕ = c.owner_within.result in
    let some : 0 < length prefix = some_length prefix (λ e. let t : c.is_empty.result ≡ true = c.is_empty.ensures.1 e in
    let f : true ≡ false = sym t ∙ c.if-is_empty.false in cc) in
    let first : IsOwner ps (take (c.len.result - 1) prefix) i =
    subst (λ ps. IsOwner ps (take (c.len.result - 1) prefix) i) c.prefixes-prefixes.ensures.same c.owner_within.ensures in
    let own : IsOwner ps (take (length prefix - 1) prefix) i = subst (λ n. IsOwner ps (take (n - 1) prefix) i) c.len.ensures.length first in
    subst (λ k. IsParent ps k i) c.prefix-prefix.ensures.bits (parent_from_owner ps prefix i some own)
