use Rattle.std.proofs.Common.{◌≡◌, ℕ, ◌<◌, Bool, true, false, List, [], ◌∷◌, ◌++◌, length, map, take, sym, ap, ◌∙◌, arith}
use Rattle.std.specs.List.{filter}
use Rattle.std.proofs.lemmas.List.{map_push}
use Rattle.ml_bits.specs.BitList.{BitList}
use Rattle.ml_term.specs.Patterns.{may_hold}
use Rattle.ml_region.specs.Prefixes.{bits_at}
use Rattle.ml_region.specs.Regions.{Region, region_prefixes}
use Rattle.ml_region.proofs.StoredRegions.{prefix_of_region, region_prefixes_length}
use Rattle.ml_region.proofs.PrefixesBelow.{none_below, one_more}
use Rattle.ml_region.proofs.regions.Regions.compatible.Goals as goal

pub each-preserved-then-may_hold : goal.each-preserved-then-may_hold
each-preserved-then-may_hold g c =
    let regions : List Region = c.args.self.now.regions in
    let ps : List (List Bool) = region_prefixes regions in
    let i : ℕ = c.each.i in
    let h : i < length ps = omega (arith, region_prefixes_length regions, c.len-len.ensures.length, c.each-test.true) in
    let bits : c.prefix-prefix.result.now.bits ≡ bits_at ps i = c.prefix-prefix.ensures.bits ∙ sym (prefix_of_region regions i) in
    let held : may_hold c.args.p.now (bits_at ps i) ≡ true = ap (may_hold c.args.p.now) (sym bits) ∙ sym c.may_hold.ensures ∙ c.if-may_hold.true in
    let copy : c.in_ok-copy_of.field-0.bits ≡ bits_at ps i = ap (λ (b : BitList). b.bits) c.in_ok-copy_of.ensures ∙ bits in (
      omega (arith, c.each-test.true),
      ap (map (λ (b : BitList). b.bits)) c.in_ok-push.ensures.items
          ∙ map_push (λ (b : BitList). b.bits) c.each.found.items c.in_ok-copy_of.field-0
          ∙ ap (λ xs. xs ++ c.in_ok-copy_of.field-0.bits ∷ []) c.each.invariant.1
          ∙ ap (λ b. filter (may_hold c.args.p.now) (take i ps) ++ b ∷ []) copy
          ∙ sym (one_more c.args.p.now ps i h held),
    )

pub each-preserved : goal.each-preserved
each-preserved g c =
    let regions : List Region = c.args.self.now.regions in
    let ps : List (List Bool) = region_prefixes regions in
    let i : ℕ = c.each.i in
    let bits : c.prefix-prefix.result.now.bits ≡ bits_at ps i = c.prefix-prefix.ensures.bits ∙ sym (prefix_of_region regions i) in
    let lacks : may_hold c.args.p.now (bits_at ps i) ≡ false = ap (may_hold c.args.p.now) (sym bits) ∙ sym c.may_hold.ensures ∙ c.if-may_hold.false in (
      omega (arith, c.end_of_below-i.ensures.within, region_prefixes_length regions, c.len-len.ensures.length),
      c.each.invariant.1 ∙ sym (none_below c.args.p.now ps i c.end_of_below-i.result c.end_of_below-i.ensures lacks),
    )
