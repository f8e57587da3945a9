use Rattle.std.proofs.Common.{◌≡◌, ℕ, ◌<◌, Bool, List, length, sym, ap, ◌∙◌, arith}
use Rattle.ml_term.specs.Keys.{key_cmp}
use Rattle.ml_region.specs.Prefixes.{bits_at}
use Rattle.ml_region.specs.Regions.{keys_of}
use Rattle.ml_region.specs.declared.item.Item.{Item}
use Rattle.ml_region.proofs.KeyOrder.{not_equal_from_test}
use Rattle.ml_region.proofs.FoundItems.{key_of_item}
use Rattle.ml_region.proofs.PageSearch.{not_among}
use Rattle.ml_region.proofs.RegionItems.{keys_length}
use Rattle.ml_region.proofs.page.Page.find.Goals as goal
use Rattle.ml_region.proofs.page.Page.find.Goals.{else-j-len-via-then-j-len+else-is_eq, else-j-len-via-else-j-len}

pub returns-else-j-len : goal.returns-else-j-len
returns-else-j-len c =
    let items : List Item = c.args.self.now in
    let key : List Bool = c.args.key.now.bits in
    let j : ℕ = c.first_from-j.result in
    not_among (keys_of items) key j c.requires c.first_from-j.ensures (elim c.else-j-len.branch [
      | else-j-len-via-then-j-len+else-is_eq w ↦ λ h.
          let inside : j < length items = omega (arith, keys_length items) in
          let bits : bits_at (keys_of items) j ≡ w.item.result.now.key.bits =
          key_of_item items j w.item.result.now inside ∙ ap (λ (x : Item). x.key.bits) (sym w.item.ensures) in
          λ e. not_equal_from_test w.cmp.result w.is_eq.result w.is_eq.ensures w.if-is_eq.false (w.cmp.ensures.value ∙ ap (λ k. key_cmp k key) (sym bits) ∙ e)
      | else-j-len-via-else-j-len w ↦ λ h. absurd (omega (arith, w.if-j-len.false, c.len.ensures, keys_length items))
    ])
