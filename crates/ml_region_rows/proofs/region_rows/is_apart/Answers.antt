use Rattle.std.proofs.Common.{◌≡◌, ◌<◌, List, [], length, inl, inr, sym, ap, ◌∙◌, subst, arith, below_more}
use Rattle.std.proofs.lemmas.Bool.{iff_false, cases_lt}
use Rattle.std.proofs.lemmas.List.{length-map, get_or_default}
use Rattle.ml_bits.specs.BitList.{Begins}
use Rattle.ml_region.specs.Prefixes.{bits_at}
use Rattle.ml_region.specs.Regions.{keys_at, items_at}
use Rattle.ml_region.specs.declared.item.Item.{Item}
use Rattle.ml_region.proofs.FoundItems.{key_of_item}
use Rattle.ml_region_rows.proofs.region_rows.is_apart.Goals as goal

pub loop-j-preserved : goal.loop-j-preserved
loop-j-preserved c =
    let items : List Item = items_at c.args.regions.now.regions c.loop-i.i in
    let within : c.loop-j.j < length items = omega (arith, c.count-j-end.ensures) in
    let same : bits_at (keys_at c.args.regions.now.regions c.loop-i.i) c.loop-j.j ≡ c.item.result.now.key.bits =
    key_of_item items c.loop-j.j c.item.result.now within ∙ ap (λ (x : Item). x.key.bits) (sym c.item.ensures) in
    below_more _ _ c.loop-j.invariant (
      λ b. iff_false c.is_prefix_of.ensures c.if-is_prefix_of.false (subst (λ k. Begins k c.args.key.now.bits) same b),
      λ b. iff_false c.is_prefix_of-else-is_prefix_of.ensures c.if-is_prefix_of-2.false (subst (Begins c.args.key.now.bits) same b),
    )

pub loop-i-preserved : goal.loop-i-preserved
loop-i-preserved c i j h l =
    elim (cases_lt i c.loop-i.i) [
      | inl before ↦ c.loop-i.invariant i j before l
      | inr after ↦
          let here : i ≡ c.loop-i.i = omega arith in
          let l' : j < length (keys_at c.args.regions.now.regions c.loop-i.i) = subst (λ k. j < length (keys_at c.args.regions.now.regions k)) here l in
          let within : j < c.loop-j.j = omega (
            arith,
            c.count-j-end.ensures,
            l',
            length-map (items_at c.args.regions.now.regions c.loop-i.i) (λ (x : Item). x.key.bits),
          ) in
          subst (λ k. (Begins (bits_at (keys_at c.args.regions.now.regions k) j) c.args.key.now.bits → ⊥)
          × (Begins c.args.key.now.bits (bits_at (keys_at c.args.regions.now.regions k) j) → ⊥))
          (sym here) (c.loop-j.invariant j within)
    ]

pub returns : goal.returns
returns c t i other h there =
    let same : bits_at (keys_at c.args.regions.now.regions i) there.0 ≡ other =
    get_or_default (keys_at c.args.regions.now.regions i) there.0 [] other there.1 ∙ there.2 in
    subst (λ k. (Begins k c.args.key.now.bits → ⊥) × (Begins c.args.key.now.bits k → ⊥)) same
    (c.loop-i.invariant i there.0 (omega (arith, c.len-i-end.ensures.length)) there.1)
