use Rattle.std.proofs.Common.{◌≡◌, ℕ, ◌<◌, ◌≤◌, length, get_or, max, subst, sym, ap, ◌∙◌, arith}
use Rattle.std.specs.List.{AllWithin}
use Rattle.std.proofs.lemmas.List.Elements.{AllWithin-more_set, All-from_all_within, All-set}
use Rattle.ml_region.specs.declared.kept.Kept.{Kept}
use Rattle.ml_region.proofs.SortedElements.{entries_set}
use Rattle.ml_region.proofs.kept.give_room.Goals as goal

pub loop-entry-preserved : goal.loop-entry-preserved
loop-entry-preserved c =
    let kept = c.loop-entry.kept in
    let i : ℕ = c.loop-entry.entry-index in
    let inside : i < length kept = omega (arith, c.loop-entry-test.true) in
    let new : Kept = record { prefix = c.make_room.new.self; slot = (get_or kept i c.entry-item.result).slot } in
    let room : c.make_room.new.self.room ≡ max (get_or kept i c.entry-item.result).prefix.room c.args.bits = c.in_ok-make_room.ensures.ok in (
      entries_set kept i new c.entry-item.result inside c.entry-item.is
          (c.in_ok-make_room.ensures.list ∙ ap (λ (k : Kept). k.prefix.bits) (sym c.entry-item.is)) (ap (λ (k : Kept). k.slot) (sym c.entry-item.is))
          ∙ c.loop-entry.invariant.0,
      AllWithin-more_set kept i new inside (λ (k : Kept). c.args.bits ≤ k.prefix.room) c.loop-entry.invariant.1 (omega (arith, room)),
      λ r h. All-set (λ (k : Kept). r ≤ k.prefix.room) kept i new
          (let at : r ≤ (get_or kept i c.entry-item.result).prefix.room = c.loop-entry.invariant.2 r h i c.entry-item.result inside in omega (arith, room, at))
          (c.loop-entry.invariant.2 r h),
    )

pub returns-clause-ok : goal.returns-clause-ok
returns-clause-ok c =
    All-from_all_within (λ (k : Kept). c.args.bits ≤ k.prefix.room) c.loop-entry.kept
    (let e : c.loop-entry.entry-index ≡ length c.loop-entry.kept = omega arith in
    subst (AllWithin (λ (k : Kept). c.args.bits ≤ k.prefix.room) c.loop-entry.kept 0) e c.loop-entry.invariant.1)
