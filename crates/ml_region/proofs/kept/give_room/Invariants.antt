use Rattle.std.proofs.Common.{◌≡◌, ℕ, ◌≤◌}
use Rattle.std.specs.List.{AllWithin}
use Rattle.ml_region.specs.inside.Kept.{kept_entries, HaveRoom}
use Rattle.ml_region.specs.declared.kept.Kept.{Kept}
use Rattle.ml_region.proofs.kept.give_room.Given as goal

abbrev pub invariant-loop-entry : goal.invariant-loop-entry
invariant-loop-entry l =
    (kept_entries l.kept ≡ kept_entries l.initial.kept)
    × AllWithin (λ (k : Kept). l.bits ≤ k.prefix.room) l.kept 0 l.entry-index
    × ((room : ℕ) → HaveRoom room l.initial.kept → HaveRoom room l.kept)
