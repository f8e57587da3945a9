use Rattle.std.proofs.Common.{◌≡◌, ap, Some, None, Bool, true, false, refl}
use Rattle.std.specs.Prelude.{◌==◌, ◌&&◌, not}
use Rattle.ml_locks.specs.inside.Stored.{holder_mode}
use Rattle.ml_locks.specs.inside.Waiting.{stands_in_way}
use Rattle.ml_locks.proofs.Oldest.{least_alike}
use Rattle.ml_locks.proofs.StoredModes.{held_found}
use Rattle.ml_locks.proofs.file_locks.FileLocks.oldest_in_way_at.Goals as goal

pub returns-in-Some : goal.returns-in-Some
returns-in-Some c = least_alike (λ k. stands_in_way c.args.asker c.args.mode (holder_mode c.in-Some.holders.now k) k) _ _
    (λ k. ap (λ o. stands_in_way c.args.asker c.args.mode o k)
    (held_found c.self.inside.units c.self.invariant _ c.self.view_is c.args.prefix.now.bits
    (Some c.in-Some.holders.now) c.in-Some.ensures.value k)) c.oldest_in_way.ensures

pub returns-in-None : goal.returns-in-None
returns-in-None c = least_alike (λ k. stands_in_way c.args.asker c.args.mode None k) _ None
    (λ k. ap (λ o. stands_in_way c.args.asker c.args.mode o k)
    (held_found c.self.inside.units c.self.invariant _ c.self.view_is c.args.prefix.now.bits None c.in-None.ensures.value k)) (λ k. passes_none
    (k == c.args.asker))
  where
    passes_none : (b : Bool) → (not b && false) ≡ false
    passes_none true = refl
    passes_none false = refl
