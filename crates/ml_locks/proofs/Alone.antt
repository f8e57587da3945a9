-- Who may change a unit is alone.
use Rattle.std.proofs.Common.{◌≡◌, ℕ, Bool, true, false, cond, refl, sym, ◌∙◌, Some, None}
use Rattle.std.specs.Prelude.{IsSome, ◌==◌}
use Rattle.std.specs.List.{list_any}
use Rattle.ml_desk.specs.declared.mode.Mode.{Mode}
use Rattle.ml_desk.specs.declared.mode.Mode.TheVariants.{S, X}
use Rattle.ml_locks.specs.inside.Stored.{holder_mode}
use Rattle.ml_locks.specs.declared.holders.Holders.{Holders}
use Rattle.ml_locks.specs.declared.holders.Holders.TheVariants.{Nobody, One, Readers}
use Rattle.ml_locks.proofs.StoredModes.{numbers_alike}

only_there : (b : Bool) (m : Mode) → IsSome (cond b (Some m) None) → b ≡ true
only_there true m e = refl
only_there false m e = cc

holds : (b : Bool) (m : Mode) → cond b (Some m) None ≡ Some X → b ≡ true
holds true m e = refl
holds false m e = cc

no_readers : {A : Type 0} (b : Bool) → cond b (Some S) None ≡ Some X → A
no_readers true e = cc
no_readers false e = cc

pub alone : (holders : Holders) (s k : ℕ) → holder_mode holders s ≡ Some X → IsSome (holder_mode holders k) → k ≡ s
alone Nobody s k e f = cc
alone (One holder mode) s k e f = sym (numbers_alike holder k (only_there (holder == k) mode f)) ∙ numbers_alike holder s (holds (holder == s) mode e)
alone (Readers sessions) s k e f = no_readers (list_any (λ holder. holder == s) sessions.items) e
