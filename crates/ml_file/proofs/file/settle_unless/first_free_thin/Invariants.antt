use Rattle.std.proofs.Common.{ℕ, ◌<◌, Bool, List}
use Rattle.ml_file.specs.SettledUnless.{Answers, IsFreeThin}
use Rattle.ml_file.proofs.file.settle_unless.first_free_thin.Given as goal

abbrev pub invariant-loop-i : goal.invariant-loop-i
invariant-loop-i g l = (h : List Bool → Bool) → Answers g.F.Fn l.held h → (k : ℕ) → k < l.i → IsFreeThin h l.regions.regions k → ⊥
