use Rattle.std.proofs.Common.{◌<◌, ◌+◌, ℕ, Bool, List, [], length, get_or, take, sym, subst, arith}
use Rattle.ml_bits.specs.BitList.{IsCommonLength}
use Rattle.ml_split.proofs.PartingKeys.{IsFork, fork_nearer, fork_further, fork_aside}
use Rattle.ml_split.proofs.place.fork_of.Goals as goal
use Rattle.ml_split.proofs.place.fork_of.Goals.{then-bits-common+then-common-fork, else-bits-common, else-bits-common-via-then-bits-common+else-common-fork}
use Rattle.ml_split.proofs.place.fork_of.Goals.{else-bits-common-via-else-bits-common}

pub loop-i-preserved : goal.loop-i-preserved
loop-i-preserved g c =
    let keys : List (List Bool) = g.K.Keys.keys c.args.keys.now in
    let guide : List Bool = c.args.guide.now.bits in
    let common : ℕ = c.common_len-common.result in
    let here : c.loop-i.i < length keys = omega (arith, c.len-i-end.ensures) in
    let h : IsCommonLength guide (get_or keys c.loop-i.i []) common = subst (λ k. IsCommonLength guide k common) c.key.ensures c.common_len-common.ensures in
    elim c.if-bits-common.branch [
      | then-bits-common+then-common-fork w ↦
          subst (IsFork guide (take (c.loop-i.i + 1) keys) c.args.bits) (sym w.fork-is)
          (fork_nearer guide keys c.loop-i.i c.args.bits c.loop-i.fork common here c.loop-i.invariant h w.if-bits-common.true w.if-common-fork.true)
      | else-bits-common w ↦
          subst (IsFork guide (take (c.loop-i.i + 1) keys) c.args.bits) (sym w.fork-is)
          (elim w.else-bits-common.branch [
            | else-bits-common-via-then-bits-common+else-common-fork v ↦
                fork_further guide keys c.loop-i.i c.args.bits c.loop-i.fork common here c.loop-i.invariant h v.if-common-fork.false
            | else-bits-common-via-else-bits-common v ↦
                fork_aside guide keys c.loop-i.i c.args.bits c.loop-i.fork common here c.loop-i.invariant h v.if-bits-common.false
          ])
    ]
