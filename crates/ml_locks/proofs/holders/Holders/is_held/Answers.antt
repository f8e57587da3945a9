use Rattle.std.proofs.Common.{◌≡◌, ap, ◌∙◌, length, vec_len, arith}
use Rattle.std.specs.Prelude.{◌==◌}
use Rattle.ml_locks.specs.inside.Stored.{holder_mode}
use Rattle.ml_locks.proofs.Anyone.{any_reader, tells_alike}
use Rattle.ml_locks.proofs.holders.Holders.is_held.Goals as goal

pub returns-in-Readers : goal.returns-in-Readers
returns-in-Readers c =
    let len : vec_len c.in-Readers.sessions ≡ length c.in-Readers.sessions.items = omega (arith, c.in-Readers.sessions.ok) in
    tells_alike _ (holder_mode c.args.self.now) _ (λ s. ap (λ h. holder_mode h s) c.in-Readers.is)
    (any_reader c.in-Readers.sessions.items c.is_empty.result (c.is_empty.ensures ∙ ap (λ n. n == 0) len))
