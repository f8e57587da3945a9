use Rattle.std.proofs.Common.{◌≡◌, cond, true, sym, ap, ◌∙◌, Some, None}
use Rattle.std.specs.Prelude.{◌==◌}
use Rattle.std.specs.List.{list_any}
use Rattle.ml_desk.specs.declared.mode.Mode.TheVariants.{S}
use Rattle.ml_locks.specs.inside.Stored.{holder_mode}
use Rattle.ml_locks.proofs.holders.Holders.mode_of.Goals as goal

pub returns-then-contains : goal.returns-then-contains
returns-then-contains c =
    let found : list_any (λ k. k == c.args.session) c.in-Readers.sessions.items ≡ true =
    ap (list_any (λ k. k == c.args.session)) (sym c.deref.ensures.value) ∙ (sym c.contains.ensures.value ∙ c.if-contains.true) in
    sym (ap (λ h. holder_mode h c.args.session) c.in-Readers.is ∙ ap (λ b. cond b (Some S) None) found)
