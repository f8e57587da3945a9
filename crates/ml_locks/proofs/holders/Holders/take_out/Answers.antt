use Rattle.std.proofs.Common.{◌≡◌, cond, sym, ap, ◌∙◌, Some, None, rules}
use Rattle.std.specs.Prelude.{◌==◌}
use Rattle.std.specs.List.{list_any}
use Rattle.std.proofs.lemmas.Fn.{filter_same}
use Rattle.ml_desk.specs.declared.mode.Mode.TheVariants.{S}
use Rattle.ml_locks.specs.inside.Stored.{holder_mode}
use Rattle.ml_locks.proofs.Released.{others, among_others, without_one}
use Rattle.ml_locks.proofs.holders.Holders.take_out.Goals as goal

pub returns-in-Readers : goal.returns-in-Readers
returns-in-Readers c s =
    let left : c.retain.new.self.items ≡ others c.args.session c.in-Readers.sessions.items = filter_same _ _ _
    (λ x b f' k. search rules) _ _ c.retain.ensures.filtered in
    ap (λ ks. cond (list_any (λ k. k == s) ks) (Some S) None) left
    ∙ (ap (λ b. cond b (Some S) None) (among_others s c.args.session c.in-Readers.sessions.items)
    ∙ (without_one (s == c.args.session) (list_any (λ k. k == s) c.in-Readers.sessions.items) S
    ∙ ap (λ h. cond (s == c.args.session) None (holder_mode h s)) (sym c.in-Readers.is)))
