use Rattle.std.proofs.Common.{sym, ap, ◌∙◌, cond, None, rules}
use Rattle.std.specs.Prelude.{◌==◌}
use Rattle.std.proofs.lemmas.Map.Keys.{IsDistinct-from_sorted}
use Rattle.ml_bits.specs.BitList.{bits_cmp}
use Rattle.ml_locks.specs.Modes.{held_in}
use Rattle.ml_locks.proofs.Released.{released}
use Rattle.ml_locks.proofs.StoredModes.{held_stored}
use Rattle.ml_locks.proofs.file_locks.FileLocks.release.Goals as goal

pub returns : goal.returns
returns c s u =
    held_stored c.retain.new.self c.retain.ensures.ordered s u
    ∙ (released u c.args.session s _ _ (λ k v b w g t. search rules) c.self.inside.units.entries c.retain.new.self.entries
    (IsDistinct-from_sorted bits_cmp _ c.self.invariant) c.retain.ensures.filtered
    ∙ ap (cond (s == c.args.session) None) (sym (held_stored c.self.inside.units c.self.invariant s u) ∙ ap (λ f. held_in f s u) c.self.view_is))
