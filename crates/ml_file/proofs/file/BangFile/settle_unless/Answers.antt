use Rattle.std.proofs.Common.{sym, subst}
use Rattle.ml_file.specs.Files.{IsFile}
use Rattle.ml_file.proofs.TakenItems.{file_less}
use Rattle.ml_file.proofs.file.BangFile.settle_unless.Goals as goal

pub invariant_of-self : goal.invariant_of-self
invariant_of-self g c =
    subst (IsFile c.self.inside.decl c.settle_free.new.regions.regions) (sym c.settle_free.ensures.room)
    (file_less c.self.inside.decl c.self.inside.regions.regions c.settle_free.new.regions.regions c.self.inside.regions.room c.self.invariant
    (λ x there. (c.settle_free.ensures.items.same x).0 there) c.settle_free.ensures.few)
