use Rattle.std.proofs.Common.{ap, sym, subst}
use Rattle.ml_file.specs.Files.{File, IsAbsent, IsFile, IsRemoved}
use Rattle.ml_file.proofs.HeldItems.{absent_from}
use Rattle.ml_file.proofs.TakenItems.{file_after, removed_from}
use Rattle.ml_file.proofs.file.BangFile.remove.Goals as goal

pub returns-in_default-clause-absent : goal.returns-in_default-clause-absent
returns-in_default-clause-absent c _ =
    subst (λ rs. IsAbsent rs c.args.key.now.bits) (ap (λ (f : File). f.regions) c.self.view_is)
    (absent_from c.self.inside.regions.regions c.args.key.now.bits c.in_default.ensures.regions.1)

pub invariant_of-self-2 : goal.invariant_of-self-2
invariant_of-self-2 c =
    file_after c.self.inside.decl c.self.inside.regions.regions c.args.key.now.bits c.in-Some._item c.take.new.self.regions c.take.new.self.room
    c.in-Some.ensures.regions
    (subst (IsFile c.self.inside.decl c.self.inside.regions.regions) (sym c.take.ensures.room) c.self.invariant)

pub returns-clause-removed : goal.returns-clause-removed
returns-clause-removed c _ =
    subst (λ rs. IsRemoved rs c.args.key.now.bits c.take.new.self.regions) (ap (λ (f : File). f.regions) c.self.view_is)
    (removed_from c.self.inside.regions.regions c.args.key.now.bits c.in-Some._item c.take.new.self.regions c.len-well_placed.ensures.well_placed
    c.in-Some.ensures.regions)
