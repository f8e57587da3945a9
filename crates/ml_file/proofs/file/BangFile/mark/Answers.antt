use Rattle.std.proofs.Common.{List, sym, ap, subst}
use Rattle.ml_file.specs.Files.{File, IsFile, IsHeld}
use Rattle.ml_file.specs.Marking.{HasMark}
use Rattle.ml_region.specs.Regions.{Region}
use Rattle.ml_region.specs.declared.item.Item.{Item}
use Rattle.ml_file.proofs.MarkedItems.{has_key, file_marked, marked_from}
use Rattle.ml_file.proofs.file.BangFile.mark.Goals as goal

pub mark-requires : goal.mark-requires
mark-requires c =
    has_key c.self.inside.regions.regions c.args.key.now.bits
    (subst (λ (rs : List Region). (x : Item) × IsHeld rs c.args.key.now.bits x) (sym (ap (λ (f : File). f.regions) c.self.view_is)) c.requires)

pub invariant_of-self : goal.invariant_of-self
invariant_of-self c =
    file_marked c.self.inside.decl c.self.inside.regions.regions c.args.key.now.bits c.args.committed c.args.id c.mark.new.self.regions c.mark.new.self.room
    c.len-well_placed.ensures.well_placed c.mark.ensures.regions
    (subst (IsFile c.self.inside.decl c.self.inside.regions.regions) (sym c.mark.ensures.room) c.self.invariant)

pub returns-clause-marked : goal.returns-clause-marked
returns-clause-marked c =
    subst (λ rs. HasMark rs c.args.key.now.bits c.args.committed c.args.id c.mark.new.self.regions) (ap (λ (f : File). f.regions) c.self.view_is)
    (marked_from c.self.inside.regions.regions c.args.key.now.bits c.args.committed c.args.id c.mark.new.self.regions c.len-well_placed.ensures.well_placed
    c.mark.ensures.regions)
