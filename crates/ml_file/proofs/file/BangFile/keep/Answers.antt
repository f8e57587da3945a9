use Rattle.std.proofs.Common.{true, List, sym, ap, subst}
use Rattle.ml_region.specs.Keeping.{kept_id}
use Rattle.ml_region.specs.Regions.{Region}
use Rattle.ml_region.specs.declared.item.Item.{Item}
use Rattle.ml_file.specs.Files.{File, IsFile, IsHeld}
use Rattle.ml_file.specs.Keeping.{HasKept}
use Rattle.ml_file.proofs.HeldItems.{held_from}
use Rattle.ml_file.proofs.MarkedItems.{has_key, file_marked, marked_from}
use Rattle.ml_file.proofs.file.BangFile.keep.Goals as goal

pub keep-requires : goal.keep-requires
keep-requires c =
    has_key c.self.inside.regions.regions c.args.key.now.bits
    (subst (λ (rs : List Region). (x : Item) × IsHeld rs c.args.key.now.bits x) (sym (ap (λ (f : File). f.regions) c.self.view_is)) c.requires)

pub invariant_of-self : goal.invariant_of-self
invariant_of-self c =
    file_marked c.self.inside.decl c.self.inside.regions.regions c.args.key.now.bits true (kept_id c.keep.ensures.regions.item c.args.place)
    c.keep.new.self.regions c.keep.new.self.room c.len-well_placed.ensures.well_placed c.keep.ensures.regions.marked
    (subst (IsFile c.self.inside.decl c.self.inside.regions.regions) (sym c.keep.ensures.room) c.self.invariant)

pub returns-clause-kept : goal.returns-clause-kept
returns-clause-kept c =
    let regions : List Region = c.self.inside.regions.regions in
    let item : Item = c.keep.ensures.regions.item in
    subst (λ rs. HasKept rs c.args.key.now.bits c.args.place c.keep.new.self.regions) (ap (λ (f : File). f.regions) c.self.view_is)
    (record {
      item = item;
      held = held_from regions c.args.key.now.bits item c.keep.ensures.regions.found;
      mark = marked_from regions c.args.key.now.bits true (kept_id item c.args.place) c.keep.new.self.regions c.len-well_placed.ensures.well_placed
          c.keep.ensures.regions.marked;
    })
