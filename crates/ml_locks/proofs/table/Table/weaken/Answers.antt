use Rattle.std.proofs.Common.{◌<◌, length, refl, sym, subst, slice_set}
use Rattle.std.specs.Prelude.{◌==◌, ◌&&◌}
use Rattle.ml_locks.specs.Changes.{IsWeakened}
use Rattle.ml_locks.specs.Modes.{Locks, same_bits}
use Rattle.ml_locks.proofs.TableModes.{table_changed, table_files}
use Rattle.ml_locks.proofs.table.Table.weaken.Goals as goal

pub returns : goal.returns
returns c =
    let files = c.self.inside.files.items in
    let there : c.args.pred < length files = subst (λ (t : Locks). c.args.pred < length t) (sym c.self.view_is) c.requires.there in
    let file = c.index_mut-file.result.now in
    let after : Locks = slice_set files c.args.pred c.weaken.new.self in
    subst (λ (t : Locks). IsWeakened t c.args.session c.args.pred c.args.prefix.now.bits c.args.mode after) c.self.view_is
    (record {
      files = table_files files c.args.pred file c.weaken.new.self there c.index_mut-file.ensures.value;
      modes = λ s d u. table_changed files c.args.pred file c.weaken.new.self there c.index_mut-file.ensures.value
          ((s == c.args.session) && same_bits u c.args.prefix.now.bits)
          c.args.mode c.args.mode s d u (λ _. refl) (c.weaken.ensures s u);
    })
