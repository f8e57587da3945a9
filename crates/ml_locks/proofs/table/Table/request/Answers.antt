use Rattle.std.proofs.Common.{◌<◌, length, sym, subst, slice_set, List, Bool, Option, ℕ}
use Rattle.ml_desk.specs.declared.mode.Mode.{Mode}
use Rattle.ml_locks.specs.Modes.{Locks}
use Rattle.ml_locks.specs.Requests.{IsAnswered, Leaves, modes_at, prefixes_of}
use Rattle.ml_locks.proofs.TableModes.{held_at, left_there}
use Rattle.ml_locks.proofs.table.Table.request.Goals as goal

pub returns-clause-answered : goal.returns-clause-answered
returns-clause-answered c =
    let files = c.self.inside.files.items in
    let there : c.args.pred < length files = subst (λ (t : Locks). c.args.pred < length t) (sym c.self.view_is) c.requires in
    let file = c.index_mut-file.result.now in
    subst (λ (t : Locks). IsAnswered (modes_at t c.args.pred) c.args.session c.args.pred
    (prefixes_of c.args.units.now) c.args.mode c.request.result) c.self.view_is
    (subst (λ (held : ℕ → List Bool → Option Mode). IsAnswered held c.args.session c.args.pred (prefixes_of c.args.units.now) c.args.mode c.request.result)
    (held_at files c.args.pred file file there c.index_mut-file.ensures.value) c.request.ensures.answered)

pub returns-clause-left : goal.returns-clause-left
returns-clause-left c =
    let files = c.self.inside.files.items in
    let there : c.args.pred < length files = subst (λ (t : Locks). c.args.pred < length t) (sym c.self.view_is) c.requires in
    let file = c.index_mut-file.result.now in
    let after : Locks = slice_set files c.args.pred c.request.new.self in
    subst (λ (t : Locks). Leaves t c.args.session c.args.pred (prefixes_of c.args.units.now) c.args.mode c.request.result after) c.self.view_is
    (left_there files c.args.pred file c.request.new.self there c.index_mut-file.ensures.value c.args.session
    (prefixes_of c.args.units.now) c.args.mode c.request.result
    c.request.ensures.left)
