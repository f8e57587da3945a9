use Rattle.std.proofs.Common.{◌&&◌, ◌∙◌, ap, get_or}
use Rattle.std.specs.Prelude.{slice_set}
use Rattle.ml_bits.proofs.StoredBits.{on_err}
use Rattle.ml_list_desk.proofs.CarriedOut.{declared_place, insert_carried}
use Rattle.ml_list_desk.proofs.Declared.{relation_there, is_declared, place_within, put_back, stands_there}
use Rattle.ml_search.specs.Db.{is_tuple}
use Rattle.ml_search.specs.Program.{arity_of, is_relation, name_of}
use Rattle.ml_term.specs.Seen.{seen}
use Rattle.ml_list_desk.proofs.operations.insert_into.Goals as goal

pub list_of-requires : goal.list_of-requires
list_of-requires c =
    let t = seen c.args.t.now in
    let decls = c.args.decls.now in
    is_declared decls (name_of t) (arity_of t) (λ q. is_relation q && is_tuple q t)
    (declared_place decls (name_of t) (arity_of t) (λ q. is_relation q && is_tuple q t) c.requires.valid)

pub insert_tuple-requires-clause-relation : goal.insert_tuple-requires-clause-relation
insert_tuple-requires-clause-relation c =
    let t = seen c.args.t.now in
    let decls = c.args.decls.now in
    let lists = c.args.lists.now in
    let d = c.in_ok-d.d in
    let l = get_or lists d c.index-lists-d.result in
    let at = stands_there lists d l (place_within decls lists d c.requires.decls c.in_ok-d.ensures.within) (ap (get_or lists d) c.index-lists-d.is) in
    (relation_there decls lists t d l c.requires.decls c.requires.valid c.in_ok-d.ensures.place at).relation

pub insert_tuple-requires-clause-tuple : goal.insert_tuple-requires-clause-tuple
insert_tuple-requires-clause-tuple c =
    let t = seen c.args.t.now in
    let decls = c.args.decls.now in
    let lists = c.args.lists.now in
    let d = c.in_ok-d.d in
    let l = get_or lists d c.index-lists-d.result in
    let at = stands_there lists d l (place_within decls lists d c.requires.decls c.in_ok-d.ensures.within) (ap (get_or lists d) c.index-lists-d.is) in
    (relation_there decls lists t d l c.requires.decls c.requires.valid c.in_ok-d.ensures.place at).tuple

pub returns-clause-ok : goal.returns-clause-ok
returns-clause-ok c =
    let t = seen c.args.t.now in
    let decls = c.args.decls.now in
    let lists = c.args.lists.now in
    let d = c.in_ok-d.d in
    let l = get_or lists d c.index-lists-d.result in
    let at = stands_there lists d l (place_within decls lists d c.requires.decls c.in_ok-d.ensures.within) (ap (get_or lists d) c.index-lists-d.is) in
    λ cursors w. insert_carried decls lists d l c.insert_tuple.new.list c.args.changes c.in_ok-outcome.outcome t c.requires.decls
    c.in_ok-d.ensures.place at c.in_ok-outcome.ensures.ok cursors w

pub returns-in_err-outcome-clause-err : goal.returns-in_err-outcome-clause-err
returns-in_err-outcome-clause-err c =
    let t = seen c.args.t.now in
    let decls = c.args.decls.now in
    let lists = c.args.lists.now in
    let d = c.in_ok-d.d in
    let l = get_or lists d c.index-lists-d.result in
    let at = stands_there lists d l (place_within decls lists d c.requires.decls c.in_ok-d.ensures.within) (ap (get_or lists d) c.index-lists-d.is) in
    on_err c.from_residual-in_err-outcome.result (ap (slice_set lists d) c.in_err-outcome.ensures.err ∙ put_back lists d l at)
