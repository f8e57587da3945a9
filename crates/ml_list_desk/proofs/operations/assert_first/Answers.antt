use Rattle.std.proofs.Common.{◌≡◌, ◌&&◌, ◌∙◌, true, ap, subst, sym, get_or}
use Rattle.std.specs.Prelude.{is_some, slice_set, Some}
use Rattle.ml_bits.proofs.StoredBits.{on_err}
use Rattle.ml_list_desk.proofs.CarriedOut.{declared_place, first_carried}
use Rattle.ml_list_desk.proofs.Declared.{clauses_there, is_declared, place_within, put_back, stands_there}
use Rattle.ml_search.specs.Db.{head_of, is_stored_clause}
use Rattle.ml_search.specs.Program.{arity_of, is_clause_list, name_of, place_of}
use Rattle.ml_term.specs.Seen.{seen}
use Rattle.ml_list_desk.proofs.operations.assert_first.Goals as goal

pub list_of-requires : goal.list_of-requires
list_of-requires c =
    let t = seen c.args.t.now in
    let decls = c.args.decls.now in
    subst (λ u. is_some (place_of decls (name_of u) (arity_of u)) ≡ true) (sym c.head_of-head.ensures)
    (is_declared decls (name_of (head_of t)) (arity_of (head_of t)) (λ q. is_clause_list q && is_stored_clause q t)
    (declared_place decls (name_of (head_of t)) (arity_of (head_of t)) (λ q. is_clause_list q && is_stored_clause q t) c.requires.valid))

pub assert_at-requires-clause-clauses : goal.assert_at-requires-clause-clauses
assert_at-requires-clause-clauses c =
    let t = seen c.args.t.now in
    let decls = c.args.decls.now in
    let lists = c.args.lists.now in
    let d = c.in_ok-d.d in
    let l = get_or lists d c.index-lists-d.result in
    let at = stands_there lists d l (place_within decls lists d c.requires.decls c.in_ok-d.ensures.within) (ap (get_or lists d) c.index-lists-d.is) in
    (clauses_there decls lists t d l c.requires.decls c.requires.valid (subst (λ u. place_of decls (name_of u) (arity_of u) ≡ Some d) c.head_of-head.ensures
    c.in_ok-d.ensures.place) at).clauses

pub assert_at-requires-clause-clause : goal.assert_at-requires-clause-clause
assert_at-requires-clause-clause c =
    let t = seen c.args.t.now in
    let decls = c.args.decls.now in
    let lists = c.args.lists.now in
    let d = c.in_ok-d.d in
    let l = get_or lists d c.index-lists-d.result in
    let at = stands_there lists d l (place_within decls lists d c.requires.decls c.in_ok-d.ensures.within) (ap (get_or lists d) c.index-lists-d.is) in
    (clauses_there decls lists t d l c.requires.decls c.requires.valid (subst (λ u. place_of decls (name_of u) (arity_of u) ≡ Some d) c.head_of-head.ensures
    c.in_ok-d.ensures.place) at).clause

pub returns-clause-ok : goal.returns-clause-ok
returns-clause-ok c =
    let t = seen c.args.t.now in
    let decls = c.args.decls.now in
    let lists = c.args.lists.now in
    let d = c.in_ok-d.d in
    let l = get_or lists d c.index-lists-d.result in
    let at = stands_there lists d l (place_within decls lists d c.requires.decls c.in_ok-d.ensures.within) (ap (get_or lists d) c.index-lists-d.is) in
    λ cursors w. first_carried decls lists d l c.assert_at.new.list c.args.changes c.in_ok-outcome.outcome t
    (subst (λ u. place_of decls (name_of u) (arity_of u) ≡ Some d) c.head_of-head.ensures c.in_ok-d.ensures.place) at c.in_ok-outcome.ensures.ok cursors
    w

pub returns-in_err-outcome-clause-err : goal.returns-in_err-outcome-clause-err
returns-in_err-outcome-clause-err c =
    let t = seen c.args.t.now in
    let decls = c.args.decls.now in
    let lists = c.args.lists.now in
    let d = c.in_ok-d.d in
    let l = get_or lists d c.index-lists-d.result in
    let at = stands_there lists d l (place_within decls lists d c.requires.decls c.in_ok-d.ensures.within) (ap (get_or lists d) c.index-lists-d.is) in
    on_err c.from_residual-in_err-outcome.result (ap (slice_set lists d) c.in_err-outcome.ensures.err ∙ put_back lists d l at)
