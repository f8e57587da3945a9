use Rattle.std.proofs.Common.{◌≡◌, ◌∷◌, true, sym, subst, arith}
use Rattle.std.specs.Vec.Iter.{into_iter_items}
use Rattle.ml_search.specs.Db.{is_allowed}
use Rattle.ml_search.specs.Loading.{terms_for}
use Rattle.ml_term.specs.Seen.{seen}
use Rattle.ml_file.specs.Files.{File}
use Rattle.ml_file.specs.Stores.{HasTaken}
use Rattle.ml_search.specs.ItemsSeen.{items_seen}
use Rattle.ml_file.proofs.StoreFilling.{HasDecl, IsUnderway, decl_next, file_at, nothing_taken, underway_first, underway_more}
use Rattle.ml_file.proofs.FileLoads.{fresh_number}
use Rattle.ml_file.proofs.store.fill_files.Goals as goal

pub loop-place-init : goal.loop-place-init
loop-place-init c =
    underway_first c.args.decls.now c.args.items.items (into_iter_items c.into_iter-place-iterator.result) c.in_ok-files.files.items
    c.into_iter-place-iterator.ensures.into_iter_gives.0
    (nothing_taken c.args.decls.now c.in_ok-files.files.items c.in_ok-files.ensures)

pub index_mut-requires : goal.index_mut-requires
index_mut-requires c =
    let left = into_iter_items c.next.new.self in
    let way : IsUnderway c.args.decls.now c.args.items.items ((c.in-Some.place, c.in-Some.term) ∷ left) c.loop-place.files.items =
    subst (λ es. IsUnderway c.args.decls.now c.args.items.items es c.loop-place.files.items) c.in-Some.ensures.steps.0 c.loop-place.invariant in
    let its : HasDecl c.args.decls.now c.in-Some.place (seen c.in-Some.term) =
    decl_next c.args.decls.now c.args.items.items left c.loop-place.files.items c.in-Some.place c.in-Some.term way c.requires.items in
    omega (arith, its.within, way.taken.count)

pub load-requires-clause-allowed : goal.load-requires-clause-allowed
load-requires-clause-allowed c =
    let files = c.loop-place.files.items in
    let f : File = c.index_mut.result.now in
    let left = into_iter_items c.next.new.self in
    let way : IsUnderway c.args.decls.now c.args.items.items ((c.in-Some.place, c.in-Some.term) ∷ left) files =
    subst (λ es. IsUnderway c.args.decls.now c.args.items.items es files) c.in-Some.ensures.steps.0 c.loop-place.invariant in
    let its : HasDecl c.args.decls.now c.in-Some.place (seen c.in-Some.term) =
    decl_next c.args.decls.now c.args.items.items left files c.in-Some.place c.in-Some.term way c.requires.items in
    let at = file_at files c.in-Some.place f (omega (arith, its.within, way.taken.count)) c.index_mut.ensures.value in
    let taken : HasTaken its.decl (terms_for c.in-Some.place (items_seen way.before)) f = way.taken.each c.in-Some.place its.decl f its.at at in
    subst (λ d. is_allowed d (seen c.in-Some.term) ≡ true) (sym taken.declared) its.allowed

pub load-requires-clause-fresh : goal.load-requires-clause-fresh
load-requires-clause-fresh c clauses =
    let files = c.loop-place.files.items in
    let f : File = c.index_mut.result.now in
    let left = into_iter_items c.next.new.self in
    let way : IsUnderway c.args.decls.now c.args.items.items ((c.in-Some.place, c.in-Some.term) ∷ left) files =
    subst (λ es. IsUnderway c.args.decls.now c.args.items.items es files) c.in-Some.ensures.steps.0 c.loop-place.invariant in
    let its : HasDecl c.args.decls.now c.in-Some.place (seen c.in-Some.term) =
    decl_next c.args.decls.now c.args.items.items left files c.in-Some.place c.in-Some.term way c.requires.items in
    let at = file_at files c.in-Some.place f (omega (arith, its.within, way.taken.count)) c.index_mut.ensures.value in
    let taken : HasTaken its.decl (terms_for c.in-Some.place (items_seen way.before)) f = way.taken.each c.in-Some.place its.decl f its.at at in
    fresh_number its.decl (terms_for c.in-Some.place (items_seen way.before)) f taken

pub loop-place-preserved : goal.loop-place-preserved
loop-place-preserved c =
    let files = c.loop-place.files.items in
    let f : File = c.index_mut.result.now in
    let left = into_iter_items c.next.new.self in
    let way : IsUnderway c.args.decls.now c.args.items.items ((c.in-Some.place, c.in-Some.term) ∷ left) files =
    subst (λ es. IsUnderway c.args.decls.now c.args.items.items es files) c.in-Some.ensures.steps.0 c.loop-place.invariant in
    let its : HasDecl c.args.decls.now c.in-Some.place (seen c.in-Some.term) =
    decl_next c.args.decls.now c.args.items.items left files c.in-Some.place c.in-Some.term way c.requires.items in
    let at = file_at files c.in-Some.place f (omega (arith, its.within, way.taken.count)) c.index_mut.ensures.value in
    underway_more c.args.decls.now c.args.items.items left files c.in-Some.place c.in-Some.term f c.load.new.file c.in_ok-load.ensures.inserted.0 way
    c.requires.few at
    c.in_ok-load.ensures.inserted.1 c.in_ok-load.ensures.decl
