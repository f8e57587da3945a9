use Rattle.std.proofs.Common.{◌≡◌, ◌<◌, ◌≤◌, ◌++◌, List, length, get_or, take, drop, sym, ap, ◌∙◌, subst, arith}
use Rattle.std.proofs.lemmas.List.{take-append-le, take_all}
use Rattle.std.proofs.lemmas.Option.{slice_get-get_or}
use Rattle.ml_file.specs.Files.{File}
use Rattle.ml_file.specs.Stores.{IsLoaded}
use Rattle.ml_search.specs.ItemsSeen.{items_seen}
use Rattle.ml_file.proofs.StoreFilling.{all_loaded, settled_more}
use Rattle.ml_file.proofs.store.Store.from_items.Goals as goal

pub loop-file-preserved : goal.loop-file-preserved
loop-file-preserved c =
    let files : List File = c.loop-file.file-items in
    let i = c.loop-file.file-index in
    let f : File = get_or files i c.file-item.result in
    let inside : i < length files = omega (
      arith,
      c.loop-file-test.true,
      c.loop-file.auto.file-items,
      c.loop-file.auto.file-index-end,
      c.deref_mut-file-items.ensures.len,
    ) in
    settled_more c.args.decls.now (items_seen c.args.items.items) i files f c.settle_all.new.self c.loop-file.invariant
    (slice_get-get_or files i c.file-item.result inside) c.settle_all.ensures.items
    c.settle_all.ensures.settled c.settle_all.ensures.others

pub returns : goal.returns
returns c =
    let files : List File = c.loop-file.file-items in
    let n = c.in_ok-files.files.len in
    let rest = drop (length files) c.in_ok-files.files.items in
    let many : n ≡ length files = omega (
      arith,
      c.loop-file.auto.file-items,
      c.deref_mut-file-items.ensures.len,
      ap length c.deref_mut-file-items.ensures.value,
    ) in
    let short : n ≤ length files = omega (arith, many) in
    let same : take n (files ++ rest) ≡ files = take-append-le n files rest short ∙ take_all n files (omega (arith, many)) in
    subst (IsLoaded c.args.decls.now (items_seen c.args.items.items)) (sym same)
    (all_loaded c.args.decls.now (items_seen c.args.items.items) c.loop-file.file-index files
    (omega (arith, c.loop-file-test.false, c.loop-file.auto.file-items, c.deref_mut-file-items.ensures.len)) c.loop-file.invariant)
