use Rattle.std.proofs.Common.{◌≡◌, get_or, ap, subst}
use Rattle.std.specs.Prelude.{Some, slice_get}
use Rattle.ml_list_desk.proofs.Declared.{stands_there}
use Rattle.ml_list_desk.proofs.Deleting.{given_deleted}
use Rattle.ml_list_desk.proofs.ItemsGiven.{given}
use Rattle.ml_list_desk.proofs.operations.delete_given.Goals as goal

pub delete_numbered-requires : goal.delete_numbered-requires
delete_numbered-requires c =
    let lists = c.args.lists.now in
    let k = c.in-Some.cursor.now in
    let n = c.in-Some-get.number.now in
    let l = get_or lists k.list c.index-lists-cursor.result in
    let here = stands_there c.args.cursors.now c.args.c k c.in-Some.ensures.lookup.3.0 c.in-Some.ensures.lookup.1 in
    let number =
    subst (λ ns. slice_get ns c.args.i ≡ Some n) c.as_slice.ensures.value
    (stands_there c.as_slice.result.now c.args.i n c.in-Some-get.ensures.lookup.3.0 c.in-Some-get.ensures.lookup.1) in
    (given lists c.args.cursors.now c.args.c c.args.i n k l c.requires.cursors here number (ap (get_or lists k.list) c.index-lists-cursor.is)).within

pub returns : goal.returns
returns c =
    let lists = c.args.lists.now in
    let k = c.in-Some.cursor.now in
    let n = c.in-Some-get.number.now in
    let l = get_or lists k.list c.index-lists-cursor.result in
    let here = stands_there c.args.cursors.now c.args.c k c.in-Some.ensures.lookup.3.0 c.in-Some.ensures.lookup.1 in
    let number =
    subst (λ ns. slice_get ns c.args.i ≡ Some n) c.as_slice.ensures.value
    (stands_there c.as_slice.result.now c.args.i n c.in-Some-get.ensures.lookup.3.0 c.in-Some-get.ensures.lookup.1) in
    let g = given lists c.args.cursors.now c.args.c c.args.i n k l c.requires.cursors here number (ap (get_or lists k.list) c.index-lists-cursor.is) in
    λ decls.
    given_deleted decls lists c.args.cursors.now c.args.changes c.args.c c.args.i n k l c.delete_numbered.new.list c.delete_numbered.result here g
    c.requires.cursors c.delete_numbered.ensures
