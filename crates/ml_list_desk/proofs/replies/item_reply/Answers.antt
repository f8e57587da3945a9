use Rattle.std.proofs.Common.{◌≡◌, true, subst, sym, ap, ◌∙◌}
use Rattle.std.specs.Prelude.{Some, slice_get}
use Rattle.ml_list_desk.specs.inside.Standing.{decls_of}
use Rattle.ml_list_desk.specs.declared.list_item.ListItem.{ListItem}
use Rattle.ml_list_desk.proofs.Declared.{stands_there}
use Rattle.ml_list_desk.proofs.ItemsGiven.{given, kind_of_item}
use Rattle.ml_search.specs.Operations.{is_reply_after, item, next}
use Rattle.ml_search.specs.Replay.{item_reply}
use Rattle.ml_term.specs.Seen.{seen}
use Rattle.ml_term.specs.declared.term.Term.{Term}
use Rattle.ml_list_desk.proofs.replies.item_reply.Goals as goal

pub item-requires : goal.item-requires
item-requires c =
    let k = c.in-Some.cursor.now in
    let n = c.in-Some-get.number.now in
    let here = stands_there c.args.cursors.now c.args.c k c.in-Some.ensures.lookup.3.0 c.in-Some.ensures.lookup.1 in
    let number =
    subst (λ ns. slice_get ns c.args.i ≡ Some n) c.as_slice.ensures.value
    (stands_there c.as_slice.result.now c.args.i n c.in-Some-get.ensures.lookup.3.0 c.in-Some-get.ensures.lookup.1) in
    (given c.args.lists.now c.args.cursors.now c.args.c c.args.i n k c.index-lists-cursor.result c.requires here number c.index-lists-cursor.is).within

pub returns-clause-same : goal.returns-clause-same
returns-clause-same c =
    let k = c.in-Some.cursor.now in
    let n = c.in-Some-get.number.now in
    let here = stands_there c.args.cursors.now c.args.c k c.in-Some.ensures.lookup.3.0 c.in-Some.ensures.lookup.1 in
    let number =
    subst (λ ns. slice_get ns c.args.i ≡ Some n) c.as_slice.ensures.value
    (stands_there c.as_slice.result.now c.args.i n c.in-Some-get.ensures.lookup.3.0 c.in-Some-get.ensures.lookup.1) in
    let g = given c.args.lists.now c.args.cursors.now c.args.c c.args.i n k c.index-lists-cursor.result c.requires here number c.index-lists-cursor.is in
    ap (λ (t : Term). item (seen t)) (c.in_ok-copy_of.ensures ∙ ap (λ (i : ListItem). i.term) c.item.ensures.same) ∙ sym (ap item_reply g.member_is)

pub returns-clause-kind : goal.returns-clause-kind
returns-clause-kind c =
    let k = c.in-Some.cursor.now in
    let n = c.in-Some-get.number.now in
    let here = stands_there c.args.cursors.now c.args.c k c.in-Some.ensures.lookup.3.0 c.in-Some.ensures.lookup.1 in
    let number =
    subst (λ ns. slice_get ns c.args.i ≡ Some n) c.as_slice.ensures.value
    (stands_there c.as_slice.result.now c.args.i n c.in-Some-get.ensures.lookup.3.0 c.in-Some-get.ensures.lookup.1) in
    let g = given c.args.lists.now c.args.cursors.now c.args.c c.args.i n k c.index-lists-cursor.result c.requires here number c.index-lists-cursor.is in
    λ log o.
    subst (λ (t : Term). is_reply_after (decls_of c.args.lists.now) log (next c.args.c c.args.i) (item (seen t)) ≡ true) (sym c.in_ok-copy_of.ensures)
    (kind_of_item c.args.lists.now c.args.cursors.now c.args.c c.args.i k c.index-lists-cursor.result (seen c.item.result.now.term) log o here g.at
    c.item.ensures.allowed)
