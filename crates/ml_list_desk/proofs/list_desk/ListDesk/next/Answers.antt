use Rattle.std.proofs.Common.{◌≡◌, List, ◌∷◌, [], ◌++◌, true, map, ap, subst, sym, ◌∙◌}
use Rattle.ml_list_desk.specs.inside.ItemList.{ItemList}
use Rattle.ml_list_desk.specs.inside.ListDesks.{IsListDesk}
use Rattle.ml_list_desk.specs.inside.Standing.{cursor_of, decls_of}
use Rattle.ml_list_desk.specs.declared.list_cursor.ListCursor.{ListCursor}
use Rattle.ml_list_desk.proofs.Asked.{given_more}
use Rattle.ml_search.specs.Operations as O
use Rattle.ml_search.specs.Operations.{is_reply_after}
use Rattle.ml_search.specs.Replay.{item_reply, member}
use Rattle.ml_search.specs.Seen.{log_seen, reply_seen}
use Rattle.ml_search.specs.declared.operation.Op.TheVariants.{Next}
use Rattle.ml_search.specs.declared.operation.Reply as R
use Rattle.ml_list_desk.proofs.list_desk.ListDesk.next.Goals as goal

pub invariant_of-self-2-clause-kept : goal.invariant_of-self-2-clause-kept
invariant_of-self-2-clause-kept c =
    let self = c.args.self.now in
    let lists = self.lists.items in
    let cursors = self.cursors.items in
    let log = self.log.items in
    let o = Next c.args.c c.args.i in
    let r = c.in_ok-reply.reply in
    let told : reply_seen r ≡ item_reply (member (map (cursor_of lists) cursors) c.args.c c.args.i) =
    c.in_ok-reply.ensures.same
    ∙ ap (λ (ls : List ItemList). item_reply (member (map (cursor_of ls) c.as_slice-2.result.now) c.args.c c.args.i)) c.as_slice.ensures.value
    ∙ ap (λ (cs : List ListCursor). item_reply (member (map (cursor_of lists) cs) c.args.c c.args.i)) c.as_slice-2.ensures.value in
    let opened = self.kept.opened ∙ ap (λ (cs : List ListCursor). map (λ (k : ListCursor). k.list) cs) (sym c.as_slice-2.ensures.value) in
    let kind : is_reply_after self.decls (log_seen log) (O.next c.args.c c.args.i) (reply_seen r) ≡ true =
    subst (λ ds. is_reply_after ds (log_seen log) (O.next c.args.c c.args.i) (reply_seen r) ≡ true) (ap decls_of c.as_slice.ensures.value ∙ self.kept.decls_are)
    (c.in_ok-reply.ensures.kind (log_seen log) opened) in
    let new_log =
    c.push_reserved.ensures.items
    ∙ ap (λ es. es ++ (o, c.in_ok-copy.copy) ∷ []) c.reserve.ensures.items
    ∙ ap (λ (x : R.Reply). log ++ (o, x) ∷ []) c.in_ok-copy.ensures in
    subst (λ es. IsListDesk self.decls lists cursors self.changes es self.first.value.items) (sym new_log)
    (given_more self.decls lists cursors self.changes log self.first.value.items c.args.c c.args.i r self.kept c.requires told kind)
