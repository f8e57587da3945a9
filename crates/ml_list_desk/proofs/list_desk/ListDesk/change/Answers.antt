use Rattle.std.proofs.Common.{◌≡◌, ◌+◌, List, ◌∷◌, [], ◌++◌, true, drop, length, ap, subst, sym, ◌∙◌}
use Rattle.ml_list_desk.specs.inside.ItemList.{ItemList}
use Rattle.ml_list_desk.specs.inside.ListDesks.{IsCarriedOut, IsListDesk}
use Rattle.ml_list_desk.specs.inside.Outcomes.{count_of}
use Rattle.ml_list_desk.specs.declared.list_cursor.ListCursor.{ListCursor}
use Rattle.ml_list_desk.proofs.Asked.{changed_more}
use Rattle.ml_list_desk.proofs.OneList.{all_written}
use Rattle.ml_search.specs.Operations.{is_reply_after}
use Rattle.ml_search.specs.Seen.{log_seen, operation_seen, reply_seen}
use Rattle.ml_search.specs.declared.operation.Op.{Op}
use Rattle.ml_search.specs.declared.operation.Reply as R
use Rattle.ml_list_desk.proofs.list_desk.ListDesk.change.Goals as goal

pub invariant_of-self-2-clause-kept : goal.invariant_of-self-2-clause-kept
invariant_of-self-2-clause-kept c =
    let self = c.args.self.now in
    let lists = self.lists.items in
    let cursors = self.cursors.items in
    let log = self.log.items in
    let first = self.first.value.items in
    let op = c.args.op.now in
    let outcome = c.in_ok-outcome.outcome in
    let new = c.change.new.lists in
    let carried =
    subst (λ (ls : List ItemList). IsCarriedOut self.decls (operation_seen op) ls new cursors self.changes outcome) c.as_mut_slice.ensures.value
    (subst (λ (cs : List ListCursor). IsCarriedOut self.decls (operation_seen op) c.as_mut_slice.result.now new cs self.changes outcome)
    c.as_slice.ensures.value c.in_ok-outcome.ensures.ok) in
    let answered = changed_more self.decls lists cursors self.changes log first op outcome new self.kept c.requires.valid c.requires.change carried in
    let written = all_written new (drop (length new) lists) self.lists.len (sym (c.change.auto.lists ∙ c.as_mut_slice.ensures.len)) in
    let new_log =
    c.push_reserved.ensures.items
    ∙ ap (λ es. es ++ (c.in_ok-entry.entry, c.reply.result) ∷ []) c.reserve.ensures.items
    ∙ ap (λ (o : Op). log ++ (o, c.reply.result) ∷ []) c.in_ok-entry.ensures
    ∙ ap (λ (r : R.Reply). log ++ (op, r) ∷ []) c.reply.ensures in
    subst (λ (ls : List ItemList). IsListDesk self.decls ls cursors (self.changes + c.count.result) c.push_reserved.new.self.items first) (sym written)
    (subst (λ n. IsListDesk self.decls new cursors (self.changes + n) c.push_reserved.new.self.items first) (sym c.count.ensures)
    (subst (λ es. IsListDesk self.decls new cursors (self.changes + count_of outcome) es first) (sym new_log) answered.kept))

pub returns-clause-kind : goal.returns-clause-kind
returns-clause-kind c =
    let self = c.args.self.now in
    let lists = self.lists.items in
    let cursors = self.cursors.items in
    let log = self.log.items in
    let op = c.args.op.now in
    let outcome = c.in_ok-outcome.outcome in
    let new = c.change.new.lists in
    let carried =
    subst (λ (ls : List ItemList). IsCarriedOut self.decls (operation_seen op) ls new cursors self.changes outcome) c.as_mut_slice.ensures.value
    (subst (λ (cs : List ListCursor). IsCarriedOut self.decls (operation_seen op) c.as_mut_slice.result.now new cs self.changes outcome)
    c.as_slice.ensures.value c.in_ok-outcome.ensures.ok) in
    let answered =
    changed_more self.decls lists cursors self.changes log self.first.value.items op outcome new self.kept c.requires.valid c.requires.change carried in
    subst (λ (r : R.Reply). is_reply_after self.decls (log_seen log) (operation_seen op) (reply_seen r) ≡ true) (sym c.reply-2.ensures) answered.kind
