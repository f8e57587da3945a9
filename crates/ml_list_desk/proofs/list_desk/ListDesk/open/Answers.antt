use Rattle.std.proofs.Common.{◌≡◌, ◌∷◌, [], ◌++◌, length, ap, subst, sym, ◌∙◌, refl, arith}
use Rattle.ml_list_desk.specs.inside.ListDesks.{IsListDesk}
use Rattle.ml_list_desk.specs.declared.list_cursor.ListCursor.{ListCursor}
use Rattle.ml_list_desk.proofs.Asked.{opened_more}
use Rattle.ml_list_desk.proofs.Declared.{place_within, stands_there}
use Rattle.ml_list_desk.proofs.Opening.{opening}
use Rattle.ml_search.specs.Seen.{log_seen}
use Rattle.ml_search.specs.declared.operation.Op.TheVariants.{Open}
use Rattle.ml_search.specs.declared.operation.Reply.TheVariants.{Cursor}
use Rattle.ml_term.specs.Seen.{seen}
use Rattle.ml_term.specs.declared.term.Term.{Term}
use Rattle.ml_list_desk.proofs.list_desk.ListDesk.open.Goals as goal

pub invariant_of-self-2-clause-kept : goal.invariant_of-self-2-clause-kept
invariant_of-self-2-clause-kept c =
    let self = c.args.self.now in
    let lists = self.lists.items in
    let cursors = self.cursors.items in
    let d = c.args.d in
    let p = c.args.pattern.now in
    let l = c.index-list.result.now in
    let k : ListCursor = record { list = d; members = c.in_ok-members.members } in
    let valid = opening self.decls (log_seen self.log.items) d (seen p) c.requires in
    let at = stands_there lists d l (place_within self.decls lists d self.kept.decls_are valid.within) c.index-list.ensures in
    let count : c.len-count.result ≡ length cursors = omega (arith, c.len-count.ensures, self.cursors.ok.0) in
    let answered =
    opened_more self.decls lists cursors self.changes self.log.items self.first.value.items d p l k c.len-count.result self.kept c.requires at refl
    c.in_ok-members.ensures.members c.in_ok-members.ensures.within count in
    let new_cursors = c.in_ok-push.ensures.items in
    let new_log = c.push_reserved.ensures.items ∙ ap (λ es. es ++ (Open d c.in_ok-copy_of.field-0, Cursor c.len-count.result) ∷ []) c.reserve.ensures.items
    ∙ ap (λ (t : Term). self.log.items ++ (Open d t, Cursor c.len-count.result) ∷ []) c.in_ok-copy_of.ensures in
    subst (λ cs. IsListDesk self.decls lists cs self.changes c.push_reserved.new.self.items self.first.value.items) (sym new_cursors)
    (subst (λ es. IsListDesk self.decls lists (cursors ++ k ∷ []) self.changes es self.first.value.items) (sym new_log) answered.kept)
