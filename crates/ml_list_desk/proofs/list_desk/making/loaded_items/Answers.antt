use Rattle.std.proofs.Common.{map, sym, ap, ◌∙◌}
use Rattle.std.proofs.lemmas.List.{nil_from_length}
use Rattle.std.specs.Vec.Iter.{into_iter_items}
use Rattle.ml_list_desk.specs.Items.{items_seen}
use Rattle.ml_search.specs.Db.{load_list_from}
use Rattle.ml_term.specs.Seen.{seen}
use Rattle.ml_list_desk.proofs.ListsMade.{all_loaded, loaded_more}
use Rattle.ml_list_desk.proofs.list_desk.making.loaded_items.Goals as goal

pub loop-term-preserved : goal.loop-term-preserved
loop-term-preserved c =
    loaded_more c.loop-term.items.items c.push.new.self.items c.loop-term.change c.in-Some.term (into_iter_items c.loop-term.term-iterator)
    (into_iter_items c.next.new.self)
    (load_list_from 0 (map seen c.args.terms)) c.in_ok-push.ensures.items c.in-Some.ensures.steps.0 c.loop-term.invariant

pub returns : goal.returns
returns c =
    let it = c.loop-term.term-iterator in
    let empty = nil_from_length it.rest.items (sym it.rest.ok.0 ∙ c.in-None.ensures.steps.0) in
    ap items_seen c.from_vec.ensures ∙ all_loaded c.loop-term.items.items c.loop-term.change (into_iter_items it) (load_list_from 0 (map seen c.args.terms))
    empty c.loop-term.invariant
