use Rattle.std.proofs.Common.{◌≡◌, ◌∷◌, ◌++◌, [], Some, length, drop, map, sym, ap, ◌∙◌, subst, rules}
use Rattle.std.proofs.lemmas.List.{nil_from_length}
use Rattle.std.specs.Prelude.{slice_get}
use Rattle.std.specs.Vec.Iter.{into_iter_items}
use Rattle.ml_term.specs.Seen.{all_seen}
use Rattle.ml_loading.specs.Items.{AreSized, in_order}
use Rattle.ml_loading.specs.Lists.{trees, all_trees}
use Rattle.ml_loading.proofs.ListsPut.{first_sized, some_left, ordered_more, sized_more, all_ordered}
use Rattle.ml_loading.proofs.loading.put_in_order.Goals as goal

pub first_list-sorted-requires : goal.first_list-sorted-requires
first_list-sorted-requires c =
    let ds = c.args.decls.now in
    let n = length c.loop-terms.ordered.items in
    let ts = trees c.in-Some.terms.items in
    let rest = all_trees (into_iter_items c.next.new.self) in
    let here : AreSized (drop n ds) (ts ∷ rest) = subst (λ ls. AreSized (drop n ds) (all_trees ls)) c.in-Some.ensures.steps.0 c.loop-terms.invariant.sized in
    let len : c.len.result ≡ n = search rules in
    let at : slice_get ds n ≡ Some c.at.result.now = subst (λ k. slice_get ds k ≡ Some c.at.result.now) len c.at.ensures in
    (first_sized ds n c.at.result.now ts rest (some_left ds n ts rest here) at here).0

pub loop-terms-preserved : goal.loop-terms-preserved
loop-terms-preserved c =
    let ds = c.args.decls.now in
    let sorted = c.loop-terms.ordered.items in
    let n = length sorted in
    let ts = trees c.in-Some.terms.items in
    let rest = all_trees (into_iter_items c.next.new.self) in
    let list = c.in_ok-list.list in
    let here : AreSized (drop n ds) (ts ∷ rest) = subst (λ ls. AreSized (drop n ds) (all_trees ls)) c.in-Some.ensures.steps.0 c.loop-terms.invariant.sized in
    let len : c.len.result ≡ n = search rules in
    let at : slice_get ds n ≡ Some c.at.result.now = subst (λ k. slice_get ds k ≡ Some c.at.result.now) len c.at.ensures in
    let within = some_left ds n ts rest here in
    let becomes : c.push.new.self.items ≡ sorted ++ list ∷ [] = search rules in
    record {
      ordered =
          ordered_more ds sorted c.push.new.self.items list c.at.result.now ts rest _ within at (c.in_ok-list.ensures ∙ c.first_list-sorted.ensures) becomes
          (ap (λ ls. map all_seen sorted ++ in_order (drop n ds) (all_trees ls)) (sym c.in-Some.ensures.steps.0) ∙ c.loop-terms.invariant.ordered);
      sized = sized_more ds sorted c.push.new.self.items list rest becomes (first_sized ds n c.at.result.now ts rest within at here).1;
    }

pub returns : goal.returns
returns c =
    let it = c.loop-terms.terms-iterator in
    let empty = nil_from_length it.rest.items (sym it.rest.ok.0 ∙ c.in-None.ensures.steps.0) in
    all_ordered c.args.decls.now c.loop-terms.ordered.items (all_trees (into_iter_items it)) _ (ap all_trees empty) c.loop-terms.invariant.ordered
