use Rattle.std.proofs.Common.{◌≡◌, [], length, replicate, sym, ap, ◌∙◌, subst, arith}
use Rattle.std.proofs.lemmas.List.{nil_from_length}
use Rattle.std.specs.Vec.Iter.{into_iter_items}
use Rattle.ml_search.specs.ItemsSeen.{items_seen}
use Rattle.ml_loading.specs.Lists.{all_trees}
use Rattle.ml_loading.proofs.Gathering.{AllItems, filled, all_items, all_gathered, within}
use Rattle.ml_loading.proofs.ListsPut.{as_many}
use Rattle.ml_term.specs.Seen.{seen}
use Rattle.ml_loading.proofs.loading.sorted_out.Goals as goal

pub loop-place-init : goal.loop-place-init
loop-place-init c =
    let ds = c.args.decls.now in
    let items = items_seen c.args.items.items in
    let rest : items_seen (into_iter_items c.into_iter-place-iterator.result) ≡ items = ap items_seen c.into_iter-place-iterator.ensures.into_iter_gives.0 in
    let lists : all_trees c.in_ok-lists.lists.items ≡ replicate (length ds) [] = c.in_ok-lists.ensures ∙ ap (λ n. replicate n []) c.len.ensures.same in
    record {
      filled = ap (λ es. filled (all_trees c.in_ok-lists.lists.items) es) rest ∙ ap (λ ls. filled ls items) lists;
      items = subst (AllItems ds) (sym rest) (all_items ds items c.requires);
      size = as_many c.in_ok-lists.lists.items (length ds) lists;
    }

pub put-requires : goal.put-requires
put-requires c =
    let ds = c.args.decls.now in
    let here = subst (λ es. AllItems ds (items_seen es)) c.in-Some.ensures.steps.0 c.loop-place.invariant.items in
    let low = within ds c.in-Some.place (seen c.in-Some.term) here.0 in
    omega (arith, low, c.loop-place.invariant.size, ap length c.deref_mut.ensures.value)

pub returns : goal.returns
returns c =
    let it = c.loop-place.place-iterator in
    let empty = nil_from_length it.rest.items (sym it.rest.ok.0 ∙ c.in-None.ensures.steps.0) in
    let items = items_seen c.args.items.items in
    sym (ap (λ es. filled (all_trees c.loop-place.lists.items) (items_seen es)) empty) ∙ c.loop-place.invariant.filled ∙ all_gathered c.args.decls.now items
