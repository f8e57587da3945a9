use Rattle.std.proofs.Common.{◌≡◌, ◌++◌, ◌∷◌, [], sym, ap, ◌∙◌, rules, refl}
use Rattle.std.proofs.lemmas.List.{nil_from_length}
use Rattle.std.specs.Vec.Iter.{into_iter_items}
use Rattle.ml_term.specs.Seen.{all_seen}
use Rattle.ml_loading.specs.Lists.{trees}
use Rattle.ml_loading.proofs.ListsPut.{one_more, no_more}
use Rattle.ml_loading.proofs.loading.terms_of.Goals as goal

pub loop-valid-preserved : goal.loop-valid-preserved
loop-valid-preserved c =
    let v = c.in-Some.valid in
    let list = c.loop-valid.list.items in
    let becomes : c.push.new.self.items ≡ list ++ v.term ∷ [] = search rules in
    one_more list c.push.new.self.items v.term v (into_iter_items c.next.new.self) c.args.terms.items becomes refl
    (ap (λ ls. all_seen list ++ trees ls) (sym c.in-Some.ensures.steps.0) ∙ c.loop-valid.invariant)

pub returns : goal.returns
returns c =
    let it = c.loop-valid.valid-iterator in
    let empty = nil_from_length it.rest.items (sym it.rest.ok.0 ∙ c.in-None.ensures.steps.0) in
    ap all_seen c.from_vec.ensures ∙ no_more c.loop-valid.list.items (into_iter_items it) c.args.terms.items empty c.loop-valid.invariant
