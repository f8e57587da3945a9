use Rattle.std.proofs.Common.{◌≡◌, List, [], ◌∷◌, map, refl, ap, ◌∙◌}
use Rattle.std.specs.Borrow.{Bor}
use Rattle.std.proofs.lemmas.List.{take_all}
use Rattle.ml_file.specs.Hits.{borrowed_items}
use Rattle.ml_region.specs.declared.item.Item.{Item}
use Rattle.ml_file.proofs.file.BangFile.matches.Goals as goal

-- the terms behind references are those of the items behind them
terms_read : (refs : List (Bor Item)) → map (λ (r : Bor Item). r.now.term) refs ≡ map (λ (x : Item). x.term) (borrowed_items refs)
terms_read [] = refl
terms_read (r ∷ refs) = ap (λ ts. r.now.term ∷ ts) (terms_read refs)

pub returns : goal.returns
returns c = (
  borrowed_items c.in_ok-hits.hits.items,
  (
    c.in_ok-hits.ensures,
    c.loop-item.invariant
        ∙ ap (map (λ (r : Bor Item). r.now.term)) (take_all c.loop-item.item-index c.deref-item-items.result.now c.loop-item-test.false
        ∙ c.deref-item-items.ensures.value)
        ∙ terms_read c.in_ok-hits.hits.items,
  ),
)
