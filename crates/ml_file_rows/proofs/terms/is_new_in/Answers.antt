-- One item more was looked at.
use Rattle.std.proofs.Common.{◌≡◌, inl, inr, ℕ, ◌+◌, ◌<◌, List, length, get_or, sym, ◌∙◌, subst, arith}
use Rattle.std.specs.Prelude.{◌≢◌}
use Rattle.std.proofs.lemmas.Bool.{cases_eq}
use Rattle.std.proofs.lemmas.List.{get_or_default}
use Rattle.ml_region.specs.Regions.{items_at}
use Rattle.ml_region.specs.declared.item.Item.{Item}
use Rattle.ml_file_rows.proofs.terms.is_new_in.Goals as goal

one_more : (xs : List Item) (n j : ℕ) (x : Item) → j < length xs → x ≡ get_or xs j x → x.number ≢ n → ((k : ℕ) (d : Item) → k < j → (get_or xs k d).number ≢ n)
    → (k : ℕ) (d : Item) → k < j + 1 → (get_or xs k d).number ≢ n
one_more xs n j x l is differs before k d h =
    elim (cases_eq k j) [
      | inl e ↦ subst (λ i. (get_or xs i d).number ≢ n) (sym e) (subst (λ (y : Item). y.number ≢ n) (is ∙ get_or_default xs j x d l) differs)
      | inr q ↦ before k d (omega (arith, h, q))
    ]

pub loop-j-preserved : goal.loop-j-preserved
loop-j-preserved c =
    one_more (items_at c.args.file.now.regions c.args.i) c.args.number c.loop-j.j c.item.result.now
    (omega (arith, c.count-j-end.ensures, c.loop-j-test.true)) c.item.ensures
    c.if-item-number.false c.loop-j.invariant
