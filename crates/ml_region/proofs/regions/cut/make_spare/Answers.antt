use Rattle.std.proofs.Common.{◌≡◌, ℕ, ◌+◌, List, [], ◌∷◌, ◌++◌, length, sym, ap, ◌∙◌, subst, arith, length-append}
use Rattle.ml_region.specs.inside.Stored.{AreShared}
use Rattle.ml_region.specs.declared.item.Item.{Item}
use Rattle.ml_region.proofs.CutSteps.{none_from_test, spare_shared}
use Rattle.ml_region.proofs.regions.cut.make_spare.Goals as goal

pub returns-clause-shared : goal.returns-clause-shared
returns-clause-shared c =
    let pages : List (List Item) = c.args.pages.now.items in
    let free : List ℕ = c.args.free.now.items in
    let none : length free ≡ 0 = omega (
      arith,
      none_from_test c.is_empty.result c.args.free.now.len c.is_empty.ensures c.if-not-is_empty.false,
      c.args.free.now.ok.0,
    ) in
    let slot : c.len-slot.result ≡ length pages = omega (arith, c.len-slot.ensures, c.args.pages.now.ok.0) in
    let spare : c.push_reserved.new.self.items ≡ free ++ length pages ∷ [] =
    c.push_reserved.ensures.items ∙ ap (λ xs. xs ++ c.len-slot.result ∷ []) c.in_ok-reserve.ensures.items ∙ ap (λ n. free ++ n ∷ []) slot in
    let more : length c.push.new.self.items ≡ length pages + 1 = ap length c.in_ok-push.ensures.items ∙ length-append pages (c.in_ok-page.page ∷ []) in
    λ entries s. subst (λ n. AreShared entries c.push_reserved.new.self.items n) (sym more)
    (subst (λ f. AreShared entries f (length pages + 1)) (sym spare) (spare_shared entries free (length pages) none s))
