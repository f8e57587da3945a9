-- The items that were tested may stand in the lists of their declarations.
use Rattle.std.proofs.Common.{◌≡◌, ℕ, true, List, [], ◌∷◌, ◌++◌, ◌+◌, take, Some, refl, sym, ap, ◌∙◌, subst}
use Rattle.std.specs.Prelude.{slice_get}
use Rattle.std.proofs.lemmas.Bool.{and_from, and_parts}
use Rattle.std.proofs.lemmas.List.{take_all, take_more}
use Rattle.ml_search.specs.Db.{is_allowed}
use Rattle.ml_search.specs.Program.{holds_of}
use Rattle.ml_term.specs.Seen.{seen}
use Rattle.ml_term.specs.declared.declaration.Decl.{Decl}
use Rattle.ml_term.specs.declared.term.Term.{Term}
use Rattle.ml_search.specs.ItemsSeen.{items_seen}
use Rattle.ml_search.specs.Loading.{are_items}
use Rattle.ml_file_rows.proofs.stores.are_items.Goals as goal

one_item_more : (ds : List Decl) (es : List (ℕ × Term)) (e : ℕ × Term) → are_items ds (items_seen es) ≡ true →
    holds_of (λ d. is_allowed d (seen e.1)) (slice_get ds e.0) ≡ true
    → are_items ds (items_seen (es ++ e ∷ [])) ≡ true
one_item_more ds [] e h here = and_from (holds_of (λ d. is_allowed d (seen e.1)) (slice_get ds e.0)) true here refl
one_item_more ds (x ∷ es) e h here =
    let parts = and_parts (holds_of (λ d. is_allowed d (seen x.1)) (slice_get ds x.0)) (are_items ds (items_seen es)) h in
    and_from (holds_of (λ d. is_allowed d (seen x.1)) (slice_get ds x.0)) (are_items ds (items_seen (es ++ e ∷ []))) parts.0
    (one_item_more ds es e parts.1 here)

pub loop-place-preserved : goal.loop-place-preserved
loop-place-preserved c =
    let ds : List Decl = c.args.decls.now in
    let items : List (ℕ × Term) = c.args.items.now in
    let i : ℕ = c.loop-place.place-index in
    let e : ℕ × Term = c.loop-place-item.result in
    let more : take (i + 1) items ≡ take i items ++ e ∷ [] =
    take_more items i e c.loop-place-test.true ∙ ap (λ x. take i items ++ x ∷ []) (sym c.loop-place-item.is) in
    let at : slice_get ds e.0 ≡ Some c.at.result.now = c.at.ensures in
    let allowed : is_allowed c.at.result.now (seen e.1) ≡ true = c.in_ok-may_have.ensures c.if-not-branch.false in
    let here : holds_of (λ d. is_allowed d (seen e.1)) (slice_get ds e.0) ≡ true = ap (holds_of (λ d. is_allowed d (seen e.1))) at ∙ allowed in
    subst (λ es. are_items ds (items_seen es) ≡ true) (sym more) (one_item_more ds (take i items) e c.loop-place.invariant here)

pub returns : goal.returns
returns c _ =
    subst (λ es. are_items c.args.decls.now (items_seen es) ≡ true)
    (take_all c.loop-place.place-index c.args.items.now c.loop-place-test.false) c.loop-place.invariant
