use Rattle.std.proofs.Common.{◌≡◌, ℕ, ◌<◌, List, [], ◌∷◌, ◌++◌, length, get_or, set, sym, ap, ◌∙◌, subst, arith, length-append}
use Rattle.std.specs.List.{insert}
use Rattle.std.proofs.lemmas.List.{get_or_default, get_or-set_same, get_or-set_other}
use Rattle.ml_region.specs.inside.Moves.{IsPoured}
use Rattle.ml_region.specs.Regions.{keys_of}
use Rattle.ml_region.specs.inside.Stored.{page_at, IsFirstFrom}
use Rattle.ml_region.specs.declared.item.Item.{Item}
use Rattle.ml_region.proofs.MovedItems.{set_own}
use Rattle.ml_region.proofs.PouredItems.{Pouring, pouring_begins, pouring_more, pouring_ends, pour_room, nothing}
use Rattle.ml_region.proofs.moves.pour.Goals as goal

pub each-init : goal.each-init
each-init c =
    pouring_begins c.args.pages.now c.args.from c.args.to c.requires.from c.requires.to c.requires.apart c.requires.rising c.requires.from_rising
    c.requires.different

pub put-requires-clause-few : goal.put-requires-clause-few
put-requires-clause-few c =
    let pages : List (List Item) = c.args.pages.now in
    let now : List (List Item) = c.each.pages in
    let from : ℕ = c.args.from in
    let to : ℕ = c.args.to in
    let long : length now ≡ length pages = c.each.auto.pages in
    let from_in : from < length now = omega (arith, c.requires.from) in
    let to_in : to < length now = omega (arith, c.requires.to) in
    let x : Item = c.in-Some.item in
    let rest : List Item = c.pop.new.self in
    let popped : page_at now from ≡ rest ++ x ∷ [] = sym (get_or_default now from c.index-pages-from.result [] from_in) ∙ c.in-Some.ensures in
    let other : (d : List Item) → get_or (set now from rest) to d ≡ page_at now to = λ d.
    get_or-set_other now from to rest d (λ e. c.requires.apart (sym e)) ∙ get_or_default now to d [] to_in in
    let room : length (page_at now to) < 31 =
    pour_room pages from to now c.each.invariant c.requires.from c.requires.to c.requires.apart c.requires.few
    (omega (arith, ap length popped, length-append rest (x ∷ []))) in
    subst (λ xs. length xs < 31) (sym (other c.index-pages-to-in-Some.result)) room

pub each-preserved : goal.each-preserved
each-preserved c =
    let pages : List (List Item) = c.args.pages.now in
    let now : List (List Item) = c.each.pages in
    let from : ℕ = c.args.from in
    let to : ℕ = c.args.to in
    let long : length now ≡ length pages = c.each.auto.pages in
    let from_in : from < length now = omega (arith, c.requires.from) in
    let to_in : to < length now = omega (arith, c.requires.to) in
    let x : Item = c.in-Some.item in
    let rest : List Item = c.pop.new.self in
    let popped : page_at now from ≡ rest ++ x ∷ [] = sym (get_or_default now from c.index-pages-from.result [] from_in) ∙ c.in-Some.ensures in
    let other : (d : List Item) → get_or (set now from rest) to d ≡ page_at now to = λ d.
    get_or-set_other now from to rest d (λ e. c.requires.apart (sym e)) ∙ get_or_default now to d [] to_in in
    let j : ℕ = c.first_from-j.result in
    let first : IsFirstFrom (keys_of (page_at now to)) x.key.bits j =
    subst (λ xs. IsFirstFrom (keys_of xs) x.key.bits j) (other c.index-pages-to.result) c.first_from-j.ensures in
    let put : c.put.new.self ≡ insert (page_at now to) j x = c.put.ensures ∙ ap (λ xs. insert xs j x) (other c.index-pages-to-in-Some.result) in
    subst (λ xs. Pouring pages from to (set (set now from rest) to xs)) (sym put)
    (pouring_more pages from to now rest x j c.requires.from c.requires.to c.requires.apart c.each.invariant popped first)

pub each-smaller : goal.each-smaller
each-smaller c =
    let pages : List (List Item) = c.args.pages.now in
    let now : List (List Item) = c.each.pages in
    let from : ℕ = c.args.from in
    let to : ℕ = c.args.to in
    let long : length now ≡ length pages = c.each.auto.pages in
    let from_in : from < length now = omega (arith, c.requires.from) in
    let to_in : to < length now = omega (arith, c.requires.to) in
    let x : Item = c.in-Some.item in
    let rest : List Item = c.pop.new.self in
    let popped : page_at now from ≡ rest ++ x ∷ [] = sym (get_or_default now from c.index-pages-from.result [] from_in) ∙ c.in-Some.ensures in
    let other : (d : List Item) → get_or (set now from rest) to d ≡ page_at now to = λ d.
    get_or-set_other now from to rest d (λ e. c.requires.apart (sym e)) ∙ get_or_default now to d [] to_in in
    let own : page_at (set (set now from rest) to c.put.new.self) from ≡ rest =
    get_or-set_other (set now from rest) to from c.put.new.self [] c.requires.apart ∙ get_or-set_same now from rest [] from_in in
    omega (arith, ap length own, ap length popped, length-append rest (x ∷ []))

pub returns-in-None : goal.returns-in-None
returns-in-None c =
    let pages : List (List Item) = c.args.pages.now in
    let now : List (List Item) = c.each.pages in
    let from : ℕ = c.args.from in
    let to : ℕ = c.args.to in
    let long : length now ≡ length pages = c.each.auto.pages in
    let from_in : from < length now = omega (arith, c.requires.from) in
    let to_in : to < length now = omega (arith, c.requires.to) in
    let page : get_or now from c.index-pages-from.result ≡ page_at now from = get_or_default now from c.index-pages-from.result [] from_in in
    let none : page_at now from ≡ [] = sym page ∙ nothing (get_or now from c.index-pages-from.result) c.in-None.ensures.0 in
    let kept : set now from c.pop.new.self ≡ now = ap (set now from) (c.in-None.ensures.1 ∙ page) ∙ set_own now from from_in in
    subst (IsPoured pages from to) (sym kept) (pouring_ends pages from to now c.requires.from c.requires.apart c.each.invariant none)
