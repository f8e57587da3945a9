use Rattle.std.proofs.Common.{◌≡◌, ◌≢◌, ℕ, List, [], ◌∷◌, ◌++◌, length, get_or, set, sym, ap, ◌∙◌}
use Rattle.std.specs.List.{insert, remove}
use Rattle.std.proofs.lemmas.List.{get_or_default, get_or-set_other}
use Rattle.std.proofs.lemmas.List.Edits.{insert_end}
use Rattle.ml_region.specs.inside.Stored.{page_at}
use Rattle.ml_region.specs.declared.item.Item.{Item}
use Rattle.ml_region.proofs.moves.move_to_end.Goals as goal

pub returns : goal.returns
returns c =
    let pages : List (List Item) = c.args.pages.now in
    let from : ℕ = c.args.from in
    let to : ℕ = c.args.to in
    let j : ℕ = c.args.j in
    let item : Item = c.take-item.result in
    let half : List (List Item) = set pages from c.take-item.new.self in
    let first : get_or pages from c.index-pages-from.result ≡ page_at pages from = get_or_default pages from c.index-pages-from.result [] c.requires.from in
    let apart : to ≢ from = λ e. c.requires.apart (sym e) in
    let other : (d : List Item) → get_or half to d ≡ page_at pages to =
    λ d. get_or-set_other pages from to c.take-item.new.self d apart ∙ get_or_default pages to d [] c.requires.to in
    let left : c.take-item.new.self ≡ remove (page_at pages from) j = c.take-item.ensures.rest ∙ ap (λ xs. remove xs j) first in
    let end : c.len-end.result ≡ length (page_at pages to) = c.len-end.ensures ∙ ap length (other c.index-pages-to.result) in
    let more : c.put.new.self ≡ page_at pages to ++ item ∷ [] =
    c.put.ensures ∙ ap (λ xs. insert xs c.len-end.result item) (other c.index-pages-to-2.result) ∙ ap (λ n. insert (page_at pages to) n item) end
    ∙ insert_end (page_at pages to) item in
    record {
      item = item;
      there = c.take-item.ensures.item ∙ ap (λ xs. get_or xs j item) first;
      same = ap (λ xs. set (set pages from xs) to c.put.new.self) left ∙ ap (set (set pages from (remove (page_at pages from) j)) to) more;
    }
