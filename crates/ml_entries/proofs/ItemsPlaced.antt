-- Items that get their places one after another.
use Rattle.std.proofs.Common.{◌≡◌, ◌++◌, ◌∷◌, [], ℕ, List, map, refl, sym, ap, ◌∙◌, append_assoc, append-nil}
use Rattle.std.proofs.lemmas.List.{map_push}
use Rattle.ml_list_desk.specs.Items.{item_seen, items_seen, lists_seen}
use Rattle.ml_list_desk.specs.declared.list_item.ListItem.{ListItem}
use Rattle.ml_search.specs.Db.{Db, Item}
use Rattle.ml_search.specs.History.{commit_at, item_at}

pub one_item_more : (k : ℕ) (placed new : List ListItem) (x i : ListItem) (rest : List ListItem) (all : List Item) → new ≡ placed ++ x ∷ []
    → item_seen x ≡ item_at k (item_seen i) → items_seen placed ++ map (item_at k) (items_seen (i ∷ rest)) ≡ all
    → items_seen new ++ map (item_at k) (items_seen rest) ≡ all
one_item_more k placed new x i rest all becomes is so_far =
    let behind = map (item_at k) (items_seen rest) in
    ap (λ us. us ++ behind) (ap items_seen becomes ∙ map_push item_seen placed x) ∙ append_assoc (items_seen placed) (item_seen x ∷ []) behind
    ∙ ap (λ u. items_seen placed ++ u ∷ behind) is
    ∙ so_far

pub no_more : (k : ℕ) (placed rest : List ListItem) (all : List Item) → rest ≡ [] → items_seen placed ++ map (item_at k) (items_seen rest) ≡ all →
    items_seen placed ≡ all
no_more k placed rest all e so_far =
    sym (ap (λ us. items_seen placed ++ map (item_at k) (items_seen us)) e ∙ append-nil (items_seen placed)) ∙ so_far

pub one_list_more : (k : ℕ) (placed new : List (List ListItem)) (x i : List ListItem) (rest : List (List ListItem)) (all : Db) → new ≡ placed ++ x ∷ []
    → items_seen x ≡ map (item_at k) (items_seen i) → lists_seen placed ++ commit_at k (lists_seen (i ∷ rest)) ≡ all
    → lists_seen new ++ commit_at k (lists_seen rest) ≡ all
one_list_more k placed new x i rest all becomes is so_far =
    let behind = commit_at k (lists_seen rest) in
    ap (λ us. us ++ behind) (ap lists_seen becomes ∙ map_push items_seen placed x) ∙ append_assoc (lists_seen placed) (items_seen x ∷ []) behind
    ∙ ap (λ u. lists_seen placed ++ u ∷ behind) is
    ∙ so_far

pub no_list_more : (k : ℕ) (placed rest : List (List ListItem)) (all : Db) → rest ≡ [] → lists_seen placed ++ commit_at k (lists_seen rest) ≡ all →
    lists_seen placed ≡ all
no_list_more k placed rest all e so_far =
    sym (ap (λ us. lists_seen placed ++ commit_at k (lists_seen us)) e ∙ append-nil (lists_seen placed)) ∙ so_far
