-- Lists that a desk is made of, one after another, and lists that are taken out of it.
use Rattle.std.proofs.Common.{◌≡◌, ℕ, zero, suc, ◌+◌, ◌<◌, true, ◌&&◌, List, [], ◌∷◌, ◌++◌, length, drop, map, refl, sym, ap, ◌∙◌, subst, arith, append_assoc, append-nil, add-one}
use Rattle.std.specs.Prelude.{Some, slice_get}
use Rattle.std.specs.List.{list_all}
use Rattle.std.proofs.lemmas.Bool.{and_parts}
use Rattle.std.proofs.lemmas.List.{map-append}
use Rattle.ml_list_desk.specs.Items.{item_seen, items_seen, lists_of_terms, lists_seen}
use Rattle.ml_list_desk.specs.inside.ItemList.{are_allowed, ItemList}
use Rattle.ml_list_desk.specs.inside.Standing.{db_of, decls_of}
use Rattle.ml_list_desk.specs.declared.list_item.ListItem.{ListItem}
use Rattle.ml_list_desk.specs.declared.list_item.Place.TheVariants.{At}
use Rattle.ml_search.specs.Db.{Db, is_allowed, is_db, is_list_of, Item, load_list_from, load_lists, rises, terms}
use Rattle.ml_term.specs.Seen.{seen}
use Rattle.ml_term.specs.Tree.{Tree}
use Rattle.ml_term.specs.declared.declaration.Decl.{Decl}
use Rattle.ml_term.specs.declared.declaration.Kind.{Kind}
use Rattle.ml_term.specs.declared.declaration.Kind.TheVariants.{Clauses, Relation}
use Rattle.ml_term.specs.declared.term.Term.{Term}

-- one more behind some, and then the others
pub one_on : {A : Type 0} (xs : List A) (x : A) (ys : List A) → (xs ++ x ∷ []) ++ ys ≡ xs ++ x ∷ ys
one_on xs x ys = append_assoc xs (x ∷ []) ys

-- ---- loaded items

pub loaded_more : (items items' : List ListItem) (n : ℕ) (t : Term) (ts rest : List Term) (all : List Item)
    → items' ≡ items ++ record { place = At 0; change = n; term = t } ∷ []
    → ts ≡ t ∷ rest → items_seen items ++ load_list_from n (map seen ts) ≡ all → items_seen items' ++ load_list_from (n + 1) (map seen rest) ≡ all
loaded_more items items' n t ts rest all e r h =
    let x : ListItem = record { place = At 0; change = n; term = t } in
    let up : n + 1 ≡ 1 + n = omega arith in
    ap (λ is. items_seen is ++ load_list_from (n + 1) (map seen rest)) e
    ∙ ap (λ is. is ++ load_list_from (n + 1) (map seen rest)) (map-append item_seen items (x ∷ []))
    ∙ one_on (items_seen items) (item_seen x) (load_list_from (n + 1) (map seen rest))
    ∙ ap (λ m. items_seen items ++ item_seen x ∷ load_list_from m (map seen rest)) up
    ∙ ap (λ us. items_seen items ++ load_list_from n (map seen us)) (sym r)
    ∙ h

pub all_loaded : (items : List ListItem) (n : ℕ) (ts : List Term) (all : List Item) → ts ≡ [] → items_seen items ++ load_list_from n (map seen ts) ≡ all
    → items_seen items ≡ all
all_loaded items n ts all e h = sym (append-nil (items_seen items)) ∙ ap (λ us. items_seen items ++ load_list_from n (map seen us)) (sym e) ∙ h

pub list_loaded : (lists lists' : List (List ListItem)) (x : List ListItem) (ts : List Term) (tss rest : List (List Term)) (all : Db)
    → lists' ≡ lists ++ x ∷ []
    → items_seen x ≡ load_list_from 0 (map seen ts) → tss ≡ ts ∷ rest → lists_seen lists ++ load_lists (lists_of_terms tss) ≡ all
    → lists_seen lists' ++ load_lists (lists_of_terms rest) ≡ all
list_loaded lists lists' x ts tss rest all e l r h =
    ap (λ ls. lists_seen ls ++ load_lists (lists_of_terms rest)) e
    ∙ ap (λ ls. ls ++ load_lists (lists_of_terms rest)) (map-append items_seen lists (x ∷ []))
    ∙ one_on (lists_seen lists) (items_seen x) (load_lists (lists_of_terms rest))
    ∙ ap (λ is. lists_seen lists ++ is ∷ load_lists (lists_of_terms rest)) l
    ∙ ap (λ us. lists_seen lists ++ load_lists (lists_of_terms us)) (sym r)
    ∙ h

pub all_lists_loaded : (lists : List (List ListItem)) (tss : List (List Term)) (all : Db) → tss ≡ []
    → lists_seen lists ++ load_lists (lists_of_terms tss) ≡ all → lists_seen lists ≡ all
all_lists_loaded lists tss all e h = sym (append-nil (lists_seen lists)) ∙ ap (λ us. lists_seen lists ++ load_lists (lists_of_terms us)) (sym e) ∙ h

-- ---- a list for each declaration

allowed_alike : (d : Decl) (is : List ListItem) → list_all (λ i. is_allowed d i.term) (items_seen is) ≡ are_allowed d is
allowed_alike d [] = refl
allowed_alike d (i ∷ is) = ap (λ b. is_allowed d (seen i.term) && b) (allowed_alike d is)

-- the next list is one that its declaration may have, and so are the others
pub record IsNextList (ds : List Decl) (n : ℕ) (d : Decl) (x : List ListItem) (rest : Db) : Type 0 where
  pub allowed : are_allowed d x ≡ true
  pub ordered : d.kind ≡ Relation → rises d.keys (items_seen x) ≡ true
  pub others : is_db (drop (n + 1) ds) rest ≡ true

order_of_list : (d : Decl) (is : List Item) → is_list_of d is ≡ true → d.kind ≡ Relation → rises d.keys is ≡ true
order_of_list d is h k = by d.kind refl
  where
    by : (j : Kind) → d.kind ≡ j → rises d.keys is ≡ true
    by Relation e = let parts = and_parts (list_all (λ i. is_allowed d i.term) is) _ h in rw e at parts.1
    by Clauses e = let no : Relation ≡ Clauses = sym k ∙ e in absurd (cc no)

pub next_list : (ds : List Decl) (n : ℕ) (d : Decl) (x : List ListItem) (rest : Db) → slice_get ds n ≡ Some d
    → is_db (drop n ds) (items_seen x ∷ rest) ≡ true → IsNextList ds n d x rest
next_list ds n d x rest e h =
    let parts = by ds n e h in
    record {
      allowed = sym (allowed_alike d x) ∙ first_part d (items_seen x) parts.0;
      ordered = order_of_list d (items_seen x) parts.0;
      others = rw add-one parts.1;
    }
  where
    first_part : (d : Decl) (is : List Item) → is_list_of d is ≡ true → list_all (λ i. is_allowed d i.term) is ≡ true
    first_part d is h = (and_parts (list_all (λ i. is_allowed d i.term) is) _ h).0

    by : (ds : List Decl) (n : ℕ) → slice_get ds n ≡ Some d → is_db (drop n ds) (items_seen x ∷ rest) ≡ true
        → (is_list_of d (items_seen x) ≡ true) × (is_db (drop (suc n) ds) rest ≡ true)
    by [] n e h = absurd (cc e)
    by (q ∷ ds) zero e h =
        let parts = and_parts (is_list_of q (items_seen x)) (is_db ds rest) h in
        let same : q ≡ d = cc in (subst (λ k. is_list_of k (items_seen x) ≡ true) same parts.0, parts.1)
    by (q ∷ ds) (suc n) e h = by ds n e h

-- there is a declaration for the next list
pub decl_for_next : (ds : List Decl) (n : ℕ) (x : List Item) (rest : Db) → is_db (drop n ds) (x ∷ rest) ≡ true → n < length ds
decl_for_next [] zero x rest h = absurd (cc h)
decl_for_next [] (suc n) x rest h = absurd (cc h)
decl_for_next (d ∷ ds) zero x rest h = omega arith
decl_for_next (d ∷ ds) (suc n) x rest h = omega (arith, decl_for_next ds n x rest h)

-- where no list is left, no declaration is
pub no_decl_left : (ds : List Decl) → is_db ds [] ≡ true → ds ≡ []
no_decl_left [] h = refl
no_decl_left (d ∷ ds) h = absurd (cc h)

pub decls_more : (ds : List Decl) (lists lists' : List ItemList) (l : ItemList) (n : ℕ) (d : Decl) → lists' ≡ lists ++ l ∷ [] → l.decl ≡ d
    → slice_get ds n ≡ Some d
    → decls_of lists ++ drop n ds ≡ ds → decls_of lists' ++ drop (n + 1) ds ≡ ds
decls_more ds lists lists' l n d e f at h =
    ap (λ ls. decls_of ls ++ drop (n + 1) ds) e
    ∙ ap (λ qs. qs ++ drop (n + 1) ds) (map-append (λ (k : ItemList). k.decl) lists (l ∷ []))
    ∙ one_on (decls_of lists) l.decl (drop (n + 1) ds)
    ∙ ap (λ q. decls_of lists ++ q ∷ drop (n + 1) ds) f
    ∙ ap (λ qs. decls_of lists ++ qs) (sym (opened ds n at))
    ∙ h
  where
    opened : (ds : List Decl) (n : ℕ) → slice_get ds n ≡ Some d → drop n ds ≡ d ∷ drop (n + 1) ds
    opened ds n e = by ds n e ∙ ap (λ m. d ∷ drop m ds) (sym (add-one n))
      where
        by : (ds : List Decl) (n : ℕ) → slice_get ds n ≡ Some d → drop n ds ≡ d ∷ drop (suc n) ds
        by [] n e = absurd (cc e)
        by (q ∷ ds) zero e = let same : q ≡ d = cc in ap (λ k. k ∷ ds) same
        by (q ∷ ds) (suc n) e = by ds n e

one_longer : (lists : List ItemList) (l : ItemList) → length (lists ++ l ∷ []) ≡ length lists + 1
one_longer [] l = omega arith
one_longer (k ∷ lists) l = omega (arith, one_longer lists l)

pub decls_made : (ds : List Decl) (lists lists' : List ItemList) (l : ItemList) (n : ℕ) (d : Decl) → lists' ≡ lists ++ l ∷ [] → l.decl ≡ d
    → slice_get ds n ≡ Some d → n ≡ length lists
    → decls_of lists ++ drop (length lists) ds ≡ ds → decls_of lists' ++ drop (length lists') ds ≡ ds
decls_made ds lists lists' l n d e f at m h =
    ap (λ k. decls_of lists' ++ drop k ds) (ap length e ∙ one_longer lists l ∙ ap (λ k. k + 1) (sym m))
    ∙ decls_more ds lists lists' l n d e f at (ap (λ k. decls_of lists ++ drop k ds) m ∙ h)

pub next_db : (lists lists' : List ItemList) (l : ItemList) (ds : List Decl) (rest : Db) → lists' ≡ lists ++ l ∷ []
    → is_db (drop (length lists + 1) ds) rest ≡ true
    → is_db (drop (length lists') ds) rest ≡ true
next_db lists lists' l ds rest e h = ap (λ k. is_db (drop k ds) rest) (ap length e ∙ one_longer lists l) ∙ h

pub all_decls : (ds : List Decl) (lists : List ItemList) → is_db (drop (length lists) ds) [] ≡ true → decls_of lists ++ drop (length lists) ds ≡ ds
    → decls_of lists ≡ ds
all_decls ds lists h e = sym (append-nil (decls_of lists)) ∙ ap (λ qs. decls_of lists ++ qs) (sym (no_decl_left (drop (length lists) ds) h)) ∙ e

pub items_more : (lists lists' : List ItemList) (l : ItemList) (x : List ListItem) (xs rest : List (List ListItem)) (all : Db) → lists' ≡ lists ++ l ∷ []
    → l.items ≡ x → xs ≡ x ∷ rest
    → db_of lists ++ lists_seen xs ≡ all → db_of lists' ++ lists_seen rest ≡ all
items_more lists lists' l x xs rest all e f r h =
    ap (λ ls. db_of ls ++ lists_seen rest) e
    ∙ ap (λ db. db ++ lists_seen rest) (map-append (λ (k : ItemList). items_seen k.items) lists (l ∷ []))
    ∙ one_on (db_of lists) (items_seen l.items) (lists_seen rest)
    ∙ ap (λ is. db_of lists ++ items_seen is ∷ lists_seen rest) f
    ∙ ap (λ ys. db_of lists ++ lists_seen ys) (sym r)
    ∙ h

pub all_items : (lists : List ItemList) (xs : List (List ListItem)) (all : Db) → xs ≡ [] → db_of lists ++ lists_seen xs ≡ all → db_of lists ≡ all
all_items lists xs all e h = sym (append-nil (db_of lists)) ∙ ap (λ ys. db_of lists ++ lists_seen ys) (sym e) ∙ h

-- ---- lists taken out

terms_alike : (is : List ListItem) → map seen (map (λ (i : ListItem). i.term) is) ≡ terms (items_seen is)
terms_alike [] = refl
terms_alike (i ∷ is) = ap (λ ts. seen i.term ∷ ts) (terms_alike is)

pub terms_out_more : (taken taken' : List (List Term)) (ts : List Term) (l : ItemList) (ls rest : List ItemList) (all : List (List Tree))
    → taken' ≡ taken ++ ts ∷ []
    → ts ≡ map (λ (i : ListItem). i.term) l.items → ls ≡ l ∷ rest → lists_of_terms taken ++ map terms (db_of ls) ≡ all
    → lists_of_terms taken' ++ map terms (db_of rest) ≡ all
terms_out_more taken taken' ts l ls rest all e f r h =
    ap (λ tss. lists_of_terms tss ++ map terms (db_of rest)) e
    ∙ ap (λ tss. tss ++ map terms (db_of rest)) (map-append (map seen) taken (ts ∷ []))
    ∙ one_on (lists_of_terms taken) (map seen ts) (map terms (db_of rest))
    ∙ ap (λ us. lists_of_terms taken ++ us ∷ map terms (db_of rest)) (ap (map seen) f ∙ terms_alike l.items)
    ∙ ap (λ ks. lists_of_terms taken ++ map terms (db_of ks)) (sym r)
    ∙ h

pub all_terms_out : (taken : List (List Term)) (ls : List ItemList) (all : List (List Tree)) → ls ≡ [] → lists_of_terms taken ++ map terms (db_of ls) ≡ all
    → lists_of_terms taken ≡ all
all_terms_out taken ls all e h = sym (append-nil (lists_of_terms taken)) ∙ ap (λ ks. lists_of_terms taken ++ map terms (db_of ks)) (sym e) ∙ h

pub items_out_more : (taken taken' : List (List ListItem)) (is : List ListItem) (l : ItemList) (ls rest : List ItemList) (all : Db)
    → taken' ≡ taken ++ is ∷ [] → is ≡ l.items → ls ≡ l ∷ rest
    → lists_seen taken ++ db_of ls ≡ all → lists_seen taken' ++ db_of rest ≡ all
items_out_more taken taken' is l ls rest all e f r h =
    ap (λ iss. lists_seen iss ++ db_of rest) e
    ∙ ap (λ db. db ++ db_of rest) (map-append items_seen taken (is ∷ []))
    ∙ one_on (lists_seen taken) (items_seen is) (db_of rest)
    ∙ ap (λ js. lists_seen taken ++ items_seen js ∷ db_of rest) f
    ∙ ap (λ ks. lists_seen taken ++ db_of ks) (sym r)
    ∙ h

pub all_items_out : (taken : List (List ListItem)) (ls : List ItemList) (all : Db) → ls ≡ [] → lists_seen taken ++ db_of ls ≡ all → lists_seen taken ≡ all
all_items_out taken ls all e h = sym (append-nil (lists_seen taken)) ∙ ap (λ ks. lists_seen taken ++ db_of ks) (sym e) ∙ h
