-- Lists of tuples, and what the code does with one of them.
use Rattle.std.proofs.Common.{map, ◌≡◌, ℕ, zero, suc, ◌+◌, ◌<◌, Some, List, [], ◌∷◌, ◌++◌, length, get_or, drop, replicate, slice_set, refl, sym, ap, ◌∙◌, subst}
use Rattle.std.proofs.Common.{append_assoc, append-nil, arith}
use Rattle.std.specs.Prelude.{Vec, slice_get}
use Rattle.std.specs.declared.alloc.Global.{Global}
use Rattle.std.proofs.lemmas.List.{map_push, length_push, length-map, length-replicate}
use Rattle.ml_term.specs.Seen.{all_seen, seen}
use Rattle.ml_term.specs.Tree.{Tree}
use Rattle.ml_term.specs.declared.declaration.Decl.{Decl}
use Rattle.ml_term.specs.declared.term.Term.{Term}
use Rattle.ml_search.specs.Loading.{first_list}
use Rattle.ml_loading.specs.declared.valid_term.ValidTerm.{ValidTerm}
use Rattle.ml_loading.specs.Lists.{trees, all_trees}
use Rattle.ml_loading.specs.Items.{with_term, in_order, IsSized, AreSized}
use Rattle.ml_loading.proofs.Looking.{front}

-- a tuple put at the end of a list
pub put_there : (ls : List (Vec ValidTerm Global)) (k : ℕ) (v w : Vec ValidTerm Global) (t : ValidTerm) → k < length ls → v ≡ get_or ls k v
    → w.items ≡ v.items ++ t ∷ []
    → all_trees (slice_set ls k w) ≡ with_term (all_trees ls) k (seen t.term)
put_there [] k v w t h is e = absurd (omega arith)
put_there (l ∷ ls) zero v w t h is e =
    ap (λ ts. ts ∷ all_trees ls) (ap trees e ∙ map_push (λ t. seen t.term) v.items t ∙ ap (λ u. trees u.items ++ seen t.term ∷ []) is)
put_there (l ∷ ls) (suc k) v w t h is e = ap (λ us. trees l.items ∷ us) (put_there ls k v w t (omega arith) is e)

-- the first list that is left has terms of the right sizes
pub first_sized : (ds : List Decl) (k : ℕ) (d : Decl) (ts : List Tree) (rest : List (List Tree)) → k < length ds → slice_get ds k ≡ Some d →
    AreSized (drop k ds) (ts ∷ rest) → IsSized d ts × AreSized (drop (k + 1) ds) rest
first_sized ds k d ts rest h e sized = subst (λ qs. AreSized qs (ts ∷ rest)) (front ds k d h e) sized

-- there are declarations for all lists that are left
pub some_left : (ds : List Decl) (k : ℕ) (ts : List Tree) (rest : List (List Tree)) → AreSized (drop k ds) (ts ∷ rest) → k < length ds
some_left [] zero ts rest h = absurd h
some_left [] (suc k) ts rest h = absurd h
some_left (d ∷ ds) zero ts rest h = omega arith
some_left (d ∷ ds) (suc k) ts rest h = omega (arith, some_left ds k ts rest h)

-- one list more in order
pub ordered_more : (ds : List Decl) (sorted new : List (List Term)) (x : List Term) (d : Decl) (ts : List Tree) (rest all : List (List Tree))
    → length sorted < length ds → slice_get ds (length sorted) ≡ Some d → all_seen x ≡ first_list d.kind d.keys ts → new ≡ sorted ++ x ∷ []
    → map all_seen sorted ++ in_order (drop (length sorted) ds) (ts ∷ rest) ≡ all → map all_seen new ++ in_order (drop (length new) ds) rest ≡ all
ordered_more ds sorted new x d ts rest all h e is becomes so_far =
    let k = length sorted in
    let told : map all_seen new ≡ map all_seen sorted ++ all_seen x ∷ [] = ap (map all_seen) becomes ∙ map_push all_seen sorted x in
    let behind : drop (length new) ds ≡ drop (k + 1) ds = ap (λ xs. drop (length xs) ds) becomes ∙ ap (λ n. drop n ds) (length_push sorted x) in
    ap (λ us. us ++ in_order (drop (length new) ds) rest) told
    ∙ ap (λ qs. (map all_seen sorted ++ all_seen x ∷ []) ++ in_order qs rest) behind
    ∙ append_assoc (map all_seen sorted) (all_seen x ∷ []) (in_order (drop (k + 1) ds) rest)
    ∙ ap (λ us. map all_seen sorted ++ us ∷ in_order (drop (k + 1) ds) rest) is
    ∙ ap (λ qs. map all_seen sorted ++ in_order qs (ts ∷ rest)) (sym (front ds k d h e))
    ∙ so_far

pub sized_more : (ds : List Decl) (sorted new : List (List Term)) (x : List Term) (rest : List (List Tree)) → new ≡ sorted ++ x ∷ []
    → AreSized (drop (length sorted + 1) ds) rest → AreSized (drop (length new) ds) rest
sized_more ds sorted new x rest becomes h =
    subst (λ qs. AreSized qs rest) (sym (ap (λ xs. drop (length xs) ds) becomes ∙ ap (λ n. drop n ds) (length_push sorted x))) h

-- no list is left
nothing_left : (ds : List Decl) → in_order ds [] ≡ []
nothing_left [] = refl
nothing_left (d ∷ ds) = refl

pub all_ordered : (ds : List Decl) (sorted : List (List Term)) (rest all : List (List Tree)) → rest ≡ []
    → map all_seen sorted ++ in_order (drop (length sorted) ds) rest ≡ all → map all_seen sorted ≡ all
all_ordered ds sorted rest all e so_far =
    sym
    (ap (λ us. map all_seen sorted ++ in_order (drop (length sorted) ds) us) e ∙ ap (λ us. map all_seen sorted ++ us) (nothing_left (drop (length sorted) ds))
    ∙ append-nil (map all_seen sorted)) ∙ so_far

-- as many lists as there are
pub as_many : (ls : List (Vec ValidTerm Global)) (n : ℕ) → all_trees ls ≡ replicate n [] → length ls ≡ n
as_many ls n e = sym (length-map ls (λ l. trees l.items)) ∙ ap length e ∙ length-replicate n []

-- one term more
pub one_more : (list new : List Term) (t : Term) (v : ValidTerm) (rest all : List ValidTerm) → new ≡ list ++ t ∷ [] → t ≡ v.term
    → all_seen list ++ trees (v ∷ rest) ≡ trees all → all_seen new ++ trees rest ≡ trees all
one_more list new t v rest all becomes is so_far =
    ap (λ us. us ++ trees rest) (ap all_seen becomes ∙ map_push seen list t) ∙ append_assoc (all_seen list) (seen t ∷ []) (trees rest)
    ∙ ap (λ u. all_seen list ++ seen u ∷ trees rest) is
    ∙ so_far

pub no_more : (list : List Term) (rest all : List ValidTerm) → rest ≡ [] → all_seen list ++ trees rest ≡ trees all → all_seen list ≡ trees all
no_more list rest all e so_far = sym (ap (λ us. all_seen list ++ trees us) e ∙ append-nil (all_seen list)) ∙ so_far
