-- The files of a store, while items are put into them and when all are in.
use Rattle.std.proofs.Common.{◌≡◌, inl, inr, true, false, Bool, ℕ, zero, suc, ◌+◌, ◌<◌, ◌≤◌, nat_eq, List, [], ◌∷◌, ◌++◌, length, get_or, map, take}
use Rattle.std.proofs.Common.{length-append, Option, Some, None, slice_set, unwrap_or, refl, sym, ap, ◌∙◌, subst, cond, append_assoc, append-nil, arith}
use Rattle.std.specs.Prelude.{slice_get}
use Rattle.std.specs.List.{cons_option}
use Rattle.std.proofs.lemmas.Bool.{and_parts, cases_eq}
use Rattle.std.proofs.lemmas.Bool.Decides.{nat_tests}
use Rattle.std.proofs.lemmas.List.{length-map, map_push}
use Rattle.std.proofs.lemmas.List.Elements.{filter_map-append}
use Rattle.ml_search.specs.Db.{load_list_from, is_allowed}
use Rattle.ml_search.specs.ItemsSeen.{items_seen}
use Rattle.ml_search.specs.Loading.{are_items, first_list, first_lists_from, terms_for}
use Rattle.ml_search.specs.Program.{holds_of}
use Rattle.ml_search.proofs.DeclarationsFound.{up_to}
use Rattle.ml_term.specs.Seen.{seen}
use Rattle.ml_term.specs.Tree.{Tree}
use Rattle.ml_term.specs.declared.declaration.Decl.{Decl}
use Rattle.ml_term.specs.declared.declaration.Kind.{Kind}
use Rattle.ml_term.specs.declared.declaration.Kind.TheVariants.{Relation, Clauses}
use Rattle.ml_term.specs.declared.term.Term.{Term}
use Rattle.ml_file.specs.Files.{File}
use Rattle.ml_file.specs.Inserting.{IsInserted}
use Rattle.ml_file.specs.Settled.{AreSettled, HasSameItems}
use Rattle.ml_file.specs.Stores.{HasTaken, HaveTaken, HaveTerms, IsLoaded, IsLoadedFile, empty_file}
use Rattle.ml_file.specs.declared.file.put.Put.{Put}
use Rattle.ml_file.proofs.LoadedFiles.{loaded_file, taken_settled}
use Rattle.ml_file.proofs.FileLoads.{taken_more}

-- ---- the terms of a declaration

this_place : (d k : ℕ) (t : Tree) → k ≡ d → terms_for d ((k, t) ∷ []) ≡ t ∷ []
this_place d k t e = let is : nat_eq k d ≡ true = grind (arith, nat_tests) in ap (λ b. cons_option (cond b (Some t) None) []) is

other_place : (d k : ℕ) (t : Tree) → (k ≡ d → ⊥) → terms_for d ((k, t) ∷ []) ≡ []
other_place d k t n = let is : nat_eq k d ≡ false = grind (arith, nat_tests) in ap (λ b. cons_option (cond b (Some t) None) []) is

one_term_more : (d : ℕ) (es : List (ℕ × Tree)) (e : ℕ × Tree) → terms_for d (es ++ e ∷ []) ≡ terms_for d es ++ terms_for d (e ∷ [])
one_term_more d es e = filter_map-append _ es (e ∷ [])

here_more : (d k : ℕ) (t : Tree) (es : List (ℕ × Tree)) → k ≡ d → terms_for d (es ++ (k, t) ∷ []) ≡ terms_for d es ++ t ∷ []
here_more d k t es e = one_term_more d es (k, t) ∙ ap (λ us. terms_for d es ++ us) (this_place d k t e)

elsewhere_same : (d k : ℕ) (t : Tree) (es : List (ℕ × Tree)) → (k ≡ d → ⊥) → terms_for d (es ++ (k, t) ∷ []) ≡ terms_for d es
elsewhere_same d k t es n = one_term_more d es (k, t) ∙ ap (λ us. terms_for d es ++ us) (other_place d k t n) ∙ append-nil (terms_for d es)

no_more_terms : (d : ℕ) (es : List (ℕ × Tree)) → length (terms_for d es) ≤ length es
no_more_terms d [] = omega arith
no_more_terms d (e ∷ es) = by (nat_eq e.0 d) (no_more_terms d es)
  where
    by : (b : Bool) → length (terms_for d es) ≤ length es → length (cons_option (cond b (Some e.1) None) (terms_for d es)) ≤ length (e ∷ es)
    by true rest = omega (arith, rest)
    by false rest = omega (arith, rest)

-- ---- files before anything comes

empty_taken : (decl : Decl) → HasTaken decl [] (empty_file decl)
empty_taken decl = record {
  declared = refl;
  came = [];
  inside = λ x. (λ h. h, λ h. h);
  each = tt;
  have = none decl.kind;
  counted = refl;
  few = omega arith;
}
  where
    none : (kind : Kind) → HaveTerms kind [] []
    none Relation = (λ i j d l h. absurd (omega (arith, h)), λ t. (λ h. h, λ h. h))
    none Clauses = refl

empty_at : (decls : List Decl) (d : ℕ) (decl : Decl) (file : File) → slice_get decls d ≡ Some decl → slice_get (map empty_file decls) d ≡ Some file →
    file ≡ empty_file decl
empty_at [] d decl file e f = cc
empty_at (q ∷ qs) zero decl file e f = let same : q ≡ decl = cc in let is : empty_file q ≡ file = cc in sym is ∙ ap empty_file same
empty_at (q ∷ qs) (suc d) decl file e f = empty_at qs d decl file e f

pub nothing_taken : (decls : List Decl) (files : List File) → files ≡ map empty_file decls → HaveTaken decls [] files
nothing_taken decls files is = subst (HaveTaken decls []) (sym is) empties
  where
    empties : HaveTaken decls [] (map empty_file decls)
    empties = record {
      count = length-map decls empty_file;
      each = λ d decl file e f. subst (HasTaken decl []) (sym (empty_at decls d decl file e f)) (empty_taken decl);
    }

pub empties_more : (decls : List Decl) (i : ℕ) (files new : List File) (p q : Decl) (f : File) → files ≡ map empty_file (take i decls) →
    slice_get decls i ≡ Some q → p ≡ q
    → f ≡ empty_file p → new ≡ files ++ f ∷ [] → new ≡ map empty_file (take (i + 1) decls)
empties_more decls i files new p q f so_far at same is becomes =
    becomes
    ∙ ap (λ fs. fs ++ f ∷ []) so_far
    ∙ ap (λ g. map empty_file (take i decls) ++ g ∷ []) (is ∙ ap empty_file same)
    ∙ sym (map_push empty_file (take i decls) q)
    ∙ ap (map empty_file) (up_to decls i q at)

-- ---- one item more

-- an item's declaration
pub record HasDecl (decls : List Decl) (k : ℕ) (t : Tree) : Type 0 where
  pub decl : Decl
  pub at : slice_get decls k ≡ Some decl
  pub allowed : is_allowed decl t ≡ true
  pub within : k < length decls

within_list : {X : Type 0} (xs : List X) (k : ℕ) (x : X) → slice_get xs k ≡ Some x → k < length xs
within_list [] k x e = cc
within_list (y ∷ ys) zero x e = omega arith
within_list (y ∷ ys) (suc k) x e = omega (arith, within_list ys k x e)

pub decl_of : (decls : List Decl) (k : ℕ) (t : Tree) → holds_of (λ d. is_allowed d t) (slice_get decls k) ≡ true → HasDecl decls k t
decl_of decls k t h = by (slice_get decls k) refl h
  where
    by : (o : Option Decl) → slice_get decls k ≡ o → holds_of (λ d. is_allowed d t) o ≡ true → HasDecl decls k t
    by None e h = cc
    by (Some q) e h = record { decl = q; at = e; allowed = h; within = within_list decls k q e }

pub file_at : (files : List File) (k : ℕ) (f : File) → k < length files → f ≡ get_or files k f → slice_get files k ≡ Some f
file_at [] k f h e = absurd (omega (arith, h))
file_at (g ∷ gs) zero f h e = ap Some (sym e)
file_at (g ∷ gs) (suc k) f h e = file_at gs k f (omega (arith, h)) e

set_same : (files : List File) (k : ℕ) (f g : File) → slice_get (slice_set files k f) k ≡ Some g → f ≡ g
set_same [] k f g e = cc
set_same (h ∷ hs) zero f g e = cc
set_same (h ∷ hs) (suc k) f g e = set_same hs k f g e

set_other : (files : List File) (k d : ℕ) (f : File) → (k ≡ d → ⊥) → slice_get (slice_set files k f) d ≡ slice_get files d
set_other [] k d f n = refl
set_other (h ∷ hs) zero zero f n = absurd (n refl)
set_other (h ∷ hs) zero (suc d) f n = refl
set_other (h ∷ hs) (suc k) zero f n = refl
set_other (h ∷ hs) (suc k) (suc d) f n = set_other hs k d f (λ e. n (ap suc e))

set_count : (files : List File) (k : ℕ) (f : File) → length (slice_set files k f) ≡ length files
set_count [] k f = refl
set_count (h ∷ hs) zero f = refl
set_count (h ∷ hs) (suc k) f = ap suc (set_count hs k f)

one_decl : (o : Option Decl) (p q : Decl) → o ≡ Some p → o ≡ Some q → p ≡ q
one_decl o p q e f = cc

have_one_more : (decls : List Decl) (es : List (ℕ × Tree)) (files : List File) (k : ℕ) (t : Term) (f g : File) (put : Put) → HaveTaken decls es files →
    length es < 4294967295
    → slice_get files k ≡ Some f → IsInserted put f t f.added g → g.decl ≡ f.decl → HaveTaken decls (es ++ (k, seen t) ∷ []) (slice_set files k g)
have_one_more decls es files k t f g put taken few at inserted kept =
    record {
      count = set_count files k g ∙ taken.count;
      each = λ d decl file e h. elim (cases_eq k d) [
        | inl here ↦
            let old : HasTaken decl (terms_for d es) f = taken.each d decl f e (ap (slice_get files) (sym here) ∙ at) in
            let new : HasTaken decl (terms_for d es ++ seen t ∷ []) g =
            taken_more decl (terms_for d es) put f g t old inserted kept (omega (arith, few, no_more_terms d es)) in
            let same : g ≡ file = set_same files k g file (ap (slice_get (slice_set files k g)) here ∙ h) in
            subst (HasTaken decl (terms_for d (es ++ (k, seen t) ∷ []))) same (subst (λ us. HasTaken decl us g) (sym (here_more d k (seen t) es here)) new)
        | inr other ↦
            subst (λ us. HasTaken decl us file) (sym (elsewhere_same d k (seen t) es other)) (taken.each d decl file e (sym (set_other files k d g other) ∙ h))
      ];
    }

-- ---- all items

many_seen : (es : List (ℕ × Term)) → length (items_seen es) ≡ length es
many_seen [] = refl
many_seen (e ∷ es) = ap suc (many_seen es)

decl_in : (decls : List Decl) (before left : List (ℕ × Term)) (k : ℕ) (t : Term) → are_items decls (items_seen (before ++ (k, t) ∷ left)) ≡ true →
    HasDecl decls k (seen t)
decl_in decls [] left k t h = decl_of decls k (seen t) (and_parts (holds_of (λ d. is_allowed d (seen t)) (slice_get decls k))
    (are_items decls (items_seen left)) h).0
decl_in decls (e ∷ before) left k t h =
    decl_in decls before left k t
    (and_parts (holds_of (λ d. is_allowed d (seen e.1)) (slice_get decls e.0)) (are_items decls (items_seen (before ++ (k, t) ∷ left))) h).1

-- items of which some are in the files and the others are left
pub record IsUnderway (decls : List Decl) (all left : List (ℕ × Term)) (files : List File) : Type 0 where
  pub before : List (ℕ × Term)
  pub whole : before ++ left ≡ all
  pub taken : HaveTaken decls (items_seen before) files

pub underway_first : (decls : List Decl) (all left : List (ℕ × Term)) (files : List File) → left ≡ all → HaveTaken decls [] files →
    IsUnderway decls all left files
underway_first decls all left files e taken = record { before = []; whole = e; taken = taken }

pub underway_more : (decls : List Decl) (all left : List (ℕ × Term)) (files : List File) (k : ℕ) (t : Term) (f g : File) (put : Put) →
    IsUnderway decls all ((k, t) ∷ left) files
    → length all < 4294967296 → slice_get files k ≡ Some f → IsInserted put f t f.added g → g.decl ≡ f.decl → IsUnderway decls all left (slice_set files k g)
underway_more decls all left files k t f g put way few at inserted kept =
    let many : length (way.before ++ (k, t) ∷ left) ≡ length all = ap length way.whole in
    record {
      before = way.before ++ (k, t) ∷ [];
      whole = append_assoc way.before ((k, t) ∷ []) left ∙ way.whole;
      taken =
          subst (λ es. HaveTaken decls es (slice_set files k g)) (sym (map_push (λ (e : ℕ × Term). (e.0, seen e.1)) way.before (k, t)))
          (have_one_more decls (items_seen way.before) files k t f g put way.taken
          (omega (arith, few, many, length-append way.before ((k, t) ∷ left), many_seen way.before)) at inserted kept);
    }

-- the next item is one of its declaration
pub decl_next : (decls : List Decl) (all left : List (ℕ × Term)) (files : List File) (k : ℕ) (t : Term) → IsUnderway decls all ((k, t) ∷ left) files
    → are_items decls (items_seen all) ≡ true → HasDecl decls k (seen t)
decl_next decls all left files k t way are = decl_in decls way.before left k t (subst (λ es. are_items decls (items_seen es) ≡ true) (sym way.whole) are)

pub underway_last : (decls : List Decl) (all left : List (ℕ × Term)) (files : List File) → IsUnderway decls all left files → left ≡ [] →
    HaveTaken decls (items_seen all) files
underway_last decls all left files way e =
    subst (λ es. HaveTaken decls (items_seen es) files) (sym (append-nil way.before) ∙ ap (λ es. way.before ++ es) (sym e) ∙ way.whole) way.taken

-- ---- files that are settled one after another

pub record AreSettledTo (decls : List Decl) (es : List (ℕ × Tree)) (n : ℕ) (files : List File) : Type 0 where
  pub taken : HaveTaken decls es files
  pub settled : (k : ℕ) (file : File) → k < n → slice_get files k ≡ Some file → AreSettled file.regions

pub settled_more : (decls : List Decl) (es : List (ℕ × Tree)) (n : ℕ) (files : List File) (f g : File) → AreSettledTo decls es n files →
    slice_get files n ≡ Some f
    → HasSameItems f.regions g.regions → AreSettled g.regions → g ≡ record f { regions = g.regions } → AreSettledTo decls es (n + 1) (slice_set files n g)
settled_more decls es n files f g so_far at items done others =
    record {
      taken = record {
        count = set_count files n g ∙ so_far.taken.count;
        each = λ d decl file e h. elim (cases_eq n d) [
          | inl here ↦
              let old : HasTaken decl (terms_for d es) f = so_far.taken.each d decl f e (ap (slice_get files) (sym here) ∙ at) in
              let same : g ≡ file = set_same files n g file (ap (slice_get (slice_set files n g)) here ∙ h) in
              subst (HasTaken decl (terms_for d es)) same (taken_settled decl (terms_for d es) f g old items others)
          | inr other ↦ so_far.taken.each d decl file e (sym (set_other files n d g other) ∙ h)
        ];
      };
      settled = λ k file l h. elim (cases_eq n k) [
        | inl here ↦
            let same : g ≡ file = set_same files n g file (ap (slice_get (slice_set files n g)) here ∙ h) in
            subst (λ (x : File). AreSettled x.regions) same done
        | inr other ↦ so_far.settled k file (omega (arith, l, other)) (sym (set_other files n k g other) ∙ h)
      ];
    }

-- ---- the store

first_at : (from : ℕ) (decls : List Decl) (es : List (ℕ × Tree)) (d : ℕ) (decl : Decl) → slice_get decls d ≡ Some decl
    → unwrap_or (slice_get (map (load_list_from 0) (first_lists_from from decls es)) d) []
    ≡ load_list_from 0 (first_list decl.kind decl.keys (terms_for (from + d) es))
first_at from [] es d decl e = cc
first_at from (q ∷ qs) es zero decl e =
    let same : q ≡ decl = cc in
    let here : from ≡ from + 0 = omega arith in
    ap (λ (p : Decl). load_list_from 0 (first_list p.kind p.keys (terms_for from es))) same
    ∙ ap (λ n. load_list_from 0 (first_list decl.kind decl.keys (terms_for n es))) here
first_at from (q ∷ qs) es (suc d) decl e =
    let next : (1 + from) + d ≡ from + suc d = omega arith in
    first_at (1 + from) qs es d decl e ∙ ap (λ n. load_list_from 0 (first_list decl.kind decl.keys (terms_for n es))) next

pub all_loaded : (decls : List Decl) (es : List (ℕ × Tree)) (n : ℕ) (files : List File) → length files ≤ n → AreSettledTo decls es n files →
    IsLoaded decls es files
all_loaded decls es n files far done =
    record {
      count = done.taken.count;
      each = λ d decl file e f.
          let start : 0 + d ≡ d = omega arith in
          subst (λ list. IsLoadedFile decl list file) (sym (first_at 0 decls es d decl e
          ∙ ap (λ n. load_list_from 0 (first_list decl.kind decl.keys (terms_for n es))) start))
          (loaded_file decl (terms_for d es) file (done.taken.each d decl file e f)
          (done.settled d file (let within : d < length files = within_list files d file f in omega (arith, within, far)) f));
    }
