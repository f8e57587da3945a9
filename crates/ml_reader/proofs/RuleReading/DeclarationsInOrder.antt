-- Declarations of some clauses, one clause after another.
use Rattle.std.specs.Prelude.{◌≡◌, ℕ, suc, ◌+◌, ◌<◌, ◌≤◌, List, [], ◌∷◌, ◌++◌, length, map, take, drop, get_or, Option, Some, None, Result, Err}
use Rattle.std.specs.List.{filter_map, cons_option, AllZip}
use Rattle.std.proofs.Common.{refl, sym, ap, subst, ◌∙◌, arith}
use Rattle.std.proofs.Math.Seq.{drop-cons}
use Rattle.std.proofs.lemmas.List.{append-nil, length_push, map-append, take_more, take-append-drop}
use Rattle.ml_term.specs.Tree.{Tree}
use Rattle.ml_term.specs.declared.declaration.Decl.{Decl}
use Rattle.ml_search.proofs.DeclarationsFound.{once_more}
use Rattle.ml_reader.specs.Lexemes.{ReadClause}
use Rattle.ml_reader.specs.Seen.{read_seen}
use Rattle.ml_reader.specs.declared.parser.lexeme.Read.{Read}
use Rattle.ml_reader.specs.Declarations.{Declares}
use Rattle.ml_reader.specs.Forms.{Form, directive, query, rule, fact, form, directive_of, directives, ComesNext}
use Rattle.ml_reader.specs.Rules.{Declare, RulesGoWrong, bad_declaration, declared_twice}
use Rattle.ml_reader.specs.inside.rules.RulesSteps.{Becomes, no_directive, adds_one, IsWrong, declares_nothing, declares_again}
use Rattle.ml_reader.specs.declared.fault.ReadFault.{ReadFault}
use Rattle.ml_reader.specs.declared.fault.ReadStop.{ReadStop}
use Rattle.ml_reader.specs.declared.fault.ReadStop.TheVariants.{Fault}

-- a stop at a fault is at that fault
pub same_fault : {A : Type 0} (s : ReadStop) (f g : ReadFault) → s ≡ Fault g → ◌≡◌ {A = Result A ReadStop} (Err s) (Err (Fault f)) → g ≡ f
same_fault s f g is e = cc (is, e)

pub directive_is : (x : Form) (t : Tree) → directive_of x ≡ Some t → x ≡ directive t
directive_is (directive u) t e = cc e
directive_is (query u) t e = cc e
directive_is (rule h b) t e = cc e
directive_is (fact h) t e = cc e

pub filter_map-append : {X Y : Type 0} (h : X → Option Y) (xs ys : List X) → filter_map h (xs ++ ys) ≡ filter_map h xs ++ filter_map h ys
filter_map-append h [] ys = refl
filter_map-append {X} {Y} h (x ∷ xs) ys = by (h x) (filter_map-append h xs ys)
  where
    by : (r : Option Y) → filter_map h (xs ++ ys) ≡ filter_map h xs ++ filter_map h ys
        → cons_option r (filter_map h (xs ++ ys)) ≡ cons_option r (filter_map h xs) ++ filter_map h ys
    by None e = e
    by (Some y) e = ap (λ zs. y ∷ zs) e

pub zip_append : {A B : Type 0} (R : A → B → Type 0) (xs : List A) (ys : List B) (x : A) (y : B) → AllZip R xs ys → R x y
    → AllZip R (xs ++ x ∷ []) (ys ++ y ∷ [])
zip_append R [] [] x y all r = (r, tt)
zip_append R [] (z ∷ ys) x y all r = absurd all
zip_append R (z ∷ xs) [] x y all r = absurd all
zip_append R (z ∷ xs) (w ∷ ys) x y all r = (all.0, zip_append R xs ys x y all.1 r)

declares_nothing_more : (before : List ReadClause) (c : ReadClause) (r : Option Tree) → directive_of (form c.term) ≡ r
    → directives (before ++ c ∷ []) ≡ directives before ++ cons_option r []
declares_nothing_more before c r is = filter_map-append (λ c. directive_of (form c.term)) before (c ∷ []) ∙ ap (λ r. directives before ++ cons_option r []) is

-- one clause more
pub declare_more : (before : List ReadClause) (c : ReadClause) (ds ds' : List Decl) → Declare before ds → Becomes c ds ds' → Declare (before ++ c ∷ []) ds'
declare_more before c ds ds' h (no_directive none) = record {
  each = subst (λ ts. AllZip Declares ts ds) (sym (declares_nothing_more before c None none ∙ append-nil (directives before))) h.each;
  once = h.once;
}
declare_more before c ds ds' h (adds_one t d is declares other) = record {
  each =
      subst (λ ts. AllZip Declares ts (ds ++ d ∷ [])) (sym (declares_nothing_more before c (Some t) (ap directive_of is)))
      (zip_append Declares (directives before) ds t d h.each declares);
  once = once_more ds d h.once other;
}

-- at most one declaration more
pub one_at_most : (c : ReadClause) (ds ds' : List Decl) → Becomes c ds ds' → length ds' ≤ 1 + length ds
one_at_most c ds ds' (no_directive none) = omega arith
one_at_most c ds ds' (adds_one t d is declares other) = omega (arith, length_push ds d)

-- where the clauses go wrong
pub goes_wrong : (cs before : List ReadClause) (c : ReadClause) (ds : List Decl) (f : ReadFault) → ComesNext cs before c → Declare before ds → IsWrong c ds f
    → RulesGoWrong cs f
goes_wrong cs before c ds f next h (declares_nothing t is none) = bad_declaration t next h is none
goes_wrong cs before c ds f next h (declares_again t d is declares there) = declared_twice t d next h is declares there

-- a stop that is handed on
pub handed_on : {A B : Type 0} (r : Result A ReadStop) (s s' : ReadStop) (f : ReadFault) → r ≡ Err s → s ≡ s' → r ≡ Err (Fault f)
    → ◌≡◌ {A = Result B ReadStop} (Err s') (Err (Fault f))
handed_on r s s' f is same e = let h : s ≡ Fault f = cc (is, e) in ap Err (sym same ∙ h)

-- an item of a list, with what stands before and behind it
pub split_at : {X : Type 0} (xs : List X) (i : ℕ) (x : X) → i < length xs → x ≡ get_or xs i x → xs ≡ take i xs ++ x ∷ drop (i + 1) xs
split_at xs i x low is =
    let on : i + 1 ≡ suc i = omega arith in
    sym (take-append-drop i xs) ∙ ap (λ ys. take i xs ++ ys) (drop-cons xs i x low ∙ ap (λ y. y ∷ drop (suc i) xs) (sym is) ∙ ap (λ n. x ∷ drop n xs) (sym on))

pub one_further : {X : Type 0} (xs : List X) (i : ℕ) (x : X) → i < length xs → x ≡ get_or xs i x → take (i + 1) xs ≡ take i xs ++ x ∷ []
one_further xs i x low is = take_more xs i x low ∙ ap (λ y. take i xs ++ y ∷ []) (sym is)

-- the next clause of those that are read
pub comes_next : (reads : List Read) (i : ℕ) (r : Read) → i < length reads → r ≡ get_or reads i r
    → ComesNext (map read_seen reads) (map read_seen (take i reads)) (read_seen r)
comes_next reads i r low is = record {
  after = map read_seen (drop (i + 1) reads);
  whole = ap (map read_seen) (split_at reads i r low is) ∙ map-append read_seen (take i reads) (r ∷ drop (i + 1) reads);
}

pub one_read_further : (reads : List Read) (i : ℕ) (r : Read) → i < length reads → r ≡ get_or reads i r
    → map read_seen (take (i + 1) reads) ≡ map read_seen (take i reads) ++ read_seen r ∷ []
one_read_further reads i r low is = ap (map read_seen) (one_further reads i r low is) ∙ map-append read_seen (take i reads) (r ∷ [])
