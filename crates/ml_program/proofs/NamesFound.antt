-- The names of the code's tables are those of the search's.
use Rattle.std.proofs.Common.{◌≡◌, ℕ, Bool, true, false, ◌||◌, ◌&&◌, ◌==◌, List, [], ◌∷◌, Some, None, refl, sym, ap, ◌∙◌, cond}
use Rattle.std.specs.Prelude.{is_some, codes}
use Rattle.std.specs.List.{list_any}
use Rattle.std.specs.Str.{bytes_eq}
use Rattle.ml_search.specs.Names.{look_up}
use Rattle.ml_search.specs.Procedures.{has_name, store_names}
use Rattle.ml_search.proofs.DeclarationsFound.{equal_swapped}
use Rattle.ml_program.specs.Links.{store_call, store_calls}

-- a table has a name where it is found there
pub some_named : {A : Type 0} (es : List (List ℕ × A)) (f : List ℕ) → is_some (look_up es f) ≡ list_any (λ e. bytes_eq e.0 f) es
some_named [] f = refl
some_named (e ∷ es) f = by (bytes_eq e.0 f) (some_named es f)
  where
    by : (b : Bool) → is_some (look_up es f) ≡ list_any (λ e. bytes_eq e.0 f) es →
        is_some (cond b (Some e.1) (look_up es f)) ≡ (b || list_any (λ e. bytes_eq e.0 f) es)
    by true h = refl
    by false h = h

gone : (x y : Bool) → y ≡ false → ((x && false) || y) ≡ false
gone true y h = h
gone false y h = h

stays : (x y z : Bool) → y ≡ z → ((x && true) || y) ≡ (x || z)
stays true y z h = refl
stays false y z h = h

with_arity : (a b c d e k : Bool) →
    ((a && k) || ((b && k) || ((c && k) || ((d && k) || ((e && k) || false))))) ≡ cond k (a || (b || (c || (d || (e || false))))) false
with_arity a b c d e true =
    stays a _ _ (stays b _ _ (stays c _ _ (stays d _ _ (stays e false false refl))))
with_arity a b c d e false = gone a _ (gone b _ (gone c _ (gone d _ (gone e false refl))))

-- whether a predicate is a built-in that changes lists
pub has_store : (f : List ℕ) (n : ℕ) → has_name store_names f n ≡ is_some (store_call f n)
has_store f n =
    let a = bytes_eq (codes "insert_tuple") f in
    let b = bytes_eq (codes "delete_tuple") f in
    let c = bytes_eq (codes "assertz") f in
    let d = bytes_eq (codes "asserta") f in
    let e = bytes_eq (codes "retract") f in
    arities_turned f n ∙ with_arity a b c d e (n == 1) ∙ by (n == 1)
  where
    arities_turned : (f : List ℕ) (n : ℕ) → has_name store_names f n ≡ list_any (λ (e : List ℕ × ℕ). bytes_eq e.0 f && (n == 1)) store_names
    arities_turned f n = ap (λ k. list_any (λ (e : List ℕ × ℕ). bytes_eq e.0 f && k) store_names) (equal_swapped 1 n)

    by : (k : Bool) → cond k (list_any (λ (e : List ℕ × _). bytes_eq e.0 f) store_calls) false ≡ is_some (cond k (look_up store_calls f) None)
    by true = sym (some_named store_calls f)
    by false = refl
