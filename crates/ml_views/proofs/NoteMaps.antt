-- Maps to lists of notes, and what it means to put a list at a key.
use Rattle.std.proofs.Common.{◌≡◌, ◌≢◌, List, [], ◌∷◌, Bool, true, false, cond, refl, sym, ap, ◌∙◌, Some, None}
use Rattle.std.specs.Prelude.{Option}
use Rattle.std.specs.declared.cmp.Ordering.{Ordering}
use Rattle.std.specs.declared.cmp.Ordering.TheVariants.{Less, Equal, Greater}
use Rattle.std.specs.Option.{unwrap_or}
use Rattle.std.specs.Ordering.{nat_cmp, bool_cmp, is_eq, eq_by_cmp}
use Rattle.std.specs.Cmp.{IsTotalOrder, bool_cmp_total, eq_by_cmp_equiv, nat_cmp_total, on_total}
use Rattle.std.specs.Cmp.Lexicographic.{lists_total}
use Rattle.std.proofs.lemmas.Cmp.{then_total}
use Rattle.std.proofs.lemmas.Map.Lookups.{exact_pairs, exact_unsigned}
use Rattle.std.specs.FinMap.{FinMap, IsAntisymmetric, get, get-insert, get-remove, same_map, slice_cmp-IsAntisymmetric}
use Rattle.ml_views.specs.UndoLog.{FileKey, key_cmp, file_key_cmp, notes_at, with_notes, HasNotesAtEachKey}
use Rattle.ml_views.specs.declared.note.Note.{Note}

bool_cmp_exact : IsAntisymmetric bool_cmp
bool_cmp_exact true true e = refl
bool_cmp_exact true false e = cc
bool_cmp_exact false true e = cc
bool_cmp_exact false false e = refl

pub key_cmp_total : IsTotalOrder key_cmp
key_cmp_total = lists_total bool_cmp_total

pub key_cmp_exact : IsAntisymmetric key_cmp
key_cmp_exact = slice_cmp-IsAntisymmetric bool_cmp_exact

pub file_key_cmp_total : IsTotalOrder file_key_cmp
file_key_cmp_total = then_total (on_total (λ (p : FileKey). p.0) nat_cmp_total) (on_total (λ (p : FileKey). p.1) key_cmp_total)

pub file_key_cmp_exact : IsAntisymmetric file_key_cmp
file_key_cmp_exact = exact_pairs nat_cmp key_cmp exact_unsigned key_cmp_exact

-- what a map has at a key with these notes
abbrev pub listed : List Note → Option (List Note)
listed [] = None
listed (n ∷ ns) = Some (n ∷ ns)

pub listed_is_not_empty : (ns : List Note) → listed ns ≢ Some []
listed_is_not_empty [] e = cc
listed_is_not_empty (n ∷ ns) e = cc

pub is_equal : (o : Ordering) → is_eq o ≡ true → o ≡ Equal
is_equal Less e = cc
is_equal Equal e = refl
is_equal Greater e = cc

module _ {K : Type 0} {R : K → K → Ordering} (o : IsTotalOrder R) where
  pub get-with_notes : (m : FinMap R (List Note)) (k : K) (ns : List Note) (q : K) → get (with_notes m k ns) q ≡ cond (eq_by_cmp R q k) (listed ns) (get m q)
  get-with_notes m k [] q = get-remove o m k q
  get-with_notes m k (n ∷ ns) q = get-insert o m k (n ∷ ns) q

  at_itself : (k : K) → eq_by_cmp R k k ≡ true
  at_itself k = (eq_by_cmp_equiv o).refl k

  unwrap_listed : (ns : List Note) → unwrap_or (listed ns) [] ≡ ns
  unwrap_listed [] = refl
  unwrap_listed (n ∷ ns) = refl

  -- the notes that were put
  pub notes_at-with_notes : (m : FinMap R (List Note)) (k : K) (ns : List Note) → notes_at (with_notes m k ns) k ≡ ns
  notes_at-with_notes m k ns =
      ap (λ r. unwrap_or r []) (get-with_notes m k ns k ∙ ap (λ b. cond b (listed ns) (get m k)) (at_itself k)) ∙ unwrap_listed ns

  kept : (b : Bool) (ns : List Note) (r : Option (List Note)) → r ≢ Some [] → cond b (listed ns) r ≢ Some []
  kept true ns r h = listed_is_not_empty ns
  kept false ns r h = h

  pub has_notes-with_notes : (m : FinMap R (List Note)) (k : K) (ns : List Note) → HasNotesAtEachKey m → HasNotesAtEachKey (with_notes m k ns)
  has_notes-with_notes m k ns h q e = kept (eq_by_cmp R q k) ns (get m q) (h q) (sym (get-with_notes m k ns q) ∙ e)

  module _ (same : IsAntisymmetric R) where
    -- a map with what it is said to have at each key
    pub is_with_notes : (m n : FinMap R (List Note)) (k : K) (ns : List Note) → ((q : K) → get n q ≡ cond (eq_by_cmp R q k) (listed ns) (get m q))
        → n ≡ with_notes m k ns
    is_with_notes m n k ns h = same_map o same _ _ (λ q. h q ∙ sym (get-with_notes m k ns q))

    over : (b : Bool) (x y z : Option (List Note)) → cond b x (cond b y z) ≡ cond b x z
    over true x y z = refl
    over false x y z = refl

    -- the later notes stand
    pub with_notes_twice : (m : FinMap R (List Note)) (k : K) (ns ms : List Note) → with_notes (with_notes m k ns) k ms ≡ with_notes m k ms
    with_notes_twice m k ns ms = is_with_notes m _ k ms (λ q.
        get-with_notes (with_notes m k ns) k ms q ∙ (ap (cond (eq_by_cmp R q k) (listed ms)) (get-with_notes m k ns q)
        ∙ over (eq_by_cmp R q k) (listed ms) (listed ns) (get m q)))

    relisted : (r : Option (List Note)) → r ≢ Some [] → r ≡ listed (unwrap_or r [])
    relisted None h = refl
    relisted (Some []) h = absurd (h refl)
    relisted (Some (n ∷ ns)) h = refl

    chosen : (b : Bool) (x y : Option (List Note)) → (b ≡ true → y ≡ x) → y ≡ cond b x y
    chosen true x y h = h refl
    chosen false x y h = refl

    -- a map with the notes that it has
    pub with_its_notes : (m : FinMap R (List Note)) (k : K) → HasNotesAtEachKey m → with_notes m k (notes_at m k) ≡ m
    with_its_notes m k h = sym (is_with_notes m m k (notes_at m k) (λ q. chosen (eq_by_cmp R q k) _ _ (λ e.
        ap (get m) (same q k (is_equal _ e)) ∙ relisted (get m k) (h k))))

-- keys that differ don't tie
pub apart : {K : Type 0} {R : K → K → Ordering} → IsAntisymmetric R → (q k : K) → q ≢ k → eq_by_cmp R q k ≡ false
apart {R = R} same q k h = at (R q k) (λ e. h (same q k e))
  where
    at : (o : Ordering) → (o ≡ Equal → ⊥) → is_eq o ≡ false
    at Less h = refl
    at Equal h = absurd (h refl)
    at Greater h = refl
