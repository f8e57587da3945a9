-- The modes that the entries of one file's map stand for, read off the map's own entries.
use Rattle.std.proofs.Common.{◌≡◌, ℕ, Bool, true, false, cond, List, [], ◌∷◌, ◌++◌, map, refl, sym, ap, ◌∙◌, Some, None, Ok, Err}
use Rattle.std.specs.Prelude.{Option, ◌==◌, ◌&&◌, ◌||◌, Result, OnOk, OnErr}
use Rattle.std.specs.Option.{option_and_then}
use Rattle.std.specs.List.{flat_map, list_any, IsDistinct}
use Rattle.std.specs.Map.{lookup, keys_of}
use Rattle.std.specs.Ordering.{bool_cmp, nat_cmp, is_eq, eq_by_cmp, ordering_then}
use Rattle.std.specs.declared.cmp.Ordering.{Ordering}
use Rattle.std.specs.declared.cmp.Ordering.TheVariants.{Less, Equal, Greater}
use Rattle.std.specs.Cmp.{IsTotalOrder, on_total, eq_by_cmp_equiv, bool_cmp_total}
use Rattle.std.specs.Cmp.Lexicographic.{slice_cmp, lists_total}
use Rattle.std.proofs.lemmas.Cmp.{then_total, nat_cmp_total}
use Rattle.std.proofs.Common.{arith}
use Rattle.std.proofs.lemmas.Bool.Decides.{nat_tests}
use Rattle.std.proofs.lemmas.Map.{lookup-none}
use Rattle.std.proofs.lemmas.Map.Entries.{none_past_head}
use Rattle.std.proofs.lemmas.Map.Keys.{IsDistinct-tail, IsDistinct-from_sorted}
use Rattle.std.proofs.lemmas.Map.Lookups.{exact_pairs, exact_unsigned}
use Rattle.std.specs.FinMap.{IsAntisymmetric, find, get-from_entries, same_map, slice_cmp-IsAntisymmetric}
use Rattle.std.specs.BTreeMap.{BTreeMap, IsOrdered, UpdatesBy}
use Rattle.ml_bits.specs.BitList.{BitList, bits_cmp, bits_cmp_total}
use Rattle.ml_desk.specs.declared.mode.Mode.{Mode}
use Rattle.ml_desk.specs.declared.mode.Mode.TheVariants.{S, X}
use Rattle.ml_locks.specs.Changes.{stronger}
use Rattle.ml_locks.specs.Modes.{slot_cmp, FileModes, held_in, same_bits}
use Rattle.ml_locks.specs.inside.Stored.{holder_mode, held_slots, entry_slots, file_modes}
use Rattle.ml_locks.specs.declared.holders.Holders.{Holders}
use Rattle.ml_locks.specs.declared.holders.Holders.TheVariants.{Nobody, One, Readers}

pub slot_cmp_total : IsTotalOrder slot_cmp
slot_cmp_total = then_total (on_total (λ (p : List Bool × ℕ). p.0) (lists_total bool_cmp_total)) (on_total (λ (p : List Bool × ℕ). p.1) nat_cmp_total)

bool_cmp_exact : IsAntisymmetric bool_cmp
bool_cmp_exact false false e = refl
bool_cmp_exact false true e = cc
bool_cmp_exact true false e = cc
bool_cmp_exact true true e = refl

pub bits_exact : IsAntisymmetric (slice_cmp bool_cmp)
bits_exact = slice_cmp-IsAntisymmetric bool_cmp_exact

pub slot_cmp_exact : IsAntisymmetric slot_cmp
slot_cmp_exact = exact_pairs (slice_cmp bool_cmp) nat_cmp bits_exact exact_unsigned

-- files whose sessions hold the same are equal
pub same_file : (f g : FileModes) → ((s : ℕ) (u : List Bool) → held_in f s u ≡ held_in g s u) → f ≡ g
same_file f g e = same_map slot_cmp_total slot_cmp_exact f g (λ q. e q.1 q.0)

both : (o p : Ordering) → is_eq (ordering_then o p) ≡ (is_eq o && is_eq p)
both Less p = refl
both Equal p = refl
both Greater p = refl

same_number : (a b : ℕ) → is_eq (nat_cmp a b) ≡ (b == a)
same_number a b = grind (arith, nat_tests)

slot_test : (u v : List Bool) (s k : ℕ) → is_eq (slot_cmp (u, s) (v, k)) ≡ (same_bits u v && (k == s))
slot_test u v s k = both (slice_cmp bool_cmp u v) (nat_cmp s k) ∙ ap (λ b. same_bits u v && b) (same_number s k)

or_else : Option Mode → Option Mode → Option Mode
or_else None r = r
or_else (Some m) r = Some m

-- the first holder that is the session gives its mode
module _ (u v : List Bool) (s : ℕ) (rest : List ((List Bool × ℕ) × Mode)) where
  abbrev after : Option Mode
  after = find slot_cmp (u, s) rest

  same_either : (b : Bool) (r : Option Mode) → r ≡ cond b r r
  same_either true r = refl
  same_either false r = refl

  one_more : (b t a : Bool) (m : Mode) (r : Option Mode) → cond (b && t) (Some m) (cond b (cond a (Some m) r) r) ≡ cond b (cond (t || a) (Some m) r) r
  one_more true true a m r = refl
  one_more true false a m r = refl
  one_more false t a m r = refl

  find_readers : (ks : List ℕ) → find slot_cmp (u, s) (map (λ k. ((v, k), S)) ks ++ rest) ≡ cond (same_bits u v) (cond (list_any (λ k. k == s) ks)
      (Some S) after) after
  find_readers [] = same_either (same_bits u v) after
  find_readers (k ∷ ks) = ap (λ b. cond b (Some S) (find slot_cmp (u, s) (map (λ k. ((v, k), S)) ks ++ rest))) (slot_test u v s k)
      ∙ (ap (cond (same_bits u v && (k == s)) (Some S)) (find_readers ks) ∙ one_more (same_bits u v) (k == s) (list_any (λ k. k == s) ks) S after)

  chosen : (b t : Bool) (m : Mode) (r : Option Mode) → cond b (cond t (Some m) r) r ≡ cond b (or_else (cond t (Some m) None) r) r
  unfolding or_else
  chosen true true m r = refl
  chosen true false m r = refl
  chosen false t m r = refl

  only : (b t : Bool) (m : Mode) (r : Option Mode) → cond (b && t) (Some m) r ≡ cond b (or_else (cond t (Some m) None) r) r
  unfolding or_else
  only true true m r = refl
  only true false m r = refl
  only false t m r = refl

  find_holders : (h : Holders) → find slot_cmp (u, s) (held_slots v h ++ rest) ≡ cond (same_bits u v) (or_else (holder_mode h s) after) after
  unfolding or_else
  find_holders Nobody = same_either (same_bits u v) after
  find_holders (One k m) = ap (λ b. cond b (Some m) after) (slot_test u v s k) ∙ only (same_bits u v) (k == s) m after
  find_holders (Readers ks) = find_readers ks.items ∙ chosen (same_bits u v) (list_any (λ k. k == s) ks.items) S after

-- the holders of a prefix, as the map has them
abbrev pub stored_at : List Bool → List (BitList × Holders) → Option Holders
stored_at u es = lookup (λ (k : BitList). is_eq (slice_cmp bool_cmp u k.bits)) es

abbrev pub mode_among : Option Holders → ℕ → Option Mode
mode_among found s = option_and_then (λ h. holder_mode h s) found

last : (o : Option Mode) → or_else o None ≡ o
unfolding or_else
last None = refl
last (Some m) = refl

unpassed : (b : Bool) (h : Holders) (s : ℕ) (found : Option Holders) → (b ≡ true → found ≡ None) →
    cond b (or_else (holder_mode h s) (mode_among found s)) (mode_among found s) ≡ mode_among (cond b (Some h) found) s
unpassed true h s found none = ap (λ o. or_else (holder_mode h s) (mode_among o s)) (none refl) ∙ (last (holder_mode h s) ∙ refl)
unpassed false h s found none = refl

find_stored : (u : List Bool) (s : ℕ) (es : List (BitList × Holders)) → IsDistinct (eq_by_cmp bits_cmp) (keys_of es) →
    find slot_cmp (u, s) (flat_map entry_slots es) ≡ mode_among (stored_at u es) s
find_stored u s [] d = refl
find_stored u s (e ∷ es) d = find_holders u e.0.bits s (flat_map entry_slots es) e.1
    ∙ (ap (λ r. cond (same_bits u e.0.bits) (or_else (holder_mode e.1 s) r) r) (find_stored u s es (IsDistinct-tail (eq_by_cmp bits_cmp) e.0 (keys_of es) d))
    ∙ unpassed (same_bits u e.0.bits) e.1 s (stored_at u es) (λ t. lookup-none _ es (none_past_head (eq_by_cmp_equiv bits_cmp_total)
    (record { bits = u; room = 0 }) e es d t)))

-- what a session holds is what the holders of that prefix say
pub held_stored : (m : BTreeMap BitList Holders) → IsOrdered bits_cmp m → (s : ℕ) (u : List Bool) → held_in (file_modes m.entries) s u ≡ mode_among
    (stored_at u m.entries) s
held_stored m ordered s u = get-from_entries slot_cmp_total (flat_map entry_slots m.entries) (u, s) ∙ find_stored u s m.entries
    (IsDistinct-from_sorted bits_cmp (keys_of m.entries) ordered)

-- what a session holds of a prefix that the map was asked for
pub held_found : (m : BTreeMap BitList Holders) → IsOrdered bits_cmp m → (f : FileModes) → file_modes m.entries ≡ f → (u : List Bool)
    (found : Option Holders) →
    found ≡ stored_at u m.entries → (s : ℕ) → held_in f s u ≡ mode_among found s
held_found m ordered f is u found e s = ap (λ g. held_in g s u) (sym is) ∙ (held_stored m ordered s u ∙ ap (λ o. mode_among o s) (sym e))

over_found : (b : Bool) (w found : Option Holders) (s : ℕ) → mode_among (cond b w found) s ≡ cond b (mode_among w s) (mode_among found s)
over_found true w found s = refl
over_found false w found s = refl

-- what is held after the map was changed at a prefix
pub held_updated : (m n : BTreeMap BitList Holders) → IsOrdered bits_cmp m → IsOrdered bits_cmp n → (f : FileModes) → file_modes m.entries ≡ f →
    (k : BitList) (w : Option Holders) →
    UpdatesBy bits_cmp (bits_cmp k) m n w → (s : ℕ) (u : List Bool) → held_in (file_modes n.entries) s u ≡ cond (same_bits u k.bits)
    (mode_among w s) (held_in f s u)
held_updated m n ordered_m ordered_n f is k w h s u =
    let q : BitList = record { bits = u; room = 0 } in
    held_stored n ordered_n s u
    ∙ (ap (λ o. mode_among o s) (h.0 q)
    ∙ (over_found (is_eq (bits_cmp k q)) w (stored_at u m.entries) s
    ∙ (ap (λ b. cond b (mode_among w s) (mode_among (stored_at u m.entries) s)) ((eq_by_cmp_equiv (lists_total bool_cmp_total)).symm k.bits u)
    ∙ ap (cond (same_bits u k.bits) (mode_among w s)) (sym (held_stored m ordered_m s u) ∙ ap (λ g. held_in g s u) is))))

is_equal : (o : Ordering) → is_eq o ≡ true → o ≡ Equal
is_equal Less e = cc
is_equal Equal e = refl
is_equal Greater e = cc

-- prefixes that pass the test are the same
pub same_prefix : (u v : List Bool) → same_bits u v ≡ true → u ≡ v
same_prefix u v e = bits_exact u v (is_equal _ e)

-- one holder's part of a change at a prefix
pub at_holder : (a b : Bool) (m x y : Option Mode) → (b ≡ true → x ≡ y) → cond b (cond a m x) y ≡ cond (a && b) m y
at_holder true true m x y e = refl
at_holder true false m x y e = refl
at_holder false true m x y e = e refl
at_holder false false m x y e = refl

same_sessions : (k s : ℕ) → (k == s) ≡ (s == k)
same_sessions k s = grind (arith, nat_tests)

-- a session alone at a prefix that nobody held
pub one_holder : (k s : ℕ) (b : Bool) (m : Mode) (before : Option Mode) → (b ≡ true → before ≡ None) → cond b (cond (k == s)
    (Some m) None) before ≡ cond ((s == k) && b) (Some m) before
one_holder k s b m before e = ap (λ t. cond b (cond t (Some m) None) before) (same_sessions k s) ∙ at (s == k) b e
  where
    at : (t b : Bool) → (b ≡ true → before ≡ None) → cond b (cond t (Some m) None) before ≡ cond (t && b) (Some m) before
    at true true e = refl
    at true false e = refl
    at false true e = sym (e refl)
    at false false e = refl

-- a holder's mode made stronger, as a part of a change at a prefix
pub stronger_there : (a b : Bool) (x y : Option Mode) (f : Option Mode → Option Mode) → (b ≡ true → x ≡ y) → cond b (cond a (f x) x) y ≡ cond (a && b) (f y) y
stronger_there true true x y f e = ap f (e refl)
stronger_there true false x y f e = refl
stronger_there false true x y f e = e refl
stronger_there false false x y f e = refl

-- nothing has changed at a prefix
pub same_there : (b : Bool) (x y : Option Mode) → (b ≡ true → x ≡ y) → cond b x y ≡ y
same_there true x y e = e refl
same_there false x y e = refl

pub ok_alike : {T E : Type 0} (r : Result T E) (P Q : Type 0) → (P → Q) → OnOk r P → OnOk r Q
ok_alike (Ok t) P Q f p = f p
ok_alike (Err e) P Q f p = p

pub err_alike : {T E : Type 0} (r : Result T E) (P Q : Type 0) → (P → Q) → OnErr r P → OnErr r Q
err_alike (Ok t) P Q f p = p
err_alike (Err e) P Q f p = f p

stronger_none : (m : Mode) → m ≡ stronger m None
stronger_none S = refl
stronger_none X = refl

-- a mode that is the first at a prefix is the stronger one there
pub first_there : (a b : Bool) (m : Mode) (x y : Option Mode) → x ≡ y → (b ≡ true → y ≡ None) → cond (a && b) (Some m) x ≡ cond (a && b) (Some
    (stronger m y)) y
first_there true true m x y e f = ap Some (stronger_none m ∙ ap (stronger m) (sym (f refl)))
first_there true false m x y e f = e
first_there false b m x y e f = e

same_number_itself : (k : ℕ) → (k == k) ≡ true
same_number_itself k = grind (arith, nat_tests)

pub numbers_alike : (s k : ℕ) → (s == k) ≡ true → s ≡ k
numbers_alike s k e = grind (arith, nat_tests)

pub two_true : (a b : Bool) → (a && b) ≡ true → (a ≡ true) × (b ≡ true)
two_true true b e = (refl, e)
two_true false b e = absurd (no e)
  where
    no : false ≡ true → ⊥
    no e = cc

-- a test of a session and a prefix passes at these alone
pub at_slot : (s k : ℕ) (u v : List Bool) → ((s == k) && same_bits u v) ≡ true → (s ≡ k) × (u ≡ v)
at_slot s k u v e = let p = two_true (s == k) (same_bits u v) e in (numbers_alike s k p.0, same_prefix u v p.1)

-- and it passes there
pub at_itself : (k : ℕ) (u : List Bool) (x y : Option Mode) → cond ((k == k) && same_bits u u) x y ≡ x
at_itself k u x y = ap (λ b. cond (b && same_bits u u) x y) (same_number_itself k)
    ∙ ap (λ b. cond b x y) ((eq_by_cmp_equiv (lists_total bool_cmp_total)).refl u)

-- what is taken back is as before
pub restored : (t : Bool) (b x y : Option Mode) → (t ≡ true → b ≡ y) → cond t b (cond t x y) ≡ y
restored true b x y e = e refl
restored false b x y e = refl
