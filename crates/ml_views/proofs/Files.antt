-- The undo log that the files of all declarations are, after a change in one of them.
use Rattle.std.proofs.Common.{◌≡◌, ◌≢◌, ℕ, zero, suc, ◌+◌, ◌<◌, ◌≤◌, List, [], ◌∷◌, ◌++◌, length, get_or, set, map, Bool, true, false, cond, refl, sym, ap, subst, ◌∙◌, Some, None, arith, inl, inr, length-append}
use Rattle.std.specs.Prelude.{Option, IsSome, ◌⊎◌, ◌==◌, ◌^◌, max, MatchOption, is_some, IsTrue, ◌↔◌, not}
use Rattle.std.proofs.lemmas.List.{length-set, set-get_or}
use Rattle.std.specs.declared.cmp.Ordering.{Ordering}
use Rattle.std.specs.declared.cmp.Ordering.TheVariants.{Less, Equal, Greater}
use Rattle.std.specs.Option.{unwrap_or}
use Rattle.std.specs.Ordering.{nat_cmp, is_eq, eq_by_cmp, ordering_then}
use Rattle.std.specs.Cmp.{eq_by_cmp_equiv, nat_cmp_total}
use Rattle.std.proofs.lemmas.Bool.{cases_eq, cases_lt}
use Rattle.std.specs.FinMap.{entries, get, find, empty, get-empty, get-entries, get-from_entries, same_map, nat_cmp-IsAntisymmetric}
use Rattle.std.proofs.lemmas.Bool.{lt-ltb}
use Rattle.ml_views.specs.UndoLog.{UndoLog, FileKey, key_cmp, file_key_cmp, notes_at, with_notes, IsFirstNoted, HasNotesAtEachKey}
use Rattle.ml_views.specs.inside.Layout.{FileLog, entry_of, entries_from, undo_log, IsFirstKey, IsFirstFile, AreFiles}
use Rattle.ml_views.specs.declared.note.Note.{Note}
use Rattle.ml_views.proofs.NoteMaps.{listed, key_cmp_total, key_cmp_exact, file_key_cmp_total, file_key_cmp_exact, is_equal, is_with_notes, get-with_notes, has_notes-with_notes}

-- what the file of a declaration has at a key
abbrev pub at_file : List FileLog → ℕ → List Bool → Option (List Note)
at_file [] p b = None
at_file (m ∷ ms) zero b = get m b
at_file (m ∷ ms) (suc p) b = at_file ms p b

same_number : (d : ℕ) → nat_cmp d d ≡ Equal
same_number d = is_equal (nat_cmp d d) ((eq_by_cmp_equiv nat_cmp_total).refl d)

key_here : (d : ℕ) (a b : List Bool) → file_key_cmp (d, a) (d, b) ≡ key_cmp a b
key_here d a b = ap (λ o. ordering_then o (key_cmp a b)) (same_number d)

then_not_equal : (o r : Ordering) → o ≢ Equal → is_eq (ordering_then o r) ≡ false
then_not_equal Less r h = refl
then_not_equal Equal r h = absurd (h refl)
then_not_equal Greater r h = refl

key_there : (p d : ℕ) (a b : List Bool) → p ≢ d → is_eq (file_key_cmp (p, a) (d, b)) ≡ false
key_there p d a b h = then_not_equal (nat_cmp p d) (key_cmp a b) (λ e. h (nat_cmp-IsAntisymmetric p d e))

find_here : (d : ℕ) (es : List (List Bool × List Note)) (b : List Bool) → find file_key_cmp (d, b) (map (entry_of d) es) ≡ find key_cmp b es
find_here d [] b = refl
find_here d (e ∷ es) b = ap (λ o. cond (is_eq o) (Some e.1) (find file_key_cmp (d, b) (map (entry_of d) es))) (key_here d b e.0)
    ∙ ap (cond (is_eq (key_cmp b e.0)) (Some e.1)) (find_here d es b)

find_there : (p d : ℕ) (es : List (List Bool × List Note)) (b : List Bool) → p ≢ d → find file_key_cmp (p, b) (map (entry_of d) es) ≡ None
find_there p d [] b h = refl
find_there p d (e ∷ es) b h = ap (λ t. cond t (Some e.1) (find file_key_cmp (p, b) (map (entry_of d) es))) (key_there p d b e.0 h) ∙ find_there p d es b h

none_of_choice : (t : Bool) (x : List Note) (r s u : Option (List Note)) → cond t (Some x) r ≡ None → (r ≡ None → s ≡ u) → cond t (Some x) s ≡ u
none_of_choice true x r s u e h = cc
none_of_choice false x r s u e h = h e

past_first : (q : FileKey) (xs ys : List (FileKey × List Note)) → find file_key_cmp q xs ≡ None → find file_key_cmp q (xs ++ ys) ≡ find file_key_cmp q ys
past_first q [] ys e = refl
past_first q (x ∷ xs) ys e = none_of_choice (is_eq (file_key_cmp q x.0)) x.1 (find file_key_cmp q xs) _ _ e (past_first q xs ys)

in_first : (q : FileKey) (xs ys : List (FileKey × List Note)) → find file_key_cmp q ys ≡ None → find file_key_cmp q (xs ++ ys) ≡ find file_key_cmp q xs
in_first q [] ys e = e
in_first q (x ∷ xs) ys e = ap (cond (is_eq (file_key_cmp q x.0)) (Some x.1)) (in_first q xs ys e)

find_later : (ms : List FileLog) (p d : ℕ) (b : List Bool) → p < d → find file_key_cmp (p, b) (entries_from d ms) ≡ None
find_later [] p d b h = refl
find_later (m ∷ ms) p d b h =
    let apart : p ≢ d = omega arith in
    let more : p < d + 1 = omega arith in
    past_first (p, b) (map (entry_of d) (entries m)) (entries_from (d + 1) ms) (find_there p d (entries m) b apart) ∙ find_later ms p (d + 1) b more

find_at : (ms : List FileLog) (p d q : ℕ) (b : List Bool) → q ≡ d + p → find file_key_cmp (q, b) (entries_from d ms) ≡ at_file ms p b
find_at [] p d q b e = refl
find_at (m ∷ ms) zero d q b e =
    let is : q ≡ d = omega (arith, e) in
    let more : q < d + 1 = omega (arith, e) in
    in_first (q, b) (map (entry_of d) (entries m)) (entries_from (d + 1) ms) (find_later ms q (d + 1) b more)
    ∙ (ap (λ k. find file_key_cmp (k, b) (map (entry_of d) (entries m))) is ∙ (find_here d (entries m) b ∙ sym (get-entries m b)))
find_at (m ∷ ms) (suc p) d q b e =
    let apart : q ≢ d = omega (arith, e) in
    let is : q ≡ d + 1 + p = omega (arith, e) in
    past_first (q, b) (map (entry_of d) (entries m)) (entries_from (d + 1) ms) (find_there q d (entries m) b apart) ∙ find_at ms p (d + 1) q b is

-- what the log has is what the declaration's file has
pub get_log : (ms : List FileLog) (p : ℕ) (b : List Bool) → get (undo_log ms) (p, b) ≡ at_file ms p b
get_log ms p b =
    let e : p ≡ 0 + p = omega arith in
    get-from_entries file_key_cmp_total (entries_from 0 ms) (p, b) ∙ find_at ms p 0 p b e

at_within : (ms : List FileLog) (p : ℕ) (d : FileLog) (b : List Bool) → p < length ms → at_file ms p b ≡ get (get_or ms p d) b
at_within [] p d b h = absurd (omega (arith, h))
at_within (m ∷ ms) zero d b h = refl
at_within (m ∷ ms) (suc p) d b h =
    let w : p < length ms = omega (arith, h) in
    at_within ms p d b w

pub at_past : (ms : List FileLog) (p : ℕ) (b : List Bool) → length ms ≤ p → at_file ms p b ≡ None
at_past [] p b h = refl
at_past (m ∷ ms) zero b h = absurd (omega (arith, h))
at_past (m ∷ ms) (suc p) b h =
    let w : length ms ≤ p = omega (arith, h) in
    at_past ms p b w

at_set_same : (ms : List FileLog) (p : ℕ) (m : FileLog) (b : List Bool) → p < length ms → at_file (set ms p m) p b ≡ get m b
at_set_same [] p m b h = absurd (omega (arith, h))
at_set_same (x ∷ ms) zero m b h = refl
at_set_same (x ∷ ms) (suc p) m b h =
    let w : p < length ms = omega (arith, h) in
    at_set_same ms p m b w

at_set_other : (ms : List FileLog) (p k : ℕ) (m : FileLog) (b : List Bool) → k ≢ p → at_file (set ms p m) k b ≡ at_file ms k b
at_set_other [] p k m b h = refl
at_set_other (x ∷ ms) zero zero m b h = absurd (h refl)
at_set_other (x ∷ ms) zero (suc k) m b h = refl
at_set_other (x ∷ ms) (suc p) zero m b h = refl
at_set_other (x ∷ ms) (suc p) (suc k) m b h =
    let w : k ≢ p = λ e. h (ap (λ n. suc n) e) in
    at_set_other ms p k m b w

-- a file with other notes at one key
pub changed : (ms : List FileLog) (p : ℕ) (m d : FileLog) (b : List Bool) (ns : List Note) → p < length ms → m ≡ with_notes (get_or ms p d) b ns
    → undo_log (set ms p m) ≡ with_notes (undo_log ms) (p, b) ns
changed ms p m d b ns h e = is_with_notes file_key_cmp_total file_key_cmp_exact (undo_log ms) (undo_log (set ms p m)) (p, b) ns (λ q.
    get_log (set ms p m) q.0 q.1 ∙ (at q.0 q.1 (cases_eq q.0 p) ∙ ap (cond (eq_by_cmp file_key_cmp q (p, b)) (listed ns)) (sym (get_log ms q.0 q.1))))
  where
    there : (k : ℕ) (c : List Bool) → k ≡ p → at_file (set ms p m) k c ≡ cond (eq_by_cmp file_key_cmp (k, c) (p, b)) (listed ns) (at_file ms k c)
    there k c is = ap (λ j. at_file (set ms p m) j c) is
        ∙ (at_set_same ms p m c h
        ∙ (ap (λ t. get t c) e
        ∙ (get-with_notes key_cmp_total (get_or ms p d) b ns c
        ∙ (ap (cond (eq_by_cmp key_cmp c b) (listed ns)) (sym (at_within ms p d c h))
        ∙ (ap (λ o. cond (is_eq o) (listed ns) (at_file ms p c)) (sym (key_here p c b))
        ∙ ap (λ j. cond (eq_by_cmp file_key_cmp (j, c) (p, b)) (listed ns) (at_file ms j c)) (sym is))))))

    at : (k : ℕ) (c : List Bool) → (k ≡ p) ⊎ (k ≡ p → ⊥) → at_file (set ms p m) k c ≡ cond (eq_by_cmp file_key_cmp (k, c) (p, b)) (listed ns) (at_file ms k c)
    at k c (inl is) = there k c is
    at k c (inr not) = at_set_other ms p k m c not ∙ ap (λ t. cond t (listed ns) (at_file ms k c)) (sym (key_there k p c b not))

-- the notes of an item in the file of its declaration
pub notes_in_file : (ms : List FileLog) (p : ℕ) (d : FileLog) (b : List Bool) → p < length ms → notes_at (undo_log ms) (p, b) ≡ notes_at (get_or ms p d) b
notes_in_file ms p d b h = ap (λ o. unwrap_or o []) (get_log ms p b ∙ at_within ms p d b h)

-- and of one of a declaration without a file
pub notes_in_no_file : (ms : List FileLog) (p : ℕ) (b : List Bool) → length ms ≤ p → notes_at (undo_log ms) (p, b) ≡ []
notes_in_no_file ms p b h = ap (λ o. unwrap_or o []) (get_log ms p b ∙ at_past ms p b h)

-- a file without notes changes nothing at the end
pub one_more_file : (ms : List FileLog) (m : FileLog) → m ≡ empty → undo_log (ms ++ m ∷ []) ≡ undo_log ms
one_more_file ms m e = same_map file_key_cmp_total file_key_cmp_exact _ _ (λ q. get_log (ms ++ m ∷ []) q.0 q.1 ∙ (at ms q.0 q.1 ∙ sym (get_log ms q.0 q.1)))
  where
    at : (ms : List FileLog) (p : ℕ) (b : List Bool) → at_file (ms ++ m ∷ []) p b ≡ at_file ms p b
    at [] zero b = ap (λ t. get t b) e ∙ get-empty key_cmp b
    at [] (suc p) b = refl
    at (x ∷ ms) zero b = refl
    at (x ∷ ms) (suc p) b = at ms p b

none_at : (ms : List FileLog) → ((k : ℕ) (d : FileLog) → k < length ms → get_or ms k d ≡ empty) → (p : ℕ) (b : List Bool) → at_file ms p b ≡ None
none_at [] h p b = refl
none_at (m ∷ ms) h zero b = ap (λ t. get t b) (h 0 m (omega arith)) ∙ get-empty key_cmp b
none_at (m ∷ ms) h (suc p) b = none_at ms (λ k d l. h (suc k) d (omega (arith, l))) p b

-- files without notes are an empty log
pub no_notes : (ms : List FileLog) → ((k : ℕ) (d : FileLog) → k < length ms → get_or ms k d ≡ empty) → undo_log ms ≡ empty
no_notes ms h = same_map file_key_cmp_total file_key_cmp_exact _ _ (λ q. get_log ms q.0 q.1 ∙ (none_at ms h q.0 q.1 ∙ sym (get-empty file_key_cmp q)))

-- and only those
pub no_notes_in_file : (ms : List FileLog) (p : ℕ) (d : FileLog) → p < length ms → undo_log ms ≡ empty → get_or ms p d ≡ empty
no_notes_in_file ms p d h e = same_map key_cmp_total key_cmp_exact _ _ (λ b.
    sym (at_within ms p d b h) ∙ (sym (get_log ms p b) ∙ (ap (λ (t : UndoLog). get t (p, b)) e ∙ (get-empty file_key_cmp (p, b)
    ∙ sym (get-empty key_cmp b)))))

less : (p j : ℕ) → p < j → nat_cmp p j ≡ Less
less p j h = ap (λ t. cond t Less (cond (p == j) Equal Greater)) (lt-ltb p j h)

none_is_none : (o : Option (List Note)) → o ≡ None → IsSome o → ⊥
none_is_none None e h = cc
none_is_none (Some x) e h = cc

not_greater : (o r : Ordering) → o ≡ Less → ordering_then o r ≢ Greater
not_greater Less r e p = cc
not_greater Equal r e p = cc
not_greater Greater r e p = cc

-- the first key of the first file with notes is the first item of the log
pub first_item : (ms : List FileLog) (p : ℕ) (d : FileLog) (b : List Bool) → IsFirstFile ms p → IsFirstKey (get_or ms p d) b
    → IsFirstNoted (undo_log ms) (p, b)
first_item ms p d b f k = record {
  noted = subst IsSome (sym (get_log ms p b ∙ at_within ms p d b f.within)) k.noted;
  least = λ q s. least q.0 q.1 (cases_eq q.0 p) (subst IsSome (get_log ms q.0 q.1) s);
}
  where
    least : (j : ℕ) (c : List Bool) → (j ≡ p) ⊎ (j ≡ p → ⊥) → IsSome (at_file ms j c) → file_key_cmp (p, b) (j, c) ≢ Greater
    least j c (inl is) s g =
        let here : IsSome (get (get_or ms p d) c) = subst IsSome (ap (λ i. at_file ms i c) is ∙ at_within ms p d c f.within) s in
        k.least c here (sym (key_here p b c) ∙ (ap (λ i. file_key_cmp (p, b) (i, c)) (sym is) ∙ g))
    least j c (inr not) s g = not_greater (nat_cmp p j) (key_cmp b c) (less p j (after j c not s)) g
      where
        after : (j : ℕ) (c : List Bool) → (j ≡ p → ⊥) → IsSome (at_file ms j c) → p < j
        after j c not s =
            let apart : j ≢ p = not in
            let later : j < p → ⊥ = λ l. none_is_none _ (at_within ms j d c (within j l) ∙ (ap (λ t. get t c) (f.before j d l) ∙ get-empty key_cmp c)) s in
            omega (arith, apart, later)
          where
            within : (j : ℕ) → j < p → j < length ms
            within j l = omega (arith, f.within)

module _ (ms : List FileLog) (f : AreFiles ms) where
  -- what is kept of the files after a change of one of them
  pub kept_after_change : (p : ℕ) (m : FileLog) (item : FileKey) (ns : List Note) → undo_log (set ms p m) ≡ with_notes (undo_log ms) item ns
      → AreFiles (set ms p m)
  kept_after_change p m item ns e = record {
    noted = subst (λ (t : UndoLog). HasNotesAtEachKey t) (sym e) (has_notes-with_notes file_key_cmp_total (undo_log ms) item ns f.noted);
    few = subst (λ n. n ≤ 2 ^ 32) (sym (length-set ms p m)) f.few;
  }

  -- and after some were put behind them
  pub kept_after_more : (ss : List FileLog) (p : ℕ) → p < 2 ^ 32 → undo_log ss ≡ undo_log ms → length ss ≤ max (length ms) (p + 1) → AreFiles ss
  kept_after_more ss p h e l = record {
    noted = subst (λ (t : UndoLog). HasNotesAtEachKey t) (sym e) f.noted;
    few = omega (arith, f.few, l, h);
  }

pub no_files : (ms : List FileLog) → ms ≡ [] → AreFiles ms
no_files ms e = subst AreFiles (sym e) (record { noted = λ k h. not_listed _ (sym (get-empty file_key_cmp k) ∙ h); few = omega arith })
  where
    not_listed : (ns : List Note) → None ≡ Some ns → ⊥
    not_listed ns e = cc

-- the log with other notes of an item, which its file then has
pub changed_in : (old : UndoLog) (ms : List FileLog) (p : ℕ) (m f : FileLog) (b : List Bool) (g : List Note → List Note) → undo_log ms ≡ old
    → p < length ms → f ≡ get_or ms p f
    → m ≡ with_notes f b (g (notes_at f b)) → undo_log (set ms p m) ≡ with_notes old (p, b) (g (notes_at old (p, b)))
changed_in old ms p m f b g is h at e =
    let noted : notes_at f b ≡ notes_at (undo_log ms) (p, b) = ap (λ (t : FileLog). notes_at t b) at ∙ sym (notes_in_file ms p f b h) in
    changed ms p m f b (g (notes_at f b)) h (e ∙ ap (λ (t : FileLog). with_notes t b (g (notes_at f b))) at)
    ∙ (ap (λ ns. with_notes (undo_log ms) (p, b) (g ns)) noted ∙ ap (λ (t : UndoLog). with_notes t (p, b) (g (notes_at t (p, b)))) is)

-- an item that is noted has a file
pub has_file : (old : UndoLog) (ms : List FileLog) (p : ℕ) (b : List Bool) → undo_log ms ≡ old → notes_at old (p, b) ≢ [] → p < length ms
has_file old ms p b is h = elim (cases_lt p (length ms)) [
  | inl l ↦ l
  | inr g ↦ absurd (h (ap (λ (t : UndoLog). notes_at t (p, b)) (sym is) ∙ notes_in_no_file ms p b g))
]

-- the notes of an item, as its file and as the log has them
pub same_notes : (old : UndoLog) (ms : List FileLog) (p : ℕ) (f : FileLog) (b : List Bool) → undo_log ms ≡ old → p < length ms → f ≡ get_or ms p f
    → notes_at f b ≡ notes_at old (p, b)
same_notes old ms p f b is h at = ap (λ (t : FileLog). notes_at t b) at ∙ (sym (notes_in_file ms p f b h) ∙ ap (λ (t : UndoLog). notes_at t (p, b)) is)

pub is_emptied : (o : Option ℕ) (b : Bool) (ms : List FileLog) → MatchOption o (undo_log ms ≡ empty) (IsFirstFile ms) → is_some o ≡ not b
    → IsTrue b ↔ (undo_log ms ≡ empty)
is_emptied None true ms e h = (λ t. e, λ t. refl)
is_emptied None false ms e h = absurd (cc)
is_emptied (Some at) true ms f h = absurd (cc)
is_emptied (Some at) false ms f h = (λ t. absurd (cc), λ e. absurd (f.noted empty (no_notes_in_file ms at empty f.within e)))

-- a file that stays
pub same_file : (ms : List FileLog) (p : ℕ) (m f : FileLog) → m ≡ f → f ≡ get_or ms p f → set ms p m ≡ ms
same_file ms p m f e at = ap (set ms p) (e ∙ at) ∙ set-get_or ms p f

-- the same after a file without notes was put behind others
pub one_more : (first ms ss : List FileLog) (m : FileLog) (p : ℕ) → ss ≡ ms ++ m ∷ [] → m ≡ empty → length ms ≤ p
    → (undo_log ms ≡ undo_log first) × (length ms ≤ max (length first) (p + 1))
    → (undo_log ss ≡ undo_log first) × (length ss ≤ max (length first) (p + 1))
one_more first ms ss m p e none l h =
    let longer : length ss ≡ length ms + 1 = ap length e ∙ length-append ms (m ∷ []) in
    (ap undo_log e ∙ (one_more_file ms m none ∙ h.0), omega (arith, longer, l))
