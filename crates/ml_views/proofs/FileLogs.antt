-- What the search tree of a file stands for, after each of its changes.
use Rattle.std.proofs.Common.{◌≡◌, ◌≢◌, List, [], ◌∷◌, ◌++◌, Bool, true, false, cond, refl, sym, ap, subst, ◌∙◌, Some, None, arith}
use Rattle.std.specs.Prelude.{Option, Result, Ok, Err, OnOk, OnErr, option_map, IsSome, length}
use Rattle.std.specs.Cmp.{eq_by_cmp_equiv}
use Rattle.std.specs.declared.cmp.Ordering.{Ordering}
use Rattle.std.specs.declared.cmp.Ordering.TheVariants.{Less, Equal, Greater}
use Rattle.std.specs.Option.{unwrap_or}
use Rattle.std.specs.Ordering.{is_eq, is_gt, eq_by_cmp}
use Rattle.std.specs.BTreeMap.{BTreeMap, UpdatesBy, get_by, IsLowerBound}
use Rattle.std.specs.Map.{lookup}
use Rattle.std.specs.FinMap.{get, empty, get-empty}
use Rattle.ml_bits.specs.BitList.{BitList, bits_cmp}
use Rattle.ml_views.specs.UndoLog.{key_cmp, notes_at, with_notes, HasNotesAtEachKey}
use Rattle.ml_views.specs.inside.Layout.{FileLog, file_log, notes_of, IsFirstKey}
use Rattle.ml_views.specs.declared.note.Note.{Note}
use Rattle.ml_views.specs.declared.note_list.NoteList.{NoteList}
use Rattle.ml_views.proofs.NoteMaps.{listed, key_cmp_total, key_cmp_exact, is_with_notes}
use Rattle.ml_views.proofs.Seen.{get_seen, at_each}

abbrev pub Tree : Type 0
Tree = BTreeMap BitList NoteList

abbrev bits_of : BitList → List Bool
bits_of k = k.bits

abbrev key_of : List Bool → BitList
key_of q = record { bits = q; room = 0 }

-- what is noted of a key
pub get_file : (m : Tree) (k : BitList) → get (file_log m.entries) k.bits ≡ option_map notes_of (get_by (bits_cmp k) m)
get_file m k = get_seen bits_of notes_of key_cmp key_cmp_total key_of (λ q. refl) m.entries k.bits

not_none : (ns : List Note) (n : Note) → Some (ns ++ n ∷ []) ≡ listed (ns ++ n ∷ [])
not_none [] n = refl
not_none (m ∷ ns) n = refl

-- a key's notes after they were written
pub updated : (m n : Tree) (k : BitList) (l : NoteList) (ns : List Note) → UpdatesBy bits_cmp (bits_cmp k) m n (Some l) → notes_of l ≡ ns
    → file_log n.entries ≡ with_notes (file_log m.entries) k.bits ns
updated m n k l ns u e = is_with_notes key_cmp_total key_cmp_exact (file_log m.entries) (file_log n.entries) k.bits ns (λ q.
    at_each bits_of notes_of key_cmp key_cmp_total key_of (λ q. refl) m n k (Some l) u q
    ∙ ap (λ w. cond (eq_by_cmp key_cmp q k.bits) w (get (file_log m.entries) q)) (not_none l.earlier.items l.last ∙ ap listed e))

-- a key that was taken out
pub removed : (m n : Tree) (k : BitList) → UpdatesBy bits_cmp (bits_cmp k) m n None → file_log n.entries ≡ with_notes (file_log m.entries) k.bits []
removed m n k u = is_with_notes key_cmp_total key_cmp_exact (file_log m.entries) (file_log n.entries) k.bits [] (λ q.
    at_each bits_of notes_of key_cmp key_cmp_total key_of (λ q. refl) m n k None u q)

-- the notes of a key that was found
pub found : (f : FileLog) (m : Tree) (k : BitList) (l : NoteList) → file_log m.entries ≡ f → Some l ≡ get_by (bits_cmp k) m → notes_at f k.bits ≡ notes_of l
found f m k l v e = ap (λ (t : FileLog). notes_at t k.bits) (sym v) ∙ ap (λ o. unwrap_or o []) (get_file m k ∙ ap (option_map notes_of) (sym e))

-- and of one that wasn't
pub missed : (f : FileLog) (m : Tree) (k : BitList) → file_log m.entries ≡ f → None ≡ get_by (bits_cmp k) m → notes_at f k.bits ≡ []
missed f m k v e = ap (λ (t : FileLog). notes_at t k.bits) (sym v) ∙ ap (λ o. unwrap_or o []) (get_file m k ∙ ap (option_map notes_of) (sym e))

no_empty : (ns : List Note) (n : Note) → Some (ns ++ n ∷ []) ≢ Some []
no_empty [] n e = cc
no_empty (m ∷ ns) n e = cc

none_empty : (o : Option NoteList) → option_map notes_of o ≢ Some []
none_empty None e = cc
none_empty (Some l) e = no_empty l.earlier.items l.last e

-- each key has notes
pub file_has_notes : (m : Tree) → HasNotesAtEachKey (file_log m.entries)
file_has_notes m k e = none_empty (get_by (bits_cmp (key_of k)) m) (sym (get_file m (key_of k)) ∙ e)

seen_some : (o : Option NoteList) → IsSome (option_map notes_of o) → IsSome o
seen_some None h = h
seen_some (Some l) h = refl

not_greater : (r : Ordering) → is_gt r ≡ false → r ≢ Greater
not_greater Less e p = cc
not_greater Equal e p = cc
not_greater Greater e p = cc

-- the first key
pub first_key : (f : FileLog) (m : Tree) (k : BitList) (l : NoteList) → file_log m.entries ≡ f → get_by (bits_cmp k) m ≡ Some l
    → IsLowerBound bits_cmp m k → IsFirstKey f k.bits
first_key f m k l v e h = subst (λ (t : FileLog). IsFirstKey t k.bits) v (record {
  noted = subst IsSome (sym (get_file m k ∙ ap (option_map notes_of) e)) refl;
  least = λ other s. not_greater _ (h (key_of other) (seen_some _ (subst IsSome (get_file m (key_of other)) s)));
})

-- a tree without entries stands for no notes, and no other does
pub no_entries : (es : List (BitList × NoteList)) → es ≡ [] → file_log es ≡ empty
no_entries es e = ap file_log e

tied : (k : BitList) → is_eq (bits_cmp k k) ≡ true
tied k = (eq_by_cmp_equiv key_cmp_total).refl k.bits

some_is_none : {A : Type 0} (o : Option A) (x : A) → o ≡ Some x → o ≡ None → ⊥
some_is_none o x e n = cc

head_found : (k : BitList) (l : NoteList) (es : List (BitList × NoteList)) → get (file_log ((k, l) ∷ es)) k.bits ≡ Some (notes_of l)
head_found k l es = get_seen bits_of notes_of key_cmp key_cmp_total key_of (λ q. refl) ((k, l) ∷ es) k.bits
    ∙ ap (λ b. option_map notes_of (cond b (Some l) (lookup (λ (b : BitList). is_eq (key_cmp k.bits b.bits)) es))) (tied k)

pub is_no_entries : (m : Tree) → file_log m.entries ≡ empty → length m.entries ≡ 0
is_no_entries m e = at m.entries e
  where
    at : (es : List (BitList × NoteList)) → file_log es ≡ empty → length es ≡ 0
    at [] e = refl
    at (x ∷ es) e = absurd (some_is_none _ _ (head_found x.0 x.1 es) (ap (λ (t : FileLog). get t x.0.bits) e ∙ get-empty key_cmp x.0.bits))

-- what follows of an answer, where it is that one
pub on_ok : {A E P Q : Type 0} (r : Result A E) → (P → Q) → OnOk r P → OnOk r Q
on_ok (Ok x) f p = f p
on_ok (Err e) f p = p

pub on_err : {A E P Q : Type 0} (r : Result A E) → (P → Q) → OnErr r P → OnErr r Q
on_err (Ok x) f p = p
on_err (Err e) f p = f p

pub none_of_length : (es : List (BitList × NoteList)) → length es ≡ 0 → es ≡ []
none_of_length [] e = refl
none_of_length (x ∷ es) e = absurd (omega arith)

pub by_answer : {A E P Q X : Type 0} (r : Result A E) → OnOk r P → OnErr r Q → (P → X) → (Q → X) → X
by_answer (Ok x) p q f g = f p
by_answer (Err e) p q f g = g q
