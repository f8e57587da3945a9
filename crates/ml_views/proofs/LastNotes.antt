-- The last of some notes, and what they tell at a stamp.
use Rattle.std.proofs.Common.{◌≡◌, ◌≢◌, ℕ, ◌+◌, ◌-◌, ◌<◌, ◌≤◌, suc, get_or, List, [], ◌∷◌, ◌++◌, length, take, Bool, true, false, refl, sym, ap, ◌∙◌, Some, arith, length-append}
use Rattle.std.specs.Prelude.{option_map, slice_get, nat_lt}
use Rattle.std.specs.List.{filter}
use Rattle.std.specs.Option.{unwrap_or}
use Rattle.std.proofs.Math.Seq.{take-append_seam, get_or-append_seam}
use Rattle.std.proofs.lemmas.List.Elements.{filter-append}
use Rattle.std.proofs.Math.Seq.{take-suc}
use Rattle.std.proofs.lemmas.Bool.{lt-ltb}
use Rattle.std.proofs.lemmas.Option.{slice_get-get_or}
use Rattle.ml_views.specs.UndoLog.{last_note, all_but_last, flag_at, notes_before}
use Rattle.ml_views.specs.declared.note.Note.{Note}

one_less : (n : ℕ) → n + 1 - 1 ≡ n
one_less n = omega arith

place_of_last : (ns : List Note) (n : Note) → length (ns ++ n ∷ []) - 1 ≡ length ns
place_of_last ns n = ap (λ k. k - 1) (length-append ns (n ∷ [])) ∙ one_less (length ns)

is_within : (ns : List Note) (n : Note) → length ns < length (ns ++ n ∷ [])
is_within ns n = omega (arith, length-append ns (n ∷ []))

pub last_of_more : (ns : List Note) (n : Note) → last_note (ns ++ n ∷ []) ≡ Some n
last_of_more ns n = ap (slice_get (ns ++ n ∷ [])) (place_of_last ns n)
    ∙ (slice_get-get_or (ns ++ n ∷ []) (length ns) n (is_within ns n) ∙ ap Some (get_or-append_seam ns n [] n))

pub all_but_last_of_more : (ns : List Note) (n : Note) → all_but_last (ns ++ n ∷ []) ≡ ns
all_but_last_of_more ns n = ap (λ k. take k (ns ++ n ∷ [])) (place_of_last ns n) ∙ take-append_seam ns (n ∷ [])

with_one : (stamp : ℕ) (ns : List Note) (n : Note) → notes_before stamp (ns ++ n ∷ []) ≡ notes_before stamp ns ++ notes_before stamp (n ∷ [])
with_one stamp ns n = filter-append (λ (n : Note). nat_lt n.stamp stamp) ns (n ∷ [])

append_none : (ns : List Note) → ns ++ [] ≡ ns
append_none [] = refl
append_none (n ∷ ns) = ap (λ ms. n ∷ ms) (append_none ns)

by_test : (stamp : ℕ) (ns : List Note) (n : Note) (b : Bool) → nat_lt n.stamp stamp ≡ b → notes_before stamp (n ∷ []) ≡ filter (λ (_ : Note). b) (n ∷ [])
by_test stamp ns n b e = ap (λ (t : Bool). filter (λ (_ : Note). t) (n ∷ [])) e

-- a last note with a smaller stamp decides
pub flag_of_last : (stamp : ℕ) (committed : Bool) (ns : List Note) (n : Note) → nat_lt n.stamp stamp ≡ true
    → flag_at stamp committed (ns ++ n ∷ []) ≡ n.present
flag_of_last stamp committed ns n e =
    ap (λ ms. unwrap_or (option_map (λ (n : Note). n.present) (last_note ms)) committed) (with_one stamp ns n
    ∙ ap (λ ms. notes_before stamp ns ++ ms) (by_test stamp ns n true e))
    ∙ ap (λ o. unwrap_or (option_map (λ (n : Note). n.present) o) committed) (last_of_more (notes_before stamp ns) n)

-- and one with a greater stamp doesn't
pub flag_of_others : (stamp : ℕ) (committed : Bool) (ns : List Note) (n : Note) → nat_lt n.stamp stamp ≡ false
    → flag_at stamp committed (ns ++ n ∷ []) ≡ flag_at stamp committed ns
flag_of_others stamp committed ns n e =
    ap (λ ms. unwrap_or (option_map (λ (n : Note). n.present) (last_note ms)) committed)
    (with_one stamp ns n ∙ (ap (λ ms. notes_before stamp ns ++ ms) (by_test stamp ns n false e) ∙ append_none (notes_before stamp ns)))

taken : (ns : List Note) (k : ℕ) (d : Note) → 0 < k → k ≤ length ns → take k ns ≡ take (k - 1) ns ++ get_or ns (k - 1) d ∷ []
taken ns k d p h =
    let e : suc (k - 1) ≡ k = omega arith in
    let w : k - 1 < length ns = omega arith in
    ap (λ j. take j ns) (sym e) ∙ take-suc ns (k - 1) d w

-- the same of the note at a place among the first ones
pub flag_of_place : (stamp : ℕ) (committed : Bool) (ns : List Note) (k : ℕ) (d : Note) → 0 < k → k ≤ length ns → (get_or ns (k - 1) d).stamp < stamp
    → (get_or ns (k - 1) d).present ≡ flag_at stamp committed (take k ns)
flag_of_place stamp committed ns k d p h l = sym (ap (flag_at stamp committed) (taken ns k d p h)
    ∙ flag_of_last stamp committed (take (k - 1) ns) (get_or ns (k - 1) d) (lt-ltb _ _ l))
