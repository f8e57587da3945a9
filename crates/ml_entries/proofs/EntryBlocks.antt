-- The entries of a history, one after another.
use Rattle.std.proofs.Common.{◌≡◌, refl, sym, ap, ◌∙◌, subst, ◌+◌, zero, suc, ◌<◌, ℕ, Bool, List, [], ◌∷◌, ◌++◌, map, length, get_or, Some, slice_get}
use Rattle.std.proofs.Common.{option_map, length-append, arith}
use Rattle.std.proofs.lemmas.List.{map-append, length-map}
use Rattle.std.proofs.lemmas.Option.{slice_get-map, slice_get_read}
use Rattle.ml_term.specs.Keys.{numbers_from}
use Rattle.ml_term.proofs.DefaultKeys.{one_number_more}
use Rattle.ml_search.specs.Db.{Db}
use Rattle.ml_search.specs.History.{Entry, session_result, script_of, db_after, history, history_from}
use Rattle.ml_search.specs.Printed.{block}
use Rattle.ml_search.specs.Program.{Program, Script}
use Rattle.ml_search.specs.Session.{Session}
use Rattle.ml_entries.specs.Entries.{AreEntries, IsEntry, entry_of}

-- the entries with one more, and the lists behind it, where so many stand before it
module _ (p : Program) (scripts : List Script) where
  abbrev entry_at : Db → ℕ × Bool → Entry
  entry_at db o = record { number = o.0; ran = session_result p (script_of scripts o.0) o.1 db }

  abbrev db_behind : ℕ → Db → ℕ × Bool → Db
  db_behind k db o = db_after (session_result p (script_of scripts o.0) o.1 db) k db

  abbrev Behind : ℕ → Db → List (ℕ × Bool) → ℕ × Bool → List Entry × Db
  Behind k db order o =
      let h : List Entry × Db = history_from p k db scripts order in
      (h.0 ++ entry_at h.1 o ∷ [], db_behind (k + length order) h.1 o)

  pub one_entry_more : (k : ℕ) (db : Db) (order : List (ℕ × Bool)) (o : ℕ × Bool) → history_from p k db scripts (order ++ o ∷ []) ≡ Behind k db order o
  one_entry_more k db [] o = let same : k ≡ k + 0 = omega arith in ap (λ m. (entry_at db o ∷ [], db_behind m db o)) same
  one_entry_more k db (e ∷ order) o =
      let after = db_behind k db e in
      let same : (1 + k) + length order ≡ k + suc (length order) = omega arith in
      ap (λ h. (entry_at db e ∷ h.0, h.1)) (one_entry_more (1 + k) after order o)
      ∙ ap (λ m. (
        entry_at db e ∷ (history_from p (1 + k) after scripts order).0 ++ entry_at (history_from p (1 + k) after scripts order).1 o ∷ [],
        db_behind m (history_from p (1 + k) after scripts order).1 o,
      )) same

-- so many numbers
counted : (n k : ℕ) → length (numbers_from k n) ≡ n
counted zero k = refl
counted (suc n) k = ap suc (counted n (k + 1))

pub no_entries : (p : Program) (db : Db) (scripts : List Script) (blocks : List (List ℕ)) → blocks ≡ [] → AreEntries p db scripts 0 blocks db
no_entries p db scripts blocks e = record { order = []; numbers = refl; are = e; left = refl }

pub one_block_more : (p : Program) (db : Db) (scripts : List Script) (n number : ℕ) (blocks : List (List ℕ)) (s : Script) (bytes : List ℕ) (before after : Db)
    → AreEntries p db scripts n blocks before → number ≡ suc n → slice_get scripts n ≡ Some s → IsEntry p before s number bytes after →
    AreEntries p db scripts (n + 1) (blocks ++ bytes ∷ []) after
one_block_more p db scripts n number blocks s bytes before after so_far e is entry =
    let o : ℕ × Bool = (n + 1, entry.0) in record {
      order = so_far.order ++ o ∷ [];
      numbers = map-append (λ o. o.0) so_far.order (o ∷ []) ∙ ap (λ ns. ns ++ (n + 1) ∷ []) so_far.numbers ∙ one_number_more n;
      are =
          ap (λ bs. bs ++ bytes ∷ []) so_far.are
          ∙ ap (λ b. map block h.0 ++ b ∷ []) (entry.1.block_is ∙ ap block here)
          ∙ sym (map-append block h.0 (entry_at p scripts h.1 o ∷ []))
          ∙ ap (λ (r : List Entry × Db). map block r.0) (sym more);
      left = entry.1.lists_are ∙ there ∙ ap (λ (r : List Entry × Db). r.1) (sym more);
    }
  where
    h : List Entry × Db
    h = history p db scripts so_far.order

    more : history p db scripts (so_far.order ++ (n + 1, entry.0) ∷ []) ≡ Behind p scripts 1 db so_far.order (n + 1, entry.0)
    more = one_entry_more p scripts 1 db so_far.order (n + 1, entry.0)

    this : n + 1 ≡ suc n
    this = omega arith

    script : Some s ≡ script_of scripts (n + 1)
    script = sym is ∙ sym (ap (script_of scripts) this)

    many : length so_far.order ≡ n
    many = sym (length-map so_far.order (λ o. o.0)) ∙ ap length so_far.numbers ∙ counted n 1

    place : number ≡ 1 + length so_far.order
    place = omega (arith, e, many)

    here : entry_of p before s number entry.0 ≡ entry_at p scripts h.1 (n + 1, entry.0)
    here =
        ap (λ k. entry_of p before s k entry.0) (e ∙ sym this)
        ∙ ap (λ (db : Db). entry_of p db s (n + 1) entry.0) so_far.left
        ∙ ap (λ script. record { number = n + 1; ran = session_result p script entry.0 h.1 }) script

    there : db_after (session_result p (Some s) entry.0 before) number before ≡ db_behind p scripts (1 + length so_far.order) h.1 (n + 1, entry.0)
    there =
        ap (λ (db : Db). db_after (session_result p (Some s) entry.0 db) number db) so_far.left
        ∙ ap (λ k. db_after (session_result p (Some s) entry.0 h.1) k h.1) place
        ∙ ap (λ script. db_after (session_result p script entry.0 h.1) (1 + length so_far.order) h.1) script

pub value_at : {A B : Type 0} (f : A → B) (xs : List A) (i : ℕ) (x : A) → i < length xs → x ≡ get_or xs i x → slice_get (map f xs) i ≡ Some (f x)
value_at f xs i x lt e = slice_get-map f xs i ∙ ap (option_map f) (slice_get_read xs (length xs) i x refl lt e)
