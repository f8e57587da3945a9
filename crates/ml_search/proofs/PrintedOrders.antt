-- A print shows the order of its entries.
use Rattle.std.specs.Prelude.{◌≡◌, ℕ, zero, suc, ◌+◌, ◌<◌, ◌≤◌, nat_lt, nat_le, Bool, true, false, ◌&&◌, List, [], ◌∷◌, ◌++◌, map, length, slice_get, Option}
use Rattle.std.specs.Prelude.{Some, None, is_none, codes}
use Rattle.std.specs.List.{list_all, filter_map, flat_map, cons_option}
use Rattle.std.proofs.Common.{refl, ap, ◌∙◌, arith}
use Rattle.std.proofs.lemmas.Bool.{ltb-true, leb-true}
use Rattle.std.proofs.lemmas.List.{append_assoc}
use Rattle.ml_term.specs.Decimal.{decimal_text}
use Rattle.ml_search.specs.declared.ending.Ending.{Ending}
use Rattle.ml_search.specs.declared.ending.Ending.TheVariants.{Committed, Aborted, Refused, Failed}
use Rattle.ml_search.specs.Limits.{max_goals}
use Rattle.ml_search.specs.Program.{Program, Script}
use Rattle.ml_search.specs.Db.{Db}
use Rattle.ml_search.specs.Session.{Session}
use Rattle.ml_search.specs.History.{session_result, script_of, db_after, history_from, history}
use Rattle.ml_search.specs.Printed.{ending_text, session_line, block, print_of, lines_of, shown_session, shown_ending, order_of}
use Rattle.ml_search.specs.LawWords.{is_one_line, names_are_plain, is_printable, are_session_numbers, order_entry}
use Rattle.ml_search.proofs.LinesOfBytes.{first_holds, second_holds, first_line, lines_of_beginning}
use Rattle.ml_search.proofs.TextsAreOneLine.{together, decimal_line}
use Rattle.ml_search.proofs.EntryLines.{line_shown}
use Rattle.ml_search.proofs.SessionLines.{IsQuiet, AreQuiet, IsShown, played_shown}

-- a quiet line first
quiet_first : (l rest : List ℕ) → IsQuiet l → order_of (l ++ rest) ≡ order_of rest
quiet_first l rest (t, e, one, none) = ap (λ l. order_of (l ++ rest)) e ∙ ap (filter_map shown_session) (first_line t rest one) ∙ rw none refl

quiet_lines : (ls : List (List ℕ)) (rest : List ℕ) → AreQuiet ls → order_of (flat_map (λ l. l) ls ++ rest) ≡ order_of rest
quiet_lines [] rest h = refl
quiet_lines (l ∷ ls) rest h =
    ap order_of (append_assoc l (flat_map (λ l. l) ls) rest) ∙ quiet_first l (flat_map (λ l. l) ls ++ rest) h.0 ∙ quiet_lines ls rest h.1

-- an entry's line first
entry_first : (k : ℕ) (ending : List ℕ) (out : Bool) (rest : List ℕ) → 1 ≤ k → k < 10000000000 → is_one_line ending ≡ true → shown_ending ending ≡ Some out
    → order_of (session_line k ending ++ rest) ≡ (k, out) ∷ order_of rest
entry_first k ending out rest l h one e =
    ap (filter_map shown_session)
    (first_line (codes "session " ++ decimal_text k ++ codes " " ++ ending) rest
    (together (codes "session " ++ decimal_text k ++ codes " ") ending
    (together (codes "session " ++ decimal_text k) (codes " ") (decimal_line k) refl) one))
    ∙ rw (line_shown k ending out l h e) refl

ending_line : (e : Ending) → is_one_line (ending_text e) ≡ true
ending_line Committed = refl
ending_line Aborted = refl
ending_line Refused = refl
ending_line (Failed j) = decimal_line j

-- what is known of what ran, if anything did
abbrev IsShownIf : Option Session → Type 0
IsShownIf None = Unit {0}
IsShownIf (Some s) = IsShown s

block_first : (k : ℕ) (s : Option Session) (rest : List ℕ) → 1 ≤ k → k < 10000000000 → IsShownIf s →
    order_of (block (record { number = k; ran = s }) ++ rest) ≡ (k, is_none s) ∷ order_of rest
block_first k None rest l h q = entry_first k (codes "out of memory") true rest l h refl refl
block_first k (Some s) rest l h q =
    ap order_of (append_assoc (session_line k (ending_text s.ending)) (flat_map (λ l. l) s.lines) rest)
    ∙ entry_first k (ending_text s.ending) false (flat_map (λ l. l) s.lines ++ rest) l h (ending_line s.ending) q.1
    ∙ ap (λ os. (k, false) ∷ os) (quiet_lines s.lines rest q.0)

abbrev IsPrintableIf : Option Script → Type 0
IsPrintableIf None = Unit {0}
IsPrintableIf (Some s) = is_printable s ≡ true

script_at : (scripts : List Script) (k : ℕ) → list_all is_printable scripts ≡ true → IsPrintableIf (slice_get scripts k)
script_at [] k h = tt
script_at (s ∷ scripts) zero h = first_holds (is_printable s) (list_all is_printable scripts) h
script_at (s ∷ scripts) (suc k) h = script_at scripts k (second_holds (is_printable s) (list_all is_printable scripts) h)

script_found : (scripts : List Script) (k : ℕ) → list_all is_printable scripts ≡ true → IsPrintableIf (script_of scripts k)
script_found scripts zero h = tt
script_found scripts (suc k) h = script_at scripts k h

module _ (program : Program) where
  ran_shown : (s : Option Script) (out : Bool) (db : Db) → IsPrintableIf s → IsShownIf (session_result program s out db)
  ran_shown None out db h = tt
  ran_shown (Some s) true db h = tt
  ran_shown (Some s) false db h =
      played_shown program s.goals s.last 1 db (record { db = db; made = [] }) s.budget 0
      (first_holds (list_all names_are_plain s.goals) (nat_le (length s.goals) max_goals) h) (omega arith)
      (omega (arith, leb-true (length s.goals) max_goals (second_holds (list_all names_are_plain s.goals) (nat_le (length s.goals) max_goals) h)))

  shown_from : (k : ℕ) (db : Db) (scripts : List Script) (order : List (ℕ × Bool)) → list_all is_printable scripts ≡ true → are_session_numbers order ≡ true
      → order_of (print_of (history_from program k db scripts order).0) ≡ map order_entry (history_from program k db scripts order).0
  shown_from k db scripts [] h n = refl
  shown_from k db scripts (o ∷ order) h n =
      let s : Option Session = session_result program (script_of scripts o.0) o.1 db in
      let number : (nat_le 1 o.0 && nat_lt o.0 4294967296) ≡ true = first_holds (nat_le 1 o.0 && nat_lt o.0 4294967296) (are_session_numbers order) n in
      block_first o.0 s (print_of (history_from program (1 + k) (db_after s k db) scripts order).0)
      (leb-true 1 o.0 (first_holds (nat_le 1 o.0) (nat_lt o.0 4294967296) number))
      (omega (arith, ltb-true o.0 4294967296 (second_holds (nat_le 1 o.0) (nat_lt o.0 4294967296) number)))
      (ran_shown (script_of scripts o.0) o.1 db (script_found scripts o.0 h))
      ∙ ap (λ os. (o.0, is_none s) ∷ os)
      (shown_from (1 + k) (db_after s k db) scripts order h (second_holds (nat_le 1 o.0 && nat_lt o.0 4294967296) (are_session_numbers order) n))

  -- a print shows the order of its entries
  pub print_shows_order : (db : Db) (scripts : List Script) (order : List (ℕ × Bool)) → list_all is_printable scripts ≡ true → are_session_numbers order ≡ true
      → order_of (print_of (history program db scripts order).0) ≡ map order_entry (history program db scripts order).0
  print_shows_order db scripts order h n = shown_from 1 db scripts order h n

filter_beginning : (ls ms : List (List ℕ)) → (os : List (ℕ × Bool)) × (filter_map shown_session (ls ++ ms) ≡ filter_map shown_session ls ++ os)
filter_beginning [] ms = (filter_map shown_session ms, refl)
filter_beginning (l ∷ ls) ms = by (shown_session l) (filter_beginning ls ms)
  where
    by : (x : Option (ℕ × Bool)) → (os : List (ℕ × Bool)) × (filter_map shown_session (ls ++ ms) ≡ filter_map shown_session ls ++ os)
        → (os : List (ℕ × Bool)) × (cons_option x (filter_map shown_session (ls ++ ms)) ≡ cons_option x (filter_map shown_session ls) ++ os)
    by None (os, e) = (os, e)
    by (Some o) (os, e) = (os, ap (λ qs. o ∷ qs) e)

-- what a beginning shows is a beginning of what the whole shows
pub beginning_shows : (xs ys : List ℕ) → (os : List (ℕ × Bool)) × (order_of (xs ++ ys) ≡ order_of xs ++ os)
beginning_shows xs ys =
    let ls = lines_of_beginning xs ys in
    let os = filter_beginning (lines_of xs) ls.0 in
    (os.0, ap (filter_map shown_session) ls.1 ∙ os.1)
