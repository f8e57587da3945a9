-- The lines of a session: each is one line, and none shows an entry.
use Rattle.std.specs.Prelude.{◌≡◌, ℕ, ◌+◌, ◌<◌, ◌≤◌, nat_lt, Bool, true, false, cond, List, [], ◌∷◌, ◌++◌, length, Option, Some, None, codes}
use Rattle.std.specs.List.{list_all, filter, list_any}
use Rattle.std.proofs.Common.{refl, arith}
use Rattle.ml_term.specs.Tree.{Tree, variables}
use Rattle.ml_term.specs.Decimal.{decimal_text}
use Rattle.ml_term.specs.Text.{text_of}
use Rattle.ml_search.specs.declared.ending.Ending.TheVariants.{Failed}
use Rattle.ml_search.specs.Limits.{max_answer_bytes}
use Rattle.ml_search.specs.Program.{Program, Goal, Last, commit, abort, unless}
use Rattle.ml_search.specs.Errors.{resource_error, is_too_large, formal_term}
use Rattle.ml_search.specs.Db.{Db}
use Rattle.ml_search.specs.Changes.{Lists}
use Rattle.ml_search.specs.Actions.{End, end_of_answers, ball, out_of_inferences}
use Rattle.ml_search.specs.Search.{Outcome}
use Rattle.ml_search.specs.Session.{line, is_shown, shown_names, goal_search, bindings_text, answer_line, AnswerLines, answer_lines, with_line, error_of_goal}
use Rattle.ml_search.specs.Session.{goal_line, count_line, error_line, Session, with_lines, uncommitted_session, end_unless, session_end, session_from}
use Rattle.ml_search.specs.Printed.{shown_session, shown_ending, ending_text}
use Rattle.ml_search.specs.LawWords.{is_one_line, names_are_plain}
use Rattle.ml_search.proofs.LinesOfBytes.{first_holds, second_holds}
use Rattle.ml_search.proofs.TextsAreOneLine.{together, decimal_line, term_line}
use Rattle.ml_search.proofs.EntryLines.{ending_shown}

-- a line that shows no entry
abbrev pub IsQuiet : List ℕ → Type 0
IsQuiet l = (t : List ℕ) × (l ≡ line t) × (is_one_line t ≡ true) × (shown_session t ≡ None)

abbrev pub AreQuiet : List (List ℕ) → Type 0
AreQuiet [] = Unit {0}
AreQuiet (l ∷ ls) = IsQuiet l × AreQuiet ls

quiet_append : (ls ms : List (List ℕ)) → AreQuiet ls → AreQuiet ms → AreQuiet (ls ++ ms)
quiet_append [] ms h k = k
quiet_append (l ∷ ls) ms h k = (h.0, quiet_append ls ms h.1 k)

-- what shows nothing, since it begins otherwise
goal_is_quiet : (j : ℕ) → IsQuiet (goal_line j)
goal_is_quiet j = (codes "goal " ++ decimal_text j, refl, decimal_line j, refl)

count_is_quiet : (n : ℕ) → IsQuiet (count_line n)
count_is_quiet n =
    (codes "  " ++ decimal_text n ++ codes " answers", refl, together (codes "  " ++ decimal_text n) (codes " answers") (decimal_line n) refl, refl)

error_is_quiet : (t : Tree) → IsQuiet (error_line t)
error_is_quiet t = (codes "  error " ++ text_of t [], refl, term_line t [], refl)

shown_are_plain : (es : List (List ℕ × ℕ)) → list_all (λ e. is_one_line e.0) es ≡ true → list_all (λ e. is_one_line e.0) (filter is_shown es) ≡ true
shown_are_plain [] h = refl
shown_are_plain (e ∷ es) h = by (is_shown e) (shown_are_plain es (second_holds (is_one_line e.0) (list_all (λ e. is_one_line e.0) es) h))
  where
    by : (c : Bool) → list_all (λ e. is_one_line e.0) (filter is_shown es) ≡ true →
        list_all (λ e. is_one_line e.0) (cond c (e ∷ filter is_shown es) (filter is_shown es)) ≡ true
    by true k = rw (first_holds (is_one_line e.0) (list_all (λ e. is_one_line e.0) es) h) k
    by false k = k

bindings_line : (es : List (List ℕ × ℕ)) (ts : List Tree) (met : List ℕ) → list_all (λ e. is_one_line e.0) es ≡ true →
    is_one_line (bindings_text es ts met) ≡ true
bindings_line [] ts met h = refl
bindings_line (e ∷ []) [] met h = refl
bindings_line (e ∷ []) (t ∷ ts) met h =
    together (e.0 ++ codes " = ") (text_of t met) (together e.0 (codes " = ") (first_holds (is_one_line e.0) true h) refl) (term_line t met)
bindings_line (e ∷ f ∷ es) [] met h = refl
bindings_line (e ∷ f ∷ es) (t ∷ ts) met h =
    together (e.0 ++ codes " = " ++ text_of t met ++ codes ", ") (bindings_text (f ∷ es) ts (met ++ variables t))
    (together (e.0 ++ codes " = " ++ text_of t met) (codes ", ")
    (together (e.0 ++ codes " = ") (text_of t met)
    (together e.0 (codes " = ") (first_holds (is_one_line e.0) (list_all (λ e. is_one_line e.0) (f ∷ es)) h) refl) (term_line t met)) refl)
    (bindings_line (f ∷ es) ts (met ++ variables t) (second_holds (is_one_line e.0) (list_all (λ e. is_one_line e.0) (f ∷ es)) h))

answer_is_quiet : (g : Goal) (ts : List Tree) → names_are_plain g ≡ true → IsQuiet (answer_line g ts)
answer_is_quiet g ts h = (codes "  " ++ bindings_text (shown_names g) ts [], refl, bindings_line (shown_names g) ts [] (shown_are_plain g.names h), refl)

written_quiet : (g : Goal) (found : List (List Tree)) (bytes : ℕ) → names_are_plain g ≡ true → AreQuiet (answer_lines g found bytes).lines
written_quiet g [] bytes h = tt
written_quiet g (ts ∷ found) bytes h =
    by (list_any is_too_large ts) (nat_lt max_answer_bytes (bytes + length (answer_line g ts))) (written_quiet g found (bytes + length (answer_line g ts)) h)
  where
    by : (a b : Bool) → AreQuiet (answer_lines g found (bytes + length (answer_line g ts))).lines
        → AreQuiet (cond a (record { lines = []; bytes = bytes; fault = Some (resource_error (codes "term")) })
        (cond b (record { lines = []; bytes = bytes; fault = Some (resource_error (codes "output")) })
        (with_line (answer_line g ts) (answer_lines g found (bytes + length (answer_line g ts)))))).lines
    by true b k = tt
    by false true k = tt
    by false false k = (answer_is_quiet g ts h, k)

-- a session whose lines are quiet, and whose ending is shown as that of no entry out of memory
abbrev pub IsShown : Session → Type 0
IsShown s = AreQuiet s.lines × (shown_ending (ending_text s.ending) ≡ Some false)

failed_shown : (j : ℕ) → 1 ≤ j → j < 10000000000 → shown_ending (ending_text (Failed j)) ≡ Some false
failed_shown j l h = ending_shown (Failed j) j refl l h

error_shown : (t : Tree) (j : ℕ) (before : Db) → 1 ≤ j → j < 10000000000 → IsShown (uncommitted_session (error_line t ∷ []) (Failed j) before)
error_shown t j before l h = ((error_is_quiet t, tt), failed_shown j l h)

decided_shown : (found : List (List Tree)) (end : End) (lists : Lists) (left j : ℕ) (before : Db) → 1 ≤ j → j < 10000000000
    → IsShown (end_unless (record { found = found; end = end; lists = lists; left = left }) j before)
decided_shown (ts ∷ found) end lists left j before l h = (tt, refl)
decided_shown [] end_of_answers lists left j before l h = (tt, refl)
decided_shown [] (ball t) lists left j before l h = ((goal_is_quiet j, (error_is_quiet (formal_term t), tt)), failed_shown j l h)
decided_shown [] out_of_inferences lists left j before l h = ((goal_is_quiet j, (error_is_quiet (resource_error (codes "inferences")), tt)), failed_shown j l h)

module _ (program : Program) where
  concluded_shown : (last : Last) (j : ℕ) (before : Db) (lists : Lists) (left : ℕ) → 1 ≤ j → j < 10000000000 →
      IsShown (session_end program last j before lists left)
  concluded_shown commit j before lists left l h = (tt, refl)
  concluded_shown abort j before lists left l h = (tt, refl)
  concluded_shown (unless g) j before lists left l h =
      decided_shown (goal_search program g lists left).found (goal_search program g lists left).end (goal_search program g lists left).lists
      (goal_search program g lists left).left j before l h

  more_lines : (ls : List (List ℕ)) (s : Session) → AreQuiet ls → IsShown s → IsShown (with_lines ls s)
  more_lines ls s h k = (quiet_append ls s.lines h k.0, k.1)

  goal_shown : (raised : Option Tree) (ls : List (List ℕ)) (n j : ℕ) (before : Db) (further : Session) → AreQuiet ls → 1 ≤ j → j < 10000000000 → IsShown further
      →
      IsShown
      (with_lines (goal_line j ∷ ls)
      (elim raised [ Some t ↦ uncommitted_session (error_line t ∷ []) (Failed j) before | None ↦ with_lines (count_line n ∷ []) further ]))
  goal_shown (Some t) ls n j before further q l h k =
      more_lines (goal_line j ∷ ls) (uncommitted_session (error_line t ∷ []) (Failed j) before) (goal_is_quiet j, q) (error_shown t j before l h)
  goal_shown None ls n j before further q l h k =
      more_lines (goal_line j ∷ ls) (with_lines (count_line n ∷ []) further) (goal_is_quiet j, q)
      (more_lines (count_line n ∷ []) further (count_is_quiet n, tt) k)

  pub played_shown : (gs : List Goal) (last : Last) (j : ℕ) (before : Db) (lists : Lists) (left bytes : ℕ) → list_all names_are_plain gs ≡ true → 1 ≤ j →
      j + length gs < 10000000000
      → IsShown (session_from program gs last j before lists left bytes)
  played_shown [] last j before lists left bytes p l h = concluded_shown last j before lists left l (omega arith)
  played_shown (g ∷ gs) last j before lists left bytes p l h =
      let o : Outcome = goal_search program g lists left in
      let w : AnswerLines = answer_lines g o.found bytes in
      goal_shown (error_of_goal w o) w.lines (length o.found) j before (session_from program gs last (1 + j) before o.lists o.left w.bytes)
      (written_quiet g o.found bytes (first_holds (names_are_plain g) (list_all names_are_plain gs) p)) l (omega arith)
      (played_shown gs last (1 + j) before o.lists o.left w.bytes (second_holds (names_are_plain g) (list_all names_are_plain gs) p) (omega arith)
      (omega arith))
