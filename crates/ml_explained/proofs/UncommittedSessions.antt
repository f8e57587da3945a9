-- A session that doesn't commit leaves the lists that it began with, and no changes.
use Rattle.std.specs.Prelude.{◌≡◌, ◌⊎◌, ℕ, ◌+◌, List, [], ◌∷◌, length, Option, Some, None}
use Rattle.std.proofs.Common.{inl, inr, refl}
use Rattle.ml_term.specs.Tree.{Tree}
use Rattle.ml_search.specs.declared.ending.Ending.TheVariants.{Committed, Failed}
use Rattle.ml_search.specs.Program.{Program, Goal, Last, commit, abort, unless, Script}
use Rattle.ml_search.specs.Db.{Db}
use Rattle.ml_search.specs.Changes.{Lists}
use Rattle.ml_search.specs.Actions.{End, end_of_answers, ball, out_of_inferences}
use Rattle.ml_search.specs.Search.{Outcome}
use Rattle.ml_search.specs.Session.{Session, AnswerLines, goal_search, answer_lines, error_of_goal, goal_line, count_line, error_line, with_lines, uncommitted_session}
use Rattle.ml_search.specs.Session.{end_unless, session_end, session_from, session}

-- it committed, or left all
abbrev pub Leaves : Db → Session → Type 0
Leaves before s = (s.ending ≡ Committed) ⊎ ((s.db ≡ before) × (s.changes ≡ []))

unless_by : (found : List (List Tree)) (end : End) (lists : Lists) (left j : ℕ) (before : Db) →
    Leaves before (end_unless (record { found = found; end = end; lists = lists; left = left }) j before)
unless_by (ts ∷ found) end lists left j before = inr (refl, refl)
unless_by [] end_of_answers lists left j before = inl refl
unless_by [] (ball t) lists left j before = inr (refl, refl)
unless_by [] out_of_inferences lists left j before = inr (refl, refl)

module _ (program : Program) where
  end_leaves : (last : Last) (j : ℕ) (before : Db) (lists : Lists) (left : ℕ) → Leaves before (session_end program last j before lists left)
  end_leaves commit j before lists left = inl refl
  end_leaves abort j before lists left = inr (refl, refl)
  end_leaves (unless g) j before lists left =
      let o : Outcome = goal_search program g lists left in unless_by o.found o.end o.lists o.left j before

  goal_leaves : (r : Option Tree) (first more : List (List ℕ)) (j : ℕ) (before : Db) (rest : Session) → Leaves before rest →
      Leaves before
      (with_lines first
      (elim r [
        | Some t ↦ uncommitted_session (error_line t ∷ []) (Failed j) before
        | None ↦ with_lines more rest
      ]))
  goal_leaves (Some t) first more j before rest h = inr (refl, refl)
  goal_leaves None first more j before rest h = h

  from_leaves : (gs : List Goal) (last : Last) (j : ℕ) (before : Db) (lists : Lists) (left bytes : ℕ) →
      Leaves before (session_from program gs last j before lists left bytes)
  from_leaves [] last j before lists left bytes = end_leaves last j before lists left
  from_leaves (g ∷ gs) last j before lists left bytes =
      let o : Outcome = goal_search program g lists left in
      let w : AnswerLines = answer_lines g o.found bytes in
      goal_leaves (error_of_goal w o) (goal_line j ∷ w.lines) (count_line (length o.found) ∷ []) j before _
      (from_leaves gs last (1 + j) before o.lists o.left w.bytes)

  pub session_leaves : (script : Script) (db : Db) → Leaves db (session program script db)
  session_leaves script db = from_leaves script.goals script.last 1 db (record { db = db; made = [] }) script.budget 0
