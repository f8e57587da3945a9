-- Sessions: what one leaves that doesn't commit, and what an entry is.
use Rattle.std.proofs.Common.{◌≡◌, ℕ, ◌+◌, true, false, Bool, List, [], ◌∷◌, ◌++◌, map, Option, Some, None, refl, sym, ap, ◌∙◌}
use Rattle.std.specs.List.{flat_map, list_all}
use Rattle.std.specs.Option.{option_or}
use Rattle.ml_term.specs.Tree.{Tree}
use Rattle.ml_search.specs.Actions.{End}
use Rattle.ml_search.specs.Changes.{Lists}
use Rattle.ml_search.specs.Db.{Db}
use Rattle.ml_search.specs.Program.{Program, Goal, Last, commit, abort, unless, Script}
use Rattle.ml_search.specs.Search.{Outcome}
use Rattle.ml_search.specs.Session.{Session, AnswerLines, answer_lines, end_unless, error_of_end, error_of_goal, goal_search, session, session_end, session_from}
use Rattle.ml_search.specs.declared.ending.Ending.TheVariants.{Committed, Aborted, Refused, Failed}

-- where a session doesn't commit, it leaves some lists as they were
abbrev Leaves : Session → Db → Type 0
Leaves s before = (s.ending ≡ Committed → ⊥) → s.db ≡ before

unless_leaves : (o : Outcome) (j : ℕ) (before : Db) (found : List (List Tree)) (raised : Option Tree) → o.found ≡ found → error_of_end o.end ≡ raised →
    Leaves (end_unless o j before) before
unless_leaves o j before (ts ∷ found) raised e f h = rw e refl
unless_leaves o j before [] (Some t) e f h = rw (e, f) refl
unless_leaves o j before [] None e f h =
    let commits : (end_unless o j before).ending ≡ Committed = rw (e, f) refl in absurd (h commits)

module _ (program : Program) where
  end_leaves : (last : Last) (j : ℕ) (before : Db) (lists : Lists) (left : ℕ) → Leaves (session_end program last j before lists left) before
  end_leaves commit j before lists left h = absurd (h refl)
  end_leaves abort j before lists left h = refl
  end_leaves (unless g) j before lists left h =
      let o : Outcome = goal_search program g lists left in unless_leaves o j before o.found (error_of_end o.end) refl refl h

  -- one goal before others
  goal_leaves : (g : Goal) (gs : List Goal) (last : Last) (j : ℕ) (before : Db) (lists : Lists) (left bytes : ℕ)
      → Leaves (session_from program gs last (1 + j) before (goal_search program g lists left).lists (goal_search program g lists left).left
      (answer_lines g (goal_search program g lists left).found bytes).bytes) before
      → (raised : Option Tree) → error_of_goal (answer_lines g (goal_search program g lists left).found bytes) (goal_search program g lists left) ≡ raised
      → Leaves (session_from program (g ∷ gs) last j before lists left bytes) before
  goal_leaves g gs last j before lists left bytes rest (Some t) e h = rw e refl
  goal_leaves g gs last j before lists left bytes rest None e h = rw e (rest (λ f. h (rw e f)))

  goals_leave : (gs : List Goal) (last : Last) (j : ℕ) (before : Db) (lists : Lists) (left bytes : ℕ) →
      Leaves (session_from program gs last j before lists left bytes) before
  goals_leave [] last j before lists left bytes h = end_leaves last j before lists left h
  goals_leave (g ∷ gs) last j before lists left bytes h =
      let o : Outcome = goal_search program g lists left in
      let w : AnswerLines = answer_lines g o.found bytes in
      goal_leaves g gs last j before lists left bytes (goals_leave gs last (1 + j) before o.lists o.left w.bytes) (error_of_goal w o) refl h

  -- a session that doesn't commit leaves the lists with which it began
  pub session_leaves : (s : Script) (db : Db) → Leaves (session program s db) db
  session_leaves s db = goals_leave s.goals s.last 1 db (record { db = db; made = [] }) s.budget 0
