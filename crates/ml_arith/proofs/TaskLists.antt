-- Tasks put last and taken from there, and what they make of a fault.
use Rattle.std.specs.Prelude.{◌≡◌, List, [], ◌∷◌, ◌++◌}
use Rattle.std.proofs.Common.{refl, ap, ◌∙◌}
use Rattle.ml_term.specs.Tree.{Tree}
use Rattle.ml_heap.specs.Changes.{Changes}
use Rattle.ml_search.specs.Evaluate.{Value, no_value}
use Rattle.ml_arith.specs.declared.step.Task.{Task}
use Rattle.ml_arith.specs.declared.step.Task.TheVariants.{Negate, EvaluateRight, Operate}
use Rattle.ml_arith.specs.inside.Tasks.{task_value, tasks_value, IsSoundTask, AreSoundTasks}

pub last_task_first : (h : Changes) (ts : List Task) (t : Task) (v : Value) → tasks_value h (ts ++ t ∷ []) v ≡ tasks_value h ts (task_value h t v)
last_task_first h [] t v = refl
last_task_first h (s ∷ ts) t v = ap (task_value h s) (last_task_first h ts t v)

pub fault_of_task : (h : Changes) (t : Task) (e : Tree) → task_value h t (no_value e) ≡ no_value e
fault_of_task h Negate e = refl
fault_of_task h (EvaluateRight o r) e = refl
fault_of_task h (Operate o x) e = refl

pub fault_stays : (h : Changes) (ts : List Task) (e : Tree) → tasks_value h ts (no_value e) ≡ no_value e
fault_stays h [] e = refl
fault_stays h (t ∷ ts) e = ap (task_value h t) (fault_stays h ts e) ∙ fault_of_task h t e

pub sound_with_last : (h : Changes) (ts : List Task) (t : Task) → AreSoundTasks h ts → IsSoundTask h t → AreSoundTasks h (ts ++ t ∷ [])
sound_with_last h [] t a b = (b, tt)
sound_with_last h (s ∷ ts) t a b = (a.0, sound_with_last h ts t a.1 b)

pub sound_before_last : (h : Changes) (ts : List Task) (t : Task) → AreSoundTasks h (ts ++ t ∷ []) → AreSoundTasks h ts
sound_before_last h [] t a = tt
sound_before_last h (s ∷ ts) t a = (a.0, sound_before_last h ts t a.1)

pub sound_last : (h : Changes) (ts : List Task) (t : Task) → AreSoundTasks h (ts ++ t ∷ []) → IsSoundTask h t
sound_last h [] t a = a.0
sound_last h (s ∷ ts) t a = sound_last h ts t a.1
