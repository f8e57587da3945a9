-- A place in a block by the instruction that stands there: the goals are taken apart until the
-- first one is no conjunction.
use Rattle.std.specs.Prelude.{◌≡◌, ℕ, ◌≤◌, List, Some}
use Rattle.ml_term.specs.Tree.{substitute}
use Rattle.ml_search.specs.Bodies.{Body, conjunction, in_body}
use Rattle.ml_search.specs.Actions.{Continuation, run_body}
use Rattle.ml_asking.specs.Asking.{Member}
use Rattle.ml_compile.specs.Spells.{SpellsGoal, StandsAt}
use Rattle.ml_compile.specs.declared.instr.Instr.{Instr}
use Rattle.ml_compile.specs.declared.instr.Instr.TheVariants.{Proceed}
use Rattle.ml_stack.specs.declared.frame.At.{At}
use Rattle.ml_stack.specs.Memories.{Contents, value_in, CompiledProcedure, code_of}
use Rattle.ml_stack.specs.Variables.{HasSlots}
use Rattle.ml_stack.specs.Stands.{View, Continues, Runs}

-- goals of which first conjunctions are taken apart
pub data Splits : Continuation Member → Continuation Member → Type 0 where
  no_more : {gs : Continuation Member} → Splits gs gs
  split : {x y : Body} {h : ℕ} {gs hs : Continuation Member} →
      Splits (run_body x h (run_body y h gs)) hs → Splits (run_body (conjunction x y) h gs) hs

module _ (ps : List CompiledProcedure) where
  -- a place in a block, where the first goal is no conjunction
  pub data First (M : Contents) (w : View) (n : ℕ) (a : At) : Continuation Member → Type 0 where
    ended : {c : List Instr} {gs : Continuation Member} → code_of ps M a.code ≡ Some c →
        StandsAt c a.place Proceed → Continues ps M w n a.next gs → First M w n a gs
    begins : {c : List Instr} {q : ℕ} {b b' : Body} {gs : Continuation Member} →
        code_of ps M a.code ≡ Some c → a.height ≤ n → SpellsGoal c a.place b q → HasSlots M a.env b
        → Runs ps M w a.height (record a { place = q }) gs →
        b' ≡ in_body (substitute (value_in M a.env)) b → First M w n a (run_body b' a.height gs)

  -- goals at a place, taken apart
  pub record IsApart (M : Contents) (w : View) (n : ℕ) (a : At)
      (gs : Continuation Member) : Type 0 where
    pub first_goals : Continuation Member
    pub splits : Splits gs first_goals
    pub first : First M w n a first_goals
