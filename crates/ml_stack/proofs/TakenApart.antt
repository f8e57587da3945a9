-- What is known of a continuation by its link, its frame and its instruction.
use Rattle.std.specs.Prelude.{◌≡◌, ℕ, suc, ◌≤◌, List, slice_get, Some}
use Rattle.std.proofs.Common.{refl, sym, ◌∙◌, subst, arith}
use Rattle.std.proofs.lemmas.Bool.{or_left}
use Rattle.ml_term.specs.Tree.{Tree, substitute}
use Rattle.ml_search.specs.Bodies.{Body, fail_goal, conjunction, in_body}
use Rattle.ml_search.specs.Actions.{Continuation, success, run_body, cut_to, catch_mark, Branch}
use Rattle.ml_asking.specs.Asking.{Member, ChoicePoint, branch_choice, AskingSearch, Move}
use Rattle.ml_asking.specs.Leads.{Leads}
use Rattle.ml_asking.specs.TurnWords.{at_goals}
use Rattle.ml_asking.proofs.AnswersSoFar.{one_turn}
use Rattle.ml_search.specs.Program.{Program}
use Rattle.ml_search.specs.Operations.{Log}
use Rattle.ml_compile.specs.Spells.{Spells, goal_spelled, conjunction_spelled}
use Rattle.ml_compile.specs.declared.instr.Instr.{Instr}
use Rattle.ml_stack.specs.declared.frame.Frame.{Frame}
use Rattle.ml_stack.specs.declared.frame.Frame.TheVariants.{Body as BodyFrame, Cut, Refute, Caught}
use Rattle.ml_stack.specs.declared.frame.At.{At}
use Rattle.ml_stack.specs.declared.moment.Moment.{Moment}
use Rattle.ml_stack.specs.declared.choice.Left.TheVariants.{Goes}
use Rattle.ml_stack.specs.Memories.{Contents, IsMoment, memory_of, IsTree, AreTrees, value_in, CompiledProcedure, code_of}
use Rattle.ml_stack.specs.Variables.{HasSlots}
use Rattle.ml_stack.specs.Stands.{View, lower, Continues, ends, goes, Holds, of_body, of_cut, of_refute, of_caught, Runs, at_end, at_body, IsLeft, of_goes}
use Rattle.ml_stack.specs.Stands.{IsBranch, Stacked}
use Rattle.ml_stack.specs.Apart.{Splits, no_more, split, ended, begins, IsApart}
use Rattle.ml_stack.proofs.BodyValues.{right_of}

module _ (ps : List CompiledProcedure) where
  pub continues_end : {M : Contents} {w : View} {n : ℕ} {gs : Continuation Member} → Continues ps M w n 0 gs → gs ≡ success
  continues_end ends = refl

  pub continues_frame : {M : Contents} {w : View} {n i : ℕ} {gs : Continuation Member} (f : Frame) → slice_get M.frames i ≡ Some f →
      Continues ps M w n (suc i) gs → Holds ps M w n f gs
  continues_frame {M = M} {w = w} {n = n} {i = i} {gs = gs} f e (goes {f = g} p h) = subst (λ x. Holds ps M w n x gs) (some_is (sym p ∙ e)) h
    where
      some_is : Some g ≡ Some f → g ≡ f
      some_is e = cc

  pub holds_body : {M : Contents} {w : View} {n : ℕ} {a : At} {gs : Continuation Member} → Holds ps M w n (BodyFrame a) gs → Runs ps M w n a gs
  holds_body (of_body r) = r

  pub record IsBehindCut (M : Contents) (w : View) (n h next : ℕ) (wanted : Continuation Member → Continuation Member) (gs : Continuation Member) : Type 0 where
    pub behind : Continuation Member
    pub is : gs ≡ wanted behind
    pub high : h ≤ n
    pub goes_on : Continues ps M w h next behind

  pub holds_cut : {M : Contents} {w : View} {n h next : ℕ} {gs : Continuation Member} → Holds ps M w n (Cut h next) gs →
      IsBehindCut M w n h next (λ hs. cut_to h hs) gs
  holds_cut (of_cut {gs = hs} l c) = record { behind = hs; is = refl; high = l; goes_on = c }

  pub holds_refute : {M : Contents} {w : View} {n h next : ℕ} {gs : Continuation Member} → Holds ps M w n (Refute h next) gs →
      IsBehindCut M w n h next (λ hs. cut_to h (run_body fail_goal h hs)) gs
  holds_refute (of_refute {gs = hs} l c) = record { behind = hs; is = refl; high = l; goes_on = c }

  pub record IsBehindCatch (M : Contents) (w : View) (n h c k next : ℕ) (m : Moment) (gs : Continuation Member) : Type 0 where
    pub behind : Continuation Member
    pub saved : Continuation Member
    pub catcher : Tree
    pub recovery : Tree
    pub terms : List Tree
    pub is : gs ≡ catch_mark h catcher recovery saved terms behind
    pub high : h ≤ n
    pub moment : IsMoment M m
    pub stacked : Stacked ps (memory_of M m) (lower h w)
    pub saved_goes_on : Continues ps (memory_of M m) (lower h w) h next saved
    pub goes_on : Continues ps M w n next behind
    pub catcher_is : IsTree (memory_of M m) c catcher
    pub recovery_is : IsTree (memory_of M m) k recovery
    pub terms_are : AreTrees (memory_of M m) w.terms terms

  pub holds_caught : {M : Contents} {w : View} {n h c k next : ℕ} {m : Moment} {gs : Continuation Member} → Holds ps M w n (Caught h m c k next) gs →
      IsBehindCatch M w n h c k next m gs
  holds_caught (of_caught {saved = saved} {gs = hs} {t = t} {u = u} {ts = ts} l i s f b p q r) = record {
    behind = hs;
    saved = saved;
    catcher = t;
    recovery = u;
    terms = ts;
    is = refl;
    high = l;
    moment = i;
    stacked = s;
    saved_goes_on = f;
    goes_on = b;
    catcher_is = p;
    recovery_is = q;
    terms_are = r;
  }

  pub left_goes : {M : Contents} {w : View} {l : ℕ} {e : ChoicePoint} → IsLeft ps M w (Goes l) e →
      (b : Branch Member) × (e ≡ branch_choice b) × IsBranch ps M w l b
  left_goes (of_goes {b = b} i) = (b, refl, i)

  module _ (M : Contents) (w : View) (a : At) (c : List Instr) (is : code_of ps M a.code ≡ Some c) where
    slots_left : (x y : Body) → HasSlots M a.env (conjunction x y) → HasSlots M a.env x
    slots_left x y h n o = h n (or_left _ _ o)

    slots_right : (x y : Body) → HasSlots M a.env (conjunction x y) → HasSlots M a.env y
    slots_right x y h n o = h n (right_of _ _ o)

    apart_spelled : {p q : ℕ} {b : Body} (n : ℕ) (gs : Continuation Member) → Spells c p b q → a.height ≤ n → HasSlots M a.env b →
        Runs ps M w a.height (record a { place = q }) gs
        → IsApart ps M w n (record a { place = p }) (run_body (in_body (substitute (value_in M a.env)) b) a.height gs)
    apart_spelled n gs (goal_spelled s) l h r = record { first_goals = _; splits = no_more; first = begins is l s h r refl }
    apart_spelled n gs (conjunction_spelled {q = m} {a = x} {b = y} s t) l h r =
        let rest : Runs ps M w a.height (record a { place = m }) (run_body (in_body (substitute (value_in M a.env)) y) a.height gs) =
        at_body is (omega arith) t (slots_right x y h) r refl in
        let k = apart_spelled n (run_body (in_body (substitute (value_in M a.env)) y) a.height gs) s l (slots_left x y h) rest in
        record { first_goals = k.first_goals; splits = split k.splits; first = k.first }

  pub taken_apart : {M : Contents} {w : View} {n : ℕ} {a : At} {gs : Continuation Member} → Runs ps M w n a gs → IsApart ps M w n a gs
  taken_apart {gs = gs} (at_end k p c) = record { first_goals = gs; splits = no_more; first = ended k p c }
  taken_apart {M = M} {w = w} {n = n} {a = a} (at_body {c = c} {gs = gs} k l s h r e) =
      subst (λ (b : Body). IsApart ps M w n a (run_body b a.height gs)) (sym e) (apart_spelled M w a c k n gs s l h r)

-- conjunctions are taken apart by turns
pub splits_lead : (p : Program) (v : Move) (before after : Log) (m : AskingSearch) (b : Branch Member) (r : List ChoicePoint) {gs hs : Continuation Member} →
    Splits gs hs
    → Leads p v before (at_goals gs b r m) after → Leads p v before (at_goals hs b r m) after
splits_lead p v before after m b r no_more l = l
splits_lead p v before after m b r (split s) l = splits_lead p v before after m b r s (one_turn p l)
