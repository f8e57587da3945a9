-- A goal that is called, by its instructions: its arguments are built, and then its call stands.
use Rattle.std.specs.Prelude.{◌≡◌, ℕ, ◌+◌, ◌≤◌, Bool, true, false, ◌||◌, cond, List, [], ◌∷◌, length, map, Some, codes}
use Rattle.std.specs.List.{list_any}
use Rattle.std.specs.Str.{bytes_eq}
use Rattle.std.proofs.Common.{refl, ap, ◌∙◌}
use Rattle.ml_term.specs.Tree.{Tree, substitute, occurs}
use Rattle.ml_term.specs.declared.declaration.Pred.{Pred}
use Rattle.ml_search.specs.Bodies.{Body, in_body}
use Rattle.ml_search.specs.Actions.{Continuation, run_body}
use Rattle.ml_asking.specs.Asking.{Member}
use Rattle.ml_compile.specs.Spells.{StandsAt, Builds, SpellsGoal, true_spelled, fail_spelled, cut_spelled, disjunction_spelled, if_then_else_spelled, if_then_spelled, call_spelled}
use Rattle.ml_compile.specs.Spells.{called_body}
use Rattle.ml_compile.specs.declared.instr.Instr.{Instr}
use Rattle.ml_compile.specs.declared.instr.Instr.TheVariants.{Call}
use Rattle.ml_stack.specs.declared.frame.At.{At}
use Rattle.ml_stack.specs.Memories.{Contents, value_in, CompiledProcedure, code_of}
use Rattle.ml_stack.specs.Variables.{HasSlots, occurs_in}
use Rattle.ml_stack.specs.Stands.{View, Runs}
use Rattle.ml_stack.specs.Apart.{First, ended, begins}
use Rattle.ml_machine.specs.Instructions.{IsNoControl}

-- a call by its instructions
pub record IsCallSpelled (c : List Instr) (p q : ℕ) (b : Body) : Type 0 where
  pub place : ℕ
  pub g : Pred
  pub ts : List Tree
  pub builds : Builds c p place [] ts
  pub stands : StandsAt c place (Call g)
  pub many : length ts ≡ g.arity
  pub is : b ≡ called_body g.name ts
  pub end_is : q ≡ place + 1

pub is_call : {c : List Instr} {p q : ℕ} {b : Body} → SpellsGoal c p b q → IsNoControl c p → IsCallSpelled c p q b
is_call (true_spelled e) k = absurd (k.no_true e)
is_call (fail_spelled e) k = absurd (k.no_fail e)
is_call (cut_spelled e) k = absurd (k.no_cut e)
is_call (disjunction_spelled e l r) k = absurd (k.no_try _ _ e)
is_call (if_then_else_spelled e l m r) k = absurd (k.no_choose _ _ _ e)
is_call (if_then_spelled e l m r) k = absurd (k.no_choose _ _ _ e)
is_call (call_spelled {q = q} {g = g} {ts = ts} e s l is) k =
    record { place = q; g = g; ts = ts; builds = e; stands = s; many = l; is = is; end_is = refl }

-- what holds of both arms holds of what a test chooses
of_both : (h : Body → Type 0) (b : Bool) (x y : Body) → h x → h y → h (cond b x y)
of_both h true x y l r = l
of_both h false x y l r = r

or_nothing : (b : Bool) → (b || false) ≡ true → b ≡ true
or_nothing true e = refl
or_nothing false e = e

or_three : (a b c : Bool) → (a || (b || (c || false))) ≡ true → (a || (b || c)) ≡ true
or_three true b c e = refl
or_three false true c e = refl
or_three false false c e = or_nothing c e

-- a variable of an argument is one of the goal
pub argument_occurs : (n : ℕ) (f : List ℕ) (ts : List Tree) → list_any (occurs n) ts ≡ true → occurs_in n (called_body f ts) ≡ true
argument_occurs n f [] e = e
argument_occurs n f (t ∷ []) e =
    let h : Body → Type 0 = λ b. occurs_in n b ≡ true in
    let o = or_nothing (occurs n t) e in
    of_both h (bytes_eq f (codes "call")) _ _ o
    (of_both h (bytes_eq f (codes "once")) _ _ o
    (of_both h (bytes_eq f (codes "\\+")) _ _ o
    (of_both h (bytes_eq f (codes "throw")) _ _ o e)))
argument_occurs n f (t ∷ u ∷ []) e = e
argument_occurs n f (t ∷ u ∷ v ∷ []) e =
    let h : Body → Type 0 = λ b. occurs_in n b ≡ true in
    let o = or_three (occurs n t) (occurs n u) (occurs n v) e in
    of_both h (bytes_eq f (codes "findall")) _ _ o (of_both h (bytes_eq f (codes "catch")) _ _ o e)
argument_occurs n f (t ∷ u ∷ v ∷ w ∷ ts) e = e

chosen_in : (s : Tree → Tree) (b : Bool) (x y x' y' : Body) → in_body s x ≡ x' → in_body s y ≡ y' → in_body s (cond b x y) ≡ cond b x' y'
chosen_in s true x y x' y' l r = l
chosen_in s false x y x' y' l r = r

-- a goal with other arguments is called with them
pub called_in : (s : Tree → Tree) (f : List ℕ) (ts : List Tree) → in_body s (called_body f ts) ≡ called_body f (map s ts)
called_in s f [] = refl
called_in s f (t ∷ []) =
    chosen_in s (bytes_eq f (codes "call")) _ _ _ _ refl
    (chosen_in s (bytes_eq f (codes "once")) _ _ _ _ refl
    (chosen_in s (bytes_eq f (codes "\\+")) _ _ _ _ refl
    (chosen_in s (bytes_eq f (codes "throw")) _ _ _ _ refl refl)))
called_in s f (t ∷ u ∷ []) = refl
called_in s f (t ∷ u ∷ v ∷ []) =
    chosen_in s (bytes_eq f (codes "findall")) _ _ _ _ refl (chosen_in s (bytes_eq f (codes "catch")) _ _ _ _ refl refl)
called_in s f (t ∷ u ∷ v ∷ w ∷ ts) = refl

module _ (ps : List CompiledProcedure) where
  -- at the instructions of a call
  pub record BeginsCall (M : Contents) (w : View) (n : ℕ) (a : At) (gs : Continuation Member) : Type 0 where
    pub instrs : List Instr
    pub body : Body
    pub end : ℕ
    pub behind : Continuation Member
    pub code : code_of ps M a.code ≡ Some instrs
    pub call_is : IsCallSpelled instrs a.place end body
    pub is : gs ≡ run_body (called_body call_is.g.name (map (substitute (value_in M a.env)) call_is.ts)) a.height behind
    pub high : a.height ≤ n
    pub slots : HasSlots M a.env body
    pub rest : Runs ps M w a.height (record a { place = end }) behind

  pub call_begun : {M : Contents} {w : View} {n : ℕ} {a : At} {gs : Continuation Member} → First ps M w n a gs
      → ((instrs : List Instr) → code_of ps M a.code ≡ Some instrs → IsNoControl instrs a.place) → BeginsCall M w n a gs
  call_begun (ended {c = c} k p g) h = absurd ((h c k).no_end p)
  call_begun {M = M} {a = a} (begins {c = c} {q = q} {b = b} {b' = b'} {gs = hs} k l s v r e) h =
      let i = is_call s (h c k) in
      record {
        instrs = c;
        body = b;
        end = q;
        behind = hs;
        code = k;
        call_is = i;
        is = ap (λ x. run_body x a.height hs)
            (e ∙ ap (in_body (substitute (value_in M a.env))) i.is ∙ called_in (substitute (value_in M a.env)) i.g.name i.ts);
        high = l;
        slots = v;
        rest = r;
      }
