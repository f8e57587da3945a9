-- Control constructs are given the terms of the cells, by their places.
use Rattle.std.specs.Prelude.{◌≡◌, ℕ, ◌<◌, List, [], ◌∷◌, length, map, slice_index_or}
use Rattle.std.proofs.Common.{refl, sym, ap, ◌∙◌, subst, arith}
use Rattle.std.proofs.lemmas.List.{length-map}
use Rattle.ml_term.specs.Tree.{Tree}
use Rattle.ml_search.specs.Program.{Program}
use Rattle.ml_search.specs.Bodies.{Body, call, once, not_provable, catch, findall, throw}
use Rattle.ml_search.specs.Actions.{run_body}
use Rattle.ml_asking.specs.Asking.{Move}
use Rattle.ml_asking.specs.TurnWords.{at_goals}
use Rattle.ml_heap.specs.Changes.{cell_count}
use Rattle.ml_program.specs.declared.link.ControlCall.{ControlCall}
use Rattle.ml_program.specs.declared.link.ControlCall.TheVariants.{Call, Once, NotProvable, Throw, Findall, Catch}
use Rattle.ml_program.specs.LinkedGoals.{IsControlBody, calls_goal, calls_once, refutes_goal, throws_ball, finds_all, catches_ball}
use Rattle.ml_stack.specs.Memories.{Contents, tree, IsTree, AreTrees, CompiledProcedure}
use Rattle.ml_machine.specs.declared.machine.Machine.{Machine}
use Rattle.ml_machine.specs.Controls.{IsControlled, IsGiven, catching, finding}
use Rattle.ml_machine.specs.Steps.{Follows}

-- a construct of one argument, and `catch/3`
pub record TakesOne (construct : Tree → Body) (ts : List Tree) (x : Body) : Type 0 where
  pub argument : Tree
  pub terms : ts ≡ argument ∷ []
  pub is : x ≡ construct argument

pub record TakesThree (ts : List Tree) (x : Body) : Type 0 where
  pub goal : Tree
  pub catcher : Tree
  pub recovery : Tree
  pub terms : ts ≡ goal ∷ catcher ∷ recovery ∷ []
  pub is : x ≡ catch goal catcher recovery

pub record TakesFindall (ts : List Tree) (x : Body) : Type 0 where
  pub template : Tree
  pub goal : Tree
  pub list : Tree
  pub terms : ts ≡ template ∷ goal ∷ list ∷ []
  pub is : x ≡ findall template goal list

pub findall_takes : (c : ControlCall) (ts : List Tree) (x : Body) → c ≡ Findall → IsControlBody c ts x → TakesFindall ts x
findall_takes c ts x e calls_goal = absurd (cc)
findall_takes c ts x e calls_once = absurd (cc)
findall_takes c ts x e refutes_goal = absurd (cc)
findall_takes c ts x e throws_ball = absurd (cc)
findall_takes c ts x e (finds_all {t = t} {u = u} {v = v}) = record { template = t; goal = u; list = v; terms = refl; is = refl }
findall_takes c ts x e catches_ball = absurd (cc)

pub call_takes : (c : ControlCall) (ts : List Tree) (x : Body) → c ≡ Call → IsControlBody c ts x → TakesOne call ts x
call_takes c ts x e (calls_goal {t = t}) = record { argument = t; terms = refl; is = refl }
call_takes c ts x e calls_once = absurd (cc)
call_takes c ts x e refutes_goal = absurd (cc)
call_takes c ts x e throws_ball = absurd (cc)
call_takes c ts x e finds_all = absurd (cc)
call_takes c ts x e catches_ball = absurd (cc)

pub once_takes : (c : ControlCall) (ts : List Tree) (x : Body) → c ≡ Once → IsControlBody c ts x → TakesOne once ts x
once_takes c ts x e calls_goal = absurd (cc)
once_takes c ts x e (calls_once {t = t}) = record { argument = t; terms = refl; is = refl }
once_takes c ts x e refutes_goal = absurd (cc)
once_takes c ts x e throws_ball = absurd (cc)
once_takes c ts x e finds_all = absurd (cc)
once_takes c ts x e catches_ball = absurd (cc)

pub not_provable_takes : (c : ControlCall) (ts : List Tree) (x : Body) → c ≡ NotProvable → IsControlBody c ts x → TakesOne not_provable ts x
not_provable_takes c ts x e calls_goal = absurd (cc)
not_provable_takes c ts x e calls_once = absurd (cc)
not_provable_takes c ts x e (refutes_goal {t = t}) = record { argument = t; terms = refl; is = refl }
not_provable_takes c ts x e throws_ball = absurd (cc)
not_provable_takes c ts x e finds_all = absurd (cc)
not_provable_takes c ts x e catches_ball = absurd (cc)

pub throw_takes : (c : ControlCall) (ts : List Tree) (x : Body) → c ≡ Throw → IsControlBody c ts x → TakesOne throw ts x
throw_takes c ts x e calls_goal = absurd (cc)
throw_takes c ts x e calls_once = absurd (cc)
throw_takes c ts x e refutes_goal = absurd (cc)
throw_takes c ts x e (throws_ball {t = t}) = record { argument = t; terms = refl; is = refl }
throw_takes c ts x e finds_all = absurd (cc)
throw_takes c ts x e catches_ball = absurd (cc)

pub catch_takes : (c : ControlCall) (ts : List Tree) (x : Body) → c ≡ Catch → IsControlBody c ts x → TakesThree ts x
catch_takes c ts x e calls_goal = absurd (cc)
catch_takes c ts x e calls_once = absurd (cc)
catch_takes c ts x e refutes_goal = absurd (cc)
catch_takes c ts x e throws_ball = absurd (cc)
catch_takes c ts x e finds_all = absurd (cc)
catch_takes c ts x e (catches_ball {t = t} {u = u} {v = v}) = record { goal = t; catcher = u; recovery = v; terms = refl; is = refl }

-- each construct has an argument
some_argument : {c : ControlCall} {ts : List Tree} {x : Body} → IsControlBody c ts x → 0 < length ts
some_argument calls_goal = omega arith
some_argument calls_once = omega arith
some_argument refutes_goal = omega arith
some_argument throws_ball = omega arith
some_argument finds_all = omega arith
some_argument catches_ball = omega arith

-- cells by their places
as_many_cells : (M : Contents) (rs : List ℕ) (ts : List Tree) → AreTrees M rs ts → length rs ≡ length ts
as_many_cells M rs ts a = sym (ap length a.are ∙ length-map rs (tree M))

first_tree : (M : Contents) (rs : List ℕ) (t : Tree) (ts : List Tree) → AreTrees M rs (t ∷ ts) → IsTree M (slice_index_or rs 0 0) t
first_tree M [] t ts a = absurd (none a.are)
  where
    none : t ∷ ts ≡ [] → ⊥
    none e = cc
first_tree M (r ∷ rs) t ts a = record { inside = a.inside.0; is = same a.are }
  where
    same : t ∷ ts ≡ tree M r ∷ map (tree M) rs → t ≡ tree M r
    same e = cc

other_trees : (M : Contents) (r : ℕ) (rs : List ℕ) (t : Tree) (ts : List Tree) → AreTrees M (r ∷ rs) (t ∷ ts) → AreTrees M rs ts
other_trees M r rs t ts a = record { inside = a.inside.1; are = same a.are }
  where
    same : t ∷ ts ≡ tree M r ∷ map (tree M) rs → ts ≡ map (tree M) rs
    same e = cc

pub second_tree : (M : Contents) (rs : List ℕ) (t u : Tree) (ts : List Tree) → AreTrees M rs (t ∷ u ∷ ts) → IsTree M (slice_index_or rs 1 0) u
second_tree M [] t u ts a = absurd (none a.are)
  where
    none : t ∷ u ∷ ts ≡ [] → ⊥
    none e = cc
second_tree M (r ∷ rs) t u ts a = first_tree M rs u ts (other_trees M r rs t (u ∷ ts) a)

pub third_tree : (M : Contents) (rs : List ℕ) (t u v : Tree) (ts : List Tree) → AreTrees M rs (t ∷ u ∷ v ∷ ts) → IsTree M (slice_index_or rs 2 0) v
third_tree M [] t u v ts a = absurd (none a.are)
  where
    none : t ∷ u ∷ v ∷ ts ≡ [] → ⊥
    none e = cc
third_tree M (r ∷ rs) t u v ts a = second_tree M rs u v ts (other_trees M r rs t (u ∷ v ∷ ts) a)

module _ (p : Program) (ps : List CompiledProcedure) (s : Machine) (c : ControlCall) (next : ℕ) where
  pub some_cell : {written : List (List Tree)} {v : Move} → IsControlled p ps s written c next v → 0 < length s.cells.items
  some_cell k = omega (arith, some_argument k.is, as_many_cells s.memory s.cells.items k.ts k.arguments)

  pub three_cells : {written : List (List Tree)} {v : Move} → c ≡ Catch → IsControlled p ps s written c next v → length s.cells.items ≡ 3
  three_cells e k = as_many_cells s.memory s.cells.items k.ts k.arguments ∙ ap length (catch_takes c k.ts k.construct e k.is).terms

  pub one_given : (construct : Tree → Body) (cell : ℕ) → ((ts : List Tree) (x : Body) → IsControlBody c ts x → TakesOne construct ts x)
      → cell ≡ slice_index_or s.cells.items 0 0 → (written : List (List Tree)) (v : Move) → IsControlled p ps s written c next v
      → IsGiven p ps s written construct cell next v
  one_given construct cell takes at written v k =
      let o = takes k.ts k.construct k.is in
      let first : IsTree s.memory (slice_index_or s.cells.items 0 0) o.argument =
      first_tree s.memory s.cells.items o.argument [] (subst (λ ts. AreTrees s.memory s.cells.items ts) o.terms k.arguments) in
      record {
        argument = o.argument;
        m = k.m;
        w = k.w;
        b = k.b;
        height = k.height;
        behind_goal = k.behind_goal;
        follows = subst (λ x. Follows p v (at_goals (run_body x k.height k.behind_goal) k.b k.w.choice_points k.m)) o.is k.follows;
        used = k.used;
        behind = k.behind;
        terms = k.terms;
        is_argument = subst (λ r. IsTree s.memory r o.argument) (sym at) first;
        continues = k.continues;
      }

  -- the three cells of a `catch/3`
  pub record HasCatch (goal catcher recovery : ℕ) : Type 0 where
    pub goal_at : goal ≡ slice_index_or s.cells.items 0 0
    pub catcher_at : catcher ≡ slice_index_or s.cells.items 1 0
    pub recovery_at : recovery ≡ slice_index_or s.cells.items 2 0

  module _ (goal catcher recovery : ℕ) (at : HasCatch goal catcher recovery) (is_catch : c ≡ Catch) where
    catcher_is : {written : List (List Tree)} {v : Move} (k : IsControlled p ps s written c next v) →
        IsTree s.memory catcher ((catch_takes c k.ts k.construct is_catch k.is).catcher)
    catcher_is k =
        let o = catch_takes c k.ts k.construct is_catch k.is in
        subst (λ r. IsTree s.memory r o.catcher) (sym at.catcher_at)
        (second_tree s.memory s.cells.items o.goal o.catcher (o.recovery ∷ []) (subst (λ ts. AreTrees s.memory s.cells.items ts) o.terms k.arguments))

    recovery_is : {written : List (List Tree)} {v : Move} (k : IsControlled p ps s written c next v) →
        IsTree s.memory recovery ((catch_takes c k.ts k.construct is_catch k.is).recovery)
    recovery_is k =
        let o = catch_takes c k.ts k.construct is_catch k.is in
        subst (λ r. IsTree s.memory r o.recovery) (sym at.recovery_at)
        (third_tree s.memory s.cells.items o.goal o.catcher o.recovery [] (subst (λ ts. AreTrees s.memory s.cells.items ts) o.terms k.arguments))

    pub catcher_inside : {written : List (List Tree)} {v : Move} → IsControlled p ps s written c next v → catcher < cell_count s.memory.heap
    catcher_inside k = (catcher_is k).inside

    pub recovery_inside : {written : List (List Tree)} {v : Move} → IsControlled p ps s written c next v → recovery < cell_count s.memory.heap
    recovery_inside k = (recovery_is k).inside

    pub catch_given : (written : List (List Tree)) (v : Move) → IsControlled p ps s written c next v
        → IsGiven p ps s written (catching s.memory catcher recovery) goal next v
    catch_given written v k =
        let o = catch_takes c k.ts k.construct is_catch k.is in
        let first : IsTree s.memory (slice_index_or s.cells.items 0 0) o.goal =
        first_tree s.memory s.cells.items o.goal (o.catcher ∷ o.recovery ∷ []) (subst (λ ts. AreTrees s.memory s.cells.items ts) o.terms k.arguments) in
        let is : k.construct ≡ catching s.memory catcher recovery o.goal =
        o.is ∙ ap (λ x. catch o.goal x o.recovery) (catcher_is k).is ∙ ap (λ x. catch o.goal (tree s.memory catcher) x) (recovery_is k).is in
        record {
          argument = o.goal;
          m = k.m;
          w = k.w;
          b = k.b;
          height = k.height;
          behind_goal = k.behind_goal;
          follows = subst (λ x. Follows p v (at_goals (run_body x k.height k.behind_goal) k.b k.w.choice_points k.m)) is k.follows;
          used = k.used;
          behind = k.behind;
          terms = k.terms;
          is_argument = subst (λ r. IsTree s.memory r o.goal) (sym at.goal_at) first;
          continues = k.continues;
        }

  pub cells_of_findall : {written : List (List Tree)} {v : Move} → c ≡ Findall → IsControlled p ps s written c next v → length s.cells.items ≡ 3
  cells_of_findall e k = as_many_cells s.memory s.cells.items k.ts k.arguments ∙ ap length (findall_takes c k.ts k.construct e k.is).terms

  -- the three cells of a `findall/3`
  pub record HasFindall (template goal list : ℕ) : Type 0 where
    pub template_at : template ≡ slice_index_or s.cells.items 0 0
    pub goal_at : goal ≡ slice_index_or s.cells.items 1 0
    pub list_at : list ≡ slice_index_or s.cells.items 2 0

  module _ (template goal list : ℕ) (at : HasFindall template goal list) (is_findall : c ≡ Findall) where
    record AreParts {written : List (List Tree)} {v : Move} (k : IsControlled p ps s written c next v) : Type 0 where
      takes : TakesFindall k.ts k.construct
      first : IsTree s.memory template takes.template
      second : IsTree s.memory goal takes.goal
      third : IsTree s.memory list takes.list

    parts : {written : List (List Tree)} {v : Move} (k : IsControlled p ps s written c next v) → AreParts k
    parts k =
        let o = findall_takes c k.ts k.construct is_findall k.is in
        let trees : AreTrees s.memory s.cells.items (o.template ∷ o.goal ∷ o.list ∷ []) = subst
        (λ ts. AreTrees s.memory s.cells.items ts) o.terms k.arguments in
        record {
          takes = o;
          first = subst (λ r. IsTree s.memory r o.template) (sym at.template_at) (first_tree s.memory s.cells.items o.template (o.goal ∷ o.list ∷ []) trees);
          second = subst (λ r. IsTree s.memory r o.goal) (sym at.goal_at) (second_tree s.memory s.cells.items o.template o.goal (o.list ∷ []) trees);
          third = subst (λ r. IsTree s.memory r o.list) (sym at.list_at) (third_tree s.memory s.cells.items o.template o.goal o.list [] trees);
        }

    pub findall_inside : {written : List (List Tree)} {v : Move} → IsControlled p ps s written c next v →
        (template < cell_count s.memory.heap) × (goal < cell_count s.memory.heap) × (list < cell_count s.memory.heap)
    findall_inside k = let o = parts k in (o.first.inside, o.second.inside, o.third.inside)

    pub findall_given : (written : List (List Tree)) (v : Move) → IsControlled p ps s written c next v
        → IsGiven p ps s written (finding s.memory template list) goal next v
    findall_given written v k =
        let o = parts k in
        let is : k.construct ≡ finding s.memory template list o.takes.goal =
        o.takes.is ∙ ap (λ x. findall x o.takes.goal o.takes.list) o.first.is ∙ ap (λ x. findall (tree s.memory template) o.takes.goal x) o.third.is in
        record {
          argument = o.takes.goal;
          m = k.m;
          w = k.w;
          b = k.b;
          height = k.height;
          behind_goal = k.behind_goal;
          follows = subst (λ x. Follows p v (at_goals (run_body x k.height k.behind_goal) k.b k.w.choice_points k.m)) is k.follows;
          used = k.used;
          behind = k.behind;
          terms = k.terms;
          is_argument = o.second;
          continues = k.continues;
        }
