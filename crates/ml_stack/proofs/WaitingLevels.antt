-- A level is put aside, and taken back.
use Rattle.std.specs.Prelude.{◌≡◌, ℕ, ◌-◌, List, [], ◌∷◌, ◌++◌, length, reverse, Vec}
use Rattle.std.proofs.Common.{refl, sym, ap, ◌∙◌, subst, arith}
use Rattle.std.proofs.lemmas.List.{drop_all}
use Rattle.std.specs.declared.alloc.Global.{Global}
use Rattle.ml_search.specs.Search.{last_of}
use Rattle.ml_asking.specs.Asking.{FindallFrame}
use Rattle.ml_stack.specs.declared.choice.Choice.{Choice}
use Rattle.ml_stack.specs.declared.level.Level.{Level}
use Rattle.ml_stack.specs.declared.level.Stacks.{Stacks}
use Rattle.ml_stack.specs.Memories.{Contents, IsMoment, memory_of, now_of, IsTree, CompiledProcedure}
use Rattle.ml_stack.specs.Stands.{View, lower, view_of, IsBranch, Stacked, bottom, above, Waiting, nobody, somebody}
use Rattle.ml_stack.specs.Levels.{inner_view, StacksStand}
use Rattle.ml_stack.proofs.ListEnds.{reverse_more}
use Rattle.ml_stack.proofs.Moments.{moment_now, is_moment_now}
use Rattle.ml_stack.proofs.ChoicePoints.{cut_stands}

-- nothing is the end of a list that has no element
none_of : {A : Type 0} → (xs : List A) → last_of 0 xs ≡ []
none_of xs = drop_all (length xs - 0) xs (omega arith)

module _ (ps : List CompiledProcedure) where
  -- A level is put aside at the present moment, and the search inside it begins with nothing to choose.
  pub put_aside_stands : (M : Contents) (w v : View) (l : Level) (o : FindallFrame) → view_of l w.levels w.findalls o ≡ w → l.moment ≡ now_of M
      → IsBranch ps M w l.next o.branch → IsTree M l.list o.list → Stacked ps M w
      → v.choices ≡ [] → v.choice_points ≡ [] → v.levels ≡ l ∷ w.levels → v.findalls ≡ o ∷ w.findalls → Stacked ps M v
  put_aside_stands M w v l o same at i t s p q ls os =
      let e : memory_of M l.moment ≡ M = ap (memory_of M) at ∙ moment_now M in
      let moment : IsMoment M l.moment = subst (λ m. IsMoment M m) (sym at) (is_moment_now M) in
      let waits : Waiting ps M (l ∷ w.levels) (o ∷ w.findalls) = somebody moment
      (subst (λ X. Stacked ps X (view_of l w.levels w.findalls o)) (sym e) (subst (λ x. Stacked ps M x) (sym same) s))
      (subst (λ X. IsBranch ps X (view_of l w.levels w.findalls o) l.next o.branch) (sym e) (subst (λ x. IsBranch ps M x l.next o.branch) (sym same) i))
      (subst (λ X. IsTree X l.list o.list) (sym e) t) in
      bottom p q (subst (λ x. Waiting ps M x v.findalls) (sym ls) (subst (λ x. Waiting ps M (l ∷ w.levels) x) (sym os) waits))

  -- what waits below the first level, in the memory of its moment
  pub record IsTakenBack (M : Contents) (l : Level) (ls : List Level) (findalls : List FindallFrame) : Type 0 where
    pub o : FindallFrame
    pub os : List FindallFrame
    pub waits : findalls ≡ o ∷ os
    pub moment : IsMoment M l.moment
    pub stacked : Stacked ps (memory_of M l.moment) (view_of l ls os o)
    pub branch : IsBranch ps (memory_of M l.moment) (view_of l ls os o) l.next o.branch
    pub list : IsTree (memory_of M l.moment) l.list o.list

  waits_first : {M : Contents} {ks : List Level} {findalls : List FindallFrame} (l : Level) (ls : List Level) → ks ≡ l ∷ ls → Waiting ps M ks findalls →
      IsTakenBack M l ls findalls
  waits_first l ls e nobody = absurd (none e)
    where
      none : [] ≡ l ∷ ls → ⊥
      none e = cc
  waits_first {M = M} l ls e (somebody {l = k} {ls = ks} {o = o} {os = os} i s b t) =
      let x : k ≡ l = first e in
      let y : ks ≡ ls = rest e in
      record {
        o = o;
        os = os;
        waits = refl;
        moment = subst (λ (z : Level). IsMoment M z.moment) x i;
        stacked =
            subst (λ (z : Level). Stacked ps (memory_of M z.moment) (view_of z ls os o)) x
            (subst (λ zs. Stacked ps (memory_of M k.moment) (view_of k zs os o)) y s);
        branch =
            subst (λ (z : Level). IsBranch ps (memory_of M z.moment) (view_of z ls os o) z.next o.branch) x
            (subst (λ zs. IsBranch ps (memory_of M k.moment) (view_of k zs os o) k.next o.branch) y b);
        list = subst (λ (z : Level). IsTree (memory_of M z.moment) z.list o.list) x t;
      }
    where
      first : k ∷ ks ≡ l ∷ ls → k ≡ l
      first e = cc

      rest : k ∷ ks ≡ l ∷ ls → ks ≡ ls
      rest e = cc

  -- where nothing is left to choose, it is taken back; where something is, it is cut to nothing first
  pub taken_back_stands : {M : Contents} {v : View} (l : Level) (ls : List Level) → v.choices ≡ [] → v.levels ≡ l ∷ ls → Stacked ps M v →
      IsTakenBack M l ls v.findalls
  taken_back_stands l ls p e (bottom q r w) = waits_first l ls e w
  taken_back_stands l ls p e (above {c = c} {cs = cs} q r i k s) = absurd (none (sym p ∙ q))
    where
      none : [] ≡ c ∷ cs → ⊥
      none e = cc

  waits_none : {M : Contents} {ks : List Level} {os : List FindallFrame} → ks ≡ [] → Waiting ps M ks os → os ≡ []
  waits_none k nobody = refl
  waits_none k (somebody {l = l} {ls = ls} i s b t) = absurd (some k)
    where
      some : l ∷ ls ≡ [] → ⊥
      some e = cc

  -- no search waits where no level is
  pub none_waits : {M : Contents} (w : View) → w.levels ≡ [] → Stacked ps M (lower 0 w) → w.findalls ≡ []
  none_waits w e (bottom q r k) = waits_none e k
  none_waits w e (above {c = c} {cs = cs} q r i k s) = absurd (none (sym (none_of w.choices) ∙ q))
    where
      none : [] ≡ c ∷ cs → ⊥
      none e = cc

  -- Stacks whose search is put aside stand for the search inside.
  pub stacks_put_aside : (M : Contents) (old new : Stacks) (w : View) (o : FindallFrame) (l : Level) (template : ℕ) → StacksStand ps M old w →
      o.choice_points ≡ w.choice_points
      → IsBranch ps M w l.next o.branch → IsTree M l.list o.list → l.moment ≡ now_of M → l.choices ≡ old.choices → l.terms ≡ old.terms
      → (nothing : Vec Choice Global) → new.choices ≡ nothing → nothing.items ≡ [] → (inner : Vec ℕ Global) → new.terms ≡ inner → inner.items ≡ template ∷ [] →
      new.levels.items ≡ old.levels.items ++ l ∷ [] → StacksStand ps M new (inner_view w template new.levels.items o)
  stacks_put_aside M old new w o l template s es b t at cs ts nothing is none inner asks one more =
      let same : view_of l w.levels w.findalls o ≡ w =
      same_view l w o (ap (λ (v : Vec Choice Global). reverse v.items) cs ∙ sym s.choices) es (ap (λ (v : Vec ℕ Global). v.items) ts ∙ sym s.terms) in
      record {
        choices = ap reverse (sym none) ∙ ap (λ (v : Vec Choice Global). reverse v.items) (sym is);
        terms = sym one ∙ ap (λ (v : Vec ℕ Global). v.items) (sym asks);
        levels = refl;
        stacked = put_aside_stands M w (inner_view w template new.levels.items o) l o same at b t s.stacked refl refl
            (reverse_more old.levels.items new.levels.items l more ∙ ap (λ ls. l ∷ ls) (sym s.levels)) refl;
      }
    where
      same_view : (l : Level) (w : View) (o : FindallFrame) → reverse l.choices.items ≡ w.choices → o.choice_points ≡ w.choice_points →
          l.terms.items ≡ w.terms → view_of l w.levels w.findalls o ≡ w
      same_view l w o p q r =
          ap (λ x. record { choices = x; choice_points = o.choice_points; terms = l.terms.items; levels = w.levels; findalls = w.findalls }) p
          ∙ ap (λ x. record { choices = w.choices; choice_points = x; terms = l.terms.items; levels = w.levels; findalls = w.findalls }) q
          ∙ ap (λ x. record { choices = w.choices; choice_points = w.choice_points; terms = x; levels = w.levels; findalls = w.findalls }) r

  -- where there is no level, no search waits
  pub no_level : {M : Contents} {w : View} (s : Stacks) → s.levels.items ≡ [] → StacksStand ps M s w → w.findalls ≡ []
  no_level {w = w} s e k = none_waits w (k.levels ∙ ap reverse e) (cut_stands ps 0 k.stacked)

  -- the level that is last, cut to nothing and taken back
  pub last_taken_back : {M : Contents} {w : View} (s : Stacks) (l : Level) (rest : List Level) → s.levels.items ≡ rest ++ l ∷ [] → StacksStand ps M s w →
      IsTakenBack M l (reverse rest) w.findalls
  last_taken_back {M = M} {w = w} s l rest e k =
      taken_back_stands l (reverse rest) (none_of w.choices) (k.levels ∙ reverse_more rest s.levels.items l e) (cut_stands ps 0 k.stacked)
