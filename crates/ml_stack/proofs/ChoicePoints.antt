-- What is done to choices: memory grows above them, the top one is taken with its memory, or dropped without going back, and one is pushed.
use Rattle.std.specs.Prelude.{◌≡◌, ℕ, ◌≤◌, ◌<◌, List, [], ◌∷◌, length, ◌⊎◌}
use Rattle.std.proofs.Common.{refl, sym, ap, ◌∙◌, subst, arith, inl, inr}
use Rattle.ml_term.specs.Unify.{Map}
use Rattle.ml_search.specs.Search.{last_of}
use Rattle.ml_asking.specs.Asking.{ChoicePoint, FindallFrame}
use Rattle.ml_stack.specs.declared.choice.Choice.{Choice}
use Rattle.ml_stack.specs.declared.choice.Left.{Left}
use Rattle.ml_stack.specs.declared.moment.Moment.{Moment}
use Rattle.ml_stack.specs.declared.level.Level.{Level}
use Rattle.ml_stack.specs.Memories.{Contents, IsMoment, memory_of, now_of, Grows, IsTree, CompiledProcedure}
use Rattle.ml_stack.specs.Stands.{View, lower, with_stacks, view_of, IsLeft, IsBranch, Stacked, bottom, above, Waiting, nobody, somebody}
use Rattle.ml_stack.proofs.ListEnds.{last_of_all, last_of_more}
use Rattle.ml_stack.proofs.Moments.{moment_stays, memory_stays, moment_below, moments_nest, moment_now, is_moment_now}

side : (h n : ℕ) → (h ≤ n) ⊎ (n < h)
side h n = grind arith

-- a view that is no higher is its own lower view
pub lower_all : (h : ℕ) (w : View) → length w.choices ≤ h → length w.choice_points ≤ h → lower h w ≡ w
lower_all h w l k =
    ap (λ cs. with_stacks w cs (last_of h w.choice_points)) (last_of_all h w.choices l)
    ∙ ap (λ es. with_stacks w w.choices es) (last_of_all h w.choice_points k)

-- the lower view of a view is that of the view below its top
pub ends_of : (h : ℕ) (w : View) (c : Choice) (cs : List Choice) (e : ChoicePoint) (es : List ChoicePoint) → w.choices ≡ c ∷ cs → w.choice_points ≡ e ∷ es →
    h ≤ length cs → h ≤ length es
    → lower h w ≡ lower h (with_stacks w cs es)
ends_of h w c cs e es p q l k =
    ap (λ x. with_stacks w x (last_of h w.choice_points)) (ap (last_of h) p ∙ last_of_more h c cs l)
    ∙ ap (λ x. with_stacks w (last_of h cs) x) (ap (last_of h) q ∙ last_of_more h e es k)

module _ (ps : List CompiledProcedure) where
  -- where each moment of one memory is one of another, of the same memory
  module _ (M N : Contents) (moves : (n : Moment) → IsMoment M n → IsMoment N n × (memory_of N n ≡ memory_of M n)) where
    waiting_moves : {ls : List Level} {os : List FindallFrame} → Waiting ps M ls os → Waiting ps N ls os
    waiting_moves nobody = nobody
    waiting_moves (somebody {l = l} {ls = ls} {o = o} {os = os} i s b t) =
        let p = moves l.moment i in
        somebody p.0 (subst (λ X. Stacked ps X (view_of l ls os o)) (sym p.1) s)
        (subst (λ X. IsBranch ps X (view_of l ls os o) l.next o.branch) (sym p.1) b)
        (subst (λ X. IsTree X l.list o.list) (sym p.1) t)

    stacked_moves : {w : View} → Stacked ps M w → Stacked ps N w
    stacked_moves (bottom p q r) = bottom p q (waiting_moves r)
    stacked_moves (above {w = w} {c = c} {cs = cs} {e = e} {es = es} p q i l s) =
        let m = moves c.moment i in
        above p q m.0 (subst (λ X. IsLeft ps X (with_stacks w cs es) c.left e) (sym m.1) l)
        (subst (λ X. Stacked ps X (with_stacks w cs es)) (sym m.1) s)

  -- memory grows above the choices
  pub stacked_grows : (M N : Contents) (u : Map) (w : View) → Grows M N u → Stacked ps M w → Stacked ps N w
  stacked_grows M N u w g s = stacked_moves M N (λ n i. (moment_stays M N u g n i, memory_stays M N u g n i)) s

  -- what stands in the memory of an earlier moment stands in the later memory
  pub stacked_later : (M : Contents) (n : Moment) (w : View) → IsMoment M n → Stacked ps (memory_of M n) w → Stacked ps M w
  stacked_later M n w i s = stacked_moves (memory_of M n) M (λ k j. (moment_below M n k i j, sym (moments_nest M n k i j))) s

  -- the top choice, with what is left there in the memory of its moment, and the others below it
  pub record Popped (M : Contents) (w : View) (c : Choice) (cs : List Choice) : Type 0 where
    pub e : ChoicePoint
    pub es : List ChoicePoint
    pub choice_points : w.choice_points ≡ e ∷ es
    pub moment : IsMoment M c.moment
    pub left : IsLeft ps (memory_of M c.moment) (with_stacks w cs es) c.left e
    pub below : Stacked ps (memory_of M c.moment) (with_stacks w cs es)

  pub popped : {M : Contents} {w : View} (c : Choice) (cs : List Choice) → w.choices ≡ c ∷ cs → Stacked ps M w → Popped M w c cs
  popped c cs k (bottom p q r) = absurd (none (sym p ∙ k))
    where
      none : [] ≡ c ∷ cs → ⊥
      none e = cc
  popped {M = M} {w = w} c cs k (above {c = d} {cs = ds} {e = e} {es = es} p q i l s) =
      let x : d ≡ c = first (sym p ∙ k) in
      let y : ds ≡ cs = rest (sym p ∙ k) in
      record {
        e = e;
        es = es;
        choice_points = q;
        moment = subst (λ (z : Choice). IsMoment M z.moment) x i;
        left =
            subst (λ (z : Choice). IsLeft ps (memory_of M z.moment) (with_stacks w cs es) z.left e) x
            (subst (λ zs. IsLeft ps (memory_of M d.moment) (with_stacks w zs es) d.left e) y l);
        below =
            subst (λ (z : Choice). Stacked ps (memory_of M z.moment) (with_stacks w cs es)) x
            (subst (λ zs. Stacked ps (memory_of M d.moment) (with_stacks w zs es)) y s);
      }
    where
      first : d ∷ ds ≡ c ∷ cs → d ≡ c
      first e = cc

      rest : d ∷ ds ≡ c ∷ cs → ds ≡ cs
      rest e = cc

  -- where no choice is, no choice point is
  pub none_left : {M : Contents} {w : View} → w.choices ≡ [] → Stacked ps M w → w.choice_points ≡ []
  none_left k (bottom p q r) = q
  none_left k (above {c = c} {cs = cs} p q i l s) = absurd (none (sym p ∙ k))
    where
      none : c ∷ cs ≡ [] → ⊥
      none e = cc

  -- choices and choice points are as many
  pub as_many : {M : Contents} {w : View} → Stacked ps M w → length w.choices ≡ length w.choice_points
  as_many (bottom p q r) = ap length p ∙ sym (ap length q)
  as_many (above p q i l s) = omega (arith, ap length p, ap length q, as_many s)

  -- a cut keeps the last ones, in the memory as it is
  pub cut_stands : {M : Contents} {w : View} (h : ℕ) → Stacked ps M w → Stacked ps M (lower h w)
  cut_stands {M = M} {w = w} h (bottom p q r) =
      subst (λ v. Stacked ps M v) (sym (lower_all h w (omega (arith, ap length p)) (omega (arith, ap length q)))) (bottom p q r)
  cut_stands {M = M} {w = w} h (above {c = c} {cs = cs} {e = e} {es = es} p q i l s) =
      elim (side h (length cs)) [
        | inl low ↦
            let same = ends_of h w c cs e es p q low (omega (arith, as_many s)) in
            subst (λ v. Stacked ps M v) (sym same) (stacked_later M c.moment (lower h (with_stacks w cs es)) i (cut_stands h s))
        | inr high ↦
            let whole = lower_all h w (omega (arith, ap length p)) (omega (arith, ap length q, as_many s)) in
            subst (λ v. Stacked ps M v) (sym whole) (above p q i l s)
      ]

  -- a choice is pushed, at the present moment
  pub pushed_stands : (M : Contents) (w : View) (l : Left) (e : ChoicePoint) → IsLeft ps M w l e → Stacked ps M w
      → Stacked ps M (with_stacks w (record { moment = now_of M; left = l } ∷ w.choices) (e ∷ w.choice_points))
  pushed_stands M w l e i s =
      let m = sym (moment_now M) in
      above refl refl (is_moment_now M) (subst (λ X. IsLeft ps X w l e) m i) (subst (λ X. Stacked ps X w) m s)
