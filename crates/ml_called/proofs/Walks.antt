-- A walk through connectives, from step to step.
use Rattle.std.specs.Prelude.{◌≡◌, ℕ, ◌+◌, ◌-◌, ◌*◌, ◌<◌, true, List, [], ◌∷◌, ◌++◌, length}
use Rattle.std.proofs.Common.{refl, ap, sym, ◌∙◌, subst, arith, append_assoc, length-append}
use Rattle.ml_term.specs.Tree.{Tree, compound_2, nodes}
use Rattle.ml_term.specs.Seen.{seen}
use Rattle.ml_term.specs.declared.term.Term.{Term}
use Rattle.ml_search.specs.Bodies.{joins_bodies}
use Rattle.ml_heap.specs.Changes.{Changes, cell_count, stands_for}
use Rattle.ml_called.specs.declared.walk.Frame.{Frame}
use Rattle.ml_called.specs.declared.walk.Frame.TheVariants.{First, Second}
use Rattle.ml_called.specs.declared.walk.Step.{Step}
use Rattle.ml_called.specs.declared.walk.Step.TheVariants.{Enter, Outlined}
use Rattle.ml_called.specs.inside.Outlines.{parts, outline, Outline, outline_behind, frame_outline, frames_outline, step_outline, HasCells, IsSoundFrame, AreSoundFrames, IsSoundStep, IsWalking, work_of_frame, work_of_frames, work_of_step}
use Rattle.ml_called.proofs.Slots.{no_cells, cells_on, how_many}
use Rattle.ml_called.proofs.RestoredTerms.{outline_joined}
use Rattle.ml_called.proofs.TermsOfBodies.{parts_joined}

module _ (h : Changes) where
  last_first : (fs : List Frame) (f : Frame) (o : Outline) → frames_outline h (fs ++ f ∷ []) o ≡ frames_outline h fs (frame_outline h f o)
  last_first [] f o = refl
  last_first (g ∷ fs) f o = ap (frame_outline h g) (last_first fs f o)

  sound_with_last : (fs : List Frame) (f : Frame) → AreSoundFrames h fs → IsSoundFrame h f → AreSoundFrames h (fs ++ f ∷ [])
  sound_with_last [] f a b = (b, tt)
  sound_with_last (g ∷ fs) f a b = (a.0, sound_with_last fs f a.1 b)

  sound_before_last : (fs : List Frame) (f : Frame) → AreSoundFrames h (fs ++ f ∷ []) → AreSoundFrames h fs
  sound_before_last [] f a = tt
  sound_before_last (g ∷ fs) f a = (a.0, sound_before_last fs f a.1)

  sound_last : (fs : List Frame) (f : Frame) → AreSoundFrames h (fs ++ f ∷ []) → IsSoundFrame h f
  sound_last [] f a = a.0
  sound_last (g ∷ fs) f a = sound_last fs f a.1

  pub work_with_last : (fs : List Frame) (f : Frame) → work_of_frames h (fs ++ f ∷ []) ≡ work_of_frames h fs + work_of_frame h f
  work_with_last [] f = omega arith
  work_with_last (g ∷ fs) f = omega (arith, work_with_last fs f)

  -- the beginning
  pub walk_begins : (old : List ℕ) (frames : List Frame) (at : ℕ) (step : Step) → at < cell_count h → frames ≡ [] → step ≡ Enter at
      → IsWalking h old (outline_behind [] (stands_for h at)) frames old step
  walk_begins old frames at step i e s = record {
    terms = [];
    cells = no_cells h old;
    leads = ap (λ fs. frames_outline h fs (step_outline h [] step)) e ∙ ap (step_outline h []) s;
    sound_frames = subst (AreSoundFrames h) (sym e) tt;
    sound_step = subst (IsSoundStep h) (sym s) i;
  }

  -- the outline of a connective behind some terms, by those of its operands
  abbrev made : Tree → List Tree → Outline
  made t ts = record { term = t; terms = ts }

  joined_behind : (ts : List Tree) (f : List ℕ) (t u : Tree) → joins_bodies f ≡ true
      → outline_behind ts (compound_2 f t u) ≡ made (compound_2 f (outline (length ts) t) (outline (length (ts ++ parts t)) u)) (ts ++ parts t ++ parts u)
  joined_behind ts f t u j =
      let e : length ts + length (parts t) ≡ length (ts ++ parts t) = sym (length-append ts (parts t)) in
      let term : outline (length ts) (compound_2 f t u) ≡ compound_2 f (outline (length ts) t) (outline (length (ts ++ parts t)) u) =
      outline_joined (length ts) f t u j ∙ ap (λ k. compound_2 f (outline (length ts) t) (outline k u)) e in
      let terms : ts ++ parts (compound_2 f t u) ≡ ts ++ parts t ++ parts u =
      ap (λ x. ts ++ x) (parts_joined f t u j) ∙ sym (append_assoc ts (parts t) (parts u)) in
      both _ _ _ _ term terms
    where
      both : (a b : Tree) (xs ys : List Tree) → a ≡ b → xs ≡ ys → made a xs ≡ made b ys
      both a b xs ys d e = cc

  module _ (old : List ℕ) (want : Outline) (frames new : List Frame) (slots : List ℕ) where
    -- into a connective
    pub walk_enters : (at a b : ℕ) (f : List ℕ) → IsWalking h old want frames slots (Enter at) →
        stands_for h at ≡ compound_2 f (stands_for h a) (stands_for h b)
        → joins_bodies f ≡ true → a < cell_count h → b < cell_count h → new ≡ frames ++ First f b ∷ [] → IsWalking h old want new slots (Enter a)
    walk_enters at a b f w is j ia ib e = record {
      terms = w.terms;
      cells = w.cells;
      leads =
          ap (λ fs. frames_outline h fs (outline_behind w.terms (stands_for h a))) e
          ∙ (last_first frames (First f b) (outline_behind w.terms (stands_for h a))
          ∙ (ap (frames_outline h frames) (sym (ap (outline_behind w.terms) is ∙ joined_behind w.terms f (stands_for h a) (stands_for h b) j)) ∙ w.leads));
      sound_frames = subst (AreSoundFrames h) (sym e) (sound_with_last frames (First f b) w.sound_frames ib);
      sound_step = ia;
    }

    -- a goal is outlined
    pub walk_outlines : (at env : ℕ) (slots' : List ℕ) (a : Term) → IsWalking h old want frames slots (Enter at) → env ≡ length old
        → HasCells h slots slots' (parts (stands_for h at)) → seen a ≡ outline (length slots - env) (stands_for h at) →
        IsWalking h old want frames slots' (Outlined a)
    walk_outlines at env slots' a w e c s =
        let n : length slots - env ≡ length w.terms = omega (arith, how_many h old slots w.terms w.cells, e) in
        let is : seen a ≡ outline (length w.terms) (stands_for h at) = s ∙ ap (λ k. outline k (stands_for h at)) n in
        record {
          terms = w.terms ++ parts (stands_for h at);
          cells = cells_on h old slots slots' w.terms (parts (stands_for h at)) w.cells c;
          leads = ap (λ x. frames_outline h frames (made x (w.terms ++ parts (stands_for h at)))) is ∙ w.leads;
          sound_frames = w.sound_frames;
          sound_step = tt;
        }

    -- on to the right operand
    pub walk_goes_on : (f : List ℕ) (r : ℕ) (a : Term) → IsWalking h old want (frames ++ First f r ∷ []) slots (Outlined a) → new ≡ frames ++ Second f a ∷ []
        → IsWalking h old want new slots (Enter r)
    walk_goes_on f r a w e = record {
      terms = w.terms;
      cells = w.cells;
      leads =
          ap (λ fs. frames_outline h fs (outline_behind w.terms (stands_for h r))) e
          ∙ (last_first frames (Second f a) (outline_behind w.terms (stands_for h r))
          ∙ (sym (last_first frames (First f r) (made (seen a) w.terms)) ∙ w.leads));
      sound_frames = subst (AreSoundFrames h) (sym e) (sound_with_last frames (Second f a) (sound_before_last frames (First f r) w.sound_frames) tt);
      sound_step = sound_last frames (First f r) w.sound_frames;
    }

    -- a connective is outlined
    pub walk_joins : (f : List ℕ) (a b c : Term) → IsWalking h old want (frames ++ Second f a ∷ []) slots (Outlined b) → new ≡ frames
        → seen c ≡ compound_2 f (seen a) (seen b) → IsWalking h old want new slots (Outlined c)
    walk_joins f a b c w e s = record {
      terms = w.terms;
      cells = w.cells;
      leads =
          ap (λ fs. frames_outline h fs (made (seen c) w.terms)) e
          ∙ (ap (λ x. frames_outline h frames (made x w.terms)) s
          ∙ (sym (last_first frames (Second f a) (made (seen b) w.terms)) ∙ w.leads));
      sound_frames = subst (AreSoundFrames h) (sym e) (sound_before_last frames (Second f a) w.sound_frames);
      sound_step = tt;
    }

    -- the end
    pub walk_ends : (a : Term) → IsWalking h old want frames slots (Outlined a) → length frames ≡ 0 → (seen a ≡ want.term) × HasCells h old slots want.terms
    walk_ends a w e =
        let none : frames ≡ [] = empty frames e in
        let is : made (seen a) w.terms ≡ want =
        sym (ap (λ fs. frames_outline h fs (made (seen a) w.terms)) none) ∙ w.leads in
        (ap (λ (o : Outline). o.term) is, subst (λ (ts : List Tree). HasCells h old slots ts) (ap (λ (o : Outline). o.terms) is) w.cells)
      where
        empty : (fs : List Frame) → length fs ≡ 0 → fs ≡ []
        empty [] e = refl
        empty (f ∷ fs) e = absurd (omega (arith, e))

  -- what is left becomes less
  pub less_entering : (at a b : ℕ) (f : List ℕ) (frames new : List Frame) → stands_for h at ≡ compound_2 f (stands_for h a) (stands_for h b)
      → new ≡ frames ++ First f b ∷ [] → work_of_step h (Enter a) + work_of_frames h new < 3 * nodes (stands_for h at) + work_of_frames h frames
  less_entering at a b f frames new is e = omega (arith, ap nodes is, ap (work_of_frames h) e, work_with_last frames (First f b))
