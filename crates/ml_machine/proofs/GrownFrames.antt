-- Memory in which frames alone were pushed: all that stands in it stays.
use Rattle.std.specs.Prelude.{◌≡◌, ℕ, ◌+◌, ◌≤◌, List, [], ◌∷◌, ◌++◌, length, map, Some, slice_get}
use Rattle.std.proofs.Common.{refl, sym, ap, ◌∙◌, subst, append-nil, append_assoc, add-one}
use Rattle.ml_term.specs.Tree.{substitute}
use Rattle.ml_search.specs.Bodies.{Body, in_body}
use Rattle.ml_search.specs.Actions.{Continuation, run_body, cut_to, Branch}
use Rattle.ml_asking.specs.Asking.{Member}
use Rattle.ml_compile.specs.Spells.{IsBlock, block}
use Rattle.ml_compile.specs.declared.instr.Instr.{Instr}
use Rattle.ml_stack.specs.declared.frame.Frame.{Frame}
use Rattle.ml_stack.specs.declared.frame.Frame.TheVariants.{Body as BodyFrame, Cut}
use Rattle.ml_stack.specs.declared.frame.At.{At}
use Rattle.ml_stack.specs.declared.frame.CodeName.{CodeName}
use Rattle.ml_stack.specs.declared.frame.CodeName.TheVariants.{OfClause, Called}
use Rattle.ml_stack.specs.declared.choice.Choice.{Choice}
use Rattle.ml_stack.specs.Memories.{Contents, Grows, with_frame, value_in, tree, AreInside, CompiledProcedure, code_of}
use Rattle.ml_stack.specs.Variables.{HasSlots}
use Rattle.ml_stack.specs.Stands.{View, HasTerms, Continues, goes, of_body, of_cut, Runs, at_end, at_body}
use Rattle.ml_stack.specs.Choices.{StandFor}
use Rattle.ml_stack.proofs.ListEnds.{found_at_seam}
use Rattle.ml_stack.proofs.CarriedPlainly.{heap_stays, continues_plainly, runs_plainly}
use Rattle.ml_stack.proofs.ChoicePoints.{stacked_grows}
use Rattle.ml_machine.specs.MoreFrames.{with_frames, HasMoreFrames}
use Rattle.ml_machine.specs.Instructions.{block_at}

pub no_more_frames : (M : Contents) → HasMoreFrames M M
no_more_frames M = record {
  frames = [];
  is = ap (λ fs. record { heap = M.heap; frames = fs; slots = M.slots; saved = M.saved; codes = M.codes }) (sym
      (append-nil M.frames));
}

pub one_frame : (M N : Contents) (f : Frame) → N ≡ with_frame M f → HasMoreFrames M N
one_frame M N f e = record { frames = f ∷ []; is = e }

pub more_frames : (M N O : Contents) → HasMoreFrames M N → HasMoreFrames N O → HasMoreFrames M O
more_frames M N O g h = record {
  frames = g.frames ++ h.frames;
  is =
      h.is ∙ ap (λ X. with_frames X h.frames) g.is
      ∙ ap (λ fs. record { heap = M.heap; frames = fs; slots = M.slots; saved = M.saved; codes = M.codes }) (append_assoc M.frames g.frames h.frames);
}

pub frames_grow : (M N : Contents) → HasMoreFrames M N → Grows M N []
frames_grow M N g = subst (λ X. Grows M X []) (sym g.is) (record {
  heap = heap_stays M.heap;
  frames = (g.frames, refl);
  slots = ([], sym (append-nil M.slots));
  saved = ([], sym (append-nil M.saved));
  codes = ([], sym (append-nil M.codes));
})

-- the terms of a branch, and the slots of a body
pub terms_stay : {M N : Contents} {w v : View} {b c : Branch Member} → HasMoreFrames M N → v.terms ≡ w.terms → c.terms ≡ b.terms → c.next ≡ b.next →
    HasTerms M w b → HasTerms N v c
terms_stay {M = M} {N = N} {w = w} {v = v} {b = b} {c = c} g t u n h =
    let here : HasTerms (with_frames M g.frames) w b = record { terms = record { inside = h.terms.inside; are = h.terms.are }; next = h.next } in
    let there : HasTerms N w b = subst (λ X. HasTerms X w b) (sym g.is) here in
    record {
      terms = record {
        inside = subst (λ rs. AreInside N rs) (sym t) there.terms.inside;
        are = u ∙ there.terms.are ∙ ap (λ rs. map (tree N) rs) (sym t);
      };
      next = n ∙ there.next;
    }

pub slots_stay : {M N : Contents} (env : ℕ) (b : Body) → HasMoreFrames M N → HasSlots M env b → HasSlots N env b
slots_stay {M = M} {N = N} env b g h =
    let here : HasSlots (with_frames M g.frames) env b = λ n o. (let s = h n o in record { cell = s.cell; slot = s.slot; inside = s.inside }) in
    subst (λ X. HasSlots X env b) (sym g.is) here

pub value_stays : {M N : Contents} (env : ℕ) → HasMoreFrames M N → value_in N env ≡ value_in M env
value_stays env g = ap (λ X. value_in X env) g.is

pub code_stays : {M N : Contents} (ps : List CompiledProcedure) (a : At) → HasMoreFrames M N → code_of ps N a.code ≡ code_of ps M a.code
code_stays {M = M} ps a g = ap (λ X. code_of ps X a.code) g.is ∙ same_codes ps M g.frames a.code
  where
    same_codes : (ps : List CompiledProcedure) (M : Contents) (fs : List Frame) (c : CodeName) → code_of ps (with_frames M fs) c ≡ code_of ps M c
    same_codes ps M fs (OfClause p c) = refl
    same_codes ps M fs (Called k) = refl

module _ (ps : List CompiledProcedure) where
  pub choices_stay : {M N : Contents} {cs : List Choice} {w : View} → HasMoreFrames M N → StandFor ps M cs w → StandFor ps N cs w
  choices_stay {M = M} {N = N} {w = w} g s = record { seen = s.seen; stacked = stacked_grows ps M N [] w (frames_grow M N g) s.stacked }

  pub link_stays : {M N : Contents} {w : View} {n l : ℕ} {gs : Continuation Member} → HasMoreFrames M N → Continues ps M w n l gs → Continues ps N w n l gs
  link_stays {M = M} {N = N} g c = continues_plainly M N (frames_grow M N g) ps c

  pub place_stays : {M N : Contents} {w : View} {n : ℕ} {a : At} {gs : Continuation Member} → HasMoreFrames M N → Runs ps M w n a gs → Runs ps N w n a gs
  place_stays {M = M} {N = N} g r = runs_plainly M N (frames_grow M N g) ps r

  -- a block runs, and then what stands behind it
  pub block_runs : {M : Contents} {w : View} {c : List Instr} {gs : Continuation Member} {b : Body} (a : At) (n by height next : ℕ) →
      code_of ps M a.code ≡ Some c
      → IsBlock c (a.place + by) b → height ≤ n → HasSlots M a.env b → Continues ps M w height next gs
      → Runs ps M w n (block_at a by height next) (run_body (in_body (substitute (value_in M a.env)) b) height gs)
  block_runs a n by height next k (block s e) l h c = at_body k l s h (at_end k e c) refl

  -- the link to a frame that was pushed last
  pub body_linked : {M N : Contents} {w : View} {n link : ℕ} {a : At} {gs : Continuation Member} → N ≡ with_frame M (BodyFrame a) → link ≡ length M.frames + 1 →
      Runs ps M w n a gs
      → Continues ps N w n link gs
  body_linked {M = M} {N = N} {w = w} {n = n} {link = link} {a = a} {gs = gs} is at r =
      let e : slice_get N.frames (length M.frames) ≡ Some (BodyFrame a) =
      ap (λ (X : Contents). slice_get X.frames (length M.frames)) is ∙ found_at_seam M.frames (BodyFrame a) in
      subst (λ l. Continues ps N w n l gs) (sym (at ∙ add-one (length M.frames)))
      (goes e (of_body (place_stays (one_frame M N (BodyFrame a) is) r)))

  pub cut_linked : {M N : Contents} {w : View} {n h next link : ℕ} {gs : Continuation Member} → N ≡ with_frame M (Cut h next) → link ≡ length M.frames + 1 →
      h ≤ n
      → Continues ps M w h next gs
      → Continues ps N w n link (cut_to h gs)
  cut_linked {M = M} {N = N} {w = w} {n = n} {h = h} {next = next} {link = link} {gs = gs} is at l c =
      let e : slice_get N.frames (length M.frames) ≡ Some (Cut h next) =
      ap (λ (X : Contents). slice_get X.frames (length M.frames)) is ∙ found_at_seam M.frames (Cut h next) in
      subst (λ k. Continues ps N w n k (cut_to h gs)) (sym (at ∙ add-one (length M.frames)))
      (goes e (of_cut l (link_stays (one_frame M N (Cut h next) is) c)))
