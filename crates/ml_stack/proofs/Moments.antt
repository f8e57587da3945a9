-- Memory at its moments: what a moment stands for stays, whatever comes after it, and moments nest.
use Rattle.std.specs.Prelude.{◌≡◌, ℕ, ◌+◌, ◌-◌, ◌≤◌, List, ◌++◌, length, take, drop}
use Rattle.std.proofs.Common.{ap, ◌∙◌, arith, length-drop, length-take, length-append}
use Rattle.std.proofs.lemmas.List.{take-append-le}
use Rattle.std.proofs.Math.Seq.{take-length}
use Rattle.ml_term.specs.Unify.{Map}
use Rattle.ml_heap.specs.Changes.{Changes, heap_of_mark}
use Rattle.ml_compile.specs.declared.instr.Instr.{Instr}
use Rattle.ml_stack.specs.declared.moment.Moment.{Moment}
use Rattle.ml_stack.specs.declared.frame.Frame.{Frame}
use Rattle.ml_stack.specs.Memories.{Contents, IsMoment, memory_of, now_of, Grows}
use Rattle.ml_stack.proofs.ListEnds.{take_take, drop_drop}

abbrev contents : Changes → List Frame → List ℕ → List ℕ → List (List Instr) → Contents
contents h fs ss vs cs = record { heap = h; frames = fs; slots = ss; saved = vs; codes = cs }

-- memories are the same by their parts
same_parts : (h h' : Changes) (fs fs' : List Frame) (ss ss' vs vs' : List ℕ) (cs cs' : List (List Instr)) → h ≡ h' → fs ≡ fs' → ss ≡ ss' → vs ≡ vs' → cs ≡ cs'
    → contents h fs ss vs cs ≡ contents h' fs' ss' vs' cs'
same_parts h h' fs fs' ss ss' vs vs' cs cs' p q r s t =
    ap (λ x. contents x fs ss vs cs) p ∙ ap (λ x. contents h' x ss vs cs) q ∙ ap (λ x. contents h' fs' x vs cs) r
    ∙ ap (λ x. contents h' fs' ss' x cs) s ∙ ap (λ x. contents h' fs' ss' vs' x) t

-- the heap of a mark in the heap of a later one
pub marks_nest : (h : Changes) (m n : ℕ) → m ≤ n → n ≤ length h → heap_of_mark (heap_of_mark h n) m ≡ heap_of_mark h m
marks_nest h m n l k =
    let e : (length (drop (length h - n) h) - m) + (length h - n) ≡ length h - m = omega (arith, length-drop (length h - n) h) in
    drop_drop (length (drop (length h - n) h) - m) (length h - n) h ∙ ap (λ i. drop i h) e

-- the parts of an earlier moment have its lengths
record HasLengths (M : Contents) (n : Moment) : Type 0 where
  mark : length M.heap ≡ n.mark
  frames : length M.frames ≡ n.frames
  slots : length M.slots ≡ n.slots
  saved : length M.saved ≡ n.saved
  codes : length M.codes ≡ n.codes

has_lengths : (M : Contents) (n : Moment) → IsMoment M n → HasLengths (memory_of M n) n
has_lengths M n l = record {
  mark = omega (arith, length-drop (length M.heap - n.mark) M.heap, l.mark);
  frames = omega (arith, length-take n.frames M.frames, l.frames);
  slots = omega (arith, length-take n.slots M.slots, l.slots);
  saved = omega (arith, length-take n.saved M.saved, l.saved);
  codes = omega (arith, length-take n.codes M.codes, l.codes);
}

-- a moment of an earlier memory is one of the later memory
pub moment_below : (M : Contents) (n k : Moment) → IsMoment M n → IsMoment (memory_of M n) k → IsMoment M k
moment_below M n k l i =
    let p = has_lengths M n l in
    record {
      mark = omega (arith, p.mark, l.mark, i.mark);
      frames = omega (arith, p.frames, l.frames, i.frames);
      slots = omega (arith, p.slots, l.slots, i.slots);
      saved = omega (arith, p.saved, l.saved, i.saved);
      codes = omega (arith, p.codes, l.codes, i.codes);
    }

-- and the memory of both is the same
pub moments_nest : (M : Contents) (n k : Moment) → IsMoment M n → IsMoment (memory_of M n) k → memory_of (memory_of M n) k ≡ memory_of M k
moments_nest M n k l i =
    let p = has_lengths M n l in
    same_parts _ _ _ _ _ _ _ _ _ _
    (marks_nest M.heap k.mark n.mark (omega (arith, p.mark, i.mark)) l.mark)
    (take_take k.frames n.frames M.frames (omega (arith, p.frames, i.frames)))
    (take_take k.slots n.slots M.slots (omega (arith, p.slots, i.slots)))
    (take_take k.saved n.saved M.saved (omega (arith, p.saved, i.saved)))
    (take_take k.codes n.codes M.codes (omega (arith, p.codes, i.codes)))

-- the memory of the present moment is the memory
pub moment_now : (M : Contents) → memory_of M (now_of M) ≡ M
moment_now M =
    let e : length M.heap - length M.heap ≡ 0 = omega arith in
    same_parts _ _ _ _ _ _ _ _ _ _ (ap (λ i. drop i M.heap) e) (take-length M.frames) (take-length M.slots) (take-length M.saved) (take-length M.codes)

pub is_moment_now : (M : Contents) → IsMoment M (now_of M)
is_moment_now M = record { mark = omega arith; frames = omega arith; slots = omega arith; saved = omega arith; codes = omega arith }

-- a length that a list had is one that a list has which it begins
still_within : {A : Type 0} → (n : ℕ) (xs ys : List A) → ((zs : List A) × (ys ≡ xs ++ zs)) → n ≤ length xs → n ≤ length ys
still_within n xs ys b l = omega (arith, ap length b.1, length-append xs b.0, l)

-- and so is what stood there
same_front : {A : Type 0} → (n : ℕ) (xs ys : List A) → ((zs : List A) × (ys ≡ xs ++ zs)) → n ≤ length xs → take n ys ≡ take n xs
same_front n xs ys b l = ap (take n) b.1 ∙ take-append-le n xs b.0 l

module _ (M N : Contents) (u : Map) (g : Grows M N u) where
  -- moments stay
  pub moment_stays : (n : Moment) → IsMoment M n → IsMoment N n
  moment_stays n i = record {
    mark = (g.heap.marks n.mark i.mark).0;
    frames = still_within n.frames M.frames N.frames g.frames i.frames;
    slots = still_within n.slots M.slots N.slots g.slots i.slots;
    saved = still_within n.saved M.saved N.saved g.saved i.saved;
    codes = still_within n.codes M.codes N.codes g.codes i.codes;
  }

  -- and so does the memory of each
  pub memory_stays : (n : Moment) → IsMoment M n → memory_of N n ≡ memory_of M n
  memory_stays n i = same_parts _ _ _ _ _ _ _ _ _ _ (g.heap.marks n.mark i.mark).1
      (same_front n.frames M.frames N.frames g.frames i.frames)
      (same_front n.slots M.slots N.slots g.slots i.slots)
      (same_front n.saved M.saved N.saved g.saved i.saved)
      (same_front n.codes M.codes N.codes g.codes i.codes)
