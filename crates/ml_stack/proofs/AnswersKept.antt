-- The answers that levels keep: nothing is kept yet where a search is put aside.
use Rattle.std.specs.Prelude.{◌≡◌, ◌-◌, ◌≤◌, List, [], ◌∷◌, ◌++◌, length, drop, reverse}
use Rattle.std.proofs.Common.{sym, ap, ◌∙◌, subst, arith}
use Rattle.ml_term.specs.Tree.{Tree}
use Rattle.ml_asking.specs.Asking.{FindallFrame}
use Rattle.ml_heap.specs.Changes.{Changes, heap_of_mark}
use Rattle.ml_stack.specs.declared.level.Level.{Level}
use Rattle.ml_stack.specs.Answers.{AreCopies, no_copy, Keeps, inside}
use Rattle.ml_stack.proofs.ListEnds.{reverse_more}

-- the heap of the present mark is the heap
present : (h : Changes) → heap_of_mark h (length h) ≡ h
present h = let e : length h - length h ≡ 0 = omega arith in ap (λ i. drop i h) e

pub put_aside_keeps : (h : Changes) (old new : List Level) (l : Level) (os : List FindallFrame) (o : FindallFrame) (written : List (List Tree)) →
    new ≡ old ++ l ∷ [] → l.kept ≡ length h → l.found.items ≡ []
    → Keeps h (reverse old) os o.found written → Keeps h (reverse new) (o ∷ os) [] written
put_aside_keeps h old new l os o written more at none k =
    let below : Keeps (heap_of_mark h l.kept) (reverse old) os o.found written =
    subst (λ x. Keeps x (reverse old) os o.found written) (sym (ap (heap_of_mark h) at ∙ present h)) k in
    let within : l.kept ≤ length h = omega (arith, at) in
    let copies : AreCopies h l.found.items [] = subst (λ rs. AreCopies h rs []) (sym none) no_copy in
    subst (λ ls. Keeps h ls (o ∷ os) [] written) (sym (reverse_more old new l more)) (inside within copies below)
