-- Marks go on to stand for the same heaps, however many changes come after them.
use Rattle.std.specs.Prelude.{◌≡◌, ℕ, suc, ◌-◌, ◌<◌, ◌≤◌, [], ◌∷◌, length, drop, ◌⊎◌}
use Rattle.std.proofs.Common.{refl, sym, ap, ◌∙◌, inl, inr, arith, length-drop}
use Rattle.ml_heap.specs.Changes.{Change, Changes, heap_of_mark, KeepsMarks}

pub marks_stay : (h : Changes) → KeepsMarks h h
marks_stay h m l = (l, refl)

pub marks_go_on : (h h' h'' : Changes) → KeepsMarks h h' → KeepsMarks h' h'' → KeepsMarks h h''
marks_go_on h h' h'' a b m l =
    let p = a m l in
    let q = b m p.0 in
    (q.0, q.1 ∙ p.1)

pub marks_kept : (c : Change) (h : Changes) → KeepsMarks h (c ∷ h)
marks_kept c h m l = (omega arith, at_last m l)
  where
    at_last : (m : ℕ) → m ≤ length h → heap_of_mark (c ∷ h) m ≡ heap_of_mark h m
    at_last m l =
        let e : length (c ∷ h) - m ≡ suc (length h - m) = omega arith in
        ap (λ n. drop n (c ∷ h)) e

-- undone one change, there is no less to undo
pub undone_one : (c : Change) (h : Changes) (m : ℕ) → m ≤ length h → heap_of_mark h m ≡ heap_of_mark (c ∷ h) m
undone_one c h m l = sym (marks_kept c h m l).1

pub all_undone : (h : Changes) (m : ℕ) → length h ≤ m → heap_of_mark h m ≡ h
all_undone h m l =
    let e : length h - m ≡ 0 = omega arith in
    ap (λ n. drop n h) e

-- one change less, where the mark is still below
pub undone_once : (h h' : Changes) (m : ℕ) → m < length h → h' ≡ drop 1 h → (m ≤ length h') × (heap_of_mark h' m ≡ heap_of_mark h m)
undone_once [] h' m l e = absurd (omega arith)
undone_once (c ∷ h) h' m l e =
    let k : h' ≡ h = e in
    let below : m ≤ length h = omega arith in
    (omega (arith, ap length k, below), ap (λ z. heap_of_mark z m) k ∙ undone_one c h m below)

-- a mark's heap has as many changes as the mark says
pub as_many : (h : Changes) (m : ℕ) → m ≤ length h → length (heap_of_mark h m) ≡ m
as_many h m l = omega (arith, length-drop (length h - m) h)

-- the heap of an earlier mark is had from that of a later one
pub earlier_mark : (h : Changes) (m n : ℕ) → m ≤ n → n ≤ length h → heap_of_mark (heap_of_mark h n) m ≡ heap_of_mark h m
earlier_mark [] m n l k = let e : n ≡ 0 = omega arith in let f : m ≡ 0 = omega arith in rw (e, f) refl
earlier_mark (c ∷ h) m n l k = elim (last (omega arith)) [
  | inl e ↦ let p : n ≡ suc (length h) = omega arith in ap (λ z. heap_of_mark z m) (all_undone (c ∷ h) n (omega arith))
  | inr i ↦ ap (λ z. heap_of_mark z m) (marks_kept c h n i).1 ∙ (earlier_mark h m n l i ∙ sym (marks_kept c h m (omega arith)).1)
]
  where
    last : n ≤ suc (length h) → (suc (length h) ≤ n) ⊎ (n ≤ length h)
    last l = grind arith
