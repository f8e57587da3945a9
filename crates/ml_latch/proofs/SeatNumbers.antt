-- Seats in the order of their numbers, where the last one is taken in.
use Rattle.std.proofs.Common.{◌≡◌, ℕ, zero, suc, ◌+◌, ◌<◌, ◌≤◌, List, [], ◌∷◌, ◌++◌, length, slice_get, refl, ap, sym, ◌∙◌, subst, arith, Some, Contains}
use Rattle.std.proofs.lemmas.List.Elements.{Contains-append_left, Contains-append_right}
use mathlib.Core.Logic.{dite}
use native.Mathlib.Decide.{ℕ_discrete}
use Rattle.ml_latch.specs.Seat.{LatchState, SeatState, IsSeatOf, AreNumbered}

slice_get-end : {A : Type 0} (xs : List A) (x : A) → slice_get (xs ++ x ∷ []) (length xs) ≡ Some x
slice_get-end [] x = refl
slice_get-end (y ∷ ys) x = slice_get-end ys x

slice_get-longer : {A : Type 0} (xs zs : List A) (k : ℕ) (x : A) → slice_get xs k ≡ Some x → slice_get (xs ++ zs) k ≡ Some x
slice_get-longer [] zs k x h = absurd (cc (h))
slice_get-longer (y ∷ ys) zs zero x h = h
slice_get-longer (y ∷ ys) zs (suc k) x h = slice_get-longer ys zs k x h

module _ {X E N : Type 0} where
  -- what is so of the seat with the number k + 1
  abbrev pub IsNext : LatchState X → ℕ → SeatState X E N → Type 0
  IsNext latch k seat = IsSeatOf latch seat × (seat.number ≡ k + 1) × (seat.kept ≡ [])

  pub last_and_others : (latch : LatchState X) (seats left : List (SeatState X E N)) (seat : SeatState X E N) (k : ℕ) → k ≡ length left
      → seats ≡ left ++ seat ∷ []
      → AreNumbered latch seats → IsNext latch k seat × AreNumbered latch left
  last_and_others latch seats left seat k len is all = (
    subst (λ (j : ℕ). IsNext latch j seat) (sym len) (all (length left) seat (ap (λ (l : List (SeatState X E N)). slice_get l (length left)) is
        ∙ slice_get-end left seat)),
    (λ j other at. all j other (ap (λ (l : List (SeatState X E N)). slice_get l j) is ∙ slice_get-longer left (seat ∷ []) j other at)),
  )

  -- a seat that takes in the seat k + 1 has taken in all from that one on, where it had taken in those after it
  pub took_in_one_more : (kept : List (ℕ × List N)) (seat : SeatState X E N) (k most : ℕ) → seat.number ≡ k + 1
      → ((n : ℕ) → k + 1 < n → n ≤ most → (own : List N) × Contains kept (n, own))
      → (n : ℕ) → k < n → n ≤ most → (own : List N) × Contains (kept ++ (seat.number, seat.own) ∷ seat.kept) (n, own)
  took_in_one_more kept seat k most number later n some le = dite (ℕ_discrete n (k + 1))
      (λ same. (
        seat.own,
        subst (λ (m : ℕ). Contains (kept ++ (seat.number, seat.own) ∷ seat.kept) (m, seat.own)) (number ∙ sym same)
            (Contains-append_right kept ((seat.number, seat.own) ∷ seat.kept) (seat.number, seat.own) (0, omega arith, refl)),
      ))
      (λ other. let t = later n (omega (arith, some, other)) le in (t.0, Contains-append_left kept ((seat.number, seat.own) ∷ seat.kept) (n, t.0) t.1))
