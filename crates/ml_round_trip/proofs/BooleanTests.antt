-- What tests tell.
use Rattle.std.specs.Prelude.{◌≡◌, ℕ, ◌+◌, ◌≤◌, Bool, true, false, ◌&&◌, ◌||◌, ◌⊎◌, ◌==◌, nat_le, List, cond}
use Rattle.std.specs.Str.{bytes_eq}
use Rattle.std.proofs.Common.{inl, inr, refl, arith}
use Rattle.std.proofs.lemmas.Slice.Eq.{bytes_eq-Decides}
use Rattle.std.proofs.lemmas.Bool.Decides.{leb_tells, eqb_tells}
use Rattle.ml_term.specs.Tree.{Trees, arity}
use Rattle.ml_term.specs.Text.{is_cell, dot}

-- what holds of either side of a choice holds of the choice
pub cond_cases : {A : Type 0} (P : A → Type 0) (b : Bool) (x y : A) → (b ≡ true → P x) → (b ≡ false → P y) → P (cond b x y)
cond_cases P true x y f g = f refl
cond_cases P false x y f g = g refl

pub both : (a b : Bool) → (a && b) ≡ true → (a ≡ true) × (b ≡ true)
both true b e = (refl, e)
both false b e = absurd (let clash : false ≡ true = e in cc)

pub both_hold : (a b : Bool) → a ≡ true → b ≡ true → (a && b) ≡ true
both_hold a b e f = cc

pub either : (a b : Bool) → (a || b) ≡ true → (a ≡ true) ⊎ (b ≡ true)
either true b e = inl refl
either false b e = inr e

pub or_true : (a b : Bool) → b ≡ true → (a || b) ≡ true
or_true true b e = refl
or_true false b e = e

pub same_bytes : (f g : List ℕ) → bytes_eq f g ≡ true → f ≡ g
same_bytes f g e = (bytes_eq-Decides f g).0 e

pub le_holds : (m n : ℕ) → nat_le m n ≡ true → m ≤ n
le_holds m n e = grind (arith, leb_tells m n)

-- a cell of a list is named `.` and has two arguments
pub cell_tells : (f : List ℕ) (ts : Trees) → is_cell f ts ≡ true → (f ≡ dot) × ((arity ts == 2) ≡ true)
cell_tells f ts e = let h = both (bytes_eq f dot) (arity ts == 2) e in (same_bytes f dot h.0, h.1)

pub not_two : (n : ℕ) → (1 + (1 + (1 + n)) == 2) ≡ true → ⊥
not_two n e = grind (arith, eqb_tells (1 + (1 + (1 + n))) 2)
