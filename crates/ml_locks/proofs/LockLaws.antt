-- Laws of requests and of tables that hold the same.
use Rattle.std.proofs.Common.{◌≡◌, ℕ, ◌<◌, zero, suc, Bool, true, false, cond, List, [], ◌∷◌, length, refl, sym, ap, ◌∙◌, subst, Some, None, arith}
use Rattle.std.specs.Prelude.{Option, ◌==◌, ◌&&◌, ◌||◌}
use Rattle.ml_desk.specs.declared.death.Death.{Death}
use Rattle.ml_desk.specs.declared.mode.Mode.{Mode}
use Rattle.ml_locks.specs.Changes.{IsGranted, IsWeakened, stronger}
use Rattle.ml_locks.specs.Modes.{Locks, mode_of, same_bits}
use Rattle.ml_locks.specs.Requests.{IsLawful, NamesDeath, excludes, modes_at}
use Rattle.ml_locks.proofs.StoredModes.{same_file, at_slot, two_true, numbers_alike, restored}

no_pairs : (n : ℕ) → suc n ≡ 0 → ⊥
no_pairs n e = omega arith

-- tables of as many files whose sessions hold the same are equal
pub same_table : (t t' : Locks) → length t ≡ length t' → ((s d : ℕ) (u : List Bool) → mode_of t s d u ≡ mode_of t' s d u) → t ≡ t'
same_table [] [] l e = refl
same_table [] (g ∷ t') l e = absurd (no_pairs (length t') (sym l))
same_table (f ∷ t) [] l e = absurd (no_pairs (length t) l)
same_table (f ∷ t) (g ∷ t') l e =
    let rest : length t ≡ length t' = omega arith in
    let first = same_file f g (λ s u. e s zero u) in
    let others = same_table t t' rest (λ s d u. e s (suc d) u) in
    λ i. first i ∷ others i

with_nothing : (b : Bool) → (b || false) ≡ b
with_nothing true = refl
with_nothing false = refl

pub as_before : (old granted weakened : Locks) (k p : ℕ) (v : List Bool) (mode : Mode) → IsGranted old k p (v ∷ []) mode granted
    → IsWeakened granted k p v (mode_of old k p v) weakened → weakened ≡ old
as_before old granted weakened k p v mode g w = same_table weakened old (w.files ∙ g.files) (λ s d u. at s d u)
  where
    same : (s d : ℕ) (u : List Bool) → ((d == p) && ((s == k) && same_bits u v)) ≡ true → mode_of old k p v ≡ mode_of old s d u
    same s d u e =
        let both = two_true (d == p) ((s == k) && same_bits u v) e in
        let slot = at_slot s k u v both.1 in
        ap (λ x. mode_of old x p v) (sym slot.0) ∙ (ap (λ x. mode_of old s x v) (sym (numbers_alike d p both.0)) ∙ ap (mode_of old s d) (sym slot.1))

    at : (s d : ℕ) (u : List Bool) → mode_of weakened s d u ≡ mode_of old s d u
    at s d u = w.modes s d u
        ∙ (ap (cond ((d == p) && ((s == k) && same_bits u v)) (mode_of old k p v))
        (g.modes s d u ∙ ap (λ b. cond ((d == p) && ((s == k) && b)) (Some (stronger mode (mode_of old s d u))) (mode_of old s d u)) (with_nothing
        (same_bits u v)))
        ∙ restored ((d == p) && ((s == k) && same_bits u v)) (mode_of old k p v) (Some (stronger mode (mode_of old s d u))) (mode_of old s d u) (same s d u))

held_of : (o : Option Mode) (mode : Mode) → excludes o mode ≡ true → (held : Mode) × (o ≡ Some held) × (excludes (Some held) mode ≡ true)
held_of None mode e = absurd (no e)
  where
    no : false ≡ true → ⊥
    no e = cc
held_of (Some held) mode e = (held, refl, e)

pub lawful : (t : Locks) (asker p : ℕ) (us : List (List Bool)) (mode : Mode) (d : Death) → NamesDeath (modes_at t p) asker p us mode d → IsLawful t us d
lawful t asker p us mode d n =
    let found = held_of (mode_of t d.holder p d.unit.bits) mode n.first.1 in
    record {
      older = subst (λ (k : ℕ). d.holder < k) (sym n.session) n.older;
      needed = n.first.0;
      held = found.0;
      holds = ap (λ (x : ℕ). mode_of t d.holder x d.unit.bits) n.declaration ∙ found.1;
      excluded = ap (λ (m : Mode). excludes (Some found.0) m) n.asked ∙ found.2;
    }
