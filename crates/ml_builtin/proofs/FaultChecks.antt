-- The first check of a built-in that applies, and what stands where none does.
use Rattle.std.specs.Prelude.{◌≡◌, Bool, true, false, ◌&&◌, not, if◌then◌else◌, Option, Some, None, IsTrue}
use Rattle.std.proofs.Common.{refl, sym, subst}
use Rattle.ml_term.specs.Tree.{Tree}
use Rattle.ml_term.specs.Seen.{seen}
use Rattle.ml_term.specs.Valid.{is_valid}
use Rattle.ml_term.specs.declared.term.Term.{Term}
use Rattle.ml_heap.specs.Changes.{Changes}
use Rattle.ml_search.specs.Builtins.{BuiltinResult, result_unless}
use Rattle.ml_search.specs.Errors.{kept_small}
use Rattle.ml_builtin.specs.declared.outcome.Outcome.{Outcome}
use Rattle.ml_builtin.specs.declared.outcome.Outcome.TheVariants.{Raised}
use Rattle.ml_builtin.specs.Outcomes.{Agrees}
use Rattle.ml_builtin.specs.inside.Faults.{IsFault}

pub fault_is : (o : Option Tree) (t : Tree) (u : Term) → o ≡ Some t → seen u ≡ kept_small t → IsTrue (is_valid (seen u)) → IsFault o (Some u)
fault_is o t u e s v = subst (λ x. IsFault x (Some u)) (sym e) (s, v)

pub no_fault : (o : Option Tree) → o ≡ None → IsFault o None
no_fault o e = subst (λ x. IsFault x None) (sym e) tt

pub none_found : (o : Option Tree) → IsFault o None → o ≡ None
none_found None f = refl
none_found (Some t) f = absurd f

-- results by the first fault
pub raised_result : (h h' : Changes) (o : Option Tree) (d : BuiltinResult) (u : Term) → IsFault o (Some u) → h' ≡ h → Agrees h h' (result_unless o d) (Raised u)
raised_result h h' None d u f e = absurd f
raised_result h h' (Some t) d u f e = (e, f.0, f.1)

pub sound_result : (h h' : Changes) (o : Option Tree) (d : BuiltinResult) (x : Outcome) → IsFault o None → Agrees h h' d x → Agrees h h' (result_unless o d) x
sound_result h h' None d x f a = a
sound_result h h' (Some t) d x f a = absurd f

-- a check that did not apply
pub passed : (b : Bool) (t : Tree) (r : Option Tree) → (if b then Some t else r) ≡ None → (b ≡ false) × (r ≡ None)
passed true t r e = absurd (cc e)
passed false t r e = (refl, e)

pub not_both : (a b : Bool) → (a && b) ≡ false → a ≡ true → b ≡ false
not_both true b e k = e
not_both false b e k = absurd (cc k)

pub not_false : (b : Bool) → not b ≡ false → b ≡ true
not_false true e = refl
not_false false e = absurd (cc e)
