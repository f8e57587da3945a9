-- What a reader answers, where each text has one reading or one first fault.
use Rattle.std.specs.Prelude.{◌≡◌, ◌⊎◌, Result, Ok, Err, MatchResult, IfOk}
use Rattle.std.proofs.Common.{refl, sym, ap, subst, ◌∙◌, inl, inr}
use Rattle.ml_reader.specs.declared.fault.ReadFault.{ReadFault}
use Rattle.ml_reader.specs.declared.fault.ReadStop.{ReadStop}
use Rattle.ml_reader.specs.declared.fault.ReadStop.TheVariants.{Fault, OutOfMemory}

module _ {T V : Type 0} (view : T → V) (Is : V → Type 0) (Wrong : ReadFault → Type 0)
    (one : (x y : V) → Is x → Is y → x ≡ y) (apart : (x : V) (f : ReadFault) → Is x → Wrong f → ⊥) (once : (f g : ReadFault) → Wrong f → Wrong g → f ≡ g) where
  pub whole_answer : (r : Result T ReadStop) → IfOk r (λ x. Is (view x)) → ((f : ReadFault) → r ≡ Err (Fault f) → Wrong f) → (v : V) → Is v
      → MatchResult r (λ x. view x ≡ v) (λ s. s ≡ OutOfMemory)
  whole_answer (Ok x) ok wrong v h = one (view x) v ok h
  whole_answer (Err (Fault f)) ok wrong v h = absurd (apart v f h (wrong f refl))
  whole_answer (Err OutOfMemory) ok wrong v h = refl

  pub told_fault : (r : Result T ReadStop) → IfOk r (λ x. Is (view x)) → ((f : ReadFault) → r ≡ Err (Fault f) → Wrong f) → (f : ReadFault) → Wrong f
      → (r ≡ Err (Fault f)) ⊎ (r ≡ Err OutOfMemory)
  told_fault (Ok x) ok wrong f h = absurd (apart (view x) f ok h)
  told_fault (Err (Fault g)) ok wrong f h = inl (ap (λ f. Err (Fault f)) (once g f (wrong g refl) h))
  told_fault (Err OutOfMemory) ok wrong f h = inr refl

-- want of memory that is handed on
pub no_memory : {T : Type 0} (Q : T → Type 0) (r : Result T ReadStop) (s t : ReadStop) → r ≡ Err s → s ≡ t → t ≡ OutOfMemory
    → MatchResult r Q (λ s. s ≡ OutOfMemory)
no_memory Q r s t is same e = subst (λ r. MatchResult r Q (λ s. s ≡ OutOfMemory)) (sym is) (same ∙ e)

pub without_memory : {T : Type 0} (r : Result T ReadStop) (s t : ReadStop) (f : ReadFault) → r ≡ Err s → s ≡ t → t ≡ OutOfMemory → (r ≡ Err (Fault f))
    ⊎ (r ≡ Err OutOfMemory)
without_memory r s t f is same e = inr (is ∙ ap Err (same ∙ e))

-- a stop that is handed on, whichever it is
pub either_stop : {A T : Type 0} (r : Result T ReadStop) (s t : ReadStop) (f : ReadFault) → r ≡ Err s → s ≡ t
    → ◌≡◌ {A = Result A ReadStop} (Err t) (Err (Fault f)) ⊎ ◌≡◌ {A = Result A ReadStop} (Err t) (Err OutOfMemory) → (r ≡ Err (Fault f)) ⊎ (r ≡ Err OutOfMemory)
either_stop r s t f is same (inl e) = let h : t ≡ Fault f = cc e in inl (is ∙ ap Err (same ∙ h))
either_stop r s t f is same (inr e) = let h : t ≡ OutOfMemory = cc e in inr (is ∙ ap Err (same ∙ h))

-- what was read is no stop
pub not_stopped : {A B : Type 0} (x : A) (f : ReadFault) → ◌≡◌ {A = Result A ReadStop} (Ok x) (Err (Fault f))
    ⊎ ◌≡◌ {A = Result A ReadStop} (Ok x) (Err OutOfMemory) → B
not_stopped x f (inl e) = cc e
not_stopped x f (inr e) = cc e
