-- What an evaluation's fault stands for. The code's fault holds no term.
use Rattle.std.specs.Prelude.{◌≡◌, ℤ, Result, Ok, Err, codes}
use Rattle.ml_term.specs.Tree.{Tree}
use Rattle.ml_search.specs.Errors.{indicator, instantiation_error, type_error, evaluation_error}
use Rattle.ml_search.specs.Evaluate.{Value, value, no_value}
use Rattle.ml_arith.specs.declared.fault.EvalFault.{EvalFault}
use Rattle.ml_arith.specs.declared.fault.EvalFault.TheVariants.{Unbound, NotEvaluable, Overflow}
use Rattle.ml_arith.specs.declared.fault.EvalFault.TheVariants.{ZeroDivisor}
use Rattle.ml_arith.specs.declared.fault.EvalStop.{EvalStop}
use Rattle.ml_arith.specs.declared.fault.EvalStop.TheVariants.{Fault}

-- the term that is raised for a fault
abbrev pub fault_term : EvalFault → Tree
fault_term Unbound = instantiation_error
fault_term (NotEvaluable f n) = type_error (codes "evaluable") (indicator f n)
fault_term Overflow = evaluation_error (codes "int_overflow")
fault_term ZeroDivisor = evaluation_error (codes "zero_divisor")

-- the value that the result of an operation stands for
abbrev pub result_value : Result ℤ EvalFault → Value
result_value (Ok z) = value z
result_value (Err f) = no_value (fault_term f)

-- Whether an evaluation stops at a fault only where this value is the term that is raised for it.
abbrev pub Stops : {A : Type 0} → Result A EvalStop → Value → Type 0
Stops result v = (f : EvalFault) → result ≡ Err (Fault f) → v ≡ no_value (fault_term f)
