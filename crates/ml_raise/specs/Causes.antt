-- What the raised terms call their causes.
use Rattle.std.specs.Prelude.{ℕ, List, codes}
use Rattle.ml_raise.specs.declared.cause.Arithmetic.{Arithmetic}
use Rattle.ml_raise.specs.declared.cause.Arithmetic.TheVariants.{IntOverflow, ZeroDivisor}
use Rattle.ml_raise.specs.declared.cause.Domain.{Domain}
use Rattle.ml_raise.specs.declared.cause.Domain.TheVariants.{NotLessThanZero, NonEmptyList}
use Rattle.ml_raise.specs.declared.cause.TermType.{TermType}
use Rattle.ml_raise.specs.declared.cause.TermType.TheVariants as term_type
use Rattle.ml_raise.specs.declared.limit.Limit.{Limit}
use Rattle.ml_raise.specs.declared.limit.Limit.TheVariants.{Inferences, TermNodes, ItemBytes}
use Rattle.ml_raise.specs.declared.limit.Limit.TheVariants.{Changes, AnswerBytes}

-- the name of a type
abbrev pub type_name : TermType → List ℕ
type_name term_type.Atom = codes "atom"
type_name term_type.Atomic = codes "atomic"
type_name term_type.Callable = codes "callable"
type_name term_type.Compound = codes "compound"
type_name term_type.Integer = codes "integer"
type_name term_type.List = codes "list"

-- the name of a domain
abbrev pub domain_name : Domain → List ℕ
domain_name NotLessThanZero = codes "not_less_than_zero"
domain_name NonEmptyList = codes "non_empty_list"

-- the name of what is wrong in arithmetic
abbrev pub arithmetic_name : Arithmetic → List ℕ
arithmetic_name IntOverflow = codes "int_overflow"
arithmetic_name ZeroDivisor = codes "zero_divisor"

-- the name of a limit
abbrev pub limit_name : Limit → List ℕ
limit_name Inferences = codes "inferences"
limit_name TermNodes = codes "term"
limit_name ItemBytes = codes "item"
limit_name Changes = codes "changes"
limit_name AnswerBytes = codes "output"
