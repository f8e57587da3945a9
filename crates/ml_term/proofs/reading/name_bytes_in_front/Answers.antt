use Rattle.std.proofs.Common.{arith, sym, rules}
use Rattle.std.proofs.lemmas.List.Sums.{prefix_len_is}
use Rattle.ml_term.specs.Names.{is_name_byte}
use Rattle.ml_term.proofs.reading.name_bytes_in_front.Goals as goal

pub returns-then-not-is_name_byte-clause-same :
    goal.returns-then-not-is_name_byte-clause-same
returns-then-not-is_name_byte-clause-same c = sym (prefix_len_is is_name_byte c.args.bytes.now c.loop-i.i 0 (omega arith) c.loop-i.invariant
    (λ _. search rules))

pub returns-clause-same : goal.returns-clause-same
returns-clause-same c = sym (prefix_len_is is_name_byte c.args.bytes.now _ 0 (omega arith) (λ k h. c.loop-i.invariant k (omega arith))
    (λ h. absurd (omega (arith, h))))
