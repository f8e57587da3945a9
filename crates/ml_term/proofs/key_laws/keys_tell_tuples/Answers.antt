use Rattle.std.proofs.Common.{ap, sym, ◌∙◌, ◌++◌, []}
use Rattle.std.proofs.lemmas.List.{append-nil}
use Rattle.std.specs.Cmp.{bool_cmp_total}
use Rattle.std.proofs.lemmas.Cmp.{lists_total, on_total}
use Rattle.ml_term.specs.Keys.{tuple_key}
use Rattle.ml_term.proofs.KeysTellTuples.{tuple_keys_tell, begun_by, equal_bits}
use Rattle.ml_term.proofs.key_laws.keys_tell_tuples.Goals as goal

pub returns-clause-different : goal.returns-clause-different
returns-clause-different c keys t u p q e = tuple_keys_tell keys t u [] [] p q (ap (λ k. k ++ []) e)

pub returns-clause-apart : goal.returns-clause-apart
returns-clause-apart c keys t u p q e =
    let more = begun_by (tuple_key keys t) (tuple_key keys u) e in
    tuple_keys_tell keys t u more.0 [] p q (more.1 ∙ sym (append-nil (tuple_key keys u)))

pub returns-clause-order : goal.returns-clause-order
returns-clause-order c keys t u p q e = tuple_keys_tell keys t u [] [] p q (ap (λ k. k ++ []) (equal_bits (tuple_key keys t) (tuple_key keys u) e))

pub returns-clause-total : goal.returns-clause-total
returns-clause-total c keys = on_total (tuple_key keys) (lists_total bool_cmp_total)
