use Rattle.std.proofs.Common.{ap, sym, ◌∙◌, ◌++◌, []}
use Rattle.std.proofs.lemmas.List.{append-nil}
use Rattle.ml_term.specs.Keys.{clause_key}
use Rattle.ml_term.proofs.KeysTellTuples.{clause_keys_tell, begun_by}
use Rattle.ml_term.proofs.key_laws.keys_tell_clauses.Goals as goal

pub returns-clause-different : goal.returns-clause-different
returns-clause-different c keys t u m n p q e = clause_keys_tell keys t u m n [] [] p q (ap (λ k. k ++ []) e)

pub returns-clause-apart : goal.returns-clause-apart
returns-clause-apart c keys t u m n p q e =
    let more = begun_by (clause_key keys t m) (clause_key keys u n) e in
    clause_keys_tell keys t u m n more.0 [] p q (more.1 ∙ sym (append-nil (clause_key keys u n)))
