-- A clause whose parts were tested is one that the declaration's list may have.
use Rattle.std.proofs.Common.{◌≡◌, ◌≤◌, true, length, refl, sym, subst, arith, rules}
use Rattle.std.proofs.lemmas.Bool.{and_from, le-leb}
use Rattle.std.proofs.lemmas.Result.{IfOk-weaker}
use Rattle.ml_search.specs.Bodies.{is_callable}
use Rattle.ml_search.specs.Db.{is_stored_clause}
use Rattle.ml_search.specs.Program.{clause_term, is_of}
use Rattle.ml_term.specs.CanonicalBytes.{bytes_of}
use Rattle.ml_term.specs.Seen.{seen}
use Rattle.ml_term.specs.Tree.{Tree, is_numbered}
use Rattle.ml_term.specs.Valid.{is_valid}
use Rattle.ml_term.specs.declared.declaration.Decl.{Decl}
use Rattle.ml_list_desk_rows.proofs.terms.is_clause.Goals as goal

stored_clause : (d : Decl) (h b : Tree) → is_valid (clause_term h b) ≡ true → is_of d.pred.name d.pred.arity h ≡ true → is_callable b ≡ true
    → is_numbered (clause_term h b) ≡ true → length (bytes_of (clause_term h b)) ≤ 4096 → is_stored_clause d (clause_term h b) ≡ true
stored_clause d h b valid head callable numbered small =
    and_from _ _ (and_from _ _ (and_from _ _ (and_from _ _ (and_from _ _ valid refl) head) callable) numbered) (le-leb _ 4096 small)

pub returns : goal.returns
returns c =
    let d = c.args.decl.now in
    let h = seen c.in-Some.head.now in
    let b = seen c.in-Some.body.now in
    let whole : seen c.args.t.now ≡ clause_term h b = search rules in
    let valid : is_valid (seen c.args.t.now) ≡ true = search rules in
    let head : is_of d.pred.name d.pred.arity h ≡ true = search rules in
    let callable : is_callable b ≡ true = search rules in
    let small : length (bytes_of (seen c.args.t.now)) ≤ 4096 = omega (arith, c.canonical_len_up_to.ensures) in
    IfOk-weaker c.is_numbered.result _ _ (λ r numbered yes. subst (λ t. is_stored_clause d t ≡ true) (sym whole)
    (stored_clause d h b (subst (λ t. is_valid t ≡ true) whole valid) head callable (subst (λ t. is_numbered t ≡ true) whole (numbered yes))
    (subst (λ t. length (bytes_of t) ≤ 4096) whole small))) c.is_numbered.ensures
