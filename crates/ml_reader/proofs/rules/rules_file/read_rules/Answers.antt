use Rattle.std.proofs.Common.{◌≡◌, ◌⊎◌, ℕ, List, Err, map, sym, ap, subst, arith}
use Rattle.std.proofs.lemmas.List.{length-map}
use Rattle.std.proofs.lemmas.Result.{err_from_is_err_and, MatchResult-weaker}
use Rattle.ml_search.specs.Program.{Program}
use Rattle.ml_search.specs.ProgramSeen.{program_seen}
use Rattle.ml_term.specs.Tree.{Tree}
use Rattle.ml_search.specs.ItemsSeen.{items_seen}
use Rattle.ml_reader.specs.Lexemes.{ReadClause}
use Rattle.ml_reader.specs.Rules.{AreRules, RulesGoWrong, RulesHaveFault, in_text, in_rules}
use Rattle.ml_reader.specs.Seen.{read_seen}
use Rattle.ml_reader.specs.declared.fault.ReadFault.{ReadFault}
use Rattle.ml_reader.specs.declared.fault.ReadStop.TheVariants.{Fault, OutOfMemory}
use Rattle.ml_reader.specs.declared.rules.Rules.{Rules}
use Rattle.ml_reader.proofs.Parsing.TextBeginnings.{stand_by}
use Rattle.ml_reader.proofs.Parsing.ClausesWithinBytes.{clauses_are_few}
use Rattle.ml_reader.proofs.RuleReading.DeclarationsInOrder.{handed_on}
use Rattle.ml_reader.proofs.RuleReading.OneProgram.{rules_go_wrong_once, rules_or_wrong, one_program}
use Rattle.ml_reader.proofs.ReaderAnswers.{whole_answer, told_fault, no_memory, without_memory, either_stop, not_stopped}
use Rattle.ml_reader.proofs.rules.rules_file.read_rules.Goals as goal

-- the program and the items together
abbrev Meaning : Type 0
Meaning = Program × List (ℕ × Tree)

abbrev meaning : Rules → Meaning
meaning r = (program_seen r.program, items_seen r.items)

abbrev AreSo : List ReadClause → Meaning → Type 0
AreSo cs m = AreRules cs m.0 m.1

one : (cs : List ReadClause) (x y : Meaning) → AreSo cs x → AreSo cs y → x ≡ y
one cs x y h k = let same = one_program cs x.0 y.0 x.1 y.1 h k in (λ i. (same.0 i, same.1 i))

apart : (cs : List ReadClause) (x : Meaning) (f : ReadFault) → AreSo cs x → RulesGoWrong cs f → ⊥
apart cs x f h w = rules_or_wrong cs x.0 x.1 f h w

pub rules_of-requires-clause-few : goal.rules_of-requires-clause-few
rules_of-requires-clause-few c =
    let law = c.tokens_stand_in_their_text.ensures in
    let few = clauses_are_few c.args.bytes.now (stand_by law.token law.fault c.args.bytes.now) _ c.in_ok-reads.ensures.read in
    omega (arith, few, length-map c.in_ok-reads.reads.items read_seen, c.requires)

pub returns-in_err-reads-clause-fault : goal.returns-in_err-reads-clause-fault
returns-in_err-reads-clause-fault c = λ f e.
    let p = err_from_is_err_and c.from_residual.result c.from_residual.ensures.1 in
    in_text (c.in_err-reads.ensures.fault f (handed_on c.from_residual.result p.0 _ f p.1 p.2 e))

pub returns-in_err-reads-clause-complete : goal.returns-in_err-reads-clause-complete
returns-in_err-reads-clause-complete c = λ program items h.
    let p = err_from_is_err_and c.from_residual.result c.from_residual.ensures.1 in
    no_memory (λ r. (program_seen r.program ≡ program) × (items_seen r.items ≡ items)) c.from_residual.result p.0 _ p.1 p.2
    (c.in_err-reads.ensures.complete h.clauses h.read)

pub returns-in_err-reads-clause-first : goal.returns-in_err-reads-clause-first
returns-in_err-reads-clause-first c = by
  where
    by : (f : ReadFault) → RulesHaveFault c.args.bytes.now f → (c.from_residual.result ≡ Err (Fault f)) ⊎ (c.from_residual.result ≡ Err OutOfMemory)
    by f (in_text t) =
        let p = err_from_is_err_and c.from_residual.result c.from_residual.ensures.1 in
        either_stop c.from_residual.result p.0 _ f p.1 p.2 (c.in_err-reads.ensures.first f t)
    by f (in_rules read w) =
        let p = err_from_is_err_and c.from_residual.result c.from_residual.ensures.1 in
        without_memory c.from_residual.result p.0 _ f p.1 p.2 (c.in_err-reads.ensures.complete _ read)

pub returns-clause-fault : goal.returns-clause-fault
returns-clause-fault c = λ f e. in_rules c.in_ok-reads.ensures.read (c.rules_of.ensures.fault f e)

pub returns-clause-complete : goal.returns-clause-complete
returns-clause-complete c = λ program items h.
    let cs = map read_seen c.in_ok-reads.reads.items in
    let same : cs ≡ h.clauses = c.in_ok-reads.ensures.complete h.clauses h.read in
    let rules : AreSo cs (program, items) = subst (λ cs. AreRules cs program items) (sym same) h.rules in
    MatchResult-weaker c.rules_of.result
    (whole_answer meaning (AreSo cs) (RulesGoWrong cs) (one cs) (apart cs) (rules_go_wrong_once cs) c.rules_of.result c.rules_of.ensures.rules
    c.rules_of.ensures.fault (program, items) rules)
    (λ r e. (ap (λ m. m.0) e, ap (λ m. m.1) e))
    (λ s e. e)

pub returns-clause-first : goal.returns-clause-first
returns-clause-first c = by
  where
    cs : List ReadClause
    cs = map read_seen c.in_ok-reads.reads.items

    by : (f : ReadFault) → RulesHaveFault c.args.bytes.now f → (c.rules_of.result ≡ Err (Fault f)) ⊎ (c.rules_of.result ≡ Err OutOfMemory)
    by f (in_text t) = not_stopped c.in_ok-reads.reads f (c.in_ok-reads.ensures.first f t)
    by f (in_rules read w) =
        told_fault meaning (AreSo cs) (RulesGoWrong cs) (one cs) (apart cs) (rules_go_wrong_once cs) c.rules_of.result c.rules_of.ensures.rules
        c.rules_of.ensures.fault f
        (subst (λ cs. RulesGoWrong cs f) (sym (c.in_ok-reads.ensures.complete _ read)) w)
