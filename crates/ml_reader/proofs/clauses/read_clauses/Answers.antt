use Rattle.std.proofs.Common.{◌≡◌, [], ◌∷◌, map, Err, sym, ap, ◌∙◌, subst, arith, inl}
use Rattle.ml_reader.specs.inside.parser.ContextSeen.{context_seen}
use Rattle.ml_reader.specs.inside.parser.Parser.{expect_term, root}
use Rattle.ml_reader.specs.inside.parser.Frames.{state_seen}
use Rattle.ml_reader.specs.Seen.{read_seen}
use Rattle.ml_reader.specs.Texts.{IsRead}
use Rattle.ml_reader.specs.Faults.{HasFirstFault}
use Rattle.ml_reader.specs.inside.parser.TurnsSeen.{read_step_seen}
use Rattle.ml_reader.specs.declared.fault.ReadStop.TheVariants as read_stop
use Rattle.ml_reader.proofs.Parsing.TextBeginnings.{stand_by}
use Rattle.ml_reader.proofs.Parsing.ClauseLoop.{LoopGoes, keeps_begin, keeps_next, keeps_on, keeps_wrong, keeps_whole}
use Rattle.ml_reader.proofs.Parsing.OneTextReading.{read_once, read_without_fault, one_first_fault}
use Rattle.ml_reader.proofs.Parsing.WellReadClauses.{well_read}
use Rattle.ml_reader.proofs.clauses.read_clauses.Goals as goal

pub loop-clauses-init : goal.loop-clauses-init
loop-clauses-init c = keeps_begin c.args.bytes.now (context_seen c.new-context.result) _ _ c.new-context.ensures c.new-clauses.ensures.items c.new.ensures.items

-- a token is taken
go : (c : goal.In-Go) → LoopGoes c.args.bytes.now (context_seen c.loop-clauses.context) (context_seen c.in-Go.behind) c.loop-clauses.clauses.items
    (state_seen c.in-Go.next)
go c =
    keeps_on c.args.bytes.now (stand_by c.tokens_stand_in_their_text.ensures.token c.tokens_stand_in_their_text.ensures.fault c.args.bytes.now)
    c.loop-clauses.invariant
    (context_seen c.in-Go.behind) (state_seen c.in-Go.next) (sym c.in_ok-behind.ensures ∙ ap read_step_seen c.in-Go.is)

pub loop-clauses-smaller-in-Go : goal.loop-clauses-smaller-in-Go
loop-clauses-smaller-in-Go c = let h = go c in let f = h.forth in let w = h.keeps.within in omega arith

pub loop-clauses-preserved-in-Go : goal.loop-clauses-preserved-in-Go
loop-clauses-preserved-in-Go c = (go c).keeps

-- a clause ends
end : (c : goal.After-new-in-Clause) → LoopGoes c.args.bytes.now (context_seen c.loop-clauses.context) (context_seen c.in-Clause.behind)
    c.loop-clauses.clauses.items (expect_term (root (read_seen c.in-Clause.read ∷ [])))
end c =
    keeps_on c.args.bytes.now (stand_by c.tokens_stand_in_their_text.ensures.token c.tokens_stand_in_their_text.ensures.fault c.args.bytes.now)
    c.loop-clauses.invariant
    (context_seen c.in-Clause.behind) (expect_term (root (read_seen c.in-Clause.read ∷ []))) (sym c.in_ok-behind.ensures ∙ ap read_step_seen c.in-Clause.is)

pub loop-clauses-smaller : goal.loop-clauses-smaller
loop-clauses-smaller c = let h = end c in let f = h.forth in let w = h.keeps.within in omega arith

pub loop-clauses-preserved : goal.loop-clauses-preserved
loop-clauses-preserved c = keeps_next c.args.bytes.now (context_seen c.in-Clause.behind) _ _ _ c.in-Clause.read (end c).keeps
    c.in_ok-push-in-Clause.ensures.items c.new-in-Clause.ensures.items

-- the text ends
read : (c : goal.In-Whole) → IsRead c.args.bytes.now (map read_seen c.loop-clauses.clauses.items)
read c =
    keeps_whole c.args.bytes.now (stand_by c.tokens_stand_in_their_text.ensures.token c.tokens_stand_in_their_text.ensures.fault c.args.bytes.now) c.requires
    c.loop-clauses.state c.loop-clauses.invariant
    (sym c.in_ok-behind.ensures ∙ ap read_step_seen c.in-Whole.is)

pub returns-in-Whole-clause-read : goal.returns-in-Whole-clause-read
returns-in-Whole-clause-read c = read c

pub returns-in-Whole-clause-well_read : goal.returns-in-Whole-clause-well_read
returns-in-Whole-clause-well_read c =
    well_read c.args.bytes.now (stand_by c.tokens_stand_in_their_text.ensures.token c.tokens_stand_in_their_text.ensures.fault c.args.bytes.now) _ (read c)

pub returns-in-Whole-clause-complete : goal.returns-in-Whole-clause-complete
returns-in-Whole-clause-complete c = λ cs r. read_once c.args.bytes.now _ cs (read c) r

pub returns-in-Whole-clause-first : goal.returns-in-Whole-clause-first
returns-in-Whole-clause-first c = λ f h.
    absurd (read_without_fault c.args.bytes.now (stand_by c.tokens_stand_in_their_text.ensures.token c.tokens_stand_in_their_text.ensures.fault
    c.args.bytes.now) _ h.met f (read c) h.there)

-- the first fault
fault : (c : goal.After-drop-clauses-in-Wrong) → HasFirstFault c.args.bytes.now c.in-Wrong.fault
fault c =
    keeps_wrong c.args.bytes.now (stand_by c.tokens_stand_in_their_text.ensures.token c.tokens_stand_in_their_text.ensures.fault c.args.bytes.now)
    c.loop-clauses.invariant
    c.in-Wrong.fault (sym c.in_ok-behind.ensures ∙ ap read_step_seen c.in-Wrong.is)

pub returns-in-Wrong-clause-fault : goal.returns-in-Wrong-clause-fault
returns-in-Wrong-clause-fault c = λ f e. let i : c.in-Wrong.fault ≡ f = cc in subst (HasFirstFault c.args.bytes.now) i (fault c)

pub returns-in-Wrong-clause-complete : goal.returns-in-Wrong-clause-complete
returns-in-Wrong-clause-complete c = λ cs r.
    absurd (read_without_fault c.args.bytes.now (stand_by c.tokens_stand_in_their_text.ensures.token c.tokens_stand_in_their_text.ensures.fault
    c.args.bytes.now) cs (fault c).met c.in-Wrong.fault r (fault c).there)

pub returns-in-Wrong-clause-first : goal.returns-in-Wrong-clause-first
returns-in-Wrong-clause-first c = λ f h.
    inl (ap (λ f. Err (read_stop.Fault f)) (one_first_fault c.args.bytes.now (stand_by c.tokens_stand_in_their_text.ensures.token
    c.tokens_stand_in_their_text.ensures.fault c.args.bytes.now) c.in-Wrong.fault f (fault c) h))
