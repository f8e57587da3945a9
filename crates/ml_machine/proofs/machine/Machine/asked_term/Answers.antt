use Rattle.std.proofs.lemmas.Result.{IfOk-weaker}
use Rattle.ml_machine.proofs.AskedTerms.{cell_inside, large_there, term_there}
use Rattle.ml_machine.proofs.machine.Machine.asked_term.Goals as goal

pub term_of-requires : goal.term_of-requires
term_of-requires c =
    cell_inside c.args.self.now.memory c.args.self.now.stacks.terms.items c.args.number _ c.requires.cells.1.inside c.requires.inside c.index-cell.ensures

pub returns-clause-taken : goal.returns-clause-taken
returns-clause-taken c =
    IfOk-weaker c.term_of.result _ _
    (λ term is ts a. term_there c.args.self.now.memory c.args.self.now.stacks.terms.items c.args.number _ c.requires.inside c.index-cell.ensures ts _ a is)
    c.term_of.ensures.taken

pub returns-clause-too_large : goal.returns-clause-too_large
returns-clause-too_large c e ts a =
    large_there c.args.self.now.memory c.args.self.now.stacks.terms.items c.args.number _ c.requires.inside c.index-cell.ensures ts a
    (c.term_of.ensures.too_large e)
