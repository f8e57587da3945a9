use Rattle.std.proofs.Common.{ap, ◌∙◌}
use Rattle.ml_term.specs.Keys.{arguments}
use Rattle.ml_term.specs.Seen.{seen}
use Rattle.ml_term.specs.Tree.{list_of}
use Rattle.ml_term.proofs.CompoundTrees.{seen_variable, seen_integer, seen_atom}
use Rattle.ml_compile.proofs.PairsTested.{compound_is}
use Rattle.ml_compile.proofs.TermsMatched.{matches_arguments, matches_no_arguments}
use Rattle.ml_compile.proofs.head.match_head.Goals as goal

pub returns-in-Var : goal.returns-in-Var
returns-in-Var c = matches_no_arguments _ 0 (seen c.args.head.now) (ap (λ t. list_of (arguments t)) (ap seen c.in-Var.is ∙ seen_variable _))

pub returns-in-Int : goal.returns-in-Int
returns-in-Int c = matches_no_arguments _ 0 (seen c.args.head.now) (ap (λ t. list_of (arguments t)) (ap seen c.in-Int.is ∙ seen_integer _))

pub returns-in-Atom : goal.returns-in-Atom
returns-in-Atom c = matches_no_arguments _ 0 (seen c.args.head.now) (ap (λ t. list_of (arguments t)) (ap seen c.in-Atom.is ∙ seen_atom _))

pub returns-in_ok-met-in-Cmp : goal.returns-in_ok-met-in-Cmp
returns-in_ok-met-in-Cmp c =
    matches_arguments _ _ 0 _ _ _ _ (compound_is _ _ _ _ c.in-Cmp.is c.as_slice.ensures.same) c.in_ok-met-in-Cmp.ensures.matched
