use Rattle.std.proofs.Common.{refl}
use Rattle.ml_term.specs.Tree.{has, variables}
use Rattle.ml_term.proofs.MostGeneralUnifiers.{not_in_false}
use Rattle.ml_term.proofs.GroundTerms.{matched_exactly, gives_the_tuple, gives_one, gives_ground, leaves_others, value_stands}
use Rattle.ml_term.proofs.pattern_laws.matching_a_ground_term.Goals as goal

pub returns-clause-exactly : goal.returns-clause-exactly
returns-clause-exactly c = matched_exactly

pub returns-clause-instance : goal.returns-clause-instance
returns-clause-instance c = λ t u m g e. gives_the_tuple t u g m e

pub returns-clause-only : goal.returns-clause-only
returns-clause-only c = λ t u m s n g e q i. gives_one t u g m e s q n i

pub returns-clause-stands : goal.returns-clause-stands
returns-clause-stands c = λ t u m n g e i. value_stands t u g m e n i

pub returns-clause-closed : goal.returns-clause-closed
returns-clause-closed c = λ t u m n g e i. gives_ground t u g m e n i

pub returns-clause-others : goal.returns-clause-others
returns-clause-others c = λ t u m n g e h. leaves_others t u g m e n (not_in_false n (variables t) (has n (variables t)) refl h)
