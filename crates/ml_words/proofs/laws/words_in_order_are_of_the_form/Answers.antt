use Rattle.ml_words.proofs.OrderedWords.{check_in_order, in_order, make_in_order}
use Rattle.ml_words.proofs.laws.words_in_order_are_of_the_form.Goals as goal

pub returns-clause-sessions : goal.returns-clause-sessions
returns-clause-sessions c = λ threads image save rules scripts p q r s few. in_order image save rules scripts p q r s few threads

pub returns-clause-check : goal.returns-clause-check
returns-clause-check c = λ rules image p q. check_in_order rules image p q

pub returns-clause-make : goal.returns-clause-make
returns-clause-make c = λ number n e. make_in_order number n e
