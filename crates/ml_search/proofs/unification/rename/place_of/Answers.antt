use Rattle.std.proofs.Common.{◌∙◌, sym}
use Rattle.ml_search.proofs.Unifying.KeysFound.{key_is_found, no_key_is_found}
use Rattle.ml_search.proofs.unification.rename.place_of.Goals as goal

pub returns-in-Some : goal.returns-in-Some
returns-in-Some c = key_is_found c.args.n c.args.numbers.now.keys c.in-Some.i (sym c.get_index_of.ensures.index ∙ c.in-Some.is)

pub returns-in-None : goal.returns-in-None
returns-in-None c = c.len.ensures.len ∙ sym (no_key_is_found c.args.n c.args.numbers.now.keys (sym c.get_index_of.ensures.index ∙ c.in-None.is))
