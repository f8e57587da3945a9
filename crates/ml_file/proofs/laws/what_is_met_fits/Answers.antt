use Rattle.ml_file.proofs.ItemHits.{met_key_fits}
use Rattle.ml_file.proofs.StoredHeads.{head_from_of}
use Rattle.ml_file.proofs.laws.what_is_met_fits.Goals as goal

pub returns : goal.returns
returns c decl pattern t number named allowed met =
    met_key_fits decl pattern t number (head_from_of decl.pred.name decl.pred.arity pattern named) allowed met
