use Rattle.std.proofs.lemmas.Bool.{and_from}
use Rattle.ml_search.proofs.Unifying.ArgumentsPushed.{sound_argument}
use Rattle.ml_search.proofs.unification.solve.pair_of.Goals as goal

pub returns-clause-sound : goal.returns-clause-sound
returns-clause-sound c most a b =
    and_from _ _ (sound_argument most c.args.ts c.args.i c.index-ts-i.result a c.requires.left)
    (sound_argument most c.args.us c.args.i c.index-us-i.result b c.requires.right)
