use Rattle.std.proofs.Common.{sym}
use Rattle.ml_explained.proofs.KeptHistories.{seen_the_same}
use Rattle.ml_explained.proofs.keeping.live_sessions_see_the_same.Goals as goal

pub returns-clause-cursors : goal.returns-clause-cursors
returns-clause-cursors c decls start ended live e k l x h i j a = sym (seen_the_same decls start ended live live x e h i k l j a).1

pub returns-clause-notes : goal.returns-clause-notes
returns-clause-notes c decls start ended live e k l n x h i j a = sym ((seen_the_same decls start ended live live x e h i k l j a).2 n)
