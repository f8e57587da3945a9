use Rattle.std.proofs.Common.{◌≡◌, ◌++◌, [], ◌∷◌, rules}
use Rattle.ml_loading.proofs.ListsPut.{put_there}
use Rattle.ml_loading.proofs.loading.put.Goals as goal

pub returns : goal.returns
returns c =
    let behind : c.push.new.self.items ≡ c.index-lists-place.result.items ++ c.args.term ∷ [] = search rules in
    put_there c.args.lists.now c.args.place c.index-lists-place.result c.push.new.self c.args.term c.requires c.index-lists-place.is behind
