use Rattle.std.proofs.Common.{◌≡◌, ◌∷◌, ◌++◌, [], rules}
use Rattle.ml_file.proofs.StoreFilling.{empties_more}
use Rattle.ml_file.proofs.store.empty_files.Goals as goal

pub loop-i-preserved : goal.loop-i-preserved
loop-i-preserved c =
    let becomes : c.push.new.self.items ≡ c.loop-i.files.items ++ c.in_ok-new.field-0 ∷ [] = search rules in
    empties_more c.args.decls.now c.loop-i.i c.loop-i.files.items c.push.new.self.items c.in_ok-copy_of.field-0 c.at.result.now c.in_ok-new.field-0
    c.loop-i.invariant c.at.ensures
    c.in_ok-copy_of.ensures c.in_ok-new.ensures becomes
