use Rattle.std.proofs.Common.{◌≤◌, length, rules}
use Rattle.ml_views.proofs.Files.{one_more}
use Rattle.ml_views.proofs.undo.add_files.Goals as goal

pub loop-alloc-preserved : goal.loop-alloc-preserved
loop-alloc-preserved c =
    let l : length c.loop-alloc.files.items ≤ c.args.at = search rules in
    one_more c.args.files.now.items c.loop-alloc.files.items c.push.new.self.items c.new.result c.args.at c.in_ok-push.ensures.items c.new.ensures l
    c.loop-alloc.invariant
