use Rattle.std.proofs.Common.{◌≡◌, map, take}
use Rattle.ml_file.specs.Stores.{empty_file}
use Rattle.ml_file.proofs.store.empty_files.Given as goal

-- the files so far
abbrev pub invariant-loop-i : goal.invariant-loop-i
invariant-loop-i l = l.files.items ≡ map empty_file (take l.i l.decls)
