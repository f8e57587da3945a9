use Rattle.std.proofs.Common.{◌≡◌, take}
use Rattle.ml_file.specs.Files.{items_in}
use Rattle.ml_file.specs.Hits.{hits_in, borrowed_items}
use Rattle.ml_file.proofs.ItemHits.{chosen}
use Rattle.ml_term.specs.Patterns.{pattern_of}
use Rattle.ml_term.specs.Seen.{seen}
use Rattle.ml_file.proofs.file.BangFile.hits.Given as goal

abbrev pub invariant-loop-prefix : goal.invariant-loop-prefix
invariant-loop-prefix l =
    borrowed_items l.found.items ≡ hits_in l.self.decl.kind (seen l.head)
    (items_in (take l.prefix-index (chosen (pattern_of l.self.decl.keys (seen l.head)) l.self.regions)))
