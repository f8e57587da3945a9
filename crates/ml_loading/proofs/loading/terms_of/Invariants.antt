use Rattle.std.proofs.Common.{◌≡◌, ◌++◌}
use Rattle.std.specs.Vec.Iter.{into_iter_items}
use Rattle.ml_term.specs.Seen.{all_seen}
use Rattle.ml_loading.specs.Lists.{trees}
use Rattle.ml_loading.proofs.loading.terms_of.Given as goal

-- the terms so far, and then those that are left, are all terms
abbrev pub invariant-loop-valid : goal.invariant-loop-valid
invariant-loop-valid l = all_seen l.list.items ++ trees (into_iter_items l.valid-iterator) ≡ trees l.fn.terms.items
