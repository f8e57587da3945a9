use Rattle.std.proofs.Common.{List, length, ◌-◌}
use Rattle.std.specs.Option.{option_copied}
use Rattle.ml_region.specs.declared.item.Item.{Item}
use Rattle.ml_term.specs.Seen.{seen}
use Rattle.ml_lookup.specs.Next.{IsNextIn}
use Rattle.ml_lookup.specs.inside.Walks.{HasBefore}
use Rattle.ml_lookup.proofs.Walking.{IsWalking}
use Rattle.ml_lookup.proofs.next.next_from.Given as goal

abbrev pub invariant-each : goal.invariant-each
invariant-each l = (items : List Item) → IsNextIn l.file.decl.kind (seen l.head) (option_copied l.after) items l.found →
    HasBefore l.file.decl.kind (seen l.head) (option_copied l.after) l.file.regions l.from items →
    IsWalking l.file.decl.kind (seen l.head) (option_copied l.after) l.file.regions l.i l.best

abbrev pub decreases-each : goal.decreases-each
decreases-each l = length l.file.regions - l.i
