-- What the region that owns a key has for it.
use Rattle.std.proofs.Common.{◌≡◌, ◌<◌, ℕ, Bool, List, length, subst}
use Rattle.std.specs.Prelude.{Contains}
use Rattle.ml_file.specs.Files.{IsAbsent, IsHeld}
use Rattle.ml_file.proofs.HeldItems.{absent_from, item_in}
use Rattle.ml_region.specs.Prefixes.{IsOwner}
use Rattle.ml_region.specs.Regions.{IsWellPlaced, Region, items_at, keys_at, region_prefixes}
use Rattle.ml_region.specs.declared.item.Item.{Item}
use Rattle.ml_region.proofs.OwnerSearch.{one_owner}

-- what the owner doesn't have is nowhere
pub nowhere : (regions : List Region) (key : List Bool) (i : ℕ) → IsWellPlaced regions → IsOwner (region_prefixes regions) key i →
    (Contains (keys_at regions i) key → ⊥) → IsAbsent regions key
nowhere regions key i well owner lacks =
    absent_from regions key (λ k within there.
    let same : k ≡ i = one_owner (region_prefixes regions) key k i well.rising (well.owned k key within there) owner in
    lacks (subst (λ j. Contains (keys_at regions j) key) same there))

-- and what it has is held
pub held_at : (regions : List Region) (key : List Bool) (i : ℕ) (x : Item) → i < length regions → Contains (items_at regions i) x × (x.key.bits ≡ key) →
    IsHeld regions key x
held_at regions key i x within there = record { inside = item_in regions i x within there.0; key_is = there.1 }
