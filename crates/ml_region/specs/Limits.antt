-- How many items a region may have. `limits_of_regions` says that the code's constants are these.
use Rattle.std.specs.Prelude.{ℕ, ◌+◌, ◌-◌}

-- the most items of a region between two calls of a file
abbrev pub max_region_items : ℕ
max_region_items = 24

-- a region of fewer items is thin, and goes into its parent when a file is settled
abbrev pub min_region_items : ℕ
min_region_items = 8

-- the most items that stand together: a thin region's join those of its parent
abbrev pub page_items : ℕ
page_items = max_region_items + min_region_items - 1
