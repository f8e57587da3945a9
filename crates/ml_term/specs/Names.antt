-- Which bytes a name may have.
use Rattle.std.specs.Prelude.{ℕ, nat_le, Bool, ◌&&◌, ◌||◌, List, length}
use Rattle.std.specs.List.{list_all}
use Rattle.ml_term.specs.Limits.{max_name_bytes}

-- 7 to 13, which have escapes, and the printing ones, 32 to 126
abbrev pub is_name_byte : ℕ → Bool
is_name_byte b = (nat_le 7 b && nat_le b 13) || (nat_le 32 b && nat_le b 126)

-- at most 255 such bytes
abbrev pub is_name : List ℕ → Bool
is_name f = nat_le (length f) max_name_bytes && list_all is_name_byte f
