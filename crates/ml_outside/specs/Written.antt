-- What a sink or a writer was given.
use Rattle.std.specs.Prelude.{◌≡◌, ◌≤◌, ℕ, List, ◌++◌, take, length, Option, option_map}
use Rattle.std.specs.Io.KnownBytes.{Appends}

-- these bytes were appended, where the sink tells; and it tells as before
abbrev pub Appended : Option (List ℕ) → Option (List ℕ) → List ℕ → Type 0
Appended before after bytes = after ≡ option_map (λ written. written ++ bytes) before

-- a front of these bytes was appended: some of them, all or none
abbrev pub AppendedFront : Option (List ℕ) → Option (List ℕ) → List ℕ → Type 0
AppendedFront before after bytes =
    (n : ℕ) × (n ≤ length bytes) × Appended before after (take n bytes)

-- a front of these bytes went to a writer, of which nothing is said where it doesn't tell
abbrev pub TookFront : Option (List ℕ) → Option (List ℕ) → List ℕ → Type 0
TookFront before after bytes =
    (front : List ℕ) × (rest : List ℕ) × (bytes ≡ front ++ rest) × Appends before after front
