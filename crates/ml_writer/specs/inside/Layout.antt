-- How lines are kept: all bytes in one list, and the length of each finished line. No public clause
-- cites this module.
use Rattle.std.specs.Prelude.{◌≡◌, ℕ, ◌≤◌, List, [], ◌∷◌, length, take, drop, sum}
use Rattle.ml_search.specs.Limits.{max_answer_bytes}
use Rattle.ml_writer.specs.Output.{Output}

-- the lines that some bytes begin with, by their lengths
abbrev pub lines_in : List ℕ → List ℕ → List (List ℕ)
lines_in [] bytes = []
lines_in (n ∷ ns) bytes = take n bytes ∷ lines_in ns (drop n bytes)

-- what stands behind them
abbrev pub bytes_behind_lines : List ℕ → List ℕ → List ℕ
bytes_behind_lines [] bytes = bytes
bytes_behind_lines (n ∷ ns) bytes = bytes_behind_lines ns (drop n bytes)

-- what the bytes and the lengths of the lines are
abbrev pub output_of : List ℕ → List ℕ → ℕ → Output
output_of bytes lengths answers = record {
  lines = lines_in lengths bytes;
  unfinished =
      bytes_behind_lines lengths bytes;
  answer_bytes = answers;
}

-- the finished lines lie within the bytes, and the answer bytes within their limit
pub record IsLaidOut (bytes lengths : List ℕ) (finished answers : ℕ) : Type 0 where
  pub together : finished ≡ sum lengths
  pub within : sum lengths ≤ length bytes
  pub limited : answers ≤ max_answer_bytes
