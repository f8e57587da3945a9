-- What was written: finished lines, the text of a line that isn't finished, and how many bytes are
-- counted as those of answers. The code keeps all bytes in one list, and how long each line is.
use Rattle.std.specs.Prelude.{ℕ, ◌+◌, List, [], ◌∷◌, ◌++◌, length}
use Rattle.std.specs.List.{flat_map}

-- the finished lines, each with its line feed; the text behind them; and the number of answer bytes
pub record Output : Type 0 where
  pub lines : List (List ℕ)
  pub unfinished : List ℕ
  pub answer_bytes : ℕ

-- nothing was written
abbrev pub no_output : Output
no_output = record { lines = []; unfinished = []; answer_bytes = 0 }

-- all bytes, one line after another
abbrev pub bytes_of : Output → List ℕ
bytes_of o = flat_map (λ l. l) o.lines ++ o.unfinished

-- with a text behind all others
abbrev pub with_text : List ℕ → Output → Output
with_text text o = record o { unfinished = o.unfinished ++ text }

-- with a line behind all others; it goes on with the text that isn't finished, if there is any
abbrev pub with_line : List ℕ → Output → Output
with_line l o = record o { lines = o.lines ++ (o.unfinished ++ l) ∷ []; unfinished = [] }

-- with the bytes of a text counted
abbrev pub with_counted : List ℕ → Output → Output
with_counted text o = record o { answer_bytes = o.answer_bytes + length text }
