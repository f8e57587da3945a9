-- Memory in which frames alone were pushed.
use Rattle.std.specs.Prelude.{◌≡◌, List, ◌++◌}
use Rattle.ml_stack.specs.declared.frame.Frame.{Frame}
use Rattle.ml_stack.specs.Memories.{Contents}

-- a memory with some frames more
abbrev pub with_frames : Contents → List Frame → Contents
with_frames M fs = record {
  heap = M.heap;
  frames = M.frames ++ fs;
  slots = M.slots;
  saved = M.saved;
  codes = M.codes;
}

-- a memory has some frames more than another, and is the same else
pub record HasMoreFrames (M N : Contents) : Type 0 where
  pub frames : List Frame
  pub is : N ≡ with_frames M frames
