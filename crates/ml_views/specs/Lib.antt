pub mod OpenCursors
pub mod UndoLog
pub mod inside
