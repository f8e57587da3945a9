pub mod CodesFiled
pub mod CodesPlaced
pub mod ProgramsLoaded
pub mod NamesFound
pub mod LinksMade
pub mod CodesKept
pub mod ProceduresRead
pub mod LinksTold
