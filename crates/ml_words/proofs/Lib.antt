pub mod WordsInTurn
pub mod PlainWords
pub mod TakenInOrder
pub mod WalkInOrder
pub mod OrderedWords
pub mod TakenShort
