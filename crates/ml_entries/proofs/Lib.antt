mod Sessions
mod SessionEntries
mod EntryBlocks
mod ItemsPlaced
