mod RulesReadings
mod OneOutcome
mod RefusalCauses
mod ScriptsInTurn
mod FetchedTexts
mod WritesInTurn
mod EntryBlocks
mod WriteCauses
