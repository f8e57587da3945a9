pub mod FactsInTurn
