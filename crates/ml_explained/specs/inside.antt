pub mod HistoryRows
