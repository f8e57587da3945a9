pub mod EntriesOfLogs
