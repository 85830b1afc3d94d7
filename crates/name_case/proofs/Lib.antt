pub mod CaseWays
