pub mod RowEntries
