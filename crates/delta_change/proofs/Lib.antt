pub mod SchemaTextLemmas
pub mod AnyLemmas
pub mod ColumnLemmas
pub mod ColumnNameLemmas
pub mod KindLemmas
pub mod TableLemmas
pub mod ChangeLemmas
pub mod LawLemmas
