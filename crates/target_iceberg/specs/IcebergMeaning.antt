-- What an Iceberg target's files mean. An Iceberg table holds a schema as its types do.
use Rattle.std.specs.Prelude.{ℕ, List}
use Rattle.table_history.specs.declared.kind.Kind.TheVariants.{Iceberg}
use Rattle.iceberg_commit.specs.NextVersion.{image}
use Rattle.target_core.specs.Meaning.{Meaning, meaning_of}
use Rattle.target_iceberg.specs.Reached.{IsReached, IsSettled}
use Rattle.target_iceberg.specs.Reading.{IsCarried, Reads, commits_in}

-- `new` is the id of a new table.
abbrev pub iceberg_meaning : List ℕ → Meaning
iceberg_meaning new = meaning_of Iceberg image Reads commits_in (IsCarried new) IsReached IsSettled
