-- What a Delta target's files mean. A Delta table holds each schema as it is.
use Rattle.std.specs.Prelude.{ℕ, List, Option, Some}
use Rattle.table_history.specs.TypeTree.{ColumnTrees}
use Rattle.table_history.specs.declared.kind.Kind.TheVariants.{Delta}
use Rattle.target_core.specs.Meaning.{Meaning, meaning_of}
use Rattle.target_delta.specs.Names.{IsReached, IsSettled}
use Rattle.target_delta.specs.Reading.{IsCarried, Reads, commits_in}

abbrev pub image : ColumnTrees → Option ColumnTrees
image schema = Some schema

-- `new` is the id of a new table.
abbrev pub delta_meaning : List ℕ → Meaning
delta_meaning new = meaning_of Delta image Reads commits_in (IsCarried new) IsReached IsSettled
