-- What a Hudi target's files mean. A Hudi table holds a schema as its types do, where its names are Avro's and the keys of its maps are texts.
use Rattle.std.specs.Prelude.{Option}
use Rattle.table_history.specs.TypeTree.{ColumnTrees}
use Rattle.table_history.specs.declared.kind.Kind.TheVariants.{Hudi}
use Rattle.schema_map.specs.Image as images
use Rattle.target_core.specs.Meaning.{Meaning, meaning_of}
use Rattle.target_hudi.specs.Reading.{IsCarried, IsReached, IsSettledTarget, Reads, commits_in}

abbrev pub image : ColumnTrees → Option ColumnTrees
image schema = images.image Hudi schema

abbrev pub hudi_meaning : Meaning
hudi_meaning = meaning_of Hudi image Reads commits_in IsCarried IsReached IsSettledTarget
