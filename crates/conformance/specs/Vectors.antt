-- Sample inputs, by their numbers.
use Rattle.std.specs.Prelude.{ℕ, List, [], ◌∷◌, Option, slice_get, codes}

-- version 0 of a Delta table with one column, which adds one file
abbrev pub delta_version : List ℕ
delta_version = codes "{\"protocol\":{\"minReaderVersion\":1,\"minWriterVersion\":2}}\n{\"metaData\":{\"id\":\"a1\",\"format\":{\"provider\":\"parquet\",\"options\":{}},\"schemaString\":\"{\\\"type\\\":\\\"struct\\\",\\\"fields\\\":[{\\\"name\\\":\\\"id\\\",\\\"type\\\":\\\"long\\\",\\\"nullable\\\":true,\\\"metadata\\\":{}}]}\",\"partitionColumns\":[],\"configuration\":{}}}\n{\"add\":{\"path\":\"p1.parquet\",\"partitionValues\":{},\"size\":100,\"modificationTime\":1,\"dataChange\":true,\"stats\":\"{\\\"numRecords\\\":5}\"}}\n"

-- the completed instant of a Hudi target that was brought there
abbrev pub hudi_instant : List ℕ
hudi_instant = codes "{\"compacted\":false,\"extraMetadata\":{\"lakebridge.mark\":\"{\\\"at\\\":\\\"20240105120000000\\\",\\\"by\\\":\\\"lakebridge\\\",\\\"source\\\":\\\"delta\\\",\\\"table\\\":\\\"a1\\\",\\\"to\\\":\\\"0\\\",\\\"version\\\":2}\",\"schema\":\"{\\\"fields\\\":[{\\\"default\\\":null,\\\"name\\\":\\\"id\\\",\\\"type\\\":[\\\"null\\\",\\\"long\\\"]}],\\\"name\\\":\\\"r0\\\",\\\"type\\\":\\\"record\\\"}\"},\"operationType\":\"INSERT_OVERWRITE\",\"partitionToReplaceFileIds\":{},\"partitionToWriteStats\":{\"\":[{\"fileId\":\"p1.parquet\",\"fileSizeInBytes\":100,\"numDeletes\":0,\"numInserts\":5,\"numUpdateWrites\":0,\"numWrites\":5,\"partitionPath\":\"\",\"path\":\"p1.parquet_20240105120000000_hudiext\",\"prevCommit\":\"null\",\"totalWriteBytes\":100,\"totalWriteErrors\":0}]}}"

-- an Avro container of the one long 1
abbrev pub container : List ℕ
container = codes "Obj\u{1}\u{2}\u{16}avro.schema\u{c}\"long\"\0lakebridge-sync!\u{2}\u{2}\u{2}lakebridge-sync!"

-- the same with a second block, whose marker is another one
abbrev pub unclosed_container : List ℕ
unclosed_container = codes "Obj\u{1}\u{2}\u{16}avro.schema\u{c}\"long\"\0lakebridge-sync!\u{2}\u{2}\u{2}lakebridge-sync!\u{2}\u{2}\u{4}\0\0\0\0\0\0\0\0\0\0\0\0\0\0\0\0"

-- properties with a comment, an escaped space and a line that goes on
abbrev pub properties : List ℕ
properties = codes "# c\na\\ b = c\\\n  d\nk:v\n"

abbrev pub vectors : List (List ℕ)
vectors = delta_version ∷ hudi_instant ∷ container ∷ unclosed_container ∷ properties ∷ []

-- the sample of this number, none after the last
abbrev pub vector : ℕ → Option (List ℕ)
vector index = slice_get vectors index
