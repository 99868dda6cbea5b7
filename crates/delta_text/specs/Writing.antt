-- The text of a commit: one JSON object a line, compact, its members in byte order of their names.
use Rattle.std.specs.Prelude.{◌≡◌, ℕ, List, [], ◌∷◌, ◌++◌, map, flat_map, true, Option, Some, None, option_map, option_to_list, codes}
use Rattle.std.specs.BTreeMap.{insert_entry}
use Rattle.std.specs.Cmp.Lexicographic.{slice_cmp}
use Rattle.std.specs.List.Sorted.{IsPermutation}
use Rattle.std.specs.Ordering.{nat_cmp}
use Rattle.serde_json.specs.Data.{Data, boolean, number, unsigned, string, array, object, Members, no_members, member, put}
use Rattle.serde_json.specs.Find.{of_integer}
use Rattle.serde_json.specs.Written.{compact_text}
use Rattle.json_reading.specs.Json.{text_or_null_data, texts_data, members_with}
use Rattle.partition_map.specs.Uri.{escaped_path}
use Rattle.delta_log.specs.declared.commit.DeltaCommit.{DeltaCommit}
use Rattle.delta_log.specs.declared.commit.FileAction.{FileAction}
use Rattle.delta_log.specs.declared.commit.FileAction.TheVariants as file
use Rattle.delta_log.specs.declared.commit.MetaData.{MetaData}
use Rattle.delta_log.specs.declared.commit.Protocol.{Protocol}

-- ---- the JSON of each line

abbrev pub only_member : List ℕ → Data → Data
only_member name d = object (member name d no_members)

-- members with this list of texts, where it is there
abbrev pub put_texts : List ℕ → Option (List (List ℕ)) → Members → Members
put_texts name None ms = ms
put_texts name (Some texts) ms = put name (array (texts_data texts)) ms

abbrev pub versions : Protocol → Members
versions p = put (codes "minWriterVersion") (number (of_integer p.writer)) (put (codes "minReaderVersion") (number (of_integer p.reader)) no_members)

abbrev pub protocol_data : Protocol → Data
protocol_data p = only_member (codes "protocol") (object (put_texts (codes "writerFeatures") p.writer_features (put_texts (codes "readerFeatures") p.reader_features (versions p))))

abbrev pub meta_data_data : MetaData → Data
meta_data_data m = only_member (codes "metaData") (object
    (member (codes "configuration") (object (members_with string m.configuration no_members))
    (member (codes "format") (object (member (codes "options") (object no_members) (member (codes "provider") (string (codes "parquet")) no_members)))
    (member (codes "id") (string m.id)
    (member (codes "partitionColumns") (array (texts_data m.partition))
    (member (codes "schemaString") (string m.schema) no_members))))))

abbrev pub stats_data : ℕ → Data
stats_data count = only_member (codes "numRecords") (number (unsigned count))

abbrev pub add_data : ℕ → List ℕ → Data → ℕ → List ℕ → Data
add_data now uri values size stats = only_member (codes "add") (object
    (member (codes "dataChange") (boolean true)
    (member (codes "modificationTime") (number (unsigned now))
    (member (codes "partitionValues") values
    (member (codes "path") (string uri)
    (member (codes "size") (number (unsigned size))
    (member (codes "stats") (string stats) no_members)))))))

abbrev pub remove_data : ℕ → List ℕ → Data
remove_data now uri = only_member (codes "remove") (object
    (member (codes "dataChange") (boolean true)
    (member (codes "deletionTimestamp") (number (unsigned now))
    (member (codes "path") (string uri) no_members))))

abbrev pub file_data : ℕ → FileAction → Data
file_data now (file.Add path values size count) = add_data now (escaped_path path) (object (members_with text_or_null_data values no_members)) size (compact_text (stats_data count))
file_data now (file.Remove path) = remove_data now (escaped_path path)

-- The protocol, the metadata, and then the file actions in their order.
abbrev pub commit_data : ℕ → DeltaCommit → List Data
commit_data now c = map protocol_data (option_to_list c.protocol) ++ (map meta_data_data (option_to_list c.meta) ++ map (file_data now) c.files)

abbrev pub line_text : Data → List ℕ
line_text d = compact_text d ++ 10 ∷ []

abbrev pub commit_text : ℕ → DeltaCommit → List ℕ
commit_text now c = flat_map line_text (commit_data now c)

-- ---- what is read again

-- the pairs in byte order of their names, of two with one name the later
abbrev pub pairs_with : {A : Type 0} → List (List ℕ × A) → List (List ℕ × A) → List (List ℕ × A)
pairs_with [] found = found
pairs_with (p ∷ ps) found = pairs_with ps (insert_entry (slice_cmp nat_cmp) found p.0 p.1)

abbrev pub sorted_pairs : {A : Type 0} → List (List ℕ × A) → List (List ℕ × A)
sorted_pairs ps = pairs_with ps []

abbrev pub sorted_file : FileAction → FileAction
sorted_file (file.Add path values size count) = file.Add path (sorted_pairs values) size count
sorted_file (file.Remove path) = file.Remove path

abbrev pub sorted_meta : MetaData → MetaData
sorted_meta m = record m { configuration = sorted_pairs m.configuration }

-- the same commit, its pairs in byte order of their names
abbrev pub sorted_commit : DeltaCommit → DeltaCommit
sorted_commit c = record { protocol = c.protocol; meta = option_map sorted_meta c.meta; files = map sorted_file c.files }

-- ---- one commit, whatever the order of its pairs

abbrev pub SameMeta : Option MetaData → Option MetaData → Type 0
SameMeta None None = Unit {0}
SameMeta (Some m) (Some n) = (m.id ≡ n.id) × (m.schema ≡ n.schema) × (m.partition ≡ n.partition) × IsPermutation m.configuration n.configuration
SameMeta _ _ = ⊥

abbrev pub SameFile : FileAction → FileAction → Type 0
SameFile (file.Add p vs size count) (file.Add q ws bytes records) = (p ≡ q) × IsPermutation vs ws × (size ≡ bytes) × (count ≡ records)
SameFile (file.Remove p) (file.Remove q) = p ≡ q
SameFile _ _ = ⊥

abbrev pub SameFiles : List FileAction → List FileAction → Type 0
SameFiles [] [] = Unit {0}
SameFiles (f ∷ fs) (g ∷ gs) = SameFile f g × SameFiles fs gs
SameFiles _ _ = ⊥

-- The two have one protocol, one metadata and the same file actions in one order. The settings of the table and the values of each file may stand in another order.
pub record SameCommit (c d : DeltaCommit) : Type 0 where
  pub protocol : c.protocol ≡ d.protocol
  pub meta : SameMeta c.meta d.meta
  pub files : SameFiles c.files d.files
