-- What the properties of a table say of it (Hudi's table configuration), and which of its features they show.
use Rattle.std.specs.Prelude.{ℕ, ◌-◌, ◌==◌, ◌||◌, nat_eq, not, List, [], length, take, drop, map, filter, find, reverse, codes, Bool, false, Option, Some, None, option_map, Result, Ok, Err, if◌then◌else◌}
use Rattle.std.specs.List.{prefix_len, suffix_len, slice_split, ends_with}
use Rattle.std.specs.Str.{bytes_eq, str_eq_ignore_ascii_case}
use Rattle.table_history.specs.declared.feature.Feature.{Feature}
use Rattle.table_history.specs.declared.feature.Feature.TheVariants.{HudiType, HudiVersion, FileFormat, KeyGenerator}
use Rattle.hudi_names.specs.declared.error.HudiError.{HudiError}
use Rattle.hudi_names.specs.declared.error.HudiError.TheVariants.{Unsupported}
use Rattle.hudi_properties.specs.declared.table.HudiTable.{HudiTable}

-- the value of a key: of several pairs with it the last one's
abbrev pub property : List ℕ → List (List ℕ × List ℕ) → Option (List ℕ)
property key pairs = option_map (λ p. p.1) (find (λ p. bytes_eq p.0 key) (reverse pairs))

-- the value is there and is this word
abbrev pub is_word : Option (List ℕ) → List ℕ → Bool
is_word None word = false
is_word (Some value) word = bytes_eq value word

-- ---- features

abbrev pub shows_hudi_type : List (List ℕ × List ℕ) → Bool
shows_hudi_type pairs = not (is_word (property (codes "hoodie.table.type") pairs) (codes "COPY_ON_WRITE"))

abbrev pub shows_hudi_version : List (List ℕ × List ℕ) → Bool
shows_hudi_version pairs = let version = property (codes "hoodie.table.version") pairs in not (is_word version (codes "5") || is_word version (codes "6"))

abbrev pub is_other_format : Option (List ℕ) → Bool
is_other_format None = false
is_other_format (Some format) = not (str_eq_ignore_ascii_case format (codes "PARQUET"))

abbrev pub shows_file_format : List (List ℕ × List ℕ) → Bool
shows_file_format pairs = is_other_format (property (codes "hoodie.table.base.file.format") pairs)

-- The classes that make partition paths by rules of their own, whatever package they are in.
abbrev pub is_custom_class : List ℕ → Bool
is_custom_class name =
    ends_with nat_eq name (codes "TimestampBasedKeyGenerator") || ends_with nat_eq name (codes "TimestampBasedAvroKeyGenerator")
    || ends_with nat_eq name (codes "CustomKeyGenerator") || ends_with nat_eq name (codes "CustomAvroKeyGenerator")

abbrev pub is_custom_generator : Option (List ℕ) → Bool
is_custom_generator None = false
is_custom_generator (Some name) = is_custom_class name

abbrev pub shows_key_generator : List (List ℕ × List ℕ) → Bool
shows_key_generator pairs = is_custom_generator (property (codes "hoodie.table.keygenerator.class") pairs)

-- the first feature that the properties show
abbrev pub first_feature : List (List ℕ × List ℕ) → Option Feature
first_feature pairs =
    if shows_hudi_type pairs then Some HudiType
    else (if shows_hudi_version pairs then Some HudiVersion
    else (if shows_file_format pairs then Some FileFormat
    else (if shows_key_generator pairs then Some KeyGenerator else None)))

-- ---- the table

abbrev pub is_space : ℕ → Bool
is_space b = b == 32

-- the text without the spaces round it
abbrev pub without_spaces : List ℕ → List ℕ
without_spaces text = let rest = drop (prefix_len is_space text) text in take (length rest - suffix_len is_space rest) rest

abbrev pub is_name : List ℕ → Bool
is_name text = not (length text == 0)

-- Names are parted by commas. Spaces round a name are dropped, and an empty text is no name.
abbrev pub names_in : Option (List ℕ) → List (List ℕ)
names_in None = []
names_in (Some text) = filter is_name (map without_spaces (slice_split (λ b. b == 44) text))

abbrev pub table_of : List (List ℕ × List ℕ) → HudiTable
table_of pairs = record {
  partition = names_in (property (codes "hoodie.table.partition.fields") pairs);
  hive_style = is_word (property (codes "hoodie.datasource.write.hive_style_partitioning") pairs) (codes "true");
  url_encode = is_word (property (codes "hoodie.datasource.write.partitionpath.urlencode") pairs) (codes "true");
  ours = is_word (property (codes "lakebridge.version") pairs) (codes "1");
}

abbrev pub unless_shown : Option Feature → HudiTable → Result HudiTable HudiError
unless_shown None table = Ok table
unless_shown (Some feature) table = Err (Unsupported feature)

-- the table, or the first feature that its properties show
abbrev pub checked_table : List (List ℕ × List ℕ) → Result HudiTable HudiError
checked_table pairs = unless_shown (first_feature pairs) (table_of pairs)
