-- A new Hudi table: its name and its properties (Hudi technical specification, "Table Properties").
use Rattle.std.specs.Prelude.{◌≡◌, ◌⊎◌, ℕ, true, List, [], ◌∷◌, ◌++◌, Contains, codes}
use Rattle.std.specs.List.{join_with_byte}
use Rattle.schema_map.specs.Image.{is_avro_name}
use Rattle.hudi_properties.specs.declared.table.HudiTable.{HudiTable}
use Rattle.hudi_table.specs.Files.{ReadsAs}

-- The name is what stands behind the location's last `/`, or all of it where there is none.
pub record IsTableName (location name : List ℕ) : Type 0 where
  pub plain : Contains name 47 → ⊥
  pub split : (location ≡ name) ⊎ ((front : List ℕ) × (location ≡ front ++ 47 ∷ name))

-- the partition columns, parted by commas, where there are some
abbrev pub partition_pairs : List (List ℕ) → List (List ℕ × List ℕ)
partition_pairs [] = []
partition_pairs (name ∷ names) = (codes "hoodie.table.partition.fields", join_with_byte 44 (name ∷ names)) ∷ []

-- the properties that a first commit writes for a table of this name and these partition columns
abbrev pub new_pairs : List ℕ → List (List ℕ) → List (List ℕ × List ℕ)
new_pairs name partition =
    (codes "hoodie.datasource.write.hive_style_partitioning", codes "true")
    ∷ ((codes "hoodie.datasource.write.partitionpath.urlencode", codes "true")
    ∷ ((codes "hoodie.populate.meta.fields", codes "false")
    ∷ ((codes "hoodie.table.base.file.format", codes "PARQUET")
    ∷ ((codes "hoodie.table.name", name)
    ∷ (partition_pairs partition
    ++ ((codes "hoodie.table.type", codes "COPY_ON_WRITE")
    ∷ ((codes "hoodie.table.version", codes "6")
    ∷ ((codes "hoodie.timeline.layout.version", codes "1")
    ∷ ((codes "lakebridge.version", codes "1") ∷ [])))))))))

-- The bytes are read as these pairs, and as a table of this program, whose folders are `name=value` with the values escaped.
-- Its partition columns are these, where each of them has an Avro name.
pub record IsNewTable (name : List ℕ) (partition : List (List ℕ)) (bytes : List ℕ) : Type 0 where
  pub table : HudiTable
  pub reads : ReadsAs bytes (record { pairs = new_pairs name partition; table = table })
  pub partition_is : ((column : List ℕ) → Contains partition column → is_avro_name column ≡ true) → table.partition ≡ partition
  pub ours : table.ours ≡ true
  pub hive_style : table.hive_style ≡ true
  pub url_encode : table.url_encode ≡ true
