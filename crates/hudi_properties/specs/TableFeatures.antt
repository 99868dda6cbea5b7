-- Which features the properties of a table show (Hudi's table configuration), as facts on their pairs.
use Rattle.std.specs.Prelude.{◌≡◌, ◌≢◌, List, [], ◌∷◌, ◌++◌, ℕ, codes, All, Contains}
use Rattle.std.specs.Str.{str_to_ascii_lowercase}
use Rattle.table_history.specs.First.{IsFirst, NoneOf}
use Rattle.table_history.specs.declared.feature.Feature.{Feature}
use Rattle.table_history.specs.declared.feature.Feature.TheVariants.{HudiType, HudiVersion, FileFormat, KeyGenerator}
use Rattle.hudi_names.specs.declared.error.HudiError.{HudiError}
use Rattle.hudi_names.specs.declared.error.HudiError.TheVariants as errors

-- The key has this value: the last pair with the key has it.
pub record HasValue (pairs : List (List ℕ × List ℕ)) (key value : List ℕ) : Type 0 where
  pub front : List (List ℕ × List ℕ)
  pub later : List (List ℕ × List ℕ)
  pub split : pairs ≡ front ++ (key, value) ∷ later
  pub last : All (λ p. p.0 ≢ key) later

-- the same word in other letter cases of ASCII
abbrev pub IsInAnyCase : List ℕ → List ℕ → Type 0
IsInAnyCase text word = str_to_ascii_lowercase text ≡ str_to_ascii_lowercase word

-- the names of the classes that make partition paths by rules of their own, whatever package they are in
abbrev pub custom_classes : List (List ℕ)
custom_classes = codes "TimestampBasedKeyGenerator" ∷ codes "TimestampBasedAvroKeyGenerator" ∷ codes "CustomKeyGenerator" ∷ codes "CustomAvroKeyGenerator" ∷ []

abbrev pub EndsIn : List ℕ → List ℕ → Type 0
EndsIn name ending = (front : List ℕ) × (name ≡ front ++ ending)

-- A table type and a version have to be stated. A file format and a key generator need not be.
abbrev pub Shows : List (List ℕ × List ℕ) → Feature → Type 0
Shows pairs HudiType = ¬ HasValue pairs (codes "hoodie.table.type") (codes "COPY_ON_WRITE")
Shows pairs HudiVersion = (¬ HasValue pairs (codes "hoodie.table.version") (codes "5")) × ¬ HasValue pairs (codes "hoodie.table.version") (codes "6")
Shows pairs FileFormat = (format : List ℕ) × HasValue pairs (codes "hoodie.table.base.file.format") format × ¬ IsInAnyCase format (codes "PARQUET")
Shows pairs KeyGenerator =
    (name : List ℕ) × (ending : List ℕ) × HasValue pairs (codes "hoodie.table.keygenerator.class") name × Contains custom_classes ending × EndsIn name ending
Shows pairs _ = ⊥

-- the features that properties may show, in the order in which they are told
abbrev pub table_features : List Feature
table_features = HudiType ∷ HudiVersion ∷ FileFormat ∷ KeyGenerator ∷ []

-- The properties show none of the features.
abbrev pub ShowNone : List (List ℕ × List ℕ) → Type 0
ShowNone pairs = NoneOf (Shows pairs) table_features

-- Memory ran out, or this is the first feature that the properties show.
abbrev pub IsTableRefusal : List (List ℕ × List ℕ) → HudiError → Type 0
IsTableRefusal pairs errors.Memory = Unit {0}
IsTableRefusal pairs (errors.Unsupported feature) = IsFirst (Shows pairs) table_features feature
IsTableRefusal pairs (errors.Malformed n) = ⊥
IsTableRefusal pairs (errors.Limit which) = ⊥
