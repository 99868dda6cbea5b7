-- What one line of a commit says, by the members of its JSON object (Delta protocol, "Actions").
use Rattle.std.specs.Prelude.{◌≡◌, ◌≢◌, ◌⊎◌, ℕ, ◌<◌, pos, List, [], ◌∷◌, map, length, All, Contains, Bool, Option, Some, None, is_some, IsSome, codes}
use Rattle.std.specs.Str.{bytes_eq}
use Rattle.serde_json.specs.Data.{Data, string, array, object, Items, Members}
use Rattle.serde_json.specs.Find.{get}
use Rattle.serde_json.specs.Read.{read}
use Rattle.json_reading.specs.Json.{json, text_member, whole_member, count_member, list_member, object_member, present, items, pairs, text_or_null_data}
use Rattle.delta_log.specs.declared.action.LineAction.{LineAction}
use Rattle.delta_log.specs.declared.action.LineAction.TheVariants as action
use Rattle.delta_log.specs.declared.commit.MetaData.{MetaData}
use Rattle.delta_log.specs.declared.commit.Protocol.{Protocol}

-- ---- members

-- The member isn't there, or it is null.
abbrev pub Lacks : Data → List ℕ → Type 0
Lacks d name = present name d ≡ None

-- an array of just these texts
abbrev pub AreTexts : Items → List (List ℕ) → Type 0
AreTexts listed texts = items listed ≡ map string texts

-- the members of an object that gives each of these names its text
abbrev pub AreSettings : Members → List (List ℕ × List ℕ) → Type 0
AreSettings members settings = pairs members ≡ map (λ s. (s.0, string s.1)) settings

-- the members of an object that gives each of these columns its text, or null
abbrev pub AreColumnValues : Members → List (List ℕ × Option (List ℕ)) → Type 0
AreColumnValues members values = pairs members ≡ map (λ v. (v.0, text_or_null_data v.1)) values

-- ---- the protocol ("Protocol Evolution")

-- The member lists these features, or there is no list.
abbrev pub HasFeatures : Data → List ℕ → Option (List (List ℕ)) → Type 0
HasFeatures d name None = Lacks d name
HasFeatures d name (Some features) = (listed : Items) × (present name d ≡ Some (array listed)) × AreTexts listed features

-- At reader version 3 a protocol lists its reader features.
pub record SaysProtocol (d : Data) (p : Protocol) : Type 0 where
  pub reader : whole_member (codes "minReaderVersion") d ≡ Some p.reader
  pub writer : whole_member (codes "minWriterVersion") d ≡ Some p.writer
  pub reader_features : HasFeatures d (codes "readerFeatures") p.reader_features
  pub writer_features : HasFeatures d (codes "writerFeatures") p.writer_features
  pub listed : p.reader ≡ pos 3 → IsSome p.reader_features

-- ---- the table ("Change Metadata")

-- The configuration is an object of texts. Where it isn't there the table has no settings.
abbrev pub HasConfiguration : Data → List (List ℕ × List ℕ) → Type 0
HasConfiguration d settings =
    ((get (codes "configuration") d ≡ None) × (settings ≡ []))
    ⊎ ((members : Members) × (get (codes "configuration") d ≡ Some (object members)) × AreSettings members settings)

pub record SaysMetaData (d : Data) (m : MetaData) (is_parquet : Bool) : Type 0 where
  pub id : text_member (codes "id") d ≡ Some m.id
  pub format : Data
  pub formatted : get (codes "format") d ≡ Some format
  pub provider : List ℕ
  pub provided : text_member (codes "provider") format ≡ Some provider
  pub parquet : is_parquet ≡ bytes_eq provider (codes "parquet")
  pub schema : text_member (codes "schemaString") d ≡ Some m.schema
  pub columns : Items
  pub partitioned : list_member (codes "partitionColumns") d ≡ Some columns
  pub partition : AreTexts columns m.partition
  pub configuration : HasConfiguration d m.configuration

-- ---- files ("Add File and Remove File", "Per-file Statistics")

-- The file has no statistics: they aren't there, or are the empty text.
abbrev pub LacksStatistics : Data → Type 0
LacksStatistics d = Lacks d (codes "stats") ⊎ (present (codes "stats") d ≡ Some (string []))

-- The statistics are the text of an object with these members.
pub record AreStatistics (d : Data) (members : Members) : Type 0 where
  pub text : List ℕ
  pub stated : present (codes "stats") d ≡ Some (string text)
  pub some : 0 < length text
  pub object : read text ≡ Some (object members)

-- The statistics state this number of records, or there are none, or they don't state it.
abbrev pub StatesCount : Data → Option ℕ → Type 0
StatesCount d None = LacksStatistics d ⊎ ((members : Members) × AreStatistics d members × (get (codes "numRecords") (object members) ≡ None))
StatesCount d (Some count) = (members : Members) × AreStatistics d members × (count_member (codes "numRecords") (object members) ≡ Some count)

pub record SaysAdd (d : Data) (uri : List ℕ) (values : List (List ℕ × Option (List ℕ))) (size : ℕ) (count : Option ℕ) (has_deletion_vector : Bool) : Type 0 where
  pub path : text_member (codes "path") d ≡ Some uri
  pub members : Members
  pub partitioned : object_member (codes "partitionValues") d ≡ Some members
  pub columns : AreColumnValues members values
  pub sized : count_member (codes "size") d ≡ Some size
  pub counted : StatesCount d count
  pub vector : has_deletion_vector ≡ is_some (present (codes "deletionVector") d)

pub record SaysRemove (d : Data) (uri : List ℕ) (has_deletion_vector : Bool) : Type 0 where
  pub path : text_member (codes "path") d ≡ Some uri
  pub vector : has_deletion_vector ≡ is_some (present (codes "deletionVector") d)

-- ---- objects

-- the members that are actions here; what else an object has says nothing
abbrev pub action_names : List (List ℕ)
action_names = codes "protocol" ∷ codes "metaData" ∷ codes "add" ∷ codes "remove" ∷ []

-- This is the object's one action.
pub record HasAction (d : Data) (name : List ℕ) (member : Data) : Type 0 where
  pub there : present name d ≡ Some member
  pub alone : (other : List ℕ) → Contains action_names other → other ≢ name → Lacks d other

-- The object says this action. Where it says none, none of the members is there.
abbrev pub SaysAction : Data → LineAction → Type 0
SaysAction d action.NoAction = (name : List ℕ) → Contains action_names name → Lacks d name
SaysAction d (action.Protocol p) = (member : Data) × HasAction d (codes "protocol") member × SaysProtocol member p
SaysAction d (action.MetaData m is_parquet) = (member : Data) × HasAction d (codes "metaData") member × SaysMetaData member m is_parquet
SaysAction d (action.Add uri values size count has_deletion_vector) =
    (member : Data) × HasAction d (codes "add") member × SaysAdd member uri values size count has_deletion_vector
SaysAction d (action.Remove uri has_deletion_vector) = (member : Data) × HasAction d (codes "remove") member × SaysRemove member uri has_deletion_vector

-- ---- lines

-- blank, tab and carriage return
abbrev pub IsSpace : ℕ → Type 0
IsSpace b = (b ≡ 32) ⊎ ((b ≡ 9) ⊎ (b ≡ 13))

abbrev pub IsBlank : List ℕ → Type 0
IsBlank line = All IsSpace line

-- The line isn't blank, and is the JSON text of one object with these members.
pub record IsLineOf (line : List ℕ) (members : Members) : Type 0 where
  pub some : ¬ IsBlank line
  pub object : json line ≡ Some (object members)

-- The line says this action: it is blank and says none, or its object says it.
abbrev pub LineSays : List ℕ → LineAction → Type 0
LineSays line a = (IsBlank line × (a ≡ action.NoAction)) ⊎ ((members : Members) × IsLineOf line members × SaysAction (object members) a)
