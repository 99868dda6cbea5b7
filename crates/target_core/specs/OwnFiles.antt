-- Which files a target writes and removes, by their paths. All else in its folder stays, such as an engine's checkpoints, hints and archives.
use Rattle.std.specs.Prelude.{◌≡◌, ℕ, List, ◌++◌, codes, length}
use Rattle.std.specs.Fmt.{decimal}
use Rattle.std.specs.Str.Parse.{IsNumeral}
use Rattle.lake_store.specs.Runs.{LeavesAlone}
use Rattle.lake_store.specs.declared.store.Store.{Ghosts}
use Rattle.table_history.specs.declared.kind.Kind.{Kind}
use Rattle.table_history.specs.declared.kind.Kind.TheVariants.{Delta, Iceberg, Hudi}

-- so many decimal digits
pub record AreDigits (count : ℕ) (digits : List ℕ) : Type 0 where
  pub len : length digits ≡ count
  pub numeral : IsNumeral 10 digits

-- a version (Delta protocol, "Delta Log Entries"), or the name that it is staged under
pub data IsDeltaFile (path : List ℕ) : Type 0 where
  version : (digits : List ℕ) → AreDigits 20 digits → path ≡ codes "_delta_log/" ++ (digits ++ codes ".json") → IsDeltaFile path
  staged : (digits : List ℕ) → AreDigits 20 digits → path ≡ codes "_delta_log/.lakebridge-" ++ (digits ++ codes ".json") → IsDeltaFile path

-- the metadata of a version (Iceberg specification, "File System Tables"), the name that it is staged under, its manifest list, or one of its manifests
pub data IsIcebergFile (path : List ℕ) : Type 0 where
  metadata : (version : ℕ) → path ≡ codes "metadata/v" ++ (decimal version ++ codes ".metadata.json") → IsIcebergFile path
  staged : (version : ℕ) → path ≡ codes "metadata/lb-v-" ++ (decimal version ++ codes ".json") → IsIcebergFile path
  list : (version : ℕ) → path ≡ codes "metadata/lb-s-" ++ (decimal version ++ codes ".avro") → IsIcebergFile path
  manifest : (version number : ℕ) → path ≡ codes "metadata/lb-m-" ++ (decimal version ++ (codes "-" ++ (decimal number ++ codes ".avro"))) → IsIcebergFile path

-- a replacecommit's instant in one of its three states (Hudi technical specification, "Timeline"), its claim, or the table's properties, staged or not
pub data IsHudiFile (path : List ℕ) : Type 0 where
  completed : (instant : List ℕ) → AreDigits 17 instant → path ≡ codes ".hoodie/" ++ (instant ++ codes ".replacecommit") → IsHudiFile path
  requested : (instant : List ℕ) → AreDigits 17 instant → path ≡ codes ".hoodie/" ++ (instant ++ codes ".replacecommit.requested") → IsHudiFile path
  inflight : (instant : List ℕ) → AreDigits 17 instant → path ≡ codes ".hoodie/" ++ (instant ++ codes ".replacecommit.inflight") → IsHudiFile path
  claim : (instant : List ℕ) → AreDigits 17 instant → path ≡ codes ".hoodie/.lakebridge/" ++ instant → IsHudiFile path
  properties : path ≡ codes ".hoodie/hoodie.properties" → IsHudiFile path
  staged_properties : path ≡ codes ".hoodie/.lakebridge/properties" → IsHudiFile path

-- A target of this format may write the file at this path, or remove it.
abbrev pub MayTouch : Kind → List ℕ → Type 0
MayTouch Delta path = IsDeltaFile path
MayTouch Iceberg path = IsIcebergFile path
MayTouch Hudi path = IsHudiFile path

abbrev pub MayNotTouch : Kind → List ℕ → Type 0
MayNotTouch kind path = ¬ MayTouch kind path

-- No other file changes, at return and at any moment.
abbrev pub TouchesOwn : {S : Type 0} → Ghosts S → Kind → S → S → Type 0
TouchesOwn store kind old new = LeavesAlone store (MayNotTouch kind) old new
