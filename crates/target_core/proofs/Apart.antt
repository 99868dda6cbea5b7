-- The folders of two formats share no path, and a target touches its own alone.
use Rattle.std.proofs.Common.{◌≡◌, ℕ, List, ◌∷◌, ◌++◌, codes, refl, arith}
use Rattle.std.specs.Fmt.{decimal}
use Rattle.lake_store.specs.Runs.{IsIn}
use Rattle.table_history.specs.declared.kind.Kind.{Kind}
use Rattle.table_history.specs.declared.kind.Kind.TheVariants.{Delta, Iceberg, Hudi}
use Rattle.target_core.specs.Folders.{AreApart, folder_of}
use Rattle.target_core.specs.OwnFiles.{IsDeltaFile, IsHudiFile, IsIcebergFile, MayNotTouch, MayTouch}

first_bytes : (p q : ℕ) (xs ys path : List ℕ) → path ≡ p ∷ xs → path ≡ q ∷ ys → p ≡ q
first_bytes p q xs ys path one other = cc

pub folders_apart : (a b : Kind) → (b ≡ a → ⊥) → AreApart (folder_of a) (folder_of b)
folders_apart Delta Delta other path x y = other refl
folders_apart Delta Iceberg other path x y = let same : 95 ≡ 109 = first_bytes 95 109 _ _ path x.1 y.1 in absurd (omega (arith, same))
folders_apart Delta Hudi other path x y = let same : 95 ≡ 46 = first_bytes 95 46 _ _ path x.1 y.1 in absurd (omega (arith, same))
folders_apart Iceberg Delta other path x y = let same : 109 ≡ 95 = first_bytes 109 95 _ _ path x.1 y.1 in absurd (omega (arith, same))
folders_apart Iceberg Iceberg other path x y = other refl
folders_apart Iceberg Hudi other path x y = let same : 109 ≡ 46 = first_bytes 109 46 _ _ path x.1 y.1 in absurd (omega (arith, same))
folders_apart Hudi Delta other path x y = let same : 46 ≡ 95 = first_bytes 46 95 _ _ path x.1 y.1 in absurd (omega (arith, same))
folders_apart Hudi Iceberg other path x y = let same : 46 ≡ 109 = first_bytes 46 109 _ _ path x.1 y.1 in absurd (omega (arith, same))
folders_apart Hudi Hudi other path x y = other refl

-- ---- a target's own files

touched_in : (kind : Kind) (path : List ℕ) → MayTouch kind path → IsIn (folder_of kind) path
touched_in Delta path (IsDeltaFile.version digits are is) = (digits ++ codes ".json", is)
touched_in Delta path (IsDeltaFile.staged digits are is) = (codes ".lakebridge-" ++ (digits ++ codes ".json"), is)
touched_in Iceberg path (IsIcebergFile.metadata version is) = (codes "v" ++ (decimal version ++ codes ".metadata.json"), is)
touched_in Iceberg path (IsIcebergFile.staged version is) = (codes "lb-v-" ++ (decimal version ++ codes ".json"), is)
touched_in Iceberg path (IsIcebergFile.list version is) = (codes "lb-s-" ++ (decimal version ++ codes ".avro"), is)
touched_in Iceberg path (IsIcebergFile.manifest version number is) = (codes "lb-m-" ++ (decimal version ++ (codes "-" ++ (decimal number ++ codes ".avro"))), is)
touched_in Hudi path (IsHudiFile.completed instant are is) = (instant ++ codes ".replacecommit", is)
touched_in Hudi path (IsHudiFile.requested instant are is) = (instant ++ codes ".replacecommit.requested", is)
touched_in Hudi path (IsHudiFile.inflight instant are is) = (instant ++ codes ".replacecommit.inflight", is)
touched_in Hudi path (IsHudiFile.claim instant are is) = (codes ".lakebridge/" ++ instant, is)
touched_in Hudi path (IsHudiFile.properties is) = (codes "hoodie.properties", is)
touched_in Hudi path (IsHudiFile.staged_properties is) = (codes ".lakebridge/properties", is)

-- What lies in another format's folder is untouched.
pub apart_untouched : (a b : Kind) → (b ≡ a → ⊥) → (path : List ℕ) → IsIn (folder_of a) path → MayNotTouch b path
apart_untouched a b other path within touched = folders_apart a b other path within (touched_in b path touched)
