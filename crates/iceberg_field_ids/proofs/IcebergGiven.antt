-- The Image with the ids that are given fits Iceberg.
use Rattle.std.proofs.Common.{◌≡◌, List, ◌++◌, length, Result, Ok, Err, refl, sym, ap, subst, ◌∙◌}
use Rattle.std.specs.Prelude.{ℤ, codes, Some, IfOk}
use Rattle.lake_basics.specs.Outcome.{GivesUnlessMemory}
use Rattle.schema_map.specs.Errors.{is_memory}
use Rattle.schema_map.specs.declared.fault.MapError.{MapError}
use Rattle.table_history.specs.declared.kind.Kind.TheVariants.{Iceberg}
use Rattle.schema_map.specs.Image.{image, wide_type, wide_columns}
use Rattle.table_history.specs.TypeTree as tree
use Rattle.table_history.specs.TypeTree.{TypeTree, ColumnTrees, no_columns, column}
use Rattle.table_history.specs.Sound.{IsSoundType, AreSound, IsSound}
use Rattle.table_history.specs.SchemaSize.{IsWithinLimits}
use Rattle.schema_map.specs.Paths.{Path, below, inner_paths, column_paths}
use Rattle.iceberg_field_ids.specs.Ids.{ids_for}
use Rattle.schema_map.specs.IcebergFits.{AreIds, FitsIceberg}
use Rattle.iceberg_field_ids.specs.OwnIds.{AreKnown, AreDistinct, KeepsKnown}
use Rattle.schema_map.proofs.Wide.{own_wide, wide_limits}
use Rattle.iceberg_field_ids.proofs.IdsGiven.{are_given}
use Rattle.iceberg_field_ids.proofs.OwnIdsGiven.{own_schema_ids, kept_ids}
use Rattle.schema_map.proofs.ImageTwice.{columns_twice}

mutual
  sound_wide : (t : TypeTree) → IsSoundType t → IsSoundType (wide_type t)
  sound_wide tree.boolean sound = tt
  sound_wide tree.byte sound = tt
  sound_wide tree.short sound = tt
  sound_wide tree.int sound = tt
  sound_wide tree.long sound = tt
  sound_wide tree.float sound = tt
  sound_wide tree.double sound = tt
  sound_wide tree.text sound = tt
  sound_wide tree.binary sound = tt
  sound_wide tree.date sound = tt
  sound_wide tree.timestamp sound = tt
  sound_wide tree.timestamp_ntz sound = tt
  sound_wide (tree.decimal p s) sound = sound
  sound_wide (tree.struct_of cs) sound = (own_wide cs ∙ sound.0, columns_sound_wide cs sound.1)
  sound_wide (tree.list_of t b) sound = sound_wide t sound
  sound_wide (tree.map_of k v b) sound = (sound_wide k sound.0, sound_wide v sound.1)

  columns_sound_wide : (cs : ColumnTrees) → AreSound cs → AreSound (wide_columns cs)
  columns_sound_wide no_columns sound = tt
  columns_sound_wide (column n t b cs) sound = (sound_wide t sound.0, columns_sound_wide cs sound.1)

mutual
  paths_wide : (t : TypeTree) → inner_paths (wide_type t) ≡ inner_paths t
  paths_wide tree.boolean = refl
  paths_wide tree.byte = refl
  paths_wide tree.short = refl
  paths_wide tree.int = refl
  paths_wide tree.long = refl
  paths_wide tree.float = refl
  paths_wide tree.double = refl
  paths_wide tree.text = refl
  paths_wide tree.binary = refl
  paths_wide tree.date = refl
  paths_wide tree.timestamp = refl
  paths_wide tree.timestamp_ntz = refl
  paths_wide (tree.decimal p s) = refl
  paths_wide (tree.struct_of cs) = column_paths_wide cs
  paths_wide (tree.list_of t b) = ap (below (codes "element")) (paths_wide t)
  paths_wide (tree.map_of k v b) = ap (λ ps. below (codes "key") ps ++ below (codes "value") (inner_paths (wide_type v))) (paths_wide k) ∙ ap (λ ps. below (codes "key") (inner_paths k) ++ below (codes "value") ps) (paths_wide v)

  pub column_paths_wide : (cs : ColumnTrees) → column_paths (wide_columns cs) ≡ column_paths cs
  column_paths_wide no_columns = refl
  column_paths_wide (column n t b cs) = ap (λ ps. below n ps ++ column_paths (wide_columns cs)) (paths_wide t) ∙ ap (λ ps. below n (inner_paths t) ++ ps) (column_paths_wide cs)

pub image_fits : (known : List (Path × ℤ)) (last : ℤ) (cs : ColumnTrees) (ids : List ℤ) → IsSound cs → IsWithinLimits cs → AreIds ids → ids_for known last (column_paths cs) ≡ Ok ids → FitsIceberg (wide_columns cs) ids
image_fits known last cs ids sound limits are given =
    record {
      sound = sound_wide (tree.struct_of cs) sound;
      within = wide_limits cs limits;
      are = are;
      size = (are_given known last (column_paths cs) ids given).size ∙ ap length (sym (column_paths_wide cs));
    }

-- ---- what a call gives

abbrev pub Gave : List (Path × ℤ) → ℤ → ColumnTrees → Result (ColumnTrees × List ℤ) MapError → Type 0
Gave known last cs r = GivesUnlessMemory is_memory (λ p. p.1) r (ids_for known last (column_paths cs))

module _ (cs : ColumnTrees) where
  pub given_image : (r : Result (ColumnTrees × List ℤ) MapError) → IfOk r (λ p. p.0 ≡ wide_columns cs) → IfOk r (λ p. image Iceberg cs ≡ Some p.0)
  given_image (Ok p) is = ap Some (sym is)
  given_image (Err e) is = tt

  pub given_settled : (r : Result (ColumnTrees × List ℤ) MapError) → IfOk r (λ p. p.0 ≡ wide_columns cs) → IfOk r (λ p. image Iceberg p.0 ≡ Some p.0)
  given_settled (Ok p) is = ap Some (ap wide_columns is ∙ columns_twice cs ∙ sym is)
  given_settled (Err e) is = tt

module _ (known : List (Path × ℤ)) (last : ℤ) (cs : ColumnTrees) where
  pub given_keeps : (r : Result (ColumnTrees × List ℤ) MapError) → Gave known last cs r → IfOk r (λ p. KeepsKnown known (column_paths cs) p.1)
  given_keeps (Ok p) given = kept_ids known last (column_paths cs) p.1 given
  given_keeps (Err e) given = tt

  pub given_own : (r : Result (ColumnTrees × List ℤ) MapError) → Gave known last cs r → IfOk r (λ p. AreKnown known last → IsSound cs → AreDistinct p.1)
  given_own (Ok p) given = λ are sound. own_schema_ids known last cs p.1 are sound given
  given_own (Err e) given = tt

  pub given_fits : (r : Result (ColumnTrees × List ℤ) MapError) → IfOk r (λ p. p.0 ≡ wide_columns cs) → IfOk r (λ p. AreIds p.1) → Gave known last cs r → IfOk r (λ p. IsSound cs → IsWithinLimits cs → FitsIceberg p.0 p.1)
  given_fits (Ok p) is are given = λ sound limits. subst (λ (xs : ColumnTrees). FitsIceberg xs p.1) (sym is) (image_fits known last cs p.1 sound limits are given)
  given_fits (Err e) is are given = tt
