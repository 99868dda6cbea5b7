-- Each refusal has its cause, and none that goes before it holds.
use Rattle.std.proofs.Common.{◌≡◌, ℕ, Bool, true, false, cond, List, [], ◌∷◌, map, Ok, Err, Option, Some, None, Contains, refl, sym, ap, subst, ◌∙◌, inl, inr, ⊎_elim}
use Rattle.std.specs.List.{list_any, IsDistinct}
use Rattle.std.specs.Option.{is_some}
use Rattle.std.specs.Str.{bytes_eq}
use Rattle.std.proofs.lemmas.Bool.{false≢true}
use Rattle.std.proofs.lemmas.Option.{none-some}
use Rattle.lake_basics.specs.Outcome.{each, FailsUnlessMemory}
use Rattle.table_history.specs.First.{IsFirst, NoneOf}
use Rattle.table_history.specs.TypeTree.{ColumnTrees}
use Rattle.table_history.specs.declared.feature.Feature.{Feature}
use Rattle.table_history.specs.declared.feature.Feature.TheVariants as feature
use Rattle.table_history.specs.declared.row.FileRow.{FileRow}
use Rattle.table_history.specs.declared.table.Table.{Table}
use Rattle.table_history.proofs.RowListLemmas.{Contains-none, Contains-cases}
use Rattle.schema_map.specs.declared.fault.MapError.TheVariants as map_errors
use Rattle.partition_map.specs.declared.kind.PartKind.{PartKind}
use Rattle.hudi_names.specs.declared.error.HudiError.{HudiError}
use Rattle.hudi_names.specs.declared.error.HudiError.TheVariants as errors
use Rattle.hudi_instant.specs.declared.instant.Stat.{Stat}
use Rattle.hudi_properties.specs.declared.table.HudiTable.{HudiTable}
use Rattle.hudi_timeline.specs.Causes.{HasStat, path_of, IsInForce, AreKinds, IsMalformed, Shows, change_features, IsRefusalOf}
use Rattle.hudi_names.specs.Errors.{malformed, is_memory}
use Rattle.hudi_groups.specs.Files.{suffix_of}
use Rattle.hudi_files.specs.Stats.{has_sound_path, has_sound_numbers, bare_row, is_external, has_other_id, is_other_file, name_fault}
use Rattle.hudi_timeline.specs.Live.{Completed}
use Rattle.partition_map.specs.Columns.{column_kind, LacksKinds, HasOtherKind}
use Rattle.hudi_timeline.specs.Schemas.{stated_schema, schema_after, AreKindsOf}
use Rattle.hudi_files.specs.FileFaults.{OnlyFeature, IsFolderFault, IsFileFault}
use Rattle.hudi_timeline.specs.Steps.{IsTextRefusal, IsKindFault}
use Rattle.hudi_files.specs.Values.{style_of, value_parts, is_in_folder, are_in_folders, PartsStand, HaveValues, SpellsNoValues}
use Rattle.hudi_groups.proofs.AnyLemmas.{any_from, any_to}
use Rattle.hudi_files.proofs.StatLemmas.{bare, bare_path, each_all, each_from, each_fault, all_at, not_all, row_of_file}

-- ---- kinds
pub has_kind : (f : List ℕ → Option PartKind) (names : List (List ℕ)) (kinds : List PartKind) → map f names ≡ map Some kinds → (name : List ℕ) → Contains names name → (k : PartKind) × (f name ≡ Some k)
has_kind f [] kinds e name there = absurd (Contains-none name there)
has_kind f (n ∷ ns) [] e name there = absurd cc
has_kind f (n ∷ ns) (k ∷ ks) e name there =
    let head : f n ≡ Some k = cc in
    let tail : map f ns ≡ map Some ks = cc in
    ⊎_elim (λ same. (k, ap f (sym same) ∙ head)) (λ later. has_kind f ns ks tail name later) (Contains-cases n ns name there)

pub kinds_same : (xs ys : List PartKind) → map Some xs ≡ map Some ys → xs ≡ ys
kinds_same [] [] e = refl
kinds_same [] (y ∷ ys) e = absurd cc
kinds_same (x ∷ xs) [] e = absurd cc
kinds_same (x ∷ xs) (y ∷ ys) e =
    let head : x ≡ y = cc in
    let tail : map Some xs ≡ map Some ys = cc in
    λ i. head i ∷ kinds_same xs ys tail i

pub none_lacks : (schema : ColumnTrees) (names : List (List ℕ)) (kinds : List PartKind) → IsDistinct bytes_eq names → AreKindsOf schema names kinds → LacksKinds schema names → ⊥
none_lacks schema names kinds distinct are lacks =
    ⊎_elim
    (λ twice. twice distinct)
    (λ bad.
    let has = has_kind (column_kind schema) names kinds are bad.0 bad.1 in
    none-some has.0 (sym bad.2 ∙ has.1))
    lacks

-- ---- the schema
pub none_after : (stated : Option ColumnTrees) (base : Option Table) → schema_after (Ok stated) base ≡ None → (stated ≡ None) × (base ≡ None)
none_after (Some schema) base e = absurd (none-some schema (sym e))
none_after None (Some before) e = absurd (none-some before.schema (sym e))
none_after None None e = (refl, refl)

-- ---- a file
refused_bare : (suffix : List ℕ) (s : Stat) (e : HudiError) → bare_row suffix s ≡ Err e → e ≡ malformed
refused_bare suffix s e h = by (has_sound_path suffix s) (has_sound_numbers s) h
  where
    by : (a b : Bool) → cond a (cond b (Ok (bare suffix s)) (Err malformed)) (Err malformed) ≡ Err e → e ≡ malformed
    by true true h = absurd cc
    by true false h = cc
    by false b h = cc

only_malformed : (suffix : List ℕ) (s : Stat) (e : HudiError) → bare_row suffix s ≡ Err e → bare_row suffix s ≡ Err malformed
only_malformed suffix s e h = h ∙ ap Err (refused_bare suffix s e h)

malformed_line : (suffix : List ℕ) (s : Stat) (line : ℕ) → bare_row suffix s ≡ Err (errors.Malformed line) → line ≡ 0
malformed_line suffix s line h = let e : errors.Malformed line ≡ malformed = refused_bare suffix s (errors.Malformed line) h in cc

-- ---- one step behind the other
module _ (u : Completed) (table : HudiTable) (base : Option Table) where
  no_bad_stat : (files : List FileRow) → each (bare_row (suffix_of u.form)) u.instant.stats ≡ Ok files → HasStat u (λ s. bare_row (suffix_of u.form) s ≡ Err malformed) → ⊥
  no_bad_stat files read bad =
      let file = each_all (bare_row (suffix_of u.form)) u.instant.stats files read bad.0 bad.1 in
      let e : Ok file.0 ≡ Err malformed = sym file.2 ∙ bad.2 in absurd cc

  -- the files can't be read
  pub stat_refusal : (e : HudiError) → FailsUnlessMemory (is_memory e) e (each (bare_row (suffix_of u.form)) u.instant.stats) → IsRefusalOf u table base e
  stat_refusal errors.Memory h = tt
  stat_refusal (errors.Malformed line) h =
      let bad = each_fault (bare_row (suffix_of u.form)) u.instant.stats (errors.Malformed line) h in
      (malformed_line (suffix_of u.form) bad.0 line bad.2, inr (bad.0, bad.1, only_malformed (suffix_of u.form) bad.0 (errors.Malformed line) bad.2))
  stat_refusal (errors.Unsupported shown) h =
      let bad = each_fault (bare_row (suffix_of u.form)) u.instant.stats (errors.Unsupported shown) h in
      let e : errors.Unsupported shown ≡ malformed = refused_bare (suffix_of u.form) bad.0 (errors.Unsupported shown) bad.2 in absurd cc
  stat_refusal (errors.Limit which) h =
      let bad = each_fault (bare_row (suffix_of u.form)) u.instant.stats (errors.Limit which) h in
      let e : errors.Limit which ≡ malformed = refused_bare (suffix_of u.form) bad.0 (errors.Limit which) bad.2 in absurd cc

  module _ (files : List FileRow) (read : each (bare_row (suffix_of u.form)) u.instant.stats ≡ Ok files) where
    -- the text of the schema can't be read
    pub text_refusal : (e : HudiError) → IsTextRefusal (stated_schema u.instant.schema) e → IsRefusalOf u table base e
    text_refusal errors.Memory h = tt
    text_refusal (errors.Malformed line) h = (h.0, inl h.1)
    text_refusal (errors.Unsupported shown) h = (
      (λ bad. ⊎_elim (λ text. let e : Err (map_errors.SchemaType h.1) ≡ Err map_errors.BadSchema = sym h.2 ∙ text in absurd cc) (no_bad_stat files read) bad),
      inr ((λ none. let e : Err (map_errors.SchemaType h.1) ≡ Ok None = sym h.2 ∙ none.0 in absurd cc), inl (h.0, (h.1, h.2))),
    )
    text_refusal (errors.Limit which) h = absurd h

    module _ (stated : Option ColumnTrees) (states : stated_schema u.instant.schema ≡ Ok stated) where
      pub not_malformed : IsMalformed u → ⊥
      not_malformed bad =
          ⊎_elim (λ text. let e : Ok stated ≡ Err map_errors.BadSchema = sym states ∙ text in absurd cc) (no_bad_stat files read) bad

      -- there is no schema
      pub no_schema : schema_after (Ok stated) base ≡ None → IsRefusalOf u table base (errors.Unsupported feature.NoSchema)
      no_schema none =
          let both = none_after stated base none in
          (not_malformed, inl (refl, (states ∙ ap Ok both.0, both.1)))

      module _ (schema : ColumnTrees) (after : schema_after (Ok stated) base ≡ Some schema) where
        pub in_force : IsInForce u base schema
        in_force = ap (λ r. schema_after r base) states ∙ after

        pub only_schema : (other : ColumnTrees) → IsInForce u base other → other ≡ schema
        only_schema other h = let e : Some other ≡ Some schema = sym h ∙ in_force in cc

        has_schema : Shows u table base feature.NoSchema → ⊥
        has_schema lacks = none-some schema (sym (λ i. schema_after (lacks.0 i) (lacks.1 i)) ∙ in_force)

        can_type : Shows u table base feature.SchemaType → ⊥
        can_type bad = let e : Ok stated ≡ Err (map_errors.SchemaType bad.0) = sym states ∙ bad.1 in absurd cc

        -- the kinds of the partition columns show a feature
        pub kind_refusal : (e : HudiError) → OnlyFeature (IsKindFault schema table.partition base) e → IsRefusalOf u table base e
        kind_refusal errors.Memory h = tt
        kind_refusal (errors.Malformed line) h = absurd h
        kind_refusal (errors.Unsupported shown) h = (
          not_malformed,
          inr (
            has_schema,
            inr (
              can_type,
              ⊎_elim
                  (λ lacks. inl (lacks.0, (schema, in_force, lacks.1)))
                  (λ changes. inr (
                    (λ bad. changes.1 (subst (λ s. LacksKinds s table.partition) (only_schema bad.0 bad.1) bad.2)),
                    inl (changes.0, (schema, in_force, changes.2, changes.3, changes.4)),
                  ))
                  h,
            ),
          ),
        )
        kind_refusal (errors.Limit which) h = absurd h

        module _ (kinds : List PartKind) (distinct : IsDistinct bytes_eq table.partition) (are : AreKindsOf schema table.partition kinds)
            (kept : (before : Table) → base ≡ Some before → HasOtherKind before.schema schema table.partition → ⊥) where
          pub are_kinds : AreKinds u table base kinds
          are_kinds = record { schema = schema; in_force = in_force; are = are }

          pub only_kinds : (other : List PartKind) → AreKinds u table base other → other ≡ kinds
          only_kinds other h =
              let same : h.schema ≡ schema = only_schema h.schema h.in_force in
              kinds_same other kinds (sym h.are ∙ ap (λ s. map (column_kind s) table.partition) same ∙ are)

          has_kinds : Shows u table base feature.PartitionType → ⊥
          has_kinds bad = none_lacks schema table.partition kinds distinct are (subst (λ s. LacksKinds s table.partition) (only_schema bad.0 bad.1) bad.2)

          keeps_kinds : Shows u table base feature.PartitionChange → ⊥
          keeps_kinds bad = kept bad.2 bad.3 (subst (λ s. HasOtherKind bad.2.schema s table.partition) (only_schema bad.0 bad.1) bad.4)

          behind_kinds : (shown : Feature) → IsFirst (Shows u table base) (feature.ExternalFile ∷ feature.FileId ∷ feature.FileFormat ∷ feature.PartitionPath ∷ feature.PartitionValue ∷ []) shown
              → IsRefusalOf u table base (errors.Unsupported shown)
          behind_kinds shown h = (not_malformed, inr (has_schema, inr (can_type, inr (has_kinds, inr (keeps_kinds, h)))))

          -- ---- the names of the files
          stat_test : (p : Stat → Bool) → list_any p u.instant.stats ≡ false → HasStat u (λ s. p s ≡ true) → ⊥
          stat_test p none some = false≢true (sym none ∙ any_from p u.instant.stats some.0 some.1 some.2)

          abbrev external : Stat → Bool
          external = is_external u.form

          abbrev other_id : Stat → Bool
          other_id = has_other_id u.form (suffix_of u.form)

          abbrev other_file : Stat → Bool
          other_file = is_other_file u.form

          name_first : (shown : Feature) → name_fault u.form (suffix_of u.form) u.instant.stats ≡ Some shown
              → IsFirst (Shows u table base) (feature.ExternalFile ∷ feature.FileId ∷ feature.FileFormat ∷ feature.PartitionPath ∷ feature.PartitionValue ∷ []) shown
          name_first shown h = by (list_any external u.instant.stats) (list_any other_id u.instant.stats) (list_any other_file u.instant.stats) refl refl refl h
            where
              by : (a b c : Bool) → list_any external u.instant.stats ≡ a → list_any other_id u.instant.stats ≡ b → list_any other_file u.instant.stats ≡ c
                  → cond a (Some feature.ExternalFile) (cond b (Some feature.FileId) (cond c (Some feature.FileFormat) None)) ≡ Some shown
                  → IsFirst (Shows u table base) (feature.ExternalFile ∷ feature.FileId ∷ feature.FileFormat ∷ feature.PartitionPath ∷ feature.PartitionValue ∷ []) shown
              by true b c one two three e = let is : shown ≡ feature.ExternalFile = cc in inl (is, any_to external u.instant.stats one)
              by false true c one two three e =
                  let is : shown ≡ feature.FileId = cc in inr (stat_test external one, inl (is, any_to other_id u.instant.stats two))
              by false false true one two three e =
                  let is : shown ≡ feature.FileFormat = cc in
                  inr (stat_test external one, inr (stat_test other_id two, inl (is, any_to other_file u.instant.stats three)))
              by false false false one two three e = absurd (none-some shown e)

          name_none : name_fault u.form (suffix_of u.form) u.instant.stats ≡ None
              → (Shows u table base feature.ExternalFile → ⊥) × (Shows u table base feature.FileId → ⊥) × (Shows u table base feature.FileFormat → ⊥)
          name_none h = by (list_any external u.instant.stats) (list_any other_id u.instant.stats) (list_any other_file u.instant.stats) refl refl refl h
            where
              by : (a b c : Bool) → list_any external u.instant.stats ≡ a → list_any other_id u.instant.stats ≡ b → list_any other_file u.instant.stats ≡ c
                  → cond a (Some feature.ExternalFile) (cond b (Some feature.FileId) (cond c (Some feature.FileFormat) None)) ≡ None
                  → (Shows u table base feature.ExternalFile → ⊥) × (Shows u table base feature.FileId → ⊥) × (Shows u table base feature.FileFormat → ⊥)
              by true b c one two three e = absurd (none-some feature.ExternalFile (sym e))
              by false true c one two three e = absurd (none-some feature.FileId (sym e))
              by false false true one two three e = absurd (none-some feature.FileFormat (sym e))
              by false false false one two three e = (stat_test external one, stat_test other_id two, stat_test other_file three)

          -- ---- the folders of the files
          stat_of_file : (file : FileRow) → Contains files file → (s : Stat) × Contains u.instant.stats s × (file.path ≡ path_of u s)
          stat_of_file file there =
              let s = each_from (bare_row (suffix_of u.form)) u.instant.stats files read file there in
              (s.0, s.1, bare_path (suffix_of u.form) s.0 file s.2)

          file_of_stat : (s : Stat) → Contains u.instant.stats s → (file : FileRow) × Contains files file × (file.path ≡ path_of u s)
          file_of_stat s there =
              let file = each_all (bare_row (suffix_of u.form)) u.instant.stats files read s there in
              (file.0, file.1, bare_path (suffix_of u.form) s file.0 file.2)

          no_parts : (o : Option (List (List ℕ))) → is_some o ≡ false → o ≡ None
          no_parts None h = refl
          no_parts (Some parts) h = absurd (false≢true (sym h))

          some_parts : (o : Option (List (List ℕ))) → is_some o ≡ true → o ≡ None → ⊥
          some_parts o h none = false≢true (sym (ap is_some none) ∙ h)

          in_folders : are_in_folders (style_of table) table.partition files ≡ true → Shows u table base feature.PartitionPath → ⊥
          in_folders all bad =
              let file = file_of_stat bad.0 bad.1 in
              some_parts (value_parts (style_of table) table.partition (path_of u bad.0))
              (subst (λ p. is_some (value_parts (style_of table) table.partition p) ≡ true) file.2 (all_at (is_in_folder (style_of table) table.partition) files file.0 all file.1))
              bad.2

          folder_first : (shown : Feature) → IsFolderFault (style_of table) table.partition kinds files shown
              → IsFirst (Shows u table base) (feature.PartitionPath ∷ feature.PartitionValue ∷ []) shown
          folder_first shown h =
              ⊎_elim
              (λ path.
              let file = not_all (is_in_folder (style_of table) table.partition) files path.1 in
              let s = stat_of_file file.0 file.1 in
              inl (path.0, (s.0, s.1, subst (λ p. value_parts (style_of table) table.partition p ≡ None) s.2 (no_parts (value_parts (style_of table) table.partition file.0.path) file.2))))
              (λ bad.
              let s = stat_of_file bad.2 bad.3 in
              inr (in_folders bad.1, inl (bad.0, (kinds, are_kinds, (s.0, s.1, subst (SpellsNoValues (style_of table) table.partition kinds) s.2 bad.4)))))
              h

          pub file_refusal : (e : HudiError) → OnlyFeature (IsFileFault (name_fault u.form (suffix_of u.form) u.instant.stats) (style_of table) table.partition kinds files) e → IsRefusalOf u table base e
          file_refusal errors.Memory h = tt
          file_refusal (errors.Malformed line) h = absurd h
          file_refusal (errors.Unsupported shown) h = behind_kinds shown (⊎_elim
              (λ name. name_first shown name)
              (λ folder. let none = name_none folder.0 in inr (none.0, inr (none.1, inr (none.2, folder_first shown folder.1))))
              h)
          file_refusal (errors.Limit which) h = absurd h

          -- ---- nothing speaks against it but numbers
          module _ (rows : List FileRow) (names : name_fault u.form (suffix_of u.form) u.instant.stats ≡ None) (inside : are_in_folders (style_of table) table.partition files ≡ true)
              (have : HaveValues (style_of table) table.partition kinds files rows) where
            has_values : Shows u table base feature.PartitionValue → ⊥
            has_values bad =
                let s = bad.2 in
                let file = file_of_stat s.0 s.1 in
                let row = row_of_file (style_of table) table.partition kinds files rows have file.0 file.1 in
                let lacks : SpellsNoValues (style_of table) table.partition kinds file.0.path =
                subst (SpellsNoValues (style_of table) table.partition kinds) (sym file.2) (subst (λ ks. SpellsNoValues (style_of table) table.partition ks (path_of u s.0)) (only_kinds bad.0 bad.1) s.2) in
                let same : row.2.parts ≡ lacks.parts = let e : Some row.2.parts ≡ Some lacks.parts = sym row.2.spelled ∙ lacks.spelled in cc in
                lacks.none row.0.values (subst (λ ps. PartsStand (style_of table) kinds ps row.0.values) same row.2.values)

            pub no_feature : NoneOf (Shows u table base) change_features
            no_feature =
                let none = name_none names in
                (has_schema, (can_type, (has_kinds, (keeps_kinds, (none.0, (none.1, (none.2, (in_folders inside, (has_values, tt)))))))))
