-- How many rows there are, and which numbers an instant passes.
use Rattle.std.proofs.Common.{◌≡◌, ℕ, ◌<◌, ◌≤◌, Bool, true, false, cond, nat_lt, List, [], ◌∷◌, ◌++◌, length, Option, Some, None, Contains, refl, sym, ap, subst, ◌∙◌, inl, inr, ⊎_elim, arith}
use Rattle.std.specs.List.{list_any}
use Rattle.std.specs.Option.{option_or}
use Rattle.std.specs.Str.{bytes_eq}
use Rattle.std.proofs.lemmas.Bool.{false≢true, lt-ltb, ltb-true, ltb-false}
use Rattle.std.proofs.lemmas.List.{length-append}
use Rattle.std.proofs.lemmas.List.Elements.{Contains-append_left, Contains-append_right, Contains-append_cases}
use Rattle.std.proofs.lemmas.Map.Keys.{IsDistinct-head, IsDistinct-tail}
use Rattle.std.proofs.lemmas.Option.{none-some}
use Rattle.lake_basics.specs.declared.limits.TheConstants.{MAX_COLUMNS, MAX_PARTITION_COLUMNS, MAX_PATH_BYTES, MAX_LIVE_FILES}
use Rattle.lake_basics.proofs.Texts.{bytes_itself}
use Rattle.table_history.specs.First.{IsFirst, NoneOf}
use Rattle.table_history.specs.Rows.{HasDistinctPaths, paths_of}
use Rattle.table_history.specs.TypeTree.{ColumnTrees}
use Rattle.table_history.specs.SchemaSize.{column_count, column_levels, max_type_levels}
use Rattle.table_history.specs.declared.limit.LimitKind.{LimitKind}
use Rattle.table_history.specs.declared.limit.LimitKind.TheVariants as limit
use Rattle.table_history.specs.declared.row.FileRow.{FileRow}
use Rattle.table_history.specs.declared.table.Table.{Table}
use Rattle.table_history.proofs.RowListLemmas.{Contains-none, Contains-head, Contains-tail, Contains-cases}
use Rattle.partition_map.specs.declared.kind.PartKind.{PartKind}
use Rattle.hudi_properties.specs.declared.table.HudiTable.{HudiTable}
use Rattle.hudi_timeline.specs.Causes.{IsInForce, AreKinds, Passes, change_limits, rows_before}
use Rattle.hudi_groups.specs.Files.{suffix_of}
use Rattle.hudi_timeline.specs.GroupChange.{is_long, limit_passed, row_limit}
use Rattle.hudi_groups.specs.GroupSets.{rows_after}
use Rattle.hudi_timeline.specs.Live.{Completed, AreRowsOf, IsLiveAfter}
use Rattle.hudi_groups.proofs.AnyLemmas.{any_from, any_to}
use Rattle.hudi_groups.proofs.GroupChangeLemmas.{at_path}
use Rattle.hudi_files.proofs.StatLemmas.{bare_path}
use Rattle.hudi_timeline.proofs.LiveLemmas.{live_after, row_of_stat, stat_of_row}

-- ---- rows that are all among others
split_at : (xs : List FileRow) (x : FileRow) → Contains xs x → (before : List FileRow) × (after : List FileRow) × (xs ≡ before ++ x ∷ after)
split_at [] x there = absurd (Contains-none x there)
split_at (y ∷ ys) x there =
    ⊎_elim
    (λ e. ([], ys, ap (λ w. w ∷ ys) e))
    (λ later. let more = split_at ys x later in (y ∷ more.0, more.1, ap (λ l. y ∷ l) more.2))
    (Contains-cases y ys x there)

pub fewer : (xs ys : List FileRow) → HasDistinctPaths xs → ((x : FileRow) → Contains xs x → Contains ys x) → length xs ≤ length ys
fewer [] ys d among = omega arith
fewer (x ∷ xs) ys d among =
    let cut = split_at ys x (among x (Contains-head x xs)) in
    let others : (z : FileRow) → Contains xs z → Contains (cut.0 ++ cut.1) z = λ z there.
    ⊎_elim
    (λ front. Contains-append_left cut.0 cut.1 z front)
    (λ behind. ⊎_elim
    (λ same. absurd (false≢true (sym (at_path (λ p. bytes_eq x.path p ≡ false) xs z (IsDistinct-head bytes_eq x.path (paths_of xs) d) there) ∙ ap (λ (w : FileRow). bytes_eq x.path w.path) (sym same) ∙ bytes_itself x.path)))
    (λ later. Contains-append_right cut.0 cut.1 z later)
    (Contains-cases x cut.1 z behind))
    (Contains-append_cases cut.0 (x ∷ cut.1) z (subst (λ l. Contains l z) cut.2 (among z (Contains-tail x xs z there)))) in
    let rest = fewer xs (cut.0 ++ cut.1) (IsDistinct-tail bytes_eq x.path (paths_of xs) d) others in
    omega (arith, rest, length-append cut.0 cut.1, length-append cut.0 (x ∷ cut.1), ap length cut.2)

-- ---- the numbers
pub record AreFew (table : HudiTable) (schema : ColumnTrees) (has_long : Bool) (live : ℕ) : Type 0 where
  pub columns : nat_lt MAX_COLUMNS (column_count schema) ≡ false
  pub levels : nat_lt max_type_levels (column_levels schema) ≡ false
  pub names : nat_lt MAX_PARTITION_COLUMNS (length table.partition) ≡ false
  pub paths : has_long ≡ false
  pub rows : nat_lt MAX_LIVE_FILES live ≡ false

pub few_parts : (table : HudiTable) (schema : ColumnTrees) (has_long : Bool) (live : ℕ) → limit_passed table schema has_long live ≡ None → AreFew table schema has_long live
few_parts table schema has_long live h =
    by (nat_lt MAX_COLUMNS (column_count schema)) (nat_lt max_type_levels (column_levels schema)) (nat_lt MAX_PARTITION_COLUMNS (length table.partition)) has_long (nat_lt MAX_LIVE_FILES live) refl refl refl refl refl h
  where
    by : (a b c d e : Bool) → nat_lt MAX_COLUMNS (column_count schema) ≡ a → nat_lt max_type_levels (column_levels schema) ≡ b → nat_lt MAX_PARTITION_COLUMNS (length table.partition) ≡ c → has_long ≡ d → nat_lt MAX_LIVE_FILES live ≡ e
        → option_or (cond a (Some limit.Columns) (cond b (Some limit.Depth) None)) (cond c (Some limit.PartitionColumns) (cond d (Some limit.Path) (cond e (Some limit.LiveFiles) None))) ≡ None
        → AreFew table schema has_long live
    by true b c d e one two three four five h = absurd (none-some limit.Columns (sym h))
    by false true c d e one two three four five h = absurd (none-some limit.Depth (sym h))
    by false false true d e one two three four five h = absurd (none-some limit.PartitionColumns (sym h))
    by false false false true e one two three four five h = absurd (none-some limit.Path (sym h))
    by false false false false true one two three four five h = absurd (none-some limit.LiveFiles (sym h))
    by false false false false false one two three four five h = record { columns = one; levels = two; names = three; paths = four; rows = five }

module _ (u : Completed) (table : HudiTable) (base : Option Table) (schema : ColumnTrees) (kinds : List PartKind) (rows : List FileRow)
    (in_force : IsInForce u base schema) (only_schema : (other : ColumnTrees) → IsInForce u base other → other ≡ schema)
    (are_kinds : AreKinds u table base kinds) (only_kinds : (other : List PartKind) → AreKinds u table base other → other ≡ kinds)
    (are : AreRowsOf table kinds u rows) where
  abbrev after : List FileRow
  after = rows_after u.form u.instant.replaced (rows_before base) rows

  few_columns : nat_lt MAX_COLUMNS (column_count schema) ≡ false → Passes u table base limit.Columns → ⊥
  few_columns low h = false≢true (sym low ∙ lt-ltb MAX_COLUMNS (column_count schema) (subst (λ s. MAX_COLUMNS < column_count s) (only_schema h.0 h.1) h.2))

  few_levels : nat_lt max_type_levels (column_levels schema) ≡ false → Passes u table base limit.Depth → ⊥
  few_levels low h = false≢true (sym low ∙ lt-ltb max_type_levels (column_levels schema) (subst (λ s. max_type_levels < column_levels s) (only_schema h.0 h.1) h.2))

  few_names : nat_lt MAX_PARTITION_COLUMNS (length table.partition) ≡ false → Passes u table base limit.PartitionColumns → ⊥
  few_names low h = false≢true (sym low ∙ lt-ltb MAX_PARTITION_COLUMNS (length table.partition) h)

  short_paths : list_any is_long rows ≡ false → Passes u table base limit.Path → ⊥
  short_paths low h =
      let row = row_of_stat table kinds u rows are h.0 h.1 in
      false≢true (sym low ∙ any_from is_long rows row.0 row.1 (lt-ltb MAX_PATH_BYTES (length row.0.path) (subst (λ p. MAX_PATH_BYTES < length p) (sym row.2) h.2)))

  long_path : list_any is_long rows ≡ true → Passes u table base limit.Path
  long_path high =
      let row = any_to is_long rows high in
      let s = stat_of_row table kinds u rows are row.0 row.1 in
      (s.0, s.1, subst (λ p. MAX_PATH_BYTES < length p) (s.4.path ∙ bare_path (suffix_of u.form) s.0 s.2 s.3) (ltb-true MAX_PATH_BYTES (length row.0.path) row.2))

  few_rows : nat_lt MAX_LIVE_FILES (length after) ≡ false → Passes u table base limit.LiveFiles → ⊥
  few_rows low h =
      let all : (row : FileRow) → Contains h.2 row → Contains after row = λ row there.
      (live_after table kinds u rows are (rows_before base) row).1 (subst (λ ks. IsLiveAfter table ks u (rows_before base) row) (only_kinds h.0 h.1) (h.4 row there)) in
      let fewer_there = fewer h.2 after h.3 all in
      let most = ltb-false MAX_LIVE_FILES (length after) low in
      let more = h.5 in
      absurd (omega (arith, fewer_there, most, more))

  many_rows : HasDistinctPaths after → nat_lt MAX_LIVE_FILES (length after) ≡ true → Passes u table base limit.LiveFiles
  many_rows distinct high = (kinds, are_kinds, after, distinct, (λ row there. (live_after table kinds u rows are (rows_before base) row).0 there), ltb-true MAX_LIVE_FILES (length after) high)

  row_first : (which : LimitKind) → HasDistinctPaths after → row_limit table (list_any is_long rows) (length after) ≡ Some which
      → IsFirst (Passes u table base) (limit.PartitionColumns ∷ limit.Path ∷ limit.LiveFiles ∷ []) which
  row_first which distinct h = by (nat_lt MAX_PARTITION_COLUMNS (length table.partition)) (list_any is_long rows) (nat_lt MAX_LIVE_FILES (length after)) refl refl refl h
    where
      by : (a b c : Bool) → nat_lt MAX_PARTITION_COLUMNS (length table.partition) ≡ a → list_any is_long rows ≡ b → nat_lt MAX_LIVE_FILES (length after) ≡ c
          → cond a (Some limit.PartitionColumns) (cond b (Some limit.Path) (cond c (Some limit.LiveFiles) None)) ≡ Some which
          → IsFirst (Passes u table base) (limit.PartitionColumns ∷ limit.Path ∷ limit.LiveFiles ∷ []) which
      by true b c one two three e = let is : which ≡ limit.PartitionColumns = cc in inl (is, ltb-true MAX_PARTITION_COLUMNS (length table.partition) one)
      by false true c one two three e = let is : which ≡ limit.Path = cc in inr (few_names one, inl (is, long_path two))
      by false false true one two three e =
          let is : which ≡ limit.LiveFiles = cc in inr (few_names one, inr (short_paths two, inl (is, many_rows distinct three)))
      by false false false one two three e = absurd (none-some which e)

  pub number_first : (which : LimitKind) → HasDistinctPaths after → limit_passed table schema (list_any is_long rows) (length after) ≡ Some which → IsFirst (Passes u table base) change_limits which
  number_first which distinct h = by (nat_lt MAX_COLUMNS (column_count schema)) (nat_lt max_type_levels (column_levels schema)) refl refl h
    where
      by : (a b : Bool) → nat_lt MAX_COLUMNS (column_count schema) ≡ a → nat_lt max_type_levels (column_levels schema) ≡ b
          → option_or (cond a (Some limit.Columns) (cond b (Some limit.Depth) None)) (row_limit table (list_any is_long rows) (length after)) ≡ Some which → IsFirst (Passes u table base) change_limits which
      by true b one two e = let is : which ≡ limit.Columns = cc in inl (is, (schema, in_force, ltb-true MAX_COLUMNS (column_count schema) one))
      by false true one two e =
          let is : which ≡ limit.Depth = cc in inr (few_columns one, inl (is, (schema, in_force, ltb-true max_type_levels (column_levels schema) two)))
      by false false one two e = inr (few_columns one, inr (few_levels two, row_first which distinct e))

  pub number_none : limit_passed table schema (list_any is_long rows) (length after) ≡ None → NoneOf (Passes u table base) change_limits
  number_none h =
      let low = few_parts table schema (list_any is_long rows) (length after) h in
      (few_columns low.columns, (few_levels low.levels, (few_names low.names, (short_paths low.paths, (few_rows low.rows, tt)))))
