-- The texts that are written for a drill's commits to a Hudi target aren't too large.
use Rattle.std.proofs.Common.{◌≡◌, ◌⊎◌, ⊎_elim, inl, inr, ℕ, zero, suc, ◌+◌, ◌*◌, ◌-◌, ◌≤◌, Bool, true, false, List, [], ◌∷◌, ◌++◌, length, map, take, drop, Contains, Option, Some, None, Result, Ok, Ordering, Less, Equal, Greater, is_eq, refl, sym, ap, subst, ◌∙◌, codes, arith, if◌then◌else◌}
use Rattle.std.specs.Bool.{Decides}
use Rattle.std.specs.Cmp.Lexicographic.{slice_cmp}
use Rattle.std.specs.Fmt.{decimal}
use Rattle.std.specs.List.Sorted.{IsStrictlySortedBy}
use Rattle.std.specs.Ordering.{eq_by_cmp, nat_cmp, ordering_then}
use Rattle.std.specs.Prelude.{unwrap_or}
use Rattle.std.specs.Str.{bytes_eq, chars}
use Rattle.std.proofs.lemmas.Bool.{false≢true}
use Rattle.std.proofs.lemmas.Cmp.{eq_by_cmp_equiv}
use Rattle.std.proofs.lemmas.List.{length-append, length-map}
use Rattle.std.proofs.lemmas.Map.Keys.{IsDistinct-from_sorted}
use Rattle.std.proofs.lemmas.Map.Made.{is_member-Decides, length-le_from_is_member}
use Rattle.serde_json.specs.Data.{Data, string, array, Members, no_members}
use Rattle.serde_json.specs.View.{items_of}
use Rattle.serde_json.specs.Written.{compact_text}
use Rattle.lake_basics.specs.declared.limits.TheConstants.{MAX_FILE_BYTES}
use Rattle.lake_basics.proofs.Texts.{digits_most}
use Rattle.lake_store.proofs.DiskLaws.{same_path}
use Rattle.table_history.specs.Row.{Row}
use Rattle.table_history.specs.TypeTree.{ColumnTrees, no_columns}
use Rattle.table_history.specs.TypeTree as tree
use Rattle.table_history.specs.declared.table.Commit.{Commit}
use Rattle.table_history.proofs.RowListLemmas.{Contains-head, Contains-tail}
use Rattle.conformance.specs.Drill.{drill_schema}
use Rattle.conformance.proofs.Bounds.{added_paths, path_there, paths_count}
use Rattle.conformance.proofs.Texts.{compact_most, most_bytes, most_of_members}
use Rattle.schema_avro.specs.AvroWriting.{avro_data, avro_schema_text, avro_text}
use Rattle.schema_map.specs.declared.fault.MapError.{MapError}
use Rattle.hudi_groups.specs.Group.{file_name_of, folder_of}
use Rattle.hudi_instant.specs.InstantText.{arrays_by, extra_data, id_data, instant_data, instant_text, onto_group, partition_of, put_text, replaced_cmp, replaced_partition, runs_by, stat_cmp, stat_data}
use Rattle.hudi_instant.specs.declared.instant.Instant.{Instant}
use Rattle.hudi_instant.specs.declared.instant.Stat.{Stat}
use Rattle.hudi_properties.specs.Written.{properties_text}
use Rattle.target_core.specs.Mark.{mark_data}
use Rattle.target_core.specs.Views.{Origin}
use Rattle.target_hudi.specs.TableName.{IsTableName, new_pairs}
use Rattle.target_hudi.specs.Writing.{IsNextInstant, IsStatedText, IsWritten, TimelineEnd, mark_of, replaced_of, stat_of, stated_behind}
use Rattle.target_hudi.proofs.OrderLemmas.{replaced_total}
use Rattle.target_hudi.proofs.StatReadLemmas.{AreOf, distinct_rows, rows_from}
use Rattle.iceberg_version.proofs.Shared.{in_map}
use Rattle.lake_play.specs.Formats.{place}
use Rattle.lake_play.proofs.DrillRows.{IsDrillRow, IsDueCommit, few_rows, path_short}
use Rattle.lake_play.proofs.TextBounds.{IsShortOrigin, mark_most, pairs_most, put_most, with_most}

-- ---- lists by their partitions

module _ {A : Type 0} (key : A → List ℕ) (shown : A → Data) where
  abbrev listed : List A → Data
  listed run = array (items_of (map shown run))

  abbrev most_of : A → ℕ
  most_of x = 10 + (6 * length (key x) + most_bytes (shown x))

  onto_most : (a : A) (gs : List (List ℕ × List A)) → pairs_most listed (onto_group (key a) a gs) ≤ pairs_most listed gs + most_of a
  onto_most a [] = omega arith
  onto_most a (g ∷ gs) = by (bytes_eq (key a) g.0)
    where
      by : (b : Bool) → pairs_most listed (if b then (key a, a ∷ g.1) ∷ gs else (key a, a ∷ []) ∷ g ∷ gs) ≤ pairs_most listed (g ∷ gs) + most_of a
      by true = omega arith
      by false = omega arith

  runs_most : (each : ℕ) (xs : List A) → ((x : A) → Contains xs x → most_of x ≤ each) → pairs_most listed (runs_by key xs) ≤ each * length xs
  runs_most each [] all = omega arith
  runs_most each (x ∷ xs) all =
      let one = onto_most x (runs_by key xs) in
      let first = all x (Contains-head x xs) in
      let rest = runs_most each xs (λ y there. all y (Contains-tail x xs y there)) in
      let times : each * length (x ∷ xs) ≡ each + each * length xs = omega arith in
      omega (arith, one, first, rest, times)

  arrays_most : (each : ℕ) (xs : List A) → ((x : A) → Contains xs x → most_of x ≤ each) → most_of_members (arrays_by key shown xs no_members) ≤ 1 + each * length xs
  arrays_most each xs all =
      let whole = with_most listed (runs_by key xs) no_members in
      let runs = runs_most each xs all in
      omega (arith, whole, runs)

-- ---- the text of an instant

text_most : (name : List ℕ) (o : Option (List ℕ)) (ms : Members) → ((text : List ℕ) → o ≡ Some text → length text ≤ 5000) → most_of_members (put_text name o ms) ≤ most_of_members ms + (6 * length name + 30006)
text_most name None ms short = omega arith
text_most name (Some text) ms short = let one = put_most name (string text) ms in let few = short text refl in omega (arith, one, few)

extra_most : (mark schema : Option (List ℕ)) → ((text : List ℕ) → mark ≡ Some text → length text ≤ 5000) → ((text : List ℕ) → schema ≡ Some text → length text ≤ 5000) → most_bytes (extra_data mark schema) ≤ 61000
extra_most mark schema short_mark short_schema =
    let first = text_most (codes "lakebridge.mark") mark no_members short_mark in
    let second = text_most (codes "schema") schema (put_text (codes "lakebridge.mark") mark no_members) short_schema in
    omega (arith, first, second)

-- An instant of few stats and ids, each with short texts, has a short text.
pub instant_most : (i : Instant) → length i.stats ≤ 10000 → length i.replaced ≤ 10000 → ((s : Stat) → Contains i.stats s → 10 + (6 * length s.partition_path + most_bytes (stat_data s)) ≤ 15000)
    → ((p : List ℕ × List ℕ) → Contains i.replaced p → 10 + (6 * length p.0 + most_bytes (string p.1)) ≤ 7000)
    → ((text : List ℕ) → i.mark ≡ Some text → length text ≤ 5000) → ((text : List ℕ) → i.schema ≡ Some text → length text ≤ 5000) → length (instant_text i) ≤ MAX_FILE_BYTES
instant_most i few_stats few_ids stats ids mark schema =
    let text = compact_most (instant_data i) in
    let extra = extra_most i.mark i.schema mark schema in
    let all_stats = arrays_most partition_of stat_data 15000 i.stats stats in
    let all_ids = arrays_most replaced_partition id_data 7000 i.replaced ids in
    omega (arith, text, extra, all_stats, all_ids, few_stats, few_ids)

-- ---- stats and ids

take_most : {X : Type 0} (n : ℕ) (xs : List X) → length (take n xs) ≤ length xs
take_most zero xs = omega arith
take_most (suc n) [] = omega arith
take_most (suc n) (x ∷ xs) = let rest = take_most n xs in omega (arith, rest)

drop_most : {X : Type 0} (n : ℕ) (xs : List X) → length (drop n xs) ≤ length xs
drop_most zero xs = omega arith
drop_most (suc n) [] = omega arith
drop_most (suc n) (x ∷ xs) = let rest = drop_most n xs in omega (arith, rest)

folder_most : (path : List ℕ) → length (folder_of path) ≤ length path
folder_most path = take_most _ path

name_most : (path : List ℕ) → length (file_name_of path) ≤ length path
name_most path = drop_most _ path

stat_most : (s : Stat) → length s.file_id ≤ 512 → length s.partition_path ≤ 512 → length s.path ≤ 600 → length (decimal s.size) ≤ 15 → length (decimal s.writes) ≤ 15 → 10 + (6 * length s.partition_path + most_bytes (stat_data s)) ≤ 15000
stat_most s id partition path size writes = let none = digits_most 0 (omega arith) in omega (arith, id, partition, path, size, writes, none)

id_most : (path : List ℕ) → length path ≤ 512 → 10 + (6 * length (folder_of path) + most_bytes (string (file_name_of path))) ≤ 7000
id_most path short = let folder = folder_most path in let name = name_most path in omega (arith, short, folder, name)

module _ (number : ℕ) where
  row_stat : (instant : List ℕ) (row : Row) → length instant ≡ 17 → IsDrillRow number row → 10 + (6 * length (stat_of instant row).partition_path + most_bytes (stat_data (stat_of instant row))) ≤ 15000
  row_stat instant row long (i, j, less, lt, is) =
      let short = path_short number row.path (subst (λ (r : Row). Contains (added_paths number 200) r.path) is (path_there number 200 i j less lt)) in
      let folder = folder_most row.path in
      let name = name_most row.path in
      let first = length-append row.path (codes "_" ++ (instant ++ codes "_hudiext")) in
      let second = length-append instant (codes "_hudiext") in
      let size = ap (λ (r : Row). r.size) is in
      let count = ap (λ (r : Row). r.count) is in
      stat_most (stat_of instant row) (omega (arith, short, name)) (omega (arith, short, folder)) (omega (arith, short, first, second, long)) (digits_most row.size (omega (arith, size))) (digits_most row.count (omega (arith, count)))

  -- ids that rise, of paths of the drill
  then_equal : (o p : Ordering) → is_eq (ordering_then o p) ≡ true → (is_eq o ≡ true) × (is_eq p ≡ true)
  then_equal Less p h = absurd (false≢true h)
  then_equal Equal p h = (refl, h)
  then_equal Greater p h = absurd (false≢true h)

  same_ids : (a b : List ℕ × List ℕ) → Decides (eq_by_cmp replaced_cmp a b) (a ≡ b)
  same_ids a b = (
    λ is. let both = then_equal (slice_cmp nat_cmp a.0 b.0) (slice_cmp nat_cmp a.1 b.1) is in let first = same_path a.0 b.0 both.0 in let second = same_path a.1 b.1 both.1 in (λ i. (first i, second i)),
    λ same. subst (λ (c : List ℕ × List ℕ). eq_by_cmp replaced_cmp a c ≡ true) same ((eq_by_cmp_equiv replaced_total).refl a),
  )

  few_ids : (ids : List (List ℕ × List ℕ)) → IsStrictlySortedBy replaced_cmp ids → ((p : List ℕ × List ℕ) → Contains ids p → Contains (map replaced_of (added_paths number 200)) p) → length ids ≤ 10000
  few_ids ids sorted are =
      let count = length-le_from_is_member {eq = eq_by_cmp replaced_cmp} (eq_by_cmp_equiv replaced_total) ids (map replaced_of (added_paths number 200)) (IsDistinct-from_sorted replaced_cmp ids sorted)
      (λ q is. (is_member-Decides {eq = eq_by_cmp replaced_cmp} same_ids (map replaced_of (added_paths number 200)) q).1 (are q ((is_member-Decides {eq = eq_by_cmp replaced_cmp} same_ids ids q).0 is))) in
      let all = paths_count number 200 in
      let each = length-map (added_paths number 200) replaced_of in
      omega (arith, count, all, each)

-- ---- the schema

-- the schema of a drill, which its types in Hudi are too, or none
abbrev pub IsDrillSchema : ColumnTrees → Type 0
IsDrillSchema schema = (schema ≡ drill_schema) ⊎ (schema ≡ no_columns)

ok_text : (a b : List ℕ) → ◌≡◌ {A = Result (List ℕ) MapError} (Ok a) (Ok b) → a ≡ b
ok_text a b is = cc

schema_most : (schema : ColumnTrees) → IsDrillSchema schema → (text : List ℕ) → avro_schema_text schema ≡ Ok text → length text ≤ 5000
schema_most schema (inl is) text written =
    let same = ok_text (avro_text drill_schema) text (ap avro_schema_text (sym is) ∙ written) in
    let long = ap (λ (t : List ℕ). length t) same in
    let most = compact_most (avro_data (tree.struct_of drill_schema) 0).0 in
    let none = digits_most 0 (omega arith) in
    omega (arith, long, most, none)
schema_most schema (inr is) text written =
    let same = ok_text (avro_text no_columns) text (ap avro_schema_text (sym is) ∙ written) in
    let long = ap (λ (t : List ℕ). length t) same in
    let most = compact_most (avro_data (tree.struct_of no_columns) 0).0 in
    let none = digits_most 0 (omega arith) in
    omega (arith, long, most, none)

-- ---- what is written

-- The instant that is written for a commit of the drill has a short text.
pub written_short : (number : ℕ) (end : TimelineEnd) (origin : Origin) (now : ℕ) (instant : List ℕ) (commit : Commit) (written : Instant) → IsDrillSchema end.schema → IsShortOrigin origin → IsDueCommit number commit → IsNextInstant end now instant
    → IsWritten end origin instant commit written → length (instant_text written) ≤ MAX_FILE_BYTES
written_short number end origin now instant commit written schema_is origin_is due next is =
    instant_most written few_stats few_replaced stat_short id_short mark_short schema_short
  where
    long : length instant ≡ 17
    long = next.2.digits.len

    of_stats : AreOf instant commit.change.added written.stats
    of_stats = rows_from instant commit.change.added written.stats (λ s there. (is.stats s).0 there)

    few_stats : length written.stats ≤ 10000
    few_stats =
        let distinct = distinct_rows instant commit.change.added due.distinct of_stats.rows of_stats.there (subst (IsStrictlySortedBy stat_cmp) of_stats.are is.stats_order) in
        let few = few_rows number of_stats.rows distinct (λ row there. due.added row (of_stats.there row there)) in
        let same = ap (λ (l : List Stat). length l) of_stats.are in
        let each = length-map of_stats.rows (stat_of instant) in
        omega (arith, few, same, each)

    stat_short : (s : Stat) → Contains written.stats s → 10 + (6 * length s.partition_path + most_bytes (stat_data s)) ≤ 15000
    stat_short s there =
        let of = (is.stats s).0 there in
        subst (λ (t : Stat). 10 + (6 * length t.partition_path + most_bytes (stat_data t)) ≤ 15000) (sym of.2) (row_stat number instant of.0 long (due.added of.0 of.1))

    few_replaced : length written.replaced ≤ 10000
    few_replaced = few_ids number written.replaced is.replaced_order (λ p there.
        let of = (is.replaced p).0 there in
        subst (Contains (map replaced_of (added_paths number 200))) (sym of.2) (in_map replaced_of (added_paths number 200) of.0 (due.removed of.0 of.1.0)))

    id_short : (p : List ℕ × List ℕ) → Contains written.replaced p → 10 + (6 * length p.0 + most_bytes (string p.1)) ≤ 7000
    id_short p there =
        let of = (is.replaced p).0 there in
        subst (λ (q : List ℕ × List ℕ). 10 + (6 * length q.0 + most_bytes (string q.1)) ≤ 7000) (sym of.2) (id_most of.0 (path_short number of.0 (due.removed of.0 of.1.0)))

    some_text : (a b : List ℕ) → Some a ≡ Some b → a ≡ b
    some_text a b e = cc

    mark_short : (text : List ℕ) → written.mark ≡ Some text → length text ≤ 5000
    mark_short text states =
        let json = mark_data (mark_of instant origin commit.position) in
        let same = ap (λ (t : List ℕ). length t) (some_text (compact_text json) text (sym is.mark ∙ states)) in
        let text_of = compact_most json in
        let few = mark_most origin instant commit.position (omega (arith, long)) due.position origin_is in
        omega (arith, same, text_of, few)

    behind : (o : Option ColumnTrees) → commit.change.schema ≡ o → IsDrillSchema (unwrap_or o end.schema)
    behind None none = schema_is
    behind (Some stated) states = inl (due.stated stated states)

    stated_text : (o : Option (List ℕ)) → written.schema ≡ o → (text : List ℕ) → o ≡ Some text → length text ≤ 5000
    stated_text None none text states = absurd cc
    stated_text (Some other) is_other text states =
        schema_most (stated_behind end commit.change) (behind commit.change.schema refl) text
        (subst (λ (o : Option (List ℕ)). IsStatedText (stated_behind end commit.change) o) (is_other ∙ states) is.stated)

    schema_short : (text : List ℕ) → written.schema ≡ Some text → length text ≤ 5000
    schema_short text states = stated_text written.schema refl text states

-- ---- the properties

head_is : (a b : ℕ) (xs ys : List ℕ) → a ∷ xs ≡ b ∷ ys → (a ≡ b) × (xs ≡ ys)
head_is a b xs ys is = (cc, cc)

some_head : (a : ℕ) (xs : List ℕ) → [] ≡ a ∷ xs → ⊥
some_head a xs is = cc

place_name : (name front : List ℕ) → codes "/t" ≡ front ++ 47 ∷ name → name ≡ codes "t"
place_name name [] is = sym (head_is 47 47 (codes "t") name is).1
place_name name (a ∷ []) is = let other = (head_is 116 47 [] name (head_is 47 a (codes "t") (47 ∷ name) is).1).0 in absurd (omega (arith, other))
place_name name (a ∷ b ∷ front) is = absurd (by front (head_is 116 b [] (front ++ 47 ∷ name) (head_is 47 a (codes "t") (b ∷ (front ++ 47 ∷ name)) is).1).1)
  where
    by : (front : List ℕ) → [] ≡ front ++ 47 ∷ name → ⊥
    by [] none = some_head 47 name none
    by (c ∷ more) none = some_head c (more ++ 47 ∷ name) none

name_is : (name : List ℕ) → IsTableName place name → name ≡ codes "t"
name_is name is =
    ⊎_elim
    (λ (same : place ≡ name). absurd (is.plain (subst (λ (l : List ℕ). Contains l 47) same (Contains-head 47 (116 ∷ [])))))
    (λ (split : (front : List ℕ) × (place ≡ front ++ 47 ∷ name)). place_name name split.0 split.1)
    is.split

properties_count : length (properties_text (new_pairs (codes "t") (codes "d" ∷ []))) ≡ 339
unfolding chars
properties_count = refl

short_properties : length (properties_text (new_pairs (codes "t") (codes "d" ∷ []))) ≤ MAX_FILE_BYTES
short_properties = let count = properties_count in omega (arith, count)

-- The properties of the drill's table have a short text.
pub properties_short : (name : List ℕ) (partition : List (List ℕ)) → IsTableName place name → partition ≡ codes "d" ∷ [] → length (properties_text (new_pairs name partition)) ≤ MAX_FILE_BYTES
properties_short name partition is columns =
    subst (λ (n : List ℕ). length (properties_text (new_pairs n partition)) ≤ MAX_FILE_BYTES) (sym (name_is name is))
    (subst (λ (p : List (List ℕ)). length (properties_text (new_pairs (codes "t") p)) ≤ MAX_FILE_BYTES) (sym columns) short_properties)
