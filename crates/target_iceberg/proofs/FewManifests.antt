-- How many manifests a commit writes.
use Rattle.std.proofs.Common.{◌≡◌, ℕ, suc, ◌+◌, ◌-◌, ◌*◌, ◌≤◌, ◌||◌, List, [], ◌∷◌, ◌++◌, map, length, drop, Bool, true, false, cond, Contains, refl, sym, ap, subst, ◌∙◌, arith}
use Rattle.std.specs.List.{filter, list_any}
use Rattle.std.specs.Str.{bytes_eq}
use Rattle.std.proofs.lemmas.Bool.{false≢true}
use Rattle.std.proofs.lemmas.List.{length-append, length-drop}
use Rattle.std.proofs.lemmas.List.Elements.{filter-append}
use Rattle.std.proofs.lemmas.Nat.{le-div}
use Rattle.lake_basics.specs.declared.limits.TheConstants.{MAX_MANIFEST_ENTRIES}
use Rattle.lake_basics.proofs.Texts.{fewer}
use Rattle.table_history.specs.Row.{Row}
use Rattle.table_history.specs.Rows.{HasDistinctPaths, SameRows, paths_of}
use Rattle.table_history.specs.declared.table.Change.{Change}
use Rattle.table_history.proofs.RowListLemmas.{Contains-filter, Contains-paths, distinct_filter}
use Rattle.table_history.proofs.TableLemmas.{distinct_order}
use Rattle.file_links.specs.declared.slots.Held.{Held}
use Rattle.iceberg_manifest.specs.Entry.{EntryData}
use Rattle.iceberg_manifest.specs.declared.partition.PartColumn.{PartColumn}
use Rattle.iceberg_metadata.specs.declared.metadata.SpecField.{SpecField}
use Rattle.iceberg_version.specs.Manifests.{AreNextManifests, AreParts, LiveManifest, NextManifest, added_manifest, carried, has_rows, is_lost, new, new_entries, stays}
use Rattle.iceberg_version.specs.Schemas.{Schemas}
use Rattle.iceberg_version.specs.Writing.{AreWritten, IsManifestText, TableEnd, front_in, next_version}
use Rattle.iceberg_version.proofs.Shared.{each_length}
use Rattle.target_core.proofs.RowPaths.{rows_length}
use Rattle.target_core.proofs.Lists.{some_length}
use Rattle.target_iceberg.specs.Writes.{manifests_for, most_manifests}
use Rattle.target_iceberg.proofs.WrittenRows.{of_paths, removed_any}
use Rattle.target_iceberg.proofs.WrittenStart.{live_rows, rows_held}

-- ---- new manifests

abbrev count_of : NextManifest → ℕ
count_of (stays m) = 0
count_of (new entries rows) = 1

new_more : (m : NextManifest) (next : List NextManifest) → length (new_entries (m ∷ next)) ≡ count_of m + length (new_entries next)
new_more (stays m) next = omega arith
new_more (new entries rows) next = omega arith

new_joined : (xs ys : List NextManifest) → length (new_entries (xs ++ ys)) ≡ length (new_entries xs) + length (new_entries ys)
new_joined [] ys = omega arith
new_joined (x ∷ xs) ys =
    let rest = new_joined xs ys in
    let all : length (new_entries ((x ∷ xs) ++ ys)) ≡ count_of x + length (new_entries (xs ++ ys)) = new_more x (xs ++ ys) in
    let first = new_more x xs in
    omega (arith, rest, all, first)

added_count : (front : List ℕ) (version : ℕ) (parts : List (List Row)) → length (new_entries (map (added_manifest front version) parts)) ≡ length parts
added_count front version [] = refl
added_count front version (part ∷ parts) = ap suc (added_count front version parts)

-- ---- parts of a list

-- Each part but the last one is full.
parts_count : {A : Type 0} (xs : List A) (parts : List (List A)) → AreParts MAX_MANIFEST_ENTRIES xs parts → length parts * MAX_MANIFEST_ENTRIES ≤ length xs + (MAX_MANIFEST_ENTRIES - 1)
parts_count xs [] cut = omega arith
parts_count xs (part ∷ parts) cut =
    let some = some_length xs cut.0 in
    let rest = parts_count (drop MAX_MANIFEST_ENTRIES xs) parts cut.2 in
    let left = length-drop MAX_MANIFEST_ENTRIES xs in
    omega (arith, some, rest, left)

-- ---- manifests that lose a row

module _ (front : List ℕ) (version : ℕ) (removed : List (List ℕ)) where
  abbrev is_gone : Row → Bool
  is_gone row = list_any (bytes_eq row.path) removed

  some_gone : (rows : List Held) (any : Bool) → list_any (is_lost removed) rows ≡ any → cond any 1 0 ≤ length (filter is_gone (rows_held rows))
  some_gone rows false is = omega arith
  some_gone [] true is = absurd (false≢true is)
  some_gone (h ∷ rows) true is = by (is_gone h.row) refl (λ later. some_gone rows true later)
    where
      by : (gone : Bool) → is_gone h.row ≡ gone → (list_any (is_lost removed) rows ≡ true → 1 ≤ length (filter is_gone (rows_held rows))) → 1 ≤ length (cond gone (h.row ∷ filter is_gone (rows_held rows)) (filter is_gone (rows_held rows)))
      by true at rest = omega arith
      by false at rest = rest (ap (λ (b : Bool). b || list_any (is_lost removed) rows) (sym at) ∙ is)

  count_carried : (any : Bool) (entries : List EntryData) (rows : List Held) (m : LiveManifest) → count_of (cond any (new entries rows) (stays m)) ≡ cond any 1 0
  count_carried true entries rows m = refl
  count_carried false entries rows m = refl

  carried_more : (m : LiveManifest) (ms : List LiveManifest) (filled : Bool)
      → length (new_entries (map (carried front version removed) (cond filled (m ∷ ms) ms))) ≤ cond (list_any (is_lost removed) m.rows) 1 0 + length (new_entries (map (carried front version removed) ms))
  carried_more m ms true =
      let more = new_more (carried front version removed m) (map (carried front version removed) ms) in
      let one : count_of (carried front version removed m) ≡ cond (list_any (is_lost removed) m.rows) 1 0 = count_carried (list_any (is_lost removed) m.rows) _ _ m in
      omega (arith, more, one)
  carried_more m ms false = omega arith

  few_carried : (ms : List LiveManifest) → length (new_entries (map (carried front version removed) (filter has_rows ms))) ≤ length (filter is_gone (live_rows ms))
  few_carried [] = omega arith
  few_carried (m ∷ ms) =
      let joined : length (filter is_gone (live_rows (m ∷ ms))) ≡ length (filter is_gone (rows_held m.rows)) + length (filter is_gone (live_rows ms)) =
      ap length (filter-append is_gone (rows_held m.rows) (live_rows ms)) ∙ length-append (filter is_gone (rows_held m.rows)) (filter is_gone (live_rows ms)) in
      let here = some_gone m.rows (list_any (is_lost removed) m.rows) refl in
      let rest = few_carried ms in
      let more : length (new_entries (map (carried front version removed) (filter has_rows (m ∷ ms)))) ≤ cond (list_any (is_lost removed) m.rows) 1 0 + length (new_entries (map (carried front version removed) (filter has_rows ms))) =
      carried_more m (filter has_rows ms) (has_rows m) in
      omega (arith, joined, here, rest, more)

  few_gone : (rows : List Row) → HasDistinctPaths rows → length (filter is_gone rows) ≤ length removed
  few_gone rows distinct =
      let among = fewer (paths_of (filter is_gone rows)) removed (distinct_filter is_gone rows distinct) (λ path there.
      let row = of_paths (filter is_gone rows) path there in
      subst (Contains removed) row.2 (removed_any removed row.0.path (Contains-filter is_gone rows row.0 row.1).1)) in
      let count = rows_length (filter is_gone rows) in
      omega (arith, among, count)

-- ---- all of them

few_added : (added sorted : List Row) → SameRows added sorted → HasDistinctPaths sorted → length sorted ≤ length added
few_added added sorted same distinct =
    let among = fewer (paths_of sorted) (paths_of added) distinct (λ path there.
    let row = of_paths sorted path there in
    subst (Contains (paths_of added)) row.2 (Contains-paths added row.0 ((same row.0).1 row.1))) in
    let sorted_count = rows_length sorted in
    let count = rows_length added in
    omega (arith, among, sorted_count, count)

few_next : (front : List ℕ) (version : ℕ) (manifests : List LiveManifest) (change : Change) (next : List NextManifest) → AreNextManifests front version manifests change next → HasDistinctPaths (live_rows manifests) → length (new_entries next) ≤ most_manifests change
few_next front version manifests change next are distinct =
    let old : List NextManifest = map (carried front version change.removed) (filter has_rows manifests) in
    let joined : length (new_entries next) ≡ length (new_entries old) + length (new_entries (map (added_manifest front version) are.parts)) = ap (λ (n : List NextManifest). length (new_entries n)) are.is ∙ new_joined old (map (added_manifest front version) are.parts) in
    let added = added_count front version are.parts in
    let carried_few : length (new_entries old) ≤ length (filter (λ (row : Row). list_any (bytes_eq row.path) change.removed) (live_rows manifests)) = few_carried front version change.removed manifests in
    let gone = few_gone front version change.removed (live_rows manifests) distinct in
    let rows = few_added change.added are.added are.rows (distinct_order (paths_of are.added) are.order) in
    let cut = parts_count are.added are.parts are.cut in
    let parts : length are.parts ≤ manifests_for (length change.added) = le-div (length are.parts) (length change.added + (MAX_MANIFEST_ENTRIES - 1)) MAX_MANIFEST_ENTRIES (omega arith) (omega (arith, cut, rows)) in
    omega (arith, joined, added, carried_few, gone, parts)

-- A commit writes at most one manifest for each removed path, and as few as hold the added rows.
pub few_written : (end : TableEnd) (change : Change) (schemas : Schemas) (fields : List SpecField) (columns : List PartColumn) (texts : List (List ℕ)) (manifests : List LiveManifest) → AreWritten end change schemas fields columns texts manifests
    → HasDistinctPaths (live_rows end.manifests) → length texts ≤ most_manifests change
few_written end change schemas fields columns texts manifests are distinct =
    let count = each_length (IsManifestText schemas.current end.partition fields columns) (new_entries are.next) texts are.texts_are in
    let few = few_next (front_in end) (next_version end) end.manifests change are.next are.next_are distinct in
    omega (arith, count, few)
