-- The tables of the drill, and how large its commits and tables are at most.
use Rattle.std.proofs.Common.{◌≡◌, inr, ⊎_elim, ℕ, zero, suc, ◌+◌, ◌-◌, ◌*◌, ◌≤◌, ◌<◌, pos, codes, Bool, true, false, List, [], ◌∷◌, ◌++◌, length, map, Contains, Option, Some, None, refl, sym, ap, subst, ◌∙◌, arith}
use Rattle.std.specs.Prelude.{◌==◌, decimal, option_to_list, if◌then◌else◌}
use Rattle.std.specs.List.{AllByRecursion}
use Rattle.std.specs.Str.{IsAscii, IsUtf8}
use Rattle.std.proofs.lemmas.Bool.{cases_lt}
use Rattle.std.proofs.lemmas.List.{length-append, length-map, map-append}
use Rattle.std.proofs.lemmas.List.Elements.{All-cons, All-nil, Contains-append_cases, Contains-append_left, Contains-append_right}
use Rattle.std.proofs.lemmas.Str.{IsUtf8-from_ascii}
use Rattle.std.proofs.lemmas.Str.Ascii.{IsAscii-from_all}
use Rattle.percent_encoding.specs.Percent.{percent_decode, percent_encode_byte}
use Rattle.percent_encoding.proofs.PercentLemmas.{IsByte}
use Rattle.serde_json.specs.Data.{Data, object, no_members}
use Rattle.serde_json.specs.Written.{compact_text}
use Rattle.json_reading.specs.Json.{members_with, text_or_null_data}
use Rattle.lake_basics.specs.declared.limits.TheConstants.{MAX_FILE_BYTES}
use Rattle.lake_basics.proofs.Texts.{digits_most}
use Rattle.table_history.proofs.RowListLemmas.{Contains-filter, Contains-head, Contains-none, Contains-one, Contains-tail}
use Rattle.table_history.specs.History.{History}
use Rattle.table_history.specs.Row.{Row}
use Rattle.table_history.specs.TypeTree as tree
use Rattle.table_history.specs.declared.table.Table.{Table}
use Rattle.table_history.specs.declared.row.PartValue.TheVariants as value
use Rattle.partition_map.proofs.UriLemmas.{percent_decode-escaped_path}
use Rattle.partition_map.specs.Folder.{CarriesValues, PartCarries}
use Rattle.partition_map.specs.Stands.{IsTextOf, StandsInFolder, hive_null}
use Rattle.partition_map.specs.declared.kind.PartKind.TheVariants as kind
use Rattle.partition_map.specs.Uri.{escaped_byte, escaped_path, is_plain}
use Rattle.schema_delta.specs.DeltaWriting.{delta_data}
use Rattle.delta_log.specs.declared.commit.FileAction.{FileAction}
use Rattle.delta_text.specs.Writing.{add_data, commit_data, file_data, line_text, meta_data_data, protocol_data, remove_data, stats_data}
use Rattle.conformance.specs.Drill.{AreSaid, added_file, count_at, drill_bytes, drill_commit, drill_files, drill_meta, drill_protocol, drill_schema, drill_time, file_count, folder_at, numbers_under, path_at, removed_file, removed_files, values_at}
use Rattle.conformance.specs.Histories.{IsExtension, IsHistoryFrom}
use Rattle.conformance.proofs.Commits.{removed_by}
use Rattle.conformance.proofs.Legal.{history_more, last_more, last_table}
use Rattle.conformance.proofs.Numbers.{from_map, in_map, length_map}
use Rattle.conformance.proofs.Paths.{folder_is, path_is}
use Rattle.conformance.proofs.Tables.{base_of, digit_is, fits, kept_rows, new_rows, row_at, rows_after, stays, step_of, table_after}
use Rattle.conformance.proofs.Texts.{compact_most, joined_most, most_bytes}
use Rattle.delta_table.specs.Log.{IsStep}

-- ---- the history

abbrev pub entry_after : ℕ → ℕ → List ℕ × Table
entry_after number i = (decimal i, table_after number (suc i))

-- the tables after so many commits
abbrev pub drill_history : ℕ → ℕ → History
drill_history number n = map (entry_after number) (numbers_under n)

pub are_history : (number : ℕ) → AreSaid number → (n : ℕ) → n ≤ 200 → IsHistoryFrom 0 None (map (drill_bytes number) (numbers_under n)) (drill_history number n) × (last_table None (drill_history number n) ≡ base_of number n)
are_history number said zero le = (tt, refl)
are_history number said (suc n) le =
    let few : n < 200 = omega (arith, le) in
    let before = are_history number said n (omega (arith, le)) in
    let made : IsExtension (drill_bytes number n) (last_table None (drill_history number n)) (table_after number (suc n)) = record {
      actions = (said.says n few).actions;
      grammar = (said.says n few).readable.grammar;
      supported = (said.says n few).readable.supported;
      commit = drill_commit number n;
      states = (said.says n few).states;
      step = subst (λ (b : Option Table). IsStep (drill_commit number n) b (table_after number (suc n))) (sym before.1) (step_of number n few said.spells);
    } in
    let commits = map (drill_bytes number) (numbers_under n) in
    let whole : drill_history number (suc n) ≡ drill_history number n ++ entry_after number n ∷ [] = map-append (entry_after number) (numbers_under n) (n ∷ []) in
    let count : 0 + length commits ≡ n = let e = length_map (drill_bytes number) n in omega (arith, e) in
    let more = history_more 0 None commits (drill_history number n) (drill_bytes number n) (table_after number (suc n)) before.0 made in (
      subst (λ (l : List (List ℕ)). IsHistoryFrom 0 None l (drill_history number (suc n))) (sym (map-append (drill_bytes number) (numbers_under n) (n ∷ [])))
          (subst (λ (h : History). IsHistoryFrom 0 None (commits ++ drill_bytes number n ∷ []) h) (sym whole)
          (subst (λ (k : ℕ). IsHistoryFrom 0 None (commits ++ drill_bytes number n ∷ []) (drill_history number n ++ (decimal k, table_after number (suc n)) ∷ [])) count more)),
      ap (last_table None) whole ∙ last_more None (drill_history number n) (entry_after number n),
    )

-- ---- rows

-- a row after so many commits is that of a file that one of them adds
pub row_from : (number n : ℕ) (row : Row) → Contains (rows_after number n) row → (i j : ℕ) × (i < n) × (j < 50) × (row_at number i j ≡ row)
row_from number zero row there = absurd (Contains-none row there)
row_from number (suc n) row there =
    ⊎_elim
    (λ (old : Contains (kept_rows number n (rows_after number n)) row).
    let found = row_from number n row (Contains-filter (stays number n) (rows_after number n) row old).0 in
    let less = found.2 in
    (found.0, found.1, omega (arith, less), found.3, found.4))
    (λ (new : Contains (new_rows number n) row). let found = from_map (row_at number n) 50 row new in (n, found.0, omega arith, found.1, found.2))
    (Contains-append_cases (kept_rows number n (rows_after number n)) (new_rows number n) row there)

-- the paths of all files that so many commits add
abbrev pub added_paths : ℕ → ℕ → List (List ℕ)
added_paths number zero = []
added_paths number (suc n) = added_paths number n ++ map (path_at number n) (numbers_under 50)

pub paths_count : (number n : ℕ) → length (added_paths number n) ≡ 50 * n
paths_count number zero = refl
paths_count number (suc n) =
    let both = length-append (added_paths number n) (map (path_at number n) (numbers_under 50)) in
    let before = paths_count number n in
    let more = length_map (path_at number n) 50 in
    omega (arith, both, before, more)

pub path_there : (number n i j : ℕ) → i < n → j < 50 → Contains (added_paths number n) (path_at number i j)
path_there number zero i j less lt = absurd (omega (arith, less))
path_there number (suc n) i j less lt =
    ⊎_elim
    (λ (earlier : i < n). Contains-append_left (added_paths number n) (map (path_at number n) (numbers_under 50)) (path_at number i j) (path_there number n i j earlier lt))
    (λ (past : n ≤ i).
    let last : n ≡ i = omega (arith, less, past) in
    subst (λ (k : ℕ). Contains (added_paths number n ++ map (path_at number n) (numbers_under 50)) (path_at number k j)) last (Contains-append_right (added_paths number n) (map (path_at number n) (numbers_under 50)) (path_at number n j) (in_map (path_at number n) 50 j lt)))
    (cases_lt i n)

-- ---- folders

-- a digit that a folder has
digit_plain : (g : ℕ) → g < 7 → is_plain (48 + g) ≡ true
digit_plain zero lt = refl
digit_plain (suc zero) lt = refl
digit_plain (suc (suc zero)) lt = refl
digit_plain (suc (suc (suc zero))) lt = refl
digit_plain (suc (suc (suc (suc zero)))) lt = refl
digit_plain (suc (suc (suc (suc (suc zero))))) lt = refl
digit_plain (suc (suc (suc (suc (suc (suc zero)))))) lt = refl
digit_plain (suc (suc (suc (suc (suc (suc (suc g))))))) lt = absurd (omega (arith, lt))

-- a plain byte unescapes to itself
plain_decoded : (b : ℕ) → b < 256 → is_plain b ≡ true → percent_decode (b ∷ []) ≡ b ∷ []
plain_decoded b byte plain =
    let same : escaped_path (b ∷ []) ≡ b ∷ [] = ap (λ (p : Bool). (if p then b ∷ [] else percent_encode_byte b) ++ []) plain in
    sym (ap percent_decode same) ∙ percent_decode-escaped_path (b ∷ []) (All-cons IsByte b [] byte (All-nil IsByte))

module _ (number i j : ℕ) (small_i : i < 200) (small_j : j < 50) where
  abbrev g : ℕ
  g = folder_at number i j

  lt_g : g < 7
  lt_g = omega arith

  part_decoded : percent_decode ((48 + g) ∷ []) ≡ (48 + g) ∷ []
  part_decoded = let small = lt_g in plain_decoded (48 + g) (omega (arith, small)) (digit_plain g lt_g)

  is_text : IsTextOf kind.Int ((48 + g) ∷ []) (value.Int (pos g))
  is_text = let small = lt_g in let less : g < 10 = omega (arith, small) in (pos g, digit_is g less, fits g less, refl)

  no_null : (48 + g) ∷ [] ≡ hive_null → ⊥
  no_null is = let count = ap (λ (l : List ℕ). length l) is in omega (arith, count)

  stands_there : StandsInFolder ((48 + g) ∷ []) (value.Int (pos g))
  stands_there = (kind.Int, inr (no_null, (λ is. let count = ap (λ (l : List ℕ). length l) is in omega (arith, count)), is_text))

  ascii : IsAscii ((48 + g) ∷ [])
  ascii = let small = lt_g in IsAscii-from_all ((48 + g) ∷ []) (All-cons (λ b. b < 128) (48 + g) [] (omega (arith, small)) (All-nil (λ b. b < 128)))

  carried : PartCarries ((48 + g) ∷ []) (value.Int (pos g))
  carried = record {
    utf8 = subst IsUtf8 (sym part_decoded) (IsUtf8-from_ascii ((48 + g) ∷ []) ascii);
    stands = subst (λ (t : List ℕ). StandsInFolder t (value.Int (pos g))) (sym part_decoded) stands_there;
  }

  -- The folder of a row's file spells its value.
  pub carries : CarriesValues (path_at number i j) (codes "d" ∷ []) (value.Int (pos g) ∷ [])
  carries = record {
    front = [];
    components = (codes "d=" ++ ((48 + g) ∷ [])) ∷ [];
    last = folder_is number i j (omega (arith, small_i)) (omega (arith, small_j));
    count = refl;
    spelled = (
      record {
        part = (48 + g) ∷ [];
        named = record {
          name = codes "d";
          split = refl;
          first = λ there. let same = Contains-one 100 61 there in omega (arith, same);
          unescapes = plain_decoded 100 (omega arith) refl;
        };
        carries = carried;
      },
      tt,
    );
  }

-- ---- texts

three : (b : ℕ) → length (percent_encode_byte b) ≡ 3
unfolding percent_encode_byte
three b = refl

escaped_most : (path : List ℕ) → length (escaped_path path) ≤ 3 * length path
escaped_most [] = omega arith
escaped_most (b ∷ path) =
    let both = length-append (escaped_byte b) (escaped_path path) in
    let one = by (is_plain b) in
    let rest = escaped_most path in
    omega (arith, both, one, rest)
  where
    by : (plain : Bool) → length (if plain then b ∷ [] else percent_encode_byte b) ≤ 3
    by true = omega arith
    by false = let e = three b in omega (arith, e)

line_most : (d : Data) (most : ℕ) → most_bytes d ≤ most → length (line_text d) ≤ most + 1
line_most d most le = let both = length-append (compact_text d) (10 ∷ []) in let text = compact_most d in omega (arith, both, text, le)

stats_most : (count : ℕ) → length (decimal count) ≤ 15 → length (compact_text (stats_data count)) ≤ 300
stats_most count le = let text = compact_most (stats_data count) in omega (arith, text, le)

values_most : (t : List ℕ) → length t ≤ 15 → most_bytes (object (members_with text_or_null_data ((codes "d", Some t) ∷ []) no_members)) ≤ 300
values_most t le = omega (arith, le)

add_most : (now size : ℕ) (uri stats : List ℕ) (values : Data) → length (decimal now) ≤ 15 → length (decimal size) ≤ 15 → length uri ≤ 1536 → length stats ≤ 300 → most_bytes values ≤ 300 → most_bytes (add_data now uri values size stats) ≤ 19999
add_most now size uri stats values a b c d e = omega (arith, a, b, c, d, e)

remove_most : (now : ℕ) (uri : List ℕ) → length (decimal now) ≤ 15 → length uri ≤ 1536 → most_bytes (remove_data now uri) ≤ 19999
remove_most now uri a b = omega (arith, a, b)

meta_most : (schema : List ℕ) → length schema ≤ 3000 → most_bytes (meta_data_data (record { id = codes "drill"; schema = schema; partition = codes "d" ∷ []; configuration = [] })) ≤ 19999
meta_most schema le = omega (arith, le)

schema_most : length (compact_text (delta_data (tree.struct_of drill_schema))) ≤ 3000
schema_most = let text = compact_most (delta_data (tree.struct_of drill_schema)) in omega (arith, text)

module _ (number : ℕ) where
  uri_most : (i j : ℕ) → i < 200 → j < 50 → length (escaped_path (path_at number i j)) ≤ 1536
  uri_most i j less lt =
      let path = (path_is number i j (omega (arith, less)) (omega (arith, lt))).short in
      let uri = escaped_most (path_at number i j) in
      omega (arith, path, uri)

  added_most : (i j : ℕ) → i < 200 → j < 50 → length (line_text (file_data drill_time (added_file number i j))) ≤ 20000
  added_most i j less lt =
      line_most (file_data drill_time (added_file number i j)) 19999
      (add_most drill_time (1000 + count_at number j) (escaped_path (path_at number i j)) (compact_text (stats_data (count_at number j))) (object (members_with text_or_null_data (values_at number i j) no_members))
      (digits_most drill_time (omega arith)) (digits_most (1000 + count_at number j) (omega arith)) (uri_most i j less lt) (stats_most (count_at number j) (digits_most (count_at number j) (omega arith)))
      (values_most (decimal (folder_at number i j)) (digits_most (folder_at number i j) (omega arith))))

  removed_most : (i j : ℕ) → i < 200 → j < 50 → length (line_text (file_data drill_time (removed_file number i j))) ≤ 20000
  removed_most i j less lt =
      line_most (file_data drill_time (removed_file number i j)) 19999 (remove_most drill_time (escaped_path (path_at number i j)) (digits_most drill_time (omega arith)) (uri_most i j less lt))

  abbrev IsShortLine : FileAction → Type 0
  IsShortLine f = length (line_text (file_data drill_time f)) ≤ 20000

  each_short : (fs : List FileAction) → ((f : FileAction) → Contains fs f → IsShortLine f) → AllByRecursion (λ d. length (line_text d) ≤ 20000) (map (file_data drill_time) fs)
  each_short [] all = tt
  each_short (f ∷ fs) all = (all f (Contains-head f fs), each_short fs (λ g there. all g (Contains-tail f fs g there)))

  files_short : (i : ℕ) → i < 200 → (f : FileAction) → Contains (drill_files number i) f → IsShortLine f
  files_short i less f there =
      ⊎_elim
      (λ (added : Contains (map (added_file number i) (numbers_under file_count)) f). let found = from_map (added_file number i) 50 f added in subst IsShortLine found.2 (added_most i found.0 less found.1))
      (λ (gone : Contains (removed_files number i) f).
      removed_by number i (λ fs. Contains fs f → IsShortLine f)
      (λ late there. let found = from_map (removed_file number (i - 10)) 50 f there in subst IsShortLine found.2 (removed_most (i - 10) found.0 (omega (arith, less)) found.1))
      (λ there. absurd (Contains-none f there)) gone)
      (Contains-append_cases (map (added_file number i) (numbers_under file_count)) (removed_files number i) f there)

  pub few_files : (i : ℕ) → length (drill_files number i) ≤ 100
  few_files i =
      let both = length-append (map (added_file number i) (numbers_under file_count)) (removed_files number i) in
      let added = length_map (added_file number i) 50 in
      let removed : length (removed_files number i) ≤ 50 = removed_by number i (λ fs. length fs ≤ 50) (λ late. let all = length_map (removed_file number (i - 10)) 50 in omega (arith, all)) (omega arith) in
      omega (arith, both, added, removed)

  -- ---- the whole commit

  protocol_short : length (line_text (protocol_data drill_protocol)) ≤ 20000
  protocol_short =
      let one = digits_most 1 (omega arith) in
      let two = digits_most 2 (omega arith) in
      line_most (protocol_data drill_protocol) 19999 (omega (arith, one, two))

  meta_short : length (line_text (meta_data_data drill_meta)) ≤ 20000
  meta_short = line_most (meta_data_data drill_meta) 19999 (meta_most (compact_text (delta_data (tree.struct_of drill_schema))) schema_most)

  abbrev AreShort : List Data → Type 0
  AreShort lines = AllByRecursion (λ d. length (line_text d) ≤ 20000) lines × (length lines ≤ 100)

  at_most_one : {X : Type 0} (f : X → Data) (x : X) → length (line_text (f x)) ≤ 20000 → (b : Bool) → AreShort (map f (option_to_list (if b then Some x else None)))
  at_most_one f x short true = ((short, tt), omega arith)
  at_most_one f x short false = (tt, omega arith)

  all_short : (xs ys : List Data) → AllByRecursion (λ d. length (line_text d) ≤ 20000) xs → AllByRecursion (λ d. length (line_text d) ≤ 20000) ys → AllByRecursion (λ d. length (line_text d) ≤ 20000) (xs ++ ys)
  all_short [] ys a b = b
  all_short (x ∷ xs) ys a b = (a.0, all_short xs ys a.1 b)

  -- A commit is short enough for a file that is read.
  pub short_bytes : (i : ℕ) → i < 200 → length (drill_bytes number i) ≤ MAX_FILE_BYTES
  short_bytes i less =
      let protocol = at_most_one protocol_data drill_protocol protocol_short (i == 0) in
      let meta = at_most_one meta_data_data drill_meta meta_short (i == 0) in
      let files = each_short (drill_files number i) (files_short i less) in
      let first = map protocol_data (option_to_list (drill_commit number i).protocol) in
      let second = map meta_data_data (option_to_list (drill_commit number i).meta) in
      let third = map (file_data drill_time) (drill_files number i) in
      let few = few_files i in
      let same = length-map (drill_files number i) (file_data drill_time) in
      let inner = length-append second third in
      let outer = length-append first (second ++ third) in
      let one = protocol.1 in
      let two = meta.1 in
      let text = joined_most line_text 20000 (commit_data drill_time (drill_commit number i)) (all_short first (second ++ third) protocol.0 (all_short second third meta.0 files)) in
      omega (arith, few, same, inner, outer, one, two, text)
