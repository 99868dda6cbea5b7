-- The manifests of an Iceberg target whose rows are small, and how long their texts and their list are at most.
use Rattle.std.proofs.Common.{◌≡◌, ◌⊎◌, ⊎_elim, ℕ, suc, ◌+◌, ◌^◌, ◌≤◌, ◌<◌, ℤ, pos, Bool, true, false, List, [], ◌∷◌, ◌++◌, length, map, drop, Contains, Option, Some, None, refl, sym, ap, subst, ◌∙◌, codes, arith, if◌then◌else◌}
use Rattle.std.specs.Fmt.{decimal}
use Rattle.std.specs.List.{filter, list_any}
use Rattle.std.specs.Prelude.{IfSome, not, sum_by}
use Rattle.std.proofs.lemmas.List.{length-append, length-drop, length-map}
use Rattle.std.proofs.lemmas.List.Elements.{Contains-append_cases}
use Rattle.std.proofs.lemmas.List.Filters.{length-filter_both}
use Rattle.std.proofs.lemmas.Option.{same_Some}
use Rattle.serde_json.specs.Data.{array}
use Rattle.serde_json.specs.View.{items_of}
use Rattle.serde_json.specs.Written.{compact_text}
use Rattle.lake_basics.specs.declared.limits.TheConstants.{MAX_AVRO_VALUES, MAX_MANIFEST_ENTRIES}
use Rattle.lake_basics.proofs.Texts.{digits_most}
use Rattle.avro_schema.specs.Writing.{json_of}
use Rattle.avro_value.specs.ValueTree.{values_of}
use Rattle.partition_map.specs.Avro.{avro_value_of}
use Rattle.partition_map.specs.declared.kind.PartKind.TheVariants as kind
use Rattle.file_links.specs.declared.slots.Held.{Held}
use Rattle.conformance.specs.Drill.{drill_schema}
use Rattle.conformance.proofs.Texts.{compact_most}
use Rattle.iceberg_manifest.specs.Entry.{EntryData}
use Rattle.iceberg_manifest.specs.ListWriting.{info_tree, list_meta, marker, parent_text}
use Rattle.iceberg_manifest.specs.ManifestWriting.{entry_tree, manifest_meta, whole_tree}
use Rattle.iceberg_manifest.specs.WrittenTypes.{list_type, manifest_type}
use Rattle.iceberg_manifest.specs.declared.info.ManifestInfo.{ManifestInfo}
use Rattle.iceberg_manifest.specs.declared.partition.PartColumn.{PartColumn}
use Rattle.iceberg_metadata.specs.Schemas.{HeldSchema}
use Rattle.iceberg_metadata.specs.Writing.{schema_data, spec_field_data}
use Rattle.iceberg_metadata.specs.declared.metadata.SpecField.{SpecField}
use Rattle.iceberg_table.specs.Folder.{path_of}
use Rattle.iceberg_version.specs.Manifests.{AreListed, AreNextManifests, AreParts, LiveManifest, NextManifest, added_entry, added_manifest, born_at, carried, deleted_entry, entry_of, existing_entry, file_at, has_rows, is_lost, left, lost, new, new_entries, rewritten_entries, stays}
use Rattle.iceberg_version.specs.Names.{manifest_name}
use Rattle.iceberg_version.specs.Writing.{AreColumns, IsListText, IsManifestText, TableEnd, next_version, schema_json, spec_json}
use Rattle.iceberg_version.proofs.Shared.{in_drop, in_take, short_take}
use Rattle.table_history.specs.Row.{Row}
use Rattle.table_history.specs.declared.row.PartValue.{PartValue}
use Rattle.table_history.specs.declared.row.PartValue.TheVariants as value
use Rattle.table_history.specs.declared.table.Change.{Change}
use Rattle.table_history.proofs.RowListLemmas.{Contains-cases, Contains-filter, Contains-head, Contains-none, Contains-tail}
use Rattle.lake_play.proofs.ContainerTexts.{all_most, container_most, most_value, most_values, pair_most}
use Rattle.lake_play.proofs.MetadataTexts.{drill_field, drill_held, field_data_most, schema_data_most}
use Rattle.lake_play.proofs.TextBounds.{IsShortNumber}

-- ---- lists

pub all_mapped : {A B : Type 0} (f : A → B) (P : B → Type 0) (xs : List A) → ((x : A) → Contains xs x → P (f x)) → (y : B) → Contains (map f xs) y → P y
all_mapped f P [] each y there = absurd (Contains-none y there)
all_mapped f P (x ∷ xs) each y there =
    ⊎_elim
    (λ (here : f x ≡ y). subst P here (each x (Contains-head x xs)))
    (λ later. all_mapped f P xs (λ z inside. each z (Contains-tail x xs z inside)) y later)
    (Contains-cases (f x) (map f xs) y there)

all_joined : {A : Type 0} (P : A → Type 0) (xs ys : List A) → ((x : A) → Contains xs x → P x) → ((x : A) → Contains ys x → P x) → (x : A) → Contains (xs ++ ys) x → P x
all_joined P xs ys one other x there = ⊎_elim (one x) (other x) (Contains-append_cases xs ys x there)

filter_most : {A : Type 0} (p : A → Bool) (xs : List A) → length (filter p xs) ≤ length xs
filter_most p xs = let both = length-filter_both p (λ x. not (p x)) (λ x. refl) xs in omega (arith, both)

-- ---- entries

-- The row has a short path, and one partition value, which is an int.
pub record IsSmallRow (row : Row) : Type 0 where
  pub path : length row.path ≤ 512
  pub number : ℤ
  pub values : row.values ≡ value.Int number ∷ []

whole_most : (o : Option ℤ) → most_value (whole_tree o) ≤ 20
whole_most None = omega arith
whole_most (Some n) = omega arith

entry_most : (e : EntryData) (number : ℤ) → length e.path ≤ 600 → e.values ≡ value.Int number ∷ [] → most_value (entry_tree e) ≤ 1000
entry_most e number short is =
    let snapshot = whole_most e.snapshot in
    let sequence = whole_most e.sequence in
    let file_sequence = whole_most e.file_sequence in
    let values : most_values (values_of (map avro_value_of e.values)) ≡ 20 = ap (λ (vs : List PartValue). most_values (values_of (map avro_value_of vs))) is in
    omega (arith, short, snapshot, sequence, file_sequence, values)

module _ (front : List ℕ) (short : length front ≤ 80) where
  row_entry_most : (status : ℕ) (snapshot : ℤ) (sequence : Option ℤ) (row : Row) → IsSmallRow row → most_value (entry_tree (entry_of front status snapshot sequence row)) ≤ 1000
  row_entry_most status snapshot sequence row small =
      let both = length-append front row.path in
      let path = small.path in
      entry_most (entry_of front status snapshot sequence row) small.number (omega (arith, both, path, short)) small.values

-- ---- manifests

-- A manifest has a short name, few live rows, and small ones.
pub record IsSmallManifest (m : LiveManifest) : Type 0 where
  pub path : length m.info.manifest_path ≤ 600
  pub few : length m.rows ≤ 20000
  pub rows : (held : Held) → Contains m.rows held → IsSmallRow held.row

-- So are all, and at most so many of them have a live row.
pub record AreSmallManifests (most : ℕ) (ms : List LiveManifest) : Type 0 where
  pub each : (m : LiveManifest) → Contains ms m → IsSmallManifest m
  pub count : length (filter has_rows ms) ≤ most

-- A new manifest has few entries, and small ones, and its live rows are few and small.
pub record IsSmallNew (entries : List EntryData) (rows : List Held) : Type 0 where
  pub few_entries : length entries ≤ 40000
  pub entries_most : (e : EntryData) → Contains entries e → most_value (entry_tree e) ≤ 1000
  pub few : length rows ≤ 20000
  pub rows_small : (held : Held) → Contains rows held → IsSmallRow held.row

abbrev pub IsSmallNext : NextManifest → Type 0
IsSmallNext (stays m) = IsSmallManifest m
IsSmallNext (new entries rows) = IsSmallNew entries rows

module _ (front : List ℕ) (short : length front ≤ 80) (version : ℕ) where
  rewritten : (removed : List (List ℕ)) (m : LiveManifest) → IsSmallManifest m → IsSmallNew (rewritten_entries front version removed m.rows) (left removed m.rows)
  rewritten removed m small =
      let stay = left removed m.rows in
      let go = lost removed m.rows in
      let both = length-append (map (existing_entry front) stay) (map (deleted_entry front version) go) in
      let first = length-map stay (existing_entry front) in
      let second = length-map go (deleted_entry front version) in
      let stay_few = filter_most (λ held. not (is_lost removed held)) m.rows in
      let go_few = filter_most (is_lost removed) m.rows in
      let few = small.few in
      record {
        few_entries = omega (arith, both, first, second, stay_few, go_few, few);
        entries_most =
            all_joined (λ e. most_value (entry_tree e) ≤ 1000) (map (existing_entry front) stay) (map (deleted_entry front version) go)
            (all_mapped (existing_entry front) (λ e. most_value (entry_tree e) ≤ 1000) stay
            (λ held there. row_entry_most front short 0 (pos held.born) (Some (pos held.born)) held.row (small.rows held (Contains-filter (λ (h : Held). not (is_lost removed h)) m.rows held there).0)))
            (all_mapped (deleted_entry front version) (λ e. most_value (entry_tree e) ≤ 1000) go
            (λ held there. row_entry_most front short 2 (pos version) (Some (pos held.born)) held.row (small.rows held (Contains-filter (is_lost removed) m.rows held there).0)));
        few = omega (arith, stay_few, few);
        rows_small = λ held there. small.rows held (Contains-filter (λ (h : Held). not (is_lost removed h)) m.rows held there).0;
      }

  carried_small : (removed : List (List ℕ)) (m : LiveManifest) → IsSmallManifest m → IsSmallNext (carried front version removed m)
  carried_small removed m small = by (list_any (is_lost removed) m.rows)
    where
      by : (b : Bool) → IsSmallNext (if b then new (rewritten_entries front version removed m.rows) (left removed m.rows) else stays m)
      by true = rewritten removed m small
      by false = small

  added_small : (rows : List Row) → length rows ≤ 20000 → ((row : Row) → Contains rows row → IsSmallRow row) → IsSmallNext (added_manifest front version rows)
  added_small rows few small =
      let entries = length-map rows (added_entry front version) in
      let held = length-map rows (born_at version) in
      record {
        few_entries = omega (arith, entries, few);
        entries_most = all_mapped (added_entry front version) (λ e. most_value (entry_tree e) ≤ 1000) rows (λ row there. row_entry_most front short 1 (pos version) None row (small row there));
        few = omega (arith, held, few);
        rows_small = all_mapped (born_at version) (λ h. IsSmallRow h.row) rows small;
      }

-- ---- parts

-- the part is of some of these rows
abbrev IsPartOf : ℕ → List Row → List Row → Type 0
IsPartOf size rows part = (length part ≤ size) × ((row : Row) → Contains part row → Contains rows row)

parts_of : (size : ℕ) (rows : List Row) (parts : List (List Row)) → AreParts size rows parts → (part : List Row) → Contains parts part → IsPartOf size rows part
parts_of size rows [] are part there = absurd (Contains-none part there)
parts_of size rows (p ∷ parts) are part there =
    ⊎_elim
    (λ (here : p ≡ part). subst (IsPartOf size rows) (sym are.1 ∙ here) (short_take size rows, λ row inside. in_take size rows row inside))
    (λ later. let rest = parts_of size (drop size rows) parts are.2 part later in (rest.0, λ row inside. in_drop size rows row (rest.1 row inside)))
    (Contains-cases p parts part there)

none_left : {A : Type 0} (xs : List A) → length xs ≤ 0 → xs ≡ []
none_left [] none = refl
none_left (x ∷ xs) none = absurd (omega (arith, none))

-- few rows make one part at most
one_part : (size : ℕ) (rows : List Row) (parts : List (List Row)) → length rows ≤ size → AreParts size rows parts → length parts ≤ 1
one_part size rows [] few are = omega arith
one_part size rows (p ∷ []) few are = omega arith
one_part size rows (p ∷ (q ∷ parts)) few are = let count = length-drop size rows in absurd (are.2.0 (none_left (drop size rows) (omega (arith, count, few))))

-- ---- the next list

module _ (front : List ℕ) (short : length front ≤ 80) (version most : ℕ) (manifests : List LiveManifest) (change : Change) (next : List NextManifest) (are : AreNextManifests front version manifests change next) (was : AreSmallManifests most manifests)
    (small : (row : Row) → Contains change.added row → IsSmallRow row) (few : length are.added ≤ 20000) where
  abbrev before : List NextManifest
  before = map (carried front version change.removed) (filter has_rows manifests)

  abbrev behind : List NextManifest
  behind = map (added_manifest front version) are.parts

  parts_count : length are.parts ≤ 1
  parts_count = one_part MAX_MANIFEST_ENTRIES are.added are.parts few are.cut

  part_small : (part : List Row) → Contains are.parts part → IsSmallNext (added_manifest front version part)
  part_small part there =
      let of = parts_of MAX_MANIFEST_ENTRIES are.added are.parts are.cut part there in
      added_small front short version part of.0 (λ row inside. small row ((are.rows row).1 (of.1 row inside)))

  pub next_small : (n : NextManifest) → Contains next n → IsSmallNext n
  next_small n there =
      all_joined IsSmallNext before behind
      (all_mapped (carried front version change.removed) IsSmallNext (filter has_rows manifests) (λ m inside. carried_small front short version change.removed m (was.each m (Contains-filter has_rows manifests m inside).0)))
      (all_mapped (added_manifest front version) IsSmallNext are.parts part_small)
      n (subst (λ (l : List NextManifest). Contains l n) are.is there)

  pub next_count : length next ≤ most + 1
  next_count =
      let whole : length next ≡ length (before ++ behind) = ap (λ (l : List NextManifest). length l) are.is in
      let both = length-append before behind in
      let first = length-map (filter has_rows manifests) (carried front version change.removed) in
      let second = length-map are.parts (added_manifest front version) in
      let old = was.count in
      let parts = parts_count in
      omega (arith, whole, both, first, second, old, parts)

-- the entries of a new manifest are few and small
pub new_small : (next : List NextManifest) → ((n : NextManifest) → Contains next n → IsSmallNext n) → (entries : List EntryData) → Contains (new_entries next) entries → (rows : List Held) × IsSmallNew entries rows
new_small [] small entries there = absurd (Contains-none entries there)
new_small (stays m ∷ next) small entries there = new_small next (λ n inside. small n (Contains-tail (stays m) next n inside)) entries there
new_small (new others rows ∷ next) small entries there =
    ⊎_elim
    (λ (here : others ≡ entries). (rows, subst (λ (es : List EntryData). IsSmallNew es rows) here (small (new others rows) (Contains-head (new others rows) next))))
    (λ later. new_small next (λ n inside. small n (Contains-tail (new others rows) next n inside)) entries later)
    (Contains-cases others (new_entries next) entries there)

module _ (front : List ℕ) (short : length front ≤ 80) (version : ℕ) (lt : version < 10 ^ 15) where
  name_most : (number : ℕ) → number < 10 ^ 15 → length (file_at front (path_of (manifest_name version number))) ≤ 600
  name_most number small =
      let rest = decimal number ++ codes ".avro" in
      let name = decimal version ++ (codes "-" ++ rest) in
      let outer = length-append front (path_of (manifest_name version number)) in
      let folder = length-append (codes "metadata/") (manifest_name version number) in
      let first = length-append (codes "lb-m-") name in
      let second = length-append (decimal version) (codes "-" ++ rest) in
      let third = length-append (codes "-") rest in
      let fourth = length-append (decimal number) (codes ".avro") in
      let a = digits_most version lt in
      let b = digits_most number small in
      omega (arith, outer, folder, first, second, third, fourth, a, b, short)

  -- the listed manifests are small, and as many
  listed_small : (place number : ℕ) (next : List NextManifest) (texts : List (List ℕ)) (listed : List LiveManifest) → number + length next < 10 ^ 15 → ((n : NextManifest) → Contains next n → IsSmallNext n) → AreListed front version place number next texts listed
      → ((m : LiveManifest) → Contains listed m → IsSmallManifest m) × (length listed ≡ length next)
  listed_small place number [] [] [] room small are = (λ m there. absurd (Contains-none m there), refl)
  listed_small place number [] (bytes ∷ texts) listed room small are = absurd are
  listed_small place number [] [] (m ∷ listed) room small are = absurd are
  listed_small place number (stays s ∷ next) texts [] room small are = absurd are
  listed_small place number (stays s ∷ next) texts (m ∷ listed) room small are =
      let one = small (stays s) (Contains-head (stays s) next) in
      let path : length m.info.manifest_path ≡ length s.info.manifest_path = ap (λ (x : LiveManifest). length x.info.manifest_path) are.0 in
      let rows : m.rows ≡ s.rows = ap (λ (x : LiveManifest). x.rows) are.0 in
      let first : IsSmallManifest m = record {
        path = let few = one.path in omega (arith, path, few);
        few = let count = ap (λ (l : List Held). length l) rows in let few = one.few in omega (arith, count, few);
        rows = λ held there. one.rows held (subst (λ (l : List Held). Contains l held) rows there);
      } in
      let rest = listed_small (place + 1) number next texts listed (omega (arith, room)) (λ n inside. small n (Contains-tail (stays s) next n inside)) are.1 in
      (λ other there. ⊎_elim (λ (here : m ≡ other). subst IsSmallManifest here first) (rest.0 other) (Contains-cases m listed other there), ap suc rest.1)
  listed_small place number (new entries held ∷ next) [] listed room small are = absurd are
  listed_small place number (new entries held ∷ next) (bytes ∷ texts) [] room small are = absurd are
  listed_small place number (new entries held ∷ next) (bytes ∷ texts) (m ∷ listed) room small are =
      let one = small (new entries held) (Contains-head (new entries held) next) in
      let path : length m.info.manifest_path ≡ length (file_at front (path_of (manifest_name version number))) = ap (λ (i : ManifestInfo). length i.manifest_path) are.1.2 in
      let name = name_most number (omega (arith, room)) in
      let first : IsSmallManifest m = record {
        path = omega (arith, path, name);
        few = let count = ap (λ (l : List Held). length l) are.0 in let few = one.few in omega (arith, count, few);
        rows = λ h there. one.rows_small h (subst (λ (l : List Held). Contains l h) are.0 there);
      } in
      let rest = listed_small (place + 1) (number + 1) next texts listed (omega (arith, room)) (λ n inside. small n (Contains-tail (new entries held) next n inside)) are.2 in
      (λ other there. ⊎_elim (λ (here : m ≡ other). subst IsSmallManifest here first) (rest.0 other) (Contains-cases m listed other there), ap suc rest.1)

  pub list_small : (most : ℕ) (next : List NextManifest) (texts : List (List ℕ)) (listed : List LiveManifest) → length next ≤ most → most < 10 ^ 15 → ((n : NextManifest) → Contains next n → IsSmallNext n) → AreListed front version 0 0 next texts listed
      → AreSmallManifests most listed × (length listed ≤ most)
  list_small most next texts listed few room small are =
      let all = listed_small 0 0 next texts listed (omega (arith, few, room)) small are in
      let count = all.1 in
      let with_rows = filter_most has_rows listed in
      (record { each = all.0; count = omega (arith, count, with_rows, few) }, omega (arith, count, few))

-- ---- the text of a manifest

-- the partition column of the drill
abbrev pub drill_column : PartColumn
drill_column = record { field_id = pos 1000; kind = kind.Int }

pub columns_are : (columns : List PartColumn) → AreColumns drill_schema (codes "d" ∷ []) (drill_field ∷ []) columns → columns ≡ drill_column ∷ []
columns_are [] are = absurd are
columns_are (c ∷ []) are = let kind_is : kind.Int ≡ c.kind = same_Some kind.Int c.kind are.1 in λ i. record { field_id = are.0 i; kind = sym kind_is i } ∷ []
columns_are (c ∷ (d ∷ columns)) are = absurd are.2

schema_json_most : length (schema_json drill_held) ≤ 2000
schema_json_most = let text = compact_most (schema_data drill_held) in let few = schema_data_most in omega (arith, text, few)

spec_json_most : length (spec_json (drill_field ∷ [])) ≤ 3000
spec_json_most = let text = compact_most (array (items_of (map spec_field_data (drill_field ∷ [])))) in let few = field_data_most in omega (arith, text, few)

type_most : length (compact_text (json_of (manifest_type (drill_column ∷ []) (codes "d" ∷ [])))) ≤ 20000
type_most =
    let text = compact_most (json_of (manifest_type (drill_column ∷ []) (codes "d" ∷ []))) in
    let a = digits_most 0 (omega arith) in
    let b = digits_most 1 (omega arith) in
    let c = digits_most 2 (omega arith) in
    let d = digits_most 3 (omega arith) in
    let e = digits_most 4 (omega arith) in
    let f = digits_most 134 (omega arith) in
    let g = digits_most 100 (omega arith) in
    let h = digits_most 101 (omega arith) in
    let i = digits_most 102 (omega arith) in
    let j = digits_most 103 (omega arith) in
    let k = digits_most 104 (omega arith) in
    let l = digits_most 1000 (omega arith) in
    omega (arith, text, a, b, c, d, e, f, g, h, i, j, k, l)

meta_most : sum_by pair_most (manifest_meta (schema_json drill_held) (pos 0) (spec_json (drill_field ∷ []))) ≤ 10000
meta_most = let schema = schema_json_most in let spec = spec_json_most in let none = digits_most 0 (omega arith) in omega (arith, schema, spec, none)

drill_text : (entries : List EntryData) (rows : List Held) (bytes : List ℕ) → IsSmallNew entries rows → IsManifestText drill_held (codes "d" ∷ []) (drill_field ∷ []) (drill_column ∷ []) entries bytes → length bytes ≤ 50000000
drill_text entries rows bytes small text =
    let whole = container_most MAX_AVRO_VALUES bytes (manifest_meta (schema_json drill_held) (pos 0) (spec_json (drill_field ∷ []))) (manifest_type (drill_column ∷ []) (codes "d" ∷ [])) marker (map entry_tree entries) refl text in
    let types = type_most in
    let meta = meta_most in
    let all = all_most entry_tree 1000 entries small.entries_most in
    let few = small.few_entries in
    omega (arith, whole, types, meta, all, few)

-- A new manifest's text is short.
pub manifest_short : (schema : HeldSchema) (partition : List (List ℕ)) (fields : List SpecField) (columns : List PartColumn) (entries : List EntryData) (rows : List Held) (bytes : List ℕ)
    → schema ≡ drill_held → partition ≡ codes "d" ∷ [] → fields ≡ drill_field ∷ [] → columns ≡ drill_column ∷ [] → IsSmallNew entries rows → IsManifestText schema partition fields columns entries bytes → length bytes ≤ 50000000
manifest_short schema partition fields columns entries rows bytes is names field column small text =
    drill_text entries rows bytes small
    (subst (λ (cs : List PartColumn). IsManifestText drill_held (codes "d" ∷ []) (drill_field ∷ []) cs entries bytes) column
    (subst (λ (fs : List SpecField). IsManifestText drill_held (codes "d" ∷ []) fs columns entries bytes) field
    (subst (λ (ns : List (List ℕ)). IsManifestText drill_held ns fields columns entries bytes) names
    (subst (λ (s : HeldSchema). IsManifestText s partition fields columns entries bytes) is text))))

-- ---- the text of a list

info_most : (info : ManifestInfo) → length info.manifest_path ≤ 600 → most_value (info_tree info) ≤ 1000
info_most info short = omega (arith, short)

list_type_most : length (compact_text (json_of list_type)) ≤ 20000
list_type_most =
    let text = compact_most (json_of list_type) in
    let a = digits_most 500 (omega arith) in
    let b = digits_most 501 (omega arith) in
    let c = digits_most 502 (omega arith) in
    let d = digits_most 503 (omega arith) in
    let e = digits_most 504 (omega arith) in
    let f = digits_most 505 (omega arith) in
    let g = digits_most 506 (omega arith) in
    let h = digits_most 512 (omega arith) in
    let i = digits_most 513 (omega arith) in
    let j = digits_most 514 (omega arith) in
    let k = digits_most 515 (omega arith) in
    let l = digits_most 516 (omega arith) in
    let m = digits_most 517 (omega arith) in
    omega (arith, text, a, b, c, d, e, f, g, h, i, j, k, l, m)

parent_most : (o : Option ℤ) → IfSome o IsShortNumber → length (parent_text o) ≤ 15
parent_most None short = omega arith
parent_most (Some id) (n, is, lt) = subst (λ (z : ℤ). length (parent_text (Some z)) ≤ 15) (sym is) (digits_most n lt)

-- A list of few small manifests is short.
pub list_short : (end : TableEnd) (manifests : List LiveManifest) (bytes : List ℕ) → next_version end < 10 ^ 15 → IfSome end.metadata.current_snapshot IsShortNumber → ((m : LiveManifest) → Contains manifests m → IsSmallManifest m) → length manifests ≤ 100000 → IsListText end manifests bytes
    → length bytes ≤ 150000000
list_short end manifests bytes lt current small few text =
    let meta = list_meta (pos (next_version end)) end.metadata.current_snapshot (pos (next_version end)) in
    let whole = container_most MAX_AVRO_VALUES bytes meta list_type marker (map (λ (m : LiveManifest). info_tree m.info) manifests) refl text in
    let types = list_type_most in
    let version = digits_most (next_version end) lt in
    let parent = parent_most end.metadata.current_snapshot current in
    let all = all_most (λ (m : LiveManifest). info_tree m.info) 1000 manifests (λ m there. info_most m.info (small m there).path) in
    omega (arith, whole, types, version, parent, all, few)
