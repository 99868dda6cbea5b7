-- What becomes of the manifests of a list, and their live rows.
use Rattle.std.proofs.Common.{◌≡◌, ◌≢◌, inl, inr, ℕ, pos, ◌+◌, ◌≤◌, List, [], ◌∷◌, ◌++◌, map, length, Bool, true, false, cond, Contains, Result, Ok, refl, sym, ap, subst, arith}
use Rattle.std.specs.Prelude.{flat_map, nat_lt}
use Rattle.std.specs.List.{AllByRecursion, filter, list_any}
use Rattle.lake_basics.specs.Outcome.{◌>>=◌}
use Rattle.lake_basics.proofs.Steps.{bind_ok, ok_is}
use Rattle.table_history.specs.Path.{IsPath}
use Rattle.table_history.specs.Row.{Row}
use Rattle.table_history.proofs.RowListLemmas.{Contains-head, Contains-tail}
use Rattle.avro_value.specs.ValueTree.{ValueTree, total, value_count}
use Rattle.avro_value.specs.declared.api.TheConstants.{MAX_VALUES}
use Rattle.avro_value.proofs.ValueLaws.{size_pos}
use Rattle.file_links.specs.declared.slots.Held.{Held}
use Rattle.iceberg_manifest.specs.Entry.{EntryData}
use Rattle.iceberg_manifest.specs.ListReading.{infos_in, list_plan, list_row, list_rows}
use Rattle.iceberg_manifest.specs.Lists.{AreEach}
use Rattle.iceberg_live.specs.Live.{IsRowOf}
use Rattle.iceberg_manifest.specs.Entry.{is_live}
use Rattle.iceberg_metadata.specs.Location.{front_of}
use Rattle.iceberg_manifest.specs.Scans.{flaw_error}
use Rattle.iceberg_manifest.specs.declared.info.ManifestInfo.{ManifestInfo}
use Rattle.iceberg_manifest.proofs.KindLaws.{fault_ok}
use Rattle.iceberg_live.specs.declared.live.LiveRow.{LiveRow}
use Rattle.iceberg_table.specs.Lists.{AreRows}
use Rattle.iceberg_version.specs.Manifests.{AreListed, LiveManifest, NextManifest, added_entry, added_manifest, born_at, carried, deleted_entry, existing_entry, has_rows, is_lost, left, new, rewritten_entries, stays}
use Rattle.iceberg_version.proofs.Shared.{in_flat}
use Rattle.target_iceberg.specs.Kept.{held_of}

-- ---- each manifest of the list

-- What it is: a manifest of the list before that has rows and loses none, one of them written anew, or one of added rows.
pub data IsMade (front : List ℕ) (version : ℕ) (removed : List (List ℕ)) (manifests : List LiveManifest) (parts : List (List Row)) (next : NextManifest) : Type 0 where
  kept : (m : LiveManifest) → next ≡ stays m → Contains manifests m → m.rows ≢ [] → list_any (is_lost removed) m.rows ≡ false → IsMade front version removed manifests parts next
  anew : (m : LiveManifest) → next ≡ new (rewritten_entries front version removed m.rows) (left removed m.rows) → Contains manifests m → IsMade front version removed manifests parts next
  adds : (part : List Row) → next ≡ new (map (added_entry front version) part) (map (born_at version) part) → Contains parts part → IsMade front version removed manifests parts next

module _ (front : List ℕ) (version : ℕ) (removed : List (List ℕ)) (manifests : List LiveManifest) (parts : List (List Row)) where
  abbrev Made : NextManifest → Type 0
  Made nx = IsMade front version removed manifests parts nx

  all_append : (xs ys : List NextManifest) → AllByRecursion Made xs → AllByRecursion Made ys → AllByRecursion Made (xs ++ ys)
  all_append [] ys a b = b
  all_append (x ∷ xs) ys a b = (a.0, all_append xs ys a.1 b)

  carried_by : (m : LiveManifest) (b : Bool) → list_any (is_lost removed) m.rows ≡ b → Contains manifests m → m.rows ≢ [] → Made (cond b (new (rewritten_entries front version removed m.rows) (left removed m.rows)) (stays m))
  carried_by m true is there some = IsMade.anew m refl there
  carried_by m false is there some = IsMade.kept m refl there some is

  some_rows : (rows : List Held) → nat_lt 0 (length rows) ≡ true → rows ≢ []
  some_rows [] is none = absurd (cc)
  some_rows (r ∷ rows) is none = absurd (let lengths = ap length none in omega (arith, lengths))

  filtered_by : (m : LiveManifest) (ms : List LiveManifest) (b : Bool) → nat_lt 0 (length m.rows) ≡ b → Contains manifests m → AllByRecursion Made (map (carried front version removed) (filter has_rows ms)) → AllByRecursion Made (map (carried front version removed) (cond b (m ∷ filter has_rows ms) (filter has_rows ms)))
  filtered_by m ms true is there rest = (carried_by m (list_any (is_lost removed) m.rows) refl there (some_rows m.rows is), rest)
  filtered_by m ms false is there rest = rest

  carried_made : (ms : List LiveManifest) → ((m : LiveManifest) → Contains ms m → Contains manifests m) → AllByRecursion Made (map (carried front version removed) (filter has_rows ms))
  carried_made [] within = tt
  carried_made (m ∷ ms) within = filtered_by m ms (nat_lt 0 (length m.rows)) refl (within m (Contains-head m ms)) (carried_made ms (λ x there. within x (Contains-tail m ms x there)))

  added_made : (ps : List (List Row)) → ((p : List Row) → Contains ps p → Contains parts p) → AllByRecursion Made (map (added_manifest front version) ps)
  added_made [] within = tt
  added_made (p ∷ ps) within = (IsMade.adds p refl (within p (Contains-head p ps)), added_made ps (λ x there. within x (Contains-tail p ps x there)))

  pub all_made : AllByRecursion Made (map (carried front version removed) (filter has_rows manifests) ++ map (added_manifest front version) parts)
  all_made = all_append (map (carried front version removed) (filter has_rows manifests)) (map (added_manifest front version) parts) (carried_made manifests (λ m there. there)) (added_made parts (λ p there. there))

-- ---- parts of a list

pub in_joined : {A : Type 0} (parts : List (List A)) (part : List A) (x : A) → Contains parts part → Contains part x → Contains (flat_map (λ p. p) parts) x
in_joined parts part x there within = in_flat (λ p. p) parts part x there within

-- ---- live rows

-- the row that is read of a held row's entry
abbrev pub live_of : Held → LiveRow
live_of held = record { row = held.row; snapshot = pos held.born; sequence = pos held.born }

-- the row that is read of an added row's entry
abbrev pub new_live : ℕ → Row → LiveRow
new_live version row = record { row = row; snapshot = pos version; sequence = pos version }

pub held_again : (rows : List Held) → rows ≡ map held_of (map live_of rows)
held_again [] = refl
held_again (h ∷ rows) = ap (λ (l : List Held). h ∷ l) (held_again rows)

pub born_again : (version : ℕ) (part : List Row) → map (born_at version) part ≡ map held_of (map (new_live version) part)
born_again version [] = refl
born_again version (row ∷ part) = ap (λ (l : List Held). born_at version row ∷ l) (born_again version part)

module _ (location : List ℕ) (version : ℕ) (info : ManifestInfo) where
  no_deleted : (ys : List Held) → filter is_live (map (deleted_entry (front_of location) version) ys) ≡ []
  no_deleted [] = refl
  no_deleted (y ∷ ys) = no_deleted ys

  existing_row : (h : Held) → IsPath h.row.path → IsRowOf location info (existing_entry (front_of location) h) (live_of h)
  existing_row h path = record { live = omega arith; place = refl; path = path; values = refl; count = refl; size = refl; snapshot = inl refl; sequence = inl refl; file_sequence = (pos h.born, inl refl) }

  pub rewritten_live : (xs ys : List Held) → ((h : Held) → Contains xs h → IsPath h.row.path) → AreEach (IsRowOf location info) (filter is_live (map (existing_entry (front_of location)) xs ++ map (deleted_entry (front_of location) version) ys)) (map live_of xs)
  rewritten_live [] ys paths = subst (λ (l : List EntryData). AreEach (IsRowOf location info) l []) (sym (no_deleted ys)) tt
  rewritten_live (x ∷ xs) ys paths = (existing_row x (paths x (Contains-head x xs)), rewritten_live xs ys (λ h there. paths h (Contains-tail x xs h there)))

  added_row : info.sequence_number ≡ pos version → (row : Row) → IsPath row.path → IsRowOf location info (added_entry (front_of location) version row) (new_live version row)
  added_row sequence row path = record { live = omega arith; place = refl; path = path; values = refl; count = refl; size = refl; snapshot = inl refl; sequence = inr (refl, refl, sym sequence); file_sequence = (info.sequence_number, inr (refl, refl, refl)) }

  pub added_live : info.sequence_number ≡ pos version → (part : List Row) → ((row : Row) → Contains part row → IsPath row.path) → AreEach (IsRowOf location info) (filter is_live (map (added_entry (front_of location) version) part)) (map (new_live version) part)
  added_live sequence [] paths = tt
  added_live sequence (row ∷ part) paths = (added_row sequence row (paths row (Contains-head row part)), added_live sequence part (λ r there. paths r (Contains-tail row part r there)))

-- ---- how many there are

length_within : (vs : List ValueTree) → length vs ≤ total value_count vs
length_within [] = omega arith
length_within (v ∷ vs) = let rest = length_within vs in let one = size_pos v in omega (arith, rest, one)

-- rows that are read value by value
abbrev IsRowStep : {P E : Type 0} → (P → ℕ → List ValueTree → Result (List ManifestInfo) E) → Type 0
IsRowStep {P} {E} rows =
    ((plan : P) (k : ℕ) (infos : List ManifestInfo) → rows plan k [] ≡ Ok infos → [] ≡ infos)
    × ((plan : P) (k : ℕ) (v : ValueTree) (vs : List ValueTree) (infos : List ManifestInfo) → rows plan k (v ∷ vs) ≡ Ok infos → (one : ManifestInfo) × (others : List ManifestInfo) × (rows plan (k + 1) vs ≡ Ok others) × (one ∷ others ≡ infos))

rows_length : {P E : Type 0} (rows : P → ℕ → List ValueTree → Result (List ManifestInfo) E) → IsRowStep rows → (plan : P) (k : ℕ) (vs : List ValueTree) (infos : List ManifestInfo) → rows plan k vs ≡ Ok infos → length infos ≡ length vs
rows_length rows step plan k [] infos is = ap length (sym (step.0 plan k infos is))
rows_length rows step plan k (v ∷ vs) infos is =
    let one = step.1 plan k v vs infos is in
    let rest = rows_length rows step plan (k + 1) vs one.1 one.2 in
    let same = ap length (sym one.3) in
    omega (arith, rest, same)

row_step : IsRowStep list_rows
row_step = (
  λ plan k infos is. ok_is [] infos is,
  λ plan k v vs infos is.
      let first = bind_ok (list_row plan k v) (λ i. list_rows plan (k + 1) vs >>= λ others. Ok (i ∷ others)) infos is in
      let others = bind_ok (list_rows plan (k + 1) vs) (λ rest. Ok (first.0 ∷ rest)) infos first.2 in
      (first.0, others.0, others.1, ok_is (first.0 ∷ others.0) infos others.2),
)

-- a list has no more rows than values
pub few_rows : (bytes : List ℕ) (infos : List ManifestInfo) → AreRows bytes infos → length infos ≤ MAX_VALUES
unfolding infos_in
few_rows bytes infos are =
    let read = fault_ok flaw_error (list_plan are.schema >>= λ plan. list_rows plan 0 are.values) infos are.read in
    let plan = bind_ok (list_plan are.schema) (λ plan. list_rows plan 0 are.values) infos read in
    let same = rows_length list_rows row_step plan.0 0 are.values infos plan.2 in
    let few = are.container.few in
    let within = length_within are.values in
    omega (arith, same, few, within)

pub few_texts : (front : List ℕ) (version k number : ℕ) (next : List NextManifest) (texts : List (List ℕ)) (listed : List LiveManifest) → AreListed front version k number next texts listed → length texts ≤ length listed
few_texts front version k number [] [] [] are = omega arith
few_texts front version k number [] [] (l ∷ ls) are = absurd are
few_texts front version k number [] (t ∷ ts) ls are = absurd are
few_texts front version k number (stays m ∷ next) texts [] are = absurd are
few_texts front version k number (stays m ∷ next) texts (l ∷ ls) are = let rest = few_texts front version (k + 1) number next texts ls are.1 in omega (arith, rest)
few_texts front version k number (new es rs ∷ next) [] ls are = absurd are
few_texts front version k number (new es rs ∷ next) (t ∷ ts) [] are = absurd are
few_texts front version k number (new es rs ∷ next) (t ∷ ts) (l ∷ ls) are = let rest = few_texts front version (k + 1) (number + 1) next ts ls are.2 in omega (arith, rest)
