-- The row of a live entry, and its fault where it has none.
use Rattle.std.proofs.Common.{◌≡◌, ℕ, zero, suc, ◌<◌, ◌≤◌, ℤ, ◌⊎◌, inl, inr, ⊎_elim, List, ◌++◌, length, Bool, true, false, cond, Option, None, Some, Result, Ok, Err, refl, sym, ap, subst, ◌∙◌, arith}
use Rattle.std.specs.Prelude.{◌==◌, nat_le, IfOk, IfErr, MatchResult}
use Rattle.std.specs.List.{filter}
use Rattle.std.proofs.lemmas.Grind.{common_steps}
use Rattle.lake_basics.specs.Outcome.{◌>>=◌, with_fault, FailsUnlessMemory, GivesUnlessMemory}
use Rattle.lake_basics.specs.declared.limits.TheConstants.{MAX_PATH_BYTES}
use Rattle.table_history.specs.Path.{IsPath, IsPathOfAnyLength, is_path_of_any_length}
use Rattle.table_history.proofs.PathTests.{path_of_any_length_decided}
use Rattle.iceberg_manifest.specs.Entry.{EntryData}
use Rattle.iceberg_manifest.specs.Errors.{is_memory, error_of}
use Rattle.iceberg_metadata.specs.Location.{front_of, behind}
use Rattle.iceberg_live.specs.Live.{IsInherited, IsRowOf, path_within, row_path, inherited, live_row, rows_in}
use Rattle.iceberg_manifest.specs.Entry.{is_live}
use Rattle.iceberg_live.specs.LiveRows.{AreLiveRows, LacksNumber, HasFault, IsFirstFault, live_rows_of}
use Rattle.iceberg_manifest.specs.declared.error.Fault.{Fault}
use Rattle.iceberg_manifest.specs.declared.error.Fault.TheVariants.{Malformed, OutsideTable, LongPath}
use Rattle.iceberg_manifest.specs.declared.error.ManifestError.{ManifestError}
use Rattle.iceberg_manifest.specs.declared.error.ManifestError.TheVariants as errors
use Rattle.iceberg_manifest.specs.declared.info.ManifestInfo.{ManifestInfo}
use Rattle.iceberg_manifest.proofs.ContainerLaws.{memory_alone}
use Rattle.iceberg_live.specs.declared.live.LiveRow.{LiveRow}
use Rattle.iceberg_metadata.proofs.LocationLemmas.{behind_found, behind_given}
use Rattle.iceberg_live.proofs.EachLaws.{filter_passes, each_found, each_given, each_stops}

-- ---- numbers

pub inherited_found : (status : ℕ) (o : Option ℤ) (from n : ℤ) → status < 2 → inherited status o from ≡ Ok n → IsInherited status o from n
inherited_found status (Some m) from n live is = let same : m ≡ n = cc in inl (ap Some same)
inherited_found zero None from n live is = absurd (cc)
inherited_found (suc zero) None from n live is = let same : n ≡ from = cc in inr (refl, refl, same)
inherited_found (suc (suc k)) None from n live is = absurd (omega (arith, live))

pub inherited_given : (status : ℕ) (o : Option ℤ) (from n : ℤ) → IsInherited status o from n → inherited status o from ≡ Ok n
inherited_given status o from n is = ⊎_elim (λ some. rw some refl) (λ h. rw (h.0, h.1) (ap Ok (sym h.2))) is

null_by : (status : ℕ) (from : ℤ) (f : Fault) (b : Bool) → (status == 0) ≡ b → cond b (Err Malformed) (Ok from) ≡ Err f → (status ≡ 0) × (Malformed ≡ f)
null_by status from f true is h = let zero_is : status ≡ 0 = grind (arith, common_steps) in (zero_is, (cc))
null_by status from f false is h = absurd (cc)

pub inherited_null : (status : ℕ) (o : Option ℤ) (from : ℤ) (f : Fault) → inherited status o from ≡ Err f → (status ≡ 0) × (o ≡ None) × (Malformed ≡ f)
inherited_null status (Some m) from f is = absurd (cc)
inherited_null status None from f is = let got = null_by status from f (status == 0) refl is in (got.0, refl, got.1)

pub has_number : (status : ℕ) (o : Option ℤ) (from n : ℤ) → inherited status o from ≡ Ok n → status ≡ 0 → o ≡ None → ⊥
has_number status (Some m) from n is first null = absurd (cc)
has_number zero None from n is first null = absurd (cc)
has_number (suc k) None from n is first null = absurd (omega (arith, first))

-- ---- paths

form_refused : (rest : List ℕ) → is_path_of_any_length rest ≡ false → IsPathOfAnyLength rest → ⊥
form_refused rest is form = let true_too : is_path_of_any_length rest ≡ true = (path_of_any_length_decided rest).1 form in absurd (cc)

table_by : (rest path : List ℕ) (form short : Bool) → is_path_of_any_length rest ≡ form → nat_le (length rest) MAX_PATH_BYTES ≡ short → cond form (cond short (Ok rest) (Err LongPath)) (Err Malformed) ≡ Ok path → (rest ≡ path) × IsPath path
table_by rest path true true is few h =
    let same : rest ≡ path = cc in
    let within : length rest ≤ MAX_PATH_BYTES = grind (arith, common_steps) in
    (same, subst IsPath same (record { form = (path_of_any_length_decided rest).0 is; short = within }))
table_by rest path true false is few h = absurd (cc)
table_by rest path false short is few h = absurd (cc)

pub path_found : (front path rest : List ℕ) (o : Option (List ℕ)) → behind front path ≡ o → path_within o ≡ Ok rest → (path ≡ front ++ rest) × IsPath rest
path_found front path rest None is h = absurd (cc)
path_found front path rest (Some r) is h =
    let got = table_by r rest (is_path_of_any_length r) (nat_le (length r) MAX_PATH_BYTES) refl refl h in
    (behind_found front path rest (is ∙ ap Some got.0), got.1)

pub path_given : (front path rest : List ℕ) → path ≡ front ++ rest → IsPath rest → row_path front path ≡ Ok rest
path_given front path rest is p =
    let there : behind front path ≡ Some rest = ap (behind front) is ∙ behind_given front rest in
    let form : is_path_of_any_length rest ≡ true = (path_of_any_length_decided rest).1 p.form in
    let short : length rest ≤ MAX_PATH_BYTES = p.short in
    let few : nat_le (length rest) MAX_PATH_BYTES ≡ true = grind (arith, common_steps) in
    ap path_within there ∙ rw (form, few) refl

-- why a path isn't one of the table
abbrev PathFault : List ℕ → List ℕ → Fault → Type 0
PathFault front path Malformed = (rest : List ℕ) × (path ≡ front ++ rest) × (IsPathOfAnyLength rest → ⊥)
PathFault front path OutsideTable = (rest : List ℕ) → path ≡ front ++ rest → ⊥
PathFault front path LongPath = (rest : List ℕ) × (path ≡ front ++ rest) × IsPathOfAnyLength rest × (MAX_PATH_BYTES < length rest)

fault_by : (front path rest : List ℕ) (f : Fault) (form short : Bool) → path ≡ front ++ rest → is_path_of_any_length rest ≡ form → nat_le (length rest) MAX_PATH_BYTES ≡ short → cond form (cond short (Ok rest) (Err LongPath)) (Err Malformed) ≡ Err f → PathFault front path f
fault_by front path rest f true true at is few h = absurd (cc)
fault_by front path rest f true false at is few h =
    let same : LongPath ≡ f = cc in
    let long : MAX_PATH_BYTES < length rest = grind (arith, common_steps) in
    subst (PathFault front path) same (rest, at, (path_of_any_length_decided rest).0 is, long)
fault_by front path rest f false short at is few h =
    let same : Malformed ≡ f = cc in
    subst (PathFault front path) same (rest, at, form_refused rest is)

path_refused : (front path : List ℕ) (f : Fault) (o : Option (List ℕ)) → behind front path ≡ o → path_within o ≡ Err f → PathFault front path f
path_refused front path f None is h =
    let same : OutsideTable ≡ f = cc in
    subst (PathFault front path) same (λ rest at. let there : behind front path ≡ Some rest = ap (behind front) at ∙ behind_given front rest in absurd (cc))
path_refused front path f (Some rest) is h =
    fault_by front path rest f (is_path_of_any_length rest) (nat_le (length rest) MAX_PATH_BYTES) (behind_found front path rest is) refl refl h

-- ---- rows

abbrev joined : EntryData → Result ℤ Fault → Result ℤ Fault → Result ℤ Fault → Result (List ℕ) Fault → Result LiveRow Fault
joined e a b c p = a >>= λ s. b >>= λ q. c >>= λ n. p >>= λ path. Ok (record { row = record { path = path; values = e.values; count = e.count; size = e.size }; snapshot = s; sequence = q })

found_by : (location : List ℕ) (info : ManifestInfo) (e : EntryData) (r : LiveRow) (a b c : Result ℤ Fault) (p : Result (List ℕ) Fault) → e.status < 2
    → inherited e.status e.snapshot info.added_snapshot_id ≡ a → inherited e.status e.sequence info.sequence_number ≡ b → inherited e.status e.file_sequence info.sequence_number ≡ c → row_path (front_of location) e.path ≡ p
    → joined e a b c p ≡ Ok r → IsRowOf location info e r
found_by location info e r (Err f) b c p live ia ib ic ip h = absurd (cc)
found_by location info e r (Ok s) (Err f) c p live ia ib ic ip h = absurd (cc)
found_by location info e r (Ok s) (Ok q) (Err f) p live ia ib ic ip h = absurd (cc)
found_by location info e r (Ok s) (Ok q) (Ok n) (Err f) live ia ib ic ip h = absurd (cc)
found_by location info e r (Ok s) (Ok q) (Ok n) (Ok path) live ia ib ic ip h =
    let same : record { row = record { path = path; values = e.values; count = e.count; size = e.size }; snapshot = s; sequence = q } ≡ r = cc in
    let at = path_found (front_of location) e.path path (behind (front_of location) e.path) refl ip in
    subst (IsRowOf location info e) same (record {
      live = live;
      place = at.0;
      path = at.1;
      values = refl;
      count = refl;
      size = refl;
      snapshot = inherited_found e.status e.snapshot info.added_snapshot_id s live ia;
      sequence = inherited_found e.status e.sequence info.sequence_number q live ib;
      file_sequence = (n, inherited_found e.status e.file_sequence info.sequence_number n live ic);
    })

is_below_two : (e : EntryData) → is_live e ≡ true → e.status < 2
is_below_two e is = grind (arith, common_steps)

row_found : (location : List ℕ) (info : ManifestInfo) (e : EntryData) (r : LiveRow) → is_live e ≡ true → live_row (front_of location) info e ≡ Ok r → IsRowOf location info e r
unfolding live_row
row_found location info e r live h = found_by location info e r (inherited e.status e.snapshot info.added_snapshot_id) (inherited e.status e.sequence info.sequence_number) (inherited e.status e.file_sequence info.sequence_number) (row_path (front_of location) e.path) (is_below_two e live) refl refl refl refl h

row_given : (location : List ℕ) (info : ManifestInfo) (e : EntryData) (r : LiveRow) → IsRowOf location info e r → live_row (front_of location) info e ≡ Ok r
unfolding live_row
row_given location info e r is =
    let a = inherited_given e.status e.snapshot info.added_snapshot_id r.snapshot is.snapshot in
    let b = inherited_given e.status e.sequence info.sequence_number r.sequence is.sequence in
    let c = inherited_given e.status e.file_sequence info.sequence_number is.file_sequence.0 is.file_sequence.1 in
    let p = path_given (front_of location) e.path r.row.path is.place is.path in
    let values : e.values ≡ r.row.values = sym is.values in
    let count : e.count ≡ r.row.count = sym is.count in
    let size : e.size ≡ r.row.size = sym is.size in
    rw (a, b, c, p) (ap Ok (rw (values, count, size) refl))

path_fault : (location : List ℕ) (e : EntryData) (g : Fault) → (LacksNumber e → ⊥) → PathFault (front_of location) e.path g → HasFault location e (error_of g)
path_fault location e Malformed has_numbers h = inr h
path_fault location e OutsideTable has_numbers h = (has_numbers, h)
path_fault location e LongPath has_numbers h = (has_numbers, refl, h)

refused_by : (location : List ℕ) (info : ManifestInfo) (e : EntryData) (f : Fault) (a b c : Result ℤ Fault) (p : Result (List ℕ) Fault)
    → inherited e.status e.snapshot info.added_snapshot_id ≡ a → inherited e.status e.sequence info.sequence_number ≡ b → inherited e.status e.file_sequence info.sequence_number ≡ c → row_path (front_of location) e.path ≡ p
    → joined e a b c p ≡ Err f → HasFault location e (error_of f)
refused_by location info e f (Err g) b c p ia ib ic ip h =
    let null = inherited_null e.status e.snapshot info.added_snapshot_id g ia in
    let same : Malformed ≡ f = null.2 ∙ (cc) in
    subst (λ k. HasFault location e (error_of k)) same (inl (null.0, inl null.1))
refused_by location info e f (Ok s) (Err g) c p ia ib ic ip h =
    let null = inherited_null e.status e.sequence info.sequence_number g ib in
    let same : Malformed ≡ f = null.2 ∙ (cc) in
    subst (λ k. HasFault location e (error_of k)) same (inl (null.0, inr (inl null.1)))
refused_by location info e f (Ok s) (Ok q) (Err g) p ia ib ic ip h =
    let null = inherited_null e.status e.file_sequence info.sequence_number g ic in
    let same : Malformed ≡ f = null.2 ∙ (cc) in
    subst (λ k. HasFault location e (error_of k)) same (inl (null.0, inr (inr null.1)))
refused_by location info e f (Ok s) (Ok q) (Ok n) (Err g) ia ib ic ip h =
    let same : g ≡ f = cc in
    let has_numbers : LacksNumber e → ⊥ = λ lacks. ⊎_elim (has_number e.status e.snapshot info.added_snapshot_id s ia lacks.0) (⊎_elim (has_number e.status e.sequence info.sequence_number q ib lacks.0) (has_number e.status e.file_sequence info.sequence_number n ic lacks.0)) lacks.1 in
    subst (λ k. HasFault location e (error_of k)) same (path_fault location e g has_numbers (path_refused (front_of location) e.path g (behind (front_of location) e.path) refl ip))
refused_by location info e f (Ok s) (Ok q) (Ok n) (Ok path) ia ib ic ip h = absurd (cc)

row_refused : (location : List ℕ) (info : ManifestInfo) (e : EntryData) (f : Fault) → live_row (front_of location) info e ≡ Err f → HasFault location e (error_of f)
unfolding live_row
row_refused location info e f h = refused_by location info e f (inherited e.status e.snapshot info.added_snapshot_id) (inherited e.status e.sequence info.sequence_number) (inherited e.status e.file_sequence info.sequence_number) (row_path (front_of location) e.path) refl refl refl refl h

-- ---- all rows

pub rows_found : (location : List ℕ) (info : ManifestInfo) (entries : List EntryData) (rows : List LiveRow) → rows_in (front_of location) info entries ≡ Ok rows → AreLiveRows location info entries rows
rows_found location info entries rows h = each_found is_live (live_row (front_of location) info) (IsRowOf location info) (row_found location info) (filter is_live entries) rows (filter_passes is_live entries) h

pub rows_given : (location : List ℕ) (info : ManifestInfo) (entries : List EntryData) (rows : List LiveRow) → AreLiveRows location info entries rows → rows_in (front_of location) info entries ≡ Ok rows
rows_given location info entries rows are = each_given (live_row (front_of location) info) (IsRowOf location info) (row_given location info) (filter is_live entries) rows are

pub rows_refused : (location : List ℕ) (info : ManifestInfo) (entries : List EntryData) (f : Fault) → rows_in (front_of location) info entries ≡ Err f → IsFirstFault location info entries (error_of f)
rows_refused location info entries f h =
    let stop = each_stops is_live (live_row (front_of location) info) (IsRowOf location info) (row_found location info) (filter is_live entries) f (filter_passes is_live entries) h in
    record { before = stop.before; entry = stop.item; after = stop.after; rows = stop.found; split = stop.split; are_rows = stop.are; fault = row_refused location info stop.item f stop.refused }

-- ---- the call

module _ (location : List ℕ) (info : ManifestInfo) (entries : List EntryData) where
  found_at : (rows : List LiveRow) (r : Result (List LiveRow) Fault) → rows_in (front_of location) info entries ≡ r → with_fault error_of r ≡ Ok rows → AreLiveRows location info entries rows
  found_at rows (Ok found) is h = let same : found ≡ rows = cc in subst (AreLiveRows location info entries) same (rows_found location info entries found is)
  found_at rows (Err f) is h = absurd (cc)

  refused_at : (e : ManifestError) (r : Result (List LiveRow) Fault) → rows_in (front_of location) info entries ≡ r → with_fault error_of r ≡ Err e → IsFirstFault location info entries e
  refused_at e (Ok found) is h = absurd (cc)
  refused_at e (Err f) is h = let same : error_of f ≡ e = cc in subst (IsFirstFault location info entries) same (rows_refused location info entries f is)

  pub found : (result : Result (List LiveRow) ManifestError) → GivesUnlessMemory is_memory (λ rows. rows) result (live_rows_of location info entries) → IfOk result (λ rows. AreLiveRows location info entries rows)
  found (Ok rows) h = found_at rows (rows_in (front_of location) info entries) refl h
  found (Err e) h = tt

  not_memory : (e : ManifestError) (b : Bool) → is_memory e ≡ b → FailsUnlessMemory b e (live_rows_of location info entries) → (e ≡ errors.Memory) ⊎ (live_rows_of location info entries ≡ Err e)
  not_memory e true is h = inl (memory_alone e is)
  not_memory e false is h = inr h

  pub refused : (result : Result (List LiveRow) ManifestError) → GivesUnlessMemory is_memory (λ rows. rows) result (live_rows_of location info entries) → IfErr result (λ e. (e ≡ errors.Memory) ⊎ IsFirstFault location info entries e)
  refused (Ok rows) h = tt
  refused (Err e) h = ⊎_elim (λ m. inl m) (λ f. inr (refused_at e (rows_in (front_of location) info entries) refl f)) (not_memory e (is_memory e) refl h)

  pub only : (result : Result (List LiveRow) ManifestError) → GivesUnlessMemory is_memory (λ rows. rows) result (live_rows_of location info entries)
      → (rows : List LiveRow) → AreLiveRows location info entries rows → MatchResult result (λ found. found ≡ rows) (λ e. e ≡ errors.Memory)
  only (Ok found) h rows are = let given : live_rows_of location info entries ≡ Ok rows = ap (with_fault error_of) (rows_given location info entries rows are) in cc
  only (Err e) h rows are = let given : live_rows_of location info entries ≡ Ok rows = ap (with_fault error_of) (rows_given location info entries rows are) in ⊎_elim (λ m. m) (λ f. absurd (cc)) (not_memory e (is_memory e) refl h)
