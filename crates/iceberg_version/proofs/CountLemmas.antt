-- Counts of entries by status, and the least of their sequence numbers.
use Rattle.std.proofs.Common.{◌≡◌, ◌+◌, ◌<◌, ◌≤◌, ◌≤ℤ◌, ◌<ℤ◌, ℕ, ℤ, Bool, true, false, cond, Contains, List, [], ◌∷◌, ◌++◌, length, map, take, get_or, refl, sym, ap, ◌∙◌, arith, subst, pos, Option, Some, None, ⊎_elim}
use Rattle.std.specs.List.{filter}
use Rattle.std.proofs.lemmas.Int.{ints}
use Rattle.std.proofs.lemmas.List.{append-nil, get_or-map, length-map, map-append, take_all}
use Rattle.std.proofs.lemmas.List.Elements.{Contains-append_cases, Contains-append_left, Contains-push, filter_more}
use Rattle.table_history.proofs.RowListLemmas.{Contains-none, Contains-one}
use Rattle.iceberg_manifest.specs.Entry.{EntryData}
use Rattle.iceberg_manifest.specs.Entry.{is_live}
use Rattle.iceberg_manifest_writing.specs.RowEntries.{entry_in}
use Rattle.iceberg_manifest_writing.specs.declared.row_entry.RowEntry.{RowEntry}
use Rattle.iceberg_version.specs.Manifests.{IsLeast, IsLeastOf, if_any, live_sequences, sequence_in}

-- ---- entries of rows

pub entry_within : (front : List ℕ) (rows : List RowEntry) (i : ℕ) → i < length rows → i < length (map (entry_in front) rows)
entry_within front rows i within = subst (λ (n : ℕ). i < n) (sym (length-map rows (entry_in front))) within

pub entry_at : (front : List ℕ) (rows : List RowEntry) (i : ℕ) (row : RowEntry) → i < length rows → row ≡ get_or rows i row → entry_in front row ≡ get_or (map (entry_in front) rows) i (entry_in front row)
entry_at front rows i row within at = ap (entry_in front) at ∙ sym (get_or-map (entry_in front) rows i row (entry_in front row) within)

pub all_taken : (front : List ℕ) (rows : List RowEntry) (i : ℕ) → length rows ≤ i → take i (map (entry_in front) rows) ≡ map (entry_in front) rows
all_taken front rows i past = take_all i (map (entry_in front) rows) (subst (λ (n : ℕ). n ≤ i) (sym (length-map rows (entry_in front))) past)

-- ---- the least

pub first_number : (numbers : List ℤ) (number : ℤ) → numbers ≡ [] → IsLeastOf (numbers ++ number ∷ []) (Some number)
first_number numbers number none = (
  Contains-push numbers number,
  λ n there.
      ⊎_elim
      (λ before. absurd (Contains-none n (subst (λ (xs : List ℤ). Contains xs n) none before)))
      (λ here. let e = Contains-one number n here in omega (arith, ints))
      (Contains-append_cases numbers (number ∷ []) n there),
)

pub new_least : (numbers : List ℤ) (found number : ℤ) → IsLeastOf numbers (Some found) → number <ℤ found → IsLeastOf (numbers ++ number ∷ []) (Some number)
new_least numbers found number least less = (
  Contains-push numbers number,
  λ n there.
      ⊎_elim
      (λ before. let l = least.1 n before in omega (arith, ints))
      (λ here. let e = Contains-one number n here in omega (arith, ints))
      (Contains-append_cases numbers (number ∷ []) n there),
)

pub same_least : (numbers : List ℤ) (found number : ℤ) → IsLeastOf numbers (Some found) → found ≤ℤ number → IsLeastOf (numbers ++ number ∷ []) (Some found)
same_least numbers found number least less = (
  Contains-append_left numbers (number ∷ []) found least.0,
  λ n there.
      ⊎_elim
      (λ before. least.1 n before)
      (λ here. let e = Contains-one number n here in omega (arith, ints))
      (Contains-append_cases numbers (number ∷ []) n there),
)

-- ---- one entry more

pub live_more : (version i : ℕ) (entries : List EntryData) (e : EntryData) → i < length entries → e ≡ get_or entries i e → is_live e ≡ true → live_sequences version (take (i + 1) entries) ≡ live_sequences version (take i entries) ++ sequence_in version e ∷ []
live_more version i entries e within is live =
    let more = filter_more is_live entries i e within in
    let here : cond (is_live (get_or entries i e)) (get_or entries i e ∷ []) [] ≡ e ∷ [] = subst (λ (x : EntryData). cond (is_live x) (x ∷ []) [] ≡ e ∷ []) is (ap (λ b. cond b (e ∷ []) []) live) in
    ap (map (sequence_in version)) (more ∙ ap (λ xs. filter is_live (take i entries) ++ xs) here) ∙ map-append (sequence_in version) (filter is_live (take i entries)) (e ∷ [])

pub live_same : (version i : ℕ) (entries : List EntryData) (e : EntryData) → i < length entries → e ≡ get_or entries i e → is_live e ≡ false → live_sequences version (take (i + 1) entries) ≡ live_sequences version (take i entries)
live_same version i entries e within is dead =
    let more = filter_more is_live entries i e within in
    let here : cond (is_live (get_or entries i e)) (get_or entries i e ∷ []) [] ≡ [] = subst (λ (x : EntryData). cond (is_live x) (x ∷ []) [] ≡ []) is (ap (λ b. cond b (e ∷ []) []) dead) in
    ap (map (sequence_in version)) (more ∙ ap (λ xs. filter is_live (take i entries) ++ xs) here ∙ append-nil (filter is_live (take i entries)))

pub least_by : (version : ℕ) (numbers : List ℤ) (any : Bool) (least : ℤ) → IsLeastOf numbers (if_any any least) → (any ≡ false → least ≡ pos version) → IsLeast version numbers least
least_by version numbers true least are none = (Some least, are, refl)
least_by version numbers false least are none = (None, are, none refl)

abbrev IsLeastSoFar : ℕ → List EntryData → Bool → ℤ → Type 0
IsLeastSoFar version entries any least = IsLeastOf (live_sequences version entries) (if_any any least) × (any ≡ false → least ≡ pos version)

pub live_step : (version i : ℕ) (entries : List EntryData) (e : EntryData) (number found least : ℤ) (any : Bool) → i < length entries → e ≡ get_or entries i e → is_live e ≡ true → number ≡ sequence_in version e → IsLeastOf (live_sequences version (take i entries) ++ number ∷ []) (Some found) → any ≡ true → least ≡ found → IsLeastOf (live_sequences version (take (i + 1) entries)) (if_any any least)
live_step version i entries e number found least any within is live number_is before any_is least_is =
    let more = ap (λ (n : ℤ). live_sequences version (take i entries) ++ n ∷ []) number_is ∙ sym (live_more version i entries e within is live) in
    subst (λ (o : Option ℤ). IsLeastOf (live_sequences version (take (i + 1) entries)) o) (ap Some (sym least_is) ∙ ap (λ b. if_any b least) (sym any_is)) (subst (λ (ns : List ℤ). IsLeastOf ns (Some found)) more before)

pub dead_step : (version i : ℕ) (entries : List EntryData) (e : EntryData) (before least : ℤ) (any_before any : Bool) → i < length entries → e ≡ get_or entries i e → is_live e ≡ false → any ≡ any_before → least ≡ before → IsLeastSoFar version (take i entries) any_before before → IsLeastSoFar version (take (i + 1) entries) any least
dead_step version i entries e before least any_before any within is dead any_is least_is held =
    let same = sym (live_same version i entries e within is dead) in
    let first : IsLeastOf (live_sequences version (take (i + 1) entries)) (if_any any_before before) = subst (λ (ns : List ℤ). IsLeastOf ns (if_any any_before before)) same held.0 in
    let here : (if_any any_before before) ≡ if_any any least = ap (λ b. if_any b before) (sym any_is) ∙ ap (if_any any) (sym least_is) in
    (subst (λ (o : Option ℤ). IsLeastOf (live_sequences version (take (i + 1) entries)) o) here first, λ none. least_is ∙ held.1 (sym any_is ∙ none))
