-- What the calls of a manifest's feeder leave and answer.
use Rattle.std.specs.Prelude.{IfErr, IfOk, MatchResult}
use Rattle.std.proofs.Common.{◌≡◌, ◌⊎◌, inl, inr, ℕ, ◌-◌, ◌^◌, ◌<◌, Bool, true, false, List, [], ◌∷◌, ◌++◌, length, Option, None, Result, Ok, Err, refl, sym, ap, subst, ◌∙◌, arith}
use Rattle.std.proofs.lemmas.List.{append-nil, length-append}
use Rattle.lake_basics.specs.Outcome.{◌>>=◌, FailsUnlessMemory, GivesUnlessMemory, with_front}
use Rattle.avro_schema.specs.Tree.{SchemaTree}
use Rattle.avro_value.specs.ValueTree.{ValueTree}
use Rattle.avro_value.specs.declared.api.TheConstants.{MAX_VALUES}
use Rattle.avro_value.proofs.FaultLaws.{bind_err, err_is}
use Rattle.avro_value.proofs.NumberLaws.{bind_ok, ok_is}
use Rattle.avro_container.specs.declared.error.ContainerError.{ContainerError}
use Rattle.avro_feeding.specs.Feeding.{Fed, State, answer_by, fed, found_in, joined, schema_of_state, told}
use Rattle.avro_feeding.proofs.PieceLemmas.{pieces_join}
use Rattle.iceberg_manifest.specs.Containers.{StandsFor, container_error}
use Rattle.iceberg_manifest.specs.Entry.{EntryData}
use Rattle.iceberg_manifest.specs.Errors.{is_memory}
use Rattle.iceberg_manifest.specs.Scans.{entries_of}
use Rattle.iceberg_manifest.specs.declared.error.ManifestError.{ManifestError}
use Rattle.iceberg_manifest.specs.declared.error.ManifestError.TheVariants as errors
use Rattle.iceberg_manifest.specs.declared.partition.PartColumn.{PartColumn}
use Rattle.iceberg_manifest.proofs.ContainerLaws.{fails}
use Rattle.iceberg_manifest_feeding.specs.Feeding.{HasRead, SoFar}
use Rattle.iceberg_manifest_feeding.specs.Order.{IsFaultWithin, IsRefusedInOrder}
use Rattle.iceberg_manifest_feeding.specs.Steps.{Entries, ended_by, entries_at_end, entries_found, entries_in, unless_refused}
use Rattle.iceberg_manifest_feeding.proofs.EndLaws.{fault_end, found_end, read_whole}
use Rattle.iceberg_manifest_feeding.proofs.FaultLaws.{within}
use Rattle.iceberg_manifest_feeding.proofs.OrderLaws.{read_or_refused, read_sound, refused_once}
use Rattle.iceberg_manifest_feeding.proofs.ReadLaws.{has, piece_more, state_more}

-- ---- errors

fails_by : {B : Type 0} (b : Bool) (e : ManifestError) (reading : Result B ManifestError) → reading ≡ Err e → FailsUnlessMemory b e reading
fails_by true e reading is = tt
fails_by false e reading is = is

pub fails_so : {B : Type 0} (e : ManifestError) (reading : Result B ManifestError) → (e ≡ errors.Memory) ⊎ (reading ≡ Err e) → FailsUnlessMemory (is_memory e) e reading
fails_so e reading (inl memory) = subst (λ (d : ManifestError). FailsUnlessMemory (is_memory d) d reading) (sym memory) tt
fails_so e reading (inr is) = fails_by (is_memory e) e reading is

-- ---- the values of a piece

-- No more bytes make no more of it.
nothing_more : (xs ys : List (List ValueTree)) → xs ≡ xs ++ ys → ys ≡ []
nothing_more xs ys is = empty ys (omega (arith, ap length is, length-append xs ys))
  where
    empty : (zs : List (List ValueTree)) → length zs ≡ 0 → zs ≡ []
    empty [] none = refl
    empty (z ∷ zs) none = absurd (omega (arith, none))

pub nothing_fed : (s : State) (piece : List ℕ) → fed (fed s piece).0 [] ≡ ((fed s piece).0, [])
nothing_fed s piece =
    let q = fed s piece in
    let same : q ≡ ((fed q.0 []).0, q.1 ++ (fed q.0 []).1) = ap (fed s) (sym (append-nil piece)) ∙ pieces_join s piece [] in
    let none : (fed q.0 []).1 ≡ [] = nothing_more q.1 (fed q.0 []).1 (ap (λ (r : Fed). r.1) same) in
    let state : (fed q.0 []).0 ≡ q.0 = sym (ap (λ (r : Fed). r.0) same) in
    λ i. (state i, none i)

told_values : (s : State) (blocks : List (List ValueTree)) (vs : List ValueTree) → answer_by s (found_in blocks) ≡ Ok vs → joined blocks ≡ vs
told_values (Ok place) [] vs is = ok_is [] vs is
told_values (Err refused) [] vs is = absurd (cc)
told_values s (b ∷ blocks) vs is = ok_is (joined (b ∷ blocks)) vs is

pub values_told : (q : Fed) (vs : List ValueTree) → told q ≡ Ok vs → joined q.1 ≡ vs
values_told q vs is = told_values q.0 q.1 vs is

-- Nothing is refused behind the blocks, or this is.
waits_told : (s : State) (es : List EntryData) (vs : List ValueTree) → answer_by s None ≡ Ok vs → unless_refused es s ≡ Ok es
waits_told (Ok place) es vs is = refl
waits_told (Err refused) es vs is = absurd (cc)

last_told : (s : State) (es : List EntryData) (d : ContainerError) → answer_by s None ≡ Err d → unless_refused es s ≡ Err (container_error d)
last_told (Ok place) es d is = absurd (cc)
last_told (Err refused) es d is = ap (λ (e : ContainerError). Err (container_error e)) (err_is refused.error d is)

module _ (columns : List PartColumn) (s : State) (piece : List ℕ) where
  -- what was found of the values, by the schema that is known then
  found_is : (schema : Option SchemaTree) (vs : List ValueTree) → schema ≡ schema_of_state (fed s piece).0 → joined (fed s piece).1 ≡ vs → entries_found columns (schema_of_state (fed s piece).0) (joined (fed s piece).1) ≡ entries_found columns schema vs
  found_is schema vs known values = ap (λ (o : Option SchemaTree). entries_found columns o (joined (fed s piece).1)) (sym known) ∙ ap (entries_found columns schema) values

  last_is : (schema : Option SchemaTree) (vs : List ValueTree) (es : List EntryData) → schema ≡ schema_of_state (fed s piece).0 → told (fed s piece) ≡ Ok vs → entries_found columns schema vs ≡ Ok es → entries_in columns (fed s piece) ≡ unless_refused es (fed s piece).0
  last_is schema vs es known is found = ap (λ (r : Entries). r >>= λ all. unless_refused all (fed s piece).0) (found_is schema vs known (values_told (fed s piece) vs is) ∙ found)

  told_again : (now : State) → now ≡ (fed s piece).0 → told (fed now []) ≡ answer_by (fed s piece).0 None
  told_again now same = ap (λ (t : State). told (fed t [])) same ∙ ap told (nothing_fed s piece)

  module _ (now : State) (schema : Option SchemaTree) (vs : List ValueTree) (es : List EntryData) (same : now ≡ (fed s piece).0) (known : schema ≡ schema_of_state now) (is : told (fed s piece) ≡ Ok vs) (found : entries_found columns schema vs ≡ Ok es) where
    at_last : entries_in columns (fed s piece) ≡ unless_refused es (fed s piece).0
    at_last = last_is schema vs es (known ∙ ap schema_of_state same) is found

    -- A refusal behind the blocks is told by the next call.
    pub last_refused : (e : ManifestError) → (e ≡ errors.Memory) ⊎ ((d : ContainerError) × (told (fed now []) ≡ Err d) × (e ≡ container_error d)) → FailsUnlessMemory (is_memory e) e (entries_in columns (fed s piece))
    last_refused e (inl memory) = fails_so e (entries_in columns (fed s piece)) (inl memory)
    last_refused e (inr (d, last, error)) = fails_so e (entries_in columns (fed s piece)) (inr (at_last ∙ last_told (fed s piece).0 es d (sym (told_again now same) ∙ last) ∙ ap Err (sym error)))

    pub all_read : (ws : List ValueTree) → told (fed now []) ≡ Ok ws → entries_in columns (fed s piece) ≡ Ok es
    all_read ws last = at_last ∙ waits_told (fed s piece).0 es ws (sym (told_again now same) ∙ last)

  pub state_stays : (now next : State) → now ≡ (fed s piece).0 → next ≡ (fed now []).0 → next ≡ (fed s piece).0
  state_stays now next same is = is ∙ ap (λ (t : State). (fed t []).0) same ∙ ap (λ (r : Fed). r.0) (nothing_fed s piece)

-- ---- one piece more

module _ {A : Type 0} (view : A → SoFar) (columns : List PartColumn) (bytes : List ℕ) where
  module _ (piece : List ℕ) (now : SoFar) (h : HasRead columns bytes now) where
    pub piece_read : (r : Result A ManifestError) → GivesUnlessMemory is_memory (λ f. (view f).entries) r (with_front now.entries (entries_in columns (fed now.container piece))) → IfOk r (λ f. (view f).container ≡ (fed now.container piece).0)
        → IfOk r (λ f. HasRead columns (bytes ++ piece) (view f))
    piece_read (Ok f) gives state = has columns (bytes ++ piece) (view f) (piece_more columns bytes piece now h ∙ gives) (state ∙ sym (state_more columns bytes piece now h))
    piece_read (Err e) gives state = tt

    pub piece_refused : (r : Result A ManifestError) → GivesUnlessMemory is_memory (λ f. (view f).entries) r (with_front now.entries (entries_in columns (fed now.container piece))) → length (bytes ++ piece) < 2 ^ 64 - 1
        → IfErr r (λ e. (e ≡ errors.Memory) ⊎ IsFaultWithin columns (bytes ++ piece) e)
    piece_refused (Ok f) gives small = tt
    piece_refused (Err e) gives small = elim (fails e (with_front now.entries (entries_in columns (fed now.container piece))) gives) [
      | inl memory ↦ inl memory
      | inr is ↦ inr (within columns (bytes ++ piece) e small (piece_more columns bytes piece now h ∙ is))
    ]

  pub told_first : (r : Result A ManifestError) (e : ManifestError) → IfOk r (λ f. HasRead columns bytes (view f)) → IfErr r (λ d. (d ≡ errors.Memory) ⊎ IsFaultWithin columns bytes d) → IsFaultWithin columns bytes e → (r ≡ Err e) ⊎ (r ≡ Err errors.Memory)
  told_first (Ok f) e h k fault = absurd (read_sound columns bytes (view f) e h fault)
  told_first (Err d) e h (inl memory) fault = inr (ap Err memory)
  told_first (Err d) e h (inr w) fault = inl (ap Err (refused_once columns bytes d e (inl w) (inl fault)))

-- ---- the end

module _ (columns : List PartColumn) (bytes : List ℕ) where
  module _ (now : SoFar) (h : HasRead columns bytes now) (small : length bytes < 2 ^ 64 - 1) where
    pub end_found : (r : Entries) → GivesUnlessMemory is_memory (λ es. es) r (entries_at_end columns now.entries now.container) → IfOk r (λ es. StandsFor MAX_VALUES (entries_of columns) bytes es)
    end_found (Ok es) gives =
        let end = bind_ok (ended_by columns now.container) (λ _. Ok now.entries) es gives in
        subst (λ (found : List EntryData). StandsFor MAX_VALUES (entries_of columns) bytes found) (ok_is now.entries es end.2) (found_end columns bytes now h small end.1)
    end_found (Err e) gives = tt

    pub end_refused : (r : Entries) → GivesUnlessMemory is_memory (λ es. es) r (entries_at_end columns now.entries now.container) → IfErr r (λ e. (e ≡ errors.Memory) ⊎ IsRefusedInOrder columns bytes e)
    end_refused (Ok es) gives = tt
    end_refused (Err e) gives = elim (fails e (entries_at_end columns now.entries now.container) gives) [
      | inl memory ↦ inl memory
      | inr is ↦ elim (bind_err (ended_by columns now.container) (λ _. Ok now.entries) e is) [
        | inl failed ↦ inr (inr (fault_end columns bytes now e h small failed))
        | inr end ↦ absurd (let no = end.2 in cc)
      ]
    ]

  pub end_only : (r : Entries) (es : List EntryData) → IfOk r (λ found. StandsFor MAX_VALUES (entries_of columns) bytes found) → IfErr r (λ e. (e ≡ errors.Memory) ⊎ IsRefusedInOrder columns bytes e) → StandsFor MAX_VALUES (entries_of columns) bytes es
      → MatchResult r (λ found. found ≡ es) (λ e. e ≡ errors.Memory)
  end_only (Ok found) es h k s = ok_is found es (sym (read_whole columns bytes found h).read ∙ (read_whole columns bytes es s).read)
  end_only (Err e) es h (inl memory) s = memory
  end_only (Err e) es h (inr w) s = absurd (read_or_refused columns bytes es e s w)

  pub end_first : (r : Entries) (e : ManifestError) → IfOk r (λ found. StandsFor MAX_VALUES (entries_of columns) bytes found) → IfErr r (λ d. (d ≡ errors.Memory) ⊎ IsRefusedInOrder columns bytes d) → IsRefusedInOrder columns bytes e → (r ≡ Err e) ⊎ (r ≡ Err errors.Memory)
  end_first (Ok found) e h k fault = absurd (read_or_refused columns bytes found e h fault)
  end_first (Err d) e h (inl memory) fault = inr (ap Err memory)
  end_first (Err d) e h (inr w) fault = inl (ap Err (refused_once columns bytes d e w fault))
