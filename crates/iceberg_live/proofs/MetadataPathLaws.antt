-- The path of a manifest list or a manifest, and the fault of a name that has none.
use Rattle.std.proofs.Common.{◌≡◌, ℕ, ◌⊎◌, inl, inr, ⊎_elim, List, ◌++◌, codes, Bool, true, false, cond, Option, None, Some, is_some, Result, Ok, Err, IfOk, IfErr, MatchResult, refl, sym, ap, subst, ◌∙◌}
use Rattle.lake_basics.specs.Outcome.{GivesUnlessMemory}
use Rattle.table_history.specs.Path.{IsPath, is_path}
use Rattle.table_history.proofs.PathTests.{path_decided}
use Rattle.iceberg_manifest.specs.Errors.{is_memory}
use Rattle.iceberg_metadata.specs.Location.{front_of, NamesPath, behind}
use Rattle.iceberg_live.specs.MetadataPaths.{LiesInMetadata, IsMetadataPath, HasPathFault, in_table, metadata_path_of}
use Rattle.iceberg_manifest.specs.declared.error.ManifestError.{ManifestError}
use Rattle.iceberg_manifest.specs.declared.error.ManifestError.TheVariants as errors
use Rattle.iceberg_manifest.proofs.ContainerLaws.{fails, same_ok, clash}
use Rattle.iceberg_metadata.proofs.LocationLemmas.{behind_found, behind_given}

-- ---- the folder `metadata`

lies_by : (path : List ℕ) (o : Option (List ℕ)) → behind (codes "metadata/") path ≡ o → is_some o ≡ true → LiesInMetadata path
lies_by path None is h = absurd (cc)
lies_by path (Some name) is h = (name, behind_found (codes "metadata/") path name is)

lies_found : (path : List ℕ) → is_some (behind (codes "metadata/") path) ≡ true → LiesInMetadata path
lies_found path h = lies_by path (behind (codes "metadata/") path) refl h

lies_given : (path : List ℕ) → LiesInMetadata path → is_some (behind (codes "metadata/") path) ≡ true
lies_given path lies = ap (λ p. is_some (behind (codes "metadata/") p)) lies.1 ∙ ap is_some (behind_given (codes "metadata/") lies.0)

lies_not : (path : List ℕ) → is_some (behind (codes "metadata/") path) ≡ false → LiesInMetadata path → ⊥
lies_not path h lies = let there = lies_given path lies in absurd (cc)

-- ---- found

given_by : (path found : List ℕ) (form there : Bool) → is_path path ≡ form → is_some (behind (codes "metadata/") path) ≡ there → cond form (cond there (Ok path) (Err errors.OutsideTable)) (Err errors.Malformed) ≡ Ok found → (path ≡ found) × IsPath path × LiesInMetadata path
given_by path found true true is lies h = let same : path ≡ found = cc in (same, (path_decided path).0 is, lies_found path lies)
given_by path found true false is lies h = absurd (cc)
given_by path found false there is lies h = absurd (cc)

module _ (location file : List ℕ) where
  found_by : (path : List ℕ) (o : Option (List ℕ)) → behind (front_of location) file ≡ o → in_table o ≡ Ok path → IsMetadataPath location file path
  found_by path None is h = absurd (cc)
  found_by path (Some rest) is h =
      let got = given_by rest path (is_path rest) (is_some (behind (codes "metadata/") rest)) refl refl h in
      subst (IsMetadataPath location file) got.0 (record { place = behind_found (front_of location) file rest is; form = got.1; within = got.2 })

  path_found : (path : List ℕ) → metadata_path_of location file ≡ Ok path → IsMetadataPath location file path
  path_found path h = found_by path (behind (front_of location) file) refl h

  -- what is left of a name that begins with the location
  left : (rest : List ℕ) → file ≡ front_of location ++ rest → behind (front_of location) file ≡ Some rest
  left rest place = ap (behind (front_of location)) place ∙ behind_given (front_of location) rest

  path_given : (path : List ℕ) → IsMetadataPath location file path → metadata_path_of location file ≡ Ok path
  path_given path is =
      let form : is_path path ≡ true = (path_decided path).1 is.form in
      let there = lies_given path is.within in
      ap in_table (left path is.place) ∙ rw (form, there) refl

  -- ---- refused

  fault_by : (rest : List ℕ) (e : ManifestError) (form there : Bool) → behind (front_of location) file ≡ Some rest → is_path rest ≡ form → is_some (behind (codes "metadata/") rest) ≡ there
      → cond form (cond there (Ok rest) (Err errors.OutsideTable)) (Err errors.Malformed) ≡ Err e → HasPathFault location file e
  fault_by rest e true true at is lies h = absurd (cc)
  fault_by rest e true false at is lies h =
      let same : errors.OutsideTable ≡ e = cc in
      subst (HasPathFault location file) same (names, outside)
    where
      one : (other : List ℕ) → file ≡ front_of location ++ other → rest ≡ other
      one other place = let there = left other place in cc

      names : NamesPath location file
      names other place = subst IsPath (one other place) ((path_decided rest).0 is)

      outside : (path : List ℕ) → file ≡ front_of location ++ path → LiesInMetadata path → ⊥
      outside path place within = lies_not rest lies (subst LiesInMetadata (sym (one path place)) within)
  fault_by rest e false there at is lies h =
      let same : errors.Malformed ≡ e = cc in
      subst (HasPathFault location file) same (rest, behind_found (front_of location) file rest at, no_path)
    where
      no_path : IsPath rest → ⊥
      no_path form = let is_too = (path_decided rest).1 form in absurd (cc)

  refused_by : (e : ManifestError) (o : Option (List ℕ)) → behind (front_of location) file ≡ o → in_table o ≡ Err e → HasPathFault location file e
  refused_by e None is h =
      let same : errors.OutsideTable ≡ e = cc in
      subst (HasPathFault location file) same (λ rest place. absurd (elsewhere rest place), λ path place within. elsewhere path place)
    where
      elsewhere : (rest : List ℕ) → file ≡ front_of location ++ rest → ⊥
      elsewhere rest place = let there = left rest place in absurd (cc)
  refused_by e (Some rest) is h = fault_by rest e (is_path rest) (is_some (behind (codes "metadata/") rest)) is refl refl h

  path_refused : (e : ManifestError) → metadata_path_of location file ≡ Err e → HasPathFault location file e
  path_refused e h = refused_by e (behind (front_of location) file) refl h

  -- a name with a fault has no path
  no_path : (e : ManifestError) → HasPathFault location file e → (path : List ℕ) → IsMetadataPath location file path → ⊥
  no_path errors.Malformed f path is =
      let there = left f.0 f.1 in
      let here = left path is.place in
      let same : path ≡ f.0 = cc in
      f.2 (subst IsPath same is.form)
  no_path errors.OutsideTable f path is = f.1 path is.place is.within
  no_path errors.Memory f path is = f
  no_path errors.Codec f path is = f
  no_path errors.RowDeletes f path is = f
  no_path errors.FileFormat f path is = f
  no_path (errors.Limit which) f path is = f

  -- a name has one fault
  one_fault : (d e : ManifestError) → HasPathFault location file d → HasPathFault location file e → d ≡ e
  one_fault errors.Malformed errors.Malformed f g = refl
  one_fault errors.OutsideTable errors.OutsideTable f g = refl
  one_fault errors.Malformed errors.OutsideTable f g = absurd (f.2 (g.0 f.0 f.1))
  one_fault errors.OutsideTable errors.Malformed f g = absurd (g.2 (f.0 g.0 g.1))
  one_fault errors.Memory e f g = absurd f
  one_fault errors.Codec e f g = absurd f
  one_fault errors.RowDeletes e f g = absurd f
  one_fault errors.FileFormat e f g = absurd f
  one_fault (errors.Limit which) e f g = absurd f
  one_fault d errors.Memory f g = absurd g
  one_fault d errors.Codec f g = absurd g
  one_fault d errors.RowDeletes f g = absurd g
  one_fault d errors.FileFormat f g = absurd g
  one_fault d (errors.Limit which) f g = absurd g

  -- ---- the call

  pub found : (r : Result (List ℕ) ManifestError) → GivesUnlessMemory is_memory (λ p. p) r (metadata_path_of location file) → IfOk r (IsMetadataPath location file)
  found (Ok path) h = path_found path h
  found (Err e) h = tt

  pub refused : (r : Result (List ℕ) ManifestError) → GivesUnlessMemory is_memory (λ p. p) r (metadata_path_of location file) → IfErr r (λ e. (e ≡ errors.Memory) ⊎ HasPathFault location file e)
  refused (Ok path) h = tt
  refused (Err e) h = ⊎_elim (λ m. inl m) (λ f. inr (path_refused e f)) (fails e (metadata_path_of location file) h)

  pub only : (r : Result (List ℕ) ManifestError) → GivesUnlessMemory is_memory (λ p. p) r (metadata_path_of location file)
      → (path : List ℕ) → IsMetadataPath location file path → MatchResult r (λ found. found ≡ path) (λ e. e ≡ errors.Memory)
  only (Ok found) h path is = same_ok (metadata_path_of location file) found path h (path_given path is)
  only (Err e) h path is = ⊎_elim (λ m. m) (λ f. absurd (clash (metadata_path_of location file) path e (path_given path is) f)) (fails e (metadata_path_of location file) h)

  pub first : (r : Result (List ℕ) ManifestError) → GivesUnlessMemory is_memory (λ p. p) r (metadata_path_of location file)
      → (e : ManifestError) → HasPathFault location file e → (r ≡ Err e) ⊎ (r ≡ Err errors.Memory)
  first (Ok path) h e fault = absurd (no_path e fault path (path_found path h))
  first (Err d) h e fault = ⊎_elim (λ m. inr (ap Err m)) (λ f. inl (ap Err (one_fault d e (path_refused d f) fault))) (fails d (metadata_path_of location file) h)
