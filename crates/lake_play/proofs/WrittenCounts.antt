-- How many files publishing commits adds.
use Rattle.std.proofs.Common.{◌≡◌, ◌≢◌, ◌⊎◌, inl, inr, ℕ, ◌+◌, ◌*◌, ◌≤◌, true, false, List, [], ◌∷◌, length, map, Contains, is_some, sym, ap, subst, ◌∙◌, arith}
use Rattle.std.specs.Prelude.{IsSome}
use Rattle.std.specs.FinMap as finite
use Rattle.std.specs.List.{AllByRecursion, list_any}
use Rattle.std.specs.Str.{bytes_eq}
use Rattle.std.proofs.lemmas.Bool.{cases_Bool, false≢true}
use Rattle.std.proofs.lemmas.Cmp.{nat_list_eq_equiv}
use Rattle.std.proofs.lemmas.Map.Views.{Contains-from_any, list_any-from_Contains}
use Rattle.std.proofs.lemmas.Slice.Eq.{bytes_eq-Decides}
use Rattle.conformance.specs.Drill.{numbers_under}
use Rattle.conformance.proofs.Numbers.{in_map, length_map}
use Rattle.hudi_commit.specs.Names.{Stage, StaysOrGoes, completed_path, pending_path, properties_path}
use Rattle.iceberg_table.specs.Folder.{path_of, version_path}
use Rattle.iceberg_version.specs.Names.{list_name, manifest_name, staged_name}
use Rattle.iceberg_version.specs.Writing.{TableEnd, next_version}
use Rattle.lake_store.specs.Disk.{Files}
use Rattle.lake_store.proofs.DiskLaws.{path_cases}
use Rattle.table_history.proofs.RowListLemmas.{Contains-head, Contains-tail}
use Rattle.table_history.specs.declared.table.Commit.{Commit}
use Rattle.target_core.specs.Views.{Origin}
use Rattle.target_core.specs.Written.{AreWritten}
use Rattle.target_hudi.specs.Writes as hudi
use Rattle.target_hudi.specs.declared.kept.HudiKept.{HudiKept}
use Rattle.target_iceberg.specs.Writes as iceberg
use Rattle.lake_play.proofs.FileCounts.{grown_count}

-- ---- one commit

-- the four paths that a commit of Hudi has
abbrev hudi_paths : List ℕ → List (List ℕ)
hudi_paths time = completed_path time ∷ (pending_path Stage.Requested time ∷ (pending_path Stage.Inflight time ∷ (properties_path ∷ [])))

module _ (name : List ℕ) (kept : HudiKept) (before : Files) (origin : Origin) (now : ℕ) (commit : Commit) (after : Files) (writes : hudi.Writes name kept before origin now commit after) where
  abbrev time : List ℕ
  time = writes.time

  old_hudi : (q : List ℕ) → IsSome (finite.get after q) → StaysOrGoes before after q → IsSome (finite.get before q)
  old_hudi q there (inl same) = ap is_some (sym same) ∙ there
  old_hudi q there (inr gone) = cc (sym there ∙ ap is_some gone.1)

  from_hudi : (q : List ℕ) → IsSome (finite.get after q) → (q ≡ completed_path time) ⊎ (q ≢ completed_path time) → (q ≡ pending_path Stage.Requested time) ⊎ (q ≢ pending_path Stage.Requested time) → (q ≡ pending_path Stage.Inflight time) ⊎ (q ≢ pending_path Stage.Inflight time)
      → (q ≡ properties_path) ⊎ (q ≢ properties_path) → Contains (hudi_paths time) q ⊎ IsSome (finite.get before q)
  from_hudi q there (inl is) b c d = inl (subst (Contains (hudi_paths time)) (sym is) (Contains-head (completed_path time) (pending_path Stage.Requested time ∷ (pending_path Stage.Inflight time ∷ (properties_path ∷ [])))))
  from_hudi q there (inr not_first) (inl is) c d = inl (subst (Contains (hudi_paths time)) (sym is) (Contains-tail (completed_path time) (pending_path Stage.Requested time ∷ (pending_path Stage.Inflight time ∷ (properties_path ∷ []))) (pending_path Stage.Requested time)
      (Contains-head (pending_path Stage.Requested time) (pending_path Stage.Inflight time ∷ (properties_path ∷ [])))))
  from_hudi q there (inr not_first) (inr not_requested) (inl is) d = inl (subst (Contains (hudi_paths time)) (sym is) (Contains-tail (completed_path time) (pending_path Stage.Requested time ∷ (pending_path Stage.Inflight time ∷ (properties_path ∷ []))) (pending_path Stage.Inflight time)
      (Contains-tail (pending_path Stage.Requested time) (pending_path Stage.Inflight time ∷ (properties_path ∷ [])) (pending_path Stage.Inflight time) (Contains-head (pending_path Stage.Inflight time) (properties_path ∷ [])))))
  from_hudi q there (inr not_first) (inr not_requested) (inr not_inflight) (inl is) = inl (subst (Contains (hudi_paths time)) (sym is) (Contains-tail (completed_path time) (pending_path Stage.Requested time ∷ (pending_path Stage.Inflight time ∷ (properties_path ∷ []))) properties_path
      (Contains-tail (pending_path Stage.Requested time) (pending_path Stage.Inflight time ∷ (properties_path ∷ [])) properties_path (Contains-tail (pending_path Stage.Inflight time) (properties_path ∷ []) properties_path (Contains-head properties_path [])))))
  from_hudi q there (inr not_first) (inr not_requested) (inr not_inflight) (inr not_properties) = inr (old_hudi q there (writes.others q not_first pending (λ first. not_properties)))
    where
      pending : (stage : Stage) → q ≢ pending_path stage time
      pending Stage.Requested = not_requested
      pending Stage.Inflight = not_inflight

  pub hudi_one : finite.len after ≤ finite.len before + 4
  hudi_one =
      grown_count before after (hudi_paths time)
      (λ q there. from_hudi q there (path_cases q (completed_path time)) (path_cases q (pending_path Stage.Requested time)) (path_cases q (pending_path Stage.Inflight time)) (path_cases q properties_path))

module _ (end : TableEnd) (before : Files) (origin : Origin) (now : ℕ) (commit : Commit) (after : Files) (writes : iceberg.Writes end before origin now commit after) where
  abbrev version : ℕ
  version = next_version end

  abbrev manifest_at : ℕ → List ℕ
  manifest_at number = path_of (manifest_name version number)

  abbrev manifest_paths : List (List ℕ)
  manifest_paths = map manifest_at (numbers_under (length writes.written.texts))

  abbrev list_path : List ℕ
  list_path = path_of (list_name version)

  abbrev iceberg_paths : List (List ℕ)
  iceberg_paths = version_path version ∷ (list_path ∷ manifest_paths)

  from_iceberg : (q : List ℕ) → IsSome (finite.get after q) → (q ≡ version_path version) ⊎ (q ≢ version_path version) → (q ≡ list_path) ⊎ (q ≢ list_path) → (q ≡ path_of (staged_name version)) ⊎ (q ≢ path_of (staged_name version))
      → (list_any (bytes_eq q) manifest_paths ≡ true) ⊎ (list_any (bytes_eq q) manifest_paths ≡ false) → Contains iceberg_paths q ⊎ IsSome (finite.get before q)
  from_iceberg q there (inl is) b c d = inl (subst (Contains iceberg_paths) (sym is) (Contains-head (version_path version) (list_path ∷ manifest_paths)))
  from_iceberg q there (inr not_first) (inl is) c d = inl (subst (Contains iceberg_paths) (sym is) (Contains-tail (version_path version) (list_path ∷ manifest_paths) list_path (Contains-head list_path manifest_paths)))
  from_iceberg q there (inr not_first) (inr not_list) (inl is) d = absurd (cc (sym there ∙ ap is_some (ap (finite.get after) is ∙ writes.staged)))
  from_iceberg q there (inr not_first) (inr not_list) (inr not_staged) (inl found) =
      inl (Contains-tail (version_path version) (list_path ∷ manifest_paths) q (Contains-tail list_path manifest_paths q (Contains-from_any {eq = bytes_eq} (λ a b. (bytes_eq-Decides a b).0) q manifest_paths found)))
  from_iceberg q there (inr not_first) (inr not_list) (inr not_staged) (inr none) =
      inr (ap is_some (sym (writes.others q not_first not_list (λ number less is.
      false≢true (sym none ∙ list_any-from_Contains nat_list_eq_equiv q manifest_paths (subst (Contains manifest_paths) (sym is) (in_map manifest_at (length writes.written.texts) number less)))) not_staged)) ∙ there)

  pub iceberg_one : finite.len after ≤ finite.len before + (iceberg.most_manifests commit.change + 2)
  iceberg_one =
      let grown = grown_count before after iceberg_paths
      (λ q there. from_iceberg q there (path_cases q (version_path version)) (path_cases q list_path) (path_cases q (path_of (staged_name version))) (cases_Bool (list_any (bytes_eq q) manifest_paths))) in
      let count = length_map manifest_at (length writes.written.texts) in
      let few = writes.few in
      omega (arith, grown, count, few)

-- ---- one behind the other

-- so many for each commit
abbrev pub total : (Commit → ℕ) → List Commit → ℕ
total most [] = 0
total most (commit ∷ commits) = most commit + total most commits

pub all_written : {K : Type 0} (stands_for : K → Files → Type 0) (writes : K → Files → Commit → Files → Type 0) (most : Commit → ℕ)
    → ((kept : K) (before : Files) (commit : Commit) (after : Files) → writes kept before commit after → finite.len after ≤ finite.len before + most commit)
    → (commits : List Commit) (kept last : K) (before after : Files) → AreWritten stands_for writes kept before commits last after → finite.len after ≤ finite.len before + total most commits
all_written stands_for writes most each [] kept last before after written = let same = ap finite.len written.1 in omega (arith, same)
all_written stands_for writes most each (commit ∷ commits) kept last before after written =
    let first = each kept before commit written.1 written.2 in
    let rest = all_written stands_for writes most each commits written.0 last written.1 after written.4 in
    omega (arith, first, rest)

-- each adds no more than this
pub total_most : (most : Commit → ℕ) (bound : ℕ) (commits : List Commit) → AllByRecursion (λ commit. most commit ≤ bound) commits → total most commits ≤ bound * length commits
total_most most bound [] all = omega arith
total_most most bound (commit ∷ commits) all =
    let first = all.0 in
    let rest = total_most most bound commits all.1 in
    let sum : bound * length (commit ∷ commits) ≡ bound + bound * length commits = omega arith in
    omega (arith, first, rest, sum)
