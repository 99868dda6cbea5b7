-- What the files read as while a version is published: as before, or with that version behind.
use Rattle.std.proofs.Common.{◌≡◌, ◌≢◌, ◌⊎◌, inl, inr, ⊎_elim, ℕ, suc, ◌<◌, ◌≤◌, List, Option, Some, None, refl, sym, ap, subst, ◌∙◌, arith}
use Rattle.std.specs.Prelude.{IsSome}
use Rattle.std.proofs.lemmas.Bool.{cases_lt}
use Rattle.std.specs.FinMap as map
use Rattle.lake_basics.specs.declared.limits.TheConstants.{MAX_DELTA_VERSION}
use Rattle.lake_basics.proofs.Options.{none_there}
use Rattle.lake_store.specs.Disk.{Disk, Files}
use Rattle.lake_store.specs.Publication.{IsStaged, IsStagedImage}
use Rattle.lake_store.proofs.DiskLaws.{path_cases}
use Rattle.table_history.specs.declared.table.Change.{Change}
use Rattle.table_history.specs.declared.table.Table.{Table}
use Rattle.delta_log.specs.declared.commit.DeltaCommit.{DeltaCommit}
use Rattle.delta_table.specs.Log.{IsLog, IsStep, SaysCommit}
use Rattle.delta_table.specs.Versions.{HoldsVersion, IsVersionPath}
use Rattle.delta_table.proofs.LogLaws.{live_rows}
use Rattle.target_core.specs.Views.{Standing, View}
use Rattle.target_core.proofs.StoreAnswers.{dirty_or_clean}
use Rattle.target_delta.specs.Names.{HasVersions, IsLeftover, IsLeftoverName, IsSettled, path_of}
use Rattle.target_delta.specs.Reading.{IsCarried, IsMarkAt, IsOurs, Reads}
use Rattle.target_delta.specs.NameLemmas.{name_in, never_leftover, same_behind, version_of_path}
use Rattle.delta_table.specs.SameVersions.{SameVersions}
use Rattle.target_delta.specs.LogLemmas.{id_below, log_below}
use Rattle.target_delta.specs.ReadingLemmas.{reads_too, version_clean}

-- Every version but the one that is published is as before, and so is each name but leftovers and that version's.
pub record IsBeside (name : List ℕ) (old new : Files) : Type 0 where
  pub versions : (path : List ℕ) (version : ℕ) → path ≢ name → IsVersionPath path version → map.get new path ≡ map.get old path
  pub names : (other : List ℕ) → path_of other ≢ name → IsSome (map.get new (path_of other)) → IsLeftoverName other ⊎ IsSome (map.get old (path_of other))

leftover_name : (other : List ℕ) → IsLeftover (path_of other) → IsLeftoverName other
leftover_name other left = subst (λ (n : List ℕ). IsLeftoverName n) (sym (same_behind other left.name (path_of other) refl left.is)) left.leftover

module _ (staged name bytes : List ℕ) (version : ℕ) (named : IsVersionPath name version) (left : IsLeftover staged) (Taken : Type 0) where
  apart_staged : (path : List ℕ) (v : ℕ) → IsVersionPath path v → path ≢ staged
  apart_staged path v is same = never_leftover path v is (subst IsLeftover (sym same) left)

  pub staged_beside : (old new : Disk) → IsStaged staged name bytes Taken old new → IsBeside name old.files new.files
  staged_beside old new is = record {
    versions = λ path v apart path_is. is.others path (apart_staged path v path_is) apart;
    names = λ other apart there. ⊎_elim
        (λ (same : path_of other ≡ staged). inl (leftover_name other (subst IsLeftover (sym same) left)))
        (λ (ns : path_of other ≢ staged). inr (subst (λ (o : Option (List ℕ)). IsSome o) (is.others (path_of other) ns apart) there))
        (path_cases (path_of other) staged);
  }

  pub image_beside : (old : Disk) (image : Files) → IsSettled old → IsStagedImage staged name bytes Taken old image → IsBeside name old.files image
  image_beside old image settled is = record {
    versions = λ path v apart path_is. is.others path (apart_staged path v path_is) apart (version_clean old path v settled path_is);
    names = λ other apart there. ⊎_elim
        (λ dirty. inl (leftover_name other (settled.leftovers (path_of other) (name_in other) dirty)))
        (λ clean. ⊎_elim
        (λ (same : path_of other ≡ staged). inl (leftover_name other (subst IsLeftover (sym same) left)))
        (λ (ns : path_of other ≢ staged). inr (subst (λ (o : Option (List ℕ)). IsSome o) (is.others (path_of other) ns apart clean) there))
        (path_cases (path_of other) staged))
        (dirty_or_clean old (path_of other));
  }

module _ (name : List ℕ) (version : ℕ) (named : IsVersionPath name version) (old new : Files) (free : map.get old name ≡ None) (beside : IsBeside name old new) where
  -- ---- it isn't there

  pub same_versions : map.get new name ≡ None → SameVersions old new
  same_versions none path v is = ⊎_elim
      (λ (same : path ≡ name). ap (λ (p : List ℕ). map.get new p) same ∙ none ∙ sym free ∙ ap (λ (p : List ℕ). map.get old p) (sym same))
      (λ (apart : path ≢ name). beside.versions path v apart is)
      (path_cases path name)

  pub reads_before : map.get new name ≡ None → (view : View) → Reads old view → Reads new view
  reads_before none view reads = reads_too old new (same_versions none) view (λ other there. ⊎_elim
      (λ (same : path_of other ≡ name). absurd (none_there (map.get new (path_of other)) (ap (λ (p : List ℕ). map.get new p) same ∙ none) there))
      (λ (apart : path_of other ≢ name). beside.names other apart there)
      (path_cases (path_of other) name)) reads

  -- ---- the versions before it

  pub below : (path : List ℕ) (v : ℕ) → v < version → IsVersionPath path v → map.get new path ≡ map.get old path
  below path v lt is = beside.versions path v (λ (same : path ≡ name). let one : v ≡ version = version_of_path name v version (subst (λ (p : List ℕ). IsVersionPath p v) same is) named in absurd (omega (arith, lt, one))) is

  pub says_below : (v : ℕ) (c : DeltaCommit) → v < version → SaysCommit old v c → SaysCommit new v c
  says_below v c lt h = record { bytes = h.bytes; holds = record { path = h.holds.path; is = h.holds.is; there = below h.holds.path v lt h.holds.is ∙ h.holds.there }; readable = h.readable }

  marked_below : (v : ℕ) (s : Standing) → v < version → IsMarkAt old v s → IsMarkAt new v s
  marked_below v s lt h = record { commit = h.commit; read = says_below v h.commit lt h.read; mark = h.mark; has = h.has; at = h.at; is = h.is }

  pub carried_below : (id : List ℕ) (number : ℕ) (change : Change) (s : Standing) → number ≤ version → IsCarried id old number change s → IsCarried id new number change s
  carried_below id number change s le h =
      let is = h.is in
      let lt : h.version < version = omega (arith, le, is) in
      record {
        version = h.version;
        is = h.is;
        commit = h.commit;
        read = says_below h.version h.commit lt h.read;
        meta = h.meta;
        stated = h.stated;
        keeps = id_below id old new h.version h.meta.id (λ path v less path_is. below path v (omega (arith, less, lt)) path_is) h.keeps;
        schema = h.schema;
        spelled = h.spelled;
        columns = h.columns;
        kinds = h.kinds;
        adds = h.adds;
        removes = h.removes;
        marked = marked_below h.version s lt h.marked;
      }

  -- ---- it is there

  module _ (versions : HasVersions old version) (within : version ≤ MAX_DELTA_VERSION) (bytes : List ℕ) (there : map.get new name ≡ Some bytes) where
    holds_now : HoldsVersion new version bytes
    holds_now = record { path = name; is = named; there = there }

    pub versions_now : HasVersions new (suc version)
    versions_now = record {
      within = omega (arith, within);
      there = λ v lt. elim (cases_lt v version) [
        | inl less ↦ let was = versions.there v less in (was.0, record { path = was.1.path; is = was.1.is; there = below was.1.path v less was.1.is ∙ was.1.there })
        | inr ge ↦ let same : version ≡ v = omega (arith, lt, ge) in (bytes, subst (λ (n : ℕ). HoldsVersion new n bytes) same holds_now)
      ];
      none = λ v le has.
          let apart : has.1.path ≢ name = λ (same : has.1.path ≡ name). let one : v ≡ version = version_of_path name v version (subst (λ (p : List ℕ). IsVersionPath p v) same has.1.is) named in absurd (omega (arith, le, one)) in
          versions.none v (omega (arith, le)) (has.0, record { path = has.1.path; is = has.1.is; there = sym (beside.versions has.1.path v apart has.1.is) ∙ has.1.there });
    }

    pub ours_now : (view next : View) (base : Option Table) (c : DeltaCommit) (standing : Standing) → IsLog old version base → SaysCommit new version c → IsStep c base next.table → next.commits ≡ suc version → next.mark ≡ Some standing → IsMarkAt new version standing → IsOurs new next
    ours_now view next base c standing log says step count mark marked =
        let longer : IsLog new (suc version) (Some next.table) = (base, log_below old new version base below log, c, says, next.table, step, refl) in
        record {
          newest = version;
          count = count;
          versions = versions_now;
          log = longer;
          live = live_rows new (suc version) next.table longer;
          standing = standing;
          mark = mark;
          marked = marked;
        }
