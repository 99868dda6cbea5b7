-- What each step of a publication leaves, and what a crash then leaves.
use Rattle.std.proofs.Common.{◌≡◌, ◌≢◌, ◌⊎◌, inl, inr, List, ℕ, refl, sym, ◌∙◌, ap, subst, ⊎_elim}
use Rattle.std.specs.Prelude.{None, Some, Result, IsErrOf, IsSome, is_some, OnErr, OnOk, false}
use Rattle.std.specs.FinMap as map
use Rattle.std.specs.FinSet as set
use Rattle.lake_store.specs.Disk.{Disk, Files, IsClean, IsPartlySynced, MayLeave, Moves, SameElsewhere, moved, stored, synced, written}
use Rattle.lake_store.specs.Moments.{Elapses}
use Rattle.lake_store.specs.Publication.{IsAbsentOrWhole, IsPublished, IsStaged, IsStagedImage, IsTaken}
use Rattle.lake_store.specs.Runs.{IsEachMoment, Keeps, KeepsImage}
use Rattle.lake_store.specs.declared.store.Store.{Ghosts}
use Rattle.lake_store.specs.declared.store.StoreError.{StoreError}
use Rattle.lake_store.specs.declared.store.StoreError.TheVariants.{Taken}
use Rattle.std.proofs.lemmas.Result.{on_ok_weaker}
use Rattle.lake_store.proofs.DiskLaws.{get-insert_here, get-insert_other, get-remove_here, get-remove_other, contains-remove_here, contains-remove_other, clean-synced, path_cases}
use Rattle.lake_store.proofs.RunLaws.{IsRun, NowOnly, begins, keeps_crash, keeps_elsewhere, keeps_first, keeps_sync, publishes, syncs, writes}
use Rattle.lake_store.proofs.MomentLaws.{goes_on, weaker}

module _ (staged name bytes : List ℕ) (Contest : Type 0) (first : Disk) (apart : staged ≢ name) where
  abbrev I : Disk → Type 0
  I disk = IsStaged staged name bytes Contest first disk

  name_apart : name ≢ staged
  name_apart same = apart (sym same)

  along : (a b : Files) → map.get a name ≡ map.get b name → IsAbsentOrWhole name bytes Contest b → IsAbsentOrWhole name bytes Contest a
  along a b same (inl none) = inl (same ∙ none)
  along a b same (inr (inl whole)) = inr (inl (same ∙ whole))
  along a b same (inr (inr taken)) = inr (inr taken)

  pub crashed : (disk : Disk) (image : Files) → I disk → MayLeave disk image → IsStagedImage staged name bytes Contest first image
  crashed disk image is may = record {
    file = λ clean. along image disk.files (may name (is.clean name name_apart clean)) is.file;
    others = λ q ns nn clean. may q (is.clean q ns clean) ∙ is.others q ns nn;
  }

  pub at_entry : map.get first.files name ≡ None → I first
  at_entry free = record { file = inl free; others = λ q ns nn. refl; clean = λ q ns clean. clean }

  pub after_write : (old new : Disk) → I old → SameElsewhere staged old new → I new
  after_write old new is same = record {
    file = along new.files old.files (same.files name name_apart) is.file;
    others = λ q ns nn. same.files q ns ∙ is.others q ns nn;
    clean = λ q ns clean. same.dirty q ns ∙ is.clean q ns clean;
  }

  pub after_sync : (old new : Disk) → I old → IsPartlySynced old new → I new
  after_sync old new is part = record {
    file = along new.files old.files (ap (λ (m : Files). map.get m name) part.files) is.file;
    others = λ q ns nn. ap (λ (m : Files). map.get m q) part.files ∙ is.others q ns nn;
    clean = λ q ns clean. part.clean q (is.clean q ns clean);
  }

  clean_but : (disk : Disk) → I disk → (q : List ℕ) → q ≢ staged → IsClean first q → set.contains (set.remove disk.dirty name) q ≡ false
  clean_but disk is q ns clean = ⊎_elim
      (λ here. subst (λ p. set.contains (set.remove disk.dirty name) p ≡ false) (sym here) (contains-remove_here disk.dirty name))
      (λ nn. contains-remove_other disk.dirty name q nn ∙ is.clean q ns clean) (path_cases q name)

  pub after_move : (disk : Disk) → map.get disk.files staged ≡ Some bytes → I disk → (b : List ℕ) → map.get disk.files staged ≡ Some b → I (moved disk staged name b)
  after_move disk whole is b had =
      let same : b ≡ bytes = cc (sym had ∙ whole) in
      record {
        file = inr (inl (get-insert_here _ name b ∙ ap (λ x. Some x) same));
        others = λ q ns nn. get-insert_other _ name b q nn ∙ get-remove_other disk.files staged q ns ∙ is.others q ns nn;
        clean = clean_but disk is;
      }

  pub after_contest : (disk : Disk) → I disk → (b : List ℕ) → Contest → I (stored disk name b)
  after_contest disk is b taken = record {
    file = inr (inr taken);
    others = λ q ns nn. get-insert_other _ name b q nn ∙ is.others q ns nn;
    clean = clean_but disk is;
  }

  pub published : (disk : Disk) → I disk → map.get disk.files staged ≡ Some bytes → ((q : List ℕ) → IsClean disk q) → (new : Disk) → Moves staged name disk new → IsPublished staged name bytes first new
  published disk is whole clean new moves =
      let same : moves.0 ≡ bytes = cc (sym moves.1 ∙ whole) in
      subst (IsPublished staged name bytes first) (sym (moves.2 ∙ ap (λ b. moved disk staged name b) same)) (record {
        file = get-insert_here _ name bytes;
        gone = get-insert_other _ name bytes staged apart ∙ get-remove_here disk.files staged;
        others = λ q ns nn. get-insert_other _ name bytes q nn ∙ get-remove_other disk.files staged q ns ∙ is.others q ns nn;
        clean = λ q. ⊎_elim
            (λ here. subst (λ p. set.contains (set.remove disk.dirty name) p ≡ false) (sym here) (contains-remove_here disk.dirty name))
            (λ nn. contains-remove_other disk.dirty name q nn ∙ clean q) (path_cases q name);
      })

-- a file that was written and synced
module _ (first written_disk disk : Disk) (staged bytes : List ℕ) (is_written : written_disk ≡ written first staged bytes) (is_synced : disk ≡ synced written_disk) where
  pub staged_whole : map.get disk.files staged ≡ Some bytes
  staged_whole = ap (λ (d : Disk). map.get d.files staged) (is_synced ∙ ap synced is_written) ∙ get-insert_here first.files staged bytes

  pub all_clean : (q : List ℕ) → IsClean disk q
  all_clean q = subst (λ d. IsClean d q) (sym is_synced) (clean-synced written_disk q)

  pub name_free : (name : List ℕ) → name ≢ staged → map.get first.files name ≡ None → map.get disk.files name ≡ None
  name_free name apart free = ap (λ (d : Disk). map.get d.files name) (is_synced ∙ ap synced is_written) ∙ get-insert_other first.files staged bytes name apart ∙ free

-- the run of the three calls
module _ {S : Type 0} (store : Ghosts S) (only_now : NowOnly store) (s₀ s₁ : S) (staged name bytes : List ℕ) (apart : staged ≢ name) (free : store.tells → map.get (store.disk s₀).files name ≡ None)
    {W : Type 0} (write : Result W StoreError) (write_ok : store.tells → OnOk write (store.disk s₁ ≡ written (store.disk s₀) staged bytes)) (write_err : store.tells → OnErr write (SameElsewhere staged (store.disk s₀) (store.disk s₁)))
    (write_elapses : store.tells → Elapses store.disk store.time store.left_since s₀ s₁) where
  abbrev Run : Type 0 → S → Type 0
  Run Contest s = store.tells → IsRun store (IsStaged staged name bytes Contest (store.disk s₀)) (IsStagedImage staged name bytes Contest (store.disk s₀)) s₀ s

  module _ (Contest : Type 0) where
    abbrev P : Files → Type 0
    P = IsStagedImage staged name bytes Contest (store.disk s₀)

    abbrev J : Disk → Type 0
    J = IsStaged staged name bytes Contest (store.disk s₀)

    crash : (d : Disk) (image : Files) → J d → MayLeave d image → P image
    crash = crashed staged name bytes Contest (store.disk s₀) apart

    pub run₁ : Run Contest s₁
    run₁ = writes store only_now J P crash s₀ s₀ s₁ (begins store only_now J P crash s₀ (λ told. at_entry staged name bytes Contest (store.disk s₀) apart (free told))) write_elapses
        write staged bytes write_ok write_err (after_write staged name bytes Contest (store.disk s₀) apart)

  module _ (s₂ : S) {W₂ : Type 0} (sync : Result W₂ StoreError) (sync_ok : store.tells → OnOk sync (store.disk s₂ ≡ synced (store.disk s₁))) (sync_err : store.tells → OnErr sync (IsPartlySynced (store.disk s₁) (store.disk s₂)))
      (sync_elapses : store.tells → Elapses store.disk store.time store.left_since s₁ s₂) where
    module _ (Contest : Type 0) where
      pub run₂ : Run Contest s₂
      run₂ = syncs store only_now (J Contest) (P Contest) (crash Contest) s₀ s₁ s₂ (run₁ Contest) sync_elapses sync sync_ok sync_err (after_sync staged name bytes Contest (store.disk s₀) apart)

    -- where both calls answered `Ok`
    module _ (is_written : store.tells → store.disk s₁ ≡ written (store.disk s₀) staged bytes) (is_synced : store.tells → store.disk s₂ ≡ synced (store.disk s₁)) where
      pub whole : store.tells → map.get (store.disk s₂).files staged ≡ Some bytes
      whole told = staged_whole (store.disk s₀) (store.disk s₁) (store.disk s₂) staged bytes (is_written told) (is_synced told)

      pub there : store.tells → IsSome (map.get (store.disk s₂).files staged)
      there told = ap is_some (whole told)

      pub durable : store.tells → IsClean (store.disk s₂) staged
      durable told = all_clean (store.disk s₀) (store.disk s₁) (store.disk s₂) staged bytes (is_written told) (is_synced told) staged

      pub still_free : store.tells → map.get (store.disk s₂).files name ≡ None
      still_free told = name_free (store.disk s₀) (store.disk s₁) (store.disk s₂) staged bytes (is_written told) (is_synced told) name (λ is. apart (sym is)) (free told)

      module _ (s₃ : S) {W₃ : Type 0} (publish : Result W₃ StoreError) (publish_ok : store.tells → OnOk publish (Moves staged name (store.disk s₂) (store.disk s₃)))
          (publish_taken : store.tells → IsErrOf publish Taken → (b : List ℕ) × (store.disk s₃ ≡ stored (store.disk s₂) name b))
          (publish_err : store.tells → OnErr publish ((IsErrOf publish Taken → ⊥) → (store.disk s₃ ≡ store.disk s₂) ⊎ Moves staged name (store.disk s₂) (store.disk s₃)))
          (publish_elapses : store.tells → Elapses store.disk store.time store.left_since s₂ s₃) where
        pub run₃ : Run (IsErrOf publish Taken) s₃
        run₃ = publishes store only_now (J (IsErrOf publish Taken)) (P (IsErrOf publish Taken)) (crash (IsErrOf publish Taken)) s₀ s₂ s₃ (run₂ (IsErrOf publish Taken)) publish_elapses publish staged name publish_ok publish_taken publish_err
            (λ told. after_move staged name bytes (IsErrOf publish Taken) (store.disk s₀) apart (store.disk s₂) (whole told))
            (λ told. after_contest staged name bytes (IsErrOf publish Taken) (store.disk s₀) apart (store.disk s₂))

        pub is_published : store.tells → OnOk publish (IsPublished staged name bytes (store.disk s₀) (store.disk s₃))
        is_published told = on_ok_weaker publish
            (published staged name bytes (IsErrOf publish Taken) (store.disk s₀) apart (store.disk s₂) (run₂ (IsErrOf publish Taken) told).disk (whole told)
            (all_clean (store.disk s₀) (store.disk s₁) (store.disk s₂) staged bytes (is_written told) (is_synced told)) (store.disk s₃))
            (publish_ok told)

        -- Up to the third call the name stays as it was.
        abbrev Named : List ℕ → Type 0
        Named q = q ≡ name

        abbrev IsFree : Files → Type 0
        IsFree = KeepsImage Named (store.disk s₀)

        name_alone : store.tells → IsRun store (Keeps Named (store.disk s₀)) IsFree s₀ s₂
        name_alone = syncs store only_now (Keeps Named (store.disk s₀)) IsFree (keeps_crash Named (store.disk s₀)) s₀ s₁ s₂
            (writes store only_now (Keeps Named (store.disk s₀)) IsFree (keeps_crash Named (store.disk s₀)) s₀ s₀ s₁
            (begins store only_now (Keeps Named (store.disk s₀)) IsFree (keeps_crash Named (store.disk s₀)) s₀ (λ told. keeps_first Named (store.disk s₀))) write_elapses
            write staged bytes write_ok write_err (keeps_elsewhere Named (store.disk s₀) staged apart)) sync_elapses
            sync sync_ok sync_err (keeps_sync Named (store.disk s₀))

        abbrev IsFreeOr : List ℕ → Files → Type 0
        IsFreeOr theirs image = IsClean (store.disk s₀) name → (map.get image name ≡ None) ⊎ (map.get image name ≡ Some theirs)

        contest_moments : (theirs : List ℕ) → (store.tells → store.disk s₃ ≡ stored (store.disk s₂) name theirs) → store.tells → IsEachMoment store s₀ s₃ (IsFreeOr theirs)
        contest_moments theirs is = goes_on store s₀ s₂ s₃ (IsFreeOr theirs)
            (λ told. weaker store s₀ s₂ IsFree (IsFreeOr theirs) (λ image kept clean. inl (kept name refl clean ∙ free told)) (λ t. (name_alone t).moments) told)
            publish_elapses
            (λ told image may clean. inr (subst (λ d. MayLeave d image) (is told) may name (contains-remove_here (store.disk s₂).dirty name) ∙ get-insert_here (store.disk s₂).files name theirs))

        pub is_taken : store.tells → IsErrOf publish Taken → IsTaken store staged name bytes s₀ s₃
        is_taken told contest =
            let theirs = (publish_taken told contest).0 in
            let is : store.disk s₃ ≡ stored (store.disk s₂) name theirs = (publish_taken told contest).1 in
            let clean : (q : List ℕ) → IsClean (store.disk s₂) q = all_clean (store.disk s₀) (store.disk s₁) (store.disk s₂) staged bytes (is_written told) (is_synced told) in
            record {
              theirs = theirs;
              file = ap (λ (d : Disk). map.get d.files name) is ∙ get-insert_here (store.disk s₂).files name theirs;
              staged_file = ap (λ (d : Disk). map.get d.files staged) is ∙ get-insert_other (store.disk s₂).files name theirs staged apart ∙ whole told;
              others = (run₃ told).disk.others;
              clean = λ q. subst (λ d. IsClean d q) (sym is) (⊎_elim
                  (λ here. subst (λ p. set.contains (set.remove (store.disk s₂).dirty name) p ≡ false) (sym here) (contains-remove_here (store.disk s₂).dirty name))
                  (λ nn. contains-remove_other (store.disk s₂).dirty name q nn ∙ clean q) (path_cases q name));
              moments = contest_moments theirs (λ t. is) told;
            }
