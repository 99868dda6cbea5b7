-- From recovery to the publication.
use Rattle.std.proofs.Common.{◌≡◌, ◌≢◌, ◌⊎◌, inl, inr, ⊎_elim, ℕ, List, refl, sym, ◌∙◌, ap, subst}
use Rattle.std.specs.Prelude.{Option, None, Some, is_some, Result, Ok, Err}
use Rattle.std.specs.FinMap as map
use Rattle.lake_store.specs.Disk.{Disk, Files, IsClean, IsName, synced}
use Rattle.lake_store.specs.declared.store.Store.{Ghosts}
use Rattle.lake_store.specs.declared.store.StoreError.{StoreError}
use Rattle.lake_store.proofs.DiskLaws.{clean-synced}
use Rattle.lake_store.proofs.MomentLaws.{goes_further, weaker}
use Rattle.hudi_names.specs.Time.{IsDigits, IsSomeTime}
use Rattle.hudi_names.specs.declared.name.State.{State}
use Rattle.hudi_names.specs.declared.name.State.TheVariants as state
use Rattle.hudi_commit.specs.Names.{IsInstantIn, IsThere, claim_path, completed_name, completed_path, pending_path, properties_path, timeline_path}
use Rattle.hudi_commit.specs.Orderly.{IsOrderly}
use Rattle.hudi_commit.specs.Runs.{HasProperties, IsAfter, IsAllClean, IsBase, IsBefore, IsBeforeOrAfter, IsCommitted, IsIdle, IsKept, IsKeptBut, IsNext, IsNoFileOf, IsOneStep, IsPrepared, IsPublished, IsQuiet, IsReady, IsRecovered, IsTidied, IsUncontested, StaysBefore, StaysOrGains, announced, claimed, completed, prepared}
use Rattle.hudi_commit.specs.Settled.{IsSettled, Stands, StandsAt}
use Rattle.hudi_commit.proofs.NameLaws.{claim_not_properties, claim_not_staged, completed_instant, completed_is_name, completed_not_properties, completed_stays, not_staged, properties_stay}
use Rattle.hudi_commit.proofs.OpenLaws.{not_of}
use Rattle.hudi_commit.proofs.OrderlyLaws.{orderly_real, there, there_none}
use Rattle.hudi_commit.proofs.PublishLaws.{absent, has_quiet, has_stands, moved_here, quiet_unannounced}
use Rattle.hudi_commit.proofs.RecoveryLaws.{tidied_fewer, tidied_others}
use Rattle.hudi_commit.proofs.StagingLaws.{after_of}
use Rattle.hudi_commit.proofs.StepLaws.{clean_settled}

-- a result that isn't a contest, where it is `Ok`
pub ok_uncontested : {T : Type 0} {x : T} (r : Result T StoreError) → r ≡ Ok x → IsUncontested r
ok_uncontested (Ok x) is = tt
ok_uncontested (Err e) is = absurd (cc is)

-- a synced disk
pub synced_clean : (d e : Disk) → e ≡ synced d → IsAllClean e
synced_clean d e is q = subst (λ x. IsClean x q) (sym is) (clean-synced d q)

pub entry_stands : (d : Disk) → IsOrderly d.files → IsSettled d → Stands d.files d
entry_stands d orderly settled = record { orderly = orderly; alike = λ q inside free. refl; settled = settled }

pub synced_stands : (d e : Disk) → e ≡ synced d → IsOrderly d.files → Stands d.files e
synced_stands d e is orderly = record {
  orderly = subst (λ (x : Disk). IsOrderly x.files) (sym is) orderly;
  alike = λ q inside free. ap (λ (x : Disk). map.get x.files q) is;
  settled = clean_settled e (synced_clean d e is);
}

-- After recovery nothing is pending but completed instants.
pub recovered_idle : (base : Files) (first now : Disk) → IsAllClean first → IsTidied first now → IsRecovered now → Stands base now → IsIdle now
recovered_idle base first now clean tidied recovered stands = record {
  clean = λ q. tidied.clean q (clean q);
  done = λ s t is found. ⊎_elim (recovered t (orderly_real now.files stands.orderly s t is found)) (λ done. done) (stands.orderly.claimed s t is found);
}

-- readiness stays through a sync and the recovery
pub tidied_ready : (properties : Option (List ℕ)) (d₀ d₁ d₂ : Disk) → d₁ ≡ synced d₀ → IsTidied d₁ d₂ → IsReady properties d₀.files → IsReady properties d₂.files
tidied_ready None d₀ d₁ d₂ is tidied ready = there d₁.files d₂.files properties_path (tidied_others d₁ d₂ tidied properties_path properties_stay) (there d₀.files d₁.files properties_path (ap (λ (x : Disk). map.get x.files properties_path) is) ready)
tidied_ready (Some p) d₀ d₁ d₂ is tidied ready = λ name is_name is_in found.
    ready name is_name is_in (there d₁.files d₀.files (timeline_path name) (sym (ap (λ (x : Disk). map.get x.files (timeline_path name)) is)) (tidied_fewer d₁ d₂ tidied (timeline_path name) found))

-- before the first commit no instant's name is there
pub ready_quiet : (base : Files) (p : List ℕ) (d : Disk) → Stands base d → IsIdle d → IsReady (Some p) d.files → IsQuiet d
ready_quiet base p d stands idle ready = record {
  bare = λ way name is_name is_in found. by way name is_name is_in found;
  clean = λ s t is. idle.clean (pending_path s t);
}
  where
    not_pending : (way : State) (name : List ℕ) → way ≢ state.Completed → IsName name → IsInstantIn way name → IsThere d.files (timeline_path name) → ⊥
    not_pending way name open_ is_name is_in found =
        let real = stands.orderly.pending way name open_ is_name is_in found in
        let digits = real.2.1.digits in
        ready (completed_name real.1) (completed_is_name real.1 digits) (completed_instant real.1 digits) (idle.done real.0 real.1 digits (subst (λ n. IsThere d.files (timeline_path n)) real.3 found))

    by : (way : State) (name : List ℕ) → IsName name → IsInstantIn way name → IsThere d.files (timeline_path name) → ⊥
    by state.Completed name is_name is_in found = ready name is_name is_in found
    by state.Requested name is_name is_in found = not_pending state.Requested name (λ e. absurd (cc e)) is_name is_in found
    by state.Inflight name is_name is_in found = not_pending state.Inflight name (λ e. absurd (cc e)) is_name is_in found

pub with_properties_prepared : (base : Files) (p : List ℕ) (old new : Disk) → Stands base old → IsIdle old → IsReady (Some p) old.files → HasProperties p old new → IsPrepared (Some p) base old new
with_properties_prepared base p old new stands idle ready has =
    let quiet = ready_quiet base p old stands idle ready in
    let completed_kept : (t : List ℕ) → IsDigits t → map.get new.files (completed_path t) ≡ map.get old.files (completed_path t) =
    λ t is. has.others (completed_path t) (not_staged (completed_path t) (completed_stays t is)) (completed_not_properties t is) in
    record {
      stands = has_stands base p old stands quiet new has;
      idle = record {
        clean = has.clean;
        done = λ s t is found. there_none new.files (pending_path s t) found ((quiet_unannounced new (has_quiet base p old stands quiet new has) t is).absent s);
      };
      there = ap is_some has.here;
      completed = completed_kept;
      recovered = λ before u real found.
          let is = real.1.digits in
          there old.files new.files (completed_path u) (completed_kept u is)
          (before u real (there new.files old.files (claim_path u) (sym (has.others (claim_path u) (claim_not_staged u is) (claim_not_properties u is))) found));
    }

pub nothing_prepared : (base : Files) (d : Disk) → Stands base d → IsIdle d → IsReady None d.files → IsPrepared None base d d
nothing_prepared base d stands idle ready = record { stands = stands; idle = idle; there = ready; completed = λ t is. refl; recovered = λ before. before }

-- nothing is pending of an instant that isn't completed
pub prepared_next : (properties : Option (List ℕ)) (base : Files) (old new : Disk) (t : List ℕ) → IsDigits t → IsPrepared properties base old new → map.get new.files (completed_path t) ≡ None → IsNext t new
prepared_next properties base old new t is prep free = record {
  unannounced = record {
    absent = λ s. absent new.files (pending_path s t) (λ found. there_none new.files (completed_path t) (prep.idle.done s t is found) free);
    clean = λ s. prep.idle.clean (pending_path s t);
  };
  properties = prep.there;
}

-- the commit as a whole
pub committed : (properties : Option (List ℕ)) (t b : List ℕ) (d₀ d₂ d₃ d₄ : Disk) → IsRecovered d₂ → IsPrepared properties d₀.files d₂ d₃ → IsPublished (prepared properties d₀.files) t b d₃ d₄ → IsCommitted properties t b d₀ d₄
committed properties t b d₀ d₂ d₃ d₄ recovered prep done = record {
  stands = done.stands;
  clean = done.clean;
  pending = done.pending;
  claim = done.claim;
  recovered = done.recovered (prep.recovered recovered);
}

-- the file that is completed
pub completed_here : (t b : List ℕ) (old new : Disk) → new ≡ completed t b old → map.get new.files (completed_path t) ≡ Some b
completed_here t b old new done = ap (λ (d : Disk). map.get d.files (completed_path t)) done ∙ moved_here (announced t (claimed t b old)) (claim_path t) (completed_path t) b

prepared_base : (properties : Option (List ℕ)) (entry : Files) → IsBase properties entry (prepared properties entry)
prepared_base None entry = refl
prepared_base (Some p) entry = inr (inr refl)

module _ {S : Type 0} (store : Ghosts S) (told : store.tells) (properties : Option (List ℕ)) (t b : List ℕ) where
  -- nothing is published yet
  pub before_step : (old new : S) → StaysBefore store properties (store.disk old).files old new → IsOneStep store properties t b old new
  before_step old new run = record {
    settled = run.settled;
    disk = inl run.disk;
    moments = weaker store old new (IsBefore properties (store.disk old).files) (IsBeforeOrAfter properties (store.disk old).files t b) (λ image. inl) (λ _. run.moments) told;
  }

  -- the last run
  pub step_then : (old mid new : S) → StaysBefore store properties (store.disk old).files old mid → StaysOrGains store (prepared properties (store.disk old).files) t b mid new → IsOneStep store properties t b old new
  step_then old mid new run last =
      let entry = (store.disk old).files in
      let at : (image : Files) → StandsAt (prepared properties entry) image → IsBefore properties entry image = λ image stands. record { base = prepared properties entry; is_base = prepared_base properties entry; stands = stands } in
      record {
        settled = ⊎_elim (λ (before : Stands (prepared properties entry) (store.disk new)). before.settled) (λ (after : IsPublished (prepared properties entry) t b (store.disk mid) (store.disk new)). after.stands.settled) last.disk;
        disk = ⊎_elim
            (λ (before : Stands (prepared properties entry) (store.disk new)). inl (at (store.disk new).files (record { orderly = before.orderly; alike = before.alike })))
            (λ (after : IsPublished (prepared properties entry) t b (store.disk mid) (store.disk new)). inr (after_of (prepared properties entry) t b (store.disk mid) (store.disk new) after))
            last.disk;
        moments = goes_further store old mid new (IsBeforeOrAfter properties entry t b)
            (weaker store old mid (IsBefore properties entry) (IsBeforeOrAfter properties entry t b) (λ image. inl) (λ _. run.moments))
            (weaker store mid new (λ image. StandsAt (prepared properties entry) image ⊎ IsAfter (prepared properties entry) t b image) (IsBeforeOrAfter properties entry t b)
            (λ image. ⊎_elim (λ before. inl (at image before)) inr) (λ _. last.moments)) told;
      }

-- ---- what is left alone
pub kept_but : (properties : Option (List ℕ)) (t : List ℕ) (entry : Files) (path : List ℕ) → IsKept properties t entry path → IsKeptBut properties path
kept_but properties t entry path kept = record { staged = λ e. kept.leftover (inl e); given = kept.given }

pub kept_from : (properties : Option (List ℕ)) (t : List ℕ) (entry : Files) → IsSomeTime t → map.get entry (completed_path t) ≡ None → (path : List ℕ) → IsKept properties t entry path → IsNoFileOf t path
kept_from properties t entry real none path kept = record { leftover = not_of entry path t real none kept.leftover; completed = kept.completed }

pub completed_kept_but : (properties : Option (List ℕ)) (t : List ℕ) → IsDigits t → IsKeptBut properties (completed_path t)
completed_kept_but None t is = record { staged = not_staged (completed_path t) (completed_stays t is); given = tt }
completed_kept_but (Some p) t is = record { staged = not_staged (completed_path t) (completed_stays t is); given = completed_not_properties t is }
