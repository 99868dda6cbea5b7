-- What a crash leaves of an instant that another writer completed first.
use Rattle.std.proofs.Common.{◌≡◌, ⊎_elim, inl, inr, ℕ, List, false, refl, sym, ◌∙◌, subst}
use Rattle.std.specs.Prelude.{None}
use Rattle.std.specs.FinMap as map
use Rattle.std.specs.FinSet as set
use Rattle.lake_store.specs.Disk.{Disk, Files, IsClean, stored}
use Rattle.lake_store.specs.Moments.{Elapses}
use Rattle.lake_store.specs.Runs.{IsEachMoment, KeepsImage, LeavesAlone}
use Rattle.lake_store.specs.declared.store.Store.{Ghosts}
use Rattle.lake_store.proofs.DiskLaws.{contains-remove_here, contains-remove_other, path_cases}
use Rattle.lake_store.proofs.MomentLaws.{goes_further, goes_on, weaker}
use Rattle.hudi_names.specs.Time.{IsDigits}
use Rattle.hudi_commit.specs.Names.{IsLeftover, Stage, claim_path, completed_path, pending_path}
use Rattle.hudi_commit.specs.Runs.{IsAllClean, IsNotOf, LacksOrIs}
use Rattle.hudi_commit.proofs.NameLaws.{claim_leftover, completed_stays, pending_leftover}

pub completed_not_of : (t : List ℕ) → IsDigits t → (q : List ℕ) → q ≡ completed_path t → IsNotOf t q
completed_not_of t is q same = ⊎_elim
    (λ (e : q ≡ claim_path t). completed_stays t is (subst IsLeftover (sym e ∙ same) (claim_leftover t is)))
    (λ (p : (stage : Stage) × (q ≡ pending_path stage t)). completed_stays t is (subst IsLeftover (sym p.1 ∙ same) (pending_leftover p.0 t is)))

stored_clean : (d : Disk) (p b q : List ℕ) → IsClean d q → IsClean (stored d p b) q
stored_clean d p b q clean = ⊎_elim
    (λ (here : q ≡ p). subst (λ (r : List ℕ). set.contains (set.remove d.dirty p) r ≡ false) (sym here) (contains-remove_here d.dirty p))
    (λ nn. contains-remove_other d.dirty p q nn ∙ clean)
    (path_cases q p)

module _ {S : Type 0} (store : Ghosts S) (told : store.tells) (t : List ℕ) where
  abbrev pub IsCompleted : List ℕ → Type 0
  IsCompleted path = path ≡ completed_path t

  -- it isn't there before
  pub none_yet : (old mid : S) (now : Files) → map.get (store.disk old).files (completed_path t) ≡ None → LeavesAlone store IsCompleted old mid → IsEachMoment store old mid (LacksOrIs t (store.disk old) now)
  none_yet old mid now free alone =
      weaker store old mid (KeepsImage IsCompleted (store.disk old)) (LacksOrIs t (store.disk old) now) (λ image kept clean. inl (kept (completed_path t) refl clean ∙ free)) (λ _. alone.moments) told

  -- then it comes to a synced disk
  pub theirs_come : (old mid new : S) → map.get (store.disk old).files (completed_path t) ≡ None → LeavesAlone store IsCompleted old mid → IsAllClean (store.disk mid)
      → (store.tells → Elapses store.disk store.time store.left_since mid new) → (to : List ℕ) → (bytes : List ℕ) × (store.disk new ≡ stored (store.disk mid) to bytes) → IsEachMoment store old new (LacksOrIs t (store.disk old) (store.disk new).files)
  theirs_come old mid new free alone clean elapses to came =
      goes_on store old mid new (LacksOrIs t (store.disk old) (store.disk new).files) (λ _. none_yet old mid (store.disk new).files free alone) elapses
      (λ _ image may was. inr (λ path. may path (subst (λ (d : Disk). IsClean d path) (sym came.1) (stored_clean (store.disk mid) to came.0 path (clean path))))) told

  -- after a run that leaves it alone
  pub theirs_after : (old mid new : S) → map.get (store.disk old).files (completed_path t) ≡ None → LeavesAlone store IsCompleted old mid → IsEachMoment store mid new (LacksOrIs t (store.disk mid) (store.disk new).files)
      → IsEachMoment store old new (LacksOrIs t (store.disk old) (store.disk new).files)
  theirs_after old mid new free alone more =
      goes_further store old mid new (LacksOrIs t (store.disk old) (store.disk new).files) (λ _. none_yet old mid (store.disk new).files free alone)
      (weaker store mid new (LacksOrIs t (store.disk mid) (store.disk new).files) (LacksOrIs t (store.disk old) (store.disk new).files) (λ image is clean. is (alone.disk.clean (completed_path t) refl clean)) (λ _. more)) told
