-- What lies beside a part has stayed since a moment, also behind calls in the part.
use Rattle.std.proofs.Common.{◌≡◌, inl, inr, ⊎_elim, ℕ, List, sym, ◌∙◌, ◌≤◌, subst, arith}
use Rattle.lake_store.specs.Disk.{Disk, Files}
use Rattle.lake_store.specs.Runs.{Keeps, KeepsImage, LeavesAlone}
use Rattle.lake_store.specs.declared.store.Store.{Ghosts}
use Rattle.lake_store.proofs.RunLaws.{NowOnly, keeps_crash, keeps_first}
use Rattle.lake_batch.specs.Fence.{HasStayed, IsFenced}
use Rattle.lake_batch.specs.Part.{IsBeside, PartElapses, StaysBeside, part_files}

module _ {S : Type 0} (store : Ghosts S) (folder : List ℕ) where
  -- a run that leaves the paths beside the part alone is one since its start
  pub fenced_since : (old new : S) → StaysBeside store folder old new → IsFenced store folder (store.disk old) (store.time old) (store.left_since old) new
  fenced_since old new beside told =
      let run : LeavesAlone store (IsBeside folder) old new = beside told in
      record { disk = run.disk; later = run.moments.later; each = run.moments.each; before = run.moments.before }

  pub since_fenced : (old new : S) → IsFenced store folder (store.disk old) (store.time old) (store.left_since old) new → StaysBeside store folder old new
  since_fenced old new fenced told =
      let stayed : HasStayed store folder (store.disk old) (store.time old) (store.left_since old) new = fenced told in
      record { disk = stayed.disk; moments = record { later = stayed.later; each = stayed.each; before = stayed.before } }

  -- at the moment itself
  pub fenced_first : NowOnly store → (s : S) (first : Disk) (start : ℕ) (left : ℕ → Files → Type 0) → store.disk s ≡ first → store.time s ≡ start → ((t : ℕ) (image : Files) → store.left_since s t image → left t image) → IsFenced store folder first start left s
  fenced_first only_now s first start left disk_is time_is left_is told = record {
    disk = subst (λ (d : Disk). Keeps (IsBeside folder) d (store.disk s)) disk_is (keeps_first (IsBeside folder) (store.disk s));
    later = subst (λ n. n ≤ store.time s) time_is (omega arith);
    each = λ image was_left.
        subst (λ (d : Disk). KeepsImage (IsBeside folder) d image) disk_is
        (keeps_crash (IsBeside folder) (store.disk s) (store.disk s) image (keeps_first (IsBeside folder) (store.disk s)) (only_now s image told (subst (λ t. store.left_since s t image) (sym time_is) was_left)));
    before = λ t image le was_left. inl (left_is t image was_left);
  }

  -- one call more
  pub fenced_more : (first : Disk) (start : ℕ) (left : ℕ → Files → Type 0) (old new : S) → IsFenced store folder first start left old → StaysBeside store folder old new → IsFenced store folder first start left new
  fenced_more first start left old new fenced beside told =
      let stayed : HasStayed store folder first start left old = fenced told in
      let run : LeavesAlone store (IsBeside folder) old new = beside told in
      let kept : (image : Files) → KeepsImage (IsBeside folder) (store.disk old) image → KeepsImage (IsBeside folder) first image =
      λ image keeps q k c. keeps q k (stayed.disk.clean q k c) ∙ stayed.disk.files q k in
      record {
        disk = record {
          files = λ q k. run.disk.files q k ∙ stayed.disk.files q k;
          clean = λ q k c. run.disk.clean q k (stayed.disk.clean q k c);
        };
        later = omega (arith, stayed.later, run.moments.later);
        each = λ image was_left. ⊎_elim (stayed.each image) (kept image) (run.moments.before start image stayed.later was_left);
        before = λ t image le was_left. ⊎_elim (stayed.before t image le) (λ keeps. inr (kept image keeps)) (run.moments.before t image (omega (arith, le, stayed.later)) was_left);
      }

  -- where the folder and the store are known under other names
  pub fenced_call : (first : Disk) (start : ℕ) (left : ℕ → Files → Type 0) (here : List ℕ) (old new : S) → here ≡ folder → IsFenced store folder first start left old → StaysBeside store here old new → IsFenced store folder first start left new
  fenced_call first start left here old new is fenced beside = fenced_more first start left old new fenced (subst (λ f. StaysBeside store f old new) is beside)

  pub fenced_files : (here : List ℕ) (inside old new : S) → here ≡ folder → inside ≡ old → (P : Files → Files → Type 0) → P (part_files here (store.disk inside).files) (part_files here (store.disk new).files)
      → P (part_files folder (store.disk old).files) (part_files folder (store.disk new).files)
  fenced_files here inside old new is same P has = subst (λ f. P (part_files f (store.disk old).files) (part_files f (store.disk new).files)) is
      (subst (λ s. P (part_files here (store.disk s).files) (part_files here (store.disk new).files)) same has)

  pub fenced_elapses : (here : List ℕ) (inside old new : S) → here ≡ folder → inside ≡ old → PartElapses store here inside new → PartElapses store folder old new
  fenced_elapses here inside old new is same call = subst (λ f. PartElapses store f old new) is (subst (λ s. PartElapses store here s new) same call)
