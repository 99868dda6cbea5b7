-- What depends on the folder alone, and what a crash leaves of a settled target.
use Rattle.std.proofs.Common.{◌≡◌, inl, inr, ⊎_elim, ℕ, ◌<◌, List, [], length, refl, sym, ap, subst, ◌∙◌, arith}
use Rattle.std.specs.FinSet as set
use Rattle.std.specs.Ordering.{nat_cmp}
use Rattle.std.specs.Cmp.Lexicographic.{slice_cmp}
use Rattle.lake_store.specs.Disk.{Disk, Files, IsClean, IsDirty}
use Rattle.lake_store.specs.Runs.{IsIn}
use Rattle.table_history.specs.declared.table.Change.{Change}
use Rattle.hudi_table.specs.Files.{SaysProperties}
use Rattle.hudi_table.specs.declared.instants.CompletedInstant.{CompletedInstant}
use Rattle.hudi_table.specs.declared.properties.Properties.{Properties}
use Rattle.hudi_commit.specs.Names.{IsLeftover, IsThere, claim_path, completed_path, pending_path, properties_path, timeline_folder, timeline_path}
use Rattle.hudi_commit.specs.Orderly.{IsAlike, IsOrderly, IsSameTimeline}
use Rattle.hudi_commit.specs.Settled.{IsSettled, Stands, StandsAt}
use Rattle.hudi_commit.proofs.OrderlyLaws.{there}
use Rattle.hudi_commit.proofs.StepLaws.{dirt_cases, dirty_clean, folder_crash_stands, in_timeline}
use Rattle.target_core.specs.Folders.{MayLeaveIn, SameIn, after_crash}
use Rattle.target_core.specs.Views.{Standing, View, absent}
use Rattle.target_hudi.specs.Reading.{IsCarried, IsSettledTarget, Reads, commits_in, completed_in}
use Rattle.target_hudi.specs.InstantLemmas.{completed_same, same_sym}
use Rattle.target_hudi.specs.ReadingLemmas.{carried_too, orderly, reads_too, same_alike, says_properties_too}
use Rattle.target_hudi.specs.ViewLemmas.{commits_read}

-- ---- the same folder

pub own_timeline : (a b : Files) → SameIn timeline_folder a b → IsSameTimeline a b
own_timeline a b same = record { completed = λ name proper is. same (timeline_path name) (in_timeline name); properties = same properties_path (in_timeline _) }

pub own_sym : (a b : Files) → SameIn timeline_folder a b → SameIn timeline_folder b a
own_sym a b same path within = sym (same path within)

-- a file of the folder is there in both
pub own_there : (a b : Files) → SameIn timeline_folder a b → (path : List ℕ) → IsIn timeline_folder path → IsThere a path → IsThere b path
own_there a b same path within found = there a b path (same path within) found

own_whole : (a b : Files) → SameIn timeline_folder a b → IsOrderly a → IsOrderly b
own_whole a b same h = record {
  pending = λ s name open_ proper says found. h.pending s name open_ proper says (own_there b a (own_sym a b same) (timeline_path name) (in_timeline name) found);
  claimed = λ stage instant digits found. ⊎_elim
      (λ claim. inl (own_there a b same (claim_path instant) (in_timeline _) claim))
      (λ done. inr (own_there a b same (completed_path instant) (in_timeline _) done))
      (h.claimed stage instant digits (own_there b a (own_sym a b same) (pending_path stage instant) (in_timeline _) found));
  properties = λ s name proper says found. own_there a b same properties_path (in_timeline _) (h.properties s name proper says (own_there b a (own_sym a b same) (timeline_path name) (in_timeline name) found));
}

pub reads_own : (a b : Files) (v : View) → SameIn timeline_folder a b → Reads a v → Reads b v
reads_own a b v same reads = reads_too a b v (own_timeline a b same) (own_whole a b same (orderly a v reads)) reads

pub completed_own : (a b : Files) → SameIn timeline_folder a b → completed_in b ≡ completed_in a
completed_own a b same = completed_same a b (own_timeline a b same)

pub commits_own : (a b : Files) → SameIn timeline_folder a b → commits_in b ≡ commits_in a
commits_own a b same = ap (λ (cs : List CompletedInstant). length cs) (completed_own a b same)

pub carries_own : (a b : Files) (number : ℕ) (change : Change) (s : Standing) → SameIn timeline_folder a b → IsCarried a number change s → IsCarried b number change s
carries_own a b number change s same h = carried_too a b (own_timeline a b same) number change s h

-- ---- settled

-- A settled target's properties say the same in files that a reader sees the same.
settled_by : (a b : Disk) → IsSameTimeline a.files b.files → IsSettledTarget a → IsSettled b → IsSettledTarget b
settled_by a b same h timeline =
    let count : commits_in b.files ≡ commits_in a.files = ap (λ (cs : List CompletedInstant). length cs) (completed_same a.files b.files same) in
    let before : 0 < commits_in b.files → 0 < commits_in a.files = λ some. subst (λ n. 0 < n) count some in
    let says : (p : Properties) → SaysProperties b.files p → SaysProperties a.files p = λ p is. says_properties_too b.files a.files (same_sym a.files b.files same) p is in
    record { timeline = timeline; hive_style = λ p some is. h.hive_style p (before some) (says p is); url_encode = λ p some is. h.url_encode p (before some) (says p is) }

clean_timeline : (disk : Disk) → ((path : List ℕ) → IsIn timeline_folder path → IsClean disk path) → IsSettled disk
clean_timeline disk clean = record {
  leftovers = λ path within dirty. dirty_clean disk path dirty (clean path within);
  claim_first = λ instant digits dirty. dirty_clean disk (claim_path instant) dirty (clean (claim_path instant) (in_timeline _));
  pending_next = λ stage instant digits dirty. dirty_clean disk (pending_path stage instant) dirty (clean (pending_path stage instant) (in_timeline _));
}

-- without a commit and without dirty paths
pub settled_absent : (disk : Disk) → Reads disk.files (absent []) → ((path : List ℕ) → IsIn timeline_folder path → IsClean disk path) → IsSettledTarget disk
settled_absent disk reads clean =
    let count = commits_read disk.files (absent []) reads in
    record { timeline = clean_timeline disk clean; hive_style = λ p some is. absurd (omega (arith, count, some)); url_encode = λ p some is. absurd (omega (arith, count, some)) }

module _ (a b : Disk) (same : SameIn timeline_folder a.files b.files) (fewer : (path : List ℕ) → IsIn timeline_folder path → IsClean a path → IsClean b path) where
  dirty_before : (path : List ℕ) → IsIn timeline_folder path → IsDirty b path → IsDirty a path
  dirty_before path within dirty = ⊎_elim (λ was. was) (λ clean. dirty_clean b path dirty (fewer path within clean)) (dirt_cases a path)

  timeline_own : IsSettled a → IsSettled b
  timeline_own h = record {
    leftovers = λ path within dirty. h.leftovers path within (dirty_before path within dirty);
    claim_first = λ instant digits dirty.
        let first = h.claim_first instant digits (dirty_before (claim_path instant) (in_timeline _) dirty) in
        record { absent = λ stage. same (pending_path stage instant) (in_timeline _) ∙ first.absent stage; clean = λ stage. fewer (pending_path stage instant) (in_timeline _) (first.clean stage) };
    pending_next = λ stage instant digits dirty.
        let next = h.pending_next stage instant digits (dirty_before (pending_path stage instant) (in_timeline _) dirty) in
        record {
          real = next.real;
          claim = own_there a.files b.files same (claim_path instant) (in_timeline _) next.claim;
          durable = fewer (claim_path instant) (in_timeline _) next.durable;
          properties = own_there a.files b.files same properties_path (in_timeline _) next.properties;
        };
  }

  pub settled_own : IsSettledTarget a → IsSettledTarget b
  settled_own h = settled_by a b (own_timeline a.files b.files same) h (timeline_own h.timeline)

-- ---- through a crash

-- what is no leftover stays
pub kept_clean : (disk : Disk) → IsSettled disk → (path : List ℕ) → IsIn timeline_folder path → (IsLeftover path → ⊥) → IsClean disk path
kept_clean disk settled path within free = ⊎_elim (λ dirty. absurd (free (settled.leftovers path within dirty))) (λ clean. clean) (dirt_cases disk path)

module _ (disk : Disk) (image : Files) (settled : IsSettledTarget disk) (left : MayLeaveIn timeline_folder disk image) where
  crash_alike : IsAlike disk.files image
  crash_alike path within free = left path within (kept_clean disk settled.timeline path within free)

  crash_timeline : IsSameTimeline disk.files image
  crash_timeline = same_alike disk.files image crash_alike

  crash_stands : (v : View) → Reads disk.files v → StandsAt disk.files image
  crash_stands v reads =
      let stands : Stands disk.files disk = record { orderly = orderly disk.files v reads; alike = λ path within free. refl; settled = settled.timeline } in
      folder_crash_stands disk.files disk stands image left

  pub crash_reads : (v : View) → Reads disk.files v → Reads image v
  crash_reads v reads = reads_too disk.files image v crash_timeline (crash_stands v reads).orderly reads

  pub crash_carries : (number : ℕ) (change : Change) (s : Standing) → IsCarried disk.files number change s → IsCarried image number change s
  crash_carries number change s h = carried_too disk.files image crash_timeline number change s h

  pub crash_settled : IsSettledTarget (after_crash image)
  crash_settled = settled_by disk (after_crash image) crash_timeline settled (clean_timeline (after_crash image) (λ path within. set.contains-empty (slice_cmp nat_cmp) path))
