-- A Delta target without a version that was staged.
use Rattle.std.proofs.Common.{◌≡◌, ⊎_elim, ℕ, List, ◌||◌, Bool, false, sym, ap, subst, ◌∙◌}
use Rattle.std.proofs.lemmas.Bool.{false≢true}
use Rattle.std.specs.Cmp.Lexicographic.{slice_cmp, nat_list_cmp_total}
use Rattle.std.specs.FinMap as map
use Rattle.std.specs.FinSet as set
use Rattle.std.specs.Ordering.{nat_cmp}
use Rattle.lake_store.specs.Disk.{Disk, Files, IsDirty, Paths}
use Rattle.lake_store.proofs.DiskLaws.{contains-insert_other, get-remove_other, path_cases, path_here}
use Rattle.table_history.specs.declared.kind.Kind.TheVariants.{Delta}
use Rattle.delta_table.specs.Versions.{log_folder}
use Rattle.target_core.specs.Folders.{MayLeaveIn}
use Rattle.target_core.specs.Step.{IsBefore}
use Rattle.target_core.specs.Views.{View}
use Rattle.target_delta.specs.DeltaMeaning.{delta_meaning}
use Rattle.target_delta.specs.Names.{IsLeftover, IsSettled}
use Rattle.target_delta.specs.Reading.{Reads}
use Rattle.target_delta.specs.ReadingLemmas.{crash_carries, crash_reads}
use Rattle.target_leftovers.specs.Leftovers.{IsDeltaLeftover}
use Rattle.target_leftovers.specs.Loose.{IsLoose}

leftover_too : (path : List ℕ) → IsDeltaLeftover path → IsLeftover path
leftover_too path h = record { name = h.name; leftover = record { digits = h.named.digits; len = h.named.len; numeral = h.named.numeral; split = h.named.split }; is = h.is }

abbrev none : Paths
none = set.empty

-- the disk where just this path is dirty, of which a crash may remove the file
abbrev disk : Files → List ℕ → Disk
disk files path = record { files = files; dirty = set.insert none path }

module _ (files : Files) (path : List ℕ) (leftover : IsLeftover path) where
  only_dirty : (q : List ℕ) → IsDirty (disk files path) q → q ≡ path
  only_dirty q dirty = ⊎_elim (λ same. same) (λ other. absurd (false≢true (sym (contains-insert_other none path q other ∙ set.contains-empty (slice_cmp nat_cmp) q) ∙ dirty))) (path_cases q path)

  settled : IsSettled (disk files path)
  settled = record { leftovers = λ q within dirty. subst IsLeftover (sym (only_dirty q dirty)) leftover }

  here : IsDirty (disk files path) path
  here = set.contains-insert nat_list_cmp_total none path path ∙ ap (λ (t : Bool). t || set.contains none path) (path_here path)

  left : MayLeaveIn log_folder (disk files path) (map.remove files path)
  left q within clean = get-remove_other files path q (λ (same : q ≡ path). false≢true (sym (subst (λ (p : List ℕ). set.contains (set.insert none path) p ≡ false) same clean) ∙ here))

pub reads_without : (new : List ℕ) (files : Files) (view : View) (path : List ℕ) → Reads files view → IsLoose Delta files path → IsBefore (delta_meaning new) view files (map.remove files path)
reads_without new files view path reads loose =
    let leftover = leftover_too path loose.leftover.leftover in
    let d = disk files path in
    let is_settled = settled files path leftover in
    let is_left = left files path leftover in
    record {
      reads = crash_reads d (map.remove files path) is_settled is_left view reads;
      earlier = λ c change m le h. crash_carries d (map.remove files path) is_settled is_left new c change m h;
    }
