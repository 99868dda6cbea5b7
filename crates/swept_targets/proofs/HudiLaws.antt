-- A Hudi target without a leftover of a stopped commit.
use Rattle.std.proofs.Common.{◌≡◌, ◌≢◌, ◌⊎◌, inl, inr, ⊎_elim, ℕ, List, sym, ap, subst, ◌∙◌}
use Rattle.std.specs.FinMap as map
use Rattle.lake_store.specs.Disk.{Files}
use Rattle.lake_store.proofs.DiskLaws.{get-remove_here, get-remove_other, path_cases}
use Rattle.table_history.specs.declared.kind.Kind.TheVariants.{Hudi}
use Rattle.hudi_names.specs.Time.{IsDigits}
use Rattle.hudi_commit.specs.Names.{IsLeftover, IsThere, Stage, claim_path, completed_path, pending_path, properties_path}
use Rattle.hudi_commit.specs.Orderly.{IsAlike, IsOrderly}
use Rattle.hudi_commit.proofs.NameLaws.{completed_stays, properties_stay}
use Rattle.hudi_commit.proofs.OrderlyLaws.{there, there_none}
use Rattle.target_core.specs.Step.{IsBefore}
use Rattle.target_core.specs.Views.{View}
use Rattle.target_hudi.specs.HudiMeaning.{hudi_meaning}
use Rattle.target_hudi.specs.Reading.{Reads}
use Rattle.target_hudi.specs.ReadingLemmas.{alike_carries, alike_reads, orderly}
use Rattle.target_leftovers.specs.Leftovers.{IsHudiLeftover}
use Rattle.target_leftovers.specs.Loose.{IsLoose}

leftover_too : (files : Files) (path : List ℕ) → IsHudiLeftover files path → IsLeftover path
leftover_too files path (IsHudiLeftover.properties is) = inl is
leftover_too files path (IsHudiLeftover.claim h) = inr (inl (h.instant, h.digits, h.is))
leftover_too files path (IsHudiLeftover.pending h) = inr (inr (h.stage, h.instant, h.digits, h.is))

module _ (files : Files) (path : List ℕ) (loose : IsLoose Hudi files path) where
  abbrev after : Files
  after = map.remove files path

  leftover : IsLeftover path
  leftover = leftover_too files path loose.leftover.leftover

  stays : (q : List ℕ) → q ≢ path → map.get after q ≡ map.get files q
  stays q other = get-remove_other files path q other

  there_before : (q : List ℕ) → IsThere after q → IsThere files q
  there_before q found = ⊎_elim
      (λ (same : q ≡ path). there_none after q found (ap (map.get after) same ∙ get-remove_here files path))
      (λ other. there after files q (sym (stays q other)) found)
      (path_cases q path)

  there_after : (q : List ℕ) → q ≢ path → IsThere files q → IsThere after q
  there_after q other found = there files after q (stays q other) found

  completed_other : (t : List ℕ) → IsDigits t → completed_path t ≢ path
  completed_other t digits same = completed_stays t digits (subst IsLeftover (sym same) leftover)

  claimed_after : (whole : IsOrderly files) (stage : Stage) (t : List ℕ) → IsDigits t → IsThere after (pending_path stage t) → IsThere after (claim_path t) ⊎ IsThere after (completed_path t)
  claimed_after whole stage t digits found = ⊎_elim
      (λ claim. ⊎_elim
      (λ (same : claim_path t ≡ path). ⊎_elim
      (λ done. inr (there_after (completed_path t) (completed_other t digits) done))
      (λ none. absurd (none stage (there_before (pending_path stage t) found)))
      (loose.free t digits (sym same)))
      (λ other. inl (there_after (claim_path t) other claim))
      (path_cases (claim_path t) path))
      (λ done. inr (there_after (completed_path t) (completed_other t digits) done))
      (whole.claimed stage t digits (there_before (pending_path stage t) found))

  orderly_after : IsOrderly files → IsOrderly after
  orderly_after whole = record {
    pending = λ state name open_ proper says found. whole.pending state name open_ proper says (there_before _ found);
    claimed = λ stage t digits found. claimed_after whole stage t digits found;
    properties = λ state name proper says found. there_after properties_path (λ same. properties_stay (subst IsLeftover (sym same) leftover)) (whole.properties state name proper says (there_before _ found));
  }

  alike : IsAlike files after
  alike q within free = stays q (λ same. free (subst IsLeftover (sym same) leftover))

pub reads_without : (files : Files) (view : View) (path : List ℕ) → Reads files view → IsLoose Hudi files path → IsBefore hudi_meaning view files (map.remove files path)
reads_without files view path reads loose = record {
  reads = alike_reads files (map.remove files path) view (orderly_after files path loose (orderly files view reads)) (alike files path loose) reads;
  earlier = λ c change m le h. alike_carries files (map.remove files path) c change m (alike files path loose) h;
}
