-- Other files stay, but for leftovers that are gone.
use Rattle.std.proofs.Common.{◌≡◌, ◌≢◌, inl, inr, ⊎_elim, ℕ, List, refl, sym, ◌∙◌, ap, subst}
use Rattle.std.specs.Prelude.{Option, None}
use Rattle.std.specs.FinMap as map
use Rattle.lake_store.specs.Disk.{Disk, Files, synced}
use Rattle.lake_store.proofs.DiskLaws.{path_cases}
use Rattle.hudi_names.specs.Time.{IsDigits, IsSomeTime}
use Rattle.hudi_commit.specs.Names.{IsLeftover, Stage, StaysOrGoes, claim_path, completed_path, pending_path, properties_path, staged_properties_path}
use Rattle.hudi_commit.specs.Runs.{HasProperties, IsNoFileOf, IsOther, IsTidied, NotGiven, announced, claimed, completed}
use Rattle.hudi_commit.proofs.NameLaws.{claim_leftover, claim_not_staged, completed_stays, not_staged, pending_not_staged}
use Rattle.hudi_commit.proofs.OpenLaws.{stays_then}
use Rattle.hudi_commit.proofs.OrderlyLaws.{there_none}
use Rattle.hudi_commit.proofs.PublishLaws.{moved_file, moved_gone}
use Rattle.hudi_commit.proofs.RecoveryLaws.{tidied_completed}
use Rattle.hudi_commit.proofs.StagingLaws.{both_same}

-- the properties have come from the staged ones
pub properties_others : (p : List ℕ) (old new : Disk) → HasProperties p old new → (q : List ℕ) → q ≢ properties_path → StaysOrGoes old.files new.files q
properties_others p old new has q other = ⊎_elim
    (λ (same : q ≡ staged_properties_path). inr (inl same, ap (map.get new.files) same ∙ has.staged))
    (λ elsewhere. inl (has.others q elsewhere other))
    (path_cases q staged_properties_path)

-- the instant's file has come from its claim
completed_others : (t b : List ℕ) → IsSomeTime t → (old new : Disk) → new ≡ completed t b old → map.get old.files (completed_path t) ≡ None
    → (q : List ℕ) → q ≢ completed_path t → ((stage : Stage) → q ≢ pending_path stage t) → StaysOrGoes old.files new.files q
completed_others t b time old new done none q not_completed not_pending =
    let is = time.1.digits in
    let ready = announced t (claimed t b old) in
    let at = ap (λ (d : Disk). map.get d.files q) done in
    ⊎_elim
    (λ (same : q ≡ claim_path t). inr (
      inr (t, time, (λ found. there_none old.files (completed_path t) found none), inl same),
      at ∙ ap (map.get (completed t b old).files) same ∙ moved_gone ready (claim_path t) (completed_path t) b (λ e. completed_stays t is (subst IsLeftover e (claim_leftover t is))),
    ))
    (λ elsewhere. inl (at ∙ moved_file ready (claim_path t) (completed_path t) b q elsewhere not_completed ∙ both_same t b time old (claimed t b old) ready refl refl q elsewhere not_pending))
    (path_cases q (claim_path t))

-- the commit as a whole
pub others_kept : (properties : Option (List ℕ)) (t b : List ℕ) → IsSomeTime t → (d₀ d₁ d₂ d₃ d₄ : Disk) → d₁ ≡ synced d₀ → IsTidied d₁ d₂
    → ((u : List ℕ) → IsDigits u → map.get d₃.files (completed_path u) ≡ map.get d₂.files (completed_path u))
    → ((q : List ℕ) → NotGiven properties q → StaysOrGoes d₂.files d₃.files q)
    → map.get d₃.files (completed_path t) ≡ None → d₄ ≡ completed t b d₃
    → (q : List ℕ) → IsOther properties t q → StaysOrGoes d₀.files d₄.files q
others_kept properties t b time d₀ d₁ d₂ d₃ d₄ same tidied kept prepared none done q other =
    let files = ap (λ (d : Disk). d.files) same in
    let two : StaysOrGoes d₁.files d₃.files q = stays_then d₁.files q d₂.files (tidied_completed d₁ d₂ tidied) d₃.files (tidied.files q) (prepared q other.given) in
    let all : StaysOrGoes d₁.files d₄.files q = stays_then d₁.files q d₃.files (λ u is. kept u is ∙ tidied_completed d₁ d₂ tidied u is) d₄.files two (completed_others t b time d₃ d₄ done none q other.completed other.pending) in
    subst (λ (f : Files). StaysOrGoes f d₄.files q) files all

-- staged properties are no file of an instant
pub staged_no_file : (t : List ℕ) → IsDigits t → IsNoFileOf t staged_properties_path
staged_no_file t is = record {
  leftover = ⊎_elim (λ claim. claim_not_staged t is (sym claim)) (λ (pending : (stage : Stage) × (staged_properties_path ≡ pending_path stage t)). pending_not_staged pending.0 t is (sym pending.1));
  completed = λ e. not_staged (completed_path t) (completed_stays t is) (sym e);
}
