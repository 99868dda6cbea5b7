-- What the first properties and the publication of a commit leave.
use Rattle.std.proofs.Common.{◌≡◌, ◌≢◌, inl, inr, ⊎_elim, ℕ, List, refl, sym, ◌∙◌, ap, subst}
use Rattle.std.specs.Prelude.{None, Some, is_some}
use Rattle.std.specs.FinMap as map
use Rattle.lake_store.specs.Disk.{Disk, Files, IsClean, IsDirty, IsPartlySynced, Moves, SameElsewhere, moved, removed, stored, synced, with_file, written}
use Rattle.lake_store.specs.Runs.{IsIn}
use Rattle.lake_store.proofs.DiskLaws.{clean-synced, get-insert_here, get-insert_other, get-remove_here, get-remove_other, path_cases}
use Rattle.hudi_names.specs.Name.{instant_of}
use Rattle.hudi_names.specs.Time.{IsDigits}
use Rattle.hudi_names.specs.declared.name.State.{State}
use Rattle.hudi_names.specs.declared.name.State.TheVariants as state
use Rattle.hudi_commit.specs.Names.{IsInstantIn, IsLeftover, IsThere, Stage, claim_path, completed_name, completed_path, pending_name, pending_path, properties_path, staged_properties_path, timeline_folder, timeline_path}
use Rattle.hudi_commit.specs.Orderly.{IsAlike, IsOrderly}
use Rattle.hudi_commit.specs.Settled.{IsUnannounced, Stands}
use Rattle.hudi_commit.specs.Runs.{HasProperties, IsAllClean, IsNoLeftover, IsQuiet}
use Rattle.hudi_commit.proofs.NameLaws.{Claim, Pending, Completed, apart, completed_stays, name_of-claim, name_of-completed, name_of-pending, claim_leftover, claim_not_properties, completed_instant, completed_not_properties, not_properties_name, not_staged, not_staged_name, pending_leftover, state_in, pending_instant, pending_is_name, properties_stay, state_of, cancel}
use Rattle.hudi_commit.proofs.OrderlyLaws.{there, there_none}
use Rattle.hudi_commit.proofs.StepLaws.{clean_settled, dirty_clean, removed_clean, removed_dirty, removed_there, staged_properties_stand, sync_stands}

-- what isn't there is absent
pub absent : (files : Files) (q : List ℕ) → (IsThere files q → ⊥) → map.get files q ≡ None
absent files q not_there = elim (map.get files q) as (λ o. map.get files q ≡ o → o ≡ None) [ None ↦ λ is. refl | Some b ↦ λ is. absurd (not_there (ap is_some is)) ] refl

-- another writer's file is there
pub stored_there : (old new : Disk) (q p : List ℕ) → q ≡ p → (bytes : List ℕ) × (new ≡ stored old q bytes) → IsThere new.files p
stored_there old new q p same taken =
    ap is_some (ap (λ (d : Disk). map.get d.files p) taken.1 ∙ ap (λ (r : List ℕ). map.get (map.insert old.files r taken.0) p) same ∙ get-insert_here old.files p taken.0)

-- A file has moved.
module _ (d : Disk) (from to bytes : List ℕ) where
  pub moved_file : (q : List ℕ) → q ≢ from → q ≢ to → map.get (moved d from to bytes).files q ≡ map.get d.files q
  moved_file q nf nt = get-insert_other (map.remove d.files from) to bytes q nt ∙ get-remove_other d.files from q nf

  pub moved_here : map.get (moved d from to bytes).files to ≡ Some bytes
  moved_here = get-insert_here (map.remove d.files from) to bytes

  pub moved_gone : from ≢ to → map.get (moved d from to bytes).files from ≡ None
  moved_gone apart = get-insert_other (map.remove d.files from) to bytes from apart ∙ get-remove_here d.files from

  pub moved_dirty : (q : List ℕ) → IsDirty (moved d from to bytes) q → IsDirty d q
  moved_dirty q = removed_dirty d to q

  pub moved_clean : (q : List ℕ) → IsClean d q → IsClean (moved d from to bytes) q
  moved_clean q = removed_clean d to q

  pub moved_there : (q : List ℕ) → q ≢ to → IsThere (moved d from to bytes).files q → IsThere d.files q
  moved_there q nt found = removed_there d from q (there (moved d from to bytes).files (removed d from).files q (sym (get-insert_other (map.remove d.files from) to bytes q nt)) found)

-- ---- before the first commit no instant's name is there, so the properties may come and go
pub quiet_unannounced : (d : Disk) → IsQuiet d → (t : List ℕ) → IsDigits t → IsUnannounced d t
quiet_unannounced d quiet t is = record {
  absent = λ s. absent d.files (pending_path s t) (quiet.bare (state_of s) (pending_name s t) (pending_is_name s t is) (pending_instant s t is));
  clean = λ s. quiet.clean s t is;
}

quiet_stands : (base : Files) (new : Disk) → IsQuiet new → IsAlike base new.files → ((q : List ℕ) → IsIn timeline_folder q → IsDirty new q → IsLeftover q) → Stands base new
quiet_stands base new quiet alike leftovers = record {
  orderly = record {
    pending = λ state name open_ is_name is found. absurd (quiet.bare state name is_name is found);
    claimed = λ s t is found. there_none new.files (pending_path s t) found ((quiet_unannounced new quiet t is).absent s);
    properties = λ state name is_name is found. absurd (quiet.bare state name is_name is found);
  };
  alike = alike;
  settled = record {
    leftovers = leftovers;
    claim_first = λ t is dirty. quiet_unannounced new quiet t is;
    pending_next = λ s t is dirty. dirty_clean new (pending_path s t) dirty (quiet.clean s t is);
  };
}

module _ (base : Files) (properties : List ℕ) where
  abbrev pub bare_base : Files
  bare_base = with_file base properties_path None

  abbrev pub full_base : Files
  full_base = with_file base properties_path (Some properties)

  full_alike : (files : Files) → map.get files properties_path ≡ Some properties → ((q : List ℕ) → IsIn timeline_folder q → IsNoLeftover q → q ≢ properties_path → map.get files q ≡ map.get base q) → IsAlike full_base files
  full_alike files here others q inside free = ⊎_elim
      (λ (same : q ≡ properties_path). ap (map.get files) same ∙ here ∙ sym (get-insert_here base properties_path properties) ∙ ap (map.get full_base) (sym same))
      (λ elsewhere. others q inside free elsewhere ∙ sym (get-insert_other base properties_path properties q elsewhere))
      (path_cases q properties_path)

  module _ (d₀ : Disk) (stands : Stands base d₀) (quiet : IsQuiet d₀) where
    d₁ : Disk
    d₁ = removed d₀ properties_path

    pub bare_quiet : IsQuiet (removed d₀ properties_path)
    bare_quiet = record {
      bare = λ state name is_name is found. quiet.bare state name is_name is (removed_there d₀ properties_path (timeline_path name) found);
      clean = λ s t is. removed_clean d₀ properties_path (pending_path s t) (quiet.clean s t is);
    }

    pub bare_stands : Stands bare_base (removed d₀ properties_path)
    bare_stands = quiet_stands bare_base (removed d₀ properties_path) bare_quiet
        (λ q inside free. ⊎_elim
        (λ (same : q ≡ properties_path). ap (map.get (map.remove d₀.files properties_path)) same ∙ get-remove_here d₀.files properties_path ∙ sym (get-remove_here base properties_path) ∙ ap (map.get bare_base) (sym same))
        (λ elsewhere. get-remove_other d₀.files properties_path q elsewhere ∙ stands.alike q inside free ∙ sym (get-remove_other base properties_path q elsewhere))
        (path_cases q properties_path))
        (λ q inside dirty. stands.settled.leftovers q inside (removed_dirty d₀ properties_path q dirty))

    -- the staged properties, written and synced over a disk without properties
    module _ (d₂ d₃ : Disk) (wrote : SameElsewhere staged_properties_path (removed d₀ properties_path) d₂) (part : IsPartlySynced d₂ d₃) where
      pub written_stands : Stands bare_base d₂
      written_stands = staged_properties_stand bare_base (removed d₀ properties_path) d₂ wrote bare_stands

      pub staged_stands : Stands bare_base d₃
      staged_stands = sync_stands bare_base d₂ d₃ written_stands part

    -- the properties have come
    pub has_quiet : (d₄ : Disk) → HasProperties properties d₀ d₄ → IsQuiet d₄
    has_quiet d₄ has = record {
      bare = λ state name is_name is found. quiet.bare state name is_name is (there d₄.files d₀.files (timeline_path name)
          (sym (has.others (timeline_path name) (not_staged_name name is_name) (not_properties_name state name is))) found);
      clean = λ s t is. has.clean (pending_path s t);
    }

    pub has_stands : (d₄ : Disk) → HasProperties properties d₀ d₄ → Stands full_base d₄
    has_stands d₄ has = quiet_stands full_base d₄ (has_quiet d₄ has)
        (full_alike d₄.files has.here (λ q inside free elsewhere. has.others q (not_staged q free) elsewhere ∙ stands.alike q inside free))
        (λ q inside dirty. dirty_clean d₄ q dirty (has.clean q))

-- the staged properties, written and synced over a disk without properties
module _ (p : List ℕ) (d₀ d₁ d₂ d₃ : Disk) (is_removed : d₁ ≡ removed d₀ properties_path) (is_written : d₂ ≡ written d₁ staged_properties_path p) (is_synced : d₃ ≡ synced d₂) where
  pub staged_here : map.get d₃.files staged_properties_path ≡ Some p
  staged_here = ap (λ (d : Disk). map.get d.files staged_properties_path) (is_synced ∙ ap synced is_written) ∙ get-insert_here d₁.files staged_properties_path p

  pub staged_clean : IsAllClean d₃
  staged_clean q = subst (λ d. IsClean d q) (sym is_synced) (clean-synced d₂ q)

  staged_others : (q : List ℕ) → q ≢ staged_properties_path → map.get d₃.files q ≡ map.get d₁.files q
  staged_others q apart = ap (λ (d : Disk). map.get d.files q) (is_synced ∙ ap synced is_written) ∙ get-insert_other d₁.files staged_properties_path p q apart

  pub properties_free : map.get d₃.files properties_path ≡ None
  properties_free = staged_others properties_path (not_staged properties_path properties_stay) ∙ ap (λ (d : Disk). map.get d.files properties_path) is_removed ∙ get-remove_here d₀.files properties_path

  pub has_moved : (d₄ : Disk) → Moves staged_properties_path properties_path d₃ d₄ → d₄ ≡ moved d₃ staged_properties_path properties_path p
  has_moved d₄ moves = let same : moves.0 ≡ p = cc (sym moves.1 ∙ staged_here) in moves.2 ∙ ap (λ b. moved d₃ staged_properties_path properties_path b) same

  pub moved_has : HasProperties p d₀ (moved d₃ staged_properties_path properties_path p)
  moved_has = record {
    here = moved_here d₃ staged_properties_path properties_path p;
    staged = moved_gone d₃ staged_properties_path properties_path p (λ e. not_staged properties_path properties_stay (sym e));
    others = λ q ns np. moved_file d₃ staged_properties_path properties_path p q ns np ∙ staged_others q ns ∙ ap (λ (d : Disk). map.get d.files q) is_removed ∙ get-remove_other d₀.files properties_path q np;
    clean = λ q. moved_clean d₃ staged_properties_path properties_path p q (staged_clean q);
  }

  pub has_properties : (d₄ : Disk) → Moves staged_properties_path properties_path d₃ d₄ → HasProperties p d₀ d₄
  has_properties d₄ moves = subst (HasProperties p d₀) (sym (has_moved d₄ moves)) moved_has

-- ---- a claim is published as its instant's completed file
module _ (base : Files) (t b : List ℕ) (is : IsDigits t) (d : Disk) (stands : Stands base d) (properties : IsThere d.files properties_path) (clean : IsAllClean d) where
  abbrev pub published : Disk
  published = moved d (claim_path t) (completed_path t) b

  abbrev pub gained : Files
  gained = with_file base (completed_path t) (Some b)

  kept : (q : List ℕ) → q ≢ claim_path t → q ≢ completed_path t → map.get published.files q ≡ map.get d.files q
  kept = moved_file d (claim_path t) (completed_path t) b

  not_completed_path : (q : List ℕ) → IsLeftover q → q ≢ completed_path t
  not_completed_path q leftover same = completed_stays t is (subst IsLeftover same leftover)

  here : map.get published.files (completed_path t) ≡ Some b
  here = moved_here d (claim_path t) (completed_path t) b

  properties_after : IsThere published.files properties_path
  properties_after = there d.files published.files properties_path (kept properties_path (λ e. claim_not_properties t is (sym e)) (λ e. completed_not_properties t is (sym e))) properties

  pending_same : (s : Stage) (u : List ℕ) → IsDigits u → map.get published.files (pending_path s u) ≡ map.get d.files (pending_path s u)
  pending_same s u is_u = kept (pending_path s u) (apart (pending_path s u) (claim_path t) (Pending s u) (Claim t) (name_of-pending s u is_u) (name_of-claim t is) (λ e. cc)) (not_completed_path (pending_path s u) (pending_leftover s u is_u))

  claim_same : (u : List ℕ) → IsDigits u → u ≢ t → map.get published.files (claim_path u) ≡ map.get d.files (claim_path u)
  claim_same u is_u differ = kept (claim_path u) (apart (claim_path u) (claim_path t) (Claim u) (Claim t) (name_of-claim u is_u) (name_of-claim t is) (λ e. differ (cc e))) (not_completed_path (claim_path u) (claim_leftover u is_u))

  completed_same : (u : List ℕ) → IsDigits u → u ≢ t → map.get published.files (completed_path u) ≡ map.get d.files (completed_path u)
  completed_same u is_u differ = kept (completed_path u) (λ e. completed_stays u is_u (subst IsLeftover (sym e) (claim_leftover t is)))
      (apart (completed_path u) (completed_path t) (Completed u) (Completed t) (name_of-completed u is_u) (name_of-completed t is) (λ e. differ (cc e)))

  -- a name that isn't completed was there
  pending_before : (s : Stage) (u : List ℕ) → IsDigits u → IsThere published.files (pending_path s u) → IsThere d.files (pending_path s u)
  pending_before s u is_u = there published.files d.files (pending_path s u) (sym (pending_same s u is_u))

  published_orderly : IsOrderly published.files
  published_orderly = record {
    pending = λ state name open_ is_name is_in found. stands.orderly.pending state name open_ is_name is_in
        (moved_there d (claim_path t) (completed_path t) b (timeline_path name) (λ e. open_ (only_completed state name is_in (cancel name (completed_name t) e))) found);
    claimed = λ s u is_u found. ⊎_elim
        (λ (same : u ≡ t). inr (subst (λ x. IsThere published.files (completed_path x)) (sym same) (ap is_some here)))
        (λ differ. ⊎_elim
        (λ claim. inl (there d.files published.files (claim_path u) (claim_same u is_u differ) claim))
        (λ done. inr (there d.files published.files (completed_path u) (completed_same u is_u differ) done))
        (stands.orderly.claimed s u is_u (pending_before s u is_u found)))
        (path_cases u t);
    properties = λ state name is_name is_in found. properties_after;
  }
    where
      only_completed : (way : State) (name : List ℕ) → IsInstantIn way name → name ≡ completed_name t → way ≡ state.Completed
      only_completed way name is_in same = ap (state_in way) (sym is_in.2 ∙ ap instant_of same ∙ (completed_instant t is).2)

  pub published_stands : Stands gained published
  published_stands = record {
    orderly = published_orderly;
    alike = λ q inside free. ⊎_elim
        (λ (same : q ≡ completed_path t). ap (map.get published.files) same ∙ here ∙ sym (get-insert_here base (completed_path t) b) ∙ ap (map.get gained) (sym same))
        (λ elsewhere. kept q (λ e. free (subst IsLeftover (sym e) (claim_leftover t is))) elsewhere ∙ stands.alike q inside free ∙ sym (get-insert_other base (completed_path t) b q elsewhere))
        (path_cases q (completed_path t));
    settled = clean_settled published (λ q. moved_clean d (claim_path t) (completed_path t) b q (clean q));
  }
