-- What each store call of a commit leaves: the timeline stands as it did.
use Rattle.std.proofs.Common.{◌≡◌, ◌≢◌, ◌⊎◌, inl, inr, ⊎_elim, ℕ, true, false, List, refl, sym, ◌∙◌, ap, subst}
use Rattle.std.specs.Prelude.{None}
use Rattle.std.specs.FinMap as map
use Rattle.std.specs.FinSet as set
use Rattle.lake_store.specs.Disk.{Disk, Files, IsClean, IsDirty, IsName, IsPartlySynced, MayLeave, SameElsewhere, removed}
use Rattle.lake_store.specs.Runs.{IsIn, KeepsImage}
use Rattle.lake_store.proofs.DiskLaws.{contains-remove_here, contains-remove_other, get-remove_here, get-remove_other, path_cases, removed_elsewhere}
use Rattle.hudi_names.specs.Time.{IsDigits, IsSomeTime}
use Rattle.hudi_names.specs.declared.name.State.TheVariants as state
use Rattle.hudi_commit.specs.Names.{IsInstantIn, IsLeftover, IsThere, Stage, Requested, Inflight, claim_path, completed_path, pending_name, pending_path, properties_path, staged_properties_path, timeline_folder, timeline_path}
use Rattle.hudi_commit.specs.Orderly.{IsAlike, IsOrderly, IsSameTimeline}
use Rattle.hudi_commit.specs.Settled.{IsAnnounceable, IsSettled, IsUnannounced, Stands, StandsAt}
use Rattle.hudi_commit.specs.Runs.{IsAllClean}
use Rattle.hudi_commit.proofs.NameLaws.{Name, StagedProperties, Claim, Pending, apart, claim_leftover, completed_stays, leftover_name, name_of, name_of-claim, name_of-pending, name_of-staged_properties, pending_leftover, properties_stay, staged_leftover}
use Rattle.hudi_commit.proofs.OrderlyLaws.{orderly_properties, orderly_real, there, there_none}

pub dirty_clean : {A : Type 0} (d : Disk) (q : List ℕ) → IsDirty d q → IsClean d q → A
dirty_clean d q dirty clean = absurd (cc (sym clean ∙ dirty))

-- a path is dirty or it isn't
pub dirt_cases : (d : Disk) (q : List ℕ) → IsDirty d q ⊎ IsClean d q
dirt_cases d q = elim (set.contains d.dirty q) as (λ b. (b ≡ true) ⊎ (b ≡ false)) [ true ↦ inl refl | false ↦ inr refl ]

-- the paths that lie in the folder
pub in_timeline : (name : List ℕ) → IsIn timeline_folder (timeline_path name)
in_timeline name = (name, refl)

-- A crash leaves the files of a settled disk orderly and alike.
module _ (base : Files) (d : Disk) (stands : Stands base d) (image : Files) (may : KeepsImage (IsIn timeline_folder) d image) where
  kept : (q : List ℕ) → IsIn timeline_folder q → (IsLeftover q → ⊥) → map.get image q ≡ map.get d.files q
  kept q inside free = may q inside (⊎_elim (λ dirty. absurd (free (stands.settled.leftovers q inside dirty))) (λ clean. clean) (dirt_cases d q))

  may_claim : (t : List ℕ) → IsClean d (claim_path t) → map.get image (claim_path t) ≡ map.get d.files (claim_path t)
  may_claim t = may (claim_path t) (in_timeline _)

  may_pending : (s : Stage) (t : List ℕ) → IsClean d (pending_path s t) → map.get image (pending_path s t) ≡ map.get d.files (pending_path s t)
  may_pending s t = may (pending_path s t) (in_timeline _)

  same_properties : map.get image properties_path ≡ map.get d.files properties_path
  same_properties = kept properties_path (in_timeline _) properties_stay

  same_completed : (t : List ℕ) → IsDigits t → map.get image (completed_path t) ≡ map.get d.files (completed_path t)
  same_completed t is = kept (completed_path t) (in_timeline _) (completed_stays t is)

  pending : (s : Stage) (t : List ℕ) → IsDigits t → IsThere image (pending_path s t) → (IsThere image (claim_path t) ⊎ IsThere image (completed_path t)) × IsThere d.files properties_path × IsSomeTime t
  pending s t is found = ⊎_elim
      (λ dirty.
      let next = stands.settled.pending_next s t is dirty in
      (inl (there d.files image (claim_path t) (may_claim t next.durable) next.claim), next.properties, next.real))
      (λ clean.
      let before = there image d.files (pending_path s t) (sym (may_pending s t clean)) found in (
        ⊎_elim
            (λ claim. inl (there d.files image (claim_path t) (may_claim t (⊎_elim
            (λ dirty. there_none d.files (pending_path s t) before ((stands.settled.claim_first t is dirty).absent s))
            (λ c. c) (dirt_cases d (claim_path t)))) claim))
            (λ done. inr (there d.files image (completed_path t) (same_completed t is) done))
            (stands.orderly.claimed s t is before),
        orderly_properties d.files stands.orderly s t is before,
        orderly_real d.files stands.orderly s t is before,
      ))
      (dirt_cases d (pending_path s t))

  -- a name in the image is that of a leftover, or was there
  module _ (name : List ℕ) (is : IsName name) (found : IsThere image (timeline_path name)) where
    cases : ((s : Stage) × (t : List ℕ) × IsDigits t × (name ≡ pending_name s t)) ⊎ IsThere d.files (timeline_path name)
    cases = ⊎_elim
        (λ dirty. inl (leftover_name name is (stands.settled.leftovers (timeline_path name) (in_timeline name) dirty)))
        (λ clean. inr (there image d.files (timeline_path name) (sym (may (timeline_path name) (in_timeline name) clean)) found))
        (dirt_cases d (timeline_path name))

    as_pending : (p : (s : Stage) × (t : List ℕ) × IsDigits t × (name ≡ pending_name s t)) → IsThere image (pending_path p.0 p.1)
    as_pending p = subst (λ n. IsThere image (timeline_path n)) p.3 found

  crash_orderly : IsOrderly image
  crash_orderly = record {
    pending = λ state name open_ is_name is found. ⊎_elim
        (λ (p : (s : Stage) × (t : List ℕ) × IsDigits t × (name ≡ pending_name s t)). (p.0, p.1, (pending p.0 p.1 p.2 (as_pending name is_name found p)).2, p.3))
        (λ before. stands.orderly.pending state name open_ is_name is before)
        (cases name is_name found);
    claimed = λ s t is found. (pending s t is found).0;
    properties = λ state name is_name is found. there d.files image properties_path same_properties (⊎_elim
        (λ (p : (s : Stage) × (t : List ℕ) × IsDigits t × (name ≡ pending_name s t)). (pending p.0 p.1 p.2 (as_pending name is_name found p)).1)
        (λ before. stands.orderly.properties state name is_name is before)
        (cases name is_name found));
  }

  pub folder_crash_stands : StandsAt base image
  folder_crash_stands = record { orderly = crash_orderly; alike = λ q inside free. kept q inside free ∙ stands.alike q inside free }

pub crash_stands : (base : Files) (d : Disk) (image : Files) → Stands base d → MayLeave d image → StandsAt base image
crash_stands base d image stands may = folder_crash_stands base d stands image (λ q inside. may q)

-- without a dirty path
pub clean_settled : (d : Disk) → IsAllClean d → IsSettled d
clean_settled d clean = record {
  leftovers = λ q inside dirty. dirty_clean d q dirty (clean q);
  claim_first = λ t is dirty. dirty_clean d (claim_path t) dirty (clean (claim_path t));
  pending_next = λ s t is dirty. dirty_clean d (pending_path s t) dirty (clean (pending_path s t));
}

-- fewer dirty paths
pub sync_stands : (base : Files) (old new : Disk) → Stands base old → IsPartlySynced old new → Stands base new
sync_stands base old new stands part =
    let dirty_before : (q : List ℕ) → IsDirty new q → IsDirty old q =
    λ q dirty. ⊎_elim (λ d. d) (λ clean. dirty_clean new q dirty (part.clean q clean)) (dirt_cases old q) in
    let same : (q : List ℕ) → map.get new.files q ≡ map.get old.files q = λ q. ap (λ (m : Files). map.get m q) part.files in
    record {
      orderly = subst IsOrderly (sym part.files) stands.orderly;
      alike = λ q inside free. same q ∙ stands.alike q inside free;
      settled = record {
        leftovers = λ q inside dirty. stands.settled.leftovers q inside (dirty_before q dirty);
        claim_first = λ t is dirty.
            let first = stands.settled.claim_first t is (dirty_before (claim_path t) dirty) in
            record { absent = λ s. same (pending_path s t) ∙ first.absent s; clean = λ s. part.clean (pending_path s t) (first.clean s) };
        pending_next = λ s t is dirty.
            let next = stands.settled.pending_next s t is (dirty_before (pending_path s t) dirty) in
            record { real = next.real; claim = there old.files new.files (claim_path t) (same (claim_path t)) next.claim; durable = part.clean (claim_path t) next.durable; properties = there old.files new.files properties_path (same properties_path) next.properties };
      };
    }

-- one leftover changes, and no other path
pub record Change (base : Files) (p : List ℕ) (n : Name) (old new : Disk) : Type 0 where
  is_named : name_of p ≡ n
  leftover : IsLeftover p
  same : SameElsewhere p old new
  stands : Stands base old

module _ {base : Files} {p : List ℕ} {n : Name} {old new : Disk} (ch : Change base p n old new) where
  file : (q : List ℕ) (m : Name) → name_of q ≡ m → m ≢ n → map.get new.files q ≡ map.get old.files q
  file q m is differ = ch.same.files q (apart q p m n is ch.is_named differ)

  dirt : (q : List ℕ) (m : Name) → name_of q ≡ m → m ≢ n → set.contains new.dirty q ≡ set.contains old.dirty q
  dirt q m is differ = ch.same.dirty q (apart q p m n is ch.is_named differ)

  -- what is no leftover stays
  other : (q : List ℕ) → (IsLeftover q → ⊥) → map.get new.files q ≡ map.get old.files q
  other q free = ch.same.files q (λ e. free (subst IsLeftover (sym e) ch.leftover))

  properties_kept : IsThere old.files properties_path → IsThere new.files properties_path
  properties_kept = there old.files new.files properties_path (other properties_path properties_stay)

  completed_kept : (t : List ℕ) → IsDigits t → IsThere old.files (completed_path t) → IsThere new.files (completed_path t)
  completed_kept t is = there old.files new.files (completed_path t) (other (completed_path t) (completed_stays t is))

  -- the leftovers come in order
  pub record InOrder : Type 0 where
    real : (s : Stage) (t : List ℕ) → IsDigits t → IsThere new.files (pending_path s t) → IsSomeTime t
    claimed : (s : Stage) (t : List ℕ) → IsDigits t → IsThere new.files (pending_path s t) → IsThere new.files (claim_path t) ⊎ IsThere new.files (completed_path t)
    pending_properties : (s : Stage) (t : List ℕ) → IsDigits t → IsThere new.files (pending_path s t) → IsThere new.files properties_path
    claim_first : (t : List ℕ) → IsDigits t → IsDirty new (claim_path t) → IsUnannounced new t
    pending_next : (s : Stage) (t : List ℕ) → IsDigits t → IsDirty new (pending_path s t) → IsAnnounceable new t

  module _ (order : InOrder) where
    module _ (name : List ℕ) (is : IsName name) (found : IsThere new.files (timeline_path name)) where
      changed_cases : ((s : Stage) × (t : List ℕ) × IsDigits t × (name ≡ pending_name s t)) ⊎ IsThere old.files (timeline_path name)
      changed_cases = ⊎_elim
          (λ (here : timeline_path name ≡ p). inl (leftover_name name is (subst IsLeftover (sym here) ch.leftover)))
          (λ elsewhere. inr (there new.files old.files (timeline_path name) (sym (ch.same.files (timeline_path name) elsewhere)) found))
          (path_cases (timeline_path name) p)

      changed_pending : (q : (s : Stage) × (t : List ℕ) × IsDigits t × (name ≡ pending_name s t)) → IsThere new.files (pending_path q.0 q.1)
      changed_pending q = subst (λ m. IsThere new.files (timeline_path m)) q.3 found

    changed_orderly : IsOrderly new.files
    changed_orderly = record {
      pending = λ state name open_ is_name is found. ⊎_elim
          (λ (q : (s : Stage) × (t : List ℕ) × IsDigits t × (name ≡ pending_name s t)). (q.0, q.1, order.real q.0 q.1 q.2 (changed_pending name is_name found q), q.3))
          (λ before. ch.stands.orderly.pending state name open_ is_name is before)
          (changed_cases name is_name found);
      claimed = order.claimed;
      properties = λ state name is_name is found. ⊎_elim
          (λ (q : (s : Stage) × (t : List ℕ) × IsDigits t × (name ≡ pending_name s t)). order.pending_properties q.0 q.1 q.2 (changed_pending name is_name found q))
          (λ before. properties_kept (ch.stands.orderly.properties state name is_name is before))
          (changed_cases name is_name found);
    }

    leftover_stands : Stands base new
    leftover_stands = record {
      orderly = changed_orderly;
      alike = λ q inside free. other q free ∙ ch.stands.alike q inside free;
      settled = record {
        leftovers = λ q inside dirty. ⊎_elim
            (λ (here : q ≡ p). subst IsLeftover (sym here) ch.leftover)
            (λ elsewhere. ch.stands.settled.leftovers q inside (sym (ch.same.dirty q elsewhere) ∙ dirty))
            (path_cases q p);
        claim_first = order.claim_first;
        pending_next = order.pending_next;
      };
    }

  module _ (t : List ℕ) (is : IsDigits t) where
    pending_same : (s : Stage) → Pending s t ≢ n → map.get new.files (pending_path s t) ≡ map.get old.files (pending_path s t)
    pending_same s = file (pending_path s t) (Pending s t) (name_of-pending s t is)

    pending_dirt : (s : Stage) → Pending s t ≢ n → set.contains new.dirty (pending_path s t) ≡ set.contains old.dirty (pending_path s t)
    pending_dirt s = dirt (pending_path s t) (Pending s t) (name_of-pending s t is)

    claim_same : Claim t ≢ n → map.get new.files (claim_path t) ≡ map.get old.files (claim_path t)
    claim_same = file (claim_path t) (Claim t) (name_of-claim t is)

    claim_dirt : Claim t ≢ n → set.contains new.dirty (claim_path t) ≡ set.contains old.dirty (claim_path t)
    claim_dirt = dirt (claim_path t) (Claim t) (name_of-claim t is)

    pending_before : (s : Stage) → Pending s t ≢ n → IsThere new.files (pending_path s t) → IsThere old.files (pending_path s t)
    pending_before s differ = there new.files old.files (pending_path s t) (sym (pending_same s differ))

    real_before : (s : Stage) → IsThere old.files (pending_path s t) → IsSomeTime t
    real_before s = orderly_real old.files ch.stands.orderly s t is

    properties_before : (s : Stage) → IsThere old.files (pending_path s t) → IsThere new.files properties_path
    properties_before s found = properties_kept (orderly_properties old.files ch.stands.orderly s t is found)

    unannounced_kept : ((s : Stage) → Pending s t ≢ n) → IsUnannounced old t → IsUnannounced new t
    unannounced_kept differ first = record { absent = λ s. pending_same s (differ s) ∙ first.absent s; clean = λ s. pending_dirt s (differ s) ∙ first.clean s }

    announceable_kept : Claim t ≢ n → IsAnnounceable old t → IsAnnounceable new t
    announceable_kept differ next = record {
      real = next.real;
      claim = there old.files new.files (claim_path t) (claim_same differ) next.claim;
      durable = claim_dirt differ ∙ next.durable;
      properties = properties_kept next.properties;
    }

    claimed_kept : Claim t ≢ n → IsThere old.files (claim_path t) ⊎ IsThere old.files (completed_path t) → IsThere new.files (claim_path t) ⊎ IsThere new.files (completed_path t)
    claimed_kept differ = ⊎_elim (λ c. inl (there old.files new.files (claim_path t) (claim_same differ) c)) (λ d. inr (completed_kept t is d))

-- the staged properties are written
pub staged_properties_stand : (base : Files) (old new : Disk) → SameElsewhere staged_properties_path old new → Stands base old → Stands base new
staged_properties_stand base old new same stands =
    let ch : Change base staged_properties_path StagedProperties old new = record { is_named = name_of-staged_properties; leftover = staged_leftover; same = same; stands = stands } in
    leftover_stands ch (record {
      real = λ s t is found. real_before ch t is s (pending_before ch t is s (λ e. cc) found);
      claimed = λ s t is found. claimed_kept ch t is (λ e. cc) (stands.orderly.claimed s t is (pending_before ch t is s (λ e. cc) found));
      pending_properties = λ s t is found. properties_before ch t is s (pending_before ch t is s (λ e. cc) found);
      claim_first = λ t is dirty. unannounced_kept ch t is (λ s e. cc) (stands.settled.claim_first t is (sym (claim_dirt ch t is (λ e. cc)) ∙ dirty));
      pending_next = λ s t is dirty. announceable_kept ch t is (λ e. cc) (stands.settled.pending_next s t is (sym (pending_dirt ch t is s (λ e. cc)) ∙ dirty));
    })

-- a claim changes while its instant isn't pending
module _ (base : Files) (u : List ℕ) (is_u : IsDigits u) (old new : Disk) (same : SameElsewhere (claim_path u) old new) (free : IsUnannounced old u) (stands : Stands base old) where
  claim_change : Change base (claim_path u) (Claim u) old new
  claim_change = record { is_named = name_of-claim u is_u; leftover = claim_leftover u is_u; same = same; stands = stands }

  pub claim_stands : Stands base new
  claim_stands = leftover_stands claim_change (record {
    real = λ s t is found. real_before claim_change t is s (pending_before claim_change t is s (λ e. cc) found);
    claimed = λ s t is found.
        let before = pending_before claim_change t is s (λ e. cc) found in
        ⊎_elim
        (λ (here : t ≡ u). there_none old.files (pending_path s t) before (subst (λ x. map.get old.files (pending_path s x) ≡ None) (sym here) (free.absent s)))
        (λ elsewhere. claimed_kept claim_change t is (λ e. elsewhere (cc e)) (stands.orderly.claimed s t is before))
        (path_cases t u);
    pending_properties = λ s t is found. properties_before claim_change t is s (pending_before claim_change t is s (λ e. cc) found);
    claim_first = λ t is dirty. unannounced_kept claim_change t is (λ s e. cc) (⊎_elim
        (λ (here : t ≡ u). subst (IsUnannounced old) (sym here) free)
        (λ elsewhere. stands.settled.claim_first t is (sym (claim_dirt claim_change t is (λ e. elsewhere (cc e))) ∙ dirty))
        (path_cases t u));
    pending_next = λ s t is dirty.
        let before = sym (pending_dirt claim_change t is s (λ e. cc)) ∙ dirty in
        ⊎_elim
        (λ (here : t ≡ u). dirty_clean old (pending_path s t) before (subst (λ x. IsClean old (pending_path s x)) (sym here) (free.clean s)))
        (λ elsewhere. announceable_kept claim_change t is (λ e. elsewhere (cc e)) (stands.settled.pending_next s t is before))
        (path_cases t u);
  })

-- a pending name changes while its instant is claimed durably
module _ (base : Files) (v : Stage) (u : List ℕ) (is_u : IsDigits u) (old new : Disk) (same : SameElsewhere (pending_path v u) old new) (next : IsAnnounceable old u) (stands : Stands base old) where
  pending_change : Change base (pending_path v u) (Pending v u) old new
  pending_change = record { is_named = name_of-pending v u is_u; leftover = pending_leftover v u is_u; same = same; stands = stands }

  next_new : IsAnnounceable new u
  next_new = announceable_kept pending_change u is_u (λ e. cc) next

  pub pending_stands : Stands base new
  pending_stands = leftover_stands pending_change (record {
    real = λ s t is found. ⊎_elim
        (λ (here : t ≡ u). subst IsSomeTime (sym here) next.real)
        (λ elsewhere. real_before pending_change t is s (pending_before pending_change t is s (λ e. elsewhere (cc e)) found))
        (path_cases t u);
    claimed = λ s t is found. ⊎_elim
        (λ (here : t ≡ u). inl (subst (λ x. IsThere new.files (claim_path x)) (sym here) next_new.claim))
        (λ elsewhere. claimed_kept pending_change t is (λ e. cc) (stands.orderly.claimed s t is (pending_before pending_change t is s (λ e. elsewhere (cc e)) found)))
        (path_cases t u);
    pending_properties = λ s t is found. next_new.properties;
    claim_first = λ t is dirty.
        let before = sym (claim_dirt pending_change t is (λ e. cc)) ∙ dirty in
        ⊎_elim
        (λ (here : t ≡ u). dirty_clean old (claim_path t) before (subst (λ x. IsClean old (claim_path x)) (sym here) next.durable))
        (λ elsewhere. unannounced_kept pending_change t is (λ s e. elsewhere (cc e)) (stands.settled.claim_first t is before))
        (path_cases t u);
    pending_next = λ s t is dirty. ⊎_elim
        (λ (here : t ≡ u). subst (IsAnnounceable new) (sym here) next_new)
        (λ elsewhere. announceable_kept pending_change t is (λ e. cc) (stands.settled.pending_next s t is (sym (pending_dirt pending_change t is s (λ e. elsewhere (cc e))) ∙ dirty)))
        (path_cases t u);
  })

  pub announceable_after : IsAnnounceable new u
  announceable_after = next_new

-- what is there after a removal was there before
pub removed_there : (d : Disk) (p q : List ℕ) → IsThere (removed d p).files q → IsThere d.files q
removed_there d p q found = ⊎_elim
    (λ (here : q ≡ p). there_none (removed d p).files q found (ap (λ x. map.get (map.remove d.files p) x) here ∙ get-remove_here d.files p))
    (λ elsewhere. there (removed d p).files d.files q (sym (get-remove_other d.files p q elsewhere)) found)
    (path_cases q p)

pub removed_dirty : (d : Disk) (p q : List ℕ) → IsDirty (removed d p) q → IsDirty d q
removed_dirty d p q dirty = ⊎_elim
    (λ (here : q ≡ p). dirty_clean (removed d p) q dirty (ap (λ x. set.contains (set.remove d.dirty p) x) here ∙ contains-remove_here d.dirty p))
    (λ elsewhere. sym (contains-remove_other d.dirty p q elsewhere) ∙ dirty)
    (path_cases q p)

pub removed_absent : (d : Disk) (p q : List ℕ) → map.get d.files q ≡ None → map.get (removed d p).files q ≡ None
removed_absent d p q none = ⊎_elim
    (λ (here : q ≡ p). ap (λ x. map.get (map.remove d.files p) x) here ∙ get-remove_here d.files p)
    (λ elsewhere. get-remove_other d.files p q elsewhere ∙ none)
    (path_cases q p)

pub removed_clean : (d : Disk) (p q : List ℕ) → IsClean d q → IsClean (removed d p) q
removed_clean d p q clean = ⊎_elim
    (λ (here : q ≡ p). ap (λ x. set.contains (set.remove d.dirty p) x) here ∙ contains-remove_here d.dirty p)
    (λ elsewhere. contains-remove_other d.dirty p q elsewhere ∙ clean)
    (path_cases q p)

pub removed_unannounced : (d : Disk) (p t : List ℕ) → IsUnannounced d t → IsUnannounced (removed d p) t
removed_unannounced d p t first = record { absent = λ s. removed_absent d p (pending_path s t) (first.absent s); clean = λ s. removed_clean d p (pending_path s t) (first.clean s) }

-- a pending name is removed
pub pending_removed_stands : (base : Files) (v : Stage) (u : List ℕ) → IsDigits u → (d : Disk) → Stands base d → Stands base (removed d (pending_path v u))
pending_removed_stands base v u is_u d stands =
    let p = pending_path v u in
    let ch : Change base p (Pending v u) d (removed d p) = record { is_named = name_of-pending v u is_u; leftover = pending_leftover v u is_u; same = removed_elsewhere d p; stands = stands } in
    leftover_stands ch (record {
      real = λ s t is found. real_before ch t is s (removed_there d p (pending_path s t) found);
      claimed = λ s t is found. claimed_kept ch t is (λ e. cc) (stands.orderly.claimed s t is (removed_there d p (pending_path s t) found));
      pending_properties = λ s t is found. properties_before ch t is s (removed_there d p (pending_path s t) found);
      claim_first = λ t is dirty. removed_unannounced d p t (stands.settled.claim_first t is (removed_dirty d p (claim_path t) dirty));
      pending_next = λ s t is dirty. announceable_kept ch t is (λ e. cc) (stands.settled.pending_next s t is (removed_dirty d p (pending_path s t) dirty));
    })

pub pending_removed_at : (base : Files) (v : Stage) (u p : List ℕ) → IsDigits u → p ≡ pending_path v u → (d : Disk) → Stands base d → Stands base (removed d p)
pending_removed_at base v u p is_u at d stands = subst (λ x. Stands base (removed d x)) (sym at) (pending_removed_stands base v u is_u d stands)

removed_both_absent : (d : Disk) (t : List ℕ) (s : Stage) → map.get (removed (removed d (pending_path Inflight t)) (pending_path Requested t)).files (pending_path s t) ≡ None
removed_both_absent d t Requested = get-remove_here (removed d (pending_path Inflight t)).files (pending_path Requested t)
removed_both_absent d t Inflight = removed_absent (removed d (pending_path Inflight t)) (pending_path Requested t) (pending_path Inflight t) (get-remove_here d.files (pending_path Inflight t))

removed_both_clean : (d : Disk) (t : List ℕ) (s : Stage) → IsClean (removed (removed d (pending_path Inflight t)) (pending_path Requested t)) (pending_path s t)
removed_both_clean d t Requested = contains-remove_here (removed d (pending_path Inflight t)).dirty (pending_path Requested t)
removed_both_clean d t Inflight = removed_clean (removed d (pending_path Inflight t)) (pending_path Requested t) (pending_path Inflight t) (contains-remove_here d.dirty (pending_path Inflight t))

-- nothing is pending once both pending names are removed
both_removed : (d : Disk) (t : List ℕ) → IsUnannounced (removed (removed d (pending_path Inflight t)) (pending_path Requested t)) t
both_removed d t = record { absent = removed_both_absent d t; clean = removed_both_clean d t }

-- the claim goes last
pub claim_removed_at : (base : Files) (t inflight requested claim : List ℕ) → IsDigits t → inflight ≡ pending_path Inflight t → requested ≡ pending_path Requested t → claim ≡ claim_path t
    → (d₀ d₁ d₂ : Disk) → d₁ ≡ removed d₀ inflight → d₂ ≡ removed d₁ requested → Stands base d₂ → Stands base (removed d₂ claim)
claim_removed_at base t inflight requested claim is at_inflight at_requested at_claim d₀ d₁ d₂ first second stands =
    let both : d₂ ≡ removed (removed d₀ (pending_path Inflight t)) (pending_path Requested t) =
    second ∙ ap (λ x. removed d₁ x) at_requested ∙ ap (λ x. removed x (pending_path Requested t)) (first ∙ ap (λ x. removed d₀ x) at_inflight) in
    subst (λ x. Stands base (removed d₂ x)) (sym at_claim)
    (claim_stands base t is d₂ (removed d₂ (claim_path t)) (removed_elsewhere d₂ (claim_path t)) (subst (λ x. IsUnannounced x t) (sym both) (both_removed d₀ t)) stands)

-- files that differ in leftovers alone
pub alike_same : (a b : Files) → IsAlike a b → ((name : List ℕ) → IsName name → IsInstantIn state.Completed name → IsLeftover (timeline_path name) → ⊥) → IsSameTimeline a b
alike_same a b alike free = record {
  completed = λ name is_name is. alike (timeline_path name) (in_timeline name) (free name is_name is);
  properties = alike properties_path (in_timeline _) properties_stay;
}
