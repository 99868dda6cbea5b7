-- Runs over the moments before and after a publication.
use Rattle.std.proofs.Common.{◌≡◌, ◌≢◌, ◌⊎◌, inl, inr, ⊎_elim, ℕ, List, [], refl, sym, ◌∙◌, ap, subst}
use Rattle.std.specs.Prelude.{Option, None, Some, is_some, Result, Ok, Err, IsErrOf, OnErr, OnOk}
use Rattle.std.specs.FinMap as map
use Rattle.std.proofs.lemmas.Result.{on_ok_weaker}
use Rattle.lake_store.specs.Disk.{Disk, Files, IsClean, MayLeave, Moves, moved, stored, with_file, written}
use Rattle.lake_store.specs.Moments.{Elapses}
use Rattle.lake_store.specs.declared.store.Store.{Ghosts}
use Rattle.lake_store.specs.declared.store.StoreError.{StoreError}
use Rattle.lake_store.specs.declared.store.StoreError.TheVariants.{Taken}
use Rattle.lake_store.proofs.DiskLaws.{clean-synced, get-insert_here, get-insert_other, path_cases, publish_leaves}
use Rattle.lake_store.proofs.MomentLaws.{goes_further, goes_on, started, weaker}
use Rattle.lake_store.proofs.RunLaws.{NowOnly}
use Rattle.hudi_names.specs.Time.{IsDigits, IsSomeTime}
use Rattle.hudi_commit.specs.Names.{IsLeftover, IsThere, Stage, Requested, Inflight, claim_path, completed_path, pending_path, properties_path}
use Rattle.hudi_commit.specs.Runs.{HasCome, IsAfter, IsAllClean, IsBase, IsBefore, IsPublished, IsRecovered, IsUncontested, StaysAlike, StaysBefore, StaysOrGains, announced, claimed}
use Rattle.hudi_commit.specs.Settled.{IsAnnounceable, Stands, StandsAt}
use Rattle.hudi_commit.proofs.NameLaws.{Properties, Claim, Pending, Completed, apart, claim_leftover, completed_stays, name_of-claim, name_of-completed, name_of-pending, name_of-properties, pending_leftover, properties_stay}
use Rattle.hudi_commit.proofs.OrderlyLaws.{there, there_none}
use Rattle.hudi_commit.proofs.PublishLaws.{moved_clean, moved_file, moved_gone, published_stands}
use Rattle.hudi_commit.proofs.StepLaws.{crash_stands}

-- the disk is settled, and its timeline reads as before the commit
pub record Standing (properties : Option (List ℕ)) (entry : Files) (d : Disk) : Type 0 where
  pub base : Files
  pub is_base : IsBase properties entry base
  pub stands : Stands base d

before_of : (properties : Option (List ℕ)) (entry : Files) (d : Disk) → Standing properties entry d → IsBefore properties entry d.files
before_of properties entry d standing = record { base = standing.base; is_base = standing.is_base; stands = record { orderly = standing.stands.orderly; alike = standing.stands.alike } }

crash_before : (properties : Option (List ℕ)) (entry : Files) (d : Disk) (image : Files) → Standing properties entry d → MayLeave d image → IsBefore properties entry image
crash_before properties entry d image standing may = record { base = standing.base; is_base = standing.is_base; stands = crash_stands standing.base d image standing.stands may }

pub first_base : (properties : Option (List ℕ)) (entry : Files) → IsBase properties entry entry
first_base None entry = refl
first_base (Some p) entry = inl refl

module _ {S : Type 0} (store : Ghosts S) (told : store.tells) (properties : Option (List ℕ)) (entry : Files) where
  pub before_begun : NowOnly store → (s : S) → Standing properties entry (store.disk s) → StaysBefore store properties entry s s
  before_begun only_now s standing = record {
    settled = standing.stands.settled;
    disk = before_of properties entry (store.disk s) standing;
    moments = started store only_now s (IsBefore properties entry) (λ t image may. crash_before properties entry (store.disk s) image standing may) told;
  }

  -- one call more
  pub before_on : (old mid new : S) → StaysBefore store properties entry old mid → Elapses store.disk store.time store.left_since mid new → Standing properties entry (store.disk new) → StaysBefore store properties entry old new
  before_on old mid new so_far elapses standing = record {
    settled = standing.stands.settled;
    disk = before_of properties entry (store.disk new) standing;
    moments = goes_on store old mid new (IsBefore properties entry) (λ t. so_far.moments) (λ t. elapses) (λ t image may. crash_before properties entry (store.disk new) image standing may) told;
  }

  -- a run in which the timeline reads as it did
  pub alike_before : (old new : S) → StaysAlike store entry old new → StaysBefore store properties entry old new
  alike_before old new run = record {
    settled = run.disk.settled;
    disk = record { base = entry; is_base = first_base properties entry; stands = record { orderly = run.disk.orderly; alike = run.disk.alike } };
    moments = weaker store old new (StandsAt entry) (IsBefore properties entry) (λ image stands. record { base = entry; is_base = first_base properties entry; stands = stands }) (λ t. run.moments) told;
  }

  -- a run more
  pub before_then : (old mid new : S) → StaysBefore store properties entry old mid → StaysBefore store properties entry mid new → StaysBefore store properties entry old new
  before_then old mid new so_far more = record {
    settled = more.settled;
    disk = more.disk;
    moments = goes_further store old mid new (IsBefore properties entry) (λ t. so_far.moments) (λ t. more.moments) told;
  }

-- a move, where no other writer is in the way
pub uncontested : {T : Type 0} (r : Result T StoreError) (old new : Disk) (from to bytes : List ℕ) → IsUncontested r → map.get old.files from ≡ Some bytes
    → OnOk r (Moves from to old new) → (IsErrOf r Taken → (b : List ℕ) × (new ≡ stored old to b)) → OnErr r ((IsErrOf r Taken → ⊥) → (new ≡ old) ⊎ Moves from to old new)
    → (new ≡ old) ⊎ (new ≡ moved old from to bytes)
uncontested r old new from to bytes free here ok taken err = ⊎_elim inl (⊎_elim
    (λ (moves : Moves from to old new). inr (moves.2 ∙ ap (λ b. moved old from to b) (unwrap moves.0 (sym moves.1 ∙ here))))
    (λ x. absurd (not_taken r free x.0)))
    (regroup (publish_leaves r old new from to ok taken err))
  where
    regroup : {A B C : Type 0} → A ⊎ B ⊎ C → A ⊎ (B ⊎ C)
    regroup (inl a) = inl a
    regroup (inr (inl b)) = inr (inl b)
    regroup (inr (inr c)) = inr (inr c)

    unwrap : (b : List ℕ) → Some b ≡ Some bytes → b ≡ bytes
    unwrap b same = cc same

    not_taken : {T : Type 0} (r : Result T StoreError) → IsUncontested r → IsErrOf r Taken → ⊥
    not_taken (Ok x) free is = absurd (cc is)
    not_taken (Err e) free is = free (cc is)

-- the same, of paths that are known by other terms
pub uncontested_at : {T : Type 0} (r : Result T StoreError) (old new : Disk) (p q from to bytes : List ℕ) → p ≡ from → q ≡ to → IsUncontested r → map.get old.files from ≡ Some bytes
    → OnOk r (Moves p q old new) → (IsErrOf r Taken → (b : List ℕ) × (new ≡ stored old q b)) → OnErr r ((IsErrOf r Taken → ⊥) → (new ≡ old) ⊎ Moves p q old new)
    → (new ≡ old) ⊎ (new ≡ moved old from to bytes)
uncontested_at r old new p q from to bytes at_from at_to free here ok taken err = ⊎_elim inl
    (λ moves. inr (moves ∙ ap (λ x. moved old x q bytes) at_from ∙ ap (λ x. moved old from x bytes) at_to))
    (uncontested r old new p q bytes free (ap (map.get old.files) at_from ∙ here) ok taken err)

-- at `Ok`
pub has_moved_at : (old new : Disk) (p q from to bytes : List ℕ) → p ≡ from → q ≡ to → map.get old.files from ≡ Some bytes → Moves p q old new → new ≡ moved old from to bytes
has_moved_at old new p q from to bytes at_from at_to here moves =
    let same : moves.0 ≡ bytes = cc (sym moves.1 ∙ ap (map.get old.files) at_from ∙ here) in
    moves.2 ∙ ap (λ b. moved old p q b) same ∙ ap (λ x. moved old x q bytes) at_from ∙ ap (λ x. moved old from x bytes) at_to

-- once the instant's file has come from its claim, also where it was refused then
pub come_uncontested : {T : Type 0} (r : Result T StoreError) (t : List ℕ) (files : Files) → HasCome r t files → IsUncontested r
come_uncontested (Ok x) t files come = tt
come_uncontested (Err e) t files come = come.0

pub never_come : {T : Type 0} {A : Type 0} (r : Result T StoreError) (e : StoreError) (t : List ℕ) (files : Files) → r ≡ Err e → map.get files (completed_path t) ≡ None → HasCome r t files → A
never_come (Ok x) e t files is none come = absurd cc
never_come (Err x) e t files is none come = there_none files (completed_path t) come.1 none

come_or : {T : Type 0} (r : Result T StoreError) (t : List ℕ) (old new to : Disk) → HasCome r t new.files → map.get old.files (completed_path t) ≡ None → OnOk r (new ≡ to) → (new ≡ old) ⊎ (new ≡ to) → new ≡ to
come_or (Ok x) t old new to come none ok either = ok
come_or (Err e) t old new to come none ok (inl same) = there_none new.files (completed_path t) come.1 (ap (λ (d : Disk). map.get d.files (completed_path t)) same ∙ none)
come_or (Err e) t old new to come none ok (inr gone) = gone

pub has_come_at : {T : Type 0} (r : Result T StoreError) (old new : Disk) (p q t bytes : List ℕ) → p ≡ claim_path t → q ≡ completed_path t → HasCome r t new.files → map.get old.files (claim_path t) ≡ Some bytes → map.get old.files (completed_path t) ≡ None
    → OnOk r (Moves p q old new) → (IsErrOf r Taken → (b : List ℕ) × (new ≡ stored old q b)) → OnErr r ((IsErrOf r Taken → ⊥) → (new ≡ old) ⊎ Moves p q old new)
    → new ≡ moved old (claim_path t) (completed_path t) bytes
has_come_at r old new p q t bytes at_from at_to come here none ok taken err =
    come_or r t old new (moved old (claim_path t) (completed_path t) bytes) come none
    (on_ok_weaker r (λ moves. has_moved_at old new p q (claim_path t) (completed_path t) bytes at_from at_to here moves) ok)
    (uncontested_at r old new p q (claim_path t) (completed_path t) bytes at_from at_to (come_uncontested r t new.files come) here ok taken err)

-- ---- a commit is claimed and announced
module _ (t b : List ℕ) (time : IsSomeTime t) where
  is : IsDigits t
  is = time.1.digits

  claimed_file : (d : Disk) (q : List ℕ) → q ≢ claim_path t → map.get (claimed t b d).files q ≡ map.get d.files q
  claimed_file d q differ = get-insert_other d.files (claim_path t) b q differ

  announced_file : (d : Disk) (q : List ℕ) → ((s : Stage) → q ≢ pending_path s t) → map.get (announced t d).files q ≡ map.get d.files q
  announced_file d q differ =
      get-insert_other (map.insert d.files (pending_path Requested t) []) (pending_path Inflight t) [] q (differ Inflight)
      ∙ get-insert_other d.files (pending_path Requested t) [] q (differ Requested)

  properties_no_claim : properties_path ≢ claim_path t
  properties_no_claim = apart properties_path (claim_path t) Properties (Claim t) name_of-properties (name_of-claim t is) (λ e. cc)

  pub claimed_announceable : (d₀ d₁ : Disk) → d₁ ≡ claimed t b d₀ → IsThere d₀.files properties_path → IsAnnounceable d₁ t
  claimed_announceable d₀ d₁ is_claimed properties = subst (λ d. IsAnnounceable d t) (sym is_claimed) (record {
    real = time;
    claim = ap is_some (get-insert_here d₀.files (claim_path t) b);
    durable = clean-synced (written d₀ (claim_path t) b) (claim_path t);
    properties = there d₀.files (claimed t b d₀).files properties_path (claimed_file d₀ properties_path properties_no_claim) properties;
  })

  module _ (d₀ d₁ d₂ : Disk) (is_claimed : d₁ ≡ claimed t b d₀) (is_announced : d₂ ≡ announced t d₁) where
    pub both_same : (q : List ℕ) → q ≢ claim_path t → ((s : Stage) → q ≢ pending_path s t) → map.get d₂.files q ≡ map.get d₀.files q
    both_same q not_claim not_pending =
        ap (λ (d : Disk). map.get d.files q) is_announced ∙ announced_file d₁ q not_pending ∙ ap (λ (d : Disk). map.get d.files q) is_claimed ∙ claimed_file d₀ q not_claim

    -- a path that is no leftover
    pub whole_same : (q : List ℕ) → (IsLeftover q → ⊥) → map.get d₂.files q ≡ map.get d₀.files q
    whole_same q free = both_same q (λ e. free (subst IsLeftover (sym e) (claim_leftover t is))) (λ s e. free (subst IsLeftover (sym e) (pending_leftover s t is)))

    pub claim_here : map.get d₂.files (claim_path t) ≡ Some b
    claim_here = ap (λ (d : Disk). map.get d.files (claim_path t)) is_announced
        ∙ announced_file d₁ (claim_path t) (λ s. apart (claim_path t) (pending_path s t) (Claim t) (Pending s t) (name_of-claim t is) (name_of-pending s t is) (λ e. cc))
        ∙ ap (λ (d : Disk). map.get d.files (claim_path t)) is_claimed ∙ get-insert_here d₀.files (claim_path t) b

    announced_here : (s : Stage) → map.get (announced t d₁).files (pending_path s t) ≡ Some []
    announced_here Inflight = get-insert_here (map.insert d₁.files (pending_path Requested t) []) (pending_path Inflight t) []
    announced_here Requested = get-insert_other (map.insert d₁.files (pending_path Requested t) []) (pending_path Inflight t) [] (pending_path Requested t)
        (apart (pending_path Requested t) (pending_path Inflight t) (Pending Requested t) (Pending Inflight t) (name_of-pending Requested t is) (name_of-pending Inflight t is) (λ e. cc (kind_of e)))
        ∙ get-insert_here d₁.files (pending_path Requested t) []
      where
        kind_of : Pending Requested t ≡ Pending Inflight t → Requested ≡ Inflight
        kind_of e = cc e

    pub pending_here : (s : Stage) → map.get d₂.files (pending_path s t) ≡ Some []
    pending_here s = ap (λ (d : Disk). map.get d.files (pending_path s t)) is_announced ∙ announced_here s

    pub announced_clean : IsAllClean d₂
    announced_clean q = subst (λ d. IsClean d q) (sym is_announced) (clean-synced (written (written d₁ (pending_path Requested t) []) (pending_path Inflight t) []) q)

    pub still_free : map.get d₀.files (completed_path t) ≡ None → map.get d₂.files (completed_path t) ≡ None
    still_free free = whole_same (completed_path t) (completed_stays t is) ∙ free

    pub still_properties : IsThere d₀.files properties_path → IsThere d₂.files properties_path
    still_properties = there d₀.files d₂.files properties_path (whole_same properties_path properties_stay)

    module _ (base : Files) (properties : IsThere d₀.files properties_path) (stands : Stands base d₂) where
      -- the commit's file, once the claim has moved
      pub commit_stands : Stands (with_file base (completed_path t) (Some b)) (moved d₂ (claim_path t) (completed_path t) b)
      commit_stands = published_stands base t b is d₂ stands (still_properties properties) announced_clean

      completed_no_claim : (u : List ℕ) → IsDigits u → completed_path u ≢ claim_path t
      completed_no_claim u is_u e = completed_stays u is_u (subst IsLeftover (sym e) (claim_leftover t is))

      claim_apart : claim_path t ≢ completed_path t
      claim_apart e = completed_no_claim t is (sym e)

      pub commit_published : IsPublished base t b d₀ (moved d₂ (claim_path t) (completed_path t) b)
      commit_published = record {
        stands = commit_stands;
        clean = λ q. moved_clean d₂ (claim_path t) (completed_path t) b q (announced_clean q);
        pending = λ s. moved_file d₂ (claim_path t) (completed_path t) b (pending_path s t)
            (apart (pending_path s t) (claim_path t) (Pending s t) (Claim t) (name_of-pending s t is) (name_of-claim t is) (λ e. cc))
            (λ e. completed_stays t is (subst IsLeftover e (pending_leftover s t is))) ∙ pending_here s;
        claim = moved_gone d₂ (claim_path t) (completed_path t) b claim_apart;
        recovered = λ before u real found. still u real before found;
      }
        where
          still : (u : List ℕ) → IsSomeTime u → IsRecovered d₀ → IsThere (moved d₂ (claim_path t) (completed_path t) b).files (claim_path u) → IsThere (moved d₂ (claim_path t) (completed_path t) b).files (completed_path u)
          still u real before found = ⊎_elim
              (λ (same : u ≡ t). there_none (moved d₂ (claim_path t) (completed_path t) b).files (claim_path u) found
              (ap (λ x. map.get (moved d₂ (claim_path t) (completed_path t) b).files (claim_path x)) same ∙ moved_gone d₂ (claim_path t) (completed_path t) b claim_apart))
              (λ differ.
              let is_u = real.1.digits in
              let other_claim : claim_path u ≢ claim_path t = apart (claim_path u) (claim_path t) (Claim u) (Claim t) (name_of-claim u is_u) (name_of-claim t is) (λ e. differ (cc e)) in
              let other_completed : completed_path u ≢ completed_path t = apart (completed_path u) (completed_path t) (Completed u) (Completed t) (name_of-completed u is_u) (name_of-completed t is) (λ e. differ (cc e)) in
              let no_completed : claim_path u ≢ completed_path t = λ e. completed_stays t is (subst IsLeftover e (claim_leftover u is_u)) in
              let here = moved_file d₂ (claim_path t) (completed_path t) b (claim_path u) other_claim no_completed
              ∙ both_same (claim_path u) other_claim (λ s. apart (claim_path u) (pending_path s t) (Claim u) (Pending s t) (name_of-claim u is_u) (name_of-pending s t is) (λ e. cc)) in
              let done = before u real (there (moved d₂ (claim_path t) (completed_path t) b).files d₀.files (claim_path u) (sym here) found) in
              there d₀.files (moved d₂ (claim_path t) (completed_path t) b).files (completed_path u)
              (moved_file d₂ (claim_path t) (completed_path t) b (completed_path u) (completed_no_claim u is_u) other_completed ∙ whole_same (completed_path u) (completed_stays u is_u)) done)
              (path_cases u t)

-- what is published, and what a crash leaves of it
pub after_of : (base : Files) (t b : List ℕ) (old new : Disk) → IsPublished base t b old new → IsAfter base t b new.files
after_of base t b old new done = record { stands = record { orderly = done.stands.orderly; alike = done.stands.alike }; pending = done.pending; claim = done.claim }

crash_after : (base : Files) (t b : List ℕ) (old new : Disk) (image : Files) → IsPublished base t b old new → MayLeave new image → IsAfter base t b image
crash_after base t b old new image done may = record {
  stands = crash_stands (with_file base (completed_path t) (Some b)) new image done.stands may;
  pending = λ s. may (pending_path s t) (done.clean (pending_path s t)) ∙ done.pending s;
  claim = may (claim_path t) (done.clean (claim_path t)) ∙ done.claim;
}

module _ {S : Type 0} (store : Ghosts S) (told : store.tells) (base : Files) (t b : List ℕ) where
  -- nothing is published yet
  pub not_yet : (old new : S) → StaysAlike store base old new → StaysOrGains store base t b old new
  not_yet old new keeps = record {
    disk = inl keeps.disk;
    moments = weaker store old new (StandsAt base) (λ image. StandsAt base image ⊎ IsAfter base t b image) (λ image. inl) (λ t. keeps.moments) told;
  }

  -- the last call
  pub gains_on : (old mid new : S) → StaysOrGains store base t b old mid → Elapses store.disk store.time store.left_since mid new
      → Stands base (store.disk new) ⊎ IsPublished base t b (store.disk old) (store.disk new) → StaysOrGains store base t b old new
  gains_on old mid new so_far elapses stands = record {
    disk = stands;
    moments = goes_on store old mid new (λ image. StandsAt base image ⊎ IsAfter base t b image) (λ t. so_far.moments) (λ t. elapses)
        (λ _ image may. ⊎_elim
        (λ before. inl (crash_stands base (store.disk new) image before may))
        (λ after. inr (crash_after base t b (store.disk old) (store.disk new) image after may))
        stands) told;
  }
