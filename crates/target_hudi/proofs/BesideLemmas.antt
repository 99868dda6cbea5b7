-- What the files of a timeline have when a commit's instant may be there or not, and all other completed instants are as they were.
use Rattle.std.proofs.Common.{◌≡◌, ◌⊎◌, inl, inr, ℕ, ◌+◌, ◌≤◌, length, append_assoc, List, [], ◌∷◌, ◌++◌, Contains, Option, Some, None, refl, sym, ap, subst, ◌∙◌, arith}
use Rattle.std.specs.Prelude.{is_some}
use Rattle.std.specs.FinMap as map
use Rattle.std.proofs.lemmas.List.{length-append}
use Rattle.std.proofs.lemmas.List.Elements.{Contains-append_left, Contains-append_right}
use Rattle.lake_store.specs.Disk.{Files, IsName}
use Rattle.table_history.specs.declared.table.Change.{Change}
use Rattle.table_history.proofs.RowListLemmas.{Contains-head, Contains-none, Contains-tail}
use Rattle.hudi_names.specs.Time.{IsSomeTime}
use Rattle.hudi_names.specs.declared.name.State.TheVariants as state
use Rattle.hudi_timeline.specs.Live.{Timeline}
use Rattle.hudi_instant.specs.declared.instant.Instant.{Instant}
use Rattle.hudi_properties.specs.declared.table.HudiTable.{HudiTable}
use Rattle.hudi_table.specs.Files.{SaysInstant, SaysProperties}
use Rattle.hudi_table.specs.Instants.{path_of}
use Rattle.hudi_table.specs.Reading.{IsReadingOf, SayTimeline}
use Rattle.hudi_table.specs.declared.instants.CompletedInstant.{CompletedInstant}
use Rattle.hudi_table.specs.declared.properties.Properties.{Properties}
use Rattle.hudi_table.specs.declared.reading.Latest.{Latest}
use Rattle.hudi_table.specs.declared.reading.Naming.{Naming}
use Rattle.hudi_table.specs.declared.reading.Naming.TheVariants.{External}
use Rattle.hudi_commit.specs.Names.{IsInstantIn, completed_name, completed_path, properties_path, timeline_path}
use Rattle.target_core.specs.Views.{Standing}
use Rattle.target_hudi.specs.InstantLemmas.{named}
use Rattle.target_hudi.specs.Reading.{IsCarried, IsMarkAt, IsReached, completed_in}
use Rattle.target_hudi.proofs.TimelineLemmas.{AreEarlier, apart_old, completed_alike, completed_more, new_one}

-- Each completed instant but this one is as it was, and where some are, so are the properties.
pub record IsBeside (instant : List ℕ) (old new : Files) : Type 0 where
  pub completed : (name : List ℕ) → IsName name → IsInstantIn state.Completed name → (name ≡ completed_name instant → ⊥) → map.get new (timeline_path name) ≡ map.get old (timeline_path name)
  pub properties : (completed_in old ≡ [] → ⊥) → map.get new properties_path ≡ map.get old properties_path

-- ---- old and new files

module _ (instant : List ℕ) (real : IsSomeTime instant) (old : Files) (earlier : AreEarlier old instant) (new : Files) (is_beside : IsBeside instant old new) where
  -- the instant isn't there
  pub completed_before : map.get new (completed_path instant) ≡ None → completed_in new ≡ completed_in old
  completed_before none = completed_alike instant real old earlier new is_beside.completed none

  -- it is there
  pub completed_behind : (bytes : List ℕ) → map.get new (completed_path instant) ≡ Some bytes → completed_in new ≡ completed_in old ++ new_one instant real ∷ []
  completed_behind bytes there = completed_more instant real old earlier new is_beside.completed (ap is_some there)

  -- at most one is there
  pub few : length (completed_in new) ≤ length (completed_in old) + 1
  few = few_by (map.get new (completed_path instant)) refl
    where
      few_by : (o : Option (List ℕ)) → map.get new (completed_path instant) ≡ o → length (completed_in new) ≤ length (completed_in old) + 1
      few_by None is = let same : length (completed_in new) ≡ length (completed_in old) = ap length (completed_before is) in omega (arith, same)
      few_by (Some bytes) is =
          let same : length (completed_in new) ≡ length (completed_in old) + 1 = ap length (completed_behind bytes is) ∙ length-append (completed_in old) (new_one instant real ∷ []) in omega (arith, same)

  -- the completed instants of before are still among them
  pub still : (c : CompletedInstant) → Contains (completed_in old) c → Contains (completed_in new) c
  still c within = still_by (map.get new (completed_path instant)) refl
    where
      still_by : (o : Option (List ℕ)) → map.get new (completed_path instant) ≡ o → Contains (completed_in new) c
      still_by None is = subst (λ (l : List CompletedInstant). Contains l c) (sym (completed_before is)) within
      still_by (Some bytes) is = subst (λ (l : List CompletedInstant). Contains l c) (sym (completed_behind bytes is)) (Contains-append_left (completed_in old) (new_one instant real ∷ []) c within)

  some_there : (c : CompletedInstant) → Contains (completed_in old) c → completed_in old ≡ [] → ⊥
  some_there c within none = Contains-none c (subst (λ (l : List CompletedInstant). Contains l c) none within)

  -- what they reached is as it was
  pub reached_still : (path : List ℕ) → IsReached old path → map.get new path ≡ map.get old path
  reached_still path reached = by reached.2
    where
      by : (path ≡ path_of reached.0.name) ⊎ (path ≡ properties_path) → map.get new path ≡ map.get old path
      by (inl same) =
          let h = named old reached.0 reached.1 in
          let apart = apart_old instant real old earlier reached.0 reached.1 in
          ap (λ (p : List ℕ). map.get new p) same ∙ is_beside.completed reached.0.name h.proper (h.digits, h.action, h.says) apart ∙ ap (λ (p : List ℕ). map.get old p) (sym same)
      by (inr same) = ap (λ (p : List ℕ). map.get new p) same ∙ is_beside.properties (some_there reached.0 reached.1) ∙ ap (λ (p : List ℕ). map.get old p) (sym same)

  -- ---- what they say

  says_still : (c : CompletedInstant) (i : Instant) → Contains (completed_in old) c → SaysInstant old c i → SaysInstant new c i
  says_still c i within says =
      let h = named old c within in
      let apart = apart_old instant real old earlier c within in
      let same = is_beside.completed c.name h.proper (h.digits, h.action, h.says) apart in
      record { first = says.first; bytes = says.bytes; holds = same ∙ says.holds; reads = says.reads }

  pub marked_still : (c : CompletedInstant) (s : Standing) → Contains (completed_in old) c → IsMarkAt old c s → IsMarkAt new c s
  marked_still c s within h = record { instant = h.instant; says = says_still c h.instant within h.says; text = h.text; stated = h.stated; mark = h.mark; reads = h.reads; at = h.at; is = h.is }

  pub properties_still : (p : Properties) → (completed_in old ≡ [] → ⊥) → SaysProperties old p → SaysProperties new p
  properties_still p some h = record { bytes = h.bytes; holds = is_beside.properties some ∙ h.holds; read = h.read }

  say_still : (naming : Naming) (cs : List CompletedInstant) (timeline : Timeline) → ((c : CompletedInstant) → Contains cs c → Contains (completed_in old) c) → SayTimeline old naming cs timeline → SayTimeline new naming cs timeline
  say_still naming [] timeline within h = h
  say_still naming (c ∷ cs) timeline within h =
      (h.0, h.1, says_still c h.0 (within c (Contains-head c cs)) h.2, say_still naming cs h.1 (λ d there. within d (Contains-tail c cs d there)) h.3, h.4)

  pub reading_still : (naming : Naming) (table : HudiTable) (cs : List CompletedInstant) (latest : Option Latest) → ((c : CompletedInstant) → Contains cs c → Contains (completed_in old) c) → IsReadingOf old naming table cs latest → IsReadingOf new naming table cs latest
  reading_still naming table cs None within h = h
  reading_still naming table cs (Some latest) within h = record { before = h.before; newest = h.newest; say = say_still naming cs (h.before ++ h.newest ∷ []) within h.say; leads = h.leads; mark = h.mark }

  -- ---- what they carry

  split_by : (front behind : List CompletedInstant) (commit : CompletedInstant) → completed_in old ≡ front ++ commit ∷ behind → (o : Option (List ℕ)) → map.get new (completed_path instant) ≡ o → (more : List CompletedInstant) × (completed_in new ≡ front ++ commit ∷ more)
  split_by front behind commit split None is = (behind, completed_before is ∙ split)
  split_by front behind commit split (Some bytes) is =
      (behind ++ new_one instant real ∷ [], completed_behind bytes is ∙ ap (λ (l : List CompletedInstant). l ++ new_one instant real ∷ []) split ∙ append_assoc front (commit ∷ behind) (new_one instant real ∷ []))

  front_within : (front behind : List CompletedInstant) (commit c : CompletedInstant) → completed_in old ≡ front ++ commit ∷ behind → Contains (front ++ commit ∷ []) c → Contains (completed_in old) c
  front_within front behind commit c split there =
      let whole : (front ++ commit ∷ []) ++ behind ≡ completed_in old = append_assoc front (commit ∷ []) behind ∙ sym split in
      subst (λ (l : List CompletedInstant). Contains l c) whole (Contains-append_left (front ++ commit ∷ []) behind c there)

  pub carried_still : (number : ℕ) (change : Change) (s : Standing) → IsCarried old number change s → IsCarried new number change s
  carried_still number change s h =
      let within : (c : CompletedInstant) → Contains (h.front ++ h.commit ∷ []) c → Contains (completed_in old) c = λ c there. front_within h.front h.behind h.commit c h.split there in
      let commit_there = within h.commit (Contains-append_right h.front (h.commit ∷ []) h.commit (Contains-head h.commit [])) in
      let more = split_by h.front h.behind h.commit h.split (map.get new (completed_path instant)) refl in
      record {
        table = h.table;
        says_table = properties_still h.table (some_there h.commit commit_there) h.says_table;
        front = h.front;
        commit = h.commit;
        behind = more.0;
        split = more.1;
        is = h.is;
        instant = h.instant;
        says = says_still h.commit h.instant commit_there h.says;
        latest = h.latest;
        read = reading_still External h.table.table (h.front ++ h.commit ∷ []) (Some h.latest) within h.read;
        kinds = h.kinds;
        are_kinds = h.are_kinds;
        adds = h.adds;
        removes = h.removes;
        only = h.only;
        marked = marked_still h.commit s commit_there h.marked;
      }
