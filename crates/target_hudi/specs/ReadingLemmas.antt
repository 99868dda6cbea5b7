-- Files that stand for a view are orderly, and they stand for it by their completed instants, their properties and the names in the folder alone.
use Rattle.std.proofs.Common.{◌≡◌, ◌⊎◌, inl, inr, ⊎_elim, ℕ, List, [], ◌∷◌, ◌++◌, length, Contains, Some, sym, ap, subst, ◌∙◌}
use Rattle.std.specs.Prelude.{is_some}
use Rattle.std.specs.FinMap as map
use Rattle.std.proofs.lemmas.Bool.{cases_Bool, false≢true}
use Rattle.std.proofs.lemmas.List.Elements.{Contains-append_left, Contains-append_right, Contains-push_cases}
use Rattle.lake_store.specs.Disk.{Files, IsName}
use Rattle.table_history.specs.declared.table.Change.{Change}
use Rattle.table_history.proofs.RowListLemmas.{Contains-head, Contains-tail}
use Rattle.hudi_names.specs.Name.{instant_of}
use Rattle.hudi_names.specs.Time.{IsDigits, IsSomeTime}
use Rattle.hudi_names.specs.declared.name.State.{State}
use Rattle.hudi_names.specs.declared.name.State.TheVariants as state
use Rattle.hudi_timeline.specs.Live.{Timeline}
use Rattle.hudi_instant.specs.declared.instant.Instant.{Instant}
use Rattle.hudi_properties.specs.declared.table.HudiTable.{HudiTable}
use Rattle.hudi_table.proofs.ReadingLaws.{live_rows}
use Rattle.hudi_table.specs.Files.{SaysInstant, SaysProperties}
use Rattle.hudi_table.specs.Reading.{IsLatestOf, SayTimeline}
use Rattle.hudi_table.specs.declared.instants.CompletedInstant.{CompletedInstant}
use Rattle.hudi_table.specs.declared.properties.Properties.{Properties}
use Rattle.hudi_table.specs.declared.reading.Latest.{Latest}
use Rattle.hudi_table.specs.declared.reading.Naming.{Naming}
use Rattle.hudi_table.specs.declared.reading.Naming.TheVariants.{External}
use Rattle.hudi_commit.specs.Names.{IsInstantIn, IsThere, Stage, claim_path, completed_name, completed_path, pending_name, pending_path, properties_path, timeline_path}
use Rattle.hudi_commit.specs.Orderly.{IsAlike, IsOrderly, IsSameTimeline}
use Rattle.hudi_commit.proofs.NameLaws.{completed_instant, completed_no_leftover, not_completed, pending_instant, pending_is_name, same_instant, state_in, state_of}
use Rattle.hudi_commit.proofs.OrderlyLaws.{faultless}
use Rattle.hudi_commit.proofs.StepLaws.{alike_same}
use Rattle.target_core.specs.Views.{Standing, View}
use Rattle.target_hudi.specs.Reading.{HasOwnNames, HasOwnProperties, IsCarried, IsMarkAt, IsOurs, IsOwnName, Reads, completed_in}
use Rattle.target_hudi.specs.InstantLemmas.{completed_same, named, same_sym, there_too}

-- ---- files with names of their own are orderly

-- a name tells its state
pub one_state : (s t : State) (name other : List ℕ) → name ≡ other → IsInstantIn s name → IsInstantIn t other → s ≡ t
one_state s t name other same h k = ap (state_in s) (sym h.2 ∙ ap instant_of same ∙ k.2)

-- the name of a completed instant is no pending one's
pub never_pending : (stage : Stage) (instant : List ℕ) (name : List ℕ) → IsDigits instant → name ≡ pending_name stage instant → IsInstantIn state.Completed name → ⊥
never_pending stage instant name digits is says = not_completed stage (one_state (state_of stage) state.Completed (pending_name stage instant) name (sym is) (pending_instant stage instant digits) says)

module _ (files : Files) (properties : HasOwnProperties files) (names : HasOwnNames files) where
  own_pending : (s : State) (name : List ℕ) → (s ≡ state.Completed → ⊥) → IsName name → IsInstantIn s name → IsThere files (timeline_path name) → (stage : Stage) × (instant : List ℕ) × IsSomeTime instant × (name ≡ pending_name stage instant)
  own_pending s name open_ proper says found =
      let own = names name (record { proper = proper; there = found; state = s; says = says }) in
      ⊎_elim
      (λ (done : name ≡ completed_name own.0). absurd (open_ (one_state s state.Completed name (completed_name own.0) done says (completed_instant own.0 own.1.1.digits))))
      (λ p. (p.0, own.0, own.1, p.1))
      own.2

  own_claimed : (stage : Stage) (instant : List ℕ) → IsDigits instant → IsThere files (pending_path stage instant) → IsThere files (claim_path instant) ⊎ IsThere files (completed_path instant)
  own_claimed stage instant digits found =
      let name = pending_name stage instant in
      let own = names name (record { proper = pending_is_name stage instant digits; there = found; state = state_of stage; says = pending_instant stage instant digits }) in
      ⊎_elim
      (λ (done : name ≡ completed_name own.0). absurd (never_pending stage instant (completed_name own.0) digits (sym done) (completed_instant own.0 own.1.1.digits)))
      (λ p.
      let same : own.0 ≡ instant = same_instant stage p.0 instant own.0 digits own.1.1.digits p.1 in
      subst (λ (t : List ℕ). IsThere files (claim_path t) ⊎ IsThere files (completed_path t)) same p.2)
      own.2

  own_properties : (s : State) (name : List ℕ) → IsName name → IsInstantIn s name → IsThere files (timeline_path name) → IsThere files properties_path
  own_properties s name proper says found = ⊎_elim
      (λ yes. yes)
      (λ no. absurd (properties.there (s, name, proper, says, found, λ yes. false≢true (sym no ∙ yes))))
      (cases_Bool (is_some (map.get files properties_path)))

  pub own_orderly : IsOrderly files
  own_orderly = record { pending = own_pending; claimed = own_claimed; properties = own_properties }

pub own_of : (files : Files) (view : View) → Reads files view → HasOwnProperties files × HasOwnNames files
own_of files view (inl h) = (h.0.properties, h.0.names)
own_of files view (inr h) = (h.properties, h.names)

-- files that stand for a view are orderly
pub orderly : (files : Files) (view : View) → Reads files view → IsOrderly files
orderly files view reads = let own = own_of files view reads in own_orderly files own.0 own.1

-- ---- orderly files that a reader sees the same have names of their own too

module _ (a b : Files) (same : IsSameTimeline a b) (whole : IsOrderly b) where
  pub properties_too : HasOwnProperties a → HasOwnProperties b
  properties_too h = record { own = λ bytes holds. h.own bytes (sym same.properties ∙ holds); there = (faultless b whole).properties }

  claimed_too : (stage : Stage) (instant : List ℕ) (name : List ℕ) → IsSomeTime instant → name ≡ pending_name stage instant → IsThere b (timeline_path name) → IsThere b (claim_path instant) ⊎ IsThere b (completed_path instant)
  claimed_too stage instant name real is found = whole.claimed stage instant real.1.digits (subst (λ (n : List ℕ). IsThere b (timeline_path n)) is found)

  pending_too : (s : State) (name : List ℕ) → (s ≡ state.Completed → ⊥) → IsName name → IsInstantIn s name → IsThere b (timeline_path name) → IsOwnName b name
  pending_too s name open_ proper says found =
      let is = whole.pending s name open_ proper says found in
      (is.1, is.2, inr (is.0, is.3, claimed_too is.0 is.1 name is.2 is.3 found))

  pub names_too : HasOwnNames a → HasOwnNames b
  names_too h name n = by n.state n.says
    where
      by : (s : State) → IsInstantIn s name → IsOwnName b name
      by state.Requested says = pending_too state.Requested name (λ e. cc) n.proper says n.there
      by state.Inflight says = pending_too state.Inflight name (λ e. cc) n.proper says n.there
      by state.Completed says =
          let own = h name (record { proper = n.proper; there = there_too b a (same_sym a b same) name n.proper says n.there; state = state.Completed; says = says }) in
          (own.0, own.1, ⊎_elim inl (λ p. inr (p.0, p.1, claimed_too p.0 own.0 name own.1 p.1 n.there)) own.2)

-- ---- the same completed instants and properties

abbrev pub AreCompleted : Files → List CompletedInstant → Type 0
AreCompleted files cs = (c : CompletedInstant) → Contains cs c → Contains (completed_in files) c

module _ (a b : Files) (same : IsSameTimeline a b) where
  pub says_properties_too : (p : Properties) → SaysProperties a p → SaysProperties b p
  says_properties_too p h = record { bytes = h.bytes; holds = same.properties ∙ h.holds; read = h.read }

  pub says_too : (c : CompletedInstant) (i : Instant) → Contains (completed_in a) c → SaysInstant a c i → SaysInstant b c i
  says_too c i within h =
      let is = named a c within in
      record { first = h.first; bytes = h.bytes; holds = same.completed c.name is.proper (is.digits, is.action, is.says) ∙ h.holds; reads = h.reads }

  say_too : (naming : Naming) (cs : List CompletedInstant) (timeline : Timeline) → AreCompleted a cs → SayTimeline a naming cs timeline → SayTimeline b naming cs timeline
  say_too naming [] timeline are h = h
  say_too naming (c ∷ cs) timeline are h = (h.0, h.1, says_too c h.0 (are c (Contains-head c cs)) h.2, say_too naming cs h.1 (λ d within. are d (Contains-tail c cs d within)) h.3, h.4)

  pub read_too : (naming : Naming) (table : HudiTable) (cs : List CompletedInstant) (latest : Latest) → AreCompleted a cs → IsLatestOf a naming table cs latest → IsLatestOf b naming table cs latest
  read_too naming table cs latest are h = record { before = h.before; newest = h.newest; say = say_too naming cs (h.before ++ h.newest ∷ []) are h.say; leads = h.leads; mark = h.mark }

  pub marked_too : (c : CompletedInstant) (s : Standing) → Contains (completed_in a) c → IsMarkAt a c s → IsMarkAt b c s
  marked_too c s within h = record { instant = h.instant; says = says_too c h.instant within h.says; text = h.text; stated = h.stated; mark = h.mark; reads = h.reads; at = h.at; is = h.is }

-- the last element is among them, and so is each in the middle
pub in_middle : {X : Type 0} (xs front : List X) (x : X) (behind : List X) → xs ≡ front ++ x ∷ behind → Contains xs x
in_middle {X = X} xs front x behind is = subst (λ (ys : List X). Contains ys x) (sym is) (Contains-append_right front (x ∷ behind) x (Contains-head x behind))

module _ (a b : Files) (same : IsSameTimeline a b) where
  completed : completed_in b ≡ completed_in a
  completed = completed_same a b same

  ours_too : (v : View) → HasOwnProperties b → HasOwnNames b → IsOurs a v → IsOurs b v
  ours_too v properties names h =
      let read = subst (λ (cs : List CompletedInstant). IsLatestOf b External h.table.table cs h.latest) (sym completed) (read_too a b same External h.table.table (completed_in a) h.latest (λ c within. within) h.read) in
      let among : Contains (completed_in a) h.newest = in_middle (completed_in a) h.front h.newest [] h.last in
      record {
        properties = properties;
        names = names;
        table = h.table;
        says = says_properties_too a b same h.table h.says;
        latest = h.latest;
        read = read;
        live = live_rows b External h.table.table (completed_in b) h.latest read;
        source = h.source;
        marked = λ c within.
            let before : Contains (completed_in a) c = subst (λ (cs : List CompletedInstant). Contains cs c) completed within in
            let marked = h.marked c before in
            (marked.0, marked_too a b same c marked.0 before marked.1, marked.2);
        front = h.front;
        newest = h.newest;
        last = completed ∙ h.last;
        standing = h.standing;
        stands = marked_too a b same h.newest h.standing among h.stands;
        view_is = h.view_is ∙ (λ i. record { commits = length (sym completed i); mark = Some h.standing; table = h.latest.table });
      }

  pub reads_by : (v : View) → HasOwnProperties b → HasOwnNames b → Reads a v → Reads b v
  reads_by v properties names (inl h) = inl (record { properties = properties; names = names; none = completed ∙ h.0.none }, h.1)
  reads_by v properties names (inr h) = inr (ours_too v properties names h)

  pub carried_too : (number : ℕ) (change : Change) (s : Standing) → IsCarried a number change s → IsCarried b number change s
  carried_too number change s h =
      let among : Contains (completed_in a) h.commit = in_middle (completed_in a) h.front h.commit h.behind h.split in
      let front : AreCompleted a (h.front ++ h.commit ∷ []) =
      λ c within. subst (λ (cs : List CompletedInstant). Contains cs c) (sym h.split) (⊎_elim
      (λ before. Contains-append_left h.front (h.commit ∷ h.behind) c before)
      (λ (last : h.commit ≡ c). subst (λ d. Contains (h.front ++ h.commit ∷ h.behind) d) last (Contains-append_right h.front (h.commit ∷ h.behind) h.commit (Contains-head h.commit h.behind)))
      (Contains-push_cases h.front h.commit c within)) in
      record {
        table = h.table;
        says_table = says_properties_too a b same h.table h.says_table;
        front = h.front;
        commit = h.commit;
        behind = h.behind;
        split = completed ∙ h.split;
        is = h.is;
        instant = h.instant;
        says = says_too a b same h.commit h.instant among h.says;
        latest = h.latest;
        read = read_too a b same External h.table.table (h.front ++ h.commit ∷ []) h.latest front h.read;
        kinds = h.kinds;
        are_kinds = h.are_kinds;
        adds = h.adds;
        removes = h.removes;
        only = h.only;
        marked = marked_too a b same h.commit s among h.marked;
      }

-- ---- files that differ in leftovers alone

pub same_alike : (a b : Files) → IsAlike a b → IsSameTimeline a b
same_alike a b alike = alike_same a b alike completed_no_leftover

-- orderly files that a reader sees the same stand for the same view
pub reads_too : (a b : Files) (v : View) → IsSameTimeline a b → IsOrderly b → Reads a v → Reads b v
reads_too a b v same whole reads =
    let own = own_of a v reads in
    reads_by a b same v (properties_too a b same whole own.0) (names_too a b same whole own.1) reads

pub alike_completed : (a b : Files) → IsAlike a b → completed_in b ≡ completed_in a
alike_completed a b alike = completed_same a b (same_alike a b alike)

pub alike_reads : (a b : Files) (v : View) → IsOrderly b → IsAlike a b → Reads a v → Reads b v
alike_reads a b v whole alike reads = reads_too a b v (same_alike a b alike) whole reads

pub alike_carries : (a b : Files) (number : ℕ) (change : Change) (s : Standing) → IsAlike a b → IsCarried a number change s → IsCarried b number change s
alike_carries a b number change s alike h = carried_too a b (same_alike a b alike) number change s h
