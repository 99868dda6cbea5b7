-- What the files read as when a commit's instant stands behind the others.
use Rattle.std.proofs.Common.{◌≡◌, ◌⊎◌, ◌≢◌, inl, inr, ⊎_elim, ℕ, suc, true, List, [], ◌∷◌, ◌++◌, length, Contains, Option, Some, refl, sym, ap, subst, ◌∙◌}
use Rattle.std.specs.Prelude.{Ok}
use Rattle.std.specs.FinMap as map
use Rattle.std.proofs.lemmas.List.Elements.{Contains-append_cases}
use Rattle.lake_store.specs.Disk.{Files, IsName}
use Rattle.lake_store.proofs.DiskLaws.{path_cases}
use Rattle.table_history.specs.declared.table.Commit.{Commit}
use Rattle.table_history.specs.declared.table.Table.{Table}
use Rattle.table_history.proofs.RowListLemmas.{Contains-one}
use Rattle.hudi_names.specs.Name.{instant_of}
use Rattle.hudi_names.specs.Time.{IsSomeTime}
use Rattle.hudi_names.specs.declared.name.State.{State}
use Rattle.hudi_names.specs.declared.name.State.TheVariants as state
use Rattle.hudi_instant.specs.Instants.{json_instant}
use Rattle.hudi_instant.specs.declared.instant.Instant.{Instant}
use Rattle.hudi_table.proofs.ReadingLaws.{live_rows}
use Rattle.hudi_table.specs.Files.{ReadsAs, SaysInstant, SaysProperties}
use Rattle.hudi_table.specs.Reading.{IsNextHere, IsReadingOf, table_in}
use Rattle.hudi_table.specs.declared.instants.CompletedInstant.{CompletedInstant}
use Rattle.hudi_table.specs.declared.properties.Properties.{Properties}
use Rattle.hudi_table.specs.declared.reading.Latest.{Latest}
use Rattle.hudi_table.specs.declared.reading.Naming.TheVariants.{External}
use Rattle.hudi_table.proofs.ReadingLaws.{reading_further}
use Rattle.hudi_commit.specs.Names.{IsInstantIn, IsThere, completed_name, completed_path, properties_path, timeline_path}
use Rattle.hudi_commit.specs.Orderly.{IsOrderly}
use Rattle.hudi_commit.proofs.NameLaws.{not_completed, pending_instant, state_in}
use Rattle.hudi_commit.proofs.OrderlyLaws.{there}
use Rattle.target_core.specs.Mark.{IsMarkText}
use Rattle.target_core.specs.Views.{Standing, View, standing_of}
use Rattle.target_core.specs.declared.mark.Mark.{Mark}
use Rattle.target_hudi.specs.Reading.{HasOwnNames, HasOwnProperties, IsCarried, IsMarkAt, IsOurs, IsOwnName, commits_in, completed_in}
use Rattle.target_hudi.specs.Steps.{IsStep}
use Rattle.target_hudi.proofs.BesideLemmas.{IsBeside, completed_behind, marked_still, reading_still}
use Rattle.target_hudi.proofs.TimelineLemmas.{AreEarlier, new_one}

-- these bytes are read as properties of a table that this program made
abbrev pub AreOurs : List ℕ → Type 0
AreOurs bytes = (p : Properties) × ReadsAs bytes p × (p.table.ours ≡ true)

-- ---- names and properties

module _ (instant : List ℕ) (real : IsSomeTime instant) (old new : Files) (beside : IsBeside instant old new) (orderly : IsOrderly new) where
  pub own_properties : ((bytes : List ℕ) → map.get new properties_path ≡ Some bytes → (map.get old properties_path ≡ Some bytes) ⊎ AreOurs bytes) → HasOwnProperties old → HasOwnProperties new
  own_properties bytes_of own = record {
    own = λ bytes holds. ⊎_elim (λ (was : map.get old properties_path ≡ Some bytes). own.own bytes was) (λ ours. ours) (bytes_of bytes holds);
    there = λ lacks. lacks.5 (orderly.properties lacks.0 lacks.1 lacks.2 lacks.3 lacks.4);
  }

  completed_name_own : (name : List ℕ) → HasOwnNames old → IsName name → IsThere new (timeline_path name) → IsInstantIn state.Completed name → IsOwnName new name
  completed_name_own name own proper found says = ⊎_elim
      (λ (same : name ≡ completed_name instant). (instant, real, inl same))
      (λ (apart : name ≢ completed_name instant).
      let same = beside.completed name proper says apart in
      let was = own name (record { proper = proper; there = there new old (timeline_path name) (sym same) found; state = state.Completed; says = says }) in (
        was.0,
        was.1,
        ⊎_elim
            (λ done. inl done)
            (λ pending.
            let other = pending_instant pending.0 was.0 was.1.1.digits in
            absurd (not_completed pending.0 (ap (state_in state.Completed) (sym other.2 ∙ sym (ap instant_of pending.1) ∙ says.2))))
            was.2,
      ))
      (path_cases name (completed_name instant))

  open_name_own : (s : State) (name : List ℕ) → s ≢ state.Completed → IsName name → IsThere new (timeline_path name) → IsInstantIn s name → IsOwnName new name
  open_name_own s name unfinished proper found says =
      let is = orderly.pending s name unfinished proper says found in
      (is.1, is.2, inr (is.0, is.3, orderly.claimed is.0 is.1 is.2.1.digits (subst (λ (n : List ℕ). IsThere new (timeline_path n)) is.3 found)))

  name_own : (s : State) (name : List ℕ) → HasOwnNames old → IsName name → IsThere new (timeline_path name) → IsInstantIn s name → IsOwnName new name
  name_own state.Requested name own proper found says = open_name_own state.Requested name (λ e. cc) proper found says
  name_own state.Inflight name own proper found says = open_name_own state.Inflight name (λ e. cc) proper found says
  name_own state.Completed name own proper found says = completed_name_own name own proper found says

  pub own_names : HasOwnNames old → HasOwnNames new
  own_names own name n = name_own n.state name own n.proper n.there n.says

-- ---- the new instant

module _ (instant : List ℕ) (real : IsSomeTime instant) (old : Files) (earlier : AreEarlier old instant) (new : Files) (beside : IsBeside instant old new)
    (bytes : List ℕ) (held : map.get new (completed_path instant) ≡ Some bytes) (written : Instant) (read : json_instant bytes ≡ Ok written)
    (table : Properties) (says_table : SaysProperties new table) (base : Option Latest) (was : IsReadingOf old External table.table (completed_in old) base)
    (commit : Commit) (next : Table) (step : IsStep table.table (table_in base) instant commit written next)
    (mark : Mark) (at : mark.at ≡ instant) (text : List ℕ) (stated : written.mark ≡ Some text) (is_mark : IsMarkText text mark) where
  abbrev one : CompletedInstant
  one = new_one instant real

  says : SaysInstant new one written
  says = record { first = refl; bytes = bytes; holds = held; reads = read }

  marked : IsMarkAt new one (standing_of mark)
  marked = record { instant = written; says = says; text = text; stated = stated; mark = mark; reads = is_mark; at = at; is = refl }

  abbrev latest : Latest
  latest = record { table = next; mark = written.mark }

  next_here : IsNextHere new External table.table one (table_in base) latest
  next_here = record {
    made = record { change = step.change; mark = written.mark };
    here = record { instant = written; says = says; change = step.made; mark = refl };
    after = step.after;
    mark = refl;
  }

  read_now : IsReadingOf new External table.table (completed_in old ++ one ∷ []) (Some latest)
  read_now = reading_further new External table.table (completed_in old) base one latest (reading_still instant real old earlier new beside External table.table (completed_in old) base (λ c within. within) was) next_here

  completed_now : completed_in new ≡ completed_in old ++ one ∷ []
  completed_now = completed_behind instant real old earlier new beside bytes held

  pub carries_now : IsCarried new (suc (length (completed_in old))) commit.change (standing_of mark)
  carries_now = record {
    table = table;
    says_table = says_table;
    front = completed_in old;
    commit = one;
    behind = [];
    split = completed_now;
    is = refl;
    instant = written;
    says = says;
    latest = latest;
    read = read_now;
    kinds = step.kinds;
    are_kinds = step.are_kinds;
    adds = step.adds;
    removes = step.removes;
    only = step.only;
    marked = marked;
  }

  all_read : IsReadingOf new External table.table (completed_in new) (Some latest)
  all_read = subst (λ (cs : List CompletedInstant). IsReadingOf new External table.table cs (Some latest)) (sym completed_now) read_now

  -- each mark is for a source of this format
  pub ours_now : HasOwnProperties new → HasOwnNames new
      → ((c : CompletedInstant) → Contains (completed_in old) c → (standing : Standing) × IsMarkAt old c standing × (standing.origin.source ≡ mark.source))
      → (view : View) → view ≡ record { commits = commits_in new; mark = Some (standing_of mark); table = next } → IsOurs new view
  ours_now properties names marks view is = record {
    properties = properties;
    names = names;
    table = table;
    says = says_table;
    latest = latest;
    read = all_read;
    live = live_rows new External table.table (completed_in new) latest all_read;
    source = mark.source;
    marked = λ c within. ⊎_elim
        (λ before. let m = marks c before in (m.0, marked_still instant real old earlier new beside c m.0 before m.1, m.2))
        (λ last. (standing_of mark, subst (λ (d : CompletedInstant). IsMarkAt new d (standing_of mark)) (Contains-one one c last) marked, refl))
        (Contains-append_cases (completed_in old) (one ∷ []) c (subst (λ (l : List CompletedInstant). Contains l c) completed_now within));
    front = completed_in old;
    newest = one;
    last = completed_now;
    standing = standing_of mark;
    stands = marked;
    view_is = is;
  }
