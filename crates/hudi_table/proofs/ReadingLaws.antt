-- A reading with one instant more, and its live rows.
use Rattle.std.proofs.Common.{◌≡◌, ◌≤◌, List, length, [], ◌∷◌, ◌++◌, Option, Some, None, refl, sym, ap, subst, ◌∙◌, inl, ⊎_elim}
use Rattle.std.specs.Prelude.{IfSome}
use Rattle.lake_basics.specs.declared.limits.TheConstants.{MAX_COMMITS}
use Rattle.lake_store.specs.Disk.{Files}
use Rattle.table_history.specs.Tables.{IsAfter}
use Rattle.table_history.specs.declared.table.Change.{Change}
use Rattle.table_history.specs.declared.table.Table.{Table}
use Rattle.table_history.proofs.RowListLemmas.{Contains-none}
use Rattle.hudi_timeline.specs.Change.{IsChangeOf, LeadsThrough}
use Rattle.hudi_timeline.specs.Live.{Completed, Timeline, completed}
use Rattle.hudi_instant.specs.declared.instant.Instant.{Instant}
use Rattle.hudi_properties.specs.declared.table.HudiTable.{HudiTable}
use Rattle.hudi_timeline.proofs.TimelineLaws.{timeline_kinds, timeline_rows}
use Rattle.hudi_table.specs.Files.{SaysInstant}
use Rattle.hudi_table.specs.Reading.{HasLiveRows, IsLatestOf, IsNextHere, IsReadingOf, SayTimeline, form_of, table_in}
use Rattle.hudi_table.specs.Refusals.{IsReadingRefusal, IsStepRefusal}
use Rattle.hudi_table.specs.declared.error.TimelineError.{TimelineError}
use Rattle.hudi_table.specs.declared.error.TimelineError.TheVariants as error
use Rattle.hudi_table.specs.declared.instants.CompletedInstant.{CompletedInstant}
use Rattle.hudi_table.specs.declared.reading.Latest.{Latest}
use Rattle.hudi_table.specs.declared.reading.Naming.{Naming}

-- ---- one instant more

say_further : (files : Files) (naming : Naming) (cs : List CompletedInstant) (timeline : Timeline) (c : CompletedInstant) (i : Instant) → SayTimeline files naming cs timeline → SaysInstant files c i
    → SayTimeline files naming (cs ++ c ∷ []) (timeline ++ completed (form_of naming c.time) i ∷ [])
say_further files naming [] timeline c i say says = (i, [], says, refl, ap (λ l. l ++ completed (form_of naming c.time) i ∷ []) say)
say_further files naming (d ∷ cs) timeline c i say says =
    let u = completed (form_of naming c.time) i in (say.0, say.1 ++ u ∷ [], say.2, say_further files naming cs say.1 c i say.3 says, ap (λ l. l ++ u ∷ []) say.4)

leads_further : (table : HudiTable) (base : Option Table) (before : Timeline) (newest : Completed) (t : Table) (u : Completed) (change : Change) (next : Table) → LeadsThrough table base (before ++ newest ∷ []) t
    → IsChangeOf u table (Some t) change → IsAfter t change next → LeadsThrough table base ((before ++ newest ∷ []) ++ u ∷ []) next
leads_further table base [] newest t u change next leads is after =
    let end : t ≡ leads.1 = leads.4 in
    (leads.0, leads.1, leads.2, leads.3, (change, next, subst (λ b. IsChangeOf u table (Some b) change) end is, subst (λ b. IsAfter b change next) end after, refl))
leads_further table base (x ∷ before) newest t u change next leads is after = (leads.0, leads.1, leads.2, leads.3, leads_further table (Some leads.1) before newest t u change next leads.4 is after)

pub reading_further : (files : Files) (naming : Naming) (table : HudiTable) (front : List CompletedInstant) (latest : Option Latest) (c : CompletedInstant) (next : Latest) → IsReadingOf files naming table front latest
    → IsNextHere files naming table c (table_in latest) next → IsReadingOf files naming table (front ++ c ∷ []) (Some next)
reading_further files naming table front None c next was step =
    let i = step.here.instant in
    record {
      before = [];
      newest = completed (form_of naming c.time) i;
      say = subst (λ l. SayTimeline files naming (l ++ c ∷ []) (completed (form_of naming c.time) i ∷ [])) (sym was) (i, [], step.here.says, refl, refl);
      leads = (step.made.change, next.table, step.here.change, step.after, refl);
      mark = step.mark ∙ step.here.mark;
    }
reading_further files naming table front (Some latest) c next was step =
    let i = step.here.instant in
    let u = completed (form_of naming c.time) i in
    record {
      before = was.before ++ was.newest ∷ [];
      newest = u;
      say = say_further files naming front (was.before ++ was.newest ∷ []) c i was.say step.here.says;
      leads = leads_further table None was.before was.newest latest.table u step.made.change next.table was.leads step.here.change step.after;
      mark = step.mark ∙ step.here.mark;
    }

-- an instant that is refused behind those that can be read
pub stops_at : (files : Files) (naming : Naming) (table : HudiTable) (instants front behind : List CompletedInstant) (c : CompletedInstant) (latest : Option Latest) (e : TimelineError) → length instants ≤ MAX_COMMITS → instants ≡ front ++ c ∷ behind
    → IsReadingOf files naming table front latest → IsStepRefusal files naming table c (table_in latest) e → IsReadingRefusal files naming table instants e
stops_at files naming table instants front behind c latest error.Memory few split read refused = tt
stops_at files naming table instants front behind c latest error.StoreFault few split read refused = tt
stops_at files naming table instants front behind c latest error.ManyNames few split read refused = refused
stops_at files naming table instants front behind c latest error.ManyCommits few split read refused = absurd refused
stops_at files naming table instants front behind c latest (error.Missing p) few split read refused = record { few = few; front = front; instant = c; behind = behind; split = split; latest = latest; read = read; refused = refused }
stops_at files naming table instants front behind c latest (error.Large p) few split read refused = record { few = few; front = front; instant = c; behind = behind; split = split; latest = latest; read = read; refused = refused }
stops_at files naming table instants front behind c latest (error.Refused p e) few split read refused = record { few = few; front = front; instant = c; behind = behind; split = split; latest = latest; read = read; refused = refused }

-- ---- live rows

not_none : (before : Timeline) (newest : Completed) → before ++ newest ∷ [] ≡ [] → ⊥
not_none [] newest e = cc
not_none (u ∷ us) newest e = cc

module _ (files : Files) (naming : Naming) (table : HudiTable) (instants : List CompletedInstant) (latest : Latest) where
  rows_live : (timeline : Timeline) → SayTimeline files naming instants timeline → (timeline ≡ [] → ⊥) → LeadsThrough table None timeline latest.table → HasLiveRows files naming table instants latest
  rows_live [] say some leads = absurd (some refl)
  rows_live (u ∷ us) say some leads = record {
    timeline = u ∷ us;
    say = say;
    kinds = leads.2.kinds;
    are_kinds = timeline_kinds table None u us latest.table leads;
    live = λ row.
        let rows = timeline_rows table None u us latest.table leads row in (
          λ there. ⊎_elim (λ live. live) (λ stays. absurd (Contains-none row stays.0)) (rows.0 there),
          λ live. rows.1 (inl live),
        );
  }

  pub live_rows : IsLatestOf files naming table instants latest → HasLiveRows files naming table instants latest
  live_rows is = rows_live (is.before ++ is.newest ∷ []) is.say (not_none is.before is.newest) is.leads

pub some_none : (latest : Latest) → Some latest ≡ None → ⊥
some_none latest e = cc

-- where there is one
pub live_if_any : (files : Files) (naming : Naming) (table : HudiTable) (instants : List CompletedInstant) (latest : Option Latest) → IsReadingOf files naming table instants latest → IfSome latest (HasLiveRows files naming table instants)
live_if_any files naming table instants None is = tt
live_if_any files naming table instants (Some latest) is = live_rows files naming table instants latest is
