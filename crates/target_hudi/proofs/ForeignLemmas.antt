-- Orderly files that a reader of the timeline sees the same are foreign with the same first path at fault.
use Rattle.std.proofs.Common.{◌≢◌, inl, inr, ⊎_elim, ℕ, List, ◌∷◌, Contains, Option, None, Some, sym, subst, ◌∙◌}
use Rattle.std.proofs.lemmas.List.Elements.{Contains-append_left}
use Rattle.lake_store.specs.Disk.{Files, IsName}
use Rattle.table_history.specs.declared.kind.Kind.{Kind}
use Rattle.table_history.specs.declared.table.Table.{Table}
use Rattle.hudi_names.specs.declared.name.State.{State}
use Rattle.hudi_names.specs.declared.name.State.TheVariants as state
use Rattle.hudi_names.specs.declared.error.HudiError.{HudiError}
use Rattle.hudi_properties.specs.declared.table.HudiTable.{HudiTable}
use Rattle.hudi_table.specs.Reading.{IsNextHere, IsReadingOf, table_in}
use Rattle.hudi_table.specs.Refusals.{IsUnfit, IsUnreadable}
use Rattle.hudi_table.specs.declared.instants.CompletedInstant.{CompletedInstant}
use Rattle.hudi_table.specs.declared.properties.Properties.{Properties}
use Rattle.hudi_table.specs.declared.reading.Latest.{Latest}
use Rattle.hudi_table.specs.declared.reading.Naming.TheVariants.{External}
use Rattle.hudi_commit.specs.Names.{IsInstantIn, IsThere, timeline_path}
use Rattle.hudi_commit.specs.Orderly.{IsOrderly, IsSameTimeline}
use Rattle.hudi_commit.proofs.OrderlyLaws.{faultless}
use Rattle.target_hudi.specs.InstantLemmas.{completed_same, named, same_sym, there_too, within_too}
use Rattle.target_hudi.specs.Inspecting.{HasForeignProperties, IsFaulty, IsFirstForeignName, IsForeign, IsForeignName, IsReadUpTo}
use Rattle.target_hudi.specs.Laws.{ReadingLemma}
use Rattle.target_hudi.specs.Reading.{IsOwnName, completed_in}
use Rattle.target_hudi.specs.ReadingLemmas.{AreCompleted, carried_too, in_middle, marked_too, names_too, never_pending, properties_too, read_too, reads_too, says_properties_too, says_too}

-- a name of an instant that isn't completed is one of this program's
open_own : (files : Files) → IsOrderly files → (s : State) (name : List ℕ) → s ≢ state.Completed → IsName name → IsThere files (timeline_path name) → IsInstantIn s name → IsOwnName files name
open_own files orderly s name unfinished proper found says =
    let is = orderly.pending s name unfinished proper says found in
    (is.1, is.2, inr (is.0, is.3, orderly.claimed is.0 is.1 is.2.1.digits (subst (λ (n : List ℕ). IsThere files (timeline_path n)) is.3 found)))

-- a foreign name of orderly files is a completed instant's
done_by : (files : Files) → IsOrderly files → (name : List ℕ) (s : State) → (IsOwnName files name → ⊥) → IsName name → IsThere files (timeline_path name) → IsInstantIn s name → IsInstantIn state.Completed name
done_by files orderly name state.Requested foreign proper found says = absurd (foreign (open_own files orderly state.Requested name (λ e. cc) proper found says))
done_by files orderly name state.Inflight foreign proper found says = absurd (foreign (open_own files orderly state.Inflight name (λ e. cc) proper found says))
done_by files orderly name state.Completed foreign proper found says = says

foreign_name_too : (a b : Files) → IsSameTimeline a b → IsOrderly a → (name : List ℕ) → IsForeignName a name → IsForeignName b name
foreign_name_too a b same orderly name h =
    let done = done_by a orderly name h.names.state h.foreign h.names.proper h.names.there h.names.says in
    record {
      names = record { proper = h.names.proper; there = there_too a b same name h.names.proper done h.names.there; state = state.Completed; says = done };
      foreign = λ own. ⊎_elim
          (λ completed. h.foreign (own.0, own.1, inl completed))
          (λ pending. never_pending pending.0 own.0 name own.1.1.digits pending.1 done)
          own.2;
    }

-- ---- completed instants

module _ (a b : Files) (same : IsSameTimeline a b) where
  unreadable_too : (c : CompletedInstant) (e : HudiError) → Contains (completed_in a) c → IsUnreadable a c e → IsUnreadable b c e
  unreadable_too c e within (inl h) = inl h
  unreadable_too c e within (inr (first, bytes, holds, refused)) =
      let is = named a c within in
      inr (first, bytes, same.completed c.name is.proper (is.digits, is.action, is.says) ∙ holds, refused)

  unfit_too : (table : HudiTable) (c : CompletedInstant) (base : Option Table) (e : HudiError) → Contains (completed_in a) c → IsUnfit a External table c base e → IsUnfit b External table c base e
  unfit_too table c base e within h = (h.0, says_too a b same c h.0 within h.1, h.2)

  next_too : (table : HudiTable) (c : CompletedInstant) (base : Option Table) (next : Latest) → Contains (completed_in a) c → IsNextHere a External table c base next → IsNextHere b External table c base next
  next_too table c base next within h = record {
    made = h.made;
    here = record { instant = h.here.instant; says = says_too a b same c h.here.instant within h.here.says; change = h.here.change; mark = h.here.mark };
    after = h.after;
    mark = h.mark;
  }

  reading_too : (table : HudiTable) (cs : List CompletedInstant) (latest : Option Latest) → AreCompleted a cs → IsReadingOf a External table cs latest → IsReadingOf b External table cs latest
  reading_too table cs None are h = h
  reading_too table cs (Some latest) are h = read_too a b same External table cs latest are h

  faulty_too : (source : Kind) (table : Properties) (c : CompletedInstant) (latest : Option Latest) → Contains (completed_in a) c → IsFaulty source a table c latest → IsFaulty source b table c latest
  faulty_too source table c latest within (inl (e, fault, inl h)) = inl (e, fault, inl (unreadable_too c e within h))
  faulty_too source table c latest within (inl (e, fault, inr h)) = inl (e, fault, inr (unfit_too table.table c (table_in latest) e within h))
  faulty_too source table c latest within (inr (next, here, none)) =
      inr (next, next_too table.table c (table_in latest) next within here, λ standing marked. none standing (marked_too b a (same_sym a b same) c standing (within_too a b same c within) marked))

module _ (a b : Files) (orderly_a : IsOrderly a) (orderly_b : IsOrderly b) (same : IsSameTimeline a b) where
  foreign_properties_too : HasForeignProperties a → HasForeignProperties b
  foreign_properties_too (inl lacks) = absurd ((faultless a orderly_a).properties lacks)
  foreign_properties_too (inr h) = inr (h.0, same.properties ∙ h.1, h.2)

  first_name_too : (path : List ℕ) → IsFirstForeignName a path → IsFirstForeignName b path
  first_name_too path h = record {
    properties = properties_too a b same orderly_b h.properties;
    name = h.name;
    is = h.is;
    foreign = foreign_name_too a b same orderly_a h.name h.foreign;
    first = λ other foreign. h.first other (foreign_name_too b a (same_sym a b same) orderly_b other foreign);
  }

  up_to_too : (source : Kind) (table : Properties) (c : CompletedInstant) (latest : Option Latest) → IsReadUpTo source a table c latest → IsReadUpTo source b table c latest
  up_to_too source table c latest h =
      let among : AreCompleted a h.front = λ d there. subst (λ (l : List CompletedInstant). Contains l d) (sym h.split) (Contains-append_left h.front (c ∷ h.behind) d there) in
      record {
        properties = properties_too a b same orderly_b h.properties;
        names = names_too a b same orderly_b h.names;
        says = says_properties_too a b same table h.says;
        front = h.front;
        behind = h.behind;
        split = completed_same a b same ∙ h.split;
        read = reading_too a b same table.table h.front latest among h.read;
        marked = λ before there. let m = h.marked before there in (m.0, marked_too a b same before m.0 (among before there) m.1, m.2);
      }

  pub foreign_too : (source : Kind) (path : List ℕ) → IsForeign source a path → IsForeign source b path
  foreign_too source path (inl h) = inl (h.0, foreign_properties_too h.1)
  foreign_too source path (inr (inl h)) = inr (inl (first_name_too path h))
  foreign_too source path (inr (inr h)) =
      let within = in_middle (completed_in a) h.before.front h.instant h.before.behind h.before.split in
      inr (inr (record {
        instant = h.instant;
        is = h.is;
        table = h.table;
        latest = h.latest;
        before = up_to_too source h.table h.instant h.latest h.before;
        faulty = faulty_too a b same source h.table h.instant h.latest within h.faulty;
      }))

-- the reading lemma
pub read_alike : ReadingLemma
read_alike a b orderly_a orderly_b same = record {
  reads = λ view reads. reads_too a b view same orderly_b reads;
  carries = λ number change standing h. carried_too a b same number change standing h;
  foreign = foreign_too a b orderly_a orderly_b same;
}
