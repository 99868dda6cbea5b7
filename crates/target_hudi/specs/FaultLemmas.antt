-- An instant that is read and taken over the table before it is at no fault there, however that table was read.
use Rattle.std.proofs.Common.{◌≡◌, ◌⊎◌, inl, inr, ⊎_elim, List, [], ◌∷◌, ◌++◌, Option, None, Some, Result, refl, sym, ap, subst, ◌∙◌}
use Rattle.std.specs.Prelude.{Err, Ok, option_map, unwrap_or}
use Rattle.std.proofs.lemmas.Bool.{false≢true}
use Rattle.lake_store.specs.Disk.{Files}
use Rattle.table_history.specs.First.{IsFirst, NoneOf}
use Rattle.table_history.specs.Tables.{IsAfter}
use Rattle.table_history.specs.TypeTree.{ColumnTrees}
use Rattle.table_history.specs.declared.feature.Feature.{Feature}
use Rattle.table_history.specs.declared.feature.Feature.TheVariants as feature
use Rattle.table_history.specs.declared.kind.Kind.{Kind}
use Rattle.table_history.specs.declared.table.Change.{Change}
use Rattle.table_history.specs.declared.table.Table.{Table}
use Rattle.partition_map.specs.Columns.{HasOtherKind}
use Rattle.schema_map.specs.declared.fault.MapError.{MapError}
use Rattle.hudi_timeline.specs.Causes.{IsInForce, IsRefusalOf, Shows, change_features, table_before}
use Rattle.hudi_timeline.specs.Change.{IsChangeOf, LeadsThrough}
use Rattle.hudi_instant.specs.Instants.{json_instant}
use Rattle.hudi_timeline.specs.Live.{Completed, Timeline, completed}
use Rattle.hudi_timeline.specs.Schemas.{schema_after, stated_schema}
use Rattle.hudi_names.specs.declared.error.HudiError.{HudiError}
use Rattle.hudi_names.specs.declared.error.HudiError.TheVariants as errors
use Rattle.hudi_instant.specs.declared.instant.Instant.{Instant}
use Rattle.hudi_properties.specs.declared.table.HudiTable.{HudiTable}
use Rattle.hudi_table.specs.Files.{SaysInstant}
use Rattle.hudi_table.specs.Reading.{IsLatestOf, IsReadingOf, SayTimeline, form_of, table_in}
use Rattle.hudi_table.specs.Refusals.{IsUnfit, IsUnreadable}
use Rattle.hudi_table.specs.declared.instants.CompletedInstant.{CompletedInstant}
use Rattle.hudi_table.specs.declared.properties.Properties.{Properties}
use Rattle.hudi_table.specs.declared.reading.Latest.{Latest}
use Rattle.hudi_table.specs.declared.reading.Naming.TheVariants.{External}
use Rattle.target_core.specs.Views.{Standing}
use Rattle.target_hudi.specs.Inspecting.{IsFault, IsFaulty}
use Rattle.target_hudi.specs.Reading.{IsMarkAt}
use Rattle.target_hudi.specs.OnceLemmas.{one_instant}

-- ---- a table of the same schema

abbrev pub schema_in : Option Table → Option ColumnTrees
schema_in base = option_map (λ (t : Table). t.schema) base

schema_before : (table : HudiTable) (a b : Option Table) → schema_in a ≡ schema_in b → (table_before table a).schema ≡ (table_before table b).schema
schema_before table None None same = refl
schema_before table None (Some b) same = absurd (cc)
schema_before table (Some a) None same = absurd (cc)
schema_before table (Some a) (Some b) same = cc

none_too : (a b : Option Table) → schema_in a ≡ schema_in b → a ≡ None → b ≡ None
none_too a None same is = refl
none_too None (Some b) same is = absurd (cc)
none_too (Some a) (Some b) same is = absurd (cc)

after_too : (a b : Option Table) (stated : Result (Option ColumnTrees) MapError) → schema_in a ≡ schema_in b → schema_after stated a ≡ schema_after stated b
after_too a b (Err e) same = refl
after_too a b (Ok None) same = same
after_too a b (Ok (Some schema)) same = refl

module _ (u : Completed) (table : HudiTable) where
  pub in_force_too : (a b : Option Table) (schema : ColumnTrees) → schema_in a ≡ schema_in b → IsInForce u a schema → IsInForce u b schema
  in_force_too a b schema same is = sym (after_too a b (stated_schema u.instant.schema) same) ∙ is

  kinds_too : (a b : Option Table) → schema_in a ≡ schema_in b → (schema : ColumnTrees) → (before : Table) × (a ≡ Some before) × HasOtherKind before.schema schema table.partition
      → (before : Table) × (b ≡ Some before) × HasOtherKind before.schema schema table.partition
  kinds_too a None same schema h = let none : schema_in a ≡ Some h.0.schema = ap schema_in h.1 in absurd (cc)
  kinds_too a (Some b) same schema h =
      let told : ◌≡◌ {A = Option ColumnTrees} (Some h.0.schema) (Some b.schema) = sym (ap schema_in h.1) ∙ same in
      let one : h.0.schema ≡ b.schema = cc in
      (b, refl, subst (λ (s : ColumnTrees). HasOtherKind s schema table.partition) one h.2)

  shows_too : (a b : Option Table) → schema_in a ≡ schema_in b → (f : Feature) → Shows u table a f → Shows u table b f
  shows_too a b same feature.NoSchema h = (h.0, none_too a b same h.1)
  shows_too a b same feature.PartitionType h = (h.0, in_force_too a b h.0 same h.1, h.2)
  shows_too a b same feature.PartitionChange h = let kinds = kinds_too a b same h.0 (h.2, h.3, h.4) in (h.0, in_force_too a b h.0 same h.1, kinds.0, kinds.1, kinds.2)
  shows_too a b same feature.PartitionValue h = (h.0, record { schema = h.1.schema; in_force = in_force_too a b h.1.schema same h.1.in_force; are = h.1.are }, h.2)
  shows_too a b same _ h = h

pub none_first : {A : Type 0} (P Q : A → Type 0) (xs : List A) (x : A) → ((y : A) → Q y → P y) → NoneOf P xs → IsFirst Q xs x → ⊥
none_first P Q [] x from none h = h
none_first P Q (y ∷ ys) x from none (inl here) = none.0 (from y here.1)
none_first P Q (y ∷ ys) x from none (inr later) = none_first P Q ys x from none.1 later.1

-- What makes a change of one table is refused for no fault over another one of the same schema.
change_or_refusal : (u : Completed) (table : HudiTable) (a b : Option Table) (change : Change) (e : HudiError) → schema_in a ≡ schema_in b → IsFault e → IsChangeOf u table a change → IsRefusalOf u table b e → ⊥
change_or_refusal u table a b change errors.Memory same fault is refused = fault
change_or_refusal u table a b change (errors.Malformed line) same fault is refused = is.grammar refused.1
change_or_refusal u table a b change (errors.Unsupported f) same fault is refused = none_first (Shows u table a) (Shows u table b) change_features f (shows_too u table b a (sym same)) is.features refused.1
change_or_refusal u table a b change (errors.Limit which) same fault is refused = fault

-- ---- along a timeline

-- The timeline leads from the one table to the other one.
abbrev pub EndsAt : HudiTable → Option Table → Timeline → Option Table → Type 0
EndsAt table base [] end = end ≡ base
EndsAt table base (u ∷ timeline) end = (change : Change) × (next : Table) × IsChangeOf u table base change × IsAfter (table_before table base) change next × EndsAt table (Some next) timeline end

ends_some : (table : HudiTable) (base : Table) (timeline : Timeline) (after : Table) → LeadsThrough table (Some base) timeline after → EndsAt table (Some base) timeline (Some after)
ends_some table base [] after leads = ap Some leads
ends_some table base (u ∷ timeline) after leads = (leads.0, leads.1, leads.2, leads.3, ends_some table leads.1 timeline after leads.4)

ends_any : (table : HudiTable) (base : Option Table) (front : Timeline) (u : Completed) (after : Table) → LeadsThrough table base (front ++ u ∷ []) after → EndsAt table base (front ++ u ∷ []) (Some after)
ends_any table base [] u after leads = (leads.0, leads.1, leads.2, leads.3, ends_some table leads.1 [] after leads.4)
ends_any table base (v ∷ front) u after leads = (leads.0, leads.1, leads.2, leads.3, ends_some table leads.1 (front ++ u ∷ []) after leads.4)

-- The instants' files say what leads to the table that is read of them.
pub record Ends (files : Files) (table : HudiTable) (cs : List CompletedInstant) (end : Option Table) : Type 0 where
  pub timeline : Timeline
  pub say : SayTimeline files External cs timeline
  pub ends : EndsAt table None timeline end

pub ends_of : (files : Files) (table : HudiTable) (cs : List CompletedInstant) (latest : Option Latest) → IsReadingOf files External table cs latest → Ends files table cs (table_in latest)
ends_of files table cs None none = record { timeline = []; say = subst (λ (l : List CompletedInstant). SayTimeline files External l []) (sym none) refl; ends = refl }
ends_of files table cs (Some latest) read = record { timeline = read.before ++ read.newest ∷ []; say = read.say; ends = ends_any table None read.before read.newest latest.table read.leads }

-- The instant is taken over a table of this schema.
record IsTaken (files : Files) (table : HudiTable) (c : CompletedInstant) (base : Option Table) : Type 0 where
  instant : Instant
  says : SaysInstant files c instant
  before : Option Table
  same : schema_in before ≡ schema_in base
  change : Change
  is : IsChangeOf (completed (form_of External c.time) instant) table before change

module _ (files : Files) (table : HudiTable) (c : CompletedInstant) (behind : List CompletedInstant) where
  taken : (front : List CompletedInstant) (a b : Option Table) (all timeline : Timeline) (after : Table) (end : Option Table) → schema_in a ≡ schema_in b
      → SayTimeline files External (front ++ c ∷ behind) all → LeadsThrough table a all after → SayTimeline files External front timeline → EndsAt table b timeline end → IsTaken files table c end
  taken [] a b all timeline after end same say leads say_front ends =
      let here = subst (λ (l : Timeline). LeadsThrough table a l after) say.4 leads in
      let is : end ≡ b = subst (λ (l : Timeline). EndsAt table b l end) say_front ends in
      record { instant = say.0; says = say.2; before = a; same = same ∙ ap schema_in (sym is); change = here.0; is = here.2 }
  taken (d ∷ front) a b all timeline after end same say leads say_front ends =
      let here = subst (λ (l : Timeline). LeadsThrough table a l after) say.4 leads in
      let there = subst (λ (l : Timeline). EndsAt table b l end) say_front.4 ends in
      let instant : say.0 ≡ say_front.0 = one_instant files d say.0 say_front.0 say.2 say_front.2 in
      let stated : ◌≡◌ {A = Result (Option ColumnTrees) MapError} (Ok here.0.schema) (Ok there.0.schema) = sym here.2.schema ∙ ap (λ (i : Instant). stated_schema i.schema) instant ∙ there.2.schema in
      let schema : here.0.schema ≡ there.0.schema = cc in
      let next : here.1.schema ≡ there.1.schema = here.3.schema ∙ (λ i. unwrap_or (schema i) (schema_before table a b same i)) ∙ sym there.3.schema in
      taken front (Some here.1) (Some there.1) say.1 say_front.1 after end (ap Some next) say.3 here.4 say_front.3 there.4

-- ---- no fault

pub unreadable_or_read : (files : Files) (c : CompletedInstant) (i : Instant) (e : HudiError) → SaysInstant files c i → IsUnreadable files c e → ⊥
unreadable_or_read files c i e says (inl h) = false≢true (sym says.first ∙ h.0)
unreadable_or_read files c i e says (inr (first, bytes, holds, refused)) =
    let there : Some says.bytes ≡ Some bytes = sym says.holds ∙ holds in
    let one : says.bytes ≡ bytes = cc in
    let told : ◌≡◌ {A = Result Instant HudiError} (Ok i) (Err e) = sym says.reads ∙ ap json_instant one ∙ refused in
    cc

-- An instant among those that are read, with a mark for a source of this format, isn't faulty.
pub not_faulty : (source : Kind) (files : Files) (table : Properties) (front : List CompletedInstant) (c : CompletedInstant) (behind : List CompletedInstant) (latest : Option Latest) (whole : Latest) (standing : Standing)
    → IsReadingOf files External table.table front latest → IsLatestOf files External table.table (front ++ c ∷ behind) whole → IsMarkAt files c standing → standing.origin.source ≡ source → IsFaulty source files table c latest → ⊥
not_faulty source files table front c behind latest whole standing read all marked is faulty =
    let ends = ends_of files table.table front latest read in
    let taken = taken files table.table c behind front None None (all.before ++ all.newest ∷ []) ends.timeline whole.table (table_in latest) refl all.say all.leads ends.say ends.ends in
    ⊎_elim
    (λ (h : (e : HudiError) × IsFault e × (IsUnreadable files c e ⊎ IsUnfit files External table.table c (table_in latest) e)). ⊎_elim
    (λ unreadable. unreadable_or_read files c taken.instant h.0 taken.says unreadable)
    (λ (unfit : IsUnfit files External table.table c (table_in latest) h.0).
    let instant = one_instant files c unfit.0 taken.instant unfit.1 taken.says in
    let refused = subst (λ (i : Instant). IsRefusalOf (completed (form_of External c.time) i) table.table (table_in latest) h.0) instant unfit.2 in
    change_or_refusal (completed (form_of External c.time) taken.instant) table.table taken.before (table_in latest) taken.change h.0 taken.same h.1 taken.is refused)
    h.2)
    (λ none. none.2 standing marked is)
    faulty
