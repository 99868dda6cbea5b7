-- Reading a Hudi target that is absent or ours passes no number but those of names, of a file's bytes and of completed instants.
use Rattle.std.proofs.Common.{◌≡◌, ◌⊎◌, inl, inr, ℕ, ◌≤◌, ◌<◌, List, [], ◌∷◌, ◌++◌, length, Contains, Option, None, Some, refl, sym, ap, subst, ◌∙◌, codes, arith}
use Rattle.lake_basics.specs.declared.limits.TheConstants.{MAX_COMMITS, MAX_FILE_BYTES, MAX_NAMES}
use Rattle.lake_basics.proofs.Lists.{none_longer}
use Rattle.lake_store.specs.Disk.{Files, names_in}
use Rattle.table_history.specs.Row.{Row}
use Rattle.table_history.specs.Rows.{SameRows}
use Rattle.table_history.specs.TypeTree.{ColumnTrees}
use Rattle.table_history.specs.declared.kind.Kind.{Kind}
use Rattle.table_history.specs.declared.limit.LimitKind.{LimitKind}
use Rattle.table_history.specs.declared.limit.LimitKind.TheVariants as limit
use Rattle.table_history.specs.declared.limit.LimitKind.TheVariants.{File, Names}
use Rattle.table_history.specs.declared.table.Change.{Change}
use Rattle.table_history.specs.declared.table.Table.{Table}
use Rattle.partition_map.specs.declared.kind.PartKind.{PartKind}
use Rattle.hudi_names.specs.declared.error.HudiError.TheVariants as errors
use Rattle.hudi_instant.specs.declared.instant.Instant.{Instant}
use Rattle.hudi_properties.specs.declared.table.HudiTable.{HudiTable}
use Rattle.hudi_timeline.specs.Causes.{IsRefusalOf, Passes, change_limits, rows_before}
use Rattle.hudi_timeline.specs.Change.{IsChangeOf, LeadsThrough}
use Rattle.hudi_timeline.specs.Live.{Completed, IsLiveAfter, IsLiveOver, Timeline, completed}
use Rattle.hudi_timeline.proofs.TimelineLaws.{timeline_kinds, timeline_rows}
use Rattle.hudi_table.specs.Files.{SaysInstant}
use Rattle.hudi_table.specs.Reading.{IsLatestOf, IsReadingOf, SayTimeline, form_of, table_in}
use Rattle.hudi_table.specs.Refusals.{IsUnfit, IsUnreadable}
use Rattle.hudi_table.specs.declared.instants.CompletedInstant.{CompletedInstant}
use Rattle.hudi_table.specs.declared.properties.Properties.{Properties}
use Rattle.hudi_table.specs.declared.reading.Latest.{Latest}
use Rattle.hudi_table.specs.declared.reading.Naming.TheVariants.{External}
use Rattle.hudi_commit.specs.Names.{claims_folder, timeline_folder}
use Rattle.target_core.specs.Views.{View}
use Rattle.target_hudi.specs.Inspecting.{IsCrowded, IsLarge, IsReadUpTo, PassesIn}
use Rattle.target_hudi.specs.OnceLemmas.{leads_schema, one_instant, one_kinds, one_table_of, one_timeline}
use Rattle.target_hudi.specs.Reading.{IsAbsent, IsOurs, Reads, completed_in}
use Rattle.target_hudi.specs.ReadingLemmas.{in_middle}
use Rattle.target_hudi.specs.FaultLemmas.{EndsAt, ends_of, in_force_too, none_first, schema_in, unreadable_or_read}

-- ---- a number over a table of the same schema and rows

module _ (u : Completed) (table : HudiTable) where
  live_too : (a b : Option Table) → SameRows (rows_before a) (rows_before b) → (kinds : List PartKind) (row : Row) → IsLiveAfter table kinds u (rows_before a) row → IsLiveAfter table kinds u (rows_before b) row
  live_too a b rows kinds row (inl written) = inl written
  live_too a b rows kinds row (inr stays) = inr ((rows row).0 stays.0, stays.1)

  passes_too : (a b : Option Table) → schema_in a ≡ schema_in b → SameRows (rows_before a) (rows_before b) → (which : LimitKind) → Passes u table a which → Passes u table b which
  passes_too a b same rows limit.Columns h = (h.0, in_force_too u table a b h.0 same h.1, h.2)
  passes_too a b same rows limit.Depth h = (h.0, in_force_too u table a b h.0 same h.1, h.2)
  passes_too a b same rows limit.LiveFiles h =
      (h.0, record { schema = h.1.schema; in_force = in_force_too u table a b h.1.schema same h.1.in_force; are = h.1.are }, h.2, h.3, λ row there. live_too a b rows h.0 row (h.4 row there), h.5)
  passes_too a b same rows _ h = h

-- What makes a change of one table passes no number over another one of the same schema and rows.
change_or_limit : (u : Completed) (table : HudiTable) (a b : Option Table) (change : Change) (which : LimitKind) → schema_in a ≡ schema_in b → SameRows (rows_before a) (rows_before b) → IsChangeOf u table a change → IsRefusalOf u table b (errors.Limit which) → ⊥
change_or_limit u table a b change which same rows is refused =
    none_first (Passes u table a) (Passes u table b) change_limits which (passes_too u table b a (sym same) (λ row. ((rows row).1, (rows row).0))) is.numbers refused.2

-- ---- along a timeline

-- An instant of a timeline is taken over the table to which those before it lead.
record IsStepIn (table : HudiTable) (base : Option Table) (front : Timeline) (u : Completed) : Type 0 where
  before : Option Table
  ends : EndsAt table base front before
  change : Change
  is : IsChangeOf u table before change

step_in : (table : HudiTable) (base : Option Table) (front : Timeline) (u : Completed) (behind : Timeline) (after : Table) → LeadsThrough table base (front ++ u ∷ behind) after → IsStepIn table base front u
step_in table base [] u behind after leads = record { before = base; ends = refl; change = leads.0; is = leads.2 }
step_in table base (v ∷ front) u behind after leads =
    let further = step_in table (Some leads.1) front u behind after leads.4 in
    record { before = further.before; ends = (leads.0, leads.1, leads.2, leads.3, further.ends); change = further.change; is = further.is }

-- What instants say is what those before one say, what it says itself, and what is said behind it.
record SaysSplit (files : Files) (front : List CompletedInstant) (c : CompletedInstant) (all : Timeline) : Type 0 where
  timeline : Timeline
  say : SayTimeline files External front timeline
  instant : Instant
  says : SaysInstant files c instant
  behind : Timeline
  is : all ≡ timeline ++ completed (form_of External c.time) instant ∷ behind

say_split : (files : Files) (front : List CompletedInstant) (c : CompletedInstant) (behind : List CompletedInstant) (all : Timeline) → SayTimeline files External (front ++ c ∷ behind) all → SaysSplit files front c all
say_split files [] c behind all say = record { timeline = []; say = refl; instant = say.0; says = say.2; behind = say.1; is = say.4 }
say_split files (d ∷ front) c behind all say =
    let u = completed (form_of External d.time) say.0 in
    let rest = say_split files front c behind say.1 say.3 in
    record {
      timeline = u ∷ rest.timeline;
      say = (say.0, rest.timeline, say.2, rest.say, refl);
      instant = rest.instant;
      says = rest.says;
      behind = rest.behind;
      is = say.4 ∙ ap (λ (l : Timeline). u ∷ l) rest.is;
    }

-- ---- where a timeline leads

-- where instants over a table lead, there is one
leads_of : (table : HudiTable) (base : Table) (timeline : Timeline) (end : Option Table) → EndsAt table (Some base) timeline end → (t : Table) × (end ≡ Some t) × LeadsThrough table (Some base) timeline t
leads_of table base [] end is = (base, is, refl)
leads_of table base (u ∷ timeline) end is = let further = leads_of table is.1 timeline end is.4 in (further.0, further.1, (is.0, is.1, is.2, is.3, further.2))

first_leads : (table : HudiTable) (u : Completed) (timeline : Timeline) (end : Option Table) → EndsAt table None (u ∷ timeline) end → (t : Table) × (end ≡ Some t) × LeadsThrough table None (u ∷ timeline) t
first_leads table u timeline end is = let further = leads_of table is.1 timeline end is.4 in (further.0, further.1, (is.0, is.1, is.2, is.3, further.2))

-- the two have one schema, and the same rows
record AreAlike (a b : Option Table) : Type 0 where
  schema : schema_in a ≡ schema_in b
  rows : SameRows (rows_before a) (rows_before b)

alike_itself : (a : Option Table) → AreAlike a a
alike_itself a = record { schema = refl; rows = λ row. (λ there. there, λ there. there) }

rows_along : (table : HudiTable) (u : Completed) (timeline : Timeline) (s t : Table) → s.schema ≡ t.schema → LeadsThrough table None (u ∷ timeline) s → LeadsThrough table None (u ∷ timeline) t → (row : Row) → Contains s.rows row → Contains t.rows row
rows_along table u timeline s t schema h k row there =
    let kinds : h.2.kinds ≡ k.2.kinds = one_kinds s.schema t.schema table.partition h.2.kinds k.2.kinds schema (timeline_kinds table None u timeline s h) (timeline_kinds table None u timeline t k) in
    (timeline_rows table None u timeline t k row).1
    (subst (λ (ks : List PartKind). IsLiveOver table ks [] (u ∷ timeline) row) kinds ((timeline_rows table None u timeline s h row).0 there))

-- Where a timeline leads is one table, up to the order of its rows.
ends_alike : (table : HudiTable) (timeline : Timeline) (a b : Option Table) → EndsAt table None timeline a → EndsAt table None timeline b → AreAlike a b
ends_alike table [] a b h k = subst (AreAlike a) (h ∙ sym k) (alike_itself a)
ends_alike table (u ∷ timeline) a b h k =
    let s = first_leads table u timeline a h in
    let t = first_leads table u timeline b k in
    let schema : s.0.schema ≡ t.0.schema = leads_schema table None None (u ∷ timeline) s.0 t.0 refl s.2 t.2 in
    let alike : AreAlike (Some s.0) (Some t.0) = record {
      schema = ap (λ (c : ColumnTrees). Some c) schema;
      rows = λ row. (rows_along table u timeline s.0 t.0 schema s.2 t.2 row, rows_along table u timeline t.0 s.0 (sym schema) t.2 s.2 row);
    } in
    subst (λ (o : Option Table). AreAlike o b) (sym s.1) (subst (AreAlike (Some s.0)) (sym t.1) alike)

-- The instant is taken over a table that is like this one.
record IsTaken (files : Files) (table : HudiTable) (c : CompletedInstant) (base : Option Table) : Type 0 where
  instant : Instant
  says : SaysInstant files c instant
  before : Option Table
  alike : AreAlike before base
  change : Change
  is : IsChangeOf (completed (form_of External c.time) instant) table before change

taken : (files : Files) (table : HudiTable) (front : List CompletedInstant) (c : CompletedInstant) (behind : List CompletedInstant) (latest : Option Latest) (whole : Latest) → IsReadingOf files External table front latest → IsLatestOf files External table (front ++ c ∷ behind) whole
    → IsTaken files table c (table_in latest)
taken files table front c behind latest whole read all =
    let said = say_split files front c behind (all.before ++ all.newest ∷ []) all.say in
    let u = completed (form_of External c.time) said.instant in
    let step = step_in table None said.timeline u said.behind whole.table (subst (λ (l : Timeline). LeadsThrough table None l whole.table) said.is all.leads) in
    let ends = ends_of files table front latest read in
    let same = one_timeline files External front ends.timeline said.timeline ends.say said.say in
    record {
      instant = said.instant;
      says = said.says;
      before = step.before;
      alike = ends_alike table said.timeline step.before (table_in latest) step.ends (subst (λ (l : Timeline). EndsAt table None l (table_in latest)) same ends.ends);
      change = step.change;
      is = step.is;
    }

-- ---- no number

-- An instant among those that are read passes no number, by itself or over the table before it.
read_or_limit : (files : Files) (table : HudiTable) (front : List CompletedInstant) (c : CompletedInstant) (behind : List CompletedInstant) (latest : Option Latest) (whole : Latest) (which : LimitKind)
    → IsReadingOf files External table front latest → IsLatestOf files External table (front ++ c ∷ behind) whole → IsUnreadable files c (errors.Limit which) ⊎ IsUnfit files External table c (table_in latest) (errors.Limit which) → ⊥
read_or_limit files table front c behind latest whole which read all refused = by (taken files table front c behind latest whole read all) refused
  where
    by : IsTaken files table c (table_in latest) → IsUnreadable files c (errors.Limit which) ⊎ IsUnfit files External table c (table_in latest) (errors.Limit which) → ⊥
    by taken (inl unreadable) = unreadable_or_read files c taken.instant (errors.Limit which) taken.says unreadable
    by taken (inr (instant, says, unfit)) =
        let same = one_instant files c instant taken.instant says taken.says in
        change_or_limit (completed (form_of External c.time) taken.instant) table taken.before (table_in latest) taken.change which taken.alike.schema taken.alike.rows taken.is
        (subst (λ (i : Instant). IsRefusalOf (completed (form_of External c.time) i) table (table_in latest) (errors.Limit which)) same unfit)

-- ---- what is left

-- The timeline's folder or the folder of claims has too many names.
abbrev pub HasManyNames : Files → LimitKind → ℕ → Type 0
HasManyNames files which number = (which ≡ Names) × (number ≡ MAX_NAMES) × ((MAX_NAMES < length (names_in files timeline_folder)) ⊎ (MAX_NAMES < length (names_in files claims_folder)))

-- The properties or a completed instant have too many bytes.
abbrev pub HasLargeFile : Files → LimitKind → ℕ → Type 0
HasLargeFile files which number =
    (which ≡ File) × (number ≡ MAX_FILE_BYTES)
    × (IsLarge files (codes "hoodie.properties") ⊎ ((c : CompletedInstant) × Contains (completed_in files) c × IsLarge files c.name))

-- so many instants are completed
few_completed : (files : Files) (v : View) → Reads files v → v.commits ≤ MAX_COMMITS → length (completed_in files) ≤ MAX_COMMITS
few_completed files v (inl none) few = let empty = ap (λ (cs : List CompletedInstant). length cs) none.0.none in omega (arith, empty)
few_completed files v (inr ours) few = let count = ap (λ (w : View). w.commits) ours.view_is in omega (arith, count, few)

module _ (source : Kind) (files : Files) (c : CompletedInstant) (table : Properties) (latest : Option Latest) (before : IsReadUpTo source files table c latest) where
  among : Contains (completed_in files) c
  among = in_middle (completed_in files) before.front c before.behind before.split

  none_up_to : IsAbsent files → ⊥
  none_up_to none = none_longer before.front c before.behind (sym none.none ∙ before.split)

  -- an instant of ours passes a number by its bytes alone
  passes_bytes : (v : View) (which : LimitKind) (number : ℕ) → IsOurs files v → PassesIn files table c latest which number → HasLargeFile files which number
  passes_bytes v which number ours (inl large) = (large.0, large.1, inr (c, among, large.2))
  passes_bytes v which number ours (inr refused) =
      let same : ours.table.table ≡ table.table = one_table_of files ours.table table ours.says before.says in
      let read = subst (λ (t : HudiTable). IsLatestOf files External t (completed_in files) ours.latest) same ours.read in
      let all = subst (λ (cs : List CompletedInstant). IsLatestOf files External table.table cs ours.latest) before.split read in
      absurd (read_or_limit files table.table before.front c before.behind latest ours.latest which before.read all refused.1)

  passes_read : (v : View) (which : LimitKind) (number : ℕ) → Reads files v → PassesIn files table c latest which number → HasLargeFile files which number
  passes_read v which number (inl none) passes = absurd (none_up_to none.0)
  passes_read v which number (inr ours) passes = passes_bytes v which number ours passes

-- Of a target with few commits that is absent or ours, a folder has too many names or a file too many bytes, where inspecting it passes a number.
pub crowded_by : (source : Kind) (files : Files) (v : View) (which : LimitKind) (number : ℕ) → Reads files v → v.commits ≤ MAX_COMMITS → IsCrowded source files which number → HasManyNames files which number ⊎ HasLargeFile files which number
crowded_by source files v which number reads few (inl names) = inl (names.0, names.1, inl names.2)
crowded_by source files v which number reads few (inr (inl large)) = inr (large.0, large.1, inl large.2)
crowded_by source files v which number reads few (inr (inr (inl claims))) = inl (claims.0, claims.1, inr claims.3)
crowded_by source files v which number reads few (inr (inr (inr (inl many)))) = let count = few_completed files v reads few in let over = many.4 in absurd (omega (arith, count, over))
crowded_by source files v which number reads few (inr (inr (inr (inr (c, table, latest, before, passes))))) = inr (passes_read source files c table latest before v which number reads passes)
