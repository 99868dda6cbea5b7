-- A timeline makes one table, up to the order of its rows, and where it has a head, a table is there.
use Rattle.std.proofs.Common.{◌≡◌, ℕ, List, [], ◌∷◌, ◌++◌, Option, Some, None, refl, sym, ap, subst, ◌∙◌}
use Rattle.lake_store.specs.Disk.{Files}
use Rattle.table_history.specs.Row.{Row}
use Rattle.table_history.specs.Rows.{HasDistinctPaths, SameRows}
use Rattle.table_history.specs.Tables.{IsAfter, IsDiff, empty_table, SameTable}
use Rattle.table_history.specs.declared.table.Change.{Change}
use Rattle.table_history.specs.declared.table.Table.{Table}
use Rattle.table_history.proofs.Laws.{change_applied}
use Rattle.table_history.proofs.SameTableLemmas.{same_itself}
use Rattle.hudi_timeline.specs.Causes.{rows_before, table_before}
use Rattle.hudi_timeline.specs.Change.{IsChangeOf, LeadsThrough}
use Rattle.hudi_timeline.specs.Live.{Completed, IsLiveAfter, Timeline, completed}
use Rattle.hudi_timeline.specs.Schemas.{schema_after}
use Rattle.hudi_timeline.proofs.ChangeLemmas.{schema_is}
use Rattle.hudi_timeline.proofs.TimelineLaws.{one_kinds}
use Rattle.hudi_groups.specs.declared.form.Form.TheVariants.{Base}
use Rattle.hudi_instant.specs.Instants.{json_instant}
use Rattle.hudi_instant.specs.declared.instant.Instant.{Instant}
use Rattle.hudi_properties.specs.Pairs.{properties_of}
use Rattle.hudi_properties.specs.TableProperties.{checked_table}
use Rattle.hudi_properties.specs.declared.table.HudiTable.{HudiTable}
use Rattle.hudi_table.specs.Files.{SaysInstant, SaysProperties}
use Rattle.hudi_table.specs.Reading.{SayTimeline}
use Rattle.hudi_table.specs.declared.instants.CompletedInstant.{CompletedInstant}
use Rattle.hudi_table.specs.declared.properties.Properties.{Properties}
use Rattle.hudi_table.specs.declared.reading.Naming.TheVariants as naming
use Rattle.source_core.specs.declared.head.Head.{Head}
use Rattle.source_hudi.specs.Heads.{IsAbsent, IsHudiHead, IsTableAtHead}
use Rattle.source_hudi.specs.Histories.{IsMadeBy}
use Rattle.source_hudi.specs.Instants.{reached_in}
use Rattle.source_core.proofs.Histories.{like_same}
use Rattle.source_hudi.specs.LikeLemmas.{first_same, step_same}
use Rattle.lake_basics.proofs.Options.{ok_once}

pub head_there : (files : Files) (head : Head) → IsHudiHead files head → IsAbsent files → ⊥
head_there files head is absent = absent head.position is.position.0

-- ---- what the files say

some_once : (a b : List ℕ) (o : Option (List ℕ)) → o ≡ Some a → o ≡ Some b → a ≡ b
some_once a b o x y = cc (sym x ∙ y)

instant_once : (files : Files) (c : CompletedInstant) (a b : Instant) → SaysInstant files c a → SaysInstant files c b → a ≡ b
instant_once files c a b x y =
    let bytes = some_once x.bytes y.bytes _ x.holds y.holds in
    ok_once (json_instant y.bytes) a b (ap json_instant (sym bytes) ∙ x.reads) y.reads

table_described : (files : Files) (a b : Properties) → SaysProperties files a → SaysProperties files b → a.table ≡ b.table
table_described files a b x y =
    let bytes = some_once x.bytes y.bytes _ x.holds y.holds in
    let pairs : a.pairs ≡ b.pairs = ok_once (properties_of x.bytes) a.pairs b.pairs x.read.0 (ap properties_of bytes ∙ y.read.0) in
    ok_once (checked_table a.pairs) a.table b.table x.read.1 (ap checked_table pairs ∙ y.read.1)

timeline_once : (files : Files) (instants : List CompletedInstant) (a b : Timeline) → SayTimeline files naming.Base instants a → SayTimeline files naming.Base instants b → a ≡ b
timeline_once files [] a b x y = x ∙ sym y
timeline_once files (c ∷ cs) a b x y =
    let first = instant_once files c x.0 y.0 x.2 y.2 in
    let rest = timeline_once files cs x.1 y.1 x.3 y.3 in
    x.4 ∙ (λ i. completed Base (first i) ∷ rest i) ∙ sym y.4

-- ---- what an instant makes

applied : (table : HudiTable) (base : Option Table) (change : Change) (next : Table) (after : List Row) → IsDiff (rows_before base) after change.removed change.added → HasDistinctPaths (rows_before base) → HasDistinctPaths after
    → IsAfter (table_before table base) change next → SameRows next.rows after
applied table None change next after diff before distinct is = change_applied (empty_table table.partition) after change next diff before distinct is
applied table (Some held) change next after diff before distinct is = change_applied held after change next diff before distinct is

-- The table after the instant's change is what the instant makes of the one before.
made_by : (u : Completed) (table : HudiTable) (base : Option Table) (change : Change) (next : Table) → (table_before table base).partition ≡ table.partition
    → IsChangeOf u table base change → IsAfter (table_before table base) change next → IsMadeBy u table base next
made_by u table base change next columns is to =
    let in_force = is.are_kinds.in_force in
    let schema = to.schema ∙ schema_is table base change.schema is.are_kinds.schema (ap (λ r. schema_after r base) (sym is.schema) ∙ in_force) in
    record {
      schema = in_force ∙ ap (λ s. Some s) (sym schema);
      partition = to.partition ∙ columns;
      rows = λ kinds are row.
          let same = one_kinds u table base is.kinds kinds is.are_kinds are in
          let rows = applied table base change next is.after is.diff is.before_distinct is.distinct to row in (
            λ there. subst (λ ks. IsLiveAfter table ks u (rows_before base) row) same ((is.live row).0 (rows.0 there)),
            λ live. rows.1 ((is.live row).1 (subst (λ ks. IsLiveAfter table ks u (rows_before base) row) (sym same) live)),
          );
    }

-- ---- what a timeline makes

later_once : (table : HudiTable) (timeline : Timeline) (held base a b : Table) → SameTable held base → base.partition ≡ table.partition → LeadsThrough table (Some held) timeline a → LeadsThrough table (Some base) timeline b → SameTable a b
later_once table [] held base a b same columns one other = subst (λ (t : Table). SameTable t b) (sym one) (subst (SameTable held) (sym other) same)
later_once table (u ∷ timeline) held base a b same columns one other =
    let made = made_by u table (Some base) other.0 other.1 columns other.2 other.3 in
    let next = step_same u table held base one.0 one.1 other.1 (like_same held base same) columns one.2 one.3 (λ can. made) same in
    later_once table timeline one.1 other.1 a b next made.partition one.4 other.4

made_once : (table : HudiTable) (timeline : Timeline) (a b : Table) → LeadsThrough table None timeline a → LeadsThrough table None timeline b → SameTable a b
made_once table [] a b one other = subst (SameTable a) (one ∙ sym other) (same_itself a)
made_once table (u ∷ timeline) a b one other =
    let made = made_by u table None other.0 other.1 refl other.2 other.3 in
    let next = first_same u table one.0 one.1 other.1 one.2 one.3 (λ can. made) in
    later_once table timeline one.1 other.1 a b next made.partition one.4 other.4

pub one_table : (files : Files) (a b : Table) → IsTableAtHead files a → IsTableAtHead files b → SameTable a b
one_table files a b x y =
    let one = x.whole.up_to.made in
    let other = y.whole.up_to.made in
    let table = table_described files y.properties x.properties y.says x.says in
    let timeline = timeline_once files (reached_in files) (other.read.before ++ other.read.newest ∷ []) (one.read.before ++ one.read.newest ∷ []) other.read.say one.read.say in
    let leads = subst (λ (l : Timeline). LeadsThrough x.properties.table None l other.latest.table) timeline (subst (λ (t : HudiTable). LeadsThrough t None (other.read.before ++ other.read.newest ∷ []) other.latest.table) table other.read.leads) in
    let same = made_once x.properties.table (one.read.before ++ one.read.newest ∷ []) one.latest.table other.latest.table one.read.leads leads in
    subst (λ (t : Table). SameTable t b) (sym one.is) (subst (SameTable one.latest.table) (sym other.is) same)
