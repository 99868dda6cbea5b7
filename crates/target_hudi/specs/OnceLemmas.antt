-- What the files say is determined by their bytes, and the table behind the completed instants by what these say, up to the order of rows.
use Rattle.std.proofs.Common.{◌≡◌, ℕ, List, [], ◌∷◌, ◌++◌, length, Contains, Option, Some, None, refl, sym, ap, subst, ◌∙◌}
use Rattle.std.specs.Prelude.{Ok, unwrap_or}
use Rattle.lake_store.specs.Disk.{Files}
use Rattle.table_history.specs.Row.{Row}
use Rattle.table_history.specs.Rows.{SameRows}
use Rattle.table_history.specs.TypeTree.{ColumnTrees}
use Rattle.table_history.specs.declared.table.Table.{Table}
use Rattle.partition_map.specs.declared.kind.PartKind.{PartKind}
use Rattle.hudi_timeline.specs.Causes.{table_before}
use Rattle.hudi_timeline.specs.Change.{LeadsThrough}
use Rattle.hudi_instant.specs.Instants.{json_instant}
use Rattle.hudi_timeline.specs.Live.{HudiLive, Timeline, completed}
use Rattle.hudi_properties.specs.Pairs.{properties_of}
use Rattle.hudi_timeline.specs.Schemas.{AreKindsOf}
use Rattle.hudi_properties.specs.TableProperties.{checked_table}
use Rattle.hudi_instant.specs.declared.instant.Instant.{Instant}
use Rattle.hudi_properties.specs.declared.table.HudiTable.{HudiTable}
use Rattle.hudi_timeline.proofs.CauseLemmas.{kinds_same}
use Rattle.hudi_table.specs.Files.{SaysInstant, SaysProperties}
use Rattle.hudi_table.specs.Reading.{HasLiveRows, IsLatestOf, SayTimeline, form_of}
use Rattle.hudi_table.specs.declared.instants.CompletedInstant.{CompletedInstant}
use Rattle.hudi_table.specs.declared.properties.Properties.{Properties}
use Rattle.hudi_table.specs.declared.reading.Latest.{Latest}
use Rattle.hudi_table.specs.declared.reading.Naming.{Naming}
use Rattle.hudi_table.proofs.ReadingLaws.{live_rows}
use Rattle.target_core.specs.Mark.{IsMarkText}
use Rattle.target_core.specs.Views.{Standing, standing_of}
use Rattle.target_core.proofs.Marks.{one_mark}
use Rattle.target_hudi.specs.Reading.{IsMarkAt}

-- ---- lists

-- an element is the one of its place
pub one_place : {X : Type 0} (front : List X) (x : X) (behind front' : List X) (x' : X) (behind' : List X) → length front ≡ length front' → front ++ x ∷ behind ≡ front' ++ x' ∷ behind' → (front ≡ front') × (x ≡ x')
one_place [] x behind [] x' behind' len is = let same : x ≡ x' = cc in (refl, same)
one_place [] x behind (z ∷ front') x' behind' len is = absurd (cc)
one_place (y ∷ front) x behind [] x' behind' len is = absurd (cc)
one_place (y ∷ front) x behind (z ∷ front') x' behind' len is =
    let heads : y ≡ z = cc in
    let tails : front ++ x ∷ behind ≡ front' ++ x' ∷ behind' = cc in
    let lens : length front ≡ length front' = cc in
    let rest = one_place front x behind front' x' behind' lens tails in
    ((λ i. heads i ∷ rest.0 i), rest.1)

-- ---- one of each

pub one_instant : (files : Files) (c : CompletedInstant) (i j : Instant) → SaysInstant files c i → SaysInstant files c j → i ≡ j
one_instant files c i j h k =
    let there : Some h.bytes ≡ Some k.bytes = sym h.holds ∙ k.holds in
    let bytes : h.bytes ≡ k.bytes = cc in
    let read : Ok i ≡ Ok j = sym h.reads ∙ ap json_instant bytes ∙ k.reads in
    cc

pub one_table_of : (files : Files) (p q : Properties) → SaysProperties files p → SaysProperties files q → p.table ≡ q.table
one_table_of files p q h k =
    let there : Some h.bytes ≡ Some k.bytes = sym h.holds ∙ k.holds in
    let bytes : h.bytes ≡ k.bytes = cc in
    let read : Ok p.pairs ≡ Ok q.pairs = sym h.read.0 ∙ ap properties_of bytes ∙ k.read.0 in
    let pairs : p.pairs ≡ q.pairs = cc in
    let checked : Ok p.table ≡ Ok q.table = sym h.read.1 ∙ ap checked_table pairs ∙ k.read.1 in
    cc

pub one_standing : (files : Files) (c : CompletedInstant) (s t : Standing) → IsMarkAt files c s → IsMarkAt files c t → s ≡ t
one_standing files c s t h k =
    let instant = one_instant files c h.instant k.instant h.says k.says in
    let stated : Some h.text ≡ Some k.text = sym h.stated ∙ ap (λ (i : Instant). i.mark) instant ∙ k.stated in
    let text : h.text ≡ k.text = cc in
    let mark = one_mark k.text h.mark k.mark (subst (λ (l : List ℕ). IsMarkText l h.mark) text h.reads) k.reads in
    sym h.is ∙ ap standing_of mark ∙ k.is

pub one_timeline : (files : Files) (naming : Naming) (cs : List CompletedInstant) (t u : Timeline) → SayTimeline files naming cs t → SayTimeline files naming cs u → t ≡ u
one_timeline files naming [] t u h k = h ∙ sym k
one_timeline files naming (c ∷ cs) t u h k =
    let instant = one_instant files c h.0 k.0 h.2 k.2 in
    let rest = one_timeline files naming cs h.1 k.1 h.3 k.3 in
    h.4 ∙ (λ i. completed (form_of naming c.time) (instant i) ∷ rest i) ∙ sym k.4

-- ---- the table behind a timeline

pub leads_schema : (table : HudiTable) (base other : Option Table) (timeline : Timeline) (t u : Table) → (table_before table base).schema ≡ (table_before table other).schema → LeadsThrough table base timeline t → LeadsThrough table other timeline u → t.schema ≡ u.schema
leads_schema table base other [] t u same h k = ap (λ (x : Table). x.schema) h ∙ same ∙ sym (ap (λ (x : Table). x.schema) k)
leads_schema table base other (c ∷ timeline) t u same h k =
    let stated : Ok h.0.schema ≡ Ok k.0.schema = sym h.2.schema ∙ k.2.schema in
    let schema : h.0.schema ≡ k.0.schema = cc in
    leads_schema table (Some h.1) (Some k.1) timeline t u (h.3.schema ∙ (λ i. unwrap_or (schema i) (same i)) ∙ sym k.3.schema) h.4 k.4

leads_partition : (table : HudiTable) (base : Option Table) (timeline : Timeline) (t : Table) → (table_before table base).partition ≡ table.partition → LeadsThrough table base timeline t → t.partition ≡ table.partition
leads_partition table base [] t same h = ap (λ (x : Table). x.partition) h ∙ same
leads_partition table base (c ∷ timeline) t same h = leads_partition table (Some h.1) timeline t (h.3.partition ∙ same) h.4

-- the kinds of the partition columns are one list
pub one_kinds : (s t : ColumnTrees) (names : List (List ℕ)) (kinds others : List PartKind) → s ≡ t → AreKindsOf s names kinds → AreKindsOf t names others → kinds ≡ others
one_kinds s t names kinds others same h k = kinds_same kinds others (sym (subst (λ (c : ColumnTrees). AreKindsOf c names kinds) same h) ∙ k)

-- ---- one reading

pub latest_partition : (files : Files) (naming : Naming) (table : HudiTable) (cs : List CompletedInstant) (latest : Latest) → IsLatestOf files naming table cs latest → latest.table.partition ≡ table.partition
latest_partition files naming table cs latest h = leads_partition table None (h.before ++ h.newest ∷ []) latest.table refl h.leads

module _ (files : Files) (naming : Naming) (table : HudiTable) (cs : List CompletedInstant) where
  pub one_schema : (a b : Latest) → IsLatestOf files naming table cs a → IsLatestOf files naming table cs b → a.table.schema ≡ b.table.schema
  one_schema a b h k =
      let timeline = one_timeline files naming cs (h.before ++ h.newest ∷ []) (k.before ++ k.newest ∷ []) h.say k.say in
      leads_schema table None None (k.before ++ k.newest ∷ []) a.table b.table refl (subst (λ (t : Timeline). LeadsThrough table None t a.table) timeline h.leads) k.leads

  rows_too : (a b : Latest) → a.table.schema ≡ b.table.schema → HasLiveRows files naming table cs a → HasLiveRows files naming table cs b → (row : Row) → Contains a.table.rows row → Contains b.table.rows row
  rows_too a b schema h k row there =
      let timeline = one_timeline files naming cs h.timeline k.timeline h.say k.say in
      let kinds = one_kinds a.table.schema b.table.schema table.partition h.kinds k.kinds schema h.are_kinds k.are_kinds in
      (k.live row).1 (subst (λ (t : Timeline). HudiLive table k.kinds t row) timeline (subst (λ (ks : List PartKind). HudiLive table ks h.timeline row) kinds ((h.live row).0 there)))

  pub one_rows : (a b : Latest) → IsLatestOf files naming table cs a → IsLatestOf files naming table cs b → SameRows a.table.rows b.table.rows
  one_rows a b h k =
      let schema = one_schema a b h k in
      let live = live_rows files naming table cs a h in
      let other = live_rows files naming table cs b k in
      λ row. (rows_too a b schema live other row, rows_too b a (sym schema) other live row)
