-- What a version says is determined by its bytes, and what the log says behind it by the versions up to it.
use Rattle.std.proofs.Common.{◌≡◌, inl, inr, ⊎_elim, ℕ, zero, suc, ◌<◌, ◌≤◌, List, [], ◌∷◌, Option, Some, None, Contains, refl, sym, subst, ◌∙◌, arith}
use Rattle.std.specs.Prelude.{Ok}
use Rattle.std.proofs.Math.Nat.{eq-or-lt_of_le}
use Rattle.std.specs.FinMap as map
use Rattle.lake_store.specs.Disk.{Files}
use Rattle.table_history.specs.Row.{Row}
use Rattle.table_history.specs.TypeTree.{ColumnTrees}
use Rattle.table_history.specs.declared.table.Table.{Table}
use Rattle.table_history.specs.Tables.{SameTable}
use Rattle.table_history.proofs.SameTableLemmas.{same_table_back}
use Rattle.delta_live.specs.Live.{ActsOn, IsRowBehind, PartColumns, ArePartColumns}
use Rattle.delta_change.specs.TableBehind.{IsSchemaBehind, partition_behind, rows_before, schema_before}
use Rattle.delta_log.specs.declared.commit.DeltaCommit.{DeltaCommit}
use Rattle.delta_log.specs.declared.commit.MetaData.{MetaData}
use Rattle.delta_table.specs.Log.{IsLog, IsNewestPart, IsStep, SaysCommit}
use Rattle.delta_table.specs.Versions.{IsVersionPath}
use Rattle.delta_table.proofs.PathLaws.{says_once}
use Rattle.target_delta.specs.Reading.{KeepsId}

-- ---- one table, up to the order of rows

abbrev pub SameTables : Option Table → Option Table → Type 0
SameTables None None = Unit {0}
SameTables (Some a) (Some b) = SameTable a b
SameTables _ _ = ⊥

pub tables_sym : (a b : Option Table) → SameTables a b → SameTables b a
tables_sym None None same = tt
tables_sym None (Some b) same = absurd same
tables_sym (Some a) None same = absurd same
tables_sym (Some a) (Some b) same = same_table_back a b same

pub one_columns : (schema : ColumnTrees) (names : List (List ℕ)) (c d : PartColumns) → ArePartColumns schema names c → ArePartColumns schema names d → c ≡ d
one_columns schema [] [] [] h k = refl
one_columns schema [] [] (y ∷ d) h k = absurd k
one_columns schema [] (x ∷ c) d h k = absurd h
one_columns schema (n ∷ names) [] d h k = absurd h
one_columns schema (n ∷ names) (x ∷ c) [] h k = absurd k
one_columns schema (n ∷ names) (x ∷ c) (y ∷ d) h k =
    let kinds : Some x.1 ≡ Some y.1 = sym h.1 ∙ k.1 in
    let kind : x.1 ≡ y.1 = cc in
    let name : x.0 ≡ y.0 = h.0 ∙ sym k.0 in
    let first : x ≡ y = λ i. (name i, kind i) in
    λ i. first i ∷ one_columns schema names c d h.2 k.2 i

pub same_schemas : (a b : Option Table) → SameTables a b → schema_before a ≡ schema_before b
same_schemas None None same = refl
same_schemas None (Some b) same = absurd same
same_schemas (Some a) None same = absurd same
same_schemas (Some a) (Some b) same = same.schema

pub same_partitions : (meta : Option MetaData) (a b : Option Table) → SameTables a b → partition_behind meta a ≡ partition_behind meta b
same_partitions (Some m) a b same = refl
same_partitions None None None same = refl
same_partitions None None (Some b) same = absurd same
same_partitions None (Some a) None same = absurd same
same_partitions None (Some a) (Some b) same = same.partition

same_rows : (a b : Option Table) → SameTables a b → (row : Row) → Contains (rows_before a) row → Contains (rows_before b) row
same_rows None None same row h = h
same_rows None (Some b) same row h = absurd same
same_rows (Some a) None same row h = absurd same
same_rows (Some a) (Some b) same row h = (same.rows row).0 h

one_schema_behind : (meta : Option MetaData) (a b : Option Table) (s t : ColumnTrees) → SameTables a b → IsSchemaBehind meta a s → IsSchemaBehind meta b t → s ≡ t
one_schema_behind None a b s t same h k = h ∙ same_schemas a b same ∙ sym k
one_schema_behind (Some m) a b s t same h k = let both : Ok s ≡ Ok t = sym h ∙ k in cc

module _ (c : DeltaCommit) (a b : Option Table) (same : SameTables a b) (next other : Table) (s : IsStep c a next) (u : IsStep c b other) where
  pub same_schema : next.schema ≡ other.schema
  same_schema = one_schema_behind c.meta a b next.schema other.schema same s.schema u.schema

  pub same_partition : next.partition ≡ other.partition
  same_partition = s.partition ∙ same_partitions c.meta a b same ∙ sym u.partition

  columns : s.columns ≡ u.columns
  columns =
      one_columns other.schema other.partition s.columns u.columns
      (subst (λ p. ArePartColumns other.schema p s.columns) same_partition (subst (λ t. ArePartColumns t next.partition s.columns) same_schema s.kinds))
      u.kinds

  behind_too : (row : Row) → IsRowBehind s.columns (rows_before a) c row → IsRowBehind u.columns (rows_before b) c row
  behind_too row h =
      subst (λ cs. IsRowBehind cs (rows_before b) c row) columns
      (⊎_elim inl (λ (kept : Contains (rows_before a) row × ¬ ActsOn row.path c). inr (same_rows a b same row kept.0, kept.1)) h)

  pub row_too : (row : Row) → Contains next.rows row → Contains other.rows row
  row_too row h = (u.rows.rows row).1 (behind_too row ((s.rows.rows row).0 h))

pub one_step : (c : DeltaCommit) (a b : Option Table) → SameTables a b → (next other : Table) → IsStep c a next → IsStep c b other → SameTable next other
one_step c a b same next other s u = record {
  rows = λ row. (row_too c a b same next other s u row, row_too c b a (tables_sym a b same) other next u s row);
  schema = same_schema c a b same next other s u;
  partition = same_partition c a b same next other s u;
}

pub one_table : (files : Files) (n : ℕ) (a b : Option Table) → IsLog files n a → IsLog files n b → SameTables a b
one_table files zero a b h k = subst (λ (x : Option Table). SameTables x b) (sym h) (subst (λ (x : Option Table). SameTables None x) (sym k) tt)
one_table files (suc version) a b h k =
    let same = one_table files version h.0 k.0 h.1 k.1 in
    let commits : k.2 ≡ h.2 = says_once files version k.2 h.2 k.3 h.3 in
    let step : IsStep h.2 k.0 k.4 = subst (λ (c : DeltaCommit). IsStep c k.0 k.4) commits k.5 in
    let both = one_step h.2 h.0 k.0 same h.4 k.4 h.5 step in
    subst (λ (x : Option Table). SameTables x b) (sym h.6) (subst (λ (x : Option Table). SameTables (Some h.4) x) (sym k.6) both)

-- ---- a part of the log

pub log_front : (files : Files) (n version : ℕ) (table : Option Table) → version < n → IsLog files n table
    → (base : Option Table) × IsLog files version base × (c : DeltaCommit) × SaysCommit files version c × (next : Table) × IsStep c base next
log_front files zero version table lt log = absurd (omega arith)
log_front files (suc n) version table lt log =
    ⊎_elim
    (λ (same : version ≡ n).
    let back = sym same in
    (log.0, subst (λ (k : ℕ). IsLog files k log.0) back log.1, log.2, subst (λ (k : ℕ). SaysCommit files k log.2) back log.3, log.4, log.5))
    (λ (less : version < n). log_front files n version log.0 less log.1)
    (eq-or-lt_of_le (let le : version ≤ n = omega (arith, lt) in le))

-- ---- other files with the same first versions

-- what the newest of so many versions has there, where the two have the same versions under that number
pub newest_below : {A : Type 0} (part : DeltaCommit → Option A) (a b : Files) (n : ℕ) (x : A) → ((path : List ℕ) (version : ℕ) → version < n → IsVersionPath path version → map.get b path ≡ map.get a path) → IsNewestPart part a n x → IsNewestPart part b n x
newest_below part a b n x same h =
    let there = same h.says.holds.path h.version h.within h.says.holds.is in
    record {
      version = h.version;
      within = h.within;
      commit = h.commit;
      says = record { bytes = h.says.bytes; holds = record { path = h.says.holds.path; is = h.says.holds.is; there = there ∙ h.says.holds.there }; readable = h.says.readable };
      is = h.is;
      last = λ later c after before said. h.last later c after before (record {
        bytes = said.bytes;
        holds = record { path = said.holds.path; is = said.holds.is; there = sym (same said.holds.path later before said.holds.is) ∙ said.holds.there };
        readable = said.readable;
      });
    }

-- the id that a version keeps, where the two have the same versions before it
pub id_below : (new : List ℕ) (a b : Files) (version : ℕ) (id : List ℕ) → ((path : List ℕ) (v : ℕ) → v < version → IsVersionPath path v → map.get b path ≡ map.get a path) → KeepsId new a version id → KeepsId new b version id
id_below new a b zero id same h = h
id_below new a b (suc version) id same h = (h.0, newest_below (λ (c : DeltaCommit). c.meta) a b (suc version) h.0 same h.1, h.2)

-- the same under a number of versions
pub log_below : (a b : Files) (n : ℕ) (table : Option Table) → ((path : List ℕ) (version : ℕ) → version < n → IsVersionPath path version → map.get b path ≡ map.get a path) → IsLog a n table → IsLog b n table
log_below a b zero table same h = h
log_below a b (suc n) table same h =
    let here = same h.3.holds.path n (omega arith) h.3.holds.is in (
      h.0,
      log_below a b n h.0 (λ path version lt is. same path version (omega (arith, lt)) is) h.1,
      h.2,
      record { bytes = h.3.bytes; holds = record { path = h.3.holds.path; is = h.3.holds.is; there = here ∙ h.3.holds.there }; readable = h.3.readable },
      h.4,
      h.5,
      h.6,
    )
