-- The histories of a list of commits: they are histories of a table, and what is there of the commits holds them.
use Rattle.std.proofs.Common.{◌≡◌, ⊎_elim, ℕ, zero, suc, ◌+◌, ◌-◌, ◌^◌, ◌≤◌, ◌<◌, false, List, [], ◌∷◌, length, Contains, Option, Some, None, Result, Ok, refl, sym, ap, subst, ◌∙◌, arith}
use Rattle.std.specs.Prelude.{option_map, slice_get}
use Rattle.std.specs.Fmt.{decimal}
use Rattle.std.specs.List.{IsDistinct}
use Rattle.std.specs.Str.{bytes_eq}
use Rattle.std.proofs.lemmas.Fmt.{decimal_injective}
use Rattle.std.proofs.lemmas.Map.Keys.{IsDistinct-cons}
use Rattle.lake_store.specs.Disk.{Disk}
use Rattle.table_history.proofs.RowListLemmas.{Contains-none}
use Rattle.table_history.specs.History.{FitColumns, History, IsHistory, IsSoundTable, positions_of}
use Rattle.table_history.specs.Row.{Row}
use Rattle.table_history.specs.declared.table.Table.{Table}
use Rattle.delta_change.proofs.KindLemmas.{values_still_fit}
use Rattle.delta_change.proofs.TableLemmas.{kinds_stay, partition_kept}
use Rattle.delta_live.proofs.BehindLemmas.{distinct_nothing}
use Rattle.delta_live.proofs.ValueLemmas.{values_fit}
use Rattle.delta_log.specs.Readable.{IsReadableCommit}
use Rattle.delta_log.specs.declared.action.LineAction.{LineAction}
use Rattle.delta_log.specs.declared.commit.DeltaCommit.{DeltaCommit}
use Rattle.delta_table.specs.Log.{IsStep}
use Rattle.conformance.specs.Histories.{IsExtension, IsHistoryFrom}
use Rattle.std.specs.Prelude.{unwrap_or}
use Rattle.std.specs.List.{AllByRecursion}
use Rattle.std.proofs.lemmas.Bool.{false_from_ne_true}
use Rattle.std.proofs.lemmas.List.Elements.{All-from_recursion}
use Rattle.std.proofs.lemmas.Slice.Eq.{bytes_eq-Decides}
use Rattle.std.proofs.lemmas.Option.{none-some, same_Some}
use Rattle.delta_change.specs.TableBehind.{IsSchemaBehind, StatesSchema, rows_before}
use Rattle.delta_change.proofs.KindLemmas.{KeepKinds}
use Rattle.delta_live.specs.Live.{ActsOn, AddsRow}
use Rattle.delta_log.proofs.SaysLemmas.{reads_each}
use Rattle.delta_log.specs.Grammar.{line_action}
use Rattle.delta_log.specs.Judging.{lines_of}
use Rattle.delta_log.specs.Readable.{States}
use Rattle.delta_log.specs.declared.commit.FileAction.{FileAction}
use Rattle.delta_log.specs.declared.commit.FileAction.TheVariants as file
use Rattle.delta_log.specs.declared.commit.MetaData.{MetaData}
use Rattle.delta_log.specs.declared.error.LineFault.{LineFault}
use Rattle.delta_log.proofs.ReadableLemmas.{same_stated}
use Rattle.delta_table.specs.Versions.{AreVersions, HasVersion}
use Rattle.delta_table.specs.declared.versions.Versions.{Versions}
use Rattle.delta_table.proofs.PathLaws.{bytes_once}
use Rattle.lake_basics.specs.Outcome.{each}
use Rattle.lake_basics.proofs.Lists.{some_at}
use Rattle.source_delta.specs.Heads.{IsAbsent}
use Rattle.source_delta.specs.Histories.{HoldsHistory, table_before}
use Rattle.table_history.specs.TypeTree.{ColumnTrees}
use Rattle.lake_play.proofs.Logs.{HoldsCommits}

-- ---- one table after another

abbrev stated_by : Option MetaData → ColumnTrees → Option ColumnTrees
stated_by None schema = None
stated_by (Some m) schema = Some schema

states : (o : Option MetaData) (base : Table) (schema : ColumnTrees) → IsSchemaBehind o (Some base) schema → StatesSchema o (stated_by o schema) × (schema ≡ unwrap_or (stated_by o schema) base.schema)
states None base schema is = (refl, is)
states (Some m) base schema is = (is, refl)

module _ (c : DeltaCommit) (base : Option Table) (next : Table) (step : IsStep c base next) (before : (t : Table) → base ≡ Some t → IsSoundTable t) where
  added_fit : (f : FileAction) (row : Row) → AddsRow step.columns f row → FitColumns next.schema next.partition row.values
  added_fit (file.Add path values size count) row adds = values_fit next.schema next.partition step.columns values row.values step.kinds adds.1
  added_fit (file.Remove path) row adds = absurd adds

  old_fit : (o : Option Table) → base ≡ o → (row : Row) → Contains (rows_before o) row → FitColumns next.schema next.partition row.values
  old_fit None is row there = absurd (Contains-none row there)
  old_fit (Some t) is row there =
      let over : IsStep c (Some t) next = subst (λ (o : Option Table). IsStep c o next) is step in
      let said = states c.meta t next.schema over.schema in
      let none = over.supported.1.1.1.1.1.0 in
      let stay : KeepKinds t.schema next.schema next.partition =
      subst (λ (s : ColumnTrees). KeepKinds t.schema s next.partition) (sym said.1)
      (subst (KeepKinds t.schema (unwrap_or (stated_by c.meta next.schema) t.schema)) (sym over.partition) (kinds_stay c t (stated_by c.meta next.schema) said.0 none)) in
      let columns : t.partition ≡ next.partition = sym (partition_kept c t (stated_by c.meta next.schema) said.0 none) ∙ sym over.partition in
      values_still_fit t.schema next.schema next.partition step.columns row.values step.kinds stay
      (subst (λ (names : List (List ℕ)). FitColumns t.schema names row.values) columns ((before t is).values row there))

  pub sound_step : IsSoundTable next
  sound_step = record {
    distinct = step.rows.distinct;
    values = λ row there. ⊎_elim
        (λ (added : (f : FileAction) × Contains c.files f × AddsRow step.columns f row). added_fit added.0 row added.2)
        (λ (old : Contains (rows_before base) row × ¬ ActsOn row.path c). old_fit base refl row old.0)
        ((step.rows.rows row).0 there);
  }

-- ---- a history of commits

abbrev Sound : List ℕ × Table → Type 0
Sound entry = IsSoundTable entry.1

sound_all : (version : ℕ) (base : Option Table) (commits : List (List ℕ)) (history : History) → IsHistoryFrom version base commits history → ((t : Table) → base ≡ Some t → IsSoundTable t) → AllByRecursion Sound history
sound_all version base [] [] is ok = tt
sound_all version base [] (entry ∷ history) is ok = absurd is
sound_all version base (bytes ∷ commits) [] is ok = absurd is
sound_all version base (bytes ∷ commits) (entry ∷ history) is ok =
    let sound = sound_step is.1.commit base entry.1 is.1.step ok in
    (sound, sound_all (version + 1) (Some entry.1) commits history is.2 (λ t same. subst IsSoundTable (same_Some entry.1 t same) sound))

abbrev IsOther : ℕ → List ℕ → Type 0
IsOther version position = bytes_eq (decimal version) position ≡ false

later_positions : (early version : ℕ) (base : Option Table) (commits : List (List ℕ)) (history : History) → IsHistoryFrom version base commits history → early < version → version + length commits ≤ 2 ^ 64 → AllByRecursion (IsOther early) (positions_of history)
later_positions early version base [] [] is less few = tt
later_positions early version base [] (entry ∷ history) is less few = absurd is
later_positions early version base (bytes ∷ commits) [] is less few = absurd is
later_positions early version base (bytes ∷ commits) (entry ∷ history) is less few = (
  false_from_ne_true (bytes_eq (decimal early) entry.0) (λ same.
      let one : early ≡ version = decimal_injective early version (omega (arith, less, few)) (omega (arith, few)) ((bytes_eq-Decides (decimal early) entry.0).0 same ∙ is.0) in omega (arith, one, less)),
  later_positions early (version + 1) (Some entry.1) commits history is.2 (omega (arith, less)) (omega (arith, few)),
)

distinct_positions : (version : ℕ) (base : Option Table) (commits : List (List ℕ)) (history : History) → IsHistoryFrom version base commits history → version + length commits ≤ 2 ^ 64 → IsDistinct bytes_eq (positions_of history)
distinct_positions version base [] [] is few = distinct_nothing
distinct_positions version base [] (entry ∷ history) is few = absurd is
distinct_positions version base (bytes ∷ commits) [] is few = absurd is
distinct_positions version base (bytes ∷ commits) (entry ∷ history) is few =
    IsDistinct-cons bytes_eq entry.0 (positions_of history)
    (subst (λ (p : List ℕ). AllByRecursion (λ y. bytes_eq p y ≡ false) (positions_of history)) (sym is.0)
    (later_positions version (version + 1) (Some entry.1) commits history is.2 (omega arith) (omega (arith, few))))
    (distinct_positions (version + 1) (Some entry.1) commits history is.2 (omega (arith, few)))

-- The tables after commits are a history of a table.
pub is_history : (commits : List (List ℕ)) (history : History) → IsHistoryFrom 0 None commits history → length commits ≤ 2 ^ 64 → IsHistory history
is_history commits history is few = record {
  distinct = distinct_positions 0 None commits history is (omega (arith, few));
  tables = All-from_recursion Sound history (sound_all 0 None commits history is (λ t same. absurd (none-some t same)));
}

pub same_length : (version : ℕ) (base : Option Table) (commits : List (List ℕ)) (history : History) → IsHistoryFrom version base commits history → length history ≡ length commits
same_length version base [] [] is = refl
same_length version base [] (entry ∷ history) is = absurd is
same_length version base (bytes ∷ commits) [] is = absurd is
same_length version base (bytes ∷ commits) (entry ∷ history) is = ap suc (same_length (version + 1) (Some entry.1) commits history is.2)

-- ---- its entries

abbrev pub before_from : Option Table → History → ℕ → Option Table
before_from base history zero = base
before_from base history (suc version) = option_map (λ entry. entry.1) (slice_get history version)

step_before : (base : Option Table) (entry : List ℕ × Table) (history : History) (version : ℕ) → before_from (Some entry.1) history version ≡ before_from base (entry ∷ history) (suc version)
step_before base entry history zero = refl
step_before base entry history (suc version) = refl

-- The entry is that of the version's commit, over the table before it.
pub record IsEntryOf (version : ℕ) (base : Option Table) (commits : List (List ℕ)) (history : History) (place : ℕ) (entry : List ℕ × Table) : Type 0 where
  pub bytes : List ℕ
  pub at : slice_get commits place ≡ Some bytes
  pub position : entry.0 ≡ decimal (version + place)
  pub extends : IsExtension bytes (before_from base history place) entry.1

pub entry_of : (version : ℕ) (base : Option Table) (commits : List (List ℕ)) (history : History) → IsHistoryFrom version base commits history → (place : ℕ) (entry : List ℕ × Table) → slice_get history place ≡ Some entry → IsEntryOf version base commits history place entry
entry_of version base [] [] is place entry at = absurd cc
entry_of version base [] (e ∷ history) is place entry at = absurd is
entry_of version base (b ∷ commits) [] is place entry at = absurd is
entry_of version base (b ∷ commits) (e ∷ history) is zero entry at =
    let same : e ≡ entry = same_Some e entry at in
    let none : version ≡ version + 0 = omega arith in
    subst (IsEntryOf version base (b ∷ commits) (e ∷ history) 0) same (record { bytes = b; at = refl; position = is.0 ∙ ap decimal none; extends = is.1 })
entry_of version base (b ∷ commits) (e ∷ history) is (suc place) entry at =
    let one : version + 1 + place ≡ version + suc place = omega arith in
    let rest = entry_of (version + 1) (Some e.1) commits history is.2 place entry at in
    record {
      bytes = rest.bytes;
      at = rest.at;
      position = rest.position ∙ ap decimal one;
      extends = subst (λ (o : Option Table). IsExtension rest.bytes o entry.1) (step_before base e history place) rest.extends;
    }

same_before : (history : History) (version : ℕ) → before_from None history version ≡ table_before history version
same_before history zero = refl
same_before history (suc version) = refl

-- ---- what a version says

ok_same : (r : Result (List LineAction) LineFault) (a b : List LineAction) → r ≡ Ok a → r ≡ Ok b → a ≡ b
ok_same r a b is also = cc

-- What is read of the bytes is the commit that makes the next table.
pub says_extension : (bytes : List ℕ) (base : Option Table) (next : Table) (c : DeltaCommit) → IsExtension bytes base next → IsReadableCommit bytes c → IsStep c base next
says_extension bytes base next c made readable =
    let actions : readable.actions ≡ made.actions = ok_same (each line_action (lines_of bytes)) readable.actions made.actions (reads_each (lines_of bytes) readable.actions readable.readable.grammar.says) (reads_each (lines_of bytes) made.actions made.grammar.says) in
    let same = same_stated made.actions made.commit c made.states (subst (λ (l : List LineAction). States l c) actions readable.states) in
    subst (λ (d : DeltaCommit). IsStep d base next) same made.step

-- ---- what is there holds the history

module _ (commits : List (List ℕ)) (first : ℕ) (disk : Disk) (h : HoldsCommits commits first disk) where
  pub has_kept : (version : ℕ) → first ≤ version → version < length commits → HasVersion disk.files version
  has_kept version from within = let at = some_at commits version within in (at.0, h.holds version at.0 from at.1)

  below : 0 < length commits → first < length commits
  below some = ⊎_elim (λ (none : (first ≡ 0) × (length commits ≡ 0)). let no = none.1 in absurd (omega (arith, no, some))) (λ less. less) h.newest

  module _ (some : 0 < length commits) where
    abbrev kept : Versions
    kept = record { newest = length commits - 1; first = first }

    versions : AreVersions (HasVersion disk.files) kept
    versions = record {
      there = let less = below some in has_kept (length commits - 1) (omega (arith, less)) (omega (arith, some));
      last = λ version has. let within = (h.only version has).1 in omega (arith, within);
      within = let less = below some in omega (arith, less);
      run = λ version from to. has_kept version from (omega (arith, some, to));
      gap = λ version next has. let from = (h.only version has).0 in omega (arith, from, next);
    }

    pub holds_history : (history : History) → IsHistoryFrom 0 None commits history → HoldsHistory disk.files history
    holds_history history is =
        let count = same_length 0 None commits history is in
        record {
          kept = kept;
          are = versions;
          count = omega (arith, count, some);
          positions = λ version entry at. let none : 0 + version ≡ version = omega arith in (entry_of 0 None commits history is version entry at).position ∙ ap decimal none;
          tables = λ version entry c from at says can.
              let of = entry_of 0 None commits history is version entry at in
              let one = bytes_once disk.files version says.bytes of.bytes says.holds (h.holds version of.bytes from of.at) in
              subst (λ (o : Option Table). IsStep c o entry.1) (same_before history version)
              (says_extension of.bytes (before_from None history version) entry.1 c of.extends (subst (λ (b : List ℕ). IsReadableCommit b c) one says.readable));
        }

pub is_absent : (first : ℕ) (disk : Disk) → HoldsCommits [] first disk → IsAbsent disk.files
is_absent first disk h version has = let within = (h.only version has).1 in omega (arith, within)

pub not_absent : (commits : List (List ℕ)) (first : ℕ) (disk : Disk) → HoldsCommits commits first disk → 0 < length commits → IsAbsent disk.files → ⊥
not_absent commits first disk h some absent = let less = below commits first disk h some in absent first (has_kept commits first disk h first (omega arith) less)
