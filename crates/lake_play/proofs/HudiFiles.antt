-- No file that a sync of a drill would write to its Hudi target is too large.
use Rattle.std.proofs.Common.{◌≡◌, inl, inr, ℕ, zero, suc, ◌+◌, ◌^◌, ◌≤◌, ◌<◌, List, [], ◌∷◌, ◌++◌, length, map, take, Contains, Option, Some, None, refl, sym, ap, subst, ◌∙◌, codes, arith, Bool, true, false, cond}
use Rattle.std.proofs.lemmas.List.{length-append}
use Rattle.std.proofs.lemmas.List.Elements.{Contains-append_left}
use Rattle.lake_basics.specs.declared.limits.TheConstants.{MAX_FILE_BYTES}
use Rattle.lake_store.specs.Disk.{Files}
use Rattle.lake_store.specs.Fuse.{fuse_disk}
use Rattle.lake_store.specs.declared.fuse.FuseStore.{FuseStore}
use Rattle.conformance.specs.Drill.{AreSaid, drill_bytes, drill_schema, drill_time, numbers_under}
use Rattle.conformance.proofs.Bounds.{drill_history}
use Rattle.conformance.proofs.Numbers.{length_map}
use Rattle.hudi_properties.specs.Written.{properties_text}
use Rattle.schema_map.specs.Image.{wide_columns}
use Rattle.source_core.specs.Histories.{ShowsTable}
use Rattle.table_history.specs.History.{History}
use Rattle.table_history.specs.TypeTree.{ColumnTrees}
use Rattle.table_history.specs.declared.kind.Kind.TheVariants.{Delta}
use Rattle.table_history.specs.declared.limit.LimitKind.TheVariants.{File, Names}
use Rattle.table_history.specs.declared.table.Commit.{Commit}
use Rattle.table_history.specs.declared.table.Table.{Table}
use Rattle.table_history.proofs.RowListLemmas.{Contains-head, Contains-tail}
use Rattle.target_core.specs.Views.{IsUnpublished, Origin, View}
use Rattle.target_hudi.specs.Kept.{end_of, view_of}
use Rattle.target_hudi.specs.TableName.{IsTableName, new_pairs}
use Rattle.target_hudi.specs.Writing.{PassesAt, PassesLast, TimelineEnd, end_behind, held_behind}
use Rattle.target_hudi.specs.declared.kept.HudiKept.{HudiKept}
use Rattle.target_hudi.specs.declared.target.HudiTarget.{HudiTarget}
use Rattle.iceberg_version.proofs.Shared.{in_take, slice_there}
use Rattle.target_sync.specs.Answered.{IsPassed}
use Rattle.target_sync.specs.Dues.{origin_of}
use Rattle.target_sync.specs.Targets.{TargetFacts, target_facts}
use Rattle.target_sync.specs.declared.plan.Mode.TheVariants as modes
use Rattle.target_sync.specs.declared.status.Status.{Status}
use Rattle.lake_play.specs.Formats.{from_delta, place, to_hudi}
use Rattle.lake_play.specs.Playing.{Brings}
use Rattle.lake_play.proofs.Causes.{due_shows, hudi_views}
use Rattle.lake_play.proofs.DrillFits.{table_of}
use Rattle.lake_play.proofs.DrillRows.{IsDueCommit}
use Rattle.lake_play.proofs.DueCommits.{due_partition, each_due, origin_is}
use Rattle.lake_play.proofs.HudiTexts.{IsDrillSchema, properties_short, written_short}
use Rattle.lake_play.proofs.Plays.{Keeps}
use Rattle.lake_play.proofs.Targets.{IsPlayed}
use Rattle.lake_play.proofs.TextBounds.{IsShortOrigin}

-- ---- commits one behind the other

-- The properties of a first commit are short.
abbrev HasShortProperties : TimelineEnd → Type 0
HasShortProperties end = end.newest ≡ None → length (properties_text (new_pairs end.name end.partition)) ≤ MAX_FILE_BYTES

some_none : (instant : List ℕ) → Some instant ≡ None → ⊥
some_none instant is = cc

schema_by : (o : Option ColumnTrees) (before : ColumnTrees) → IsDrillSchema before → ((schema : ColumnTrees) → o ≡ Some schema → schema ≡ drill_schema) → IsDrillSchema (held_behind o before)
schema_by None before was stated = was
schema_by (Some schema) before was stated = inl (ap wide_columns (stated schema refl))

module _ (number now : ℕ) (origin : Origin) (short : IsShortOrigin origin) where
  at_none : (end : TimelineEnd) (commit : Commit) (n : ℕ) → IsDrillSchema end.schema → HasShortProperties end → IsDueCommit number commit → PassesAt end origin now commit File n → ⊥
  at_none end commit n schema properties due (is, inl (instant, written, next, are, long)) = let few = written_short number end origin now instant commit written schema short due next are in omega (arith, few, long)
  at_none end commit n schema properties due (is, inr (none, long)) = let few = properties none in omega (arith, few, long)

  -- No text that they write is too large.
  pub at_no_commit : (commits : List Commit) (end : TimelineEnd) (n : ℕ) → IsDrillSchema end.schema → HasShortProperties end → ((commit : Commit) → Contains commits commit → IsDueCommit number commit) → PassesLast end origin now commits File n → ⊥
  at_no_commit [] end n schema properties dues passes = passes
  at_no_commit (commit ∷ []) end n schema properties dues passes = at_none end commit n schema properties (dues commit (Contains-head commit [])) passes
  at_no_commit (commit ∷ (next ∷ commits)) end n schema properties dues passes =
      at_no_commit (next ∷ commits) (end_behind end passes.0 commit) n (schema_by commit.change.schema end.schema schema (dues commit (Contains-head commit (next ∷ commits))).stated) (λ none. absurd (some_none passes.0 none))
      (λ other there. dues other (Contains-tail commit (next ∷ commits) other there)) passes.2

-- ---- a sync

-- what is held of a schema, where it is
wide_held : (b : Bool) (x y : ColumnTrees) → cond b (Some x) None ≡ Some y → x ≡ y
wide_held true x y is = cc
wide_held false x y is = absurd cc

names_none : {P : Type 0} → File ≡ Names → P
names_none is = absurd cc

module _ (number : ℕ) (said : AreSaid number) (t : HudiTarget) (name : IsTableName place t.name) (old new : FuseStore) (given : Status) (brings : Brings (target_facts to_hudi t) modes.Sync drill_time old new given)
    (commits later : List (List ℕ)) (all : commits ++ later ≡ map (drill_bytes number) (numbers_under 200)) (some : 0 < length commits) (front rest : History) (hudi iceberg : ℕ) (keeps : Keeps (drill_history number 200) commits front rest 0 hudi iceberg old) where
  abbrev facts : TargetFacts
  facts = target_facts to_hudi t

  abbrev files : Files
  files = (fuse_disk old).files

  small : length commits ≤ 2 ^ 64
  small =
      let both : length (map (drill_bytes number) (numbers_under 200)) ≡ length commits + length later = ap (λ (l : List (List ℕ)). length l) (sym all) ∙ length-append commits later in
      let count = length_map (drill_bytes number) 200 in
      omega (arith, both, count)

  was : IsPlayed facts.files (front ++ rest) hudi (length commits) (fuse_disk old)
  was = subst (λ (h : History). IsPlayed facts.files h hudi (length commits) (fuse_disk old)) keeps.split keeps.to_hudi

  in_front : (entry : List ℕ × Table) → Contains front entry → Contains (drill_history number 200) entry
  in_front entry there = subst (λ (h : History). Contains h entry) (sym keeps.split) (Contains-append_left front rest entry there)

  -- what is kept has the drill's schema or none, and its partition column
  kept_schema : (kept : HudiKept) (j : ℕ) → ShowsTable Delta facts.files.image front j (view_of kept) → IsDrillSchema kept.table.schema
  kept_schema kept zero shows = inr (ap (λ (v : View). v.table.schema) shows)
  kept_schema kept (suc k) (entry, at, shown) =
      let of = table_of number entry (in_front entry (slice_there front k entry at)) in
      let same : wide_columns entry.1.schema ≡ kept.table.schema = wide_held _ _ _ shown.schema in
      inl (sym same ∙ ap (λ (table : Table). wide_columns table.schema) of.1)

  kept_partition : (kept : HudiKept) (partition : List (List ℕ)) → partition ≡ codes "d" ∷ [] → (IsUnpublished (view_of kept) → kept.table.partition ≡ partition) → (j : ℕ) → ShowsTable Delta facts.files.image front j (view_of kept) → kept.table.partition ≡ codes "d" ∷ []
  kept_partition kept partition is begins zero shows = begins shows ∙ is
  kept_partition kept partition is begins (suc k) (entry, at, shown) = let of = table_of number entry (in_front entry (slice_there front k entry at)) in shown.partition ∙ ap (λ (table : Table). table.partition) of.1

  pub no_file : (n : ℕ) → IsPassed from_delta facts modes.Sync drill_time files File n → ⊥
  no_file n (start, reads, (goes, (due, (at, within, (kept, stands, inl (some_commits, is, most, names)))))) = names_none is
  no_file n (start, reads, (goes, (due, (at, within, (kept, stands, inr passes))))) =
      let shows = due_shows facts (hudi_views t) modes.Sync drill_time old new given brings keeps.uncontested commits 0 keeps.log front rest keeps.made small hudi was (view_of kept) stands.0.reads in
      let column = due_partition number facts (hudi_views t) old new given brings keeps.uncontested commits keeps.log front rest keeps.made small keeps.split hudi was start reads due in
      let partition = kept_partition kept due.partition column stands.1 was.stands.j shows in
      at_no_commit number drill_time (origin_of due) (origin_is number said commits later all some (fuse_disk old) keeps.log start due) (take (at + 1) due.commits) (end_of t.name kept) n (kept_schema kept was.stands.j shows)
      (λ first. properties_short t.name kept.table.partition name partition)
      (λ commit there. each_due number facts (hudi_views t) old new given brings keeps.uncontested commits keeps.log front rest keeps.made small keeps.split hudi was start reads due commit (in_take (at + 1) due.commits commit there)) passes
