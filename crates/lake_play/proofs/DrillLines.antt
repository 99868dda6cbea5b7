-- The lines of a drill tell of the last table.
use Rattle.std.proofs.Common.{◌≡◌, inr, ⊎_elim, ℕ, zero, suc, ◌+◌, ◌<◌, true, List, [], ◌∷◌, ◌++◌, length, map, Contains, Some, None, refl, sym, ap, subst, ◌∙◌, arith}
use Rattle.std.specs.Prelude.{slice_get}
use Rattle.std.specs.FinSet as set
use Rattle.std.specs.Ordering.{nat_cmp}
use Rattle.std.specs.Cmp.Lexicographic.{slice_cmp}
use Rattle.std.proofs.lemmas.List.{append-nil, length-append}
use Rattle.std.proofs.lemmas.Option.{same_Some}
use Rattle.conformance.specs.Drill.{AreSaid, drill_bytes, numbers_under}
use Rattle.conformance.specs.Events.{drill_events}
use Rattle.conformance.specs.Histories.{IsHistoryFrom, IsHistoryOf}
use Rattle.conformance.proofs.Legal.{commits_are}
use Rattle.conformance.proofs.Numbers.{length_map}
use Rattle.delta_table.specs.Versions.{HoldsVersion}
use Rattle.lake_store.specs.Disk.{Disk, Files}
use Rattle.source_core.specs.Histories.{IsLast}
use Rattle.table_history.specs.Tables.{SameTable}
use Rattle.source_core.specs.declared.error.SourceError.{SourceError}
use Rattle.source_core.specs.declared.error.SourceError.TheVariants as source
use Rattle.source_core.specs.declared.head.Head.{Head}
use Rattle.source_delta.specs.Heads.{IsDeltaHead, IsTableAtHead}
use Rattle.source_delta.specs.HistoryLemmas as source_history
use Rattle.source_delta.specs.Reading.{ShowsAtHead, ShowsFromScratch}
use Rattle.table_history.proofs.Laws.{in_order_same}
use Rattle.table_history.specs.History.{History}
use Rattle.table_history.specs.Row.{Row}
use Rattle.table_history.specs.declared.kind.Kind.TheVariants.{Hudi, Iceberg}
use Rattle.table_history.specs.declared.table.Table.{Table}
use Rattle.target_core.specs.Folders.{after_crash}
use Rattle.target_core.specs.Meaning.{Meaning}
use Rattle.target_sync.specs.Applied.{status_of_source}
use Rattle.lake_play.specs.Drilled.{AreDrillLines, AreLastRows, IsBrought, IsBroughtOnce, IsReadEnd, IsTableRefusal, LeavesDrill, TellsLast, TellsOf, TellsTarget}
use Rattle.lake_play.specs.Lines.{source_line, target_line}
use Rattle.lake_play.specs.Standing.{meaning_of_hudi, meaning_of_iceberg}
use Rattle.lake_play.proofs.DrillLog.{IsDrillLog, at_head_small, drill_log, from_scratch_small}
use Rattle.lake_play.proofs.Faults.{at_head_fault, from_scratch_fault}
use Rattle.lake_play.proofs.Histories.{holds_history, same_length}
use Rattle.lake_play.proofs.Logs.{HoldsCommits}
use Rattle.lake_play.proofs.Once.{Counts}
use Rattle.lake_play.proofs.Places.{numbers_back}
use Rattle.lake_basics.proofs.Lists.{get_behind}

-- ---- the last entry

last_at : {X : Type 0} (xs : List X) (k : ℕ) (x : X) → slice_get xs k ≡ Some x → length xs ≡ k + 1 → (front : List X) × (xs ≡ front ++ x ∷ [])
last_at [] k x at count = absurd (omega (arith, count))
last_at (y ∷ []) zero x at count = ([], ap (λ z. z ∷ []) (same_Some y x at))
last_at (y ∷ z ∷ xs) zero x at count = absurd (omega (arith, count))
last_at (y ∷ xs) (suc k) x at count =
    let rest = last_at xs k x at (omega (arith, count)) in (y ∷ rest.0, ap (λ l. y ∷ l) rest.1)

last_once : (history : History) (a b : List ℕ × Table) → IsLast history a → IsLast history b → a ≡ b
last_once history a b x y =
    let long_a : length history ≡ length x.0 + 1 = ap (λ (l : History). length l) x.1 ∙ length-append x.0 (a ∷ []) in
    let long_b : length history ≡ length y.0 + 1 = ap (λ (l : History). length l) y.1 ∙ length-append y.0 (b ∷ []) in
    let same : length x.0 ≡ length y.0 = omega (arith, long_a, long_b) in
    let at_a : slice_get history (length x.0) ≡ Some a = ap (λ (l : History). slice_get l (length x.0)) x.1 ∙ get_behind x.0 a [] in
    let at_b : slice_get history (length y.0) ≡ Some b = ap (λ (l : History). slice_get l (length y.0)) y.1 ∙ get_behind y.0 b [] in
    same_Some a b (sym at_a ∙ ap (slice_get history) same ∙ at_b)

one_rows : (history : History) (xs ys : List Row) → AreLastRows history xs → AreLastRows history ys → xs ≡ ys
one_rows history xs ys a b =
    let same = last_once history a.0 b.0 a.1 b.1 in
    let rows : a.0.1.rows ≡ b.0.1.rows = ap (λ (e : List ℕ × Table). e.1.rows) same in
    in_order_same (λ (r : Row). r.path) xs ys a.2 b.2 (λ row. (
      λ there. (b.3 row).1 (subst (λ (l : List Row). Contains l row) rows ((a.3 row).0 there)),
      λ there. (a.3 row).1 (subst (λ (l : List Row). Contains l row) (sym rows) ((b.3 row).0 there)),
    ))

-- ---- the log

module _ (number : ℕ) (files : Files) (leaves : LeavesDrill number files) where
  abbrev commits : List (List ℕ)
  commits = map (drill_bytes number) (numbers_under 200)

  abbrev disk : Disk
  disk = after_crash files

  long : length commits ≡ 200
  long = length_map (drill_bytes number) 200

  holds : HoldsCommits commits 0 disk
  holds = record {
    newest = let count = long in inr (omega (arith, count));
    holds = λ version bytes from at.
        let of = numbers_back (drill_bytes number) 200 version bytes at in
        subst (HoldsVersion files version) of.1 (leaves.holds version of.0);
    only = λ version has.
        let within = leaves.only version has in
        let count = long in
        (omega arith, omega (arith, within, count));
    alone = leaves.alone;
    clean = λ path within. set.contains-empty (slice_cmp nat_cmp) path;
  }

  drilled : IsDrillLog number files
  drilled = drill_log number files commits ([], append-nil commits) (0, record { holds = holds.holds; only = holds.only; alone = holds.alone })

  module _ (history : History) (is : IsHistoryOf (drill_events number true) history) where
    made : IsHistoryFrom 0 None commits history
    made = subst (λ (l : List (List ℕ)). IsHistoryFrom 0 None l history) (commits_are number true 200) is

    count : length history ≡ 200
    count = same_length 0 None commits history made ∙ long

    some : 0 < length commits
    some = let e = long in omega (arith, e)

    -- ---- the source

    pub source_tells : (table : Table) (head : Head) → IsTableAtHead files table → IsDeltaHead files head → (line : List Row → List ℕ) (text : List ℕ) → TellsOf line table.rows text → TellsLast line history text
    source_tells table head made_of is_head line text tells =
        let last = source_history.last files history head (holds_history commits 0 disk holds some history made) is_head in
        let same : SameTable table last.0.1 = last.3 table made_of in (
          tells.0,
          (last.0, last.1, tells.1, λ row. (λ there. (same.rows row).0 ((tells.2 row).0 there), λ there. (tells.2 row).1 ((same.rows row).1 there))),
          tells.3,
        )

    fault_end : AreSaid number → (e : SourceError) → IsTableRefusal files e → IsReadEnd files (status_of_source e)
    fault_end said source.Memory refusal = tt
    fault_end said source.Absent refusal = absurd (⊎_elim (λ absent. absent 0 (drill_bytes number 0, leaves.holds 0 (omega arith))) (λ never. never) refusal.0)
    fault_end said (source.Malformed path) refusal =
        absurd (⊎_elim (λ head. at_head_fault commits 0 disk holds history made (source.Malformed path) head.1) (λ whole. from_scratch_fault commits 0 disk holds history made (source.Malformed path) whole) refusal.0)
    fault_end said (source.Unsupported feature path) refusal =
        absurd (⊎_elim (λ head. let played = at_head_fault commits 0 disk holds history made (source.Unsupported feature path) head.1 in none_less played.1)
        (λ whole. let played = from_scratch_fault commits 0 disk holds history made (source.Unsupported feature path) whole in none_less played.1) refusal.0)
      where
        none_less : 0 < 0 → ⊥
        none_less less = omega (arith, less)
    fault_end said (source.Limit which n) refusal =
        absurd (⊎_elim (λ (head : ShowsAtHead files (source.Limit which n)). at_head_small number said files drilled which n head) (λ (whole : ShowsFromScratch files (source.Limit which n)). from_scratch_small number said files drilled which n whole) refusal.0)
    fault_end said source.StoreFault refusal = absurd (refusal.1 refl)

    -- ---- a target

    pub target_tells : (target : Meaning) (counts : Counts target) → IsBrought target history files → (text : List ℕ) → TellsTarget target files text → TellsLast (target_line target.kind 200) history text
    target_tells target counts brought text tells =
        let view = brought.at.view in
        let entry = brought.at.shows in
        let shown = tells view brought.at.reads in
        let number_of : view.commits ≡ 200 = sym (counts.commits_read files view brought.at.reads) ∙ brought.commits in
        let long_history = count in
        let last = last_at history 199 entry.0 entry.1 (omega (arith, long_history)) in (
          shown.0,
          (entry.0, last, shown.1, λ row. (λ there. (entry.2.rows row).0 ((shown.2 row).0 there), λ there. (shown.2 row).1 ((entry.2.rows row).1 there))),
          shown.3 ∙ ap (λ (n : ℕ). target_line target.kind n shown.0) number_of,
        )

    pub brought_once : (target : Meaning) → IsBrought target history files → IsBroughtOnce target files
    brought_once target brought = let entry = brought.at.shows in (brought.at.view, (brought.at.reads, (entry.2.standing, entry.2.mark, entry.2.format)))

  pub table_end : AreSaid number → (e : SourceError) → IsTableRefusal files e → IsReadEnd files (status_of_source e)
  table_end said e refusal = fault_end leaves.legal.history leaves.legal.is said e refusal

  pub hudi_once : IsBroughtOnce meaning_of_hudi files
  hudi_once = brought_once leaves.legal.history leaves.legal.is meaning_of_hudi (leaves.hudi leaves.legal.history leaves.legal.is)

  pub iceberg_once : IsBroughtOnce meaning_of_iceberg files
  iceberg_once = brought_once leaves.legal.history leaves.legal.is meaning_of_iceberg (leaves.iceberg leaves.legal.history leaves.legal.is)

-- ---- the three lines

pub join_lines : (number : ℕ) (history : History) (source hudi iceberg : List ℕ) → TellsLast (source_line number) history source → TellsLast (target_line Hudi 200) history hudi → TellsLast (target_line Iceberg 200) history iceberg
    → AreDrillLines number history (source ++ (hudi ++ iceberg))
join_lines number history source hudi iceberg a b c =
    let second = one_rows history b.0 a.0 b.1 a.1 in
    let third = one_rows history c.0 a.0 c.1 a.1 in (
      a.0,
      a.1,
      ap (λ (l : List ℕ). l ++ (hudi ++ iceberg)) a.2
          ∙ ap (λ (l : List ℕ). source_line number a.0 ++ (l ++ iceberg)) (b.2 ∙ ap (target_line Hudi 200) second)
          ∙ ap (λ (l : List ℕ). source_line number a.0 ++ (target_line Hudi 200 a.0 ++ l)) (c.2 ∙ ap (target_line Iceberg 200) third),
    )
