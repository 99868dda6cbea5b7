use Rattle.std.proofs.Common.{ℕ, List, map, take, subst, sym, ◌∙◌, to_z, of_z, w64}
use Rattle.std.proofs.lemmas.Bool.{false≢true}
use Rattle.std.proofs.lemmas.Int.{to_z-of_z}
use Rattle.iceberg_manifest.specs.Entry.{EntryData}
use Rattle.iceberg_manifest_writing.specs.RowEntries.{entry_in}
use Rattle.iceberg_version.specs.Manifests.{IsLeastOf, if_any, live_sequences}
use Rattle.iceberg_version.proofs.CountLemmas.{all_taken, dead_step, entry_at, entry_within, least_by, live_step}
use Rattle.iceberg_version.proofs.infos.least_sequence.Goals.{then-is_live, else-is_live}
use Rattle.iceberg_version.proofs.infos.least_sequence.Goals as goal

pub loop-entry-preserved : goal.loop-entry-preserved
loop-entry-preserved c =
    let k = c.loop-entry.entry-index in
    let rows = c.args.entries.now in
    let item = c.entry-item.result in
    let es = λ (front : List ℕ). map (entry_in front) rows in
    let within = λ (front : List ℕ). entry_within front rows k c.loop-entry-test.true in
    let at = λ (front : List ℕ). entry_at front rows k item c.loop-entry-test.true c.entry-item.is in
    elim c.if-is_live.branch [
      | then-is_live w ↦
          (let number = λ (front : List ℕ). to_z-of_z w64 w.sequence_in.result (record { sfits = w.sequence_in.type_inv }) ∙ w.sequence_in.ensures front in
          let least = λ (front : List ℕ). w.least_with-least.ensures (live_sequences c.args.version (take k (es front))) (c.loop-entry.invariant.0 front) in (
            λ front. live_step c.args.version k (es front) (entry_in front item) (to_z w64 (of_z w64 w.sequence_in.result)) w.least_with-least.result (to_z w64 c.if-is_live.least-bits) c.if-is_live.any (within front) (at front) (sym (c.is_live.ensures front) ∙ w.if-is_live.true) (number front) (least front) w.any-is (w.least-is ∙ to_z-of_z w64 w.least_with-least.result (record { sfits = w.least_with-least.type_inv })),
            λ none. absurd (false≢true (sym none ∙ w.any-is)),
          ))
      | else-is_live w ↦ (
        λ front. (dead_step c.args.version k (es front) (entry_in front item) (to_z w64 c.loop-entry.least-bits) (to_z w64 c.if-is_live.least-bits) c.loop-entry.any c.if-is_live.any (within front) (at front) (sym (c.is_live.ensures front) ∙ w.if-is_live.false) w.any-is w.least-is (c.loop-entry.invariant.0 front, c.loop-entry.invariant.1)).0,
        λ none. w.least-is ∙ c.loop-entry.invariant.1 (sym w.any-is ∙ none),
      )
    ]

pub returns : goal.returns
returns c = λ front.
    let es : List EntryData = map (entry_in front) c.args.entries.now in
    let all = all_taken front c.args.entries.now c.loop-entry.entry-index c.loop-entry-test.false in
    least_by c.args.version (live_sequences c.args.version es) c.loop-entry.any (to_z w64 c.loop-entry.least-bits)
    (subst (λ (es : List EntryData). IsLeastOf (live_sequences c.args.version es) (if_any c.loop-entry.any (to_z w64 c.loop-entry.least-bits))) all (c.loop-entry.invariant.0 front)) c.loop-entry.invariant.1
