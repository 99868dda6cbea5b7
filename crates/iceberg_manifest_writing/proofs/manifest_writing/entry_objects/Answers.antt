use Rattle.std.proofs.Common.{◌≡◌, ◌+◌, ◌∷◌, List, ap, drop, map, subst, sym}
use Rattle.std.specs.List.{AllByRecursion}
use Rattle.iceberg_manifest.specs.Entry.{EntryData}
use Rattle.iceberg_manifest.specs.ManifestWriting.{entry_tree, HasRanges}
use Rattle.iceberg_manifest_writing.specs.RowEntries.{entry_in}
use Rattle.iceberg_manifest_writing.proofs.EntryLemmas.{has_ranges, known_status}
use Rattle.iceberg_manifest_writing.proofs.StepLemmas.{encoded_more, sound_more}
use Rattle.iceberg_manifest_writing.proofs.manifest_writing.entry_objects.Goals as goal
use Rattle.lake_basics.proofs.Lists.{next_of}

pub loop-entry-preserved : goal.loop-entry-preserved
loop-entry-preserved c =
    let es = c.args.entries.now in
    let front = c.args.front.now in
    let k = c.loop-entry.entry-index in
    let entry = c.entry-item.result in
    let e : EntryData = entry_in front entry in
    let left : List EntryData = map (entry_in front) (drop k es) in
    let rest : List EntryData = map (entry_in front) (drop (k + 1) es) in
    let next : left ≡ e ∷ rest = ap (map (entry_in front)) (next_of es k entry c.loop-entry-test.true c.entry-item.is) in
    record {
      bytes = encoded_more entry_tree c.loop-entry.out.items _ e left rest _ c.in_ok-push_entry.ensures.bytes next c.loop-entry.invariant.bytes;
      sound = sound_more entry_tree e left rest (map (entry_in front) es) next c.in_ok-push_entry.ensures.sound c.loop-entry.invariant.sound;
      ranges = λ ranges. c.loop-entry.invariant.ranges (subst (AllByRecursion HasRanges) (sym next) (has_ranges e (known_status entry.status) c.in_ok-push_entry.ensures.sound, ranges));
    }
