use Rattle.std.proofs.Common.{Bor, List, map, ap, ◌∙◌}
use Rattle.std.proofs.lemmas.List.{map-append}
use Rattle.table_history.specs.declared.row.FileRow.{FileRow}
use Rattle.iceberg_version.proofs.PartLemmas.{all_cut, cut_more, uncut}
use Rattle.iceberg_version.proofs.added.parts_of.Goals as goal

abbrev now : Bor (List (Bor FileRow)) → List (Bor FileRow)
now part = part.now

pub loop-start-init : goal.loop-start-init
loop-start-init c = uncut c.args.rows.now (map now c.new-parts.result.items) (ap (map now) c.new-parts.ensures.items)

pub loop-start-preserved : goal.loop-start-preserved
loop-start-preserved c = cut_more c.args.rows.now c.loop-start.start (map now c.loop-start.parts.items) (map now c.push.new.self.items) c.part_from-part.result.now c.loop-start-test.true c.part_from-part.ensures (ap (map now) c.in_ok-push.ensures.items ∙ map-append now c.loop-start.parts.items _) c.loop-start.invariant

pub returns : goal.returns
returns c = all_cut c.args.rows.now c.loop-start.start (map now c.loop-start.parts.items) c.loop-start-test.false c.loop-start.invariant
