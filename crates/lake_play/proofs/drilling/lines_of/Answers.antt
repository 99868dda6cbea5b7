use Rattle.std.proofs.Common.{sym, subst, ◌∙◌}
use Rattle.std.specs.Prelude.{IfErr, string_bytes}
use Rattle.std.proofs.lemmas.Result.{err_from_is_err_and}
use Rattle.lake_store.specs.Disk.{Disk}
use Rattle.lake_store.specs.Memory.{disk_of}
use Rattle.target_iceberg.specs.TableId.{table_id}
use Rattle.lake_play.specs.Drilled.{IsBroughtOnce, IsReadEnd, TellsTarget}
use Rattle.lake_play.specs.Formats.{place}
use Rattle.lake_play.specs.Standing.{meaning_of_hudi, meaning_of_iceberg}
use Rattle.lake_play.proofs.DrillLines.{hudi_once, iceberg_once, join_lines, target_tells}
use Rattle.lake_play.proofs.EachOnce.{hudi_counts, iceberg_counts}
use Rattle.lake_play.proofs.drilling.lines_of.Goals as goal

pub line_of_hudi-requires : goal.line_of_hudi-requires
line_of_hudi-requires c =
    record { ours = subst (λ (d : Disk). IsBroughtOnce meaning_of_hudi d.files) (sym c.in_ok-source.ensures.still) (hudi_once c.args.number (disk_of c.args.store.now).files c.requires.leaves) }

pub line_of_iceberg-requires : goal.line_of_iceberg-requires
line_of_iceberg-requires c =
    record { ours = subst (λ (d : Disk). IsBroughtOnce meaning_of_iceberg d.files) (sym (c.in_ok-hudi.ensures.still ∙ c.in_ok-source.ensures.still)) (iceberg_once c.args.number (disk_of c.args.store.now).files c.requires.leaves) }

pub returns-in_err-hudi-clause-refused : goal.returns-in_err-hudi-clause-refused
returns-in_err-hudi-clause-refused c =
    let files = (disk_of c.args.store.now).files in
    let exit = err_from_is_err_and c.from_residual-in_err-hudi.result c.from_residual-in_err-hudi.ensures.1 in
    subst (λ r. IfErr r (IsReadEnd files)) (sym exit.1)
    (subst (IsReadEnd files) (sym exit.2) (subst (λ (d : Disk). IsReadEnd d.files c.in_err-hudi.field-0.0) c.in_ok-source.ensures.still c.in_err-hudi.ensures.refused))

pub returns-in_err-iceberg-clause-refused : goal.returns-in_err-iceberg-clause-refused
returns-in_err-iceberg-clause-refused c =
    let files = (disk_of c.args.store.now).files in
    let exit = err_from_is_err_and c.from_residual-in_err-iceberg.result c.from_residual-in_err-iceberg.ensures.1 in
    subst (λ r. IfErr r (IsReadEnd files)) (sym exit.1)
    (subst (IsReadEnd files) (sym exit.2) (subst (λ (d : Disk). IsReadEnd d.files c.in_err-iceberg.field-0.0) (c.in_ok-hudi.ensures.still ∙ c.in_ok-source.ensures.still) c.in_err-iceberg.ensures.refused))

pub returns-clause-lines : goal.returns-clause-lines
returns-clause-lines c history is =
    let number = c.args.number in
    let files = (disk_of c.args.store.now).files in
    let leaves = c.requires.leaves in
    let source = string_bytes c.in_ok-source.source in
    let hudi = string_bytes c.in_ok-hudi.hudi in
    let iceberg = string_bytes c.in_ok-iceberg.iceberg in
    let to_hudi = subst (λ (d : Disk). TellsTarget meaning_of_hudi d.files hudi) c.in_ok-source.ensures.still c.in_ok-hudi.ensures.line in
    let to_iceberg = subst (λ (d : Disk). TellsTarget meaning_of_iceberg d.files iceberg) (c.in_ok-hudi.ensures.still ∙ c.in_ok-source.ensures.still) c.in_ok-iceberg.ensures.line in
    join_lines number history source hudi iceberg (c.in_ok-source.ensures.line history is) (target_tells number files leaves history is meaning_of_hudi hudi_counts (leaves.hudi history is) hudi to_hudi)
    (target_tells number files leaves history is meaning_of_iceberg (iceberg_counts (table_id place)) (leaves.iceberg history is) iceberg to_iceberg)
