use Rattle.std.proofs.Common.{◌∙◌, List, None, ap, sym, subst}
use Rattle.lake_store.specs.Disk.{Disk}
use Rattle.lake_store.proofs.RunLaws as runs
use Rattle.iceberg_manifest.specs.Lists.{AreEach}
use Rattle.iceberg_manifest.specs.declared.partition.PartColumn.{PartColumn}
use Rattle.iceberg_table.specs.Manifests.{IsManifestOf}
use Rattle.iceberg_table.specs.Plan.{part_columns}
use Rattle.iceberg_table.proofs.CountLaws.{few_counted}
use Rattle.iceberg_change.specs.Behind.{HoldsFit, HoldsRead, IsJoined, held_rows}
use Rattle.iceberg_change.proofs.BehindLaws.{parts_of}
use Rattle.iceberg_change.proofs.behind.read_list.Goals as goal

pub join_list-requires : goal.join_list-requires
join_list-requires g c = subst (λ (cs : List PartColumn). HoldsFit cs c.in_ok-held.field-0.held) (sym c.as_slice-2.ensures) c.in_ok-held.ensures.start.fit

pub returns-in_err-joining-clause-only_reads : goal.returns-in_err-joining-clause-only_reads
returns-in_err-joining-clause-only_reads g c = runs.reading_further g.S.Store c.args.store.now c.read_list_file.new.store c.join_list.new.store c.in-Ok.ensures.only_reads c.in_err-joining.ensures.only_reads

pub returns-clause-only_reads : goal.returns-clause-only_reads
returns-clause-only_reads g c = runs.reading_further g.S.Store c.args.store.now c.read_list_file.new.store c.join_list.new.store c.in-Ok.ensures.only_reads c.in_ok-joining.ensures.only_reads

pub returns-clause-columns : goal.returns-clause-columns
returns-clause-columns g c = c.in_ok-columns.ensures ∙ ap part_columns c.as_slice.ensures

pub returns-clause-parts : goal.returns-clause-parts
returns-clause-parts g c =
    let start = c.in_ok-held.field-0 in
    let j = c.in_ok-joining.joining in
    let joined = subst (λ (cs : List PartColumn). IsJoined cs (held_rows start.held) None j) c.as_slice-2.ensures c.in_ok-joining.ensures.joined in
    parts_of c.in_ok-columns.columns c.args.before.now start j c.in_ok-held.ensures.start joined

pub returns-clause-fit : goal.returns-clause-fit
returns-clause-fit g c = (subst (λ (cs : List PartColumn). IsJoined cs (held_rows c.in_ok-held.field-0.held) None c.in_ok-joining.joining) c.as_slice-2.ensures c.in_ok-joining.ensures.joined).fit

pub returns-clause-within : goal.returns-clause-within
returns-clause-within g c = few_counted c.in_ok-joining.joining.manifests c.in_ok-joining.joining.counted c.in_ok-joining.ensures.joined.counts c.in_ok-joining.ensures.few

pub returns-clause-read : goal.returns-clause-read
returns-clause-read g c told listed =
    let files = (g.S.Store.disk c.args.store.now).files in
    let m = c.args.metadata.now in
    let location = c.as_str-location.result.now in
    let columns = c.in_ok-columns.columns in
    let start = c.in_ok-held.field-0 in
    let list = c.in-Ok.list in
    let j = c.in_ok-joining.joining in
    let same = c.in_ok-columns.ensures ∙ ap part_columns c.as_slice.ensures in
    let held = subst (λ (cs : List PartColumn). HoldsRead files location cs start.held) (sym c.as_slice-2.ensures) (subst (λ l. HoldsRead files l columns start.held) (sym c.as_str-location.ensures.value) (c.in_ok-held.ensures.read files m.location listed)) in
    let here = subst (λ (d : Disk). HoldsRead d.files location c.as_slice-2.result.now start.held) (sym (c.in-Ok.ensures.only_reads told).disk) held in
    let at = subst (λ (d : Disk). AreEach (IsManifestOf d.files location c.as_slice-2.result.now) list j.manifests) (c.in-Ok.ensures.only_reads told).disk (c.in_ok-joining.ensures.all told here) in
    let placed = subst (λ l. AreEach (IsManifestOf files l c.as_slice-2.result.now) list j.manifests) c.as_str-location.ensures.value at in
    record {
      list = list;
      says = c.in-Ok.ensures.says told;
      only = c.in-Ok.ensures.only told;
      are = subst (λ (cs : List PartColumn). AreEach (IsManifestOf files m.location cs) list j.manifests) (c.as_slice-2.ensures ∙ same) placed;
    }
