use Rattle.std.proofs.Common.{ℕ, List, sym, subst}
use Rattle.iceberg_table.specs.Files.{HoldsFile}
use Rattle.iceberg_table.proofs.ContentLaws.{contents_listed}
use Rattle.iceberg_table.proofs.ListLaws.{list_once}
use Rattle.iceberg_table.proofs.list.read_list_file.Goals as goal

pub returns-in-Ok-clause-only : goal.returns-in-Ok-clause-only
returns-in-Ok-clause-only g c told others says =
    let files = (g.S.Store.disk c.args.store.now).files in
    let found = c.in-Ok.ensures.found in
    let holds = subst (λ (bs : List ℕ). HoldsFile files c.args.path.now bs) (sym c.as_slice.ensures.value) (c.in_ok-bytes.ensures.holds told) in
    list_once files c.args.metadata.now c.args.path.now c.as_slice.result.now found.0 c.in-Ok.list holds found.3 found.2 others says

pub returns-in-Ok-clause-contents : goal.returns-in-Ok-clause-contents
returns-in-Ok-clause-contents g c = let found = c.in-Ok.ensures.found in contents_listed c.args.metadata.now c.as_slice.result.now found.0 c.in-Ok.list found.1 found.2

pub returns-in-Ok-clause-short : goal.returns-in-Ok-clause-short
returns-in-Ok-clause-short g c told = record { bytes = _; holds = c.in_ok-bytes.ensures.holds told; short = c.in_ok-bytes.ensures.short }
