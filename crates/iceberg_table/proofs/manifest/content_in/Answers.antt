use Rattle.std.proofs.Common.{sym, subst}
use Rattle.iceberg_table.specs.Errors.{IsFault}
use Rattle.iceberg_table.specs.Manifests.{IsManifestFault}
use Rattle.iceberg_table.proofs.ManifestLaws.{bytes_refused, content_fits, content_found, content_refused, counted}
use Rattle.iceberg_table.proofs.manifest.content_in.Goals as goal

pub returns-in-Ok-clause-found : goal.returns-in-Ok-clause-found
returns-in-Ok-clause-found c bytes read short =
    let few = counted bytes short in
    content_found c.args.location.now c.args.columns.now c.args.file.now bytes c.in-Ok.entries (c.in-Ok.ensures.found bytes read few) c.content_of.result (λ others says. c.in-Ok.ensures.only bytes others read few says) c.content_of.ensures.count c.content_of.ensures.rows

pub returns-in-Ok-clause-fit : goal.returns-in-Ok-clause-fit
returns-in-Ok-clause-fit c some =
    content_fits c.args.location.now c.args.columns.now c.args.file.now some.0 c.in-Ok.entries (c.in-Ok.ensures.found some.0 some.2 (counted some.0 some.1)) c.content_of.result c.content_of.ensures.rows

pub returns-in-Ok-clause-refused : goal.returns-in-Ok-clause-refused
returns-in-Ok-clause-refused c bytes read short =
    content_refused c.args.location.now c.args.columns.now c.args.file.now bytes c.in-Ok.entries (c.in-Ok.ensures.found bytes read (counted bytes short)) c.args.before c.content_of.result c.content_of.ensures.refused

pub returns-in-Err-clause-refused : goal.returns-in-Err-clause-refused
returns-in-Err-clause-refused c bytes read short =
    subst (IsFault (IsManifestFault c.args.location.now c.args.columns.now c.args.before c.args.file.now bytes)) (sym c.manifest_fault.ensures)
    (bytes_refused c.args.location.now c.args.columns.now c.args.file.now c.args.before bytes c.in-Err.error (c.in-Err.ensures.refused bytes read (counted bytes short)))
