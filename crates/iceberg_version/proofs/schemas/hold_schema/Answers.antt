use Rattle.iceberg_version.proofs.SchemaLemmas.{adds, keeps, new_fits, old_fits}
use Rattle.iceberg_version.proofs.schemas.hold_schema.Goals as goal

pub returns-in-Some-clause-held : goal.returns-in-Some-clause-held
returns-in-Some-clause-held c =
    let found = c.in-Some.ensures in
    keeps c.args.metadata.now c.args.schema.now c.in_ok-image.image c.in-Some.place found.0 c.in_ok-image.ensures.image found.1 found.2 found.3

pub returns-clause-held : goal.returns-clause-held
returns-clause-held c =
    let added = c.in_ok-add_schema.ensures in
    adds c.args.metadata.now c.add_schema.new.metadata c.args.schema.now c.in_ok-image.image c.in_ok-image.ids c.in_ok-add_schema.field-0 c.in_ok-image.ensures.image c.in_ok-image.ensures.ids c.in_default.ensures added.0 added.1

pub returns-in-Some-clause-fits : goal.returns-in-Some-clause-fits
returns-in-Some-clause-fits c = λ sound size s at. let found = c.in-Some.ensures in old_fits c.args.metadata.now c.in-Some.place found.0 s found.3 at

pub returns-clause-fits : goal.returns-clause-fits
returns-clause-fits c = λ sound size s at.
    let added = c.in_ok-add_schema.ensures in
    new_fits c.args.metadata.now c.add_schema.new.metadata c.in_ok-image.image c.in_ok-image.ids c.in_ok-add_schema.field-0 s added.0 added.1 at (c.in_ok-image.ensures.fits sound size)
