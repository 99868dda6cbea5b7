use Rattle.schema_map.specs.Paths.{column_paths}
use Rattle.iceberg_field_ids.proofs.IdsGiven.{given_next, given_room, given_limit}
use Rattle.iceberg_field_ids.proofs.IcebergGiven.{given_image, given_settled, given_keeps, given_own, given_fits}
use Rattle.iceberg_field_ids.proofs.ids.to_iceberg.Goals as goal

pub returns-clause-image : goal.returns-clause-image
returns-clause-image c = given_image _ _ c.image_and_ids.ensures.image

pub returns-clause-keeps : goal.returns-clause-keeps
returns-clause-keeps c = given_keeps c.args.known.now.pairs c.args.known.now.last c.args.schema.now _ c.image_and_ids.ensures.ids

pub returns-clause-next : goal.returns-clause-next
returns-clause-next c = given_next _ c.args.known.now.pairs c.args.known.now.last (column_paths c.args.schema.now) _ c.image_and_ids.ensures.ids

pub returns-clause-room : goal.returns-clause-room
returns-clause-room c = given_room _ c.args.known.now.pairs c.args.known.now.last (column_paths c.args.schema.now) _ c.image_and_ids.ensures.ids

pub returns-clause-limit : goal.returns-clause-limit
returns-clause-limit c = given_limit _ c.args.known.now.pairs c.args.known.now.last (column_paths c.args.schema.now) _ c.image_and_ids.ensures.ids

pub returns-clause-own_ids : goal.returns-clause-own_ids
returns-clause-own_ids c = given_own c.args.known.now.pairs c.args.known.now.last c.args.schema.now _ c.image_and_ids.ensures.ids

pub returns-clause-fits : goal.returns-clause-fits
returns-clause-fits c = given_fits c.args.known.now.pairs c.args.known.now.last c.args.schema.now _ c.image_and_ids.ensures.image c.image_and_ids.ensures.are c.image_and_ids.ensures.ids

pub returns-clause-settled : goal.returns-clause-settled
returns-clause-settled c = given_settled _ _ c.image_and_ids.ensures.image
