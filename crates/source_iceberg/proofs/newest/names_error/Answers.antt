use Rattle.std.proofs.Common.{sym, ap, ◌∙◌}
use Rattle.std.specs.Option.{option_copied}
use Rattle.source_iceberg.proofs.Names.{catalog_told, compressed_told, no_name}
use Rattle.source_iceberg.proofs.newest.names_error.Goals as goal

pub returns-in-Some-clause-told : goal.returns-in-Some-clause-told
returns-in-Some-clause-told c = compressed_told c.args.found.now.names c.in-Some.name.now (sym c.first_compressed.ensures ∙ ap option_copied c.in-Some.is) c.unsupported.result c.unsupported.ensures.told

pub returns-in-Some-first_metadata-clause-told : goal.returns-in-Some-first_metadata-clause-told
returns-in-Some-first_metadata-clause-told c =
    catalog_told c.args.found.now.names (sym c.first_compressed.ensures ∙ ap option_copied c.in_default.is) c.in-Some-first_metadata.name.now (sym c.first_metadata.ensures ∙ ap option_copied c.in-Some-first_metadata.is)
    c.unsupported-in-Some-first_metadata.result c.unsupported-in-Some-first_metadata.ensures.told

pub returns-in-None-clause-told : goal.returns-in-None-clause-told
returns-in-None-clause-told c = no_name c.args.found.now.names (sym c.first_compressed.ensures ∙ ap option_copied c.in_default.is) (sym c.first_metadata.ensures ∙ ap option_copied c.in-None.is)
