-- What the next version rests on, as it is kept.
use Rattle.std.specs.Prelude.{ℕ, List, [], map, option_map, unwrap_or}
use Rattle.file_links.specs.Rows.{OwnedRows, rows_of}
use Rattle.file_links.specs.declared.slots.Held.{Held}
use Rattle.iceberg_metadata.specs.declared.metadata.Metadata.{Metadata}
use Rattle.target_core.specs.Views.{View, standing_of}
use Rattle.iceberg_version.specs.Manifests.{LiveManifest}
use Rattle.iceberg_version.specs.Writing.{TableEnd}
use Rattle.iceberg_version.specs.declared.kept.IcebergKept.{IcebergKept}
use Rattle.iceberg_version.specs.declared.kept.KeptManifest.{KeptManifest}

-- the rows of an owner, in their order
abbrev pub held_rows : OwnedRows → ℕ → List Held
held_rows links owner = map (λ e. e.held) (unwrap_or (rows_of links owner) [])

-- a kept manifest with its live rows, which its owner has
abbrev pub live_manifest : OwnedRows → KeptManifest → LiveManifest
live_manifest links m = record { info = m.info; rows = held_rows links m.owner }

-- the manifests of the current list, in their order
abbrev pub manifests_of : IcebergKept → List LiveManifest
manifests_of kept = map (live_manifest kept.links) kept.manifests

-- the same behind a version of this metadata
abbrev pub end_with : IcebergKept → Metadata → TableEnd
end_with kept metadata = record { version = kept.version; metadata = metadata; schema = kept.table.schema; partition = kept.table.partition; manifests = manifests_of kept }

abbrev pub end_of : IcebergKept → TableEnd
end_of kept = end_with kept kept.metadata

-- what is kept, as a view
abbrev pub view_of : IcebergKept → View
view_of kept = record { commits = kept.version; mark = option_map standing_of kept.mark; table = kept.table }
