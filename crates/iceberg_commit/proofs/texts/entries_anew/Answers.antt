use Rattle.std.proofs.Common.{◌≡◌, ◌<◌, ◌^◌, ℕ, Contains, IfOk, IsSome, List, map, subst, sym}
use Rattle.file_links.specs.Rows.{rows_of as owned_rows}
use Rattle.file_links.specs.declared.slots.Held.{Held}
use Rattle.iceberg_manifest_writing.specs.RowEntries.{entry_in}
use Rattle.iceberg_version.specs.KeptEnd.{held_rows}
use Rattle.iceberg_version.specs.Manifests.{rewritten_entries as anew}
use Rattle.iceberg_version.specs.declared.kept.KeptManifest.{KeptManifest}
use Rattle.iceberg_commit.proofs.TextLemmas.{anew_is, born_in, owner_in}
use Rattle.iceberg_commit.proofs.texts.entries_anew.Goals as goal

pub rewritten_entries-requires-clause-owner : goal.rewritten_entries-requires-clause-owner
rewritten_entries-requires-clause-owner c =
    subst (λ (m : KeptManifest). IsSome (owned_rows c.args.before.now.links.now m.owner)) c.index-before-place.is
    (owner_in c.args.before.now c.args.place c.index-before-place.result c.requires.owners c.requires.place c.index-before-place.is)

pub rewritten_entries-requires-clause-born : goal.rewritten_entries-requires-clause-born
rewritten_entries-requires-clause-born c =
    subst (λ (m : KeptManifest). (row : Held) → Contains (held_rows c.args.before.now.links.now m.owner) row → row.born < 2 ^ 63) c.index-before-place.is
    (born_in c.args.before.now c.args.place c.index-before-place.result c.requires.owners c.requires.place c.index-before-place.is)

pub returns : goal.returns
returns c =
    anew_is c.rewritten_entries.result c.args.layout.now c.args.before.now c.args.place c.index-before-place.result c.index-before-place.is
    (subst (λ (m : KeptManifest). IfOk c.rewritten_entries.result (λ entries. (front : List ℕ) → map (entry_in front) entries.items ≡ anew front c.args.layout.now.version c.args.before.now.removed.now (held_rows c.args.before.now.links.now m.owner))) (sym c.index-before-place.is) c.rewritten_entries.ensures)
