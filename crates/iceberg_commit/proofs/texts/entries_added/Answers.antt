use Rattle.std.proofs.Common.{◌≡◌, ℕ, Bor, IfOk, List, map, subst, sym}
use Rattle.table_history.specs.Row.{Row}
use Rattle.iceberg_manifest_writing.specs.RowEntries.{entry_in}
use Rattle.iceberg_version.specs.Manifests.{added_entry}
use Rattle.iceberg_commit.proofs.TextLemmas.{added_is}
use Rattle.iceberg_commit.proofs.texts.entries_added.Goals as goal

pub returns : goal.returns
returns c =
    let layout = c.args.layout.now in
    added_is c.added_entries.result layout c.args.before.now c.args.place c.index-before-place.result c.index-before-place.is
    (subst (λ (part : Bor (List (Bor Row))). IfOk c.added_entries.result (λ entries. (front : List ℕ) → map (entry_in front) entries.items ≡ map (added_entry front layout.version) (map (λ (r : Bor Row). r.now) part.now))) (sym c.index-before-place.is) c.added_entries.ensures)
