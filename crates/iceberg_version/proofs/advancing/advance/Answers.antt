use Rattle.std.proofs.Common.{◌≡◌, List, length, ℕ}
use Rattle.table_history.specs.Row.{Row}
use Rattle.file_links.specs.Rows.{OwnedRows}
use Rattle.iceberg_version.specs.Advance.{Advances, HoldsJustBehind, OwnEachPath, added_rows, owners_of}
use Rattle.iceberg_version.specs.Carrying.{parts_at}
use Rattle.iceberg_version.specs.declared.carrying.Next.{Next}
use Rattle.iceberg_version.specs.declared.kept.KeptManifest.{KeptManifest}
use Rattle.iceberg_version.proofs.KeptLemmas.{advances, counted, fresh_left, held_just, on_ok, paths_own}
use Rattle.iceberg_version.proofs.advancing.advance.Goals as goal
use Rattle.lake_basics.proofs.Options.{ok_also}

pub owners-requires-clause-fresh : goal.owners-requires-clause-fresh
owners-requires-clause-fresh c = fresh_left c.args.removed.now c.args.manifests.now c.args.links.now c.end_empty.new.links c.unlink_all.new.links c.end_empty.ensures c.unlink_all.ensures (added_rows (parts_at c.args.parts.now) c.args.next.now) c.requires.distinct c.requires.unheld

pub returns-clause-infos : goal.returns-clause-infos
returns-clause-infos c = λ same.
    let removed : List (List ℕ) = c.args.removed.now in
    let ms : List KeptManifest = c.args.manifests.now in
    let parts : List (List Row) = parts_at c.args.parts.now in
    let next : List Next = c.args.next.now in
    c.with_owners.ensures.infos (counted removed ms c.args.links.now c.end_empty.new.links c.unlink_all.new.links c.end_empty.ensures c.unlink_all.ensures c.args.version parts next c.in_ok-owners.owners.items c.owners.new.links c.in_ok-owners.ensures (length c.args.infos.items) same)

pub returns-clause-kept : goal.returns-clause-kept
returns-clause-kept c = λ same list.
    let removed : List (List ℕ) = c.args.removed.now in
    let ms : List KeptManifest = c.args.manifests.now in
    let parts : List (List Row) = parts_at c.args.parts.now in
    let next : List Next = c.args.next.now in
    let v : OwnedRows = c.args.links.now in
    let x : OwnedRows = c.owners.new.links in
    let os : List ℕ = c.in_ok-owners.owners.items in
    let enough = counted removed ms v c.end_empty.new.links c.unlink_all.new.links c.end_empty.ensures c.unlink_all.ensures c.args.version parts next os x c.in_ok-owners.ensures (length c.args.infos.items) same in
    ok_also c.with_owners.result (λ kept. owners_of kept ≡ os) (Advances removed c.args.version ms parts next v x) (c.with_owners.ensures.owners enough)
    (λ kept is. advances removed ms v c.end_empty.new.links c.unlink_all.new.links c.end_empty.ensures c.unlink_all.ensures c.args.version parts next os x c.in_ok-owners.ensures c.requires.apart (length c.args.parts.now) list kept is)

pub returns-clause-held : goal.returns-clause-held
returns-clause-held c =
    let removed : List (List ℕ) = c.args.removed.now in
    let ms : List KeptManifest = c.args.manifests.now in
    let parts : List (List Row) = parts_at c.args.parts.now in
    let next : List Next = c.args.next.now in
    on_ok c.with_owners.result (HoldsJustBehind removed c.args.version (added_rows parts next) c.args.links.now c.owners.new.links)
    (held_just removed ms c.args.links.now c.end_empty.new.links c.unlink_all.new.links c.end_empty.ensures c.unlink_all.ensures c.args.version parts next c.in_ok-owners.owners.items c.owners.new.links c.in_ok-owners.ensures)

pub returns-clause-paths : goal.returns-clause-paths
returns-clause-paths c = λ own.
    let removed : List (List ℕ) = c.args.removed.now in
    let ms : List KeptManifest = c.args.manifests.now in
    let parts : List (List Row) = parts_at c.args.parts.now in
    let next : List Next = c.args.next.now in
    on_ok c.with_owners.result (OwnEachPath c.owners.new.links)
    (paths_own removed ms c.args.links.now c.end_empty.new.links c.unlink_all.new.links c.end_empty.ensures c.unlink_all.ensures c.args.version parts next c.in_ok-owners.owners.items c.owners.new.links c.in_ok-owners.ensures c.requires.distinct c.requires.unheld own)
