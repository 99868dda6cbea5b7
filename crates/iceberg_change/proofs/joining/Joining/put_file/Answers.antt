use Rattle.std.proofs.Common.{◌++◌, Option, None, Some, refl, sym, subst}
use Rattle.std.specs.List.Sorted.{IsPermutation}
use Rattle.lake_store.proofs.RunLaws as runs
use Rattle.iceberg_table.specs.Kinds.{FitLive}
use Rattle.iceberg_table.specs.Manifests.{IsManifestOf}
use Rattle.iceberg_table.specs.declared.manifest.Manifest.{Manifest}
use Rattle.iceberg_change.specs.Behind.{HoldsFit, HoldsRead, held_rows, slot_rows}
use Rattle.iceberg_change.specs.declared.joining.Joining.{Joining}
use Rattle.iceberg_change.proofs.JoiningLaws.{held_same, holds_left, joined_taken, next_as}
use Rattle.iceberg_change.proofs.joining.Joining.put_file.Goals as goal

pub returns-in-Some-clause-joined : goal.returns-in-Some-clause-joined
returns-in-Some-clause-joined g c = λ rows is.
    let old = c.args.self.now in
    let new : Joining = record { held = c.take.new.self; manifests = old.manifests; counted = old.counted; came = old.came } in
    c.put_taken.ensures.joined c.args.columns.now rows (c.requires.fit c.in-Some.manifest c.in-Some.ensures.taken) (joined_taken c.args.columns.now rows old new (Some c.in-Some.manifest) refl refl refl c.in-Some.ensures.rows is)

pub returns-in-Some-clause-fit : goal.returns-in-Some-clause-fit
returns-in-Some-clause-fit g c =
    let columns = c.args.columns.now in
    held_same (HoldsFit columns) c.take.new.self c.put_taken.new.self.held c.put_taken.result c.put_taken.ensures.same (holds_left (λ (m : Manifest). FitLive columns m.rows) c.args.self.now.held c.take.new.self c.in-Some.ensures.left c.requires.fit)

pub returns-in-Some-clause-next : goal.returns-in-Some-clause-next
returns-in-Some-clause-next g c told = λ read.
    let files = (g.S.Store.disk c.args.store.now).files in
    let location = c.args.location.now in
    let columns = c.args.columns.now in
    let old = c.args.self.now in
    let new : Joining = record { held = c.take.new.self; manifests = old.manifests; counted = old.counted; came = old.came } in
    next_as files location columns c.args.file new old c.put_taken.new.self c.put_taken.result refl (c.put_taken.ensures.next files location columns (read c.in-Some.manifest c.in-Some.ensures.taken))

pub returns-in-Some-clause-held : goal.returns-in-Some-clause-held
returns-in-Some-clause-held g c = λ files read.
    let location = c.args.location.now in
    let columns = c.args.columns.now in
    held_same (HoldsRead files location columns) c.take.new.self c.put_taken.new.self.held c.put_taken.result c.put_taken.ensures.same (holds_left (λ (m : Manifest). IsManifestOf files location columns m.file m) c.args.self.now.held c.take.new.self c.in-Some.ensures.left read)

pub returns-in_ok-put_new-in-Ok-clause-joined : goal.returns-in_ok-put_new-in-Ok-clause-joined
returns-in_ok-put_new-in-Ok-clause-joined g c = λ rows is.
    let old = c.args.self.now in
    let new : Joining = record { held = c.take.new.self; manifests = old.manifests; counted = old.counted; came = old.came } in
    let left = subst (λ (r : Option Manifest). IsPermutation (held_rows old.held) (slot_rows r ++ held_rows c.take.new.self)) c.in_default.is c.take.ensures.rows in
    c.in_ok-put_new-in-Ok.ensures.joined c.args.columns.now rows c.in-Ok.ensures.fit (joined_taken c.args.columns.now rows old new None refl refl refl left is)

pub returns-in_ok-put_new-in-Ok-clause-fit : goal.returns-in_ok-put_new-in-Ok-clause-fit
returns-in_ok-put_new-in-Ok-clause-fit g c =
    let columns = c.args.columns.now in
    subst (HoldsFit columns) (sym c.in_ok-put_new-in-Ok.ensures.same) (holds_left (λ (m : Manifest). FitLive columns m.rows) c.args.self.now.held c.take.new.self c.take.ensures.left c.requires.fit)

pub returns-in_ok-put_new-in-Ok-clause-next : goal.returns-in_ok-put_new-in-Ok-clause-next
returns-in_ok-put_new-in-Ok-clause-next g c told = λ read. record { manifest = c.in-Ok.manifest; manifests = c.in_ok-put_new-in-Ok.ensures.manifests; is = c.in-Ok.ensures.found told }

pub returns-in_ok-put_new-in-Ok-clause-held : goal.returns-in_ok-put_new-in-Ok-clause-held
returns-in_ok-put_new-in-Ok-clause-held g c = λ files read.
    let location = c.args.location.now in
    let columns = c.args.columns.now in
    subst (HoldsRead files location columns) (sym c.in_ok-put_new-in-Ok.ensures.same) (holds_left (λ (m : Manifest). IsManifestOf files location columns m.file m) c.args.self.now.held c.take.new.self c.take.ensures.left read)

pub returns-in-Some-clause-only_reads : goal.returns-in-Some-clause-only_reads
returns-in-Some-clause-only_reads g c = runs.reading_begins g.S.Store g.met.S.Store.only_now c.args.store.now
