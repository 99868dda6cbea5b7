use Rattle.std.proofs.Common.{◌≡◌, ◌++◌, ◌∷◌, [], ℕ, List, length, refl, sym, subst, ◌∙◌, inl, inr, arith, rules}
use Rattle.std.specs.Prelude.{IfErr}
use Rattle.std.proofs.lemmas.Result.{err_from_is_err_and}
use Rattle.lake_store.specs.Disk.{Disk}
use Rattle.lake_store.proofs.RunLaws as runs
use Rattle.iceberg_manifest.specs.ListWriting.{HasContent}
use Rattle.iceberg_manifest.specs.Lists.{AreEach}
use Rattle.iceberg_live.specs.declared.live.LiveRow.{LiveRow}
use Rattle.iceberg_table.specs.Errors.{IsRefusal, IsTold}
use Rattle.iceberg_table.specs.Manifests.{AreManifestsRefused, IsManifestOf, IsManifestRefusal}
use Rattle.iceberg_table.specs.Once.{counted_before}
use Rattle.iceberg_table.specs.Tables.{AreShared, IsTableOfRows, rows_in, rows_of}
use Rattle.iceberg_table.specs.declared.error.IcebergError.{IcebergError}
use Rattle.iceberg_table.specs.declared.list.ManifestFile.{ManifestFile}
use Rattle.iceberg_table.proofs.CountLaws.{before_counted, few_counted}
use Rattle.iceberg_table.proofs.EachLaws.{each_push, in_list, left_moved, left_next, left_none}
use Rattle.iceberg_table.proofs.FaultLaws.{refused_further}
use Rattle.iceberg_table.proofs.KeptLaws.{made_more, none_made}
use Rattle.iceberg_table.proofs.Runs.{fails_never, uncontested_further}
use Rattle.iceberg_table.proofs.manifest.read_manifests.Goals as goal

pub returns-in_err-manifest-clause-refused : goal.returns-in_err-manifest-clause-refused
returns-in_err-manifest-clause-refused g c told =
    let exit = err_from_is_err_and c.from_residual.result c.from_residual.ensures.1 in
    let store = g.S.Store in
    let files = (store.disk c.args.store.now).files in
    let location = c.args.location.now in
    let columns = c.args.columns.now in
    let so_far = c.loop-file.invariant in
    let was = so_far.parts in
    let read = was.1 in
    let x = c.in-Some.file in
    let e = c.in_err-manifest.field-0.0 in
    let split = left_next c.args.list was.0 c.loop-file.file-iterator.rest.items c.next.new.self.rest.items x was.2 c.in-Some.ensures.steps.0 in
    let P : IcebergError → Type 0 = AreManifestsRefused files location columns c.args.path.now c.args.list in
    let step = subst (λ (d : Disk). IsRefusal (IsManifestRefusal d.files location columns c.before-before.result x) e) (so_far.reads told).disk (c.in_err-manifest.ensures.refused told) in
    let counted = subst (λ (n : ℕ). IsRefusal (IsManifestRefusal files location columns n x) e) (c.before-before.ensures ∙ before_counted x.path read c.loop-file.counted was.3) step in
    subst (λ r. IfErr r (IsRefusal P)) (sym exit.1)
    (subst (IsRefusal P) (sym exit.2)
    (refused_further (IsManifestRefusal files location columns (counted_before x.path read) x) P e
    (λ d refused. record { front = was.0; item = x; behind = c.next.new.self.rest.items; split = split; found = read; are = was.4 told; refused = (few_counted read c.loop-file.counted was.3 so_far.few, was.5.table.distinct, inl refused) })
    counted))

pub returns-in_err-manifest-clause-only_reads : goal.returns-in_err-manifest-clause-only_reads
returns-in_err-manifest-clause-only_reads g c = runs.reading_further g.S.Store c.args.store.now c.loop-file.store c.read_manifest_file.new.store c.loop-file.invariant.reads c.in_err-manifest.ensures.only_reads

pub loop-file-preserved : goal.loop-file-preserved
loop-file-preserved g c =
    let store = g.S.Store in
    let old = c.args.store.now in
    let mid = c.loop-file.store in
    let new = c.read_manifest_file.new.store in
    let files = (store.disk old).files in
    let location = c.args.location.now in
    let columns = c.args.columns.now in
    let empty = c.args.empty in
    let so_far = c.loop-file.invariant in
    let was = so_far.parts in
    let read = was.1 in
    let x = c.in-Some.file in
    let r = c.in_ok-manifest.manifest in
    let split = left_next c.args.list was.0 c.loop-file.file-iterator.rest.items c.next.new.self.rest.items x was.2 c.in-Some.ensures.steps.0 in
    let table = subst (λ (rows : List LiveRow). IsTableOfRows empty.schema empty.partition (rows_of read ++ rows_in rows) c.in_ok-table.table) c.in_ok-rows.ensures.rows (c.in_ok-table.ensures.found empty.schema empty.partition (rows_of read) was.5.table) in
    let content = subst (λ (f : ManifestFile). HasContent f.info) (sym c.in_ok-manifest.ensures.file) (c.requires.contents x (in_list c.args.list was.0 c.next.new.self.rest.items x split)) in
    record {
      few = c.in_ok-counted.ensures.few so_far.few;
      parts = (
        was.0 ++ x ∷ [],
        read ++ r ∷ [],
        left_moved c.args.list was.0 c.next.new.self.rest.items x split,
        c.in_ok-counted.ensures.counts read was.3,
        λ told.
            let one = subst (λ (d : Disk). IsManifestOf d.files location columns x r) (so_far.reads told).disk (c.in_ok-manifest.ensures.found told) in
            each_push (IsManifestOf files location columns) was.0 read x r (was.4 told) one,
        made_more c.args.keep columns empty read r (record { table = c.loop-file.table; manifests = c.loop-file.manifests }) (record { table = c.in_ok-table.table; manifests = c.taken_rows.new.manifests }) was.5 table c.in_ok-manifest.ensures.fit c.in_ok-manifest.ensures.no_deletes content c.in_ok-rows.ensures.kept,
      );
      reads = runs.reading_further store old mid new so_far.reads c.in_ok-manifest.ensures.only_reads;
      cause = fails_never store.faults store.may_fail old mid new _ so_far.cause c.in_ok-manifest.ensures.cause;
      contest = uncontested_further store.contests store.may_contest old mid new so_far.contest c.in_ok-manifest.ensures.contest;
    }

pub loop-file-init : goal.loop-file-init
loop-file-init g c =
    let store = g.S.Store in
    record {
      few = c.new-counted.ensures.few;
      parts = (
        [],
        [],
        sym (c.into_iter-file-iterator.ensures.into_iter_gives.0 ∙ c.into_vec-file-items.ensures),
        c.new-counted.ensures.counts,
        λ told. tt,
        none_made c.args.keep c.args.columns.now c.args.empty (record { table = c.args.empty; manifests = c.new-manifests.result }) c.requires.table c.new-manifests.ensures,
      );
      reads = runs.reading_begins store g.met.S.Store.only_now c.args.store.now;
      cause = record { later = omega arith; still = λ m. m; rose = λ never. absurd never; allowed = λ never. absurd never };
      contest = record { same = refl; still = λ m. m; never = λ never. never };
    }

pub returns-in_err-table-clause-refused : goal.returns-in_err-table-clause-refused
returns-in_err-table-clause-refused g c told =
    let exit = err_from_is_err_and c.from_residual-in_err-table.result c.from_residual-in_err-table.ensures.1 in
    let store = g.S.Store in
    let files = (store.disk c.args.store.now).files in
    let location = c.args.location.now in
    let columns = c.args.columns.now in
    let path = c.args.path.now in
    let so_far = c.loop-file.invariant in
    let was = so_far.parts in
    let read = was.1 in
    let x = c.in-Some.file in
    let r = c.in_ok-manifest.manifest in
    let e = c.in_err-table.field-0.0 in
    let rows = rows_of read in
    let split = left_next c.args.list was.0 c.loop-file.file-iterator.rest.items c.next.new.self.rest.items x was.2 c.in-Some.ensures.steps.0 in
    let P : IcebergError → Type 0 = AreManifestsRefused files location columns path c.args.list in
    let one = subst (λ (d : Disk). IsManifestOf d.files location columns x r) (so_far.reads told).disk (c.in_ok-manifest.ensures.found told) in
    let bound = few_counted (read ++ r ∷ []) c.in_ok-counted.counted (c.in_ok-counted.ensures.counts read was.3) (c.in_ok-counted.ensures.few so_far.few) in
    let within = few_counted read c.loop-file.counted was.3 so_far.few in
    let shared = subst (λ (l : List LiveRow). IsRefusal (IsTold path (AreShared (rows ++ rows_in l))) e) c.in_ok-rows.ensures.rows (c.in_err-table.ensures.refused c.args.empty.schema c.args.empty.partition rows was.5.table) in
    subst (λ q. IfErr q (IsRefusal P)) (sym exit.1)
    (subst (IsRefusal P) (sym exit.2)
    (refused_further (IsTold path (AreShared (rows ++ rows_in r.rows))) P e
    (λ d shares. record { front = was.0; item = x; behind = c.next.new.self.rest.items; split = split; found = read; are = was.4 told; refused = (within, was.5.table.distinct, inr (r, one, bound, shares)) })
    shared))

pub returns-in_err-table-clause-only_reads : goal.returns-in_err-table-clause-only_reads
returns-in_err-table-clause-only_reads g c = runs.reading_further g.S.Store c.args.store.now c.loop-file.store c.read_manifest_file.new.store c.loop-file.invariant.reads c.in_ok-manifest.ensures.only_reads

pub returns-in_err-rows-clause-only_reads : goal.returns-in_err-rows-clause-only_reads
returns-in_err-rows-clause-only_reads g c = runs.reading_further g.S.Store c.args.store.now c.loop-file.store c.read_manifest_file.new.store c.loop-file.invariant.reads c.in_ok-manifest.ensures.only_reads

pub returns-in_err-rows-clause-refused : goal.returns-in_err-rows-clause-refused
returns-in_err-rows-clause-refused g c told =
    let exit = err_from_is_err_and c.from_residual-in_err-rows.result c.from_residual-in_err-rows.ensures.1 in
    let P : IcebergError → Type 0 = AreManifestsRefused (g.S.Store.disk c.args.store.now).files c.args.location.now c.args.columns.now c.args.path.now c.args.list in
    subst (λ r. IfErr r (IsRefusal P)) (sym exit.1) (subst (IsRefusal P) (sym exit.2) tt)

pub returns-in_err-counted-clause-only_reads : goal.returns-in_err-counted-clause-only_reads
returns-in_err-counted-clause-only_reads g c = runs.reading_further g.S.Store c.args.store.now c.loop-file.store c.read_manifest_file.new.store c.loop-file.invariant.reads c.in_ok-manifest.ensures.only_reads

pub returns-clause-made : goal.returns-clause-made
returns-clause-made g c = (c.loop-file.invariant.parts.1, c.loop-file.invariant.parts.5)

pub returns-clause-found : goal.returns-clause-found
returns-clause-found g c told =
    let files = (g.S.Store.disk c.args.store.now).files in
    let so_far = c.loop-file.invariant in
    let was = so_far.parts in
    let rest = c.loop-file.file-iterator.rest.items in
    let none : length rest ≡ 0 = search rules in (
      was.1,
      few_counted was.1 c.loop-file.counted was.3 so_far.few,
      subst (λ (l : List ManifestFile). AreEach (IsManifestOf files c.args.location.now c.args.columns.now) l was.1) (sym (left_none c.args.list was.0 rest was.2 none)) (was.4 told),
      was.5,
    )
