use Rattle.std.proofs.Common.{List, Result, refl, sym, subst, ◌++◌}
use Rattle.std.specs.Prelude.{IfErr}
use Rattle.std.specs.Fmt.{signed_decimal}
use Rattle.std.proofs.lemmas.Result.{err_from_is_err_and}
use Rattle.iceberg_table.specs.declared.manifest.Manifest.{Manifest}
use Rattle.source_core.specs.Answers.{IsReadRefusal}
use Rattle.source_core.specs.declared.error.SourceError.{SourceError}
use Rattle.iceberg_change.specs.Own.{own_table}
use Rattle.source_iceberg.specs.Counted.{Counts}
use Rattle.source_iceberg.specs.Since.{HasManyEntries, IsRefusedBehind}
use Rattle.source_iceberg.specs.declared.since.Later.{Later}
use Rattle.source_iceberg.proofs.Publishable.{publishable_of_snapshot}
use Rattle.source_iceberg.proofs.SinceLaws.{entries_refused, leads_to_own, partition_kept}
use Rattle.source_iceberg.proofs.since.Later.with_snapshot.Goals as goal

pub returns-in_err-own-clause-refused : goal.returns-in_err-own-clause-refused
returns-in_err-own-clause-refused g c told = λ listed read counts.
    let exit = err_from_is_err_and c.from_residual.result c.from_residual.ensures.1 in
    let files = (g.S.Store.disk c.args.store.now).files in
    let P : SourceError → Type 0 = IsRefusedBehind files c.args.version c.args.metadata.now c.args.self.table read c.args.snapshot.now in
    subst (λ (r : Result Later SourceError). IfErr r (IsReadRefusal P)) (sym exit.1) (subst (IsReadRefusal P) (sym exit.2) (c.in_err-own.ensures.refused told read))

pub returns-in_err-put_commit-clause-refused : goal.returns-in_err-put_commit-clause-refused
returns-in_err-put_commit-clause-refused g c told = λ listed read counts.
    let exit = err_from_is_err_and c.from_residual-in_err-put_commit.result c.from_residual-in_err-put_commit.ensures.1 in
    let files = (g.S.Store.disk c.args.store.now).files in
    let m = c.args.metadata.now in
    let s = c.args.snapshot.now in
    let before = c.args.self in
    let own = c.in_ok-own.own in
    let e = c.in_err-put_commit.field-0.0 in
    let many = subst (λ (rs : List Manifest). IsReadRefusal (HasManyEntries read rs) e) c.as_slice-manifests.ensures (c.in_err-put_commit.ensures.many read counts) in
    let P : SourceError → Type 0 = IsRefusedBehind files c.args.version m before.table read s in
    subst (λ (r : Result Later SourceError). IfErr r (IsReadRefusal P)) (sym exit.1)
    (subst (IsReadRefusal P) (sym exit.2) (entries_refused files c.args.version m before.table read s (own_table own) c.in_ok-own.ensures.unchanged (c.in_ok-own.ensures.own.read told listed) e many))

pub returns-clause-next : goal.returns-clause-next
returns-clause-next g c told = λ listed.
    let before = c.args.self in
    let own = c.in_ok-own.own in
    let is = c.in_ok-own.ensures.own in
    record {
      commit = record { position = signed_decimal c.args.snapshot.now.id; change = own.change };
      own = own_table own;
      commits = c.in_ok-put_commit.ensures.commits;
      is = record {
        position = refl;
        read = is.read told listed;
        is = is.is told listed;
        partition = partition_kept c.args.metadata.now c.args.snapshot.now before.table own.table is.columns c.in_ok-own.ensures.unchanged;
        unchanged = c.in_ok-own.ensures.unchanged;
        rows = is.diff;
        schema = is.schema;
      };
      table = refl;
      counted = λ rs counts. subst (λ (own : List Manifest). Counts (rs ++ own) c.put_commit.new.counted) c.as_slice-manifests.ensures (c.in_ok-put_commit.ensures.counts rs counts);
    }

pub returns-clause-sound : goal.returns-clause-sound
returns-clause-sound g c writable =
    let before = c.args.self in
    let own = c.in_ok-own.own in
    let is = c.in_ok-own.ensures.own in
    let sound = is.sound writable in
    let partition = partition_kept c.args.metadata.now c.args.snapshot.now before.table own.table is.columns c.in_ok-own.ensures.unchanged in
    record {
      commit = record { position = signed_decimal c.args.snapshot.now.id; change = own.change };
      commits = c.in_ok-put_commit.ensures.commits;
      fits = is.fits;
      leads = leads_to_own before.table own.table (record { position = signed_decimal c.args.snapshot.now.id; change = own.change }) is.schema is.leads sound.sound.distinct partition;
      sound = publishable_of_snapshot own.table sound;
    }
