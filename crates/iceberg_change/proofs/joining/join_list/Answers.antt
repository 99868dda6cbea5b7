use Rattle.std.proofs.Common.{◌≡◌, ◌++◌, ◌∷◌, [], List, length, refl, sym, subst, ◌∙◌, arith, rules}
use Rattle.lake_store.specs.Disk.{Disk}
use Rattle.lake_store.proofs.RunLaws as runs
use Rattle.iceberg_manifest.specs.Lists.{AreEach}
use Rattle.iceberg_table.specs.Manifests.{IsManifestOf}
use Rattle.iceberg_table.specs.declared.list.ManifestFile.{ManifestFile}
use Rattle.iceberg_table.specs.declared.manifest.Manifest.{Manifest}
use Rattle.iceberg_table.proofs.EachLaws.{each_push, left_moved, left_next, left_none}
use Rattle.iceberg_table.proofs.Runs.{fails_never, uncontested_further}
use Rattle.iceberg_change.specs.Behind.{HoldsFit, HoldsRead, IsNextIn, held_rows}
use Rattle.iceberg_change.proofs.joining.join_list.Goals as goal

pub loop-file-init : goal.loop-file-init
loop-file-init g c =
    let store = g.S.Store in
    let files = (store.disk c.args.store.now).files in
    let location = c.args.location.now in
    let columns = c.args.columns.now in
    let new = c.new-joining.ensures in
    record {
      few = new.few;
      joined = new.joined columns;
      fit = subst (HoldsFit columns) (sym new.same) c.requires;
      parts = (
        [],
        sym (c.into_iter-file-iterator.ensures.into_iter_gives.0 ∙ c.into_vec-file-items.ensures),
        λ told read. (subst (HoldsRead files location columns) (sym new.same) read, subst (λ (l : List Manifest). AreEach (IsManifestOf files location columns) [] l) (sym new.none) tt),
      );
      reads = runs.reading_begins store g.met.S.Store.only_now c.args.store.now;
      cause = record { later = omega arith; still = λ m. m; rose = λ never. absurd never; allowed = λ never. absurd never };
      contest = record { same = refl; still = λ m. m; never = λ never. never };
    }

pub returns-in_err-put_file-clause-only_reads : goal.returns-in_err-put_file-clause-only_reads
returns-in_err-put_file-clause-only_reads g c = runs.reading_further g.S.Store c.args.store.now c.loop-file.store c.put_file.new.store c.loop-file.invariant.reads c.in_err-put_file.ensures.only_reads

pub loop-file-preserved : goal.loop-file-preserved
loop-file-preserved g c =
    let store = g.S.Store in
    let old = c.args.store.now in
    let mid = c.loop-file.store in
    let new = c.put_file.new.store in
    let files = (store.disk old).files in
    let location = c.args.location.now in
    let columns = c.args.columns.now in
    let so_far = c.loop-file.invariant in
    let was = so_far.parts in
    let x = c.in-Some.file in
    let before = c.loop-file.joining in
    let after = c.put_file.new.self in
    let step = c.in_ok-put_file.ensures in
    let split = left_next c.args.list was.0 c.loop-file.file-iterator.rest.items c.next.new.self.rest.items x was.1 c.in-Some.ensures.steps.0 in
    record {
      few = step.few;
      joined = step.joined (held_rows c.args.held) so_far.joined;
      fit = step.fit;
      parts = (
        was.0 ++ x ∷ [],
        left_moved c.args.list was.0 c.next.new.self.rest.items x split,
        λ told read.
            let here = was.2 told read in
            let one = subst (λ (d : Disk). IsNextIn d.files location columns x before after) (so_far.reads told).disk (step.next told (subst (λ (d : Disk). HoldsRead d.files location columns before.held) (sym (so_far.reads told).disk) here.0)) in (
              step.held files here.0,
              subst (λ (l : List Manifest). AreEach (IsManifestOf files location columns) (was.0 ++ x ∷ []) l) (sym one.manifests) (each_push (IsManifestOf files location columns) was.0 before.manifests x one.manifest here.1 one.is),
            ),
      );
      reads = runs.reading_further store old mid new so_far.reads step.only_reads;
      cause = fails_never store.faults store.may_fail old mid new _ so_far.cause step.cause;
      contest = uncontested_further store.contests store.may_contest old mid new so_far.contest step.contest;
    }

pub returns-clause-all : goal.returns-clause-all
returns-clause-all g c told = λ read.
    let files = (g.S.Store.disk c.args.store.now).files in
    let was = c.loop-file.invariant.parts in
    let rest = c.loop-file.file-iterator.rest.items in
    let none : length rest ≡ 0 = search rules in
    subst (λ (l : List ManifestFile). AreEach (IsManifestOf files c.args.location.now c.args.columns.now) l c.loop-file.joining.manifests) (sym (left_none c.args.list was.0 rest was.1 none)) (was.2 told read).1
