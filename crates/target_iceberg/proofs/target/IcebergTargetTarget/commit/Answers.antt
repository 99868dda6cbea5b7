use Rattle.std.proofs.Common.{◌≡◌, ℕ, Bool, List, [], ◌∷◌, None, refl, sym, ap, subst, rules}
use Rattle.std.specs.Prelude.{IsErrOf, is_ok}
use Rattle.std.specs.FinMap as map
use Rattle.std.specs.Option.{option_copied}
use Rattle.std.proofs.lemmas.Result.{err_from_is_err_and}
use Rattle.iceberg_table.specs.Folder.{version_path}
use Rattle.iceberg_version.specs.KeptEnd.{end_of, view_of}
use Rattle.iceberg_version.specs.Writing.{Passes}
use Rattle.iceberg_commit.specs.NextVersion.{IsNextVersion, VersionFiles}
use Rattle.iceberg_commit.specs.NewVersion.{IsVersionRefusal}
use Rattle.lake_basics.specs.declared.limits.TheConstants.{MAX_FILE_BYTES}
use Rattle.lake_store.proofs.RunLaws.{alone_by_reading, reading_begins}
use Rattle.lake_store.proofs.ShortLaws.{short_same}
use Rattle.table_history.specs.declared.kind.Kind.TheVariants.{Iceberg}
use Rattle.target_core.specs.Outcome.{Uncontested}
use Rattle.target_core.specs.OwnFiles.{MayNotTouch}
use Rattle.target_core.specs.Publishing.{Publishes}
use Rattle.target_core.specs.Views.{Origin, origin_of}
use Rattle.target_core.specs.declared.target.TargetError.TheVariants.{Contested, StoreFault}
use Rattle.target_core.proofs.Come.{come_later}
use Rattle.target_core.proofs.StoreAnswers.{no_contest, no_fault}
use Rattle.target_iceberg.specs.IcebergMeaning.{iceberg_meaning}
use Rattle.target_iceberg.specs.Reading.{commits_in}
use Rattle.target_iceberg.proofs.CommitFiles.{free_path, number}
use Rattle.target_iceberg.proofs.CommitKept.{fits_behind, kinds_stay, passes_behind}
use Rattle.target_iceberg.proofs.CommitStore.{as_left, count_contested, counted_now, done_or_later, kept_contested, never_contested, never_fault, never_later, never_limited, on_ok, publishes_nothing, publishes_version, stands_come, theirs_contested, writes_now}
use Rattle.target_iceberg.proofs.PublishingLemmas.{touches_own}
use Rattle.target_iceberg.proofs.target.IcebergTargetTarget.commit.Goals as goal

pub returns-in_err-new-clause-own : goal.returns-in_err-new-clause-own
returns-in_err-new-clause-own g c told =
    let store = g.S.Store in
    let s = c.args.store.now in
    record { alone = alone_by_reading store (MayNotTouch Iceberg) s s (reading_begins store g.met.S.Store.only_now s told); short = short_same MAX_FILE_BYTES (store.disk s).files (store.disk s).files refl }

pub returns-in_err-new-clause-publishes : goal.returns-in_err-new-clause-publishes
returns-in_err-new-clause-publishes g c told stands settled =
    let id = c.args.self.now.id in
    let location = c.args.self.now.location in
    let kept = c.args.kept.now in
    let s = c.args.store.now in
    let files = (g.S.Store.disk s).files in
    let origin : Origin = origin_of c.args.source (option_copied c.args.table) in
    let result = c.from_residual.result in
    let exit = err_from_is_err_and result c.from_residual.ensures.1 in
    let passes = Passes (end_of kept) origin c.args.now_ms (c.args.commit.now ∷ []) in
    let refused = subst (IsVersionRefusal passes) (sym exit.2) c.in_err-new.ensures.refusal in
    record {
      stands = λ come. absurd (never_later id location kept files stands (come_later result exit.0 kept.version (commits_in files) exit.1 come));
      publishes = subst (λ (done : Bool). Publishes g.S.Store (iceberg_meaning id) origin (view_of kept) (c.args.commit.now ∷ []) (Uncontested result) done s s) (sym (ap is_ok exit.1))
          (publishes_nothing g.S.Store g.met.S.Store.only_now s told id location origin kept c.args.commit.now stands settled (Uncontested result));
      came = λ come. absurd (never_later id location kept files stands (come_later result exit.0 kept.version (commits_in files) exit.1 come));
      contested = λ is. absurd (never_contested passes result exit.0 exit.1 refused is);
      kept = λ is. absurd (never_contested passes result exit.0 exit.1 refused is);
      theirs = λ is. absurd (never_contested passes result exit.0 exit.1 refused is);
      limited = λ which most is. stands.reads;
    }

pub returns-in_err-new-clause-refuses : goal.returns-in_err-new-clause-refuses
returns-in_err-new-clause-refuses g c =
    let kept = c.args.kept.now in
    let s = c.args.store.now in
    let origin : Origin = origin_of c.args.source (option_copied c.args.table) in
    let result = c.from_residual.result in
    let exit = err_from_is_err_and result c.from_residual.ensures.1 in
    let passes = Passes (end_of kept) origin c.args.now_ms (c.args.commit.now ∷ []) in
    let refused = subst (IsVersionRefusal passes) (sym exit.2) c.in_err-new.ensures.refusal in
    record {
      refusal = search rules;
      few = search rules;
      untouched = λ told which most is other. reading_begins g.S.Store g.met.S.Store.only_now s told;
      cause = no_fault g.S.Store.faults g.S.Store.may_fail s (IsErrOf result StoreFault) (never_fault passes result exit.0 exit.1 refused);
      contest = no_contest g.S.Store.contests g.S.Store.may_contest s (IsErrOf result Contested) (never_contested passes result exit.0 exit.1 refused);
    }

pub next_version-requires-clause-kinds : goal.next_version-requires-clause-kinds
next_version-requires-clause-kinds g c = kinds_stay c.args.kept.now c.args.commit.now c.requires.fits

pub publish_version-requires-clause-free : goal.publish_version-requires-clause-free
publish_version-requires-clause-free g c =
    let kept = c.args.kept.now in
    let next = c.next_version.new.kept in
    let old = c.args.store.now in
    let commit = c.args.commit.now in
    let origin : Origin = origin_of c.args.source (option_copied c.args.table) in
    let made = c.in_ok-new.new in
    let files : VersionFiles = record { version = made.version; manifests = c.as_slice-manifests.result.now; list = made.list; metadata = made.metadata } in
    let v : IsNextVersion kept origin c.args.now_ms commit files next =
    subst (λ (texts : List (List ℕ)). IsNextVersion kept origin c.args.now_ms commit (record { version = made.version; manifests = texts; list = made.list; metadata = made.metadata }) next) (sym c.as_slice-manifests.ensures.value) c.in_ok-new.ensures.is in
    λ told. subst (λ (n : ℕ). map.get (g.S.Store.disk old).files (version_path n) ≡ None) (sym (number kept next origin c.args.now_ms commit files v)) (free_path (g.S.Store.disk old).files kept.version v.within (c.requires.counted told))

pub publish_version-requires-clause-short : goal.publish_version-requires-clause-short
publish_version-requires-clause-short g c =
    let kept = c.args.kept.now in
    let next = c.next_version.new.kept in
    let commit = c.args.commit.now in
    let origin : Origin = origin_of c.args.source (option_copied c.args.table) in
    let made = c.in_ok-new.new in
    let files : VersionFiles = record { version = made.version; manifests = c.as_slice-manifests.result.now; list = made.list; metadata = made.metadata } in
    let v : IsNextVersion kept origin c.args.now_ms commit files next =
    subst (λ (texts : List (List ℕ)). IsNextVersion kept origin c.args.now_ms commit (record { version = made.version; manifests = texts; list = made.list; metadata = made.metadata }) next) (sym c.as_slice-manifests.ensures.value) c.in_ok-new.ensures.is in
    v.short

pub returns-clause-own : goal.returns-clause-own
returns-clause-own g c told =
    let made = c.in_ok-new.new in
    let files : VersionFiles = record { version = made.version; manifests = c.as_slice-manifests.result.now; list = made.list; metadata = made.metadata } in
    record {
      alone = touches_own g.S.Store files c.args.store.now c.publish_version.new.store (c.publish_version.ensures.publishes told).others;
      short = c.publish_version.ensures.short told;
    }

pub returns-clause-goes_on : goal.returns-clause-goes_on
returns-clause-goes_on g c =
    let kept = c.args.kept.now in
    let next = c.next_version.new.kept in
    let old = c.args.store.now in
    let commit = c.args.commit.now in
    let origin : Origin = origin_of c.args.source (option_copied c.args.table) in
    let made = c.in_ok-new.new in
    let files : VersionFiles = record { version = made.version; manifests = c.as_slice-manifests.result.now; list = made.list; metadata = made.metadata } in
    let v : IsNextVersion kept origin c.args.now_ms commit files next =
    subst (λ (texts : List (List ℕ)). IsNextVersion kept origin c.args.now_ms commit (record { version = made.version; manifests = texts; list = made.list; metadata = made.metadata }) next) (sym c.as_slice-manifests.ensures.value) c.in_ok-new.ensures.is in
    let new = c.publish_version.new.store in
    let r = c.publish_version.result in
    on_ok r _
    (λ is. record {
      advanced = v.advanced;
      fits = fits_behind kept next origin c.args.now_ms commit files v;
      counts = λ told. counted_now g.S.Store old new told files (Uncontested r) (IsErrOf r Contested) (is_ok r) (c.publish_version.ensures.publishes told) kept next origin c.args.now_ms commit v (c.requires.counted told) is;
      ahead = λ told. passes_behind kept next origin c.args.now_ms commit files v;
    })

pub returns-clause-publishes : goal.returns-clause-publishes
returns-clause-publishes g c told stands settled =
    let id = c.args.self.now.id in
    let location = c.args.self.now.location in
    let plain = c.args.self.now.plain in
    let kept = c.args.kept.now in
    let next = c.next_version.new.kept in
    let old = c.args.store.now in
    let commit = c.args.commit.now in
    let origin : Origin = origin_of c.args.source (option_copied c.args.table) in
    let made = c.in_ok-new.new in
    let files : VersionFiles = record { version = made.version; manifests = c.as_slice-manifests.result.now; list = made.list; metadata = made.metadata } in
    let v : IsNextVersion kept origin c.args.now_ms commit files next =
    subst (λ (texts : List (List ℕ)). IsNextVersion kept origin c.args.now_ms commit (record { version = made.version; manifests = texts; list = made.list; metadata = made.metadata }) next) (sym c.as_slice-manifests.ensures.value) c.in_ok-new.ensures.is in
    let new = c.publish_version.new.store in
    let r = c.publish_version.result in
    record {
      stands = λ come. stands_come g.S.Store old new told files (Uncontested r) (IsErrOf r Contested) (is_ok r) (c.publish_version.ensures.publishes told) kept next origin c.args.now_ms commit v id location plain c.requires.can c.requires.fits stands settled
          (done_or_later r kept.version (commits_in (g.S.Store.disk new).files) come);
      publishes = publishes_version g.S.Store old new told files (Uncontested r) (IsErrOf r Contested) (is_ok r) (c.publish_version.ensures.publishes told) kept next origin c.args.now_ms commit v id location plain c.requires.can c.requires.fits stands settled;
      came = λ come. as_left g.S.Store old new told files (Uncontested r) (IsErrOf r Contested) (is_ok r) (c.publish_version.ensures.publishes told) kept next origin c.args.now_ms commit v id location plain c.requires.can c.requires.fits stands settled
          (done_or_later r kept.version (commits_in (g.S.Store.disk new).files) come);
      contested = λ is. count_contested g.S.Store old new told files (Uncontested r) (IsErrOf r Contested) (is_ok r) (c.publish_version.ensures.publishes told) kept next origin c.args.now_ms commit v id location plain c.requires.can c.requires.fits stands settled is;
      kept = λ is. kept_contested g.S.Store old new told files (Uncontested r) (IsErrOf r Contested) (is_ok r) (c.publish_version.ensures.publishes told) kept next origin c.args.now_ms commit v id location plain c.requires.can c.requires.fits stands settled is;
      theirs = λ is. theirs_contested g.S.Store old new told files (Uncontested r) (IsErrOf r Contested) (is_ok r) (c.publish_version.ensures.publishes told) kept next origin c.args.now_ms commit v id location plain c.requires.can c.requires.fits stands settled is;
      limited = λ which most is. absurd (never_limited r c.publish_version.ensures.refusal which most is);
    }

pub returns-clause-writes : goal.returns-clause-writes
returns-clause-writes g c told stands =
    let id = c.args.self.now.id in
    let location = c.args.self.now.location in
    let kept = c.args.kept.now in
    let next = c.next_version.new.kept in
    let old = c.args.store.now in
    let commit = c.args.commit.now in
    let origin : Origin = origin_of c.args.source (option_copied c.args.table) in
    let made = c.in_ok-new.new in
    let files : VersionFiles = record { version = made.version; manifests = c.as_slice-manifests.result.now; list = made.list; metadata = made.metadata } in
    let v : IsNextVersion kept origin c.args.now_ms commit files next =
    subst (λ (texts : List (List ℕ)). IsNextVersion kept origin c.args.now_ms commit (record { version = made.version; manifests = texts; list = made.list; metadata = made.metadata }) next) (sym c.as_slice-manifests.ensures.value) c.in_ok-new.ensures.is in
    let new = c.publish_version.new.store in
    let r = c.publish_version.result in
    on_ok r _ (writes_now g.S.Store old new told files (Uncontested r) (IsErrOf r Contested) (is_ok r) (c.publish_version.ensures.publishes told) kept next origin c.args.now_ms commit v id location stands)

pub returns-clause-refuses : goal.returns-clause-refuses
returns-clause-refuses g c = record {
  refusal = search rules;
  few = search rules;
  untouched = λ told which most is other. absurd (never_limited c.publish_version.result c.publish_version.ensures.refusal which most is);
  cause = c.publish_version.ensures.cause;
  contest = c.publish_version.ensures.contest;
}
