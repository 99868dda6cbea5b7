use Rattle.std.proofs.Common.{◌≡◌, inl, inr, ◌<◌, ◌≤◌, ℕ, List, length, Contains, Result, refl, sym, subst, arith}
use Rattle.std.specs.Prelude.{◌↔◌, IfErr}
use Rattle.std.specs.List.Sorted.{IsStrictlySortedBy}
use Rattle.std.specs.Ordering.{nat_cmp}
use Rattle.std.proofs.lemmas.Result.{err_from_is_err_and}
use Rattle.lake_basics.specs.declared.limits.TheConstants.{MAX_ACTIONS, MAX_COMMITS}
use Rattle.lake_store.specs.Disk.{Files, names_in}
use Rattle.iceberg_table.specs.Folder.{HasVersion, IsNamed, metadata_folder}
use Rattle.lake_sweep.specs.Reading.{HasReadVersions}
use Rattle.lake_sweep.specs.Refusals.{HasCause, HasFewVersions, IsReachRefused}
use Rattle.lake_sweep.specs.Versions.{IsFirstRefused}
use Rattle.lake_sweep.specs.declared.error.SweepError.{SweepError}
use Rattle.lake_sweep.specs.declared.reached.Reached.{Reached}
use Rattle.lake_sweep.proofs.ReachLaws.{all_read, counted, versions_counted, whole}
use Rattle.lake_sweep.proofs.CauseLaws.{cause_weaker}
use Rattle.lake_sweep.proofs.iceberg.reached_by.Goals as goal

abbrev AreOf : Files → List ℕ → Type 0
AreOf files versions = (v : ℕ) → Contains versions v ↔ HasVersion files v

-- the versions that the names are of are those of the folder
all_of : (files : Files) (names : List (List ℕ)) (versions : List ℕ) → names ≡ names_in files metadata_folder → ((v : ℕ) → Contains versions v ↔ IsNamed names v) → AreOf files versions
all_of files names versions is members v = subst (λ (l : List (List ℕ)). Contains versions v ↔ IsNamed l v) is (members v)

pub read_reached-requires-clause-rising : goal.read_reached-requires-clause-rising
read_reached-requires-clause-rising g c = subst (λ (l : List ℕ). IsStrictlySortedBy nat_cmp l) (sym c.as_slice.ensures.value) c.in_ok-versions.ensures.rising

pub read_reached-requires-clause-all : goal.read_reached-requires-clause-all
read_reached-requires-clause-all g c told =
    let files = (g.S.Store.disk c.args.store.now).files in
    subst (AreOf files) (sym c.as_slice.ensures.value) (all_of files c.args.names.now c.in_ok-versions.versions.items (c.requires.names told) c.in_ok-versions.ensures.members)

pub returns-then-len-gt-MAX_COMMITS-clause-refused : goal.returns-then-len-gt-MAX_COMMITS-clause-refused
returns-then-len-gt-MAX_COMMITS-clause-refused g c told =
    let files = (g.S.Store.disk c.args.store.now).files in
    let versions = c.in_ok-versions.versions.items in
    let all = all_of files c.args.names.now versions (c.requires.names told) c.in_ok-versions.ensures.members in
    let count = c.len.ensures in
    let more = c.if-len-gt-MAX_COMMITS.true in
    let past : MAX_COMMITS < length versions = omega (arith, count, more) in
    inl (length versions, versions_counted files versions c.in_ok-versions.ensures.rising all, past, refl)

pub returns-in_err-reached-clause-refused : goal.returns-in_err-reached-clause-refused
returns-in_err-reached-clause-refused g c told =
    let files = (g.S.Store.disk c.args.store.now).files in
    let versions = c.in_ok-versions.versions.items in
    let all = all_of files c.args.names.now versions (c.requires.names told) c.in_ok-versions.ensures.members in
    let count = c.len.ensures in
    let within = c.if-len-gt-MAX_COMMITS.false in
    let short : length versions ≤ MAX_COMMITS = omega (arith, count, within) in
    let few : HasFewVersions files = (length versions, versions_counted files versions c.in_ok-versions.ensures.rising all, short) in
    let P : SweepError → Type 0 = IsFirstRefused files in
    let Q : SweepError → Type 0 = IsReachRefused files in
    let exit = err_from_is_err_and c.from_residual-in_err-reached.result c.from_residual-in_err-reached.ensures.1 in
    subst (λ (r : Result Reached SweepError). IfErr r (HasCause Q)) (sym exit.1)
    (cause_weaker P Q (λ e refused. inr (inl (few, refused))) exit.0 (subst (HasCause P) (sym exit.2) (c.in_err-reached.ensures.refused told)))

pub returns-then-len-gt-MAX_ACTIONS-clause-refused : goal.returns-then-len-gt-MAX_ACTIONS-clause-refused
returns-then-len-gt-MAX_ACTIONS-clause-refused g c told =
    let files = (g.S.Store.disk c.args.store.now).files in
    let versions = c.in_ok-versions.versions.items in
    let r = c.in_ok-reached.reached in
    let all = all_of files c.args.names.now versions (c.requires.names told) c.in_ok-versions.ensures.members in
    let count = c.len.ensures in
    let within = c.if-len-gt-MAX_COMMITS.false in
    let short : length versions ≤ MAX_COMMITS = omega (arith, count, within) in
    let few : HasFewVersions files = (length versions, versions_counted files versions c.in_ok-versions.ensures.rising all, short) in
    let has = subst (λ (l : List ℕ). HasReadVersions files l r) c.as_slice.ensures.value (c.in_ok-reached.ensures.read told) in
    inr (inr (few, all_read files versions r has all, (length r.paths.keys, counted files versions r has all, subst (λ (k : ℕ). MAX_ACTIONS < k) c.len-2.ensures c.if-len-gt-MAX_ACTIONS.true, refl)))

pub returns-clause-whole : goal.returns-clause-whole
returns-clause-whole g c told =
    let files = (g.S.Store.disk c.args.store.now).files in
    let versions = c.in_ok-versions.versions.items in
    let r = c.in_ok-reached.reached in
    let all = all_of files c.args.names.now versions (c.requires.names told) c.in_ok-versions.ensures.members in
    whole files versions r (subst (λ (l : List ℕ). HasReadVersions files l r) c.as_slice.ensures.value (c.in_ok-reached.ensures.read told)) all

pub returns-clause-readable : goal.returns-clause-readable
returns-clause-readable g c told =
    let files = (g.S.Store.disk c.args.store.now).files in
    let versions = c.in_ok-versions.versions.items in
    let r = c.in_ok-reached.reached in
    let all = all_of files c.args.names.now versions (c.requires.names told) c.in_ok-versions.ensures.members in
    let count = c.len.ensures in
    let within = c.if-len-gt-MAX_COMMITS.false in
    let short : length versions ≤ MAX_COMMITS = omega (arith, count, within) in
    let few : HasFewVersions files = (length versions, versions_counted files versions c.in_ok-versions.ensures.rising all, short) in
    let has = subst (λ (l : List ℕ). HasReadVersions files l r) c.as_slice.ensures.value (c.in_ok-reached.ensures.read told) in
    (few, all_read files versions r has all, (length r.paths.keys, counted files versions r has all, subst (λ (k : ℕ). k ≤ MAX_ACTIONS) c.len-2.ensures c.if-len-gt-MAX_ACTIONS.false))
