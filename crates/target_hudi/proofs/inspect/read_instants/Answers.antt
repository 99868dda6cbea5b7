use Rattle.std.proofs.Common.{◌≡◌, ◌∙◌, ◌+◌, ◌++◌, ◌∷◌, [], List, ℕ, ◌<◌, length, get_or, Option, Result, Contains, Some, ap, drop, subst, sym, take}
use Rattle.std.specs.Prelude.{IfErr}
use Rattle.std.proofs.lemmas.List.{drop_more, take-append-drop, take_all, take_more}
use Rattle.std.proofs.lemmas.List.Elements.{Contains-append_right}
use Rattle.std.proofs.lemmas.Result.{err_from_is_err_and}
use Rattle.lake_store.specs.Disk.{Disk, Files}
use Rattle.lake_store.proofs.RunLaws as runs
use Rattle.table_history.proofs.RowListLemmas.{Contains-head}
use Rattle.hudi_table.specs.Instants.{path_of}
use Rattle.hudi_table.specs.declared.instants.CompletedInstant.{CompletedInstant}
use Rattle.hudi_table.proofs.Runs.{fails_never, uncontested_further}
use Rattle.hudi_commit.specs.Names.{IsThere}
use Rattle.target_hudi.specs.Inspecting.{IsReadUpTo}
use Rattle.target_hudi.specs.InspectSteps.{IsInstantStop, IsNextOurs, IsOurReading, IsStopIn, latest_in}
use Rattle.target_hudi.specs.InstantLemmas.{named}
use Rattle.target_hudi.specs.declared.inspect.Newest.{Newest}
use Rattle.target_hudi.specs.declared.stop.Stop.{Stop}
use Rattle.target_hudi.proofs.SeenLemmas.{instant_stop, read_more}
use Rattle.target_hudi.proofs.inspect.read_instants.Goals as goal

-- the list about one of its items
split_at : (xs : List CompletedInstant) (i : ℕ) (x : CompletedInstant) → i < length xs → x ≡ get_or xs i x → xs ≡ take i xs ++ x ∷ drop (i + 1) xs
split_at xs i x within is = sym (take-append-drop i xs) ∙ ap (λ l. take i xs ++ l) (drop_more xs i x within ∙ ap (λ y. y ∷ drop (i + 1) xs) (sym is))

within_split : (xs front : List CompletedInstant) (x : CompletedInstant) (behind : List CompletedInstant) → xs ≡ front ++ x ∷ behind → Contains xs x
within_split xs front x behind split = subst (λ (l : List CompletedInstant). Contains l x) (sym split) (Contains-append_right front (x ∷ behind) x (Contains-head x behind))

pub read_instant-requires : goal.read_instant-requires
read_instant-requires g c = λ told.
    let store = g.S.Store in
    let files = (store.disk c.args.store.now).files in
    let completed = c.args.completed.now in
    let i = c.loop-instant.instant-index in
    let x = c.instant-item.result in
    let split = split_at completed i x c.loop-instant-test.true c.instant-item.is in
    let own = c.requires told in
    let there = (named files x (subst (λ (l : List CompletedInstant). Contains l x) own.are (within_split completed (take i completed) x (drop (i + 1) completed) split))).there in
    subst (λ (d : Disk). IsThere d.files (path_of x.name)) (sym (c.loop-instant.invariant.reads told).disk) there

pub returns-in_err-read_instant-clause-stop : goal.returns-in_err-read_instant-clause-stop
returns-in_err-read_instant-clause-stop g c = λ told.
    let store = g.S.Store in
    let exit = err_from_is_err_and c.from_residual.result c.from_residual.ensures.1 in
    let so_far = c.loop-instant.invariant in
    let files = (store.disk c.args.store.now).files in
    let source = c.args.source in
    let p = c.args.properties.now in
    let completed = c.args.completed.now in
    let i = c.loop-instant.instant-index in
    let x = c.instant-item.result in
    let e = c.in_err-read_instant.field-0.0 in
    let own = c.requires told in
    let read = so_far.read told in
    let same : (store.disk c.loop-instant.store).files ≡ files = ap (λ (d : Disk). d.files) (so_far.reads told).disk in
    let stops = subst (λ (f : Files). IsInstantStop source f p x (latest_in c.loop-instant.newest) e) same (c.in_err-read_instant.ensures.stop told) in
    let before : IsReadUpTo source files p x (latest_in c.loop-instant.newest) = record {
      properties = own.properties;
      names = own.names;
      says = own.says;
      front = take i completed;
      behind = drop (i + 1) completed;
      split = sym own.are ∙ split_at completed i x c.loop-instant-test.true c.instant-item.is;
      read = read.read;
      marked = read.marked;
    } in
    subst (λ (r : Result (Option Newest) Stop). IfErr r (IsStopIn source files)) (sym exit.1)
    (subst (IsStopIn source files) (sym exit.2) (instant_stop source files p x (latest_in c.loop-instant.newest) before e stops))

pub returns-in_err-read_instant-clause-only_reads : goal.returns-in_err-read_instant-clause-only_reads
returns-in_err-read_instant-clause-only_reads g c = runs.reading_further g.S.Store c.args.store.now c.loop-instant.store c.read_instant.new.store c.loop-instant.invariant.reads c.in_err-read_instant.ensures.only_reads

pub loop-instant-preserved : goal.loop-instant-preserved
loop-instant-preserved g c =
    let store = g.S.Store in
    let so_far = c.loop-instant.invariant in
    let old = c.args.store.now in
    let mid = c.loop-instant.store in
    let new = c.read_instant.new.store in
    let files = (store.disk old).files in
    let source = c.args.source in
    let p = c.args.properties.now in
    let completed = c.args.completed.now in
    let i = c.loop-instant.instant-index in
    let x = c.instant-item.result in
    let before = c.loop-instant.newest in
    let next = c.in_ok-read_instant.field-0 in
    record {
      sound = c.in_ok-read_instant.ensures.sound so_far.sound;
      read = λ told.
          let step = subst (λ (d : Disk). IsNextOurs source d.files p x before next) (so_far.reads told).disk (c.in_ok-read_instant.ensures.found told) in
          let longer : take i completed ++ x ∷ [] ≡ take (i + 1) completed = ap (λ y. take i completed ++ y ∷ []) c.instant-item.is ∙ sym (take_more completed i x c.loop-instant-test.true) in
          subst (λ (l : List CompletedInstant). IsOurReading source files p l (Some next)) longer (read_more source files p (take i completed) before x next (so_far.read told) step);
      reads = runs.reading_further store old mid new so_far.reads c.in_ok-read_instant.ensures.only_reads;
      cause = fails_never store.faults store.may_fail old mid new _ so_far.cause c.in_ok-read_instant.ensures.cause;
      contest = uncontested_further store.contests store.may_contest old mid new so_far.contest c.in_ok-read_instant.ensures.contest;
    }

pub returns-clause-found : goal.returns-clause-found
returns-clause-found g c = λ told.
    let files = (g.S.Store.disk c.args.store.now).files in
    let completed = c.args.completed.now in
    subst (λ (l : List CompletedInstant). IsOurReading c.args.source files c.args.properties.now l c.loop-instant.newest) (take_all c.loop-instant.instant-index completed c.loop-instant-test.false) (c.loop-instant.invariant.read told)
