use Rattle.std.proofs.Common.{◌≡◌, ◌∙◌, ◌+◌, ◌++◌, ◌∷◌, List, Result, Contains, ap, drop, subst, sym, take}
use Rattle.std.specs.Prelude.{IfErr, IfSome}
use Rattle.std.proofs.lemmas.List.{drop_more, take-append-drop, take_all}
use Rattle.std.proofs.lemmas.List.Elements.{Contains-append_right}
use Rattle.std.proofs.lemmas.Result.{err_from_is_err_and}
use Rattle.lake_store.specs.Disk.{Disk, Files, names_in}
use Rattle.lake_store.proofs.RunLaws as runs
use Rattle.table_history.proofs.RowListLemmas.{Contains-head}
use Rattle.hudi_table.specs.Instants.{instants_in}
use Rattle.hudi_table.specs.declared.instants.InstantName.{InstantName}
use Rattle.hudi_table.proofs.FolderLaws.{instant_says}
use Rattle.hudi_table.proofs.Runs.{fails_never, uncontested_further}
use Rattle.hudi_commit.specs.Names.{claims_folder, timeline_folder}
use Rattle.target_core.proofs.Lists.{one_more}
use Rattle.target_hudi.specs.InspectSteps.{HasOwnForm, IsNameStop, IsOwnInstant, IsStopIn}
use Rattle.target_hudi.specs.declared.stop.Stop.{Stop}
use Rattle.target_hudi.proofs.SeenLemmas.{name_stop}
use Rattle.target_hudi.proofs.OwnNameLemmas.{own_names}
use Rattle.target_hudi.proofs.own_names.check_names.Goals as goal

pub returns-in_err-claims-clause-stop : goal.returns-in_err-claims-clause-stop
returns-in_err-claims-clause-stop g c = λ source told.
    let store = g.S.Store in
    let exit = err_from_is_err_and c.from_residual.result c.from_residual.ensures.1 in
    let so_far = c.loop-instant.invariant in
    let files = (store.disk c.args.store.now).files in
    let instants = c.args.instants.now in
    let i = c.loop-instant.instant-index in
    let x = c.instant-item.result in
    let e = c.in_err-claims.field-0.0 in
    let same : (store.disk c.loop-instant.store).files ≡ files = ap (λ (d : Disk). d.files) (so_far.reads told).disk in
    let split : instants ≡ take i instants ++ x ∷ drop (i + 1) instants =
    sym (take-append-drop i instants) ∙ ap (λ l. take i instants ++ l) (drop_more instants i x c.loop-instant-test.true ∙ ap (λ y. y ∷ drop (i + 1) instants) (sym c.instant-item.is)) in
    let listed = c.requires.listed told in
    let there : Contains (instants_in (names_in files timeline_folder)) x = subst (λ (l : List InstantName). Contains l x) (sym split ∙ listed) (Contains-append_right (take i instants) (x ∷ drop (i + 1) instants) x (Contains-head x (drop (i + 1) instants))) in
    let stops = subst (λ (f : Files). IsNameStop f x e) same (c.in_err-claims.ensures.stop told) in
    subst (λ (r : Result Unit Stop). IfErr r (IsStopIn source files)) (sym exit.1)
    (subst (IsStopIn source files) (sym exit.2)
    (name_stop source files (take i instants) x (drop (i + 1) instants) (sym listed ∙ split) (so_far.own told) (instant_says (names_in files timeline_folder) x there) (c.requires.properties told) e stops))

pub returns-in_err-claims-clause-only_reads : goal.returns-in_err-claims-clause-only_reads
returns-in_err-claims-clause-only_reads g c = runs.reading_further g.S.Store c.args.store.now c.loop-instant.store c.check_name.new.store c.loop-instant.invariant.reads c.in_err-claims.ensures.only_reads

pub loop-instant-preserved : goal.loop-instant-preserved
loop-instant-preserved g c =
    let store = g.S.Store in
    let so_far = c.loop-instant.invariant in
    let old = c.args.store.now in
    let mid = c.loop-instant.store in
    let new = c.check_name.new.store in
    let files = (store.disk old).files in
    let instants = c.args.instants.now in
    let i = c.loop-instant.instant-index in
    let x = c.instant-item.result in
    record {
      names = λ told. subst (λ (d : Disk). IfSome c.in_ok-claims.claims (λ names. names ≡ names_in d.files claims_folder)) (so_far.reads told).disk (c.in_ok-claims.ensures.names told);
      form = one_more HasOwnForm instants i x c.loop-instant-test.true c.instant-item.is so_far.form c.in_ok-claims.ensures.form;
      own = λ told. one_more (IsOwnInstant files) instants i x c.loop-instant-test.true c.instant-item.is (so_far.own told) (subst (λ (d : Disk). IsOwnInstant d.files x) (so_far.reads told).disk (c.in_ok-claims.ensures.own told));
      reads = runs.reading_further store old mid new so_far.reads c.in_ok-claims.ensures.only_reads;
      cause = fails_never store.faults store.may_fail old mid new _ so_far.cause c.in_ok-claims.ensures.cause;
      contest = uncontested_further store.contests store.may_contest old mid new so_far.contest c.in_ok-claims.ensures.contest;
    }

pub returns-clause-own : goal.returns-clause-own
returns-clause-own g c = λ told.
    let files = (g.S.Store.disk c.args.store.now).files in
    let instants = c.args.instants.now in
    let all : take c.loop-instant.instant-index instants ≡ instants = take_all c.loop-instant.instant-index instants c.loop-instant-test.false in
    own_names files (λ j there. c.loop-instant.invariant.own told j (subst (λ (l : List InstantName). Contains l j) (sym (c.requires.listed told) ∙ sym all) there))

pub returns-clause-form : goal.returns-clause-form
returns-clause-form g c = λ i there.
    let instants = c.args.instants.now in
    let all : take c.loop-instant.instant-index instants ≡ instants = take_all c.loop-instant.instant-index instants c.loop-instant-test.false in
    c.loop-instant.invariant.form i (subst (λ (l : List InstantName). Contains l i) (sym all) there)
