use Rattle.std.proofs.Common.{◌≡◌, ◌∙◌, List, Option, Result, Contains, ap, subst, sym}
use Rattle.std.specs.Prelude.{IfErr, IfOk}
use Rattle.std.proofs.lemmas.Result.{err_from_is_err_and}
use Rattle.lake_store.specs.Disk.{Disk, names_in}
use Rattle.lake_store.proofs.RunLaws as runs
use Rattle.hudi_table.specs.Files.{SaysProperties}
use Rattle.hudi_table.specs.Instants.{instants_in}
use Rattle.hudi_table.specs.declared.instants.CompletedInstant.{CompletedInstant}
use Rattle.hudi_table.specs.declared.instants.InstantName.{InstantName}
use Rattle.hudi_table.specs.declared.timeline.Timeline.{Timeline}
use Rattle.hudi_commit.specs.Names.{timeline_folder}
use Rattle.target_hudi.specs.InspectSteps.{IsFound, IsOwnTimeline, IsStopIn}
use Rattle.target_hudi.specs.Reading.{HasOwnNames, HasOwnProperties}
use Rattle.target_hudi.specs.declared.kept.HudiKept.{HudiKept}
use Rattle.target_hudi.specs.declared.stop.Stop.{Stop}
use Rattle.target_hudi.proofs.SeenLemmas.{empty_absent, real_times}
use Rattle.target_hudi.proofs.inspect.read_target.Goals as goal

pub returns-in_err-properties-clause-stop : goal.returns-in_err-properties-clause-stop
returns-in_err-properties-clause-stop g c = λ told.
    let store = g.S.Store in
    let exit = err_from_is_err_and c.from_residual-in_err-properties.result c.from_residual-in_err-properties.ensures.1 in
    let source = c.args.source in
    let files = (store.disk c.args.store.now).files in
    let e = c.in_err-properties.field-0.0 in
    let stops = subst (λ (d : Disk). IsStopIn source d.files e) (c.in_ok-timeline.ensures.only_reads told).disk (c.in_err-properties.ensures.stop source told) in
    subst (λ (r : Result (Option HudiKept) Stop). IfErr r (IsStopIn source files)) (sym exit.1) (subst (IsStopIn source files) (sym exit.2) stops)

pub returns-in_err-properties-clause-only_reads : goal.returns-in_err-properties-clause-only_reads
returns-in_err-properties-clause-only_reads g c = runs.reading_further g.S.Store c.args.store.now c.list_timeline.new.store c.read_own_properties.new.store c.in_ok-timeline.ensures.only_reads c.in_err-properties.ensures.only_reads

pub returns-in_default-clause-found : goal.returns-in_default-clause-found
returns-in_default-clause-found g c = λ told.
    let store = g.S.Store in
    let files = (store.disk c.args.store.now).files in
    let found = rw c.in_default.is at (c.in_ok-properties.ensures.found told) in
    let own = subst (λ (d : Disk). HasOwnProperties d.files) (c.in_ok-timeline.ensures.only_reads told).disk found.0 in
    let listed : c.as_slice-instants.result.now ≡ instants_in (names_in files timeline_folder) = c.as_slice-instants.ensures ∙ ap (λ (t : Timeline). t.instants) (c.in_ok-timeline.ensures.found told) in
    empty_absent files own (sym listed ∙ found.1)

pub returns-in_err-check_names-clause-stop : goal.returns-in_err-check_names-clause-stop
returns-in_err-check_names-clause-stop g c = λ told.
    let store = g.S.Store in
    let exit = err_from_is_err_and c.from_residual-in_err-check_names.result c.from_residual-in_err-check_names.ensures.1 in
    let source = c.args.source in
    let files = (store.disk c.args.store.now).files in
    let e = c.in_err-check_names.field-0.0 in
    let same = (c.in_ok-properties.ensures.only_reads told).disk ∙ (c.in_ok-timeline.ensures.only_reads told).disk in
    let stops = subst (λ (d : Disk). IsStopIn source d.files e) same (c.in_err-check_names.ensures.stop source told) in
    subst (λ (r : Result (Option HudiKept) Stop). IfErr r (IsStopIn source files)) (sym exit.1) (subst (IsStopIn source files) (sym exit.2) stops)

pub returns-in_err-check_names-clause-only_reads :
    goal.returns-in_err-check_names-clause-only_reads
returns-in_err-check_names-clause-only_reads g c =
    let store = g.S.Store in
    let first = c.args.store.now in
    let second = c.list_timeline.new.store in
    let third = c.read_own_properties.new.store in
    runs.reading_further store first third c.check_names.new.store
    (runs.reading_further store first second third c.in_ok-timeline.ensures.only_reads c.in_ok-properties.ensures.only_reads)
    c.in_err-check_names.ensures.only_reads

pub read_commits-requires-clause-own : goal.read_commits-requires-clause-own
read_commits-requires-clause-own g c = λ told.
    let store = g.S.Store in
    let files = (store.disk c.args.store.now).files in
    let p = c.in-Some.properties in
    let completed = c.as_slice-completed.result.now in
    let one = (c.in_ok-timeline.ensures.only_reads told).disk in
    let two = (c.in_ok-properties.ensures.only_reads told).disk ∙ one in
    let three = (c.in_ok-check_names.ensures.only_reads told).disk ∙ two in
    let found = rw c.in-Some.is at (c.in_ok-properties.ensures.found told) in
    let own : IsOwnTimeline files p completed = record {
      properties = subst (λ (d : Disk). HasOwnProperties d.files) one found.0;
      names = subst (λ (d : Disk). HasOwnNames d.files) two (c.in_ok-check_names.ensures.own told);
      says = subst (λ (d : Disk). SaysProperties d.files p) one found.1;
      are = c.as_slice-completed.ensures ∙ ap (λ (t : Timeline). t.completed) (c.in_ok-timeline.ensures.found told);
    } in
    subst (λ (d : Disk). IsOwnTimeline d.files p completed) (sym three) own

pub read_commits-requires-clause-times : goal.read_commits-requires-clause-times
read_commits-requires-clause-times g c = λ x within.
    real_times c.in_ok-timeline.timeline c.in_ok-timeline.ensures.of_names
    (λ i there. c.in_ok-check_names.ensures.form i (subst (λ (l : List InstantName). Contains l i) (sym c.as_slice-instants.ensures) there))
    x (subst (λ (l : List CompletedInstant). Contains l x) c.as_slice-completed.ensures within)

pub returns-clause-found : goal.returns-clause-found
returns-clause-found g c = λ told.
    let same = (c.in_ok-check_names.ensures.only_reads told).disk ∙ (c.in_ok-properties.ensures.only_reads told).disk ∙ (c.in_ok-timeline.ensures.only_reads told).disk in
    subst (λ (d : Disk). IfOk c.read_commits.result (IsFound c.args.source d.files)) same (c.read_commits.ensures.found told)

pub returns-clause-stop : goal.returns-clause-stop
returns-clause-stop g c = λ told.
    let same = (c.in_ok-check_names.ensures.only_reads told).disk ∙ (c.in_ok-properties.ensures.only_reads told).disk ∙ (c.in_ok-timeline.ensures.only_reads told).disk in
    subst (λ (d : Disk). IfErr c.read_commits.result (IsStopIn c.args.source d.files)) same (c.read_commits.ensures.stop told)

pub returns-clause-only_reads : goal.returns-clause-only_reads
returns-clause-only_reads g c =
    let store = g.S.Store in
    let first = c.args.store.now in
    let second = c.list_timeline.new.store in
    let third = c.read_own_properties.new.store in
    let fourth = c.check_names.new.store in
    runs.reading_further store first fourth c.read_commits.new.store
    (runs.reading_further store first third fourth
    (runs.reading_further store first second third c.in_ok-timeline.ensures.only_reads c.in_ok-properties.ensures.only_reads)
    c.in_ok-check_names.ensures.only_reads)
    c.read_commits.ensures.only_reads
