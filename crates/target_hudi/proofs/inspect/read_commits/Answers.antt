use Rattle.std.proofs.Common.{◌≡◌, ◌-◌, ◌<◌, Some, List, length, slice_get, subst, sym, ℕ}
use Rattle.target_core.specs.Conditions.{IsPublishable}
use Rattle.hudi_names.specs.Time.{IsSomeTime}
use Rattle.target_hudi.specs.InspectSteps.{IsKeptOf}
use Rattle.target_hudi.proofs.SeenLemmas.{held_table, kept_found, kept_source, last_split, last_within, publishable, some_length}
use Rattle.target_hudi.proofs.inspect.read_commits.Goals as goal

pub kept_of-requires-clause-real : goal.kept_of-requires-clause-real
kept_of-requires-clause-real g c =
    let completed = c.args.completed.now in
    let last = c.in-Some.last.now in
    let at : slice_get completed (length completed - 1) ≡ Some last = sym c.in-Some.ensures.value in
    subst IsSomeTime (sym c.in_ok-time.ensures) (c.requires.times last (last_within completed last at))

pub kept_of-requires-clause-rows : goal.kept_of-requires-clause-rows
kept_of-requires-clause-rows g c =
    let sound = rw c.in-Some-2.is at c.in_ok-read_instants.ensures.sound in
    held_table c.args.properties.now.table c.in-Some-2.newest.latest.table sound.0

pub returns-in-Some-2-clause-found : goal.returns-in-Some-2-clause-found
returns-in-Some-2-clause-found g c = λ told.
    let files = (g.S.Store.disk c.args.store.now).files in
    let completed = c.args.completed.now in
    let last = c.in-Some.last.now in
    let newest = c.in-Some-2.newest in
    let kept = c.kept_of.result in
    let at : slice_get completed (length completed - 1) ≡ Some last = sym c.in-Some.ensures.value in
    let split = last_split completed last at in
    let read = rw c.in-Some-2.is at (c.in_ok-read_instants.ensures.found told) in
    let sound = rw c.in-Some-2.is at c.in_ok-read_instants.ensures.sound in
    let k = subst (λ (t : List ℕ). IsKeptOf newest (length completed) t kept) c.in_ok-time.ensures c.kept_of.ensures in
    (kept_found c.args.source files c.args.properties.now completed (c.requires.own told) newest read split.0 last split.1 kept k, kept_source c.args.source newest (length completed) last.time kept k sound.1)

pub returns-in-Some-2-clause-sound : goal.returns-in-Some-2-clause-sound
returns-in-Some-2-clause-sound g c =
    let completed = c.args.completed.now in
    let last = c.in-Some.last.now in
    let newest = c.in-Some-2.newest in
    let kept = c.kept_of.result in
    let sound = rw c.in-Some-2.is at c.in_ok-read_instants.ensures.sound in
    let at : slice_get completed (length completed - 1) ≡ Some last = sym c.in-Some.ensures.value in (
      subst (λ n. 0 < n) (sym c.kept_of.ensures.commits_are) (some_length completed last at),
      subst IsPublishable (sym c.kept_of.ensures.table) (publishable c.args.properties.now.table newest.latest.table sound.0),
      kept_source c.args.source newest (length completed) c.in_ok-time.time kept c.kept_of.ensures sound.1,
    )
