use Rattle.std.proofs.Common.{ℕ, List, sym, subst}
use Rattle.std.specs.Prelude.{◌↔◌, IfOk, IsTrue}
use Rattle.lake_basics.specs.declared.limits.TheConstants.{MAX_COMMITS}
use Rattle.lake_store.specs.Disk.{Disk}
use Rattle.lake_store.proofs.RunLaws.{reading_begins, reading_further, reading_steps}
use Rattle.delta_table.specs.Versions.{AreVersions, HasVersion, IsNamed}
use Rattle.target_core.specs.SeenView.{IsSeen}
use Rattle.target_delta.specs.Inspecting.{IsForeign}
use Rattle.target_delta.specs.InspectSteps.{IsNewest, IsSeenIn}
use Rattle.target_delta.specs.Kept.{StandsFor, view_of}
use Rattle.target_delta.specs.Reading.{Reads}
use Rattle.target_delta.specs.declared.kept.DeltaKept.{DeltaKept}
use Rattle.target_delta.proofs.StrayLemmas.{newest_here, unpublished_here, version_here}
use Rattle.target_delta.proofs.inspect.inspect.Goals as goal

pub returns-in-None-clause-seen : goal.returns-in-None-clause-seen
returns-in-None-clause-seen g c = λ id told.
    let files = (g.S.Store.disk c.args.store.now).files in
    let none = rw c.in-None.is at c.in_ok-versions_of.ensures in
    unpublished_here files c.in-Ok.names (c.in-Ok.ensures.listed told) (subst (λ (l : List (List ℕ)). (w : ℕ) → ¬ IsNamed l w) c.as_slice.ensures.value none) c.args.source (λ (kept : DeltaKept). StandsFor id kept files) c.in_ok-unpublished-in-None.field-0
    (subst (λ (l : List (List ℕ)). IsSeenIn l c.in_ok-unpublished-in-None.field-0) c.as_slice-in-None.ensures.value c.in_ok-unpublished-in-None.ensures)

pub inspect_log-requires-clause-newest : goal.inspect_log-requires-clause-newest
inspect_log-requires-clause-newest g c = λ told.
    let files = (g.S.Store.disk c.args.store.now).files in
    let versions = rw c.in-Some.is at c.in_ok-versions_of.ensures in
    subst (λ (d : Disk). IsNewest d.files c.in-Some.versions.newest) (sym (c.list.ensures.same told))
    (newest_here files c.in-Ok.names (c.in-Ok.ensures.listed told) c.in-Some.versions (subst (λ (l : List (List ℕ)). AreVersions (IsNamed l) c.in-Some.versions) c.as_slice.ensures.value versions))

pub inspect_log-requires-clause-longer : goal.inspect_log-requires-clause-longer
inspect_log-requires-clause-longer g c = λ told.
    let files = (g.S.Store.disk c.args.store.now).files in
    let longer = c.names_version-longer.result in
    let named = subst (λ (l : List (List ℕ)). IsTrue longer ↔ IsNamed l MAX_COMMITS) c.as_slice-in-Some.ensures.value c.names_version-longer.ensures in
    subst (λ (d : Disk). IsTrue longer ↔ HasVersion d.files MAX_COMMITS) (sym (c.list.ensures.same told))
    (version_here files c.in-Ok.names (c.in-Ok.ensures.listed told) MAX_COMMITS longer named)

pub returns-clause-seen : goal.returns-clause-seen
returns-clause-seen g c = λ id told.
    subst (λ (d : Disk). IfOk c.inspect_log.result (IsSeen (Reads d.files) (IsForeign c.args.source d.files) view_of (λ (kept : DeltaKept). StandsFor id kept d.files) c.args.source)) (c.list.ensures.same told) (c.inspect_log.ensures.seen id told)

pub returns-clause-only_reads : goal.returns-clause-only_reads
returns-clause-only_reads g c =
    let store = g.S.Store in
    let old = c.args.store.now in
    let listed = reading_steps store old old c.list.new.self (reading_begins store g.met.S.Store.only_now old) c.list.ensures.same c.list.ensures.elapses in
    reading_further store old c.list.new.self c.inspect_log.new.store listed c.inspect_log.ensures.only_reads
