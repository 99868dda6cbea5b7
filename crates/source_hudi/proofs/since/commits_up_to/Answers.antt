use Rattle.std.proofs.Common.{◌≡◌, ◌∙◌, List, Some, None, ap, refl, subst, sym}
use Rattle.std.specs.Prelude.{IfErr, IfOk, find}
use Rattle.std.proofs.lemmas.Bool.{false≢true}
use Rattle.lake_store.specs.Disk.{names_in}
use Rattle.hudi_table.specs.Instants.{instants_in, timeline_folder, up_to_head}
use Rattle.hudi_table.specs.declared.instants.CompletedInstant.{CompletedInstant}
use Rattle.hudi_table.specs.declared.instants.InstantName.{InstantName}
use Rattle.hudi_table.specs.declared.timeline.Timeline.{Timeline}
use Rattle.source_core.specs.Answers.{IsReadRefusal}
use Rattle.source_core.proofs.Answers.{errs, oks}
use Rattle.source_hudi.specs.Since.{AreCommitsOf, AreCommitsUpTo, ShowsInLater, is_unread_after, later_in}
use Rattle.source_hudi.proofs.Later.{later_found}
use Rattle.source_hudi.proofs.SinceRefusals.{later_over, other_partition, unread_over}
use Rattle.source_hudi.proofs.Unread.{first_found_after, none_unread_after}
use Rattle.source_hudi.proofs.since.commits_up_to.Goals as goal

pub returns-then-not-has_partition_of-clause-refused : goal.returns-then-not-has_partition_of-clause-refused
returns-then-not-has_partition_of-clause-refused g c told =
    other_partition (g.S.Store.disk c.args.store.now).files c.args.table.now c.args.base.now c.args.position.now c.args.head.now c.partition_change.result
    (λ same. false≢true (c.if-not-has_partition_of.ensures.1 same)) c.partition_change.ensures.told

pub commits_of-requires : goal.commits_of-requires
commits_of-requires g c = c.if-not-has_partition_of.ensures.0 refl

pub returns-in-Some-clause-refused : goal.returns-in-Some-clause-refused
returns-in-Some-clause-refused g c told =
    let files = (g.S.Store.disk c.args.store.now).files in
    let head = c.args.head.now in
    let position = c.args.position.now in
    let i = c.in-Some.instant.now in
    let all : c.as_slice.result.now ≡ instants_in (names_in files timeline_folder) = c.as_slice.ensures ∙ ap (λ (t : Timeline). t.instants) (c.requires.timeline told) in
    let found = subst (λ (is : List InstantName). find (is_unread_after head position) is ≡ Some i) all (sym c.in-Some.ensures) in
    unread_over files c.args.table.now c.args.base.now position head (c.if-not-has_partition_of.ensures.0 refl) i c.unread.result (first_found_after files head position i found) c.unread.ensures.told

pub returns-in-None-clause-made : goal.returns-in-None-clause-made
returns-in-None-clause-made g c told =
    let files = (g.S.Store.disk c.args.store.now).files in
    let head = c.args.head.now in
    let position = c.args.position.now in
    let table = c.args.table.now in
    let base = c.args.base.now in
    let all : c.as_slice.result.now ≡ instants_in (names_in files timeline_folder) = c.as_slice.ensures ∙ ap (λ (t : Timeline). t.instants) (c.requires.timeline told) in
    let read = none_unread_after files head position (subst (λ (is : List InstantName). find (is_unread_after head position) is ≡ None) all (sym c.in-None.ensures)) in
    let same : c.later.result.now ≡ later_in files position = later_found files position c.up_to_head.result.now c.later.result.now (c.up_to_head.ensures ∙ ap up_to_head (c.requires.timeline told)) c.later.ensures in
    oks c.commits_of.result (AreCommitsOf files table base (later_in files position)) (AreCommitsUpTo files position head table base)
    (λ commits made. record { partition = c.if-not-has_partition_of.ensures.0 refl; all_read = read; made = made })
    (subst (λ (cs : List CompletedInstant). IfOk c.commits_of.result (AreCommitsOf files table base cs)) same (c.commits_of.ensures.made told))

pub returns-in-None-clause-refused : goal.returns-in-None-clause-refused
returns-in-None-clause-refused g c told =
    let files = (g.S.Store.disk c.args.store.now).files in
    let head = c.args.head.now in
    let position = c.args.position.now in
    let table = c.args.table.now in
    let base = c.args.base.now in
    let all : c.as_slice.result.now ≡ instants_in (names_in files timeline_folder) = c.as_slice.ensures ∙ ap (λ (t : Timeline). t.instants) (c.requires.timeline told) in
    let read = none_unread_after files head position (subst (λ (is : List InstantName). find (is_unread_after head position) is ≡ None) all (sym c.in-None.ensures)) in
    let same : c.later.result.now ≡ later_in files position = later_found files position c.up_to_head.result.now c.later.result.now (c.up_to_head.ensures ∙ ap up_to_head (c.requires.timeline told)) c.later.ensures in
    errs c.commits_of.result _ _ (later_over files table base position head (c.if-not-has_partition_of.ensures.0 refl) read)
    (subst (λ (cs : List CompletedInstant). IfErr c.commits_of.result (IsReadRefusal (ShowsInLater files table base cs))) same (c.commits_of.ensures.refused told))
