use Rattle.std.proofs.Common.{◌≡◌, ◌∙◌, List, Some, None, ap, subst, sym}
use Rattle.std.specs.Prelude.{IfErr, IfOk, find}
use Rattle.lake_store.specs.Disk.{names_in}
use Rattle.lake_store.proofs.RunLaws.{reading_begins}
use Rattle.hudi_table.specs.Instants.{instants_in, timeline_folder, timeline_of}
use Rattle.hudi_table.specs.declared.instants.CompletedInstant.{CompletedInstant}
use Rattle.hudi_table.specs.declared.instants.InstantName.{InstantName}
use Rattle.hudi_table.specs.declared.timeline.Timeline.{Timeline}
use Rattle.source_core.specs.Answers.{IsReadRefusal}
use Rattle.source_core.proofs.Answers.{errs, oks}
use Rattle.source_hudi.specs.Heads.{IsTableOfInstants, IsTableUpTo}
use Rattle.source_hudi.specs.Instants.{is_unread, reached_in}
use Rattle.source_hudi.specs.Reading.{HasRefused}
use Rattle.source_hudi.proofs.Refusals.{refused_up_to, unread_shown}
use Rattle.source_hudi.proofs.Unread.{first_found, none_unread}
use Rattle.source_hudi.proofs.UpToHead.{front_reached, some_reached}
use Rattle.source_hudi.proofs.source.table_up_to.Goals as goal

pub returns-in-Some-clause-refused : goal.returns-in-Some-clause-refused
returns-in-Some-clause-refused g c told =
    let files = (g.S.Store.disk c.args.store.now).files in
    let all : c.as_slice.result.now ≡ instants_in (names_in files timeline_folder) = c.as_slice.ensures ∙ ap (λ (t : Timeline). t.instants) (c.requires.timeline told) in
    let found = subst (λ (is : List InstantName). find (is_unread c.args.head.now) is ≡ Some c.in-Some.instant.now) all (sym c.in-Some.ensures) in
    unread_shown files c.args.table.now c.args.head.now c.in-Some.instant.now c.unread.result (first_found files c.args.head.now c.in-Some.instant.now found) c.unread.ensures.told

pub returns-in-Some-clause-only_reads : goal.returns-in-Some-clause-only_reads
returns-in-Some-clause-only_reads g c = reading_begins g.S.Store g.met.S.Store.only_now c.args.store.now

pub returns-in-None-clause-made : goal.returns-in-None-clause-made
returns-in-None-clause-made g c told =
    let files = (g.S.Store.disk c.args.store.now).files in
    let all : c.as_slice.result.now ≡ instants_in (names_in files timeline_folder) = c.as_slice.ensures ∙ ap (λ (t : Timeline). t.instants) (c.requires.timeline told) in
    let read = none_unread files c.args.head.now (subst (λ (is : List InstantName). find (is_unread c.args.head.now) is ≡ None) all (sym c.in-None.ensures)) in
    let completed : c.as_slice-in-None.result.now ≡ (timeline_of (names_in files timeline_folder)).completed = c.as_slice-in-None.ensures ∙ ap (λ (t : Timeline). t.completed) (c.requires.timeline told) in
    let same : c.up_to.result.now ≡ reached_in files = front_reached files c.args.head.now (c.requires.head told) c.as_slice-in-None.result.now c.up_to.result.now completed c.up_to.ensures in
    oks c.table_of.result (IsTableOfInstants files c.args.table.now (reached_in files)) (IsTableUpTo files c.args.table.now c.args.head.now) (λ t made. record { all_read = read; made = made })
    (subst (λ (cs : List CompletedInstant). IfOk c.table_of.result (IsTableOfInstants files c.args.table.now cs)) same (c.table_of.ensures.made told))

pub returns-in-None-clause-refused : goal.returns-in-None-clause-refused
returns-in-None-clause-refused g c told =
    let files = (g.S.Store.disk c.args.store.now).files in
    let all : c.as_slice.result.now ≡ instants_in (names_in files timeline_folder) = c.as_slice.ensures ∙ ap (λ (t : Timeline). t.instants) (c.requires.timeline told) in
    let read = none_unread files c.args.head.now (subst (λ (is : List InstantName). find (is_unread c.args.head.now) is ≡ None) all (sym c.in-None.ensures)) in
    let completed : c.as_slice-in-None.result.now ≡ (timeline_of (names_in files timeline_folder)).completed = c.as_slice-in-None.ensures ∙ ap (λ (t : Timeline). t.completed) (c.requires.timeline told) in
    let same : c.up_to.result.now ≡ reached_in files = front_reached files c.args.head.now (c.requires.head told) c.as_slice-in-None.result.now c.up_to.result.now completed c.up_to.ensures in
    errs c.table_of.result _ _ (refused_up_to files c.args.table.now c.args.head.now read)
    (subst (λ (cs : List CompletedInstant). IfErr c.table_of.result (IsReadRefusal (HasRefused files c.args.table.now cs))) same
    (c.table_of.ensures.refused told (λ none. some_reached files c.args.head.now (c.requires.head told) (sym same ∙ none))))
