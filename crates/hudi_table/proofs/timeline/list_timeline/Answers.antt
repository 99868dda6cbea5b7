use Rattle.std.proofs.Common.{◌≡◌, ◌∙◌, ◌↔◌, ℕ, List, MatchOption, ap, subst, sym}
use Rattle.lake_store.specs.Disk.{names_in}
use Rattle.hudi_table.specs.Folder.{AreInOrder, IsFirstPending, IsHead, IsPendingAt, IsReached}
use Rattle.hudi_table.specs.Instants.{HasTime, head_of, timeline_folder, timeline_of, up_to_head}
use Rattle.hudi_table.specs.declared.timeline.Timeline.{Timeline}
use Rattle.hudi_table.proofs.FolderLaws.{first_of_folder, head_of_folder, order_of_folder, reached_times}
use Rattle.hudi_table.proofs.timeline.list_timeline.Goals as goal

pub returns-clause-pending : goal.returns-clause-pending
returns-clause-pending g c told =
    let files = (g.S.Store.disk c.args.store.now).files in
    let same : c.in_ok-timeline_of.field-0 ≡ timeline_of (names_in files timeline_folder) = c.in_ok-timeline_of.ensures ∙ ap timeline_of (c.as_slice.ensures.value ∙ c.in-Ok.ensures.names told) in
    subst (λ (t : Timeline). MatchOption t.pending ((time : List ℕ) → IsPendingAt files time → ⊥) (IsFirstPending files)) (sym same) (first_of_folder files)

pub returns-clause-head : goal.returns-clause-head
returns-clause-head g c told =
    let files = (g.S.Store.disk c.args.store.now).files in
    let same : c.in_ok-timeline_of.field-0 ≡ timeline_of (names_in files timeline_folder) = c.in_ok-timeline_of.ensures ∙ ap timeline_of (c.as_slice.ensures.value ∙ c.in-Ok.ensures.names told) in
    subst (λ (t : Timeline). MatchOption (head_of t) ((time : List ℕ) → IsReached files time → ⊥) (IsHead files)) (sym same) (head_of_folder files)

pub returns-clause-reached : goal.returns-clause-reached
returns-clause-reached g c told =
    let files = (g.S.Store.disk c.args.store.now).files in
    let same : c.in_ok-timeline_of.field-0 ≡ timeline_of (names_in files timeline_folder) = c.in_ok-timeline_of.ensures ∙ ap timeline_of (c.as_slice.ensures.value ∙ c.in-Ok.ensures.names told) in
    subst (λ (t : Timeline). (time : List ℕ) → HasTime (up_to_head t) time ↔ IsReached files time) (sym same) (reached_times files)

pub returns-clause-in_order : goal.returns-clause-in_order
returns-clause-in_order g c told =
    let files = (g.S.Store.disk c.args.store.now).files in
    let same : c.in_ok-timeline_of.field-0 ≡ timeline_of (names_in files timeline_folder) = c.in_ok-timeline_of.ensures ∙ ap timeline_of (c.as_slice.ensures.value ∙ c.in-Ok.ensures.names told) in
    subst (λ (t : Timeline). AreInOrder t.completed) (sym same) (order_of_folder files)
