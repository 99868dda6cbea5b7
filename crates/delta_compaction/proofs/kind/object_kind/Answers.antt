use Rattle.std.proofs.Common.{rules, ◌≡◌, IfOk, ap, subst, sym, ◌∙◌}
use Rattle.serde_json.specs.Data.{object}
use Rattle.serde_json.specs.View.{view, members_view}
use Rattle.serde_json.specs.declared.value.Value.{Object, the_lemmas}
use Rattle.delta_compaction.proofs.KindLemmas.{object_plain}
use Rattle.delta_compaction.proofs.kind.object_kind.Goals as goal

pub returns-in-Object-2 : goal.returns-in-Object-2
returns-in-Object-2 c =
    let shown : view (Object c.in-Object.members) ≡ object (members_view c.in-Object.members.entries) = search (rules, the_lemmas) in
    let is : view c.args.value.now ≡ object (members_view c.in-Object.members.entries) = ap view c.in-Object.is ∙ shown in
    subst (λ k. IfOk c.member_kind.result (λ r. r ≡ k)) (object_plain _ _ is (sym c.has_stray.ensures ∙ c.if-has_stray.false)) c.member_kind.ensures
