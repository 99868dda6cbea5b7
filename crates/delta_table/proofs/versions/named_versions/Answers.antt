use Rattle.std.proofs.Common.{◌≡◌, ◌+◌, ◌<◌, ℕ, [], get_or, length, Vec, Global, sym, ap, subst, ◌∙◌}
use Rattle.std.proofs.lemmas.List.{get_or_default}
use Rattle.delta_table.proofs.NamedVersions.{AreGathered, gather_begins, gather_ends, gather_more, gather_none}
use Rattle.delta_table.proofs.versions.named_versions.Goals.{in-Some+in_ok-push-in-Some, in-None}
use Rattle.delta_table.proofs.versions.named_versions.Goals as goal

pub loop-name-init : goal.loop-name-init
loop-name-init c = gather_begins c.args.names.now c.new-versions.result.items c.new-versions.ensures.items

pub loop-name-preserved : goal.loop-name-preserved
loop-name-preserved c =
    let names = c.args.names.now in
    let i = c.loop-name.name-index in
    let here : i < length names = c.loop-name-test.true in
    let name = c.as_bytes.result.now in
    let is : get_or names i [] ≡ name = get_or_default names i [] c.name-item.result here ∙ sym c.name-item.is ∙ sym c.as_bytes.ensures.value in
    elim c.match-version_of_name.branch [
      | in-Some+in_ok-push-in-Some w ↦
          subst (AreGathered names (i + 1)) (sym (ap (λ (v : Vec ℕ Global). v.items) w.versions-is ∙ w.in_ok-push-in-Some.ensures.items))
          (gather_more names i c.loop-name.versions.items c.loop-name.invariant name here is w.in-Some.version w.in-Some.ensures)
      | in-None w ↦
          subst (AreGathered names (i + 1)) (sym (ap (λ (v : Vec ℕ Global). v.items) w.versions-is)) (gather_none names i c.loop-name.versions.items c.loop-name.invariant name here is w.in-None.ensures)
    ]

pub returns : goal.returns
returns c =
    let all = gather_ends c.args.names.now c.loop-name.name-index c.loop-name.versions.items c.loop-name-test.false c.loop-name.invariant in
    record { named = c.loop-name.invariant.named; all = all; within = c.loop-name.invariant.within }
