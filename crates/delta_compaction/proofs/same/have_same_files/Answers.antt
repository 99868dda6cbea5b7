use Rattle.std.proofs.Common.{ap, ◌∙◌}
use Rattle.delta_compaction.specs.Same.{files_eq}
use Rattle.delta_compaction.proofs.SameLemmas.{same_files}
use Rattle.delta_compaction.proofs.same.have_same_files.Goals as goal

pub returns : goal.returns
returns c =
    let a = c.in_ok-a.ensures in
    let b = c.in_ok-b.ensures in
    let is = c.are_same_files.ensures ∙ ap (λ l. files_eq l c.as_slice-2.result.now) c.as_slice.ensures.value ∙ ap (files_eq c.in_ok-a.a.items) c.as_slice-2.ensures.value in
    same_files c.in_ok-a.a.items c.in_ok-b.b.items c.args.a c.args.b c.are_same_files.result a.files b.files a.order b.order is
