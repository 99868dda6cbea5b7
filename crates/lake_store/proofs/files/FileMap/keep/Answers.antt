use Rattle.std.proofs.Common.{◌∙◌, ap, rules, string_bytes}
use Rattle.std.specs.FinSet as set
use Rattle.std.proofs.lemmas.Map.Made.{filter_same_pairs}
use Rattle.lake_store.specs.Crash.{among}
use Rattle.lake_store.specs.Disk.{Files}
use Rattle.lake_store.proofs.PastLaws.{files_of-kept}
use Rattle.lake_store.proofs.files.FileMap.keep.Goals as goal

pub returns : goal.returns
returns c =
    files_of-kept c.self.inside.files c.retain.new.self c.args.paths.now
    (filter_same_pairs _ (λ e. set.contains c.args.paths.now (string_bytes e.0)) _ (λ k v b w f' t. search rules) _ _ c.retain.ensures.filtered)
    ∙ ap (λ (m : Files). among m c.args.paths.now) c.self.view_is
