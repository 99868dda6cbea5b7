use Rattle.std.proofs.Common.{ap, ◌∙◌}
use Rattle.std.specs.List.{count_by}
use Rattle.std.specs.Map.{keys_of}
use Rattle.delta_compaction.specs.Kinds.{is_file}
use Rattle.delta_compaction.proofs.KeyLemmas.{keys_plain}
use Rattle.delta_compaction.proofs.newest.NewestLines.file_count.Goals as goal

pub returns : goal.returns
returns c = c.count_files.ensures ∙ ap (count_by is_file) (keys_plain c.self.inside.lines.entries) ∙ ap (λ es. count_by is_file (keys_of es)) c.self.view_is
