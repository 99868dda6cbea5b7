use Rattle.std.proofs.Common.{All, take}
use Rattle.delta_live.specs.RowSteps.{kind_in, FileStands}
use Rattle.delta_live.proofs.texts.judged_files.Given as goal

abbrev pub invariant-loop-file : goal.invariant-loop-file
invariant-loop-file l = All (FileStands (kind_in l.kinds)) (take l.file-index l.files)
