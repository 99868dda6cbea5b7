use Rattle.std.proofs.Common.{◌≡◌, ◌++◌, map, take}
use Rattle.std.specs.Prelude.{flat_map}
use Rattle.std.specs.List.{AllByRecursion}
use Rattle.delta_text.specs.Again.{IsFileAgain}
use Rattle.delta_text.specs.Writing.{file_data, line_text}
use Rattle.delta_text.proofs.writing.push_files.Given as goal

abbrev pub invariant-loop-file : goal.invariant-loop-file
invariant-loop-file l = record {
  text : l.out.items ≡ l.fn.out.items ++ flat_map line_text (map (file_data l.now_ms) (take l.file-index l.files));
  reads_back : AllByRecursion (IsFileAgain l.now_ms) (take l.file-index l.files);
}
