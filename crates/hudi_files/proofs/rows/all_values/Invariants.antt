use Rattle.std.proofs.Common.{◌≡◌, length, map, take}
use Rattle.std.specs.List.{zip}
use Rattle.std.specs.Option.{option_map}
use Rattle.partition_map.specs.Folder.{texts_of}
use Rattle.hudi_files.specs.Values.{HaveValues, value_parts, with_values}
use Rattle.hudi_files.proofs.rows.all_values.Given as goal

abbrev pub invariant-loop-file : goal.invariant-loop-file
invariant-loop-file l = record {
  values : HaveValues l.style l.names l.kinds (take l.file-index l.files) (map with_values (zip (take l.file-index l.files) l.all.items));
  counted : length l.all.items ≡ l.file-index;
  folder : option_map texts_of l.folder.parts ≡ value_parts l.style l.names l.folder.path.now;
}
