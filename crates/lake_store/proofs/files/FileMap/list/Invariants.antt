use Rattle.std.proofs.Common.{◌≡◌, ◌++◌, string_bytes}
use Rattle.lake_store.proofs.KeyLaws.{names_among}
use Rattle.lake_store.proofs.files.FileMap.list.Given as goal

-- the names so far and those of the entries that are left
abbrev pub invariant-loop-path : goal.invariant-loop-path
invariant-loop-path l = l.names.items ++ names_among (string_bytes l.front) l.path-iterator ≡ names_among (string_bytes l.front) l.initial.path-iterator
