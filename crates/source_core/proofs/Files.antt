-- Files that are the same at each path are one.
use Rattle.std.proofs.Common.{◌≡◌, ℕ, List}
use Rattle.std.specs.Cmp.Lexicographic.{nat_list_cmp_total}
use Rattle.std.specs.FinMap as map
use Rattle.lake_store.specs.Disk.{Files}

pub same_files : (m n : Files) → ((q : List ℕ) → map.get m q ≡ map.get n q) → m ≡ n
same_files = map.same_map nat_list_cmp_total (map.slice_cmp-IsAntisymmetric map.nat_cmp-IsAntisymmetric)
