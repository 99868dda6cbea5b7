use Rattle.std.proofs.Common.{◌≡◌, ℕ, ◌≤◌, length}
use Rattle.json.specs.Json.{members, value}
use Rattle.serde_json.specs.Data.{Members}
use Rattle.serde_json.specs.Read.{of_members, converted}
use Rattle.json_scan.specs.Passing.{passed_members, named_whole}
use Rattle.json_scan.proofs.counted.whole_in_members.Given as goal

abbrev pub invariant-members : goal.invariant-members
invariant-members l =
    (old : Members) × (n : ℕ) × (length l.reader ≤ n)
    × (passed_members 126 l.initial.reader ≡ converted (λ ms. of_members ms old) (members (value 126) n l.reader))
    × (l.found ≡ named_whole l.name old)

abbrev pub decreases-members : goal.decreases-members
decreases-members l = length l.reader
