-- The exit status of each answer.
use Rattle.std.specs.Prelude.{ℕ}
use Rattle.target_sync.specs.declared.status.Status.{Status}
use Rattle.target_sync.specs.declared.status.Status.TheVariants.{Done, Memory, Usage, Absent, Malformed, Unsupported, Limit, Foreign, Contested, StoreFault, SinkFault, Behind, Differs, Stale}

abbrev pub number_of : Status → ℕ
number_of Done = 0
number_of Memory = 1
number_of Usage = 2
number_of Absent = 3
number_of (Malformed path) = 4
number_of (Unsupported side feature path) = 5
number_of (Limit side which number) = 6
number_of (Foreign target path) = 7
number_of (Contested target) = 8
number_of StoreFault = 9
number_of SinkFault = 10
number_of (Behind target at head) = 11
number_of (Differs target path) = 12
number_of (Stale path) = 14
