-- Sets of ids.
use Rattle.std.specs.Prelude.{◌≡◌, ℤ, List}
use Rattle.std.specs.BTreeSet as sorted
use Rattle.std.specs.BTreeSet.{BTreeSet}
use Rattle.std.specs.Ordering.{int_cmp}
use Rattle.iceberg_metadata.specs.Judging.{is_among}

-- The set has these ids and no others.
abbrev pub HoldsIds : BTreeSet ℤ → List ℤ → Type 0
HoldsIds set ids = (q : ℤ) → sorted.contains int_cmp set q ≡ is_among ids q
