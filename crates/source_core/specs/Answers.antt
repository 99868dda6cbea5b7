-- What a source answers, by what its files show.
use Rattle.std.specs.Prelude.{Result, Ok, Err}
use Rattle.source_core.specs.declared.error.SourceError.{SourceError}
use Rattle.source_core.specs.declared.error.SourceError.TheVariants.{Memory, Absent, Malformed, Unsupported, Limit, StoreFault}
use Rattle.source_core.specs.declared.head.Head.{Head}

-- Nothing of a table is there exactly where this is told, but for want of memory, a fault of the store and a number that is passed.
abbrev pub IsHeadRefusal : Type 0 → (SourceError → Type 0) → SourceError → Type 0
IsHeadRefusal absent shows Memory = Unit {0}
IsHeadRefusal absent shows Absent = absent
IsHeadRefusal absent shows (Malformed path) = (¬ absent) × shows (Malformed path)
IsHeadRefusal absent shows (Unsupported feature path) = (¬ absent) × shows (Unsupported feature path)
IsHeadRefusal absent shows (Limit which number) = shows (Limit which number)
IsHeadRefusal absent shows StoreFault = Unit {0}

-- the head of a table that is there, or a refusal with its cause
abbrev pub IsHeadAnswer : Type 0 → (Head → Type 0) → (SourceError → Type 0) → Result Head SourceError → Type 0
IsHeadAnswer absent is_head shows (Ok head) = (¬ absent) × is_head head
IsHeadAnswer absent is_head shows (Err e) = IsHeadRefusal absent shows e

-- Want of memory and a fault of the store have no cause in the files, and a table that has a head is there.
abbrev pub IsReadRefusal : (SourceError → Type 0) → SourceError → Type 0
IsReadRefusal shows Memory = Unit {0}
IsReadRefusal shows Absent = ⊥
IsReadRefusal shows (Malformed path) = shows (Malformed path)
IsReadRefusal shows (Unsupported feature path) = shows (Unsupported feature path)
IsReadRefusal shows (Limit which number) = shows (Limit which number)
IsReadRefusal shows StoreFault = Unit {0}

-- A table is there, and neither what tells its head nor what gives its table shows a cause of a refusal.
pub record IsReadable (absent : Type 0) (at_head from_scratch : SourceError → Type 0) : Type 0 where
  pub there : ¬ absent
  pub head : (e : SourceError) → ¬ at_head e
  pub table : (e : SourceError) → ¬ from_scratch e
