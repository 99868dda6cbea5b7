-- Which refusals a call has.
use Rattle.partition_map.specs.declared.error.PartError.{PartError}
use Rattle.partition_map.specs.declared.error.PartError.TheVariants.{Memory, BadValue, ValueForm, OutsideTable, BadPath, TooLong}

-- A reader of values: memory runs out, or the spelling stands for no value of the kind.
abbrev pub IsReadingError : PartError → Type 0
IsReadingError Memory = Unit {0}
IsReadingError BadValue = Unit {0}
IsReadingError ValueForm = ⊥
IsReadingError OutsideTable = ⊥
IsReadingError BadPath = ⊥
IsReadingError TooLong = ⊥

-- A writer of values: memory runs out, or the value has no text.
abbrev pub IsWritingError : PartError → Type 0
IsWritingError Memory = Unit {0}
IsWritingError ValueForm = Unit {0}
IsWritingError BadValue = ⊥
IsWritingError OutsideTable = ⊥
IsWritingError BadPath = ⊥
IsWritingError TooLong = ⊥
