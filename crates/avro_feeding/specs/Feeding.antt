-- A container that comes in pieces: what has been read of it, and what a piece more makes of that.
use Rattle.std.specs.Prelude.{ℕ, zero, suc, ◌+◌, ◌-◌, ◌^◌, min, Bool, true, false, List, [], ◌∷◌, ◌++◌, length, flat_map, fold, Option, Some, None, Result, Ok, Err, if◌then◌else◌}
use Rattle.lake_basics.specs.Outcome.{◌>>=◌}
use Rattle.avro_schema.specs.Tree.{SchemaTree}
use Rattle.avro_value.specs.declared.api.TheConstants.{MAX_VALUES}
use Rattle.avro_value.specs.Layout.{layout_of}
use Rattle.avro_value.specs.ValueTree.{ValueTree}
use Rattle.avro_container.specs.declared.error.ContainerError.{ContainerError}
use Rattle.avro_container.specs.declared.error.ContainerError.TheVariants as errors
use Rattle.avro_container.specs.declared.fault.Flaw.{Flaw}
use Rattle.avro_container.specs.declared.fault.Flaw.TheVariants as flaw
use Rattle.avro_container.specs.declared.fault.ContainerFault.{ContainerFault}
use Rattle.avro_container.specs.Format.{Pairs}
use Rattle.avro_container.specs.Laws.{flaw_error}
use Rattle.avro_container.specs.Reading.{Step, step_of, header_at, schema_in, codec_in, block_at}

-- ---- what has been read

-- Behind the header: the schema, the marker, how many bytes stand before those that are kept, these, and how many more values may be made.
pub record Behind : Type 0 where
  pub schema : SchemaTree
  pub marker : List ℕ
  pub offset : ℕ
  pub rest : List ℕ
  pub budget : ℕ

-- The bytes so far don't end the header, or they do.
pub data Place : Type 0 where
  in_header : List ℕ → Place
  in_blocks : Behind → Place

-- Why reading ended, and the schema, where the header was whole and named one.
pub record Refusal : Type 0 where
  pub error : ContainerError
  pub schema : Option SchemaTree

-- What has been read, or why it is refused.
abbrev pub State : Type 0
State = Result Place Refusal

-- Nothing has been read.
abbrev pub nothing_read : State
nothing_read = Ok (in_header [])

-- What has been read then, and the values of each block that became whole.
abbrev pub Fed : Type 0
Fed = State × List (List ValueTree)

-- ---- places

-- So many bytes on. Places past the last number of 64 bits have that number.
abbrev pub further : ℕ → ℕ → ℕ
further place n = min (place + n) (2 ^ 64 - 1)

abbrev pub is_short : Flaw → Bool
is_short flaw.Short = true
is_short _ = false

-- Why bytes behind an offset are refused: where they only end too early they aren't, and any other flaw is, at its place.
abbrev pub refusal : ℕ → List ℕ → ContainerFault → Option ContainerError
refusal offset bytes f = if is_short f.flaw then None else Some (flaw_error f.flaw (further offset (length bytes - f.left)))

-- Reading waits in its place, or it is refused.
abbrev pub waits_or_refused : Place → Option SchemaTree → Option ContainerError → State
waits_or_refused place schema None = Ok place
waits_or_refused place schema (Some e) = Err (record { error = e; schema = schema })

abbrev pub stopped : Place → Option SchemaTree → ℕ → List ℕ → ContainerFault → State
stopped place schema offset bytes f = waits_or_refused place schema (refusal offset bytes f)

-- ---- the header

-- behind the header of these bytes
unfoldable pub opened : List ℕ → Step Behind
opened bytes = do
  header ← header_at MAX_VALUES bytes
  t ← step_of (length bytes) (schema_in header.0)
  plain ← step_of (length bytes) (codec_in header.0)
  Ok (record { schema = t; marker = header.1; offset = further 0 (length bytes - length header.2); rest = header.2; budget = MAX_VALUES })

abbrev pub schema_named : Result SchemaTree Flaw → Option SchemaTree
schema_named (Ok t) = Some t
schema_named (Err what) = None

abbrev pub schema_of_header : Step (Pairs × List ℕ × List ℕ) → Option SchemaTree
schema_of_header (Ok header) = schema_named (schema_in header.0)
schema_of_header (Err f) = None

-- the schema, where the bytes have a whole header that names one
unfoldable pub schema_at : List ℕ → Option SchemaTree
schema_at bytes = schema_of_header (header_at MAX_VALUES bytes)

-- ---- blocks

-- behind a block of these values
abbrev pub behind_block : Behind → List ValueTree × List ℕ × ℕ → Behind
behind_block b x = record b { offset = further b.offset (length b.rest - length x.1); rest = x.1; budget = x.2 }

abbrev pub with_block : List ValueTree → Fed → Fed
with_block vs r = (r.0, vs ∷ r.1)

-- A block is behind, and reading goes on, or it stops in front of the block.
abbrev pub after_block : Behind → (Behind → Fed) → Step (List ValueTree × List ℕ × ℕ) → Fed
after_block b go_on (Ok x) = with_block x.0 (go_on (behind_block b x))
after_block b go_on (Err f) = (stopped (in_blocks b) (Some b.schema) b.offset b.rest f, [])

-- all whole blocks, of which there are fewer than fuel
unfoldable pub read_on : ℕ → Behind → Fed
read_on zero b = (Ok (in_blocks b), [])
read_on (suc fuel) b = after_block b (read_on fuel) (block_at (layout_of b.schema) b.marker b.rest b.budget)

-- Each block takes a byte at least.
abbrev pub read_blocks : Behind → Fed
read_blocks b = read_on (length b.rest + 1) b

-- ---- pieces

-- The header is behind, and blocks are read, or it isn't whole.
abbrev pub after_header : List ℕ → Step Behind → Fed
after_header bytes (Ok b) = read_blocks b
after_header bytes (Err f) = (stopped (in_header bytes) (schema_at bytes) 0 bytes f, [])

-- these bytes, from the first one on
abbrev pub read_header : List ℕ → Fed
read_header bytes = after_header bytes (opened bytes)

-- what a piece makes of what has been read
abbrev pub fed : State → List ℕ → Fed
fed (Ok (in_header kept)) piece = read_header (kept ++ piece)
fed (Ok (in_blocks b)) piece = read_blocks (record b { rest = b.rest ++ piece })
fed (Err refused) piece = (Err refused, [])

-- one piece more
abbrev pub and_fed : Fed → List ℕ → Fed
and_fed r piece = ((fed r.0 piece).0, r.1 ++ (fed r.0 piece).1)

-- what pieces make of nothing, one after the other
abbrev pub fed_all : List (List ℕ) → Fed
fed_all pieces = fold and_fed (nothing_read, []) pieces

-- the values of these blocks, one behind the other
abbrev pub joined : List (List ValueTree) → List ValueTree
joined blocks = flat_map (λ vs. vs) blocks

-- the values of these blocks, where there is a block
abbrev pub found_in : List (List ValueTree) → Option (List ValueTree)
found_in [] = None
found_in (vs ∷ blocks) = Some (joined (vs ∷ blocks))

-- What a call of `feed` answers: the values of the blocks that became whole in it, and where there is none the refusal, if there is one.
abbrev pub answer_by : State → Option (List ValueTree) → Result (List ValueTree) ContainerError
answer_by state (Some vs) = Ok vs
answer_by (Ok place) None = Ok []
answer_by (Err refused) None = Err refused.error

abbrev pub told : Fed → Result (List ValueTree) ContainerError
told r = answer_by r.0 (found_in r.1)

-- What the end of the bytes makes of it.
abbrev pub ended : State → Result (Unit {0}) ContainerError
ended (Ok (in_header kept)) = Err (errors.Short 0)
ended (Ok (in_blocks b)) = elim b.rest [ [] ↦ Ok tt | c ∷ rest ↦ Err (errors.Short b.offset) ]
ended (Err refused) = Err refused.error

-- the schema of the container, once its header is whole, also where a block is refused
abbrev pub schema_of_state : State → Option SchemaTree
schema_of_state (Ok (in_header kept)) = None
schema_of_state (Ok (in_blocks b)) = Some b.schema
schema_of_state (Err refused) = refused.schema
