-- Reading a container from left to right, with the first fault that is met.
use Rattle.std.specs.Prelude.{ℕ, zero, suc, ◌+◌, List, [], ◌∷◌, ◌++◌, length, Some, None, Result, Ok, Err, if◌then◌else◌}
use Rattle.std.specs.Str.{bytes_eq}
use Rattle.avro_value.specs.declared.fault.Fault.{Fault}
use Rattle.avro_value.specs.declared.fault.Fault.TheVariants.{Short, BadLength, Limit}
use Rattle.avro_value.specs.declared.fault.FaultAt.{FaultAt}
use Rattle.avro_schema.specs.Tree.{SchemaTree}
use Rattle.avro_value.specs.Layout.{Layout, layout_of}
use Rattle.avro_value.specs.ValueTree.{ValueTree}
use Rattle.lake_basics.specs.Outcome.{◌>>=◌}
use Rattle.avro_value.specs.Reading.{Read, Reader, fault_at, item_at, run_at, natural_at, bytes_at, with_count, entry_at, all_blocks_at, many_at, value_at}
use Rattle.avro_schema.specs.Reading.{schema_of}
use Rattle.avro_container.specs.declared.fault.Flaw.{Flaw}
use Rattle.avro_container.specs.declared.fault.Flaw.TheVariants as flaw
use Rattle.avro_container.specs.declared.fault.ContainerFault.{ContainerFault}
use Rattle.avro_container.specs.Format.{Pairs, magic, first_named, schema_name, codec_name, null_codec}

abbrev pub Step : Type 0 → Type 0
Step A = Result A ContainerFault

-- the flaw, at so many bytes from the end
abbrev pub flaw_at : Flaw → ℕ → ContainerFault
flaw_at what left = record { flaw = what; left = left }

-- ---- the header

-- what follows the magic
unfoldable pub after_magic : List ℕ → Result (List ℕ) Flaw
after_magic bytes = elim (run_at 4 bytes) [
  | Err r ↦ Err flaw.Short
  | Ok x ↦ if bytes_eq x.0 magic then Ok x.1 else Err flaw.BadMagic
]

-- a blob counts as a value, and so does the map
unfoldable pub meta_at : Reader Pairs
meta_at = with_count (all_blocks_at (entry_at (with_count (item_at bytes_at))))

-- A header that ends early is at fault at its first byte, from which there are so many bytes.
abbrev pub meta_fault_by : Fault → ℕ → ℕ → ContainerFault
meta_fault_by Short whole left = flaw_at flaw.Short whole
meta_fault_by _ whole left = flaw_at flaw.BadMeta left

abbrev pub meta_fault : ℕ → FaultAt → ContainerFault
meta_fault whole f = meta_fault_by f.fault whole f.left

-- so many bytes, of a field that has so many bytes from its first one on
unfoldable pub run_in : ℕ → ℕ → List ℕ → Step (List ℕ × List ℕ)
run_in whole n bytes = elim (run_at n bytes) [
  | Err r ↦ Err (flaw_at flaw.Short whole)
  | Ok x ↦ Ok x
]

unfoldable pub schema_in : Pairs → Result SchemaTree Flaw
schema_in meta = elim (first_named schema_name meta) [
  | None ↦ Err flaw.BadSchema
  | Some text ↦ elim (schema_of text) [ Err e ↦ Err flaw.BadSchema | Ok t ↦ Ok t ]
]

unfoldable pub codec_in : Pairs → Result (Unit {0}) Flaw
codec_in meta = elim (first_named codec_name meta) [
  | None ↦ Ok tt
  | Some codec ↦ if bytes_eq codec null_codec then Ok tt else Err flaw.Codec
]

abbrev pub step_of : {A : Type 0} → ℕ → Result A Flaw → Step A
step_of left (Ok x) = Ok x
step_of left (Err what) = Err (flaw_at what left)

abbrev pub meta_step : {A : Type 0} → ℕ → Read A → Step (A × List ℕ × ℕ)
meta_step whole (Ok x) = Ok x
meta_step whole (Err f) = Err (meta_fault whole f)

-- metadata, marker, and the bytes behind it
unfoldable pub header_at : ℕ → List ℕ → Step (Pairs × List ℕ × List ℕ)
header_at limit bytes = do
  rest ← step_of (length bytes) (after_magic bytes)
  meta ← meta_step (length bytes) (meta_at rest limit)
  marker ← run_in (length bytes) 16 meta.1
  Ok (meta.0, marker.0, marker.1)

-- ---- blocks

abbrev pub number_fault : Fault → ℕ → ℕ → ContainerFault
number_fault Short block left = flaw_at flaw.Short block
number_fault _ block left = flaw_at flaw.BadBlock left

-- a count or a size, in a block that has so many bytes from its first one on
unfoldable pub natural_in : ℕ → List ℕ → Step (ℕ × List ℕ)
natural_in block bytes = elim (natural_at BadLength bytes) [
  | Ok x ↦ Ok x
  | Err r ↦ Err (number_fault r block (length bytes))
]

-- An object that passes the limit does so at its first byte.
abbrev pub object_fault_by : Fault → List ℕ → FaultAt → FaultAt
object_fault_by Limit bytes f = fault_at bytes Limit
object_fault_by _ bytes f = f

abbrev pub object_fault : List ℕ → FaultAt → FaultAt
object_fault bytes f = object_fault_by f.fault bytes f

abbrev pub relimited : {A : Type 0} → List ℕ → Read A → Read A
relimited bytes (Ok x) = Ok x
relimited bytes (Err f) = Err (object_fault bytes f)

unfoldable pub object_at : Layout → Reader ValueTree
object_at l bytes budget = relimited bytes (value_at l bytes budget)

-- so many objects, and nothing else, before so many bytes
unfoldable pub objects_in : Layout → ℕ → List ℕ → ℕ → ℕ → Step (List ValueTree × ℕ)
objects_in l count objects after budget = elim (many_at (object_at l) count objects budget) [
  | Err f ↦ Err (flaw_at (flaw.Value f.fault) (f.left + after))
  | Ok vs ↦ elim vs.1 [ [] ↦ Ok (vs.0, vs.2) | b ∷ over ↦ Err (flaw_at flaw.BadBlock (length (b ∷ over) + after)) ]
]

-- a block's values, the bytes behind it, and how many more values may be made
unfoldable pub block_at : Layout → List ℕ → List ℕ → ℕ → Step (List ValueTree × List ℕ × ℕ)
block_at l marker bytes budget = do
  count ← natural_in (length bytes) bytes
  sizes ← natural_in (length bytes) count.1
  objects ← run_in (length bytes) sizes.0 sizes.1
  sync ← run_in (length bytes) 16 objects.1
  vs ← objects_in l count.0 objects.0 (length objects.1) budget
  if bytes_eq sync.0 marker then Ok (vs.0, sync.1, vs.1) else Err (flaw_at flaw.BadSync (length objects.1))

-- the values of all blocks, of which there are fewer than fuel
unfoldable pub blocks_at : Layout → List ℕ → ℕ → List ℕ → ℕ → Step (List ValueTree)
blocks_at l marker zero bytes budget = Err (flaw_at flaw.Short (length bytes))
blocks_at l marker (suc fuel) [] budget = Ok []
blocks_at l marker (suc fuel) (b ∷ bytes) budget = block_at l marker (b ∷ bytes) budget >>= λ block. blocks_at l marker fuel block.1 block.2 >>= λ more. Ok (block.0 ++ more)

-- ---- the whole

unfoldable pub container_at : ℕ → List ℕ → Step (Pairs × SchemaTree × List ValueTree)
container_at limit bytes = do
  header ← header_at limit bytes
  t ← step_of (length bytes) (schema_in header.0)
  plain ← step_of (length bytes) (codec_in header.0)
  vs ← blocks_at (layout_of t) header.1 (length header.2 + 1) header.2 limit
  Ok (header.0, t, vs)

-- ---- what was read before, and what is still read

-- the block after front
abbrev pub block_behind : List ValueTree → Step (List ValueTree × List ℕ × ℕ) → Step (List ValueTree × List ℕ × ℕ)
block_behind front read = read >>= λ block. Ok (front ++ block.0, block.1, block.2)

-- the objects after front
abbrev pub objects_behind : List ValueTree → Step (List ValueTree × ℕ) → Step (List ValueTree × ℕ)
objects_behind front read = read >>= λ vs. Ok (front ++ vs.0, vs.1)
