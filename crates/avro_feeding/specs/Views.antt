-- What contracts see of a feeder's parts.
use Rattle.std.specs.Prelude.{◌≡◌, ◌⊎◌, ℕ, ◌-◌, true, List, ◌++◌, length, map, drop, Option, Some, None, option_map, Result, Ok, Err, Vec}
use Rattle.std.specs.declared.alloc.Global.{Global}
use Rattle.lake_basics.specs.Outcome.{◌>>=◌}
use Rattle.avro_schema.specs.Tree.{SchemaTree, tree_of}
use Rattle.avro_value.specs.declared.api.TheConstants.{MAX_VALUES}
use Rattle.avro_value.specs.declared.value.Value.{Value}
use Rattle.avro_value.specs.ValueTree.{ValueTree, value_tree}
use Rattle.avro_container.specs.declared.error.ContainerError.TheVariants as errors
use Rattle.avro_container.specs.declared.fault.ContainerFault.{ContainerFault}
use Rattle.avro_container.specs.declared.fault.Flaw.TheVariants as flaw
use Rattle.avro_container.specs.Format.{Pairs}
use Rattle.avro_container.specs.Reading.{Step, step_of, header_at, schema_in, codec_in}
use Rattle.avro_feeding.specs.declared.blocks.Read.{Read}
use Rattle.avro_feeding.specs.declared.header.Named.{Named}
use Rattle.avro_feeding.specs.declared.header.Opened.{Opened}
use Rattle.avro_feeding.specs.declared.place.Fed.{Fed as FedParts}
use Rattle.avro_feeding.specs.declared.place.Refused.{Refused}
use Rattle.avro_feeding.specs.Calls.{option_tree, refusal_of, state_of}
use Rattle.avro_feeding.specs.Feeding.{Behind, in_header, in_blocks, State, Fed, is_short, further, waits_or_refused, stopped, opened, schema_at, found_in, read_blocks, read_header, fed, schema_of_state}

-- ---- parts

-- the values that were found, as trees
abbrev pub trees_found : Option (Vec Value Global) → Option (List ValueTree)
trees_found found = option_map (λ vs. map value_tree vs.items) found

-- ---- what a piece makes of it

-- what has been read, and the values of the blocks that became whole
abbrev pub Summary : Type 0
Summary = State × Option (List ValueTree)

abbrev pub summary : Fed → Summary
summary r = (r.0, found_in r.1)

abbrev pub summed : FedParts → Summary
summed r = (state_of r.state, trees_found r.found)

-- Memory ran out, maybe behind the header of this schema.
abbrev pub without_memory : Option SchemaTree → Summary
without_memory schema = (Err (record { error = errors.Memory; schema = schema }), None)

-- It is this, unless memory ran out. Then one of the schemas is kept.
abbrev pub IsUnlessMemory : Option SchemaTree → Option SchemaTree → Summary → Summary → Type 0
IsUnlessMemory before after is s = ◌≡◌ {A = Summary} s is ⊎ (s ≡ without_memory before) ⊎ (s ≡ without_memory after)

-- What a piece makes of what has been read. Where memory runs out, the schema that was known before or after it stays.
abbrev pub IsFedBy : State → List ℕ → Summary → Type 0
IsFedBy old piece s = IsUnlessMemory (schema_of_state old) (schema_of_state (fed old piece).0) (summary (fed old piece)) s

-- ---- blocks

-- what is behind so many bytes more
abbrev pub behind_front : ℕ → Behind → Behind
behind_front front b = record b { offset = further b.offset front; rest = drop front b.rest }

-- these values with those behind them
abbrev pub with_found : Option (List ValueTree) → Option (List ValueTree) → Option (List ValueTree)
with_found None more = more
with_found (Some vs) None = Some vs
with_found (Some vs) (Some more) = Some (vs ++ more)

-- The whole blocks at the front of the bytes behind b are read, and so many bytes are left.
abbrev pub IsRead : Behind → Read → Type 0
IsRead b r = summary (read_blocks b) ≡ (waits_or_refused (in_blocks (record b { offset = r.offset; rest = drop (length b.rest - r.left) b.rest; budget = r.budget })) (Some b.schema) r.refusal, trees_found r.found)

abbrev pub IsReadOn : Behind → Summary → Type 0
IsReadOn b s = (s ≡ summary (read_blocks b)) ⊎ (s ≡ without_memory (Some b.schema))

-- ---- the header

-- the header of these bytes, and the schema that it names
unfoldable pub named_at : List ℕ → Step ((Pairs × List ℕ × List ℕ) × SchemaTree)
named_at bytes = do
  header ← header_at MAX_VALUES bytes
  t ← step_of (length bytes) (schema_in header.0)
  Ok (header, t)

-- The codec is judged, unless memory ran out.
abbrev pub IsJudged : Named → Result Opened Refused → Type 0
IsJudged n (Ok o) = (codec_in n.header.meta.items ≡ Ok tt) × (tree_of o.schema ≡ tree_of n.schema) × (o.marker ≡ n.header.marker.now) × (o.left ≡ length n.header.blocks.now)
IsJudged n (Err r) = (option_tree r.schema ≡ Some (tree_of n.schema)) × ((r.error ≡ errors.Memory) ⊎ ((r.error ≡ errors.Codec) × (codec_in n.header.meta.items ≡ Err flaw.Codec)))

-- what stands behind the header, by how many bytes it leaves
abbrev pub behind_opened : List ℕ → Opened → Behind
behind_opened bytes o = record { schema = tree_of o.schema; marker = o.marker; offset = further 0 (length bytes - o.left); rest = drop (length bytes - o.left) bytes; budget = MAX_VALUES }

-- What the header comes to, unless memory ran out: it isn't whole, it is read, or it is refused.
abbrev pub IsOpened : List ℕ → Result (Option Opened) Refused → Type 0
IsOpened bytes (Ok None) = (f : ContainerFault) × (opened bytes ≡ Err f) × (is_short f.flaw ≡ true)
IsOpened bytes (Ok (Some o)) = opened bytes ≡ Ok (behind_opened bytes o)
IsOpened bytes (Err r) = ((f : ContainerFault) × (opened bytes ≡ Err f) × (stopped (in_header bytes) (schema_at bytes) 0 bytes f ≡ Err (refusal_of r))) ⊎ ((r.error ≡ errors.Memory) × ((option_tree r.schema ≡ None) ⊎ (option_tree r.schema ≡ schema_at bytes)))

-- The header and the whole blocks behind it are read, unless memory ran out.
abbrev pub IsReadHeader : List ℕ → Summary → Type 0
IsReadHeader bytes s = IsUnlessMemory None (schema_of_state (read_header bytes).0) (summary (read_header bytes)) s
