-- Where the reading of a header goes on, behind the whole items of its metadata.
use Rattle.std.specs.Prelude.{◌≡◌, ℕ, ◌*◌, ◌-◌, Bool, true, false, List, ◌++◌, length, nat_lt, ◌==◌, Option, Some, None, Result, Ok, Err, if◌then◌else◌}
use Rattle.lake_basics.specs.Outcome.{◌>>=◌}
use Rattle.avro_value.specs.declared.api.TheConstants.{MAX_VALUES}
use Rattle.avro_value.specs.declared.fault.Fault.{Fault}
use Rattle.avro_value.specs.declared.fault.Fault.TheVariants as fault
use Rattle.avro_value.specs.declared.input.BlockHead.{BlockHead}
use Rattle.avro_value.specs.declared.input.BlockSize.{BlockSize}
use Rattle.avro_value.specs.Reading.{Read, Reader, fault_at, item_at, bytes_at, with_count, entry_at, many_at, blocks_at}
use Rattle.avro_container.specs.Format.{Pairs}
use Rattle.avro_container.specs.Reading.{Step, header_at}
use Rattle.avro_feeding.specs.declared.metadata.Next.{Next}
use Rattle.avro_feeding.specs.declared.metadata.Next.TheVariants as next
use Rattle.avro_feeding.specs.declared.metadata.PairsLeft.{PairsLeft}
use Rattle.avro_feeding.specs.declared.metadata.Resume.{Resume}
use Rattle.avro_feeding.specs.declared.metadata.Size.{Size}
use Rattle.avro_feeding.specs.declared.metadata.Stop.{Stop}
use Rattle.avro_feeding.specs.declared.metadata.Stop.TheVariants as stop
use Rattle.avro_feeding.specs.Feeding.{is_short}

-- ---- bytes that end too early

abbrev pub is_early : Fault → Bool
is_early fault.Short = true
is_early _ = false

-- They end in the header.
abbrev pub is_cut_header : {A : Type 0} → Step A → Bool
is_cut_header (Ok h) = false
is_cut_header (Err f) = is_short f.flaw

abbrev pub IsCutHeader : List ℕ → Type 0
IsCutHeader bytes = is_cut_header (header_at MAX_VALUES bytes) ≡ true

-- They end in the rest of the metadata, or in the marker behind it.
abbrev pub is_cut : Read Pairs → Bool
is_cut (Ok x) = nat_lt (length x.1) 16
is_cut (Err f) = is_early f.fault

-- ---- the rest of the metadata

-- the value of a pair
abbrev pub blob_at : Reader (List ℕ)
blob_at = with_count (item_at bytes_at)

abbrev pub pair_at : Reader (List ℕ × List ℕ)
pair_at = entry_at blob_at

-- A block may end behind so many bytes.
abbrev pub fits : Option Size → ℕ → Bool
fits None end = true
fits (Some size) end = size.spelled == 2 * (end - size.front)

abbrev pub size_of : ℕ → Option BlockSize → Option Size
size_of place None = None
size_of place (Some size) = Some (record { spelled = size.spelled; front = place })

-- all pairs of a block that begin behind so many bytes
abbrev pub pairs_of : ℕ → BlockHead → PairsLeft
pairs_of place head = record { names = head.count; size = size_of place head.size }

-- the blocks behind one
abbrev pub behind_pairs : Option Size → ℕ → ℕ → List (List ℕ × List ℕ) × List ℕ × ℕ → Read Pairs
behind_pairs size all fuel xs = if fits size (all - length xs.1) then blocks_at pair_at fuel xs.1 xs.2 else Err (fault_at xs.1 fault.BadLength)

-- the pairs that are left of a block, and the blocks behind it, in so many bytes in all
abbrev pub pairs_at : PairsLeft → ℕ → ℕ → List ℕ → ℕ → Read Pairs
pairs_at left all fuel bytes budget = many_at pair_at left.names bytes budget >>= behind_pairs left.size all fuel

-- what stands from an item of the metadata on
abbrev pub rest_at : Next → ℕ → ℕ → List ℕ → ℕ → Read Pairs
rest_at next.Block all fuel bytes budget = blocks_at pair_at fuel bytes budget
rest_at (next.Name left) all fuel bytes budget = pairs_at left all fuel bytes budget
rest_at (next.Value left) all fuel bytes budget = blob_at bytes budget >>= λ value. pairs_at left all fuel value.1 value.2

-- ---- the place

-- Whatever bytes stand behind the front: where they end too early for what is read from that item on, all end too early for the header.
abbrev pub GoesOn : List ℕ → Next → ℕ → Type 0
GoesOn front item budget = (rest : List ℕ) → (fuel : ℕ) × (is_cut (rest_at item (length (front ++ rest)) fuel rest budget) ≡ true → IsCutHeader (front ++ rest))

-- So many of these bytes are whole items, and reading goes on behind them.
pub record IsResume (bytes : List ℕ) (r : Resume) : Type 0 where
  pub front : List ℕ
  pub rest : List ℕ
  pub parts : bytes ≡ front ++ rest
  pub place : r.place ≡ length front
  pub goes_on : GoesOn front r.next r.budget

abbrev pub AtBlock : List ℕ → ℕ → ℕ → Type 0
AtBlock bytes place budget = IsResume bytes (record { place = place; budget = budget; next = next.Block })

abbrev pub AtName : List ℕ → ℕ → ℕ → PairsLeft → Type 0
AtName bytes place budget left = IsResume bytes (record { place = place; budget = budget; next = next.Name left })

abbrev pub AtValue : List ℕ → ℕ → ℕ → PairsLeft → Type 0
AtValue bytes place budget left = IsResume bytes (record { place = place; budget = budget; next = next.Value left })

-- why reading stops at an item that isn't there
abbrev pub stop_of : Fault → Stop
stop_of fault.Short = stop.Cut
stop_of _ = stop.Judged

-- Where the bytes are said to end in the header, they do.
abbrev pub IsStop : List ℕ → Stop → Type 0
IsStop bytes stop.Cut = IsCutHeader bytes
IsStop bytes stop.Judged = Unit {0}

-- Reading goes on behind one item more, or it stops.
abbrev pub IsStep : List ℕ → Result Resume Stop → Type 0
IsStep bytes (Ok r) = IsResume bytes r
IsStep bytes (Err s) = IsStop bytes s
