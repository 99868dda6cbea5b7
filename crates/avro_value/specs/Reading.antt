-- Reading from left to right, with the first fault that is met.
use Rattle.std.specs.Prelude.{◌≡◌, ℕ, zero, suc, ◌+◌, ◌-◌, ◌*◌, ◌/◌, ◌%◌, ◌^◌, ℤ, Bool, false, true, List, [], ◌∷◌, ◌++◌, length, take, drop, Option, Some, None, Result, Ok, Err, nat_lt, ◌==◌, if◌then◌else◌}
use Rattle.std.specs.Str.{is_utf8}
use Rattle.avro_value.specs.declared.fault.Fault.{Fault}
use Rattle.avro_value.specs.declared.fault.Fault.TheVariants.{Short, BadLong, BadLength, BadIndex, BadText, BadBool, Limit}
use Rattle.avro_value.specs.declared.fault.FaultAt.{FaultAt}
use Rattle.lake_basics.specs.Outcome.{◌>>=◌}
use Rattle.avro_value.specs.declared.input.BlockHead.{BlockHead}
use Rattle.avro_value.specs.Varint.{zigzag_value}
use Rattle.avro_value.specs.Layout.{indices, Layout, Layouts, no_layouts, layouts, count_of}
use Rattle.avro_value.specs.ValueTree.{ValueTree, values_of, entries_of}

-- ---- items: a value and the bytes after it, or what is wrong with the item

abbrev pub Item : Type 0 → Type 0
Item A = Result (A × List ℕ) Fault

-- a number in at most so many groups
unfoldable pub varint_in : ℕ → List ℕ → Item ℕ
varint_in zero bytes = Err BadLong
varint_in (suc k) [] = Err Short
varint_in (suc k) (b ∷ bs) = if nat_lt b 128 then Ok (b, bs) else (varint_in k bs >>= λ x. Ok (b % 128 + 128 * x.0, x.1))

unfoldable pub varint_at : List ℕ → Item ℕ
varint_at bytes = do
  z ← varint_in 10 bytes
  if nat_lt z.0 (2 ^ 64) then Ok z else Err BadLong

unfoldable pub long_at : List ℕ → Item ℤ
long_at bytes = do
  z ← varint_at bytes
  Ok (zigzag_value z.0, z.1)

unfoldable pub int_at : List ℕ → Item ℤ
int_at bytes = do
  z ← varint_at bytes
  if nat_lt z.0 (2 ^ 32) then Ok (zigzag_value z.0, z.1) else Err BadLong

-- a number from 0 on, or that fault
unfoldable pub natural_at : Fault → List ℕ → Item ℕ
natural_at negative bytes = do
  z ← varint_at bytes
  if z.0 % 2 == 0 then Ok (z.0 / 2, z.1) else Err negative

unfoldable pub index_at : ℕ → List ℕ → Item ℕ
index_at count bytes = do
  i ← natural_at BadIndex bytes
  if nat_lt i.0 count then Ok i else Err BadIndex

unfoldable pub boolean_at : List ℕ → Item Bool
boolean_at [] = Err Short
boolean_at (zero ∷ bytes) = Ok (false, bytes)
boolean_at (suc zero ∷ bytes) = Ok (true, bytes)
boolean_at (suc (suc b) ∷ bytes) = Err BadBool

-- so many bytes
unfoldable pub run_at : ℕ → List ℕ → Item (List ℕ)
run_at n bytes = if nat_lt (length bytes) n then Err Short else Ok (take n bytes, drop n bytes)

unfoldable pub bytes_at : List ℕ → Item (List ℕ)
bytes_at bytes = do
  n ← natural_at BadLength bytes
  run_at n.0 n.1

unfoldable pub text_at : List ℕ → Item (List ℕ)
text_at bytes = do
  run ← bytes_at bytes
  if is_utf8 run.0 then Ok run else Err BadText

-- ---- values: what is read, the bytes after it, and how many more values may be made

abbrev pub Read : Type 0 → Type 0
Read A = Result (A × List ℕ × ℕ) FaultAt

abbrev pub Reader : Type 0 → Type 0
Reader A = List ℕ → ℕ → Read A

-- the fault of the item at the front of the bytes
abbrev pub fault_at : List ℕ → Fault → FaultAt
fault_at bytes r = record { fault = r; left = length bytes }

-- an item at the front of the bytes, and what follows
abbrev pub item_reading : {A : Type 0} → List ℕ → ℕ → Item A → Read A
item_reading bytes budget (Ok x) = Ok (x.0, x.1, budget)
item_reading bytes budget (Err r) = Err (fault_at bytes r)

abbrev pub item_at : {A : Type 0} → (List ℕ → Item A) → Reader A
item_at read bytes budget = item_reading bytes budget (read bytes)

abbrev pub map_reading : {A B : Type 0} → (A → B) → Read A → Read B
map_reading f r = r >>= λ x. Ok (f x.0, x.1, x.2)

-- so many of them
unfoldable pub many_at : {A : Type 0} → Reader A → ℕ → Reader (List A)
many_at read zero bytes budget = Ok ([], bytes, budget)
many_at read (suc n) bytes budget = do
  x ← read bytes budget
  xs ← many_at read n x.1 x.2
  Ok (x.0 ∷ xs.0, xs.1, xs.2)

-- the size that stands before that many items
unfoldable pub sized_at : ℕ → Reader (Option BlockHead)
sized_at n bytes budget = do
  size ← item_at varint_at bytes budget
  Ok (Some (record { count = n; size = Some (record { spelled = size.0; left = length bytes; items = length size.1 }) }), size.1, size.2)

-- What stands before a block's items, or None behind the last block.
unfoldable pub block_at : Reader (Option BlockHead)
block_at bytes budget = do
  z ← item_at varint_at bytes budget
  if z.0 == 0 then Ok (None, z.1, z.2) else (if z.0 % 2 == 0 then Ok (Some (record { count = z.0 / 2; size = None }), z.1, z.2) else (if z.0 == 2 ^ 64 - 1 then Err (fault_at bytes BadLength) else sized_at (z.0 / 2 + 1) z.1 z.2))

-- The block's items end where these bytes begin.
unfoldable pub block_ends : BlockHead → List ℕ → Result (Unit {0}) FaultAt
block_ends block bytes = elim block.size [
  | None ↦ Ok tt
  | Some size ↦ if size.spelled == 2 * (size.items - length bytes) then Ok tt else Err (record { fault = BadLength; left = size.left })
]

-- the items of the next block, or None behind the last block
unfoldable pub one_block_at : {A : Type 0} → Reader A → Reader (Option (List A))
one_block_at read bytes budget = block_at bytes budget >>= λ head. elim head.0 [
  | None ↦ Ok (None, head.1, head.2)
  | Some block ↦ many_at read block.count head.1 head.2 >>= λ xs. block_ends block xs.1 >>= λ _. Ok (Some xs.0, xs.1, xs.2)
]

-- the items of all blocks, of which there are fewer than fuel
unfoldable pub blocks_at : {A : Type 0} → Reader A → ℕ → Reader (List A)
blocks_at read zero bytes budget = Err (fault_at bytes Short)
blocks_at read (suc fuel) bytes budget = one_block_at read bytes budget >>= λ block. elim block.0 [
  | None ↦ Ok ([], block.1, block.2)
  | Some xs ↦ blocks_at read fuel block.1 block.2 >>= λ more. Ok (xs ++ more.0, more.1, more.2)
]

-- Each block takes a byte at least.
unfoldable pub all_blocks_at : {A : Type 0} → Reader A → Reader (List A)
all_blocks_at read bytes budget = blocks_at read (length bytes + 1) bytes budget

-- A value counts as soon as it begins.
unfoldable pub with_count : {A : Type 0} → Reader A → Reader A
with_count read bytes budget = if budget == 0 then Err (fault_at bytes Limit) else read bytes (budget - 1)

unfoldable pub entry_at : {A : Type 0} → Reader A → Reader (List ℕ × A)
entry_at read bytes budget = do
  key ← item_at text_at bytes budget
  value ← read key.1 key.2
  Ok ((key.0, value.0), value.1, value.2)

unfoldable mutual
  pub content_at : Layout → Reader ValueTree
  content_at Layout.null bytes budget = Ok (ValueTree.null, bytes, budget)
  content_at Layout.boolean bytes budget = map_reading ValueTree.boolean (item_at boolean_at bytes budget)
  content_at Layout.int bytes budget = map_reading ValueTree.int (item_at int_at bytes budget)
  content_at Layout.long bytes budget = map_reading ValueTree.long (item_at long_at bytes budget)
  content_at Layout.float bytes budget = map_reading ValueTree.float (item_at (run_at 4) bytes budget)
  content_at Layout.double bytes budget = map_reading ValueTree.double (item_at (run_at 8) bytes budget)
  content_at Layout.bytes bytes budget = map_reading ValueTree.bytes (item_at bytes_at bytes budget)
  content_at Layout.text bytes budget = map_reading ValueTree.text (item_at text_at bytes budget)
  content_at (Layout.fixed_of n) bytes budget = map_reading ValueTree.fixed (item_at (run_at n) bytes budget)
  content_at (Layout.enum_of n) bytes budget = map_reading ValueTree.enum_of (item_at (index_at (indices n)) bytes budget)
  content_at (Layout.array_of l) bytes budget = map_reading (λ vs. ValueTree.array_of (values_of vs)) (all_blocks_at (with_count (content_at l)) bytes budget)
  content_at (Layout.map_of l) bytes budget = map_reading (λ es. ValueTree.map_of (entries_of es)) (all_blocks_at (entry_at (with_count (content_at l))) bytes budget)
  content_at (Layout.union_of ls) bytes budget = item_at (index_at (indices (count_of ls))) bytes budget >>= λ i. map_reading (ValueTree.union_of i.0) (branch_at ls i.0 i.1 i.2)
  content_at (Layout.record_of ls) bytes budget = map_reading (λ vs. ValueTree.record_of (values_of vs)) (parts_at ls bytes budget)

  -- the value of the branch of that index
  pub branch_at : Layouts → ℕ → Reader ValueTree
  branch_at no_layouts i bytes budget = Err (fault_at bytes BadIndex)
  branch_at (layouts l ls) zero bytes budget = with_count (content_at l) bytes budget
  branch_at (layouts l ls) (suc i) bytes budget = branch_at ls i bytes budget

  -- a value of each
  pub parts_at : Layouts → Reader (List ValueTree)
  parts_at no_layouts bytes budget = Ok ([], bytes, budget)
  parts_at (layouts l ls) bytes budget = with_count (content_at l) bytes budget >>= λ v. parts_at ls v.1 v.2 >>= λ vs. Ok (v.0 ∷ vs.0, vs.1, vs.2)

unfoldable pub union_at : Layouts → Reader ValueTree
union_at ls bytes budget = item_at (index_at (indices (count_of ls))) bytes budget >>= λ i. map_reading (ValueTree.union_of i.0) (branch_at ls i.0 i.1 i.2)

unfoldable pub value_at : Layout → Reader ValueTree
value_at l = with_count (content_at l)

-- what was read before, and what is still read
abbrev pub read_behind : {A : Type 0} → List A → Read (List A) → Read (List A)
read_behind front = map_reading (λ xs. front ++ xs)

-- the block after front, and whether there was one
abbrev pub with_block : {A : Type 0} → List A → Read (Option (List A)) → Result (Bool × List A × List ℕ × ℕ) FaultAt
with_block front r = r >>= λ block. elim block.0 [
  | None ↦ Ok (false, front, block.1, block.2)
  | Some xs ↦ Ok (true, front ++ xs, block.1, block.2)
]

-- ---- what the code answers

-- What a function that takes no memory returned, seen by view, is what reading gives.
abbrev pub GivesAlways : {X Y E : Type 0} → (X → Y) → Result X E → Result Y E → Type 0
GivesAlways view (Ok x) read = read ≡ Ok (view x)
GivesAlways view (Err e) read = read ≡ Err e
