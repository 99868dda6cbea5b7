-- Which item is the first at fault, and how.
use Rattle.std.specs.Prelude.{◌≡◌, ℕ, zero, suc, ◌+◌, ◌-◌, ◌^◌, ◌<◌, ◌≤◌, ◌⊎◌, ℤ, pos, negsuc, neg_ℤ, FitsSigned, List, [], ◌∷◌, ◌++◌, length, IsUtf8}
use Rattle.std.specs.Int.{w32}
use Rattle.std.specs.List.{AllByRecursion}
use Rattle.avro_value.specs.declared.fault.FaultAt.{FaultAt}
use Rattle.avro_value.specs.declared.fault.Fault.{Fault}
use Rattle.avro_value.specs.declared.fault.Fault.TheVariants.{Short, BadLong, BadLength, BadIndex, BadText, BadBool, Limit}
use Rattle.avro_value.specs.Varint.{ContinuesToLast, varint_value, Long}
use Rattle.avro_value.specs.Layout.{indices, Layout, Layouts, no_layouts, layouts, count_of}
use Rattle.avro_value.specs.ValueTree.{value_count, total, entry_count}
use Rattle.avro_value.specs.Spelling.{Spelling, Concatenated, LengthPrefixed, PrefixedText, Block, KeyAndValue, Spells}

-- ---- items that aren't spelled at the front of the bytes, and their refusals

abbrev pub LacksItem : Type 1
LacksItem = Fault → List ℕ → Type 0

-- The bytes begin with such an item.
abbrev pub Begins : (List ℕ → Type 0) → List ℕ → Type 0
Begins P bytes = (front : List ℕ) × (rest : List ℕ) × (bytes ≡ front ++ rest) × P front

-- ten bytes that don't end a number, or a number of more than 64 bits
abbrev pub IsOverlongVarint : List ℕ → Type 0
IsOverlongVarint front = (AllByRecursion (λ b. 128 ≤ b) front × (length front ≡ 10)) ⊎ (ContinuesToLast front × (length front ≤ 10) × (2 ^ 64 ≤ varint_value front))

abbrev pub LacksVarint : LacksItem
LacksVarint r bytes = ((r ≡ Short) × AllByRecursion (λ b. 128 ≤ b) bytes × (length bytes < 10)) ⊎ ((r ≡ BadLong) × Begins IsOverlongVarint bytes)

abbrev pub LacksInt : LacksItem
LacksInt r bytes = LacksVarint r bytes ⊎ ((r ≡ BadLong) × (n : ℤ) × (FitsSigned w32 n → ⊥) × Begins (Long n) bytes)

-- no number from 0 on
abbrev pub LacksNatural : Fault → LacksItem
LacksNatural negative r bytes = LacksVarint r bytes ⊎ ((r ≡ negative) × (k : ℕ) × Begins (Long (negsuc k)) bytes)

abbrev pub LacksIndex : ℕ → LacksItem
LacksIndex count r bytes = LacksNatural BadIndex r bytes ⊎ ((r ≡ BadIndex) × (i : ℕ) × (count ≤ i) × Begins (Long (pos i)) bytes)

abbrev pub LacksCount : LacksItem
LacksCount r bytes = LacksVarint r bytes ⊎ ((r ≡ BadLength) × Begins (Long (neg_ℤ (pos (2 ^ 63)))) bytes)

abbrev pub LacksBoolean : LacksItem
LacksBoolean r bytes = ((r ≡ Short) × (bytes ≡ [])) ⊎ ((r ≡ BadBool) × (b : ℕ) × (rest : List ℕ) × (1 < b) × (bytes ≡ b ∷ rest))

abbrev pub LacksRun : ℕ → LacksItem
LacksRun n r bytes = (r ≡ Short) × (length bytes < n)

abbrev pub LacksBytes : LacksItem
LacksBytes r bytes = LacksNatural BadLength r bytes ⊎ ((r ≡ Short) × (n : ℕ) × (front : List ℕ) × (rest : List ℕ) × (bytes ≡ front ++ rest) × Long (pos n) front × (length rest < n))

abbrev pub LacksText : LacksItem
LacksText r bytes = LacksBytes r bytes ⊎ ((r ≡ BadText) × (run : List ℕ) × (IsUtf8 run → ⊥) × Begins (LengthPrefixed run) bytes)

-- ---- the first item at fault in bytes of which so many values may still be made

abbrev pub FaultRelation : Type 1
FaultRelation = List ℕ → ℕ → FaultAt → Type 0

abbrev pub FaultsAtFront : LacksItem → FaultRelation
FaultsAtFront N bytes budget f = N f.fault bytes × (f.left ≡ length bytes)

-- It comes behind what is spelled, and counted.
abbrev pub FaultsBehind : {A : Type 0} → Spelling A → (A → ℕ) → FaultRelation → FaultRelation
FaultsBehind P count F bytes budget f = (x : _) × (front : List ℕ) × (rest : List ℕ) × (left : ℕ) × (bytes ≡ front ++ rest) × P x front × (left + count x ≡ budget) × F rest left f

-- It is in one of so many values, behind fewer of them.
abbrev pub FaultsInMany : {A : Type 0} → Spelling A → (A → ℕ) → FaultRelation → ℕ → FaultRelation
FaultsInMany P count F n = FaultsBehind (λ xs front. (length xs < n) × Concatenated P xs front) (total count) F

-- what a block may begin with
abbrev pub Count : Spelling ℕ
Count n front = (0 < n) × (n < 2 ^ 63) × Long (pos n) front

abbrev pub NegativeCount : Spelling ℕ
NegativeCount n front = (0 < n) × (n < 2 ^ 63) × Long (neg_ℤ (pos n)) front

-- the items are spelled, but not in as many bytes as the size says
abbrev pub MisstatesSize : {A : Type 0} → Spelling A → (A → ℕ) → FaultRelation
MisstatesSize P count bytes budget f = (xs : List _) × (head : List ℕ) × (sizes : List ℕ) × (items : List ℕ) × (rest : List ℕ) × (n : ℤ) × (left : ℕ)
    × (bytes ≡ head ++ (sizes ++ (items ++ rest))) × NegativeCount (length xs) head × Long n sizes × (n ≡ pos (length items) → ⊥) × Concatenated P xs items × (left + total count xs ≡ budget)
    × (f.fault ≡ BadLength) × (f.left ≡ length (sizes ++ (items ++ rest)))

abbrev pub FaultsInBlock : {A : Type 0} → Spelling A → (A → ℕ) → FaultRelation → FaultRelation
FaultsInBlock P count F bytes budget f =
    FaultsAtFront LacksCount bytes budget f
    ⊎ ((n : ℕ) × (front : List ℕ) × (rest : List ℕ) × (bytes ≡ front ++ rest) × Count n front × FaultsInMany P count F n rest budget f)
    ⊎ ((n : ℕ) × (front : List ℕ) × (rest : List ℕ) × (bytes ≡ front ++ rest) × NegativeCount n front × FaultsAtFront LacksVarint rest budget f)
    ⊎ ((n : ℕ) × (front : List ℕ) × (sizes : List ℕ) × (rest : List ℕ) × (z : ℤ) × (bytes ≡ front ++ (sizes ++ rest)) × NegativeCount n front × Long z sizes × FaultsInMany P count F n rest budget f)
    ⊎ MisstatesSize P count bytes budget f

-- in one of the first n blocks
abbrev pub FaultsInBlocks : {A : Type 0} → Spelling A → (A → ℕ) → FaultRelation → ℕ → FaultRelation
FaultsInBlocks P count F zero bytes budget f = ⊥
FaultsInBlocks P count F (suc n) bytes budget f = FaultsInBlock P count F bytes budget f ⊎ FaultsBehind (Block P) (total count) (FaultsInBlocks P count F n) bytes budget f

abbrev pub FaultsInSomeBlock : {A : Type 0} → Spelling A → (A → ℕ) → FaultRelation → FaultRelation
FaultsInSomeBlock P count F bytes budget f = (n : ℕ) × FaultsInBlocks P count F n bytes budget f

-- A value counts as soon as it begins.
abbrev pub CountedAsBegun : FaultRelation → FaultRelation
CountedAsBegun F bytes budget f = ((budget ≡ 0) × (f.fault ≡ Limit) × (f.left ≡ length bytes)) ⊎ ((0 < budget) × F bytes (budget - 1) f)

abbrev pub FaultsInEntry : FaultRelation → FaultRelation
FaultsInEntry F bytes budget f = FaultsAtFront LacksText bytes budget f ⊎ FaultsBehind PrefixedText (λ _. 0) F bytes budget f

abbrev mutual
  pub FaultsInContent : Layout → List ℕ → ℕ → FaultAt → Type 0
  FaultsInContent Layout.null bytes budget f = ⊥
  FaultsInContent Layout.boolean bytes budget f = FaultsAtFront LacksBoolean bytes budget f
  FaultsInContent Layout.int bytes budget f = FaultsAtFront LacksInt bytes budget f
  FaultsInContent Layout.long bytes budget f = FaultsAtFront LacksVarint bytes budget f
  FaultsInContent Layout.float bytes budget f = FaultsAtFront (LacksRun 4) bytes budget f
  FaultsInContent Layout.double bytes budget f = FaultsAtFront (LacksRun 8) bytes budget f
  FaultsInContent Layout.bytes bytes budget f = FaultsAtFront LacksBytes bytes budget f
  FaultsInContent Layout.text bytes budget f = FaultsAtFront LacksText bytes budget f
  FaultsInContent (Layout.fixed_of n) bytes budget f = FaultsAtFront (LacksRun n) bytes budget f
  FaultsInContent (Layout.enum_of n) bytes budget f = FaultsAtFront (LacksIndex (indices n)) bytes budget f
  FaultsInContent (Layout.array_of l) bytes budget f = FaultsInSomeBlock (Spells l) value_count (CountedAsBegun (FaultsInContent l)) bytes budget f
  FaultsInContent (Layout.map_of l) bytes budget f = FaultsInSomeBlock (KeyAndValue (Spells l)) entry_count (FaultsInEntry (CountedAsBegun (FaultsInContent l))) bytes budget f
  FaultsInContent (Layout.union_of ls) bytes budget f = FaultsAtFront (LacksIndex (indices (count_of ls))) bytes budget f ⊎ ((i : ℕ) × (front : List ℕ) × (rest : List ℕ) × (bytes ≡ front ++ rest) × (i < 2 ^ 32) × Long (pos i) front × FaultsInBranch ls i rest budget f)
  FaultsInContent (Layout.record_of ls) bytes budget f = FaultsInParts ls bytes budget f

  pub FaultsInBranch : Layouts → ℕ → List ℕ → ℕ → FaultAt → Type 0
  FaultsInBranch no_layouts i bytes budget f = ⊥
  FaultsInBranch (layouts l ls) zero bytes budget f = CountedAsBegun (FaultsInContent l) bytes budget f
  FaultsInBranch (layouts l ls) (suc i) bytes budget f = FaultsInBranch ls i bytes budget f

  pub FaultsInParts : Layouts → List ℕ → ℕ → FaultAt → Type 0
  FaultsInParts no_layouts bytes budget f = ⊥
  FaultsInParts (layouts l ls) bytes budget f = CountedAsBegun (FaultsInContent l) bytes budget f ⊎ FaultsBehind (Spells l) value_count (FaultsInParts ls) bytes budget f

abbrev pub FaultsInValue : Layout → FaultRelation
FaultsInValue l = CountedAsBegun (FaultsInContent l)
