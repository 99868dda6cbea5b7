-- What is wrong with bytes that are no container: the first flaw from the left.
use Rattle.std.specs.Prelude.{◌≡◌, ℕ, ◌+◌, ◌<◌, ◌≤◌, ◌⊎◌, pos, List, ◌++◌, length}
use Rattle.avro_value.specs.declared.fault.Fault.{Fault}
use Rattle.avro_value.specs.declared.fault.Fault.TheVariants.{Short, BadLength, Limit}
use Rattle.avro_value.specs.declared.fault.FaultAt.{FaultAt}
use Rattle.avro_value.specs.Varint.{Long}
use Rattle.avro_schema.specs.Tree.{SchemaTree}
use Rattle.avro_value.specs.Layout.{Layout, layout_of}
use Rattle.avro_value.specs.ValueTree.{ValueTree, value_count, total}
use Rattle.avro_value.specs.Spelling.{Concatenated, LengthPrefixed, KeyAndValue, Spells}
use Rattle.avro_value.specs.Faults.{FaultRelation, FaultsAtFront, CountedAsBegun, FaultsInSomeBlock, FaultsInEntry, FaultsInMany, FaultsInValue, LacksNatural, LacksBytes}
use Rattle.avro_container.specs.declared.fault.Flaw.{Flaw}
use Rattle.avro_container.specs.declared.fault.Flaw.TheVariants as flaw
use Rattle.avro_container.specs.declared.fault.ContainerFault.{ContainerFault}
use Rattle.avro_container.specs.Format.{Pairs, magic, Meta, meta_size, Header, HasSchema, IsPlain, Blocks}

-- The fault is this flaw, at the first of these bytes.
abbrev pub IsFlawAt : Flaw → List ℕ → ContainerFault → Type 0
IsFlawAt what bytes f = (f.flaw ≡ what) × (f.left ≡ length bytes)

-- ---- blocks

-- No count or size is there. Where the bytes end in it, the fault is at the block's first byte.
abbrev pub FaultsInNumber : List ℕ → List ℕ → ContainerFault → Type 0
FaultsInNumber block bytes f = (r : Fault) × LacksNatural BadLength r bytes × (((r ≡ Short) × IsFlawAt flaw.Short block f) ⊎ ((r ≡ Short → ⊥) × IsFlawAt flaw.BadBlock bytes f))

-- An object's fault is that of its first item at fault, but the limit is passed at its first byte.
abbrev pub IsObjectFault : List ℕ → FaultAt → FaultAt → Type 0
IsObjectFault bytes g f = ((g.fault ≡ Limit) × (f.fault ≡ Limit) × (f.left ≡ length bytes)) ⊎ ((g.fault ≡ Limit → ⊥) × (f ≡ g))

abbrev pub FaultsInObject : Layout → FaultRelation
FaultsInObject l bytes budget f = (g : FaultAt) × FaultsInValue l bytes budget g × IsObjectFault bytes g f

-- The objects of a block, of which there are to be n, are at fault before these bytes.
abbrev pub FaultsInObjects : Layout → ℕ → List ℕ → List ℕ → ℕ → ContainerFault → Type 0
FaultsInObjects l n objects after budget f =
    ((g : FaultAt) × FaultsInMany (Spells l) value_count (FaultsInObject l) n objects budget g × (f.flaw ≡ flaw.Value g.fault) × (f.left ≡ g.left + length after))
    ⊎ ((vs : List ValueTree) × (front : List ℕ) × (over : List ℕ) × (objects ≡ front ++ over) × (0 < length over) × (length vs ≡ n) × Concatenated (Spells l) vs front × (total value_count vs ≤ budget) × IsFlawAt flaw.BadBlock (over ++ after) f)

-- a block whose count, size, objects and marker are there
pub record IsWholeBlock (n : ℕ) (objects sync rest : List ℕ) (bytes : List ℕ) : Type 0 where
  pub count : List ℕ
  pub sizes : List ℕ
  pub parts : bytes ≡ count ++ (sizes ++ (objects ++ (sync ++ rest)))
  pub counts : Long (pos n) count
  pub sized : Long (pos (length objects)) sizes
  pub sixteen : length sync ≡ 16

abbrev pub FaultsInBlock : Layout → List ℕ → List ℕ → ℕ → ContainerFault → Type 0
FaultsInBlock l marker bytes budget f =
    FaultsInNumber bytes bytes f
    ⊎ ((n : ℕ) × (count : List ℕ) × (rest : List ℕ) × (bytes ≡ count ++ rest) × Long (pos n) count × FaultsInNumber bytes rest f)
    ⊎ ((n : ℕ) × (s : ℕ) × (count : List ℕ) × (sizes : List ℕ) × (rest : List ℕ) × (bytes ≡ count ++ (sizes ++ rest)) × Long (pos n) count × Long (pos s) sizes × (length rest < s + 16) × IsFlawAt flaw.Short bytes f)
    ⊎ ((n : ℕ) × (objects : List ℕ) × (sync : List ℕ) × (rest : List ℕ) × IsWholeBlock n objects sync rest bytes × FaultsInObjects l n objects (sync ++ rest) budget f)
    ⊎ ((vs : List ValueTree) × (objects : List ℕ) × (sync : List ℕ) × (rest : List ℕ) × IsWholeBlock (length vs) objects sync rest bytes × Concatenated (Spells l) vs objects × (total value_count vs ≤ budget) × (sync ≡ marker → ⊥) × IsFlawAt flaw.BadSync (sync ++ rest) f)

-- in a block behind whole ones
abbrev pub FaultsInBlocks : Layout → List ℕ → List ℕ → ℕ → ContainerFault → Type 0
FaultsInBlocks l marker bytes budget f = (n : ℕ) × (vs : List ValueTree) × (front : List ℕ) × (rest : List ℕ) × (left : ℕ) × (bytes ≡ front ++ rest) × Blocks l marker n vs front × (left + total value_count vs ≡ budget) × (0 < length rest) × FaultsInBlock l marker rest left f

-- ---- the header

-- the first item at fault of a map of bytes
abbrev pub FaultsInMeta : FaultRelation
FaultsInMeta = CountedAsBegun (FaultsInSomeBlock (KeyAndValue LengthPrefixed) (λ e. 1) (FaultsInEntry (CountedAsBegun (FaultsAtFront LacksBytes))))

abbrev pub FaultsInHeader : ℕ → List ℕ → ContainerFault → Type 0
FaultsInHeader limit bytes f =
    ((length bytes < 4) × IsFlawAt flaw.Short bytes f)
    ⊎ ((front : List ℕ) × (rest : List ℕ) × (bytes ≡ front ++ rest) × (length front ≡ 4) × (front ≡ magic → ⊥) × IsFlawAt flaw.BadMagic bytes f)
    ⊎ ((rest : List ℕ) × (g : FaultAt) × (bytes ≡ magic ++ rest) × FaultsInMeta rest limit g × (((g.fault ≡ Short) × IsFlawAt flaw.Short bytes f) ⊎ ((g.fault ≡ Short → ⊥) × (f.flaw ≡ flaw.BadMeta) × (f.left ≡ g.left))))
    ⊎ ((meta : Pairs) × (map : List ℕ) × (rest : List ℕ) × (bytes ≡ magic ++ (map ++ rest)) × Meta meta map × (meta_size meta ≤ limit) × (length rest < 16) × IsFlawAt flaw.Short bytes f)

-- ---- the whole

-- The first flaw of the whole input. The schema is judged before the codec, and both behind the
-- header's marker.
abbrev pub IsFirstFlaw : ℕ → List ℕ → ContainerFault → Type 0
IsFirstFlaw limit bytes f =
    FaultsInHeader limit bytes f
    ⊎ ((meta : Pairs) × (marker : List ℕ) × (header : List ℕ) × (blocks : List ℕ) × (bytes ≡ header ++ blocks) × Header limit meta marker header × ((t : SchemaTree) → HasSchema meta t → ⊥) × IsFlawAt flaw.BadSchema bytes f)
    ⊎ ((meta : Pairs) × (marker : List ℕ) × (header : List ℕ) × (blocks : List ℕ) × (t : SchemaTree) × (bytes ≡ header ++ blocks) × Header limit meta marker header × HasSchema meta t × (IsPlain meta → ⊥) × IsFlawAt flaw.Codec bytes f)
    ⊎ ((meta : Pairs) × (marker : List ℕ) × (header : List ℕ) × (blocks : List ℕ) × (t : SchemaTree) × (bytes ≡ header ++ blocks) × Header limit meta marker header × HasSchema meta t × IsPlain meta × FaultsInBlocks (layout_of t) marker blocks limit f)
