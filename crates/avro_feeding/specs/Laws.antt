-- What pieces come to, however the bytes of a container are cut.
use Rattle.std.specs.Prelude.{◌≡◌, ◌⊎◌, ℕ, ◌+◌, Bool, true, false, List, [], ◌++◌, length, IfOk, IfErr, Some, Result, Ok, Err}
use Rattle.std.specs.List.{concat}
use Rattle.avro_schema.specs.Tree.{SchemaTree}
use Rattle.avro_value.specs.declared.api.TheConstants.{MAX_VALUES}
use Rattle.avro_value.specs.Layout.{layout_of}
use Rattle.avro_value.specs.ValueTree.{ValueTree, value_count, total}
use Rattle.avro_container.specs.declared.error.ContainerError.{ContainerError}
use Rattle.avro_container.specs.declared.fault.ContainerFault.{ContainerFault}
use Rattle.avro_container.specs.declared.fault.Flaw.{Flaw}
use Rattle.avro_container.specs.declared.fault.Flaw.TheVariants as flaw
use Rattle.avro_container.specs.Faults.{FaultsInBlock, FaultsInHeader, IsFirstFlaw}
use Rattle.avro_container.specs.Format.{Pairs, Header, HasSchema, IsPlain, Blocks, IsWithin}
use Rattle.avro_container.specs.Laws.{IsRefused, error_of}
use Rattle.avro_feeding.specs.Feeding.{Behind, Place, in_header, in_blocks, Refusal, Fed, nothing_read, fed, fed_all, joined, schema_of_state}

-- However bytes are cut into pieces, these make of nothing what all of the bytes make of it as one.
abbrev pub AnyCut : Type 0
AnyCut = (pieces : List (List ℕ)) → fed_all pieces ≡ fed nothing_read (concat pieces)

-- What `read_container` answers for the bytes, where their pieces come to this, and this is what the end is answered.
pub record IsWholeReading (bytes : List ℕ) (r : Fed) (result : Result (Unit {0}) ContainerError) : Type 0 where
  pub found : IfOk result (λ _. (meta : Pairs) × (t : SchemaTree) × (schema_of_state r.0 ≡ Some t) × IsWithin MAX_VALUES bytes meta t (joined r.1))
  pub only : (meta : Pairs) (t : SchemaTree) (vs : List ValueTree) → IsWithin MAX_VALUES bytes meta t vs → (result ≡ Ok tt) × (joined r.1 ≡ vs)
  pub fault : IfErr result (λ e. IsRefused MAX_VALUES bytes e)
  pub first : (e : ContainerError) → IsRefused MAX_VALUES bytes e → result ≡ Err e

-- ---- what is kept

-- The bytes are a header, whole blocks of these values each, and what stands behind them.
pub record StandsBehind (bytes : List ℕ) (values : List (List ValueTree)) (b : Behind) : Type 0 where
  pub meta : Pairs
  pub header : List ℕ
  pub blocks : List ℕ
  pub parts : bytes ≡ header ++ (blocks ++ b.rest)
  pub is_header : Header MAX_VALUES meta b.marker header
  pub schema : HasSchema meta b.schema
  pub plain : IsPlain meta
  pub are_blocks : Blocks (layout_of b.schema) b.marker (length values) (joined values) blocks
  pub few : b.budget + total value_count (joined values) ≡ MAX_VALUES
  pub offset : b.offset ≡ length header + length blocks

-- The next block's fault is this one. Where there are no bytes, the block is short.
abbrev pub FaultsNext : Behind → ContainerFault → Type 0
FaultsNext b f = FaultsInBlock (layout_of b.schema) b.marker b.rest b.budget f

-- The header is whole: just the bytes behind the last whole block are kept, or those behind the header.
abbrev pub KeepsBehind : List ℕ → List (List ValueTree) → Behind → Type 0
KeepsBehind bytes values b = StandsBehind bytes values b × ((f : ContainerFault) × FaultsNext b f × (f.flaw ≡ flaw.Short))

-- The bytes end inside the header: all of them are kept.
abbrev pub KeepsHeader : List ℕ → List (List ValueTree) → List ℕ → Type 0
KeepsHeader bytes values kept = (kept ≡ bytes) × (values ≡ []) × ((f : ContainerFault) × FaultsInHeader MAX_VALUES bytes f × (f.flaw ≡ flaw.Short))

-- what is kept of the bytes, whose whole blocks had these values
abbrev pub Keeps : List ℕ → List (List ValueTree) → Place → Type 0
Keeps bytes values (in_header kept) = KeepsHeader bytes values kept
Keeps bytes values (in_blocks b) = KeepsBehind bytes values b

-- It is a flaw of the header, or of the schema or the codec that it names.
abbrev pub is_header_flaw : Flaw → Bool
is_header_flaw flaw.BadMagic = true
is_header_flaw flaw.BadMeta = true
is_header_flaw flaw.BadSchema = true
is_header_flaw flaw.Codec = true
is_header_flaw _ = false

-- What is refused is a header, behind which no values were given, or a block behind just those whose values were given.
abbrev pub RefusesNext : List ℕ → List (List ValueTree) → Refusal → Type 0
RefusesNext bytes values r =
    ((values ≡ []) × ((f : ContainerFault) × IsFirstFlaw MAX_VALUES bytes f × (is_header_flaw f.flaw ≡ true) × (r.error ≡ error_of (length bytes) f)))
    ⊎ ((b : Behind) × StandsBehind bytes values b × (r.schema ≡ Some b.schema) × ((f : ContainerFault) × FaultsNext b f × (f.flaw ≡ flaw.Short → ⊥) × (r.error ≡ error_of (length bytes) f)))
