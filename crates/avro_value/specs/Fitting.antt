-- Which values fit a schema, and what the Rust types of a value make true of each.
use Rattle.std.specs.Prelude.{◌≡◌, ℕ, zero, suc, ◌^◌, ◌<◌, ℤ, FitsSigned, Bool, List, [], ◌∷◌, length, IsUtf8}
use Rattle.std.specs.Int.{w32, w64}
use Rattle.std.specs.List.{AllByRecursion}
use Rattle.avro_value.specs.Layout.{Layout, Layouts, no_layouts, layouts}
use Rattle.avro_value.specs.ValueTree.{ValueTree, ValueTrees, no_values, value_and, EntryTrees, no_entries, entry_and, values_of, entries_of, values_len, entries_len}

-- A value fits a schema that has its shape.
abbrev mutual
  pub Fits : Layout → ValueTree → Type 0
  Fits Layout.null v = v ≡ ValueTree.null
  Fits Layout.boolean v = (b : Bool) × (v ≡ ValueTree.boolean b)
  Fits Layout.int v = (n : ℤ) × (v ≡ ValueTree.int n)
  Fits Layout.long v = (n : ℤ) × (v ≡ ValueTree.long n)
  Fits Layout.float v = (bs : List ℕ) × (v ≡ ValueTree.float bs)
  Fits Layout.double v = (bs : List ℕ) × (v ≡ ValueTree.double bs)
  Fits Layout.bytes v = (bs : List ℕ) × (v ≡ ValueTree.bytes bs)
  Fits Layout.text v = (bs : List ℕ) × (v ≡ ValueTree.text bs)
  Fits (Layout.fixed_of n) v = (bs : List ℕ) × (v ≡ ValueTree.fixed bs) × (length bs ≡ n)
  Fits (Layout.enum_of n) v = (i : ℕ) × (v ≡ ValueTree.enum_of i) × (i < n)
  Fits (Layout.array_of l) v = (vs : List ValueTree) × (v ≡ ValueTree.array_of (values_of vs)) × AllByRecursion (Fits l) vs
  Fits (Layout.map_of l) v = (es : List (List ℕ × ValueTree)) × (v ≡ ValueTree.map_of (entries_of es)) × AllByRecursion (λ e. Fits l e.1) es
  Fits (Layout.union_of ls) v = (i : ℕ) × (inner : ValueTree) × (v ≡ ValueTree.union_of i inner) × FitsBranch ls i inner
  Fits (Layout.record_of ls) v = (vs : List ValueTree) × (v ≡ ValueTree.record_of (values_of vs)) × FitsParts ls vs

  -- the branch of that index
  pub FitsBranch : Layouts → ℕ → ValueTree → Type 0
  FitsBranch no_layouts i v = ⊥
  FitsBranch (layouts l ls) zero v = Fits l v
  FitsBranch (layouts l ls) (suc i) v = FitsBranch ls i v

  -- each its own
  pub FitsParts : Layouts → List ValueTree → Type 0
  FitsParts no_layouts vs = vs ≡ []
  FitsParts (layouts l ls) vs = (v : ValueTree) × (others : List ValueTree) × (vs ≡ v ∷ others) × Fits l v × FitsParts ls others

-- text that memory holds
abbrev pub IsText : List ℕ → Type 0
IsText bytes = IsUtf8 bytes × (length bytes < 2 ^ 63)

-- The numbers are in the ranges of their types, texts are UTF-8, and memory holds the value.
abbrev mutual
  pub IsSound : ValueTree → Type 0
  IsSound ValueTree.null = Unit {0}
  IsSound (ValueTree.boolean b) = Unit {0}
  IsSound (ValueTree.int n) = FitsSigned w32 n
  IsSound (ValueTree.long n) = FitsSigned w64 n
  IsSound (ValueTree.float bs) = length bs ≡ 4
  IsSound (ValueTree.double bs) = length bs ≡ 8
  IsSound (ValueTree.bytes bs) = length bs < 2 ^ 63
  IsSound (ValueTree.text bs) = IsText bs
  IsSound (ValueTree.fixed bs) = Unit {0}
  IsSound (ValueTree.enum_of i) = i < 2 ^ 32
  IsSound (ValueTree.array_of vs) = (values_len vs < 2 ^ 63) × AreSound vs
  IsSound (ValueTree.map_of es) = (entries_len es < 2 ^ 63) × EntriesAreSound es
  IsSound (ValueTree.union_of i v) = (i < 2 ^ 32) × IsSound v
  IsSound (ValueTree.record_of vs) = AreSound vs

  pub AreSound : ValueTrees → Type 0
  AreSound no_values = Unit {0}
  AreSound (value_and v vs) = IsSound v × AreSound vs

  pub EntriesAreSound : EntryTrees → Type 0
  EntriesAreSound no_entries = Unit {0}
  EntriesAreSound (entry_and key v es) = IsText key × IsSound v × EntriesAreSound es
