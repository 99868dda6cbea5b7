-- Values as plain trees, in which a Vec is the list of its items.
use Rattle.std.specs.Prelude.{ℕ, ◌+◌, ℤ, Bool, List, [], ◌∷◌}
use Rattle.avro_value.specs.declared.value.Value.{Value, fold-Value}
use Rattle.avro_value.specs.declared.value.Value.TheOpen.{Value-F}

mutual
  pub data ValueTree : Type 0 where
    null : ValueTree
    boolean : Bool → ValueTree
    int : ℤ → ValueTree
    long : ℤ → ValueTree
    float : List ℕ → ValueTree
    double : List ℕ → ValueTree
    bytes : List ℕ → ValueTree
    text : List ℕ → ValueTree
    fixed : List ℕ → ValueTree
    enum_of : (index : ℕ) → ValueTree
    array_of : ValueTrees → ValueTree
    map_of : EntryTrees → ValueTree
    union_of : (index : ℕ) → ValueTree → ValueTree
    record_of : ValueTrees → ValueTree

  pub data ValueTrees : Type 0 where
    no_values : ValueTrees
    value_and : ValueTree → ValueTrees → ValueTrees

  pub data EntryTrees : Type 0 where
    no_entries : EntryTrees
    entry_and : (key : List ℕ) → ValueTree → EntryTrees → EntryTrees

abbrev pub values_of : List ValueTree → ValueTrees
values_of [] = no_values
values_of (v ∷ vs) = value_and v (values_of vs)

abbrev pub entries_of : List (List ℕ × ValueTree) → EntryTrees
entries_of [] = no_entries
entries_of (e ∷ es) = entry_and e.0 e.1 (entries_of es)

abbrev pub value_step : Value-F ValueTree → ValueTree
value_step Value-F.Null = null
value_step (Value-F.Boolean b) = boolean b
value_step (Value-F.Int n) = int n
value_step (Value-F.Long n) = long n
value_step (Value-F.Float bs) = float bs
value_step (Value-F.Double bs) = double bs
value_step (Value-F.Bytes bs) = bytes bs
value_step (Value-F.Text bs) = text bs
value_step (Value-F.Fixed bs) = fixed bs
value_step (Value-F.Enum i) = enum_of i
value_step (Value-F.Array vs) = array_of (values_of vs.items)
value_step (Value-F.Map es) = map_of (entries_of es.items)
value_step (Value-F.Union i v) = union_of i v.value
value_step (Value-F.NullBranch i) = union_of i null
value_step (Value-F.Fields vs) = record_of (values_of vs.items)

abbrev pub value_tree : Value → ValueTree
value_tree = fold-Value ValueTree value_step

abbrev pub entry_tree : List ℕ × Value → List ℕ × ValueTree
entry_tree e = (e.0, value_tree e.1)

-- how many values there are in it, itself among them
abbrev mutual
  pub value_count : ValueTree → ℕ
  value_count (array_of vs) = value_counts vs + 1
  value_count (map_of es) = entry_counts es + 1
  value_count (union_of i v) = value_count v + 1
  value_count (record_of vs) = value_counts vs + 1
  value_count _ = 1

  pub value_counts : ValueTrees → ℕ
  value_counts no_values = 0
  value_counts (value_and v vs) = value_count v + value_counts vs

  pub entry_counts : EntryTrees → ℕ
  entry_counts no_entries = 0
  entry_counts (entry_and k v es) = value_count v + entry_counts es

-- the counts of all of them
abbrev pub total : {A : Type 0} → (A → ℕ) → List A → ℕ
total count [] = 0
total count (x ∷ xs) = count x + total count xs

abbrev pub entry_count : List ℕ × ValueTree → ℕ
entry_count e = value_count e.1

-- how many there are
abbrev pub values_len : ValueTrees → ℕ
values_len no_values = 0
values_len (value_and v vs) = values_len vs + 1

abbrev pub entries_len : EntryTrees → ℕ
entries_len no_entries = 0
entries_len (entry_and key v es) = entries_len es + 1
