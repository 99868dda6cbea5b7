-- What is read is sound: its decimals are in range, and the columns of each struct have names of their own.
use Rattle.std.proofs.Common.{arith}
use Rattle.serde_json.specs.Data.{Data, Items}
use Rattle.table_history.specs.TypeTree as tree
use Rattle.table_history.specs.TypeTree.{TypeTree, ColumnTrees, no_columns, column}
use Rattle.schema_delta.specs.DeltaSpelling.{IsDeltaType, AreDeltaColumns}
use Rattle.table_history.specs.Sound.{IsSoundType, AreSound}

mutual
  pub delta_sound : (t : TypeTree) (d : Data) → IsDeltaType t d → IsSoundType t
  delta_sound tree.boolean d is = tt
  delta_sound tree.byte d is = tt
  delta_sound tree.short d is = tt
  delta_sound tree.int d is = tt
  delta_sound tree.long d is = tt
  delta_sound tree.float d is = tt
  delta_sound tree.double d is = tt
  delta_sound tree.text d is = tt
  delta_sound tree.binary d is = tt
  delta_sound tree.date d is = tt
  delta_sound tree.timestamp d is = tt
  delta_sound tree.timestamp_ntz d is = tt
  delta_sound (tree.decimal p s) d is = let text = is.2 in (text.some, (let most = text.most in omega (arith, most)), text.within)
  delta_sound (tree.struct_of cs) d is = (is.5, delta_columns_sound cs is.1 is.6)
  delta_sound (tree.list_of t b) d is = delta_sound t is.1 is.6
  delta_sound (tree.map_of k v b) d is = (delta_sound k is.1 is.8, delta_sound v is.2 is.9)

  delta_columns_sound : (cs : ColumnTrees) (ds : Items) → AreDeltaColumns cs ds → AreSound cs
  delta_columns_sound no_columns ds are = tt
  delta_columns_sound (column n t b cs) ds are = (delta_sound t are.1 are.7, delta_columns_sound cs are.2 are.8)
