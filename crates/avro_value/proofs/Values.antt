-- A value, level by level.
use Rattle.std.proofs.Common.{◌≡◌, ℕ, List, map, Box, Vec, Global, rules}
use Rattle.avro_value.specs.declared.value.Value.{Value, Null, Array, Map, Union, NullBranch, Fields, the_lemmas}
use Rattle.avro_value.specs.ValueTree.{ValueTree, value_tree, entry_tree, values_of, entries_of}

pub value_tree-Null : value_tree Null ≡ ValueTree.null
value_tree-Null = search (rules, the_lemmas)

pub value_tree-Array : (vs : Vec Value Global) → value_tree (Array vs) ≡ ValueTree.array_of (values_of (map value_tree vs.items))
value_tree-Array vs = search (rules, the_lemmas)

pub value_tree-Map : (es : Vec (List ℕ × Value) Global) → value_tree (Map es) ≡ ValueTree.map_of (entries_of (map entry_tree es.items))
value_tree-Map es = search (rules, the_lemmas)

pub value_tree-Union : (i : ℕ) (v : Box Value Global) → value_tree (Union i v) ≡ ValueTree.union_of i (value_tree v.value)
value_tree-Union i v = search (rules, the_lemmas)

pub value_tree-NullBranch : (i : ℕ) → value_tree (NullBranch i) ≡ ValueTree.union_of i ValueTree.null
value_tree-NullBranch i = search (rules, the_lemmas)

pub value_tree-Fields : (vs : Vec Value Global) → value_tree (Fields vs) ≡ ValueTree.record_of (values_of (map value_tree vs.items))
value_tree-Fields vs = search (rules, the_lemmas)
