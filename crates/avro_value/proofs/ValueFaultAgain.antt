-- The first fault of a value is what reading gives.
use Rattle.std.proofs.Common.{◌≡◌, ℕ, zero, suc, ◌-◌, ◌<◌, false, List, Err, refl, ap, arith, inl, inr, eqb, ne_eqb}
use Rattle.avro_value.specs.declared.fault.FaultAt.{FaultAt}
use Rattle.avro_value.specs.declared.fault.Fault.TheVariants.{Limit}
use Rattle.avro_value.specs.Layout.{indices, Layout, Layouts, no_layouts, layouts, count_of}
use Rattle.avro_value.specs.ValueTree.{ValueTree, values_of, entries_of, value_count, entry_count}
use Rattle.avro_value.specs.Spelling.{PrefixedText, KeyAndValue, Spells}
use Rattle.avro_value.specs.Faults.{LacksItem, LacksVarint, LacksInt, LacksIndex, LacksBoolean, LacksRun, LacksBytes, LacksText, FaultRelation, FaultsAtFront, CountedAsBegun, FaultsInEntry, FaultsInContent, FaultsInBranch, FaultsInParts, FaultsInValue}
use Rattle.avro_value.specs.Reading.{Item, Reader, item_at, map_reading, boolean_at, int_at, long_at, run_at, bytes_at, text_at, index_at, with_count, entry_at, content_at, branch_at, parts_at, value_at}
use Rattle.avro_value.proofs.ItemLaws.{Index, text_again, index_again}
use Rattle.avro_value.proofs.ReaderLaws.{item_again}
use Rattle.avro_value.proofs.ValueLaws.{nothing, counted_value_again, entry_again, content_again}
use Rattle.avro_value.proofs.FaultAgain.{RefusedAgain, long_refused, int_refused, index_refused, boolean_refused, run_refused, bytes_refused, text_refused}
use Rattle.avro_value.proofs.ReaderFaultAgain.{FaultAgainBy, same_fault, item_refused, all_blocks_refused}

pub begun_refused : {A : Type 0} (read : Reader A) (F : FaultRelation) → FaultAgainBy read F → FaultAgainBy (with_count read) (CountedAsBegun F)
unfolding with_count
begun_refused read F law bytes budget f h = elim h [
  | inl limit ↦ rw limit.0 (ap Err (same_fault bytes Limit f limit.1 limit.2))
  | inr inside ↦
      (let low = inside.0 in
      let some : eqb budget 0 ≡ false = ne_eqb budget 0 (λ z. absurd (omega (arith, z, low))) in
      rw some (law bytes (budget - 1) f inside.1))
]

pub entry_refused : {A : Type 0} (read : Reader A) (F : FaultRelation) → FaultAgainBy read F → FaultAgainBy (entry_at read) (FaultsInEntry F)
unfolding entry_at
entry_refused read F law bytes budget f h = elim h [
  | inl key ↦ rw (item_refused text_at LacksText text_refused bytes budget f key) refl
  | inr b ↦
      (let c = b.6 in
      let same : budget ≡ b.3 = omega (arith, c) in
      rw (b.4, item_again text_at PrefixedText nothing (λ _. refl) text_again b.0 b.1 b.2 budget b.3 b.5 (omega (arith, c)), law b.2 b.3 f b.7) refl)
]

leaf_refused : {A : Type 0} (g : A → ValueTree) (read : List ℕ → Item A) (N : LacksItem) → RefusedAgain read N → (bytes : List ℕ) (budget : ℕ) (f : FaultAt) → FaultsAtFront N bytes budget f → map_reading g (item_at read bytes budget) ≡ Err f
leaf_refused g read N law bytes budget f h = ap (map_reading g) (item_refused read N law bytes budget f h)

mutual
  unfolding content_at branch_at parts_at

  pub content_refused : (l : Layout) → FaultAgainBy (content_at l) (FaultsInContent l)
  content_refused Layout.null bytes budget f h = absurd h
  content_refused Layout.boolean bytes budget f h = leaf_refused ValueTree.boolean boolean_at LacksBoolean boolean_refused bytes budget f h
  content_refused Layout.int bytes budget f h = leaf_refused ValueTree.int int_at LacksInt int_refused bytes budget f h
  content_refused Layout.long bytes budget f h = leaf_refused ValueTree.long long_at LacksVarint long_refused bytes budget f h
  content_refused Layout.float bytes budget f h = leaf_refused ValueTree.float (run_at 4) (LacksRun 4) (run_refused 4) bytes budget f h
  content_refused Layout.double bytes budget f h = leaf_refused ValueTree.double (run_at 8) (LacksRun 8) (run_refused 8) bytes budget f h
  content_refused Layout.bytes bytes budget f h = leaf_refused ValueTree.bytes bytes_at LacksBytes bytes_refused bytes budget f h
  content_refused Layout.text bytes budget f h = leaf_refused ValueTree.text text_at LacksText text_refused bytes budget f h
  content_refused (Layout.fixed_of n) bytes budget f h = leaf_refused ValueTree.fixed (run_at n) (LacksRun n) (run_refused n) bytes budget f h
  content_refused (Layout.enum_of n) bytes budget f h = leaf_refused ValueTree.enum_of (index_at (indices n)) (LacksIndex (indices n)) (index_refused (indices n)) bytes budget f h
  content_refused (Layout.array_of l) bytes budget f h =
      ap (map_reading (λ vs. ValueTree.array_of (values_of vs))) (all_blocks_refused (with_count (content_at l)) (Spells l) value_count (CountedAsBegun (FaultsInContent l)) (counted_value_again (content_at l) (Spells l) (content_again l)) (begun_refused (content_at l) (FaultsInContent l) (content_refused l)) bytes budget f h)
  content_refused (Layout.map_of l) bytes budget f h =
      ap (map_reading (λ es. ValueTree.map_of (entries_of es))) (all_blocks_refused (entry_at (with_count (content_at l))) (KeyAndValue (Spells l)) entry_count (FaultsInEntry (CountedAsBegun (FaultsInContent l))) (entry_again (with_count (content_at l)) (Spells l) (counted_value_again (content_at l) (Spells l) (content_again l)))
      (entry_refused (with_count (content_at l)) (CountedAsBegun (FaultsInContent l)) (begun_refused (content_at l) (FaultsInContent l) (content_refused l))) bytes budget f h)
  content_refused (Layout.union_of ls) bytes budget f h = elim h [
    | inl index ↦ rw (item_refused (index_at (indices (count_of ls))) (LacksIndex (indices (count_of ls))) (index_refused (indices (count_of ls))) bytes budget f index) refl
    | inr b ↦
        (let below = in_branch ls b.0 b.2 budget f b.6 in
        let small = b.4 in
        let i = item_again (index_at (indices (count_of ls))) (Index (indices (count_of ls))) nothing (λ _. refl) (index_again (indices (count_of ls))) b.0 b.1 b.2 budget budget (omega (arith, below, small), b.5) refl in
        rw (b.3, i, branch_refused ls b.0 b.2 budget f b.6) refl)
  ]
  content_refused (Layout.record_of ls) bytes budget f h = ap (map_reading (λ vs. ValueTree.record_of (values_of vs))) (parts_refused ls bytes budget f h)

  branch_refused : (ls : Layouts) (i : ℕ) → FaultAgainBy (branch_at ls i) (FaultsInBranch ls i)
  branch_refused no_layouts i bytes budget f h = absurd h
  branch_refused (layouts l ls) zero bytes budget f h = begun_refused (content_at l) (FaultsInContent l) (content_refused l) bytes budget f h
  branch_refused (layouts l ls) (suc i) bytes budget f h = branch_refused ls i bytes budget f h

  in_branch : (ls : Layouts) (i : ℕ) (bytes : List ℕ) (budget : ℕ) (f : FaultAt) → FaultsInBranch ls i bytes budget f → i < count_of ls
  in_branch no_layouts i bytes budget f h = absurd h
  in_branch (layouts l ls) zero bytes budget f h = omega arith
  in_branch (layouts l ls) (suc i) bytes budget f h = let k = in_branch ls i bytes budget f h in omega (arith, k)

  parts_refused : (ls : Layouts) → FaultAgainBy (parts_at ls) (FaultsInParts ls)
  parts_refused no_layouts bytes budget f h = absurd h
  parts_refused (layouts l ls) bytes budget f h = elim h [
    | inl here ↦ rw (begun_refused (content_at l) (FaultsInContent l) (content_refused l) bytes budget f here) refl
    | inr b ↦
        (let c = b.6 in
        let first = counted_value_again (content_at l) (Spells l) (content_again l) b.0 b.1 b.2 budget b.3 b.5 (omega (arith, c)) in
        rw (b.4, first, parts_refused ls b.2 b.3 f b.7) refl)
  ]

pub value_refused : (l : Layout) → FaultAgainBy (value_at l) (FaultsInValue l)
unfolding value_at
value_refused l = begun_refused (content_at l) (FaultsInContent l) (content_refused l)
