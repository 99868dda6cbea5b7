-- Which item is at fault where a value is refused.
use Rattle.std.proofs.Common.{◌≡◌, ℕ, zero, suc, ◌-◌, ◌<◌, Bool, true, false, cond, List, ◌∷◌, length, Ok, Err, refl, ap, subst, arith, inl, inr, eqb}
use Rattle.std.proofs.lemmas.Bool.{eqb-true}
use Rattle.std.proofs.lemmas.List.{length-append}
use Rattle.avro_value.specs.declared.fault.FaultAt.{FaultAt}
use Rattle.avro_value.specs.declared.fault.Fault.TheVariants.{Limit}
use Rattle.avro_value.specs.Layout.{indices, Layout, Layouts, no_layouts, layouts, count_of}
use Rattle.avro_value.specs.ValueTree.{ValueTree, values_of, entries_of, value_count, entry_count}
use Rattle.avro_value.specs.Spelling.{PrefixedText, KeyAndValue, Spells}
use Rattle.avro_value.specs.Faults.{LacksItem, LacksVarint, LacksInt, LacksIndex, LacksBoolean, LacksRun, LacksBytes, LacksText, FaultRelation, FaultsAtFront, FaultsInSomeBlock, CountedAsBegun, FaultsInEntry, FaultsInContent, FaultsInBranch, FaultsInParts, FaultsInValue}
use Rattle.lake_basics.specs.Outcome.{◌>>=◌}
use Rattle.avro_value.specs.Reading.{Item, Read, Reader, item_at, fault_at, map_reading, boolean_at, int_at, long_at, run_at, bytes_at, text_at, index_at, all_blocks_at, with_count, entry_at, content_at, branch_at, parts_at, value_at}
use Rattle.avro_value.proofs.ItemLaws.{text_takes}
use Rattle.avro_value.proofs.ReaderLaws.{item_takes}
use Rattle.avro_value.proofs.ValueLaws.{counted_value_takes, entry_takes, content_takes, index_of}
use Rattle.avro_value.proofs.FaultLaws.{bind_err, err_is, Refuses, long_refuses, int_refuses, index_refuses, boolean_refuses, run_refuses, bytes_refuse, text_refuses}
use Rattle.avro_value.proofs.ReaderFaults.{FaultBy, FaultsBy, item_faults, mapped_err, all_blocks_fault}

begun_faults_at : {A : Type 0} (read : Reader A) (F : FaultRelation) → FaultsBy read F → (bytes : List ℕ) (budget : ℕ) (f : FaultAt) (b : Bool) → eqb budget 0 ≡ b → ◌≡◌ {A = Read A} (cond {A = Read A} b (Err (fault_at bytes Limit)) (read bytes (budget - 1))) (Err f) → FaultBy (CountedAsBegun F) bytes budget f
begun_faults_at read F law bytes budget f true h e = subst (λ (g : FaultAt). FaultBy (CountedAsBegun F) bytes budget g) (err_is (fault_at bytes Limit) f e) (record { within = omega arith; fault = inl (eqb-true _ _ h, refl, refl) })
begun_faults_at read F law bytes budget f false h e = (let t = law bytes (budget - 1) f e in record { within = t.within; fault = inr (some budget h, t.fault) })
  where
    some : (n : ℕ) → eqb n 0 ≡ false → 0 < n
    some zero g = absurd cc
    some (suc n) g = omega arith

pub begun_faults : {A : Type 0} (read : Reader A) (F : FaultRelation) → FaultsBy read F → FaultsBy (with_count read) (CountedAsBegun F)
unfolding with_count
begun_faults read F law bytes budget f e = begun_faults_at read F law bytes budget f _ refl e

pub entry_faults : {A : Type 0} (read : Reader A) (F : FaultRelation) → FaultsBy read F → FaultsBy (entry_at read) (FaultsInEntry F)
unfolding entry_at
entry_faults read F law bytes budget f e = elim (bind_err (item_at text_at bytes budget) (λ key. read key.1 key.2 >>= λ value. Ok ((key.0, value.0), value.1, value.2)) f e) [
  | inl failed ↦ (let h = item_faults text_at LacksText text_refuses bytes budget f failed in record { within = h.within; fault = inl h.fault })
  | inr done ↦
      (let k = item_takes text_at PrefixedText (λ _. 0) (λ _. refl) text_takes bytes budget done.0 done.1 in
      let c = k.counted in
      elim (bind_err (read done.0.1 done.0.2) (λ value. Ok ((done.0.0, value.0), value.1, value.2)) f done.2) [
        | inl failed ↦
            (let h = law done.0.1 done.0.2 f failed in
            let w = h.within in
            record {
              within = omega (arith, w, ap length k.parts, length-append k.front done.0.1);
              fault = inr (done.0.0, k.front, done.0.1, done.0.2, k.parts, k.spelled, omega (arith, c), h.fault);
            })
        | inr more ↦ absurd (let m = more.2 in cc)
      ])
]

leaf_faults : {A : Type 0} (g : A → ValueTree) (read : List ℕ → Item A) (N : LacksItem) → Refuses read N → (bytes : List ℕ) (budget : ℕ) (f : FaultAt) → map_reading g (item_at read bytes budget) ≡ Err f → FaultBy (FaultsAtFront N) bytes budget f
leaf_faults g read N law bytes budget f e = item_faults read N law bytes budget f (mapped_err g (item_at read bytes budget) f e)

-- the same facts under another name
faulted : (F G : FaultRelation) (bytes : List ℕ) (budget : ℕ) (f : FaultAt) → (F bytes budget f → G bytes budget f) → FaultBy F bytes budget f → FaultBy G bytes budget f
faulted F G bytes budget f same h = record { within = h.within; fault = same h.fault }

mutual
  unfolding content_at branch_at parts_at

  pub content_faults : (l : Layout) → FaultsBy (content_at l) (FaultsInContent l)
  content_faults Layout.null bytes budget f e = absurd cc
  content_faults Layout.boolean bytes budget f e = faulted (FaultsAtFront LacksBoolean) (FaultsInContent Layout.boolean) bytes budget f (λ h. h) (leaf_faults ValueTree.boolean boolean_at LacksBoolean boolean_refuses bytes budget f e)
  content_faults Layout.int bytes budget f e = faulted (FaultsAtFront LacksInt) (FaultsInContent Layout.int) bytes budget f (λ h. h) (leaf_faults ValueTree.int int_at LacksInt int_refuses bytes budget f e)
  content_faults Layout.long bytes budget f e = faulted (FaultsAtFront LacksVarint) (FaultsInContent Layout.long) bytes budget f (λ h. h) (leaf_faults ValueTree.long long_at LacksVarint long_refuses bytes budget f e)
  content_faults Layout.float bytes budget f e = faulted (FaultsAtFront (LacksRun 4)) (FaultsInContent Layout.float) bytes budget f (λ h. h) (leaf_faults ValueTree.float (run_at 4) (LacksRun 4) (run_refuses 4) bytes budget f e)
  content_faults Layout.double bytes budget f e = faulted (FaultsAtFront (LacksRun 8)) (FaultsInContent Layout.double) bytes budget f (λ h. h) (leaf_faults ValueTree.double (run_at 8) (LacksRun 8) (run_refuses 8) bytes budget f e)
  content_faults Layout.bytes bytes budget f e = faulted (FaultsAtFront LacksBytes) (FaultsInContent Layout.bytes) bytes budget f (λ h. h) (leaf_faults ValueTree.bytes bytes_at LacksBytes bytes_refuse bytes budget f e)
  content_faults Layout.text bytes budget f e = faulted (FaultsAtFront LacksText) (FaultsInContent Layout.text) bytes budget f (λ h. h) (leaf_faults ValueTree.text text_at LacksText text_refuses bytes budget f e)
  content_faults (Layout.fixed_of n) bytes budget f e = faulted (FaultsAtFront (LacksRun n)) (FaultsInContent (Layout.fixed_of n)) bytes budget f (λ h. h) (leaf_faults ValueTree.fixed (run_at n) (LacksRun n) (run_refuses n) bytes budget f e)
  content_faults (Layout.enum_of n) bytes budget f e = faulted (FaultsAtFront (LacksIndex (indices n))) (FaultsInContent (Layout.enum_of n)) bytes budget f (λ h. h) (leaf_faults ValueTree.enum_of (index_at (indices n)) (LacksIndex (indices n)) (index_refuses (indices n)) bytes budget f e)
  content_faults (Layout.array_of l) bytes budget f e =
      faulted (FaultsInSomeBlock (Spells l) value_count (CountedAsBegun (FaultsInContent l))) (FaultsInContent (Layout.array_of l)) bytes budget f (λ h. h)
      (all_blocks_fault (with_count (content_at l)) (Spells l) value_count (CountedAsBegun (FaultsInContent l)) (counted_value_takes (content_at l) (Spells l) (content_takes l)) (begun_faults (content_at l) (FaultsInContent l) (content_faults l)) bytes budget f
      (mapped_err (λ vs. ValueTree.array_of (values_of vs)) (all_blocks_at (with_count (content_at l)) bytes budget) f e))
  content_faults (Layout.map_of l) bytes budget f e =
      faulted (FaultsInSomeBlock (KeyAndValue (Spells l)) entry_count (FaultsInEntry (CountedAsBegun (FaultsInContent l)))) (FaultsInContent (Layout.map_of l)) bytes budget f (λ h. h)
      (all_blocks_fault (entry_at (with_count (content_at l))) (KeyAndValue (Spells l)) entry_count (FaultsInEntry (CountedAsBegun (FaultsInContent l))) (entry_takes (with_count (content_at l)) (Spells l) (counted_value_takes (content_at l) (Spells l) (content_takes l)))
      (entry_faults (with_count (content_at l)) (CountedAsBegun (FaultsInContent l)) (begun_faults (content_at l) (FaultsInContent l) (content_faults l))) bytes budget f
      (mapped_err (λ es. ValueTree.map_of (entries_of es)) (all_blocks_at (entry_at (with_count (content_at l))) bytes budget) f e))
  content_faults (Layout.union_of ls) bytes budget f e = elim (bind_err (item_at (index_at (indices (count_of ls))) bytes budget) (λ i. map_reading (ValueTree.union_of i.0) (branch_at ls i.0 i.1 i.2)) f e) [
    | inl failed ↦ (let h = item_faults (index_at (indices (count_of ls))) (LacksIndex (indices (count_of ls))) (index_refuses (indices (count_of ls))) bytes budget f failed in record { within = h.within; fault = inl h.fault })
    | inr done ↦
        (let i = index_of (indices (count_of ls)) bytes budget done.0 done.1 in
        let c = i.counted in
        let same : done.0.2 ≡ budget = omega (arith, c) in
        let below = i.spelled.0 in
        let h = branch_faults ls done.0.0 done.0.1 done.0.2 f (omega (arith, below)) (mapped_err (ValueTree.union_of done.0.0) (branch_at ls done.0.0 done.0.1 done.0.2) f done.2) in
        let w = h.within in
        record {
          within = omega (arith, w, ap length i.parts, length-append i.front done.0.1);
          fault = inr (done.0.0, i.front, done.0.1, i.parts, omega (arith, below), i.spelled.1, subst (λ (r : ℕ). FaultsInBranch ls done.0.0 done.0.1 r f) same h.fault);
        })
  ]
  content_faults (Layout.record_of ls) bytes budget f e = faulted (FaultsInParts ls) (FaultsInContent (Layout.record_of ls)) bytes budget f (λ h. h) (parts_faults ls bytes budget f (mapped_err (λ vs. ValueTree.record_of (values_of vs)) (parts_at ls bytes budget) f e))

  branch_faults : (ls : Layouts) (i : ℕ) (bytes : List ℕ) (budget : ℕ) (f : FaultAt) → i < count_of ls → branch_at ls i bytes budget ≡ Err f → FaultBy (FaultsInBranch ls i) bytes budget f
  branch_faults no_layouts i bytes budget f lt e = absurd (omega arith)
  branch_faults (layouts l ls) zero bytes budget f lt e = begun_faults (content_at l) (FaultsInContent l) (content_faults l) bytes budget f e
  branch_faults (layouts l ls) (suc i) bytes budget f lt e = branch_faults ls i bytes budget f (omega arith) e

  parts_faults : (ls : Layouts) → FaultsBy (parts_at ls) (FaultsInParts ls)
  parts_faults no_layouts bytes budget f e = absurd cc
  parts_faults (layouts l ls) bytes budget f e = elim (bind_err (with_count (content_at l) bytes budget) (λ v. parts_at ls v.1 v.2 >>= λ vs. Ok (v.0 ∷ vs.0, vs.1, vs.2)) f e) [
    | inl failed ↦ (let h = begun_faults (content_at l) (FaultsInContent l) (content_faults l) bytes budget f failed in record { within = h.within; fault = inl h.fault })
    | inr done ↦
        (let v = counted_value_takes (content_at l) (Spells l) (content_takes l) bytes budget done.0 done.1 in
        let c = v.counted in
        elim (bind_err (parts_at ls done.0.1 done.0.2) (λ vs. Ok (done.0.0 ∷ vs.0, vs.1, vs.2)) f done.2) [
          | inl failed ↦
              (let h = parts_faults ls done.0.1 done.0.2 f failed in
              let w = h.within in
              record {
                within = omega (arith, w, ap length v.parts, length-append v.front done.0.1);
                fault = inr (done.0.0, v.front, done.0.1, done.0.2, v.parts, v.spelled, omega (arith, c), h.fault);
              })
          | inr more ↦ absurd (let m = more.2 in cc)
        ])
  ]

pub value_faults : (l : Layout) → FaultsBy (value_at l) (FaultsInValue l)
unfolding value_at
value_faults l = begun_faults (content_at l) (FaultsInContent l) (content_faults l)
