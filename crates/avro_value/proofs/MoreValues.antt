-- A fault other than Limit stays the first one where more values may be made.
use Rattle.std.proofs.Common.{◌≡◌, ℕ, zero, suc, ◌+◌, ◌-◌, ◌<◌, List, ◌++◌, length, Ok, Err, sym, ap, subst, ◌∙◌, arith, inl, inr}
use Rattle.avro_value.specs.declared.fault.FaultAt.{FaultAt}
use Rattle.avro_value.specs.declared.fault.Fault.TheVariants.{Limit}
use Rattle.avro_value.specs.Layout.{Layout, Layouts, no_layouts, layouts}
use Rattle.avro_value.specs.ValueTree.{ValueTree, value_count, entry_count, total}
use Rattle.avro_value.specs.Spelling.{Spelling, Block, Concatenated, PrefixedText, KeyAndValue, Spells}
use Rattle.avro_value.specs.Reading.{Read, value_at}
use Rattle.avro_value.specs.Faults.{FaultRelation, FaultsBehind, FaultsInMany, FaultsInBlock, FaultsInBlocks, FaultsInSomeBlock, CountedAsBegun, FaultsInEntry, FaultsInContent, FaultsInBranch, FaultsInParts, FaultsInValue}
use Rattle.avro_value.proofs.ValueLaws.{value_again}
use Rattle.avro_value.proofs.ValueFaultAgain.{value_refused}

abbrev pub StaysBy : FaultRelation → Type 0
StaysBy F = (bytes : List ℕ) (budget more : ℕ) (f : FaultAt) → (f.fault ≡ Limit → ⊥) → F bytes budget f → F bytes (budget + more) f

pub behind_stays : {A : Type 0} (P : Spelling A) (count : A → ℕ) (F : FaultRelation) → StaysBy F → StaysBy (FaultsBehind P count F)
behind_stays P count F law bytes budget more f other (x, front, rest, left, parts, p, e, h) = (x, front, rest, left + more, parts, p, omega (arith, e), law rest left more f other h)

pub many_stays : {A : Type 0} (P : Spelling A) (count : A → ℕ) (F : FaultRelation) (n : ℕ) → StaysBy F → StaysBy (FaultsInMany P count F n)
many_stays P count F n law = behind_stays (λ xs front. (length xs < n) × Concatenated P xs front) (total count) F law

block_stays : {A : Type 0} (P : Spelling A) (count : A → ℕ) (F : FaultRelation) → StaysBy F → StaysBy (FaultsInBlock P count F)
block_stays P count F law bytes budget more f other h = elim h [
  | inl number ↦ inl number
  | inr (inl (n, front, rest, parts, c, m)) ↦ inr (inl (n, front, rest, parts, c, many_stays P count F n law rest budget more f other m))
  | inr (inr (inl size)) ↦ inr (inr (inl size))
  | inr (inr (inr (inl (n, front, sizes, rest, z, parts, c, s, m)))) ↦ inr (inr (inr (inl (n, front, sizes, rest, z, parts, c, s, many_stays P count F n law rest budget more f other m))))
  | inr (inr (inr (inr (xs, head, sizes, items, rest, n, left, parts, c, s, ne, p, e, is, at)))) ↦ inr (inr (inr (inr (xs, head, sizes, items, rest, n, left + more, parts, c, s, ne, p, omega (arith, e), is, at))))
]

blocks_stay : {A : Type 0} (P : Spelling A) (count : A → ℕ) (F : FaultRelation) → StaysBy F → (n : ℕ) → StaysBy (FaultsInBlocks P count F n)
blocks_stay P count F law zero bytes budget more f other h = absurd h
blocks_stay P count F law (suc n) bytes budget more f other (inl here) = inl (block_stays P count F law bytes budget more f other here)
blocks_stay P count F law (suc n) bytes budget more f other (inr behind) = inr (behind_stays (Block P) (total count) (FaultsInBlocks P count F n) (blocks_stay P count F law n) bytes budget more f other behind)

pub some_block_stays : {A : Type 0} (P : Spelling A) (count : A → ℕ) (F : FaultRelation) → StaysBy F → StaysBy (FaultsInSomeBlock P count F)
some_block_stays P count F law bytes budget more f other h = (h.0, blocks_stay P count F law h.0 bytes budget more f other h.1)

pub begun_stays : (F : FaultRelation) → StaysBy F → StaysBy (CountedAsBegun F)
begun_stays F law bytes budget more f other (inl limit) = absurd (other limit.1)
begun_stays F law bytes budget more f other (inr (some, h)) =
    let left : budget - 1 + more ≡ budget + more - 1 = omega (arith, some) in
    inr (omega (arith, some), subst (λ (n : ℕ). F bytes n f) left (law bytes (budget - 1) more f other h))

entry_stays : (F : FaultRelation) → StaysBy F → StaysBy (FaultsInEntry F)
entry_stays F law bytes budget more f other (inl key) = inl key
entry_stays F law bytes budget more f other (inr behind) = inr (behind_stays PrefixedText (λ _. 0) F law bytes budget more f other behind)

mutual
  content_stays : (l : Layout) → StaysBy (FaultsInContent l)
  content_stays Layout.null bytes budget more f other h = absurd h
  content_stays Layout.boolean bytes budget more f other h = h
  content_stays Layout.int bytes budget more f other h = h
  content_stays Layout.long bytes budget more f other h = h
  content_stays Layout.float bytes budget more f other h = h
  content_stays Layout.double bytes budget more f other h = h
  content_stays Layout.bytes bytes budget more f other h = h
  content_stays Layout.text bytes budget more f other h = h
  content_stays (Layout.fixed_of n) bytes budget more f other h = h
  content_stays (Layout.enum_of n) bytes budget more f other h = h
  content_stays (Layout.array_of l) bytes budget more f other h = some_block_stays (Spells l) value_count (CountedAsBegun (FaultsInContent l)) (begun_stays (FaultsInContent l) (content_stays l)) bytes budget more f other h
  content_stays (Layout.map_of l) bytes budget more f other h =
      some_block_stays (KeyAndValue (Spells l)) entry_count (FaultsInEntry (CountedAsBegun (FaultsInContent l))) (entry_stays (CountedAsBegun (FaultsInContent l)) (begun_stays (FaultsInContent l) (content_stays l))) bytes budget more f other h
  content_stays (Layout.union_of ls) bytes budget more f other (inl index) = inl index
  content_stays (Layout.union_of ls) bytes budget more f other (inr (i, front, rest, parts, small, long, h)) = inr (i, front, rest, parts, small, long, branch_stays ls i rest budget more f other h)
  content_stays (Layout.record_of ls) bytes budget more f other h = parts_stay ls bytes budget more f other h

  branch_stays : (ls : Layouts) (i : ℕ) → StaysBy (FaultsInBranch ls i)
  branch_stays no_layouts i bytes budget more f other h = absurd h
  branch_stays (layouts l ls) zero bytes budget more f other h = begun_stays (FaultsInContent l) (content_stays l) bytes budget more f other h
  branch_stays (layouts l ls) (suc i) bytes budget more f other h = branch_stays ls i bytes budget more f other h

  parts_stay : (ls : Layouts) → StaysBy (FaultsInParts ls)
  parts_stay no_layouts bytes budget more f other h = absurd h
  parts_stay (layouts l ls) bytes budget more f other (inl here) = inl (begun_stays (FaultsInContent l) (content_stays l) bytes budget more f other here)
  parts_stay (layouts l ls) bytes budget more f other (inr behind) = inr (behind_stays (Spells l) value_count (FaultsInParts ls) (parts_stay ls) bytes budget more f other behind)

pub value_stays : (l : Layout) → StaysBy (FaultsInValue l)
value_stays l = begun_stays (FaultsInContent l) (content_stays l)

-- Behind such a fault no value is spelled, however many values it has.
pub none_spelled : (l : Layout) (bytes : List ℕ) (budget : ℕ) (f : FaultAt) → (f.fault ≡ Limit → ⊥) → FaultsInValue l bytes budget f → (v : ValueTree) (front rest : List ℕ) → bytes ≡ front ++ rest → Spells l v front → ⊥
none_spelled l bytes budget f other h v front rest parts p =
    let again = value_again l v front rest (budget + value_count v) budget p (omega arith) in
    let refused = value_refused l bytes (budget + value_count v) f (value_stays l bytes budget (value_count v) f other h) in
    absurd (let both : ◌≡◌ {A = Read ValueTree} (Ok (v, rest, budget)) (Err f) = sym again ∙ ap (λ (b : List ℕ). value_at l b (budget + value_count v)) (sym parts) ∙ refused in cc)
