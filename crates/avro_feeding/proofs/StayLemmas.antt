-- A fault in the metadata that isn't the end of the bytes stays where more bytes come.
use Rattle.std.proofs.Common.{◌≡◌, ℕ, zero, suc, ◌+◌, ◌-◌, List, ◌++◌, length, ap, ◌∙◌, append_assoc, arith, inl, inr}
use Rattle.std.proofs.lemmas.List.{length-append}
use Rattle.avro_value.specs.declared.fault.Fault.{Fault}
use Rattle.avro_value.specs.declared.fault.Fault.TheVariants.{Short}
use Rattle.avro_value.specs.declared.fault.FaultAt.{FaultAt}
use Rattle.avro_value.specs.Spelling.{Spelling, Block, LengthPrefixed, PrefixedText, KeyAndValue}
use Rattle.avro_value.specs.ValueTree.{total}
use Rattle.avro_value.specs.Faults.{LacksItem, Begins, IsOverlongVarint, LacksVarint, LacksNatural, LacksCount, LacksBytes, LacksText, FaultRelation, FaultsAtFront, FaultsBehind, FaultsInMany, MisstatesSize, FaultsInBlock, FaultsInBlocks, FaultsInSomeBlock, CountedAsBegun, FaultsInEntry}
use Rattle.avro_container.specs.Faults.{FaultsInMeta}

-- ---- items

abbrev pub StaysItem : LacksItem → Type 0
StaysItem N = (r : Fault) (bytes more : List ℕ) → (r ≡ Short → ⊥) → N r bytes → N r (bytes ++ more)

begins_more : (P : List ℕ → Type 0) (bytes more : List ℕ) → Begins P bytes → Begins P (bytes ++ more)
begins_more P bytes more h = (h.0, h.1 ++ more, ap (λ (l : List ℕ). l ++ more) h.2 ∙ append_assoc h.0 h.1 more, h.3)

pub varint_stays : StaysItem LacksVarint
varint_stays r bytes more long (inl h) = absurd (long h.0)
varint_stays r bytes more long (inr h) = inr (h.0, begins_more IsOverlongVarint bytes more h.1)

pub natural_stays : (negative : Fault) → StaysItem (LacksNatural negative)
natural_stays negative r bytes more long (inl h) = inl (varint_stays r bytes more long h)
natural_stays negative r bytes more long (inr h) = inr (h.0, h.1, begins_more _ bytes more h.2)

count_stays : StaysItem LacksCount
count_stays r bytes more long (inl h) = inl (varint_stays r bytes more long h)
count_stays r bytes more long (inr h) = inr (h.0, begins_more _ bytes more h.1)

bytes_stay : StaysItem LacksBytes
bytes_stay r bytes more long (inl h) = inl (natural_stays _ r bytes more long h)
bytes_stay r bytes more long (inr h) = absurd (long h.0)

text_stays : StaysItem LacksText
text_stays r bytes more long (inl h) = inl (bytes_stay r bytes more long h)
text_stays r bytes more long (inr h) = inr (h.0, h.1, h.2, begins_more (LengthPrefixed h.1) bytes more h.3)

-- ---- the first item at fault

-- the same place, from which there are more bytes
abbrev pub later : FaultAt → List ℕ → FaultAt
later f more = record f { left = f.left + length more }

abbrev pub Stays : FaultRelation → Type 0
Stays F = (bytes more : List ℕ) (budget : ℕ) (f : FaultAt) → (f.fault ≡ Short → ⊥) → F bytes budget f → F (bytes ++ more) budget (later f more)

longer : (bytes more : List ℕ) (left : ℕ) → left ≡ length bytes → left + length more ≡ length (bytes ++ more)
longer bytes more left e = omega (arith, length-append bytes more)

front_stays : (N : LacksItem) → StaysItem N → Stays (FaultsAtFront N)
front_stays N stays bytes more budget f long h = (stays f.fault bytes more long h.0, longer bytes more f.left h.1)

behind_stays : {A : Type 0} (P : Spelling A) (count : A → ℕ) (F : FaultRelation) → Stays F → Stays (FaultsBehind P count F)
behind_stays P count F stays bytes more budget f long h =
    (h.0, h.1, h.2 ++ more, h.3, ap (λ (l : List ℕ). l ++ more) h.4 ∙ append_assoc h.1 h.2 more, h.5, h.6, stays h.2 more h.3 f long h.7)

many_stays : {A : Type 0} (P : Spelling A) (count : A → ℕ) (F : FaultRelation) → Stays F → (n : ℕ) → Stays (FaultsInMany P count F n)
many_stays P count F stays n = behind_stays _ (total count) F stays

size_stays : {A : Type 0} (P : Spelling A) (count : A → ℕ) → Stays (MisstatesSize P count)
size_stays P count bytes more budget f long (xs, head, sizes, items, rest, n, left, parts, negative, size, other, spelled, counted, fault, at) = (
  xs,
  head,
  sizes,
  items,
  rest ++ more,
  n,
  left,
  ap (λ (l : List ℕ). l ++ more) parts ∙ simp append_assoc,
  negative,
  size,
  other,
  spelled,
  counted,
  fault,
  longer (sizes ++ (items ++ rest)) more f.left at ∙ ap length (append_assoc sizes (items ++ rest) more ∙ ap (λ (l : List ℕ). sizes ++ l) (append_assoc items rest more)),
)

block_stays : {A : Type 0} (P : Spelling A) (count : A → ℕ) (F : FaultRelation) → Stays F → Stays (FaultsInBlock P count F)
block_stays P count F stays bytes more budget f long (inl h) = inl (front_stays LacksCount count_stays bytes more budget f long h)
block_stays P count F stays bytes more budget f long (inr (inl (n, front, rest, parts, counts, h))) =
    inr (inl (n, front, rest ++ more, ap (λ (l : List ℕ). l ++ more) parts ∙ append_assoc front rest more, counts, many_stays P count F stays n rest more budget f long h))
block_stays P count F stays bytes more budget f long (inr (inr (inl (n, front, rest, parts, counts, h)))) =
    inr (inr (inl (n, front, rest ++ more, ap (λ (l : List ℕ). l ++ more) parts ∙ append_assoc front rest more, counts, front_stays LacksVarint varint_stays rest more budget f long h)))
block_stays P count F stays bytes more budget f long (inr (inr (inr (inl (n, front, sizes, rest, z, parts, counts, size, h))))) =
    inr (inr (inr (inl (n, front, sizes, rest ++ more, z, ap (λ (l : List ℕ). l ++ more) parts ∙ simp append_assoc, counts, size, many_stays P count F stays n rest more budget f long h))))
block_stays P count F stays bytes more budget f long (inr (inr (inr (inr h)))) = inr (inr (inr (inr (size_stays P count bytes more budget f long h))))

blocks_stay : {A : Type 0} (P : Spelling A) (count : A → ℕ) (F : FaultRelation) → Stays F → (n : ℕ) → Stays (FaultsInBlocks P count F n)
blocks_stay P count F stays zero bytes more budget f long h = absurd h
blocks_stay P count F stays (suc n) bytes more budget f long (inl h) = inl (block_stays P count F stays bytes more budget f long h)
blocks_stay P count F stays (suc n) bytes more budget f long (inr h) = inr (behind_stays (Block P) (total count) (FaultsInBlocks P count F n) (blocks_stay P count F stays n) bytes more budget f long h)

some_stay : {A : Type 0} (P : Spelling A) (count : A → ℕ) (F : FaultRelation) → Stays F → Stays (FaultsInSomeBlock P count F)
some_stay P count F stays bytes more budget f long h = (h.0, blocks_stay P count F stays h.0 bytes more budget f long h.1)

begun_stays : (F : FaultRelation) → Stays F → Stays (CountedAsBegun F)
begun_stays F stays bytes more budget f long (inl h) = inl (h.0, h.1, longer bytes more f.left h.2)
begun_stays F stays bytes more budget f long (inr h) = inr (h.0, stays bytes more (budget - 1) f long h.1)

entry_stays : (F : FaultRelation) → Stays F → Stays (FaultsInEntry F)
entry_stays F stays bytes more budget f long (inl h) = inl (front_stays LacksText text_stays bytes more budget f long h)
entry_stays F stays bytes more budget f long (inr h) = inr (behind_stays PrefixedText (λ _. 0) F stays bytes more budget f long h)

pub meta_stays : Stays FaultsInMeta
meta_stays = begun_stays _ (some_stay (KeyAndValue LengthPrefixed) (λ e. 1) _ (entry_stays _ (begun_stays _ (front_stays LacksBytes bytes_stay))))
