-- What a schema spells fits it.
use Rattle.std.proofs.Common.{ℕ, zero, suc, List, [], ◌∷◌, sym, subst, arith, inl, inr}
use Rattle.std.specs.List.{AllByRecursion}
use Rattle.avro_value.specs.Layout.{Layout, Layouts, no_layouts, layouts}
use Rattle.avro_value.specs.Spelling.{Spelling, Concatenated, Block, Blocks, SomeBlocks, KeyAndValue, Spells, SpellsBranch, SpellsParts}
use Rattle.avro_value.specs.Fitting.{Fits, FitsBranch, FitsParts}
use Rattle.lake_basics.proofs.Lists.{all_append}

abbrev pub FitBy : {A : Type 0} → Spelling A → (A → Type 0) → Type 0
FitBy P Q = (x : _) (bytes : List ℕ) → P x bytes → Q x

pub many_fit : {A : Type 0} (P : Spelling A) (Q : A → Type 0) → FitBy P Q → FitBy (Concatenated P) (AllByRecursion Q)
many_fit P Q law [] bytes p = tt
many_fit P Q law (x ∷ xs) bytes (front, rest, parts, one, more) = (law x front one, many_fit P Q law xs rest more)

block_fits : {A : Type 0} (P : Spelling A) (Q : A → Type 0) → FitBy P Q → FitBy (Block P) (AllByRecursion Q)
block_fits P Q law xs bytes (some, few, inl (front, rest, parts, count, items)) = many_fit P Q law xs rest items
block_fits P Q law xs bytes (some, few, inr (head, size, items, parts, count, sized, joined)) = many_fit P Q law xs items joined

blocks_fit : {A : Type 0} (P : Spelling A) (Q : A → Type 0) → FitBy P Q → (n : ℕ) → FitBy (Blocks P n) (AllByRecursion Q)
blocks_fit P Q law zero xs bytes p = subst (AllByRecursion Q) (sym p.0) tt
blocks_fit P Q law (suc n) xs bytes (block, more, is, (front, rest, parts, one, others)) =
    subst (AllByRecursion Q) (sym is) (all_append Q block more (block_fits P Q law block front one) (blocks_fit P Q law n more rest others))

some_blocks_fit : {A : Type 0} (P : Spelling A) (Q : A → Type 0) → FitBy P Q → FitBy (SomeBlocks P) (AllByRecursion Q)
some_blocks_fit P Q law xs bytes p = blocks_fit P Q law p.0 xs bytes p.1

entry_fits : {A : Type 0} (P : Spelling A) (Q : A → Type 0) → FitBy P Q → FitBy (KeyAndValue P) (λ e. Q e.1)
entry_fits P Q law e bytes (front, rest, parts, key, value) = law e.1 rest value

mutual
  pub spelled_fits : (l : Layout) → FitBy (Spells l) (Fits l)
  spelled_fits Layout.null v bytes p = p.0
  spelled_fits Layout.boolean v bytes p = (p.0, p.1)
  spelled_fits Layout.int v bytes p = (p.0, p.1)
  spelled_fits Layout.long v bytes p = (p.0, p.1)
  spelled_fits Layout.float v bytes p = (bytes, p.0)
  spelled_fits Layout.double v bytes p = (bytes, p.0)
  spelled_fits Layout.bytes v bytes p = (p.0, p.1)
  spelled_fits Layout.text v bytes p = (p.0, p.1)
  spelled_fits (Layout.fixed_of n) v bytes p = (bytes, p.0, p.1)
  spelled_fits (Layout.enum_of n) v bytes p = let below = p.2 in (p.0, p.1, omega (arith, below))
  spelled_fits (Layout.array_of l) v bytes p = (p.0, p.1, some_blocks_fit (Spells l) (Fits l) (spelled_fits l) p.0 bytes p.2)
  spelled_fits (Layout.map_of l) v bytes p = (p.0, p.1, some_blocks_fit (KeyAndValue (Spells l)) (λ e. Fits l e.1) (entry_fits (Spells l) (Fits l) (spelled_fits l)) p.0 bytes p.2)
  spelled_fits (Layout.union_of ls) v bytes (i, inner, is, small, (front, rest, parts, index, branch)) = (i, inner, is, branch_fits ls i inner rest branch)
  spelled_fits (Layout.record_of ls) v bytes p = (p.0, p.1, parts_fit ls p.0 bytes p.2)

  branch_fits : (ls : Layouts) (i : ℕ) → FitBy (SpellsBranch ls i) (FitsBranch ls i)
  branch_fits no_layouts i v bytes p = absurd p
  branch_fits (layouts l ls) zero v bytes p = spelled_fits l v bytes p
  branch_fits (layouts l ls) (suc i) v bytes p = branch_fits ls i v bytes p

  parts_fit : (ls : Layouts) → FitBy (SpellsParts ls) (FitsParts ls)
  parts_fit no_layouts vs bytes p = p.0
  parts_fit (layouts l ls) vs bytes (v, others, is, (front, rest, parts, one, more)) = (v, others, is, spelled_fits l v front one, parts_fit ls others rest more)
