-- What is at fault in a block is refused so.
use Rattle.std.proofs.Common.{◌≡◌, ℕ, zero, suc, ◌+◌, ◌-◌, ◌<◌, ◌≤◌, pos, false, List, [], ◌∷◌, ◌++◌, length, take, drop, Ok, Err, refl, sym, ap, ◌∙◌, append_assoc, arith, inl, inr}
use Rattle.std.specs.Str.{bytes_eq}
use Rattle.std.proofs.lemmas.Bool.{cases_lt, false_from_ne_true}
use Rattle.std.proofs.lemmas.Slice.Eq.{bytes_eq-Decides}
use Rattle.std.proofs.lemmas.List.{length-append, length-take, length-drop, take-append-drop}
use Rattle.avro_value.specs.Varint.{Long}
use Rattle.avro_value.specs.Layout.{Layout}
use Rattle.avro_value.specs.ValueTree.{ValueTree, value_count, total}
use Rattle.lake_basics.specs.Outcome.{◌>>=◌}
use Rattle.avro_value.proofs.BlockLaws.{total-append}
use Rattle.avro_value.proofs.FaultLaws.{bind_err}
use Rattle.avro_container.specs.declared.fault.Flaw.TheVariants as flaw
use Rattle.avro_container.specs.declared.fault.ContainerFault.{ContainerFault}
use Rattle.avro_container.specs.Format.{Block}
use Rattle.avro_container.specs.Reading.{natural_in, run_in, block_at, blocks_at}
use Rattle.avro_container.specs.Faults.{IsFlawAt, FaultsInBlock, FaultsInBlocks}
use Rattle.avro_container.proofs.Objects.{objects_again, objects_refused, run_in_again, run_in_refused, natural_in_again, natural_in_refused, fault_is}
use Rattle.avro_container.proofs.ContainerLoops.{some_blocks}
use Rattle.avro_container.proofs.WholeBlocks.{block_is, block_takes, block_length, block_faulty, whole_again, blocks_length, blocks_on}

short_block : (l : Layout) (marker bytes : List ℕ) (budget n s : ℕ) (count sizes rest : List ℕ) (f : ContainerFault) → bytes ≡ count ++ (sizes ++ rest) → Long (pos n) count → Long (pos s) sizes → length rest < s + 16 → IsFlawAt flaw.Short bytes f
    → block_at l marker bytes budget ≡ Err f
short_block l marker bytes budget n s count sizes rest f parts long sized lt at =
    let a : natural_in (length bytes) bytes ≡ Ok (n, sizes ++ rest) = ap (natural_in (length bytes)) parts ∙ natural_in_again (length bytes) n count (sizes ++ rest) long in
    let b = natural_in_again (length bytes) s sizes rest sized in
    let is = fault_is f flaw.Short (length bytes) at.0 at.1 in
    elim (cases_lt (length rest) s) [
      | inl none ↦ block_is l marker bytes budget ∙ rw (a, b, run_in_refused (length bytes) s rest none) (ap Err is)
      | inr some ↦
          (let len : length (take s rest) ≡ s = omega (arith, length-take s rest) in
          let over : length (drop s rest) < 16 = omega (arith, length-drop s rest) in
          let c : run_in (length bytes) s rest ≡ Ok (take s rest, drop s rest) = ap (run_in (length bytes) s) (sym (take-append-drop s rest)) ∙ run_in_again (length bytes) s (take s rest) (drop s rest) len in
          block_is l marker bytes budget ∙ rw (a, b, c, run_in_refused (length bytes) 16 (drop s rest) over) (ap Err is))
    ]

pub block_refused : (l : Layout) (marker bytes : List ℕ) (budget : ℕ) (f : ContainerFault) → FaultsInBlock l marker bytes budget f → block_at l marker bytes budget ≡ Err f
block_refused l marker bytes budget f h = elim h [
  | inl number ↦ block_is l marker bytes budget ∙ rw (natural_in_refused bytes bytes f number) refl
  | inr (inl (n, count, rest, parts, long, number)) ↦
      (let a : natural_in (length bytes) bytes ≡ Ok (n, rest) = ap (natural_in (length bytes)) parts ∙ natural_in_again (length bytes) n count rest long in
      block_is l marker bytes budget ∙ rw (a, natural_in_refused bytes rest f number) refl)
  | inr (inr (inl (n, s, count, sizes, rest, parts, long, sized, lt, at))) ↦ short_block l marker bytes budget n s count sizes rest f parts long sized lt at
  | inr (inr (inr (inl (n, objects, sync, rest, w, o)))) ↦
      whole_again l marker bytes budget n objects sync rest w ∙ rw (objects_refused l n objects (sync ++ rest) budget f o) refl
  | inr (inr (inr (inr (vs, objects, sync, rest, w, joined, few, other, at)))) ↦
      (let o = objects_again l vs objects (length (sync ++ rest)) budget (budget - total value_count vs) joined (omega (arith, few)) in
      let no : bytes_eq sync marker ≡ false = false_from_ne_true (bytes_eq sync marker) (λ t. other ((bytes_eq-Decides sync marker).0 t)) in
      whole_again l marker bytes budget (length vs) objects sync rest w ∙ rw (o, no) (ap Err (fault_is f flaw.BadSync (length (sync ++ rest)) at.0 at.1)))
]

-- ---- blocks

pub record BlocksFault (l : Layout) (marker bytes : List ℕ) (budget : ℕ) (f : ContainerFault) : Type 0 where
  pub within : f.left ≤ length bytes
  pub fault : FaultsInBlocks l marker bytes budget f

behind_block : (l : Layout) (marker bytes : List ℕ) (budget : ℕ) (f : ContainerFault) (vs : List ValueTree) (front rest : List ℕ) (left : ℕ) → bytes ≡ front ++ rest → Block l marker vs front → left + total value_count vs ≡ budget → BlocksFault l marker rest left f → BlocksFault l marker bytes budget f
behind_block l marker bytes budget f vs front rest left parts p e t =
    let m = t.fault in
    let low = t.within in
    let c = m.7 in
    record {
      within = omega (arith, low, ap length parts, length-append front rest);
      fault = (suc m.0, vs ++ m.1, front ++ m.2, m.3, m.4, parts ∙ ap (λ (r : List ℕ). front ++ r) m.5 ∙ sym (append_assoc front m.2 m.3), (vs, m.1, refl, (front, m.2, refl, p, m.6)), omega (arith, e, c, total-append value_count vs m.1), m.8, m.9);
    }

pub blocks_faulty : (l : Layout) (marker : List ℕ) (fuel : ℕ) (bytes : List ℕ) (budget : ℕ) (f : ContainerFault) → length marker ≡ 16 → length bytes < fuel → blocks_at l marker fuel bytes budget ≡ Err f → BlocksFault l marker bytes budget f
unfolding blocks_at
blocks_faulty l marker zero bytes budget f len lt e = absurd (omega arith)
blocks_faulty l marker (suc fuel) [] budget f len lt e = absurd cc
blocks_faulty l marker (suc fuel) (b ∷ bytes) budget f len lt e = elim (bind_err (block_at l marker (b ∷ bytes) budget) (λ block. blocks_at l marker fuel block.1 block.2 >>= λ more. Ok (block.0 ++ more)) f e) [
  | inl failed ↦ (let h = block_faulty l marker (b ∷ bytes) budget f failed in
      record { within = h.within; fault = (0, [], [], b ∷ bytes, budget, refl, (refl, refl), omega arith, omega arith, h.fault) })
  | inr a ↦
      (let t = block_takes l marker (b ∷ bytes) budget a.0 a.1 in
      let c = t.counted in
      let long = block_length l marker a.0.0 t.front len t.spelled in
      elim (bind_err (blocks_at l marker fuel a.0.1 a.0.2) (λ more. Ok (a.0.0 ++ more)) f a.2) [
        | inl failed ↦ behind_block l marker (b ∷ bytes) budget f a.0.0 t.front a.0.1 a.0.2 t.parts t.spelled (omega (arith, c))
            (blocks_faulty l marker fuel a.0.1 a.0.2 f len (omega (arith, lt, long, ap length t.parts, length-append t.front a.0.1)) failed)
        | inr more ↦ absurd (let m = more.2 in cc)
      ])
]

pub blocks_refused : (l : Layout) (marker bytes : List ℕ) (budget : ℕ) (f : ContainerFault) → length marker ≡ 16 → FaultsInBlocks l marker bytes budget f → blocks_at l marker (length bytes + 1) bytes budget ≡ Err f
blocks_refused l marker bytes budget f len (n, vs, front, rest, left, parts, p, c, some, h) =
    let short = blocks_length l marker n vs front len p in
    let sum : length bytes ≡ length front + length rest = ap length parts ∙ length-append front rest in
    let on = blocks_on l marker n (length bytes + 1) vs front rest budget left len (omega (arith, short, sum)) p c in
    let fuels : length bytes + 1 - n ≡ suc (length bytes - n) = omega (arith, short, sum) in
    let last : blocks_at l marker (length bytes + 1 - n) rest left ≡ Err f = rw (fuels, some_blocks l marker (length bytes - n) rest left some, block_refused l marker rest left f h) refl in
    ap (λ (b : List ℕ). blocks_at l marker (length bytes + 1) b budget) parts ∙ on ∙ rw last refl
