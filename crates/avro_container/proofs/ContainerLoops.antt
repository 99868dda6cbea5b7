-- Reading several blocks one after the other, as the loop does.
use Rattle.std.proofs.Common.{◌≡◌, ℕ, suc, ◌-◌, ◌+◌, ◌≤◌, ◌<◌, List, [], ◌∷◌, ◌++◌, length, Ok, Err, refl, sym, ap, ◌∙◌, append_assoc, arith}
use Rattle.std.proofs.lemmas.List.{append-nil}
use Rattle.avro_value.specs.Layout.{Layout}
use Rattle.avro_value.specs.ValueTree.{ValueTree}
use Rattle.lake_basics.specs.Outcome.{◌>>=◌}
use Rattle.avro_container.specs.declared.fault.Flaw.TheVariants as flaw
use Rattle.avro_container.specs.declared.fault.ContainerFault.{ContainerFault}
use Rattle.lake_basics.specs.declared.outcome.ReadError.{ReadError}
use Rattle.lake_basics.specs.declared.outcome.ReadError.TheVariants as failure
use Rattle.lake_basics.specs.Outcome.{Fails, with_front}
use Rattle.avro_container.specs.Reading.{Step, flaw_at, block_at, blocks_at, block_behind}

pub some_blocks : (l : Layout) (marker : List ℕ) (fuel : ℕ) (bytes : List ℕ) (budget : ℕ) → 0 < length bytes
    → blocks_at l marker (suc fuel) bytes budget ≡ (block_at l marker bytes budget >>= λ block. blocks_at l marker fuel block.1 block.2 >>= λ more. Ok (block.0 ++ more))
unfolding blocks_at
some_blocks l marker fuel [] budget some = absurd (omega arith)
some_blocks l marker fuel (b ∷ bytes) budget some = refl

pub no_blocks : (l : Layout) (marker : List ℕ) (fuel : ℕ) (bytes : List ℕ) (budget : ℕ) → length bytes ≡ 0 → blocks_at l marker (suc fuel) bytes budget ≡ Ok []
unfolding blocks_at
no_blocks l marker fuel [] budget none = refl
no_blocks l marker fuel (b ∷ bytes) budget none = absurd (omega arith)

step : (l : Layout) (marker : List ℕ) (front : List ValueTree) (fuel : ℕ) (r : Step (List ValueTree × List ℕ × ℕ))
    → with_front front (r >>= λ block. blocks_at l marker fuel block.1 block.2 >>= λ more. Ok (block.0 ++ more)) ≡ (block_behind front r >>= λ block. with_front block.0 (blocks_at l marker fuel block.1 block.2))
step l marker front fuel (Err f) = refl
step l marker front fuel (Ok x) = go (blocks_at l marker fuel x.1 x.2)
  where
    go : (r : Step (List ValueTree)) → with_front front (r >>= λ more. Ok (x.0 ++ more)) ≡ with_front (front ++ x.0) r
    go (Ok vs) = ap Ok (sym (append_assoc front x.0 vs))
    go (Err f) = refl

more : (l : Layout) (marker : List ℕ) (front : List ValueTree) (fuel i : ℕ) (bytes : List ℕ) (budget : ℕ) → i < fuel → 0 < length bytes
    → with_front front (blocks_at l marker (fuel - i) bytes budget) ≡ (block_behind front (block_at l marker bytes budget) >>= λ block. with_front block.0 (blocks_at l marker (fuel - (i + 1)) block.1 block.2))
more l marker front fuel i bytes budget lt some =
    let k : fuel - i ≡ suc (fuel - (i + 1)) = omega arith in
    rw (k, some_blocks l marker (fuel - (i + 1)) bytes budget some) (step l marker front (fuel - (i + 1)) (block_at l marker bytes budget))

pub loop_goes : (l : Layout) (marker : List ℕ) (front : List ValueTree) (fuel i : ℕ) (bytes : List ℕ) (budget : ℕ) (x : List ValueTree × List ℕ × ℕ) (total : Step (List ValueTree)) → i < fuel → 0 < length bytes
    → block_behind front (block_at l marker bytes budget) ≡ Ok x
    → with_front front (blocks_at l marker (fuel - i) bytes budget) ≡ total → with_front x.0 (blocks_at l marker (fuel - (i + 1)) x.1 x.2) ≡ total
loop_goes l marker front fuel i bytes budget x total lt some h so_far = sym (more l marker front fuel i bytes budget lt some ∙ rw h refl) ∙ so_far

fails_bind : {A B : Type 0} (e : ReadError ContainerFault) (f : A → Step B) (r : Step A) → Fails e r → Fails e (r >>= f)
fails_bind failure.Memory f r h = tt
fails_bind (failure.Fault g) f r h = rw h refl

fails_eq : {A : Type 0} (e : ReadError ContainerFault) (r s : Step A) → r ≡ s → Fails e r → Fails e s
fails_eq failure.Memory r s q h = tt
fails_eq (failure.Fault g) r s q h = sym q ∙ h

pub loop_fails : (l : Layout) (marker : List ℕ) (front : List ValueTree) (fuel i : ℕ) (bytes : List ℕ) (budget : ℕ) (e : ReadError ContainerFault) (total : Step (List ValueTree)) → i < fuel → 0 < length bytes
    → Fails e (block_behind front (block_at l marker bytes budget))
    → with_front front (blocks_at l marker (fuel - i) bytes budget) ≡ total → Fails e total
loop_fails l marker front fuel i bytes budget e total lt some h so_far = fails_eq e _ _ (sym (more l marker front fuel i bytes budget lt some) ∙ so_far) (fails_bind e _ _ h)

pub loop_done : (l : Layout) (marker : List ℕ) (front : List ValueTree) (fuel i : ℕ) (bytes : List ℕ) (budget : ℕ) (total : Step (List ValueTree)) → i < fuel → length bytes ≡ 0
    → with_front front (blocks_at l marker (fuel - i) bytes budget) ≡ total → total ≡ Ok front
loop_done l marker front fuel i bytes budget total lt none so_far =
    let k : fuel - i ≡ suc (fuel - (i + 1)) = omega arith in
    let one : with_front front (blocks_at l marker (fuel - i) bytes budget) ≡ Ok front = rw (k, no_blocks l marker (fuel - (i + 1)) bytes budget none) (ap Ok (append-nil front)) in
    sym so_far ∙ one

pub loop_past : (l : Layout) (marker : List ℕ) (front : List ValueTree) (fuel i : ℕ) (bytes : List ℕ) (budget : ℕ) (total : Step (List ValueTree)) → fuel ≤ i
    → with_front front (blocks_at l marker (fuel - i) bytes budget) ≡ total → total ≡ Err (flaw_at flaw.Short (length bytes))
unfolding blocks_at
loop_past l marker front fuel i bytes budget total le so_far =
    let k : fuel - i ≡ 0 = omega arith in
    let one : with_front front (blocks_at l marker (fuel - i) bytes budget) ≡ Err (flaw_at flaw.Short (length bytes)) = rw k refl in
    sym so_far ∙ one

pub loop_begins : (l : Layout) (marker : List ℕ) (front : List ValueTree) (fuel : ℕ) (bytes : List ℕ) (budget : ℕ) → front ≡ [] → fuel ≡ length bytes + 1 → with_front front (blocks_at l marker (fuel - 0) bytes budget) ≡ blocks_at l marker (length bytes + 1) bytes budget
loop_begins l marker front fuel bytes budget e f =
    let k : fuel - 0 ≡ length bytes + 1 = omega arith in
    rw (e, k) (go (blocks_at l marker (length bytes + 1) bytes budget))
  where
    go : (r : Step (List ValueTree)) → with_front [] r ≡ r
    go (Ok vs) = refl
    go (Err g) = refl
