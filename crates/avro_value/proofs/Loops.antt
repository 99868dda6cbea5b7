-- Reading several values one after the other, as the loops do.
use Rattle.std.proofs.Common.{◌≡◌, ℕ, suc, ◌-◌, ◌+◌, ◌≤◌, ◌<◌, Bool, true, false, List, [], ◌∷◌, ◌++◌, length, Some, None, Result, Ok, Err, refl, sym, ap, ◌∙◌, append_assoc, arith}
use Rattle.std.proofs.lemmas.List.{append-nil}
use Rattle.avro_value.specs.declared.fault.FaultAt.{FaultAt}
use Rattle.avro_value.specs.declared.fault.Fault.TheVariants.{Short}
use Rattle.lake_basics.specs.declared.outcome.ReadError.{ReadError}
use Rattle.lake_basics.specs.declared.outcome.ReadError.TheVariants as errors
use Rattle.avro_value.specs.Layout.{Layout, layouts_of}
use Rattle.avro_value.specs.ValueTree.{ValueTree}
use Rattle.lake_basics.specs.Outcome.{◌>>=◌, Fails}
use Rattle.avro_value.specs.Reading.{Read, Reader, map_reading, fault_at, read_behind, with_block, many_at, one_block_at, blocks_at, all_blocks_at, parts_at, value_at}

pub read_behind-nil : {A : Type 0} (r : Read (List A)) → read_behind [] r ≡ r
read_behind-nil (Ok x) = refl
read_behind-nil (Err f) = refl

pub fails_mapped : {A B : Type 0} (e : ReadError FaultAt) (f : A → B) (r : Read A) → Fails e r → Fails e (map_reading f r)
fails_mapped errors.Memory f r h = tt
fails_mapped (errors.Fault g) f r h = rw h refl

pub fails_bind : {A B : Type 0} (e : ReadError FaultAt) (f : A → Result B FaultAt) (r : Result A FaultAt) → Fails e r → Fails e (r >>= f)
fails_bind errors.Memory f r h = tt
fails_bind (errors.Fault g) f r h = rw h refl

fails_eq : {A : Type 0} (e : ReadError FaultAt) (r s : Result A FaultAt) → r ≡ s → Fails e r → Fails e s
fails_eq errors.Memory r s q h = tt
fails_eq (errors.Fault g) r s q h = sym q ∙ h

regroup : {A : Type 0} (front xs : List A) (read : Read (List A)) → read_behind front (read >>= λ x. Ok (xs ++ x.0, x.1, x.2)) ≡ read_behind (front ++ xs) read
regroup front xs (Ok x) = ap (λ ns. Ok (ns, x.1, x.2)) (simp append_assoc)
regroup front xs (Err f) = refl

-- ---- many

many_step : {A : Type 0} (read : Reader A) (front : List A) (count i : ℕ) (bytes : List ℕ) (budget : ℕ) → i < count
    → read_behind front (many_at read (count - i) bytes budget) ≡ (read bytes budget >>= λ x. read_behind (front ++ x.0 ∷ []) (many_at read (count - (i + 1)) x.1 x.2))
unfolding many_at
many_step read front count i bytes budget lt =
    let k : count - i ≡ suc (count - (i + 1)) = omega arith in
    rw k (on (read bytes budget))
  where
    on : (r : Read _) → read_behind front (r >>= λ x. many_at read (count - (i + 1)) x.1 x.2 >>= λ xs. Ok (x.0 ∷ xs.0, xs.1, xs.2)) ≡ (r >>= λ x. read_behind (front ++ x.0 ∷ []) (many_at read (count - (i + 1)) x.1 x.2))
    on (Ok x) = regroup front (x.0 ∷ []) (many_at read (count - (i + 1)) x.1 x.2)
    on (Err f) = refl

pub many_goes : {A : Type 0} (read : Reader A) (front : List A) (count i : ℕ) (bytes : List ℕ) (budget : ℕ) (x : A × List ℕ × ℕ) (total : Read (List A)) → i < count → read bytes budget ≡ Ok x
    → read_behind front (many_at read (count - i) bytes budget) ≡ total → read_behind (front ++ x.0 ∷ []) (many_at read (count - (i + 1)) x.1 x.2) ≡ total
many_goes read front count i bytes budget x total lt h so_far = sym (many_step read front count i bytes budget lt ∙ rw h refl) ∙ so_far

pub many_fails : {A : Type 0} (read : Reader A) (front : List A) (count i : ℕ) (bytes : List ℕ) (budget : ℕ) (e : ReadError FaultAt) (total : Read (List A)) → i < count → Fails e (read bytes budget)
    → read_behind front (many_at read (count - i) bytes budget) ≡ total → Fails e total
many_fails read front count i bytes budget e total lt h so_far = fails_eq e _ _ (sym (many_step read front count i bytes budget lt) ∙ so_far) (fails_bind e _ _ h)

pub many_done : {A : Type 0} (read : Reader A) (front : List A) (count i : ℕ) (bytes : List ℕ) (budget : ℕ) (total : Read (List A)) → count ≤ i
    → read_behind front (many_at read (count - i) bytes budget) ≡ total → total ≡ Ok (front, bytes, budget)
unfolding many_at
many_done read front count i bytes budget total le so_far =
    let k : count - i ≡ 0 = omega arith in
    let one : read_behind front (many_at read (count - i) bytes budget) ≡ Ok (front, bytes, budget) = rw k (ap (λ xs. Ok (xs, bytes, budget)) (append-nil front)) in
    sym so_far ∙ one

-- ---- blocks

-- what is done with a block
abbrev next : {A : Type 0} → Reader A → ℕ → Bool × List A × List ℕ × ℕ → Read (List A)
next read fuel (false, front, bytes, budget) = Ok (front, bytes, budget)
next read fuel (true, front, bytes, budget) = read_behind front (blocks_at read fuel bytes budget)

blocks_step : {A : Type 0} (read : Reader A) (front : List A) (fuel i : ℕ) (bytes : List ℕ) (budget : ℕ) → i < fuel
    → read_behind front (blocks_at read (fuel - i) bytes budget) ≡ (with_block front (one_block_at read bytes budget) >>= next read (fuel - (i + 1)))
unfolding blocks_at
blocks_step read front fuel i bytes budget lt =
    let k : fuel - i ≡ suc (fuel - (i + 1)) = omega arith in
    rw k (on (one_block_at read bytes budget))
  where
    on : (r : Read _) → read_behind front (r >>= λ block. elim block.0 [
      | None ↦ Ok ([], block.1, block.2)
      | Some xs ↦ blocks_at read (fuel - (i + 1)) block.1 block.2 >>= λ more. Ok (xs ++ more.0, more.1, more.2)
    ]) ≡ (with_block front r >>= next read (fuel - (i + 1)))
    on (Ok (None, rest, left)) = ap (λ xs. Ok (xs, rest, left)) (append-nil front)
    on (Ok (Some xs, rest, left)) = regroup front xs (blocks_at read (fuel - (i + 1)) rest left)
    on (Err f) = refl

pub blocks_goes : {A : Type 0} (read : Reader A) (front after : List A) (fuel i : ℕ) (bytes rest : List ℕ) (budget left : ℕ) (total : Read (List A)) → i < fuel
    → with_block front (one_block_at read bytes budget) ≡ Ok (true, after, rest, left)
    → read_behind front (blocks_at read (fuel - i) bytes budget) ≡ total → read_behind after (blocks_at read (fuel - (i + 1)) rest left) ≡ total
blocks_goes read front after fuel i bytes rest budget left total lt h so_far = sym (blocks_step read front fuel i bytes budget lt ∙ rw h refl) ∙ so_far

pub blocks_done : {A : Type 0} (read : Reader A) (front after : List A) (fuel i : ℕ) (bytes rest : List ℕ) (budget left : ℕ) (total : Read (List A)) → i < fuel
    → with_block front (one_block_at read bytes budget) ≡ Ok (false, after, rest, left)
    → read_behind front (blocks_at read (fuel - i) bytes budget) ≡ total → total ≡ Ok (after, rest, left)
blocks_done read front after fuel i bytes rest budget left total lt h so_far = sym so_far ∙ blocks_step read front fuel i bytes budget lt ∙ rw h refl

pub blocks_fails : {A : Type 0} (read : Reader A) (front : List A) (fuel i : ℕ) (bytes : List ℕ) (budget : ℕ) (e : ReadError FaultAt) (total : Read (List A)) → i < fuel
    → Fails e (with_block front (one_block_at read bytes budget))
    → read_behind front (blocks_at read (fuel - i) bytes budget) ≡ total → Fails e total
blocks_fails read front fuel i bytes budget e total lt h so_far = fails_eq e _ _ (sym (blocks_step read front fuel i bytes budget lt) ∙ so_far) (fails_bind e _ _ h)

pub blocks_past : {A : Type 0} (read : Reader A) (front : List A) (fuel i : ℕ) (bytes : List ℕ) (budget : ℕ) (total : Read (List A)) → fuel ≤ i
    → read_behind front (blocks_at read (fuel - i) bytes budget) ≡ total → total ≡ Err (fault_at bytes Short)
unfolding blocks_at
blocks_past read front fuel i bytes budget total le so_far =
    let k : fuel - i ≡ 0 = omega arith in
    let one : read_behind front (blocks_at read (fuel - i) bytes budget) ≡ Err (fault_at bytes Short) = rw k refl in
    sym so_far ∙ one

pub blocks_begin : {A : Type 0} (read : Reader A) (front : List A) (fuel : ℕ) (bytes : List ℕ) (budget : ℕ) → front ≡ [] → fuel ≡ length bytes + 1 → read_behind front (blocks_at read (fuel - 0) bytes budget) ≡ all_blocks_at read bytes budget
unfolding all_blocks_at
blocks_begin read front fuel bytes budget e f =
    let k : fuel - 0 ≡ length bytes + 1 = omega arith in
    rw (e, k) (read_behind-nil (blocks_at read (length bytes + 1) bytes budget))

-- ---- parts

pub parts_goes : (front : List ValueTree) (l : Layout) (ls : List Layout) (bytes : List ℕ) (budget : ℕ) (x : ValueTree × List ℕ × ℕ) (total : Read (List ValueTree)) → value_at l bytes budget ≡ Ok x
    → read_behind front (parts_at (layouts_of (l ∷ ls)) bytes budget) ≡ total → read_behind (front ++ x.0 ∷ []) (parts_at (layouts_of ls) x.1 x.2) ≡ total
unfolding parts_at value_at
parts_goes front l ls bytes budget x total h so_far =
    let one : read_behind front (parts_at (layouts_of (l ∷ ls)) bytes budget) ≡ read_behind (front ++ x.0 ∷ []) (parts_at (layouts_of ls) x.1 x.2) = rw h (regroup front (x.0 ∷ []) (parts_at (layouts_of ls) x.1 x.2)) in
    sym one ∙ so_far

pub parts_fails : (front : List ValueTree) (l : Layout) (ls : List Layout) (bytes : List ℕ) (budget : ℕ) (e : ReadError FaultAt) (total : Read (List ValueTree)) → Fails e (value_at l bytes budget)
    → read_behind front (parts_at (layouts_of (l ∷ ls)) bytes budget) ≡ total → Fails e total
unfolding parts_at value_at
parts_fails front l ls bytes budget e total h so_far = fails_eq e _ _ so_far (fails_mapped e _ _ (fails_bind e _ _ h))

pub parts_done : (front : List ValueTree) (bytes : List ℕ) (budget : ℕ) (total : Read (List ValueTree)) → read_behind front (parts_at (layouts_of []) bytes budget) ≡ total → total ≡ Ok (front, bytes, budget)
unfolding parts_at
parts_done front bytes budget total so_far = sym so_far ∙ ap (λ xs. Ok (xs, bytes, budget)) (append-nil front)
