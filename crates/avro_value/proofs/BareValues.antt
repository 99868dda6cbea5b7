-- Values that take no bytes pass the limit at the place where they begin.
use Rattle.std.proofs.Common.{◌≡◌, ℕ, zero, suc, ◌+◌, ◌-◌, ◌<◌, ◌≤◌, ◌⊎◌, Bool, true, false, cond, List, [], ◌∷◌, Ok, Err, refl, ap, ◌∙◌, arith, inl, inr, eqb}
use Rattle.std.proofs.lemmas.Bool.{and_parts, eqb-true}
use Rattle.avro_value.specs.declared.fault.Fault.TheVariants.{Limit}
use Rattle.avro_value.specs.Layout.{Layout, Layouts, no_layouts, layouts, is_bare, are_bare}
use Rattle.avro_value.specs.ValueTree.{ValueTree, values_of}
use Rattle.avro_value.specs.Reading.{Read, Reader, fault_at, item_reading, item_at, map_reading, run_at, with_count, many_at, content_at, parts_at, value_at, read_behind}
use Rattle.avro_value.proofs.ItemLaws.{run_again}
use Rattle.avro_value.proofs.BlockLaws.{eqb_false}

-- What is read takes no bytes and k values at least, or the limit is passed where it begins.
abbrev pub IsIdle : {A : Type 0} → ℕ → List ℕ → ℕ → Read A → Type 0
IsIdle k bytes budget r = ((v : _) × (left : ℕ) × (r ≡ Ok (v, bytes, left)) × (left + k ≤ budget)) ⊎ (r ≡ Err (fault_at bytes Limit))

abbrev pub IdleBy : {A : Type 0} → ℕ → Reader A → Type 0
IdleBy k read = (bytes : List ℕ) (budget : ℕ) → IsIdle k bytes budget (read bytes budget)

idle_begun : {A : Type 0} (read : Reader A) → IdleBy 0 read → IdleBy 1 (with_count read)
unfolding with_count
idle_begun read law bytes budget = go (eqb budget 0) refl
  where
    go : (b : Bool) → eqb budget 0 ≡ b → IsIdle 1 bytes budget (cond b (Err (fault_at bytes Limit)) (read bytes (budget - 1)))
    go true q = inr refl
    go false q =
        let some = eqb_false budget 0 q in
        elim (law bytes (budget - 1)) [
          | inl (v, left, is, few) ↦ inl (v, left, is, omega (arith, few, some))
          | inr past ↦ inr past
        ]

idle_mapped : {A B : Type 0} (f : A → B) (k : ℕ) (bytes : List ℕ) (budget : ℕ) (r : Read A) → IsIdle k bytes budget r → IsIdle k bytes budget (map_reading f r)
idle_mapped f k bytes budget r (inl (v, left, is, few)) = inl (f v, left, ap (map_reading f) is, few)
idle_mapped f k bytes budget r (inr past) = inr (ap (map_reading f) past)

no_run : (n : ℕ) → n ≡ 0 → (bytes : List ℕ) (budget : ℕ) → item_at (run_at n) bytes budget ≡ Ok ([], bytes, budget)
no_run n e bytes budget = ap (λ (m : ℕ). item_at (run_at m) bytes budget) e ∙ ap (item_reading bytes budget) (run_again 0 [] [] bytes (refl, refl))

mutual
  unfolding content_at parts_at

  idle_content : (l : Layout) → is_bare l ≡ true → IdleBy 0 (content_at l)
  idle_content Layout.null e bytes budget = inl (ValueTree.null, budget, refl, omega arith)
  idle_content (Layout.fixed_of n) e bytes budget = inl (ValueTree.fixed [], budget, ap (map_reading ValueTree.fixed) (no_run n (eqb-true n 0 e) bytes budget), omega arith)
  idle_content (Layout.record_of ls) e bytes budget = idle_mapped (λ vs. ValueTree.record_of (values_of vs)) 0 bytes budget (parts_at ls bytes budget) (idle_parts ls e bytes budget)
  idle_content Layout.boolean e bytes budget = absurd cc
  idle_content Layout.int e bytes budget = absurd cc
  idle_content Layout.long e bytes budget = absurd cc
  idle_content Layout.float e bytes budget = absurd cc
  idle_content Layout.double e bytes budget = absurd cc
  idle_content Layout.bytes e bytes budget = absurd cc
  idle_content Layout.text e bytes budget = absurd cc
  idle_content (Layout.enum_of n) e bytes budget = absurd cc
  idle_content (Layout.array_of l) e bytes budget = absurd cc
  idle_content (Layout.map_of l) e bytes budget = absurd cc
  idle_content (Layout.union_of ls) e bytes budget = absurd cc

  idle_parts : (ls : Layouts) → are_bare ls ≡ true → IdleBy 0 (parts_at ls)
  idle_parts no_layouts e bytes budget = inl ([], budget, refl, omega arith)
  idle_parts (layouts l ls) e bytes budget =
      let all = and_parts (is_bare l) (are_bare ls) e in
      elim (idle_begun (content_at l) (idle_content l all.0) bytes budget) [
        | inl (v, left, is, few) ↦ elim (idle_parts ls all.1 bytes left) [
          | inl (vs, behind, more, fewer) ↦ inl (v ∷ vs, behind, rw (is, more) refl, omega (arith, few, fewer))
          | inr past ↦ inr (rw (is, past) refl)
        ]
        | inr past ↦ inr (rw past refl)
      ]

pub idle_value : (l : Layout) → is_bare l ≡ true → IdleBy 1 (value_at l)
unfolding value_at
idle_value l e = idle_begun (content_at l) (idle_content l e)

idle_many : {A : Type 0} (read : Reader A) → IdleBy 1 read → (n : ℕ) (bytes : List ℕ) (budget : ℕ) → budget < n → many_at read n bytes budget ≡ Err (fault_at bytes Limit)
unfolding many_at
idle_many read law zero bytes budget lt = absurd (omega arith)
idle_many read law (suc n) bytes budget lt = elim (law bytes budget) [
  | inl (v, left, is, few) ↦ rw (is, idle_many read law n bytes left (omega (arith, lt, few))) refl
  | inr past ↦ rw past refl
]

pub idle_behind : {A : Type 0} (read : Reader A) (front : List A) (n : ℕ) (bytes : List ℕ) (budget : ℕ) → IdleBy 1 read → budget < n → read_behind front (many_at read n bytes budget) ≡ Err (fault_at bytes Limit)
idle_behind read front n bytes budget law lt = ap (read_behind front) (idle_many read law n bytes budget lt)
