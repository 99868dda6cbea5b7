-- What a block takes, what it is read again from, and where it is at fault.
use Rattle.std.proofs.Common.{◌≡◌, ℕ, zero, suc, ◌+◌, ◌-◌, ◌<◌, ◌≤◌, pos, true, cond, List, [], ◌∷◌, ◌++◌, length, Ok, Err, refl, sym, ap, subst, ◌∙◌, append_assoc, arith, inl, inr}
use Rattle.std.specs.Str.{bytes_eq}
use Rattle.std.proofs.lemmas.Slice.Eq.{bytes_eq-Decides}
use Rattle.std.proofs.lemmas.List.{length-append, append-nil}
use Rattle.avro_value.specs.Varint.{Long}
use Rattle.avro_value.specs.Layout.{Layout}
use Rattle.avro_value.specs.ValueTree.{ValueTree, value_count, total}
use Rattle.lake_basics.specs.Outcome.{◌>>=◌}
use Rattle.avro_value.proofs.NumberLaws.{bind_ok, ok_is, guard_ok}
use Rattle.avro_value.proofs.ReaderLaws.{TakenBy}
use Rattle.avro_value.proofs.BlockLaws.{total-append}
use Rattle.avro_value.proofs.FaultLaws.{bind_err, test_ok}
use Rattle.avro_container.specs.declared.fault.Flaw.TheVariants as flaw
use Rattle.avro_container.specs.declared.fault.ContainerFault.{ContainerFault}
use Rattle.avro_container.specs.Format.{Block, Blocks}
use Rattle.avro_container.specs.Reading.{Step, flaw_at, natural_in, run_in, objects_in, block_at, blocks_at}
use Rattle.avro_container.specs.Faults.{FaultsInNumber, IsWholeBlock, FaultsInBlock}
use Rattle.avro_container.proofs.Objects.{objects_taken, objects_again, objects_faulty, run_in_takes, run_in_again, run_in_faulty, natural_in_takes, natural_in_again, natural_in_faulty}
use Rattle.avro_container.proofs.ContainerLoops.{some_blocks, no_blocks}

-- ---- what is done behind the count, the value_count, the objects and the marker

abbrev pub checked : List ℕ → List ℕ × List ℕ → ℕ → List ValueTree × ℕ → Step (List ValueTree × List ℕ × ℕ)
checked marker sync after vs = cond (bytes_eq sync.0 marker) (Ok (vs.0, sync.1, vs.1)) (Err (flaw_at flaw.BadSync after))

abbrev pub after_sync : Layout → List ℕ → ℕ → ℕ → List ℕ × List ℕ → List ℕ × List ℕ → Step (List ValueTree × List ℕ × ℕ)
after_sync l marker budget count objects sync = objects_in l count objects.0 (length objects.1) budget >>= checked marker sync (length objects.1)

abbrev pub after_objects : Layout → List ℕ → List ℕ → ℕ → ℕ → List ℕ × List ℕ → Step (List ValueTree × List ℕ × ℕ)
after_objects l marker bytes budget count objects = run_in (length bytes) 16 objects.1 >>= after_sync l marker budget count objects

abbrev pub after_size : Layout → List ℕ → List ℕ → ℕ → ℕ → ℕ × List ℕ → Step (List ValueTree × List ℕ × ℕ)
after_size l marker bytes budget count sizes = run_in (length bytes) sizes.0 sizes.1 >>= after_objects l marker bytes budget count

abbrev pub after_count : Layout → List ℕ → List ℕ → ℕ → ℕ × List ℕ → Step (List ValueTree × List ℕ × ℕ)
after_count l marker bytes budget count = natural_in (length bytes) count.1 >>= after_size l marker bytes budget count.0

pub block_is : (l : Layout) (marker bytes : List ℕ) (budget : ℕ) → block_at l marker bytes budget ≡ (natural_in (length bytes) bytes >>= after_count l marker bytes budget)
unfolding block_at
block_is l marker bytes budget = refl

-- ---- a block

regroup : (count sizes objects marker rest : List ℕ) → count ++ (sizes ++ (objects ++ (marker ++ rest))) ≡ (count ++ (sizes ++ (objects ++ marker))) ++ rest
regroup count sizes objects marker rest = simp append_assoc

pub block_takes : (l : Layout) (marker bytes : List ℕ) (budget : ℕ) (x : List ValueTree × List ℕ × ℕ) → block_at l marker bytes budget ≡ Ok x → TakenBy (Block l marker) (total value_count) 0 bytes budget x
block_takes l marker bytes budget x e =
    let a = bind_ok (natural_in (length bytes) bytes) (after_count l marker bytes budget) x (sym (block_is l marker bytes budget) ∙ e) in
    let b = bind_ok (natural_in (length bytes) a.0.1) (after_size l marker bytes budget a.0.0) x a.2 in
    let c = bind_ok (run_in (length bytes) b.0.0 b.0.1) (after_objects l marker bytes budget a.0.0) x b.2 in
    let d = bind_ok (run_in (length bytes) 16 c.0.1) (after_sync l marker budget a.0.0 c.0) x c.2 in
    let o = bind_ok (objects_in l a.0.0 c.0.0 (length c.0.1) budget) (checked marker d.0 (length c.0.1)) x d.2 in
    let g = guard_ok (bytes_eq d.0.0 marker) (flaw_at flaw.BadSync (length c.0.1)) (o.0.0, d.0.1, o.0.1) x o.2 in
    let count = natural_in_takes (length bytes) bytes a.0 a.1 in
    let sizes = natural_in_takes (length bytes) a.0.1 b.0 b.1 in
    let objects = run_in_takes (length bytes) b.0.0 b.0.1 c.0 c.1 in
    let sync = run_in_takes (length bytes) 16 c.0.1 d.0 d.1 in
    let vs = objects_taken l a.0.0 c.0.0 (length c.0.1) budget o.0 o.1 in
    let same : d.0.0 ≡ marker = (bytes_eq-Decides d.0.0 marker).0 g.0 in
    let parts : bytes ≡ count.0 ++ (sizes.0 ++ (c.0.0 ++ (marker ++ d.0.1))) =
    count.1 ∙ ap (λ (r : List ℕ). count.0 ++ r) (sizes.1 ∙ ap (λ (r : List ℕ). sizes.0 ++ r) (objects.0 ∙ ap (λ (r : List ℕ). c.0.0 ++ r) (sync.0 ∙ ap (λ (m : List ℕ). m ++ d.0.1) same))) in
    let counted = vs.counted in
    let long : Long (pos (length o.0.0)) count.0 = subst (λ (n : ℕ). Long (pos n) count.0) (sym vs.many) count.2 in
    let sized : Long (pos (length c.0.0)) sizes.0 = subst (λ (n : ℕ). Long (pos n) sizes.0) (sym objects.1) sizes.2 in
    subst (λ (y : List ValueTree × List ℕ × ℕ). TakenBy (Block l marker) (total value_count) 0 bytes budget y) g.1
    (record {
      front = count.0 ++ (sizes.0 ++ (c.0.0 ++ marker));
      parts = parts ∙ regroup count.0 sizes.0 c.0.0 marker d.0.1;
      spelled = (count.0, sizes.0, c.0.0, refl, long, sized, vs.joined);
      counted = omega (arith, counted);
    })

pub whole_again : (l : Layout) (marker bytes : List ℕ) (budget n : ℕ) (objects sync rest : List ℕ) → IsWholeBlock n objects sync rest bytes
    → block_at l marker bytes budget ≡ after_sync l marker budget n (objects, sync ++ rest) (sync, rest)
whole_again l marker bytes budget n objects sync rest w =
    let a : natural_in (length bytes) bytes ≡ Ok (n, w.sizes ++ (objects ++ (sync ++ rest))) = ap (natural_in (length bytes)) w.parts ∙ natural_in_again (length bytes) n w.count (w.sizes ++ (objects ++ (sync ++ rest))) w.counts in
    let b = natural_in_again (length bytes) (length objects) w.sizes (objects ++ (sync ++ rest)) w.sized in
    let c = run_in_again (length bytes) (length objects) objects (sync ++ rest) refl in
    let d = run_in_again (length bytes) 16 sync rest w.sixteen in
    block_is l marker bytes budget ∙ rw (a, b, c, d) refl

pub block_again : (l : Layout) (marker : List ℕ) (vs : List ValueTree) (front rest : List ℕ) (budget left : ℕ) → length marker ≡ 16 → Block l marker vs front → left + total value_count vs ≡ budget → block_at l marker (front ++ rest) budget ≡ Ok (vs, rest, left)
block_again l marker vs front rest budget left len p e =
    let w : IsWholeBlock (length vs) p.2 marker rest (front ++ rest) = record {
      count = p.0;
      sizes = p.1;
      parts = ap (λ (f : List ℕ). f ++ rest) p.3 ∙ sym (regroup p.0 p.1 p.2 marker rest);
      counts = p.4;
      sized = p.5;
      sixteen = len;
    } in
    let o = objects_again l vs p.2 (length (marker ++ rest)) budget left p.6 e in
    let same : bytes_eq marker marker ≡ true = (bytes_eq-Decides marker marker).1 refl in
    whole_again l marker (front ++ rest) budget (length vs) p.2 marker rest w ∙ rw (o, same) refl

-- ---- blocks

pub blocks_take : (l : Layout) (marker : List ℕ) (fuel : ℕ) (bytes : List ℕ) (budget : ℕ) (vs : List ValueTree) → blocks_at l marker fuel bytes budget ≡ Ok vs → (n : ℕ) × Blocks l marker n vs bytes × (total value_count vs ≤ budget)
unfolding blocks_at
blocks_take l marker zero bytes budget vs e = absurd cc
blocks_take l marker (suc fuel) [] budget vs e =
    let same : [] ≡ vs = ok_is [] vs e in
    (0, (sym same, refl), subst (λ (ws : List ValueTree). total value_count ws ≤ budget) same (omega arith))
blocks_take l marker (suc fuel) (b ∷ bytes) budget vs e =
    let a = bind_ok (block_at l marker (b ∷ bytes) budget) (λ block. blocks_at l marker fuel block.1 block.2 >>= λ more. Ok (block.0 ++ more)) vs e in
    let c = bind_ok (blocks_at l marker fuel a.0.1 a.0.2) (λ more. Ok (a.0.0 ++ more)) vs a.2 in
    let t = block_takes l marker (b ∷ bytes) budget a.0 a.1 in
    let more = blocks_take l marker fuel a.0.1 a.0.2 c.0 c.1 in
    let same : a.0.0 ++ c.0 ≡ vs = ok_is (a.0.0 ++ c.0) vs c.2 in
    let c0 = t.counted in
    let c1 = more.2 in
    (suc more.0, (a.0.0, c.0, sym same, (t.front, a.0.1, t.parts, t.spelled, more.1)), subst (λ (ws : List ValueTree). total value_count ws ≤ budget) same (omega (arith, c0, c1, total-append value_count a.0.0 c.0)))

pub block_length : (l : Layout) (marker : List ℕ) (vs : List ValueTree) (bytes : List ℕ) → length marker ≡ 16 → Block l marker vs bytes → 16 ≤ length bytes
block_length l marker vs bytes len p =
    omega (arith, len, ap length p.3, length-append p.0 (p.1 ++ (p.2 ++ marker)), length-append p.1 (p.2 ++ marker), length-append p.2 marker)

pub blocks_length : (l : Layout) (marker : List ℕ) (n : ℕ) (vs : List ValueTree) (bytes : List ℕ) → length marker ≡ 16 → Blocks l marker n vs bytes → n ≤ length bytes
blocks_length l marker zero vs bytes len p = omega arith
blocks_length l marker (suc n) vs bytes len p =
    let first = p.3 in
    let h = block_length l marker p.0 first.0 len first.3 in
    let more = blocks_length l marker n p.1 first.1 len first.4 in
    omega (arith, h, more, ap length first.2, length-append first.0 first.1)

regroup_more : (block more vs : List ValueTree) (r : Step (List ValueTree)) → vs ≡ block ++ more → (r >>= (λ m. Ok (more ++ m)) >>= λ m. Ok (block ++ m)) ≡ (r >>= λ m. Ok (vs ++ m))
regroup_more block more vs (Err f) e = refl
regroup_more block more vs (Ok m) e = ap Ok (sym (append_assoc block more m) ∙ ap (λ (ws : List ValueTree). ws ++ m) (sym e))

none_more : (r : Step (List ValueTree)) → (r >>= λ m. Ok ([] ++ m)) ≡ r
none_more (Err f) = refl
none_more (Ok m) = refl

-- what follows whole blocks
pub blocks_on : (l : Layout) (marker : List ℕ) (n fuel : ℕ) (vs : List ValueTree) (front rest : List ℕ) (budget left : ℕ) → length marker ≡ 16 → n ≤ fuel → Blocks l marker n vs front → left + total value_count vs ≡ budget
    → blocks_at l marker fuel (front ++ rest) budget ≡ (blocks_at l marker (fuel - n) rest left >>= λ more. Ok (vs ++ more))
blocks_on l marker zero fuel vs front rest budget left len le p e =
    let none : total value_count vs ≡ 0 = ap (total value_count) p.0 in
    let same : budget ≡ left = omega (arith, none) in
    let fuels : fuel - 0 ≡ fuel = omega arith in
    rw (p.0, p.1, same, fuels) (sym (none_more (blocks_at l marker fuel rest left)))
blocks_on l marker (suc n) zero vs front rest budget left len le p e = absurd (omega arith)
blocks_on l marker (suc n) (suc fuel) vs front rest budget left len le p e =
    let block = p.0 in
    let more = p.1 in
    let f0 = p.3.0 in
    let f1 = p.3.1 in
    let parts : front ++ rest ≡ f0 ++ (f1 ++ rest) = ap (λ (f : List ℕ). f ++ rest) p.3.2 ∙ append_assoc f0 f1 rest in
    let long = block_length l marker block f0 len p.3.3 in
    let some : 0 < length (f0 ++ (f1 ++ rest)) = omega (arith, long, length-append f0 (f1 ++ rest)) in
    let sum : total value_count vs ≡ total value_count block + total value_count more = ap (total value_count) p.2 ∙ total-append value_count block more in
    let one = block_again l marker block f0 (f1 ++ rest) budget (left + total value_count more) len p.3.3 (omega (arith, sum)) in
    let on = blocks_on l marker n fuel more f1 rest (left + total value_count more) left len (omega arith) p.3.4 refl in
    let fuels : suc fuel - suc n ≡ fuel - n = omega arith in
    rw (parts, some_blocks l marker fuel (f0 ++ (f1 ++ rest)) budget some, one, on, fuels) (regroup_more block more vs (blocks_at l marker (fuel - n) rest left) p.2)

pub blocks_again : (l : Layout) (marker : List ℕ) (n : ℕ) (vs : List ValueTree) (bytes : List ℕ) (budget : ℕ) → length marker ≡ 16 → Blocks l marker n vs bytes → total value_count vs ≤ budget → blocks_at l marker (length bytes + 1) bytes budget ≡ Ok vs
blocks_again l marker n vs bytes budget len p few =
    let short = blocks_length l marker n vs bytes len p in
    let on = blocks_on l marker n (length bytes + 1) vs bytes [] budget (budget - total value_count vs) len (omega (arith, short)) p (omega (arith, few)) in
    let fuels : length bytes + 1 - n ≡ suc (length bytes - n) = omega (arith, short) in
    let last : blocks_at l marker (length bytes + 1 - n) [] (budget - total value_count vs) ≡ Ok [] = rw (fuels, no_blocks l marker (length bytes - n) [] (budget - total value_count vs) refl) refl in
    let all : blocks_at l marker (length bytes + 1) (bytes ++ []) budget ≡ Ok (vs ++ []) = on ∙ rw last refl in
    ap (λ (b : List ℕ). blocks_at l marker (length bytes + 1) b budget) (sym (append-nil bytes)) ∙ all ∙ ap Ok (append-nil vs)

-- ---- faults

pub record BlockFault (l : Layout) (marker bytes : List ℕ) (budget : ℕ) (f : ContainerFault) : Type 0 where
  pub within : f.left ≤ length bytes
  pub fault : FaultsInBlock l marker bytes budget f

number_within : (block bytes : List ℕ) (f : ContainerFault) → length bytes ≤ length block → FaultsInNumber block bytes f → f.left ≤ length block
number_within block bytes f le h = elim h.2 [
  | inl short ↦ (let e = short.1.1 in omega (arith, e))
  | inr bad ↦ (let e = bad.1.1 in omega (arith, e))
]

in_whole : (l : Layout) (marker bytes : List ℕ) (budget : ℕ) (f : ContainerFault) (n : ℕ) (objects sync rest : List ℕ) → IsWholeBlock n objects sync rest bytes → after_sync l marker budget n (objects, sync ++ rest) (sync, rest) ≡ Err f → BlockFault l marker bytes budget f
in_whole l marker bytes budget f n objects sync rest w e =
    let long : length (objects ++ (sync ++ rest)) ≤ length bytes = omega (arith, ap length w.parts, length-append w.count (w.sizes ++ (objects ++ (sync ++ rest))), length-append w.sizes (objects ++ (sync ++ rest))) in
    elim (bind_err (objects_in l n objects (length (sync ++ rest)) budget) (checked marker (sync, rest) (length (sync ++ rest))) f e) [
      | inl failed ↦ (let h = objects_faulty l n objects (sync ++ rest) budget f failed in
          let within = h.within in
          record { within = omega (arith, within, long); fault = inr (inr (inr (inl (n, objects, sync, rest, w, h.fault)))) })
      | inr o ↦ (let vs = objects_taken l n objects (length (sync ++ rest)) budget o.0 o.1 in
          let g = test_ok (bytes_eq sync marker) (flaw_at flaw.BadSync (length (sync ++ rest))) f (o.0.0, rest, o.0.1) o.2 in
          let counted = vs.counted in
          let whole : IsWholeBlock (length o.0.0) objects sync rest bytes = subst (λ (m : ℕ). IsWholeBlock m objects sync rest bytes) (sym vs.many) w in
          let left : f.left ≡ length (sync ++ rest) = ap (λ (k : ContainerFault). k.left) (sym g.1) in
          record {
            within = omega (arith, left, long, length-append objects (sync ++ rest));
            fault = inr (inr (inr (inr (o.0.0, objects, sync, rest, whole, vs.joined, omega (arith, counted), (λ same. absurd (let t = (bytes_eq-Decides sync marker).1 same in let u = g.0 in cc)), (ap (λ (k : ContainerFault). k.flaw) (sym g.1), left)))));
          })
    ]

in_size : (l : Layout) (marker bytes : List ℕ) (budget : ℕ) (f : ContainerFault) (n s : ℕ) (count rest sizes : List ℕ) → bytes ≡ count ++ (sizes ++ rest) → Long (pos n) count → Long (pos s) sizes → after_size l marker bytes budget n (s, rest) ≡ Err f → BlockFault l marker bytes budget f
in_size l marker bytes budget f n s count rest sizes parts long sized e = elim (bind_err (run_in (length bytes) s rest) (after_objects l marker bytes budget n) f e) [
  | inl failed ↦ (let h = run_in_faulty (length bytes) s rest f failed in
      let lt = h.0 in
      let left : f.left ≡ length bytes = ap (λ (k : ContainerFault). k.left) h.1 in
      record { within = omega (arith, left); fault = inr (inr (inl (n, s, count, sizes, rest, parts, long, sized, omega (arith, lt), (ap (λ (k : ContainerFault). k.flaw) h.1, left)))) })
  | inr c ↦ (let objects = run_in_takes (length bytes) s rest c.0 c.1 in
      elim (bind_err (run_in (length bytes) 16 c.0.1) (after_sync l marker budget n c.0) f c.2) [
        | inl failed ↦ (let h = run_in_faulty (length bytes) 16 c.0.1 f failed in
            let lt = h.0 in
            let len = objects.1 in
            let left : f.left ≡ length bytes = ap (λ (k : ContainerFault). k.left) h.1 in
            record { within = omega (arith, left); fault = inr (inr (inl (n, s, count, sizes, rest, parts, long, sized, omega (arith, lt, len, ap length objects.0, length-append c.0.0 c.0.1), (ap (λ (k : ContainerFault). k.flaw) h.1, left)))) })
        | inr d ↦ (let sync = run_in_takes (length bytes) 16 c.0.1 d.0 d.1 in
            let w : IsWholeBlock n c.0.0 d.0.0 d.0.1 bytes = record {
              count = count;
              sizes = sizes;
              parts = parts ∙ ap (λ (r : List ℕ). count ++ (sizes ++ r)) (objects.0 ∙ ap (λ (r : List ℕ). c.0.0 ++ r) sync.0);
              counts = long;
              sized = subst (λ (m : ℕ). Long (pos m) sizes) (sym objects.1) sized;
              sixteen = sync.1;
            } in
            let e2 : after_sync l marker budget n (c.0.0, d.0.0 ++ d.0.1) (d.0.0, d.0.1) ≡ Err f = subst (λ (r : List ℕ). after_sync l marker budget n (c.0.0, r) (d.0.0, d.0.1) ≡ Err f) sync.0 d.2 in
            in_whole l marker bytes budget f n c.0.0 d.0.0 d.0.1 w e2)
      ])
]

pub block_faulty : (l : Layout) (marker bytes : List ℕ) (budget : ℕ) (f : ContainerFault) → block_at l marker bytes budget ≡ Err f → BlockFault l marker bytes budget f
block_faulty l marker bytes budget f e = elim (bind_err (natural_in (length bytes) bytes) (after_count l marker bytes budget) f (sym (block_is l marker bytes budget) ∙ e)) [
  | inl failed ↦ (let h = natural_in_faulty bytes bytes f failed in record { within = number_within bytes bytes f (omega arith) h; fault = inl h })
  | inr a ↦ (let count = natural_in_takes (length bytes) bytes a.0 a.1 in
      let lc : length bytes ≡ length count.0 + length a.0.1 = ap length count.1 ∙ length-append count.0 a.0.1 in
      elim (bind_err (natural_in (length bytes) a.0.1) (after_size l marker bytes budget a.0.0) f a.2) [
        | inl failed ↦ (let h = natural_in_faulty bytes a.0.1 f failed in
            record { within = number_within bytes a.0.1 f (omega (arith, lc)) h; fault = inr (inl (a.0.0, count.0, a.0.1, count.1, count.2, h)) })
        | inr b ↦ in_size l marker bytes budget f a.0.0 b.0.0 count.0 b.0.1 (natural_in_takes (length bytes) a.0.1 b.0 b.1).0
            (count.1 ∙ ap (λ (r : List ℕ). count.0 ++ r) (natural_in_takes (length bytes) a.0.1 b.0 b.1).1) count.2 (natural_in_takes (length bytes) a.0.1 b.0 b.1).2 b.2
      ])
]
