-- A value that is read is spelled there, and what is spelled is read, whatever follows.
use Rattle.std.proofs.Common.{take, ◌≡◌, ℕ, zero, suc, ◌+◌, ◌-◌, ◌<◌, ◌≤◌, Bool, true, false, cond, List, [], ◌∷◌, ◌++◌, length, Ok, Err, refl, sym, ap, subst, ◌∙◌, append_assoc, arith, rules, eqb, ne_eqb}
use Rattle.std.proofs.lemmas.List.{take_at, length-append}
use Rattle.avro_value.specs.declared.fault.Fault.TheVariants.{Limit}
use Rattle.avro_value.specs.Varint.{Long}
use Rattle.avro_value.specs.Layout.{indices, Layout, Layouts, no_layouts, layouts, count_of}
use Rattle.avro_value.specs.ValueTree.{ValueTree, values_of, entries_of, value_count, value_counts, entry_counts, total, entry_count}
use Rattle.avro_value.specs.Spelling.{Spelling, LengthPrefixed, PrefixedText, SomeBlocks, KeyAndValue, Spells, SpellsBranch, SpellsParts}
use Rattle.lake_basics.specs.Outcome.{◌>>=◌}
use Rattle.avro_value.specs.Reading.{Item, Read, Reader, item_at, fault_at, map_reading, boolean_at, int_at, long_at, run_at, bytes_at, text_at, index_at, all_blocks_at, with_count, entry_at, content_at, branch_at, parts_at, value_at}
use Rattle.avro_value.proofs.NumberLaws.{bind_ok, ok_is}
use Rattle.avro_value.proofs.ItemLaws.{Takes, Again, Int, Boolean, Whole, Index, long_takes, long_again, int_takes, int_again, index_takes, index_again, boolean_takes, boolean_again, run_takes, run_again, bytes_takes, bytes_again, text_takes, text_again}
use Rattle.avro_value.proofs.ReaderLaws.{TakenBy, TakesBy, AgainBy, item_takes, item_again}
use Rattle.avro_value.proofs.BlockLaws.{all_blocks_take, all_blocks_again}

-- ---- counts

pub sizes_of : (vs : List ValueTree) → value_counts (values_of vs) ≡ total value_count vs
sizes_of [] = refl
sizes_of (v ∷ vs) = ap (λ (n : ℕ). value_count v + n) (sizes_of vs)

pub entry_sizes_of : (es : List (List ℕ × ValueTree)) → entry_counts (entries_of es) ≡ total entry_count es
entry_sizes_of [] = refl
entry_sizes_of (e ∷ es) = ap (λ (n : ℕ). value_count e.1 + n) (entry_sizes_of es)

pub size_pos : (v : ValueTree) → 1 ≤ value_count v
size_pos (ValueTree.array_of vs) = omega arith
size_pos (ValueTree.map_of es) = omega arith
size_pos (ValueTree.union_of i v) = omega arith
size_pos (ValueTree.record_of vs) = omega arith
size_pos ValueTree.null = omega arith
size_pos (ValueTree.boolean b) = omega arith
size_pos (ValueTree.int n) = omega arith
size_pos (ValueTree.long n) = omega arith
size_pos (ValueTree.float b) = omega arith
size_pos (ValueTree.double b) = omega arith
size_pos (ValueTree.bytes b) = omega arith
size_pos (ValueTree.text b) = omega arith
size_pos (ValueTree.fixed b) = omega arith
size_pos (ValueTree.enum_of i) = omega arith

-- ---- a value begins

pub begun_at : {A : Type 0} (read : Reader A) (bytes : List ℕ) (budget : ℕ) (x : A × List ℕ × ℕ) (b : Bool) → eqb budget 0 ≡ b → ◌≡◌ {A = Read A} (cond {A = Read A} b (Err (fault_at bytes Limit)) (read bytes (budget - 1))) (Ok x) → (0 < budget) × (read bytes (budget - 1) ≡ Ok x)
begun_at read bytes budget x true h e = absurd cc
begun_at read bytes budget x false h e = (some budget h, e)
  where
    some : (n : ℕ) → eqb n 0 ≡ false → 0 < n
    some zero f = absurd cc
    some (suc n) f = omega arith

pub counted_takes : {A : Type 0} (read : Reader A) (P : Spelling A) (count : A → ℕ) → TakesBy read P count 1 → TakesBy (with_count read) P count 0
unfolding with_count
counted_takes read P count law bytes budget x e =
    let b = begun_at read bytes budget x _ refl e in
    let t = law bytes (budget - 1) x b.1 in
    let some = b.0 in
    let c = t.counted in
    record { front = t.front; parts = t.parts; spelled = t.spelled; counted = omega (arith, some, c) }

pub counted_value_takes : (read : Reader ValueTree) (P : Spelling ValueTree) → TakesBy read P value_count 1 → TakesBy (with_count read) P value_count 0
counted_value_takes read P law = counted_takes read P value_count law

pub counted_again : {A : Type 0} (read : Reader A) (P : Spelling A) (count : A → ℕ) → ((x : A) → 1 ≤ count x) → AgainBy read P count 1 → AgainBy (with_count read) P count 0
unfolding with_count
counted_again read P count positive law x front rest budget left p e =
    let least = positive x in
    let some : eqb budget 0 ≡ false = ne_eqb budget 0 (λ h. absurd (omega (arith, h, least, e))) in
    let again = law x front rest (budget - 1) left p (omega (arith, least, e)) in
    rw (some, again) refl

pub counted_value_again : (read : Reader ValueTree) (P : Spelling ValueTree) → AgainBy read P value_count 1 → AgainBy (with_count read) P value_count 0
counted_value_again read P law = counted_again read P value_count size_pos law

-- ---- a value of what was read

mapped_takes : {A : Type 0} (f : A → ValueTree) (read : Reader A) (P : Spelling A) (count : A → ℕ) (Q : Spelling ValueTree) → ((y : A) (front : List ℕ) → P y front → Q (f y) front) → ((y : A) → value_count (f y) ≡ count y + 1)
    → TakesBy read P count 0 → TakesBy (λ bytes budget. map_reading f (read bytes budget)) Q value_count 1
mapped_takes f read P count Q spells sized law bytes budget x e =
    let a = bind_ok (read bytes budget) (λ y. Ok (f y.0, y.1, y.2)) x e in
    let t = law bytes budget a.0 a.1 in
    let c = t.counted in
    let s = sized a.0.0 in
    subst (λ (y : ValueTree × List ℕ × ℕ). TakenBy Q value_count 1 bytes budget y) (ok_is (f a.0.0, a.0.1, a.0.2) x a.2)
    (record { front = t.front; parts = t.parts; spelled = spells a.0.0 t.front t.spelled; counted = omega (arith, c, s) })

mapped_again : {A : Type 0} (f : A → ValueTree) (read : Reader A) (P : Spelling A) (count : A → ℕ) → AgainBy read P count 0 → (y : A) (v : ValueTree) (front rest : List ℕ) (budget left : ℕ) → v ≡ f y → value_count (f y) ≡ count y + 1 → P y front
    → left + value_count v ≡ budget + 1 → map_reading f (read (front ++ rest) budget) ≡ Ok (v, rest, left)
mapped_again f read P count law y v front rest budget left is sized p e =
    let s : value_count v ≡ value_count (f y) = ap value_count is in
    rw (law y front rest budget left p (omega (arith, e, s, sized)), is) refl

-- ---- entries

pub keyed_takes : {A : Type 0} (read : Reader A) (P : Spelling A) (count : A → ℕ) → TakesBy read P count 0 → TakesBy (entry_at read) (KeyAndValue P) (λ e. count e.1) 0
unfolding entry_at
keyed_takes read P count law bytes budget x e =
    let a = bind_ok (item_at text_at bytes budget) (λ key. read key.1 key.2 >>= λ value. Ok ((key.0, value.0), value.1, value.2)) x e in
    let b = bind_ok (read a.0.1 a.0.2) (λ value. Ok ((a.0.0, value.0), value.1, value.2)) x a.2 in
    let k = item_takes text_at PrefixedText (λ _. 0) (λ _. refl) text_takes bytes budget a.0 a.1 in
    let t = law a.0.1 a.0.2 b.0 b.1 in
    let c0 = k.counted in
    let c1 = t.counted in
    subst (λ (y : (List ℕ × _) × List ℕ × ℕ). TakenBy (KeyAndValue P) (λ e. count e.1) 0 bytes budget y) (ok_is ((a.0.0, b.0.0), b.0.1, b.0.2) x b.2)
    (record {
      front = k.front ++ t.front;
      parts = k.parts ∙ ap (λ (r : List ℕ). k.front ++ r) t.parts ∙ sym (append_assoc k.front t.front b.0.1);
      spelled = (k.front, t.front, refl, k.spelled, t.spelled);
      counted = omega (arith, c0, c1);
    })

pub entry_takes : (read : Reader ValueTree) (P : Spelling ValueTree) → TakesBy read P value_count 0 → TakesBy (entry_at read) (KeyAndValue P) entry_count 0
entry_takes read P law = keyed_takes read P value_count law

pub keyed_again : {A : Type 0} (read : Reader A) (P : Spelling A) (count : A → ℕ) → AgainBy read P count 0 → AgainBy (entry_at read) (KeyAndValue P) (λ e. count e.1) 0
unfolding entry_at
keyed_again read P count law x front rest budget left p e =
    let parts : front ++ rest ≡ p.0 ++ (p.1 ++ rest) = ap (λ (f : List ℕ). f ++ rest) p.2 ∙ append_assoc p.0 p.1 rest in
    let key = item_again text_at PrefixedText (λ _. 0) (λ _. refl) text_again x.0 p.0 (p.1 ++ rest) budget budget p.3 refl in
    let value = law x.1 p.1 rest budget left p.4 e in
    rw (parts, key, value) refl

pub entry_again : (read : Reader ValueTree) (P : Spelling ValueTree) → AgainBy read P value_count 0 → AgainBy (entry_at read) (KeyAndValue P) entry_count 0
entry_again read P law = keyed_again read P value_count law

-- ---- every layout

abbrev pub nothing : {A : Type 0} → A → ℕ
nothing x = 0

leaf_takes : {A : Type 0} (f : A → ValueTree) (read : List ℕ → Item A) (P : Spelling A) (Q : Spelling ValueTree) → ((y : A) (front : List ℕ) → P y front → Q (f y) front) → ((y : A) → value_count (f y) ≡ 1) → Takes read P
    → TakesBy (λ bytes budget. map_reading f (item_at read bytes budget)) Q value_count 1
leaf_takes f read P Q spells sized law = mapped_takes f (item_at read) P nothing Q spells sized (item_takes read P nothing (λ _. refl) law)

leaf_again : {A : Type 0} (f : A → ValueTree) (read : List ℕ → Item A) (P : Spelling A) → Again read P → (y : A) (v : ValueTree) (front rest : List ℕ) (budget left : ℕ) → v ≡ f y → value_count (f y) ≡ 1 → P y front
    → left + value_count v ≡ budget + 1 → map_reading f (item_at read (front ++ rest) budget) ≡ Ok (v, rest, left)
leaf_again f read P law = mapped_again f (item_at read) P nothing (item_again read P nothing (λ _. refl) law)

pub index_of : (count : ℕ) → TakesBy (item_at (index_at count)) (Index count) nothing 0
index_of count = item_takes (index_at count) (Index count) nothing (λ _. refl) (index_takes count)

mutual
  unfolding content_at branch_at parts_at

  pub content_takes : (l : Layout) → TakesBy (content_at l) (Spells l) value_count 1
  content_takes Layout.null bytes budget x e = subst (λ (y : ValueTree × List ℕ × ℕ). TakenBy (Spells Layout.null) value_count 1 bytes budget y) (ok_is (ValueTree.null, bytes, budget) x e) (record { front = []; parts = refl; spelled = (refl, refl); counted = refl })
  content_takes Layout.boolean bytes budget x e = leaf_takes ValueTree.boolean boolean_at Boolean (Spells Layout.boolean) (λ y f p. (y, refl, p)) (λ _. refl) boolean_takes bytes budget x e
  content_takes Layout.int bytes budget x e = leaf_takes ValueTree.int int_at Int (Spells Layout.int) (λ y f p. (y, refl, p.0, p.1)) (λ _. refl) int_takes bytes budget x e
  content_takes Layout.long bytes budget x e = leaf_takes ValueTree.long long_at Long (Spells Layout.long) (λ y f p. (y, refl, p)) (λ _. refl) long_takes bytes budget x e
  content_takes Layout.float bytes budget x e = leaf_takes ValueTree.float (run_at 4) (Whole 4) (Spells Layout.float) (λ y f p. (ap ValueTree.float p.0, p.1)) (λ _. refl) (run_takes 4) bytes budget x e
  content_takes Layout.double bytes budget x e = leaf_takes ValueTree.double (run_at 8) (Whole 8) (Spells Layout.double) (λ y f p. (ap ValueTree.double p.0, p.1)) (λ _. refl) (run_takes 8) bytes budget x e
  content_takes Layout.bytes bytes budget x e = leaf_takes ValueTree.bytes bytes_at LengthPrefixed (Spells Layout.bytes) (λ y f p. (y, refl, p)) (λ _. refl) bytes_takes bytes budget x e
  content_takes Layout.text bytes budget x e = leaf_takes ValueTree.text text_at PrefixedText (Spells Layout.text) (λ y f p. (y, refl, p)) (λ _. refl) text_takes bytes budget x e
  content_takes (Layout.fixed_of n) bytes budget x e = leaf_takes ValueTree.fixed (run_at n) (Whole n) (Spells (Layout.fixed_of n)) (λ y f p. (ap ValueTree.fixed p.0, p.1)) (λ _. refl) (run_takes n) bytes budget x e
  content_takes (Layout.enum_of n) bytes budget x e = leaf_takes ValueTree.enum_of (index_at (indices n)) (Index (indices n)) (Spells (Layout.enum_of n)) (λ y f p. (y, refl, p.0, p.1)) (λ _. refl) (index_takes (indices n)) bytes budget x e
  content_takes (Layout.array_of l) bytes budget x e =
      mapped_takes (λ vs. ValueTree.array_of (values_of vs)) (all_blocks_at (with_count (content_at l))) (SomeBlocks (Spells l)) (total value_count) (Spells (Layout.array_of l)) (λ y f p. (y, refl, p)) (λ y. ap (λ (n : ℕ). n + 1) (sizes_of y))
      (all_blocks_take (with_count (content_at l)) (Spells l) value_count (counted_value_takes (content_at l) (Spells l) (content_takes l))) bytes budget x e
  content_takes (Layout.map_of l) bytes budget x e =
      mapped_takes (λ es. ValueTree.map_of (entries_of es)) (all_blocks_at (entry_at (with_count (content_at l)))) (SomeBlocks (KeyAndValue (Spells l))) (total entry_count) (Spells (Layout.map_of l)) (λ y f p. (y, refl, p)) (λ y. ap (λ (n : ℕ). n + 1) (entry_sizes_of y))
      (all_blocks_take (entry_at (with_count (content_at l))) (KeyAndValue (Spells l)) entry_count (entry_takes (with_count (content_at l)) (Spells l) (counted_value_takes (content_at l) (Spells l) (content_takes l)))) bytes budget x e
  content_takes (Layout.union_of ls) bytes budget x e =
      let a = bind_ok (item_at (index_at (indices (count_of ls))) bytes budget) (λ i. map_reading (ValueTree.union_of i.0) (branch_at ls i.0 i.1 i.2)) x e in
      let b = bind_ok (branch_at ls a.0.0 a.0.1 a.0.2) (λ v. Ok (ValueTree.union_of a.0.0 v.0, v.1, v.2)) x a.2 in
      let i = index_of (indices (count_of ls)) bytes budget a.0 a.1 in
      let below = i.spelled.0 in
      let t = branch_takes ls a.0.0 a.0.1 a.0.2 b.0 b.1 in
      let c0 = i.counted in
      let c1 = t.counted in
      subst (λ (y : ValueTree × List ℕ × ℕ). TakenBy (Spells (Layout.union_of ls)) value_count 1 bytes budget y) (ok_is (ValueTree.union_of a.0.0 b.0.0, b.0.1, b.0.2) x b.2)
      (record {
        front = i.front ++ t.front;
        parts = i.parts ∙ ap (λ (r : List ℕ). i.front ++ r) t.parts ∙ sym (append_assoc i.front t.front b.0.1);
        spelled = (a.0.0, b.0.0, refl, omega (arith, below), (i.front, t.front, refl, i.spelled.1, t.spelled));
        counted = omega (arith, c0, c1);
      })
  content_takes (Layout.record_of ls) bytes budget x e =
      mapped_takes (λ vs. ValueTree.record_of (values_of vs)) (parts_at ls) (SpellsParts ls) (total value_count) (Spells (Layout.record_of ls)) (λ y f p. (y, refl, p)) (λ y. ap (λ (n : ℕ). n + 1) (sizes_of y)) (parts_take ls) bytes budget x e

  pub branch_takes : (ls : Layouts) (i : ℕ) → TakesBy (branch_at ls i) (SpellsBranch ls i) value_count 0
  branch_takes no_layouts i bytes budget x e = absurd cc
  branch_takes (layouts l ls) zero bytes budget x e = counted_value_takes (content_at l) (Spells l) (content_takes l) bytes budget x e
  branch_takes (layouts l ls) (suc i) bytes budget x e = branch_takes ls i bytes budget x e

  pub parts_take : (ls : Layouts) → TakesBy (parts_at ls) (SpellsParts ls) (total value_count) 0
  parts_take no_layouts bytes budget x e = subst (λ (y : List ValueTree × List ℕ × ℕ). TakenBy (SpellsParts no_layouts) (total value_count) 0 bytes budget y) (ok_is ([], bytes, budget) x e) (record { front = []; parts = refl; spelled = (refl, refl); counted = refl })
  parts_take (layouts l ls) bytes budget x e =
      let a = bind_ok (with_count (content_at l) bytes budget) (λ v. parts_at ls v.1 v.2 >>= λ vs. Ok (v.0 ∷ vs.0, vs.1, vs.2)) x e in
      let b = bind_ok (parts_at ls a.0.1 a.0.2) (λ vs. Ok (a.0.0 ∷ vs.0, vs.1, vs.2)) x a.2 in
      let v = counted_value_takes (content_at l) (Spells l) (content_takes l) bytes budget a.0 a.1 in
      let t = parts_take ls a.0.1 a.0.2 b.0 b.1 in
      let c0 = v.counted in
      let c1 = t.counted in
      subst (λ (y : List ValueTree × List ℕ × ℕ). TakenBy (SpellsParts (layouts l ls)) (total value_count) 0 bytes budget y) (ok_is (a.0.0 ∷ b.0.0, b.0.1, b.0.2) x b.2)
      (record {
        front = v.front ++ t.front;
        parts = v.parts ∙ ap (λ (r : List ℕ). v.front ++ r) t.parts ∙ sym (append_assoc v.front t.front b.0.1);
        spelled = (a.0.0, b.0.0, refl, (v.front, t.front, refl, v.spelled, t.spelled));
        counted = omega (arith, c0, c1);
      })

pub value_takes : (l : Layout) → TakesBy (value_at l) (Spells l) value_count 0
unfolding value_at
value_takes l = counted_value_takes (content_at l) (Spells l) (content_takes l)

-- ---- every layout again

pub branch_below : (ls : Layouts) (i : ℕ) (v : ValueTree) (bytes : List ℕ) → SpellsBranch ls i v bytes → i < count_of ls
branch_below no_layouts i v bytes p = absurd p
branch_below (layouts l ls) zero v bytes p = omega arith
branch_below (layouts l ls) (suc i) v bytes p = let h = branch_below ls i v bytes p in omega (arith, h)

mutual
  unfolding content_at branch_at parts_at

  pub content_again : (l : Layout) → AgainBy (content_at l) (Spells l) value_count 1
  content_again Layout.null v front rest budget left p e =
      let s : value_count v ≡ 1 = ap value_count p.0 in
      let same : budget ≡ left = omega (arith, e, s) in
      rw (p.1, p.0, same) refl
  content_again Layout.boolean v front rest budget left p e = leaf_again ValueTree.boolean boolean_at Boolean boolean_again p.0 v front rest budget left p.1 refl p.2 e
  content_again Layout.int v front rest budget left p e = leaf_again ValueTree.int int_at Int int_again p.0 v front rest budget left p.1 refl (p.2, p.3) e
  content_again Layout.long v front rest budget left p e = leaf_again ValueTree.long long_at Long long_again p.0 v front rest budget left p.1 refl p.2 e
  content_again Layout.float v front rest budget left p e = leaf_again ValueTree.float (run_at 4) (Whole 4) (run_again 4) front v front rest budget left p.0 refl (refl, p.1) e
  content_again Layout.double v front rest budget left p e = leaf_again ValueTree.double (run_at 8) (Whole 8) (run_again 8) front v front rest budget left p.0 refl (refl, p.1) e
  content_again Layout.bytes v front rest budget left p e = leaf_again ValueTree.bytes bytes_at LengthPrefixed bytes_again p.0 v front rest budget left p.1 refl p.2 e
  content_again Layout.text v front rest budget left p e = leaf_again ValueTree.text text_at PrefixedText text_again p.0 v front rest budget left p.1 refl p.2 e
  content_again (Layout.fixed_of n) v front rest budget left p e = leaf_again ValueTree.fixed (run_at n) (Whole n) (run_again n) front v front rest budget left p.0 refl (refl, p.1) e
  content_again (Layout.enum_of n) v front rest budget left p e = leaf_again ValueTree.enum_of (index_at (indices n)) (Index (indices n)) (index_again (indices n)) p.0 v front rest budget left p.1 refl (p.2, p.3) e
  content_again (Layout.array_of l) v front rest budget left p e =
      mapped_again (λ vs. ValueTree.array_of (values_of vs)) (all_blocks_at (with_count (content_at l))) (SomeBlocks (Spells l)) (total value_count)
      (all_blocks_again (with_count (content_at l)) (Spells l) value_count (counted_value_again (content_at l) (Spells l) (content_again l))) p.0 v front rest budget left p.1 (ap (λ (n : ℕ). n + 1) (sizes_of p.0)) p.2 e
  content_again (Layout.map_of l) v front rest budget left p e =
      mapped_again (λ es. ValueTree.map_of (entries_of es)) (all_blocks_at (entry_at (with_count (content_at l)))) (SomeBlocks (KeyAndValue (Spells l))) (total entry_count)
      (all_blocks_again (entry_at (with_count (content_at l))) (KeyAndValue (Spells l)) entry_count (entry_again (with_count (content_at l)) (Spells l) (counted_value_again (content_at l) (Spells l) (content_again l)))) p.0 v front rest budget left p.1 (ap (λ (n : ℕ). n + 1) (entry_sizes_of p.0)) p.2 e
  content_again (Layout.union_of ls) v front rest budget left p e =
      let i = p.0 in
      let inner = p.1 in
      let small = p.3 in
      let b = p.4 in
      let below = branch_below ls i inner b.1 b.4 in
      let s : value_count v ≡ value_count inner + 1 = ap value_count p.2 in
      let parts : front ++ rest ≡ b.0 ++ (b.1 ++ rest) = ap (λ (f : List ℕ). f ++ rest) b.2 ∙ append_assoc b.0 b.1 rest in
      let index = item_again (index_at (indices (count_of ls))) (Index (indices (count_of ls))) nothing (λ _. refl) (index_again (indices (count_of ls))) i b.0 (b.1 ++ rest) budget budget (omega (arith, below, small), b.3) refl in
      let branch = branch_again ls i inner b.1 rest budget left b.4 (omega (arith, e, s)) in
      rw (parts, index, branch, p.2) refl
  content_again (Layout.record_of ls) v front rest budget left p e =
      mapped_again (λ vs. ValueTree.record_of (values_of vs)) (parts_at ls) (SpellsParts ls) (total value_count) (parts_again ls) p.0 v front rest budget left p.1 (ap (λ (n : ℕ). n + 1) (sizes_of p.0)) p.2 e

  pub branch_again : (ls : Layouts) (i : ℕ) → AgainBy (branch_at ls i) (SpellsBranch ls i) value_count 0
  branch_again no_layouts i v front rest budget left p e = absurd p
  branch_again (layouts l ls) zero v front rest budget left p e = counted_value_again (content_at l) (Spells l) (content_again l) v front rest budget left p e
  branch_again (layouts l ls) (suc i) v front rest budget left p e = branch_again ls i v front rest budget left p e

  pub parts_again : (ls : Layouts) → AgainBy (parts_at ls) (SpellsParts ls) (total value_count) 0
  parts_again no_layouts vs front rest budget left p e =
      let s : total value_count vs ≡ 0 = ap (total value_count) p.0 in
      let same : budget ≡ left = omega (arith, e, s) in
      rw (p.1, p.0, same) refl
  parts_again (layouts l ls) vs front rest budget left p e =
      let v = p.0 in
      let others = p.1 in
      let b = p.3 in
      let s : total value_count vs ≡ value_count v + total value_count others = ap (total value_count) p.2 in
      let parts : front ++ rest ≡ b.0 ++ (b.1 ++ rest) = ap (λ (f : List ℕ). f ++ rest) b.2 ∙ append_assoc b.0 b.1 rest in
      let first = counted_value_again (content_at l) (Spells l) (content_again l) v b.0 (b.1 ++ rest) budget (left + total value_count others) b.3 (omega (arith, e, s)) in
      let more = parts_again ls others b.1 rest (left + total value_count others) left b.4 (omega arith) in
      rw (parts, first, more, p.2) refl

pub value_again : (l : Layout) → AgainBy (value_at l) (Spells l) value_count 0
unfolding value_at
value_again l = counted_value_again (content_at l) (Spells l) (content_again l)

-- ---- no spelling begins another one

same_length : (a b x y : List ℕ) → a ++ x ≡ b ++ y → x ≡ y → length a ≡ length b
same_length a b x y e f = omega (arith, ap length e, length-append a x, length-append b y, ap length f)

cut : (a b x : List ℕ) → a ++ x ≡ b ++ x → length a ≡ length b → a ≡ b
cut a b x e len = sym (take_at a x (length a) refl) ∙ ap (take (length a)) e ∙ take_at b x (length a) (sym len)

pub one_spelling : (l : Layout) (v w : ValueTree) (a b x y : List ℕ) → Spells l v a → Spells l w b → a ++ x ≡ b ++ y → (a ≡ b) × (v ≡ w)
one_spelling l v w a b x y p q e =
    let budget = value_count v + value_count w in
    let first = value_again l v a x budget (value_count w) p (omega arith) in
    let second = value_again l w b y budget (value_count v) q (omega arith) in
    let both : ◌≡◌ {A = Read ValueTree} (Ok (v, x, value_count w)) (Ok (w, y, value_count v)) = sym first ∙ ap (λ (bytes : List ℕ). value_at l bytes budget) e ∙ second in
    let same = ok_is (v, x, value_count w) (w, y, value_count v) both in
    let rest : x ≡ y = ap (λ (z : ValueTree × List ℕ × ℕ). z.1) same in
    let value : v ≡ w = ap (λ (z : ValueTree × List ℕ × ℕ). z.0) same in
    (cut a b y (ap (λ (r : List ℕ). a ++ r) (sym rest) ∙ e) (same_length a b x y e rest), value)
