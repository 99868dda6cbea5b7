-- What is written of a value that fits is a spelling of it.
use Rattle.std.proofs.Common.{◌≡◌, ℕ, zero, suc, ◌+◌, ◌*◌, ◌/◌, ◌%◌, ◌^◌, ◌<◌, ◌≤◌, ℤ, pos, negsuc, false, List, [], ◌∷◌, ◌++◌, length, FitsSigned, refl, sym, ap, subst, ◌∙◌, append_assoc, arith, inl, inr, eqb, ne_eqb, add-one, pow-suc}
use Rattle.std.specs.Int.{w32, w64}
use Rattle.std.specs.List.{AllByRecursion}
use Rattle.std.proofs.lemmas.Bool.{cases_lt, le-ltb, lt-ltb}
use Rattle.std.proofs.lemmas.List.{append-nil}
use Rattle.avro_value.specs.Varint.{ContinuesToLast, Varint, varint_value, zigzag_value, Long}
use Rattle.avro_value.specs.Layout.{Layout, Layouts, no_layouts, layouts}
use Rattle.avro_value.specs.ValueTree.{ValueTree, values_of, entries_of, values_len, entries_len}
use Rattle.avro_value.specs.Spelling.{Spelling, Concatenated, LengthPrefixed, PrefixedText, SomeBlocks, KeyAndValue, Spells, SpellsBranch, SpellsParts}
use Rattle.avro_value.specs.Writing.{varint_in_groups, varint_of, zigzag_of, length_prefixed, block_encoding, encoding, values_encoding, entries_encoding}
use Rattle.avro_value.specs.Fitting.{IsText, IsSound, AreSound, EntriesAreSound, Fits, FitsBranch, FitsParts}
use Rattle.avro_value.proofs.NumberLaws.{ContinuesToLast-cons}
use Rattle.avro_value.proofs.BlockLaws.{double_signed}

record IsShortest (k z : ℕ) : Type 0 where
  pub is : ContinuesToLast (varint_in_groups k z)
  pub len : length (varint_in_groups k z) ≤ k + 1
  pub value : varint_value (varint_in_groups k z) ≡ z

shortest_is : (k z : ℕ) → z < 2 * 128 ^ k → IsShortest k z
unfolding varint_in_groups
shortest_is zero z small = record { is = omega arith; len = omega arith; value = omega arith }
shortest_is (suc k) z small = elim (cases_lt z 128) [
  | inl lt ↦
      (let step : varint_in_groups (suc k) z ≡ z ∷ [] = rw lt-ltb refl in
      record { is = subst ContinuesToLast (sym step) lt; len = omega (arith, ap length step); value = ap varint_value step ∙ omega arith })
  | inr ge ↦
      (let p : 128 ^ suc k ≡ 128 ^ k * 128 = pow-suc 128 k in
      let rest = shortest_is k (z / 128) (omega (arith, p, small)) in
      let step : varint_in_groups (suc k) z ≡ (z % 128 + 128) ∷ varint_in_groups k (z / 128) = rw le-ltb refl in
      let l = rest.len in
      let value : (z % 128 + 128) % 128 + 128 * varint_value (varint_in_groups k (z / 128)) ≡ z = rw rest.value (omega arith) in
      record { is = subst ContinuesToLast (sym step) (ContinuesToLast-cons (z % 128 + 128) (varint_in_groups k (z / 128)) (omega arith) rest.is); len = omega (arith, ap length step, l); value = ap varint_value step ∙ value })
]

pub number_groups : (z : ℕ) → z < 2 ^ 64 → Varint z (varint_of z)
unfolding varint_of
number_groups z h = let s = shortest_is 9 z (omega arith) in let l = s.len in record { number = s.is; short = omega (arith, l); value = s.value; fits = h }

zigzag_signed : (n : ℤ) → n ≡ zigzag_value (zigzag_of n)
zigzag_signed (pos n) = double_signed (2 * n) n refl
zigzag_signed (negsuc n) =
    let odd : eqb ((2 * n + 1) % 2) 0 ≡ false = ne_eqb _ _ (λ h. absurd (omega (arith, h))) in
    let half : n ≡ (2 * n + 1) / 2 = omega arith in
    rw odd (ap negsuc half)

zigzag_fits : (n : ℤ) → FitsSigned w64 n → zigzag_of n < 2 ^ 64
zigzag_fits (pos n) f = omega (arith, f.sfits)
zigzag_fits (negsuc n) f = omega (arith, f.sfits)

wider : (n : ℤ) → FitsSigned w32 n → FitsSigned w64 n
wider (pos n) f = record { sfits = omega (arith, f.sfits) }
wider (negsuc n) f = record { sfits = omega (arith, f.sfits) }

pub long_written : (n : ℤ) → FitsSigned w64 n → Long n (varint_of (zigzag_of n))
long_written n f = (zigzag_of n, zigzag_signed n, number_groups (zigzag_of n) (zigzag_fits n f))

pub natural_written : (n : ℕ) → n < 2 ^ 63 → Long (pos n) (varint_of (2 * n))
natural_written n h = (2 * n, double_signed (2 * n) n refl, number_groups (2 * n) (omega arith))

pub bytes_written : (bs : List ℕ) → length bs < 2 ^ 63 → LengthPrefixed bs (length_prefixed bs)
bytes_written bs h = (varint_of (2 * length bs), refl, natural_written (length bs) h)

pub text_written : (bs : List ℕ) → IsText bs → PrefixedText bs (length_prefixed bs)
text_written bs h = (h.0, bytes_written bs h.1)

pub zero_written : Long (pos 0) (0 ∷ [])
zero_written = (0, refl, record { number = omega arith; short = omega arith; value = refl; fits = omega arith })

pub blocks_written : {A : Type 0} (P : Spelling A) (xs : List A) (n : ℕ) (items : List ℕ) → n ≡ length xs → length xs < 2 ^ 63 → Concatenated P xs items → SomeBlocks P xs (block_encoding n items)
blocks_written P [] n items e h p = subst (λ (m : ℕ). SomeBlocks P [] (block_encoding m items)) (sym e) (0, (refl, zero_written))
blocks_written P (x ∷ xs) n items e h p =
    let some : eqb n 0 ≡ false = ne_eqb n 0 (λ z. absurd (omega (arith, e, z))) in
    let is : block_encoding n items ≡ varint_of (2 * n) ++ (items ++ 0 ∷ []) = rw some refl in
    let long : Long (pos (length (x ∷ xs))) (varint_of (2 * n)) = subst (λ (m : ℕ). Long (pos m) (varint_of (2 * n))) e (natural_written n (omega (arith, e))) in
    subst (SomeBlocks P (x ∷ xs)) (sym is)
    (1, (x ∷ xs, [], sym (append-nil (x ∷ xs)), (varint_of (2 * n) ++ items, 0 ∷ [], sym (append_assoc (varint_of (2 * n)) items (0 ∷ [])), (omega arith, h, inl (varint_of (2 * n), items, refl, long, p)), (refl, zero_written))))

pub len_of : (vs : List ValueTree) → values_len (values_of vs) ≡ length vs
len_of [] = refl
len_of (v ∷ vs) = rw (len_of vs) (add-one _)

entries_len_is : (es : List (List ℕ × ValueTree)) → entries_len (entries_of es) ≡ length es
entries_len_is [] = refl
entries_len_is (e ∷ es) = rw (entries_len_is es) (add-one _)

pub joined : (P : Spelling ValueTree) (Q : ValueTree → Type 0) → ((v : ValueTree) → Q v → IsSound v → P v (encoding v)) → (vs : List ValueTree) → AllByRecursion Q vs → AreSound (values_of vs) → Concatenated P vs (values_encoding (values_of vs))
joined P Q law [] all sound = refl
joined P Q law (v ∷ vs) all sound = (encoding v, values_encoding (values_of vs), refl, law v all.0 sound.0, joined P Q law vs all.1 sound.1)

joined_entries : (P : Spelling ValueTree) (Q : ValueTree → Type 0) → ((v : ValueTree) → Q v → IsSound v → P v (encoding v)) → (es : List (List ℕ × ValueTree)) → AllByRecursion (λ e. Q e.1) es → EntriesAreSound (entries_of es) → Concatenated (KeyAndValue P) es (entries_encoding (entries_of es))
joined_entries P Q law [] all sound = refl
joined_entries P Q law (e ∷ es) all sound =
    (length_prefixed e.0 ++ encoding e.1, entries_encoding (entries_of es), refl, (length_prefixed e.0, encoding e.1, refl, text_written e.0 sound.0, law e.1 all.0 sound.1), joined_entries P Q law es all.1 sound.2)

mutual
  pub written : (l : Layout) (v : ValueTree) → Fits l v → IsSound v → Spells l v (encoding v)
  written Layout.null v f sound = (f, ap encoding f)
  written Layout.boolean v f sound = (f.0, f.1, ap encoding f.1)
  written Layout.int v f sound = let s = subst IsSound f.1 sound in (f.0, f.1, s, subst (Long f.0) (sym (ap encoding f.1)) (long_written f.0 (wider f.0 s)))
  written Layout.long v f sound = let s = subst IsSound f.1 sound in (f.0, f.1, subst (Long f.0) (sym (ap encoding f.1)) (long_written f.0 s))
  written Layout.float v f sound = let s = subst IsSound f.1 sound in let e : encoding v ≡ f.0 = ap encoding f.1 in (f.1 ∙ ap ValueTree.float (sym e), ap length e ∙ s)
  written Layout.double v f sound = let s = subst IsSound f.1 sound in let e : encoding v ≡ f.0 = ap encoding f.1 in (f.1 ∙ ap ValueTree.double (sym e), ap length e ∙ s)
  written Layout.bytes v f sound = let s = subst IsSound f.1 sound in (f.0, f.1, subst (LengthPrefixed f.0) (sym (ap encoding f.1)) (bytes_written f.0 s))
  written Layout.text v f sound = let s = subst IsSound f.1 sound in (f.0, f.1, subst (PrefixedText f.0) (sym (ap encoding f.1)) (text_written f.0 s))
  written (Layout.fixed_of n) v f sound = let e : encoding v ≡ f.0 = ap encoding f.1 in (f.1 ∙ ap ValueTree.fixed (sym e), ap length e ∙ f.2)
  written (Layout.enum_of n) v f sound =
      let s = subst IsSound f.1 sound in
      let below = f.2 in
      (f.0, f.1, omega (arith, below, s), subst (Long (pos f.0)) (sym (ap encoding f.1)) (natural_written f.0 (omega (arith, s))))
  written (Layout.array_of l) v f sound =
      let s = subst IsSound f.1 sound in
      let short = s.0 in
      (f.0, f.1, subst (SomeBlocks (Spells l) f.0) (sym (ap encoding f.1)) (blocks_written (Spells l) f.0 (values_len (values_of f.0)) (values_encoding (values_of f.0)) (len_of f.0) (omega (arith, short, len_of f.0)) (joined (Spells l) (Fits l) (written l) f.0 f.2 s.1)))
  written (Layout.map_of l) v f sound =
      let s = subst IsSound f.1 sound in
      let short = s.0 in
      (f.0, f.1, subst (SomeBlocks (KeyAndValue (Spells l)) f.0) (sym (ap encoding f.1)) (blocks_written (KeyAndValue (Spells l)) f.0 (entries_len (entries_of f.0)) (entries_encoding (entries_of f.0)) (entries_len_is f.0) (omega (arith, short, entries_len_is f.0)) (joined_entries (Spells l) (Fits l) (written l) f.0 f.2 s.1)))
  written (Layout.union_of ls) v f sound =
      let s = subst IsSound f.2 sound in
      let small = s.0 in
      (f.0, f.1, f.2, small, (varint_of (2 * f.0), encoding f.1, ap encoding f.2, natural_written f.0 (omega (arith, small)), branch_written ls f.0 f.1 f.3 s.1))
  written (Layout.record_of ls) v f sound = let s = subst IsSound f.1 sound in (f.0, f.1, subst (SpellsParts ls f.0) (sym (ap encoding f.1)) (parts_written ls f.0 f.2 s))

  branch_written : (ls : Layouts) (i : ℕ) (v : ValueTree) → FitsBranch ls i v → IsSound v → SpellsBranch ls i v (encoding v)
  branch_written no_layouts i v f sound = absurd f
  branch_written (layouts l ls) zero v f sound = written l v f sound
  branch_written (layouts l ls) (suc i) v f sound = branch_written ls i v f sound

  parts_written : (ls : Layouts) (vs : List ValueTree) → FitsParts ls vs → AreSound (values_of vs) → SpellsParts ls vs (values_encoding (values_of vs))
  parts_written no_layouts vs f sound = (f, ap (λ (ws : List ValueTree). values_encoding (values_of ws)) f)
  parts_written (layouts l ls) vs f sound =
      let s = subst (λ (ws : List ValueTree). AreSound (values_of ws)) f.2 sound in
      (f.0, f.1, f.2, (encoding f.0, values_encoding (values_of f.1), ap (λ (ws : List ValueTree). values_encoding (values_of ws)) f.2, written l f.0 f.3 s.0, parts_written ls f.1 f.4 s.1))
