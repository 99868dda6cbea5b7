-- What a header takes, what it is read again from, and where it is at fault.
use Rattle.std.proofs.Common.{◌≡◌, ℕ, ◌+◌, ◌-◌, ◌<◌, ◌≤◌, ◌⊎◌, Bool, true, false, cond, List, ◌++◌, length, Result, Ok, Err, refl, sym, ap, subst, ◌∙◌, append_assoc, arith, inl, inr}
use Rattle.std.specs.Str.{bytes_eq}
use Rattle.std.proofs.lemmas.Slice.Eq.{bytes_eq-Decides}
use Rattle.std.proofs.lemmas.List.{length-append}
use Rattle.std.proofs.lemmas.Bool.{false_from_ne_true}
use Rattle.avro_value.specs.declared.fault.Fault.{Fault}
use Rattle.avro_value.specs.declared.fault.Fault.TheVariants.{Short, BadLong, BadLength, BadIndex, BadText, BadBool, Limit}
use Rattle.avro_value.specs.declared.fault.FaultAt.{FaultAt}
use Rattle.avro_value.specs.Spelling.{LengthPrefixed, KeyAndValue}
use Rattle.lake_basics.specs.Outcome.{◌>>=◌}
use Rattle.avro_value.specs.Reading.{Item, Read, item_at, run_at, bytes_at, with_count, entry_at, all_blocks_at}
use Rattle.avro_value.specs.Faults.{FaultsAtFront, CountedAsBegun, FaultsInSomeBlock, FaultsInEntry, LacksBytes}
use Rattle.avro_value.proofs.NumberLaws.{bind_ok, ok_is}
use Rattle.avro_value.proofs.ItemLaws.{run_takes, run_again, bytes_takes, bytes_again}
use Rattle.avro_value.proofs.ReaderLaws.{TakesBy, AgainBy, item_takes, item_again}
use Rattle.avro_value.proofs.BlockLaws.{all_blocks_take, all_blocks_again}
use Rattle.avro_value.proofs.ValueLaws.{counted_takes, counted_again, keyed_takes, keyed_again}
use Rattle.avro_value.proofs.FaultLaws.{bind_err, err_is, run_refuses, bytes_refuse}
use Rattle.avro_value.proofs.FaultAgain.{run_refused, bytes_refused}
use Rattle.avro_value.proofs.ReaderFaults.{FaultsBy, item_faults, all_blocks_fault}
use Rattle.avro_value.proofs.ReaderFaultAgain.{FaultAgainBy, item_refused, all_blocks_refused}
use Rattle.avro_value.proofs.ValueFaults.{begun_faults, entry_faults}
use Rattle.avro_value.proofs.ValueFaultAgain.{begun_refused, entry_refused}
use Rattle.avro_container.specs.declared.fault.Flaw.{Flaw}
use Rattle.avro_container.specs.declared.fault.Flaw.TheVariants as flaw
use Rattle.avro_container.specs.declared.fault.ContainerFault.{ContainerFault}
use Rattle.avro_container.specs.Format.{Pairs, magic, Meta, meta_size, Header}
use Rattle.avro_container.specs.Reading.{Step, flaw_at, after_magic, meta_at, meta_fault_by, meta_fault, run_in, step_of, meta_step, header_at}
use Rattle.avro_container.specs.Faults.{FaultsInMeta, FaultsInHeader}
use Rattle.avro_container.proofs.Objects.{run_in_takes, run_in_again, run_in_faulty, run_in_refused, fault_is}

-- ---- the magic

magic_takes : (bytes rest : List ℕ) → after_magic bytes ≡ Ok rest → bytes ≡ magic ++ rest
unfolding after_magic
magic_takes bytes rest e = go (run_at 4 bytes) refl e
  where
    go : (r : Item (List ℕ)) → run_at 4 bytes ≡ r → ◌≡◌ {A = Result (List ℕ) Flaw} (elim r as (λ _. Result (List ℕ) Flaw) [ Err r ↦ Err flaw.Short | Ok x ↦ cond (bytes_eq x.0 magic) (Ok x.1) (Err flaw.BadMagic) ]) (Ok rest) → bytes ≡ magic ++ rest
    go (Err r) is q = absurd cc
    go (Ok x) is q = on (bytes_eq x.0 magic) refl q
      where
        on : (b : Bool) → bytes_eq x.0 magic ≡ b → ◌≡◌ {A = Result (List ℕ) Flaw} (cond b (Ok x.1) (Err flaw.BadMagic)) (Ok rest) → bytes ≡ magic ++ rest
        on false h k = absurd cc
        on true h k =
            let t = run_takes 4 bytes x is in
            let front : t.0 ≡ magic = sym t.2.0 ∙ (bytes_eq-Decides x.0 magic).0 h in
            t.1 ∙ ap (λ (a : List ℕ). a ++ x.1) front ∙ ap (λ (r : List ℕ). magic ++ r) (ok_is x.1 rest k)

pub magic_again : (rest : List ℕ) → after_magic (magic ++ rest) ≡ Ok rest
unfolding after_magic
magic_again rest = rw (run_again 4 magic magic rest (refl, refl), after_magic) refl

abbrev NoMagic : List ℕ → Flaw → Type 0
NoMagic bytes what = ((length bytes < 4) × (what ≡ flaw.Short)) ⊎ ((front : List ℕ) × (rest : List ℕ) × (bytes ≡ front ++ rest) × (length front ≡ 4) × (front ≡ magic → ⊥) × (what ≡ flaw.BadMagic))

magic_faulty : (bytes : List ℕ) (what : Flaw) → after_magic bytes ≡ Err what → NoMagic bytes what
unfolding after_magic
magic_faulty bytes what e = go (run_at 4 bytes) refl e
  where
    go : (r : Item (List ℕ)) → run_at 4 bytes ≡ r → ◌≡◌ {A = Result (List ℕ) Flaw} (elim r as (λ _. Result (List ℕ) Flaw) [ Err r ↦ Err flaw.Short | Ok x ↦ cond (bytes_eq x.0 magic) (Ok x.1) (Err flaw.BadMagic) ]) (Err what) → NoMagic bytes what
    go (Err r) is q = inl ((run_refuses 4 bytes r is).1, sym (err_is flaw.Short what q))
    go (Ok x) is q = on (bytes_eq x.0 magic) refl q
      where
        on : (b : Bool) → bytes_eq x.0 magic ≡ b → ◌≡◌ {A = Result (List ℕ) Flaw} (cond b (Ok x.1) (Err flaw.BadMagic)) (Err what) → NoMagic bytes what
        on true h k = absurd cc
        on false h k =
            let t = run_takes 4 bytes x is in
            inr (t.0, x.1, t.1, t.2.1, (λ m. absurd (let u = (bytes_eq-Decides x.0 magic).1 (t.2.0 ∙ m) in cc)), sym (err_is flaw.BadMagic what k))

magic_short : (bytes : List ℕ) → length bytes < 4 → after_magic bytes ≡ Err flaw.Short
unfolding after_magic
magic_short bytes lt = rw (run_refused 4 bytes Short (refl, lt), after_magic) refl

magic_other : (front rest : List ℕ) → length front ≡ 4 → (front ≡ magic → ⊥) → after_magic (front ++ rest) ≡ Err flaw.BadMagic
unfolding after_magic
magic_other front rest len other =
    let no : bytes_eq front magic ≡ false = false_from_ne_true (bytes_eq front magic) (λ t. other ((bytes_eq-Decides front magic).0 t)) in
    rw (run_again 4 front front rest (refl, len), after_magic, no) refl

-- ---- the metadata

blob_takes : TakesBy (with_count (item_at bytes_at)) LengthPrefixed (λ _. 1) 0
blob_takes = counted_takes (item_at bytes_at) LengthPrefixed (λ _. 1) (λ bytes budget x e.
    let t = item_takes bytes_at LengthPrefixed (λ _. 0) (λ _. refl) bytes_takes bytes budget x e in
    let c = t.counted in
    record { front = t.front; parts = t.parts; spelled = t.spelled; counted = omega (arith, c) })

blob_again : AgainBy (with_count (item_at bytes_at)) LengthPrefixed (λ _. 1) 0
blob_again = counted_again (item_at bytes_at) LengthPrefixed (λ _. 1) (λ _. omega arith) (λ x front rest budget left p e. item_again bytes_at LengthPrefixed (λ _. 0) (λ _. refl) bytes_again x front rest budget left p (omega (arith, e)))

pair_takes : TakesBy (entry_at (with_count (item_at bytes_at))) (KeyAndValue LengthPrefixed) (λ _. 1) 0
pair_takes = keyed_takes (with_count (item_at bytes_at)) LengthPrefixed (λ _. 1) blob_takes

pair_again : AgainBy (entry_at (with_count (item_at bytes_at))) (KeyAndValue LengthPrefixed) (λ _. 1) 0
pair_again = keyed_again (with_count (item_at bytes_at)) LengthPrefixed (λ _. 1) blob_again

pub meta_takes : TakesBy meta_at Meta meta_size 0
unfolding meta_at
meta_takes = counted_takes (all_blocks_at (entry_at (with_count (item_at bytes_at)))) Meta meta_size (λ bytes budget x e.
    let t = all_blocks_take (entry_at (with_count (item_at bytes_at))) (KeyAndValue LengthPrefixed) (λ _. 1) pair_takes bytes budget x e in
    let c = t.counted in
    record { front = t.front; parts = t.parts; spelled = t.spelled; counted = omega (arith, c) })

pub meta_again : AgainBy meta_at Meta meta_size 0
unfolding meta_at
meta_again = counted_again (all_blocks_at (entry_at (with_count (item_at bytes_at)))) Meta meta_size (λ _. omega arith) (λ x front rest budget left p e. all_blocks_again (entry_at (with_count (item_at bytes_at))) (KeyAndValue LengthPrefixed) (λ _. 1) pair_again x front rest budget left p (omega (arith, e)))

pub meta_faults : FaultsBy meta_at FaultsInMeta
unfolding meta_at
meta_faults = begun_faults (all_blocks_at (entry_at (with_count (item_at bytes_at)))) (FaultsInSomeBlock (KeyAndValue LengthPrefixed) (λ _. 1) (FaultsInEntry (CountedAsBegun (FaultsAtFront LacksBytes))))
    (all_blocks_fault (entry_at (with_count (item_at bytes_at))) (KeyAndValue LengthPrefixed) (λ _. 1) (FaultsInEntry (CountedAsBegun (FaultsAtFront LacksBytes))) pair_takes
    (entry_faults (with_count (item_at bytes_at)) (CountedAsBegun (FaultsAtFront LacksBytes)) (begun_faults (item_at bytes_at) (FaultsAtFront LacksBytes) (item_faults bytes_at LacksBytes bytes_refuse))))

pub meta_refused : FaultAgainBy meta_at FaultsInMeta
unfolding meta_at
meta_refused = begun_refused (all_blocks_at (entry_at (with_count (item_at bytes_at)))) (FaultsInSomeBlock (KeyAndValue LengthPrefixed) (λ _. 1) (FaultsInEntry (CountedAsBegun (FaultsAtFront LacksBytes))))
    (all_blocks_refused (entry_at (with_count (item_at bytes_at))) (KeyAndValue LengthPrefixed) (λ _. 1) (FaultsInEntry (CountedAsBegun (FaultsAtFront LacksBytes))) pair_again
    (entry_refused (with_count (item_at bytes_at)) (CountedAsBegun (FaultsAtFront LacksBytes)) (begun_refused (item_at bytes_at) (FaultsAtFront LacksBytes) (item_refused bytes_at LacksBytes bytes_refused))))

-- ---- the header

pub placed_ok : {A : Type 0} (left : ℕ) (r : Result A Flaw) (x : A) → step_of left r ≡ Ok x → r ≡ Ok x
placed_ok left (Ok y) x e = let h : y ≡ x = cc in ap Ok h
placed_ok left (Err w) x e = absurd cc

pub placed_err : {A : Type 0} (left : ℕ) (r : Result A Flaw) (f : ContainerFault) → step_of left r ≡ Err f → (r ≡ Err f.flaw) × (f.left ≡ left)
placed_err left (Ok y) f e = absurd cc
placed_err left (Err w) f e =
    let same = err_is (flaw_at w left) f e in
    (ap Err (ap (λ (k : ContainerFault). k.flaw) same), ap (λ (k : ContainerFault). k.left) (sym same))

meta_placed_ok : {A : Type 0} (whole : ℕ) (r : Read A) (x : A × List ℕ × ℕ) → meta_step whole r ≡ Ok x → r ≡ Ok x
meta_placed_ok whole (Ok y) x e = let h : y ≡ x = cc in ap Ok h
meta_placed_ok whole (Err g) x e = absurd cc

meta_placed_err : {A : Type 0} (whole : ℕ) (r : Read A) (f : ContainerFault) → meta_step whole r ≡ Err f → (g : FaultAt) × (r ≡ Err g) × (meta_fault whole g ≡ f)
meta_placed_err whole (Ok y) f e = absurd cc
meta_placed_err whole (Err g) f e = (g, refl, err_is (meta_fault whole g) f e)

abbrev behind_meta : List ℕ → Pairs × List ℕ × ℕ → Step (Pairs × List ℕ × List ℕ)
behind_meta bytes meta = run_in (length bytes) 16 meta.1 >>= λ marker. Ok (meta.0, marker.0, marker.1)

abbrev behind_magic : ℕ → List ℕ → List ℕ → Step (Pairs × List ℕ × List ℕ)
behind_magic limit bytes rest = meta_step (length bytes) (meta_at rest limit) >>= behind_meta bytes

header_is : (limit : ℕ) (bytes : List ℕ) → header_at limit bytes ≡ (step_of (length bytes) (after_magic bytes) >>= behind_magic limit bytes)
unfolding header_at
header_is limit bytes = refl

pub record HeaderTaken (limit : ℕ) (bytes : List ℕ) (h : Pairs × List ℕ × List ℕ) : Type 0 where
  pub header : List ℕ
  pub parts : bytes ≡ header ++ h.2
  pub is : Header limit h.0 h.1 header

pub header_takes : (limit : ℕ) (bytes : List ℕ) (h : Pairs × List ℕ × List ℕ) → header_at limit bytes ≡ Ok h → HeaderTaken limit bytes h
header_takes limit bytes h e =
    let a = bind_ok (step_of (length bytes) (after_magic bytes)) (behind_magic limit bytes) h (sym (header_is limit bytes) ∙ e) in
    let b = bind_ok (meta_step (length bytes) (meta_at a.0 limit)) (behind_meta bytes) h a.2 in
    let c = bind_ok (run_in (length bytes) 16 b.0.1) (λ marker. Ok (b.0.0, marker.0, marker.1)) h b.2 in
    let m = magic_takes bytes a.0 (placed_ok (length bytes) (after_magic bytes) a.0 a.1) in
    let t = meta_takes a.0 limit b.0 (meta_placed_ok (length bytes) (meta_at a.0 limit) b.0 b.1) in
    let r = run_in_takes (length bytes) 16 b.0.1 c.0 c.1 in
    let counted = t.counted in
    let parts : bytes ≡ (magic ++ (t.front ++ c.0.0)) ++ c.0.1 = m ∙ ap (λ (z : List ℕ). magic ++ z) (t.parts ∙ ap (λ (z : List ℕ). t.front ++ z) r.0) ∙ simp append_assoc in
    subst (λ (y : Pairs × List ℕ × List ℕ). HeaderTaken limit bytes y) (ok_is (b.0.0, c.0.0, c.0.1) h c.2)
    (record {
      header = magic ++ (t.front ++ c.0.0);
      parts = parts;
      is = record { map = t.front; parts = refl; is_map = t.spelled; few = omega (arith, counted); sixteen = r.1 };
    })

pub header_again : (limit : ℕ) (meta : Pairs) (marker header blocks : List ℕ) → Header limit meta marker header → header_at limit (header ++ blocks) ≡ Ok (meta, marker, blocks)
header_again limit meta marker header blocks h =
    let few = h.few in
    let bytes = header ++ blocks in
    let parts : header ++ blocks ≡ magic ++ (h.map ++ (marker ++ blocks)) = ap (λ (z : List ℕ). z ++ blocks) h.parts ∙ simp append_assoc in
    let a : after_magic (header ++ blocks) ≡ Ok (h.map ++ (marker ++ blocks)) = ap after_magic parts ∙ magic_again (h.map ++ (marker ++ blocks)) in
    let b = meta_again meta h.map (marker ++ blocks) limit (limit - meta_size meta) h.is_map (omega (arith, few)) in
    let c = run_in_again (length (header ++ blocks)) 16 marker blocks h.sixteen in
    header_is limit (header ++ blocks) ∙ rw (a, b, c) refl

pub record HeaderFault (limit : ℕ) (bytes : List ℕ) (f : ContainerFault) : Type 0 where
  pub within : f.left ≤ length bytes
  pub fault : FaultsInHeader limit bytes f

in_meta : (limit : ℕ) (bytes rest : List ℕ) (g : FaultAt) (r : Fault) (f : ContainerFault) → g.fault ≡ r → bytes ≡ magic ++ rest → g.left ≤ length bytes → FaultsInMeta rest limit g → meta_fault_by r (length bytes) g.left ≡ f → HeaderFault limit bytes f
in_meta limit bytes rest g Short f is parts low h e =
    let left : f.left ≡ length bytes = ap (λ (k : ContainerFault). k.left) (sym e) in
    record { within = omega (arith, left); fault = inr (inr (inl (rest, g, parts, h, inl (is, (ap (λ (k : ContainerFault). k.flaw) (sym e), left))))) }
in_meta limit bytes rest g BadLong f is parts low h e = let left : f.left ≡ g.left = ap (λ (k : ContainerFault). k.left) (sym e) in record { within = omega (arith, left, low); fault = inr (inr (inl (rest, g, parts, h, inr ((λ q. absurd cc), ap (λ (k : ContainerFault). k.flaw) (sym e), left)))) }
in_meta limit bytes rest g BadLength f is parts low h e = let left : f.left ≡ g.left = ap (λ (k : ContainerFault). k.left) (sym e) in record { within = omega (arith, left, low); fault = inr (inr (inl (rest, g, parts, h, inr ((λ q. absurd cc), ap (λ (k : ContainerFault). k.flaw) (sym e), left)))) }
in_meta limit bytes rest g BadIndex f is parts low h e = let left : f.left ≡ g.left = ap (λ (k : ContainerFault). k.left) (sym e) in record { within = omega (arith, left, low); fault = inr (inr (inl (rest, g, parts, h, inr ((λ q. absurd cc), ap (λ (k : ContainerFault). k.flaw) (sym e), left)))) }
in_meta limit bytes rest g BadText f is parts low h e = let left : f.left ≡ g.left = ap (λ (k : ContainerFault). k.left) (sym e) in record { within = omega (arith, left, low); fault = inr (inr (inl (rest, g, parts, h, inr ((λ q. absurd cc), ap (λ (k : ContainerFault). k.flaw) (sym e), left)))) }
in_meta limit bytes rest g BadBool f is parts low h e = let left : f.left ≡ g.left = ap (λ (k : ContainerFault). k.left) (sym e) in record { within = omega (arith, left, low); fault = inr (inr (inl (rest, g, parts, h, inr ((λ q. absurd cc), ap (λ (k : ContainerFault). k.flaw) (sym e), left)))) }
in_meta limit bytes rest g Limit f is parts low h e = let left : f.left ≡ g.left = ap (λ (k : ContainerFault). k.left) (sym e) in record { within = omega (arith, left, low); fault = inr (inr (inl (rest, g, parts, h, inr ((λ q. absurd cc), ap (λ (k : ContainerFault). k.flaw) (sym e), left)))) }

pub header_faulty : (limit : ℕ) (bytes : List ℕ) (f : ContainerFault) → header_at limit bytes ≡ Err f → HeaderFault limit bytes f
header_faulty limit bytes f e = elim (bind_err (step_of (length bytes) (after_magic bytes)) (behind_magic limit bytes) f (sym (header_is limit bytes) ∙ e)) [
  | inl failed ↦
      (let p = placed_err (length bytes) (after_magic bytes) f failed in
      let left = p.1 in
      elim (magic_faulty bytes f.flaw p.0) [
        | inl short ↦ record { within = omega (arith, left); fault = inl (short.0, (short.1, left)) }
        | inr other ↦ record { within = omega (arith, left); fault = inr (inl (other.0, other.1, other.2, other.3, other.4, (other.5, left))) }
      ])
  | inr a ↦
      (let m = magic_takes bytes a.0 (placed_ok (length bytes) (after_magic bytes) a.0 a.1) in
      let long : length bytes ≡ 4 + length a.0 = ap length m ∙ length-append magic a.0 in
      elim (bind_err (meta_step (length bytes) (meta_at a.0 limit)) (behind_meta bytes) f a.2) [
        | inl failed ↦
            (let g = meta_placed_err (length bytes) (meta_at a.0 limit) f failed in
            let h = meta_faults a.0 limit g.0 g.1 in
            let low = h.within in
            in_meta limit bytes a.0 g.0 g.0.fault f refl m (omega (arith, low, long)) h.fault g.2)
        | inr b ↦
            (let t = meta_takes a.0 limit b.0 (meta_placed_ok (length bytes) (meta_at a.0 limit) b.0 b.1) in
            let counted = t.counted in
            elim (bind_err (run_in (length bytes) 16 b.0.1) (λ marker. Ok (b.0.0, marker.0, marker.1)) f b.2) [
              | inl failed ↦
                  (let r = run_in_faulty (length bytes) 16 b.0.1 f failed in
                  let left : f.left ≡ length bytes = ap (λ (k : ContainerFault). k.left) r.1 in
                  record {
                    within = omega (arith, left);
                    fault = inr (inr (inr (b.0.0, t.front, b.0.1, m ∙ ap (λ (z : List ℕ). magic ++ z) t.parts, t.spelled, omega (arith, counted), r.0, (ap (λ (k : ContainerFault). k.flaw) r.1, left))));
                  })
              | inr c ↦ absurd (let d = c.2 in cc)
            ])
      ])
]

out_meta : (whole : ℕ) (g : FaultAt) (r : Fault) (f : ContainerFault) → g.fault ≡ r → ((g.fault ≡ Short) × (f.flaw ≡ flaw.Short) × (f.left ≡ whole)) ⊎ ((g.fault ≡ Short → ⊥) × (f.flaw ≡ flaw.BadMeta) × (f.left ≡ g.left)) → meta_fault_by r whole g.left ≡ f
out_meta whole g Short f is (inl h) = fault_is f flaw.Short whole h.1 h.2
out_meta whole g Short f is (inr h) = absurd (h.0 is)
out_meta whole g BadLong f is (inl h) = let e = h.0 in absurd cc
out_meta whole g BadLong f is (inr h) = fault_is f flaw.BadMeta g.left h.1 h.2
out_meta whole g BadLength f is (inl h) = let e = h.0 in absurd cc
out_meta whole g BadLength f is (inr h) = fault_is f flaw.BadMeta g.left h.1 h.2
out_meta whole g BadIndex f is (inl h) = let e = h.0 in absurd cc
out_meta whole g BadIndex f is (inr h) = fault_is f flaw.BadMeta g.left h.1 h.2
out_meta whole g BadText f is (inl h) = let e = h.0 in absurd cc
out_meta whole g BadText f is (inr h) = fault_is f flaw.BadMeta g.left h.1 h.2
out_meta whole g BadBool f is (inl h) = let e = h.0 in absurd cc
out_meta whole g BadBool f is (inr h) = fault_is f flaw.BadMeta g.left h.1 h.2
out_meta whole g Limit f is (inl h) = let e = h.0 in absurd cc
out_meta whole g Limit f is (inr h) = fault_is f flaw.BadMeta g.left h.1 h.2

pub header_refused : (limit : ℕ) (bytes : List ℕ) (f : ContainerFault) → FaultsInHeader limit bytes f → header_at limit bytes ≡ Err f
header_refused limit bytes f (inl (lt, at)) = header_is limit bytes ∙ rw (magic_short bytes lt) (ap Err (fault_is f flaw.Short (length bytes) at.0 at.1))
header_refused limit bytes f (inr (inl (front, rest, parts, len, other, at))) =
    let a : after_magic bytes ≡ Err flaw.BadMagic = ap after_magic parts ∙ magic_other front rest len other in
    header_is limit bytes ∙ rw a (ap Err (fault_is f flaw.BadMagic (length bytes) at.0 at.1))
header_refused limit bytes f (inr (inr (inl (rest, g, parts, h, which)))) =
    let a : after_magic bytes ≡ Ok rest = ap after_magic parts ∙ magic_again rest in
    let is : meta_fault (length bytes) g ≡ f = out_meta (length bytes) g g.fault f refl (elim which [ inl s ↦ inl (s.0, s.1.0, s.1.1) | inr s ↦ inr (s.0, s.1, s.2) ]) in
    header_is limit bytes ∙ rw (a, meta_refused rest limit g h) (ap Err is)
header_refused limit bytes f (inr (inr (inr (meta, map, rest, parts, is_map, few, lt, at)))) =
    let a : after_magic bytes ≡ Ok (map ++ rest) = ap after_magic parts ∙ magic_again (map ++ rest) in
    let b = meta_again meta map rest limit (limit - meta_size meta) is_map (omega (arith, few)) in
    header_is limit bytes ∙ rw (a, b, run_in_refused (length bytes) 16 rest lt) (ap Err (fault_is f flaw.Short (length bytes) at.0 at.1))
