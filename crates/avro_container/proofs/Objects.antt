-- What a block's objects take, and where they are at fault.
use Rattle.std.proofs.Common.{◌≡◌, ℕ, ◌+◌, ◌-◌, ◌<◌, ◌≤◌, ◌⊎◌, pos, true, List, [], ◌∷◌, ◌++◌, length, Ok, Err, refl, sym, ap, subst, ◌∙◌, arith, inl, inr}
use Rattle.std.proofs.lemmas.List.{length-append, append-nil}
use Rattle.avro_value.specs.declared.fault.Fault.{Fault}
use Rattle.avro_value.specs.declared.fault.Fault.TheVariants.{Short, BadLong, BadLength, BadIndex, BadText, BadBool, Limit}
use Rattle.avro_value.specs.declared.fault.FaultAt.{FaultAt}
use Rattle.avro_value.specs.Varint.{Long}
use Rattle.avro_value.specs.Layout.{Layout, is_bare}
use Rattle.avro_value.specs.ValueTree.{ValueTree, value_count, total}
use Rattle.avro_value.specs.Spelling.{Concatenated, Spells}
use Rattle.avro_value.specs.Faults.{LacksNatural}
use Rattle.avro_value.specs.Reading.{Item, Read, run_at, natural_at, many_at, value_at, read_behind}
use Rattle.avro_value.proofs.NumberLaws.{ok_is}
use Rattle.avro_value.proofs.ItemLaws.{natural_takes, natural_again, run_takes, run_again}
use Rattle.avro_value.proofs.ReaderLaws.{TakesBy, AgainBy, many_takes, many_again}
use Rattle.avro_value.proofs.ValueLaws.{value_takes, value_again}
use Rattle.avro_value.proofs.FaultLaws.{err_is, natural_refuses, run_refuses}
use Rattle.avro_value.proofs.FaultAgain.{natural_refused, run_refused}
use Rattle.avro_value.proofs.ReaderFaults.{FaultsBy, many_faults, mapped_err}
use Rattle.avro_value.proofs.ReaderFaultAgain.{FaultAgainBy, same_fault, many_refused}
use Rattle.avro_value.proofs.ValueFaults.{value_faults}
use Rattle.avro_value.proofs.BareValues.{IdleBy, idle_value}
use Rattle.avro_value.proofs.ValueFaultAgain.{value_refused}
use Rattle.avro_container.specs.declared.fault.Flaw.{Flaw}
use Rattle.avro_container.specs.declared.fault.Flaw.TheVariants as flaw
use Rattle.avro_container.specs.declared.fault.ContainerFault.{ContainerFault}
use Rattle.avro_container.specs.Reading.{Step, flaw_at, number_fault, natural_in, run_in, object_fault_by, object_fault, relimited, object_at, objects_in, objects_behind}
use Rattle.avro_container.specs.Faults.{IsFlawAt, FaultsInNumber, IsObjectFault, FaultsInObject, FaultsInObjects}

-- ---- an object

relimited_ok : {A : Type 0} (bytes : List ℕ) (r : Read A) (x : A × List ℕ × ℕ) → relimited bytes r ≡ Ok x → r ≡ Ok x
relimited_ok bytes (Ok y) x e = let h : y ≡ x = cc in ap Ok h
relimited_ok bytes (Err f) x e = absurd cc

relimited_err : {A : Type 0} (bytes : List ℕ) (r : Read A) (f : FaultAt) → relimited bytes r ≡ Err f → (g : FaultAt) × (r ≡ Err g) × (f ≡ object_fault bytes g)
relimited_err bytes (Ok y) f e = absurd cc
relimited_err bytes (Err g) f e = (g, refl, sym (err_is _ _ e))

pub object_takes : (l : Layout) → TakesBy (object_at l) (Spells l) value_count 0
unfolding object_at
object_takes l bytes budget x e = value_takes l bytes budget x (relimited_ok bytes (value_at l bytes budget) x e)

pub object_again : (l : Layout) → AgainBy (object_at l) (Spells l) value_count 0
unfolding object_at
object_again l x front rest budget left p e = ap (relimited (front ++ rest)) (value_again l x front rest budget left p e)

object_within : (r : Fault) (bytes : List ℕ) (f : FaultAt) → f.left ≤ length bytes → (object_fault_by r bytes f).left ≤ length bytes
object_within Limit bytes f h = omega arith
object_within Short bytes f h = h
object_within BadLong bytes f h = h
object_within BadLength bytes f h = h
object_within BadIndex bytes f h = h
object_within BadText bytes f h = h
object_within BadBool bytes f h = h

object_in : (r : Fault) (bytes : List ℕ) (g f : FaultAt) → g.fault ≡ r → f ≡ object_fault_by r bytes g → IsObjectFault bytes g f
object_in Limit bytes g f q e = inl (q, ap (λ (k : FaultAt). k.fault) e, ap (λ (k : FaultAt). k.left) e)
object_in Short bytes g f q e = inr ((λ p. let both = sym q ∙ p in absurd cc), e)
object_in BadLong bytes g f q e = inr ((λ p. let both = sym q ∙ p in absurd cc), e)
object_in BadLength bytes g f q e = inr ((λ p. let both = sym q ∙ p in absurd cc), e)
object_in BadIndex bytes g f q e = inr ((λ p. let both = sym q ∙ p in absurd cc), e)
object_in BadText bytes g f q e = inr ((λ p. let both = sym q ∙ p in absurd cc), e)
object_in BadBool bytes g f q e = inr ((λ p. let both = sym q ∙ p in absurd cc), e)

object_out : (r : Fault) (bytes : List ℕ) (g f : FaultAt) → g.fault ≡ r → IsObjectFault bytes g f → object_fault_by r bytes g ≡ f
object_out Limit bytes g f q (inl h) = same_fault bytes Limit f h.1 h.2
object_out Limit bytes g f q (inr h) = absurd (h.0 q)
object_out Short bytes g f q (inl h) = let both = sym q ∙ h.0 in absurd cc
object_out Short bytes g f q (inr h) = sym h.1
object_out BadLong bytes g f q (inl h) = let both = sym q ∙ h.0 in absurd cc
object_out BadLong bytes g f q (inr h) = sym h.1
object_out BadLength bytes g f q (inl h) = let both = sym q ∙ h.0 in absurd cc
object_out BadLength bytes g f q (inr h) = sym h.1
object_out BadIndex bytes g f q (inl h) = let both = sym q ∙ h.0 in absurd cc
object_out BadIndex bytes g f q (inr h) = sym h.1
object_out BadText bytes g f q (inl h) = let both = sym q ∙ h.0 in absurd cc
object_out BadText bytes g f q (inr h) = sym h.1
object_out BadBool bytes g f q (inl h) = let both = sym q ∙ h.0 in absurd cc
object_out BadBool bytes g f q (inr h) = sym h.1

pub object_faults : (l : Layout) → FaultsBy (object_at l) (FaultsInObject l)
unfolding object_at
object_faults l bytes budget f e =
    let g = relimited_err bytes (value_at l bytes budget) f e in
    let h = value_faults l bytes budget g.0 g.1 in
    record {
      within = subst (λ (k : FaultAt). k.left ≤ length bytes) (sym g.2) (object_within g.0.fault bytes g.0 h.within);
      fault = (g.0, h.fault, object_in g.0.fault bytes g.0 f refl g.2);
    }

pub object_refused : (l : Layout) → FaultAgainBy (object_at l) (FaultsInObject l)
unfolding object_at
object_refused l bytes budget f h = ap (relimited bytes) (value_refused l bytes budget h.0 h.1) ∙ ap Err (object_out h.0.fault bytes h.0 f refl h.2)

-- Objects that take no bytes pass the limit where they begin.
pub idle_object : (l : Layout) → is_bare l ≡ true → IdleBy 1 (object_at l)
unfolding object_at
idle_object l e bytes budget = elim (idle_value l e bytes budget) [
  | inl (v, left, is, few) ↦ inl (v, left, ap (relimited bytes) is, few)
  | inr past ↦ inr (ap (relimited bytes) past)
]

-- ---- a block's objects

pub record ObjectsTaken (l : Layout) (n : ℕ) (objects : List ℕ) (budget : ℕ) (x : List ValueTree × ℕ) : Type 0 where
  pub many : length x.0 ≡ n
  pub joined : Concatenated (Spells l) x.0 objects
  pub counted : x.1 + total value_count x.0 ≡ budget

objects_taken_at : (l : Layout) (n : ℕ) (objects : List ℕ) (after budget : ℕ) (r : Read (List ValueTree)) (x : List ValueTree × ℕ) → many_at (object_at l) n objects budget ≡ r
    → ◌≡◌ {A = Step (List ValueTree × ℕ)} (elim r as (λ _. Step (List ValueTree × ℕ)) [
      | Err f ↦ Err (flaw_at (flaw.Value f.fault) (f.left + after))
      | Ok vs ↦ elim vs.1 as (λ _. Step (List ValueTree × ℕ)) [ [] ↦ Ok (vs.0, vs.2) | b ∷ over ↦ Err (flaw_at flaw.BadBlock (length (b ∷ over) + after)) ]
    ]) (Ok x) → ObjectsTaken l n objects budget x
objects_taken_at l n objects after budget (Err f) x is e = absurd cc
objects_taken_at l n objects after budget (Ok (vs, b ∷ over, left)) x is e = absurd cc
objects_taken_at l n objects after budget (Ok (vs, [], left)) x is e =
    let t = many_takes (object_at l) (Spells l) value_count (object_takes l) n objects budget (vs, [], left) is in
    let c = t.counted in
    subst (λ (y : List ValueTree × ℕ). ObjectsTaken l n objects budget y) (ok_is (vs, left) x e)
    (record {
      many = t.spelled.0;
      joined = subst (Concatenated (Spells l) vs) (sym (t.parts ∙ append-nil t.front)) t.spelled.1;
      counted = omega (arith, c);
    })

pub objects_taken : (l : Layout) (n : ℕ) (objects : List ℕ) (after budget : ℕ) (x : List ValueTree × ℕ) → objects_in l n objects after budget ≡ Ok x → ObjectsTaken l n objects budget x
unfolding objects_in
objects_taken l n objects after budget x e = objects_taken_at l n objects after budget (many_at (object_at l) n objects budget) x refl e

pub objects_again : (l : Layout) (vs : List ValueTree) (objects : List ℕ) (after budget left : ℕ) → Concatenated (Spells l) vs objects → left + total value_count vs ≡ budget → objects_in l (length vs) objects after budget ≡ Ok (vs, left)
unfolding objects_in
objects_again l vs objects after budget left p e =
    let m : many_at (object_at l) (length vs) (objects ++ []) budget ≡ Ok (vs, [], left) = many_again (object_at l) (Spells l) value_count (object_again l) vs objects [] budget left p e in
    let same : many_at (object_at l) (length vs) objects budget ≡ Ok (vs, [], left) = ap (λ (o : List ℕ). many_at (object_at l) (length vs) o budget) (sym (append-nil objects)) ∙ m in
    rw (same, objects_in) refl

pub record ObjectsFault (l : Layout) (n : ℕ) (objects after : List ℕ) (budget : ℕ) (f : ContainerFault) : Type 0 where
  pub within : f.left ≤ length (objects ++ after)
  pub fault : FaultsInObjects l n objects after budget f

objects_faulty_at : (l : Layout) (n : ℕ) (objects after : List ℕ) (budget : ℕ) (r : Read (List ValueTree)) (f : ContainerFault) → many_at (object_at l) n objects budget ≡ r
    → ◌≡◌ {A = Step (List ValueTree × ℕ)} (elim r as (λ _. Step (List ValueTree × ℕ)) [
      | Err f ↦ Err (flaw_at (flaw.Value f.fault) (f.left + length after))
      | Ok vs ↦ elim vs.1 as (λ _. Step (List ValueTree × ℕ)) [ [] ↦ Ok (vs.0, vs.2) | b ∷ over ↦ Err (flaw_at flaw.BadBlock (length (b ∷ over) + length after)) ]
    ]) (Err f) → ObjectsFault l n objects after budget f
objects_faulty_at l n objects after budget (Ok (vs, [], left)) f is e = absurd cc
objects_faulty_at l n objects after budget (Err g) f is e =
    let h = many_faults (object_at l) (Spells l) value_count (FaultsInObject l) (object_takes l) (object_faults l) n objects budget g is in
    let w = h.within in
    subst (λ (k : ContainerFault). ObjectsFault l n objects after budget k) (err_is (flaw_at (flaw.Value g.fault) (g.left + length after)) f e)
    (record { within = omega (arith, w, length-append objects after); fault = inl (g, h.fault, refl, refl) })
objects_faulty_at l n objects after budget (Ok (vs, b ∷ over, left)) f is e =
    let t = many_takes (object_at l) (Spells l) value_count (object_takes l) n objects budget (vs, b ∷ over, left) is in
    let c = t.counted in
    let long : length objects ≡ length t.front + length (b ∷ over) = ap length t.parts ∙ length-append t.front (b ∷ over) in
    subst (λ (k : ContainerFault). ObjectsFault l n objects after budget k) (err_is (flaw_at flaw.BadBlock (length (b ∷ over) + length after)) f e)
    (record {
      within = omega (arith, long, length-append objects after);
      fault = inr (vs, t.front, b ∷ over, t.parts, omega arith, t.spelled.0, t.spelled.1, omega (arith, c), (refl, sym (length-append (b ∷ over) after)));
    })

pub objects_faulty : (l : Layout) (n : ℕ) (objects after : List ℕ) (budget : ℕ) (f : ContainerFault) → objects_in l n objects (length after) budget ≡ Err f → ObjectsFault l n objects after budget f
unfolding objects_in
objects_faulty l n objects after budget f e = objects_faulty_at l n objects after budget (many_at (object_at l) n objects budget) f refl e

-- a fault is what its fields are
pub fault_is : (f : ContainerFault) (what : Flaw) (left : ℕ) → f.flaw ≡ what → f.left ≡ left → flaw_at what left ≡ f
fault_is f what left e l = ap (λ (w : Flaw). flaw_at w left) (sym e) ∙ ap (λ (n : ℕ). flaw_at f.flaw n) (sym l)

left_over : (l : Layout) (n : ℕ) (objects : List ℕ) (after : ℕ) (budget : ℕ) (vs : List ValueTree) (over : List ℕ) (left : ℕ) → many_at (object_at l) n objects budget ≡ Ok (vs, over, left) → 0 < length over
    → objects_in l n objects after budget ≡ Err (flaw_at flaw.BadBlock (length over + after))
unfolding objects_in
left_over l n objects after budget vs [] left m some = absurd (omega arith)
left_over l n objects after budget vs (b ∷ over) left m some = rw (m, objects_in) refl

pub objects_refused : (l : Layout) (n : ℕ) (objects after : List ℕ) (budget : ℕ) (f : ContainerFault) → FaultsInObjects l n objects after budget f → objects_in l n objects (length after) budget ≡ Err f
unfolding objects_in
objects_refused l n objects after budget f h = elim h [
  | inl g ↦
      (let m = many_refused (object_at l) (Spells l) value_count (FaultsInObject l) (object_again l) (object_refused l) n objects budget g.0 g.1 in
      rw (m, objects_in) (ap Err (fault_is f (flaw.Value g.0.fault) (g.0.left + length after) g.2 g.3)))
  | inr o ↦
      (let vs = o.0 in
      let front = o.1 in
      let over = o.2 in
      let few = o.7 in
      let m : many_at (object_at l) (length vs) (front ++ over) budget ≡ Ok (vs, over, budget - total value_count vs) = many_again (object_at l) (Spells l) value_count (object_again l) vs front over budget (budget - total value_count vs) o.6 (omega (arith, few)) in
      let same : many_at (object_at l) n objects budget ≡ Ok (vs, over, budget - total value_count vs) = rw (o.3, ← o.5) m in
      left_over l n objects (length after) budget vs over (budget - total value_count vs) same o.4 ∙ ap Err (fault_is f flaw.BadBlock (length over + length after) o.8.0 (o.8.1 ∙ length-append over after)))
]

-- ---- counts, sizes and runs

pub run_in_takes : (whole n : ℕ) (bytes : List ℕ) (x : List ℕ × List ℕ) → run_in whole n bytes ≡ Ok x → (bytes ≡ x.0 ++ x.1) × (length x.0 ≡ n)
unfolding run_in
run_in_takes whole n bytes x e = go (run_at n bytes) refl e
  where
    go : (r : Item (List ℕ)) → run_at n bytes ≡ r → ◌≡◌ {A = Step (List ℕ × List ℕ)} (elim r as (λ _. Step (List ℕ × List ℕ)) [ Err r ↦ Err (flaw_at flaw.Short whole) | Ok x ↦ Ok x ]) (Ok x) → (bytes ≡ x.0 ++ x.1) × (length x.0 ≡ n)
    go (Ok y) is q =
        let t = run_takes n bytes y is in
        let same : y ≡ x = ok_is y x q in
        let front : t.0 ≡ x.0 = sym t.2.0 ∙ ap (λ (z : List ℕ × List ℕ). z.0) same in
        (t.1 ∙ ap (λ (a : List ℕ). a ++ y.1) front ∙ ap (λ (z : List ℕ × List ℕ). x.0 ++ z.1) same, sym (ap length front) ∙ t.2.1)
    go (Err r) is q = absurd cc

pub run_in_again : (whole n : ℕ) (run rest : List ℕ) → length run ≡ n → run_in whole n (run ++ rest) ≡ Ok (run, rest)
unfolding run_in
run_in_again whole n run rest len = rw (run_again n run run rest (refl, len), run_in) refl

pub run_in_faulty : (whole n : ℕ) (bytes : List ℕ) (f : ContainerFault) → run_in whole n bytes ≡ Err f → (length bytes < n) × (f ≡ flaw_at flaw.Short whole)
unfolding run_in
run_in_faulty whole n bytes f e = go (run_at n bytes) refl e
  where
    go : (r : Item (List ℕ)) → run_at n bytes ≡ r → ◌≡◌ {A = Step (List ℕ × List ℕ)} (elim r as (λ _. Step (List ℕ × List ℕ)) [ Err r ↦ Err (flaw_at flaw.Short whole) | Ok x ↦ Ok x ]) (Err f) → (length bytes < n) × (f ≡ flaw_at flaw.Short whole)
    go (Ok y) is q = absurd cc
    go (Err r) is q = ((run_refuses n bytes r is).1, sym (err_is (flaw_at flaw.Short whole) f q))

pub run_in_refused : (whole n : ℕ) (bytes : List ℕ) → length bytes < n → run_in whole n bytes ≡ Err (flaw_at flaw.Short whole)
unfolding run_in
run_in_refused whole n bytes lt = rw (run_refused n bytes Short (refl, lt), run_in) refl

pub natural_in_takes : (block : ℕ) (bytes : List ℕ) (x : ℕ × List ℕ) → natural_in block bytes ≡ Ok x → (front : List ℕ) × (bytes ≡ front ++ x.1) × Long (pos x.0) front
unfolding natural_in
natural_in_takes block bytes x e = go (natural_at BadLength bytes) refl e
  where
    go : (r : Item ℕ) → natural_at BadLength bytes ≡ r → ◌≡◌ {A = Step (ℕ × List ℕ)} (elim r as (λ _. Step (ℕ × List ℕ)) [ Ok x ↦ Ok x | Err r ↦ Err (number_fault r block (length bytes)) ]) (Ok x) → (front : List ℕ) × (bytes ≡ front ++ x.1) × Long (pos x.0) front
    go (Ok y) is q = subst (λ (z : ℕ × List ℕ). (front : List ℕ) × (bytes ≡ front ++ z.1) × Long (pos z.0) front) (ok_is y x q) (natural_takes BadLength bytes y is)
    go (Err r) is q = absurd cc

pub natural_in_again : (block n : ℕ) (front rest : List ℕ) → Long (pos n) front → natural_in block (front ++ rest) ≡ Ok (n, rest)
unfolding natural_in
natural_in_again block n front rest p = rw (natural_again BadLength n front rest p, natural_in) refl

number_in : (r : Fault) (block bytes : List ℕ) → LacksNatural BadLength r bytes → FaultsInNumber block bytes (number_fault r (length block) (length bytes))
number_in Short block bytes h = (Short, h, inl (refl, (refl, refl)))
number_in BadLong block bytes h = (BadLong, h, inr ((λ e. absurd cc), (refl, refl)))
number_in BadLength block bytes h = (BadLength, h, inr ((λ e. absurd cc), (refl, refl)))
number_in BadIndex block bytes h = (BadIndex, h, inr ((λ e. absurd cc), (refl, refl)))
number_in BadText block bytes h = (BadText, h, inr ((λ e. absurd cc), (refl, refl)))
number_in BadBool block bytes h = (BadBool, h, inr ((λ e. absurd cc), (refl, refl)))
number_in Limit block bytes h = (Limit, h, inr ((λ e. absurd cc), (refl, refl)))

pub natural_in_faulty : (block bytes : List ℕ) (f : ContainerFault) → natural_in (length block) bytes ≡ Err f → FaultsInNumber block bytes f
unfolding natural_in
natural_in_faulty block bytes f e = go (natural_at BadLength bytes) refl e
  where
    go : (r : Item ℕ) → natural_at BadLength bytes ≡ r → ◌≡◌ {A = Step (ℕ × List ℕ)} (elim r as (λ _. Step (ℕ × List ℕ)) [ Ok x ↦ Ok x | Err r ↦ Err (number_fault r (length block) (length bytes)) ]) (Err f) → FaultsInNumber block bytes f
    go (Ok y) is q = absurd cc
    go (Err r) is q = subst (FaultsInNumber block bytes) (err_is (number_fault r (length block) (length bytes)) f q) (number_in r block bytes (natural_refuses BadLength bytes r is))

number_out : (r : Fault) (block bytes : List ℕ) (f : ContainerFault) → ((r ≡ Short) × IsFlawAt flaw.Short block f) ⊎ ((r ≡ Short → ⊥) × IsFlawAt flaw.BadBlock bytes f) → number_fault r (length block) (length bytes) ≡ f
number_out Short block bytes f (inl h) = fault_is f flaw.Short (length block) h.1.0 h.1.1
number_out Short block bytes f (inr h) = absurd (h.0 refl)
number_out BadLong block bytes f (inl h) = let e = h.0 in absurd cc
number_out BadLong block bytes f (inr h) = fault_is f flaw.BadBlock (length bytes) h.1.0 h.1.1
number_out BadLength block bytes f (inl h) = let e = h.0 in absurd cc
number_out BadLength block bytes f (inr h) = fault_is f flaw.BadBlock (length bytes) h.1.0 h.1.1
number_out BadIndex block bytes f (inl h) = let e = h.0 in absurd cc
number_out BadIndex block bytes f (inr h) = fault_is f flaw.BadBlock (length bytes) h.1.0 h.1.1
number_out BadText block bytes f (inl h) = let e = h.0 in absurd cc
number_out BadText block bytes f (inr h) = fault_is f flaw.BadBlock (length bytes) h.1.0 h.1.1
number_out BadBool block bytes f (inl h) = let e = h.0 in absurd cc
number_out BadBool block bytes f (inr h) = fault_is f flaw.BadBlock (length bytes) h.1.0 h.1.1
number_out Limit block bytes f (inl h) = let e = h.0 in absurd cc
number_out Limit block bytes f (inr h) = fault_is f flaw.BadBlock (length bytes) h.1.0 h.1.1

pub natural_in_refused : (block bytes : List ℕ) (f : ContainerFault) → FaultsInNumber block bytes f → natural_in (length block) bytes ≡ Err f
unfolding natural_in
natural_in_refused block bytes f h = rw (natural_refused BadLength bytes h.0 h.1, natural_in) (ap Err (number_out h.0 block bytes f h.2))

-- ---- as the code adds

pub objects_within : (l : Layout) (front : List ValueTree) (n : ℕ) (objects : List ℕ) (budget : ℕ) (f : FaultAt) → read_behind front (many_at (object_at l) n objects budget) ≡ Err f → f.left ≤ length objects
objects_within l front n objects budget f e = (many_faults (object_at l) (Spells l) value_count (FaultsInObject l) (object_takes l) (object_faults l) n objects budget f (mapped_err _ _ f e)).within

pub objects_left : (l : Layout) (front : List ValueTree) (n : ℕ) (objects : List ℕ) (budget : ℕ) (x : List ValueTree × List ℕ × ℕ) → read_behind front (many_at (object_at l) n objects budget) ≡ Ok x → length x.1 ≤ length objects
objects_left l front n objects budget x e = go (many_at (object_at l) n objects budget) refl e
  where
    go : (r : Read (List ValueTree)) → many_at (object_at l) n objects budget ≡ r → read_behind front r ≡ Ok x → length x.1 ≤ length objects
    go (Err f) is q = absurd cc
    go (Ok y) is q =
        let t = many_takes (object_at l) (Spells l) value_count (object_takes l) n objects budget y is in
        let same : y.1 ≡ x.1 = cc in
        omega (arith, ap length t.parts, length-append t.front y.1, ap length same)

objects_fail_at : (l : Layout) (front : List ValueTree) (n : ℕ) (objects : List ℕ) (after budget : ℕ) (f : FaultAt) (left : ℕ) → many_at (object_at l) n objects budget ≡ Err f → left ≡ f.left + after
    → objects_behind front (objects_in l n objects after budget) ≡ Err (flaw_at (flaw.Value f.fault) left)
unfolding objects_in
objects_fail_at l front n objects after budget f left m e = rw (m, objects_in, e) refl

pub objects_fail : (l : Layout) (front : List ValueTree) (n : ℕ) (objects : List ℕ) (after budget : ℕ) (f : FaultAt) (left : ℕ) → read_behind front (many_at (object_at l) n objects budget) ≡ Err f → left ≡ f.left + after
    → objects_behind front (objects_in l n objects after budget) ≡ Err (flaw_at (flaw.Value f.fault) left)
objects_fail l front n objects after budget f left m e = objects_fail_at l front n objects after budget f left (mapped_err _ _ f m) e
