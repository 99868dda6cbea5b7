use Rattle.std.proofs.Common.{arith, sym, ◌∙◌, ap, ◌≡◌, inl, inr, Some, None, slice_get, length}
use Rattle.std.proofs.lemmas.Bool.{cases_eq}
use Rattle.std.proofs.lemmas.Option.{same_Some}
use Rattle.file_links.specs.Chains.{slots_in}
use Rattle.file_links.proofs.SlotLemmas.{known_holds, none_past, none_held, not_found_at, bucket_slot, step, one_path}
use Rattle.file_links.proofs.slots.Links.find.Goals as goal

pub returns-then-is_empty-clause-found : goal.returns-then-is_empty-clause-found
returns-then-is_empty-clause-found c = none_held c.self.inside c.args.self.now c.self.view_is c.self.invariant c.args.path.now (grind arith)

pub returns-in_default-clause-found : goal.returns-in_default-clause-found
returns-in_default-clause-found c =
    let none : c.loop-step.place ≡ None = grind arith in
    not_found_at c.self.inside c.args.self.now c.self.view_is c.self.invariant c.args.path.now c.loop-step._step c.bucket_of-bucket.result c.bucket_of-bucket.ensures.value
    (none_past (slots_in c.self.inside.buckets c.bucket_of-bucket.result) c.loop-step._step (sym c.loop-step.invariant.0 ∙ none))
    c.loop-step.invariant.1

pub has_path-requires : goal.has_path-requires
has_path-requires c =
    let h = bucket_slot c.self.inside c.self.invariant c.bucket_of-bucket.result c.loop-step._step c.in-Some.slot c.bucket_of-bucket.ensures.range (sym c.loop-step.invariant.0 ∙ c.in-Some.is) in
    let e = ap (λ l. length l) c.deref.ensures.value in omega (arith, h, e)

pub returns-then-has_path-clause-found : goal.returns-then-has_path-clause-found
returns-then-has_path-clause-found c =
    let y = c.has_path.ensures.yes c.if-has_path.true in
    let e : slice_get c.self.inside.held.items c.in-Some.slot ≡ Some (Some y.0) = ap (λ l. slice_get l c.in-Some.slot) (sym c.deref.ensures.value) ∙ y.1 in
    (y.0, known_holds c.self.inside c.args.self.now c.self.view_is c.self.invariant c.in-Some.slot y.0 e, y.2)

pub next-place-requires-clause-slot : goal.next-place-requires-clause-slot
next-place-requires-clause-slot c =
    let h = bucket_slot c.self.inside c.self.invariant c.bucket_of-bucket.result c.loop-step._step c.in-Some.slot c.bucket_of-bucket.ensures.range (sym c.loop-step.invariant.0 ∙ c.in-Some.is) in
    let e = c.self.invariant.bucket_slots in omega (arith, h, e)

pub loop-step-preserved : goal.loop-step-preserved
loop-step-preserved c =
    let at = sym c.loop-step.invariant.0 ∙ c.in-Some.is in (
      c.next-place.ensures ∙ step c.self.inside.buckets c.self.invariant.buckets c.bucket_of-bucket.result c.in-Some.slot c.loop-step._step c.bucket_of-bucket.ensures.range at,
      λ i s h lt e f same. elim (cases_eq i c.loop-step._step) [
        | inl k ↦ (let s_is : s ≡ c.in-Some.slot = same_Some s c.in-Some.slot (sym e ∙ ap (slice_get (slots_in c.self.inside.buckets c.bucket_of-bucket.result)) k ∙ at) in
            let g : slice_get c.deref.result.now c.in-Some.slot ≡ Some (Some h) = ap (λ l. slice_get l c.in-Some.slot) c.deref.ensures.value ∙ ap (slice_get c.self.inside.held.items) (sym s_is) ∙ f in
            let t = c.has_path.ensures.not h g same in let n = c.if-has_path.false in cc)
        | inr k ↦ c.loop-step.invariant.1 i s h (omega arith) e f same
      ],
    )

pub returns-clause-found : goal.returns-clause-found
returns-clause-found c =
    not_found_at c.self.inside c.args.self.now c.self.view_is c.self.invariant c.args.path.now c.loop-step._step c.bucket_of-bucket.result c.bucket_of-bucket.ensures.value
    (let e = c.count-step-end.ensures in let t = c.loop-step-test.false in omega (arith, e, t))
    c.loop-step.invariant.1

pub returns-then-is_empty-clause-each : goal.returns-then-is_empty-clause-each
returns-then-is_empty-clause-each c slot held w same = absurd (returns-then-is_empty-clause-found c (slot, held, w, same))

pub returns-in_default-clause-each : goal.returns-in_default-clause-each
returns-in_default-clause-each c slot held w same = absurd (returns-in_default-clause-found c (slot, held, w, same))

pub returns-then-has_path-clause-each : goal.returns-then-has_path-clause-each
returns-then-has_path-clause-each c slot held w same =
    let f = returns-then-has_path-clause-found c in
    ap Some (one_path c.self.inside c.args.self.now c.self.view_is c.self.invariant c.in-Some.slot slot f.0 held f.1 w (f.2 ∙ sym same))

pub returns-clause-each : goal.returns-clause-each
returns-clause-each c slot held w same = absurd (returns-clause-found c (slot, held, w, same))
