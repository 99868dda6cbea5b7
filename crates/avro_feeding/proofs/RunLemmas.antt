-- Reading whole blocks one after the other, as the loop does.
use Rattle.std.proofs.Common.{◌≡◌, ℕ, zero, suc, ◌+◌, ◌-◌, ◌<◌, List, [], ◌∷◌, ◌++◌, length, map, drop, Option, Some, None, Ok, Err, refl, sym, ap, subst, ◌∙◌, append_assoc, arith}
use Rattle.std.proofs.Math.Seq.{drop-append_seam}
use Rattle.std.proofs.lemmas.List.{length-append, append-nil}
use Rattle.std.proofs.lemmas.List.Concat.{flat_map-cons}
use Rattle.avro_value.specs.Layout.{layout_of}
use Rattle.avro_value.specs.declared.value.Value.{Value}
use Rattle.avro_value.specs.ValueTree.{ValueTree, value_tree}
use Rattle.avro_container.specs.declared.error.ContainerError.{ContainerError}
use Rattle.avro_container.specs.declared.fault.ContainerFault.{ContainerFault}
use Rattle.avro_container.specs.Reading.{Step, block_behind}
use Rattle.avro_container.proofs.WholeBlocks.{block_takes}
use Rattle.avro_feeding.specs.Feeding.{Behind, in_blocks, State, further, refusal, waits_or_refused, found_in, behind_block, read_on, read_blocks}
use Rattle.avro_feeding.specs.Views.{with_found, summary}
use Rattle.avro_feeding.proofs.PieceLemmas.{block_in, shorter}

-- what is found behind these values
abbrev pub behind_found : Option (List ValueTree) → State × Option (List ValueTree) → State × Option (List ValueTree)
behind_found found r = (r.0, with_found found r.1)

-- From b0 on reading has come to b with fuel left, and has found these values.
pub record Along (b0 : Behind) (fuel : ℕ) (b : Behind) (found : Option (List ValueTree)) : Type 0 where
  pub front : List ℕ
  pub split : b0.rest ≡ front ++ b.rest
  pub schema : b.schema ≡ b0.schema
  pub marker : b.marker ≡ b0.marker
  pub enough : length b.rest < fuel
  pub so_far : behind_found found (summary (read_on fuel b)) ≡ summary (read_blocks b0)

nothing_found : (r : State × Option (List ValueTree)) → behind_found None r ≡ r
nothing_found r = refl

pub begins : (b : Behind) (fuel : ℕ) → fuel ≡ length b.rest + 1 → Along b (fuel - 0) b None
begins b fuel is = record {
  front = [];
  split = refl;
  schema = refl;
  marker = refl;
  enough = omega arith;
  so_far = let same : fuel - 0 ≡ length b.rest + 1 = omega arith in ap (λ (f : ℕ). summary (read_on f b)) same;
}

-- one block's values more
found_more : (found : Option (List ValueTree)) (vs : List ValueTree) (blocks : List (List ValueTree)) → with_found found (found_in (vs ∷ blocks)) ≡ with_found (with_found found (Some vs)) (found_in blocks)
found_more None vs [] = ap Some (flat_map-cons (λ (ws : List ValueTree). ws) vs [] ∙ append-nil vs)
found_more None vs (ws ∷ blocks) = ap Some (flat_map-cons (λ (us : List ValueTree). us) vs (ws ∷ blocks))
found_more (Some us) vs [] = ap (λ (l : List ValueTree). Some (us ++ l)) (flat_map-cons (λ (ws : List ValueTree). ws) vs [] ∙ append-nil vs)
found_more (Some us) vs (ws ∷ blocks) = ap (λ (l : List ValueTree). Some (us ++ l)) (flat_map-cons (λ (ts : List ValueTree). ts) vs (ws ∷ blocks)) ∙ ap Some (sym (append_assoc us vs _))

found_last : (found : Option (List ValueTree)) → with_found found None ≡ found
found_last None = refl
found_last (Some vs) = refl

one_more : (fuel : ℕ) (b : Behind) (found : Option (List ValueTree)) (x : List ValueTree × List ℕ × ℕ) → block_in b ≡ Ok x → behind_found found (summary (read_on (suc fuel) b)) ≡ behind_found (with_found found (Some x.0)) (summary (read_on fuel (behind_block b x)))
unfolding read_on
one_more fuel b found x is = rw is (ap (λ (o : Option (List ValueTree)). ((read_on fuel (behind_block b x)).0, o)) (found_more found x.0 (read_on fuel (behind_block b x)).1))

pub goes : (b0 b : Behind) (fuel left : ℕ) (found : Option (List ValueTree)) (x : List ValueTree × List ℕ × ℕ) → Along b0 fuel b found → fuel ≡ suc left → block_in b ≡ Ok x → Along b0 left (behind_block b x) (with_found found (Some x.0))
goes b0 b fuel left found x along is e =
    let t = block_takes (layout_of b.schema) b.marker b.rest b.budget x e in
    let less = shorter b x e in
    let enough = along.enough in
    record {
      front = along.front ++ t.front;
      split = along.split ∙ ap (λ (l : List ℕ). along.front ++ l) t.parts ∙ sym (append_assoc along.front t.front x.1);
      schema = along.schema;
      marker = along.marker;
      enough = omega (arith, less, enough);
      so_far = sym (one_more left b found x e) ∙ ap (λ (f : ℕ). behind_found found (summary (read_on f b))) (sym is) ∙ along.so_far;
    }

at_fault : (fuel : ℕ) (b : Behind) (found : Option (List ValueTree)) (f : ContainerFault) → block_in b ≡ Err f → behind_found found (summary (read_on (suc fuel) b)) ≡ (waits_or_refused (in_blocks b) (Some b.schema) (refusal b.offset b.rest f), found)
unfolding read_on
at_fault fuel b found f is = rw is (ap (λ (o : Option (List ValueTree)). (waits_or_refused (in_blocks b) (Some b.schema) (refusal b.offset b.rest f), o)) (found_last found))

pub rest_is : (all front rest : List ℕ) → all ≡ front ++ rest → drop (length all - length rest) all ≡ rest
rest_is all front rest is =
    let n : length all - length rest ≡ length front = omega (arith, ap length is, length-append front rest) in
    rw (n, is) (drop-append_seam front rest)

behind_is : (b0 b : Behind) → b.schema ≡ b0.schema → b.marker ≡ b0.marker → record b0 { offset = b.offset; rest = b.rest; budget = b.budget } ≡ b
behind_is b0 b schema marker = rw (schema, marker) refl

pub stops : (b0 b : Behind) (fuel : ℕ) (found : Option (List ValueTree)) (f : ContainerFault) → Along b0 fuel b found → 0 < fuel → block_in b ≡ Err f
    → summary (read_blocks b0) ≡ (waits_or_refused (in_blocks (record b0 { offset = b.offset; rest = drop (length b0.rest - length b.rest) b0.rest; budget = b.budget })) (Some b0.schema) (refusal b.offset b.rest f), found)
stops b0 b zero found f along some is = absurd (omega arith)
stops b0 b (suc fuel) found f along some is =
    let rest = rest_is b0.rest along.front b.rest along.split in
    sym along.so_far ∙ at_fault fuel b found f is
    ∙ rw (rest, behind_is b0 b along.schema along.marker) (ap (λ (s : _). (waits_or_refused (in_blocks b) (Some s) (refusal b.offset b.rest f), found)) along.schema)

-- ---- as the loop has it

nothing_before : (r : Step (List ValueTree × List ℕ × ℕ)) → block_behind [] r ≡ r
nothing_before (Ok x) = refl
nothing_before (Err f) = refl

-- a block whose values come into an empty list
pub fresh_block : (values : List Value) (r s : Step (List ValueTree × List ℕ × ℕ)) → values ≡ [] → block_behind (map value_tree values) r ≡ s → r ≡ s
fresh_block values r s none e = sym (nothing_before r) ∙ ap (λ (vs : List Value). block_behind (map value_tree vs) r) (sym none) ∙ e

pub goes_so : (b0 b : Behind) (fuel left : ℕ) (found more : Option (List ValueTree)) (x : List ValueTree × List ℕ × ℕ) (offset : ℕ) → Along b0 fuel b found → fuel ≡ suc left → block_in b ≡ Ok x → offset ≡ further b.offset (length b.rest - length x.1)
    → more ≡ with_found found (Some x.0) → Along b0 left (record { schema = b.schema; marker = b.marker; offset = offset; rest = x.1; budget = x.2 }) more
goes_so b0 b fuel left found more x offset along is e place values =
    subst (λ (o : Option (List ValueTree)). Along b0 left (record { schema = b.schema; marker = b.marker; offset = offset; rest = x.1; budget = x.2 }) o) (sym values)
    (subst (λ (n : ℕ). Along b0 left (record { schema = b.schema; marker = b.marker; offset = n; rest = x.1; budget = x.2 }) (with_found found (Some x.0))) (sym place) (goes b0 b fuel left found x along is e))

pub stops_so : (b0 b : Behind) (fuel : ℕ) (found : Option (List ValueTree)) (f : ContainerFault) (r : Option ContainerError) → Along b0 fuel b found → 0 < fuel → block_in b ≡ Err f → r ≡ refusal b.offset b.rest f
    → summary (read_blocks b0) ≡ (waits_or_refused (in_blocks (record b0 { offset = b.offset; rest = drop (length b0.rest - length b.rest) b0.rest; budget = b.budget })) (Some b0.schema) r, found)
stops_so b0 b fuel found f r along some is refused =
    subst (λ (o : Option ContainerError). summary (read_blocks b0) ≡ (waits_or_refused (in_blocks (record b0 { offset = b.offset; rest = drop (length b0.rest - length b.rest) b0.rest; budget = b.budget })) (Some b0.schema) o, found)) (sym refused)
    (stops b0 b fuel found f along some is)
