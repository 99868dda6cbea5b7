-- What a header and a block are, and their faults that aren't the end of the bytes, stay where more bytes come.
use Rattle.std.proofs.Common.{◌≡◌, ℕ, ◌+◌, true, false, List, ◌++◌, length, Ok, Err, sym, ap, subst, ◌∙◌, append_assoc, arith, inl, inr}
use Rattle.std.proofs.lemmas.List.{length-append}
use Rattle.avro_value.specs.declared.fault.Fault.TheVariants.{BadLength}
use Rattle.avro_value.specs.Layout.{Layout}
use Rattle.avro_value.specs.ValueTree.{ValueTree}
use Rattle.avro_value.proofs.NumberLaws.{bind_ok, guard_ok}
use Rattle.avro_container.specs.declared.fault.Flaw.TheVariants as flaw
use Rattle.avro_container.specs.declared.fault.ContainerFault.{ContainerFault}
use Rattle.avro_container.specs.Faults.{IsFlawAt, FaultsInNumber, FaultsInObjects, IsWholeBlock, FaultsInBlock, FaultsInHeader}
use Rattle.avro_container.specs.Format.{Pairs, magic}
use Rattle.avro_container.specs.Reading.{block_at, header_at, natural_in, run_in, objects_in, flaw_at}
use Rattle.std.specs.Str.{bytes_eq}
use Rattle.std.proofs.lemmas.Slice.Eq.{bytes_eq-Decides}
use Rattle.avro_container.proofs.BlockRefusals.{block_refused}
use Rattle.avro_container.proofs.Headers.{header_takes, header_again, header_faulty, header_refused}
use Rattle.avro_container.proofs.Objects.{run_in_takes}
use Rattle.avro_container.proofs.WholeBlocks.{after_count, after_size, after_objects, after_sync, checked, block_is, block_takes, block_again, block_faulty}
use Rattle.avro_feeding.specs.Feeding.{is_short}
use Rattle.avro_feeding.proofs.StayLemmas.{later, natural_stays, meta_stays}
use Rattle.lake_basics.proofs.Lists.{more_behind}

-- the same place, from which there are more bytes
abbrev pub shifted : ContainerFault → List ℕ → ContainerFault
shifted f more = record f { left = f.left + length more }

pub not_short : (f : ContainerFault) → is_short f.flaw ≡ false → f.flaw ≡ flaw.Short → ⊥
not_short f long short = let one : is_short f.flaw ≡ true = ap is_short short in cc

at_more : (what : _) (bytes more : List ℕ) (f : ContainerFault) → IsFlawAt what bytes f → IsFlawAt what (bytes ++ more) (shifted f more)
at_more what bytes more f h = let left = h.1 in (h.0, omega (arith, left, length-append bytes more))

-- ---- the header

header_stays : (limit : ℕ) (bytes more : List ℕ) (f : ContainerFault) → is_short f.flaw ≡ false → FaultsInHeader limit bytes f → FaultsInHeader limit (bytes ++ more) (shifted f more)
header_stays limit bytes more f long (inl (lt, at)) = absurd (not_short f long at.0)
header_stays limit bytes more f long (inr (inl (front, rest, parts, len, other, at))) = inr (inl (front, rest ++ more, more_behind bytes front rest more parts, len, other, at_more flaw.BadMagic bytes more f at))
header_stays limit bytes more f long (inr (inr (inl (rest, g, parts, h, inl (fault, at))))) = absurd (not_short f long at.0)
header_stays limit bytes more f long (inr (inr (inl (rest, g, parts, h, inr (fault, bad, left))))) =
    inr (inr (inl (rest ++ more, later g more, more_behind bytes magic rest more parts, meta_stays rest more limit g fault h, inr (fault, bad, ap (λ (n : ℕ). n + length more) left))))
header_stays limit bytes more f long (inr (inr (inr (meta, map, rest, parts, is_map, few, lt, at)))) = absurd (not_short f long at.0)

pub header_more : (limit : ℕ) (bytes more : List ℕ) (h : Pairs × List ℕ × List ℕ) → header_at limit bytes ≡ Ok h → header_at limit (bytes ++ more) ≡ Ok (h.0, h.1, h.2 ++ more)
header_more limit bytes more h e =
    let t = header_takes limit bytes h e in
    ap (header_at limit) (more_behind bytes t.header h.2 more t.parts) ∙ header_again limit h.0 h.1 t.header (h.2 ++ more) t.is

pub header_fails : (limit : ℕ) (bytes more : List ℕ) (f : ContainerFault) → is_short f.flaw ≡ false → header_at limit bytes ≡ Err f → header_at limit (bytes ++ more) ≡ Err (shifted f more)
header_fails limit bytes more f long e = header_refused limit (bytes ++ more) (shifted f more) (header_stays limit bytes more f long (header_faulty limit bytes f e).fault)

-- A header that isn't whole is at fault at its first byte.
pub header_waits : (limit : ℕ) (bytes : List ℕ) (f : ContainerFault) → is_short f.flaw ≡ true → header_at limit bytes ≡ Err f → f.left ≡ length bytes
header_waits limit bytes f short e = whole (header_faulty limit bytes f e).fault
  where
    whole : FaultsInHeader limit bytes f → f.left ≡ length bytes
    whole (inl (lt, at)) = at.1
    whole (inr (inl (front, rest, parts, len, other, at))) = at.1
    whole (inr (inr (inl (rest, g, parts, h, inl (fault, at))))) = at.1
    whole (inr (inr (inl (rest, g, parts, h, inr (fault, bad, left))))) = absurd (let no : is_short f.flaw ≡ false = ap is_short bad in cc)
    whole (inr (inr (inr (meta, map, rest, parts, is_map, few, lt, at)))) = at.1

-- ---- a block

number_stays : (block bytes more : List ℕ) (f : ContainerFault) → is_short f.flaw ≡ false → FaultsInNumber block bytes f → FaultsInNumber (block ++ more) (bytes ++ more) (shifted f more)
number_stays block bytes more f long (r, lacks, inl (short, at)) = absurd (not_short f long at.0)
number_stays block bytes more f long (r, lacks, inr (other, at)) = (r, natural_stays BadLength r bytes more other lacks, inr (other, at_more flaw.BadBlock bytes more f at))

objects_stay : (l : Layout) (n : ℕ) (objects after more : List ℕ) (budget : ℕ) (f : ContainerFault) → FaultsInObjects l n objects after budget f → FaultsInObjects l n objects (after ++ more) budget (shifted f more)
objects_stay l n objects after more budget f (inl (g, h, what, left)) = inl (g, h, what, omega (arith, left, length-append after more))
objects_stay l n objects after more budget f (inr (vs, front, over, parts, some, many, spelled, few, at)) =
    inr (vs, front, over, parts, some, many, spelled, few, subst (λ (z : List ℕ). IsFlawAt flaw.BadBlock z (shifted f more)) (append_assoc over after more) (at_more flaw.BadBlock (over ++ after) more f at))

whole_more : (n : ℕ) (objects sync rest more bytes : List ℕ) → IsWholeBlock n objects sync rest bytes → IsWholeBlock n objects sync (rest ++ more) (bytes ++ more)
whole_more n objects sync rest more bytes w = record {
  count = w.count;
  sizes = w.sizes;
  parts = ap (λ (l : List ℕ). l ++ more) w.parts ∙ simp append_assoc;
  counts = w.counts;
  sized = w.sized;
  sixteen = w.sixteen;
}

block_stays : (l : Layout) (marker bytes more : List ℕ) (budget : ℕ) (f : ContainerFault) → is_short f.flaw ≡ false → FaultsInBlock l marker bytes budget f → FaultsInBlock l marker (bytes ++ more) budget (shifted f more)
block_stays l marker bytes more budget f long (inl h) = inl (number_stays bytes bytes more f long h)
block_stays l marker bytes more budget f long (inr (inl (n, count, rest, parts, counts, h))) = inr (inl (n, count, rest ++ more, more_behind bytes count rest more parts, counts, number_stays bytes rest more f long h))
block_stays l marker bytes more budget f long (inr (inr (inl (n, s, count, sizes, rest, parts, counts, sized, lt, at)))) = absurd (not_short f long at.0)
block_stays l marker bytes more budget f long (inr (inr (inr (inl (n, objects, sync, rest, w, o))))) =
    inr (inr (inr (inl (
      n,
      objects,
      sync,
      rest ++ more,
      whole_more n objects sync rest more bytes w,
      subst (λ (z : List ℕ). FaultsInObjects l n objects z budget (shifted f more)) (append_assoc sync rest more) (objects_stay l n objects (sync ++ rest) more budget f o),
    ))))
block_stays l marker bytes more budget f long (inr (inr (inr (inr (vs, objects, sync, rest, w, spelled, few, other, at))))) =
    inr (inr (inr (inr (
      vs,
      objects,
      sync,
      rest ++ more,
      whole_more (length vs) objects sync rest more bytes w,
      spelled,
      few,
      other,
      subst (λ (z : List ℕ). IsFlawAt flaw.BadSync z (shifted f more)) (append_assoc sync rest more) (at_more flaw.BadSync (sync ++ rest) more f at),
    ))))

marker_is : (sync marker : List ℕ) → sync ≡ marker → length sync ≡ 16 → length marker ≡ 16
marker_is sync marker same sixteen = sym (ap length same) ∙ sixteen

-- A block is read only where the marker has 16 bytes.
pub marker_length : (l : Layout) (marker bytes : List ℕ) (budget : ℕ) (x : List ValueTree × List ℕ × ℕ) → block_at l marker bytes budget ≡ Ok x → length marker ≡ 16
marker_length l marker bytes budget x e =
    let a = bind_ok (natural_in (length bytes) bytes) (after_count l marker bytes budget) x (sym (block_is l marker bytes budget) ∙ e) in
    let b = bind_ok (natural_in (length bytes) a.0.1) (after_size l marker bytes budget a.0.0) x a.2 in
    let c = bind_ok (run_in (length bytes) b.0.0 b.0.1) (after_objects l marker bytes budget a.0.0) x b.2 in
    let d = bind_ok (run_in (length bytes) 16 c.0.1) (after_sync l marker budget a.0.0 c.0) x c.2 in
    let o = bind_ok (objects_in l a.0.0 c.0.0 (length c.0.1) budget) (checked marker d.0 (length c.0.1)) x d.2 in
    let g = guard_ok (bytes_eq d.0.0 marker) (flaw_at flaw.BadSync (length c.0.1)) (o.0.0, d.0.1, o.0.1) x o.2 in
    let same : d.0.0 ≡ marker = (bytes_eq-Decides d.0.0 marker).0 g.0 in
    marker_is d.0.0 marker same (run_in_takes (length bytes) 16 c.0.1 d.0 d.1).1

pub block_more : (l : Layout) (marker bytes more : List ℕ) (budget : ℕ) (x : List ValueTree × List ℕ × ℕ) → block_at l marker bytes budget ≡ Ok x → block_at l marker (bytes ++ more) budget ≡ Ok (x.0, x.1 ++ more, x.2)
block_more l marker bytes more budget x e =
    let t = block_takes l marker bytes budget x e in
    let counted = t.counted in
    ap (λ (z : List ℕ). block_at l marker z budget) (more_behind bytes t.front x.1 more t.parts) ∙ block_again l marker x.0 t.front (x.1 ++ more) budget x.2 (marker_length l marker bytes budget x e) t.spelled (omega (arith, counted))

pub block_fails : (l : Layout) (marker bytes more : List ℕ) (budget : ℕ) (f : ContainerFault) → is_short f.flaw ≡ false → block_at l marker bytes budget ≡ Err f → block_at l marker (bytes ++ more) budget ≡ Err (shifted f more)
block_fails l marker bytes more budget f long e = block_refused l marker (bytes ++ more) budget (shifted f more) (block_stays l marker bytes more budget f long (block_faulty l marker bytes budget f e).fault)

-- A block that isn't whole is at fault at its first byte.
pub block_waits : (l : Layout) (marker bytes : List ℕ) (budget : ℕ) (f : ContainerFault) → is_short f.flaw ≡ true → block_at l marker bytes budget ≡ Err f → f.left ≡ length bytes
block_waits l marker bytes budget f short e = whole (block_faulty l marker bytes budget f e).fault
  where
    number : (rest : List ℕ) → FaultsInNumber bytes rest f → f.left ≡ length bytes
    number rest (r, lacks, inl (early, at)) = at.1
    number rest (r, lacks, inr (other, at)) = absurd (let no : is_short f.flaw ≡ false = ap is_short at.0 in cc)

    whole : FaultsInBlock l marker bytes budget f → f.left ≡ length bytes
    whole (inl h) = number bytes h
    whole (inr (inl (n, count, rest, parts, counts, h))) = number rest h
    whole (inr (inr (inl (n, s, count, sizes, rest, parts, counts, sized, lt, at)))) = at.1
    whole (inr (inr (inr (inl (n, objects, sync, rest, w, inl (g, h, what, left)))))) = absurd (let no : is_short f.flaw ≡ false = ap is_short what in cc)
    whole (inr (inr (inr (inl (n, objects, sync, rest, w, inr (vs, front, over, parts, some, many, spelled, few, at)))))) = absurd (let no : is_short f.flaw ≡ false = ap is_short at.0 in cc)
    whole (inr (inr (inr (inr (vs, objects, sync, rest, w, spelled, few, other, at))))) = absurd (let no : is_short f.flaw ≡ false = ap is_short at.0 in cc)
