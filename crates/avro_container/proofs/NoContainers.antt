-- What refusals rule out, whatever the budget of the objects, and what is read fits.
use Rattle.std.proofs.Common.{◌≡◌, ℕ, zero, suc, ◌+◌, ◌-◌, ◌⊎◌, List, ◌++◌, length, map, Option, Some, None, Result, Ok, Err, IfOk, IfErr, refl, sym, ap, subst, ◌∙◌, arith, inl, inr}
use Rattle.std.specs.List.{AllByRecursion}
use Rattle.avro_schema.specs.Tree.{SchemaTree, tree_of}
use Rattle.avro_value.specs.declared.fault.Fault.{Fault}
use Rattle.avro_value.specs.declared.fault.Fault.TheVariants.{Short, BadLong, BadLength, BadIndex, BadText, BadBool, Limit}
use Rattle.avro_value.specs.Layout.{Layout, layout_of}
use Rattle.avro_value.specs.ValueTree.{ValueTree, value_tree, value_count, total}
use Rattle.avro_value.specs.Spelling.{Spells}
use Rattle.avro_value.specs.Fitting.{Fits}
use Rattle.avro_value.proofs.NumberLaws.{ok_is}
use Rattle.avro_value.proofs.MoreValues.{StaysBy, many_stays, value_stays}
use Rattle.avro_value.proofs.FittedValues.{many_fit, spelled_fits}
use Rattle.avro_container.specs.declared.container.Container.{Container}
use Rattle.avro_container.specs.declared.error.ContainerError.{ContainerError}
use Rattle.avro_container.specs.declared.error.ContainerError.TheVariants as error
use Rattle.avro_container.specs.declared.fault.Flaw.{Flaw}
use Rattle.avro_container.specs.declared.fault.Flaw.TheVariants as flaw
use Rattle.avro_container.specs.declared.fault.ContainerFault.{ContainerFault}
use Rattle.avro_container.specs.Format.{Pairs, Header, HasSchema, IsPlain, first_named, codec_name, null_codec, Blocks}
use Rattle.avro_container.specs.Reading.{Step, flaw_at, header_at, blocks_at, container_at}
use Rattle.avro_container.specs.Faults.{FaultsInNumber, FaultsInObject, FaultsInObjects, FaultsInBlock, FaultsInBlocks, FaultsInHeader, IsFirstFlaw}
use Rattle.avro_container.specs.Laws.{error_of, Answers, IsLimit, IsNoContainer, HasOtherCodec}
use Rattle.avro_container.proofs.WholeBlocks.{blocks_again}
use Rattle.avro_container.proofs.BlockRefusals.{blocks_refused}
use Rattle.avro_container.proofs.Headers.{header_again, header_refused}
use Rattle.avro_container.proofs.Containers.{seen, schema_again, container_takes, container_faulty, is_first}
use Rattle.lake_basics.proofs.Lists.{all_append}

-- ---- what is read fits

blocks_fit : (l : Layout) (marker : List ℕ) (n : ℕ) (vs : List ValueTree) (bytes : List ℕ) → Blocks l marker n vs bytes → AllByRecursion (Fits l) vs
blocks_fit l marker zero vs bytes p = subst (AllByRecursion (Fits l)) (sym p.0) tt
blocks_fit l marker (suc n) vs bytes (block, more, is, (front, rest, parts, one, others)) =
    let here : AllByRecursion (Fits l) block = many_fit (Spells l) (Fits l) (spelled_fits l) block one.2 one.6 in
    subst (AllByRecursion (Fits l)) (sym is) (all_append (Fits l) block more here (blocks_fit l marker n more rest others))

pub is_fitting : (limit : ℕ) (bytes : List ℕ) (r : Result Container ContainerError) → Answers seen (length bytes) r (container_at limit bytes) → IfOk r (λ c. AllByRecursion (Fits (layout_of (tree_of c.schema))) (map value_tree c.values))
is_fitting limit bytes (Ok c) a =
    let w = (container_takes limit bytes (seen c) a).container in
    blocks_fit (layout_of (tree_of c.schema)) w.marker w.number (map value_tree c.values) w.blocks w.are_blocks
is_fitting limit bytes (Err e) a = tt

-- ---- a flaw other than the limit of the objects, where more values may be made

object_stays : (l : Layout) → StaysBy (FaultsInObject l)
object_stays l bytes budget more f other (g, h, inl limit) = absurd (other limit.1)
object_stays l bytes budget more f other (g, h, inr (small, is)) = (g, value_stays l bytes budget more g small h, inr (small, is))

objects_stay : (l : Layout) (n : ℕ) (objects after : List ℕ) (budget more : ℕ) (f : ContainerFault) → (f.flaw ≡ flaw.Value Limit → ⊥) → FaultsInObjects l n objects after budget f → FaultsInObjects l n objects after (budget + more) f
objects_stay l n objects after budget more f other (inl (g, m, what, left)) = inl (g, many_stays (Spells l) value_count (FaultsInObject l) n (object_stays l) objects budget more g (λ q. other (what ∙ ap flaw.Value q)) m, what, left)
objects_stay l n objects after budget more f other (inr (vs, front, over, parts, some, len, joined, few, at)) = inr (vs, front, over, parts, some, len, joined, omega (arith, few), at)

block_stays : (l : Layout) (marker bytes : List ℕ) (budget more : ℕ) (f : ContainerFault) → (f.flaw ≡ flaw.Value Limit → ⊥) → FaultsInBlock l marker bytes budget f → FaultsInBlock l marker bytes (budget + more) f
block_stays l marker bytes budget more f other h = elim h [
  | inl count ↦ inl count
  | inr (inl size) ↦ inr (inl size)
  | inr (inr (inl short)) ↦ inr (inr (inl short))
  | inr (inr (inr (inl (n, objects, sync, rest, w, o)))) ↦ inr (inr (inr (inl (n, objects, sync, rest, w, objects_stay l n objects (sync ++ rest) budget more f other o))))
  | inr (inr (inr (inr (vs, objects, sync, rest, w, joined, few, wrong, at)))) ↦ inr (inr (inr (inr (vs, objects, sync, rest, w, joined, omega (arith, few), wrong, at))))
]

blocks_stay : (l : Layout) (marker bytes : List ℕ) (budget more : ℕ) (f : ContainerFault) → (f.flaw ≡ flaw.Value Limit → ⊥) → FaultsInBlocks l marker bytes budget f → FaultsInBlocks l marker bytes (budget + more) f
blocks_stay l marker bytes budget more f other (n, vs, front, rest, left, parts, p, c, some, h) = (n, vs, front, rest, left + more, parts, p, omega (arith, c), some, block_stays l marker rest left more f other h)

-- ---- no container

abbrev Front : Type 0
Front = Pairs × List ℕ × List ℕ

header_is : (limit : ℕ) (bytes : List ℕ) (meta : Pairs) (marker header blocks : List ℕ) → bytes ≡ header ++ blocks → Header limit meta marker header → header_at limit bytes ≡ Ok (meta, marker, blocks)
header_is limit bytes meta marker header blocks parts is = ap (header_at limit) parts ∙ header_again limit meta marker header blocks is

one_header : (limit : ℕ) (bytes : List ℕ) (x y : Front) → header_at limit bytes ≡ Ok x → header_at limit bytes ≡ Ok y → x ≡ y
one_header limit bytes x y a b = ok_is x y (sym a ∙ b)

one_schema : (meta : Pairs) (t u : SchemaTree) → HasSchema meta t → HasSchema meta u → t ≡ u
one_schema meta t u a b = ok_is t u (sym (schema_again meta t a) ∙ schema_again meta u b)

abbrev blocks_in : ℕ → Front → SchemaTree → Step (List ValueTree)
blocks_in budget front t = blocks_at (layout_of t) front.1 (length front.2 + 1) front.2 budget

no_container : (limit : ℕ) (bytes : List ℕ) (f : ContainerFault) → (f.flaw ≡ flaw.Value Limit → ⊥) → IsFirstFlaw limit bytes f → IsNoContainer limit bytes
no_container limit bytes f other h meta t vs c = go h
  where
    front : Front
    front = (meta, c.marker, c.blocks)

    whole : header_at limit bytes ≡ Ok front
    whole = header_is limit bytes meta c.marker c.header c.blocks c.parts c.is_header

    go : IsFirstFlaw limit bytes f → ⊥
    go (inl in_header) = absurd (let both : ◌≡◌ {A = Step Front} (Ok front) (Err f) = sym whole ∙ header_refused limit bytes f in_header in cc)
    go (inr (inl (found, marker, header, blocks, parts, is, none, at))) =
        let same = one_header limit bytes front (found, marker, blocks) whole (header_is limit bytes found marker header blocks parts is) in
        none t (subst (λ (m : Pairs). HasSchema m t) (ap (λ (x : Front). x.0) same) c.schema)
    go (inr (inr (inl (found, marker, header, blocks, u, parts, is, has, packed, at)))) =
        let same = one_header limit bytes front (found, marker, blocks) whole (header_is limit bytes found marker header blocks parts is) in
        packed (subst IsPlain (ap (λ (x : Front). x.0) same) c.plain)
    go (inr (inr (inr (found, marker, header, blocks, u, parts, is, has, plain, in_blocks)))) =
        let budget = limit + total value_count vs in
        let same = one_header limit bytes front (found, marker, blocks) whole (header_is limit bytes found marker header blocks parts is) in
        let types = one_schema found t u (subst (λ (m : Pairs). HasSchema m t) (ap (λ (x : Front). x.0) same) c.schema) has in
        let refused : blocks_in budget (found, marker, blocks) u ≡ Err f = blocks_refused (layout_of u) marker blocks budget f is.sixteen (blocks_stay (layout_of u) marker blocks limit (total value_count vs) f other in_blocks) in
        let again : blocks_in budget front t ≡ Ok vs = blocks_again (layout_of t) c.marker c.number vs c.blocks budget c.is_header.sixteen c.are_blocks (omega arith) in
        absurd (let both : ◌≡◌ {A = Step (List ValueTree)} (Ok vs) (Err f) = sym again ∙ ap (blocks_in budget front) types ∙ ap (λ (x : Front). blocks_in budget x u) same ∙ refused in cc)

none_by : (limit : ℕ) (bytes : List ℕ) (e : ContainerError) (f : ContainerFault) → IsFirstFlaw limit bytes f → e ≡ error_of (length bytes) f → IsLimit e ⊎ IsNoContainer limit bytes
none_by limit bytes e f h is = go f.flaw refl
  where
    none : (f.flaw ≡ flaw.Value Limit → ⊥) → IsLimit e ⊎ IsNoContainer limit bytes
    none other = inr (no_container limit bytes f other h)

    in_value : (r : Fault) → f.flaw ≡ flaw.Value r → IsLimit e ⊎ IsNoContainer limit bytes
    in_value Limit q = inl (length bytes - f.left, is ∙ ap (λ (w : Flaw). error_of (length bytes) (flaw_at w f.left)) q)
    in_value Short q = none (λ p. let both = sym q ∙ p in absurd cc)
    in_value BadLong q = none (λ p. let both = sym q ∙ p in absurd cc)
    in_value BadLength q = none (λ p. let both = sym q ∙ p in absurd cc)
    in_value BadIndex q = none (λ p. let both = sym q ∙ p in absurd cc)
    in_value BadText q = none (λ p. let both = sym q ∙ p in absurd cc)
    in_value BadBool q = none (λ p. let both = sym q ∙ p in absurd cc)

    go : (w : Flaw) → f.flaw ≡ w → IsLimit e ⊎ IsNoContainer limit bytes
    go flaw.Short q = none (λ p. let both = sym q ∙ p in absurd cc)
    go flaw.BadMagic q = none (λ p. let both = sym q ∙ p in absurd cc)
    go flaw.BadMeta q = none (λ p. let both = sym q ∙ p in absurd cc)
    go flaw.BadSchema q = none (λ p. let both = sym q ∙ p in absurd cc)
    go flaw.Codec q = none (λ p. let both = sym q ∙ p in absurd cc)
    go flaw.BadBlock q = none (λ p. let both = sym q ∙ p in absurd cc)
    go (flaw.Value r) q = in_value r q
    go flaw.BadSync q = none (λ p. let both = sym q ∙ p in absurd cc)

pub is_none : (limit : ℕ) (bytes : List ℕ) (r : Result Container ContainerError) → Answers seen (length bytes) r (container_at limit bytes) → IfErr r (λ e. (e ≡ error.Memory) ⊎ IsLimit e ⊎ IsNoContainer limit bytes)
is_none limit bytes (Ok c) a = tt
is_none limit bytes (Err e) a = elim a [
  | inl memory ↦ inl memory
  | inr given ↦ inr (none_by limit bytes e given.0 (container_faulty limit bytes given.0 given.1).fault given.2)
]

-- ---- the codec

codec_flaw : (len : ℕ) (w : Flaw) (left : ℕ) → error.Codec ≡ error_of len (flaw_at w left) → w ≡ flaw.Codec
codec_flaw len flaw.Short left e = absurd cc
codec_flaw len flaw.BadMagic left e = absurd cc
codec_flaw len flaw.BadMeta left e = absurd cc
codec_flaw len flaw.BadSchema left e = absurd cc
codec_flaw len flaw.Codec left e = refl
codec_flaw len flaw.BadBlock left e = absurd cc
codec_flaw len (flaw.Value r) left e = absurd cc
codec_flaw len flaw.BadSync left e = absurd cc

number_no_codec : (block bytes : List ℕ) (f : ContainerFault) → f.flaw ≡ flaw.Codec → FaultsInNumber block bytes f → ⊥
number_no_codec block bytes f q (r, lacks, inl (is, (what, at))) = absurd (let both = sym q ∙ what in cc)
number_no_codec block bytes f q (r, lacks, inr (is, (what, at))) = absurd (let both = sym q ∙ what in cc)

block_no_codec : (l : Layout) (marker bytes : List ℕ) (budget : ℕ) (f : ContainerFault) → f.flaw ≡ flaw.Codec → FaultsInBlock l marker bytes budget f → ⊥
block_no_codec l marker bytes budget f q h = elim h [
  | inl count ↦ number_no_codec bytes bytes f q count
  | inr (inl (n, count, rest, parts, long, size)) ↦ number_no_codec bytes rest f q size
  | inr (inr (inl (n, s, count, sizes, rest, parts, long, sized, lt, (what, at)))) ↦ absurd (let both = sym q ∙ what in cc)
  | inr (inr (inr (inl (n, objects, sync, rest, w, inl (g, m, what, left))))) ↦ absurd (let both = sym q ∙ what in cc)
  | inr (inr (inr (inl (n, objects, sync, rest, w, inr (vs, front, over, parts, some, len, joined, few, (what, at)))))) ↦ absurd (let both = sym q ∙ what in cc)
  | inr (inr (inr (inr (vs, objects, sync, rest, w, joined, few, wrong, (what, at))))) ↦ absurd (let both = sym q ∙ what in cc)
]

header_no_codec : (limit : ℕ) (bytes : List ℕ) (f : ContainerFault) → f.flaw ≡ flaw.Codec → FaultsInHeader limit bytes f → ⊥
header_no_codec limit bytes f q h = elim h [
  | inl (lt, (what, at)) ↦ absurd (let both = sym q ∙ what in cc)
  | inr (inl (front, rest, parts, len, other, (what, at))) ↦ absurd (let both = sym q ∙ what in cc)
  | inr (inr (inl (rest, g, parts, m, inl (is, (what, at))))) ↦ absurd (let both = sym q ∙ what in cc)
  | inr (inr (inl (rest, g, parts, m, inr (is, what, at)))) ↦ absurd (let both = sym q ∙ what in cc)
  | inr (inr (inr (meta, map, rest, parts, is_map, few, lt, (what, at)))) ↦ absurd (let both = sym q ∙ what in cc)
]

other_codec : (meta : Pairs) → (IsPlain meta → ⊥) → (codec : List ℕ) × (first_named codec_name meta ≡ Some codec) × (codec ≡ null_codec → ⊥)
other_codec meta packed = go (first_named codec_name meta) refl
  where
    go : (o : Option (List ℕ)) → first_named codec_name meta ≡ o → (codec : List ℕ) × (first_named codec_name meta ≡ Some codec) × (codec ≡ null_codec → ⊥)
    go None q = absurd (packed (inl q))
    go (Some codec) q = (codec, q, λ e. packed (inr (q ∙ ap Some e)))

codec_of : (limit : ℕ) (bytes : List ℕ) (f : ContainerFault) → f.flaw ≡ flaw.Codec → IsFirstFlaw limit bytes f → HasOtherCodec limit bytes
codec_of limit bytes f q (inl in_header) = absurd (header_no_codec limit bytes f q in_header)
codec_of limit bytes f q (inr (inl (meta, marker, header, blocks, parts, is, none, (what, at)))) = absurd (let both = sym q ∙ what in cc)
codec_of limit bytes f q (inr (inr (inl (found, mark, front, behind, t, cut, is, has, packed, at)))) =
    let c = other_codec found packed in
    record { meta = found; marker = mark; header = front; blocks = behind; parts = cut; is_header = is; schema = t; has_schema = has; codec = c.0; named = c.1; other = c.2 }
codec_of limit bytes f q (inr (inr (inr (meta, marker, header, blocks, t, parts, is, has, plain, (n, vs, front, rest, left, cut, p, c, some, h))))) = absurd (block_no_codec (layout_of t) marker rest left f q h)

pub is_codec : (limit : ℕ) (bytes : List ℕ) (r : Result Container ContainerError) → Answers seen (length bytes) r (container_at limit bytes) → IfErr r (λ e. e ≡ error.Codec → HasOtherCodec limit bytes)
is_codec limit bytes (Ok c) a = tt
is_codec limit bytes (Err e) a = elim a [
  | inl memory ↦ (λ q. absurd (let both = sym q ∙ memory in cc))
  | inr given ↦ (λ q. codec_of limit bytes given.0 (codec_flaw (length bytes) given.0.flaw given.0.left (sym q ∙ given.2)) (container_faulty limit bytes given.0 given.1).fault)
]

not_plain : (meta : Pairs) (codec : List ℕ) → first_named codec_name meta ≡ Some codec → (codec ≡ null_codec → ⊥) → IsPlain meta → ⊥
not_plain meta codec named other (inl none) = absurd (let both = sym named ∙ none in cc)
not_plain meta codec named other (inr null) = other (let both : ◌≡◌ {A = Option (List ℕ)} (Some codec) (Some null_codec) = sym named ∙ null in cc)

pub is_other_codec : (limit : ℕ) (bytes : List ℕ) (r : Result Container ContainerError) → Answers seen (length bytes) r (container_at limit bytes) → HasOtherCodec limit bytes → (r ≡ Err error.Codec) ⊎ (r ≡ Err error.Memory)
is_other_codec limit bytes r a h = is_first limit bytes r a error.Codec (record {
  fault = flaw_at flaw.Codec (length bytes);
  first = inr (inr (inl (h.meta, h.marker, h.header, h.blocks, h.schema, h.parts, h.is_header, h.has_schema, not_plain h.meta h.codec h.named h.other, (refl, refl))));
  within = omega arith;
  is = refl;
})
