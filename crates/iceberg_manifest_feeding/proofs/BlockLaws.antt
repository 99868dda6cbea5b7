-- What reading makes of bytes that are a header and whole blocks, and of what stands behind them.
use Rattle.std.proofs.Common.{◌≡◌, ℕ, zero, suc, ◌+◌, ◌-◌, ◌<◌, List, [], ◌∷◌, ◌++◌, length, Ok, refl, sym, ap, ◌∙◌, append_assoc, arith}
use Rattle.std.proofs.lemmas.List.{append-nil}
use Rattle.std.proofs.lemmas.List.Concat.{flat_map-cons}
use Rattle.avro_value.specs.Layout.{Layout, layout_of}
use Rattle.avro_value.specs.ValueTree.{ValueTree, value_count, total}
use Rattle.avro_value.specs.declared.api.TheConstants.{MAX_VALUES}
use Rattle.avro_value.proofs.BlockLaws.{total-append}
use Rattle.avro_container.specs.Format.{Block, Blocks}
use Rattle.avro_container.proofs.Containers.{codec_again, schema_again}
use Rattle.avro_container.proofs.Headers.{header_again}
use Rattle.avro_container.proofs.WholeBlocks.{block_again, block_length}
use Rattle.avro_feeding.specs.Feeding.{Behind, Fed, and_fed, after_block, after_header, behind_block, fed, further, in_blocks, joined, nothing_read, opened, read_blocks, read_on, with_block}
use Rattle.avro_feeding.specs.Laws.{StandsBehind}
use Rattle.avro_feeding.proofs.PieceLemmas.{added, block_in, opened_is, read_more}
use Rattle.avro_feeding.proofs.EndLemmas.{none_waits}

-- ---- blocks one by one

-- The bytes are a block of each of these lists of values.
abbrev pub AreBlocks : Layout → List ℕ → List (List ValueTree) → List ℕ → Type 0
AreBlocks l marker [] bytes = bytes ≡ []
AreBlocks l marker (vs ∷ blocks) bytes = (front : List ℕ) × (rest : List ℕ) × (bytes ≡ front ++ rest) × Block l marker vs front × AreBlocks l marker blocks rest

pub record Apart (l : Layout) (marker : List ℕ) (n : ℕ) (vs : List ValueTree) (bytes : List ℕ) : Type 0 where
  pub blocks : List (List ValueTree)
  pub many : length blocks ≡ n
  pub values : joined blocks ≡ vs
  pub are : AreBlocks l marker blocks bytes

pub apart : (l : Layout) (marker : List ℕ) (n : ℕ) (vs : List ValueTree) (bytes : List ℕ) → Blocks l marker n vs bytes → Apart l marker n vs bytes
apart l marker zero vs bytes p = record { blocks = []; many = refl; values = sym p.0; are = p.1 }
apart l marker (suc n) vs bytes p =
    let r = apart l marker n p.1 p.3.1 p.3.4 in
    let many = r.many in
    record {
      blocks = p.0 ∷ r.blocks;
      many = omega (arith, many);
      values = flat_map-cons (λ (ws : List ValueTree). ws) p.0 r.blocks ∙ ap (λ (ws : List ValueTree). p.0 ++ ws) r.values ∙ sym p.2;
      are = (p.3.0, p.3.1, p.3.2, p.3.3, r.are);
    }

pub together : (l : Layout) (marker : List ℕ) (blocks : List (List ValueTree)) (bytes : List ℕ) → AreBlocks l marker blocks bytes → Blocks l marker (length blocks) (joined blocks) bytes
together l marker [] bytes p = (refl, p)
together l marker (vs ∷ blocks) bytes p = (vs, joined blocks, flat_map-cons (λ (ws : List ValueTree). ws) vs blocks, (p.0, p.1, p.2, p.3, together l marker blocks p.1 p.4))

pub record Cut (l : Layout) (marker : List ℕ) (xs ys : List (List ValueTree)) (bytes : List ℕ) : Type 0 where
  pub front : List ℕ
  pub rest : List ℕ
  pub parts : bytes ≡ front ++ rest
  pub before : AreBlocks l marker xs front
  pub after : AreBlocks l marker ys rest

pub cut : (l : Layout) (marker : List ℕ) (xs ys : List (List ValueTree)) (bytes : List ℕ) → AreBlocks l marker (xs ++ ys) bytes → Cut l marker xs ys bytes
cut l marker [] ys bytes p = record { front = []; rest = bytes; parts = refl; before = refl; after = p }
cut l marker (x ∷ xs) ys bytes p =
    let r = cut l marker xs ys p.1 p.4 in
    record {
      front = p.0 ++ r.front;
      rest = r.rest;
      parts = p.2 ∙ ap (λ (bs : List ℕ). p.0 ++ bs) r.parts ∙ sym (append_assoc p.0 r.front r.rest);
      before = (p.0, r.front, refl, p.3, r.before);
      after = r.after;
    }

-- ---- blocks that are read

one_more : (n : ℕ) → n + 1 ≡ suc n
one_more n = omega arith

blocks_step : (fuel : ℕ) (b : Behind) → read_on (suc fuel) b ≡ after_block b (read_on fuel) (block_in b)
unfolding read_on
blocks_step fuel b = refl

pub read_step : (b : Behind) → read_blocks b ≡ after_block b (read_on (length b.rest)) (block_in b)
read_step b = ap (λ (n : ℕ). read_on n b) (one_more (length b.rest)) ∙ blocks_step (length b.rest) b

waits_on : (fuel : ℕ) (b : Behind) → 0 < fuel → b.rest ≡ [] → read_on fuel b ≡ (Ok (in_blocks b), [])
waits_on zero b some none = absurd (omega arith)
waits_on (suc fuel) b some none = blocks_step fuel b ∙ ap (after_block b (read_on fuel)) (none_waits b none)

pub read_none : (b : Behind) → b.rest ≡ [] → read_blocks b ≡ (Ok (in_blocks b), [])
read_none b none = waits_on (length b.rest + 1) b (omega arith) none

-- One block is read where its bytes are all.
read_one : (b : Behind) (vs : List ValueTree) (left : ℕ) → length b.marker ≡ 16 → Block (layout_of b.schema) b.marker vs b.rest → left + total value_count vs ≡ b.budget → read_blocks b ≡ (Ok (in_blocks (behind_block b (vs, [], left))), vs ∷ [])
read_one b vs left sixteen block few =
    let long = block_length (layout_of b.schema) b.marker vs b.rest sixteen block in
    let again = block_again (layout_of b.schema) b.marker vs b.rest [] b.budget left sixteen block few in
    let read : block_in b ≡ Ok (vs, [], left) = ap (λ (r : List ℕ). block_in (record b { rest = r })) (sym (append-nil b.rest)) ∙ again in
    read_step b ∙ ap (after_block b (read_on (length b.rest))) read ∙ ap (with_block vs) (waits_on (length b.rest) (behind_block b (vs, [], left)) (omega (arith, long)) refl)

-- b at another place, behind which these bytes stand, with so many more values
abbrev pub moved : Behind → ℕ → List ℕ → ℕ → Behind
moved b offset rest budget = record b { offset = offset; rest = rest; budget = budget }

abbrev Over : List (List ValueTree) → Behind → ℕ → Type 0
Over blocks b left = (offset : ℕ) × (read_blocks b ≡ (Ok (in_blocks (moved b offset [] left)), blocks))

same_behind : (b : Behind) (rest : List ℕ) (left : ℕ) → b.rest ≡ rest → b.budget ≡ left → b ≡ moved b b.offset rest left
same_behind b rest left r l = λ i. record { schema = b.schema; marker = b.marker; offset = b.offset; rest = r i; budget = l i }

pub read_over : (blocks : List (List ValueTree)) (b : Behind) (left : ℕ) → length b.marker ≡ 16 → AreBlocks (layout_of b.schema) b.marker blocks b.rest → left + total value_count (joined blocks) ≡ b.budget → Over blocks b left
read_over [] b left sixteen none few =
    let same = same_behind b [] left none (omega (arith, few)) in
    (b.offset, read_none b none ∙ ap (λ (c : Behind). (Ok (in_blocks c), [])) same)
read_over (vs ∷ blocks) b left sixteen p few =
    let counted : total value_count (joined (vs ∷ blocks)) ≡ total value_count vs + total value_count (joined blocks) = ap (total value_count) (flat_map-cons (λ (ws : List ValueTree). ws) vs blocks) ∙ total-append value_count vs (joined blocks) in
    let one = read_one (record b { rest = p.0 }) vs (left + total value_count (joined blocks)) sixteen p.3 (omega (arith, few, counted)) in
    let next = record (behind_block (record b { rest = p.0 }) (vs, [], left + total value_count (joined blocks))) { rest = p.1 } in
    let on = read_over blocks next left sixteen p.4 refl in (
      on.0,
      ap (λ (r : List ℕ). read_blocks (record b { rest = r })) p.2
          ∙ read_more (record b { rest = p.0 }) p.1
          ∙ ap (λ (r : Fed). and_fed r p.1) one
          ∙ ap (λ (r : Fed). (r.0, vs ∷ r.1)) on.1,
    )

-- ---- bytes that stand behind blocks

-- what is read of bytes that are a header, blocks of these values, and what stands behind them
pub record ReadsOn (bytes : List ℕ) (front : List (List ValueTree)) (b : Behind) : Type 0 where
  pub blocks : List (List ValueTree)
  pub values : joined blocks ≡ joined front
  pub offset : ℕ
  pub read : fed nothing_read bytes ≡ and_fed (Ok (in_blocks (moved b offset [] b.budget)), blocks) b.rest

pub stands_read : (bytes : List ℕ) (front : List (List ValueTree)) (b : Behind) → StandsBehind bytes front b → ReadsOn bytes front b
stands_read bytes front b s =
    let all = s.header ++ (s.blocks ++ b.rest) in
    let begin : Behind = record { schema = b.schema; marker = b.marker; offset = further 0 (length all - length (s.blocks ++ b.rest)); rest = s.blocks; budget = MAX_VALUES } in
    let p = apart (layout_of b.schema) b.marker (length front) (joined front) s.blocks s.are_blocks in
    let sum = ap (total value_count) p.values in
    let few = s.few in
    let over = read_over p.blocks begin b.budget s.is_header.sixteen p.are (omega (arith, few, sum)) in
    let header = header_again MAX_VALUES s.meta b.marker s.header (s.blocks ++ b.rest) s.is_header in
    let opening : opened all ≡ Ok (added begin b.rest) = opened_is all ∙ rw (header, schema_again s.meta b.schema s.schema, codec_again s.meta s.plain) refl in
    record {
      blocks = p.blocks;
      values = p.values;
      offset = over.0;
      read = ap (fed nothing_read) s.parts ∙ ap (after_header all) opening ∙ read_more begin b.rest ∙ ap (λ (r : Fed). and_fed r b.rest) over.1;
    }
