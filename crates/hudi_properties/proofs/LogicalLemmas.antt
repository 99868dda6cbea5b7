-- The logical lines of natural lines are just those that these are joined to.
use Rattle.std.proofs.Common.{◌≡◌, inl, inr, ℕ, ◌+◌, ◌-◌, List, [], ◌∷◌, ◌++◌, length, take, Some, None, Bool, true, false, refl, sym, ap, subst, ◌∙◌, append_assoc, arith}
use Rattle.std.specs.Prelude.{flat_map}
use Rattle.std.proofs.lemmas.Bool.Decides.{not_from_Decides}
use Rattle.std.proofs.lemmas.List.{append-nil}
use Rattle.hudi_properties.specs.declared.line.LogicalLine.{LogicalLine}
use Rattle.hudi_properties.specs.Lines.{trimmed, is_comment, is_continued, logical_from, logical_lines, natural_lines}
use Rattle.hudi_properties.specs.Grammar.{IsBehindWhite, IsComment, EscapesNext, Bring, Block, comment, logical, lines_of, AreBlocks, numbered, AreLogicalLines}
use Rattle.hudi_properties.proofs.WhiteLemmas.{denied, behind_white, trimmed_once, comment_decides, escaped_decides, last_escapes, without_last}

abbrev line_at : ℕ → List ℕ → LogicalLine
line_at m content = record { number = m; content = content }

all_lines : List Block → List (List ℕ)
all_lines blocks = flat_map lines_of blocks

-- ---- natural lines that are joined are the logical lines

-- what a logical line that is begun makes of these natural lines
bring_joins : (n m : ℕ) (c : List ℕ) (behind : List (List ℕ)) (content : List ℕ) (lines : List (List ℕ)) → Bring behind content lines
    → logical_from n (Some (line_at m c)) (lines ++ behind) ≡ line_at m (c ++ content) ∷ logical_from (n + length lines) None behind
unfolding logical_from
bring_joins n m c behind content [] h =
    ap (logical_from n (Some (line_at m c))) h.0 ∙ ap (λ l. line_at m l ∷ []) (sym (append-nil c) ∙ ap (λ l. c ++ l) (sym h.1)) ∙ ap (λ b. line_at m (c ++ content) ∷ logical_from (n + 0) None b) (sym h.0)
bring_joins n m c behind content (line ∷ lines) (inl h) =
    let trim : trimmed line ≡ content = trimmed_once line content h.0.0 in
    let ends : is_continued (trimmed line) ≡ false = ap is_continued trim ∙ denied (is_continued content) (escaped_decides content) h.0.1 in
    let one : logical_from n (Some (line_at m c)) (line ∷ (lines ++ behind)) ≡ line_at m (c ++ trimmed line) ∷ logical_from (n + 1) None (lines ++ behind) = rw ends in
    one ∙ ap (λ l. line_at m (c ++ l) ∷ logical_from (n + 1) None (lines ++ behind)) trim
    ∙ ap (λ ls. line_at m (c ++ content) ∷ logical_from (n + 1) None (ls ++ behind)) h.1
    ∙ ap (λ ls. line_at m (c ++ content) ∷ logical_from (n + length (line ∷ ls)) None behind) (sym h.1)
bring_joins n m c behind content (line ∷ lines) (inr h) =
    let part = h.0 in
    let trim : trimmed line ≡ part ++ 92 ∷ [] = trimmed_once line (part ++ 92 ∷ []) h.3.0 in
    let goes_on : is_continued (trimmed line) ≡ true = ap is_continued trim ∙ (escaped_decides (part ++ 92 ∷ [])).1 h.3.1 in
    let cut : take (length (trimmed line) - 1) (trimmed line) ≡ part = ap (λ l. take (length l - 1) l) trim ∙ without_last part 92 in
    let one : logical_from n (Some (line_at m c)) (line ∷ (lines ++ behind)) ≡ logical_from (n + 1) (Some (line_at m (c ++ take (length (trimmed line) - 1) (trimmed line)))) (lines ++ behind) = rw goes_on in
    let count : n + 1 + length lines ≡ n + length (line ∷ lines) = omega arith in
    one ∙ ap (λ l. logical_from (n + 1) (Some (line_at m (c ++ l))) (lines ++ behind)) cut
    ∙ bring_joins (n + 1) m (c ++ part) behind h.1 lines h.4
    ∙ ap (λ l. line_at m l ∷ logical_from (n + 1 + length lines) None behind) (append_assoc c part h.1 ∙ ap (λ l. c ++ l) (sym h.2))
    ∙ ap (λ k. line_at m (c ++ content) ∷ logical_from k None behind) count

-- A natural line that is no comment begins a logical line.
begins_line : (n : ℕ) (line : List ℕ) (lines : List (List ℕ)) → is_comment (trimmed line) ≡ false → logical_from n None (line ∷ lines) ≡ logical_from n (Some (line_at n [])) (line ∷ lines)
unfolding logical_from
begins_line n line lines silent = rw silent refl

blocks_join : (n : ℕ) (blocks : List Block) → AreBlocks blocks → logical_from n None (flat_map lines_of blocks) ≡ numbered n blocks
unfolding logical_from
blocks_join n [] h = refl
blocks_join n (comment line ∷ blocks) h =
    let is = (comment_decides line).1 h.0 in
    let one : logical_from n None (line ∷ flat_map lines_of blocks) ≡ logical_from (n + 1) None (flat_map lines_of blocks) = rw is in
    one ∙ blocks_join (n + 1) blocks h.1
blocks_join n (logical line lines content ∷ blocks) h =
    begins_line n line (lines ++ flat_map lines_of blocks) (denied (is_comment (trimmed line)) (comment_decides line) h.0.0)
    ∙ bring_joins n n [] (flat_map lines_of blocks) content (line ∷ lines) h.0.1
    ∙ ap (λ ls. line_at n content ∷ ls) (blocks_join (n + length (line ∷ lines)) blocks h.1)

pub logical_once : (bytes : List ℕ) (lines : List LogicalLine) → AreLogicalLines (natural_lines bytes) lines → logical_lines bytes ≡ lines
unfolding logical_lines
logical_once bytes lines h = ap (logical_from 1 None) h.whole ∙ blocks_join 1 h.blocks h.each ∙ sym h.are

-- ---- natural lines are joined

-- What is left of natural lines is the rest of a logical line that is begun, and blocks.
record GoesOn (n m : ℕ) (c : List ℕ) (natural : List (List ℕ)) : Type 0 where
  lines : List (List ℕ)
  content : List ℕ
  blocks : List Block
  whole : natural ≡ lines ++ flat_map lines_of blocks
  bring : Bring (flat_map lines_of blocks) content lines
  each : AreBlocks blocks
  are : logical_from n (Some (line_at m c)) natural ≡ line_at m (c ++ content) ∷ numbered (n + length lines) blocks

record Starts (n : ℕ) (natural : List (List ℕ)) : Type 0 where
  blocks : List Block
  whole : natural ≡ flat_map lines_of blocks
  each : AreBlocks blocks
  are : logical_from n None natural ≡ numbered n blocks

Joined : List (List ℕ) → Type 0
Joined natural = ((n : ℕ) → Starts n natural) × ((n m : ℕ) (c : List ℕ) → GoesOn n m c natural)

ends_here : (n m : ℕ) (c line : List ℕ) (natural : List (List ℕ)) → is_continued (trimmed line) ≡ false → Starts (n + 1) natural → GoesOn n m c (line ∷ natural)
unfolding logical_from
ends_here n m c line natural ends rest =
    let one : logical_from n (Some (line_at m c)) (line ∷ natural) ≡ line_at m (c ++ trimmed line) ∷ logical_from (n + 1) None natural = rw ends in
    record {
      lines = line ∷ [];
      content = trimmed line;
      blocks = rest.blocks;
      whole = ap (λ ls. line ∷ ls) rest.whole;
      bring = inl ((behind_white line, not_from_Decides (is_continued (trimmed line)) (escaped_decides (trimmed line)) ends), refl);
      each = rest.each;
      are = one ∙ ap (λ ls. line_at m (c ++ trimmed line) ∷ ls) rest.are;
    }

goes_further : (n m : ℕ) (c line : List ℕ) (natural : List (List ℕ)) → is_continued (trimmed line) ≡ true → ((d : List ℕ) → GoesOn (n + 1) m d natural) → GoesOn n m c (line ∷ natural)
unfolding logical_from
goes_further n m c line natural goes_on more =
    let escapes = (escaped_decides (trimmed line)).0 goes_on in
    let last = last_escapes (trimmed line) escapes in
    let part = last.0 in
    let rest = more (c ++ part) in
    let cut : take (length (trimmed line) - 1) (trimmed line) ≡ part = ap (λ l. take (length l - 1) l) last.1 ∙ without_last part 92 in
    let one : logical_from n (Some (line_at m c)) (line ∷ natural) ≡ logical_from (n + 1) (Some (line_at m (c ++ take (length (trimmed line) - 1) (trimmed line)))) natural = rw goes_on in
    let count : n + 1 + length rest.lines ≡ n + length (line ∷ rest.lines) = omega arith in
    record {
      lines = line ∷ rest.lines;
      content = part ++ rest.content;
      blocks = rest.blocks;
      whole = ap (λ ls. line ∷ ls) rest.whole;
      bring = inr (part, rest.content, refl, (subst (IsBehindWhite line) last.1 (behind_white line), subst EscapesNext last.1 escapes), rest.bring);
      each = rest.each;
      are =
          one ∙ ap (λ l. logical_from (n + 1) (Some (line_at m (c ++ l))) natural) cut ∙ rest.are
          ∙ ap (λ l. line_at m l ∷ numbered (n + 1 + length rest.lines) rest.blocks) (append_assoc c part rest.content)
          ∙ ap (λ k. line_at m (c ++ (part ++ rest.content)) ∷ numbered k rest.blocks) count;
    }

goes_by : (n m : ℕ) (c line : List ℕ) (natural : List (List ℕ)) (x : Bool) → is_continued (trimmed line) ≡ x → Joined natural → GoesOn n m c (line ∷ natural)
unfolding Joined
goes_by n m c line natural true is rest = goes_further n m c line natural is (λ d. rest.1 (n + 1) m d)
goes_by n m c line natural false is rest = ends_here n m c line natural is (rest.0 (n + 1))

-- A line that is begun with nothing has the first natural line at its front.
begun : (n : ℕ) (line : List ℕ) (natural : List (List ℕ)) → is_comment (trimmed line) ≡ false → (lines : List (List ℕ)) (content : List ℕ) (blocks : List Block) → line ∷ natural ≡ lines ++ flat_map lines_of blocks
    → Bring (flat_map lines_of blocks) content lines → AreBlocks blocks → logical_from n (Some (line_at n [])) (line ∷ natural) ≡ line_at n content ∷ numbered (n + length lines) blocks → Starts n (line ∷ natural)
begun n line natural silent [] content blocks whole bring each are = let none = whole ∙ bring.0 in absurd (cc)
begun n line natural silent (first ∷ lines) content blocks whole bring each are =
    let same : line ≡ first = cc in
    let apart : IsComment first → ⊥ = subst (λ l. IsComment l → ⊥) same (not_from_Decides (is_comment (trimmed line)) (comment_decides line) silent) in
    record { blocks = logical first lines content ∷ blocks; whole = whole; each = ((apart, bring), each); are = begins_line n line natural silent ∙ are }

starts_by : (n : ℕ) (line : List ℕ) (natural : List (List ℕ)) (x : Bool) → is_comment (trimmed line) ≡ x → Joined natural → Starts n (line ∷ natural)
unfolding logical_from Joined
starts_by n line natural true is rest =
    let more = rest.0 (n + 1) in
    let one : logical_from n None (line ∷ natural) ≡ logical_from (n + 1) None natural = rw is in
    record { blocks = comment line ∷ more.blocks; whole = ap (λ ls. line ∷ ls) more.whole; each = ((comment_decides line).0 is, more.each); are = one ∙ more.are }
starts_by n line natural false is rest =
    let g = goes_by n n [] line natural (is_continued (trimmed line)) refl rest in
    begun n line natural is g.lines g.content g.blocks g.whole g.bring g.each g.are

joined : (natural : List (List ℕ)) → Joined natural
unfolding logical_from Joined
joined [] = (
  (λ n. record { blocks = []; whole = refl; each = tt; are = refl }),
  (λ n m c. record { lines = []; content = []; blocks = []; whole = refl; bring = (refl, refl); each = tt; are = ap (λ l. line_at m l ∷ []) (sym (append-nil c)) }),
)
joined (line ∷ natural) =
    let rest = joined natural in
    ((λ n. starts_by n line natural (is_comment (trimmed line)) refl rest), (λ n m c. goes_by n m c line natural (is_continued (trimmed line)) refl rest))

pub logical_are : (bytes : List ℕ) → AreLogicalLines (natural_lines bytes) (logical_lines bytes)
unfolding logical_lines Joined
logical_are bytes = let s = (joined (natural_lines bytes)).0 1 in record { blocks = s.blocks; whole = s.whole; each = s.each; are = s.are }
