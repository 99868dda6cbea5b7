-- The paths of log compactions: one for each block, and none of them a version's or the staged one.
use Rattle.std.proofs.Common.{◌≡◌, ℕ, ◌+◌, ◌*◌, ◌≤◌, List, ◌++◌, length, take, get_or, codes, refl, sym, ap, ◌∙◌, length-append, arith}
use Rattle.std.proofs.lemmas.List.{append_cancel_right}
use Rattle.std.specs.Str.Parse.{digits_value}
use Rattle.lake_basics.specs.declared.limits.TheConstants.{MAX_DELTA_VERSION}
use Rattle.delta_log.specs.VersionName.{IsVersionDigits}
use Rattle.delta_table.specs.Versions.{IsVersionPath}
use Rattle.delta_table.proofs.PathLaws.{path_once}
use Rattle.delta_compaction.proofs.RangeLemmas.{parts_of}
use Rattle.delta_compact.specs.Blocks.{IsBlockPath, IsWithin}
use Rattle.delta_compact.specs.Compacting.{staged_path}

behind_folder : (x y : List ℕ) → codes "_delta_log/" ++ x ≡ codes "_delta_log/" ++ y → x ≡ y
behind_folder x y e = cc

-- a path is one block's
pub one_block : (path : List ℕ) (a b : ℕ) → IsBlockPath path a → IsBlockPath path b → a ≡ b
one_block path a b x y =
    let name : x.name ≡ y.name = behind_folder x.name y.name (sym x.split ∙ y.split) in
    let mine = (parts_of x.name (10 * a) (10 * a + 9) x.named).from.value in
    let theirs = (parts_of y.name (10 * b) (10 * b + 9) y.named).from.value in
    let first : 10 * a ≡ 10 * b = mine ∙ ap (λ (n : List ℕ). digits_value 10 (take 20 n)) name ∙ sym theirs in
    omega (arith, first)

-- digits of a version are one text
one_text : (version : ℕ) (x y : List ℕ) → version ≤ MAX_DELTA_VERSION → IsVersionDigits x version → IsVersionDigits y version → x ≡ y
one_text version x y within ix iy =
    let path : (d : List ℕ) → IsVersionDigits d version → IsVersionPath (codes "_delta_log/" ++ (d ++ codes ".json")) version = λ d is.
    record { name = d ++ codes ".json"; named = record { padded = record { digits = d; padded = is; split = refl }; within = within }; split = refl } in
    append_cancel_right x y (codes ".json")
    (behind_folder (x ++ codes ".json") (y ++ codes ".json") (path_once version (codes "_delta_log/" ++ (x ++ codes ".json")) (codes "_delta_log/" ++ (y ++ codes ".json")) (path x ix) (path y iy)))

-- a block has one path
pub one_path : (block : ℕ) (p q : List ℕ) → IsWithin MAX_DELTA_VERSION block → IsBlockPath p block → IsBlockPath q block → p ≡ q
one_path block p q within x y =
    let front = one_text (10 * block) x.named.front y.named.front (omega (arith, within)) x.named.from y.named.from in
    let back = one_text (10 * block + 9) x.named.back y.named.back within x.named.to y.named.to in
    x.split ∙ ap (λ n. codes "_delta_log/" ++ n)
    (x.named.split ∙ ap (λ f. f ++ (codes "." ++ (x.named.back ++ codes ".compacted.json"))) front ∙ ap (λ b. y.named.front ++ (codes "." ++ (b ++ codes ".compacted.json"))) back ∙ sym y.named.split)
    ∙ sym y.split

-- no version's path is a block's
pub not_version : (path : List ℕ) (version block : ℕ) → IsVersionPath path version → IsBlockPath path block → ⊥
not_version path version block v b =
    let name : v.name ≡ b.name = behind_folder v.name b.name (sym v.split ∙ b.split) in
    let long = (parts_of b.name (10 * block) (10 * block + 9) b.named).len in
    let digits = v.named.padded.padded.len in
    let short = length-append v.named.padded.digits (codes ".json") in
    let len : length v.name ≡ length v.named.padded.digits + 5 = ap length v.named.padded.split ∙ short in
    let same : length v.name ≡ length b.name = ap length name in
    omega (arith, long, digits, len, same)

first_byte : (x : List ℕ) → staged_path ≡ codes "_delta_log/" ++ x → ⊥
first_byte x e = let first : 46 ≡ 95 = ap (λ (p : List ℕ). get_or p 0 0) e in absurd (omega (arith, first))

-- the staged path is no version's and no block's
pub not_staged_version : (path : List ℕ) (version : ℕ) → IsVersionPath path version → path ≡ staged_path → ⊥
not_staged_version path version v is = first_byte v.name (sym is ∙ v.split)

pub not_staged : (path : List ℕ) (block : ℕ) → IsBlockPath path block → path ≡ staged_path → ⊥
not_staged path block b is = first_byte b.name (sym is ∙ b.split)
