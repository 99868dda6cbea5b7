-- How many entries the manifests of a new version's list have: no more than those before and one for each row that is added.
use Rattle.std.proofs.Common.{◌≡◌, ⊎_elim, ℕ, ◌+◌, ◌≤◌, Bool, true, false, cond, List, [], ◌∷◌, ◌++◌, length, map, Contains, refl, sym, ap, subst, ◌∙◌, arith}
use Rattle.std.specs.Prelude.{flat_map, not}
use Rattle.std.specs.List.{filter, list_any}
use Rattle.std.proofs.lemmas.List.{length-append, length-map}
use Rattle.std.proofs.lemmas.List.Filters.{length-filter_both}
use Rattle.table_history.proofs.RowListLemmas.{Contains-cases, Contains-head, Contains-none, Contains-tail}
use Rattle.table_history.specs.Row.{Row}
use Rattle.file_links.specs.declared.slots.Held.{Held}
use Rattle.iceberg_manifest.specs.Lists.{AreEach}
use Rattle.iceberg_table.specs.Once.{each_once, entry_count, entries_once, has_path}
use Rattle.iceberg_table.specs.declared.manifest.Manifest.{Manifest}
use Rattle.iceberg_table.proofs.CountLaws.{count_append}
use Rattle.iceberg_version.specs.Manifests.{LiveManifest, NextManifest, added_entry, added_manifest, carried, deleted_entry, existing_entry, has_rows, is_lost, left, lost, new, rewritten_entries, stays}
use Rattle.target_iceberg.specs.Kept.{held_of}
use Rattle.target_iceberg.proofs.WrittenStart.{IsLiveOf}

-- ---- each manifest once

once_fewer : (p : Manifest → Bool) (rs : List Manifest) → entry_count (filter p rs) ≤ entry_count rs
once_fewer p [] = omega arith
once_fewer p (r ∷ rs) = by (p r) (once_fewer p rs)
  where
    by : (b : Bool) → entry_count (filter p rs) ≤ entry_count rs → entry_count (cond b (r ∷ filter p rs) (filter p rs)) ≤ r.entries + entry_count rs
    by true rest = omega (arith, rest)
    by false rest = omega (arith, rest)

pub once_up_to : (rs : List Manifest) → entries_once rs ≤ entry_count rs
once_up_to [] = omega arith
once_up_to (r ∷ rs) =
    let fewer = once_fewer (λ s. not (has_path s.file.path r)) (each_once rs) in
    let rest = once_up_to rs in
    omega (arith, fewer, rest)

pub one_up_to : (rs : List Manifest) (r : Manifest) → Contains rs r → r.entries ≤ entry_count rs
one_up_to [] r there = absurd (Contains-none r there)
one_up_to (s ∷ rs) r there =
    ⊎_elim
    (λ (here : s ≡ r). let same = ap (λ (x : Manifest). x.entries) here in omega (arith, same))
    (λ later. let rest = one_up_to rs r later in omega (arith, rest))
    (Contains-cases s rs r there)

-- ---- the manifests of the list before

-- The manifest that is read of a next one has as many entries as are written, or as the one that stays.
abbrev pub IsCountOf : List Manifest → NextManifest → Manifest → Type 0
IsCountOf before (stays m) r = (s : Manifest) → Contains before s → s.file.info ≡ m.info → r.entries ≡ s.entries
IsCountOf before (new entries rows) r = r.entries ≡ length entries

-- its live rows are some of its entries
abbrev pub HasRows : Manifest → Type 0
HasRows r = length r.rows ≤ r.entries

rewritten_count : (front : List ℕ) (version : ℕ) (removed : List (List ℕ)) (rows : List Held) → length (rewritten_entries front version removed rows) ≡ length rows
rewritten_count front version removed rows =
    let both = length-append (map (existing_entry front) (left removed rows)) (map (deleted_entry front version) (lost removed rows)) in
    let first = length-map (left removed rows) (existing_entry front) in
    let second = length-map (lost removed rows) (deleted_entry front version) in
    let swapped : length (left removed rows) + length (lost removed rows) ≡ length (lost removed rows) + length (left removed rows) = omega arith in
    both ∙ (λ i. first i + second i) ∙ swapped ∙ length-filter_both (is_lost removed) (λ held. not (is_lost removed held)) (λ held. refl) rows

module _ (front : List ℕ) (version : ℕ) (removed : List (List ℕ)) (before : List Manifest) where
  carried_one : (s : Manifest) (m : LiveManifest) (r : Manifest) → Contains before s → HasRows s → IsLiveOf s m → (b : Bool) → IsCountOf before (cond b (new (rewritten_entries front version removed m.rows) (left removed m.rows)) (stays m)) r → r.entries ≤ s.entries
  carried_one s m r there short live true counts =
      let all : r.entries ≡ length (rewritten_entries front version removed m.rows) = counts in
      let rows : length m.rows ≡ length s.rows = ap (λ (l : List Held). length l) live.rows ∙ length-map s.rows held_of in
      subst (λ (n : ℕ). n ≤ s.entries) (sym (all ∙ rewritten_count front version removed m.rows ∙ rows)) short
  carried_one s m r there short live false counts = let same : r.entries ≡ s.entries = counts s there (sym live.info) in omega (arith, same)

  carried_count : (ss : List Manifest) (ms : List LiveManifest) (rs : List Manifest) → ((s : Manifest) → Contains ss s → Contains before s × HasRows s) → AreEach IsLiveOf ss ms → AreEach (IsCountOf before) (map (carried front version removed) (filter has_rows ms)) rs → entry_count rs ≤ entry_count ss
  carried_count [] [] [] all live are = omega arith
  carried_count [] [] (r ∷ rs) all live are = absurd are
  carried_count [] (m ∷ ms) rs all live are = absurd live
  carried_count (s ∷ ss) [] rs all live are = absurd live
  carried_count (s ∷ ss) (m ∷ ms) rs all live are = by (has_rows m) rs are (λ others these. carried_count ss ms others (λ x there. all x (Contains-tail s ss x there)) live.1 these)
    where
      Rest : Type 0
      Rest = (others : List Manifest) → AreEach (IsCountOf before) (map (carried front version removed) (filter has_rows ms)) others → entry_count others ≤ entry_count ss

      by : (b : Bool) (xs : List Manifest) → AreEach (IsCountOf before) (map (carried front version removed) (cond b (m ∷ filter has_rows ms) (filter has_rows ms))) xs → Rest → entry_count xs ≤ s.entries + entry_count ss
      by true [] these rest = absurd these
      by true (x ∷ xs) these rest =
          let here = all s (Contains-head s ss) in
          let first = carried_one s m x here.0 here.1 live.0 (list_any (is_lost removed) m.rows) these.0 in
          let more = rest xs these.1 in
          omega (arith, first, more)
      by false xs these rest = let more = rest xs these in omega (arith, more)

  added_count : (parts : List (List Row)) (rs : List Manifest) → AreEach (IsCountOf before) (map (added_manifest front version) parts) rs → entry_count rs ≡ length (flat_map (λ (p : List Row). p) parts)
  added_count [] [] are = refl
  added_count [] (r ∷ rs) are = absurd are
  added_count (part ∷ parts) [] are = absurd are
  added_count (part ∷ parts) (r ∷ rs) are =
      let first : r.entries ≡ length part = are.0 ∙ length-map part (added_entry front version) in
      let rest = added_count parts rs are.1 in
      let both : length (part ++ flat_map (λ (p : List Row). p) parts) ≡ length part + length (flat_map (λ (p : List Row). p) parts) = length-append part (flat_map (λ (p : List Row). p) parts) in
      (λ i. first i + rest i) ∙ sym both

-- what belongs to two lists one behind the other
record Halves {A B : Type 0} (P : A → B → Type 0) (xs ys : List A) (zs : List B) : Type 0 where
  first : List B
  second : List B
  is : zs ≡ first ++ second
  are : AreEach P xs first
  behind : AreEach P ys second

halves : {A B : Type 0} (P : A → B → Type 0) (xs ys : List A) (zs : List B) → AreEach P (xs ++ ys) zs → Halves P xs ys zs
halves P [] ys zs are = record { first = []; second = zs; is = refl; are = tt; behind = are }
halves P (x ∷ xs) ys [] are = absurd are
halves {A} {B} P (x ∷ xs) ys (z ∷ zs) are =
    let rest = halves P xs ys zs are.1 in
    record { first = z ∷ rest.first; second = rest.second; is = ap (λ (l : List B). z ∷ l) rest.is; are = (are.0, rest.are); behind = rest.behind }

-- The manifests of the new list have no more entries than those of the one before, and one for each row that is added.
pub next_count : (front : List ℕ) (version : ℕ) (removed : List (List ℕ)) (before : List Manifest) (ms : List LiveManifest) (parts : List (List Row)) (next : List NextManifest) (rs : List Manifest) → ((s : Manifest) → Contains before s → HasRows s) → AreEach IsLiveOf before ms
    → next ≡ map (carried front version removed) (filter has_rows ms) ++ map (added_manifest front version) parts → AreEach (IsCountOf before) next rs → entry_count rs ≤ entry_count before + length (flat_map (λ (p : List Row). p) parts)
next_count front version removed before ms parts next rs short live is are =
    let both = halves (IsCountOf before) (map (carried front version removed) (filter has_rows ms)) (map (added_manifest front version) parts) rs (subst (λ (l : List NextManifest). AreEach (IsCountOf before) l rs) is are) in
    let old = carried_count front version removed before before ms both.first (λ s there. (there, short s there)) live both.are in
    let fresh = added_count front version removed before parts both.second both.behind in
    let sum = count_append both.first both.second in
    let whole = ap entry_count both.is in
    omega (arith, old, fresh, sum, whole)
