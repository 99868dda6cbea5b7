-- Pairs, line by line.
use Rattle.std.proofs.Common.{◌≡◌, ℕ, List, ◌∷◌, length, Result, Ok, Err, true, false, refl, sym}
use Rattle.std.specs.Prelude.{filter, ◌==◌}
use Rattle.hudi_names.specs.declared.error.HudiError.{HudiError}
use Rattle.hudi_properties.specs.declared.line.LogicalLine.{LogicalLine}
use Rattle.lake_basics.specs.Outcome.{◌>>=◌, each}
use Rattle.hudi_properties.specs.Pairs.{pair_at, pairs_with, is_filled}
use Rattle.std.specs.BTreeMap.{insert_entry}
use Rattle.std.specs.Cmp.Lexicographic.{slice_cmp}
use Rattle.std.specs.Ordering.{nat_cmp}

-- the pairs of these lines put into those found
abbrev pub found_in : List LogicalLine → List (List ℕ × List ℕ) → Result (List (List ℕ × List ℕ)) HudiError
found_in lines found = each pair_at (filter is_filled lines) >>= λ ps. Ok (pairs_with ps found)

by_reading : (rest : Result (List (List ℕ × List ℕ)) HudiError) (p : List ℕ × List ℕ) (found : List (List ℕ × List ℕ))
    → ((rest >>= λ ps. Ok (p ∷ ps)) >>= λ ps. Ok (pairs_with ps found)) ≡ (rest >>= λ ps. Ok (pairs_with ps (insert_entry (slice_cmp nat_cmp) found p.0 p.1)))
by_reading (Ok ps) p found = refl
by_reading (Err e) p found = refl

pub found_step : (line : LogicalLine) (lines : List LogicalLine) (p : List ℕ × List ℕ) (found : List (List ℕ × List ℕ)) → (length line.content == 0) ≡ false → pair_at line ≡ Ok p
    → found_in lines (insert_entry (slice_cmp nat_cmp) found p.0 p.1) ≡ found_in (line ∷ lines) found
found_step line lines p found filled is = rw (filled, is) (sym (by_reading (each pair_at (filter is_filled lines)) p found))

pub found_skip : (line : LogicalLine) (lines : List LogicalLine) (found : List (List ℕ × List ℕ)) → (length line.content == 0) ≡ true → found_in lines found ≡ found_in (line ∷ lines) found
found_skip line lines found empty = rw empty

pub found_stop : (line : LogicalLine) (lines : List LogicalLine) (e : HudiError) (found : List (List ℕ × List ℕ)) → (length line.content == 0) ≡ false → pair_at line ≡ Err e → found_in (line ∷ lines) found ≡ Err e
found_stop line lines e found filled is = rw (filled, is)
