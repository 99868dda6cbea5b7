-- One path for each version, and none that is also a leftover.
use Rattle.std.proofs.Common.{◌≡◌, ℕ, ◌<◌, ◌≤◌, List, [], ◌∷◌, ◌++◌, length, get_or, codes, refl, sym, ap, subst, ◌∙◌, arith}
use Rattle.std.specs.Str.Parse.{AllDigits}
use Rattle.std.proofs.lemmas.Str.Parse.{digit_at}
use Rattle.delta_log.specs.VersionName.{IsVersionName}
use Rattle.delta_table.specs.Versions.{IsVersionPath, log_folder}
use Rattle.delta_table.proofs.PathLaws.{one_version, path_once}
use Rattle.lake_store.specs.Runs.{IsIn}
use Rattle.target_delta.specs.Names.{IsLeftover, IsStagedPath, leftover_front, path_of}

-- ---- paths

pub same_behind : (name other path : List ℕ) → path ≡ path_of name → path ≡ path_of other → name ≡ other
same_behind name other path is too = cc

pub version_of_path : (path : List ℕ) (v w : ℕ) → IsVersionPath path v → IsVersionPath path w → v ≡ w
version_of_path path v w p o = one_version p.name v w p.named (subst (λ (n : List ℕ). IsVersionName n w) (same_behind o.name p.name path o.split p.split) o.named)

-- a digit comes first
first_digit : (ds rest : List ℕ) → 0 < length ds → AllDigits 10 ds → 48 ≤ get_or (ds ++ rest) 0 0
first_digit [] rest some all = absurd (omega arith)
first_digit (c ∷ ds) rest some all = let at = digit_at (c ∷ ds) 0 all some in omega (arith, at)

pub never_leftover : (path : List ℕ) (version : ℕ) → IsVersionPath path version → IsLeftover path → ⊥
never_leftover path version p left =
    let digits = p.named.padded.digits in
    let names : p.name ≡ left.name = same_behind p.name left.name path p.split left.is in
    let whole : digits ++ codes ".json" ≡ leftover_front ++ (left.leftover.digits ++ codes ".json") = sym p.named.padded.split ∙ names ∙ left.leftover.split in
    let first = first_digit digits (codes ".json") p.named.padded.padded.numeral.0 p.named.padded.padded.numeral.1 in
    let dot : get_or (digits ++ codes ".json") 0 0 ≡ 46 = ap (λ (l : List ℕ). get_or l 0 0) whole in
    omega (arith, first, dot)

pub staged_leftover : (path : List ℕ) (version : ℕ) → IsStagedPath path version → IsLeftover path
staged_leftover path version p = record {
  name = leftover_front ++ p.name;
  leftover = record { digits = p.named.padded.digits; len = p.named.padded.padded.len; numeral = p.named.padded.padded.numeral; split = ap (λ (n : List ℕ). leftover_front ++ n) p.named.padded.split };
  is = p.is;
}

-- a version is staged under one path
pub one_staged : (path other : List ℕ) (version : ℕ) → IsStagedPath path version → IsStagedPath other version → path ≡ other
one_staged path other version p o =
    let paths = path_once version (path_of p.name) (path_of o.name) (record { name = p.name; named = p.named; split = refl }) (record { name = o.name; named = o.named; split = refl }) in
    p.is ∙ ap (λ (n : List ℕ). path_of (leftover_front ++ n)) (same_behind p.name o.name (path_of p.name) refl paths) ∙ sym o.is

pub name_in : (name : List ℕ) → IsIn log_folder (path_of name)
name_in name = (name, refl)
