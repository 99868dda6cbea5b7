-- The entries of manifests of which each counts once.
use Rattle.std.proofs.Common.{◌≡◌, ◌≤◌, ◌+◌, ◌||◌, ℕ, Bool, true, false, cond, List, [], ◌∷◌, ◌++◌, arith, refl, sym, ap, subst, ◌∙◌}
use Rattle.std.specs.Prelude.{not, filter}
use Rattle.std.specs.List.{list_any}
use Rattle.std.specs.Str.{bytes_eq}
use Rattle.std.proofs.lemmas.List.Elements.{filter-append}
use Rattle.std.proofs.lemmas.List.Folds.{list_any-append}
use Rattle.lake_basics.specs.declared.limits.TheConstants.{MAX_ACTIONS}
use Rattle.lake_basics.proofs.Truth.{or_nothing}
use Rattle.lake_basics.proofs.Texts.{key_more}
use Rattle.iceberg_table.specs.Counted.{AreFew, Counts, before_of}
use Rattle.iceberg_table.specs.Once.{counted_before, each_once, entries_once, entry_count, has_path}
use Rattle.iceberg_table.specs.declared.counted.Counted.{Counted}
use Rattle.iceberg_table.specs.declared.manifest.Manifest.{Manifest}

-- ---- lists

-- those whose paths the first list lacks
abbrev fresh : List Manifest → List Manifest → List Manifest
fresh [] rs = rs
fresh (x ∷ xs) rs = filter (λ s. not (has_path s.file.path x)) (fresh xs rs)

once_append : (xs rs : List Manifest) → each_once (xs ++ rs) ≡ each_once xs ++ fresh xs (each_once rs)
once_append [] rs = refl
once_append (x ∷ xs) rs =
    ap (λ (l : List Manifest). x ∷ filter (λ (s : Manifest). not (has_path s.file.path x)) l) (once_append xs rs)
    ∙ ap (λ (l : List Manifest). x ∷ l) (filter-append (λ (s : Manifest). not (has_path s.file.path x)) (each_once xs) (fresh xs (each_once rs)))

pub count_append : (xs rs : List Manifest) → entry_count (xs ++ rs) ≡ entry_count xs + entry_count rs
count_append [] rs = omega arith
count_append (x ∷ xs) rs =
    let rest = count_append xs rs in omega (arith, rest)

-- with further manifests there aren't fewer entries
pub once_more : (xs rs : List Manifest) → entries_once xs ≤ entries_once (xs ++ rs)
once_more xs rs =
    let sum : entries_once (xs ++ rs) ≡ entries_once xs + entry_count (fresh xs (each_once rs)) = ap entry_count (once_append xs rs) ∙ count_append (each_once xs) (fresh xs (each_once rs)) in
    omega (arith, sum)

pub one_left : (x r : Manifest) (b c : Bool) → has_path r.file.path x ≡ b → filter (λ (s : Manifest). not (has_path s.file.path x)) (cond c [] (r ∷ [])) ≡ cond (b || c) [] (r ∷ [])
one_left x r true true is = refl
one_left x r false true is = refl
one_left x r true false is = ap (λ (b : Bool). cond (not b) (r ∷ []) []) is
one_left x r false false is = ap (λ (b : Bool). cond (not b) (r ∷ []) []) is

fresh_one : (xs : List Manifest) (r : Manifest) → fresh xs (r ∷ []) ≡ cond (list_any (has_path r.file.path) xs) [] (r ∷ [])
fresh_one [] r = refl
fresh_one (x ∷ xs) r =
    ap (λ (l : List Manifest). filter (λ (s : Manifest). not (has_path s.file.path x)) l) (fresh_one xs r) ∙ one_left x r (has_path r.file.path x) (list_any (has_path r.file.path) xs) refl

pub own_count : (r : Manifest) (c : Bool) → entry_count (cond c [] (r ∷ [])) ≡ cond c 0 r.entries
own_count r true = refl
own_count r false = let n = r.entries in omega arith

-- the entries of one manifest more
pub count_one : (xs : List Manifest) (r : Manifest) (b : Bool) → list_any (has_path r.file.path) xs ≡ b → entries_once (xs ++ r ∷ []) ≡ entries_once xs + cond b 0 r.entries
count_one xs r b is =
    ap entry_count (once_append xs (r ∷ []))
    ∙ count_append (each_once xs) (fresh xs (r ∷ []))
    ∙ ap (λ (l : List Manifest). entries_once xs + entry_count l) (fresh_one xs r)
    ∙ ap (λ (c : Bool). entries_once xs + entry_count (cond c [] (r ∷ []))) is
    ∙ ap (λ (n : ℕ). entries_once xs + n) (own_count r b)

-- ---- what is counted

pub read_more : (read : List Manifest) (r : Manifest) (path : List ℕ) → list_any (has_path path) (read ++ r ∷ []) ≡ (list_any (has_path path) read || bytes_eq path r.file.path)
read_more read r path = list_any-append (has_path path) read (r ∷ []) ∙ ap (λ (b : Bool). list_any (has_path path) read || b) (or_nothing (bytes_eq path r.file.path))

-- The manifest was counted, or its path and its entries come besides.
pub counts_more : (read : List Manifest) (r : Manifest) (before after : Counted) (b : Bool) → Counts read before → list_any (bytes_eq r.file.path) before.paths.keys ≡ b → after.paths.keys ≡ cond b before.paths.keys (before.paths.keys ++ r.file.path ∷ [])
    → after.entries ≡ before.entries + cond b 0 r.entries → Counts (read ++ r ∷ []) after
counts_more read r before after b counts there keys entries = record {
  paths = λ path.
      ap (λ (ks : List (List ℕ)). list_any (bytes_eq path) ks) keys ∙ key_more before.paths.keys path r.file.path b there
      ∙ ap (λ (c : Bool). c || bytes_eq path r.file.path) (counts.paths path)
      ∙ sym (read_more read r path);
  entries = entries ∙ ap (λ n. n + cond b 0 r.entries) counts.entries ∙ sym (count_one read r b (sym (counts.paths r.file.path) ∙ there));
}

-- how many entries count before a manifest
pub before_counted : (path : List ℕ) (read : List Manifest) (c : Counted) → Counts read c → before_of path c ≡ counted_before path read
before_counted path read c counts = ap (λ (b : Bool). cond b 0 c.entries) (counts.paths path) ∙ ap (λ (n : ℕ). cond (list_any (has_path path) read) 0 n) counts.entries

pub few_counted : (read : List Manifest) (c : Counted) → Counts read c → AreFew c → entries_once read ≤ MAX_ACTIONS
few_counted read c counts few = subst (λ (n : ℕ). n ≤ MAX_ACTIONS) counts.entries few
