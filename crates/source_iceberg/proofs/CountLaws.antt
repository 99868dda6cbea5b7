-- The entries of manifests of which each counts once.
use Rattle.std.proofs.Common.{◌≡◌, ◌<◌, ◌≤◌, ◌+◌, ◌||◌, ℕ, Bool, false, cond, List, [], ◌∷◌, ◌++◌, length, get_or, take, drop, append_assoc, take-append-drop, arith, refl, sym, ap, subst, ◌∙◌}
use Rattle.std.specs.List.{list_any}
use Rattle.std.specs.Str.{bytes_eq}
use Rattle.std.proofs.lemmas.List.{take_more}
use Rattle.lake_basics.specs.declared.limits.TheConstants.{MAX_ACTIONS}
use Rattle.lake_basics.proofs.Texts.{key_more}
use Rattle.iceberg_table.specs.declared.manifest.Manifest.{Manifest}
use Rattle.source_core.proofs.Answers.{weaker}
use Rattle.source_core.specs.Answers.{IsReadRefusal}
use Rattle.source_core.specs.declared.error.SourceError.{SourceError}
use Rattle.source_core.specs.declared.error.SourceError.TheVariants.{Limit}
use Rattle.table_history.specs.declared.limit.LimitKind.TheVariants as limit
use Rattle.source_iceberg.specs.Counted.{Counts}
use Rattle.iceberg_table.specs.Once.{entries_once}
use Rattle.iceberg_table.proofs.CountLaws.{count_one, once_more, read_more}
use Rattle.source_iceberg.specs.Since.{HasManyEntries}
use Rattle.source_iceberg.specs.declared.counted.Counted.{Counted}

-- ---- what is counted

-- The manifest was counted, or its path and its entries come besides.
pub counts_more : (read : List Manifest) (r : Manifest) (before after : Counted) (b : Bool) → Counts read before → list_any (bytes_eq r.file.path) before.paths.keys ≡ b → after.paths.keys ≡ cond b before.paths.keys (before.paths.keys ++ r.file.path ∷ [])
    → after.entries ≡ before.entries + cond b 0 r.entries → Counts (read ++ r ∷ []) after
counts_more read r before after b counts there keys entries = record {
  paths = λ path.
      ap (λ (ks : List (List ℕ)). list_any (bytes_eq path) ks) keys ∙ key_more before.paths.keys path r.file.path b there
      ∙ ap (λ (c : Bool). c || bytes_eq path r.file.path) (counts.paths path)
      ∙ sym (read_more read r path);
  entries = entries ∙ ap (λ n. n + cond b 0 r.entries) counts.entries ∙ sym (count_one read r b (sym (counts.paths r.file.path) ∙ there));
}

-- ---- too many

pub many_here : (read : List Manifest) (r : Manifest) (before : Counted) → Counts read before → list_any (bytes_eq r.file.path) before.paths.keys ≡ false → MAX_ACTIONS < before.entries + r.entries
    → (e : SourceError) → e ≡ Limit limit.Actions MAX_ACTIONS → IsReadRefusal (HasManyEntries read (r ∷ [])) e
many_here read r before counts new many e is =
    let sum = count_one read r false (sym (counts.paths r.file.path) ∙ new) in
    let was = counts.entries in
    let more : MAX_ACTIONS < entries_once (read ++ r ∷ []) = omega (arith, sum, was, many) in
    subst (IsReadRefusal (HasManyEntries read (r ∷ []))) (sym is) (more, refl)

pub many_later : (read manifests : List Manifest) (i : ℕ) (r : Manifest) → i < length manifests → r ≡ get_or manifests i r → (e : SourceError) → IsReadRefusal (HasManyEntries (read ++ take i manifests) (r ∷ [])) e → IsReadRefusal (HasManyEntries read manifests) e
many_later read manifests i r within is e refused =
    let longer : take (i + 1) manifests ≡ take i manifests ++ r ∷ [] = take_more manifests i r within ∙ ap (λ (x : Manifest). take i manifests ++ x ∷ []) (sym is) in
    let so_far : (read ++ take i manifests) ++ r ∷ [] ≡ read ++ take (i + 1) manifests = append_assoc read (take i manifests) (r ∷ []) ∙ ap (λ (l : List Manifest). read ++ l) (sym longer) in
    let all : (read ++ take (i + 1) manifests) ++ drop (i + 1) manifests ≡ read ++ manifests = append_assoc read (take (i + 1) manifests) (drop (i + 1) manifests) ∙ ap (λ (l : List Manifest). read ++ l) (take-append-drop (i + 1) manifests) in
    let more : entries_once ((read ++ take i manifests) ++ r ∷ []) ≤ entries_once (read ++ manifests) =
    subst (λ (l : List Manifest). entries_once l ≤ entries_once (read ++ manifests)) (sym so_far)
    (subst (λ (l : List Manifest). entries_once (read ++ take (i + 1) manifests) ≤ entries_once l) all (once_more (read ++ take (i + 1) manifests) (drop (i + 1) manifests))) in
    weaker (HasManyEntries (read ++ take i manifests) (r ∷ [])) (HasManyEntries read manifests)
    (λ d h.
    let many = h.0 in (omega (arith, many, more), h.1)) e refused
