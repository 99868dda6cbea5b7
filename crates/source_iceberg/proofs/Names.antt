-- The names in the folder of the metadata, where no version is there.
use Rattle.std.proofs.Common.{◌≡◌, inl, inr, ⊎_elim, ℕ, List, [], ◌∷◌, Contains, Bool, true, false, cond, Some, None, refl, sym, subst, ◌∙◌}
use Rattle.std.specs.Prelude.{find}
use Rattle.std.proofs.lemmas.Bool.{false≢true}
use Rattle.std.proofs.lemmas.Option.{none-some, same_Some}
use Rattle.lake_store.specs.Disk.{Files, names_in}
use Rattle.table_history.proofs.RowListLemmas.{Contains-cases, Contains-head, Contains-none, Contains-tail}
use Rattle.table_history.specs.declared.feature.Feature.TheVariants.{CatalogNames, CompressedMetadata}
use Rattle.iceberg_table.specs.Folder.{HasVersion, is_compressed, is_metadata, metadata_folder, path_of}
use Rattle.source_core.specs.Answers.{IsHeadRefusal, IsReadRefusal}
use Rattle.source_core.specs.declared.error.SourceError.{SourceError}
use Rattle.source_core.specs.declared.error.SourceError.TheVariants as source
use Rattle.source_iceberg.specs.Heads.{HasNoName, IsAbsent}
use Rattle.source_iceberg.specs.Reading.{HasFewNames, ShowsAtHead, TellsNames}

-- ---- the first of a list

module _ {A : Type 0} (p : A → Bool) where
  found_by : (b : Bool) (y : A) (ys : List A) (x : A) → p y ≡ b → cond b (Some y) (find p ys) ≡ Some x → (find p ys ≡ Some x → Contains ys x × (p x ≡ true)) → Contains (y ∷ ys) x × (p x ≡ true)
  found_by true y ys x is found more = let same = same_Some y x found in (subst (Contains (y ∷ ys)) same (Contains-head y ys), subst (λ z. p z ≡ true) same is)
  found_by false y ys x is found more = let rest = more found in (Contains-tail y ys x rest.0, rest.1)

  pub found_first : (xs : List A) (x : A) → find p xs ≡ Some x → Contains xs x × (p x ≡ true)
  found_first [] x found = absurd (none-some x found)
  found_first (y ∷ ys) x found = found_by (p y) y ys x refl found (λ later. found_first ys x later)

  none_by : (b : Bool) (y : A) (ys : List A) → p y ≡ b → cond b (Some y) (find p ys) ≡ None → (p y ≡ false) × (find p ys ≡ None)
  none_by true y ys is none = absurd (none-some y (sym none))
  none_by false y ys is none = (is, none)

  pub found_none : (xs : List A) (x : A) → find p xs ≡ None → Contains xs x → p x ≡ false
  found_none [] x none there = absurd (Contains-none x there)
  found_none (y ∷ ys) x none there =
      let both = none_by (p y) y ys refl none in
      ⊎_elim (λ same. subst (λ z. p z ≡ false) same both.0) (λ later. found_none ys x both.1 later) (Contains-cases y ys x there)

-- ---- what is told of them

-- a refusal of what is there
pub of_present : (absent : Type 0) (P Q : SourceError → Type 0) → ((e : SourceError) → P e → absent → ⊥) → ((e : SourceError) → P e → Q e) → (e : SourceError) → IsReadRefusal P e → IsHeadRefusal absent Q e
of_present absent P Q there to source.Memory h = tt
of_present absent P Q there to source.Absent h = absurd h
of_present absent P Q there to (source.Malformed path) h = (there (source.Malformed path) h, to (source.Malformed path) h)
of_present absent P Q there to (source.Unsupported feature path) h = (there (source.Unsupported feature path) h, to (source.Unsupported feature path) h)
of_present absent P Q there to (source.Limit which number) h = to (source.Limit which number) h
of_present absent P Q there to source.StoreFault h = tt

module _ (names : List (List ℕ)) where
  compressed_there : (name : List ℕ) → find is_compressed names ≡ Some name → HasNoName names → ⊥
  compressed_there name found none = let first = found_first is_compressed names name found in false≢true (sym (none name first.0).0 ∙ first.1)

  metadata_there : (name : List ℕ) → find is_metadata names ≡ Some name → HasNoName names → ⊥
  metadata_there name found none = let first = found_first is_metadata names name found in false≢true (sym (none name first.0).1 ∙ first.1)

  pub compressed_told : (name : List ℕ) → find is_compressed names ≡ Some name → (e : SourceError) → IsReadRefusal (λ d. d ≡ source.Unsupported CompressedMetadata (path_of name)) e → IsHeadRefusal (HasNoName names) (TellsNames names) e
  compressed_told name found e h =
      of_present (HasNoName names) (λ d. d ≡ source.Unsupported CompressedMetadata (path_of name)) (TellsNames names) (λ d is. compressed_there name found) (λ d is. inl (name, found, is)) e h

  pub catalog_told : find is_compressed names ≡ None → (name : List ℕ) → find is_metadata names ≡ Some name → (e : SourceError) → IsReadRefusal (λ d. d ≡ source.Unsupported CatalogNames (path_of name)) e → IsHeadRefusal (HasNoName names) (TellsNames names) e
  catalog_told none name found e h =
      of_present (HasNoName names) (λ d. d ≡ source.Unsupported CatalogNames (path_of name)) (TellsNames names) (λ d is. metadata_there name found) (λ d is. inr (none, name, found, is)) e h

  pub no_name : find is_compressed names ≡ None → find is_metadata names ≡ None → HasNoName names
  no_name compressed metadata = λ name there. (found_none is_compressed names name compressed there, found_none is_metadata names name metadata there)

-- ---- the same of the folder

module _ (files : Files) (few : HasFewNames files) (versions : (version : ℕ) → HasVersion files version → ⊥) where
  named : HasNoName (names_in files metadata_folder) → IsAbsent files
  named none = inl (record { versions = versions; names = none })

  unnamed : (HasNoName (names_in files metadata_folder) → ⊥) → IsAbsent files → ⊥
  unnamed there (inl none) = there none.names
  unnamed there (inr none) = versions none.0 none.2.states.newest.there

  in_folder : (e : SourceError) → IsHeadRefusal (HasNoName (names_in files metadata_folder)) (TellsNames (names_in files metadata_folder)) e → IsHeadRefusal (IsAbsent files) (ShowsAtHead files) e
  in_folder source.Memory h = tt
  in_folder source.Absent h = named h
  in_folder (source.Malformed path) h = (unnamed h.0, inr (few, inl (versions, h.1)))
  in_folder (source.Unsupported feature path) h = (unnamed h.0, inr (few, inl (versions, h.1)))
  in_folder (source.Limit which number) h = inr (few, inl (versions, h))
  in_folder source.StoreFault h = tt

  pub names_told : (names : List (List ℕ)) → names ≡ names_in files metadata_folder → (e : SourceError) → IsHeadRefusal (HasNoName names) (TellsNames names) e → IsHeadRefusal (IsAbsent files) (ShowsAtHead files) e
  names_told names same e h = in_folder e (subst (λ (ns : List (List ℕ)). IsHeadRefusal (HasNoName ns) (TellsNames ns) e) same h)
