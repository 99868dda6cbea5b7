-- Which names a folder has. For the crates above too.
use Rattle.std.proofs.Common.{◌≡◌, ◌≢◌, ◌⊎◌, ⊎_elim, ℕ, Bool, true, false, ◌&&◌, ◌||◌, List, [], ◌∷◌, ◌++◌, filter_map, refl, sym, ◌∙◌, ap, Option, Some, None, option_and_then, if◌then◌else◌}
use Rattle.std.specs.List.{cons_option, list_any}
use Rattle.std.specs.FinMap as map
use Rattle.lake_store.specs.Disk.{Files, behind, front_of, is_name, name_behind, names_in}
use Rattle.lake_store.proofs.DiskLaws.{is_path, path_cases, path_here, path_other}
use Rattle.lake_store.proofs.NameLaws.{behind_front, behind_splits}

module _ (front name : List ℕ) where
  abbrev tested : List ℕ → Option (List ℕ)
  tested n = if is_name n then Some n else None

  pub named : (k m : List ℕ) → name_behind front k ≡ Some m → (k ≡ front ++ m) × (is_name m ≡ true)
  named k m is =
      elim (behind front k) as (λ o. behind front k ≡ o → option_and_then tested o ≡ Some m → (k ≡ front ++ m) × (is_name m ≡ true)) [
        | None ↦ λ b e. absurd (cc)
        | Some n ↦ λ b e.
            elim (is_name n) as (λ t. is_name n ≡ t → (if t then Some n else None) ≡ Some m → (k ≡ front ++ m) × (is_name m ≡ true)) [
              | true ↦ λ t f. let same : n ≡ m = cc in (behind_splits front k n b ∙ ap (λ l. front ++ l) same, ap is_name (sym same) ∙ t)
              | false ↦ λ t f. absurd (cc)
            ] refl e
      ] refl is

  found : is_name name ≡ true → name_behind front (front ++ name) ≡ Some name
  found is = ap (option_and_then tested) (behind_front front name) ∙ ap (λ b. if b then Some name else None) is

  and_true : (a b : Bool) → a ≡ true → b ≡ true → (a && b) ≡ true
  and_true a b p q = ap (λ t. t && b) p ∙ q

  and_false : (a b : Bool) → (a ≡ true → b ≡ true → ⊥) → (a && b) ≡ false
  and_false a b =
      elim a as (λ x. (x ≡ true → b ≡ true → ⊥) → (x && b) ≡ false) [
        | true ↦ λ h. elim b as (λ y. (true ≡ true → y ≡ true → ⊥) → y ≡ false) [ true ↦ λ h2. absurd (h2 refl refl) | false ↦ λ h2. refl ] h
        | false ↦ λ h. refl
      ]

  path_is : (q p : List ℕ) → is_path q p ≡ true → q ≡ p
  path_is q p here = ⊎_elim (λ same. same) (λ apart. absurd (cc (sym here ∙ path_other q p apart))) (path_cases q p)

  cancel : (m : List ℕ) → front ++ name ≡ front ++ m → name ≡ m
  cancel m same = let both : Some name ≡ Some m = sym (behind_front front name) ∙ ap (behind front) same ∙ behind_front front m in cc

  one : (k : List ℕ) (o : Option (List ℕ)) → name_behind front k ≡ o → list_any (is_path name) (cons_option o []) ≡ (is_name name && is_path (front ++ name) k)
  one k None is = sym (and_false (is_name name) (is_path (front ++ name) k) (λ proper here.
      let both : Some name ≡ None = sym (found proper) ∙ ap (name_behind front) (path_is (front ++ name) k here) ∙ is in absurd (cc both)))
  one k (Some m) is =
      let is_m = named k m is in
      ⊎_elim
      (λ (same : name ≡ m).
      ap (λ b. b || false) (ap (is_path name) (sym same) ∙ path_here name)
      ∙ sym (and_true (is_name name) (is_path (front ++ name) k) (ap is_name same ∙ is_m.1) (ap (is_path (front ++ name)) (is_m.0 ∙ ap (λ l. front ++ l) (sym same)) ∙ path_here (front ++ name))))
      (λ (apart : name ≢ m).
      ap (λ b. b || false) (path_other name m apart)
      ∙ sym (and_false (is_name name) (is_path (front ++ name) k) (λ proper here. apart (cancel m (path_is (front ++ name) k here ∙ is_m.0)))))
      (path_cases name m)

  split : (o : Option (List ℕ)) (rest : List (List ℕ)) → list_any (is_path name) (cons_option o rest) ≡ (list_any (is_path name) (cons_option o []) || list_any (is_path name) rest)
  split None rest = refl
  split (Some m) rest = or_none (is_path name m) (list_any (is_path name) rest)
    where
      or_none : (a b : Bool) → (a || b) ≡ ((a || false) || b)
      or_none true b = refl
      or_none false b = refl

  shared : (a b c : Bool) → ((a && b) || (a && c)) ≡ (a && (b || c))
  shared true b c = refl
  shared false b c = refl

  nothing : (a : Bool) → false ≡ (a && false)
  nothing true = refl
  nothing false = refl

  all : (ks : List (List ℕ)) → list_any (is_path name) (filter_map (name_behind front) ks) ≡ (is_name name && list_any (is_path (front ++ name)) ks)
  all [] = nothing (is_name name)
  all (k ∷ ks) =
      split (name_behind front k) (filter_map (name_behind front) ks) ∙ (λ i. one k (name_behind front k) refl i || all ks i)
      ∙ shared (is_name name) (is_path (front ++ name) k) (list_any (is_path (front ++ name)) ks)

-- a folder has a name exactly where there is such a file
pub any-names_in : (files : Files) (folder name : List ℕ) → list_any (is_path name) (names_in files folder) ≡ (is_name name && map.contains_key files (front_of folder ++ name))
any-names_in files folder name = all (front_of folder) name (map.keys files) ∙ ap (λ b. is_name name && b) (sym (map.contains_key-keys files (front_of folder ++ name)))
