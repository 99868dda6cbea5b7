-- The write stats of an instant, against the files and the rows that they make.
use Rattle.std.proofs.Common.{◌≡◌, ℕ, ◌<◌, ◌^◌, ◌&&◌, Bool, true, false, cond, nat_lt, List, [], ◌∷◌, Result, Ok, Err, IfErr, Option, None, Contains, refl, sym, ap, subst, ◌∙◌, inr, ⊎_elim}
use Rattle.std.specs.List.{list_all, ends_with}
use Rattle.std.proofs.lemmas.Bool.{and_parts, cases_Bool, false≢true, ltb-true}
use Rattle.lake_basics.specs.Outcome.{◌>>=◌, each}
use Rattle.table_history.specs.Path.{is_path_of_any_length}
use Rattle.table_history.specs.declared.feature.Feature.{Feature}
use Rattle.table_history.specs.declared.row.FileRow.{FileRow}
use Rattle.table_history.proofs.RowListLemmas.{Contains-none, Contains-head, Contains-tail, Contains-cases}
use Rattle.partition_map.specs.declared.kind.PartKind.{PartKind}
use Rattle.partition_map.specs.declared.folder.FolderStyle.{FolderStyle}
use Rattle.hudi_names.specs.declared.error.HudiError.{HudiError}
use Rattle.hudi_names.specs.declared.error.HudiError.TheVariants as errors
use Rattle.hudi_instant.specs.declared.instant.Stat.{Stat}
use Rattle.hudi_names.specs.Errors.{malformed}
use Rattle.hudi_groups.specs.Files.{without_end}
use Rattle.hudi_files.specs.Stats.{has_sound_path, has_sound_numbers, bare_row}
use Rattle.hudi_files.specs.FileFaults.{OnlyFeature, IsFolderFault, IsFileFault}
use Rattle.hudi_files.specs.Values.{HasValues, HaveValues}

-- ---- a reading of each of a list
pub each_cons : {A B E : Type 0} (f : A → Result B E) (x : A) (xs : List A) (ys : List B) → each f (x ∷ xs) ≡ Ok ys → (y : B) × (rest : List B) × (f x ≡ Ok y) × (each f xs ≡ Ok rest) × (ys ≡ y ∷ rest)
each_cons {A} {B} {E} f x xs ys h = by (f x) (each f xs) refl refl h
  where
    by : (a : Result B E) (r : Result (List B) E) → f x ≡ a → each f xs ≡ r → (a >>= λ y. r >>= λ rest. Ok (y ∷ rest)) ≡ Ok ys
        → (y : B) × (rest : List B) × (f x ≡ Ok y) × (each f xs ≡ Ok rest) × (ys ≡ y ∷ rest)
    by (Ok y) (Ok rest) first others e = (y, rest, first, others, cc)
    by (Ok y) (Err fault) first others e = absurd cc
    by (Err fault) r first others e = absurd cc

pub each_all : {A B E : Type 0} (f : A → Result B E) (xs : List A) (ys : List B) → each f xs ≡ Ok ys → (x : A) → Contains xs x → (y : B) × Contains ys y × (f x ≡ Ok y)
each_all f [] ys h w there = absurd (Contains-none w there)
each_all f (x ∷ xs) ys h w there =
    let first = each_cons f x xs ys h in
    ⊎_elim
    (λ e. (first.0, subst (λ l. Contains l first.0) (sym first.4) (Contains-head first.0 first.1), subst (λ v. f v ≡ Ok first.0) e first.2))
    (λ later.
    let more = each_all f xs first.1 first.3 w later in
    (more.0, subst (λ l. Contains l more.0) (sym first.4) (Contains-tail first.0 first.1 more.0 more.1), more.2))
    (Contains-cases x xs w there)

pub each_from : {A B E : Type 0} (f : A → Result B E) (xs : List A) (ys : List B) → each f xs ≡ Ok ys → (y : B) → Contains ys y → (x : A) × Contains xs x × (f x ≡ Ok y)
each_from f [] ys h y there = let none : ys ≡ [] = cc (h) in absurd (Contains-none y (subst (λ l. Contains l y) none there))
each_from f (x ∷ xs) ys h y there =
    let first = each_cons f x xs ys h in
    ⊎_elim
    (λ e. (x, Contains-head x xs, first.2 ∙ ap Ok e))
    (λ later. let more = each_from f xs first.1 first.3 y later in (more.0, Contains-tail x xs more.0 more.1, more.2))
    (Contains-cases first.0 first.1 y (subst (λ l. Contains l y) first.4 there))

pub each_fault : {A B E : Type 0} (f : A → Result B E) (xs : List A) (e : E) → each f xs ≡ Err e → (x : A) × Contains xs x × (f x ≡ Err e)
each_fault f [] e h = absurd cc
each_fault {A} {B} {E} f (x ∷ xs) e h = by (each_fault f xs e) (f x) (each f xs) refl refl h
  where
    by : (each f xs ≡ Err e → (w : A) × Contains xs w × (f w ≡ Err e)) → (a : Result B E) (r : Result (List B) E) → f x ≡ a → each f xs ≡ r → (a >>= λ y. r >>= λ rest. Ok (y ∷ rest)) ≡ Err e
        → (w : A) × Contains (x ∷ xs) w × (f w ≡ Err e)
    by rec (Ok y) (Ok rest) first others h = absurd cc
    by rec (Ok y) (Err fault) first others h =
        let same : fault ≡ e = cc in
        let more = rec (others ∙ ap Err same) in
        (more.0, Contains-tail x xs more.0 more.1, more.2)
    by rec (Err fault) r first others h = let same : fault ≡ e = cc in (x, Contains-head x xs, first ∙ ap Err same)

-- ---- tests of each of a list

pub all_at : {X : Type 0} (p : X → Bool) (xs : List X) (x : X) → list_all p xs ≡ true → Contains xs x → p x ≡ true
all_at p [] x h there = absurd (Contains-none x there)
all_at p (y ∷ ys) x h there =
    let both = and_parts (p y) (list_all p ys) h in ⊎_elim (λ e. ap p (sym e) ∙ both.0) (λ later. all_at p ys x both.1 later) (Contains-cases y ys x there)

pub not_all : {X : Type 0} (p : X → Bool) (xs : List X) → list_all p xs ≡ false → (x : X) × Contains xs x × (p x ≡ false)
not_all p [] h = absurd (false≢true (sym h))
not_all p (y ∷ ys) h =
    ⊎_elim
    (λ t. let more = not_all p ys (sym (ap (λ b. b && list_all p ys) t) ∙ h) in (more.0, Contains-tail y ys more.0 more.1, more.2))
    (λ n. (y, Contains-head y ys, n))
    (cases_Bool (p y))

-- ---- the files
abbrev pub bare : List ℕ → Stat → FileRow
bare suffix s = record { path = without_end suffix s.path; values = []; count = s.writes; size = s.size }

pub bare_path : (suffix : List ℕ) (s : Stat) (row : FileRow) → bare_row suffix s ≡ Ok row → row.path ≡ without_end suffix s.path
bare_path suffix s row h = by (has_sound_path suffix s) (has_sound_numbers s) h
  where
    by : (a b : Bool) → cond a (cond b (Ok (bare suffix s)) (Err malformed)) (Err malformed) ≡ Ok row → row.path ≡ without_end suffix s.path
    by true true e = let same : bare suffix s ≡ row = cc in sym (ap (λ (r : FileRow). r.path) same)
    by true false e = absurd cc
    by false b e = absurd cc

-- What a file's reading needs of its stat.
pub bare_sound : (suffix : List ℕ) (s : Stat) (row : FileRow) → bare_row suffix s ≡ Ok row
    → (is_path_of_any_length (without_end suffix s.path) ≡ true) × (s.writes < 2 ^ 63) × (s.size < 2 ^ 63) × (bare suffix s ≡ row)
bare_sound suffix s row h = by (has_sound_path suffix s) (has_sound_numbers s) refl refl h
  where
    by : (a b : Bool) → has_sound_path suffix s ≡ a → has_sound_numbers s ≡ b → cond a (cond b (Ok (bare suffix s)) (Err malformed)) (Err malformed) ≡ Ok row
        → (is_path_of_any_length (without_end suffix s.path) ≡ true) × (s.writes < 2 ^ 63) × (s.size < 2 ^ 63) × (bare suffix s ≡ row)
    by true true path numbers e =
        let same : bare suffix s ≡ row = cc in
        let sound = and_parts (ends_with _ s.path suffix) (is_path_of_any_length (without_end suffix s.path)) path in
        let small = and_parts (nat_lt s.writes (2 ^ 63)) (nat_lt s.size (2 ^ 63)) numbers in
        (sound.1, ltb-true s.writes (2 ^ 63) small.0, ltb-true s.size (2 ^ 63) small.1, same)
    by true false path numbers e = absurd cc
    by false b path numbers e = absurd cc

-- ---- the rows
module _ (style : FolderStyle) (names : List (List ℕ)) (kinds : List PartKind) where
  pub row_of_file : (files rows : List FileRow) → HaveValues style names kinds files rows → (file : FileRow) → Contains files file → (row : FileRow) × Contains rows row × HasValues style names kinds file row
  row_of_file [] rows h file there = absurd (Contains-none file there)
  row_of_file (f ∷ fs) rows h file there =
      ⊎_elim
      (λ e. (h.0, subst (λ l. Contains l h.0) (sym h.4) (Contains-head h.0 h.1), subst (λ w. HasValues style names kinds w h.0) e h.2))
      (λ later.
      let more = row_of_file fs h.1 h.3 file later in
      (more.0, subst (λ l. Contains l more.0) (sym h.4) (Contains-tail h.0 h.1 more.0 more.1), more.2))
      (Contains-cases f fs file there)

  pub file_of_row : (files rows : List FileRow) → HaveValues style names kinds files rows → (row : FileRow) → Contains rows row → (file : FileRow) × Contains files file × HasValues style names kinds file row
  file_of_row [] rows h row there = absurd (Contains-none row (subst (λ l. Contains l row) h there))
  file_of_row (f ∷ fs) rows h row there =
      ⊎_elim
      (λ e. (f, Contains-head f fs, subst (HasValues style names kinds f) e h.2))
      (λ later. let more = file_of_row fs h.1 h.3 row later in (more.0, Contains-tail f fs more.0 more.1, more.2))
      (Contains-cases h.0 h.1 row (subst (λ l. Contains l row) h.4 there))

-- ---- what folders show, where names show nothing
pub folders_only : (fault : Option Feature) (style : FolderStyle) (names : List (List ℕ)) (kinds : List PartKind) (files : List FileRow) (r : Result (List FileRow) HudiError) → fault ≡ None
    → IfErr r (OnlyFeature (IsFolderFault style names kinds files)) → IfErr r (OnlyFeature (IsFileFault fault style names kinds files))
folders_only fault style names kinds files (Ok rows) none h = tt
folders_only fault style names kinds files (Err e) none h = by e h
  where
    by : (e : HudiError) → OnlyFeature (IsFolderFault style names kinds files) e → OnlyFeature (IsFileFault fault style names kinds files) e
    by errors.Memory h = tt
    by (errors.Malformed line) h = absurd h
    by (errors.Unsupported shown) h = inr (none, h)
    by (errors.Limit which) h = absurd h
