-- What a call of the whole store answers, seen in its part.
use Rattle.std.proofs.Common.{◌≡◌, ◌⊎◌, ⊎_elim, inl, inr, ℕ, ◌<◌, List, length, take, drop, sym, ◌∙◌, ap, subst}
use Rattle.std.specs.Prelude.{Result, Ok, Err, Option, None, IfOk, IsErrOf, IsSome, OnErr, OnOk}
use Rattle.std.specs.Option.{option_map}
use Rattle.std.specs.FinMap as map
use Rattle.lake_store.specs.Cause.{IsTooLong}
use Rattle.lake_store.specs.Disk.{AddsShort, Disk, Files, HasLength, IsClean, IsPartlySynced, ListsFolder, MayLeave, Moves, SameElsewhere, names_in, removed, stored, synced, written}
use Rattle.lake_store.specs.Moments.{Elapses}
use Rattle.lake_store.specs.declared.store.StoreError.{StoreError}
use Rattle.lake_store.specs.declared.store.StoreError.TheVariants.{Taken}
use Rattle.lake_store.proofs.OrderLaws.{names_in_listed}
use Rattle.lake_batch.specs.Part.{folder_in, part_disk, part_files, part_left_since, path_in}
use Rattle.lake_batch.specs.declared.part.Under.{Under}
use Rattle.lake_batch.specs.PartAt.{clean-part, get-part}
use Rattle.lake_batch.proofs.PartLaws.{part-elsewhere, part-moves, part-partly, part-removed, part-short, part-stored, part-synced, part-written}
use Rattle.lake_batch.proofs.PartNames.{names_in_part}

module _ (folder : List ℕ) where
  -- reading a file
  module _ (files : Files) (whole p : List ℕ) (is : whole ≡ path_in folder p) where
    read_in : map.get files whole ≡ map.get (part_files folder files) p
    read_in = ap (map.get files) is ∙ sym (get-part folder files p)

    pub given_bytes : (r : Result (Option (List ℕ)) StoreError) → IfOk r (λ bytes. bytes ≡ map.get files whole) → IfOk r (λ bytes. bytes ≡ map.get (part_files folder files) p)
    given_bytes (Ok bytes) given = given ∙ read_in
    given_bytes (Err e) given = given

    pub given_part : (r : Result (Option (List ℕ)) StoreError) (from len : ℕ) → IfOk r (λ part. part ≡ option_map (λ bytes. take len (drop from bytes)) (map.get files whole))
        → IfOk r (λ part. part ≡ option_map (λ bytes. take len (drop from bytes)) (map.get (part_files folder files) p))
    given_part (Ok part) from len given = given ∙ ap (option_map (λ (bytes : List ℕ). take len (drop from bytes))) read_in
    given_part (Err e) from len given = given

    pub length_in : (n : ℕ) → HasLength files whole n → HasLength (part_files folder files) p n
    length_in n has = (has.0, sym read_in ∙ has.1, has.2)

    pub length_of : (n : ℕ) → HasLength (part_files folder files) p n → HasLength files whole n
    length_of n has = (has.0, read_in ∙ has.1, has.2)

    pub there : IsSome (map.get (part_files folder files) p) → IsSome (map.get files whole)
    there some = subst IsSome (sym read_in) some

    pub free : map.get (part_files folder files) p ≡ None → map.get files whole ≡ None
    free none = read_in ∙ none

  -- listing a folder
  module _ (files : Files) (whole inner : List ℕ) (is : whole ≡ folder_in folder inner) where
    pub names_are : names_in files whole ≡ names_in (part_files folder files) inner
    names_are = ap (names_in files) is ∙ sym (names_in_part folder files inner)

    pub given_names : (r : Result (List (List ℕ)) StoreError) → IfOk r (λ names. names ≡ names_in files whole) → IfOk r (λ names. names ≡ names_in (part_files folder files) inner)
    given_names (Ok names) given = given ∙ names_are
    given_names (Err e) given = given

    pub given_list : (r : Result (List (List ℕ)) StoreError) → IfOk r (λ names. names ≡ names_in files whole) → IfOk r (ListsFolder (part_files folder files) inner)
    given_list (Ok names) given = subst (ListsFolder (part_files folder files) inner) (sym (given ∙ names_are)) (names_in_listed (part_files folder files) inner)
    given_list (Err e) given = tt

    pub count_is : (n : ℕ) → n ≡ length (names_in files whole) → n ≡ length (names_in (part_files folder files) inner)
    count_is n given = given ∙ ap length names_are

    pub too_many : (r : Result (List (List ℕ)) StoreError) (most : ℕ) → (most < length (names_in files whole) → IsTooLong (length (names_in files whole)) r)
        → most < length (names_in (part_files folder files) inner) → IsTooLong (length (names_in (part_files folder files) inner)) r
    too_many r most given more = subst (λ (names : List (List ℕ)). most < length names → IsTooLong (length names) r) names_are given more

  -- changing files
  module _ {T : Type 0} (r : Result T StoreError) (old new : Disk) where
    pub has_written : (whole p b : List ℕ) → whole ≡ path_in folder p → OnOk r (new ≡ written old whole b) → OnOk r (part_disk folder new ≡ written (part_disk folder old) p b)
    has_written whole p b is given = on_ok r given
      where
        on_ok : (r : Result T StoreError) → OnOk r (new ≡ written old whole b) → OnOk r (part_disk folder new ≡ written (part_disk folder old) p b)
        on_ok (Ok x) ok = ap (part_disk folder) (ok ∙ ap (λ w. written old w b) is) ∙ part-written folder old p b
        on_ok (Err e) ok = tt

    pub is_elsewhere : (whole p : List ℕ) → whole ≡ path_in folder p → OnErr r (SameElsewhere whole old new) → OnErr r (SameElsewhere p (part_disk folder old) (part_disk folder new))
    is_elsewhere whole p is given = on_err r given
      where
        on_err : (r : Result T StoreError) → OnErr r (SameElsewhere whole old new) → OnErr r (SameElsewhere p (part_disk folder old) (part_disk folder new))
        on_err (Ok x) err = tt
        on_err (Err e) err = part-elsewhere folder old new p (subst (λ w. SameElsewhere w old new) is err)

    pub stays_short : (most : ℕ) → OnErr r (AddsShort most old.files new.files) → OnErr r (AddsShort most (part_files folder old.files) (part_files folder new.files))
    stays_short most given = on_err r given
      where
        on_err : (r : Result T StoreError) → OnErr r (AddsShort most old.files new.files) → OnErr r (AddsShort most (part_files folder old.files) (part_files folder new.files))
        on_err (Ok x) err = tt
        on_err (Err e) err = part-short folder most old.files new.files err

    pub has_synced : OnOk r (new ≡ synced old) → OnOk r (part_disk folder new ≡ synced (part_disk folder old))
    has_synced given = on_ok r given
      where
        on_ok : (r : Result T StoreError) → OnOk r (new ≡ synced old) → OnOk r (part_disk folder new ≡ synced (part_disk folder old))
        on_ok (Ok x) ok = ap (part_disk folder) ok ∙ part-synced folder old
        on_ok (Err e) ok = tt

    pub has_partly : OnErr r (IsPartlySynced old new) → OnErr r (IsPartlySynced (part_disk folder old) (part_disk folder new))
    has_partly given = on_err r given
      where
        on_err : (r : Result T StoreError) → OnErr r (IsPartlySynced old new) → OnErr r (IsPartlySynced (part_disk folder old) (part_disk folder new))
        on_err (Ok x) err = tt
        on_err (Err e) err = part-partly folder old new err

    pub has_removed : (whole p : List ℕ) → whole ≡ path_in folder p → OnOk r (new ≡ removed old whole) → OnOk r (part_disk folder new ≡ removed (part_disk folder old) p)
    has_removed whole p is given = on_ok r given
      where
        on_ok : (r : Result T StoreError) → OnOk r (new ≡ removed old whole) → OnOk r (part_disk folder new ≡ removed (part_disk folder old) p)
        on_ok (Ok x) ok = ap (part_disk folder) (ok ∙ ap (removed old) is) ∙ part-removed folder old p
        on_ok (Err e) ok = tt

    pub may_be_removed : (whole p : List ℕ) → whole ≡ path_in folder p → OnErr r ((new ≡ old) ⊎ (new ≡ removed old whole))
        → OnErr r ((part_disk folder new ≡ part_disk folder old) ⊎ (part_disk folder new ≡ removed (part_disk folder old) p))
    may_be_removed whole p is given = on_err r given
      where
        on_err : (r : Result T StoreError) → OnErr r ((new ≡ old) ⊎ (new ≡ removed old whole)) → OnErr r ((part_disk folder new ≡ part_disk folder old) ⊎ (part_disk folder new ≡ removed (part_disk folder old) p))
        on_err (Ok x) err = tt
        on_err (Err e) err = ⊎_elim (λ same. inl (ap (part_disk folder) same)) (λ gone. inr (ap (part_disk folder) (gone ∙ ap (removed old) is) ∙ part-removed folder old p)) err

    module _ (whole_from from whole_to to : List ℕ) (from_is : whole_from ≡ path_in folder from) (to_is : whole_to ≡ path_in folder to) where
      moves_in : Moves whole_from whole_to old new → Moves from to (part_disk folder old) (part_disk folder new)
      moves_in moves = part-moves folder old new from to (subst (λ w. Moves w (path_in folder to) old new) from_is (subst (λ w. Moves whole_from w old new) to_is moves))

      pub has_moved : OnOk r (Moves whole_from whole_to old new) → OnOk r (Moves from to (part_disk folder old) (part_disk folder new))
      has_moved given = on_ok r given
        where
          on_ok : (r : Result T StoreError) → OnOk r (Moves whole_from whole_to old new) → OnOk r (Moves from to (part_disk folder old) (part_disk folder new))
          on_ok (Ok x) ok = moves_in ok
          on_ok (Err e) ok = tt

      pub is_taken : (IsErrOf r Taken → (b : List ℕ) × (new ≡ stored old whole_to b)) → IsErrOf r Taken → (b : List ℕ) × (part_disk folder new ≡ stored (part_disk folder old) to b)
      is_taken given taken = ((given taken).0, ap (part_disk folder) ((given taken).1 ∙ ap (λ w. stored old w (given taken).0) to_is) ∙ part-stored folder old to (given taken).0)

      pub may_have_moved : OnErr r ((IsErrOf r Taken → ⊥) → (new ≡ old) ⊎ Moves whole_from whole_to old new)
          → OnErr r ((IsErrOf r Taken → ⊥) → (part_disk folder new ≡ part_disk folder old) ⊎ Moves from to (part_disk folder old) (part_disk folder new))
      may_have_moved given = on_err r given
        where
          on_err : (q : Result T StoreError) → OnErr q ((IsErrOf r Taken → ⊥) → (new ≡ old) ⊎ Moves whole_from whole_to old new)
              → OnErr q ((IsErrOf r Taken → ⊥) → (part_disk folder new ≡ part_disk folder old) ⊎ Moves from to (part_disk folder old) (part_disk folder new))
          on_err (Ok x) err = tt
          on_err (Err e) err = λ untaken. ⊎_elim (λ same. inl (ap (part_disk folder) same)) (λ moves. inr (moves_in moves)) (err untaken)

  pub clean_in : (d : Disk) (whole p : List ℕ) → whole ≡ path_in folder p → IsClean (part_disk folder d) p → IsClean d whole
  clean_in d whole p is clean = subst (IsClean d) (sym is) (clean-part folder d p clean)

-- a part that keeps the store and its folder has the part's moments
module _ {S : Type 0} (disk : S → Disk) (time : S → ℕ) (left_since : S → ℕ → Files → Type 0) where
  pub elapses_under : (old new : Under S) (folder : List ℕ) → old.folder ≡ folder → new.folder ≡ folder → Elapses (λ (s : S). part_disk folder (disk s)) time (part_left_since left_since folder) old.store new.store
      → Elapses (λ (u : Under S). part_disk u.folder (disk u.store)) (λ (u : Under S). time u.store) (λ (u : Under S) t image. part_left_since left_since u.folder u.store t image) old new
  elapses_under old new folder old_is new_is call = record {
    later = call.later;
    nothing_else = λ t image le left. ⊎_elim
        (λ (before : part_left_since left_since folder old.store t image). inl (before.0, before.1, before.2 ∙ ap (λ f. part_files f before.0) (sym old_is)))
        (λ (may : MayLeave (part_disk folder (disk new.store)) image). inr (subst (λ f. MayLeave (part_disk f (disk new.store)) image) (sym new_is) may))
        (call.nothing_else t image le (left.0, left.1, left.2 ∙ ap (λ f. part_files f left.0) new_is));
    keeps = λ t image le left.
        let more : part_left_since left_since folder new.store t image = call.keeps t image le (left.0, left.1, left.2 ∙ ap (λ f. part_files f left.0) old_is) in
        (more.0, more.1, more.2 ∙ ap (λ f. part_files f more.0) (sym new_is));
  }
