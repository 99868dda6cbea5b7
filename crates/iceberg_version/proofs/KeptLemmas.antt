-- What is kept behind a commit.
use Rattle.std.proofs.Common.{◌≡◌, ◌≢◌, ℕ, Bool, true, false, cond, Contains, List, [], ◌∷◌, Option, Some, None, IsSome, Result, Ok, Err, map, length, not, nat_eq, filter, slice_get, refl, sym, ap, subst, ◌∙◌, ◌⊎◌, inl, inr, ⊎_elim}
use Rattle.std.specs.Prelude.{OnOk, option_map, unwrap_or}
use Rattle.std.specs.List.{IsDistinct, range_with_len}
use Rattle.std.specs.Str.{bytes_eq}
use Rattle.std.proofs.lemmas.Bool.{false≢true}
use Rattle.std.proofs.lemmas.List.{length-map}
use Rattle.std.proofs.lemmas.List.Folds.{list_any_at}
use Rattle.std.proofs.lemmas.Option.{slice_get-map, slice_get_read}
use Rattle.std.proofs.lemmas.Slice.Eq.{bytes_eq-Decides}
use Rattle.table_history.specs.Row.{Row}
use Rattle.table_history.specs.Rows.{HasDistinctPaths}
use Rattle.table_history.proofs.RowListLemmas.{Contains-filter, Contains-none}
use Rattle.file_links.specs.Rows.{Entry, HoldsPath, OwnedRows, rows_of}
use Rattle.file_links.specs.declared.slots.Held.{Held}
use Rattle.iceberg_version.specs.Advance.{Advances, AreAllOwners, AreFresh, EndsEmpty, HaveOwners, HoldsJustBehind, IsOfManifest, LosesPaths, OwnAllRows, OwnEachPath, added_rows, before, owners_of, source_of}
use Rattle.iceberg_version.specs.Carrying.{IsNextList}
use Rattle.iceberg_version.specs.KeptEnd.{held_rows, live_manifest}
use Rattle.iceberg_version.specs.Manifests.{LiveManifest, is_lost, left}
use Rattle.iceberg_version.specs.declared.carrying.Next.{Next}
use Rattle.iceberg_version.specs.declared.carrying.Next.TheVariants.{Stays}
use Rattle.iceberg_version.specs.declared.kept.KeptManifest.{KeptManifest}
use Rattle.iceberg_version.proofs.LinkLemmas.{has_owner, held_from, holds_from, none_held, owned_from, path_from, path_there, same_held, some_held}
use Rattle.iceberg_version.proofs.OwnerLemmas.{AreAlive, AreApart, AreOwnPaths, all_counted, all_distinct, all_held, all_kept, all_paths, all_rows, all_there, all_whose, named_there, not_none}
use Rattle.iceberg_version.proofs.ListLemmas.{alive_named, mapped_at, named_alive, named_apart, rows_match, stays_whole}
use Rattle.iceberg_version.proofs.Shared.{in_map, of_map}

-- ---- the rows without those that are lost

filter_held_by : (removed : List (List ℕ)) (e : Entry) (b : Bool) (some : List Entry) (rest : List Held) → map (λ (x : Entry). x.held) some ≡ rest → map (λ (x : Entry). x.held) (cond b (e ∷ some) some) ≡ cond b (e.held ∷ rest) rest
filter_held_by removed e true some rest same = ap (λ (hs : List Held). e.held ∷ hs) same
filter_held_by removed e false some rest same = same

filter_held : (removed : List (List ℕ)) (es : List Entry) → map (λ (x : Entry). x.held) (filter (λ e. not (is_lost removed e.held)) es) ≡ left removed (map (λ (x : Entry). x.held) es)
filter_held removed [] = refl
filter_held removed (e ∷ es) = filter_held_by removed e (not (is_lost removed e.held)) (filter (λ (x : Entry). not (is_lost removed x.held)) es) (left removed (map (λ (x : Entry). x.held) es)) (filter_held removed es)

held_left_by : (removed : List (List ℕ)) (o : Option (List Entry)) → map (λ (x : Entry). x.held) (unwrap_or (option_map (λ rows. filter (λ e. not (is_lost removed e.held)) rows) o) []) ≡ left removed (map (λ (x : Entry). x.held) (unwrap_or o []))
held_left_by removed None = refl
held_left_by removed (Some rows) = filter_held removed rows

still_some : (removed : List (List ℕ)) (o : Option (List Entry)) → IsSome o → IsSome (option_map (λ rows. filter (λ e. not (is_lost removed e.held)) rows) o)
still_some removed None some = some
still_some removed (Some rows) some = refl

was_some : (removed : List (List ℕ)) (o : Option (List Entry)) → IsSome (option_map (λ rows. filter (λ e. not (is_lost removed e.held)) rows) o) → IsSome o
was_some removed None some = some
was_some removed (Some rows) some = refl

filled_some : (o : Option (List Entry)) → map (λ (x : Entry). x.held) (unwrap_or o []) ≢ [] → IsSome o
filled_some None some = absurd (some refl)
filled_some (Some rows) some = refl

not_filled : (o : Option (List Entry)) → o ≡ Some [] → map (λ (x : Entry). x.held) (unwrap_or o []) ≢ [] → ⊥
not_filled o empty some = some (ap (λ (r : Option (List Entry)). map (λ (x : Entry). x.held) (unwrap_or r [])) empty)

empty_or_filled : (o : Option (List Entry)) → IsSome o → (o ≡ Some []) ⊎ (map (λ (x : Entry). x.held) (unwrap_or o []) ≢ [])
empty_or_filled None some = absurd (false≢true some)
empty_or_filled (Some []) some = inl refl
empty_or_filled (Some (e ∷ es)) some = inr (λ none. let z : ⊥ = cc in z)

lost_there : (removed : List (List ℕ)) (held : Held) → Contains removed held.row.path → is_lost removed held ≡ true
lost_there removed held there = list_any_at (bytes_eq held.row.path) removed there.0 held.row.path there.1 (ap (bytes_eq held.row.path) there.2 ∙ (bytes_eq-Decides held.row.path held.row.path).1 refl)

not_lost : (removed : List (List ℕ)) (held : Held) → not (is_lost removed held) ≡ true → ¬ Contains removed held.row.path
not_lost removed held stays there = false≢true (sym (ap not (lost_there removed held there)) ∙ stays)

pub on_ok : {A E : Type 0} (r : Result A E) (P : Type 0) → P → OnOk r P
on_ok (Ok v) P p = p
on_ok (Err e) P p = tt

-- ---- once the empty owners have ended and the removed rows are gone

module _ (removed : List (List ℕ)) (ms : List KeptManifest) (v mid w : OwnedRows) (ends : EndsEmpty (owners_of ms) v mid) (loses : LosesPaths removed mid w) where
  held_mid : (o : ℕ) → held_rows mid o ≡ held_rows v o
  held_mid o =
      ⊎_elim
      (λ same. same_held v mid o same)
      (λ gone. none_held mid o gone.1 ∙ sym (some_held v o [] gone.0))
      (ends.each o)

  pub held_left : (o : ℕ) → held_rows w o ≡ left removed (held_rows v o)
  held_left o =
      ap (λ (r : Option (List Entry)). map (λ (x : Entry). x.held) (unwrap_or r [])) (loses o) ∙ held_left_by removed (rows_of mid o) ∙ ap (left removed) (held_mid o)

  there_left : (o : ℕ) → held_rows v o ≢ [] → IsSome (rows_of w o)
  there_left o some =
      ⊎_elim
      (λ same. subst (λ (r : Option (List Entry)). IsSome r) (sym (loses o)) (still_some removed (rows_of mid o) (subst (λ (r : Option (List Entry)). IsSome r) (sym same) (filled_some (rows_of v o) some))))
      (λ gone. absurd (not_filled (rows_of v o) gone.0 some))
      (ends.each o)

  -- an owner that is there had rows, where it is of one of these manifests
  there_mid : (o : ℕ) → IsSome (rows_of w o) → IsSome (rows_of mid o)
  there_mid o there = was_some removed (rows_of mid o) (subst (λ (r : Option (List Entry)). IsSome r) (loses o) there)

  there_first : (o : ℕ) → IsSome (rows_of w o) → IsSome (rows_of v o)
  there_first o there =
      ⊎_elim
      (λ same. subst (λ (r : Option (List Entry)). IsSome r) same (there_mid o there))
      (λ gone. absurd (not_none (rows_of mid o) (there_mid o there) gone.1))
      (ends.each o)

  had_rows : (o : ℕ) → Contains (owners_of ms) o → IsSome (rows_of w o) → held_rows v o ≢ []
  had_rows o of there =
      ⊎_elim
      (λ empty. absurd (not_none (rows_of mid o) (there_mid o there) (ends.empty o of empty)))
      (λ some. some)
      (empty_or_filled (rows_of v o) (there_first o there))

  was_held : (o : ℕ) (held : Held) → Contains (held_rows w o) held → Contains (held_rows v o) held × (not (is_lost removed held) ≡ true)
  was_held o held there = Contains-filter (λ h. not (is_lost removed h)) (held_rows v o) held (subst (λ (hs : List Held). Contains hs held) (held_left o) there)

  -- The added rows may come now.
  pub fresh_left : (rows : List Row) → HasDistinctPaths rows → ((row : Row) → Contains rows row → HoldsPath v row.path → Contains removed row.path) → AreFresh w rows
  fresh_left rows distinct unheld = record {
    distinct = distinct;
    unheld = λ row there holds.
        let f = path_from w row.path holds in
        let was = was_held f.0 f.1 f.2 in
        not_lost removed f.1 was.1 (subst (λ (p : List ℕ). Contains removed p) (sym f.3) (unheld row there (path_there v f.0 f.1 row.path was.0 f.3)));
  }

  -- ---- and the owners are given

  module _ (version : ℕ) (parts : List (List Row)) (next : List Next) (os : List ℕ) (x : OwnedRows) (have : HaveOwners ms version (map (source_of parts) next) os w x) where
    pub held_just : HoldsJustBehind removed version (added_rows parts next) v x
    held_just = λ held is.
        let o = is.1.0 in
        let there = held_from x o (record { slot = is.0; held = held }) is.1.1 in
        ⊎_elim
        (λ earlier. let was = was_held o held earlier in inl (holds_from v o held was.0, not_lost removed held was.1))
        (λ come. inr come)
        (all_held ms version (map (source_of parts) next) os w x have o held there)

    -- no two owners have rows of one path, where none had before
    pub paths_own : HasDistinctPaths (added_rows parts next) → ((row : Row) → Contains (added_rows parts next) row → HoldsPath v row.path → Contains removed row.path) → OwnEachPath v → OwnEachPath x
    paths_own distinct unheld own =
        let held : AreOwnPaths w = λ a b h k ch ck same.
        let d = owned_from v a h (was_held a h ch).0 in
        let e = owned_from v b k (was_held b k ck).0 in
        own a b d.0 e.0 d.1 e.1 (ap (λ (y : Held). y.row.path) d.2 ∙ same ∙ sym (ap (λ (y : Held). y.row.path) e.2)) in
        let now = all_paths ms version (map (source_of parts) next) os w x have (fresh_left (added_rows parts next) distinct unheld) held in
        λ a b d e od oe same. now a b d.held e.held (held_from x a d od) (held_from x b e oe) same

    pub counted : (n : ℕ) → n ≡ length next → n ≡ length os
    counted n is = is ∙ sym (length-map next (source_of parts)) ∙ sym (all_counted ms version (map (source_of parts) next) os w x have)

    module _ (apart : IsDistinct nat_eq (owners_of ms)) (count : ℕ) (list : IsNextList removed (map (live_manifest v) ms) count next) where
      owner_at : (p : ℕ) (k : KeptManifest) → slice_get ms p ≡ Some k → slice_get (owners_of ms) p ≡ Some k.owner
      owner_at p k at = slice_get-map (λ (m : KeptManifest). m.owner) ms p ∙ ap (option_map (λ (m : KeptManifest). m.owner)) at

      live_at : (p : ℕ) (k : KeptManifest) → slice_get ms p ≡ Some k → slice_get (map (live_manifest v) ms) p ≡ Some (live_manifest v k)
      live_at p k at = slice_get-map (live_manifest v) ms p ∙ ap (option_map (live_manifest v)) at

      alive : AreAlive ms w (map (source_of parts) next)
      alive = λ p there.
          let named = (named_alive removed (map (live_manifest v) ms) parts 0 (map (live_manifest v) ms) list.carried (range_with_len 0 count) p refl list.before (subst (λ (ns : List Next). Contains (map (source_of parts) ns) (before p)) list.are there)).1 in
          let k = mapped_at (live_manifest v) ms p named.0 named.1 in
          let some : held_rows v k.0.owner ≢ [] = λ none. named.2 (sym (ap (λ (m : LiveManifest). m.rows) k.2) ∙ none) in
          (k.0.owner, owner_at p k.0 k.1, there_left k.0.owner some)

      places_apart : AreApart (map (source_of parts) next)
      places_apart = subst (λ (ns : List Next). AreApart (map (source_of parts) ns)) (sym list.are) (named_apart removed (map (live_manifest v) ms) parts 0 (map (live_manifest v) ms) list.carried (range_with_len 0 count) refl list.before)

      all_whole : (p : ℕ) (m : LiveManifest) → Contains next (Stays p) → slice_get (map (live_manifest v) ms) p ≡ Some m → left removed m.rows ≡ m.rows
      all_whole p m there at = stays_whole removed (map (live_manifest v) ms) list.carried (range_with_len 0 count) p m list.before (subst (λ (ns : List Next). Contains ns (Stays p)) list.are there) at

      named : (p : ℕ) (k : KeptManifest) → slice_get ms p ≡ Some k → held_rows v k.owner ≢ [] → Contains os k.owner
      named p k at some =
          let there = alive_named removed (map (live_manifest v) ms) parts list.carried (range_with_len 0 count) p (live_manifest v k) list.before (live_at p k at) some in
          named_there ms version (map (source_of parts) next) os w x p k.owner have (subst (λ (ns : List Next). Contains (map (source_of parts) ns) (before p)) (sym list.are) there) (owner_at p k at)

      -- an owner of a manifest before that is still there is one of a manifest of the new list
      goes_on : (o : ℕ) → IsOfManifest ms o → held_rows v o ≢ [] → Contains os o
      goes_on o of some =
          let k = of.0 in
          let at = slice_get_read ms (length ms) of.1.0 k refl of.1.1 (sym of.1.2) in
          subst (λ (n : ℕ). Contains os n) of.2 (named of.1.0 k at (λ none. some (sym (ap (held_rows v) of.2) ∙ none)))

      module _ (kept : List KeptManifest) (is : owners_of kept ≡ os) where
        of_kept : (o : ℕ) → Contains os o → IsOfManifest kept o
        of_kept o there = let r = of_map (λ (m : KeptManifest). m.owner) kept o (subst (λ (ns : List ℕ). Contains ns o) (sym is) there) in (r.0, r.1, r.2)

        own_all : OwnAllRows v ms → OwnAllRows x kept
        own_all own = λ o e owns.
            let here = held_from x o e owns in
            ⊎_elim
            (λ earlier.
            let same = all_kept ms version (map (source_of parts) next) os w x have o earlier in
            let was = (was_held o e.held (subst (λ (hs : List Held). Contains hs e.held) (same_held w x o same) here)).0 in
            let entry = owned_from v o e.held was in
            let some : held_rows v o ≢ [] = λ none. Contains-none e.held (subst (λ (hs : List Held). Contains hs e.held) none was) in
            of_kept o (goes_on o (own o entry.0 entry.1) some))
            (λ there. of_kept o there)
            (all_whose ms version (map (source_of parts) next) os w x have o (has_owner x o e.held here))

        all_own : AreAllOwners v ms → AreAllOwners x kept
        all_own own = λ o there.
            ⊎_elim
            (λ earlier.
            let of = own o (there_first o earlier) in
            let among : Contains (owners_of ms) o = subst (λ (n : ℕ). Contains (owners_of ms) n) of.2 (in_map (λ (m : KeptManifest). m.owner) ms of.0 of.1) in
            of_kept o (goes_on o of (had_rows o among earlier)))
            (λ later. of_kept o later)
            (all_whose ms version (map (source_of parts) next) os w x have o there)

        rows_kept : (ks : List KeptManifest) → map (λ (m : KeptManifest). held_rows x m.owner) ks ≡ map (held_rows x) (owners_of ks)
        rows_kept [] = refl
        rows_kept (k ∷ ks) = ap (λ (rs : List (List Held)). held_rows x k.owner ∷ rs) (rows_kept ks)

        pub advances : Advances removed version ms parts next v x kept
        advances = record {
          rows = λ front are given.
              rows_kept kept ∙ ap (map (held_rows x)) is
              ∙ rows_match front version removed v x ms parts next are os all_whole given
              (all_rows ms version (λ q. left removed (held_rows v q)) (map (source_of parts) next) os w x have alive (λ p o there at. held_left o));
          there = λ m there.
              all_there ms version (map (source_of parts) next) os w x have alive m.owner (subst (λ (ns : List ℕ). Contains ns m.owner) is (in_map (λ (k : KeptManifest). k.owner) kept m there));
          distinct = subst (IsDistinct nat_eq) (sym is) (all_distinct ms version (map (source_of parts) next) os w x apart have alive places_apart);
          own = own_all;
          all = all_own;
        }
