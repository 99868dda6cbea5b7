-- The metadata of a new version, read back: its form, its current snapshot, and its parents.
use Rattle.std.proofs.Common.{◌≡◌, ◌≢◌, ◌⊎◌, inl, inr, ⊎_elim, ℕ, ℤ, pos, ◌+◌, ◌-◌, ◌<◌, ◌≤◌, List, [], ◌∷◌, ◌++◌, map, length, drop, Bool, true, false, cond, Contains, Option, None, Some, refl, sym, ap, subst, ◌∙◌, arith}
use Rattle.std.specs.Prelude.{◌≤ℤ◌}
use Rattle.std.specs.List.{IsDistinct}
use Rattle.std.specs.Ordering.{int_eq}
use Rattle.std.proofs.lemmas.Bool.{false≢true}
use Rattle.std.proofs.lemmas.Bool.Decides.{Decides-int_eq}
use Rattle.std.proofs.lemmas.Int.{ints}
use Rattle.std.proofs.lemmas.List.{length-append}
use Rattle.std.proofs.lemmas.List.Elements.{Contains-append_cases}
use Rattle.std.proofs.lemmas.Map.Keys.{IsDistinct-head, IsDistinct-tail}
use Rattle.lake_store.specs.Disk.{Files}
use Rattle.table_history.proofs.RowListLemmas.{Contains-cases, Contains-head, Contains-none, Contains-one, Contains-tail, all_at}
use Rattle.iceberg_ancestry.specs.Ancestry.{FormsCycle, LeadsTo, held, held_at}
use Rattle.iceberg_metadata.specs.Writing.{SameMetadata}
use Rattle.iceberg_metadata.specs.declared.metadata.Metadata.{Metadata}
use Rattle.iceberg_metadata.specs.declared.metadata.Snapshot.{Snapshot}
use Rattle.iceberg_version.specs.Writing.{MAX_SNAPSHOTS, TableEnd, last_of, no_version}
use Rattle.iceberg_version.proofs.Shared.{drop_push, in_drop, in_map, nothing_twice}
use Rattle.target_iceberg.specs.Form.{held_ids}
use Rattle.target_iceberg.proofs.WrittenFiles.{in_held, in_held_at}
use Rattle.target_iceberg.proofs.WrittenStart.{HasEnd, IsFirstEnd}
use Rattle.lake_basics.proofs.Options.{some_once}

-- ---- the metadata that a commit goes on from

-- No slash ends its location, its numbers are those that were given, and its parents form no cycle.
pub record IsSoundAt (version : ℕ) (m : Metadata) : Type 0 where
  pub location : (front : List ℕ) → m.location ≢ front ++ 47 ∷ []
  pub field_ids : (id : ℤ) → Contains (held_ids m) id → id ≤ℤ m.last_column_id
  pub snapshots : (s : Snapshot) → Contains m.snapshots s → s.id ≤ℤ pos version
  pub parents : (s : Snapshot) (parent : ℤ) → Contains m.snapshots s → s.parent ≡ Some parent → parent ≤ℤ pos version
  pub current : (id : ℤ) → m.current_snapshot ≡ Some id → id ≤ℤ pos version
  pub distinct : IsDistinct int_eq (map (λ s. s.id) m.snapshots)
  pub acyclic : FormsCycle m → ⊥

none_held : (o : Option ℤ) (s : Snapshot) → held_at [] o ≡ Some s → ⊥
none_held None s is = cc is
none_held (Some id) s is = cc is

no_cycle : (id location : List ℕ) → FormsCycle (no_version id location) → ⊥
no_cycle id location c = by c.around c.back c.moves
  where
    by : (around : List Snapshot) → LeadsTo [] c.at around c.at → (around ≡ [] → ⊥) → ⊥
    by [] back moves = moves refl
    by (s ∷ ss) back moves = none_held c.at s back.0

none_sound : (version : ℕ) (id location : List ℕ) → ((front : List ℕ) → location ≢ front ++ 47 ∷ []) → IsSoundAt version (no_version id location)
none_sound version id location plain = record {
  location = plain;
  field_ids = λ i there. absurd (Contains-none i there);
  snapshots = λ s there. absurd (Contains-none s there);
  parents = λ s parent there is. absurd (Contains-none s there);
  current = λ i is. absurd (cc is);
  distinct = nothing_twice int_eq;
  acyclic = no_cycle id location;
}

read_sound : (files : Files) (end : TableEnd) (has : HasEnd files end) → IsSoundAt end.version has.metadata
read_sound files end has =
    let now = in_held_at has.metadata.snapshots has.metadata.current_snapshot has.current.snapshot has.current.current in
    record {
      location = has.form.location;
      field_ids = has.form.field_ids;
      snapshots = has.form.snapshots;
      parents = has.form.parents;
      current = λ id is. subst (λ (i : ℤ). i ≤ℤ pos end.version) (some_once has.metadata.current_snapshot has.current.snapshot.id id now.1 is) (has.form.snapshots has.current.snapshot now.0);
      distinct = has.says.read.text.consistent.own_snapshots;
      acyclic = has.says.acyclic;
    }

same_sound : (version : ℕ) (m n : Metadata) → SameMetadata m n → IsSoundAt version n → IsSoundAt version m
same_sound version m n same sound =
    let s = subst (IsSoundAt version) (sym same.others) sound in
    record {
      location = s.location;
      field_ids = s.field_ids;
      snapshots = s.snapshots;
      parents = s.parents;
      current = s.current;
      distinct = s.distinct;
      acyclic = λ c. s.acyclic (record { before = c.before; at = c.at; around = c.around; chain = c.chain; back = c.back; moves = c.moves });
    }

pub end_sound : (files : Files) (id location : List ℕ) (end : TableEnd) → ((front : List ℕ) → location ≢ front ++ 47 ∷ []) → IsFirstEnd files id location end ⊎ HasEnd files end → IsSoundAt end.version end.metadata
end_sound files id location end plain (inl first) = subst (IsSoundAt end.version) (sym first.metadata) (none_sound end.version id location plain)
end_sound files id location end plain (inr has) = same_sound end.version end.metadata has.metadata has.same (read_sound files end has)

-- ---- lists

-- the last so many of a list with one more
last_push : {A : Type 0} (n : ℕ) (xs : List A) (x : A) → 0 < n → last_of n (xs ++ x ∷ []) ≡ drop (length xs + 1 - n) xs ++ x ∷ []
last_push n xs x some =
    let len = length-append xs (x ∷ []) in
    let at : length (xs ++ x ∷ []) - n ≡ length xs + 1 - n = omega (arith, len) in
    ap (λ k. drop k (xs ++ x ∷ [])) at ∙ drop_push (length xs + 1 - n) xs x (omega (arith, some))

-- ---- snapshots

held_by : (b : Bool) (s : Snapshot) (o : Option Snapshot) (t : Snapshot) → (b ≡ true → s ≡ t) → (b ≡ false → o ≡ Some t) → cond b (Some s) o ≡ Some t
held_by true s o t here later = ap (λ (x : Snapshot). Some x) (here refl)
held_by false s o t here later = later refl

-- of distinct ids each finds its own
held_own : (xs : List Snapshot) (t : Snapshot) → IsDistinct int_eq (map (λ s. s.id) xs) → Contains xs t → held xs t.id ≡ Some t
held_own [] t distinct there = absurd (Contains-none t there)
held_own (s ∷ ss) t distinct there =
    ⊎_elim
    (λ (same : s ≡ t). held_by (int_eq s.id t.id) s (held ss t.id) t (λ is. same) (λ other. absurd (false≢true (sym other ∙ (Decides-int_eq s.id t.id).1 (ap (λ (x : Snapshot). x.id) same)))))
    (λ (later : Contains ss t).
    let apart : int_eq s.id t.id ≡ false = all_at (λ y. int_eq s.id y ≡ false) (map (λ x. x.id) ss) t.id (IsDistinct-head int_eq s.id (map (λ x. x.id) ss) distinct) (in_map (λ (x : Snapshot). x.id) ss t later) in
    held_by (int_eq s.id t.id) s (held ss t.id) t (λ is. absurd (false≢true (sym apart ∙ is))) (λ other. held_own ss t (IsDistinct-tail int_eq s.id (map (λ x. x.id) ss) distinct) later))
    (Contains-cases s ss t there)

-- behind ids that are others a snapshot is found by its own
held_last : (xs : List Snapshot) (s : Snapshot) → ((t : Snapshot) → Contains xs t → t.id ≢ s.id) → held (xs ++ s ∷ []) s.id ≡ Some s
held_last [] s others = held_by (int_eq s.id s.id) s None s (λ is. refl) (λ other. absurd (false≢true (sym other ∙ (Decides-int_eq s.id s.id).1 refl)))
held_last (t ∷ xs) s others =
    held_by (int_eq t.id s.id) t (held (xs ++ s ∷ []) s.id) s (λ is. absurd (others t (Contains-head t xs) ((Decides-int_eq t.id s.id).0 is))) (λ other. held_last xs s (λ u there. others u (Contains-tail t xs u there)))

-- ---- the snapshots behind a commit

module _ (m : Metadata) (version : ℕ) (sound : IsSoundAt version m) (s : Snapshot) (named : s.id ≡ pos (version + 1)) (parent : s.parent ≡ m.current_snapshot) where
  abbrev snapshots_behind : List Snapshot
  snapshots_behind = last_of MAX_SNAPSHOTS (m.snapshots ++ s ∷ [])

  pub snapshot_cases : (t : Snapshot) → Contains snapshots_behind t → Contains m.snapshots t ⊎ (s ≡ t)
  snapshot_cases t there = ⊎_elim (λ old. inl old) (λ new. inr (Contains-one s t new)) (Contains-append_cases m.snapshots (s ∷ []) t (in_drop _ (m.snapshots ++ s ∷ []) t there))

  old_other : (t : Snapshot) → Contains m.snapshots t → t.id ≢ s.id
  old_other t there same = let low = sound.snapshots t there in let high : t.id ≡ pos (version + 1) = same ∙ named in let bad : pos (version + 1) ≤ℤ pos version = subst (λ (i : ℤ). i ≤ℤ pos version) high low in omega (arith, ints, bad)

  pub current_held : held snapshots_behind s.id ≡ Some s
  current_held =
      ap (λ (l : List Snapshot). held l s.id) (last_push MAX_SNAPSHOTS m.snapshots s (omega arith))
      ∙ held_last (drop (length m.snapshots + 1 - MAX_SNAPSHOTS) m.snapshots) s (λ t there. old_other t (in_drop _ m.snapshots t there))

  pub snapshot_in : Contains snapshots_behind s
  snapshot_in = (in_held snapshots_behind s.id s current_held).0

  -- ---- no cycle

  -- The id is none past the version before.
  abbrev IsOld : Option ℤ → Type 0
  IsOld o = (id : ℤ) → o ≡ Some id → id ≤ℤ pos version

  new_late : IsOld (Some s.id) → ⊥
  new_late old = let low : pos (version + 1) ≤ℤ pos version = subst (λ (i : ℤ). i ≤ℤ pos version) named (old s.id refl) in omega (arith, ints, low)

  old_held : (o : Option ℤ) (t : Snapshot) → IsOld o → held_at snapshots_behind o ≡ Some t → (held_at m.snapshots o ≡ Some t) × IsOld t.parent
  old_held o t old is =
      let found = in_held_at snapshots_behind o t is in
      ⊎_elim
      (λ (there : Contains m.snapshots t). (ap (held_at m.snapshots) found.1 ∙ held_own m.snapshots t sound.distinct there, λ id of. sound.parents t id there of))
      (λ (same : s ≡ t). absurd (new_late (λ id of. old id (found.1 ∙ ap (λ (x : Snapshot). Some x.id) (sym same) ∙ of))))
      (snapshot_cases t found.0)

  old_chain : (start : Option ℤ) (ts : List Snapshot) (stop : Option ℤ) → IsOld start → LeadsTo snapshots_behind start ts stop → LeadsTo m.snapshots start ts stop × IsOld stop
  old_chain start [] stop old chain = (chain, subst IsOld chain old)
  old_chain start (t ∷ ts) stop old chain =
      let first = old_held start t old chain.0 in
      let rest = old_chain t.parent ts stop first.1 chain.1 in
      ((first.0, rest.0), rest.1)

  parent_old : IsOld s.parent
  parent_old id is = sound.current id (sym parent ∙ is)

  first_is : (t : Snapshot) → held_at snapshots_behind (Some s.id) ≡ Some t → s ≡ t
  first_is t is = some_once (held snapshots_behind s.id) s t current_held is

  from_new : (ts : List Snapshot) (stop : Option ℤ) (t : Snapshot) → LeadsTo snapshots_behind (Some s.id) (t ∷ ts) stop → LeadsTo m.snapshots m.current_snapshot ts stop × IsOld stop
  from_new ts stop t chain =
      let same = first_is t chain.0 in
      let behind : LeadsTo snapshots_behind s.parent ts stop = subst (λ (x : Snapshot). LeadsTo snapshots_behind x.parent ts stop) (sym same) chain.1 in
      let old = old_chain s.parent ts stop parent_old behind in
      (subst (λ (o : Option ℤ). LeadsTo m.snapshots o ts stop) parent old.0, old.1)

  cycle_back : (before : List Snapshot) (at : Option ℤ) (around : List Snapshot) → LeadsTo snapshots_behind (Some s.id) before at → LeadsTo snapshots_behind at around at → (around ≡ [] → ⊥) → ⊥
  cycle_back [] at [] chain back moves = moves refl
  cycle_back [] at (t ∷ around) chain back moves =
      let here : LeadsTo snapshots_behind (Some s.id) (t ∷ around) at = subst (λ (o : Option ℤ). LeadsTo snapshots_behind o (t ∷ around) at) (sym chain) back in
      let old = (from_new around at t here).1 in
      new_late (subst IsOld (sym chain) old)
  cycle_back (b ∷ before) at around chain back moves =
      let old = from_new before at b chain in
      let turned = old_chain at around at old.1 back in
      sound.acyclic (record { before = before; at = at; around = around; chain = old.0; back = turned.0; moves = moves })

  pub no_new_cycle : (n : Metadata) → n.snapshots ≡ snapshots_behind → n.current_snapshot ≡ Some s.id → FormsCycle n → ⊥
  no_new_cycle n snapshots current c =
      cycle_back c.before c.at c.around
      (subst (λ (o : Option ℤ). LeadsTo snapshots_behind o c.before c.at) current (subst (λ (l : List Snapshot). LeadsTo l n.current_snapshot c.before c.at) snapshots c.chain))
      (subst (λ (l : List Snapshot). LeadsTo l c.at c.around c.at) snapshots c.back)
      c.moves
