-- The newest metadata of a table is one, and so is its head.
use Rattle.std.proofs.Common.{◌≡◌, inl, inr, ⊎_elim, ℕ, ℤ, List, [], ◌∷◌, Contains, Bool, true, false, cond, Option, Some, None, refl, sym, ap, subst, ◌∙◌}
use Rattle.std.specs.Prelude.{IfSome, find, map}
use Rattle.std.specs.Fmt.{signed_decimal}
use Rattle.std.specs.Ordering.{int_eq}
use Rattle.std.proofs.lemmas.Bool.Decides.{Decides-int_eq}
use Rattle.std.proofs.lemmas.Option.{none-some, same_Some}
use Rattle.lake_store.specs.Disk.{Files}
use Rattle.table_history.specs.First.{NoneOf}
use Rattle.table_history.proofs.RowListLemmas.{Contains-cases, Contains-none}
use Rattle.iceberg_ancestry.specs.Ancestry.{held, held_at}
use Rattle.iceberg_ancestry.specs.ById.{has_id}
use Rattle.iceberg_metadata.specs.Grammar.{IsConsistent, IsMetadataText}
use Rattle.iceberg_metadata.specs.Reading.{HasCause, causes}
use Rattle.iceberg_metadata.specs.Schemas.{SchemaReading}
use Rattle.iceberg_metadata.specs.declared.metadata.Metadata.{Metadata}
use Rattle.iceberg_metadata.specs.declared.metadata.Snapshot.{Snapshot}
use Rattle.iceberg_metadata.proofs.OnceLemmas.{text_once}
use Rattle.iceberg_table.specs.Files.{HoldsFile}
use Rattle.iceberg_table.specs.Folder.{HasVersion, version_path}
use Rattle.iceberg_table.proofs.OnceLaws.{newest_once}
use Rattle.source_core.specs.declared.head.Head.{Head}
use Rattle.source_core.proofs.Heads.{same_parts}
use Rattle.source_iceberg.specs.Heads.{IsAbsent, IsCurrent, IsIcebergHead, IsNewestMetadata, StandsForMetadata, StatesMetadata, metadata_features}

-- ---- what the newest metadata says

module _ (files : Files) (v w : ℕ) (m n : Metadata) (same : v ≡ w) where
  pub one_said : (b c : List ℕ) (rs qs : List SchemaReading) → HoldsFile files (version_path v) b → HoldsFile files (version_path w) c → IsMetadataText b rs m → IsMetadataText c qs n → m ≡ n
  one_said b c rs qs hb hc tb tc =
      let held = subst (λ (k : ℕ). HoldsFile files (version_path k) b) same hb in
      let bytes : b ≡ c = same_Some b c (sym held ∙ hc) in
      text_once c rs qs m n (subst (λ (x : List ℕ). IsMetadataText x rs m) bytes tb) tc

pub one_metadata : (files : Files) (v w : ℕ) (m n : Metadata) → IsNewestMetadata files v m → IsNewestMetadata files w n → (v ≡ w) × (m ≡ n)
one_metadata files v w m n a b =
    let same = newest_once (HasVersion files) v w a.newest b.newest in
    (same, one_said files v w m n same a.says.bytes b.says.bytes a.says.read.readings b.says.read.readings a.says.holds b.says.holds a.says.read.text b.says.read.text)

pub metadata_once : (files : Files) (v w : ℕ) (m n : Metadata) → IsNewestMetadata files v m → IsNewestMetadata files w n → m ≡ n
metadata_once files v w m n a b = (one_metadata files v w m n a b).1

features_of : (bytes : List ℕ) → NoneOf (HasCause bytes) causes → NoneOf (HasCause bytes) metadata_features
features_of bytes none = (none.0, (none.1.1.0, (none.1.1.1.0, (none.1.1.1.1.0, (none.1.1.1.1.1.0, tt)))))

-- what was read is stated
states_of : (files : Files) (v : ℕ) (m : Metadata) → IsNewestMetadata files v m → StatesMetadata files v m
states_of files v m is = record { newest = is.newest; bytes = is.says.bytes; holds = is.says.holds; readings = is.says.read.readings; text = is.says.read.text }

-- and stands also where numbers are no matter
pub stands_for : (files : Files) (v : ℕ) (m : Metadata) → IsNewestMetadata files v m → StandsForMetadata files v m
unfolding states_of
stands_for files v m is = record { states = states_of files v m is; supported = features_of is.says.bytes is.says.supported }

-- Newest metadata states one thing, whatever it shows.
pub stated_once : (files : Files) (v w : ℕ) (m n : Metadata) → StatesMetadata files v m → IsNewestMetadata files w n → m ≡ n
stated_once files v w m n a b =
    let same = newest_once (HasVersion files) v w a.newest b.newest in
    one_said files v w m n same a.bytes b.says.bytes a.readings b.says.read.readings a.holds b.says.holds a.text b.says.read.text

-- ---- its current snapshot

held_first : (s : Snapshot) (id : ℤ) (o : Option Snapshot) → s.id ≡ id → cond (int_eq s.id id) (Some s) o ≡ None → ⊥
held_first s id o same none = none-some s (sym none ∙ ap (λ (b : Bool). cond b (Some s) o) ((Decides-int_eq s.id id).1 same))

held_later : (b : Bool) (s : Snapshot) (o : Option Snapshot) → cond b (Some s) o ≡ None → o ≡ None
held_later true s o none = absurd (none-some s (sym none))
held_later false s o none = none

held_there : (xs : List Snapshot) (id : ℤ) → Contains (map (λ (s : Snapshot). s.id) xs) id → held xs id ≡ None → ⊥
held_there [] id there none = absurd (Contains-none id there)
held_there (s ∷ ss) id there none =
    ⊎_elim
    (λ (same : s.id ≡ id). held_first s id (held ss id) same none)
    (λ (later : Contains (map (λ (t : Snapshot). t.id) ss) id). held_there ss id later (held_later (int_eq s.id id) s (held ss id) none))
    (Contains-cases s.id (map (λ (t : Snapshot). t.id) ss) id there)

none_at : (xs : List Snapshot) (o : Option ℤ) → IfSome o (λ id. Contains (map (λ (s : Snapshot). s.id) xs) id) → held_at xs o ≡ None → o ≡ None
none_at xs None there none = refl
none_at xs (Some id) there none = absurd (held_there xs id there none)

pub held_found : (xs : List Snapshot) (id : ℤ) → held xs id ≡ find (has_id id) xs
held_found [] id = refl
held_found (s ∷ ss) id = ap (λ (o : Option Snapshot). cond (int_eq s.id id) (Some s) o) (held_found ss id)

-- Metadata names a current snapshot that it holds, or none.
pub none_current : (m : Metadata) (schemas : List ℤ) → IsConsistent m schemas → held_at m.snapshots m.current_snapshot ≡ None → m.current_snapshot ≡ None
none_current m schemas is none = none_at m.snapshots m.current_snapshot is.current_snapshot none

pub one_current : (files : Files) (v w : ℕ) (m n : Metadata) (s t : Snapshot) → IsCurrent files v m s → IsCurrent files w n t → (v ≡ w) × (m ≡ n) × (s ≡ t)
one_current files v w m n s t a b =
    let one = one_metadata files v w m n a.metadata b.metadata in
    (one.0, one.1, same_Some s t (sym a.held ∙ ap (λ (x : Metadata). held_at x.snapshots x.current_snapshot) one.1 ∙ b.held))

-- a table with a current snapshot is there
pub not_absent : (files : Files) (v : ℕ) (m : Metadata) (s : Snapshot) → IsCurrent files v m s → IsAbsent files → ⊥
not_absent files v m s is (inl none) = none.versions v is.metadata.newest.there
not_absent files v m s is (inr (w, n, stands, none)) =
    let one : m ≡ n = sym (stated_once files w v n m stands.states is.metadata) in
    let no : m.current_snapshot ≡ None = ap (λ (x : Metadata). x.current_snapshot) one ∙ none in
    none-some s (sym (ap (held_at m.snapshots) no) ∙ is.held)

-- ---- the head

pub head_there : (files : Files) (head : Head) → IsIcebergHead files head → IsAbsent files → ⊥
head_there files head is absent = not_absent files is.version is.metadata is.snapshot is.current absent

pub one_head : (files : Files) (a b : Head) → IsIcebergHead files a → IsIcebergHead files b → a ≡ b
one_head files a b x y =
    let one = one_current files x.version y.version x.metadata y.metadata x.snapshot y.snapshot x.current y.current in
    same_parts a b (x.position ∙ ap (λ (s : Snapshot). signed_decimal s.id) one.2 ∙ sym y.position) (x.pending ∙ sym y.pending) (x.table ∙ ap (λ (m : Metadata). Some m.uuid) one.1 ∙ sym y.table)
