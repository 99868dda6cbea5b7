-- The commits since a position end at the head.
use Rattle.std.proofs.Common.{◌≡◌, ℕ, ℤ, List, [], ◌∷◌, ◌++◌, Contains, Option, Some, None, refl, sym, ap, subst, ◌∙◌}
use Rattle.std.specs.Prelude.{reverse}
use Rattle.std.specs.Fmt.{signed_decimal}
use Rattle.std.proofs.lemmas.List.{reverse-append}
use Rattle.lake_store.specs.Disk.{Files}
use Rattle.table_history.specs.declared.table.Commit.{Commit}
use Rattle.table_history.specs.declared.table.Table.{Table}
use Rattle.iceberg_ancestry.specs.Ancestry.{IsAncestry, LeadsTo, held_at}
use Rattle.iceberg_metadata.specs.declared.metadata.Metadata.{Metadata}
use Rattle.iceberg_metadata.specs.declared.metadata.Snapshot.{Snapshot}
use Rattle.iceberg_table.specs.declared.manifest.Manifest.{Manifest}
use Rattle.source_core.specs.Since.{EndAt}
use Rattle.source_core.specs.declared.head.Head.{Head}
use Rattle.source_core.proofs.Lists.{end_in, end_of}
use Rattle.source_iceberg.specs.Heads.{IsCurrent, IsIcebergHead}
use Rattle.source_iceberg.specs.ListLemmas.{same_end}
use Rattle.source_iceberg.specs.HeadLemmas.{metadata_once}
use Rattle.source_iceberg.specs.Since.{AreCommits, IsReached, IsSince}
use Rattle.lake_basics.proofs.Options.{none_or_some, some_once}

-- ---- the ancestors

chain_once : (xs : List Snapshot) (start : Option ℤ) (ps bs : List Snapshot) (p q : Option ℤ) → LeadsTo xs start ps p → held_at xs p ≡ None → LeadsTo xs start bs q → held_at xs q ≡ None → ps ≡ bs
chain_once xs start [] [] p q a a_ends b b_ends = refl
chain_once xs start [] (t ∷ bs) p q a a_ends b b_ends = absurd (none_or_some (held_at xs start) t (ap (held_at xs) a ∙ a_ends) b.0)
chain_once xs start (s ∷ ps) [] p q a a_ends b b_ends = absurd (none_or_some (held_at xs start) s (ap (held_at xs) b ∙ b_ends) a.0)
chain_once xs start (s ∷ ps) (t ∷ bs) p q a a_ends b b_ends =
    let same = some_once (held_at xs start) s t a.0 b.0 in
    let rest = chain_once xs s.parent ps bs p q a.1 a_ends (subst (λ (u : Snapshot). LeadsTo xs u.parent bs q) (sym same) b.1) b_ends in
    ap (λ (u : Snapshot). u ∷ ps) same ∙ ap (λ (l : List Snapshot). t ∷ l) rest

-- a table has one list of ancestors
pub ancestors_once : (m : Metadata) (ps bs : List Snapshot) → IsAncestry m ps → IsAncestry m bs → ps ≡ bs
ancestors_once m ps bs a b = chain_once m.snapshots m.current_snapshot ps bs a.stop b.stop a.chain a.ends b.chain b.ends

-- The current snapshot is the first of them.
pub first_ancestor : (m : Metadata) (s : Snapshot) (ancestors : List Snapshot) → held_at m.snapshots m.current_snapshot ≡ Some s → IsAncestry m ancestors → (rest : List Snapshot) × (ancestors ≡ s ∷ rest)
first_ancestor m s [] held are = absurd (none_or_some (held_at m.snapshots m.current_snapshot) s (ap (held_at m.snapshots) are.chain ∙ are.ends) held)
first_ancestor m s (a ∷ rest) held are = (rest, ap (λ (u : Snapshot). u ∷ rest) (some_once (held_at m.snapshots m.current_snapshot) a s are.chain.0 held))

-- and so the last of them where the oldest comes first
pub last_ancestor : (m : Metadata) (s : Snapshot) (ancestors : List Snapshot) → held_at m.snapshots m.current_snapshot ≡ Some s → IsAncestry m ancestors → (front : List Snapshot) × (reverse ancestors ≡ front ++ s ∷ [])
last_ancestor m s ancestors held are =
    let first = first_ancestor m s ancestors held are in
    (reverse first.0, ap reverse first.1 ∙ reverse-append (s ∷ []) first.0)

-- ---- where the commits end

module _ (files : Files) (version : ℕ) (m : Metadata) (s : Snapshot) (current : IsCurrent files version m s) where
  -- The last of the snapshots up to the current one is the current one.
  pub reached_end : (position : List ℕ) (v : ℕ) (n : Metadata) (later : List Snapshot) (is : IsReached files position v n later) → end_of is.behind.at later ≡ s
  reached_end position v n later is =
      let same : n ≡ m = metadata_once files v version n m is.metadata current.metadata in
      let last = last_ancestor m s is.ancestors current.held (subst (λ (x : Metadata). IsAncestry x is.ancestors) same is.are) in
      same_end is.behind.front is.behind.at later last.0 s (sym is.behind.split ∙ last.1)

end_at : (files : Files) (m : Metadata) (head position : List ℕ) (s at : Snapshot) (later : List Snapshot) (base : Table) (commits : List Commit) (last : Table) (read : List Manifest)
    → head ≡ signed_decimal s.id → position ≡ signed_decimal at.id → end_of at later ≡ s → AreCommits files m base later commits last read → EndAt head position commits
end_at files m head position s at [] base commits last read is spelled end are =
    subst (EndAt head position) (sym are.0) (spelled ∙ ap (λ (u : Snapshot). signed_decimal u.id) end ∙ sym is)
end_at files m head position s at (t ∷ later) base commits last read is spelled end are =
    subst (EndAt head position) (sym are.4) (end_at files m head are.0.position s t later are.2.table are.1 last are.3 is are.5.position end are.6)

pub ends : (files : Files) (head : Head) (position : List ℕ) (base : Table) (commits : List Commit) → IsIcebergHead files head → IsSince files position base commits → EndAt head.position position commits
ends files head position base commits is since =
    let reached = since.reached in
    let made = since.over.behind in
    end_at files since.metadata head.position position is.snapshot reached.behind.at since.later base commits made.last made.read is.position reached.behind.spelled
    (reached_end files is.version is.metadata is.snapshot is.current position since.version since.metadata since.later reached) made.are

none_behind : (files : Files) (m : Metadata) (position : List ℕ) (s at : Snapshot) (later : List Snapshot) (base : Table) (commits : List Commit) (last : Table) (read : List Manifest)
    → position ≡ signed_decimal s.id → end_of at later ≡ s → ((t : Snapshot) → Contains later t → position ≡ signed_decimal t.id → ⊥) → AreCommits files m base later commits last read → commits ≡ []
none_behind files m position s at [] base commits last read is end others are = are.0
none_behind files m position s at (t ∷ later) base commits last read is end others are = absurd (others (end_of t later) (end_in t later) (is ∙ ap (λ (u : Snapshot). signed_decimal u.id) (sym end)))

pub none_at_head : (files : Files) (head : Head) (base : Table) (commits : List Commit) → IsIcebergHead files head → IsSince files head.position base commits → commits ≡ []
none_at_head files head base commits is since =
    let reached = since.reached in
    let made = since.over.behind in
    none_behind files since.metadata head.position is.snapshot reached.behind.at since.later base commits made.last made.read is.position
    (reached_end files is.version is.metadata is.snapshot is.current head.position since.version since.metadata since.later reached) reached.behind.others made.are
