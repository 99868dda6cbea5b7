-- The ancestors of a snapshot, by the parents that the snapshots name (Iceberg specification, "Snapshots").
use Rattle.std.specs.Prelude.{◌≡◌, ◌≢◌, ℤ, List, [], ◌∷◌, Option, Some, None, option_and_then, if◌then◌else◌}
use Rattle.std.specs.Ordering.{int_eq}
use Rattle.iceberg_metadata.specs.declared.metadata.Metadata.{Metadata}
use Rattle.iceberg_metadata.specs.declared.metadata.Snapshot.{Snapshot}

-- The snapshot of this id that is held. A table holds one of each id; of several the first counts.
abbrev pub held : List Snapshot → ℤ → Option Snapshot
held [] id = None
held (s ∷ ss) id = if int_eq s.id id then Some s else held ss id

-- the held snapshot of this id, where there is an id
abbrev pub held_at : List Snapshot → Option ℤ → Option Snapshot
held_at snapshots id = option_and_then (held snapshots) id

-- Each is the snapshot held of the id before it: the first of `start`, each further one of its child's
-- parent. The parent of the last is `stop`.
abbrev pub LeadsTo : List Snapshot → Option ℤ → List Snapshot → Option ℤ → Type 0
LeadsTo snapshots start [] stop = start ≡ stop
LeadsTo snapshots start (s ∷ ss) stop = (held_at snapshots start ≡ Some s) × LeadsTo snapshots s.parent ss stop

-- the current snapshot, its parent, and so on as far as they are held, newest first
pub record IsAncestry (m : Metadata) (ancestors : List Snapshot) : Type 0 where
  pub stop : Option ℤ
  pub chain : LeadsTo m.snapshots m.current_snapshot ancestors stop
  pub ends : held_at m.snapshots stop ≡ None

-- From some snapshot on the way its parents lead back to it.
pub record FormsCycle (m : Metadata) : Type 0 where
  pub before : List Snapshot
  pub at : Option ℤ
  pub around : List Snapshot
  pub chain : LeadsTo m.snapshots m.current_snapshot before at
  pub back : LeadsTo m.snapshots at around at
  pub moves : around ≢ []
