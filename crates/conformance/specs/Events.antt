-- The events of the drill of a number.
use Rattle.std.specs.Prelude.{ℕ, ◌+◌, ◌*◌, ◌%◌, ◌==◌, Bool, ◌&&◌, ◌||◌, List, [], ◌∷◌, ◌++◌, length, if◌then◌else◌}
use Rattle.std.specs.List.{filter, flat_map}
use Rattle.table_history.specs.declared.kind.Kind.{Kind}
use Rattle.table_history.specs.declared.kind.Kind.TheVariants.{Hudi, Iceberg}
use Rattle.conformance.specs.Drill.{commit_count, drill_bytes, numbers_under}
use Rattle.conformance.specs.declared.event.Event.{Event}
use Rattle.conformance.specs.declared.event.Event.TheVariants as event

-- whether the targets are synced after commit i
abbrev pub is_sync_point : ℕ → ℕ → Bool
is_sync_point number i = (i == 0) || ((i == 199) || ((number + i) % 5 == 0))

-- how often they are synced before commit i, which is the number of a sync after it
abbrev pub sync_points : ℕ → ℕ → ℕ
sync_points number i = length (filter (is_sync_point number) (numbers_under i))

-- whether the syncs of this number are stopped, where there are stops
abbrev pub is_stopped : ℕ → ℕ → Bool
is_stopped number e = (number + e) % 3 == 1

abbrev pub stopped_sync : ℕ → ℕ → Kind → List Event
stopped_sync number e target =
    event.Stop ((number + 5 * e) % 23) ∷ event.Sync target ∷ event.Crash (e ∷ (e + 1) ∷ (e + 2) ∷ (e + 3) ∷ []) ∷ event.Sync target ∷ []

-- one target's sync of this number
abbrev pub target_sync : ℕ → Bool → ℕ → Kind → List Event
target_sync number stops e target = if stops && is_stopped number e then stopped_sync number e target else (event.Sync target ∷ [])

abbrev pub sync_events : ℕ → Bool → ℕ → List Event
sync_events number stops e = target_sync number stops e Hudi ++ target_sync number stops e Iceberg

-- the syncs after commit i, where the targets are synced then
abbrev pub syncs_behind : ℕ → Bool → ℕ → List Event
syncs_behind number stops i = if is_sync_point number i then sync_events number stops (sync_points number i) else []

-- commit i, and then the syncs
abbrev pub commit_events : ℕ → Bool → ℕ → List Event
commit_events number stops i = event.Extend (drill_bytes number i) ∷ syncs_behind number stops i

abbrev pub drill_events : ℕ → Bool → List Event
drill_events number stops = flat_map (commit_events number stops) (numbers_under commit_count)
