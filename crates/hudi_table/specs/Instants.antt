-- Which instants the files in a timeline's folder name, in byte order (Hudi technical specification, "Timeline").
use Rattle.std.specs.Prelude.{◌≡◌, ◌==◌, ℕ, ◌-◌, ◌&&◌, Bool, true, false, not, Contains, List, ◌++◌, codes, find, length, slice_get, take, Option, Some, None, option_map, if◌then◌else◌}
use Rattle.std.specs.List.Sorted.{IsStrictlySortedBy}
use Rattle.std.specs.List.{before_first, filter_map, list_any, prefix_len}
use Rattle.std.specs.Ordering.{is_lt, nat_cmp}
use Rattle.std.specs.Cmp.Lexicographic.{slice_cmp}
use Rattle.std.specs.Str.{bytes_eq}
use Rattle.hudi_names.specs.Name.{instant_of}
use Rattle.hudi_names.specs.declared.name.Action.{Action}
use Rattle.hudi_names.specs.declared.name.Action.TheVariants.{Commit, ReplaceCommit, Ignored, MergeOnRead, Restore, Unknown}
use Rattle.hudi_names.specs.declared.name.State.{State}
use Rattle.hudi_names.specs.declared.name.State.TheVariants.{Requested, Inflight, Completed}
use Rattle.hudi_table.specs.declared.instants.InstantName.{InstantName}
use Rattle.hudi_table.specs.declared.instants.CompletedInstant.{CompletedInstant}
use Rattle.hudi_table.specs.declared.timeline.Timeline.{Timeline}

abbrev pub timeline_folder : List ℕ
timeline_folder = codes ".hoodie"

-- the path of the file of this name
abbrev pub path_of : List ℕ → List ℕ
path_of name = codes ".hoodie/" ++ name

-- ---- names

-- An instant's time is what stands before the first dot of its name.
abbrev pub time_of : List ℕ → List ℕ
time_of name = before_first (λ b. b == 46) name

-- one of the names is this one
abbrev pub has_name : List (List ℕ) → List ℕ → Bool
has_name names name = list_any (bytes_eq name) names

-- the name of the file of a commit or replacecommit of this time once it is completed
abbrev pub completed_name : Action → List ℕ → Option (List ℕ)
completed_name Commit time = Some (time ++ codes ".commit")
completed_name ReplaceCommit time = Some (time ++ codes ".replacecommit")
completed_name Ignored time = None
completed_name MergeOnRead time = None
completed_name Restore time = None
completed_name Unknown time = None

-- there is such a name, and none of the names is this one
abbrev pub is_missing : List (List ℕ) → Option (List ℕ) → Bool
is_missing names None = false
is_missing names (Some name) = not (has_name names name)

-- what the name of an instant says among these: a commit or replacecommit is pending where its own completed file isn't there
abbrev pub instant_with : List (List ℕ) → List ℕ → Action → State → InstantName
instant_with names name action state = record { name = name; time = time_of name; action = action; state = state; is_pending = is_missing names (completed_name action (time_of name)) }

abbrev pub instant_named : List (List ℕ) → List ℕ → Option InstantName
instant_named names name = option_map (λ p. instant_with names name p.1 p.2) (instant_of name)

-- the instants that these names name, in the order of the names
abbrev pub instants_in : List (List ℕ) → List InstantName
instants_in names = filter_map (instant_named names) names

-- ---- completed commits

abbrev pub is_commit : Action → Bool
is_commit Commit = true
is_commit ReplaceCommit = true
is_commit Ignored = false
is_commit MergeOnRead = false
is_commit Restore = false
is_commit Unknown = false

abbrev pub is_replacecommit : Action → Bool
is_replacecommit Commit = false
is_replacecommit ReplaceCommit = true
is_replacecommit Ignored = false
is_replacecommit MergeOnRead = false
is_replacecommit Restore = false
is_replacecommit Unknown = false

abbrev pub is_done : State → Bool
is_done Requested = false
is_done Inflight = false
is_done Completed = true

-- A completed replacecommit is the second of its time where a completed commit of this time is there too.
abbrev pub is_second : List (List ℕ) → InstantName → Bool
is_second names i = is_replacecommit i.action && has_name names (i.time ++ codes ".commit")

-- the completed commit or replacecommit that the name is of
abbrev pub completed_of : List (List ℕ) → InstantName → Option CompletedInstant
completed_of names i = if is_commit i.action && is_done i.state then Some (record { name = i.name; time = i.time; is_second = is_second names i }) else None

abbrev pub completed_in : List (List ℕ) → List InstantName → List CompletedInstant
completed_in names instants = filter_map (completed_of names) instants

-- ---- the head

-- the time of the first commit or replacecommit that is pending
abbrev pub first_pending : List InstantName → Option (List ℕ)
first_pending instants = option_map (λ i. i.time) (find (λ i. i.is_pending) instants)

-- the instant comes before the first pending one
abbrev pub is_before : Option (List ℕ) → CompletedInstant → Bool
is_before None c = true
is_before (Some pending) c = is_lt (slice_cmp nat_cmp c.time pending)

-- what these names say of a timeline
abbrev pub timeline_of : List (List ℕ) → Timeline
timeline_of names =
    let instants = instants_in names in
    let completed = completed_in names instants in
    let pending = first_pending instants in
    record { instants = instants; completed = completed; pending = pending; before_pending = prefix_len (is_before pending) completed }

-- the completed commits and replacecommits before the first pending one, of which the last is the head
abbrev pub up_to_head : Timeline → List CompletedInstant
up_to_head timeline = take timeline.before_pending timeline.completed

abbrev pub head_of : Timeline → Option (List ℕ)
head_of timeline = option_map (λ c. c.time) (slice_get (up_to_head timeline) (length (up_to_head timeline) - 1))

-- one of the instants is of this time
abbrev pub HasTime : List CompletedInstant → List ℕ → Type 0
HasTime instants time = (c : CompletedInstant) × Contains instants c × (c.time ≡ time)

-- Some names in byte order say so of a timeline.
pub record IsOfNames (timeline : Timeline) : Type 0 where
  pub names : List (List ℕ)
  pub sorted : IsStrictlySortedBy (slice_cmp nat_cmp) names
  pub is : timeline ≡ timeline_of names
