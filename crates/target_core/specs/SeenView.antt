-- What inspecting a target tells.
use Rattle.std.specs.Prelude.{ℕ, ◌<◌, List, []}
use Rattle.table_history.specs.declared.kind.Kind.{Kind}
use Rattle.target_core.specs.Conditions.{IsPublishable}
use Rattle.target_core.specs.Views.{IsOfSource, View, absent}
use Rattle.target_core.specs.declared.target.Seen.{Seen}
use Rattle.target_core.specs.declared.target.Seen.TheVariants.{Absent, Ours, Foreign}

-- Absent where nothing is published; ours where the newest commit's mark names this source, with what the files hold; and else foreign, with the first path at fault.
abbrev pub IsSeen : {K : Type 0} → (View → Type 0) → (List ℕ → Type 0) → (K → View) → (K → Type 0) → Kind → Seen K → Type 0
IsSeen reads is_foreign view stands_for source Absent = reads (absent [])
IsSeen reads is_foreign view stands_for source (Ours kept) = stands_for kept × IsOfSource source (view kept)
IsSeen reads is_foreign view stands_for source (Foreign path) = is_foreign path

-- ours has a commit, its table may be published, and its mark names this source, also where the store tells nothing
abbrev pub IsSeenSound : {K : Type 0} → (K → View) → Kind → Seen K → Type 0
IsSeenSound view source Absent = Unit {0}
IsSeenSound view source (Ours kept) = (0 < (view kept).commits) × IsPublishable (view kept).table × IsOfSource source (view kept)
IsSeenSound view source (Foreign path) = Unit {0}
