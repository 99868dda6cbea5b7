-- Which lists of events are legal, and the history of the table that their commits make, whatever else happens.
use Rattle.std.specs.Prelude.{◌≡◌, ◌≢◌, ◌<◌, ◌+◌, ℕ, List, [], ◌∷◌, All, Option, Some, None}
use Rattle.std.specs.Fmt.{decimal}
use Rattle.table_history.specs.First.{NoneOf}
use Rattle.table_history.specs.History.{History}
use Rattle.table_history.specs.declared.kind.Kind.TheVariants.{Delta}
use Rattle.table_history.specs.declared.table.Table.{Table}
use Rattle.delta_log.specs.Judging.{lines_of}
use Rattle.delta_log.specs.Readable.{AreLinesInGrammar, ShowsOnLine, States, line_features}
use Rattle.delta_log.specs.declared.action.LineAction.{LineAction}
use Rattle.delta_log.specs.declared.commit.DeltaCommit.{DeltaCommit}
use Rattle.delta_table.specs.Log.{IsStep}
use Rattle.conformance.specs.declared.event.Event.{Event}
use Rattle.conformance.specs.declared.event.Event.TheVariants as event

-- the bytes of the source's commits, in their order
abbrev pub extensions : List Event → List (List ℕ)
extensions [] = []
extensions (event.Extend bytes ∷ events) = bytes ∷ extensions events
extensions (event.Shorten below ∷ events) = extensions events
extensions (event.Sync target ∷ events) = extensions events
extensions (event.Full target ∷ events) = extensions events
extensions (event.Stop call ∷ events) = extensions events
extensions (event.Crash choices ∷ events) = extensions events

-- The bytes are a commit in its grammar, which shows no feature over the table before it and makes the next one of it. How many actions it has and how
-- long its paths are is no matter.
pub record IsExtension (bytes : List ℕ) (base : Option Table) (next : Table) : Type 0 where
  pub actions : List LineAction
  pub grammar : AreLinesInGrammar (lines_of bytes) actions
  pub supported : All (λ a. NoneOf (λ f. ShowsOnLine f a) line_features) actions
  pub commit : DeltaCommit
  pub states : States actions commit
  pub step : IsStep commit base next

-- one position for each commit, its version in decimal, and after each the table that it makes of the one before
abbrev pub IsHistoryFrom : ℕ → Option Table → List (List ℕ) → History → Type 0
IsHistoryFrom version base [] [] = Unit {0}
IsHistoryFrom version base [] (entry ∷ history) = ⊥
IsHistoryFrom version base (bytes ∷ commits) [] = ⊥
IsHistoryFrom version base (bytes ∷ commits) (entry ∷ history) =
    (entry.0 ≡ decimal version) × IsExtension bytes base entry.1 × IsHistoryFrom (version + 1) (Some entry.1) commits history

-- the history of the events, by the commits alone
abbrev pub IsHistoryOf : List Event → History → Type 0
IsHistoryOf events history = IsHistoryFrom 0 None (extensions events) history

-- After so many commits, each Shorten names a version up to the newest one, and no Sync or Full is of Delta.
abbrev pub AreInOrder : ℕ → List Event → Type 0
AreInOrder count [] = Unit {0}
AreInOrder count (event.Extend bytes ∷ events) = AreInOrder (count + 1) events
AreInOrder count (event.Shorten below ∷ events) = (below < count) × AreInOrder count events
AreInOrder count (event.Sync target ∷ events) = (target ≢ Delta) × AreInOrder count events
AreInOrder count (event.Full target ∷ events) = (target ≢ Delta) × AreInOrder count events
AreInOrder count (event.Stop call ∷ events) = AreInOrder count events
AreInOrder count (event.Crash choices ∷ events) = AreInOrder count events

-- Each Extend's bytes are in their grammar and show no feature over the table before, so that there is a history; and the other events are in order.
pub record AreLegal (events : List Event) : Type 0 where
  pub history : History
  pub is : IsHistoryOf events history
  pub order : AreInOrder 0 events
