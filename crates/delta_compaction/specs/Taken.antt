-- Which commits can be joined, and which line of which commit is the first at fault.
use Rattle.std.specs.Prelude.{◌≡◌, ◌⊎◌, ℕ, ◌+◌, List, [], ◌∷◌, ◌++◌, length, All}
use Rattle.table_history.specs.declared.feature.Feature.TheVariants.{CompactAction}
use Rattle.delta_log.specs.declared.action.LineAction.{LineAction}
use Rattle.delta_log.specs.declared.commit.DeltaCommit.{DeltaCommit}
use Rattle.delta_log.specs.declared.error.DeltaError.{DeltaError}
use Rattle.delta_log.specs.declared.error.DeltaError.TheVariants as delta
use Rattle.delta_log.specs.Judging.{lines_of}
use Rattle.delta_log.specs.Readable.{AreReadable, IsFirstFault, IsReadableCommit}
use Rattle.delta_compaction.specs.declared.error.CompactError.{CompactError}
use Rattle.delta_compaction.specs.declared.error.CompactError.TheVariants as errors
use Rattle.delta_compaction.specs.Lines.{IsStray}

-- The commit can be read and says this, and none of its lines is stray.
pub record IsTaken (bytes : List ℕ) (c : DeltaCommit) : Type 0 where
  pub readable : IsReadableCommit bytes c
  pub plain : All (λ line. ¬ IsStray line) (lines_of bytes)

-- The commits can be joined, and say these things.
abbrev pub AreTaken : List (List ℕ) → List DeltaCommit → Type 0
AreTaken [] said = said ≡ []
AreTaken (bytes ∷ commits) [] = ⊥
AreTaken (bytes ∷ commits) (c ∷ said) = IsTaken bytes c × AreTaken commits said

-- ---- refusals

-- A line can't be read, and no line before it is stray.
pub record IsUnread (bytes : List ℕ) (e : DeltaError) : Type 0 where
  pub first : IsFirstFault bytes e
  pub plain : All (λ line. ¬ IsStray line) first.front

-- The n-th line is stray and can be read, and none before it is stray.
pub record IsStrayAt (bytes : List ℕ) (n : ℕ) : Type 0 where
  pub front : List (List ℕ)
  pub line : List ℕ
  pub later : List (List ℕ)
  pub split : lines_of bytes ≡ front ++ line ∷ later
  pub number : n ≡ length front + 1
  pub actions : List LineAction
  pub readable : AreReadable (front ++ line ∷ []) actions
  pub plain : All (λ l. ¬ IsStray l) front
  pub stray : IsStray line

-- why a commit can't be joined: as it is told where it is read, or a stray line
abbrev pub IsCommitRefusal : List ℕ → DeltaError → Type 0
IsCommitRefusal bytes delta.Memory = Unit {0}
IsCommitRefusal bytes (delta.Malformed n) = IsUnread bytes (delta.Malformed n)
IsCommitRefusal bytes (delta.DoublePath n) = IsUnread bytes (delta.DoublePath n)
IsCommitRefusal bytes (delta.Unsupported f n) = IsUnread bytes (delta.Unsupported f n) ⊎ ((f ≡ CompactAction) × IsStrayAt bytes n)
IsCommitRefusal bytes (delta.Limit w) = IsUnread bytes (delta.Limit w)

-- how a fault of the commit at a place is told
abbrev pub error_at : ℕ → DeltaError → CompactError
error_at index delta.Memory = errors.Memory
error_at index (delta.Malformed n) = errors.Malformed index n
error_at index (delta.DoublePath n) = errors.Malformed index n
error_at index (delta.Unsupported f n) = errors.Unsupported f index n
error_at index (delta.Limit w) = errors.Limit w

-- The commits before one can be joined, and that one can't, for a cause that is told so.
pub record IsFirstRefused (commits : List (List ℕ)) (e : CompactError) : Type 0 where
  pub front : List (List ℕ)
  pub bytes : List ℕ
  pub later : List (List ℕ)
  pub said : List DeltaCommit
  pub cause : DeltaError
  pub split : commits ≡ front ++ bytes ∷ later
  pub taken : AreTaken front said
  pub refused : IsCommitRefusal bytes cause
  pub told : e ≡ error_at (length front) cause

-- Memory ran out, or this is told of the first commit that can't be joined.
abbrev pub IsJoinRefusal : List (List ℕ) → CompactError → Type 0
IsJoinRefusal commits errors.Memory = Unit {0}
IsJoinRefusal commits (errors.Malformed index line) = IsFirstRefused commits (errors.Malformed index line)
IsJoinRefusal commits (errors.Unsupported feature index line) = IsFirstRefused commits (errors.Unsupported feature index line)
IsJoinRefusal commits (errors.Limit which) = IsFirstRefused commits (errors.Limit which)
