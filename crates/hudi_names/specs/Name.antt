-- The names of a timeline's files: a time of 14 or 17 digits, `.`, and the rest, which tells the action and its state.
use Rattle.std.specs.Prelude.{◌≡◌, ◌≢◌, ◌⊎◌, ◌∷◌, ◌++◌, true, ℕ, ◌+◌, ◌-◌, ◌==◌, ◌&&◌, ◌||◌, nat_eq, List, length, take, drop, slice_index, codes, Bool, Option, Some, None, option_map, if◌then◌else◌}
use Rattle.std.specs.Char.{is_ascii_digit}
use Rattle.std.specs.List.{list_all, ends_with}
use Rattle.std.specs.Str.{bytes_eq}
use Rattle.hudi_names.specs.declared.name.Action.{Action}
use Rattle.hudi_names.specs.declared.name.Action.TheVariants.{Commit, ReplaceCommit, Ignored, MergeOnRead, Restore, Unknown}
use Rattle.hudi_names.specs.declared.name.State.{State}
use Rattle.hudi_names.specs.declared.name.State.TheVariants.{Requested, Inflight, Completed}

-- the name begins with n digits and `.`
abbrev pub has_time : ℕ → List ℕ → Bool
has_time n name = (slice_index name n == 46) && list_all is_ascii_digit (take n name)

abbrev pub time_len : List ℕ → Option ℕ
time_len name = if has_time 14 name then Some 14 else (if has_time 17 name then Some 17 else None)

abbrev pub is_ignored : List ℕ → Bool
is_ignored word = bytes_eq word (codes "clean") || bytes_eq word (codes "savepoint") || bytes_eq word (codes "rollback") || bytes_eq word (codes "indexing")

abbrev pub is_merge_on_read : List ℕ → Bool
is_merge_on_read word = bytes_eq word (codes "deltacommit") || bytes_eq word (codes "compaction") || bytes_eq word (codes "logcompaction")

abbrev pub action_of : List ℕ → Action
action_of word =
    if bytes_eq word (codes "commit") then Commit
    else (if bytes_eq word (codes "replacecommit") then ReplaceCommit
    else (if is_ignored word then Ignored
    else (if is_merge_on_read word then MergeOnRead
    else (if bytes_eq word (codes "restore") then Restore else Unknown))))

-- A commit's file has no action's word while it is inflight.
abbrev pub inflight_action_of : List ℕ → Action
inflight_action_of word = if bytes_eq word (codes "commit") then Unknown else action_of word

-- what stands before the suffix, where the text ends with it
abbrev pub front_before : List ℕ → List ℕ → Option (List ℕ)
front_before suffix rest = if ends_with nat_eq rest suffix then Some (take (length rest - length suffix) rest) else None

abbrev pub with_suffixes : Option (List ℕ) → Option (List ℕ) → List ℕ → Action × State
with_suffixes (Some word) inflight rest = (action_of word, Requested)
with_suffixes None (Some word) rest = (inflight_action_of word, Inflight)
with_suffixes None None rest = (action_of rest, Completed)

-- `inflight` alone is a commit's; otherwise the action's word, with `.requested`, `.inflight` or nothing behind
abbrev pub rest_says : List ℕ → Action × State
rest_says rest =
    if bytes_eq rest (codes "inflight") then (Commit, Inflight)
    else with_suffixes (front_before (codes ".requested") rest) (front_before (codes ".inflight") rest) rest

abbrev pub instant_of : List ℕ → Option (ℕ × Action × State)
instant_of name = option_map (λ n. let r = rest_says (drop (n + 1) name) in (n, r.0, r.1)) (time_len name)

-- ---- the same as a relation

-- the words of an action that has a name
abbrev pub IsWordOf : Action → List ℕ → Type 0
IsWordOf Commit word = word ≡ codes "commit"
IsWordOf ReplaceCommit word = word ≡ codes "replacecommit"
IsWordOf Ignored word = (word ≡ codes "clean") ⊎ (word ≡ codes "savepoint") ⊎ (word ≡ codes "rollback") ⊎ (word ≡ codes "indexing")
IsWordOf MergeOnRead word = (word ≡ codes "deltacommit") ⊎ (word ≡ codes "compaction") ⊎ (word ≡ codes "logcompaction")
IsWordOf Restore word = word ≡ codes "restore"
IsWordOf Unknown word = ⊥

-- What stands behind the dot of an instant of this state, whose action has this word: a commit's file has no word while it is inflight.
abbrev pub IsRestOf : List ℕ → State → List ℕ → Type 0
IsRestOf word Requested rest = rest ≡ word ++ codes ".requested"
IsRestOf word Inflight rest = ((word ≡ codes "commit") × (rest ≡ codes "inflight")) ⊎ ((word ≢ codes "commit") × (rest ≡ word ++ codes ".inflight"))
IsRestOf word Completed rest = rest ≡ word

-- a time of 14 or 17 digits, a dot, and the rest
pub record IsSplit (name time rest : List ℕ) : Type 0 where
  pub split : name ≡ time ++ 46 ∷ rest
  pub form : (length time ≡ 14) ⊎ (length time ≡ 17)
  pub numeral : list_all is_ascii_digit time ≡ true

-- The name of the file of an instant of an action that has a name (Hudi technical specification, timeline).
pub record IsInstantName (name : List ℕ) (digits : ℕ) (action : Action) (state : State) : Type 0 where
  pub time : List ℕ
  pub word : List ℕ
  pub rest : List ℕ
  pub parts : IsSplit name time rest
  pub len : length time ≡ digits
  pub named : IsWordOf action word
  pub says : IsRestOf word state rest
