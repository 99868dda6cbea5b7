-- What publishing a list of commits to a `Target` promises.
use Rattle.std.specs.Prelude.{ℕ, List, Result, IfErr, OnOk, is_ok}
use Rattle.lake_store.specs.Runs.{IsEachMoment}
use Rattle.lake_store.specs.declared.store.Store as store
use Rattle.table_history.specs.declared.table.Commit.{Commit}
use Rattle.target_core.specs.Outcome.{Uncontested}
use Rattle.target_core.specs.Progress.{IsRefusedAt, KeepsShown}
use Rattle.target_core.specs.Publishing.{Publishes}
use Rattle.target_core.specs.TargetMeanings.{meaning}
use Rattle.target_core.specs.Views.{Origin}
use Rattle.target_core.specs.Written.{AreWritten, HaveLeft}
use Rattle.target_core.specs.declared.target.Target.{Ghosts}
use Rattle.target_core.specs.declared.target.TargetError.{TargetError}

-- What the commits leave of files that what is kept stands for and that are settled. `last` is kept then.
pub record Follows {T K S A : Type 0} (target : Ghosts T K) (t : T) (store : store.Ghosts S) (origin : Origin) (now : ℕ) (kept : K) (commits : List Commit) (last : K) (result : Result A TargetError) (old new : S) : Type 0 where
  -- At `Ok` what is kept stands for the files.
  pub stands : OnOk result (target.stands_for t last (store.disk new).files)
  -- Whatever the answer, some first part of them is published, and a crash at any moment leaves such a part.
  pub publishes : Publishes store (meaning target t) origin (target.view t kept) commits (Uncontested result) (is_ok result) old new
  -- At `Ok` just what they write has come, one commit behind the other.
  pub written : OnOk result (AreWritten (target.stands_for t) (λ here before commit after. target.writes t here before origin now commit after) kept (store.disk old).files commits last (store.disk new).files)
  -- What a crash since entry would have shown as published stays, but for a last one.
  pub shown : IfErr result (λ e. IsEachMoment store old new (KeepsShown (meaning target t) origin (target.view t kept) commits (store.disk new).files e))

-- They are refused at one of them, behind those before it, and just what these write has come.
abbrev pub IsRefusedIn : {T K S : Type 0} → Ghosts T K → T → store.Ghosts S → Origin → ℕ → K → List Commit → S → S → TargetError → Type 0
IsRefusedIn target t store origin now kept commits old new e =
    IsRefusedAt store (meaning target t) (target.passes t kept (store.disk old).files origin now) (HaveLeft (target.stands_for t) (λ here before commit after. target.writes t here before origin now commit after) kept (store.disk old).files)
    (target.stands_for t kept (store.disk old).files × target.settled t (store.disk old)) origin (target.view t kept) commits old new e
