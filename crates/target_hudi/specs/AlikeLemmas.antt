-- What stands for the same files, with the same partition columns, refuses alike.
use Rattle.std.proofs.Common.{◌≡◌, ⊎_elim, ℕ, ◌<◌, List, [], ◌∷◌, ◌++◌, length, Option, None, Some, refl, sym, ap, subst, ◌∙◌, arith}
use Rattle.std.specs.Prelude.{option_map}
use Rattle.std.proofs.lemmas.List.{length-append}
use Rattle.lake_store.specs.Disk.{Files}
use Rattle.table_history.specs.declared.limit.LimitKind.{LimitKind}
use Rattle.table_history.specs.declared.table.Commit.{Commit}
use Rattle.hudi_table.specs.declared.instants.CompletedInstant.{CompletedInstant}
use Rattle.target_core.specs.Conditions.{Fits}
use Rattle.target_core.specs.Views.{Origin, SameView, View}
use Rattle.target_core.specs.declared.target.TargetError.{TargetError}
use Rattle.target_core.proofs.Unpublished.{schema_of_absent}
use Rattle.target_hudi.specs.Fitting.{Held, Unfit}
use Rattle.target_hudi.specs.Kept.{IsNewest, StandsFor, end_of, held_of, view_of}
use Rattle.target_hudi.specs.Reading.{Reads}
use Rattle.target_hudi.specs.Writing.{Passes, TimelineEnd}
use Rattle.target_hudi.specs.declared.kept.HudiKept.{HudiKept}
use Rattle.target_hudi.specs.FitLemmas as fit
use Rattle.target_hudi.specs.OnceLemmas.{one_place}
use Rattle.target_hudi.specs.ViewLemmas.{one_view}
use Rattle.lake_basics.proofs.Lists.{none_longer}

-- ---- the newest instant

one_last : {X : Type 0} (front : List X) (x : X) (front' : List X) (x' : X) → front ++ x ∷ [] ≡ front' ++ x' ∷ [] → x ≡ x'
one_last {X = X} front x front' x' same =
    let long = length-append front (x ∷ []) in
    let long' = length-append front' (x' ∷ []) in
    let all = ap (λ (l : List X). length l) same in
    let len : length front ≡ length front' = omega (arith, long, long', all) in
    (one_place front x [] front' x' [] len same).1

one_newest : (files : Files) (a b : Option (List ℕ)) → IsNewest files a → IsNewest files b → a ≡ b
one_newest files None None h k = refl
one_newest files None (Some time) h k = absurd (none_longer k.0 k.1 [] (sym h ∙ k.2))
one_newest files (Some time) None h k = absurd (none_longer h.0 h.1 [] (sym k ∙ h.2))
one_newest files (Some time) (Some other) h k = ap Some (sym h.3 ∙ ap (λ (c : CompletedInstant). c.time) (one_last h.0 h.1 k.0 k.1 (sym h.2 ∙ k.2)) ∙ k.3)

-- ---- the schema

-- of the views that the same files stand for, the schemas are one
pub one_schema : (files : Files) (v w : View) → Reads files v → Reads files w → v.table.schema ≡ w.table.schema
one_schema files v w h k =
    ⊎_elim (λ (same : SameView v w). same.schema) (λ none. schema_of_absent v none.0 ∙ sym (schema_of_absent w none.1)) (one_view files v w h k)

-- ---- what is kept

module _ (kept other : HudiKept) (files : Files) (h : StandsFor kept files) (k : StandsFor other files) (partition : kept.table.partition ≡ other.table.partition) where
  newest : kept.newest ≡ other.newest
  newest = one_newest files kept.newest other.newest h.counted.newest k.counted.newest

  schema : kept.table.schema ≡ other.table.schema
  schema = one_schema files (view_of kept) (view_of other) h.reads k.reads

  one_held : held_of kept ≡ held_of other
  one_held = λ i. option_map (λ (time : List ℕ). record { partition = partition i; columns = schema i }) (newest i)

  one_end : (name : List ℕ) → end_of name kept ≡ end_of name other
  one_end name = λ i. record { name = name; newest = newest i; schema = schema i; partition = partition i }

  pub unfit_alike : (names : List (List ℕ)) (commits : List Commit) (e : TargetError) → Unfit (held_of kept) names commits e → Unfit (held_of other) names commits e
  unfit_alike names commits e unfit = subst (λ (held : Option Held). Unfit held names commits e) one_held unfit

  pub passes_alike : (name : List ℕ) (origin : Origin) (now : ℕ) (commits : List Commit) (which : LimitKind) (number : ℕ) → Passes files (end_of name kept) origin now commits which number → Passes files (end_of name other) origin now commits which number
  passes_alike name origin now commits which number passes = subst (λ (end : TimelineEnd). Passes files end origin now commits which number) (one_end name) passes

-- ---- the partition columns

-- A target of a commit has a newest instant.
held_there : (kept : HudiKept) (o : Option (List ℕ)) → kept.newest ≡ o → 0 < kept.commits → (target : Held) × (held_of kept ≡ Some target) × (target.partition ≡ kept.table.partition)
held_there kept None is some = let none = (kept.begun is).0 in absurd (omega (arith, some, none))
held_there kept (Some time) is some =
    (record { partition = kept.table.partition; columns = kept.table.schema }, ap (option_map (λ newest. record { partition = kept.table.partition; columns = kept.table.schema })) is, refl)

pub fits_partition : (kept : HudiKept) (partition : List (List ℕ)) (commits : List Commit) → (commits ≡ [] → ⊥) → Fits (Unfit (held_of kept)) partition commits → 0 < kept.commits → kept.table.partition ≡ partition
fits_partition kept partition commits some fits published =
    let held = held_there kept kept.newest refl published in
    sym held.2 ∙ fit.fits_partition (held_of kept) held.0 partition commits held.1 some fits
