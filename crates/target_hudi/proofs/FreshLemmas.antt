-- What is kept before the first commit stands for a target without one.
use Rattle.std.proofs.Common.{◌≡◌, ⊎_elim, inl, ℕ, List, [], Option, None, Some, refl, sym, ap, subst, ◌∙◌, length}
use Rattle.std.specs.Prelude.{option_map}
use Rattle.lake_store.specs.Disk.{Files}
use Rattle.hudi_table.specs.declared.instants.CompletedInstant.{CompletedInstant}
use Rattle.target_core.specs.Views.{IsUnpublished, Standing, View, absent, standing_of}
use Rattle.target_core.specs.declared.mark.Mark.{Mark}
use Rattle.target_hudi.specs.Kept.{IsNewest, StandsFor, view_of}
use Rattle.target_hudi.specs.Reading.{IsAbsent, IsOurs, Reads}
use Rattle.target_hudi.specs.declared.kept.HudiKept.{HudiKept}

no_ours : (files : Files) (p : List (List ℕ)) → IsOurs files (absent p) → ⊥
no_ours files p ours =
    let never : ◌≡◌ {A = Option Standing} None (Some ours.standing) = ap (λ (v : View). v.mark) ours.view_is in
    cc

no_mark : (mark : Option Mark) → option_map standing_of mark ≡ None → option_map (λ (m : Mark). m.at) mark ≡ None
no_mark None none = refl
no_mark (Some mark) none = absurd (cc)

pub fresh_stands : (kept : HudiKept) (p : List (List ℕ)) → view_of kept ≡ absent p → kept.newest ≡ None → (files : Files) → Reads files (absent []) → StandsFor kept files
fresh_stands kept p view newest files reads =
    let none : IsAbsent files = ⊎_elim (λ (is : IsAbsent files × IsUnpublished (absent [])). is.0) (λ ours. absurd (no_ours files [] ours)) reads in
    let partition : kept.table.partition ≡ p = ap (λ (v : View). v.table.partition) view in
    record {
      reads = inl (none, view ∙ ap absent (sym partition));
      counted = record {
        commits = ap (λ (v : View). v.commits) view ∙ sym (ap (λ (cs : List CompletedInstant). length cs) none.none);
        newest = subst (λ (o : Option (List ℕ)). IsNewest files o) (sym newest) none.none;
      };
      at = no_mark kept.mark (ap (λ (v : View). v.mark) view) ∙ sym newest;
    }
