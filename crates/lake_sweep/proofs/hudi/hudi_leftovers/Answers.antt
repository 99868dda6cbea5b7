use Rattle.std.proofs.Common.{◌≡◌, List, ℕ, subst, ◌∙◌}
use Rattle.lake_store.specs.Disk.{Disk}
use Rattle.lake_sweep.specs.Picking.{AreParts, IsWithFile}
use Rattle.lake_sweep.proofs.ClaimLaws.{hudi_plan}
use Rattle.lake_sweep.proofs.hudi.hudi_leftovers.Goals as goal

pub returns-clause-planned : goal.returns-clause-planned
returns-clause-planned g c told =
    let store = g.S.Store in
    let files = (store.disk c.args.store.now).files in
    let listed : store.disk c.list_names.new.store ≡ store.disk c.args.store.now = (c.list_names.ensures.only_reads told).disk in
    let claimed : store.disk c.claim_paths.new.store ≡ store.disk c.args.store.now = (c.claim_paths.ensures.only_reads told).disk ∙ listed in
    let parts = subst (λ (d : Disk). AreParts d.files c.as_slice.result.now c.in_ok-paths.paths) listed (c.in_ok-paths.ensures.found told) in
    let staged = subst (λ (d : Disk). IsWithFile d.files c.in_ok-properties.properties c.in_ok-paths.paths c.in_ok-all.all) claimed (c.in_ok-all.ensures.found told) in
    hudi_plan files c.in_ok-paths.paths c.in_ok-all.all
    (subst (λ (l : List (List ℕ)). AreParts files l c.in_ok-paths.paths) (c.as_slice.ensures.value ∙ c.in_ok-names.ensures.names told) parts)
    (subst (λ (p : List ℕ). IsWithFile files p c.in_ok-paths.paths c.in_ok-all.all) c.in_ok-properties.ensures staged)
