use mir.Val.{of_z, to_z}
use Rattle.std.proofs.Common.{◌≡◌, refl, rules, w32}
use Rattle.std.proofs.lemmas.Int.{to_z-of_z}
use Rattle.lake_sweep.specs.declared.reached.Reached.{Reached}
use Rattle.lake_sweep.proofs.ReadingLaws.{read_now}
use Rattle.lake_sweep.proofs.reached.Reached.with_manifests.Goals as goal

pub returns : goal.returns
returns c files lists m at has names =
    let same : to_z w32 (of_z w32 c.args.self.spec) ≡ c.args.self.spec = to_z-of_z w32 c.args.self.spec (search rules) in
    let after : Reached = record { paths = c.in_ok-paths-2.paths; read = c.in_ok-read.read; location = c.args.self.location; spec = to_z w32 (of_z w32 c.args.self.spec) } in
    read_now files lists m c.args.list.now c.args.self at has c.args.manifests.now names after c.in_ok-paths.paths.keys c.in_ok-paths.ensures.members c.in_ok-paths-2.ensures.members
    (c.in_ok-paths-2.ensures.distinct (c.in_ok-paths.ensures.distinct has.distinct)) c.in_ok-read.ensures.members refl same
