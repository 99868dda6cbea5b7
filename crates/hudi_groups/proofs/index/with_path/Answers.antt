use Rattle.std.proofs.Common.{◌≡◌, ◌||◌, Some, None, sym, ◌∙◌, rules}
use Rattle.std.specs.HashMap.{Updates}
use Rattle.std.specs.Str.{bytes_eq}
use Rattle.hudi_groups.specs.declared.index.Paths.TheVariants.{One}
use Rattle.hudi_groups.specs.declared.form.Form.TheVariants.{Base}
use Rattle.hudi_groups.specs.Files.{group_name}
use Rattle.hudi_groups.specs.GroupIndex.{is_among}
use Rattle.hudi_groups.proofs.GroupIndexLemmas.{at, group_put, has_path-with}
use Rattle.hudi_groups.proofs.index.with_path.Goals as goal
use Rattle.hudi_groups.proofs.index.with_path.Goals.{in-Vacant, in-Occupied+in_ok-paths-in-Occupied}

pub returns : goal.returns
returns c = λ q p.
    let path = c.args.path.now in
    let old = c.args.index in
    let new = c.match-branch-4.all in
    let g = c.in_ok-group.group in
    let named : g ≡ group_name Base path = c.in_ok-group.ensures ∙ c.path_to_file_id.ensures in
    elim c.match-branch-4.branch [
      | in-Vacant w ↦
          let paths = One c.in_ok-key.key in
          let gone : at old g ≡ None = rw w.in-Vacant.is at c.in_ok-place.ensures.found in
          let updates : Updates bytes_eq old new g (Some paths) = search rules in
          has_path-with g path old new (Some paths) named (group_put g old new paths updates.1 updates.3)
          (λ r i. bytes_eq r (c.in_ok-key.ensures i) || is_among r (sym gone i)) q p
      | in-Occupied+in_ok-paths-in-Occupied w ↦
          let paths = w.in_ok-paths-in-Occupied.paths in
          let held : at old g ≡ Some w.insert-held.result = search rules in
          let updates : Updates bytes_eq old new g (Some paths) = search rules in
          has_path-with g path old new (Some paths) named (group_put g old new paths updates.1 updates.3)
          (λ r. w.in_ok-paths-in-Occupied.ensures r ∙ (λ i. bytes_eq r (c.in_ok-key.ensures i) || is_among r (sym held i))) q p
    ]
