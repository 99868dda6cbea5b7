use Rattle.std.proofs.Common.{◌≡◌, ◌&&◌, not, ap, ◌∙◌}
use Rattle.std.proofs.lemmas.Result.{IfOk-weaker}
use Rattle.std.specs.Str.{bytes_eq}
use Rattle.hudi_groups.specs.declared.form.Form.TheVariants.{Base}
use Rattle.hudi_groups.specs.Files.{group_name}
use Rattle.hudi_groups.specs.GroupIndex.{is_among}
use Rattle.hudi_groups.proofs.GroupIndexLemmas.{has_path-without, put_back}
use Rattle.hudi_groups.proofs.index.without_path.Goals as goal

pub put_group-requires : goal.put_group-requires
put_group-requires c = c.remove.ensures.updates.1

pub returns : goal.returns
returns c =
    let path = c.args.path.now in
    let g = c.in_ok-group.group in
    let named : g ≡ group_name Base path = c.in_ok-group.ensures ∙ c.path_to_file_id.ensures in
    let old = c.args.index in
    let mid = c.remove.new.self in
    let paths = c.in_ok-paths.paths in
    IfOk-weaker c.put_group.result _ _
    (λ all puts. has_path-without g path old all paths named (put_back g old mid all paths c.remove.ensures.updates.1 c.remove.ensures.updates.3 puts)
    (λ r. c.in_ok-paths.ensures r ∙ ap (λ o. not (bytes_eq r path) && is_among r o) c.remove.ensures.value))
    c.put_group.ensures
