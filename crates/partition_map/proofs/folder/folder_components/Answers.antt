use Rattle.std.proofs.Common.{◌≡◌, map, vec_len, lit<}
use Rattle.std.specs.List.{slice_split}
use Rattle.std.proofs.lemmas.Result.{IfOk-at_ok}
use Rattle.std.proofs.lemmas.Iterator.Consumers.{map_from_collect}
use Rattle.std.proofs.lemmas.Iterator.Splits.{YieldsList-from_str_split}
use Rattle.table_history.specs.Path.{is_slash}
use Rattle.partition_map.proofs.FolderLemmas.{now_of, all_but_last}
use Rattle.partition_map.proofs.folder.folder_components.Goals as goal

pub returns : goal.returns
returns c =
    let parts = c.in_ok-components.components in
    let cut : map now_of parts.items ≡ slice_split is_slash c.args.path.now =
    IfOk-at_ok (λ v. map now_of v.items ≡ slice_split is_slash c.args.path.now) c.in_ok-components.was
    (map_from_collect c.collect.result c.collect.ensures.ran (YieldsList-from_str_split 47 c.args.path.now (lit< tt) c.split.ensures.text c.split.ensures.has_more c.split.ensures.pattern)) in
    all_but_last c.args.path.now parts.items c.pop-name.new.self.items (vec_len parts) cut parts.ok.0 c.pop-name.ensures.rest
