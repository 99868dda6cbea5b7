use Rattle.std.proofs.Common.{◌≡◌, ap, map, ◌∙◌, rules, Ok}
use Rattle.std.specs.List.{zip}
use Rattle.std.specs.declared.alloc.AllocError.{AllocError}
use Rattle.std.proofs.lemmas.Iterator.{YieldsList-from_map, YieldsList-from_zip, items_from_collect}
use Rattle.std.proofs.lemmas.Iterator.Adapters.{YieldsList-from_vec}
use Rattle.std.proofs.lemmas.Iterator.Consumers.{YieldsList-at}
use Rattle.iceberg_version.specs.Advance.{owners_of}
use Rattle.iceberg_version.specs.declared.kept.KeptManifest.{KeptManifest}
use Rattle.iceberg_version.proofs.AdvanceLemmas.{infos_paired, kept_of, owners_paired}
use Rattle.iceberg_version.proofs.advancing.with_owners.Goals as goal

paired : (c : goal.After-from_vec) → c.from_vec.result ≡ map kept_of (zip c.args.infos.items c.args.owners.items)
paired c =
    let first = YieldsList-at c.zip.ensures.first (YieldsList-from_vec c.args.infos.items c.into_iter.ensures.rest cc) in
    let second = YieldsList-from_vec c.args.owners.items c.zip.ensures.second.0 cc in
    let pairs = YieldsList-at c.map.ensures.source (YieldsList-from_zip first second) in
    c.from_vec.ensures ∙ items_from_collect {E = AllocError} (Ok c.in_ok-kept.kept) c.in_ok-kept.ensures.ran (YieldsList-from_map _ kept_of pairs c.map.ensures.closure (λ x r q k. search rules))

pub returns-clause-infos : goal.returns-clause-infos
returns-clause-infos c = λ same. ap (map (λ (m : KeptManifest). m.info)) (paired c) ∙ infos_paired c.args.infos.items c.args.owners.items same

pub returns-clause-owners : goal.returns-clause-owners
returns-clause-owners c = λ same. ap owners_of (paired c) ∙ owners_paired c.args.infos.items c.args.owners.items same
