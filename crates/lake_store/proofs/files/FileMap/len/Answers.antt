use Rattle.std.proofs.Common.{◌∙◌, ap, sym}
use Rattle.std.specs.FinMap as map
use Rattle.lake_store.specs.Disk.{Files}
use Rattle.lake_store.proofs.KeyLaws.{len-files_of}
use Rattle.lake_store.proofs.files.FileMap.len.Goals as goal

pub returns : goal.returns
returns c = c.len.ensures.len ∙ sym (len-files_of c.self.inside.files c.len.ensures.ordered) ∙ ap (λ (m : Files). map.len m) c.self.view_is
