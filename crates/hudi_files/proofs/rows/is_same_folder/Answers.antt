use Rattle.std.proofs.Common.{sym, ◌∙◌}
use Rattle.std.proofs.lemmas.Slice.Eq.{bytes_eq-Decides}
use Rattle.hudi_files.proofs.FolderLemmas.{same_components}
use Rattle.hudi_files.proofs.rows.is_same_folder.Goals as goal

pub returns-in-Some-Some : goal.returns-in-Some-Some
returns-in-Some-Some c = λ same.
    same_components c.args.path.now c.args.other.now c.in-Some-Some.end c.in-Some-Some.other_end c.in-Some-Some.ensures c.in-Some-Some.ensures'
    ((bytes_eq-Decides _ _).0 (sym c.eq.ensures ∙ same))
