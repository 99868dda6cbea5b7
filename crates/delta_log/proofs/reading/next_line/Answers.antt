use Rattle.std.proofs.Common.{sym, ◌∙◌, ap, ◌∷◌, ◌+◌, take, drop, length-drop}
use Rattle.std.proofs.Math.Seq.{take-length}
use Rattle.std.specs.List.{slice_split}
use Rattle.delta_log.specs.Judging.{is_newline}
use Rattle.delta_log.proofs.LineLemmas.{first_line, only_line}
use Rattle.delta_log.proofs.reading.next_line.Goals as goal

pub returns-in-None-clause-split : goal.returns-in-None-clause-split
returns-in-None-clause-split c = only_line c.args.bytes.now (sym c.in-None.ensures)

pub returns-in-Some-clause-split : goal.returns-in-Some-clause-split
returns-in-Some-clause-split c =
    let behind = drop (c.in-Some.at + 1) c.args.bytes.now in
    let whole = ap (λ n. take n behind) (sym (length-drop (c.in-Some.at + 1) c.args.bytes.now)) ∙ take-length behind in
    first_line c.args.bytes.now c.in-Some.at (sym c.in-Some.ensures) ∙ ap (λ rest. take c.in-Some.at c.args.bytes.now ∷ slice_split is_newline rest) (sym whole)
