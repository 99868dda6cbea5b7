use Rattle.std.proofs.Common.{sym, ◌∙◌, ap, ◌+◌, refl, take, drop, length-drop}
use Rattle.std.proofs.Math.Seq.{take-length}
use Rattle.delta_feeding.proofs.CutLemmas.{no_newline, cut_at}
use Rattle.delta_feeding.proofs.so_far.cut_line.Goals as goal

pub returns-in-None : goal.returns-in-None
returns-in-None c = no_newline c.args.bytes.now (sym c.in-None.ensures)

pub returns-in-Some : goal.returns-in-Some
returns-in-Some c =
    let behind = drop (c.in-Some.at + 1) c.args.bytes.now in
    let whole = ap (λ n. take n behind) (sym (length-drop (c.in-Some.at + 1) c.args.bytes.now)) ∙ take-length behind in
    cut_at c.args.bytes.now _ _ c.in-Some.at (sym c.in-Some.ensures) refl whole
