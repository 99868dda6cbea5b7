use Rattle.std.proofs.Common.{◌≡◌, ◌∙◌, ℕ, List, Result, Some, sym, ap, subst}
use Rattle.std.specs.Prelude.{codes, ◌++◌}
use Rattle.sync_driver.specs.Lines.{pending_line}
use Rattle.sync_driver.specs.Tellings.{Puts, cut_of_put}
use Rattle.target_sync.specs.declared.status.Status.{Status}
use Rattle.sync_driver.proofs.Saying.{line_is_there, put_told, puts_told}
use Rattle.sync_driver.proofs.tell.put_pending.Goals as goal

pub returns : goal.returns
returns g c =
    let sink = g.O.Sink in
    let old = c.args.out.now in
    let new = c.put-put.new.self in
    let text = c.deref.result.now in
    let of_instant : text ≡ pending_line (Some c.in-Some.instant) = c.deref.ensures.value ∙ c.in-Ok.ensures in
    let is : text ≡ pending_line c.args.head.now.pending = of_instant ∙ ap pending_line (sym c.in-Some.is) in
    subst (λ (r : Result (Unit {0}) Status). Puts sink old new (pending_line c.args.head.now.pending) r) (sym c.cut_of_put.ensures)
    (subst (λ (l : List ℕ). Puts sink old new l (cut_of_put c.put-put.result)) is
    (puts_told sink old new text c.put-put.result
    (put_told sink old new text c.put-put.result (λ none. line_is_there (codes "source pending " ++ c.in-Some.instant) (sym of_instant ∙ none)) c.put-put.ensures.ok c.put-put.ensures.err c.put-put.ensures.cause)))
