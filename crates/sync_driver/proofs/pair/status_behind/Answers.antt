use Rattle.std.proofs.Common.{◌≡◌, refl, sym, ◌∙◌}
use Rattle.std.proofs.lemmas.Bool.{false≢true}
use Rattle.target_sync.specs.declared.status.Status.{Status}
use Rattle.target_sync.specs.declared.status.Status.TheVariants as status
use Rattle.sync_driver.specs.Both.{IsAtOnce, first_refusal, status_behind}
use Rattle.sync_driver.proofs.pair.status_behind.Goals as goal

at_once : (so_far next : Status) → IsAtOnce next → next ≡ status_behind so_far next
at_once so_far status.Memory is = refl
at_once so_far status.StoreFault is = refl
at_once so_far status.SinkFault is = refl
at_once so_far next is = absurd is

behind_both : (so_far next : Status) → (IsAtOnce next → ⊥) → first_refusal so_far next ≡ status_behind so_far next
behind_both so_far status.Memory later = absurd (later tt)
behind_both so_far status.StoreFault later = absurd (later tt)
behind_both so_far status.SinkFault later = absurd (later tt)
behind_both so_far next later = refl

pub returns-then-ends : goal.returns-then-ends
returns-then-ends c = at_once c.args.so_far c.args.next (c.ends.ensures.0 c.if-ends.true)

pub returns : goal.returns
returns c = c.first_refusal.ensures ∙ behind_both c.args.so_far c.args.next (λ is. false≢true (sym c.if-ends.false ∙ c.ends.ensures.1 is))
