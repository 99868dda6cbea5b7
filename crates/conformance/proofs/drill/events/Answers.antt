use Rattle.std.proofs.Common.{◌≡◌, ◌++◌, ◌+◌, ℕ, List, sym, ap, subst, ◌∙◌, arith}
use Rattle.std.specs.Prelude.{flat_map}
use Rattle.conformance.specs.Drill.{numbers_under}
use Rattle.conformance.specs.Events.{commit_events}
use Rattle.conformance.specs.Histories.{AreLegal}
use Rattle.conformance.specs.declared.event.Event.{Event}
use Rattle.conformance.proofs.Legal.{legal}
use Rattle.conformance.proofs.Numbers.{flat_more}
use Rattle.conformance.proofs.Syncs.{says_more, spells_more, sync_few}
use Rattle.conformance.proofs.drill.events.Goals as goal

pub loop-commit-preserved : goal.loop-commit-preserved
loop-commit-preserved c =
    let so_far = c.loop-commit.invariant in
    let number = c.args.number in
    let commit = c.loop-commit.commit in
    record {
      events = c.in_ok-push_commit.ensures.events ∙ ap (λ (l : List Event). l ++ commit_events number c.args.stops commit) so_far.events ∙ flat_more (commit_events number c.args.stops) commit;
      sync = c.next_sync-sync.ensures;
      few = let most = sync_few number (commit + 1) in let next = c.next_sync-sync.ensures in let less = c.loop-commit-test.true in omega (arith, most, next, less);
      bound = let less = c.loop-commit-test.true in omega (arith, less);
      says = says_more number commit so_far.says c.in_ok-push_commit.ensures.says;
      spells = spells_more commit so_far.spells c.in_ok-push_commit.ensures.spells;
    }

pub returns-clause-events : goal.returns-clause-events
returns-clause-events c =
    let so_far = c.loop-commit.invariant in
    let bound = so_far.bound in
    let past = c.loop-commit-test.false in
    let end : c.loop-commit.commit ≡ 200 = omega (arith, bound, past) in
    c.from_vec.ensures ∙ so_far.events ∙ ap (λ (n : ℕ). flat_map (commit_events c.args.number c.args.stops) (numbers_under n)) end

pub returns-clause-legal : goal.returns-clause-legal
returns-clause-legal c =
    let so_far = c.loop-commit.invariant in
    let bound = so_far.bound in
    let past = c.loop-commit-test.false in
    let end : c.loop-commit.commit ≡ 200 = omega (arith, bound, past) in
    subst AreLegal (sym (c.from_vec.ensures ∙ so_far.events ∙ ap (λ (n : ℕ). flat_map (commit_events c.args.number c.args.stops) (numbers_under n)) end))
    (legal c.args.number c.args.stops (so_far.spells (omega (arith, end))) (λ i lt. so_far.says i (omega (arith, lt, end))))

pub returns-clause-said : goal.returns-clause-said
returns-clause-said c =
    let so_far = c.loop-commit.invariant in
    let bound = so_far.bound in
    let past = c.loop-commit-test.false in
    let end : c.loop-commit.commit ≡ 200 = omega (arith, bound, past) in
    record { spells = so_far.spells (omega (arith, end)); says = λ i lt. so_far.says i (omega (arith, lt, end)) }
