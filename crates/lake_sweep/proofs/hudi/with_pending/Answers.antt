use Rattle.std.proofs.Common.{◌≡◌, inl, inr, List, ℕ, false, refl, sym, subst, ◌∙◌}
use Rattle.std.proofs.lemmas.Bool.{false≢true}
use Rattle.lake_store.specs.Disk.{Disk}
use Rattle.hudi_commit.specs.Names.{IsThere}
use Rattle.lake_sweep.specs.Picking.{IsWithFile}
use Rattle.lake_store.proofs.RunLaws.{reading_further}
use Rattle.lake_sweep.proofs.hudi.with_pending.Goals as goal

pub returns-in_err-both-clause-only_reads : goal.returns-in_err-both-clause-only_reads
returns-in_err-both-clause-only_reads g c told =
    let first = reading_further g.S.Store c.args.store.now c.is_there.new.store c.with_path.new.store (λ t. c.is_there.ensures.only_reads t) (λ t. c.with_path.ensures.only_reads t) in
    reading_further g.S.Store c.args.store.now c.with_path.new.store c.with_path-2.new.store first (λ t. c.with_path-2.ensures.only_reads t) told

pub returns-clause-only_reads : goal.returns-clause-only_reads
returns-clause-only_reads g c told =
    let first = reading_further g.S.Store c.args.store.now c.is_there.new.store c.with_path.new.store (λ t. c.is_there.ensures.only_reads t) (λ t. c.with_path.ensures.only_reads t) in
    reading_further g.S.Store c.args.store.now c.with_path.new.store c.with_path-2.new.store first (λ t. c.with_path-2.ensures.only_reads t) told

pub returns-then-done-clause-found : goal.returns-then-done-clause-found
returns-then-done-clause-found g c told =
    let files = (g.S.Store.disk c.args.store.now).files in
    let at = c.as_str.ensures.value ∙ c.in_ok-completed.ensures in
    inl (subst (λ (p : List ℕ). IsThere files p) at ((c.in_ok-done.ensures.there told).0 c.if-done.true), refl)

pub returns-clause-found : goal.returns-clause-found
returns-clause-found g c told =
    let store = g.S.Store in
    let files = (store.disk c.args.store.now).files in
    let t = c.args.instant.now in
    let at = c.as_str.ensures.value ∙ c.in_ok-completed.ensures in
    let first_disk : store.disk c.is_there.new.store ≡ store.disk c.args.store.now = (c.is_there.ensures.only_reads told).disk in
    let second_disk : store.disk c.with_path.new.store ≡ store.disk c.args.store.now = (c.with_path.ensures.only_reads told).disk ∙ first_disk in
    let one = subst (λ (p : List ℕ). IsWithFile files p c.args.paths c.in_ok-first.first) c.in_ok-inflight.ensures
    (subst (λ (d : Disk). IsWithFile d.files c.in_ok-inflight.inflight c.args.paths c.in_ok-first.first) first_disk (c.in_ok-first.ensures.found told)) in
    let other = subst (λ (p : List ℕ). IsWithFile files p c.in_ok-first.first c.in_ok-both.both) c.in_ok-requested.ensures
    (subst (λ (d : Disk). IsWithFile d.files c.in_ok-requested.requested c.in_ok-first.first c.in_ok-both.both) second_disk (c.in_ok-both.ensures.found told)) in
    inr (λ there. false≢true (sym c.if-done.false ∙ (c.in_ok-done.ensures.there told).1 (subst (λ (p : List ℕ). IsThere files p) (sym at) there)), (c.in_ok-first.first, one, other))
