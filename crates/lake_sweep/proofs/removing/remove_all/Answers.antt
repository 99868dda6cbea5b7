use Rattle.std.proofs.Common.{◌≡◌, ◌+◌, ◌++◌, [], ◌∷◌, ℕ, List, length, take, sym, ap, subst, ◌∙◌, arith}
use Rattle.std.proofs.lemmas.List.{take_all}
use Rattle.lake_store.proofs.DiskLaws.{remove_leaves, sync_leaves}
use Rattle.lake_store.proofs.RunLaws.{reading_begins}
use Rattle.lake_sweep.specs.Removing.{AreGone}
use Rattle.lake_sweep.proofs.RemovingLaws.{gone_none, no_paths, not_synced, reading_removes, refused_to, removed_to, some_paths, synced_to, to_removes}
use Rattle.lake_sweep.proofs.removing.remove_all.Goals as goal
use Rattle.lake_basics.proofs.Lists.{last_of}

pub returns-then-is_empty-clause-none : goal.returns-then-is_empty-clause-none
returns-then-is_empty-clause-none g c told none = reading_begins g.S.Store g.met.S.Store.only_now c.args.store.now told

pub returns-then-is_empty-clause-gone : goal.returns-then-is_empty-clause-gone
returns-then-is_empty-clause-gone g c told =
    let files = (g.S.Store.disk c.args.store.now).files in
    subst (λ (l : List (List ℕ)). AreGone l files files) (sym (no_paths c.args.paths.now c.is_empty.result c.is_empty.ensures c.if-is_empty.true)) (gone_none files)

pub returns-then-is_empty-clause-removes : goal.returns-then-is_empty-clause-removes
returns-then-is_empty-clause-removes g c told = reading_removes g.S.Store c.args.paths.now c.args.store.now c.args.store.now (reading_begins g.S.Store g.met.S.Store.only_now c.args.store.now told)

pub returns-in_err-sync-clause-none : goal.returns-in_err-sync-clause-none
returns-in_err-sync-clause-none g c told none = absurd (some_paths c.args.paths.now c.is_empty.result c.is_empty.ensures c.if-is_empty.false none)

pub returns-in_err-sync-clause-removes : goal.returns-in_err-sync-clause-removes
returns-in_err-sync-clause-removes g c told =
    let store = g.S.Store in
    let s = c.args.store.now in
    let new = c.sync.new.self in
    not_synced store g.met.S.Store.only_now c.args.paths.now s new told
    (sync_leaves c.sync.result (store.disk s) (store.disk new) (c.sync.ensures.ok told) (c.sync.ensures.err told)) (c.sync.ensures.elapses told)

pub loop-path-init : goal.loop-path-init
loop-path-init g c =
    let store = g.S.Store in
    let s = c.args.store.now in
    let new = c.sync.new.self in
    record {
      gone = λ told. synced_to store g.met.S.Store.only_now c.args.paths.now s new told
          (sync_leaves c.sync.result (store.disk s) (store.disk new) (c.sync.ensures.ok told) (c.sync.ensures.err told)) (c.sync.ensures.elapses told) (c.in_ok-sync.ensures.ok told);
      cause = record { later = c.sync.ensures.cause.later; still = c.sync.ensures.cause.still; rose = λ never. absurd never; allowed = λ never. absurd never };
      contest = record { same = c.sync.ensures.contest.same; still = c.sync.ensures.contest.still; never = λ never. never };
    }

pub loop-path-preserved : goal.loop-path-preserved
loop-path-preserved g c =
    let store = g.S.Store in
    let s = c.args.store.now in
    let mid = c.loop-path.store in
    let new = c.remove.new.self in
    let p = c.as_str.result.now in
    let i = c.loop-path.path-index in
    let so_far = c.loop-path.invariant in
    let same = c.as_str.ensures.value in
    let next : take (i + 1) c.args.paths.now ≡ take i c.args.paths.now ++ p ∷ [] = last_of c.args.paths.now i c.path-item.result c.loop-path-test.true c.path-item.is ∙ ap (λ (q : List ℕ). take i c.args.paths.now ++ q ∷ []) (sym same) in
    record {
      gone = λ told. removed_to store g.met.S.Store.only_now c.args.paths.now s i mid new told (so_far.gone told) (c.remove.ensures.elapses told) p c.loop-path-test.true next (c.in_ok-remove.ensures.ok told);
      cause = record {
        later = omega (arith, so_far.cause.later, c.remove.ensures.cause.later);
        still = λ m. so_far.cause.still (c.remove.ensures.cause.still m);
        rose = λ never. absurd never;
        allowed = λ never. absurd never;
      };
      contest = record { same = c.remove.ensures.contest.same ∙ so_far.contest.same; still = λ m. so_far.contest.still (c.remove.ensures.contest.still m); never = λ never. never };
    }

pub returns-in_err-remove-clause-none : goal.returns-in_err-remove-clause-none
returns-in_err-remove-clause-none g c told none = absurd (some_paths c.args.paths.now c.is_empty.result c.is_empty.ensures c.if-is_empty.false none)

pub returns-in_err-remove-clause-removes : goal.returns-in_err-remove-clause-removes
returns-in_err-remove-clause-removes g c told =
    let store = g.S.Store in
    let s = c.args.store.now in
    let mid = c.loop-path.store in
    let new = c.remove.new.self in
    let p = c.as_str.result.now in
    let i = c.loop-path.path-index in
    let next : take (i + 1) c.args.paths.now ≡ take i c.args.paths.now ++ p ∷ [] = last_of c.args.paths.now i c.path-item.result c.loop-path-test.true c.path-item.is ∙ ap (λ (q : List ℕ). take i c.args.paths.now ++ q ∷ []) (sym c.as_str.ensures.value) in
    refused_to store g.met.S.Store.only_now c.args.paths.now s i mid new told (c.loop-path.invariant.gone told) (c.remove.ensures.elapses told) p c.loop-path-test.true next
    (remove_leaves c.remove.result (store.disk mid) (store.disk new) p (c.remove.ensures.ok told) (c.remove.ensures.err told))

pub returns-clause-none : goal.returns-clause-none
returns-clause-none g c told none = absurd (some_paths c.args.paths.now c.is_empty.result c.is_empty.ensures c.if-is_empty.false none)

pub returns-clause-gone : goal.returns-clause-gone
returns-clause-gone g c told =
    let end : length c.args.paths.now ≡ c.loop-path.path-index = omega arith in
    subst (λ (l : List (List ℕ)). AreGone l (g.S.Store.disk c.args.store.now).files (g.S.Store.disk c.loop-path.store).files) (take_all c.loop-path.path-index c.args.paths.now (omega (arith, end))) (c.loop-path.invariant.gone told).gone

pub returns-clause-removes : goal.returns-clause-removes
returns-clause-removes g c told = to_removes g.S.Store g.met.S.Store.only_now c.args.paths.now c.args.store.now c.loop-path.path-index c.loop-path.store (c.loop-path.invariant.gone told)
