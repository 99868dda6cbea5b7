use Rattle.lake_store.specs.Runs.{LeavesAlone}
use Rattle.lake_store.specs.declared.store.Store.{Ghosts}
use Rattle.hudi_commit.proofs.OpenLaws.{open_same}
use Rattle.std.proofs.Common.{◌∙◌, ap, subst, arith, length, List, ℕ, ◌≡◌, ◌<◌, take, true}
use Rattle.std.specs.List.{list_any}
use Rattle.lake_store.proofs.DiskLaws.{is_path}
use Rattle.lake_store.proofs.RunLaws.{alone_further, alone_of_fewer}
use Rattle.hudi_commit.specs.Runs.{IsNotOpen, IsTidied, IsRecoveredAt}
use Rattle.hudi_commit.proofs.AloneLaws.{alone_begun, alone_read}
use Rattle.hudi_commit.proofs.KeepLaws.{begun, keeps_then, read_keeps}
use Rattle.hudi_commit.proofs.RecoveryLaws.{all_recovered, recovered_more, tidied_completed, tidied_same, tidied_then}
use Rattle.lake_basics.specs.declared.limits.TheConstants.{MAX_FILE_BYTES}
use Rattle.lake_store.specs.Disk.{Disk}
use Rattle.lake_store.proofs.ShortLaws.{short_same, short_then}
use Rattle.hudi_commit.proofs.recovery.clear_claims.Goals as goal

-- what one claim leaves alone, where the same instants are completed
more_alone : {S : Type 0} (store : Ghosts S) (first mid new : S) → IsTidied (store.disk first) (store.disk mid) → LeavesAlone store (IsNotOpen (store.disk mid).files) mid new → LeavesAlone store (IsNotOpen (store.disk first).files) mid new
more_alone store first mid new tidied alone = alone_of_fewer store (IsNotOpen (store.disk mid).files) (IsNotOpen (store.disk first).files) mid new
    (λ q. open_same (store.disk first).files q (store.disk mid).files (tidied_completed (store.disk first) (store.disk mid) tidied)) alone

pub returns-in_err-names-clause-keeps : goal.returns-in_err-names-clause-keeps
returns-in_err-names-clause-keeps g c told base stands =
    read_keeps g.S.Store told base c.args.store.now c.args.store.now c.list.new.self (begun g.S.Store told base g.met.S.Store.only_now c.args.store.now stands)
    (c.list.ensures.same told) (c.list.ensures.elapses told)

pub returns-in_err-names-clause-alone : goal.returns-in_err-names-clause-alone
returns-in_err-names-clause-alone g c told =
    let store = g.S.Store in
    alone_read store told g.met.S.Store.only_now (IsNotOpen (g.S.Store.disk c.args.store.now).files) c.args.store.now c.args.store.now c.list.new.self (alone_begun store told g.met.S.Store.only_now (IsNotOpen (g.S.Store.disk c.args.store.now).files) c.args.store.now) c.list.ensures.elapses c.list.ensures.same

pub loop-name-init : goal.loop-name-init
loop-name-init g c = record {
  keeps = λ told base stands. read_keeps g.S.Store told base c.args.store.now c.args.store.now c.list.new.self (begun g.S.Store told base g.met.S.Store.only_now c.args.store.now stands)
      (c.list.ensures.same told) (c.list.ensures.elapses told);
  tidied = λ told. tidied_same (g.S.Store.disk c.args.store.now) (g.S.Store.disk c.list.new.self) (c.list.ensures.same told);
  recovered = λ told name none. absurd (cc none);
  alone = λ told. alone_read g.S.Store told g.met.S.Store.only_now (IsNotOpen (g.S.Store.disk c.args.store.now).files) c.args.store.now c.args.store.now c.list.new.self (alone_begun g.S.Store told g.met.S.Store.only_now (IsNotOpen (g.S.Store.disk c.args.store.now).files) c.args.store.now) c.list.ensures.elapses c.list.ensures.same;
  short = λ told. short_same MAX_FILE_BYTES (g.S.Store.disk c.args.store.now).files (g.S.Store.disk c.list.new.self).files (ap (λ (d : Disk). d.files) (c.list.ensures.same told));
  faults = c.list.ensures.cause.later;
  may_fail = c.list.ensures.cause.still;
  contests = c.list.ensures.contest.same;
  may_contest = c.list.ensures.contest.still;
}

pub loop-name-preserved : goal.loop-name-preserved
loop-name-preserved g c =
    let so_far = c.loop-name.invariant in
    let lt : c.loop-name.name-index < length c.as_slice-claims.result.now = omega arith in
    record {
      keeps = λ told base stands.
          let before = so_far.keeps told base stands in
          keeps_then g.S.Store told base c.args.store.now c.loop-name.store c.recover_claim.new.store before (c.recover_claim.ensures.keeps told base before.disk);
      tidied = λ told. tidied_then (g.S.Store.disk c.args.store.now) (g.S.Store.disk c.loop-name.store) (g.S.Store.disk c.recover_claim.new.store) (so_far.tidied told) (c.in_ok-recover_claim.ensures.tidied told);
      recovered = λ told. recovered_more c.as_slice-claims.result.now c.loop-name.name-index c.name-item.result (g.S.Store.disk c.loop-name.store) (g.S.Store.disk c.recover_claim.new.store) lt
          (c.in_ok-recover_claim.ensures.tidied told) (so_far.recovered told)
          (subst (IsRecoveredAt (g.S.Store.disk c.recover_claim.new.store)) (c.as_str.ensures.value ∙ c.name-item.is) (c.in_ok-recover_claim.ensures.recovered told));
      alone = λ told. alone_further g.S.Store (IsNotOpen (g.S.Store.disk c.args.store.now).files) c.args.store.now c.loop-name.store c.recover_claim.new.store so_far.alone (λ told. more_alone g.S.Store c.args.store.now c.loop-name.store c.recover_claim.new.store (so_far.tidied told) (c.recover_claim.ensures.alone told)) told;
      short = λ told. short_then MAX_FILE_BYTES (g.S.Store.disk c.args.store.now).files (g.S.Store.disk c.loop-name.store).files (g.S.Store.disk c.recover_claim.new.store).files (so_far.short told) (c.recover_claim.ensures.short told);
      faults = omega (arith, so_far.faults, c.recover_claim.ensures.cause.later);
      may_fail = λ may. so_far.may_fail (c.recover_claim.ensures.cause.still may);
      contests = c.recover_claim.ensures.contest.same ∙ so_far.contests;
      may_contest = λ may. so_far.may_contest (c.recover_claim.ensures.contest.still may);
    }

pub returns-clause-recovered : goal.returns-clause-recovered
returns-clause-recovered g c told = all_recovered (g.S.Store.disk c.args.store.now) (g.S.Store.disk c.loop-name.store) c.as_slice-claims.result.now (c.as_slice-claims.ensures.value ∙ c.in_ok-names.ensures.names told) (c.loop-name.invariant.tidied told)
    (subst (λ i. (name : List ℕ) → list_any (is_path name) (take i c.as_slice-claims.result.now) ≡ true → IsRecoveredAt (g.S.Store.disk c.loop-name.store) name) (omega arith) (c.loop-name.invariant.recovered told))

pub returns-in_err-recover_claim-clause-keeps : goal.returns-in_err-recover_claim-clause-keeps
returns-in_err-recover_claim-clause-keeps g c told base stands =
    let before = c.loop-name.invariant.keeps told base stands in
    keeps_then g.S.Store told base c.args.store.now c.loop-name.store c.recover_claim.new.store before (c.recover_claim.ensures.keeps told base before.disk)

pub returns-in_err-recover_claim-clause-alone : goal.returns-in_err-recover_claim-clause-alone
returns-in_err-recover_claim-clause-alone g c told =
    alone_further g.S.Store (IsNotOpen (g.S.Store.disk c.args.store.now).files) c.args.store.now c.loop-name.store c.recover_claim.new.store c.loop-name.invariant.alone (λ told. more_alone g.S.Store c.args.store.now c.loop-name.store c.recover_claim.new.store (c.loop-name.invariant.tidied told) (c.recover_claim.ensures.alone told)) told

pub returns-in_err-names-clause-short : goal.returns-in_err-names-clause-short
returns-in_err-names-clause-short g c told =
    let disk = g.S.Store.disk in
    let d0 = disk c.args.store.now in
    let d1 = disk c.list.new.self in
    short_same MAX_FILE_BYTES d0.files d1.files (ap (λ (d : Disk). d.files) (c.list.ensures.same told))

pub returns-in_err-recover_claim-clause-short : goal.returns-in_err-recover_claim-clause-short
returns-in_err-recover_claim-clause-short g c told =
    let disk = g.S.Store.disk in
    let d0 = disk c.args.store.now in
    let d1 = disk c.loop-name.store in
    let d2 = disk c.recover_claim.new.store in
    short_then MAX_FILE_BYTES d0.files d1.files d2.files (c.loop-name.invariant.short told) (c.recover_claim.ensures.short told)
