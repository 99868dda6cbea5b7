use Rattle.std.proofs.Common.{[], List, ℕ, refl, sym, subst, ◌∙◌, arith}
use Rattle.lake_store.specs.Disk.{Disk}
use Rattle.lake_store.proofs.RunLaws.{reading_begins, reading_further}
use Rattle.lake_sweep.specs.Picking.{AreParts, IsWithClaim}
use Rattle.lake_sweep.proofs.ClaimLaws.{no_parts, parts_all, parts_step}
use Rattle.lake_sweep.proofs.hudi.claim_paths.Goals as goal

pub loop-claim-init : goal.loop-claim-init
loop-claim-init g c =
    record {
      parts = λ told. subst (λ (l : List (List ℕ)). AreParts (g.S.Store.disk c.args.store.now).files [] l) (sym c.new-paths.ensures) (no_parts (g.S.Store.disk c.args.store.now).files);
      only = λ told. reading_begins g.S.Store g.met.S.Store.only_now c.args.store.now told;
      cause = record { later = omega arith; still = λ m. m; rose = λ never. absurd never; allowed = λ never. absurd never };
      contest = record { same = refl; still = λ m. m; never = λ never. never };
    }

pub loop-claim-preserved : goal.loop-claim-preserved
loop-claim-preserved g c =
    let store = g.S.Store in
    let s = c.args.store.now in
    let mid = c.loop-claim.store in
    let new = c.with_claim.new.store in
    let so_far = c.loop-claim.invariant in
    record {
      parts = λ told.
          let found = subst (λ (d : Disk). IsWithClaim d.files c.as_str.result.now c.loop-claim.paths c.in_ok-paths.paths) (so_far.only told).disk (c.in_ok-paths.ensures.found told) in
          parts_step (store.disk s).files c.args.claims.now c.loop-claim.claim-index c.loop-claim.paths (so_far.parts told) c.claim-item.result c.requires.sorted c.loop-claim-test.true c.claim-item.is c.in_ok-paths.paths
          (subst (λ (n : List ℕ). IsWithClaim (store.disk s).files n c.loop-claim.paths c.in_ok-paths.paths) c.as_str.ensures.value found);
      only = λ told. reading_further store s mid new so_far.only (λ t. c.with_claim.ensures.only_reads t) told;
      cause = record {
        later = omega (arith, so_far.cause.later, c.with_claim.ensures.cause.later);
        still = λ m. so_far.cause.still (c.with_claim.ensures.cause.still m);
        rose = λ never. absurd never;
        allowed = λ never. absurd never;
      };
      contest = record { same = c.with_claim.ensures.contest.same ∙ so_far.contest.same; still = λ m. so_far.contest.still (c.with_claim.ensures.contest.still m); never = λ never. never };
    }

pub returns-clause-found : goal.returns-clause-found
returns-clause-found g c told =
    parts_all (g.S.Store.disk c.args.store.now).files c.args.claims.now c.loop-claim.claim-index c.loop-claim.paths (c.loop-claim.invariant.parts told) c.loop-claim-test.false
