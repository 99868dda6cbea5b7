use Rattle.std.proofs.Common.{◌≡◌, ◌<◌, [], get_or, length, arith, refl, subst, sym, ◌∙◌}
use Rattle.lake_basics.specs.declared.limits.TheConstants.{MAX_FILE_BYTES}
use Rattle.lake_store.proofs.ShortLaws.{short_same, short_then, short_write}
use Rattle.iceberg_commit.specs.Texts.{IsShort}
use Rattle.target_iceberg.specs.Publishing.{IsNoneOf}
use Rattle.std.proofs.lemmas.List.{get_or_default}
use Rattle.target_iceberg.proofs.PublishingLemmas.{alone_begun, alone_write, one_more_written}
use Rattle.target_iceberg.proofs.publish.write_manifests.Goals as goal

pub loop-number-init : goal.loop-number-init
loop-number-init g c = record {
  alone = λ told. alone_begun g.S.Store told g.met.S.Store.only_now (IsNoneOf c.args.paths.now) c.args.store.now;
  written = λ told k none. absurd (omega (arith, none));
  short = λ told. short_same MAX_FILE_BYTES (g.S.Store.disk c.args.store.now).files (g.S.Store.disk c.args.store.now).files refl;
  faults = omega arith;
  may_fail = λ may. may;
  contests = λ i. g.S.Store.contests c.args.store.now;
  may_contest = λ may. may;
}

pub loop-number-preserved : goal.loop-number-preserved
loop-number-preserved g c =
    let so_far = c.loop-number.invariant in
    let paths = c.args.paths.now in
    let within : c.loop-number.number < length paths = let lt = c.loop-number-test.true in let same = c.requires.same in omega (arith, lt, same) in
    let path_is : c.as_str.result.now ≡ get_or paths c.loop-number.number [] = c.as_str.ensures.value ∙ c.index-paths-number.is ∙ get_or_default paths c.loop-number.number c.index-paths-number.result [] within in
    let is_short : IsShort c.as_slice.result.now = subst IsShort (sym (c.as_slice.ensures.value ∙ c.index-manifests-number.is)) (c.requires.short c.loop-number.number c.index-manifests-number.result c.loop-number-test.true) in
    record {
      alone = λ told. alone_write g.S.Store told g.met.S.Store.only_now (IsNoneOf paths) c.args.store.now c.loop-number.store c.write.new.self (so_far.alone told) c.write.ensures.elapses c.write.result c.as_str.result.now c.as_slice.result.now
          (λ none. none c.loop-number.number within path_is) c.write.ensures.ok c.write.ensures.err;
      written = λ told. one_more_written paths c.args.manifests.now c.loop-number.number c.as_str.result.now c.as_slice.result.now c.index-paths-number.result c.index-manifests-number.result (g.S.Store.disk c.loop-number.store) (g.S.Store.disk c.write.new.self)
          c.requires.same c.requires.apart c.loop-number-test.true c.as_str.ensures.value c.index-paths-number.is c.as_slice.ensures.value c.index-manifests-number.is (c.in_ok-write.ensures.ok told) (so_far.written told);
      short = λ told. short_then MAX_FILE_BYTES (g.S.Store.disk c.args.store.now).files (g.S.Store.disk c.loop-number.store).files (g.S.Store.disk c.write.new.self).files (so_far.short told)
          (short_write c.write.result MAX_FILE_BYTES (g.S.Store.disk c.loop-number.store) (g.S.Store.disk c.write.new.self) c.as_str.result.now c.as_slice.result.now is_short (c.write.ensures.ok told) (c.write.ensures.short told));
      faults = omega (arith, so_far.faults, c.write.ensures.cause.later);
      may_fail = λ may. so_far.may_fail (c.write.ensures.cause.still may);
      contests = c.write.ensures.contest.same ∙ so_far.contests;
      may_contest = λ may. so_far.may_contest (c.write.ensures.contest.still may);
    }

pub returns-in_err-write-clause-alone : goal.returns-in_err-write-clause-alone
returns-in_err-write-clause-alone g c told =
    let so_far = c.loop-number.invariant in
    let paths = c.args.paths.now in
    let within : c.loop-number.number < length paths = let lt = c.loop-number-test.true in let same = c.requires.same in omega (arith, lt, same) in
    let path_is : c.as_str.result.now ≡ get_or paths c.loop-number.number [] = c.as_str.ensures.value ∙ c.index-paths-number.is ∙ get_or_default paths c.loop-number.number c.index-paths-number.result [] within in
    alone_write g.S.Store told g.met.S.Store.only_now (IsNoneOf paths) c.args.store.now c.loop-number.store c.write.new.self (so_far.alone told) c.write.ensures.elapses c.write.result c.as_str.result.now c.as_slice.result.now
    (λ none. none c.loop-number.number within path_is) c.write.ensures.ok c.write.ensures.err

pub returns-clause-written : goal.returns-clause-written
returns-clause-written g c told k lt = c.loop-number.invariant.written told k (omega (arith, lt, c.loop-number-test.false))

pub returns-in_err-write-clause-short : goal.returns-in_err-write-clause-short
returns-in_err-write-clause-short g c told =
    let so_far = c.loop-number.invariant in
    let is_short : IsShort c.as_slice.result.now = subst IsShort (sym (c.as_slice.ensures.value ∙ c.index-manifests-number.is)) (c.requires.short c.loop-number.number c.index-manifests-number.result c.loop-number-test.true) in
    short_then MAX_FILE_BYTES (g.S.Store.disk c.args.store.now).files (g.S.Store.disk c.loop-number.store).files (g.S.Store.disk c.write.new.self).files (so_far.short told)
    (short_write c.write.result MAX_FILE_BYTES (g.S.Store.disk c.loop-number.store) (g.S.Store.disk c.write.new.self) c.as_str.result.now c.as_slice.result.now is_short (c.write.ensures.ok told) (c.write.ensures.short told))

pub returns-clause-short : goal.returns-clause-short
returns-clause-short g c told = c.loop-number.invariant.short told
