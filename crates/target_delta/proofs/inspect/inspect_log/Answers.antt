use Rattle.std.proofs.Common.{◌≡◌, ◌+◌, inl, inr, subst, arith}
use Rattle.std.proofs.lemmas.Bool.{cases_lt}
use Rattle.lake_basics.specs.declared.limits.TheConstants.{MAX_COMMITS}
use Rattle.target_delta.specs.Kept.{StandsFor}
use Rattle.target_delta.specs.declared.kept.DeltaKept.{DeltaKept}
use Rattle.delta_table.specs.Log.{IsLogOf}
use Rattle.target_delta.proofs.PastLemmas.{refusal_behind, seen_behind}
use Rattle.target_delta.proofs.SeenLemmas.{seen_whole}
use Rattle.target_delta.proofs.ToldLemmas.{refusal_all, told_all}
use Rattle.target_delta.proofs.inspect.inspect_log.Goals as goal

pub returns-in-Ok-clause-seen : goal.returns-in-Ok-clause-seen
returns-in-Ok-clause-seen g c = λ id told.
    let files = (g.S.Store.disk c.args.store.now).files in
    let newest = c.args.newest in
    let last = c.min.result in
    let is = c.in-Ok.ensures.log told in
    elim (cases_lt newest MAX_COMMITS) [
      | inl lt ↦
          let whole : last ≡ newest = omega (arith, lt, c.min.ensures) in
          seen_whole files newest c.in-Ok.log (subst (λ n. IsLogOf files (n + 1) c.in-Ok.log) whole is) (c.requires.newest told) c.requires.within c.args.source id c.seen_in.result (c.seen_in.ensures.whole lt)
      | inr le ↦
          seen_behind files newest last c.in-Ok.log is c.args.longer (c.requires.longer told) (λ past. omega (arith, past, c.min.ensures)) le (c.requires.newest told).there c.args.source (λ (kept : DeltaKept). StandsFor id kept files) c.seen_in.result (c.seen_in.ensures.gap le)
    ]

pub returns-in-Ok-clause-refusal : goal.returns-in-Ok-clause-refusal
returns-in-Ok-clause-refusal g c = λ told.
    let files = (g.S.Store.disk c.args.store.now).files in
    refusal_behind files c.args.newest c.min.result c.in-Ok.log (c.in-Ok.ensures.log told) c.args.longer (c.requires.longer told) (λ past. omega (arith, past, c.min.ensures)) c.seen_in.result c.seen_in.ensures.refusal

pub returns-in-Err-clause-seen : goal.returns-in-Err-clause-seen
returns-in-Err-clause-seen g c = λ id told.
    let files = (g.S.Store.disk c.args.store.now).files in
    told_all files c.args.newest c.min.result (omega (arith, c.min.ensures)) (omega (arith, c.min.ensures)) (c.requires.newest told).there c.args.source c.in-Err.error (λ (kept : DeltaKept). StandsFor id kept files) (c.in-Err.ensures.refused told) c.foreign_at.result c.foreign_at.ensures.told

pub returns-in-Err-clause-refusal : goal.returns-in-Err-clause-refusal
returns-in-Err-clause-refusal g c = λ told.
    let files = (g.S.Store.disk c.args.store.now).files in
    refusal_all files c.args.newest c.min.result (omega (arith, c.min.ensures)) (omega (arith, c.min.ensures)) c.in-Err.error (c.in-Err.ensures.refused told) c.foreign_at.result c.foreign_at.ensures.refused
