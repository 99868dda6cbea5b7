use Rattle.std.proofs.Common.{ap, sym, ◌∙◌}
use Rattle.std.proofs.lemmas.Bool.{false≢true}
use Rattle.hudi_commit.specs.Names.{timeline_path}
use Rattle.target_hudi.proofs.OwnNameLemmas.{claimed, unclaimed}
use Rattle.target_hudi.proofs.own_names.check_name.Goals as goal

pub returns-then-not-has_name-clause-stop : goal.returns-then-not-has_name-clause-stop
returns-then-not-has_name-clause-stop g c = λ told. (
  c.in_ok-timeline_path-2.ensures ∙ ap timeline_path c.as_str-then-not-has_name.ensures.value,
  λ own.
      let files = (g.S.Store.disk c.args.store.now).files in
      unclaimed files c.as_slice.result.now c.args.instant.now.time (c.as_slice.ensures.value ∙ c.in_ok-names.ensures.names told) own.0.1.1.digits
      (λ there. false≢true (sym c.if-not-has_name.true ∙ c.has_name.ensures.1 there))
      (own.1 c.if-not-instant.false),
)

pub returns-clause-own : goal.returns-clause-own
returns-clause-own g c = λ told.
    let files = (g.S.Store.disk c.args.store.now).files in (
      c.has_own_form.ensures.0 c.if-not-has_own_form.false,
      λ pending. claimed files c.as_slice.result.now c.args.instant.now.time (c.as_slice.ensures.value ∙ c.in_ok-names.ensures.names told) (c.has_name.ensures.0 c.if-not-has_name.false),
    )
