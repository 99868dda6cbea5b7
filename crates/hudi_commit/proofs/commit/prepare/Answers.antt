use Rattle.std.proofs.Common.{◌≡◌, ◌≤◌, inl, List, ℕ, refl, ap, sym, ◌∙◌, subst}
use Rattle.std.specs.Prelude.{IfSome, Option, Some, is_some, length, OnOk}
use Rattle.std.specs.Option.{option_copied}
use Rattle.std.proofs.lemmas.Result.{on_ok_weaker}
use Rattle.lake_store.proofs.RunLaws.{alone_of_fewer}
use Rattle.hudi_commit.specs.Runs.{HasProperties, IsKeptBut, IsNoProperties, IsPrepared, IsReady, NotGiven, StaysBefore}
use Rattle.hudi_commit.proofs.AloneLaws.{alone_begun}
use Rattle.hudi_commit.proofs.CommitLaws.{nothing_prepared, ready_quiet, with_properties_prepared}
use Rattle.hudi_commit.proofs.OtherLaws.{properties_others}
use Rattle.hudi_commit.proofs.StagingLaws.{before_begun, first_base}
use Rattle.lake_basics.specs.declared.limits.TheConstants.{MAX_FILE_BYTES}
use Rattle.lake_store.proofs.ShortLaws.{short_same}
use Rattle.hudi_commit.proofs.commit.prepare.Goals as goal

pub returns-in-Some-clause-keeps : goal.returns-in-Some-clause-keeps
returns-in-Some-clause-keeps g c told free base stands idle ready =
    let disk = g.S.Store.disk in
    let p = c.in-Some.properties.now in
    let at = ap (λ o. option_copied o) c.in-Some.is in
    let is_ready = subst (λ (o : Option (List ℕ)). IsReady o (disk c.args.store.now).files) at ready in
    subst (λ (o : Option (List ℕ)). StaysBefore g.S.Store o base c.args.store.now c.publish_properties.new.store) (sym at)
    (c.publish_properties.ensures.keeps told free base stands (ready_quiet base p (disk c.args.store.now) stands idle is_ready))

pub returns-in-Some-clause-prepared : goal.returns-in-Some-clause-prepared
returns-in-Some-clause-prepared g c told base stands idle ready =
    let disk = g.S.Store.disk in
    let p = c.in-Some.properties.now in
    let at = ap (λ o. option_copied o) c.in-Some.is in
    let is_ready = subst (λ (o : Option (List ℕ)). IsReady o (disk c.args.store.now).files) at ready in
    subst (λ (o : Option (List ℕ)). OnOk c.publish_properties.result (IsPrepared o base (disk c.args.store.now) (disk c.publish_properties.new.store))) (sym at)
    (on_ok_weaker c.publish_properties.result (with_properties_prepared base p (disk c.args.store.now) (disk c.publish_properties.new.store) stands idle is_ready) (c.publish_properties.ensures.published told))

pub returns-in-Some-clause-others : goal.returns-in-Some-clause-others
returns-in-Some-clause-others g c told =
    let disk = g.S.Store.disk in
    let p = c.in-Some.properties.now in
    let at = ap (λ o. option_copied o) c.in-Some.is in
    on_ok_weaker c.publish_properties.result
    (λ (has : HasProperties p (disk c.args.store.now) (disk c.publish_properties.new.store)) q free.
    properties_others p (disk c.args.store.now) (disk c.publish_properties.new.store) has q (subst (λ (o : Option (List ℕ)). NotGiven o q) at free))
    (c.publish_properties.ensures.published told)

pub returns-in-Some-clause-staged : goal.returns-in-Some-clause-staged
returns-in-Some-clause-staged g c told =
    let disk = g.S.Store.disk in
    on_ok_weaker c.publish_properties.result
    (λ (has : HasProperties c.in-Some.properties.now (disk c.args.store.now) (disk c.publish_properties.new.store)) some. has.staged)
    (c.publish_properties.ensures.published told)

pub returns-in-None-clause-staged : goal.returns-in-None-clause-staged
returns-in-None-clause-staged g c told = λ some. absurd (cc (sym some ∙ ap (λ o. is_some (option_copied o)) c.in-None.is))

pub returns-in-None-clause-others : goal.returns-in-None-clause-others
returns-in-None-clause-others g c told = λ q free. inl refl

kept_given : (o : Option (List ℕ)) (p : List ℕ) → o ≡ Some p → (path : List ℕ) → IsKeptBut o path → IsNoProperties path
kept_given o p at path kept = let is = subst (λ x. IsKeptBut x path) at kept in record { staged = is.staged; properties = is.given }

pub returns-in-Some-clause-alone : goal.returns-in-Some-clause-alone
returns-in-Some-clause-alone g c told =
    let at = ap (λ o. option_copied o) c.in-Some.is in
    alone_of_fewer g.S.Store IsNoProperties (IsKeptBut (option_copied c.args.properties)) c.args.store.now c.publish_properties.new.store
    (kept_given (option_copied c.args.properties) c.in-Some.properties.now at) (c.publish_properties.ensures.alone told)

pub returns-in-None-clause-keeps : goal.returns-in-None-clause-keeps
returns-in-None-clause-keeps g c told free base stands idle ready =
    before_begun g.S.Store told (option_copied c.args.properties) base g.met.S.Store.only_now c.args.store.now (record { base = base; is_base = first_base (option_copied c.args.properties) base; stands = stands })

pub returns-in-None-clause-prepared : goal.returns-in-None-clause-prepared
returns-in-None-clause-prepared g c told base stands idle ready =
    let disk = g.S.Store.disk in
    let at = ap (λ o. option_copied o) c.in-None.is in
    let is_ready = subst (λ (o : Option (List ℕ)). IsReady o (disk c.args.store.now).files) at ready in
    subst (λ (o : Option (List ℕ)). IsPrepared o base (disk c.args.store.now) (disk c.args.store.now)) (sym at) (nothing_prepared base (disk c.args.store.now) stands idle is_ready)

pub returns-in-None-clause-alone : goal.returns-in-None-clause-alone
returns-in-None-clause-alone g c told = alone_begun g.S.Store told g.met.S.Store.only_now (IsKeptBut (option_copied c.args.properties)) c.args.store.now

pub returns-in-Some-clause-short : goal.returns-in-Some-clause-short
returns-in-Some-clause-short g c told le =
    c.publish_properties.ensures.short told (subst (λ (o : Option (List ℕ)). IfSome o (λ text. length text ≤ MAX_FILE_BYTES)) (ap (λ o. option_copied o) c.in-Some.is) le)

pub returns-in-None-clause-short : goal.returns-in-None-clause-short
returns-in-None-clause-short g c told le =
    let disk = g.S.Store.disk in
    let d0 = disk c.args.store.now in
    short_same MAX_FILE_BYTES d0.files d0.files refl
