use Rattle.std.proofs.Common.{[], ◌∷◌, refl, sym, subst}
use Rattle.std.specs.Prelude.{IfErr}
use Rattle.std.specs.Option.{option_copied}
use Rattle.std.proofs.lemmas.Result.{err_from_is_err_and}
use Rattle.target_core.specs.Views.{Origin}
use Rattle.target_core.specs.declared.target.TargetError.{TargetError}
use Rattle.target_hudi.specs.Kept.{end_of}
use Rattle.target_hudi.specs.NewInstant.{IsInstantRefusal}
use Rattle.target_hudi.specs.Writing.{PassesLast, mark_of}
use Rattle.target_hudi.proofs.NewInstantLemmas.{new_is, text_refused}
use Rattle.target_hudi.proofs.RankLemmas.{rank_later}
use Rattle.target_hudi.proofs.new_instant.new_instant.Goals as goal

pub text_at-requires-clause-real : goal.text_at-requires-clause-real
text_at-requires-clause-real c = let next = c.in_ok-time.ensures.next in (next.0, next.2)

pub text_at-requires-clause-later : goal.text_at-requires-clause-later
text_at-requires-clause-later c = let next = c.in_ok-time.ensures.next in rank_later c.args.kept.now.newest c.args.now_ms c.in_ok-time.time next.0 next.1 next.2

pub returns-in_err-text-clause-refusal : goal.returns-in_err-text-clause-refusal
returns-in_err-text-clause-refusal c =
    let origin : Origin = record { source = c.args.source; table = option_copied c.args.table } in
    let end = end_of c.args.name.now c.args.kept.now in
    let exit = err_from_is_err_and c.from_residual-in_err-text.result c.from_residual-in_err-text.ensures.1 in
    let Refused : TargetError → Type 0 = IsInstantRefusal (PassesLast end origin c.args.now_ms (c.args.commit.now ∷ [])) in
    subst (λ r. IfErr r Refused) (sym exit.1)
    (subst Refused (sym exit.2) (text_refused c.args.name.now c.args.kept.now c.args.commit.now origin c.args.now_ms c.in_ok-time.time c.in_ok-time.ensures.next _ c.in_err-text.ensures.refusal))

pub returns-clause-is : goal.returns-clause-is
returns-clause-is c =
    let origin : Origin = record { source = c.args.source; table = option_copied c.args.table } in
    let text = c.in_ok-text.ensures.is in
    new_is c.args.name.now c.args.kept.now c.args.commit.now origin c.args.now_ms c.in_ok-time.time text.mid text.after c.in_ok-time.ensures.next c.in_ok-properties.properties c.in_ok-text.text text.written c.text_at.new.kept.table c.text_at.new.kept
    (mark_of c.in_ok-time.time origin c.args.commit.now.position) c.in_ok-time.ensures.later c.in_ok-properties.ensures.given text.over text.writable text.read_back text.text_is text.read text.marked text.rows text.partition text.schema refl text.mark refl
    text.newest text.commits
