use Rattle.std.proofs.Common.{◌⊎◌, ⊎_elim, List, ℕ, sym, subst, ◌∙◌}
use Rattle.delta_change.specs.Change.{IsChangeRefusal}
use Rattle.delta_log.specs.Readable.{IsReadableCommit, IsRefusal}
use Rattle.delta_log.specs.declared.commit.DeltaCommit.{DeltaCommit}
use Rattle.delta_compact.proofs.Refused.{not_there, unfit_cause, unread_cause}
use Rattle.delta_compact.proofs.whole.table_behind_file.Goals as goal

pub returns-in_default-clause-refused : goal.returns-in_default-clause-refused
returns-in_default-clause-refused g c told =
    let files = (g.S.Store.disk c.args.store.now).files in
    absurd (not_there files c.args.path (c.requires.there told) (sym (c.in_ok-bytes.ensures.found told) ∙ c.in_default.is))

pub returns-in-Ok-clause-taken : goal.returns-in-Ok-clause-taken
returns-in-Ok-clause-taken g c told =
    let taken = c.in-Ok.ensures.taken in (
      taken.0,
      record {
        bytes = c.in-Some.bytes;
        there = sym (c.in_ok-bytes.ensures.found told) ∙ c.in-Some.is;
        readable = subst (λ (b : List ℕ). IsReadableCommit b taken.0) c.as_slice.ensures.value taken.1;
      },
      taken.2,
    )

pub returns-in-Err-clause-refused : goal.returns-in-Err-clause-refused
returns-in-Err-clause-refused g c told =
    let files = (g.S.Store.disk c.args.store.now).files in
    let path = c.args.path in
    let bytes = c.in-Some.bytes in
    let base = c.args.base in
    let error = c.in-Err.error in
    let there = sym (c.in_ok-bytes.ensures.found told) ∙ c.in-Some.is in
    ⊎_elim (λ refused. unread_cause files path bytes base error c.file_fault.result there refused c.file_fault.ensures.told)
    (λ unfit. unfit_cause files path bytes base unfit.0 error c.file_fault.result there unfit.1 unfit.2 c.file_fault.ensures.told)
    (subst (λ (b : List ℕ). IsRefusal b error ⊎ ((d : DeltaCommit) × IsReadableCommit b d × IsChangeRefusal d base error)) c.as_slice.ensures.value c.in-Err.ensures.refused)
