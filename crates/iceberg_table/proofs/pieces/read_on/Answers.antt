use Rattle.std.proofs.Common.{◌≤◌, ◌<◌, Some, Err, ap, subst, sym, ◌∙◌}
use Rattle.std.proofs.lemmas.Result.{IfErr-weaker, IfOk-weaker}
use Rattle.lake_basics.specs.declared.limits.TheConstants.{MAX_FILE_BYTES}
use Rattle.lake_store.specs.declared.store.StoreError.{StoreError}
use Rattle.lake_store.proofs.RunLaws.{reading_begins, reading_steps}
use Rattle.iceberg_table.specs.Errors.{IsRefusal}
use Rattle.iceberg_table.specs.Pieces.{AreSomeTaken, IsOneMore, IsReadSoFar, IsRefusedPiece, IsUnread, left}
use Rattle.iceberg_table.proofs.PieceLaws.{further_on, gone_here, no_fault, part_here, part_refused, piece_refused, read_more, short_here, some_taken}
use Rattle.iceberg_table.proofs.pieces.read_on.Goals as goal

pub returns-in-Ok-Some-clause-within : goal.returns-in-Ok-Some-clause-within
returns-in-Ok-Some-clause-within g c =
    IfOk-weaker c.with_piece.result (IsOneMore c.args.columns.now c.args.pieces c.as_slice.result.now) (λ next. next.read ≤ MAX_FILE_BYTES) (λ next one. one.within) c.with_piece.ensures.more

pub returns-in-Ok-Some-clause-further : goal.returns-in-Ok-Some-clause-further
returns-in-Ok-Some-clause-further g c =
    IfOk-weaker c.with_piece.result (IsOneMore c.args.columns.now c.args.pieces c.as_slice.result.now) (λ next. left next.is_whole next.read < left c.args.pieces.is_whole c.args.pieces.read)
    (λ next one. further_on c.args.columns.now c.args.pieces next c.as_slice.result.now c.requires.more c.requires.within one) c.with_piece.ensures.more

pub returns-in-Ok-Some-clause-taken : goal.returns-in-Ok-Some-clause-taken
returns-in-Ok-Some-clause-taken g c some =
    IfOk-weaker c.with_piece.result (IsOneMore c.args.columns.now c.args.pieces c.as_slice.result.now) (AreSomeTaken c.args.columns.now)
    (λ next one. some_taken c.args.columns.now c.as_slice.result.now c.args.pieces next one some) c.with_piece.ensures.more

pub returns-in-Ok-Some-clause-read : goal.returns-in-Ok-Some-clause-read
returns-in-Ok-Some-clause-read g c told so_far =
    let files = (g.S.Store.disk c.args.store.now).files in
    let short = short_here c.in-Ok-Some.field-0 c.in-Ok-Some.piece c.as_slice.result.now c.in-Ok-Some.field-0-is c.as_slice.ensures.value c.in-Ok-Some.ensures.short in
    let part = part_here files c.args.path.now c.as_str.result.now c.args.pieces.read c.as_slice.result.now c.as_str.ensures.value (ap Some c.as_slice.ensures.value ∙ sym c.in-Ok-Some.field-0-is ∙ c.in-Ok-Some.ensures.bytes told) in
    IfOk-weaker c.with_piece.result (IsOneMore c.args.columns.now c.args.pieces c.as_slice.result.now) (IsReadSoFar files c.args.columns.now c.args.path.now)
    (λ next one. read_more files c.args.columns.now c.args.path.now c.args.pieces next c.as_slice.result.now c.requires.more short part one so_far) c.with_piece.ensures.more

pub returns-in-Ok-Some-clause-refused : goal.returns-in-Ok-Some-clause-refused
returns-in-Ok-Some-clause-refused g c told so_far =
    let files = (g.S.Store.disk c.args.store.now).files in
    let columns = c.args.columns.now in
    let path = c.args.path.now in
    let piece = c.as_slice.result.now in
    let short = short_here c.in-Ok-Some.field-0 c.in-Ok-Some.piece piece c.in-Ok-Some.field-0-is c.as_slice.ensures.value c.in-Ok-Some.ensures.short in
    let part = part_here files path c.as_str.result.now c.args.pieces.read piece c.as_str.ensures.value (ap Some c.as_slice.ensures.value ∙ sym c.in-Ok-Some.field-0-is ∙ c.in-Ok-Some.ensures.bytes told) in
    IfErr-weaker c.with_piece.result (IsRefusedPiece columns c.in_ok-told.told c.args.pieces piece) (IsRefusal (IsUnread files columns path))
    (λ e h. piece_refused files columns path c.args.pieces piece e c.requires.more c.requires.within short part so_far (subst (λ p. IsRefusedPiece columns p c.args.pieces piece e) c.in_ok-told.ensures h)) c.with_piece.ensures.refused

pub returns-in-Ok-Some-clause-only_reads : goal.returns-in-Ok-Some-clause-only_reads
returns-in-Ok-Some-clause-only_reads g c = reading_steps g.S.Store c.args.store.now c.args.store.now c.read_part.new.self (reading_begins g.S.Store g.met.S.Store.only_now c.args.store.now) c.read_part.ensures.same c.read_part.ensures.elapses

pub returns-in-Ok-Some-clause-cause : goal.returns-in-Ok-Some-clause-cause
returns-in-Ok-Some-clause-cause g c =
    let never = no_fault c.args.columns.now c.in_ok-told.told c.args.pieces c.as_slice.result.now c.with_piece.result c.with_piece.ensures.refused in
    record { later = c.read_part.ensures.cause.later; still = c.read_part.ensures.cause.still; rose = λ is. absurd (never is); allowed = λ is. absurd (never is) }

pub returns-in-Ok-Some-clause-contest : goal.returns-in-Ok-Some-clause-contest
returns-in-Ok-Some-clause-contest g c = record { same = c.read_part.ensures.contest.same; still = c.read_part.ensures.contest.still; never = λ none. none }

pub returns-in-Ok-None-clause-refused : goal.returns-in-Ok-None-clause-refused
returns-in-Ok-None-clause-refused g c told so_far =
    let files = (g.S.Store.disk c.args.store.now).files in
    (c.in_ok-told.ensures, gone_here files c.args.path.now c.as_str.result.now c.args.pieces.read c.as_str.ensures.value (sym c.in-Ok-None.field-0-is ∙ c.in-Ok-None.ensures.bytes told))

pub returns-in-Ok-None-clause-only_reads : goal.returns-in-Ok-None-clause-only_reads
returns-in-Ok-None-clause-only_reads g c = reading_steps g.S.Store c.args.store.now c.args.store.now c.read_part.new.self (reading_begins g.S.Store g.met.S.Store.only_now c.args.store.now) c.read_part.ensures.same c.read_part.ensures.elapses

pub returns-in-Err-clause-refused : goal.returns-in-Err-clause-refused
returns-in-Err-clause-refused g c told so_far =
    let files = (g.S.Store.disk c.args.store.now).files in
    subst (IsRefusal (IsUnread files c.args.columns.now c.args.path.now)) (sym c.error_of_read.ensures)
    (part_refused files c.args.columns.now c.args.path.now c.in_ok-told.told c.in-Err.error (λ n is. c.in-Err.ensures.not_too_long n (ap (λ (e : StoreError). Err e) is)))

pub returns-in-Err-clause-only_reads : goal.returns-in-Err-clause-only_reads
returns-in-Err-clause-only_reads g c = reading_steps g.S.Store c.args.store.now c.args.store.now c.read_part.new.self (reading_begins g.S.Store g.met.S.Store.only_now c.args.store.now) c.read_part.ensures.same c.read_part.ensures.elapses
