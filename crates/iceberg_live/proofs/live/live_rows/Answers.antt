use Rattle.iceberg_live.proofs.LiveLaws.{found, only, refused}
use Rattle.iceberg_live.proofs.live.live_rows.Goals as goal

pub returns : goal.returns
returns c =
    let location = c.args.location.now in
    let info = c.args.info.now in
    let entries = c.args.entries in
    let exact = c.answer.ensures in
    record { found = found location info entries _ exact; only = only location info entries _ exact; refused = refused location info entries _ exact; exact = exact }
