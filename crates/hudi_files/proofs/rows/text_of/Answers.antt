use Rattle.std.proofs.Common.{Err, ap}
use Rattle.std.proofs.lemmas.Str.{IsUtf8-from_is_utf8}
use Rattle.hudi_files.proofs.rows.text_of.Goals as goal

pub unreachable-requires : goal.unreachable-requires
unreachable-requires c = absurd (c.in-Err-BadText.ensures.bad.0 (ap Err c.in-Err-BadText.field-0-is) (IsUtf8-from_is_utf8 c.args.path.now c.requires))
