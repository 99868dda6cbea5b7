use Rattle.std.proofs.Common.{refl, arith}
use Rattle.partition_map.proofs.UriLemmas.{too_long_at}
use Rattle.partition_map.proofs.uri.check_path.Goals as goal

pub returns-then-bytes-gt-MAX_PATH_BYTES-clause-refused : goal.returns-then-bytes-gt-MAX_PATH_BYTES-clause-refused
returns-then-bytes-gt-MAX_PATH_BYTES-clause-refused c =
    (c.args.bytes.now, too_long_at c.args.bytes.now (c.if-not-path_form_of_any_length.ensures.form.0 refl) (omega (arith, c.if-bytes-gt-MAX_PATH_BYTES.true)))
