use Rattle.std.proofs.lemmas.Bool.{false≢true}
use Rattle.partition_map.proofs.UriLemmas.{no_path_at}
use Rattle.partition_map.proofs.uri.place_path.Goals as goal

pub returns-in_default : goal.returns-in_default
returns-in_default c = no_path_at c.args.bytes.items (λ form. false≢true (c.in_default.ensures.succeeds form.utf8))
