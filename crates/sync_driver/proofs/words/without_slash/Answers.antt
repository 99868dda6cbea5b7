use Rattle.std.proofs.Common.{arith}
use Rattle.std.proofs.lemmas.Str.Pattern.{strip_suffix_char}
use Rattle.sync_driver.proofs.words.without_slash.Goals as goal

pub returns-clause-split : goal.returns-clause-split
returns-clause-split c = strip_suffix_char 47 c.args.text.now c.strip_suffix.result c.strip_suffix.ensures.cases (omega arith)
