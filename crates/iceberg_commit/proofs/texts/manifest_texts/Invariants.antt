use Rattle.iceberg_commit.proofs.TextLemmas.{HaveCome}
use Rattle.iceberg_commit.proofs.texts.manifest_texts.Given as goal

abbrev pub invariant-loop-one : goal.invariant-loop-one
invariant-loop-one l = HaveCome l.layout l.before l.next l.one-index l.list
