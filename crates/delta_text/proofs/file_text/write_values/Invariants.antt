use Rattle.std.proofs.Common.{◌≡◌, ◌++◌}
use Rattle.json.specs.Tree.{members_tokens}
use Rattle.serde_json.specs.Written.{members_outline}
use Rattle.delta_text.specs.Tokens.{values_members}
use Rattle.delta_text.proofs.file_text.write_values.Given as goal

-- what is written and what is still to be written are the whole
abbrev pub invariant-loop-name : goal.invariant-loop-name
invariant-loop-name l = record {
  before : l.out.before ≡ l.initial.out.before;
  tokens : l.out.tokens ++ members_tokens (members_outline (values_members l.name-iterator)) ≡ l.initial.out.tokens ++ members_tokens (members_outline (values_members l.values.entries));
}
