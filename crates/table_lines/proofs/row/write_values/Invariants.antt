use Rattle.std.proofs.Common.{◌≡◌, ◌++◌, drop, map}
use Rattle.json.specs.Tree.{items_tokens}
use Rattle.serde_json.specs.View.{items_of}
use Rattle.serde_json.specs.Written.{items_outline}
use Rattle.table_lines.specs.TableLines.{value_data}
use Rattle.table_lines.proofs.row.write_values.Given as goal

-- what is written and what is still to be written are the whole
abbrev pub invariant-loop-value : goal.invariant-loop-value
invariant-loop-value l =
    record {
      before : l.out.before ≡ l.initial.out.before;
      tokens : l.out.tokens ++ items_tokens (items_outline (items_of (map value_data (drop l.value-index l.values)))) ≡ l.initial.out.tokens ++ items_tokens (items_outline (items_of (map value_data l.values)));
    }
