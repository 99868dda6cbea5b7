use Rattle.std.proofs.Common.{◌≡◌, ◌++◌, drop, map}
use Rattle.json.specs.Tree.{items_tokens}
use Rattle.serde_json.specs.View.{items_of}
use Rattle.serde_json.specs.Written.{items_outline}
use Rattle.hudi_instant.proofs.write.write_array.Given as goal

-- what is written and what is still to be written are the whole
abbrev pub invariant-loop-entry : goal.invariant-loop-entry
invariant-loop-entry g l =
    let shown = g.T.InPartition.data_of in
    record {
      before : l.out.before ≡ l.initial.out.before;
      tokens : l.out.tokens ++ items_tokens (items_outline (items_of (map shown (drop l.entry-index l.entries)))) ≡ l.initial.out.tokens ++ items_tokens (items_outline (items_of (map shown l.entries)));
    }
