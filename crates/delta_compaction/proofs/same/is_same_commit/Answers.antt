use Rattle.std.proofs.Common.{Bool, sym, subst, ◌∙◌}
use Rattle.std.specs.Prelude.{IsTrue}
use Rattle.delta_compaction.specs.Agreeing.{SaysSame}
use Rattle.delta_compaction.proofs.SameLemmas.{says_same}
use Rattle.delta_compaction.proofs.same.is_same_commit.Goals as goal

pub returns-then-is_same_table : goal.returns-then-is_same_table
returns-then-is_same_table c =
    let files = c.in_ok-have_same_files in
    says_same c.args.a c.args.b _ _ c.files_of.ensures c.files_of-2.ensures _ files.have_same_files (sym c.if-is_same_table.true ∙ c.is_same_table-is_same_table.ensures) files.ensures

pub returns-else-is_same_table : goal.returns-else-is_same_table
returns-else-is_same_table c =
    let files = c.in_ok-have_same_files in
    subst (λ (r : Bool). (IsTrue r → SaysSame c.args.a c.args.b) × (SaysSame c.args.a c.args.b → IsTrue r)) (sym c.if-is_same_table.false)
    (says_same c.args.a c.args.b _ _ c.files_of.ensures c.files_of-2.ensures _ files.have_same_files (sym c.if-is_same_table.false ∙ c.is_same_table-is_same_table.ensures) files.ensures)
