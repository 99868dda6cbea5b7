use Rattle.target_core.proofs.Marks.{written_again}
use Rattle.target_core.proofs.mark.mark_text.Goals as goal

pub returns-clause-reads_back : goal.returns-clause-reads_back
returns-clause-reads_back c = written_again c.json_text.result _ c.args.mark.now c.in_ok-value.ensures c.json_text.ensures.text c.json_text.ensures.reads_back
