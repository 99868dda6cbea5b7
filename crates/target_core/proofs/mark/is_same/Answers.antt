use Rattle.target_core.proofs.Marks.{same_by_text}
use Rattle.target_core.proofs.mark.is_same.Goals as goal

pub returns : goal.returns
returns c =
    same_by_text c.eq.result _ _ _ _ _ _ c.eq.ensures c.as_str.ensures.value c.as_str-2.ensures.value (c.in_ok-text.ensures.reads_back c.requires.value) (c.in_ok-other_text.ensures.reads_back c.requires.other) c.in_ok-text.ensures.text c.in_ok-other_text.ensures.text c.requires.whole
