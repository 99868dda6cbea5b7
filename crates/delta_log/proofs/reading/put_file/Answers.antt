use Rattle.std.proofs.Common.{◌≡◌, ℕ, List, true, cond, subst, ◌∙◌}
use Rattle.std.proofs.lemmas.Map.Text.{hash_set_updates_text}
use Rattle.std.specs.HashSet.{contains_text}
use Rattle.std.specs.Str.{bytes_eq}
use Rattle.delta_log.proofs.reading.put_file.Goals as goal

pub returns-clause-paths : goal.returns-clause-paths
returns-clause-paths c = λ q.
    subst (λ (path : List ℕ). contains_text c.insert.new.self q ≡ cond (bytes_eq path q) true (contains_text c.args.paths.now q)) (c.in_ok-path.ensures.ok ∙ c.as_str.ensures.value ∙ c.path.ensures)
    (hash_set_updates_text _ c.args.paths.now c.insert.new.self _ c.in_ok-insert.ensures.updates q)
