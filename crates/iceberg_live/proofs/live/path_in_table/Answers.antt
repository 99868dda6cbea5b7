use Rattle.std.proofs.Common.{◌≡◌, ◌-◌, ℕ, take, drop, length, true, sym, ap, ◌∙◌}
use Rattle.std.proofs.Math.Seq.{take-length}
use Rattle.std.proofs.lemmas.List.{length-drop}
use Rattle.std.proofs.lemmas.Str.{IsCharBoundary-from_drop}
use Rattle.table_history.proofs.PathTests.{path_of_any_length_decided}
use Rattle.table_history.specs.Path.{is_path_of_any_length}
use Rattle.iceberg_live.proofs.live.path_in_table.Goals as goal

pub range_from-requires : goal.range_from-requires
range_from-requires c _ =
    let front = c.args.front in
    let bytes = c.as_bytes.result.now in
    let rest : take (length bytes - front) (drop front bytes) ≡ drop front c.args.path.now =
    ap (λ (n : ℕ). take n (drop front bytes)) (sym (length-drop front bytes)) ∙ take-length (drop front bytes) ∙ ap (drop front) c.as_bytes.ensures.value in
    let test : is_path_of_any_length (drop front c.args.path.now) ≡ true = sym (ap is_path_of_any_length rest) ∙ sym c.path_form_of_any_length.ensures.test ∙ c.if-not-path_form_of_any_length.false in
    IsCharBoundary-from_drop c.args.path.now front c.requires ((path_of_any_length_decided (drop front c.args.path.now)).0 test).utf8
