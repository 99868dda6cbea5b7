use mir.Val.{SFits, of_z, to_z}
use Rattle.std.proofs.Common.{◌≡◌, ℤ, pos, w64, rules, arith, ap, sym, ◌∙◌}
use Rattle.std.specs.Prelude.{◌+ℤ◌}
use Rattle.std.proofs.lemmas.Int.{ints}
use Rattle.target_iceberg.specs.Newest.{shape_at, with_schema}
use Rattle.target_iceberg.proofs.FollowLemmas.{held_more, held_same}
use Rattle.target_iceberg.proofs.fitting.HeldSchemas.hold.Goals as goal

pub returns-then-is_current-clause-held : goal.returns-then-is_current-clause-held
returns-then-is_current-clause-held c = λ state stated held wide.
    held_same (shape_at c.args.self.now.newest) c.args.self.now.current c.args.self.now.count state held c.args.image stated wide (sym c.is_current.ensures ∙ c.if-is_current.true)

pub returns-clause-held : goal.returns-clause-held
returns-clause-held c = λ state stated held wide.
    let count = c.args.self.now.count in
    let fits : SFits w64 c.args.self.now.count = search rules in
    let id : to_z w64 (of_z w64 c.args.self.now.count) ≡ c.args.self.now.count = omega (arith, ints) in
    let more : to_z w64 (of_z w64 (to_z w64 (of_z w64 c.args.self.now.count) +ℤ pos 1)) ≡ c.args.self.now.count +ℤ pos 1 = omega (arith, ints, c.requires) in
    held_more (shape_at c.args.self.now.newest) c.args.self.now.current count state held c.args.image stated wide (shape_at c.keep_schema.new.newest) _ (sym c.is_current.ensures ∙ c.if-is_current.false)
    (λ path. c.in_ok-keep_schema.ensures path ∙ ap (λ (z : ℤ). with_schema (shape_at c.args.self.now.newest path) (z, c.args.image) path) id) more
