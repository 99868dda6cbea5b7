use Rattle.std.proofs.Common.{◌≡◌, drop, map}
use Rattle.json_outline.specs.View.{put_all, view, members_view, sorted_view}
use Rattle.json_outline.proofs.sorted.sorted_members.Given as goal

-- those behind, put in over those before, are all
abbrev pub invariant-loop-member : goal.invariant-loop-member
invariant-loop-member l = put_all (map (λ m. (m.0, view m.1)) (drop l.member-index l.members.items)) (sorted_view l.sorted.entries) ≡ members_view l.members.items
