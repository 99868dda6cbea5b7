use Rattle.std.proofs.Common.{◌≡◌, ◌+◌, ◌≤◌, length}
use denote.Text.{Utf8}
use denote.Shadow.{shadow}
use Rattle.sync_driver.specs.Forms.{location}
use Rattle.sync_driver.proofs.words.location_of.Given as goal

abbrev pub invariant-loop : goal.invariant-loop
invariant-loop l = shadow (Utf8 l.left) × (location l.place ≡ location l.left) × (length l.left + l.counter ≤ length l.place)
