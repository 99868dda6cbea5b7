-- Heads of the same parts are one.
use Rattle.std.proofs.Common.{◌≡◌}
use Rattle.source_core.specs.declared.head.Head.{Head}

pub same_parts : (a b : Head) → a.position ≡ b.position → a.pending ≡ b.pending → a.table ≡ b.table → a ≡ b
same_parts a b position pending table = λ i. record { position = position i; pending = pending i; table = table i }
