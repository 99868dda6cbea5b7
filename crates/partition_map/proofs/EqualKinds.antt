-- The derived `==` of kinds decides whether two are one.
use Rattle.std.proofs.Common.{◌≡◌, Bool, List, Option, Decides, rules, ⊎_elim}
use lib.Pointwise.{pointwise}
use Rattle.std.specs.Option.{option_eq}
use Rattle.std.proofs.lemmas.Bool.{cases_Bool}
use Rattle.std.proofs.lemmas.Slice.Eq.{slice_eq-Decides}
use denote.Enum.Bare.{same_false, same_true}
use Rattle.lake_basics.proofs.Options.{option_decides}
use Rattle.partition_map.specs.contracts.kind.PartKind.{the_type}
use Rattle.partition_map.specs.contracts.kind.PartKindPartialEq.TheImpl.{eq-value}
use Rattle.partition_map.specs.declared.kind.PartKind.{PartKind}

pub kind_decides : (a b : PartKind) → Decides (eq-value.it a b) (a ≡ b)
kind_decides a b = (λ is. same_true the_type (search rules) a b is, λ same. ⊎_elim (λ is. is) (λ is. absurd (same_false the_type a b is same)) (cases_Bool (eq-value.it a b)))

pub kinds_decide : (a b : List (Option PartKind)) (r : Bool) → r ≡ pointwise (option_eq eq-value.it) a b → Decides r (a ≡ b)
kinds_decide a b r is = slice_eq-Decides (option_decides kind_decides) a b r is
