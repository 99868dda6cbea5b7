-- Truth values and orders.
use Rattle.std.proofs.Common.{Bool, Equal, Greater, Less, Ordering, cond, false, is_eq, is_lt, not, refl, sym, true, ◌&&◌, ◌||◌, ◌≡◌}
use Rattle.std.proofs.lemmas.Bool.{false≢true}
use Rattle.std.specs.Ordering.{ordering_reverse}
use Rattle.std.specs.Prelude.{T}

pub T_left : (a b : Bool) → T (a && b) → T a
T_left true b h = tt
T_left false b h = h

pub T_right : (a b : Bool) → T (a && b) → T b
T_right true b h = h
T_right false b h = absurd h

pub T_less : (o : Ordering) → T (is_lt o) → o ≡ Less
T_less Less h = refl
T_less Equal h = absurd h
T_less Greater h = absurd h

pub left_true : (a b : Bool) → (a && b) ≡ true → a ≡ true
left_true true b h = refl
left_true false b h = h

pub right_true : (a b : Bool) → (a && b) ≡ true → b ≡ true
right_true true b is = is
right_true false b is = cc

pub never_both : (b : Bool) → not b ≡ true → b ≡ true → ⊥
never_both true is here = cc
never_both false is here = cc

pub not_by : (b : Bool) → (b ≡ true → ⊥) → not b ≡ true
not_by true h = absurd (h refl)
not_by false h = refl

pub cond_or : (t b : Bool) → cond t true b ≡ (t || b)
cond_or true b = refl
cond_or false b = refl

pub left_false : (a b : Bool) → (a || b) ≡ false → a ≡ false
left_false true b e = e
left_false false b e = refl

pub right_false : (a b : Bool) → (a || b) ≡ false → b ≡ false
right_false true b e = absurd cc
right_false false b e = e

pub false_and_true : (a b : Bool) → (not a && b) ≡ true → (a ≡ false) × (b ≡ true)
false_and_true true b e = absurd cc
false_and_true false b e = (refl, e)

pub rising : (o : Ordering) → is_lt (ordering_reverse o) ≡ false → is_eq o ≡ false → o ≡ Less
rising Less h e = refl
rising Equal h e = absurd (false≢true (sym e))
rising Greater h e = absurd (false≢true (sym h))

pub true_not_false : (b : Bool) → b ≡ true → b ≡ false → ⊥
true_not_false b p q = cc

pub or_true : (b : Bool) → (b || true) ≡ true
or_true true = refl
or_true false = refl

pub and_false : (b : Bool) → (b && false) ≡ false
and_false true = refl
and_false false = refl

pub or_nothing : (b : Bool) → (b || false) ≡ b
or_nothing true = refl
or_nothing false = refl

pub same_tests : (a b : Bool) → (a ≡ true → b ≡ true) → (b ≡ true → a ≡ true) → a ≡ b
same_tests true b to from = sym (to refl)
same_tests false true to from = from refl
same_tests false false to from = refl

pub lt_less : (o : Ordering) → is_lt o ≡ true → o ≡ Less
lt_less Less is = refl
lt_less Equal is = cc
lt_less Greater is = cc
