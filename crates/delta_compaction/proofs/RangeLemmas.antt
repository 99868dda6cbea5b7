-- The parts of the name of a log compaction.
use Rattle.std.proofs.Common.{◌≡◌, Option, Some, None, MatchOption, ℕ, ◌+◌, ◌≤◌, List, ◌++◌, length, take, drop, codes, sym, ap, subst, ◌∙◌, length-append, arith}
use Rattle.std.proofs.lemmas.List.{append_cancel_right, take_at, drop_at, take-append-drop}
use Rattle.lake_basics.specs.declared.limits.TheConstants.{MAX_DELTA_VERSION}
use Rattle.delta_log.specs.VersionName.{IsVersionDigits, IsVersionName}
use Rattle.delta_compaction.specs.RangeName.{AreDigits, IsPaddedRange, IsRangeName}

pub record AreParts (name front point back suffix : List ℕ) : Type 0 where
  pub front_is : front ≡ take 20 name
  pub point_is : point ≡ take 1 (drop 20 name)
  pub back_is : back ≡ take 20 (drop 1 (drop 20 name))
  pub suffix_is : suffix ≡ drop 20 (drop 1 (drop 20 name))

-- the parts that the name of a range has
pub record HasParts (name : List ℕ) (first last : ℕ) : Type 0 where
  pub len : length name ≡ 56
  pub from : IsVersionDigits (take 20 name) first
  pub point : take 1 (drop 20 name) ≡ codes "."
  pub to : IsVersionDigits (take 20 (drop 1 (drop 20 name))) last
  pub suffix : drop 20 (drop 1 (drop 20 name)) ≡ codes ".compacted.json"

pub parts_of : (name : List ℕ) (first last : ℕ) → IsPaddedRange name first last → HasParts name first last
parts_of name first last h =
    let rest = codes "." ++ (h.back ++ codes ".compacted.json") in
    let behind : drop 20 name ≡ rest = ap (drop 20) h.split ∙ drop_at h.front rest 20 h.from.len in
    let front : take 20 name ≡ h.front = ap (take 20) h.split ∙ take_at h.front rest 20 h.from.len in
    let more : drop 1 (drop 20 name) ≡ h.back ++ codes ".compacted.json" = ap (drop 1) behind in
    let one = h.from.len in
    let other = h.to.len in
    record {
      len = ap length h.split ∙ length-append h.front rest ∙ (let len = length-append h.back (codes ".compacted.json") in let whole : length (h.back ++ codes ".compacted.json") ≡ length h.back + 15 = len in omega (arith, one, other, whole));
      from = subst (λ l. IsVersionDigits l first) (sym front) h.from;
      point = ap (take 1) behind;
      to = subst (λ l. IsVersionDigits l last) (sym (ap (take 20) more ∙ take_at h.back (codes ".compacted.json") 20 h.to.len)) h.to;
      suffix = ap (drop 20) more ∙ drop_at h.back (codes ".compacted.json") 20 h.to.len;
    }

pub range_of_parts : (name front point back suffix : List ℕ) (first last : ℕ) → AreParts name front point back suffix → point ≡ codes "." → suffix ≡ codes ".compacted.json" → IsVersionDigits front first → IsVersionDigits back last
    → IsPaddedRange name first last
range_of_parts name front point back suffix first last parts is_point is_suffix from to =
    let behind : drop 1 (drop 20 name) ≡ back ++ codes ".compacted.json" =
    sym (take-append-drop 20 (drop 1 (drop 20 name))) ∙ ap (λ l. l ++ drop 20 (drop 1 (drop 20 name))) (sym parts.back_is) ∙ ap (λ l. back ++ l) (sym parts.suffix_is ∙ is_suffix) in
    let rest : drop 20 name ≡ codes "." ++ (back ++ codes ".compacted.json") =
    sym (take-append-drop 1 (drop 20 name)) ∙ ap (λ l. l ++ drop 1 (drop 20 name)) (sym parts.point_is ∙ is_point) ∙ ap (λ l. codes "." ++ l) behind in
    record {
      front = front;
      back = back;
      from = from;
      to = to;
      split = sym (take-append-drop 20 name) ∙ ap (λ l. l ++ drop 20 name) (sym parts.front_is) ∙ ap (λ l. front ++ l) rest;
    }

pub range_named : (name front point back suffix : List ℕ) (o : Option (ℕ × ℕ)) → AreParts name front point back suffix → point ≡ codes "." → suffix ≡ codes ".compacted.json"
    → MatchOption o ((x y : ℕ) → AreDigits front back x y → ⊥) (λ r. AreDigits front back r.0 r.1) → MatchOption o ((x y : ℕ) → IsRangeName name x y → ⊥) (λ r. IsRangeName name r.0 r.1)
range_named name front point back suffix None parts is_point is_suffix none = λ x y h.
    let has = parts_of name x y h.padded in
    none x y (record { from = subst (λ l. IsVersionDigits l x) (sym parts.front_is) has.from; to = subst (λ l. IsVersionDigits l y) (sym parts.back_is) has.to; rising = h.rising; within = h.within })
range_named name front point back suffix (Some r) parts is_point is_suffix some = record {
  padded = range_of_parts name front point back suffix r.0 r.1 parts is_point is_suffix some.from some.to;
  rising = some.rising;
  within = some.within;
}

-- the digits of a name of a commit
pub digits_by : (digits name : List ℕ) (o : Option ℕ) → name ≡ digits ++ codes ".json" → MatchOption o ((v : ℕ) → IsVersionName name v → ⊥) (IsVersionName name)
    → MatchOption o ((v : ℕ) → v ≤ MAX_DELTA_VERSION → IsVersionDigits digits v → ⊥) (λ v. IsVersionDigits digits v × (v ≤ MAX_DELTA_VERSION))
digits_by digits name None is none = λ v within written. none v (record { padded = record { digits = digits; padded = written; split = is }; within = within })
digits_by digits name (Some v) is some =
    let same : some.padded.digits ≡ digits = append_cancel_right some.padded.digits digits (codes ".json") (sym some.padded.split ∙ is) in
    (subst (λ l. IsVersionDigits l v) same some.padded.padded, some.within)
