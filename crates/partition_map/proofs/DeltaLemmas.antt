-- The texts that are written in Delta commits.
use Rattle.std.specs.Prelude.{codes, if◌then◌else◌}
use Rattle.std.specs.Fmt.{signed_decimal}
use Rattle.std.specs.Int.{w32, w64}
use Rattle.std.proofs.Common.{◌≡◌, ◌≢◌, ℕ, ℤ, Bool, true, false, List, [], ◌∷◌, Option, None, Some, FitsSigned, inl, inr, refl, sym, ap, subst, ◌∙◌, arith}
use Rattle.std.proofs.lemmas.Int.{ints}
use Rattle.table_history.specs.declared.row.PartValue.{PartValue}
use Rattle.table_history.specs.declared.row.PartValue.TheVariants as value
use Rattle.partition_map.specs.declared.kind.PartKind.TheVariants as kind
use Rattle.partition_map.specs.DeltaText.{WritesDelta, WritesDay, IsDeltaText}
use Rattle.partition_map.specs.Kind.{IsOfKind}
use Rattle.partition_map.specs.Stands.{IsTextOf, IsDecimal, IsDateText, DeltaStands}
use Rattle.partition_map.proofs.DateLemmas.{WritesDay-sole, day_written, decimal_written}

filled : (k : kind.the_data) (text : List ℕ) (v : PartValue) → text ≢ [] → IsTextOf k text v → DeltaStands k (Some text) v
filled k [] v some h = absurd (some refl)
filled k (c ∷ text) v some h = h

decimal_filled : (text : List ℕ) (z : ℤ) → IsDecimal text z → text ≢ []
decimal_filled [] z h = λ _. absurd (omega (arith, h.numeral.0))
decimal_filled (c ∷ text) z h = λ e. absurd cc

date_filled : (text : List ℕ) (z : ℤ) → IsDateText text z → text ≢ []
date_filled [] z h = λ _. absurd (omega (arith, h.len))
date_filled (c ∷ text) z h = λ e. absurd cc

bool_stands : (b : Bool) (k : kind.the_data) → IsOfKind k (value.Boolean b) → DeltaStands k (Some (if b then codes "true" else codes "false")) (value.Boolean b)
bool_stands true kind.Boolean h = inl (refl, refl)
bool_stands false kind.Boolean h = inr (refl, refl)
bool_stands b kind.Int h = absurd h
bool_stands b kind.Long h = absurd h
bool_stands b kind.Text h = absurd h
bool_stands b kind.Date h = absurd h

pub bool_written : (b : Bool) (text : List ℕ) → text ≡ (if b then codes "true" else codes "false") → IsDeltaText (value.Boolean b) (Some text)
bool_written b text is = record {
  writes = ap Some is;
  sole = λ other h. h ∙ ap Some (sym is);
  stands = λ k of. subst (λ t. DeltaStands k (Some t) (value.Boolean b)) (sym is) (bool_stands b k of);
}

int_stands : (z : ℤ) (text : List ℕ) → IsDecimal text z → FitsSigned w32 z → (k : kind.the_data) → IsOfKind k (value.Int z) → DeltaStands k (Some text) (value.Int z)
int_stands z text d fits kind.Boolean h = absurd h
int_stands z text d fits kind.Int h = filled kind.Int text (value.Int z) (decimal_filled text z d) (z, d, fits, refl)
int_stands z text d fits kind.Long h = absurd h
int_stands z text d fits kind.Text h = absurd h
int_stands z text d fits kind.Date h = absurd h

pub int_written : (z : ℤ) (text : List ℕ) → FitsSigned w32 z → text ≡ signed_decimal z → IsDeltaText (value.Int z) (Some text)
int_written z text fits is = record {
  writes = ap Some is;
  sole = λ other h. h ∙ ap Some (sym is);
  stands = int_stands z text (subst (λ t. IsDecimal t z) (sym is) (decimal_written z (omega (arith, ints, fits)))) fits;
}

long_stands : (z : ℤ) (text : List ℕ) → IsDecimal text z → FitsSigned w64 z → (k : kind.the_data) → IsOfKind k (value.Long z) → DeltaStands k (Some text) (value.Long z)
long_stands z text d fits kind.Boolean h = absurd h
long_stands z text d fits kind.Int h = absurd h
long_stands z text d fits kind.Long h = filled kind.Long text (value.Long z) (decimal_filled text z d) (z, d, fits, refl)
long_stands z text d fits kind.Text h = absurd h
long_stands z text d fits kind.Date h = absurd h

pub long_written : (z : ℤ) (text : List ℕ) → FitsSigned w64 z → text ≡ signed_decimal z → IsDeltaText (value.Long z) (Some text)
long_written z text fits is = record {
  writes = ap Some is;
  sole = λ other h. h ∙ ap Some (sym is);
  stands = long_stands z text (subst (λ t. IsDecimal t z) (sym is) (decimal_written z (omega (arith, ints, fits)))) fits;
}

date_stands : (z : ℤ) (text : List ℕ) → IsDateText text z → (k : kind.the_data) → IsOfKind k (value.Date z) → DeltaStands k (Some text) (value.Date z)
date_stands z text d kind.Boolean h = absurd h
date_stands z text d kind.Int h = absurd h
date_stands z text d kind.Long h = absurd h
date_stands z text d kind.Text h = absurd h
date_stands z text d kind.Date h = filled kind.Date text (value.Date z) (date_filled text z d) (z, d, refl)

only_text : (z : ℤ) (text : List ℕ) → WritesDay z text → (other : Option (List ℕ)) → WritesDelta (value.Date z) other → other ≡ Some text
only_text z text w None h = absurd h
only_text z text w (Some other) h = ap Some (WritesDay-sole z other text h w)

pub date_is_written : (z : ℤ) (text : List ℕ) → WritesDay z text → IsDeltaText (value.Date z) (Some text)
date_is_written z text w = record {
  writes = w;
  sole = only_text z text w;
  stands = date_stands z text (day_written z text w);
}

pub date_text_at : (v : PartValue) (z : ℤ) (text bytes : List ℕ) → v ≡ value.Date z → text ≡ bytes → WritesDay z bytes → IsDeltaText v (Some text)
date_text_at v z text bytes is same w = subst (λ u. IsDeltaText u (Some text)) (sym is) (subst (λ t. IsDeltaText (value.Date z) (Some t)) (sym same) (date_is_written z bytes w))
