-- The worse of two forms.
use Rattle.std.proofs.Common.{◌≡◌, ◌⊎◌, refl, sym, ap, ◌∙◌, inl, inr}
use Rattle.delta_outline.specs.declared.form.Form.{Form}
use Rattle.delta_outline.specs.declared.form.Form.TheVariants.{Known, Other, Malformed}
use Rattle.delta_outline.specs.Forms.{worse}

pub worse_known : (f : Form) → worse f Known ≡ f
worse_known Known = refl
worse_known Other = refl
worse_known Malformed = refl

pub worse_worse : (f g h : Form) → worse (worse f g) h ≡ worse f (worse g h)
worse_worse Known g h = refl
worse_worse Malformed g h = refl
worse_worse Other Known h = refl
worse_worse Other Malformed h = refl
worse_worse Other Other Known = refl
worse_worse Other Other Other = refl
worse_worse Other Other Malformed = refl

pub one_of : (f g : Form) → (worse f g ≡ f) ⊎ (worse f g ≡ g)
one_of Known g = inr refl
one_of Malformed g = inl refl
one_of Other Known = inl refl
one_of Other Other = inl refl
one_of Other Malformed = inr refl

-- The first is no worse than the second.
abbrev pub Below : Form → Form → Type 0
Below f g = worse f g ≡ g

pub below_self : (f : Form) → Below f f
below_self Known = refl
below_self Other = refl
below_self Malformed = refl

pub below_left : (f g : Form) → Below f (worse f g)
below_left f g = sym (worse_worse f f g) ∙ ap (λ x. worse x g) (below_self f)

pub below_right : (f g : Form) → Below g (worse f g)
below_right Known g = below_self g
below_right Malformed Known = refl
below_right Malformed Other = refl
below_right Malformed Malformed = refl
below_right Other Known = refl
below_right Other Other = refl
below_right Other Malformed = refl

pub below_trans : (f g h : Form) → Below f g → Below g h → Below f h
below_trans f g h first second = ap (worse f) (sym second) ∙ sym (worse_worse f g h) ∙ ap (λ x. worse x h) first ∙ second

pub bad_below : (f : Form) → Below Malformed f → f ≡ Malformed
bad_below f h = sym h

pub other_below : (f : Form) → Below Other f → f ≡ Known → ⊥
other_below f h is = by (ap (worse Other) (sym is) ∙ h ∙ is)
  where
    by : ◌≡◌ {A = Form} Other Known → ⊥
    by e = absurd cc
