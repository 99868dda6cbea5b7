-- What the outline of a text tells of the text.
use Rattle.std.proofs.Common.{◌≡◌, ◌⊎◌, ℕ, zero, suc, ◌≤◌, Bool, true, false, cond, List, Option, Some, None, Result, Ok, Err, codes, refl, sym, ap, subst, ◌∙◌, inl, inr, ⊎_elim, arith}
use Rattle.std.specs.Prelude.{IfOk, IfErr}
use Rattle.std.specs.Str.{bytes_eq, is_utf8}
use Rattle.serde_json.specs.Data.{Data, string, Items, depth}
use Rattle.serde_json.specs.Find.{get}
use Rattle.serde_json.specs.Read.{read, max_depth}
use Rattle.serde_json.proofs.Nesting.{depth-read}
use Rattle.lake_basics.specs.Outcome.{◌>>=◌, required, each, Gives}
use Rattle.lake_basics.specs.declared.outcome.ReadError.{ReadError}
use Rattle.lake_basics.specs.declared.outcome.ReadError.TheVariants as read_errors
use Rattle.json_reading.specs.Json.{json, text_member, list_member, items}
use Rattle.schema_delta.specs.DeltaRefusal.{IsDeltaPart, IsOtherDeltaType, IsBadDeltaSchema, DeltaColumnHasOther, IsDeltaRefused}
use Rattle.schema_map.specs.Among.{IsAmong}
use Rattle.schema_map.specs.Places.{IsWithin, IsNamed}
use Rattle.schema_map.specs.declared.fault.MapError.TheVariants as map_errors
use Rattle.schema_map.proofs.Failing.{each_failed, not_word}
use Rattle.schema_map.proofs.Places.{named_word, two_words, struct_map}
use Rattle.delta_outline.specs.declared.fault.OutlineFault.{OutlineFault}
use Rattle.delta_outline.specs.declared.fault.OutlineFault.TheVariants as fault
use Rattle.delta_outline.specs.declared.form.Form.{Form}
use Rattle.delta_outline.specs.declared.form.Form.TheVariants.{Known, Other, Malformed}
use Rattle.delta_outline.specs.declared.outline.Outline.{Outline}
use Rattle.delta_outline.specs.Forms.{worse, field_name, own_form, parts_form, form}
use Rattle.delta_outline.specs.Outlines.{outlined, outline_by, outline_of, outline_of_text, IsOutline, IsNoOutline}
use Rattle.delta_outline.proofs.WorseLemmas.{worse_known, one_of, Below, below_self, below_left, below_right, below_trans, bad_below, other_below}
use Rattle.delta_outline.proofs.OwnLemmas.{field_fails, own_bad, bad_own, own_other, other_own, names_are, name_among}
use Rattle.delta_outline.proofs.PartLemmas.{parts_at, parts_below, part_depth}

-- ---- the form of a place and of those inside it

abbrev At : Data → Form → Type 0
At d f = (k : ℕ) × (p : Data) × IsWithin IsDeltaPart k d p × (own_form p ≡ f)

at_here : (d : Data) (f : Form) → own_form d ≡ f → At d f
unfolding IsWithin
at_here d f is = (0, d, refl, is)

at_part : (d part : Data) (f : Form) → IsDeltaPart d part → At part f → At d f
unfolding IsWithin
at_part d part f is at = (suc at.0, at.1, (part, is, at.2), at.3)

-- it is the form of some place
attained : (n : ℕ) (d : Data) → At d (form n d)
unfolding form
attained zero d = at_here d (own_form d) refl
attained (suc n) d =
    let own = own_form d in
    let parts = parts_form (form n) d in
    ⊎_elim
    (λ here. at_here d (worse own parts) (sym here))
    (λ inside. ⊎_elim
    (λ known. at_here d (worse own parts) (sym (worse_known own) ∙ ap (worse own) (sym known)))
    (λ at. at_part d at.0 (worse own parts) at.1 (subst (At at.0) (at.2 ∙ sym inside) (attained n at.0)))
    (parts_at (form n) d))
    (one_of own parts)

no_depth : (d part : Data) → depth d ≤ 0 → suc (depth part) ≤ depth d → ⊥
no_depth d part a b = omega (arith, a, b)

less_depth : (d part : Data) (n : ℕ) → depth d ≤ suc n → suc (depth part) ≤ depth d → depth part ≤ n
less_depth d part n a b = omega (arith, a, b)

-- and no place has a worse one
bounded : (n : ℕ) (d : Data) → depth d ≤ n → (k : ℕ) (p : Data) → IsWithin IsDeltaPart k d p → Below (own_form p) (form n d)
unfolding form IsWithin
bounded zero d small zero p within = subst (λ x. Below (own_form x) (own_form d)) within (below_self (own_form d))
bounded zero d small (suc k) p within = absurd (no_depth d within.0 small (part_depth d within.0 within.1))
bounded (suc n) d small zero p within = subst (λ x. Below (own_form x) (form (suc n) d)) within (below_left (own_form d) (parts_form (form n) d))
bounded (suc n) d small (suc k) p within =
    let part = within.0 in
    let inside : Below (own_form p) (form n part) = bounded n part (less_depth d part n small (part_depth d part within.1)) k p within.2 in
    let below : Below (own_form p) (parts_form (form n) d) = below_trans (own_form p) (form n part) (parts_form (form n) d) inside (parts_below (form n) d part within.1) in
    below_trans (own_form p) (parts_form (form n) d) (form (suc n) d) below (below_right (own_form d) (parts_form (form n) d))

-- ---- without an outline

abbrev made : Bool → List (List ℕ) → Result Outline OutlineFault
made has_other names = Ok (record { names = names; has_other = has_other })

bad_at : (d : Data) → At d Malformed → IsBadDeltaSchema d
bad_at d at = inr (at.0, at.1, at.2, own_bad at.1 at.3)

bad_here : (d : Data) → IsNamed (codes "struct") d → (e : OutlineFault) (has_other : Bool) → outlined has_other d ≡ Err e → IsBadDeltaSchema d
unfolding IsWithin
bad_here d named e has_other h = by (list_member (codes "fields") d) refl h
  where
    fields_by : (ds : Items) (r : Result (List (List ℕ)) OutlineFault) → list_member (codes "fields") d ≡ Some ds → each field_name (items ds) ≡ r
        → (r >>= λ names. made has_other names) ≡ Err e → IsBadDeltaSchema d
    fields_by ds (Ok names) is reads f = absurd cc
    fields_by ds (Err x) is fails f = let at = each_failed field_name (items ds) x fails in inr (0, d, refl, inr (inl (named, inr (ds, is, inr (at.at, at.among, field_fails at.at x at.fails)))))

    by : (o : Option Items) → list_member (codes "fields") d ≡ o → (required fault.Malformed o >>= λ fields. each field_name (items fields) >>= λ names. made has_other names) ≡ Err e → IsBadDeltaSchema d
    by None is f = inr (0, d, refl, inr (inl (named, inl is)))
    by (Some ds) is f = fields_by ds (each field_name (items ds)) is refl f

form_refused : (d : Data) (e : OutlineFault) (f : Form) → IsNamed (codes "struct") d → At d f → outline_by f d ≡ Err e → IsBadDeltaSchema d
form_refused d e Known named at h = bad_here d named e false h
form_refused d e Other named at h = bad_here d named e true h
form_refused d e Malformed named at h = bad_at d at

data_refused : (d : Data) (e : OutlineFault) → outline_of d ≡ Err e → IsBadDeltaSchema d
data_refused d e h = by (text_member (codes "type") d) refl h
  where
    by : (o : Option (List ℕ)) → text_member (codes "type") d ≡ o → (required fault.Malformed o >>= λ word. cond (bytes_eq word (codes "struct")) (outline_by (form max_depth d) d) (Err fault.Malformed)) ≡ Err e → IsBadDeltaSchema d
    by None is f = inl (λ named. let wrong : None ≡ Some (codes "struct") = sym is ∙ named in absurd cc)
    by (Some w) is f = at (bytes_eq w (codes "struct")) refl f
      where
        at : (b : Bool) → bytes_eq w (codes "struct") ≡ b → cond b (outline_by (form max_depth d) d) (Err fault.Malformed) ≡ Err e → IsBadDeltaSchema d
        at true same g = form_refused d e (form max_depth d) (named_word d w (codes "struct") is same) (attained max_depth d) g
        at false other g = inl (λ named. not_word w (codes "struct") other (sym is ∙ named))

pub text_refused : (text : List ℕ) (e : OutlineFault) → outline_of_text text ≡ Err e → IsDeltaRefused text map_errors.BadSchema
unfolding outline_of_text
text_refused text e h = by (json text) refl h
  where
    by : (o : Option Data) → json text ≡ o → (required fault.Malformed o >>= outline_of) ≡ Err e → IsDeltaRefused text map_errors.BadSchema
    by None is f = inl is
    by (Some d) is f = inr (d, is, data_refused d e f)

-- ---- with one

no_array : (d : Data) → IsNamed (codes "struct") d → IsNamed (codes "array") d → ⊥
no_array d a b = not_word (codes "struct") (codes "array") refl (two_words d (codes "struct") (codes "array") a b)

struct_known : (d : Data) → IsNamed (codes "struct") d → IsOtherDeltaType d → ⊥
struct_known d named (inl word) = by d word.0 word.1 named
  where
    by : (x : Data) (w : List ℕ) → x ≡ string w → IsNamed (codes "struct") x → ⊥
    by x w is h = let wrong : text_member (codes "type") (string w) ≡ Some (codes "struct") = subst (IsNamed (codes "struct")) is h in absurd cc
struct_known d named (inr other) = other.2.0 (two_words d other.0 (codes "struct") other.1 named)

module _ (d : Data) (named : IsNamed (codes "struct") d) (ds : Items) (lists : list_member (codes "fields") d ≡ Some ds) (names : List (List ℕ)) (reads : each field_name (items ds) ≡ Ok names) where
  one_list : (es : Items) → list_member (codes "fields") d ≡ Some es → es ≡ ds
  one_list es is = let same : Some es ≡ Some ds = sym is ∙ lists in cc

  other_part : (part : Data) (n : ℕ) (p : Data) → IsDeltaPart d part → IsWithin IsDeltaPart n part p → IsOtherDeltaType p → (name : List ℕ) × DeltaColumnHasOther d name
  other_part part n p (inl s) within other =
      let among : IsAmong s.1 (items ds) = subst (λ es. IsAmong s.1 (items es)) (one_list s.0 s.3) s.4 in
      let name = name_among (items ds) names s.1 reads among in
      (name.0, (ds, s.1, part, n, p, lists, among, name.1, s.5, within, other))
  other_part part n p (inr (inl l)) within other = absurd (no_array d named l.0)
  other_part part n p (inr (inr m)) within other = absurd (struct_map d named m.0)

  has_other_at : At d Other → (name : List ℕ) × DeltaColumnHasOther d name
  unfolding IsWithin
  has_other_at at = by at.0 at.1 at.2 (own_other at.1 at.3)
    where
      by : (k : ℕ) (p : Data) → IsWithin IsDeltaPart k d p → IsOtherDeltaType p → (name : List ℕ) × DeltaColumnHasOther d name
      by zero p within other = absurd (struct_known d named (subst IsOtherDeltaType (sym within) other))
      by (suc n) p within other = other_part within.0 n p within.1 within.2 other

  module _ (small : depth d ≤ max_depth) where
    inside : (k : ℕ) (p : Data) → IsWithin IsDeltaPart k d p → Below (own_form p) (form max_depth d)
    inside k p within = bounded max_depth d small k p within

    in_grammar : (form max_depth d ≡ Malformed → ⊥) → IsBadDeltaSchema d → ⊥
    in_grammar good (inl other) = other named
    in_grammar good (inr bad) = good (bad_below (form max_depth d) (subst (λ f. Below f (form max_depth d)) (bad_own bad.1 bad.3) (inside bad.0 bad.1 bad.2)))

    no_other : form max_depth d ≡ Known → (name : List ℕ) → DeltaColumnHasOther d name → ⊥
    unfolding IsWithin
    no_other known name h =
        let within : IsWithin IsDeltaPart (suc h.3) d h.4 = within_field h.0 h.1 h.2 h.3 h.4 h.5 h.6 h.8 h.9 in
        other_below (form max_depth d) (subst (λ f. Below f (form max_depth d)) (other_own h.4 h.10) (inside (suc h.3) h.4 within)) known
      where
        within_field : (es : Items) (field kind : Data) (n : ℕ) (p : Data) → list_member (codes "fields") d ≡ Some es → IsAmong field (items es) → get (codes "type") field ≡ Some kind → IsWithin IsDeltaPart n kind p → IsWithin IsDeltaPart (suc n) d p
        within_field es field kind n p is among type within = (kind, inl (es, field, named, is, among, type), within)

    pub outline_is : (text : List ℕ) (o : Outline) (f : Form) (b : Bool) → json text ≡ Some d → form max_depth d ≡ f → (f ≡ Malformed → ⊥) → (b ≡ true → f ≡ Other) → (b ≡ false → f ≡ Known) → record { names = names; has_other = b } ≡ o → IsOutline text o
    outline_is text o f b is form_is good other known same =
        subst (IsOutline text) same (record {
          whole = d;
          fields = ds;
          reads = is;
          lists = lists;
          names = names_are (items ds) names reads;
          grammar = in_grammar (λ bad. good (sym form_is ∙ bad));
          other = λ e. has_other_at (subst (At d) (form_is ∙ other e) (attained max_depth d));
          none = λ e. no_other (form_is ∙ known e);
        })

small_by : (text : List ℕ) (d : Data) (b : Bool) → cond b (read text) None ≡ Some d → depth d ≤ max_depth
small_by text d true h = depth-read text d h
small_by text d false h = absurd cc

outlined_is : (text : List ℕ) (d : Data) (o : Outline) (f : Form) (b : Bool) → json text ≡ Some d → IsNamed (codes "struct") d → form max_depth d ≡ f → (f ≡ Malformed → ⊥) → (b ≡ true → f ≡ Other) → (b ≡ false → f ≡ Known) → outlined b d ≡ Ok o → IsOutline text o
outlined_is text d o f b is named form_is good other known h = by (list_member (codes "fields") d) refl h
  where
    fields_by : (ds : Items) (r : Result (List (List ℕ)) OutlineFault) → list_member (codes "fields") d ≡ Some ds → each field_name (items ds) ≡ r
        → (r >>= λ names. made b names) ≡ Ok o → IsOutline text o
    fields_by ds (Err x) lists reads g = absurd cc
    fields_by ds (Ok names) lists reads g = outline_is d named ds lists names reads (small_by text d (is_utf8 text) is) text o f b is form_is good other known (cc)

    by : (l : Option Items) → list_member (codes "fields") d ≡ l → (required fault.Malformed l >>= λ fields. each field_name (items fields) >>= λ names. made b names) ≡ Ok o → IsOutline text o
    by None lists g = absurd cc
    by (Some ds) lists g = fields_by ds (each field_name (items ds)) lists refl g

true_false : true ≡ false → ⊥
true_false e = absurd cc

form_found : (text : List ℕ) (d : Data) (o : Outline) (f : Form) → json text ≡ Some d → IsNamed (codes "struct") d → form max_depth d ≡ f → outline_by f d ≡ Ok o → IsOutline text o
form_found text d o Known is named form_is h = outlined_is text d o Known false is named form_is (λ e. absurd cc) (λ e. absurd (true_false (sym e))) (λ e. refl) h
form_found text d o Other is named form_is h = outlined_is text d o Other true is named form_is (λ e. absurd cc) (λ e. refl) (λ e. absurd (true_false e)) h
form_found text d o Malformed is named form_is h = absurd cc

data_found : (text : List ℕ) (d : Data) (o : Outline) → json text ≡ Some d → outline_of d ≡ Ok o → IsOutline text o
data_found text d o is h = by (text_member (codes "type") d) refl h
  where
    by : (w : Option (List ℕ)) → text_member (codes "type") d ≡ w → (required fault.Malformed w >>= λ word. cond (bytes_eq word (codes "struct")) (outline_by (form max_depth d) d) (Err fault.Malformed)) ≡ Ok o → IsOutline text o
    by None named g = absurd cc
    by (Some w) named g = at (bytes_eq w (codes "struct")) refl g
      where
        at : (b : Bool) → bytes_eq w (codes "struct") ≡ b → cond b (outline_by (form max_depth d) d) (Err fault.Malformed) ≡ Ok o → IsOutline text o
        at true same f = form_found text d o (form max_depth d) is (named_word d w (codes "struct") named same) refl f
        at false other f = absurd cc

pub text_found : (text : List ℕ) (o : Outline) → outline_of_text text ≡ Ok o → IsOutline text o
unfolding outline_of_text
text_found text o h = by (json text) refl h
  where
    by : (w : Option Data) → json text ≡ w → (required fault.Malformed w >>= outline_of) ≡ Ok o → IsOutline text o
    by None is g = absurd cc
    by (Some d) is g = data_found text d o is g

-- ---- by what a reading gives

pub found_by : (text : List ℕ) (r : Result Outline (ReadError OutlineFault)) → Gives (λ o. o) r (outline_of_text text) → IfOk r (IsOutline text)
found_by text (Ok o) given = text_found text o given
found_by text (Err e) given = tt

pub refused_by : (text : List ℕ) (r : Result Outline (ReadError OutlineFault)) → Gives (λ o. o) r (outline_of_text text) → IfErr r (IsNoOutline text)
refused_by text (Ok o) given = tt
refused_by text (Err read_errors.Memory) given = tt
refused_by text (Err (read_errors.Fault f)) given = text_refused text f given
