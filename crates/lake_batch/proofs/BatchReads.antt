-- What reading a batch gives, at each of its ends.
use Rattle.std.proofs.Common.{◌≡◌, ◌≤◌, ℕ, Bool, true, false, ◌&&◌, List, [], ◌∷◌, length, map, refl, sym, subst, if◌then◌else◌}
use Rattle.std.specs.Prelude.{codes, Option, Some, None, Result, Ok, Err}
use Rattle.std.specs.Str.{bytes_eq}
use Rattle.toml.specs.Data.{Data, Members, as_array, as_str, as_table}
use Rattle.lake_basics.specs.Outcome.{Fails, ◌>>=◌, each, required}
use Rattle.lake_basics.specs.declared.outcome.ReadError.{ReadError}
use Rattle.lake_basics.specs.declared.outcome.ReadError.TheVariants as errors
use Rattle.lake_batch.specs.Batch.{AreApart, AreFolders, IsBatch, IsFault, IsJudgedSo, IsNoToml, IsReadBy, IsShort, IsToml, batch_document, folder_of}
use Rattle.lake_batch.specs.Reading.{item_in, item_of_members, items_in, list_of, only_member, tables_in, tables_of_member, text_in, texts_in, two_members}
use Rattle.lake_batch.specs.declared.batch.Item.{Item}
use Rattle.lake_batch.specs.declared.batch.Why.{Why}
use Rattle.lake_batch.specs.declared.batch.Why.TheVariants.{Missing, Long, Syntax, Shape, Many, Folder, Overlap}
use Rattle.lake_batch.proofs.BatchLaws.{no_tables, tables_given}

-- ---- the form has one fault alone

same_fault : (A : Type 0) (f g : Why) → ◌≡◌ {A = Result A Why} (Err f) (Err g) → g ≡ f
same_fault A f g is = cc is

no_fault : {A : Type 0} (x : A) (f : Why) → Ok x ≡ Err f → ⊥
no_fault x f is = cc is

required_shape : {A : Type 0} (o : Option A) (f : Why) → required Shape o ≡ Err f → f ≡ Shape
required_shape None f is = same_fault _ Shape f is
required_shape (Some x) f is = absurd (no_fault x f is)

bind_shape : {A B : Type 0} (r : Result A Why) (g : A → Result B Why) (f : Why) → ((f : Why) → r ≡ Err f → f ≡ Shape) → ((x : A) → g x ≡ Err f → f ≡ Shape) → (r >>= g) ≡ Err f → f ≡ Shape
bind_shape (Ok x) g f first rest is = rest x is
bind_shape {A = A} {B = B} (Err e) g f first rest is = let here : ◌≡◌ {A = Result A Why} (Err e) (Err f) = λ i. Err (sym (same_fault B e f is) i) in first f here

each_shape : {X : Type 0} (read : Data → Result X Why) → ((d : Data) (f : Why) → read d ≡ Err f → f ≡ Shape) → (ds : List Data) (f : Why) → each read ds ≡ Err f → f ≡ Shape
each_shape read one [] f is = absurd (no_fault [] f is)
each_shape read one (d ∷ ds) f is =
    bind_shape (read d) (λ first. each read ds >>= (λ others. Ok (first ∷ others))) f (one d)
    (λ first more. bind_shape (each read ds) (λ others. Ok (first ∷ others)) f (each_shape read one ds) (λ others done. absurd (no_fault (first ∷ others) f done)) more) is

text_shape : (d : Data) (f : Why) → text_in d ≡ Err f → f ≡ Shape
text_shape d f is = required_shape (as_str d) f is

texts_shape : (d : Data) (f : Why) → texts_in d ≡ Err f → f ≡ Shape
texts_shape d f is = bind_shape (required Shape (as_array d)) _ f (required_shape (as_array d)) (λ ds more. each_shape text_in text_shape (list_of ds) f more) is

if_shape : {A : Type 0} (b : Bool) (r : Result A Why) (f : Why) → (r ≡ Err f → f ≡ Shape) → (if b then r else Err Shape) ≡ Err f → f ≡ Shape
if_shape true r f so is = so is
if_shape false r f so is = same_fault _ Shape f is

members_shape : (ms : Option ((List ℕ × Data) × (List ℕ × Data))) (f : Why) → item_of_members ms ≡ Err f → f ≡ Shape
unfolding item_of_members
members_shape None f is = same_fault _ Shape f is
members_shape (Some (command, folder)) f is =
    if_shape (bytes_eq command.0 (codes "command") && bytes_eq folder.0 (codes "folder")) _ f
    (λ more. bind_shape (texts_in command.1) _ f (texts_shape command.1) (λ texts rest. bind_shape (text_in folder.1) _ f (text_shape folder.1) (λ text done. absurd (no_fault _ f done)) rest) more) is

item_shape : (d : Data) (f : Why) → item_in d ≡ Err f → f ≡ Shape
unfolding item_in
item_shape d f is = bind_shape (required Shape (as_table d)) _ f (required_shape (as_table d)) (λ ms more. members_shape (two_members ms) f more) is

items_shape : (d : Data) (f : Why) → items_in d ≡ Err f → f ≡ Shape
items_shape d f is = bind_shape (required Shape (as_array d)) _ f (required_shape (as_array d)) (λ ds more. each_shape item_in item_shape (list_of ds) f more) is

tables_shape : (m : Option (List ℕ × Data)) (f : Why) → tables_of_member m ≡ Err f → f ≡ Shape
unfolding tables_of_member
tables_shape None f is = same_fault _ Shape f is
tables_shape (Some m) f is = if_shape (bytes_eq m.0 (codes "table")) (items_in m.1) f (items_shape m.1 f) is

-- ---- the ends of reading

module _ (place bytes : List ℕ) (short : IsShort bytes) where
  pub no_document : (e : ReadError Why) → ((why : Why) → e ≡ errors.Fault why → (why ≡ Syntax) × IsNoToml bytes) → IsReadBy place bytes (Err e)
  no_document errors.Memory so = tt
  no_document (errors.Fault why) so = subst (IsFault place bytes) (sym (so why refl).0) (short, (so why refl).1)

  module _ (document : Members) (toml : IsToml bytes document) where
    pub no_form : (e : ReadError Why) → Fails e (tables_in document) → IsReadBy place bytes (Err e)
    no_form errors.Memory none = tt
    no_form (errors.Fault why) none =
        subst (IsFault place bytes) (sym (tables_shape (only_member document) why none)) (short, (document, toml, no_tables document why none))

    module _ (tables : List Item) (read : tables_in document ≡ Ok tables) where
      toml_of : IsToml bytes (batch_document tables)
      toml_of = subst (IsToml bytes) (tables_given document tables read) toml

      pub no_batch : (e : ReadError Why) → IsJudgedSo place tables (Err e) → IsReadBy place bytes (Err e)
      no_batch errors.Memory judged = tt
      no_batch (errors.Fault Many) judged = (short, (tables, toml_of, judged))
      no_batch (errors.Fault Folder) judged = (short, (tables, toml_of, judged))
      no_batch (errors.Fault Overlap) judged = (short, (tables, toml_of, judged))
      no_batch (errors.Fault Missing) judged = absurd judged
      no_batch (errors.Fault Long) judged = absurd judged
      no_batch (errors.Fault Syntax) judged = absurd judged
      no_batch (errors.Fault Shape) judged = absurd judged

      pub a_batch : (length tables ≤ 1000) × AreFolders (length place) tables × AreApart (map folder_of tables) → IsBatch place bytes tables
      a_batch judged = record { short = short; form = toml_of; few = judged.0; folders = judged.1; apart = judged.2 }
