-- The JSON of a line holds no float and is shallow.
use Rattle.std.proofs.Common.{◌≡◌, ℕ, ◌≤◌, List, [], ◌∷◌, Option, Some, None, false, ℤ, pos, negsuc, refl, arith}
use Rattle.serde_json.specs.Data.{string, no_members, depth, items_depth}
use Rattle.serde_json.specs.Find.{of_integer, is_float}
use Rattle.serde_json.specs.Read.{max_depth}
use Rattle.serde_json.specs.Written.{has_float, items_have_float}
use Rattle.delta_log.specs.declared.commit.FileAction.{FileAction}
use Rattle.delta_log.specs.declared.commit.FileAction.TheVariants as file
use Rattle.delta_log.specs.declared.commit.MetaData.{MetaData}
use Rattle.delta_log.specs.declared.commit.Protocol.{Protocol}
use Rattle.json_reading.specs.Json.{text_or_null_data, texts_data}
use Rattle.delta_text.specs.Writing.{protocol_data, meta_data_data, file_data}
use Rattle.delta_text.proofs.WrittenLemmas.{AreFlat, IsFlat, members_with_flat}

integer_flat : (z : ℤ) → is_float (of_integer z) ≡ false
integer_flat (pos n) = refl
integer_flat (negsuc n) = refl

string_flat : (s : List ℕ) → IsFlat (string s)
string_flat s = record { no_float = refl; shallow = refl }

value_flat : (v : Option (List ℕ)) → IsFlat (text_or_null_data v)
value_flat None = record { no_float = refl; shallow = refl }
value_flat (Some s) = string_flat s

none_flat : AreFlat no_members
none_flat = record { no_float = refl; shallow = refl }

texts_no_float : (ts : List (List ℕ)) → items_have_float (texts_data ts) ≡ false
texts_no_float [] = refl
texts_no_float (t ∷ ts) = texts_no_float ts

texts_shallow : (ts : List (List ℕ)) → items_depth (texts_data ts) ≡ 0
texts_shallow [] = refl
texts_shallow (t ∷ ts) = rw (texts_shallow ts)

abbrev protocol_of : ℤ → ℤ → Option (List (List ℕ)) → Option (List (List ℕ)) → Protocol
protocol_of v w r s = record { reader = v; writer = w; reader_features = r; writer_features = s }

no_float_by : (v w : ℤ) (r s : Option (List (List ℕ))) → has_float (protocol_data (protocol_of v w r s)) ≡ false
no_float_by v w None None = rw (integer_flat v, integer_flat w)
no_float_by v w (Some ts) None = rw (integer_flat v, integer_flat w, texts_no_float ts)
no_float_by v w None (Some us) = rw (integer_flat v, integer_flat w, texts_no_float us)
no_float_by v w (Some ts) (Some us) = rw (integer_flat v, integer_flat w, texts_no_float ts, texts_no_float us)

shallow_by : (v w : ℤ) (r s : Option (List (List ℕ))) → depth (protocol_data (protocol_of v w r s)) ≤ max_depth
shallow_by v w None None = omega arith
shallow_by v w (Some ts) None = rw (texts_shallow ts) (omega arith)
shallow_by v w None (Some us) = rw (texts_shallow us) (omega arith)
shallow_by v w (Some ts) (Some us) = rw (texts_shallow ts, texts_shallow us) (omega arith)

pub protocol_no_float : (p : Protocol) → has_float (protocol_data p) ≡ false
protocol_no_float p = no_float_by p.reader p.writer p.reader_features p.writer_features

pub protocol_shallow : (p : Protocol) → depth (protocol_data p) ≤ max_depth
protocol_shallow p = shallow_by p.reader p.writer p.reader_features p.writer_features

pub meta_no_float : (m : MetaData) → has_float (meta_data_data m) ≡ false
meta_no_float m = rw ((members_with_flat string string_flat m.configuration no_members none_flat).no_float, texts_no_float m.partition)

pub meta_shallow : (m : MetaData) → depth (meta_data_data m) ≤ max_depth
meta_shallow m = rw ((members_with_flat string string_flat m.configuration no_members none_flat).shallow, texts_shallow m.partition) (omega arith)

pub file_shallow : (now : ℕ) (f : FileAction) → depth (file_data now f) ≤ max_depth
file_shallow now (file.Add path values size count) = rw ((members_with_flat text_or_null_data value_flat values no_members none_flat).shallow) (omega arith)
file_shallow now (file.Remove path) = omega arith
