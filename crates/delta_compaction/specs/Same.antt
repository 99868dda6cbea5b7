-- Whether two commits say the same, as functions.
use Rattle.std.specs.Prelude.{ℕ, ◌==◌, ◌&&◌, List, Bool, true, false, Option, Some, None}
use Rattle.std.specs.Cmp.Lexicographic.{pointwise}
use Rattle.std.specs.Option.{option_eq}
use Rattle.std.specs.Ordering.{int_eq}
use Rattle.std.specs.Str.{bytes_eq}
use Rattle.delta_log.specs.declared.commit.FileAction.{FileAction}
use Rattle.delta_log.specs.declared.commit.FileAction.TheVariants as file
use Rattle.delta_log.specs.declared.commit.MetaData.{MetaData}
use Rattle.delta_log.specs.declared.commit.Protocol.{Protocol}

abbrev pub features_eq : Option (List (List ℕ)) → Option (List (List ℕ)) → Bool
features_eq = option_eq (pointwise bytes_eq)

abbrev pub versions_eq : Protocol → Protocol → Bool
versions_eq p q = int_eq p.reader q.reader && (int_eq p.writer q.writer && (features_eq p.reader_features q.reader_features && features_eq p.writer_features q.writer_features))

abbrev pub protocol_eq : Option Protocol → Option Protocol → Bool
protocol_eq None None = true
protocol_eq (Some p) (Some q) = versions_eq p q
protocol_eq _ _ = false

abbrev pub setting_eq : List ℕ × List ℕ → List ℕ × List ℕ → Bool
setting_eq p q = bytes_eq p.0 q.0 && bytes_eq p.1 q.1

abbrev pub settings_eq : MetaData → MetaData → Bool
settings_eq m n = bytes_eq m.id n.id && (bytes_eq m.schema n.schema && (pointwise bytes_eq m.partition n.partition && pointwise setting_eq m.configuration n.configuration))

abbrev pub meta_eq : Option MetaData → Option MetaData → Bool
meta_eq None None = true
meta_eq (Some m) (Some n) = settings_eq m n
meta_eq _ _ = false

abbrev pub value_eq : List ℕ × Option (List ℕ) → List ℕ × Option (List ℕ) → Bool
value_eq p q = bytes_eq p.0 q.0 && option_eq bytes_eq p.1 q.1

abbrev pub file_eq : FileAction → FileAction → Bool
file_eq (file.Add p vs size count) (file.Add q ws bytes records) = bytes_eq p q && (pointwise value_eq vs ws && ((size == bytes) && (count == records)))
file_eq (file.Remove p) (file.Remove q) = bytes_eq p q
file_eq _ _ = false

abbrev pub files_eq : List FileAction → List FileAction → Bool
files_eq = pointwise file_eq
