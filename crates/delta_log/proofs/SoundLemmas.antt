-- Commits stay sound as they grow.
use Rattle.std.proofs.Common.{◌≡◌, ◌<◌, List, [], ◌∷◌, length, None, false, sym, subst, length-append, nat_le, arith}
use Rattle.std.proofs.lemmas.Cmp.{nat_list_eq_equiv}
use Rattle.std.proofs.lemmas.Grind.{common_steps}
use Rattle.std.proofs.lemmas.List.{map-append}
use Rattle.std.proofs.lemmas.List.Elements.{All-push, All-nil}
use Rattle.std.proofs.lemmas.Map.Keys.{IsDistinct-push}
use Rattle.std.specs.List.{IsDistinct}
use Rattle.std.specs.Str.{bytes_eq}
use Rattle.lake_basics.specs.declared.limits.TheConstants.{MAX_ACTIONS}
use Rattle.delta_log.specs.declared.commit.DeltaCommit.{DeltaCommit}
use Rattle.delta_log.specs.declared.commit.FileAction.{FileAction}
use Rattle.delta_log.specs.declared.judging.Addition.{Addition}
use Rattle.delta_log.specs.declared.judging.Addition.TheVariants as addition
use Rattle.delta_log.specs.Adding.{IsSoundAddition, with_addition}
use Rattle.delta_log.specs.Commit.{file_path, file_paths}
use Rattle.delta_log.specs.Judging.{acts_on, with_new_file, no_lines}
use Rattle.delta_log.specs.Sound.{IsSoundFile, IsWritable}

sound_no_lines : IsWritable no_lines
unfolding IsDistinct
sound_no_lines = record { sound = record { files = All-nil IsSoundFile; distinct = tt; configuration = tt }; protocol = tt; few = omega arith }

abbrev with_files : List FileAction → DeltaCommit
with_files fs = record { protocol = None; meta = None; files = fs }

pub sound_nothing : (fs : List FileAction) → fs ≡ [] → IsWritable (with_files fs)
sound_nothing fs is = subst (λ l. IsWritable (with_files l)) (sym is) sound_no_lines

pub sound_more : (c : DeltaCommit) (f : FileAction) → IsWritable c → IsSoundFile f → nat_le MAX_ACTIONS (length c.files) ≡ false → acts_on (file_path f) c.files ≡ false → IsWritable (with_new_file c f)
sound_more c f fits sound room new =
    let small : length c.files < MAX_ACTIONS = grind (arith, common_steps) in
    record {
      sound = record {
        files = All-push IsSoundFile c.files f fits.sound.files sound;
        distinct = subst (IsDistinct bytes_eq) (sym (map-append file_path c.files (f ∷ []))) (IsDistinct-push nat_list_eq_equiv (file_paths c.files) (file_path f) fits.sound.distinct new);
        configuration = fits.sound.configuration;
      };
      protocol = fits.protocol;
      few = rw length-append (omega arith);
    }

pub sound_addition : (c : DeltaCommit) (a : Addition) → IsWritable c → IsSoundAddition c a → IsWritable (with_addition c a)
sound_addition c addition.Nothing fits sound = fits
sound_addition c (addition.Protocol p) fits sound =
    record { sound = record { files = fits.sound.files; distinct = fits.sound.distinct; configuration = fits.sound.configuration }; protocol = sound; few = fits.few }
sound_addition c (addition.MetaData m) fits sound =
    record { sound = record { files = fits.sound.files; distinct = fits.sound.distinct; configuration = sound }; protocol = fits.protocol; few = fits.few }
sound_addition c (addition.File f) fits sound = sound_more c f fits sound.0 sound.1.0 sound.1.1
