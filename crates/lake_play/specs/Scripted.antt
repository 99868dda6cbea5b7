-- What contracts see of a fuse while a target is synced over it.
use Rattle.std.specs.Prelude.{◌≡◌, ◌⊎◌, ℕ, ◌+◌, ◌*◌, ◌-◌, ◌^◌, min, nat_le, ◌==◌, if◌then◌else◌, Bool, false, not, ◌||◌, List, [], ◌∷◌, Option, None, Some}
use Rattle.lake_store.specs.Cause.{count_of}
use Rattle.lake_store.specs.Disk.{Disk, Files}
use Rattle.lake_store.specs.Fuse.{FuseCanBeContested, FuseCanFail, contests_of, faults_of, fuse_disk, fuse_left_since, fuse_time, room_of}
use Rattle.lake_store.specs.declared.store.Store.{Ghosts}
use Rattle.lake_play.specs.declared.scripted.Scripted.{Scripted}

-- 0 of no number, and 1 of some
abbrev pub some_of : List ℕ → ℕ
some_of [] = 0
some_of (n ∷ ns) = 1

-- 0 where there is no stop, 1 where there is one, and 2 where it is past 64 bits
abbrev pub stop_of : Option ℕ → ℕ
stop_of None = 0
stop_of (Some stop) = if nat_le stop (2 ^ 64 - 1) then 1 else 2

-- the room that it was given, up to 2^32 - 1
abbrev pub known_room : Scripted → ℕ
known_room s = min s.room (2 ^ 32 - 1)

-- its contests, counted by 2^35, and below them what a sync doesn't change: the room, and whether its script has a stop and names calls that fail
abbrev pub scripted_contests : Scripted → ℕ
scripted_contests s = count_of (contests_of s.fuse * 2 ^ 35 + (known_room s * 8 + (stop_of s.fuse.script.stop * 2 + some_of s.fuse.script.failing.items)))

-- A room is passed where there is a stop of 64 bits and more files, with the calls until the stop, than there is room for.
abbrev pub has_room : Scripted → Bool
has_room s = not (stop_of s.fuse.script.stop == 1) || nat_le (room_of s.fuse) s.room

abbrev pub scripted_disk : Scripted → Disk
scripted_disk s = fuse_disk s.fuse

abbrev pub scripted_time : Scripted → ℕ
scripted_time s = fuse_time s.fuse

abbrev pub scripted_left_since : Scripted → ℕ → Files → Type 0
scripted_left_since s = fuse_left_since s.fuse

abbrev pub scripted_faults : Scripted → ℕ
scripted_faults s = faults_of s.fuse

abbrev pub ScriptedCanFail : Scripted → Type 0
ScriptedCanFail s = FuseCanFail s.fuse

-- Its script names contested calls, or it has passed its room, which no call does.
abbrev pub ScriptedCanBeContested : Scripted → Type 0
ScriptedCanBeContested s = FuseCanBeContested s.fuse ⊎ (has_room s ≡ false)

-- all that contracts see of it
abbrev pub scripted_store : Ghosts Scripted
scripted_store = record {
  tells = Unit {0};
  disk = scripted_disk;
  time = scripted_time;
  left_since = scripted_left_since;
  faults = scripted_faults;
  may_fail = ScriptedCanFail;
  contests = scripted_contests;
  may_contest = ScriptedCanBeContested;
}
