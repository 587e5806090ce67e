-- What a platform tells whose reads show other bytes than the device's, and what they show.
use Rattle.std.specs.Prelude.{◌≡◌, ◌==◌, ℕ, false, List, [], Option, Some, None, find, take}
use Rattle.tdb_platform.specs.declared.hostile.Answer.{Answer}
use Rattle.tdb_platform.specs.declared.hostile.HostilePlatform.{HostilePlatform}
use Rattle.tdb_platform.specs.Outside.{Outside}
use Rattle.tdb_platform.specs.CrashStates.{CrashStates}
use Rattle.tdb_platform.specs.Device.{outside_of, crash_states_of}

-- What its device tells, but for the image.
abbrev pub outside : HostilePlatform → Outside
outside p = record (outside_of p.inner.device p.inner.faults) { honest = false; image = [] }

abbrev pub crash_states : HostilePlatform → CrashStates
crash_states p = crash_states_of p.inner.device

-- the bytes of its device
abbrev pub device_bytes : HostilePlatform → List ℕ
device_bytes p = p.inner.device.image.items

-- what it shows in place of true bytes
abbrev pub given_answers : HostilePlatform → List Answer
given_answers p = p.answers.items

-- how many times it was asked to read
abbrev pub reads_asked : HostilePlatform → ℕ
reads_asked p = p.reads

-- An answer is cut to the length that was asked. Where there is none, the true bytes are shown.
abbrev pub in_place_of : List ℕ → ℕ → Option Answer → List ℕ
in_place_of bytes asked (Some answer) = take asked answer.bytes.items
in_place_of bytes asked None = bytes

-- What a read with this number shows in place of these bytes: the first answer with the number counts.
abbrev pub shown : List Answer → ℕ → ℕ → List ℕ → List ℕ
shown answers number asked bytes = in_place_of bytes asked (find (λ answer. answer.nth == number) answers)

-- What its reads are to show stays.
pub record SameAnswers (old new : HostilePlatform) : Type 0 where
  pub answers : given_answers new ≡ given_answers old
  pub asked : reads_asked new ≡ reads_asked old
