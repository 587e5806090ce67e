-- What a run ends with: its last line, and the program's exit status.
use Rattle.std.specs.Prelude.{ℕ, Bool, ◌+◌, ◌/◌, ◌%◌, List, [], ◌∷◌, ◌++◌, codes, decimal, flat_map, nat_lt, true, false, if◌then◌else◌}
use Rattle.tdb_base.specs.declared.suite.Suite.{Suite}
use Rattle.tdb_base.specs.SuiteNumber.{suite_word}
use Rattle.tdb_run.specs.declared.status.Finding.{Finding}
use Rattle.tdb_run.specs.declared.status.Finding.TheVariants.{Tampered, Form}
use Rattle.tdb_run.specs.declared.status.Refusal.{Refusal}
use Rattle.tdb_run.specs.declared.status.Refusal.TheVariants.{Full, Ring, Counter}
use Rattle.tdb_run.specs.declared.status.Success.TheVariants.{Script, Formatted}
use Rattle.tdb_run.specs.declared.status.Status.{Status}
use Rattle.tdb_run.specs.declared.status.Status.TheVariants.{Done, Usage, AnchorCount, Damaged, PlatformFault}
use Rattle.tdb_run.specs.declared.status.Status.TheVariants.{SourceFault, SinkFault, Memory, End, Refused}

abbrev pub status_code : Status → ℕ
status_code (Done success) = 0
status_code Usage = 2
status_code (AnchorCount formatted) = 3
status_code (Damaged finding) = 4
status_code PlatformFault = 5
status_code SourceFault = 6
status_code SinkFault = 7
status_code Memory = 8
status_code End = 9
status_code (Refused refusal) = 10

-- 0 to 9 and a to f
abbrev pub hex_digit : ℕ → ℕ
hex_digit n = if nat_lt n 10 then 48 + n else 87 + n

-- two digits for each byte
unfoldable pub hex : List ℕ → List ℕ
hex bytes = flat_map (λ b. hex_digit (b / 16) ∷ hex_digit (b % 16) ∷ []) bytes

-- what the opening commit was refused for
abbrev pub refusal_text : Refusal → List ℕ
refusal_text (Full room) = codes "refused full " ++ decimal room.need ++ codes " " ++ decimal room.free ++ 10 ∷ []
refusal_text Ring = codes "refused ring" ++ 10 ∷ []
refusal_text Counter = codes "refused counter" ++ 10 ∷ []

-- what was found wrong on the device
abbrev pub finding_text : Finding → List ℕ
finding_text (Tampered damage) =
    codes "tampered " ++ decimal damage.place.0 ++ codes " " ++ hex damage.expected.0 ++ codes " " ++ hex damage.found.0 ++ 10 ∷ []
finding_text (Form place) = codes "form " ++ decimal place.0 ++ 10 ∷ []

-- what `format` puts when it is done
abbrev pub formatted_text : Suite → ℕ → List ℕ
formatted_text suite segments = codes "formatted " ++ suite_word suite ++ codes " " ++ decimal segments ++ 10 ∷ []

-- with its line feed
abbrev pub status_line : Status → List ℕ
status_line (Done Script) = []
status_line (Done (Formatted suite segments)) = formatted_text suite segments
status_line Usage = codes "usage" ++ 10 ∷ []
status_line (AnchorCount true) = codes "already formatted" ++ 10 ∷ []
status_line (AnchorCount false) = codes "unformatted" ++ 10 ∷ []
status_line (Damaged finding) = finding_text finding
status_line PlatformFault = codes "platform fault" ++ 10 ∷ []
status_line SourceFault = codes "source fault" ++ 10 ∷ []
status_line SinkFault = []
status_line Memory = codes "memory" ++ 10 ∷ []
status_line End = codes "end" ++ 10 ∷ []
status_line (Refused refusal) = refusal_text refusal

-- A line that tells numbers or digests is built in memory. Every other is at hand.
abbrev pub is_built : Status → Bool
is_built (Done Script) = false
is_built (Done (Formatted suite segments)) = true
is_built Usage = false
is_built (AnchorCount formatted) = false
is_built (Damaged finding) = true
is_built PlatformFault = false
is_built SourceFault = false
is_built SinkFault = false
is_built Memory = false
is_built End = false
is_built (Refused (Full room)) = true
is_built (Refused Ring) = false
is_built (Refused Counter) = false
