-- The I/O trace: every piece that was ever handed to a write, and every piece that a read gave.
use Rattle.std.specs.Prelude.{◌≡◌, ℕ, ◌+◌, ◌<◌, ◌≤◌, List, [], ◌∷◌, ◌++◌, length}

-- a piece that was handed to a write, its place on the device, and the number of its call
pub record WrittenPiece : Type 0 where
  pub bytes : List ℕ
  pub place : ℕ
  pub call : ℕ

-- a piece that a read gave, its place, the number of its call, and the length that was asked
pub record ReadPiece : Type 0 where
  pub bytes : List ℕ
  pub place : ℕ
  pub call : ℕ
  pub asked : ℕ

-- Both lists only grow, and their calls are numbered from 1 over both.
pub record Trace : Type 0 where
  pub written : List WrittenPiece
  pub read : List ReadPiece

abbrev pub no_trace : Trace
no_trace = record { written = []; read = [] }

abbrev pub calls_in : Trace → ℕ
calls_in t = length t.written + length t.read

-- the trace after a write of these bytes at this place
abbrev pub with_written : Trace → ℕ → List ℕ → Trace
with_written t at bytes = record {
  written = t.written ++ record { bytes = bytes; place = at; call = calls_in t + 1 } ∷ [];
  read = t.read;
}

-- the trace after a read at this place, which was asked for a length and gave these bytes
abbrev pub with_read : Trace → ℕ → ℕ → List ℕ → Trace
with_read t at asked bytes = record {
  written = t.written;
  read = t.read ++ record { bytes = bytes; place = at; call = calls_in t + 1; asked = asked } ∷ [];
}

-- every call of the list has a number of at most n
abbrev pub WrittenUpTo : ℕ → List WrittenPiece → Type 0
WrittenUpTo n [] = Unit {0}
WrittenUpTo n (w ∷ ws) = (w.call ≤ n) × WrittenUpTo n ws

abbrev pub ReadUpTo : ℕ → List ReadPiece → Type 0
ReadUpTo n [] = Unit {0}
ReadUpTo n (r ∷ rs) = (r.call ≤ n) × ReadUpTo n rs

-- every call of the list has a number above n
abbrev pub WrittenAfter : ℕ → List WrittenPiece → Type 0
WrittenAfter n [] = Unit {0}
WrittenAfter n (w ∷ ws) = (n < w.call) × WrittenAfter n ws

abbrev pub ReadAfter : ℕ → List ReadPiece → Type 0
ReadAfter n [] = Unit {0}
ReadAfter n (r ∷ rs) = (n < r.call) × ReadAfter n rs

-- no call of the trace has a number that is still to come
pub record IsNumbered (t : Trace) : Type 0 where
  pub written : WrittenUpTo (calls_in t) t.written
  pub read : ReadUpTo (calls_in t) t.read

-- the later trace has the earlier one in front, and all that came after it has a later number
pub record Extends (earlier later : Trace) : Type 0 where
  pub more_written : List WrittenPiece
  pub more_read : List ReadPiece
  pub written : later.written ≡ earlier.written ++ more_written
  pub read : later.read ≡ earlier.read ++ more_read
  pub written_after : WrittenAfter (calls_in earlier) more_written
  pub read_after : ReadAfter (calls_in earlier) more_read
