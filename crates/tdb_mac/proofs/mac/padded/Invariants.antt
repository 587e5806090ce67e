use Rattle.std.proofs.Common.{◌≡◌, ℕ, ◌<◌, ◌≤◌, length, get_or, bit_xor}
use Rattle.tdb_mac.proofs.mac.padded.Given as goal

-- the bytes before the index have the pad added, the others are as they were
abbrev pub invariant-loop-byte : goal.invariant-loop-byte
invariant-loop-byte l =
    (length l.byte-items ≡ length l.initial.byte-items)
    × ((k : ℕ) → k < l.byte-index → k < length l.initial.byte-items → get_or l.byte-items k 0 ≡ bit_xor (get_or l.initial.byte-items k 0) l.pad)
    × ((k : ℕ) → l.byte-index ≤ k → get_or l.byte-items k 0 ≡ get_or l.initial.byte-items k 0)
