use Rattle.std.proofs.Common.{◌≡◌, ℕ, ◌<◌, ◌≤◌, bit_xor, get_or, length}
use Rattle.tdb_cbc.proofs.blocks.xor_blocks.Given as goal

abbrev pub invariant-loop-i : goal.invariant-loop-i
invariant-loop-i l = record {
  long : length l.a ≡ 16;
  done : (k : ℕ) → k < l.i → get_or l.a k 0 ≡ bit_xor (get_or l.fn.a k 0) (get_or l.b k 0);
  rest : (k : ℕ) → l.i ≤ k → get_or l.a k 0 ≡ get_or l.fn.a k 0;
}
