use Rattle.std.proofs.Common.{◌≡◌, ◌+◌, ◌*◌, ◌≤◌, ◌++◌, vec_capacity, vec_len}
use Rattle.tdb_cbc.specs.Cbc.{cipher_block}
use Rattle.tdb_cbc.specs.Padding.{padded}
use Rattle.tdb_cbc.proofs.CbcLaws.{chained}
use Rattle.tdb_cbc.proofs.cbc.push_sealed.Given as goal

abbrev pub invariant-loop-j : goal.invariant-loop-j
invariant-loop-j l = record {
  made : l.text.items ≡ l.fn.text.items ++ chained l.schedule l.iv (padded l.plain) l.j;
  chain : l.previous ≡ cipher_block l.schedule l.iv (padded l.plain) l.j;
  long : vec_len l.text ≡ vec_len l.fn.text + 16 * l.j;
  room : vec_len l.fn.text + 16 * l.whole + 16 ≤ vec_capacity l.text;
}
