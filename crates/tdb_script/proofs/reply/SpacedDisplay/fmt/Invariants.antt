use Rattle.std.proofs.Common.{take}
use Rattle.std.specs.Fmt.{HasWritten, IsPlainFormatter}
use Rattle.tdb_script.specs.ReplySpelling.{spaced}
use Rattle.tdb_script.proofs.reply.SpacedDisplay.fmt.Given as goal

abbrev pub invariant-loop-part : goal.invariant-loop-part
invariant-loop-part g l =
    IsPlainFormatter l.fn.f → HasWritten g.W.Write.write_str_gives l.fn.f (spaced (take l.part-index l.self.0.now)) l.f
