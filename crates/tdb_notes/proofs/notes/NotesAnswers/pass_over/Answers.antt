use Rattle.std.proofs.Common.{◌<◌, [], ℕ, List, length, inr, refl, arith}
use Rattle.tdb_script.specs.LineSpelling.{IsLine, LineValue}
use Rattle.tdb_notes.proofs.notes.NotesAnswers.pass_over.Goals as goal

-- a line that is too long is none
too_long : (bytes : List ℕ) (line : LineValue) → 4095 < length bytes → IsLine bytes line → ⊥
too_long bytes line long is = omega (arith, long, is.fits)

pub returns-clause-answered : goal.returns-clause-answered
returns-clause-answered g c bytes long = (
  record {
    added = [];
    runs = g.met.C.Chunks.lawful.itself c.args.self.now.store;
    steps = λ known s at.
        (s, inr (λ line is. too_long bytes line long is, refl), at);
  },
  refl,
)
