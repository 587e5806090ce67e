-- A line that was taken.
use Rattle.std.proofs.Common.{◌≡◌, ℕ, ◌<◌, List, length, refl, sym, subst}
use Rattle.tdb_script.specs.declared.line.TheConstants.{MAX_LINE_LENGTH}
use Rattle.tdb_serve.specs.Taking.{IsTakenAs}
use Rattle.tdb_serve.specs.declared.script_lines.Next.{Next}
use Rattle.tdb_serve.specs.declared.script_lines.Next.TheVariants.{Line, TooLong}
use Rattle.tdb_serve.specs.declared.script_lines.ScriptLines.{ScriptLines}

-- a line that isn't too long is the one at hand
pub taken_line : (taken : Next) (lines : ScriptLines) (line : List ℕ) → (taken ≡ TooLong → ⊥) → IsTakenAs taken lines line
    → lines.line.items ≡ line
taken_line Line lines line short is = sym is
taken_line TooLong lines line short is = absurd (short refl)

-- one that is too long
pub taken_too_long : (taken : Next) (lines : ScriptLines) (line : List ℕ) → taken ≡ TooLong → IsTakenAs taken lines line
    → MAX_LINE_LENGTH < length line
taken_too_long taken lines line long is = subst (λ (t : Next). IsTakenAs t lines line) long is
