-- The words of a run are those of one command.
use Rattle.std.proofs.Common.{◌≡◌, ℕ, List, [], arith, sym, ◌∙◌, ap, get_or}
use Rattle.tdb_base.specs.declared.suite.Suite.{Suite}
use Rattle.tdb_run.specs.Command.{IsFormat, IsRun, IsStart}

-- the first letter of the first word
abbrev letter : List (List ℕ) → ℕ
letter words = get_or (get_or words 0 []) 0 0

module _ (words : List (List ℕ)) where
  pub start_not_format : (s t : Suite) (m n : ℕ) → IsStart words s m → IsFormat words t n → ⊥
  start_not_format s t m n a b =
      let letters : 115 ≡ 102 = ap letter (sym a.0 ∙ b.0) in
      absurd (omega (arith, letters))

  pub start_not_run : (s : Suite) (m : ℕ) → IsStart words s m → IsRun words → ⊥
  start_not_run s m a b =
      let letters : 115 ≡ 114 = ap letter (sym a.0 ∙ b) in
      absurd (omega (arith, letters))

  pub format_not_run : (s : Suite) (m : ℕ) → IsFormat words s m → IsRun words → ⊥
  format_not_run s m a b =
      let letters : 102 ≡ 114 = ap letter (sym a.0 ∙ b) in
      absurd (omega (arith, letters))
