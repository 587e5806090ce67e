-- The words of a command.
use Rattle.std.specs.Prelude.{◌≡◌, ◌⊎◌, ℕ, ◌≤◌, List, [], ◌∷◌, codes, decimal, map}
use Rattle.std.specs.Borrow.{Bor}
use Rattle.tdb_base.specs.declared.suite.Suite.{Suite}
use Rattle.tdb_base.specs.SuiteNumber.{suite_word}

-- a number of segments that a store may have
pub record IsSize (segments : ℕ) : Type 0 where
  pub least : 16 ≤ segments
  pub most : segments ≤ 4096

-- `start SUITE SEGMENTS`: a new store of so many segments in that suite, and then a script
abbrev pub IsStart : List (List ℕ) → Suite → ℕ → Type 0
IsStart words suite segments = (words ≡ codes "start" ∷ suite_word suite ∷ decimal segments ∷ []) × IsSize segments

-- `format SUITE SEGMENTS`: a new store, and no script
abbrev pub IsFormat : List (List ℕ) → Suite → ℕ → Type 0
IsFormat words suite segments = (words ≡ codes "format" ∷ suite_word suite ∷ decimal segments ∷ []) × IsSize segments

-- `run`: a script over a store that is there
abbrev pub IsRun : List (List ℕ) → Type 0
IsRun words = words ≡ codes "run" ∷ []

-- the words make a new store in this suite, of so many segments
abbrev pub MakesStore : List (List ℕ) → Suite → ℕ → Type 0
MakesStore words suite segments = IsStart words suite segments ⊎ IsFormat words suite segments

-- the words make a new store
abbrev pub IsOfNewStore : List (List ℕ) → Type 0
IsOfNewStore words = (suite : Suite) × (segments : ℕ) × MakesStore words suite segments

-- the words are one of them
abbrev pub IsCommand : List (List ℕ) → Type 0
IsCommand words = IsOfNewStore words ⊎ IsRun words

-- the words are none
abbrev pub IsNoCommand : List (List ℕ) → Type 0
IsNoCommand words = IsCommand words → ⊥

-- the bytes of words
abbrev pub texts : List (Bor (List ℕ)) → List (List ℕ)
texts words = map (λ word. word.now) words
