-- The state (FIPS 197 section 3.4): 16 bytes in four rows and four columns, column after column.
use Rattle.std.specs.Prelude.{ℕ, ◌+◌, ◌*◌, List, [], ◌∷◌, ◌++◌, bit_xor, slice_index}
use Rattle.std.specs.Int.{w32, to_be_bytes}
use Rattle.tdb_aes.specs.declared.state.State.{State}

-- the byte of s in row r of column c
abbrev pub entry : List ℕ → ℕ → ℕ → ℕ
entry s r c = slice_index s (r + 4 * c)

-- the state whose byte in row r of column c is f r c
abbrev pub state_of : (ℕ → ℕ → ℕ) → List ℕ
state_of f =
    f 0 0 ∷ f 1 0 ∷ f 2 0 ∷ f 3 0 ∷ f 0 1 ∷ f 1 1 ∷ f 2 1 ∷ f 3 1
    ∷ f 0 2 ∷ f 1 2 ∷ f 2 2 ∷ f 3 2 ∷ f 0 3 ∷ f 1 3 ∷ f 2 3 ∷ f 3 3 ∷ []

-- AddRoundKey with the round key k (section 5.1.4)
unfoldable pub add_round_key : List ℕ → List ℕ → List ℕ
add_round_key s k = state_of (λ r c. bit_xor (entry s r c) (entry k r c))

-- the bytes of four words, each with its highest byte first
unfoldable pub bytes_of_words : ℕ → ℕ → ℕ → ℕ → List ℕ
bytes_of_words a b c d = to_be_bytes w32 a ++ to_be_bytes w32 b ++ to_be_bytes w32 c ++ to_be_bytes w32 d

-- the bytes of a state that the code keeps as four words
abbrev pub bytes_of_state : State → List ℕ
bytes_of_state s = bytes_of_words s.column_0 s.column_1 s.column_2 s.column_3
