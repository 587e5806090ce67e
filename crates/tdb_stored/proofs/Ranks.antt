-- Ranks take four bytes each.
use Rattle.std.proofs.Common.{◌≡◌, ℕ, ◌*◌, List, [], ◌∷◌, length, refl, arith, length-append}
use Rattle.std.specs.List.{flat_map}
use Rattle.std.specs.Int.{w32, to_be_bytes}

pub length_ranks : (ranks : List ℕ) → length (flat_map (to_be_bytes w32) ranks) ≡ 4 * length ranks
length_ranks [] = refl
length_ranks (rank ∷ ranks) = omega (arith, length-append (to_be_bytes w32 rank) (flat_map (to_be_bytes w32) ranks), length_ranks ranks)
