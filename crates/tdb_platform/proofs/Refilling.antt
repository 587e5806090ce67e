-- A stop changes nothing but a written range and the gap before it.
use Rattle.std.proofs.Common.{List, ℕ, length, subst}
use Rattle.std.proofs.lemmas.List.{length-replicate}
use Rattle.std.specs.Prelude.{replicate}
use Rattle.tdb_platform.specs.declared.crash.ImageLeft.{ImageLeft}
use Rattle.tdb_platform.specs.declared.crash.ImageLeft.TheVariants.{Old, New, Torn}
use Rattle.tdb_platform.specs.Image.{SameExcept, written_over}
use Rattle.tdb_platform.specs.ImageLaws.{overwritten_same, same_itself, written_over_same}
use Rattle.tdb_platform.specs.LeftImage.{refilled}

pub refilled_same : (how : ImageLeft) (image : List ℕ) (at : ℕ) (piece : List ℕ) → SameExcept at (length piece) image (refilled how image at piece)
refilled_same Old image at piece = same_itself at (length piece) image
refilled_same New image at piece = overwritten_same image at piece
refilled_same (Torn byte) image at piece =
    let torn = replicate (length piece) byte in
    subst (λ (n : ℕ). SameExcept at n image (written_over byte image at torn)) (length-replicate (length piece) byte) (written_over_same byte image at torn)
