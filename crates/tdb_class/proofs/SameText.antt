-- A text behind its length is one text, whatever follows it.
use Rattle.std.proofs.Common.{◌≡◌, ℕ, ◌^◌, ◌<◌, List, ◌++◌, length}
use Rattle.tdb_base.proofs.SameFields.{same_front, same_u32}
use Rattle.tdb_class.specs.TextBytes.{text_bytes}

pub same_text : (s t x y : List ℕ) → length s < 2 ^ 32 → length t < 2 ^ 32 → text_bytes s ++ x ≡ text_bytes t ++ y → (s ≡ t) × (x ≡ y)
same_text s t x y s_fits t_fits e =
    let size = same_u32 (length s) (length t) (s ++ x) (t ++ y) s_fits t_fits e in
    same_front s t x y size.0 size.1
