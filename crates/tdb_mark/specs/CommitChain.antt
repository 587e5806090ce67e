-- The chain of commit texts that ends at an anchor.
use Rattle.std.specs.Prelude.{ℕ, zero, suc, Bool, true, ◌+◌, ◌&&◌, ◌==◌, List, [], ◌∷◌, ◌++◌, replicate, Option, Some}
use Rattle.std.specs.Prelude.{None, option_and_then, if◌then◌else◌}
use Rattle.std.specs.Str.{bytes_eq}
use Rattle.tdb_base.specs.Trace.{WrittenPiece}
use Rattle.tdb_mark.specs.declared.commit.Commit.{Commit}
use Rattle.tdb_mark.specs.TextOfDigest.{text_of_digest}

-- the commit's count is the next, and the first one has zeros for the mark before it
abbrev pub follows : ℕ → Commit → Bool
follows before c = c.count == before + 1 && (if before == 0 then bytes_eq c.prev.0 (replicate 32 0) else true)

-- the chain that ends with a commit, over those that end with each mark
abbrev pub ends_with : ℕ → (List ℕ → Option (List Commit)) → Commit → Option (List Commit)
ends_with before chains c = if follows before c then option_and_then (λ chain. Some (chain ++ c ∷ [])) (chains c.prev.0) else None

-- Oldest first: the last text is the first written piece with the mark as its digest, and each
-- earlier one that with the `prev` of the one after it. The grammar reads each of them. At count 0
-- there is none, whatever the mark.
abbrev pub commit_chain : List WrittenPiece → (List ℕ → Option Commit) → ℕ → List ℕ → Option (List Commit)
commit_chain written grammar zero mark = Some []
commit_chain written grammar (suc n) mark =
    option_and_then (λ text. option_and_then (ends_with n (commit_chain written grammar n)) (grammar text)) (text_of_digest written mark)
