-- The next text of a log, and the anchor and the head that name it.
use Rattle.std.specs.Prelude.{ℕ, ◌+◌, List, Option}
use Rattle.sha2.specs.Sha256.{sha256}
use Rattle.tdb_append.specs.declared.head.Head.{Head}
use Rattle.tdb_append.specs.Placed.{Placed}
use Rattle.tdb_append.specs.Put.{slot_place}
use Rattle.tdb_base.specs.declared.piece.Piece.{Piece}
use Rattle.tdb_base.specs.declared.suite.Suite.{Suite}
use Rattle.tdb_mark.specs.declared.commit.Commit.{Commit}
use Rattle.tdb_mark.specs.CommitText.{commit_key_of, commit_text}
use Rattle.tdb_platform.specs.Outside.{Anchor}

-- the text of a commit under the key of a secret
abbrev pub text_of : List ℕ → Commit → List ℕ
text_of secret c = commit_text (commit_key_of secret) c

-- its text, in the slot of its count
abbrev pub text_in_slot : List ℕ → Commit → Placed
text_in_slot secret c = record { place = slot_place c.count; bytes = text_of secret c }

abbrev pub anchor_of : List ℕ → Commit → Anchor
anchor_of secret c = (c.count, sha256 (text_of secret c))

abbrev pub next_head : List ℕ → Head → Commit → Head
next_head secret head c = record { count = c.count; mark = record { 0 = sha256 (text_of secret c) }; base = head.base }

-- what the next text says, by its suite, its kind, its base, the piece that it names, and the root of a checkpoint
abbrev pub next_commit : Suite → Head → ℕ → ℕ → ℕ → Piece → Option Piece → Commit
next_commit suite head kind base segments first root = record {
  kind = kind;
  suite = suite;
  count = head.count + 1;
  prev = head.mark;
  base = base;
  segments = segments;
  first = first;
  root = root;
}
