-- The first read of an opening stays the first one.
use Rattle.std.proofs.Common.{◌≡◌, List, ℕ, [], ◌∷◌, ◌++◌, Some, Result, Ok, Err, IfOk, refl, ◌∙◌, ap, append_assoc}
use Rattle.sha2.specs.Sha256.{sha256}
use Rattle.tdb_append.specs.Put.{slot_place}
use Rattle.tdb_base.specs.Trace.{Extends, ReadPiece, Trace, with_read}
use Rattle.tdb_mark.specs.declared.commit.Commit.{Commit}
use Rattle.tdb_mark.specs.CommitText.{commit_key_of, commit_of}
use Rattle.tdb_platform.specs.Outside.{Anchor, Outside}
use Rattle.tdb_recover.specs.FirstText.{HasFirstText}

pub first_longer : (secret : List ℕ) (anchor : Anchor) (old mid new : Outside) → HasFirstText secret anchor old mid
    → Extends mid.trace new.trace → HasFirstText secret anchor old new
first_longer secret anchor old mid new h more = record {
  first = h.first;
  later = h.later ++ more.more_read;
  in_order = more.read ∙ ap (λ (rs : List ReadPiece). rs ++ more.more_read) h.in_order
      ∙ append_assoc old.trace.read (h.first ∷ h.later) more.more_read;
  place = h.place;
  mark = h.mark;
  commit = h.commit;
  accepted = h.accepted;
  count = h.count;
}

-- nothing was read before it
pub first_earlier : (secret : List ℕ) (anchor : Anchor) (old mid new : Outside) → mid.trace ≡ old.trace
    → HasFirstText secret anchor mid new → HasFirstText secret anchor old new
first_earlier secret anchor old mid new same h = record {
  first = h.first;
  later = h.later;
  in_order = h.in_order ∙ ap (λ (t : Trace). t.read ++ h.first ∷ h.later) same;
  place = h.place;
  mark = h.mark;
  commit = h.commit;
  accepted = h.accepted;
  count = h.count;
}

-- It was read, and nothing else.
pub first_read : (secret : List ℕ) (anchor : Anchor) (old new : Outside) (bytes : List ℕ) (commit : Commit)
    → new.trace ≡ with_read old.trace (slot_place anchor.0) 256 bytes → sha256 bytes ≡ anchor.1
    → commit_of (commit_key_of secret) bytes ≡ Some commit → commit.count ≡ anchor.0 → HasFirstText secret anchor old new
first_read secret anchor old new bytes commit read mark accepted count = record {
  first = _;
  later = [];
  in_order = ap (λ (t : Trace). t.read) read;
  place = refl;
  mark = mark;
  commit = commit;
  accepted = accepted;
  count = count;
}

-- what holds anyway holds where the answer is Ok
pub ok_always : {T E X : Type 0} (r : Result T E) → X → IfOk r (λ value. X)
ok_always (Ok value) is = is
ok_always (Err error) is = tt
