-- What was unforged later was so before.
use Rattle.std.proofs.Common.{◌≡◌, inl, inr, ℕ, ◌≤◌, List, [], ◌∷◌, ◌++◌, Option, IsSome, sym, subst, arith}
use Rattle.tdb_base.specs.Trace.{WrittenPiece, ReadPiece, Trace, calls_in, ReadUpTo, WrittenAfter, IsNumbered, Extends}
use Rattle.tdb_mark.specs.declared.commit.Commit.{Commit}
use Rattle.tdb_mark.specs.Unforged.{WasWritten, WasRead, IsPieceOf, WrittenBefore, EachRead, IsSlot, IsUnforged}

WasWritten-more : (ws more : List WrittenPiece) (p : List ℕ) → WasWritten ws p → WasWritten (ws ++ more) p
WasWritten-more [] more p h = absurd h
WasWritten-more (w ∷ ws) more p (inl e) = inl e
WasWritten-more (w ∷ ws) more p (inr h) = inr (WasWritten-more ws more p h)

WasRead-more : (rs more : List ReadPiece) (p : List ℕ) → WasRead rs p → WasRead (rs ++ more) p
WasRead-more [] more p h = absurd h
WasRead-more (r ∷ rs) more p (inl e) = inl e
WasRead-more (r ∷ rs) more p (inr h) = inr (WasRead-more rs more p h)

pub IsPieceOf-more : (earlier later : Trace) (p : List ℕ) → Extends earlier later → IsPieceOf earlier p → IsPieceOf later p
IsPieceOf-more earlier later p x (inl h) = inl (subst (λ (ws : List WrittenPiece). WasWritten ws p) (sym x.written) (WasWritten-more earlier.written x.more_written p h))
IsPieceOf-more earlier later p x (inr h) = inr (subst (λ (rs : List ReadPiece). WasRead rs p) (sym x.read) (WasRead-more earlier.read x.more_read p h))

-- what was written before a call isn't among the pieces that came after it
WrittenBefore-after : (n call : ℕ) (more : List WrittenPiece) (p : List ℕ) → call ≤ n → WrittenAfter n more → WrittenBefore more call p → ⊥
WrittenBefore-after n call [] p le after h = h
WrittenBefore-after n call (w ∷ more) p le after (inl h) = absurd (omega (arith, h.1, after.0))
WrittenBefore-after n call (w ∷ more) p le after (inr h) = WrittenBefore-after n call more p le after.1 h

WrittenBefore-front : (n call : ℕ) (ws more : List WrittenPiece) (p : List ℕ) → call ≤ n → WrittenAfter n more → WrittenBefore (ws ++ more) call p → WrittenBefore ws call p
WrittenBefore-front n call [] more p le after h = absurd (WrittenBefore-after n call more p le after h)
WrittenBefore-front n call (w ∷ ws) more p le after (inl h) = inl h
WrittenBefore-front n call (w ∷ ws) more p le after (inr h) = inr (WrittenBefore-front n call ws more p le after h)

EachRead-front : (n : ℕ) (grammar : List ℕ → Option Commit) (ws more : List WrittenPiece) (rs others : List ReadPiece) → ReadUpTo n rs → WrittenAfter n more
    → EachRead (λ r. IsSlot r.place → r.asked ≡ 256 → IsSome (grammar r.bytes) → WrittenBefore (ws ++ more) r.call r.bytes) (rs ++ others)
    → EachRead (λ r. IsSlot r.place → r.asked ≡ 256 → IsSome (grammar r.bytes) → WrittenBefore ws r.call r.bytes) rs
EachRead-front n grammar ws more [] others up after h = tt
EachRead-front n grammar ws more (r ∷ rs) others up after h =
    (λ slot asked reads. WrittenBefore-front n r.call ws more r.bytes up.0 after (h.0 slot asked reads), EachRead-front n grammar ws more rs others up.1 after h.1)

pub IsUnforged-before : (earlier later : Trace) (grammar : List ℕ → Option Commit) → IsNumbered earlier → Extends earlier later → IsUnforged later grammar → IsUnforged earlier grammar
IsUnforged-before earlier later grammar numbered x u = record {
  no_collision = λ p q hp hq same. u.no_collision p q (IsPieceOf-more earlier later p x hp) (IsPieceOf-more earlier later q x hq) same;
  slots =
      EachRead-front (calls_in earlier) grammar earlier.written x.more_written earlier.read x.more_read numbered.read x.written_after
      (subst (λ (rs : List ReadPiece). EachRead (λ r. IsSlot r.place → r.asked ≡ 256 → IsSome (grammar r.bytes) → WrittenBefore (earlier.written ++ x.more_written) r.call r.bytes) rs) x.read
      (subst (λ (ws : List WrittenPiece). EachRead (λ r. IsSlot r.place → r.asked ≡ 256 → IsSome (grammar r.bytes) → WrittenBefore ws r.call r.bytes) later.read) x.written u.slots));
}
