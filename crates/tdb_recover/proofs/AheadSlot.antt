-- What the next slot shows, and how reading ahead goes on behind it.
use Rattle.std.proofs.Common.{◌≡◌, ℕ, ◌+◌, ◌≤◌, Bool, true, false, List, [], ◌∷◌, ◌++◌, take, drop, Option, Some, Result, IsTrue, refl, sym, ◌∙◌, ap, subst, inl, inr}
use Rattle.sha2.specs.Sha256.{sha256}
use Rattle.tdb_append.specs.Put.{slot_place}
use Rattle.tdb_base.specs.declared.piece.Digest.{Digest}
use Rattle.tdb_base.specs.Trace.{ReadPiece, calls_in, with_read}
use Rattle.tdb_mark.specs.declared.commit.Commit.{Commit}
use Rattle.tdb_platform.specs.Outside.{Anchor, Outside, Told}
use Rattle.tdb_platform.specs.CrashStates.{CrashStates, Elapses, LeavesNoMore}
use Rattle.tdb_overlay.specs.declared.recovered.Recovered.{Recovered}
use Rattle.tdb_recover.specs.Ahead.{AsksAhead, AsksList, HasSeen, HasStopped, IsAsShown, IsListed, IsMember, MayFollow}
use Rattle.tdb_recover.specs.AheadSteps.{IsFoundBy, IsOneRead}
use Rattle.tdb_recover.specs.declared.ahead.Member.{Member}
use Rattle.tdb_recover.specs.declared.ahead.Pending.{Pending}
use Rattle.tdb_recover.specs.declared.error.OpenError.{OpenError}
use Rattle.tdb_recover.proofs.ReadingAhead.{seen_nothing, seen_one, seen_then, stopped_then}

-- The one read gave these bytes.
pub shown_one : {D T E : Type 0} (outside : D → Outside) (crash_states : D → CrashStates)
    → ((p : D) (t u : ℕ) (i : List ℕ) (a : Anchor) → t ≤ u → u ≤ (outside p).clock → crash_states p u i a → crash_states p t i a)
    → (old new : D) (result : Result T E) (at asked size : ℕ) (given bytes : List ℕ) → asked ≡ size → given ≡ bytes
    → (IsTrue (outside old).tells → (outside new).trace ≡ with_read (outside old).trace at asked given)
    → (IsTrue (outside old).honest → given ≡ take asked (drop at (outside old).image))
    → (IsTrue (outside old).honest → (outside new).image ≡ (outside old).image)
    → (IsTrue (outside old).tells → (outside new).anchor ≡ (outside old).anchor)
    → LeavesNoMore outside crash_states old new → Elapses (outside old) (outside new) (crash_states old) (crash_states new)
    → Told (outside old) (outside new) result → (outside new).faults ≡ (outside old).faults
    → (reads : List ReadPiece) × HasSeen outside crash_states old new reads × IsOneRead at size bytes reads
shown_one outside crash_states counts old new result at asked size given bytes long same trace piece image anchor left time told quiet =
    let call = calls_in (outside old).trace + 1 in
    let one : (n : ℕ) (b : List ℕ) → List ReadPiece = λ n b. record { bytes = b; place = at; call = call; asked = n } ∷ [] in
    let seen = seen_one outside crash_states counts old new result at asked given trace piece image anchor left time told quiet in
    (one asked given, seen, (call, ap (λ (n : ℕ). one n given) long ∙ ap (λ (b : List ℕ). one size b) same))

-- The slot showed a commit, and its list was asked for.
pub asks_on : (secret : List ℕ) (log : Recovered) (reads more : List ReadPiece) (bytes : List ℕ) (c : Commit) (taken : Bool)
    → MayFollow log.head → IsOneRead (slot_place (log.head.count + 1)) 256 bytes reads → IsMember secret log bytes c
    → AsksList secret log c more taken → AsksAhead secret log (reads ++ more) taken
asks_on secret log reads more bytes c taken may one member asks =
    subst (λ (rs : List ReadPiece). AsksAhead secret log (rs ++ more) taken) (sym one.1) (inl (may, (refl, refl, inl (c, member, asks))))

-- What was taken is what was shown.
pub shown_on : (secret : List ℕ) (log : Recovered) (reads more : List ReadPiece) (bytes : List ℕ) (p : Pending)
    → IsOneRead (slot_place (log.head.count + 1)) 256 bytes reads → IsMember secret log bytes p.commit → p.mark.0 ≡ sha256 bytes
    → IsListed secret log p.commit p.entries.items more → IsAsShown secret log (reads ++ more) p
shown_on secret log reads more bytes p one member mark listed =
    subst (λ (rs : List ReadPiece). IsAsShown secret log (rs ++ more) p) (sym one.1) (member, mark, listed)

module _ {D : Type 0} (outside : D → Outside) (crash_states : D → CrashStates)
    (counts : (p : D) (t u : ℕ) (i : List ℕ) (a : Anchor) → t ≤ u → u ≤ (outside p).clock → crash_states p u i a → crash_states p t i a)
    (secret : List ℕ) (log : Recovered) where
  -- No commit may follow.
  pub ahead_full : (p : D) → (MayFollow log.head → ⊥)
      → (reads : List ReadPiece) × HasSeen outside crash_states p p reads × (AsksAhead secret log reads false × Unit {0})
  ahead_full p full = ([], seen_nothing outside crash_states counts p, (inr (full, (refl, refl)), tt))

  -- The next slot showed a commit, whose list or records weren't shown.
  pub ahead_passed : (old mid new : D) (found : Option Member) (m : Member) → MayFollow log.head → found ≡ Some m
      → (reads : List ReadPiece) × HasSeen outside crash_states old mid reads × IsFoundBy secret log reads found
      → (more : List ReadPiece) × HasSeen outside crash_states mid new more × (AsksList secret log m.commit more false × Unit {0})
      → (reads : List ReadPiece) × HasSeen outside crash_states old new reads × (AsksAhead secret log reads false × Unit {0})
  ahead_passed old mid new found m may is (reads, seen, by) (more, later, asks) =
      let one = subst (λ (f : Option Member). IsFoundBy secret log reads f) is by in (
        reads ++ more,
        seen_then outside crash_states counts old mid new reads more seen later,
        (asks_on secret log reads more one.0 m.commit false may one.1 one.2.0 asks.0, tt),
      )

  -- The next slot showed a commit, and all that it names was shown.
  pub ahead_shown : (old mid new : D) (found : Option Member) (m : Member) (p : Pending) → MayFollow log.head → found ≡ Some m
      → m.commit ≡ p.commit → m.mark ≡ p.mark
      → (reads : List ReadPiece) × HasSeen outside crash_states old mid reads × IsFoundBy secret log reads found
      → (more : List ReadPiece) × HasSeen outside crash_states mid new more
      × (AsksList secret log p.commit more true × IsListed secret log p.commit p.entries.items more)
      → (reads : List ReadPiece) × HasSeen outside crash_states old new reads
      × (AsksAhead secret log reads true × IsAsShown secret log reads p)
  ahead_shown old mid new found m p may is commit mark (reads, seen, by) (more, later, asks) =
      let one = subst (λ (f : Option Member). IsFoundBy secret log reads f) is by in
      let member = subst (IsMember secret log one.0) commit one.2.0 in
      let digest = sym (ap (λ (d : Digest). d.0) mark) ∙ one.2.1 in (
        reads ++ more,
        seen_then outside crash_states counts old mid new reads more seen later,
        (
          asks_on secret log reads more one.0 p.commit true may one.1 member asks.0,
          shown_on secret log reads more one.0 p one.1 member digest asks.1,
        ),
      )

  -- The next slot showed a commit, and a later read failed or memory ran out.
  pub ahead_stopped : (old mid new : D) (found : Option Member) (e : OpenError)
      → (reads : List ReadPiece) × HasSeen outside crash_states old mid reads × IsFoundBy secret log reads found
      → HasStopped outside crash_states mid new e → HasStopped outside crash_states old new e
  ahead_stopped old mid new found e (reads, seen, by) stop = stopped_then outside crash_states counts old mid new reads e seen stop
