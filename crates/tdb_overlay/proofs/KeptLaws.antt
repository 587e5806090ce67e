-- A log is kept well formed as sealed records and then its next text are written.
use Rattle.std.proofs.Common.{◌≡◌, ◌⊎◌, inl, inr, ⊎_elim, ℕ, ◌+◌, List, [], ◌∷◌, ◌++◌, Some, replicate, refl, sym, ◌∙◌, ap, subst, append-nil, arith}
use Rattle.std.specs.Prelude.{All}
use Rattle.sha2.specs.Sha256.{sha256}
use Rattle.tdb_append.specs.Placed.{Placed, with_all_written}
use Rattle.tdb_append.specs.Put.{slot_place}
use Rattle.tdb_base.specs.declared.suite.Suite.{Suite}
use Rattle.tdb_base.specs.declared.suite.Suite.TheVariants.{Plain}
use Rattle.tdb_base.specs.Trace.{Trace, WrittenPiece, Extends, calls_in, with_written}
use Rattle.tdb_mark.specs.declared.commit.Commit.{Commit}
use Rattle.tdb_mark.specs.CommitText.{commit_key_of, commit_of}
use Rattle.tdb_mark.specs.Unforged.{IsUnforged, WasWritten}
use Rattle.tdb_model.specs.Apply.{History}
use Rattle.tdb_platform.specs.Outside.{Anchor}
use Rattle.tdb_overlay.specs.Found.{Store, store_of_text}
use Rattle.tdb_overlay.specs.LaidPieces.{IsOneOf}
use Rattle.tdb_overlay.specs.Log.{IsLog}
use Rattle.tdb_overlay.specs.NextText.{FindsAll, GoesOnWith, IsLaidText, IsNextText, NamesMark}
use Rattle.tdb_overlay.specs.SealedOnly.{IsRecord}
use Rattle.tdb_overlay.specs.StoreState.{StoreState, first_state}
use Rattle.tdb_overlay.specs.WellFormedLog.{EachText, IsAccepted, IsWellFormedLog, IsWellFormedTrace, NamesText, TextLog}
use Rattle.tdb_overlay.proofs.Listed.{all_listed, one_of_all, one_of_front}
use Rattle.tdb_overlay.proofs.LogLaws.{log_stays}
use Rattle.tdb_overlay.proofs.Magics.{sealed_is_no_text}
use Rattle.tdb_overlay.proofs.PutLogs.{follows_is, found_in_put, grows_all, head_log, in_later_trace, log_grown, each_was_written, was_written_more}

-- A sealed record is no text.
pub record_is_no_text : (secret bytes : List ℕ) (c : Commit) → IsRecord secret bytes → IsAccepted secret bytes c → ⊥
record_is_no_text secret bytes c is accepted = sealed_is_no_text secret bytes is.key is.plain is.name c is.sealed accepted

-- whatever was written at the end of a put
written_in_put : (t : Trace) (qs : List Placed) (bytes : List ℕ) → WasWritten (with_all_written t qs).written bytes
    → WasWritten t.written bytes ⊎ ((place : ℕ) × IsOneOf qs place bytes)
written_in_put t [] bytes was = inl was
written_in_put t (q ∷ qs) bytes was = ⊎_elim (λ earlier. either (written_last t.written earlier)) (λ one. inr (one.0, inr one.1))
    (written_in_put (with_written t q.place q.bytes) qs bytes was)
  where
    written_last : (ws : List WrittenPiece)
        → WasWritten (ws ++ record { bytes = q.bytes; place = q.place; call = calls_in t + 1 } ∷ []) bytes → WasWritten ws bytes
        ⊎ (q.bytes ≡ bytes)
    written_last [] (inl is) = inr is
    written_last [] (inr none) = absurd none
    written_last (w ∷ ws) (inl is) = inl (inl is)
    written_last (w ∷ ws) (inr rest) = ⊎_elim (λ earlier. inl (inr earlier)) (λ is. inr is) (written_last ws rest)

    either : WasWritten t.written bytes ⊎ (q.bytes ≡ bytes) → WasWritten t.written bytes ⊎ ((place : ℕ) × IsOneOf (q ∷ qs) place bytes)
    either (inl earlier) = inl earlier
    either (inr is) = inr (q.place, inl (refl, is))

-- of some pieces and a last one, a front has all, or none but the pieces
front_or_all : (ps done rest : List Placed) (slot : Placed) → ps ++ slot ∷ [] ≡ done ++ rest → (rest ≡ [])
    ⊎ ((more : List Placed) × (ps ≡ done ++ more))
front_or_all ps [] rest slot is = inr (ps, refl)
front_or_all [] (d ∷ done) rest slot is = inl (nothing done rest (tails slot d [] (done ++ rest) is))
  where
    tails : (a b : Placed) (x y : List Placed) → a ∷ x ≡ b ∷ y → x ≡ y
    tails a b x y e = cc

    nothing : (xs ys : List Placed) → [] ≡ xs ++ ys → ys ≡ []
    nothing [] ys e = sym e
    nothing (x ∷ xs) ys e = absurd (cc e)
front_or_all (p ∷ ps) (d ∷ done) rest slot is =
    let heads = parts p d (ps ++ slot ∷ []) (done ++ rest) is in
    ⊎_elim (λ all. inl all) (λ front. inr (front.0, λ i. heads.0 i ∷ front.1 i)) (front_or_all ps done rest slot heads.1)
  where
    parts : (a b : Placed) (x y : List Placed) → a ∷ x ≡ b ∷ y → (a ≡ b) × (x ≡ y)
    parts a b x y e = (cc, cc)

pub one_or_slot : (ps : List Placed) (slot : Placed) (place : ℕ) (bytes : List ℕ) → IsOneOf (ps ++ slot ∷ []) place bytes
    → IsOneOf ps place bytes ⊎ (slot.bytes ≡ bytes)
one_or_slot [] slot place bytes (inl is) = inr is.1
one_or_slot [] slot place bytes (inr none) = absurd none
one_or_slot (p ∷ ps) slot place bytes (inl is) = inl (inl is)
one_or_slot (p ∷ ps) slot place bytes (inr rest) = ⊎_elim (λ one. inl (inr one)) (λ is. inr is) (one_or_slot ps slot place bytes rest)

-- the anchor of a well-formed log has a log of some store of the secret
pub anchor_log : (written : List WrittenPiece) (secret : List ℕ) (anchor : Anchor) → IsWellFormedLog written secret anchor
    → (suite : Suite) × (history : History) × (last : StoreState)
    × IsLog written (record { secret = secret; suite = suite }) anchor history last
anchor_log written secret anchor kept = ⊎_elim (starts anchor) named kept.anchored
  where
    starts : (a : Anchor) → a.0 ≡ 0 → (suite : Suite) × (history : History) × (last : StoreState)
        × IsLog written (record { secret = secret; suite = suite }) a history last
    starts a none = (
      Plain,
      [],
      first_state,
      subst (λ (n : ℕ). IsLog written (record { secret = secret; suite = Plain }) (n, a.1) [] first_state) (sym none)
          (record { chain = []; ends = refl; tells = (refl, refl) }),
    )

    named : NamesText written secret anchor → (suite : Suite) × (history : History) × (last : StoreState)
        × IsLog written (record { secret = secret; suite = suite }) anchor history last
    named n =
        let of_text = kept.trace.texts n.text n.commit n.was_written n.accepted in (
          n.commit.suite,
          of_text.history,
          of_text.last,
          subst (λ (k : ℕ). IsLog written (store_of_text secret n.commit) (k, anchor.1) of_text.history of_text.last) (sym n.count)
              (subst (λ (m : List ℕ). IsLog written (store_of_text secret n.commit) (n.commit.count, m) of_text.history of_text.last)
              (sym n.mark) of_text.log),
        )

-- What was well formed is so for an anchor that it names, as sealed records are written.
text_log_stays : (written more : List WrittenPiece) (secret text : List ℕ) (c : Commit)
    → TextLog written secret text c (λ last. Unit {0}) → TextLog (written ++ more) secret text c (λ last. Unit {0})
text_log_stays written more secret text c is = record {
  history = is.history;
  last = is.last;
  log = log_stays written more (store_of_text secret c) (c.count, sha256 text) is.history is.last is.log;
  holds = tt;
}

pub names_stays : (written more : List WrittenPiece) (secret : List ℕ) (anchor : Anchor) → NamesText written secret anchor
    → NamesText (written ++ more) secret anchor
names_stays written more secret anchor n = record {
  text = n.text;
  commit = n.commit;
  was_written = was_written_more written more n.text n.was_written;
  accepted = n.accepted;
  count = n.count;
  mark = n.mark;
}

-- A put of laid records and of the text that comes next.
module _ (store : Store) (t u : Trace) (anchor : Anchor) (text : List ℕ) (c : Commit) (ps : List Placed)
    (laid : IsLaidText store.secret text c ps) where
  abbrev pub slot : Placed
  slot = record { place = slot_place c.count; bytes = text }

  -- the next anchor names the text, once all was written
  pub text_named : u ≡ with_all_written t (ps ++ slot ∷ []) → NamesText u.written store.secret (c.count, sha256 text)
  text_named wrote = record {
    text = text;
    commit = c;
    was_written = subst (λ (v : Trace). WasWritten v.written text) (sym wrote)
        (each_was_written t (ps ++ slot ∷ []) slot.place text (last_one ps));
    accepted = laid.accepted;
    count = refl;
    mark = refl;
  }
    where
      last_one : (qs : List Placed) → IsOneOf (qs ++ slot ∷ []) slot.place text
      last_one [] = inl (refl, refl)
      last_one (q ∷ qs) = inr (last_one qs)

  -- where all of it was written, the text comes next
  module _ (wrote : u ≡ with_all_written t (ps ++ slot ∷ [])) (unforged : IsUnforged u (commit_of (commit_key_of store.secret))) where
    grows : Extends t u
    grows = subst (Extends t) (sym wrote) (grows_all t (ps ++ slot ∷ []))

    pub finds_all : FindsAll t.written ps u.written
    finds_all = (in_later_trace t u grows, found_in_put (commit_of (commit_key_of store.secret)) t u ps slot wrote unforged)

    module _ (before added : History) (from to : StoreState) (is : IsLog t.written store anchor before from)
        (next : IsNextText t.written store anchor from c ps added to) where
      marked : NamesMark anchor c → IsLog t.written store (anchor.0, c.prev.0) before from
      marked (inl first) = head_log t.written store anchor anchor.0 c.prev.0 before from refl (inr first.0) is
      marked (inr later) = subst (λ (m : List ℕ). IsLog t.written store (anchor.0, m) before from) (sym later.1) is

      starts : NamesMark anchor c → anchor.0 ≡ 0 → c.prev.0 ≡ replicate 32 0
      starts (inl first) none = first.1
      starts (inr later) none = absurd (omega (arith, later.0, none))

      -- The log goes on to the text.
      pub next_log : IsLog u.written store (c.count, sha256 text) (before ++ added) to
      next_log =
          subst (λ (n : ℕ). IsLog u.written store (n, sha256 text) (before ++ added) to) (sym next.count)
          (log_grown store t u anchor.0 c.prev.0 slot ps c before added from to laid.accepted refl
          (follows_is anchor.0 c next.count (starts next.mark)) (next.step u.written finds_all) wrote unforged (marked next.mark))

  module _ (done rest : List Placed) (in_order : ps ++ slot ∷ [] ≡ done ++ rest) (wrote : u ≡ with_all_written t done) where
    record_of : (place : ℕ) (bytes : List ℕ) → IsOneOf ps place bytes → IsRecord store.secret bytes
    record_of place bytes one = one_of_all (λ at b. IsRecord store.secret b) ps place bytes
        (all_listed (λ (p : Placed). IsRecord store.secret p.bytes) ps laid.records) one

    -- each piece that was written is an earlier one, a record, or the text at the end of all
    pub parts : (bytes : List ℕ) → WasWritten u.written bytes → WasWritten t.written bytes ⊎ IsRecord store.secret bytes
        ⊎ ((text ≡ bytes) × (rest ≡ []))
    parts bytes was = by (written_in_put t done bytes (subst (λ (v : Trace). WasWritten v.written bytes) wrote was))
      where
        in_front : (place : ℕ) → IsOneOf done place bytes → (rest ≡ []) ⊎ ((more : List Placed) × (ps ≡ done ++ more))
            → WasWritten t.written bytes ⊎ IsRecord store.secret bytes ⊎ ((text ≡ bytes) × (rest ≡ []))
        in_front place one (inr front) = inr
            (inl (record_of place bytes
            (subst (λ (l : List Placed). IsOneOf l place bytes) (sym front.1) (one_of_front done front.0 place bytes one))))
        in_front place one (inl all) =
            ⊎_elim (λ of_ps. inr (inl (record_of place bytes of_ps))) (λ is. inr (inr (is, all)))
            (one_or_slot ps slot place bytes
            (subst (λ (l : List Placed). IsOneOf l place bytes) (sym in_order) (one_of_front done rest place bytes one)))

        by : WasWritten t.written bytes ⊎ ((place : ℕ) × IsOneOf done place bytes) → WasWritten t.written bytes
            ⊎ IsRecord store.secret bytes ⊎ ((text ≡ bytes) × (rest ≡ []))
        by (inl earlier) = inl earlier
        by (inr one) = in_front one.0 one.1 (front_or_all ps done rest slot in_order)

  module _ (done rest : List Placed) (in_order : ps ++ slot ∷ [] ≡ done ++ rest) (wrote : u ≡ with_all_written t done)
      (unforged : IsUnforged u (commit_of (commit_key_of store.secret)))
      (added : History) (goes : GoesOnWith t.written store anchor c ps added) (kept : IsWellFormedLog t.written store.secret anchor) where
    grown : Extends t u
    grown = subst (Extends t) (sym wrote) (grows_all t done)

    stays : (a : Anchor) → (a.0 ≡ 0) ⊎ NamesText t.written store.secret a → (a.0 ≡ 0) ⊎ NamesText u.written store.secret a
    stays a (inl none) = inl none
    stays a (inr named) = inr
        (subst (λ (ws : List WrittenPiece). NamesText ws store.secret a) (sym grown.written)
        (names_stays t.written grown.more_written store.secret a named))

    pub whole : rest ≡ [] → u ≡ with_all_written t (ps ++ slot ∷ [])
    whole complete = wrote ∙ ap (with_all_written t) (sym (in_order ∙ ap (λ (l : List Placed). done ++ l) complete ∙ append-nil done))

    -- the text ends a log
    pub text_log : rest ≡ [] → (history : History) × (to : StoreState) × IsLog u.written store (c.count, sha256 text) history to
        × (c.suite ≡ store.suite)
    text_log complete =
        let old = anchor_log t.written store.secret anchor kept in
        let on = goes (record { secret = store.secret; suite = old.0 }) refl old.1 old.2 old.3 in
        let all = whole complete in (
          old.1 ++ added,
          on.1.0,
          next_log all unforged old.1 added old.2 on.1.0 on.0 on.1.1,
          (on.1.1.step u.written (finds_all all unforged)).suite,
        )

    new_text : (d : Commit) → IsAccepted store.secret text d → rest ≡ [] → TextLog u.written store.secret text d (λ last. Unit {0})
    new_text d accepted complete =
        let log = text_log complete in
        let same : c ≡ d = let e : Some c ≡ Some d = sym laid.accepted ∙ accepted in cc e in
        subst (λ (k : Commit). TextLog u.written store.secret text k (λ last. Unit {0})) same (record {
          history = log.0;
          last = log.1;
          log = subst (λ (s : Suite). IsLog u.written (record { secret = store.secret; suite = s }) (c.count, sha256 text) log.0 log.1)
              (sym log.3) log.2;
          holds = tt;
        })

    pub each_text : EachText u.written store.secret (λ last. Unit {0})
    each_text bytes d was accepted =
        ⊎_elim
        (λ earlier. subst (λ (ws : List WrittenPiece). TextLog ws store.secret bytes d (λ last. Unit {0})) (sym grown.written)
        (text_log_stays t.written grown.more_written store.secret bytes d (kept.trace.texts bytes d earlier accepted)))
        (λ rest_of. ⊎_elim
        (λ is. absurd (record_is_no_text store.secret bytes d is accepted))
        (λ is. subst (λ (b : List ℕ). TextLog u.written store.secret b d (λ last. Unit {0})) is.0
        (new_text d (subst (λ (b : List ℕ). IsAccepted store.secret b d) (sym is.0) accepted) is.1)) rest_of)
        (parts done rest in_order wrote bytes was)

    pub each_piece : (bytes : List ℕ) → WasWritten u.written bytes → IsRecord store.secret bytes
        ⊎ ((d : Commit) × IsAccepted store.secret bytes d)
    each_piece bytes was =
        ⊎_elim (λ earlier. kept.trace.pieces bytes earlier)
        (λ rest_of. ⊎_elim (λ is. inl is)
        (λ is. inr (c, subst (λ (b : List ℕ). IsAccepted store.secret b c) is.0 laid.accepted)) rest_of)
        (parts done rest in_order wrote bytes was)

    -- The trace stays well formed,
    pub formed : IsWellFormedTrace u.written store.secret
    formed = record { pieces = each_piece; texts = each_text }

    -- for an anchor of which it was,
    pub kept_still : (a : Anchor) → IsWellFormedLog t.written store.secret a → IsWellFormedLog u.written store.secret a
    kept_still a was = record { trace = formed; anchored = stays a was.anchored }

    -- and is well formed for the text, once all was written.
    pub kept_next : rest ≡ [] → IsWellFormedLog u.written store.secret (c.count, sha256 text)
    kept_next complete = record { trace = formed; anchored = inr (text_named (whole complete)) }

-- Sealed records alone keep it well formed.
pub records_keep : (secret : List ℕ) (t : Trace) (ps : List Placed) (anchor : Anchor) → All (λ (p : Placed). IsRecord secret p.bytes) ps
    → IsWellFormedLog t.written secret anchor → IsWellFormedLog (with_all_written t ps).written secret anchor
records_keep secret t ps anchor records kept =
    let grown : Extends t (with_all_written t ps) = grows_all t ps in
    record {
      trace = record {
        pieces = λ bytes was. ⊎_elim (λ earlier. kept.trace.pieces bytes earlier) (λ one. inl (record_of one.0 bytes one.1))
            (written_in_put t ps bytes was);
        texts = λ bytes c was accepted. ⊎_elim
            (λ earlier. subst (λ (ws : List WrittenPiece). TextLog ws secret bytes c (λ last. Unit {0})) (sym grown.written)
            (text_log_stays t.written grown.more_written secret bytes c (kept.trace.texts bytes c earlier accepted)))
            (λ one. absurd (record_is_no_text secret bytes c (record_of one.0 bytes one.1) accepted))
            (written_in_put t ps bytes was);
      };
      anchored = ⊎_elim (λ none. inl none)
          (λ named. inr (subst (λ (ws : List WrittenPiece). NamesText ws secret anchor) (sym grown.written)
          (names_stays t.written grown.more_written secret anchor named))) kept.anchored;
    }
  where
    record_of : (place : ℕ) (bytes : List ℕ) → IsOneOf ps place bytes → IsRecord secret bytes
    record_of place bytes one = one_of_all (λ at b. IsRecord secret b) ps place bytes
        (all_listed (λ (p : Placed). IsRecord secret p.bytes) ps records) one
