-- What the log needs once its next text was written: what it needed, the text, and the pieces that were written before it.
use Rattle.std.proofs.Common.{◌≡◌, ◌⊎◌, inl, inr, ⊎_elim, ℕ, ◌≤◌, List, [], ◌∷◌, ◌++◌, Option, Some, replicate, refl, sym, ◌∙◌, ap, subst, arith}
use Rattle.std.specs.List.{AllByRecursion}
use Rattle.std.proofs.lemmas.Option.{same_Some}
use Rattle.sha2.specs.Sha256.{sha256}
use Rattle.tdb_append.specs.Placed.{EachHolds, Placed, with_all_written}
use Rattle.tdb_base.specs.declared.piece.Piece.{Piece}
use Rattle.tdb_base.specs.Trace.{Trace}
use Rattle.tdb_mark.specs.declared.commit.Commit.{Commit}
use Rattle.tdb_mark.specs.CommitChain.{commit_chain}
use Rattle.tdb_mark.specs.CommitFormat.{IsInFormat}
use Rattle.tdb_mark.specs.CommitText.{commit_key_of, commit_of, commit_text}
use Rattle.tdb_mark.specs.Unforged.{IsUnforged}
use Rattle.tdb_mark.proofs.TextLemmas.{commit_of_is}
use Rattle.tdb_model.specs.Apply.{History}
use Rattle.tdb_platform.specs.Image.{Holds}
use Rattle.tdb_platform.specs.Outside.{Anchor}
use Rattle.tdb_overlay.specs.Found.{Store, in_trace}
use Rattle.tdb_overlay.specs.Images.{AllStandIn, StandsIn}
use Rattle.tdb_overlay.specs.LaidPieces.{IsLaidPiece}
use Rattle.tdb_overlay.specs.Log.{Adds, IsLog, IsStep}
use Rattle.tdb_overlay.specs.NextText.{FindsAll, IsLaidText, IsNextText, NamesMark}
use Rattle.tdb_overlay.specs.Required.{IsRequired, RestsOn, base_of, text_piece}
use Rattle.tdb_overlay.specs.StoreState.{StoreState}
use Rattle.tdb_overlay.proofs.KeptLaws.{finds_all, slot}
use Rattle.tdb_overlay.proofs.Listed.{all_at, all_front, all_listed, one_of_all}
use Rattle.tdb_overlay.proofs.LogLaws.{trace_finds_one}
use Rattle.tdb_overlay.proofs.Needing.{base_of-last}
use Rattle.tdb_overlay.proofs.PutLogs.{follows_is, longer_chain}
use Rattle.tdb_overlay.proofs.RequiredLaws.{counts, rests_before}
use Rattle.tdb_overlay.proofs.Unmistaken.{text_length}

same_heads : (a b : Commit) (x y : List Commit) → a ∷ x ≡ b ∷ y → (a ≡ b) × (x ≡ y)
same_heads a b x y e = (cc, cc)

no_split : (front : List Commit) (t : Commit) (rest : List Commit) → [] ≡ front ++ t ∷ rest → ⊥
no_split [] t rest is = cc
no_split (x ∷ front) t rest is = cc

-- one of some texts and a last one
pub last_or_front : (chain : List Commit) (c : Commit) (earlier : List Commit) (text : Commit) (later : List Commit)
    → chain ++ c ∷ [] ≡ earlier ++ text ∷ later
    → (text ≡ c) ⊎ ((more : List Commit) × (chain ≡ earlier ++ text ∷ more))
last_or_front [] c [] text later e = inl (sym (same_heads c text [] later e).0)
last_or_front [] c (d ∷ earlier) text later e = absurd (no_split earlier text later (same_heads c d [] (earlier ++ text ∷ later) e).1)
last_or_front (d ∷ chain) c [] text later e = inr (chain, ap (λ (t : Commit). t ∷ chain) (same_heads d text (chain ++ c ∷ []) later e).0)
last_or_front (d ∷ chain) c (g ∷ earlier) text later e =
    let heads = same_heads d g (chain ++ c ∷ []) (earlier ++ text ∷ later) e in
    ⊎_elim (λ same. inl same) (λ front. inr (front.0, ap (λ (t : Commit). t ∷ chain) heads.0 ∙ ap (λ (l : List Commit). g ∷ l) front.1))
    (last_or_front chain c earlier text later heads.1)

-- a laid piece stands in an image
abbrev HoldsPiece : List ℕ → Placed → Type 0
HoldsPiece image p = Holds image p.place p.bytes

module _ (store : Store) (t u : Trace) (anchor : Anchor) (text : List ℕ) (c : Commit) (ps : List Placed)
    (laid : IsLaidText store.secret text c ps)
    (wrote : u ≡ with_all_written t (ps ++ slot store t u anchor text c ps laid ∷ []))
    (unforged : IsUnforged u (commit_of (commit_key_of store.secret)))
    (before added : History) (from to : StoreState) (is : IsLog t.written store anchor before from)
    (next : IsNextText t.written store anchor from c ps added to) where
  abbrev grammar : List ℕ → Option Commit
  grammar = commit_of (commit_key_of store.secret)

  format : IsInFormat c
  format = (commit_of_is (commit_key_of store.secret) text c laid.accepted).in_format

  found : FindsAll t.written ps u.written
  found = finds_all store t u anchor text c ps laid wrote unforged

  step : IsStep (in_trace u.written) store from c added to
  step = next.step u.written found

  ends_before : NamesMark anchor c → commit_chain t.written grammar anchor.0 c.prev.0 ≡ Some is.chain
  ends_before (inl first) =
      let none : commit_chain t.written grammar 0 c.prev.0 ≡ Some is.chain = subst
      (λ (n : ℕ). commit_chain t.written grammar n anchor.1 ≡ Some is.chain) first.0 is.ends in
      subst (λ (n : ℕ). commit_chain t.written grammar n c.prev.0 ≡ Some is.chain) (sym first.0) none
  ends_before (inr later) = subst (λ (m : List ℕ). commit_chain t.written grammar anchor.0 m ≡ Some is.chain) (sym later.1) is.ends

  starts : NamesMark anchor c → anchor.0 ≡ 0 → c.prev.0 ≡ replicate 32 0
  starts (inl first) none = first.1
  starts (inr later) none = absurd (omega (arith, later.0, none))

  ends_after : commit_chain u.written grammar c.count (sha256 text) ≡ Some (is.chain ++ c ∷ [])
  ends_after =
      subst (λ (n : ℕ). commit_chain u.written grammar n (sha256 text) ≡ Some (is.chain ++ c ∷ [])) (sym next.count)
      (longer_chain store t u anchor.0 c.prev.0 (slot store t u anchor text c ps laid) ps c is.chain laid.accepted refl
      (follows_is anchor.0 c next.count (starts next.mark)) wrote unforged (ends_before next.mark))

  -- the text's base is no earlier than that of the log before
  base_on : from.base ≤ from.count → Adds (in_trace u.written) store from c added to → from.base ≤ c.base
  base_on least (inl checkpoint) = ⊎_elim (λ kind. absurd (omega (arith, kind.0, checkpoint.0.kind)))
      (λ kind. omega (arith, kind.1, checkpoint.0.next, least)) format.kind
  base_on least (inr commit) = omega (arith, commit.1.base)

  -- The log of the text needs the text, pieces that were laid, and what the log before needed.
  pub required_next : (piece : Piece) → IsRequired u.written store (c.count, sha256 text) piece → (piece ≡ text_piece store.secret c)
      ⊎ IsLaidPiece ps piece ⊎ IsRequired t.written store anchor piece
  required_next piece r =
      let chain : r.chain ≡ is.chain ++ c ∷ [] = same_Some r.chain (is.chain ++ c ∷ []) (sym r.ends ∙ ends_after) in
      ⊎_elim
      (λ last. next.only u.written found piece (subst (λ (k : Commit). RestsOn (in_trace u.written) store.secret k piece) last r.rests))
      (λ front. inr (inr
      (of_front r.earlier r.text front.0 front.1
      (omega (arith, base_of-last is.chain c, ap base_of chain, r.since_base)) piece r.rests)))
      (last_or_front is.chain c r.earlier r.text r.later (sym chain ∙ r.in_chain))
    where
      of_front : (earlier : List Commit) (d : Commit) (more : List Commit) → is.chain ≡ earlier ++ d ∷ more → c.base ≤ d.count
          → (piece : Piece) → RestsOn (in_trace u.written) store.secret d piece → IsRequired t.written store anchor piece
      of_front earlier d more split since piece rests =
          let counted = counts t.written store anchor before from is earlier d more split in
          let low : from.base ≤ c.base = base_on counted.least step.adds in
          record {
            chain = is.chain;
            ends = is.ends;
            text = d;
            earlier = earlier;
            later = more;
            in_chain = split;
            since_base = omega (arith, counted.base, low, since);
            rests = rests_before t.written store anchor before from is earlier d more split (in_trace u.written) found.0
                (trace_finds_one u.written) piece rests;
          }

  -- So all that it needs stands in an image in which the put stands, and what was needed.
  pub stand_next : (image : List ℕ) → EachHolds image (ps ++ slot store t u anchor text c ps laid ∷ [])
      → AllStandIn image t.written store anchor → AllStandIn image u.written store (c.count, sha256 text)
  stand_next image holds stand piece required = by (required_next piece required)
    where
      all : AllByRecursion (HoldsPiece image) (ps ++ slot store t u anchor text c ps laid ∷ [])
      all = all_listed (HoldsPiece image) (ps ++ slot store t u anchor text c ps laid ∷ []) holds

      spelled : text ≡ commit_text (commit_key_of store.secret) c
      spelled = (commit_of_is (commit_key_of store.secret) text c laid.accepted).spelled

      by : (piece ≡ text_piece store.secret c) ⊎ IsLaidPiece ps piece ⊎ IsRequired t.written store anchor piece → StandsIn image piece
      by (inl same) = record {
        bytes = text;
        digest = ap sha256 spelled ∙ sym (ap (λ (p : Piece). p.digest.0) same);
        size = text_length (commit_key_of store.secret) text c laid.accepted ∙ sym (ap (λ (p : Piece). p.length) same);
        holds = subst (λ (at : ℕ). Holds image at text) (sym (ap (λ (p : Piece). p.place.0) same))
            (all_at (HoldsPiece image) ps (slot store t u anchor text c ps laid) [] all);
      }
      by (inr (inl one)) = record {
        bytes = one.0;
        digest = one.1.0;
        size = sym one.1.2;
        holds = one_of_all (Holds image) ps piece.place.0 one.0
            (all_front (HoldsPiece image) ps (slot store t u anchor text c ps laid ∷ []) all) one.1.1;
      }
      by (inr (inr old)) = stand piece old
