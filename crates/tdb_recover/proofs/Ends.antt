-- The end of a chain of texts.
use Rattle.std.proofs.Common.{◌≡◌, ◌⊎◌, inl, inr, ⊎_elim, ℕ, suc, ◌+◌, ◌-◌, ◌<◌, ◌≤◌, ◌==◌, ◌&&◌, Bool, true, false, cond, List, [], ◌∷◌, ◌++◌, replicate, Option, Some, refl, sym, ◌∙◌, ap, subst, arith, append_assoc, IsNone}
use Rattle.std.specs.Str.{bytes_eq}
use Rattle.std.proofs.lemmas.Bool.{eqb-true}
use Rattle.sha2.specs.Sha256.{sha256}
use Rattle.tdb_append.specs.Put.{slot_place}
use Rattle.tdb_base.specs.declared.piece.Digest.{Digest}
use Rattle.tdb_base.specs.declared.piece.Piece.{Piece}
use Rattle.tdb_base.specs.Trace.{Trace, WrittenPiece}
use Rattle.tdb_mark.specs.declared.commit.Commit.{Commit}
use Rattle.tdb_mark.specs.CommitChain.{commit_chain, follows}
use Rattle.tdb_mark.specs.CommitFormat.{IsInFormat}
use Rattle.tdb_mark.specs.CommitText.{commit_key_of, commit_of, commit_text}
use Rattle.tdb_mark.specs.TextOfDigest.{text_of_digest}
use Rattle.tdb_mark.proofs.DigestLemmas.{text_of_digest_is}
use Rattle.tdb_mark.proofs.TextLemmas.{commit_of_is}
use Rattle.tdb_platform.specs.Outside.{Anchor}
use Rattle.tdb_overlay.specs.Found.{in_trace}
use Rattle.tdb_overlay.specs.Required.{IsOpeningPiece, base_of, text_piece}
use Rattle.tdb_overlay.specs.Log.{IsLogOf}
use Rattle.tdb_overlay.specs.StoreState.{StoreState, first_state}
use Rattle.tdb_overlay.proofs.Chains.{chain_in_format, chain_last, step_counts}
use Rattle.tdb_overlay.proofs.Needing.{base_of-last}
use Rattle.tdb_overlay.proofs.Lengths.{trace_sized}
use Rattle.tdb_overlay.proofs.Steps.{step_segments}
use Rattle.tdb_recover.proofs.Steps.{split, commit_base, commit_many, counts_of}
use Rattle.tdb_recover.specs.Chain.{EndsWith, IsGiven, IsTextOf, WholeLog}

-- the last text of a chain, and the chain before it
pub record LastText (written : List WrittenPiece) (grammar : List ℕ → Option Commit) (n : ℕ) (mark : List ℕ) (chain : List Commit) : Type 0 where
  pub text : List ℕ
  pub commit : Commit
  pub front : List Commit
  pub found : text_of_digest written mark ≡ Some text
  pub reads : grammar text ≡ Some commit
  pub count : commit.count ≡ n + 1
  pub before : commit_chain written grammar n commit.prev.0 ≡ Some front
  pub parts : chain ≡ front ++ commit ∷ []

and_first : (a b : Bool) → (a && b) ≡ true → a ≡ true
and_first true b e = refl
and_first false b e = e

follows_count : (n : ℕ) (c : Commit) → follows n c ≡ true → c.count ≡ n + 1
follows_count n c e = eqb-true c.count (n + 1) (and_first (c.count == n + 1) (cond (n == 0) (bytes_eq c.prev.0 (replicate 32 0)) true) e)

pub last_text : (written : List WrittenPiece) (grammar : List ℕ → Option Commit) (n : ℕ) (mark : List ℕ) (chain : List Commit) → commit_chain written grammar (suc n) mark ≡ Some chain → LastText written grammar n mark chain
last_text written grammar n mark chain h =
    let a = chain_last written grammar mark chain n h in
    record { text = a.0; commit = a.1; front = a.2; found = a.3; reads = a.4; count = follows_count n a.1 a.5; before = a.6; parts = a.7 }

pub base_not_later : (c : Commit) → IsInFormat c → c.base ≤ c.count
base_not_later c format = by_kind format.kind
  where
    by_kind : ((c.kind ≡ 1) × (c.base < c.count) × IsNone c.root) ⊎ ((c.kind ≡ 2) × (c.base ≡ c.count)) → c.base ≤ c.count
    by_kind (inl commit) = omega (arith, commit.1)
    by_kind (inr checkpoint) = omega (arith, checkpoint.1)

module _ (written : List WrittenPiece) (trace : Trace) (secret : List ℕ) (log : WholeLog) (given : IsGiven written trace secret log) where
  -- opening reads a text of the chain since the last checkpoint, and the piece that it names
  pub is_opening : (c : Commit) (front later : List Commit) (piece : Piece) → log.chain ≡ front ++ c ∷ later → base_of log.chain ≤ c.count → (piece ≡ text_piece log.store.secret c) ⊎ (piece ≡ c.first)
      → IsOpeningPiece written log.store log.anchor piece
  is_opening c front later piece parts since of_text = record {
    required = record {
      chain = log.chain;
      ends = subst (λ (s : List ℕ). commit_chain written (commit_of (commit_key_of s)) log.anchor.0 log.anchor.1 ≡ Some log.chain) (sym given.keys) given.ends;
      text = c;
      earlier = front;
      later = later;
      in_chain = parts;
      since_base = since;
      rests = ⊎_elim (λ text. inl text) (λ first. inr (inl first)) of_text;
    };
    of_text = ⊎_elim (λ text. inl text) (λ first. inr (inl first)) of_text;
  }

  -- such a text, by the mark that the chain says
  pub text_opening : (c : Commit) (front later : List Commit) (text : List ℕ) (mark : Digest) (count : ℕ) (piece : Piece) → log.chain ≡ front ++ c ∷ later → base_of log.chain ≤ c.count
      → text_of_digest written mark.0 ≡ Some text → commit_of (commit_key_of secret) text ≡ Some c → c.count ≡ count
      → piece ≡ record { place = record { 0 = slot_place count }; length = 256; digest = mark } → IsOpeningPiece written log.store log.anchor piece
  text_opening c front later text mark count piece parts since found reads at is =
      let spelled : text ≡ commit_text (commit_key_of secret) c = (commit_of_is (commit_key_of secret) text c reads).spelled in
      let marked : mark.0 ≡ sha256 (commit_text (commit_key_of secret) c) = sym (text_of_digest_is written mark.0 text found).1 ∙ ap sha256 spelled in
      let here : piece ≡ text_piece secret c =
      is
      ∙ ap (λ (n : ℕ). let p : Piece = record { place = record { 0 = slot_place n }; length = 256; digest = mark } in p) (sym at)
      ∙ ap (λ (l : List ℕ). let p : Piece = record { place = record { 0 = slot_place c.count }; length = 256; digest = record { 0 = l } } in p) marked in
      is_opening c front later piece parts since (inl (here ∙ ap (λ (s : List ℕ). text_piece s c) (sym given.keys)))

  -- the text of which the chain says the mark
  pub is_text_of : (n : ℕ) (mark : List ℕ) (chain : List Commit) (last : LastText written (commit_of (commit_key_of secret)) n mark chain) → IsTextOf written trace secret mark last.commit
  is_text_of n mark chain last = record { unforged = given.unforged; text = last.text; found = last.found; reads = last.reads }

  -- the last text of all
  pub newest : (count : ℕ) (mark : List ℕ) → log.anchor ≡ (count, mark) → 0 < count → LastText written (commit_of (commit_key_of secret)) (count - 1) mark log.chain
  newest count mark at some =
      let here : commit_chain written (commit_of (commit_key_of secret)) count mark ≡ Some log.chain =
      subst (λ (a : Anchor). commit_chain written (commit_of (commit_key_of secret)) a.0 a.1 ≡ Some log.chain) at given.ends in
      let next : count ≡ suc (count - 1) = omega arith in
      last_text written (commit_of (commit_key_of secret)) (count - 1) mark log.chain (subst (λ (n : ℕ). commit_chain written (commit_of (commit_key_of secret)) n mark ≡ Some log.chain) next here)

  pub newest_ends : (count : ℕ) (mark : List ℕ) → 0 < count → (last : LastText written (commit_of (commit_key_of secret)) (count - 1) mark log.chain) → EndsWith written secret log.chain last.commit []
  newest_ends count mark some last = record {
    front = last.front;
    before = subst (λ (n : ℕ). commit_chain written (commit_of (commit_key_of secret)) n last.commit.prev.0 ≡ Some last.front) (let e : count - 1 ≡ last.commit.count - 1 = omega (arith, last.count) in e) last.before;
    parts = last.parts;
    base = ap base_of last.parts ∙ base_of-last last.front last.commit;
  }

  pub newest_opening : (count : ℕ) (mark : Digest) (piece : Piece) → 0 < count → LastText written (commit_of (commit_key_of secret)) (count - 1) mark.0 log.chain
      → piece ≡ record { place = record { 0 = slot_place count }; length = 256; digest = mark } → IsOpeningPiece written log.store log.anchor piece
  newest_opening count mark piece some last is =
      let format = (commit_of_is (commit_key_of secret) last.text last.commit last.reads).in_format in
      let base : base_of log.chain ≡ last.commit.base = ap base_of last.parts ∙ base_of-last last.front last.commit in
      let not_later = base_not_later last.commit format in
      text_opening last.commit last.front [] last.text mark count piece last.parts (omega (arith, base, not_later)) last.found last.reads (omega (arith, last.count, some)) is

  -- the last text has the anchor's count, and not too many since its base
  pub newest_counts : (count : ℕ) (mark : List ℕ) → 0 < count → (last : LastText written (commit_of (commit_key_of secret)) (count - 1) mark log.chain) → (last.commit.count ≡ count) × (count ≤ last.commit.base + 1000) × (log.last.count ≡ count)
  newest_counts count mark some last =
      let format = (commit_of_is (commit_key_of secret) last.text last.commit last.reads).in_format in
      let parts = split (in_trace written) log.store first_state last.front (last.commit ∷ []) log.history log.last
      (subst (λ (l : List Commit). IsLogOf (in_trace written) log.store first_state l log.history log.last) last.parts given.tells) in
      let step = parts.second.3 in
      let counts = step_counts (in_trace written) log.store parts.mid last.commit parts.second.0 parts.second.1 format step in
      let after : log.last ≡ parts.second.1 = parts.second.4.1 in
      let counted : log.last.count ≡ last.commit.count = ap (λ (s : StoreState). s.count) after ∙ counts.count in
      let based : log.last.base ≡ last.commit.base = ap (λ (s : StoreState). s.base) after ∙ counts.base in
      let few = (counts_of (in_trace written) log.store last.front last.commit log.chain log.history log.last last.parts (chain_in_format written (commit_key_of secret) log.anchor.0 log.anchor.1 log.chain given.ends) given.tells).commits in
      (omega (arith, last.count, some), omega (arith, last.count, some, counted, based, few), omega (arith, last.count, some, counted))

  -- the text before another one of the chain
  pub before_text : (text : Commit) (later : List Commit) → 1 < text.count → (ends : EndsWith written secret log.chain text later) → LastText written (commit_of (commit_key_of secret)) (text.count - 2) text.prev.0 ends.front
  before_text text later some ends =
      let next : text.count - 1 ≡ suc (text.count - 2) = omega arith in
      last_text written (commit_of (commit_key_of secret)) (text.count - 2) text.prev.0 ends.front
      (subst (λ (n : ℕ). commit_chain written (commit_of (commit_key_of secret)) n text.prev.0 ≡ Some ends.front) next ends.before)

  -- The two texts go together.
  pub before_fits : (text : Commit) (later : List Commit) → IsInFormat text → text.base < text.count → 1 < text.count → (ends : EndsWith written secret log.chain text later)
      → (last : LastText written (commit_of (commit_key_of secret)) (text.count - 2) text.prev.0 ends.front)
      → (last.commit.count + 1 ≡ text.count) × (last.commit.base ≡ text.base) × (last.commit.suite ≡ text.suite) × (last.commit.segments ≡ text.segments)
  before_fits text later format is_commit some ends last =
      let finds = in_trace written in
      let store = log.store in
      let c_format = (commit_of_is (commit_key_of secret) last.text last.commit last.reads).in_format in
      let parts : log.chain ≡ last.front ++ last.commit ∷ text ∷ later = ends.parts ∙ ap (λ (l : List Commit). l ++ text ∷ later) last.parts ∙ append_assoc last.front (last.commit ∷ []) (text ∷ later) in
      let s = split finds store first_state last.front (last.commit ∷ text ∷ later) log.history log.last
      (subst (λ (l : List Commit). IsLogOf finds store first_state l log.history log.last) parts given.tells) in
      let first = s.second.3 in
      let second = s.second.4.3 in
      let based : s.second.1.base ≡ last.commit.base = (step_counts finds store s.mid last.commit s.second.0 s.second.1 c_format first).base in
      let same : text.base ≡ s.second.1.base = commit_base finds store s.second.1 text s.second.4.0 s.second.4.1 format is_commit second in
      let many : text.segments ≡ s.second.1.space.segments = commit_many finds store s.second.1 text s.second.4.0 s.second.4.1 format is_commit second in
      let counted : s.second.1.space.segments ≡ last.commit.segments = step_segments finds (trace_sized written) store s.mid last.commit s.second.0 s.second.1 first in
      (omega (arith, last.count, some), sym (same ∙ based), first.suite ∙ sym second.suite, sym (many ∙ counted))

  pub before_ends : (text : Commit) (later : List Commit) → IsInFormat text → text.base < text.count → 1 < text.count → (ends : EndsWith written secret log.chain text later)
      → (last : LastText written (commit_of (commit_key_of secret)) (text.count - 2) text.prev.0 ends.front) → EndsWith written secret log.chain last.commit (text ∷ later)
  before_ends text later format is_commit some ends last =
      let fits = before_fits text later format is_commit some ends last in
      record {
        front = last.front;
        before = subst (λ (n : ℕ). commit_chain written (commit_of (commit_key_of secret)) n last.commit.prev.0 ≡ Some last.front) (let e : text.count - 2 ≡ last.commit.count - 1 = omega (arith, last.count) in e) last.before;
        parts = ends.parts ∙ ap (λ (l : List Commit). l ++ text ∷ later) last.parts ∙ append_assoc last.front (last.commit ∷ []) (text ∷ later);
        base = ends.base ∙ sym fits.1;
      }

  pub before_opening : (text : Commit) (later : List Commit) (piece : Piece) → IsInFormat text → text.base < text.count → 1 < text.count → (ends : EndsWith written secret log.chain text later)
      → (last : LastText written (commit_of (commit_key_of secret)) (text.count - 2) text.prev.0 ends.front)
      → piece ≡ record { place = record { 0 = slot_place (text.count - 1) }; length = 256; digest = text.prev } → IsOpeningPiece written log.store log.anchor piece
  before_opening text later piece format is_commit some ends last is =
      let next = before_ends text later format is_commit some ends last in
      let not_later = base_not_later last.commit (commit_of_is (commit_key_of secret) last.text last.commit last.reads).in_format in
      text_opening last.commit next.front (text ∷ later) last.text text.prev (text.count - 1) piece next.parts (omega (arith, next.base, not_later)) last.found last.reads (omega (arith, last.count, some)) is
