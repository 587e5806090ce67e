-- No two pieces that a log needs stand at one place.
use Rattle.std.proofs.Common.{◌≡◌, ◌⊎◌, inl, inr, ⊎_elim, ℕ, ◌+◌, ◌≤◌, List, [], ◌∷◌, ◌++◌, length, map, Option, None, Ok, refl, sym, ◌∙◌, ap, subst, arith}
use Rattle.std.proofs.lemmas.Option.{same_Some}
use Rattle.std.specs.List.{AllByRecursion}
use Rattle.tdb_append.specs.Put.{slot_place}
use Rattle.tdb_base.specs.declared.piece.Piece.{Piece}
use Rattle.tdb_base.specs.declared.piece.Place.{Place}
use Rattle.tdb_base.specs.declared.suite.Suite.{Suite}
use Rattle.tdb_base.specs.Trace.{WrittenPiece}
use Rattle.tdb_mark.specs.declared.commit.Commit.{Commit}
use Rattle.tdb_mark.specs.CommitFormat.{IsInFormat}
use Rattle.tdb_model.specs.declared.change.Change.{Change}
use Rattle.tdb_model.specs.Apply.{History}
use Rattle.tdb_platform.specs.Outside.{Anchor}
use Rattle.tdb_seg.specs.SegmentSpace.{SegmentSpace, IsSegmentSpace, fits, note_in}
use Rattle.tdb_seg.proofs.Placing.{LiesInDevice}
use Rattle.tdb_seg.proofs.PlacingLaws.{IsFreshPlace, fresh-apart, now-placed, place_in-is, placed-stays, with_bytes-valid}
use Rattle.tdb_overlay.specs.Changes.{named_records}
use Rattle.tdb_overlay.specs.CheckpointState.{IsReached}
use Rattle.tdb_overlay.specs.Found.{Finds, FindsOne, Store, in_trace, store_of_text}
use Rattle.tdb_overlay.specs.Log.{Adds, IsCheckpointOn, IsCommitOn, IsLog, IsLogOf}
use Rattle.tdb_overlay.specs.Required.{IsNamedBy, IsRequired, RestsOn, base_of, text_piece}
use Rattle.tdb_overlay.specs.StoreState.{StoreState, first_state, kept_free}
use Rattle.tdb_overlay.proofs.Chains.{adds_one, count_from}
use Rattle.tdb_overlay.proofs.CheckpointLaws.{none_reached}
use Rattle.tdb_overlay.proofs.Lengths.{IsSized, trace_sized}
use Rattle.tdb_overlay.proofs.LogLaws.{trace_finds_one}
use Rattle.tdb_overlay.proofs.PlacedLogs.{HasSpace, IsIn, commit_behind, is_none, log_placed, one_list, step_placed}
use Rattle.tdb_overlay.proofs.Placings.{HasLength, first_placed, nothing_placed}
use Rattle.tdb_overlay.proofs.RequiredLaws.{counts, formats}
use Rattle.tdb_overlay.proofs.Steps.{piece_lengths, placed, sizes}

-- the piece is one of these
abbrev IsListed : List Piece → Piece → Type 0
IsListed [] p = ⊥
IsListed (x ∷ xs) p = (p ≡ x) ⊎ IsListed xs p

listed_at : (before : List Piece) (p : Piece) (after : List Piece) → IsListed (before ++ p ∷ after) p
listed_at [] p after = inl refl
listed_at (x ∷ before) p after = inr (listed_at before p after)

listed_front : (xs ys : List Piece) (p : Piece) → IsListed xs p → IsListed (xs ++ ys) p
listed_front [] ys p is = absurd is
listed_front (x ∷ xs) ys p (inl same) = inl same
listed_front (x ∷ xs) ys p (inr is) = inr (listed_front xs ys p is)

-- These pieces were placed in the space, no two at one place.
record AreApart (Held : Piece → Type 0) (space : SegmentSpace) : Type 0 where
  placed : (p : Piece) → Held p → IsIn space p
  apart : (p q : Piece) → Held p → Held q → p.place ≡ q.place → p ≡ q

-- so are fewer of them
fewer_apart : (Held Fewer : Piece → Type 0) (space : SegmentSpace) → ((p : Piece) → Fewer p → Held p) → AreApart Held space
    → AreApart Fewer space
fewer_apart Held Fewer space among is = record {
  placed = λ p held. is.placed p (among p held);
  apart = λ p q a b same. is.apart p q (among p a) (among q b) same;
}

-- What was placed stands nowhere where a fresh piece is placed.
fresh_elsewhere : (space : SegmentSpace) (piece old : Piece) → IsFreshPlace space piece.place piece.length → IsIn space old
    → old.place ≡ piece.place → ⊥
fresh_elsewhere space piece old fresh is same =
    let at : old.place.0 ≡ piece.place.0 = ap (λ (q : Place). q.0) same in
    ⊎_elim (λ before. absurd (omega (arith, before, at, is.lies.some))) (λ behind. absurd (omega (arith, behind, at, fresh.lies.some)))
    (fresh-apart space piece.place piece.length old.place.0 old.length fresh is)

-- One more piece, in a fresh place, is apart from them.
one_more : (Held : Piece → Type 0) (space : SegmentSpace) (piece : Piece) → IsFreshPlace space piece.place piece.length
    → AreApart Held space → AreApart (λ p. Held p ⊎ (p ≡ piece)) (note_in space piece)
one_more Held space piece fresh is = record {
  placed = λ p held. in_it p held;
  apart = λ p q a b same. by p q same a b;
}
  where
    in_it : (p : Piece) → Held p ⊎ (p ≡ piece) → IsIn (note_in space piece) p
    in_it p (inl held) = placed-stays space piece.place piece.length p.place.0 p.length fresh (is.placed p held)
    in_it p (inr same) = subst (IsIn (note_in space piece)) (sym same) (now-placed space piece.place piece.length fresh)

    never : (p q : Piece) → Held p → q ≡ piece → p.place ≡ q.place → ⊥
    never p q held new same =
        fresh_elsewhere space piece p fresh (is.placed p held) (same ∙ ap (λ (r : Piece). r.place) new)

    by : (p q : Piece) → p.place ≡ q.place → Held p ⊎ (p ≡ piece) → Held q ⊎ (q ≡ piece) → p ≡ q
    by p q same (inl a) (inl b) = is.apart p q a b same
    by p q same (inl a) (inr new) = absurd (never p q a new same)
    by p q same (inr new) (inl b) = absurd (never q p b new (sym same))
    by p q same (inr a) (inr b) = a ∙ sym b

-- So are pieces that are placed one after another.
more_apart : (Held : Piece → Type 0) (space : SegmentSpace) (pieces : List Piece) (keep : ℕ) (after : SegmentSpace) → IsSegmentSpace space
    → AllByRecursion HasLength pieces
    → fits space (map (λ (p : Piece). p.length) pieces) keep ≡ Ok (map (λ (p : Piece). p.place) pieces, after)
    → AreApart Held space → AreApart (λ p. Held p ⊎ IsListed pieces p) after
more_apart Held space [] keep after valid lengths is so_far =
    subst (AreApart (λ p. Held p ⊎ ⊥)) (nothing_placed space after keep is)
    (fewer_apart Held (λ p. Held p ⊎ ⊥) space (λ p held. ⊎_elim (λ old. old) (λ none. absurd none) held) so_far)
more_apart Held space (piece ∷ pieces) keep after valid lengths is so_far =
    let parts = first_placed space piece pieces keep after is in
    let one = place_in-is space valid piece.length keep piece.place (note_in space piece) lengths.0.0 lengths.0.1 parts.first in
    let lies : LiesInDevice space piece.place piece.length = (one.fresh.k, one.fresh.within, one.fresh.lies) in
    let rest = more_apart (λ p. Held p ⊎ (p ≡ piece)) (note_in space piece) pieces keep after
    (with_bytes-valid space valid piece.place piece.length lies) lengths.1 parts.rest (one_more Held space piece one.fresh so_far) in
    fewer_apart (λ p. (Held p ⊎ (p ≡ piece)) ⊎ IsListed pieces p) (λ p. Held p ⊎ IsListed (piece ∷ pieces) p) after turned rest
  where
    turned : (p : Piece) → Held p ⊎ IsListed (piece ∷ pieces) p → (Held p ⊎ (p ≡ piece)) ⊎ IsListed pieces p
    turned p (inl held) = inl (inl held)
    turned p (inr (inl same)) = inl (inr same)
    turned p (inr (inr listed)) = inr listed

-- what a text rests on in the segments: all but its own bytes
abbrev RestsBeside : Finds → List ℕ → Commit → Piece → Type 0
RestsBeside f secret c piece = (piece ≡ c.first) ⊎ IsNamedBy f secret c piece ⊎ IsReached f (store_of_text secret c) c.root piece

-- so does one of these texts, from a count on
abbrev RestsSince : Finds → List ℕ → ℕ → List Commit → Piece → Type 0
RestsSince f secret base [] piece = ⊥
RestsSince f secret base (c ∷ chain) piece = ((base ≤ c.count) × RestsBeside f secret c piece) ⊎ RestsSince f secret base chain piece

rests_at : (f : Finds) (secret : List ℕ) (base : ℕ) (earlier : List Commit) (c : Commit) (later : List Commit) (piece : Piece)
    → base ≤ c.count → RestsBeside f secret c piece → RestsSince f secret base (earlier ++ c ∷ later) piece
rests_at f secret base [] c later piece since rests = inl (since, rests)
rests_at f secret base (d ∷ earlier) c later piece since rests = inr (rests_at f secret base earlier c later piece since rests)

module _ (f : Finds) (sized : IsSized f) (one : FindsOne f) (store : Store) where
  -- the pieces that are held where a log goes on: those from before, if no checkpoint comes, and those of its texts
  abbrev GoesOn : (Piece → Type 0) → ℕ → ℕ → List Commit → Piece → Type 0
  GoesOn Held count base chain piece = ((base ≤ count) × Held piece) ⊎ RestsSince f store.secret base chain piece

  module _ (before : StoreState) (c : Commit) (after : StoreState) (same : c.suite ≡ store.suite) where
    in_store : (piece : Piece) → IsReached f (store_of_text store.secret c) c.root piece → IsReached f store c.root piece
    in_store piece reached = subst (λ (s : Suite). IsReached f (record { secret = store.secret; suite = s }) c.root piece) same reached

    -- the pieces of a checkpoint
    checkpoint_apart : IsCheckpointOn f store before c after → AreApart (RestsBeside f store.secret c) after.space
    checkpoint_apart is = record {
      placed = λ p rests. is.placed p (beside p rests);
      apart = λ p q a b at. is.apart p q (beside p a) (beside q b) at;
    }
      where
        beside : (p : Piece) → RestsBeside f store.secret c p → (p ≡ c.first) ⊎ IsReached f store c.root p
        beside p (inl first) = inl first
        beside p (inr (inl named)) = absurd (omega (arith, named.kind, is.kind))
        beside p (inr (inr reached)) = inr (in_store p reached)

    module _ (format : IsInFormat c) (changes : List Change) (is : IsCommitOn f store before c changes after) where
      -- the pieces of a commit are those that it places
      commit_lists : (p : Piece) → RestsBeside f store.secret c p → IsListed (named_records is.list.entries ++ c.first ∷ []) p
      commit_lists p (inl first) =
          subst (IsListed (named_records is.list.entries ++ c.first ∷ [])) (sym first)
          (listed_at (named_records is.list.entries) c.first [])
      commit_lists p (inr (inl named)) =
          let entries : is.list.entries ≡ named.list.entries =
          one_list f one store.secret c changes named.changes is.list named.list in
          let names : named_records is.list.entries ≡ named.before ++ p ∷ named.after = ap named_records entries ∙ named.names in
          listed_front (named_records is.list.entries) (c.first ∷ []) p
          (subst (λ (ps : List Piece). IsListed ps p) (sym names) (listed_at named.before p named.after))
      commit_lists p (inr (inr reached)) = absurd
          (⊎_elim (λ kind. no_root (is_none c.root kind.2)) (λ kind. absurd (omega (arith, kind.0, is.kind))) format.kind)
        where
          no_root : c.root ≡ None → ⊥
          no_root none = none_reached f store p
              (subst (λ (r : Option Piece). IsReached f store r p) none (in_store p reached))

      commit_apart : (Held : Piece → Type 0) → HasSpace before → AreApart Held before.space
          → AreApart (λ p. Held p ⊎ RestsBeside f store.secret c p) after.space
      commit_apart Held valid so_far =
          let pieces : List Piece = named_records is.list.entries ++ c.first ∷ [] in
          let more = more_apart Held before.space pieces (kept_free changes) after.space
          (commit_behind f sized store before c changes after format is valid) (piece_lengths f sized store before c changes after is same)
          (ap (λ (ns : List ℕ). fits before.space ns (kept_free changes)) (sizes f sized store before c changes after is same)
          ∙ placed f sized store before c changes after is same) so_far in
          fewer_apart (λ p. Held p ⊎ IsListed pieces p) (λ p. Held p ⊎ RestsBeside f store.secret c p) after.space
          (λ p held. ⊎_elim (λ old. inl old) (λ rests. inr (commit_lists p rests)) held) more

  module _ (Held : Piece → Type 0) (before : StoreState) (c : Commit) (after : StoreState) (chain : List Commit) (last : StoreState)
      (next : after.count ≡ before.count + 1) (count : after.count ≡ c.count) where
    -- behind a checkpoint only its own pieces are held
    behind_checkpoint : c.count ≤ last.base
        → AreApart (GoesOn (RestsBeside f store.secret c) after.count last.base chain) last.space
        → AreApart (GoesOn Held before.count last.base (c ∷ chain)) last.space
    behind_checkpoint base is =
        fewer_apart (GoesOn (RestsBeside f store.secret c) after.count last.base chain) (GoesOn Held before.count last.base (c ∷ chain))
        last.space among is
      where
        among : (p : Piece) → GoesOn Held before.count last.base (c ∷ chain) p
            → GoesOn (RestsBeside f store.secret c) after.count last.base chain p
        among p (inl old) = absurd (omega (arith, old.0, base, next, count))
        among p (inr (inl now)) = inl (omega (arith, now.0, count), now.1)
        among p (inr (inr later)) = inr later

    behind_commit : AreApart (GoesOn (λ p. Held p ⊎ RestsBeside f store.secret c p) after.count last.base chain) last.space
        → AreApart (GoesOn Held before.count last.base (c ∷ chain)) last.space
    behind_commit is =
        fewer_apart (GoesOn (λ p. Held p ⊎ RestsBeside f store.secret c p) after.count last.base chain)
        (GoesOn Held before.count last.base (c ∷ chain)) last.space among is
      where
        among : (p : Piece) → GoesOn Held before.count last.base (c ∷ chain) p
            → GoesOn (λ r. Held r ⊎ RestsBeside f store.secret c r) after.count last.base chain p
        among p (inl old) = inl (omega (arith, old.0, next), inl old.1)
        among p (inr (inl now)) = inl (omega (arith, now.0, count), inr now.1)
        among p (inr (inr later)) = inr later

  -- What the texts of a log rest on since its last checkpoint is apart.
  log_apart : (Held : Piece → Type 0) (before : StoreState) (chain : List Commit) (history : History) (last : StoreState)
      → AllByRecursion IsInFormat chain → HasSpace before → before.base ≤ before.count → AreApart Held before.space
      → IsLogOf f store before chain history last → AreApart (GoesOn Held before.count last.base chain) last.space
  log_apart Held before [] history last in_format valid least so_far is =
      subst (λ (s : StoreState). AreApart (GoesOn Held before.count s.base []) s.space) (sym is.1)
      (fewer_apart Held (GoesOn Held before.count before.base []) before.space
      (λ p held. ⊎_elim (λ old. old.1) (λ none. absurd none) held) so_far)
  log_apart Held before (c ∷ chain) history last in_format valid least so_far is =
      let step = step_placed f sized store before c is.0 is.1 in_format.0 is.3.suite valid is.3.adds in
      let base_least : is.1.base ≤ is.1.count = ⊎_elim (λ kept. omega (arith, kept.0, step.next, least))
      (λ at. omega (arith, at)) step.stays in
      let base : is.1.base ≤ last.base = (log_placed f sized store is.1 chain is.2 last in_format.1 (inr step.valid) base_least is.4).base in
      let next : is.1.count ≡ before.count + 1 = step.next in
      let count : is.1.count ≡ c.count = step.count in
      let rest : (Next : Piece → Type 0) → AreApart Next is.1.space → AreApart (GoesOn Next is.1.count last.base chain) last.space =
      λ Next held. log_apart Next is.1 chain is.2 last in_format.1 (inr step.valid) base_least held is.4 in
      ⊎_elim
      (λ checkpoint. behind_checkpoint Held before c is.1 chain last next count
      (omega (arith, ap (λ (s : StoreState). s.base) checkpoint.0.after_is, count, base))
      (rest (RestsBeside f store.secret c) (checkpoint_apart before c is.1 is.3.suite checkpoint.0)))
      (λ commit. behind_commit Held before c is.1 chain last next count
      (rest (λ p. Held p ⊎ RestsBeside f store.secret c p)
      (commit_apart before c is.1 is.3.suite in_format.0 commit.0 commit.1 Held valid so_far)))
      is.3.adds

-- A text of a log counts the texts up to it.
module _ (f : Finds) (store : Store) where
  text_next : (before : StoreState) (c : Commit) (added : History) (after : StoreState) → Adds f store before c added after
      → c.count ≡ before.count + 1
  text_next before c added after (inl checkpoint) = checkpoint.0.next
  text_next before c added after (inr commit) = commit.1.next

  count_at : (before : StoreState) (earlier : List Commit) (c : Commit) (later : List Commit) (history : History) (last : StoreState)
      → IsLogOf f store before (earlier ++ c ∷ later) history last
      → (c.count ≡ before.count + length earlier + 1) × (c.count ≤ last.count)
  count_at before [] c later history last is =
      let next = text_next before c is.0 is.1 is.3.adds in
      let after = adds_one f store before c is.0 is.1 is.3.adds in
      (omega (arith, next), omega (arith, next, after, count_from f store is.1 later is.2 last is.4))
  count_at before (d ∷ earlier) c later history last is =
      let rest = count_at is.1 earlier c later is.2 last is.4 in
      (omega (arith, rest.0, adds_one f store before d is.0 is.1 is.3.adds), rest.1)

-- Texts of equal counts are one text.
same_text : (earlier : List Commit) (c : Commit) (later others : List Commit) (d : Commit) (rest : List Commit)
    → earlier ++ c ∷ later ≡ others ++ d ∷ rest → length earlier ≡ length others → c ≡ d
same_text [] c later [] d rest is long = cc
same_text [] c later (o ∷ others) d rest is long = absurd (omega (arith, long))
same_text (e ∷ earlier) c later [] d rest is long = absurd (omega (arith, long))
same_text (e ∷ earlier) c later (o ∷ others) d rest is long =
    let tails : earlier ++ c ∷ later ≡ others ++ d ∷ rest = cc in
    same_text earlier c later others d rest tails (omega (arith, long))

one_slot : (base a b : ℕ) → 1 ≤ base → base ≤ a → a ≤ base + 1000 → base ≤ b → b ≤ base + 1000 → slot_place a ≡ slot_place b → a ≡ b
one_slot base a b some from_a to_a from_b to_b same = omega arith

-- a text of a log from its last checkpoint on, and where it stands in the chain
record SinceBase (chain : List Commit) (last : StoreState) (c : Commit) : Type 0 where
  earlier : List Commit
  later : List Commit
  split : chain ≡ earlier ++ c ∷ later
  since : last.base ≤ c.count
  some : 1 ≤ last.base
  counted : c.count ≤ last.base + 1000
  at : c.count ≡ length earlier + 1

module _ (written : List WrittenPiece) (store : Store) (anchor : Anchor) (history : History) (last : StoreState)
    (is : IsLog written store anchor history last) where
  abbrev told : Finds
  told = in_trace written

  -- what is needed beside the texts
  beside_apart : AreApart (RestsSince told store.secret last.base is.chain) last.space
  beside_apart =
      fewer_apart (GoesOn told (trace_sized written) (trace_finds_one written) store (λ p. ⊥) 0 last.base is.chain)
      (RestsSince told store.secret last.base is.chain) last.space (λ p rests. inr rests)
      (log_apart told (trace_sized written) (trace_finds_one written) store (λ p. ⊥) first_state is.chain history last
      (formats written store anchor history last is) (inl refl) (omega arith)
      (record { placed = λ p none. absurd none; apart = λ p q none. absurd none }) is.tells)

  since_base : (p : Piece) (r : IsRequired written store anchor p) → SinceBase is.chain last r.text
  since_base p r =
      let chain : r.chain ≡ is.chain = same_Some r.chain is.chain (sym r.ends ∙ is.ends) in
      let split : is.chain ≡ r.earlier ++ r.text ∷ r.later = sym chain ∙ r.in_chain in
      let bounds = counts written store anchor history last is r.earlier r.text r.later split in
      let told_split = subst (λ (texts : List Commit). IsLogOf told store first_state texts history last) split is.tells in
      let at = count_at told store first_state r.earlier r.text r.later history last told_split in
      record {
        earlier = r.earlier;
        later = r.later;
        split = split;
        since = omega (arith, bounds.base, ap base_of chain, r.since_base);
        some = bounds.some;
        counted = omega (arith, at.1, bounds.commits);
        at = omega (arith, at.0);
      }

  -- a needed piece is a text, or it is needed beside the texts
  kind_of : (p : Piece) (r : IsRequired written store anchor p) → (p ≡ text_piece store.secret r.text)
      ⊎ RestsSince told store.secret last.base is.chain p
  kind_of p r = by r.rests
    where
      by : RestsOn told store.secret r.text p → (p ≡ text_piece store.secret r.text) ⊎ RestsSince told store.secret last.base is.chain p
      by (inl text) = inl text
      by (inr rests) =
          let at = since_base p r in
          inr (subst (λ (texts : List Commit). RestsSince told store.secret last.base texts p) (sym at.split)
          (rests_at told store.secret last.base at.earlier r.text at.later p at.since rests))

  -- Two texts in one slot are one text.
  texts_apart : (c d : Commit) → SinceBase is.chain last c → SinceBase is.chain last d → slot_place c.count ≡ slot_place d.count → c ≡ d
  texts_apart c d a b same =
      let counted : c.count ≡ d.count = one_slot last.base c.count d.count a.some a.since a.counted b.since b.counted same in
      same_text a.earlier c a.later b.earlier d b.later (sym a.split ∙ b.split) (omega (arith, counted, a.at, b.at))

  -- Where a text stands, nothing stands that is needed beside the texts.
  text_elsewhere : (c : Commit) (p q : Piece) → p ≡ text_piece store.secret c → RestsSince told store.secret last.base is.chain q
      → p.place ≡ q.place → ⊥
  text_elsewhere c p q text rests same =
      let slot : p.place.0 ≡ slot_place c.count = ap (λ (r : Piece). r.place.0) text in
      let at : p.place.0 ≡ q.place.0 = ap (λ (r : Place). r.0) same in
      omega (arith, slot, at, (beside_apart.placed q rests).lies.begins)

  needed_apart : (p q : Piece) (a : IsRequired written store anchor p) (b : IsRequired written store anchor q) → p.place ≡ q.place
      → (p ≡ text_piece store.secret a.text) ⊎ RestsSince told store.secret last.base is.chain p
      → (q ≡ text_piece store.secret b.text) ⊎ RestsSince told store.secret last.base is.chain q → p ≡ q
  needed_apart p q a b same (inl x) (inl y) =
      let slots : slot_place a.text.count ≡ slot_place b.text.count =
      ap (λ (r : Piece). r.place.0) (sym x) ∙ ap (λ (r : Place). r.0) same ∙ ap (λ (r : Piece). r.place.0) y in
      x ∙ ap (text_piece store.secret) (texts_apart a.text b.text (since_base p a) (since_base q b) slots) ∙ sym y
  needed_apart p q a b same (inl x) (inr y) = absurd (text_elsewhere a.text p q x y same)
  needed_apart p q a b same (inr x) (inl y) = absurd (text_elsewhere b.text q p y x (sym same))
  needed_apart p q a b same (inr x) (inr y) = beside_apart.apart p q x y same

-- No two pieces that a log needs stand at one place.
pub required_apart : (written : List WrittenPiece) (store : Store) (anchor : Anchor) (history : History) (last : StoreState)
    → IsLog written store anchor history last → (p q : Piece) → IsRequired written store anchor p → IsRequired written store anchor q
    → p.place ≡ q.place → p ≡ q
required_apart written store anchor history last is p q a b same =
    needed_apart written store anchor history last is p q a b same (kind_of written store anchor history last is p a)
    (kind_of written store anchor history last is q b)
