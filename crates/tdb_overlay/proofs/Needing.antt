-- Which pieces the log of an anchor needs, and that a longer log needs them too.
use Rattle.std.proofs.Common.{◌≡◌, inl, inr, ℕ, ◌≤◌, ◌==◌, Bool, true, false, cond, List, [], ◌∷◌, ◌++◌, Option, Some, refl, sym, ◌∙◌, ap, subst, arith, append_assoc}
use Rattle.std.specs.List.{AllByRecursion}
use Rattle.std.proofs.lemmas.Bool.{eq-eqb}
use Rattle.tdb_base.specs.declared.piece.Piece.{Piece}
use Rattle.tdb_base.specs.Trace.{WrittenPiece}
use Rattle.tdb_list.specs.declared.entry.Entry.{Entry}
use Rattle.tdb_mark.specs.declared.commit.Commit.{Commit}
use Rattle.tdb_mark.specs.CommitChain.{commit_chain}
use Rattle.tdb_mark.specs.CommitText.{commit_key_of, commit_of}
use Rattle.tdb_model.specs.declared.change.Change.{Change}
use Rattle.tdb_model.specs.declared.change.Change.TheVariants.{Write, Free, Make, Copy, Drop}
use Rattle.tdb_platform.specs.Outside.{Anchor}
use Rattle.tdb_overlay.specs.Changes.{AreChangesOf, HasChanges, IsChangeOf, named_records}
use Rattle.tdb_overlay.specs.Found.{Finds, Finer, Store, in_trace, store_of_text}
use Rattle.tdb_overlay.specs.Needed.{needed}
use Rattle.tdb_overlay.specs.Required.{IsRequired, RestsOn, base_of}
use Rattle.tdb_overlay.proofs.CheckpointLaws.{reached_stays}
use Rattle.tdb_overlay.proofs.LogLaws.{list_stays}

-- a needed piece is one of the trace
pub needed_found : (written : List WrittenPiece) (store : Store) (anchor : Anchor) → Finer (needed written store anchor) (in_trace written)
needed_found written store anchor piece bytes is = is.0

-- the same, and P of the piece
abbrev found_with : Finds → (Piece → Type 0) → Finds
found_with f P piece bytes = f piece bytes × P piece

module _ (f : Finds) (P : Piece → Type 0) (secret : List ℕ) where
  behind_one : (e : Entry) (entries : List Entry) → AllByRecursion P (named_records (e ∷ entries)) → AllByRecursion P (named_records entries)
  behind_one e entries all = rest (e.kind == 1) all
    where
      rest : (b : Bool) → AllByRecursion P (cond b (e.piece ∷ named_records entries) (named_records entries)) → AllByRecursion P (named_records entries)
      rest true h = h.1
      rest false h = h

  its_own : (e : Entry) (entries : List Entry) → e.kind ≡ 1 → AllByRecursion P (named_records (e ∷ entries)) → P e.piece
  its_own e entries kind all = (subst (λ (b : Bool). AllByRecursion P (cond b (e.piece ∷ named_records entries) (named_records entries))) (eq-eqb e.kind 1 kind) all).0

  change_with : (e : Entry) (entries : List Entry) (change : Change) → AllByRecursion P (named_records (e ∷ entries)) → IsChangeOf f secret e change → IsChangeOf (found_with f P) secret e change
  change_with e entries (Write part rank bytes) all is =
      let w = is.3 in
      (is.0, is.1, is.2, record { suite = w.suite; numbered = w.numbered; sealed = w.sealed; found = (w.found, its_own e entries is.0 all); opened = w.opened })
  change_with e entries (Free part rank) all is = is
  change_with e entries (Make part suite) all is = is
  change_with e entries (Copy from to) all is = is
  change_with e entries (Drop part) all is = is

  -- Where P holds of each record that the entries name, it holds of the records that their changes rest on.
  changes_with : (entries : List Entry) (changes : List Change) → AllByRecursion P (named_records entries) → AreChangesOf f secret entries changes → AreChangesOf (found_with f P) secret entries changes
  changes_with [] [] all are = tt
  changes_with (e ∷ entries) (change ∷ changes) all are = (change_with e entries change all are.0, changes_with entries changes (behind_one e entries all) are.1)
  changes_with [] (change ∷ changes) all are = absurd are
  changes_with (e ∷ entries) [] all are = absurd are

-- the changes of records that are needed
pub changes_needed : (written : List WrittenPiece) (store : Store) (anchor : Anchor) (secret : List ℕ) (entries : List Entry) (changes : List Change) → AllByRecursion (IsRequired written store anchor) (named_records entries)
    → AreChangesOf (in_trace written) secret entries changes → AreChangesOf (needed written store anchor) secret entries changes
changes_needed written store anchor secret entries changes all are = changes_with (in_trace written) (IsRequired written store anchor) secret entries changes all are

-- each part of a list stands in it
each_named : (P : Piece → Type 0) (all done rest : List Piece) → all ≡ done ++ rest → ((before : List Piece) (piece : Piece) (after : List Piece) → all ≡ before ++ piece ∷ after → P piece) → AllByRecursion P rest
each_named P all done [] whole holds = tt
each_named P all done (piece ∷ rest) whole holds =
    (holds done piece rest whole, each_named P all (done ++ piece ∷ []) rest (whole ∙ sym (append_assoc done (piece ∷ []) rest)) holds)

-- The records that the list of a text since the last checkpoint names are needed.
pub records_needed : (written : List WrittenPiece) (store : Store) (anchor : Anchor) (chain : List Commit) → commit_chain written (commit_of (commit_key_of store.secret)) anchor.0 anchor.1 ≡ Some chain
    → (c : Commit) (earlier later : List Commit) (changes : List Change) → chain ≡ earlier ++ c ∷ later → base_of chain ≤ c.count → c.kind ≡ 1
    → (list : HasChanges (in_trace written) store.secret c changes) → AllByRecursion (IsRequired written store anchor) (named_records list.entries)
records_needed written store anchor chain ends c earlier later changes in_chain since kind list =
    each_named (IsRequired written store anchor) (named_records list.entries) [] (named_records list.entries) refl (λ before piece after names. record {
      chain = chain;
      ends = ends;
      text = c;
      earlier = earlier;
      later = later;
      in_chain = in_chain;
      since_base = since;
      rests = inr (inr (inl (record { kind = kind; changes = changes; list = list; before = before; after = after; names = names })));
    })

-- the last text of a chain says its base
pub base_of-last : (front : List Commit) (c : Commit) → base_of (front ++ c ∷ []) ≡ c.base
base_of-last [] c = refl
base_of-last (x ∷ []) c = refl
base_of-last (x ∷ y ∷ front) c = base_of-last (y ∷ front) c

-- what a text rests on stays as more is found
pub rests_still : (f g : Finds) → Finer f g → (secret : List ℕ) (c : Commit) (piece : Piece) → RestsOn f secret c piece → RestsOn g secret c piece
rests_still f g finer secret c piece (inl text) = inl text
rests_still f g finer secret c piece (inr (inl first)) = inr (inl first)
rests_still f g finer secret c piece (inr (inr (inl named))) =
    inr (inr (inl (record { kind = named.kind; changes = named.changes; list = list_stays f g finer secret c named.changes named.list; before = named.before; after = named.after; names = named.names })))
rests_still f g finer secret c piece (inr (inr (inr reached))) = inr (inr (inr (reached_stays f g finer (store_of_text secret c) c.root piece reached)))

same_chain : (x y : List Commit) → ◌≡◌ {A = Option (List Commit)} (Some x) (Some y) → x ≡ y
same_chain x y e = cc

-- A log that became longer by a text with the same base needs what it needed.
module _ (written later : List WrittenPiece) (finer : Finer (in_trace written) (in_trace later)) (store : Store) (old new : Anchor) (chain : List Commit) (c : Commit)
    (ends : commit_chain written (commit_of (commit_key_of store.secret)) old.0 old.1 ≡ Some chain) (goes_on : commit_chain later (commit_of (commit_key_of store.secret)) new.0 new.1 ≡ Some (chain ++ c ∷ []))
    (base : c.base ≡ base_of chain) where
  pub required_longer : (piece : Piece) → IsRequired written store old piece → IsRequired later store new piece
  required_longer piece is =
      let same : is.chain ≡ chain = same_chain is.chain chain (sym is.ends ∙ ends) in
      let since : base_of (chain ++ c ∷ []) ≡ base_of is.chain = base_of-last chain c ∙ base ∙ ap base_of (sym same) in
      record {
        chain = chain ++ c ∷ [];
        ends = goes_on;
        text = is.text;
        earlier = is.earlier;
        later = is.later ++ c ∷ [];
        in_chain = ap (λ (l : List Commit). l ++ c ∷ []) (sym same ∙ is.in_chain) ∙ append_assoc is.earlier (is.text ∷ is.later) (c ∷ []);
        since_base = omega (arith, since, is.since_base);
        rests = rests_still (in_trace written) (in_trace later) finer store.secret is.text piece is.rests;
      }

  pub needed_longer : Finer (needed written store old) (needed later store new)
  needed_longer piece bytes is = (finer piece bytes is.0, required_longer piece is.1)
