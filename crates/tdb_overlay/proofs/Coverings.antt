-- How the lists of changes go together with the state that they tell.
use Rattle.std.proofs.Common.{◌≡◌, ℕ, ◌+◌, ◌<◌, ◌==◌, Bool, true, false, cond, List, [], ◌∷◌, ◌++◌, length, get_or, take, max, Option, Some, None, refl, sym, ◌∙◌, ap, subst}
use Rattle.std.proofs.lemmas.Bool.{eqb-true}
use Rattle.std.proofs.lemmas.List.{take_more}
use Rattle.std.specs.FinMap.{get, insert, remove, get-empty}
use Rattle.std.specs.Option.{option_map}
use Rattle.std.specs.Ordering.{nat_cmp}
use Rattle.tdb_base.specs.declared.piece.Piece.{Piece}
use Rattle.tdb_base.specs.declared.suite.Suite.{Suite}
use Rattle.tdb_base.specs.declared.suite.Suite.TheVariants.{Plain, Aes128, Aes256}
use Rattle.tdb_base.specs.SuiteNumber.{suite_number}
use Rattle.tdb_list.specs.declared.entry.Entry.{Entry}
use Rattle.tdb_model.specs.Apply.{with_chunk, without_chunk, made, copied, with_partition, apply, apply_all}
use Rattle.tdb_model.specs.State.{State, Partition, Chunks, no_partitions}
use Rattle.tdb_model.specs.declared.change.Change.{Change}
use Rattle.tdb_model.specs.declared.change.Change.TheVariants.{Write, Free, Make, Copy, Drop}
use Rattle.tdb_model.proofs.MapLemmas.{get_inserted, get_removed}
use Rattle.tdb_seal.specs.SealedRecord.{IsSealedRecord}
use Rattle.tdb_overlay.specs.Changes.{IsWritten, IsChangeOf, AreChangesOf}
use Rattle.tdb_overlay.specs.Covering.{Covered, Covers, no_covers, suite_numbered, cover_written, cover_freed, cover_made, cover_copied, with_cover, noted, noted_all, IsCoveredChunk, IsCoveredPartition, IsCoveredAt, IsCovering}
use Rattle.tdb_overlay.specs.Found.{Finds}
use Rattle.tdb_overlay.specs.Keys.{partition_key}
use Rattle.tdb_overlay.specs.Log.{IsOfPartition, IsOwned, AreOwned}
use Rattle.tdb_overlay.specs.Found.{Finer}
use Rattle.tdb_overlay.specs.Trees.{IsRecordOfChunk, tree_of}
use Rattle.tdb_overlay.proofs.TreeLaws.{chunk_finer, rootless_chunk, tree_chunk_again}

pub noted_all-push : (count : ℕ) (covers : Covers) (entries : List Entry) (e : Entry) → noted_all count covers (entries ++ e ∷ []) ≡ noted count (noted_all count covers entries) e
noted_all-push count covers [] e = refl
noted_all-push count covers (first ∷ later) e = noted_all-push count (noted count covers first) later e

-- one entry more, as at a step of a loop
pub noted_all-next : (count : ℕ) (covers : Covers) (entries : List Entry) (i : ℕ) (d : Entry) (before after : Covers) → i < length entries
    → before ≡ noted_all count covers (take i entries) → after ≡ noted count before (get_or entries i d) → after ≡ noted_all count covers (take (i + 1) entries)
noted_all-next count covers entries i d before after below is step =
    step ∙ ap (λ (s : Covers). noted count s (get_or entries i d)) is
    ∙ sym (ap (noted_all count covers) (take_more entries i d below) ∙ noted_all-push count covers (take i entries) (get_or entries i d))

-- the same with the kind beside the entry
abbrev noted_as : ℕ → ℕ → Covers → Entry → Covers
noted_as kind count covers e =
    cond (kind == 1) (with_cover covers e.part (option_map (cover_written e.rank e.piece) (get covers e.part)))
    (cond (kind == 2) (with_cover covers e.part (option_map (cover_freed e.rank) (get covers e.part)))
    (cond (kind == 3) (insert covers e.part (cover_made count e))
    (cond (kind == 4) (with_cover covers e.rank (option_map (cover_copied count e.part) (get covers e.part)))
    (remove covers e.part))))

noted_kind : (kind count : ℕ) (covers : Covers) (e : Entry) → e.kind ≡ kind → noted count covers e ≡ noted_as kind count covers e
noted_kind kind count covers e is = ap (λ (k : ℕ). noted_as k count covers e) is

pub suite_again : (suite : Suite) → suite_numbered (suite_number suite) ≡ suite
suite_again Plain = refl
suite_again Aes128 = refl
suite_again Aes256 = refl

module _ (finds : Finds) (secret : List ℕ) where
  -- a chunk is covered by what names its record's key, and by nothing else of its partition
  chunk_again : (root : Option Piece) (p : Partition) (next parent born : ℕ) (chunks : Chunks) (rank : ℕ) (edit : Option (Option Piece)) (chunk : Option (List ℕ))
      → IsCoveredChunk finds secret root p rank edit chunk
      → IsCoveredChunk finds secret root (record { suite = p.suite; home = p.home; birth = p.birth; next = next; parent = parent; born = born; chunks = chunks }) rank edit chunk
  chunk_again root p next parent born chunks rank (Some (Some piece)) (Some bytes) is = record { sealed = is.sealed; found = is.found; opened = is.opened }
  chunk_again root p next parent born chunks rank (Some (Some piece)) None is = absurd is
  chunk_again root p next parent born chunks rank (Some None) chunk is = is
  chunk_again root p next parent born chunks rank None chunk is =
      tree_chunk_again finds secret (tree_of secret p.suite p.home p.birth root) p next parent born chunks rank chunk is

  chunk_at : (root : Option Piece) (p : Partition) (rank : ℕ) (edit edit_is : Option (Option Piece)) (chunk chunk_is : Option (List ℕ)) → edit ≡ edit_is → chunk ≡ chunk_is
      → IsCoveredChunk finds secret root p rank edit_is chunk_is → IsCoveredChunk finds secret root p rank edit chunk
  chunk_at root p rank edit edit_is chunk chunk_is same_edit same_chunk is =
      subst (λ (o : Option (Option Piece)). IsCoveredChunk finds secret root p rank o chunk) (sym same_edit)
      (subst (λ (o : Option (List ℕ)). IsCoveredChunk finds secret root p rank edit_is o) (sym same_chunk) is)

  covered_written : (c : Covered) (p : Partition) (rank : ℕ) (piece : Piece) (bytes : List ℕ) → IsCoveredPartition finds secret c p → IsRecordOfChunk finds secret p rank piece bytes
      → IsCoveredPartition finds secret (cover_written rank piece c) (with_chunk rank bytes p)
  covered_written c p rank piece bytes is written = record {
    suite = is.suite;
    home = is.home;
    birth = is.birth;
    next = ap (λ (n : ℕ). max n (rank + 1)) is.next;
    parent = is.parent;
    born = is.born;
    chunks = λ r. chunk_again c.root p (max p.next (rank + 1)) p.parent p.born (insert p.chunks rank bytes) r (get (insert c.edits rank (Some piece)) r) (get (insert p.chunks rank bytes) r)
        (chunk_at c.root p r _ (cond (r == rank) (Some (Some piece)) (get c.edits r)) _ (cond (r == rank) (Some bytes) (get p.chunks r)) (get_inserted c.edits rank (Some piece) r) (get_inserted p.chunks rank bytes r)
        (elim (r == rank) as (λ (b : Bool). (r == rank) ≡ b → IsCoveredChunk finds secret c.root p r (cond b (Some (Some piece)) (get c.edits r)) (cond b (Some bytes) (get p.chunks r))) [
          | true ↦ λ at. subst (λ (n : ℕ). IsRecordOfChunk finds secret p n piece bytes) (sym (eqb-true r rank at)) written
          | false ↦ λ apart. is.chunks r
        ] refl));
  }

  covered_freed : (c : Covered) (p : Partition) (rank : ℕ) → IsCoveredPartition finds secret c p → IsCoveredPartition finds secret (cover_freed rank c) (without_chunk rank p)
  covered_freed c p rank is = record {
    suite = is.suite;
    home = is.home;
    birth = is.birth;
    next = is.next;
    parent = is.parent;
    born = is.born;
    chunks = λ r. chunk_again c.root p p.next p.parent p.born (remove p.chunks rank) r (get (insert c.edits rank None) r) (get (remove p.chunks rank) r)
        (chunk_at c.root p r _ (cond (r == rank) (Some None) (get c.edits r)) _ (cond (r == rank) None (get p.chunks r)) (get_inserted c.edits rank None r) (get_removed p.chunks rank r)
        (elim (r == rank) as (λ (b : Bool). IsCoveredChunk finds secret c.root p r (cond b (Some None) (get c.edits r)) (cond b None (get p.chunks r))) [
          | true ↦ refl
          | false ↦ is.chunks r
        ]));
  }

  covered_made : (count : ℕ) (e : Entry) (part : ℕ) (suite : Suite) → e.part ≡ part → suite_number suite ≡ e.suite → IsCoveredPartition finds secret (cover_made count e) (made count part suite)
  covered_made count e part suite same numbered = record {
    suite = ap suite_numbered (sym numbered) ∙ suite_again suite;
    home = same;
    birth = refl;
    next = refl;
    parent = refl;
    born = refl;
    chunks = λ r. chunk_at None (made count part suite) r _ None _ None (get-empty {X = Option Piece} nat_cmp r) (get-empty {X = List ℕ} nat_cmp r)
        (rootless_chunk finds secret (tree_of secret suite part count None) (made count part suite) r refl);
  }

  covered_copied : (count from part : ℕ) (c : Covered) (p : Partition) → from ≡ part → IsCoveredPartition finds secret c p → IsCoveredPartition finds secret (cover_copied count from c) (copied count part p)
  covered_copied count from part c p same is = record {
    suite = is.suite;
    home = is.home;
    birth = is.birth;
    next = is.next;
    parent = same;
    born = refl;
    chunks = λ r. chunk_again c.root p p.next part count p.chunks r (get c.edits r) (get p.chunks r) (is.chunks r);
  }

  covered_at : (cover cover_is : Option Covered) (found found_is : Option Partition) → cover ≡ cover_is → found ≡ found_is → IsCoveredAt finds secret cover_is found_is → IsCoveredAt finds secret cover found
  covered_at cover cover_is found found_is same_cover same_found is =
      subst (λ (o : Option Covered). IsCoveredAt finds secret o found) (sym same_cover) (subst (λ (o : Option Partition). IsCoveredAt finds secret cover_is o) (sym same_found) is)

  covered_changed : (f : Covered → Covered) (g : Partition → Partition) (cover : Option Covered) (found : Option Partition) → IsCoveredAt finds secret cover found
      → ((c : Covered) (p : Partition) → found ≡ Some p → IsCoveredPartition finds secret c p → IsCoveredPartition finds secret (f c) (g p))
      → IsCoveredAt finds secret (option_map f cover) (option_map g found)
  covered_changed f g (Some c) (Some p) is change = change c p refl is
  covered_changed f g None None is change = tt
  covered_changed f g (Some c) None is change = absurd is
  covered_changed f g None (Some p) is change = absurd is

  covering_inserted : (covers : Covers) (state : State) (k : ℕ) (c : Covered) (p : Partition) → IsCovering finds secret covers state → IsCoveredPartition finds secret c p → IsCovering finds secret (insert covers k c) (insert state k p)
  covering_inserted covers state k c p is here part =
      covered_at _ (cond (part == k) (Some c) (get covers part)) _ (cond (part == k) (Some p) (get state part)) (get_inserted covers k c part) (get_inserted state k p part)
      (elim (part == k) as (λ (b : Bool). IsCoveredAt finds secret (cond b (Some c) (get covers part)) (cond b (Some p) (get state part))) [
        | true ↦ here
        | false ↦ is part
      ])

  covering_removed : (covers : Covers) (state : State) (k : ℕ) → IsCovering finds secret covers state → IsCovering finds secret (remove covers k) (remove state k)
  covering_removed covers state k is part =
      covered_at _ (cond (part == k) None (get covers part)) _ (cond (part == k) None (get state part)) (get_removed covers k part) (get_removed state k part)
      (elim (part == k) as (λ (b : Bool). IsCoveredAt finds secret (cond b None (get covers part)) (cond b None (get state part))) [
        | true ↦ tt
        | false ↦ is part
      ])

  covering_with : (covers : Covers) (state : State) (k : ℕ) (cover : Option Covered) (found : Option Partition) → IsCovering finds secret covers state → IsCoveredAt finds secret cover found
      → IsCovering finds secret (with_cover covers k cover) (with_partition state k found)
  covering_with covers state k (Some c) (Some p) is here = covering_inserted covers state k c p is here
  covering_with covers state k None None is here = is
  covering_with covers state k (Some c) None is here = absurd here
  covering_with covers state k None (Some p) is here = absurd here

  -- No cover tells the state without a partition.
  pub covering_none : IsCovering finds secret no_covers no_partitions
  covering_none part = covered_at _ None _ None (get-empty {X = Covered} nat_cmp part) (get-empty {X = Partition} nat_cmp part) tt

  -- the record of a write is that of a chunk of the partition that it says
  record_of_write : (e : Entry) (p : Partition) (found : Option Partition) (rank : ℕ) (bytes : List ℕ) → found ≡ Some p → e.rank ≡ rank → IsOfPartition e found → IsWritten finds secret e bytes
      → IsRecordOfChunk finds secret p rank e.piece bytes
  record_of_write e p found rank bytes there same owned w =
      let is : owned.partition ≡ p = the_partition owned.partition p (sym owned.is_there ∙ there) in
      let home : e.home ≡ p.home = owned.home ∙ ap (λ (q : Partition). q.home) is in
      let birth : e.birth ≡ p.birth = owned.birth ∙ ap (λ (q : Partition). q.birth) is in
      let number : suite_number w.suite ≡ suite_number p.suite = w.numbered ∙ owned.suite ∙ ap (λ (q : Partition). suite_number q.suite) is in
      let suite : w.suite ≡ p.suite = sym (suite_again w.suite) ∙ ap suite_numbered number ∙ suite_again p.suite in
      record {
        sealed = w.sealed;
        found = w.found;
        opened = subst (λ (n : ℕ). IsSealedRecord (partition_key secret p.home p.birth) (record { kind = 1; suite = p.suite; home = p.home; rank = n }) bytes w.sealed) same
            (subst (λ (s : Suite). IsSealedRecord (partition_key secret p.home p.birth) (record { kind = 1; suite = s; home = p.home; rank = e.rank }) bytes w.sealed) suite
            (subst (λ (n : ℕ). IsSealedRecord (partition_key secret p.home n) (record { kind = 1; suite = w.suite; home = p.home; rank = e.rank }) bytes w.sealed) birth
            (subst (λ (n : ℕ). IsSealedRecord (partition_key secret n e.birth) (record { kind = 1; suite = w.suite; home = n; rank = e.rank }) bytes w.sealed) home w.opened)));
      }
    where
      the_partition : (q r : Partition) → ◌≡◌ {A = Option Partition} (Some q) (Some r) → q ≡ r
      the_partition q r same = cc

  module _ (count : ℕ) (covers : Covers) (state : State) (is : IsCovering finds secret covers state) where
    noted_is : (kind : ℕ) (e : Entry) (after : State) → e.kind ≡ kind → IsCovering finds secret (noted_as kind count covers e) after → IsCovering finds secret (noted count covers e) after
    noted_is kind e after same covering = subst (λ (x : Covers). IsCovering finds secret x after) (sym (noted_kind kind count covers e same)) covering

    at_part : (k part : ℕ) (f : Covered → Covered) (after : State) → k ≡ part → IsCovering finds secret (with_cover covers part (option_map f (get covers part))) after
        → IsCovering finds secret (with_cover covers k (option_map f (get covers k))) after
    at_part k part f after same covering = subst (λ (n : ℕ). IsCovering finds secret (with_cover covers n (option_map f (get covers n))) after) (sym same) covering

    -- One entry makes of the covers what its change makes of the state.
    covering_one : (e : Entry) (change : Change) → IsChangeOf finds secret e change → IsOwned state e change → IsCovering finds secret (noted count covers e) (apply count state change)
    covering_one e (Write part rank bytes) h owned =
        let after = with_partition state part.0 (option_map (with_chunk rank.0 bytes) (get state part.0)) in
        noted_is 1 e after h.0 (at_part e.part part.0 (cover_written e.rank e.piece) after h.1
        (subst (λ (n : ℕ). IsCovering finds secret (with_cover covers part.0 (option_map (cover_written n e.piece) (get covers part.0))) after) (sym h.2)
        (covering_with covers state part.0 _ _ is (covered_changed (cover_written rank.0 e.piece) (with_chunk rank.0 bytes) (get covers part.0) (get state part.0) (is part.0)
        (λ c p there here. covered_written c p rank.0 e.piece bytes here (record_of_write e p (get state part.0) rank.0 bytes there h.2 owned h.3))))))
    covering_one e (Free part rank) h owned =
        let after = with_partition state part.0 (option_map (without_chunk rank.0) (get state part.0)) in
        noted_is 2 e after h.0 (at_part e.part part.0 (cover_freed e.rank) after h.1
        (subst (λ (n : ℕ). IsCovering finds secret (with_cover covers part.0 (option_map (cover_freed n) (get covers part.0))) after) (sym h.2)
        (covering_with covers state part.0 _ _ is (covered_changed (cover_freed rank.0) (without_chunk rank.0) (get covers part.0) (get state part.0) (is part.0)
        (λ c p there here. covered_freed c p rank.0 here)))))
    covering_one e (Make part suite) h owned =
        let after = insert state part.0 (made count part.0 suite) in
        noted_is 3 e after h.0 (subst (λ (n : ℕ). IsCovering finds secret (insert covers n (cover_made count e)) after) (sym h.1)
        (covering_inserted covers state part.0 (cover_made count e) (made count part.0 suite) is (covered_made count e part.0 suite h.1 h.2)))
    covering_one e (Copy from to) h owned =
        let after = with_partition state to.0 (option_map (copied count from.0) (get state from.0)) in
        noted_is 4 e after h.0
        (subst (λ (n : ℕ). IsCovering finds secret (with_cover covers n (option_map (cover_copied count e.part) (get covers e.part))) after) (sym h.2)
        (subst (λ (n : ℕ). IsCovering finds secret (with_cover covers to.0 (option_map (cover_copied count n) (get covers n))) after) (sym h.1)
        (covering_with covers state to.0 _ _ is (covered_changed (cover_copied count from.0) (copied count from.0) (get covers from.0) (get state from.0) (is from.0)
        (λ c p there here. covered_copied count from.0 from.0 c p refl here)))))
    covering_one e (Drop part) h owned =
        let after = remove state part.0 in
        noted_is 5 e after h.0 (subst (λ (n : ℕ). IsCovering finds secret (remove covers n) after) (sym h.1) (covering_removed covers state part.0 is))

  -- A list makes of the covers what its changes make of the state.
  pub covering_noted : (count : ℕ) (covers : Covers) (state : State) (entries : List Entry) (changes : List Change) → IsCovering finds secret covers state → AreChangesOf finds secret entries changes
      → AreOwned count state entries changes → IsCovering finds secret (noted_all count covers entries) (apply_all count state changes)
  covering_noted count covers state [] [] is are owned = is
  covering_noted count covers state [] (change ∷ changes) is are owned = absurd are
  covering_noted count covers state (e ∷ entries) [] is are owned = absurd are
  covering_noted count covers state (e ∷ entries) (change ∷ changes) is are owned =
      covering_noted count (noted count covers e) (apply count state change) entries changes (covering_one count covers state is e change are.0 owned.0) are.1 owned.1

module _ (f g : Finds) (finer : Finer f g) (secret : List ℕ) where
  edit_finer : (root : Option Piece) (p : Partition) (rank : ℕ) (edit : Option (Option Piece)) (chunk : Option (List ℕ))
      → IsCoveredChunk f secret root p rank edit chunk → IsCoveredChunk g secret root p rank edit chunk
  edit_finer root p rank (Some (Some piece)) (Some bytes) is = record { sealed = is.sealed; found = finer piece is.sealed is.found; opened = is.opened }
  edit_finer root p rank (Some (Some piece)) None is = absurd is
  edit_finer root p rank (Some None) chunk is = is
  edit_finer root p rank None chunk is = chunk_finer f g finer secret (tree_of secret p.suite p.home p.birth root) p rank chunk is

  at_finer : (cover : Option Covered) (found : Option Partition) → IsCoveredAt f secret cover found → IsCoveredAt g secret cover found
  at_finer (Some c) (Some p) is = record {
    suite = is.suite;
    home = is.home;
    birth = is.birth;
    next = is.next;
    parent = is.parent;
    born = is.born;
    chunks = λ rank. edit_finer c.root p rank (get c.edits rank) (get p.chunks rank) (is.chunks rank);
  }
  at_finer None None is = tt
  at_finer (Some c) None is = absurd is
  at_finer None (Some p) is = absurd is

  -- What tells a state still tells it where more is found.
  pub covering_finer : (covers : Covers) (state : State) → IsCovering f secret covers state → IsCovering g secret covers state
  covering_finer covers state is part = at_finer (get covers part) (get state part) (is part)
