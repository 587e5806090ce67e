-- What a put adds to a log whose last state is known, and what a stop leaves of it.
use Rattle.std.proofs.Common.{◌≡◌, ◌⊎◌, inl, inr, ⊎_elim, ◌+◌, ◌≤◌, ℕ, List, [], ◌∷◌, ◌++◌, Some, Result, Ok, Err, IsErr, IsTrue, replicate, arith, refl, sym, ◌∙◌, ap, subst, append-nil}
use Rattle.std.specs.Prelude.{is_err, OnOk}
use Rattle.std.proofs.lemmas.Bool.{false≢true}
use Rattle.sha2.specs.Sha256.{sha256}
use Rattle.tdb_base.proofs.Tracing.{extends_itself}
use Rattle.tdb_append.specs.Placed.{Placed}
use Rattle.tdb_append.specs.Put.{Puts, IsOld, IsNext}
use Rattle.tdb_mark.specs.declared.commit.Commit.{Commit}
use Rattle.tdb_mark.specs.CommitText.{commit_key_of, commit_of}
use Rattle.tdb_model.specs.Apply.{History}
use Rattle.tdb_platform.specs.Outside.{Anchor, Outside}
use Rattle.tdb_platform.specs.CrashStates.{CrashStates, Pairs, now, LeavesOnly}
use Rattle.tdb_platform.proofs.Moments.{started}
use Rattle.tdb_overlay.specs.Found.{Store}
use Rattle.tdb_overlay.specs.Growth.{Commits, IsSettled, Nothing, OrNothing, UnlessErr, Added}
use Rattle.tdb_overlay.specs.Log.{IsLog, IsStep}
use Rattle.tdb_overlay.specs.StoreState.{StoreState}
use Rattle.tdb_chunk.specs.Committing.{AddedFrom, HasGrownFrom, Known}
use Rattle.tdb_overlay.specs.LaidOut.{in_pieces}
use Rattle.tdb_chunk.proofs.Logs.{put_adds, put_stays, put_grows}

-- what one since a later moment leaves, one since an earlier moment leaves too
abbrev pub Counts : {D : Type 0} → (D → Outside) → (D → CrashStates) → Type 0
Counts {D} outside crash_states = (p : D) (t u : ℕ) (i : List ℕ) (a : Anchor) → t ≤ u → u ≤ (outside p).clock → crash_states p u i a → crash_states p t i a

-- what a stop leaves has a weaker property too
abbrev pub leaves_weaker : {D : Type 0} (outside : D → Outside) (crash_states : D → CrashStates) (old new : D) (P Q : Pairs) → LeavesOnly outside crash_states old new P
    → ((i : List ℕ) (a : Anchor) → P i a → Q i a) → LeavesOnly outside crash_states old new Q
leaves_weaker outside crash_states old new P Q l weaker = record { later = l.later; each = λ i a left. weaker i a (l.each i a left); before = l.before; keeps = l.keeps }

-- more commits may belong
abbrev Among : Commits → Commits → Type 0
Among B C = (from : StoreState) (more : History) (to : StoreState) → B from more to → C from more to

grown_weaker : (known : Known) (store : Store) (old new : Outside) (B C : Commits) (a : Anchor) → Among B C → HasGrownFrom known store old new B a → HasGrownFrom known store old new C a
grown_weaker known store old new B C a weaker grown unforged before from is known_is =
    let g = grown unforged before from is known_is in
    (g.0, g.1, weaker from g.0 g.1 g.2, g.3)

-- what a text of the put adds to each log of a known state
abbrev pub Steps : Known → Store → Outside → List Placed → Commit → Commits → Type 0
Steps known store old ps c belongs = (before : History) (from : StoreState) → IsLog old.trace.written store old.anchor before from → known from
    → (added : History) × (to : StoreState) × belongs from added to × IsStep (in_pieces ps) store from c added to

module _ {D : Type 0} (outside : D → Outside) (crash_states : D → CrashStates) (counts : Counts outside crash_states) (known : Known) (belongs : Commits) (store : Store) (old new : D) (n : ℕ) (mark : List ℕ) (slot : Placed) (ps : List Placed) (c : Commit)
    (reads : commit_of (commit_key_of store.secret) slot.bytes ≡ Some c) (count : c.count ≡ n + 1) (prev : c.prev.0 ≡ mark) (start : n ≡ 0 → mark ≡ replicate 32 0) (steps : Steps known store (outside old) ps c belongs)
    (told : IsTrue (outside old).tells) (at_count : (outside old).anchor.0 ≡ n) (at : ((outside old).anchor ≡ (n, mark)) ⊎ (n ≡ 0)) (settled : IsSettled outside crash_states old) where
  module _ {T E : Type 0} (result : Result T E) (puts : Puts outside crash_states old new (ps ++ slot ∷ []) (c.count, sha256 slot.bytes) result) where
    -- the anchor that went on to the text
    goes : (B : Commits) (a : Anchor) → Among belongs B → puts.rest ≡ [] → a ≡ (c.count, sha256 slot.bytes) → HasGrownFrom known store (outside old) (outside new) B a
    goes B a among complete next unforged before from is known_is =
        let s = steps before from is known_is in (
          s.0,
          s.1,
          among from s.0 s.1 s.2,
          put_adds store (outside old) (outside new) n mark slot ps puts.done puts.rest c before s.0 from s.1 a reads count prev start s.3 puts.in_order (puts.wrote.trace told) at_count at complete (next ∙ ap (λ (k : ℕ). (k, sha256 slot.bytes)) count) unforged is,
        )

    -- the old anchor
    stays : (B : Commits) (a : Anchor) → Among Nothing B → a ≡ (outside old).anchor → HasGrownFrom known store (outside old) (outside new) B a
    stays B a among same unforged before from is known_is = (
      [],
      from,
      among from [] from (refl, refl),
      put_stays store (outside old) (outside new) n mark slot ps puts.done puts.rest c before from a (puts.wrote.trace told) same is,
    )

    either : (B : Commits) (i : List ℕ) (a : Anchor) → Among belongs B → Among Nothing B
        → IsOld (outside old).honest puts.done (now outside crash_states old) i a ⊎ IsNext (outside old).honest puts.done puts.rest (c.count, sha256 slot.bytes) (now outside crash_states old) i a
        → HasGrownFrom known store (outside old) (outside new) B a
    either B i a on off left = ⊎_elim (λ was. stays B a off (settled told was.before a was.left)) (λ next. goes B a on next.complete next.is_next) left

    any_part : LeavesOnly outside crash_states old new (λ i a. HasGrownFrom known store (outside old) (outside new) (OrNothing belongs) a)
    any_part = leaves_weaker outside crash_states old new _ _ puts.any_moment (λ i a left. either (OrNothing belongs) i a (λ from more to b. inl b) (λ from more to b. inr b) left)

  -- A put of the next text adds what the text adds.
  pub put_added : {T E : Type 0} (result : Result T E) → Puts outside crash_states old new (ps ++ slot ∷ []) (c.count, sha256 slot.bytes) result
      → OnOk result ((outside new).anchor ≡ (c.count, sha256 slot.bytes)) → OnOk result ((i : List ℕ) (a : Anchor) → now outside crash_states new i a → a ≡ (c.count, sha256 slot.bytes))
      → AddedFrom outside crash_states known store old new belongs result
  put_added {T} {E} (Ok x) puts advanced only = record {
    grows = put_grows store (outside old) (outside new) n mark slot ps puts.done puts.rest c (puts.wrote.trace told);
    history = goes (Ok x) puts (UnlessErr {T = T} {E = E} belongs (Ok x)) (outside new).anchor (λ from more to b. inl b) (puts.complete refl) advanced;
    left = λ i a left. goes (Ok x) puts (UnlessErr {T = T} {E = E} belongs (Ok x)) a (λ from more to b. inl b) (puts.complete refl) (only i a left);
    any_moment = any_part (Ok x) puts;
  }
  put_added {T} {E} (Err e) puts advanced only = record {
    grows = put_grows store (outside old) (outside new) n mark slot ps puts.done puts.rest c (puts.wrote.trace told);
    history =
        ⊎_elim (λ same. stays (Err e) puts (UnlessErr {T = T} {E = E} belongs (Err e)) (outside new).anchor (λ from more to b. inr (refl, b)) same)
        (λ next. goes (Err e) puts (UnlessErr {T = T} {E = E} belongs (Err e)) (outside new).anchor (λ from more to b. inl b) next.1 next.0) (puts.anchor told);
    left = λ i a left.
        either (Err e) puts (UnlessErr {T = T} {E = E} belongs (Err e)) i a (λ from more to b. inl b) (λ from more to b. inr (refl, b))
        (puts.any_moment.each i a (counts new (outside old).clock (outside new).clock i a puts.any_moment.later (omega arith) left));
    any_moment = any_part (Err e) puts;
  }

-- the same after a result that is as good or as bad
module _ {D T E V F : Type 0} (outside : D → Outside) (crash_states : D → CrashStates) (known : Known) (belongs : Commits) (store : Store) (old new : D) (r : Result T E) (s : Result V F) where
  added_after : Among (UnlessErr belongs r) (UnlessErr belongs s) → AddedFrom outside crash_states known store old new belongs r → AddedFrom outside crash_states known store old new belongs s
  added_after weaker a = record {
    grows = a.grows;
    history = grown_weaker known store (outside old) (outside new) (UnlessErr belongs r) (UnlessErr belongs s) (outside new).anchor weaker a.history;
    left = λ i b left. grown_weaker known store (outside old) (outside new) (UnlessErr belongs r) (UnlessErr belongs s) b weaker (a.left i b left);
    any_moment = a.any_moment;
  }

  pub added_ok : (x : T) → r ≡ Ok x → AddedFrom outside crash_states known store old new belongs r → AddedFrom outside crash_states known store old new belongs s
  added_ok x is a = added_after (λ from more to b. ⊎_elim (λ whole. inl whole) (λ err. absurd (false≢true (ap is_err (sym is) ∙ err.0))) b) a

  pub added_err : IsErr s → AddedFrom outside crash_states known store old new belongs r → AddedFrom outside crash_states known store old new belongs s
  added_err err a = added_after (λ from more to b. ⊎_elim (λ whole. inl whole) (λ none. inr (err, none.1)) b) a

-- an anchor that is the old one, where nothing was done
unchanged : (known : Known) (store : Store) (o : Outside) (B : Commits) (a : Anchor) → Among Nothing B → a ≡ o.anchor → HasGrownFrom known store o o B a
unchanged known store o B a among same unforged before from is known_is = (
  [],
  from,
  among from [] from (refl, refl),
  subst (λ (b : Anchor). IsLog o.trace.written store b (before ++ []) from) (sym same) (subst (λ (h : History). IsLog o.trace.written store o.anchor h from) (sym (append-nil before)) is),
)

-- nothing was done: the platform is as it was
pub none_added : {D T E : Type 0} (outside : D → Outside) (crash_states : D → CrashStates) (counts : Counts outside crash_states) (known : Known) (belongs : Commits) (store : Store) (p : D) (r : Result T E)
    → IsTrue (outside p).tells → IsSettled outside crash_states p → IsErr r → AddedFrom outside crash_states known store p p belongs r
none_added outside crash_states counts known belongs store p r told settled err = record {
  grows = extends_itself (outside p).trace;
  history = unchanged known store (outside p) (UnlessErr belongs r) (outside p).anchor (λ from more to b. inr (err, b)) refl;
  left = λ i a left. unchanged known store (outside p) (UnlessErr belongs r) a (λ from more to b. inr (err, b)) (settled told i a left);
  any_moment = started outside crash_states counts p _ (λ i a left. unchanged known store (outside p) (OrNothing belongs) a (λ from more to b. inr b) (settled told i a left));
}

-- Where every last state is known, the log of an anchor has grown whatever it was.
pub added_always : {D T E : Type 0} (outside : D → Outside) (crash_states : D → CrashStates) (known : Known) (belongs : Commits) (store : Store) (old new : D) (r : Result T E)
    → ((before : History) (from : StoreState) → IsLog (outside old).trace.written store (outside old).anchor before from → known from) → AddedFrom outside crash_states known store old new belongs r
    → Added outside crash_states store old new belongs r
added_always outside crash_states known belongs store old new r all a = record {
  grows = a.grows;
  history = λ unforged before from is. a.history unforged before from is (all before from is);
  left = λ i b left unforged before from is. a.left i b left unforged before from is (all before from is);
  any_moment = leaves_weaker outside crash_states old new _ _ a.any_moment (λ i b grown unforged before from is. grown unforged before from is (all before from is));
}
