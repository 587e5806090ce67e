-- How a run of writes goes on, from what a stop since its start may leave.
use Rattle.std.proofs.Common.{◌≡◌, ◌⊎◌, inl, inr, ⊎_elim, ℕ, ◌≤◌, List, [], ◌∷◌, ◌++◌, length, Bool, true, false, IsTrue, Result, Ok, Err, refl, sym, ◌∙◌, ap, arith, subst, append-nil}
use Rattle.std.specs.Prelude.{IsOk, IsErr}
use Rattle.std.proofs.lemmas.Bool.{false≢true}
use Rattle.tdb_base.specs.Trace.{Trace, with_written}
use Rattle.tdb_platform.specs.Outside.{Outside, Anchor, Rose}
use Rattle.tdb_platform.specs.Image.{SameExcept}
use Rattle.tdb_platform.specs.ImageLaws.{same_itself}
use Rattle.tdb_platform.specs.CrashStates.{CrashStates, Pairs, Elapses, now, LeavesNoMore, LeavesOnly}
use Rattle.tdb_platform.proofs.Moments.{started, goes_on}
use Rattle.tdb_append.specs.Placed.{Placed, SameExceptAt}
use Rattle.tdb_append.specs.Put.{Wrote, IsOld, WritesSome}
use Rattle.tdb_append.proofs.Images.{with_all_written-push, same_at_none, same_at_more}

-- these pieces were written since the start, and the anchor is as it was
pub record Progress {D : Type 0} (outside : D → Outside) (crash_states : D → CrashStates) (old new : D) (done : List Placed) : Type 0 where
  pub wrote : Wrote (outside old) (outside new) done
  pub any_moment : LeavesOnly outside crash_states old new (IsOld (outside old).honest done (now outside crash_states old))
  pub tells : (outside new).tells ≡ (outside old).tells
  pub honest : (outside new).honest ≡ (outside old).honest
  pub no_fewer_faults : (outside old).faults ≤ (outside new).faults

-- what every call keeps
pub record Goes {D : Type 0} (outside : D → Outside) (crash_states : D → CrashStates) (mid new : D) : Type 0 where
  pub tells : (outside new).tells ≡ (outside mid).tells
  pub honest : (outside new).honest ≡ (outside mid).honest
  pub no_fewer_faults : (outside mid).faults ≤ (outside new).faults
  pub time : Elapses (outside mid) (outside new) (crash_states mid) (crash_states new)

-- a front of the pieces was written
pub record Front {D : Type 0} (outside : D → Outside) (crash_states : D → CrashStates) (old new : D) (all : List Placed) : Type 0 where
  pub done : List Placed
  pub rest : List Placed
  pub in_order : all ≡ done ++ rest
  pub progress : Progress outside crash_states old new done

old_more : (honest : Bool) (done : List Placed) (p : Placed) (earlier : Pairs) (i j : List ℕ) (a : Anchor) → IsOld honest done earlier i a
    → (IsTrue honest → SameExcept p.place (length p.bytes) i j) → IsOld honest (done ++ p ∷ []) earlier j a
old_more honest done p earlier i j a was step = record {
  before = was.before;
  left = was.left;
  same = λ h. same_at_more done p was.before i j (was.same h) (step h);
}

pub not_both : {T E : Type 0} (r : Result T E) → IsErr r → IsOk r → ⊥
not_both (Ok x) err ok = false≢true err
not_both (Err e) err ok = false≢true ok

pub rose_before : (a b c : ℕ) → a ≤ b → Rose b c → Rose a c
rose_before a b c le (inl rose) = inl (omega (arith, le, rose))
rose_before a b c le (inr full) = inr full

module _ {D : Type 0} (outside : D → Outside) (crash_states : D → CrashStates)
    (counts : (p : D) (t u : ℕ) (i : List ℕ) (a : Anchor) → t ≤ u → u ≤ (outside p).clock → crash_states p u i a → crash_states p t i a) where
  pub leaves_weaker : (old new : D) (P Q : Pairs) → ((i : List ℕ) (a : Anchor) → P i a → Q i a) → LeavesOnly outside crash_states old new P → LeavesOnly outside crash_states old new Q
  leaves_weaker old new P Q weaker leaves = record { later = leaves.later; each = λ i a left. weaker i a (leaves.each i a left); before = leaves.before; keeps = leaves.keeps }

  pub at_start : (old : D) → Progress outside crash_states old old []
  at_start old = record {
    wrote = record { trace = λ t. refl; image = λ h. same_at_none (outside old).image };
    any_moment = started outside crash_states counts old (IsOld (outside old).honest [] (now outside crash_states old)) (λ i a left. record { before = i; left = left; same = λ h. same_at_none i });
    tells = refl;
    honest = refl;
    no_fewer_faults = omega arith;
  }

  -- what a stop may leave now
  pub left_now : (old new : D) (done : List Placed) → Progress outside crash_states old new done → (i : List ℕ) (a : Anchor) → now outside crash_states new i a
      → IsOld (outside old).honest done (now outside crash_states old) i a
  left_now old new done so_far i a left =
      so_far.any_moment.each i a (counts new (outside old).clock (outside new).clock i a so_far.any_moment.later (omega arith) left)

  -- a run that wrote all that it was to write
  pub all_written : {T E : Type 0} (old new : D) (all : List Placed) (r : Result T E) → WritesSome outside crash_states old new all r → IsOk r → Progress outside crash_states old new all
  all_written old new all r writes ok =
      let done_is : writes.done ≡ all = sym (writes.in_order ∙ ap (λ (l : List Placed). writes.done ++ l) (writes.complete ok) ∙ append-nil writes.done) in
      subst (λ (l : List Placed). Progress outside crash_states old new l) done_is
      (record { wrote = writes.wrote; any_moment = writes.any_moment; tells = writes.tells; honest = writes.honest; no_fewer_faults = writes.no_fewer_faults })

  -- one write more, which the trace has
  pub writes_one : (old mid new : D) (done : List Placed) (p : Placed) → Progress outside crash_states old mid done → Goes outside crash_states mid new
      → (IsTrue (outside mid).tells → (outside new).trace ≡ with_written (outside mid).trace p.place p.bytes)
      → (IsTrue (outside mid).honest → SameExcept p.place (length p.bytes) (outside mid).image (outside new).image)
      → ((i : List ℕ) (a : Anchor) → now outside crash_states new i a → (was : List ℕ) × now outside crash_states mid was a × (IsTrue (outside mid).honest → SameExcept p.place (length p.bytes) was i))
      → Progress outside crash_states old new (done ++ p ∷ [])
  writes_one old mid new done p so_far goes trace image here =
      let still : IsTrue (outside old).honest → IsTrue (outside mid).honest = λ h. subst IsTrue (sym so_far.honest) h in
      let before = now outside crash_states old in
      let P = IsOld (outside old).honest done before in
      let Q = IsOld (outside old).honest (done ++ p ∷ []) before in
      record {
        wrote = record {
          trace = λ t. trace (subst IsTrue (sym so_far.tells) t) ∙ ap (λ (x : Trace). with_written x p.place p.bytes) (so_far.wrote.trace t) ∙ sym (with_all_written-push (outside old).trace done p);
          image = λ h. same_at_more done p (outside old).image (outside mid).image (outside new).image (so_far.wrote.image h) (image (still h));
        };
        any_moment = goes_on outside crash_states counts old mid new Q
            (leaves_weaker old mid P Q (λ i a was. old_more (outside old).honest done p before i i a was (λ h. same_itself p.place (length p.bytes) i)) so_far.any_moment)
            goes.time
            (λ i a left.
            let was = here i a left in
            old_more (outside old).honest done p before was.0 i a (left_now old mid done so_far was.0 a was.1) (λ h. was.2 (still h)));
        tells = goes.tells ∙ so_far.tells;
        honest = goes.honest ∙ so_far.honest;
        no_fewer_faults = omega (arith, goes.no_fewer_faults, so_far.no_fewer_faults);
      }

  -- a call that writes nothing
  pub writes_none : (old mid new : D) (done : List Placed) → Progress outside crash_states old mid done → Goes outside crash_states mid new
      → (IsTrue (outside mid).tells → (outside new).trace ≡ (outside mid).trace)
      → (IsTrue (outside mid).honest → (outside new).image ≡ (outside mid).image)
      → LeavesNoMore outside crash_states mid new
      → Progress outside crash_states old new done
  writes_none old mid new done so_far goes trace image here = record {
    wrote = record {
      trace = λ t. trace (subst IsTrue (sym so_far.tells) t) ∙ so_far.wrote.trace t;
      image = λ h. subst (λ (x : List ℕ). SameExceptAt done (outside old).image x) (sym (image (subst IsTrue (sym so_far.honest) h))) (so_far.wrote.image h);
    };
    any_moment = goes_on outside crash_states counts old mid new (IsOld (outside old).honest done (now outside crash_states old)) so_far.any_moment goes.time
        (λ i a left. left_now old mid done so_far i a (here i a left));
    tells = goes.tells ∙ so_far.tells;
    honest = goes.honest ∙ so_far.honest;
    no_fewer_faults = omega (arith, goes.no_fewer_faults, so_far.no_fewer_faults);
  }

  -- a write that failed: the trace has it, or nothing was touched
  pub write_failed : (old mid new : D) (all done rest : List Placed) (p : Placed) → all ≡ done ++ p ∷ rest → all ≡ (done ++ p ∷ []) ++ rest
      → Progress outside crash_states old mid done → Goes outside crash_states mid new
      → (IsTrue (outside mid).tells → ((outside new).trace ≡ with_written (outside mid).trace p.place p.bytes)
      ⊎ (((outside new).trace ≡ (outside mid).trace) × (IsTrue (outside mid).honest → (outside new).image ≡ (outside mid).image) × LeavesNoMore outside crash_states mid new))
      → (IsTrue (outside mid).honest → SameExcept p.place (length p.bytes) (outside mid).image (outside new).image)
      → ((i : List ℕ) (a : Anchor) → now outside crash_states new i a → (was : List ℕ) × now outside crash_states mid was a × (IsTrue (outside mid).honest → SameExcept p.place (length p.bytes) was i))
      → Front outside crash_states old new all
  write_failed old mid new all done rest p split split_after so_far goes trace image here = by_telling (outside mid).tells refl
    where
      counted : (IsTrue (outside mid).tells → (outside new).trace ≡ with_written (outside mid).trace p.place p.bytes) → Front outside crash_states old new all
      counted is = record { done = done ++ p ∷ []; rest = rest; in_order = split_after; progress = writes_one old mid new done p so_far goes is image here }

      by_telling : (b : Bool) → (outside mid).tells ≡ b → Front outside crash_states old new all
      by_telling true told = ⊎_elim
          (λ is. counted (λ t. is))
          (λ untouched. record { done = done; rest = p ∷ rest; in_order = split; progress = writes_none old mid new done so_far goes (λ t. untouched.0) untouched.1 untouched.2 })
          (trace told)
      by_telling false told = counted (λ t. absurd (false≢true (sym told ∙ t)))
