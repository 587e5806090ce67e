-- From a run of writes to the advance of the anchor.
use Rattle.std.proofs.Common.{◌≡◌, ◌⊎◌, inl, inr, ⊎_elim, ℕ, ◌≤◌, List, [], IsTrue, Result, refl, sym, ◌∙◌, subst, append-nil}
use Rattle.std.specs.Prelude.{IsOk}
use Rattle.tdb_platform.specs.Outside.{Outside, Anchor}
use Rattle.tdb_platform.specs.CrashStates.{CrashStates, now}
use Rattle.tdb_platform.proofs.Moments.{goes_on}
use Rattle.tdb_append.specs.Placed.{Placed, EachHolds, SameExceptAt}
use Rattle.tdb_append.specs.Put.{IsOld, IsNext, Puts}
use Rattle.tdb_append.proofs.Writing.{Progress, Goes, Front, leaves_weaker, left_now}

module _ {D : Type 0} (outside : D → Outside) (crash_states : D → CrashStates)
    (counts : (p : D) (t u : ℕ) (i : List ℕ) (a : Anchor) → t ≤ u → u ≤ (outside p).clock → crash_states p u i a → crash_states p t i a) where
  -- a put that failed before its advance
  pub before_advance : {T E : Type 0} (old new : D) (all : List Placed) (next : Anchor) (r : Result T E) → Front outside crash_states old new all
      → (IsOk r → ⊥) → (IsTrue (outside old).tells → (outside new).anchor ≡ (outside old).anchor) → Puts outside crash_states old new all next r
  before_advance old new all next r front failed same = record {
    done = front.done;
    rest = front.rest;
    in_order = front.in_order;
    complete = λ ok. absurd (failed ok);
    wrote = front.progress.wrote;
    anchor = λ t. inl (same t);
    any_moment = leaves_weaker outside crash_states counts old new (IsOld (outside old).honest front.done (now outside crash_states old))
        (λ i a. IsOld (outside old).honest front.done (now outside crash_states old) i a ⊎ IsNext (outside old).honest front.done front.rest next (now outside crash_states old) i a)
        (λ i a was. inl was) front.progress.any_moment;
  }

  -- a put that came to its advance
  pub after_advance : {T E : Type 0} (old mid new : D) (all : List Placed) (next : Anchor) (r : Result T E) → Progress outside crash_states old mid all → Goes outside crash_states mid new
      → (IsTrue (outside mid).tells → (outside new).trace ≡ (outside mid).trace)
      → (IsTrue (outside mid).honest → (outside new).image ≡ (outside mid).image)
      → (IsTrue (outside old).tells → ((outside new).anchor ≡ (outside old).anchor) ⊎ ((outside new).anchor ≡ next))
      → (IsTrue (outside old).honest → (i : List ℕ) (a : Anchor) → now outside crash_states mid i a → EachHolds i all)
      → ((i : List ℕ) (a : Anchor) → now outside crash_states new i a → (was : Anchor) × now outside crash_states mid i was × ((a ≡ was) ⊎ (a ≡ next)))
      → Puts outside crash_states old new all next r
  after_advance old mid new all next r so_far goes trace image anchor holds here =
      let before = now outside crash_states old in
      let P = IsOld (outside old).honest all before in
      record {
        done = all;
        rest = [];
        in_order = sym (append-nil all);
        complete = λ ok. refl;
        wrote = record {
          trace = λ t. trace (subst IsTrue (sym so_far.tells) t) ∙ so_far.wrote.trace t;
          image = λ h. subst (λ (x : List ℕ). SameExceptAt all (outside old).image x) (sym (image (subst IsTrue (sym so_far.honest) h))) (so_far.wrote.image h);
        };
        anchor = λ t. ⊎_elim (λ same. inl same) (λ is. inr (is, refl)) (anchor t);
        any_moment = goes_on outside crash_states counts old mid new (λ i a. P i a ⊎ IsNext (outside old).honest all [] next before i a)
            (leaves_weaker outside crash_states counts old mid P (λ i a. P i a ⊎ IsNext (outside old).honest all [] next before i a) (λ i a was. inl was) so_far.any_moment)
            goes.time
            (λ i a left.
            let was = here i a left in
            let over = left_now outside crash_states counts old mid all so_far i was.0 was.1 in
            ⊎_elim
            (λ same. inl (subst (λ (x : Anchor). IsOld (outside old).honest all before i x) (sym same) over))
            (λ is. inr (record { is_next = is; complete = refl; holds = λ h. holds h i was.0 was.1; old_anchor = was.0; over = over }))
            was.2);
      }
