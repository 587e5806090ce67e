-- How many pieces were read for a roster, and how many beside them.
use Rattle.std.proofs.Common.{◌≡◌, ⊎_elim, ℕ, ◌+◌, ◌-◌, ◌*◌, ◌≤◌, List, [], ◌∷◌, ◌++◌, length, IsTrue, sym, ◌∙◌, ap, subst, arith, append_assoc, append-nil, length-append}
use Rattle.std.proofs.lemmas.Bool.{cases_lt}
use Rattle.tdb_append.specs.declared.head.Head.{Head}
use Rattle.tdb_base.specs.Trace.{ReadPiece, Trace}
use Rattle.tdb_platform.specs.Outside.{Outside}
use Rattle.tdb_platform.specs.CrashStates.{CrashStates}
use Rattle.tdb_overlay.specs.Reading.{OnlyReads}
use Rattle.tdb_recover.specs.Ahead.{MayFollow}
use Rattle.tdb_recover.specs.Reads.{FewBeside, ReadsAtMost, ReadsBeside}

-- what stands behind a list
same_more : (xs a b : List ReadPiece) → xs ++ a ≡ xs ++ b → a ≡ b
same_more [] a b is = is
same_more (x ∷ xs) a b is = let rest : xs ++ a ≡ xs ++ b = cc in same_more xs a b rest

-- more after those
pub few_then : (m n most roster : ℕ) (first second : List ReadPiece) → m + n ≤ most → FewBeside m roster first → length second ≤ n
    → FewBeside most roster (first ++ second)
few_then m n most roster first second few is many = (
  is.0,
  is.1,
  is.2 ++ second,
  ap (λ (l : List ReadPiece). l ++ second) is.3 ∙ append_assoc (is.0 ++ is.1) is.2 second,
  is.4,
  omega (arith, few, is.5, many, length-append is.2 second),
)

-- nothing was read
pub beside_none : (n roster : ℕ) (old new : Outside) → (IsTrue old.tells → new.trace ≡ old.trace) → ReadsBeside n roster old new
beside_none n roster old new same t more is =
    let none : more ≡ [] = same_more old.trace.read more [] (sym is ∙ ap (λ (u : Trace). u.read) (same t) ∙ sym (append-nil old.trace.read)) in
    ([], [], [], none, omega arith, omega arith)

-- nothing was read for a roster
pub beside_some : (m n roster : ℕ) (old new : Outside) → m ≤ n → ReadsAtMost m old new → ReadsBeside n roster old new
beside_some m n roster old new few most t more is =
    (more, [], [], sym (append-nil more) ∙ sym (append-nil (more ++ [])), omega arith, omega (arith, few, most t more is))

-- nothing was read before
pub beside_same : (n roster : ℕ) (old mid new : Outside) → (IsTrue old.tells → mid.trace ≡ old.trace) → mid.tells ≡ old.tells
    → ReadsBeside n roster mid new → ReadsBeside n roster old new
beside_same n roster old mid new same tells is t more at =
    is (subst IsTrue (sym tells) t) more (at ∙ ap (λ (u : Trace). u.read ++ more) (sym (same t)))

-- nothing was read after
pub beside_after : (n roster : ℕ) (old mid new : Outside) → ReadsBeside n roster old mid → (IsTrue old.tells → new.trace ≡ mid.trace)
    → ReadsBeside n roster old new
beside_after n roster old mid new is same t more at = is t more (ap (λ (u : Trace). u.read) (sym (same t)) ∙ at)

pub beside_as : (m n roster : ℕ) (old new : Outside) → m ≤ n → ReadsBeside m roster old new → ReadsBeside n roster old new
beside_as m n roster old new fewer is t more at =
    let h = is t more at in
    (h.0, h.1, h.2, h.3, h.4, omega (arith, fewer, h.5))

module _ {D : Type 0} (outside : D → Outside) (crash_states : D → CrashStates) (old mid new : D) (first : OnlyReads outside crash_states old mid)
    (then : OnlyReads outside crash_states mid new) where
  parts : (t : IsTrue (outside old).tells) (more : List ReadPiece) → (outside new).trace.read ≡ (outside old).trace.read ++ more
      → more ≡ (first.grows t).more_read ++ (then.grows (subst IsTrue (sym first.tells) t)).more_read
  parts t more is =
      let a = first.grows t in
      let b = then.grows (subst IsTrue (sym first.tells) t) in
      same_more (outside old).trace.read more (a.more_read ++ b.more_read)
      (sym is ∙ b.read ∙ ap (λ (l : List ReadPiece). l ++ b.more_read) a.read ∙ append_assoc (outside old).trace.read a.more_read b.more_read)

  -- a roster was read behind others
  pub beside_roster : (n roster : ℕ) → ReadsAtMost n (outside old) (outside mid) → ReadsAtMost roster (outside mid) (outside new)
      → ReadsBeside n roster (outside old) (outside new)
  beside_roster n roster one two t more is =
      let told = subst IsTrue (sym first.tells) t in
      let a = first.grows t in
      let b = then.grows told in (
        a.more_read,
        b.more_read,
        [],
        parts t more is ∙ sym (append-nil (a.more_read ++ b.more_read)),
        two told b.more_read b.read,
        omega (arith, one t a.more_read a.read),
      )

  -- others were read behind it
  pub beside_then : (m n most roster : ℕ) → m + n ≤ most → ReadsBeside m roster (outside old) (outside mid)
      → ReadsAtMost n (outside mid) (outside new) → ReadsBeside most roster (outside old) (outside new)
  beside_then m n most roster few one two t more is =
      let told = subst IsTrue (sym first.tells) t in
      let a = first.grows t in
      let b = then.grows told in
      subst (FewBeside most roster) (sym (parts t more is))
      (few_then m n most roster a.more_read b.more_read few (one t a.more_read a.read) (two told b.more_read b.read))

  -- A log was opened, and it was read ahead of it. Where that reads anything, the log has at most 999 commits since the last checkpoint.
  pub beside_opened : (head : Head) → head.count ≤ head.base + 1000
      → ReadsBeside (2 * (head.count - head.base) + 2) 4161 (outside old) (outside mid) → ReadsAtMost 1026 (outside mid) (outside new)
      → ((MayFollow head → ⊥) → ReadsAtMost 0 (outside mid) (outside new)) → ReadsBeside 3026 4161 (outside old) (outside new)
  beside_opened head counts opening ahead none =
      let n = 2 * (head.count - head.base) + 2 in
      ⊎_elim
      (λ few. beside_then n 1026 3026 4161 (omega (arith, few)) opening ahead)
      (λ full. beside_then n 0 3026 4161 (omega (arith, counts)) opening (none (λ may. let few = may.few in omega (arith, few, full))))
      (cases_lt head.count (head.base + 1000))
