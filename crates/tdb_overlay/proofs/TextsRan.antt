-- Which texts runs of calls write, one after another.
use Rattle.std.proofs.Common.{◌≡◌, inl, inr, ⊎_elim, ℕ, ◌≤◌, List, ◌++◌, sym, ◌∙◌, ap, subst, append_assoc, arith}
use Rattle.sha2.specs.Sha256.{sha256}
use Rattle.tdb_base.specs.Trace.{Extends, WrittenPiece}
use Rattle.tdb_mark.specs.declared.commit.Commit.{Commit}
use Rattle.tdb_mark.specs.Unforged.{WasWritten}
use Rattle.tdb_model.specs.Apply.{History}
use Rattle.tdb_platform.specs.CrashStates.{CrashStates, now}
use Rattle.tdb_platform.specs.Outside.{Anchor, Outside, Rose}
use Rattle.tdb_overlay.specs.Found.{Store}
use Rattle.tdb_overlay.specs.Log.{IsLog}
use Rattle.tdb_overlay.specs.Ran.{CountsOn, EachHasLog, EachNewText, EndsBehind, FromLeft, IsFront, Leads, WritesTexts}
use Rattle.tdb_overlay.proofs.PutLogs.{log_still}

-- no text is new in the same trace
pub no_new_text : (secret : List ℕ) (earlier later : List WrittenPiece) (P : List ℕ → Commit → Type 0) → later ≡ earlier
    → EachNewText secret earlier later P
no_new_text secret earlier later P same text c was accepted =
    inl (subst (λ (ws : List WrittenPiece). WasWritten ws text) same was)

-- what is new behind a trace, or behind a later one
pub new_text_then : (secret : List ℕ) (ws vs us : List WrittenPiece) (P Q R : List ℕ → Commit → Type 0)
    → EachNewText secret ws vs P → EachNewText secret vs us Q
    → ((text : List ℕ) (c : Commit) → P text c → R text c) → ((text : List ℕ) (c : Commit) → Q text c → R text c)
    → EachNewText secret ws us R
new_text_then secret ws vs us P Q R first then from_first from_then text c was accepted =
    ⊎_elim
    (λ earlier. ⊎_elim (λ at_start. inl at_start) (λ is. inr (from_first text c is)) (first text c earlier accepted))
    (λ is. inr (from_then text c is)) (then text c was accepted)

-- the counts of two runs, one after another
pub counts_then : (store : Store) (ws vs : List WrittenPiece) (one mid last : Anchor) (xs maybe : History)
    → Leads store ws vs xs maybe one mid → CountsOn store ws one mid → CountsOn store vs mid last → CountsOn store ws one last
counts_then store ws vs one mid last xs maybe leads first then before from log =
    let there = leads before from log in
    let step = first before from log in
    let rest = then (before ++ (xs ++ there.0)) there.1 there.3 in
    omega (arith, step, rest)

-- no rise over two runs is none in either
pub no_rise : (a b c : ℕ) → a ≤ b → b ≤ c → (Rose a c → ⊥) → (Rose a b → ⊥) × (Rose b c → ⊥)
no_rise a b c first then none = (
  λ rose. ⊎_elim (λ lt. none (inl (omega (arith, lt, then)))) (λ top. none (inr (omega (arith, top, then)))) rose,
  λ rose. ⊎_elim (λ lt. none (inl (omega (arith, lt, first)))) (λ top. none (inr top)) rose,
)

module _ {D : Type 0} (outside : D → Outside) (crash_states : D → CrashStates) (store : Store) where
  abbrev written : D → List WrittenPiece
  written d = (outside d).trace.written

  abbrev Writes : D → History → D → Type 0
  Writes old all new = WritesTexts outside crash_states store old all new

  -- Calls that write nothing.
  pub writes_none : (old new : D) (all : History) → written new ≡ written old → Writes old all new
  writes_none old new all same = record {
    behind = λ before from log. no_new_text store.secret (written old) (written new) _ same;
    near = λ each. no_new_text store.secret (written old) (written new) _ same;
    near_own = λ before from log. no_new_text store.secret (written old) (written new) _ same;
    reached = λ before from log none. no_new_text store.secret (written old) (written new) _ same;
  }

  -- More commits may have been made.
  pub writes_wider : (old new : D) (some more all : History) → some ++ more ≡ all → Writes old some new → Writes old all new
  writes_wider old new some more all is w = record {
    behind = λ before from log text c was accepted. ⊎_elim (λ earlier. inl earlier)
        (λ ends. inr (record {
          front = ends.front;
          last = ends.last;
          is_front = (
            ends.is_front.0 ++ more,
            sym (append_assoc ends.front ends.is_front.0 more) ∙ ap (λ (h : History). h ++ more) ends.is_front.1 ∙ is,
          );
          log = ends.log;
        }))
        (w.behind before from log text c was accepted);
    near = w.near;
    near_own = w.near_own;
    reached = w.reached;
  }

  -- One run, and then another.
  module _ (a b c : D) (xs maybe later all : History) (some others : History) (grows : Extends (outside b).trace (outside c).trace)
      (faults : (outside a).faults ≤ (outside b).faults) (faults_then : (outside b).faults ≤ (outside c).faults)
      (leads : Leads store (written a) (written b) xs maybe (outside a).anchor (outside b).anchor)
      (counts : CountsOn store (written b) (outside b).anchor (outside c).anchor)
      (left : (i : List ℕ) (x : Anchor) → now outside crash_states b i x → FromLeft outside crash_states store a b xs maybe i x)
      (left_then : (i : List ℕ) (x : Anchor) → now outside crash_states c i x
      → FromLeft outside crash_states store b c some others i x)
      (first_part : IsFront (xs ++ maybe) all)
      (parts : (f g : History) → IsFront f maybe → IsFront g later → IsFront ((xs ++ f) ++ g) all) where
    -- what ended a log then, ends it now
    ends_still : (before : History) (text : List ℕ) (d : Commit) → EndsBehind (written b) store before (xs ++ maybe) text d
        → EndsBehind (written c) store before all text d
    ends_still before text d e = record {
      front = e.front;
      last = e.last;
      is_front = (
        e.is_front.0 ++ first_part.0,
        sym (append_assoc e.front e.is_front.0 first_part.0) ∙ ap (λ (h : History). h ++ first_part.0) e.is_front.1 ∙ first_part.1,
      );
      log = log_still (outside b).trace (outside c).trace store (d.count, sha256 text) (before ++ e.front) e.last grows e.log;
    }

    -- and what ends the log of the one between
    ends_later : (before f : History) → IsFront f maybe → (text : List ℕ) (d : Commit)
        → EndsBehind (written c) store (before ++ (xs ++ f)) later text d → EndsBehind (written c) store before all text d
    ends_later before f is text d e = record {
      front = (xs ++ f) ++ e.front;
      last = e.last;
      is_front = parts f e.front is e.is_front;
      log = subst (λ (h : History). IsLog (written c) store (d.count, sha256 text) h e.last) (append_assoc before (xs ++ f) e.front) e.log;
    }

    each_then : EachHasLog outside crash_states store a → EachHasLog outside crash_states store b
    each_then each i x here =
        let from = left i x here in
        let was = each from.image from.anchor from.left in
        let on = from.leads was.0 was.1 was.2 in
        (was.0 ++ (xs ++ on.0), on.1, on.3)

    pub writes_then : Writes a (xs ++ maybe) b → Writes b later c → Writes a all c
    writes_then first then = record {
      behind = λ before from log.
          let mid = leads before from log in
          new_text_then store.secret (written a) (written b) (written c) _ _ _ (first.behind before from log)
          (then.behind (before ++ (xs ++ mid.0)) mid.1 mid.3) (ends_still before) (ends_later before mid.0 mid.2);
      near = λ each.
          new_text_then store.secret (written a) (written b) (written c) _ _ _ (first.near each) (then.near (each_then each))
          (λ text d is i x here.
          let t = left_then i x here in
          let was = each_then each t.image t.anchor t.left in
          let bound = is t.image t.anchor t.left in
          let more = t.counts was.0 was.1 was.2 in
          omega (arith, bound, more))
          (λ text d is. is);
      near_own = λ before from log.
          let mid = leads before from log in
          let more = counts (before ++ (xs ++ mid.0)) mid.1 mid.3 in
          new_text_then store.secret (written a) (written b) (written c) _ _ _ (first.near_own before from log)
          (then.near_own (before ++ (xs ++ mid.0)) mid.1 mid.3) (λ text d le. omega (arith, le, more)) (λ text d le. le);
      reached = λ before from log none.
          let mid = leads before from log in
          let quiet = no_rise (outside a).faults (outside b).faults (outside c).faults faults faults_then none in
          let more = counts (before ++ (xs ++ mid.0)) mid.1 mid.3 in
          new_text_then store.secret (written a) (written b) (written c) _ _ _ (first.reached before from log quiet.0)
          (then.reached (before ++ (xs ++ mid.0)) mid.1 mid.3 quiet.1) (λ text d le. omega (arith, le, more)) (λ text d le. le);
    }
