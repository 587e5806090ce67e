-- What the answers of a machine come to, and those of a whole script.
use Rattle.std.proofs.Common.{◌≡◌, inl, inr, ⊎_elim, ℕ, ◌++◌, ◌∷◌, [], List, Some, append_assoc, append-nil, refl, sym, subst}
use Rattle.tdb_script.specs.declared.reply.Reply.{Reply}
use Rattle.tdb_stream.specs.SinkContent.{SinkContent}
use Rattle.tdb_stream.specs.SourceContent.{SourceContent}
use Rattle.tdb_serve.specs.Answering.{AnsweredAll, Session}
use Rattle.tdb_serve.specs.Replies.{Conversation}
use Rattle.tdb_serve.specs.Running.{AnswersBy, FailsBy, MayHaveRun, NextRan, RanNothing, RanOwn, ScriptRan}
use Rattle.tdb_serve.specs.Served.{IsAtNext, Served}
use Rattle.tdb_serve.specs.declared.script_end.ScriptEnd.{ScriptEnd}
use Rattle.tdb_serve.specs.declared.script_end.ScriptEnd.TheVariants.{Bye, End, SourceFault, SinkFault, PlatformFault, Memory}
use Rattle.tdb_serve.specs.declared.script_end.Stop.{Stop}
use Rattle.tdb_serve.specs.declared.script_end.Stop.TheVariants as stops

-- what holds of the next line, weakened
pub next_weaker : (P Q : List ℕ → Type 0) (rest : List ℕ) (n : IsAtNext rest P) → (P n.line → Q n.line) → IsAtNext rest Q
next_weaker P Q rest n weaker = record {
  line = n.line;
  later = n.later;
  split = n.split;
  no_line_feed = n.no_line_feed;
  few = n.few;
  holds = weaker n.holds;
}

-- an answer by a step is one by each other step that may be taken for it
pub answers_by : {A S H L M : Type 0} (told : A → Type 0) (at : A → S → Type 0) (step : A → A → S → L → Reply → List H → S → Type 0)
    (step' : A → A → S → M → Reply → List H → S → Type 0) (ran : A → List H → List H → A → Type 0) (line : L) (other : M)
    (a b : A) → ((s : S) (reply : Reply) (added : List H) (t : S) → step a b s line reply added t → step' a b s other reply added t)
    → (reply : Reply) → AnswersBy told at step ran a line reply b → AnswersBy told at step' ran a other reply b
answers_by told at step step' ran line other a b goes reply h = record {
  added = h.added;
  runs = h.runs;
  steps = λ known s is. let one = h.steps known s is in (one.0, goes s reply h.added one.0 one.1, one.2);
}

-- and what one begins, the other may begin
pub fails_by : {A S H L M : Type 0} (told : A → Type 0) (at : A → S → Type 0) (begins : A → A → S → L → List H → Type 0)
    (begins' : A → A → S → M → List H → Type 0) (ran : A → List H → List H → A → Type 0) (line : L) (other : M)
    (a b : A) → ((s : S) (maybe : List H) → begins a b s line maybe → begins' a b s other maybe) → FailsBy told at begins ran a line b
    → FailsBy told at begins' ran a other b
fails_by told at begins begins' ran line other a b goes h = record {
  maybe = h.maybe;
  runs = h.runs;
  begun = λ known s is. ⊎_elim (λ none. inl none) (λ one. inr (goes s h.maybe one)) (h.begun known s is);
}

module _ {A S H : Type 0} (told : A → Type 0) (at : A → S → Type 0) (step : A → A → S → List ℕ → Reply → List H → S → Type 0)
    (ran : A → List H → List H → A → Type 0)
    (then : (a b c : A) (xs ys more : List H) → ran a xs [] b → ran b ys more c → ran a (xs ++ ys) more c)
    (told_before : (a b : A) (xs more : List H) → ran a xs more b → told b → told a)
    (gives : A → List ℕ → Reply → A → Type 0) (each : (a b : A) (line : List ℕ) (reply : Reply) → gives a line reply b
    → AnswersBy told at step ran a line reply b) where
  -- What a list of lines comes to, behind what ran since an earlier value.
  pub record LinesRan (begun : A) (so_far : List H) (lines : List (List ℕ)) (replies : List Reply) (old new : A) : Type 0 where
    pub added : List H
    pub runs : ran begun (so_far ++ added) [] new
    pub told_first : told new → told old
    pub session : told new → (state : S) → at old state → (last : S) × Session step ran old state lines replies added new last × at new last

  pub lines_ran : (begun : A) (so_far : List H) (lines : List (List ℕ)) (replies : List Reply) (old new : A) → ran begun so_far [] old
      → AnsweredAll gives old lines replies new → LinesRan begun so_far lines replies old new
  lines_ran begun so_far [] [] old new runs all = record {
    added = [];
    runs = subst (λ (a : A). ran begun (so_far ++ []) [] a) (sym all)
        (subst (λ (xs : List H). ran begun xs [] old) (sym (append-nil so_far)) runs);
    told_first = λ known. subst told all known;
    session = λ known s is. (s, (all, refl, refl), subst (λ (a : A). at a s) (sym all) is);
  }
  lines_ran begun so_far (line ∷ lines) (reply ∷ replies) old new runs all =
      let one = each old all.0 line reply all.1 in
      let rest = lines_ran begun (so_far ++ one.added) lines replies all.0 new (then begun old all.0 so_far one.added [] runs one.runs)
      all.2 in
      record {
        added = one.added ++ rest.added;
        runs = subst (λ (xs : List H). ran begun xs [] new) (append_assoc so_far one.added rest.added) rest.runs;
        told_first = λ known. told_before old all.0 one.added [] one.runs (rest.told_first known);
        session = λ known s is.
            let first = one.steps (rest.told_first known) s is in
            let more = rest.session known first.0 first.2 in
            (more.0, (all.0, first.0, one.added, rest.added, first.1, one.runs, more.1, refl), more.2);
      }
  lines_ran begun so_far [] (reply ∷ replies) old new runs all = absurd all
  lines_ran begun so_far (line ∷ lines) [] old new runs all = absurd all

  module _ (begins : A → A → S → List ℕ → List H → Type 0) (fails : A → List ℕ → Stop → A → Type 0)
      (each_stop : (a b : A) (line : List ℕ) (stop : Stop) → fails a line stop b → FailsBy told at begins ran a line b)
      (came gone : SourceContent) (c : Conversation came gone) (old mid new : A) (r : LinesRan old [] c.lines c.replies old mid)
      (end : ScriptEnd) where
    ran_nothing : ((last : S) (own maybe : List H) → RanNothing told at step begins ran mid new last own maybe
        → NextRan told at step begins ran c mid new last own maybe end) → new ≡ mid → ScriptRan told at step begins ran c old new end
    ran_nothing fits same = record {
      added = r.added;
      own = [];
      maybe = [];
      mid = mid;
      before = r.runs;
      runs = subst (λ (a : A). ran old (r.added ++ []) [] a) (sym same)
          (subst (λ (xs : List H). ran old xs [] mid) (sym (append-nil r.added)) r.runs);
      session = λ known s is. let m = r.session (subst told same known) s is in
          (m.0, m.1, fits m.0 [] [] (same, refl, refl, subst (λ (a : A). at a m.0) (sym same) m.2));
    }

    ran_own : ((last : S) (own maybe : List H) → RanOwn told at step begins ran c mid new last own maybe
        → NextRan told at step begins ran c mid new last own maybe end)
        → (reply : Reply) → c.next ≡ Some reply → IsAtNext c.unanswered (λ line. gives mid line reply new)
        → ScriptRan told at step begins ran c old new end
    ran_own fits reply next n =
        let one = each mid new n.line reply n.holds in
        record {
          added = r.added;
          own = one.added;
          maybe = [];
          mid = mid;
          before = r.runs;
          runs = then old mid new r.added one.added [] r.runs one.runs;
          session = λ known s is.
              let m = r.session (told_before mid new one.added [] one.runs known) s is in (
                m.0,
                m.1,
                fits m.0 one.added [] (
                  refl,
                  one.runs,
                  (
                    reply,
                    next,
                    next_weaker (λ line. gives mid line reply new) (λ line. (t : S) × step mid new m.0 line reply one.added t × at new t)
                        c.unanswered n
                        (λ h. one.steps known m.0 m.2),
                  ),
                ),
              );
        }

    may_have_run : ((last : S) (own maybe : List H) → MayHaveRun told at step begins ran c mid new last own maybe
        → NextRan told at step begins ran c mid new last own maybe end)
        → (stop : Stop) → IsAtNext c.unanswered (λ line. fails mid line stop new) → ScriptRan told at step begins ran c old new end
    may_have_run fits stop n =
        let one = each_stop mid new n.line stop n.holds in
        record {
          added = r.added;
          own = [];
          maybe = one.maybe;
          mid = mid;
          before = r.runs;
          runs = then old mid new r.added [] one.maybe r.runs one.runs;
          session = λ known s is.
              let m = r.session (told_before mid new [] one.maybe one.runs known) s is in (
                m.0,
                m.1,
                fits m.0 [] one.maybe (
                  refl,
                  one.runs,
                  ⊎_elim (λ none. inl none)
                      (λ t. inr (next_weaker (λ line. fails mid line stop new) (λ line. begins mid new m.0 line one.maybe) c.unanswered n
                      (λ h. t))) (one.begun known m.0 m.2),
                ),
              );
        }

  -- what a whole script comes to
  pub script_ran : (begins : A → A → S → List ℕ → List H → Type 0) (fails : A → List ℕ → Stop → A → Type 0)
      → ((a b : A) (line : List ℕ) (stop : Stop) → fails a line stop b → FailsBy told at begins ran a line b)
      → (came gone : SourceContent) (before after : SinkContent) (old new : A) (end : ScriptEnd) → ran old [] [] old
      → (s : Served gives fails came gone before after old new end) → ScriptRan told at step begins ran s.conversation old new end
  script_ran begins fails each_stop came gone before after old new Bye begun s = ran_nothing begins fails each_stop came gone
      s.conversation old s.mid new (lines_ran old [] s.conversation.lines s.conversation.replies old s.mid begun s.answers) Bye
      (λ last own maybe h. h) s.of_next.1
  script_ran begins fails each_stop came gone before after old new End begun s = ran_nothing begins fails each_stop came gone
      s.conversation old s.mid new (lines_ran old [] s.conversation.lines s.conversation.replies old s.mid begun s.answers) End
      (λ last own maybe h. h) s.of_next.1
  script_ran begins fails each_stop came gone before after old new SourceFault begun s = ran_nothing begins fails each_stop came gone
      s.conversation old s.mid new (lines_ran old [] s.conversation.lines s.conversation.replies old s.mid begun s.answers) SourceFault
      (λ last own maybe h. h) s.of_next.1
  script_ran begins fails each_stop came gone before after old new SinkFault begun s = ran_own begins fails each_stop came gone
      s.conversation old s.mid new (lines_ran old [] s.conversation.lines s.conversation.replies old s.mid begun s.answers) SinkFault
      (λ last own maybe h. h) s.of_next.0 s.of_next.1 s.of_next.2
  script_ran begins fails each_stop came gone before after old new PlatformFault begun s = may_have_run begins fails each_stop came gone
      s.conversation old s.mid new (lines_ran old [] s.conversation.lines s.conversation.replies old s.mid begun s.answers) PlatformFault
      (λ last own maybe h. h) stops.PlatformFault s.of_next.1
  script_ran begins fails each_stop came gone before after old new Memory begun s =
      let r = lines_ran old [] s.conversation.lines s.conversation.replies old s.mid begun s.answers in
      ⊎_elim (λ none. ran_nothing begins fails each_stop came gone s.conversation old s.mid new r Memory (λ last own maybe h. inl h)
      none.0.1)
      (λ some.
      ⊎_elim (λ stopped. may_have_run begins fails each_stop came gone s.conversation old s.mid new r Memory
      (λ last own maybe h. inr (inl h)) stops.Memory stopped.1)
      (λ cut. ran_own begins fails each_stop came gone s.conversation old s.mid new r Memory (λ last own maybe h. inr (inr h)) cut.0
      cut.1 cut.2) some)
      s.of_next
