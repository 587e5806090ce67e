-- What a script comes to over a machine that goes along with a definition's machine and runs a store. `told` is the premise
-- on a machine's value under which it is known what it stands for; `at` says for which state it stands; `step` is the
-- definition's machine (the two values that a line stands between, a state, the line, the reply, what it adds, and the next
-- state); `begins` says what a line may add that isn't answered; `ran` says of two values of the machine what was added for
-- sure between them, in order, and what may have been added besides.
use Rattle.std.specs.Prelude.{◌≡◌, ◌⊎◌, ◌++◌, ℕ, List, [], Some}
use Rattle.tdb_script.specs.declared.reply.Reply.{Reply}
use Rattle.tdb_stream.specs.SourceContent.{SourceContent}
use Rattle.tdb_serve.specs.Answering.{Session}
use Rattle.tdb_serve.specs.Replies.{Conversation}
use Rattle.tdb_serve.specs.Served.{IsAtNext}
use Rattle.tdb_serve.specs.declared.script_end.ScriptEnd.{ScriptEnd}
use Rattle.tdb_serve.specs.declared.script_end.ScriptEnd.TheVariants.{Bye, End, SourceFault, SinkFault, PlatformFault, Memory}

module _ {A S H L : Type 0} (told : A → Type 0) (at : A → S → Type 0) (step : A → A → S → L → Reply → List H → S → Type 0)
    (ran : A → List H → List H → A → Type 0) where
  -- a line got its reply by a step, and what the step adds was added
  pub record AnswersBy (old : A) (line : L) (reply : Reply) (new : A) : Type 0 where
    pub added : List H
    pub runs : ran old added [] new
    pub steps : told new → (state : S) → at old state → (next : S) × step old new state line reply added next × at new next

module _ {A S H L : Type 0} (told : A → Type 0) (at : A → S → Type 0) (begins : A → A → S → L → List H → Type 0)
    (ran : A → List H → List H → A → Type 0) where
  -- a line got no reply: nothing was added for sure, and at most what it begins
  pub record FailsBy (old : A) (line : L) (new : A) : Type 0 where
    pub maybe : List H
    pub runs : ran old [] maybe new
    pub begun : told new → (state : S) → at old state → (maybe ≡ []) ⊎ begins old new state line maybe

module _ {A S H : Type 0} (told : A → Type 0) (at : A → S → Type 0) (step : A → A → S → List ℕ → Reply → List H → S → Type 0)
    (begins : A → A → S → List ℕ → List H → Type 0) (ran : A → List H → List H → A → Type 0) where
  -- behind the last reply that was put nothing was done
  abbrev pub RanNothing : A → A → S → List H → List H → Type 0
  RanNothing mid new last own maybe = (new ≡ mid) × (own ≡ []) × (maybe ≡ []) × at new last

  -- the next line was answered, and what that adds was added
  abbrev pub RanOwn : {came gone : SourceContent} → Conversation came gone → A → A → S → List H → List H → Type 0
  RanOwn c mid new last own maybe = (maybe ≡ []) × ran mid own [] new
      × ((reply : Reply) × (c.next ≡ Some reply) × IsAtNext c.unanswered
      (λ line. (next : S) × step mid new last line reply own next × at new next))

  -- the next line wasn't answered, and what it begins may have been added
  abbrev pub MayHaveRun : {came gone : SourceContent} → Conversation came gone → A → A → S → List H → List H → Type 0
  MayHaveRun c mid new last own maybe = (own ≡ []) × ran mid [] maybe new
      × ((maybe ≡ []) ⊎ IsAtNext c.unanswered (λ line. begins mid new last line maybe))

  -- what was done behind the last reply that was put
  abbrev pub NextRan : {came gone : SourceContent} → Conversation came gone → A → A → S → List H → List H → ScriptEnd → Type 0
  NextRan c mid new last own maybe Bye = RanNothing mid new last own maybe
  NextRan c mid new last own maybe End = RanNothing mid new last own maybe
  NextRan c mid new last own maybe SourceFault = RanNothing mid new last own maybe
  NextRan c mid new last own maybe SinkFault = RanOwn c mid new last own maybe
  NextRan c mid new last own maybe PlatformFault = MayHaveRun c mid new last own maybe
  NextRan c mid new last own maybe Memory = RanNothing mid new last own maybe
      ⊎ (MayHaveRun c mid new last own maybe ⊎ RanOwn c mid new last own maybe)

  -- From the first value to the last there was added what the answers add, in their order, then what the next line added
  -- whose reply wasn't put whole, and maybe what the next line begins that wasn't answered. Under the premise on the last
  -- value the lines with their replies are a session of the definition's machine from each state that the first stood for.
  pub record ScriptRan {came gone : SourceContent} (c : Conversation came gone) (old new : A) (end : ScriptEnd) : Type 0 where
    pub added : List H
    pub own : List H
    pub maybe : List H
    -- the machine behind the last reply that was put
    pub mid : A
    pub before : ran old added [] mid
    pub runs : ran old (added ++ own) maybe new
    pub session : told new → (state : S) → at old state → (last : S) × Session step ran old state c.lines c.replies added mid last
        × NextRan c mid new last own maybe end
