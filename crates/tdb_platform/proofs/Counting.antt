-- How many reads of a log gave a piece.
use Rattle.std.proofs.Common.{◌≡◌, Bool, ℕ, ◌+◌, List, [], ◌∷◌, length, true, false, refl, sym, ◌∙◌, arith}
use Rattle.std.proofs.lemmas.List.{length-append}
use Rattle.std.proofs.lemmas.List.Recursion.{is_count_by}
use Rattle.std.specs.Prelude.{cond, count_by}
use Rattle.tdb_base.specs.Trace.{Trace, ReadPiece, no_trace, calls_in}
use Rattle.tdb_platform.specs.declared.call.Call.{Call}
use Rattle.tdb_platform.specs.declared.call.Call.TheVariants.{Read, Write, Sync, Anchor, Advance, Failed, Replace, Stop}
use Rattle.tdb_platform.specs.declared.call.Entry.{Entry}
use Rattle.tdb_platform.specs.Logs.{event_of, calls_of, gave}
use Rattle.tdb_platform.specs.Replay.{trace_after, trace_of}

one_call : (c : Call) (t : Trace) → length (trace_after t (event_of c)).read ≡ cond (gave c) 1 0 + length t.read
one_call (Read at asked bytes) t = omega (arith, length-append t.read (let r : ReadPiece = record { bytes = bytes.items; place = at; call = calls_in t + 1; asked = asked } in r ∷ []))
one_call (Write at piece failed) t = omega arith
one_call Sync t = omega arith
one_call Anchor t = omega arith
one_call (Advance count mark failed) t = omega arith
one_call Failed t = omega arith
one_call (Replace at bytes) t = omega arith
one_call (Stop image count mark) t = omega arith

-- how many of the entries are reads that gave a piece
abbrev reads_of : List Entry → ℕ
reads_of [] = 0
reads_of (e ∷ es) = cond (gave e.call) (1 + reads_of es) (reads_of es)

one_more : (b : Bool) (n : ℕ) → cond b (1 + n) n ≡ cond b 1 0 + n
one_more true n = refl
one_more false n = omega arith

all_calls : (entries : List Entry) (t : Trace) → length (trace_of t (calls_of entries)).read ≡ reads_of entries + length t.read
all_calls [] t = omega arith
all_calls (e ∷ es) t = all_calls es (trace_after t (event_of e.call)) ∙ omega (arith, one_more (gave e.call) (reads_of es), one_call e.call t)

pub reads_counted : (entries : List Entry) → count_by (λ e. gave e.call) entries ≡ length (trace_of no_trace (calls_of entries)).read
reads_counted entries = sym (is_count_by reads_of (λ e. gave e.call) refl (λ e es. refl) entries) ∙ omega (arith, all_calls entries no_trace)
