-- Parts of a buffer, and what of a line has been handed on.
use Rattle.std.proofs.Common.{◌≡◌, ◌⊎◌, inl, inr, ℕ, ◌+◌, ◌-◌, ◌<◌, ◌≤◌, Bool, false, IsTrue, List, []}
use Rattle.std.proofs.Common.{◌∷◌, ◌++◌, length, take, drop, arith, sym, ◌∙◌, ap, subst, append_assoc, append-nil, length-append}
use Rattle.std.proofs.Common.{length-take, length-drop}
use Rattle.std.proofs.lemmas.List.{drop-take, drop-drop, length-take-le}
use Rattle.std.proofs.Math.Seq.{take-length}
use Rattle.std.proofs.lemmas.List.Elements.{All-append}
use Rattle.tdb_script.specs.declared.line.TheConstants.{MAX_LINE_LENGTH}
use Rattle.tdb_stream.specs.SourceContent.{SourceContent}
use Rattle.tdb_serve.specs.declared.script_lines.ScriptLines.{ScriptLines}
use Rattle.tdb_serve.specs.Gave.{Gave, HasNoLineFeed}
use Rattle.tdb_serve.specs.Unread.{unread, HandedOn, HasEnded}
use Rattle.tdb_serve.specs.Taking.{HasTaken}
use Rattle.tdb_serve.specs.declared.script_lines.Next.TheVariants.{TooLong}

-- what is left of the bytes between two places once the first n are read
pub unread_rest : (bytes : List ℕ) (start end n : ℕ) → n ≤ length (take (end - start) (drop start bytes))
    → take (end - (start + n)) (drop (start + n) bytes) ≡ drop n (take (end - start) (drop start bytes))
unread_rest bytes start end n within =
    let m = end - (start + n) in
    let fits : n ≤ end - start = omega (arith, length-take (end - start) (drop start bytes)) in
    let e : end - start ≡ n + m = omega (arith, fits) in
    sym (ap (λ (k : ℕ). drop n (take k (drop start bytes))) e ∙ drop-take n m (drop start bytes) ∙ ap (take m) (drop-drop n start bytes))

-- how many bytes are unread
pub length-unread : (r : ScriptLines) → r.start ≤ r.end → r.end ≤ length r.chunk.items → r.end - r.start ≡ length (unread r)
length-unread r ordered within = sym (length-take-le (r.end - r.start) (drop r.start r.chunk.items)
    (omega (arith, ordered, within, length-drop r.start r.chunk.items)))

-- In the middle of a line: these bytes of it were passed, and they are the line so far, as long as they fit.
pub record Passed (before after : SourceContent) (old new : ScriptLines) (fits : Bool) : Type 0 where
  pub bytes : List ℕ
  pub no_line_feed : HasNoLineFeed bytes
  pub handed_on : HandedOn before after old new bytes
  pub line : IsTrue fits → new.line.items ≡ bytes
  pub long : fits ≡ false → MAX_LINE_LENGTH < length bytes
  pub quiet : after.faults ≡ before.faults

too_long : (fits : Bool) (bytes line more : List ℕ) (count : ℕ) → count ≡ length more → (IsTrue fits → line ≡ bytes)
    → (fits ≡ false → MAX_LINE_LENGTH < length bytes)
    → (fits ≡ false) ⊎ (IsTrue fits × (MAX_LINE_LENGTH < length line + count)) → MAX_LINE_LENGTH < length (bytes ++ more)
too_long fits bytes line more count all same long (inl was) = let far = long was in omega (arith, far, length-append bytes more)
too_long fits bytes line more count all same long (inr is) = let e = ap length (same is.0) in omega
    (arith, is.1, e, all, length-append bytes more)

module _ (before mid after : SourceContent) (old now new : ScriptLines) (fits fits' : Bool) where
  -- all that was unread is passed too, and then more is taken
  pub passed_more : Passed before mid old now fits → HasNoLineFeed (unread now) → (count : ℕ) → count ≡ length (unread now)
      → (IsTrue fits' → IsTrue fits × (new.line.items ≡ now.line.items ++ take count (unread now)))
      → (fits' ≡ false → (fits ≡ false) ⊎ (IsTrue fits × (MAX_LINE_LENGTH < length now.line.items + count)))
      → mid.tells ≡ before.tells → Gave mid after (unread new) → new.taken ≡ now.taken + length (unread new) → after.faults ≡ mid.faults
      → Passed before after old new fits'
  passed_more p none count all fit long same gave counted quiet = record {
    bytes = p.bytes ++ unread now;
    no_line_feed = All-append (λ b. b ≡ 10 → ⊥) p.bytes (unread now) p.no_line_feed none;
    handed_on = record {
      bytes = p.handed_on.bytes ++ unread new;
      gave = λ told. p.handed_on.gave told ∙ ap (λ (l : List ℕ). p.handed_on.bytes ++ l) (gave (subst IsTrue (sym same) told))
          ∙ sym (append_assoc p.handed_on.bytes (unread new) after.rest);
      counted = omega (arith, counted, p.handed_on.counted, length-append p.handed_on.bytes (unread new));
      moved = sym (append_assoc (unread old) p.handed_on.bytes (unread new)) ∙ ap (λ (l : List ℕ). l ++ unread new) p.handed_on.moved;
    };
    line = λ h. (fit h).1 ∙ ap (λ (l : List ℕ). l ++ take count (unread now)) (p.line (fit h).0)
        ∙ ap (λ (l : List ℕ). p.bytes ++ l) (ap (λ (n : ℕ). take n (unread now)) all ∙ take-length (unread now));
    long = λ h. too_long fits p.bytes now.line.items (unread now) count all p.line p.long (long h);
    quiet = quiet ∙ p.quiet;
  }

  -- the source has come to its end, or failed, in the middle of a line
  pub ended : (p : Passed before mid old now fits) → HasNoLineFeed (unread now) → mid.tells ≡ before.tells → Gave mid after []
      → new.taken ≡ now.taken → unread new ≡ [] → HasEnded before after old new
  ended p none same gave counted empty = record {
    tail = p.bytes ++ unread now;
    no_line_feed = All-append (λ b. b ≡ 10 → ⊥) p.bytes (unread now) p.no_line_feed none;
    handed_on = record {
      bytes = p.handed_on.bytes;
      gave = λ told. p.handed_on.gave told ∙ ap (λ (l : List ℕ). p.handed_on.bytes ++ l) (gave (subst IsTrue (sym same) told));
      counted = counted ∙ p.handed_on.counted;
      moved = p.handed_on.moved ∙ sym (append-nil (p.bytes ++ unread now)) ∙ ap (λ (l : List ℕ). (p.bytes ++ unread now) ++ l) (sym empty);
    };
    all = empty;
  }

-- a line that is too long, up to its line feed
pub long_line : (before after : SourceContent) (old now new : ScriptLines) (fits : Bool) (count : ℕ) → Passed before after old now fits
    → (count < length (unread now)) × (unread now ≡ take count (unread now) ++ 10 ∷ drop (count + 1) (unread now))
    × HasNoLineFeed (take count (unread now))
    → (fits ≡ false) ⊎ (IsTrue fits × (MAX_LINE_LENGTH < length now.line.items + count))
    → new.taken ≡ now.taken → unread new ≡ drop 1 (drop count (unread now)) → HasTaken before after old new TooLong
long_line before after old now new fits count p found long counted moved =
    let front = take count (unread now) in
    let rest : unread new ≡ drop (count + 1) (unread now) = moved ∙ drop-drop 1 count (unread now) in
    let all : count ≡ length front = sym (length-take-le count (unread now) (omega (arith, found.0))) in
    record {
      line = p.bytes ++ front;
      taken_as = too_long fits p.bytes now.line.items front count all p.line p.long long;
      is_next = record {
        no_line_feed = All-append (λ b. b ≡ 10 → ⊥) p.bytes front p.no_line_feed found.2;
        quiet = p.quiet;
        handed_on = record {
          bytes = p.handed_on.bytes;
          gave = p.handed_on.gave;
          counted = omega (arith, counted, p.handed_on.counted);
          moved = p.handed_on.moved ∙ ap (λ (l : List ℕ). p.bytes ++ l) (found.1 ∙ ap (λ (l : List ℕ). front ++ 10 ∷ l) (sym rest))
              ∙ sym (append_assoc p.bytes front (10 ∷ unread new)) ∙ sym (append_assoc (p.bytes ++ front) (10 ∷ []) (unread new));
        };
      };
    }
