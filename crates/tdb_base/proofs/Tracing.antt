-- How a trace grows.
use Rattle.std.proofs.Common.{◌≡◌, ℕ, ◌+◌, ◌≤◌, List, [], ◌∷◌, ◌++◌, length, refl, sym, ◌∙◌, ap, arith, append_assoc, append-nil, length-append}
use Rattle.tdb_base.specs.Trace.{WrittenPiece, ReadPiece, Trace, calls_in, with_written, with_read, WrittenUpTo, ReadUpTo, WrittenAfter, ReadAfter, IsNumbered, Extends}

written_up_to_more : (m n : ℕ) (ws : List WrittenPiece) → m ≤ n → WrittenUpTo m ws → WrittenUpTo n ws
written_up_to_more m n [] le h = tt
written_up_to_more m n (w ∷ ws) le h = (omega (arith, h.0), written_up_to_more m n ws le h.1)

read_up_to_more : (m n : ℕ) (rs : List ReadPiece) → m ≤ n → ReadUpTo m rs → ReadUpTo n rs
read_up_to_more m n [] le h = tt
read_up_to_more m n (r ∷ rs) le h = (omega (arith, h.0), read_up_to_more m n rs le h.1)

written_up_to_last : (n : ℕ) (ws : List WrittenPiece) (w : WrittenPiece) → WrittenUpTo n ws → w.call ≤ n → WrittenUpTo n (ws ++ w ∷ [])
written_up_to_last n [] w h le = (le, tt)
written_up_to_last n (x ∷ xs) w h le = (h.0, written_up_to_last n xs w h.1 le)

read_up_to_last : (n : ℕ) (rs : List ReadPiece) (r : ReadPiece) → ReadUpTo n rs → r.call ≤ n → ReadUpTo n (rs ++ r ∷ [])
read_up_to_last n [] r h le = (le, tt)
read_up_to_last n (x ∷ xs) r h le = (h.0, read_up_to_last n xs r h.1 le)

pub numbered_written : (t : Trace) (at : ℕ) (bytes : List ℕ) → IsNumbered t → IsNumbered (with_written t at bytes)
numbered_written t at bytes h =
    let one_more : calls_in (with_written t at bytes) ≡ calls_in t + 1 = omega (arith, length-append t.written (record { bytes = bytes; place = at; call = calls_in t + 1 } ∷ [])) in
    record {
      written = written_up_to_last _ t.written _ (written_up_to_more (calls_in t) _ t.written (omega (arith, one_more)) h.written) (omega (arith, one_more));
      read = read_up_to_more (calls_in t) _ t.read (omega (arith, one_more)) h.read;
    }

pub numbered_read : (t : Trace) (at asked : ℕ) (bytes : List ℕ) → IsNumbered t → IsNumbered (with_read t at asked bytes)
numbered_read t at asked bytes h =
    let one_more : calls_in (with_read t at asked bytes) ≡ calls_in t + 1 = omega (arith, length-append t.read (record { bytes = bytes; place = at; call = calls_in t + 1; asked = asked } ∷ [])) in
    record {
      written = written_up_to_more (calls_in t) _ t.written (omega (arith, one_more)) h.written;
      read = read_up_to_last _ t.read _ (read_up_to_more (calls_in t) _ t.read (omega (arith, one_more)) h.read) (omega (arith, one_more));
    }

pub extends_itself : (t : Trace) → Extends t t
extends_itself t = record { more_written = []; more_read = []; written = sym (append-nil t.written); read = sym (append-nil t.read); written_after = tt; read_after = tt }

pub extends_written : (t : Trace) (at : ℕ) (bytes : List ℕ) → Extends t (with_written t at bytes)
extends_written t at bytes = record {
  more_written = record { bytes = bytes; place = at; call = calls_in t + 1 } ∷ [];
  more_read = [];
  written = refl;
  read = sym (append-nil t.read);
  written_after = (omega arith, tt);
  read_after = tt;
}

pub extends_read : (t : Trace) (at asked : ℕ) (bytes : List ℕ) → Extends t (with_read t at asked bytes)
extends_read t at asked bytes = record {
  more_written = [];
  more_read = record { bytes = bytes; place = at; call = calls_in t + 1; asked = asked } ∷ [];
  written = sym (append-nil t.written);
  read = refl;
  written_after = tt;
  read_after = (omega arith, tt);
}

written_after_both : (m n : ℕ) (ws vs : List WrittenPiece) → m ≤ n → WrittenAfter m ws → WrittenAfter n vs → WrittenAfter m (ws ++ vs)
written_after_both m n [] [] le h j = tt
written_after_both m n [] (v ∷ vs) le h j = (omega (arith, j.0), written_after_both m n [] vs le h j.1)
written_after_both m n (w ∷ ws) vs le h j = (h.0, written_after_both m n ws vs le h.1 j)

read_after_both : (m n : ℕ) (rs qs : List ReadPiece) → m ≤ n → ReadAfter m rs → ReadAfter n qs → ReadAfter m (rs ++ qs)
read_after_both m n [] [] le h j = tt
read_after_both m n [] (q ∷ qs) le h j = (omega (arith, j.0), read_after_both m n [] qs le h j.1)
read_after_both m n (r ∷ rs) qs le h j = (h.0, read_after_both m n rs qs le h.1 j)

pub extends_along : (t u v : Trace) → Extends t u → Extends u v → Extends t v
extends_along t u v first then =
    let no_fewer : calls_in t ≤ calls_in u = omega (arith, ap length first.written, ap length first.read, length-append t.written first.more_written, length-append t.read first.more_read) in
    record {
      more_written = first.more_written ++ then.more_written;
      more_read = first.more_read ++ then.more_read;
      written = then.written ∙ ap (λ (ws : List WrittenPiece). ws ++ then.more_written) first.written ∙ append_assoc t.written first.more_written then.more_written;
      read = then.read ∙ ap (λ (rs : List ReadPiece). rs ++ then.more_read) first.read ∙ append_assoc t.read first.more_read then.more_read;
      written_after = written_after_both _ _ first.more_written then.more_written no_fewer first.written_after then.written_after;
      read_after = read_after_both _ _ first.more_read then.more_read no_fewer first.read_after then.read_after;
    }
