-- What was shown from one moment to a later one, and why a piece wasn't had since an earlier moment.
use Rattle.std.proofs.Common.{◌≡◌, inl, inr, ℕ, ◌+◌, ◌≤◌, IsTrue, List, [], ◌∷◌, ◌++◌, Result, Ok, Err, append_assoc, append-nil, length-append, refl, sym, subst, ap, ◌∙◌, arith}
use Rattle.std.specs.List.{AllByRecursion}
use Rattle.tdb_base.specs.Trace.{ReadPiece}
use Rattle.tdb_base.specs.Rose.{Rose}
use Rattle.tdb_base.specs.declared.piece.Piece.{Piece}
use Rattle.tdb_map.specs.declared.pieces.PieceError.{PieceError}
use Rattle.tdb_map.specs.declared.pieces.PieceError.TheVariants.{Tampered, Form, Fault, Memory}
use Rattle.tdb_map.specs.Shown.{IsShownLast, Shown, Shows, EachShown, AsksOneOf, ShowsOneOf}
use Rattle.tdb_map.specs.PieceCause.{IsPieceCause, IsUndamaged}

pub shows_none : (shown : Shown) (most : ℕ) → Shows shown shown most
shows_none shown most = record { tells = refl; read = λ _. ([], sym (append-nil shown.read), omega arith); faults = omega arith }

pub shows_then : (old mid new : Shown) (m n most : ℕ) → Shows old mid m → Shows mid new n → m + n ≤ most → Shows old new most
shows_then old mid new m n most f g few = record {
  tells = g.tells ∙ f.tells;
  read = λ told.
      let a = f.read told in
      let b = g.read (subst IsTrue (sym f.tells) told) in
      (a.0 ++ b.0, b.1 ∙ ap (λ (l : List ReadPiece). l ++ b.0) a.1 ∙ append_assoc old.read a.0 b.0, omega (arith, a.2, b.2, length-append a.0 b.0));
  faults = omega (arith, f.faults, g.faults);
}

pub shows_fewer : (old new : Shown) (m n : ℕ) → Shows old new m → m ≤ n → Shows old new n
shows_fewer old new m n f le = record { tells = f.tells; read = λ told. let a = f.read told in (a.0, a.1, omega (arith, a.2, le)); faults = f.faults }

rose_before : (a b c : ℕ) → a ≤ b → Rose b c → Rose a c
rose_before a b c h (inl k) = inl (omega (arith, h, k))
rose_before a b c h (inr k) = inr k

last_earlier : (old mid new : Shown) (m : ℕ) (piece : Piece) (bytes : List ℕ) → Shows old mid m → (IsTrue mid.tells → IsShownLast mid new piece bytes)
    → IsTrue old.tells → IsShownLast old new piece bytes
last_earlier old mid new m piece bytes shows last told =
    let a = shows.read told in
    let l = last (subst IsTrue (sym shows.tells) told) in
    let one : List ReadPiece = record { bytes = bytes; place = piece.place.0; call = l.call; asked = piece.length } ∷ [] in
    record {
      before = a.0 ++ l.before;
      call = l.call;
      is = l.is ∙ ap (λ (rs : List ReadPiece). rs ++ (l.before ++ one)) a.1 ∙ append_assoc old.read a.0 (l.before ++ one)
          ∙ ap (λ (rs : List ReadPiece). old.read ++ rs) (sym (append_assoc a.0 l.before one));
    }

pub cause_earlier : (old mid new : Shown) (m : ℕ) (misfits : Type 0) (unfit : List ℕ → Type 0) (piece : Piece) (error : PieceError) → Shows old mid m
    → IsPieceCause mid new misfits unfit piece error → IsPieceCause old new misfits unfit piece error
cause_earlier old mid new m misfits unfit piece (Tampered damage) h k =
    (k.0, k.1, k.2, k.3, k.4, last_earlier old mid new m piece k.0 h k.5)
cause_earlier old mid new m misfits unfit piece (Form place) h (place_is, inl strays) = (place_is, inl strays)
cause_earlier old mid new m misfits unfit piece (Form place) h (place_is, inr k) =
    (place_is, inr (k.0, k.1, k.2, last_earlier old mid new m piece k.0 h k.3))
cause_earlier old mid new m misfits unfit piece Fault h k = rose_before old.faults mid.faults new.faults h.faults k
cause_earlier old mid new m misfits unfit piece Memory h k = k

all_both : (Q : ReadPiece → Type 0) (xs ys : List ReadPiece) → AllByRecursion Q xs → AllByRecursion Q ys → AllByRecursion Q (xs ++ ys)
all_both Q [] ys h k = k
all_both Q (x ∷ xs) ys h k = (h.0, all_both Q xs ys h.1 k)

all_as : (Q R : ReadPiece → Type 0) → ((r : ReadPiece) → Q r → R r) → (xs : List ReadPiece) → AllByRecursion Q xs → AllByRecursion R xs
all_as Q R f [] h = tt
all_as Q R f (x ∷ xs) h = (f x h.0, all_as Q R f xs h.1)

pub each_none : (shown : Shown) (Q : ReadPiece → Type 0) → EachShown shown shown Q
each_none shown Q _ = ([], sym (append-nil shown.read), tt)

pub each_then : (old mid new : Shown) (Q : ReadPiece → Type 0) → mid.tells ≡ old.tells → EachShown old mid Q → EachShown mid new Q → EachShown old new Q
each_then old mid new Q same f g told =
    let a = f told in
    let b = g (subst IsTrue (sym same) told) in
    (a.0 ++ b.0, b.1 ∙ ap (λ (l : List ReadPiece). l ++ b.0) a.1 ∙ append_assoc old.read a.0 b.0, all_both Q a.0 b.0 a.2 b.2)

each_as : (old new : Shown) (Q R : ReadPiece → Type 0) → ((r : ReadPiece) → Q r → R r) → EachShown old new Q → EachShown old new R
each_as old new Q R f g told = let a = g told in (a.0, a.1, all_as Q R f a.0 a.2)

-- what was asked for is one of more pieces
pub asks_as : (old new : Shown) (some more : Piece → Type 0) → ((p : Piece) → some p → more p) → EachShown old new (AsksOneOf some) → EachShown old new (AsksOneOf more)
asks_as old new some more f h = each_as old new (AsksOneOf some) (AsksOneOf more) (λ r a. record { piece = a.piece; is_one = f a.piece a.is_one; place = a.place; asked = a.asked }) h

pub shows_as : (old new : Shown) (some more : Piece → Type 0) → ((p : Piece) → some p → more p) → EachShown old new (ShowsOneOf some) → EachShown old new (ShowsOneOf more)
shows_as old new some more f h = each_as old new (ShowsOneOf some) (ShowsOneOf more) (λ r a. record { piece = a.piece; is_one = f a.piece a.is_one; place = a.place; asked = a.asked; digest = a.digest }) h

-- a call that gave something told no damage
pub undamaged_ok : {T : Type 0} (result : Result T PieceError) (x : T) → result ≡ Ok x → IsUndamaged result
undamaged_ok result x is damage told = absurd (cc (is, told))

-- an error that is passed on tells the damage
pub undamaged_err : {T U : Type 0} (inner : Result T PieceError) (outer : Result U PieceError) (error : PieceError) → inner ≡ Err error → outer ≡ Err error → IsUndamaged outer → IsUndamaged inner
undamaged_err inner outer error is same h damage told = h damage (cc (is, same, told))
