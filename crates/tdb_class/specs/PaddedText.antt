-- How a short text is kept: its bytes in front of zeros, 32 bytes in all.
use Rattle.std.specs.Prelude.{◌≡◌, ℕ, ◌-◌, ◌≤◌, List, ◌++◌, length, take, drop, replicate}
use Rattle.std.proofs.Common.{sym, ap, ◌∙◌, arith, length-take, refl}
use Rattle.std.proofs.lemmas.List.{take-append-drop}
use Rattle.tdb_class.specs.declared.short_text.ShortText.TheInside.{Inside}

pub record IsPaddedText (text : Inside) : Type 0 where
  pub size : length text.bytes ≡ 32
  pub limit : text.length ≤ 32
  pub zeros : drop text.length text.bytes ≡ replicate (32 - text.length) 0

abbrev pub padded_text : List ℕ → Inside
padded_text text = record { bytes = text ++ replicate (32 - length text) 0; length = length text }

kept : List ℕ → ℕ → Inside
kept bytes size = record { bytes = bytes; length = size }

kept-fields : (text : Inside) → kept text.bytes text.length ≡ text
unfolding kept
kept-fields text = refl

kept-padded : (text : List ℕ) → kept (text ++ replicate (32 - length text) 0) (length text) ≡ padded_text text
unfolding kept
kept-padded text = refl

-- the bytes of a text give back how it is kept
pub padded-view : (text : Inside) → IsPaddedText text → padded_text (take text.length text.bytes) ≡ text
padded-view text is =
    let front : List ℕ = take text.length text.bytes in
    let size : length front ≡ text.length = omega (arith, length-take text.length text.bytes, is.size, is.limit) in
    let bytes : front ++ replicate (32 - length front) 0 ≡ text.bytes =
    ap (λ (n : ℕ). front ++ replicate (32 - n) 0) size
    ∙ ap (λ (l : List ℕ). front ++ l) (sym is.zeros)
    ∙ take-append-drop text.length text.bytes in
    let same : kept (front ++ replicate (32 - length front) 0) (length front) ≡ kept text.bytes text.length = cc (bytes, size) in
    sym (kept-padded front) ∙ same ∙ kept-fields text
