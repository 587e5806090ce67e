-- How writes change an image and a trace, one after another.
use Rattle.std.proofs.Common.{◌≡◌, ◌⊎◌, inl, inr, ⊎_elim, ℕ, suc, ◌+◌, ◌<◌, ◌≤◌, List, [], ◌∷◌, ◌++◌, length, get_or, refl, sym, ◌∙◌, ap, arith, subst}
use Rattle.std.specs.Prelude.{max, take, drop, All, AllPairs}
use Rattle.std.proofs.lemmas.List.{length-append, length_push, get_or_append_left, get_or_at, take-append-drop, drop_more, map-append, map_more}
use Rattle.std.proofs.lemmas.List.Elements.{All-push}
use Rattle.tdb_base.specs.Trace.{Trace, with_written}
use Rattle.tdb_platform.specs.Image.{Holds, SameExcept}
use Rattle.tdb_append.specs.declared.laid.Laid.{Laid}
use Rattle.tdb_append.specs.Placed.{Placed, placed_one, placed, FitsOneSegment, IsApart, EachHolds, with_all_written, IsOutside, last_end, SameExceptAt}
use Rattle.tdb_append.specs.Put.{slot_place}

pub with_all_written-push : (t : Trace) (ps : List Placed) (p : Placed) → with_all_written t (ps ++ p ∷ []) ≡ with_written (with_all_written t ps) p.place p.bytes
with_all_written-push t [] p = refl
with_all_written-push t (q ∷ qs) p = with_all_written-push (with_written t q.place q.bytes) qs p

last_end-push : (ps : List Placed) (p : Placed) → last_end (ps ++ p ∷ []) ≡ max (last_end ps) (p.place + length p.bytes)
last_end-push [] p = omega arith
last_end-push (q ∷ qs) p = omega (arith, last_end-push qs p)

outside_front : (k : ℕ) (ps : List Placed) (p : Placed) → IsOutside k (ps ++ p ∷ []) → IsOutside k ps
outside_front k ps p out j d within =
    subst (λ (q : Placed). (k < q.place) ⊎ (q.place + length q.bytes ≤ k)) (get_or_append_left ps (p ∷ []) d j within) (out j d (omega (arith, within, length_push ps p)))

outside_last : (k : ℕ) (ps : List Placed) (p : Placed) → IsOutside k (ps ++ p ∷ []) → (k < p.place) ⊎ (p.place + length p.bytes ≤ k)
outside_last k ps p out =
    subst (λ (q : Placed). (k < q.place) ⊎ (q.place + length q.bytes ≤ k)) (get_or_at ps p [] p (length ps) refl) (out (length ps) p (omega (arith, length_push ps p)))

pub same_at_none : (image : List ℕ) → SameExceptAt [] image image
same_at_none image = record { bytes = λ k out within. refl; no_shorter = omega arith; no_longer = omega arith }

-- one write more
pub same_at_more : (ps : List Placed) (p : Placed) (a b c : List ℕ) → SameExceptAt ps a b → SameExcept p.place (length p.bytes) b c → SameExceptAt (ps ++ p ∷ []) a c
same_at_more ps p a b c so_far last = record {
  bytes = λ k out within. last.bytes k (outside_last k ps p out) (omega (arith, within, so_far.no_shorter)) ∙ so_far.bytes k (outside_front k ps p out) within;
  no_shorter = omega (arith, so_far.no_shorter, last.no_shorter);
  no_longer = omega (arith, so_far.no_longer, last.no_longer, last_end-push ps p);
}

-- a piece stays where another one is written
holds_kept : (q p : Placed) (a b : List ℕ) → Holds a q.place q.bytes → IsApart q p → SameExcept p.place (length p.bytes) a b → Holds b q.place q.bytes
holds_kept q p a b held apart same = record {
  within = omega (arith, held.within, same.no_shorter);
  bytes = λ k within. same.bytes (q.place + k) (⊎_elim (λ before. inl (omega (arith, before, within))) (λ behind. inr (omega (arith, behind))) apart) (omega (arith, held.within, within)) ∙ held.bytes k within;
}

-- the pieces that stand before another one in the list are apart from it
apart_before : (all done rest : List Placed) (p : Placed) → all ≡ done ++ p ∷ rest → AllPairs IsApart all → All (λ q. IsApart q p) done
apart_before all done rest p split apart k d within =
    let longer : length all ≡ length done + suc (length rest) = ap length split ∙ length-append done (p ∷ rest) in
    let there : get_or all k d ≡ get_or done k d = ap (λ (l : List Placed). get_or l k d) split ∙ get_or_append_left done (p ∷ rest) d k within in
    let here : get_or all (length done) d ≡ p = ap (λ (l : List Placed). get_or l (length done) d) split ∙ get_or_at done p rest d (length done) refl in
    subst (λ (q : Placed). IsApart q p) there (subst (λ (q : Placed). IsApart (get_or all k d) q) here (apart k (length done) d within (omega (arith, longer))))

-- each piece stands in the image after one write more
pub holds_more : (all done rest : List Placed) (p : Placed) (a b : List ℕ) → all ≡ done ++ p ∷ rest → AllPairs IsApart all → EachHolds a done
    → SameExcept p.place (length p.bytes) a b → Holds b p.place p.bytes → EachHolds b (done ++ p ∷ [])
holds_more all done rest p a b split apart held same last =
    All-push (λ (q : Placed). Holds b q.place q.bytes) done p (λ k d within. holds_kept (get_or done k d) p a b (held k d within) (apart_before all done rest p split apart k d within) same) last

-- a text in its slot ends within the ring
pub in_ring : (count : ℕ) (p : Placed) → p.place ≡ slot_place (count + 1) → length p.bytes ≡ 256 → p.place + length p.bytes ≤ 262144
in_ring count p at long = omega (arith, at, long)

-- the pieces stay in their segments where a text goes into the ring
pub holds_with_text : (ps : List Placed) (p : Placed) (a b : List ℕ) → All FitsOneSegment ps → p.place + length p.bytes ≤ 262144 → EachHolds a ps
    → SameExcept p.place (length p.bytes) a b → Holds b p.place p.bytes → EachHolds b (ps ++ p ∷ [])
holds_with_text ps p a b fits in_ring held same last =
    All-push (λ (q : Placed). Holds b q.place q.bytes) ps p
    (λ k d within.
    let segment = fits k d within in
    holds_kept (get_or ps k d) p a b (held k d within) (inr (omega (arith, in_ring, segment.2.begins))) same)
    last

-- the pieces before one of them, that one, and the rest
module _ (ps : List Laid) (k : ℕ) (x : Laid) (p : Placed) (within : k < length ps) (is : x ≡ get_or ps k x) (same : p ≡ placed_one x) where
  pub placed_split : placed ps ≡ placed (take k ps) ++ p ∷ placed (drop (k + 1) ps)
  placed_split =
      ap placed (sym (take-append-drop k ps)) ∙ map-append placed_one (take k ps) (drop k ps)
      ∙ ap (λ (l : List Laid). placed (take k ps) ++ placed l) (drop_more ps k x within)
      ∙ ap (λ (y : Laid). placed (take k ps) ++ placed_one y ∷ placed (drop (k + 1) ps)) (sym is)
      ∙ ap (λ (q : Placed). placed (take k ps) ++ q ∷ placed (drop (k + 1) ps)) (sym same)

  pub placed_more : placed (take (k + 1) ps) ≡ placed (take k ps) ++ p ∷ []
  placed_more =
      map_more placed_one ps k x within ∙ ap (λ (y : Laid). placed (take k ps) ++ placed_one y ∷ []) (sym is)
      ∙ ap (λ (q : Placed). placed (take k ps) ++ q ∷ []) (sym same)

  pub fits_at : All FitsOneSegment (placed ps) → FitsOneSegment p
  fits_at fits =
      let front = placed (take k ps) in
      let rest = placed (drop (k + 1) ps) in
      let here : get_or (placed ps) (length front) p ≡ p = ap (λ (l : List Placed). get_or l (length front) p) placed_split ∙ get_or_at front p rest p (length front) refl in
      subst FitsOneSegment here (fits (length front) p (omega (arith, ap length placed_split, length-append front (p ∷ rest))))

pub ends_on_device : (p : Placed) → FitsOneSegment p → p.place + length p.bytes ≤ 1074003968
ends_on_device p fits = omega (arith, fits.1, fits.2.ends)
