-- The records that a list names, one entry after another.
use Rattle.std.proofs.Common.{◌≡◌, ℕ, zero, suc, ◌+◌, ◌<◌, ◌==◌, Bool, true, false, cond, List, [], ◌∷◌, ◌++◌, length, get_or, take, refl, sym, ◌∙◌, ap, subst, arith, append-nil}
use Rattle.std.specs.List.{AllByRecursion}
use Rattle.std.proofs.lemmas.Bool.{eqb-true, eq-eqb}
use Rattle.std.proofs.lemmas.List.{take_more}
use Rattle.tdb_base.specs.declared.piece.Piece.{Piece}
use Rattle.tdb_list.specs.declared.entry.Entry.{Entry}
use Rattle.tdb_seg.specs.SegmentSpace.{SegmentSpace, note_in}
use Rattle.tdb_overlay.specs.Changes.{named_records}
use Rattle.tdb_overlay.specs.Placement.{note_all}

named_push : (entries : List Entry) (e : Entry) → named_records (entries ++ e ∷ []) ≡ named_records entries ++ named_records (e ∷ [])
named_push [] e = refl
named_push (x ∷ xs) e =
    let rest = named_push xs e in
    elim (x.kind == 1) as (λ (b : Bool). cond b (x.piece ∷ named_records (xs ++ e ∷ [])) (named_records (xs ++ e ∷ [])) ≡ cond b (x.piece ∷ named_records xs) (named_records xs) ++ named_records (e ∷ [])) [
      | true ↦ ap (λ (l : List Piece). x.piece ∷ l) rest
      | false ↦ rest
    ]

pub note_push : (space : SegmentSpace) (pieces : List Piece) (piece : Piece) → note_all space (pieces ++ piece ∷ []) ≡ note_in (note_all space pieces) piece
note_push space [] piece = refl
note_push space (p ∷ pieces) piece = note_push (note_in space p) pieces piece

-- an entry that names a record adds it to those before
pub named_more : (entries : List Entry) (i : ℕ) (d : Entry) → i < length entries → (get_or entries i d).kind ≡ 1
    → named_records (take (i + 1) entries) ≡ named_records (take i entries) ++ (get_or entries i d).piece ∷ []
named_more entries i d below kind =
    let e = get_or entries i d in
    let one : named_records (e ∷ []) ≡ e.piece ∷ [] = ap (λ (b : Bool). cond b (e.piece ∷ []) []) (eq-eqb e.kind 1 kind) in
    ap (λ (l : List Entry). named_records l) (take_more entries i d below)
    ∙ named_push (take i entries) e
    ∙ ap (λ (l : List Piece). named_records (take i entries) ++ l) one

-- one that names none adds none
pub named_same : (entries : List Entry) (i : ℕ) (d : Entry) → i < length entries → ((get_or entries i d).kind ≡ 1 → ⊥)
    → named_records (take (i + 1) entries) ≡ named_records (take i entries)
named_same entries i d below kind =
    let e = get_or entries i d in
    let none : named_records (e ∷ []) ≡ [] =
    elim (e.kind == 1) as (λ (b : Bool). (e.kind == 1) ≡ b → cond b (e.piece ∷ []) [] ≡ []) [
      | true ↦ λ same. absurd (kind (eqb-true e.kind 1 same))
      | false ↦ λ differs. refl
    ] refl in
    ap (λ (l : List Entry). named_records l) (take_more entries i d below)
    ∙ named_push (take i entries) e
    ∙ ap (λ (l : List Piece). named_records (take i entries) ++ l) none
    ∙ append-nil (named_records (take i entries))

-- an entry that names a record
pub noted_next : (space : SegmentSpace) (entries : List Entry) (i : ℕ) (d : Entry) (before after : SegmentSpace) → i < length entries → before ≡ note_all space (named_records (take i entries))
    → (get_or entries i d).kind ≡ 1 → after ≡ note_in before (get_or entries i d).piece → after ≡ note_all space (named_records (take (i + 1) entries))
noted_next space entries i d before after below is kind step =
    let e = get_or entries i d in
    step ∙ ap (λ (s : SegmentSpace). note_in s e.piece) is ∙ sym (note_push space (named_records (take i entries)) e.piece)
    ∙ ap (note_all space) (sym (named_more entries i d below kind))

-- one that names none
pub noted_none : (space : SegmentSpace) (entries : List Entry) (i : ℕ) (d : Entry) (before : SegmentSpace) → i < length entries → before ≡ note_all space (named_records (take i entries))
    → ((get_or entries i d).kind ≡ 1 → ⊥) → before ≡ note_all space (named_records (take (i + 1) entries))
noted_none space entries i d before below is kind = is ∙ ap (note_all space) (sym (named_same entries i d below kind))

-- what holds of each record that is named, holds of that of an entry
pub named_at : (P : Piece → Type 0) (entries : List Entry) (i : ℕ) (d : Entry) → i < length entries → (get_or entries i d).kind ≡ 1 → AllByRecursion P (named_records entries) → P (get_or entries i d).piece
named_at P [] i d below kind all = absurd (omega arith)
named_at P (x ∷ xs) zero d below kind all =
    (subst (λ (b : Bool). AllByRecursion P (cond b (x.piece ∷ named_records xs) (named_records xs))) (eq-eqb x.kind 1 kind) all).0
named_at P (x ∷ xs) (suc i) d below kind all = named_at P xs i d (omega arith) kind (rest (x.kind == 1) all)
  where
    rest : (b : Bool) → AllByRecursion P (cond b (x.piece ∷ named_records xs) (named_records xs)) → AllByRecursion P (named_records xs)
    rest true h = h.1
    rest false h = h
