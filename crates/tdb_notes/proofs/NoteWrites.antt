-- The writes of notes, one after another.
use Rattle.std.proofs.Common.{◌≡◌, ◌+◌, ◌<◌, ◌≤◌, ◌^◌, ◌++◌, ℕ, List, [], ◌∷◌, take, length, get_or, false, refl, sym, ◌∙◌, ap, subst}
use Rattle.std.proofs.Common.{arith}
use Rattle.std.specs.Prelude.{◌==◌}
use Rattle.std.proofs.lemmas.Bool.{eq-eqb, false≢true}
use Rattle.std.proofs.lemmas.List.{take_more, take_all, length-map}
use Rattle.std.proofs.lemmas.List.Elements.{All-push}
use Rattle.std.specs.List.{All}
use Rattle.tdb_model.specs.HasCommitted.{IsShort}
use Rattle.tdb_model.specs.declared.change.Change.{Change}
use Rattle.tdb_model.specs.declared.change.Change.TheVariants.{Write}
use Rattle.tdb_script.specs.NoteText.{IsNoteText, stored_note_bytes}
use Rattle.tdb_script.proofs.NoteLaws.{length-stored_note_bytes}
use Rattle.tdb_notes.specs.Script.{changes_of, notes_part, write_of}
use Rattle.tdb_notes.specs.SessionState.{notes_of}
use Rattle.tdb_notes.specs.declared.transaction.NewNote.{NewNote}

-- the changes are the writes of the notes
pub record AreWritesOf (notes : List NewNote) (changes : List Change) : Type 0 where
  pub writes : changes ≡ changes_of (notes_of notes)
  pub short : All IsShort changes

pub no_writes : (notes : List NewNote) (changes : List Change) → notes ≡ [] → changes ≡ [] → AreWritesOf notes changes
no_writes [] [] none nothing = record { writes = refl; short = λ k d within. absurd (omega (arith, within)) }
no_writes [] (c ∷ changes) none nothing = absurd (cc nothing)
no_writes (n ∷ notes) changes none nothing = absurd (cc none)

changes_more : (notes : List NewNote) (new : NewNote) → changes_of (notes_of (notes ++ new ∷ [])) ≡ changes_of (notes_of notes) ++ Write
    notes_part new.id (stored_note_bytes new.note) ∷ []
changes_more [] new = refl
changes_more (n ∷ notes) new = ap (λ (cs : List Change). Write notes_part n.id (stored_note_bytes n.note) ∷ cs) (changes_more notes new)

-- the write of one note more
pub one_more : (notes : List NewNote) (changes : List Change) (i : ℕ) (new : NewNote) (bytes : List ℕ) → i < length notes
    → new ≡ get_or notes i new → IsNoteText new.note → bytes ≡ stored_note_bytes new.note
    → AreWritesOf (take i notes) changes → AreWritesOf (take (i + 1) notes) (changes ++ Write notes_part new.id bytes ∷ [])
one_more notes changes i new bytes within is text stored so_far =
    let next : take (i + 1) notes ≡ take i notes ++ new ∷ [] = take_more notes i new within
    ∙ ap (λ (n : NewNote). take i notes ++ n ∷ []) (sym is) in
    let short : length bytes < 2 ^ 32 = omega (arith, ap length stored, length-stored_note_bytes new.note, text.1) in
    record {
      writes =
          ap (λ (b : List ℕ). changes ++ Write notes_part new.id b ∷ []) stored
          ∙ ap (λ (cs : List Change). cs ++ Write notes_part new.id (stored_note_bytes new.note) ∷ []) so_far.writes
          ∙ sym (changes_more (take i notes) new)
          ∙ ap (λ (ns : List NewNote). changes_of (notes_of ns)) (sym next);
      short = All-push IsShort changes (Write notes_part new.id bytes) so_far.short short;
    }

-- all notes have theirs
pub all_writes : (notes : List NewNote) (changes : List Change) (i : ℕ) → length notes ≤ i → AreWritesOf (take i notes) changes
    → AreWritesOf notes changes
all_writes notes changes i end so_far = subst (λ (ns : List NewNote). AreWritesOf ns changes) (take_all i notes end) so_far

-- there are as many as notes
pub length-writes : (notes : List NewNote) (changes : List Change) → changes ≡ changes_of (notes_of notes) → length changes ≡ length notes
length-writes notes changes writes = ap length writes ∙ length-map (notes_of notes) write_of
    ∙ length-map notes (λ (new : NewNote). (new.id.0, new.note))

-- and some, where there are notes
pub some_writes : (notes : List NewNote) (changes : List Change) (n : ℕ) → n ≡ length notes → changes ≡ changes_of (notes_of notes)
    → (n == 0) ≡ false → 1 ≤ length changes
some_writes [] changes n is writes empty = absurd (false≢true (sym empty ∙ eq-eqb n 0 is))
some_writes (new ∷ notes) changes n is writes empty = omega (arith, length-writes (new ∷ notes) changes writes)
