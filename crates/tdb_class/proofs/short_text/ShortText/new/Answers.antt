use Rattle.std.proofs.Common.{◌≡◌, ℕ, List, length, drop, replicate, ◌∙◌, ap, arith, length-append, length-drop}
use Rattle.std.proofs.lemmas.List.{drop-replicate, drop_at}
use Rattle.tdb_class.proofs.short_text.ShortText.new.Goals as goal

pub invariant_of-result : goal.invariant_of-result
invariant_of-result c =
    let text : List ℕ = c.args.bytes.now in
    let front : List ℕ = c.copy_from_slice.new.self in
    let blank : List ℕ = replicate 32 0 in
    let zeros : List ℕ = drop (length text) blank in
    let size : length front ≡ length text = ap (λ (l : List ℕ). length l) c.copy_from_slice.ensures.after in
    record {
      size = omega (arith, length-append front zeros, length-drop (length text) blank, size);
      limit = omega arith;
      zeros = drop_at front zeros (length text) size ∙ drop-replicate (length text) 32 0;
    }
