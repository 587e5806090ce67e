use Rattle.std.proofs.Common.{◌≡◌, ◌≢◌, List, ℕ, Bool, true, false, cond, Some, None, length, ap, sym, ◌∙◌, arith}
use Rattle.std.specs.Str.{bytes_eq}
use Rattle.tdb_mark.specs.declared.commit.Commit.{Commit}
use Rattle.tdb_mark.specs.CommitFormat.{is_in_format}
use Rattle.tdb_mark.specs.CommitText.{commit_text}
use Rattle.tdb_mark.proofs.TextLemmas.{commit_of-other_length, commit_of-no_suite, commit_of-fields, if_spelled-outside, if_spelled-inside}
use Rattle.tdb_mark.proofs.text.read.Goals as goal

pub returns-then-bytes-ne-TEXT_LENGTH : goal.returns-then-bytes-ne-TEXT_LENGTH
returns-then-bytes-ne-TEXT_LENGTH c =
    let other : length c.args.bytes.now ≢ 256 = omega arith in
    sym (commit_of-other_length c.args.key.now c.args.bytes.now other)

pub returns-in_default : goal.returns-in_default
returns-in_default c =
    let long : length c.args.bytes.now ≡ 256 = omega arith in
    sym (commit_of-no_suite c.args.key.now c.args.bytes.now _ _ long c.u32_at.ensures c.of_number.ensures.value c.in_default.is)

pub returns-then-not-is_in_format : goal.returns-then-not-is_in_format
returns-then-not-is_in_format c =
    let long : length c.args.bytes.now ≡ 256 = omega arith in
    let outside : is_in_format c.fields_at-commit.result ≡ false = cc (c.is_in_format.ensures.value, c.if-not-is_in_format.true) in
    sym (commit_of-fields c.args.key.now c.args.bytes.now _ _ c.in-Some.suite _ long c.u32_at.ensures c.of_number.ensures.value c.in-Some.is c.fields_at-commit.ensures
    ∙ if_spelled-outside c.args.key.now c.args.bytes.now c.fields_at-commit.result outside)

pub returns-then-eq : goal.returns-then-eq
returns-then-eq c =
    let key : List ℕ = c.args.key.now in
    let bytes : List ℕ = c.args.bytes.now in
    let d : Commit = c.fields_at-commit.result in
    let long : length bytes ≡ 256 = omega arith in
    let inside : is_in_format d ≡ true = cc (c.is_in_format.ensures.value, c.if-not-is_in_format.false) in
    let same : c.eq.result ≡ bytes_eq (commit_text key d) bytes = c.eq.ensures ∙ ap (λ (l : List ℕ). bytes_eq l bytes) (c.as_slice.ensures ∙ c.spell.ensures) in
    sym (commit_of-fields key bytes _ _ c.in-Some.suite d long c.u32_at.ensures c.of_number.ensures.value c.in-Some.is c.fields_at-commit.ensures
    ∙ if_spelled-inside key bytes d c.eq.result inside same
    ∙ ap (λ (b : Bool). cond b (Some d) None) c.if-eq.true)

pub returns-else-eq : goal.returns-else-eq
returns-else-eq c =
    let key : List ℕ = c.args.key.now in
    let bytes : List ℕ = c.args.bytes.now in
    let d : Commit = c.fields_at-commit.result in
    let long : length bytes ≡ 256 = omega arith in
    let inside : is_in_format d ≡ true = cc (c.is_in_format.ensures.value, c.if-not-is_in_format.false) in
    let same : c.eq.result ≡ bytes_eq (commit_text key d) bytes = c.eq.ensures ∙ ap (λ (l : List ℕ). bytes_eq l bytes) (c.as_slice.ensures ∙ c.spell.ensures) in
    sym (commit_of-fields key bytes _ _ c.in-Some.suite d long c.u32_at.ensures c.of_number.ensures.value c.in-Some.is c.fields_at-commit.ensures
    ∙ if_spelled-inside key bytes d c.eq.result inside same
    ∙ ap (λ (b : Bool). cond b (Some d) None) c.if-eq.false)
