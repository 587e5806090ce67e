use Rattle.std.proofs.Common.{◌≡◌, ◌∷◌, [], ◌++◌, ℕ, List, length, arith, refl, ap, sym, ◌∙◌, length-append}
use Rattle.std.specs.Prelude.{codes}
use Rattle.tdb_list.specs.Entry.{entry_bytes, IsEntry, IsEntryValue}
use Rattle.tdb_list.proofs.EntrySpelling.{length-entry_bytes}
use Rattle.tdb_list.proofs.ListSpelling.{spelled, is_refused, push_all, push_spelled, head_of}
use Rattle.tdb_list.proofs.list.read_list.Goals as goal

pub returns-then-not-is_well_formed-clause-form : goal.returns-then-not-is_well_formed-clause-form
returns-then-not-is_well_formed-clause-form c e entries is =
    let entry = c.split_entry.result.0 in
    let done = c.loop.entries.items in
    let some = c.in-Some.ensures.some in
    let head = head_of entries c.args.bytes.now (codes "TDBLST01") c.in-Some.count 0 c.in-Some.rest.now is (omega (arith, some.1)) (omega arith) refl some.3 in
    is_refused done entries entry c.split_entry.result.1.now c.loop.invariant.values is.values is.list.each c.split_entry.ensures.value (λ holds. cc (c.is_well_formed.ensures.1 holds, c.if-not-is_well_formed.true))
    (ap (λ (l : List ℕ). spelled done ++ l) (sym c.split_entry.ensures.spelled) ∙ sym c.loop.invariant.spelled ∙ head.rest)

pub loop-preserved : goal.loop-preserved
loop-preserved c =
    let entry = c.split_entry.result.0 in
    let done = c.loop.entries.items in
    let now : c.push.new.self.items ≡ done ++ entry ∷ [] = c.in_ok-push.ensures.items in
    record {
      count = omega (arith, c.in_ok-push.ensures.len, c.loop.invariant.count);
      left = omega (arith, length-entry_bytes entry c.split_entry.ensures.value, ap (λ (l : List ℕ). length l) c.split_entry.ensures.spelled, length-append (entry_bytes entry) c.split_entry.result.1.now, c.loop.invariant.left);
      values = rw now (push_all IsEntryValue done entry c.loop.invariant.values c.split_entry.ensures.value);
      each = rw now (push_all IsEntry done entry c.loop.invariant.each (c.is_well_formed.ensures.0 c.if-not-is_well_formed.false));
      spelled = rw now (c.loop.invariant.spelled ∙ ap (λ (l : List ℕ). spelled done ++ l) c.split_entry.ensures.spelled ∙ push_spelled done entry c.split_entry.result.1.now);
    }
