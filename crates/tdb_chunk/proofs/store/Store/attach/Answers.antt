use Rattle.std.proofs.Common.{List, ℕ, Err, inl, inr, ⊎_elim, ◌∙◌, ap, subst, sym}
use Rattle.tdb_overlay.specs.Images.{IsReliableUnder}
use Rattle.tdb_recover.specs.declared.error.OpenError.{OpenError}
use Rattle.tdb_recover.specs.FirstText.{HasFirstText}
use Rattle.tdb_recover.specs.Opening.{StaysOrTakes}
use Rattle.tdb_chunk.proofs.Attaching.{attached, same_error, with_secret}
use Rattle.tdb_chunk.proofs.store.Store.attach.Goals as goal

pub returns-in-Ok-clause-attached : goal.returns-in-Ok-clause-attached
returns-in-Ok-clause-attached g c store history from given =
    attached g.P.Platform.outside g.P.Platform.crash_states _ c.args.platform c.args.secret.now c.in-Ok.log
    (c.open.ensures.keys ∙ c.new-keys.ensures) c.open.ensures.log c.in-Ok.ensures.at_head store history from given
    (c.in-Ok.ensures.recovered store history from (with_secret _ _ _ _ store history from c.new-keys.ensures given))

pub returns-in-Err-clause-anchor_err : goal.returns-in-Err-clause-anchor_err
returns-in-Err-clause-anchor_err g c tells =
    let outside = g.P.Platform.outside in
    let states = g.P.Platform.crash_states in
    subst (StaysOrTakes outside states c.args.platform c.recover.new.platform) c.new-keys.ensures (c.in-Err.ensures.anchor_err tells)

pub returns-in-Err-clause-unformatted_always : goal.returns-in-Err-clause-unformatted_always
returns-in-Err-clause-unformatted_always g c tells none = (
  c.recover.new.platform,
  ⊎_elim (λ is. inl (ap (λ (e : OpenError). Err (c.recover.new.platform, e)) (same_error _ _ is)))
      (λ is. inr (ap (λ (e : OpenError). Err (c.recover.new.platform, e)) (same_error _ _ is)))
      (c.in-Err.ensures.unformatted_always tells none),
)

pub returns-in-Err-clause-tampered : goal.returns-in-Err-clause-tampered
returns-in-Err-clause-tampered g c damage is store history from given =
    c.in-Err.ensures.tampered damage (ap Err is) store history from (with_secret _ _ _ _ store history from c.new-keys.ensures given)

pub returns-in-Err-clause-reliable : goal.returns-in-Err-clause-reliable
returns-in-Err-clause-reliable g c damage is store history from given reliable =
    c.in-Err.ensures.reliable damage (ap Err is) store history from (with_secret _ _ _ _ store history from c.new-keys.ensures given)
    (subst (λ (k : List ℕ). IsReliableUnder g.P.Platform.outside g.P.Platform.crash_states k c.args.platform) (sym c.new-keys.ensures)
    reliable)

pub returns-in-Err-clause-form : goal.returns-in-Err-clause-form
returns-in-Err-clause-form g c place is store history from given =
    c.in-Err.ensures.form place (ap Err is) store history from (with_secret _ _ _ _ store history from c.new-keys.ensures given)

pub returns-in-Ok-clause-accepted : goal.returns-in-Ok-clause-accepted
returns-in-Ok-clause-accepted g c tells =
    let o = g.P.Platform.outside c.args.platform in
    subst (λ (k : List ℕ). HasFirstText k o.anchor o (g.P.Platform.outside c.recover.new.platform)) c.new-keys.ensures
    (c.in-Ok.ensures.accepted tells)
