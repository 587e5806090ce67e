use Rattle.std.proofs.Common.{◌++◌, List, ℕ, ap, ◌∙◌}
use Rattle.sha2.specs.Sha256.{sha256}
use Rattle.tdb_mac.specs.Hmac.{padded_key, inner_pad, outer_pad, hmac_of}
use Rattle.tdb_mac.proofs.mac.Mac.finish.Goals as goal

pub returns : goal.returns
unfolding hmac_of
returns c key text is =
    let digest = c.finalize-digest.ensures (padded_key inner_pad key ++ text) is.inner in
    c.finalize.ensures _ (c.update.ensures _ is.outer)
    ∙ ap sha256 (ap (λ (d : List ℕ). padded_key outer_pad key ++ d) digest)
