use Rattle.std.proofs.Common.{ap, ◌∙◌}
use Rattle.layout.specs.Numbers.{Bytes, little}
use Rattle.layout.proofs.Littles.{little_eight}
use Rattle.cipher.specs.Siphash.{siphash}
use Rattle.seal.specs.Schemes.{street_tag}
use Rattle.seal.proofs.street.StreetSealScheme.tag.Goals as goal

pub returns : goal.returns
unfolding street_tag
returns c =
    c.to_le_bytes.ensures
    ∙ (little_eight c.siphash24.result
    ∙ (ap (little 8) c.siphash24.ensures ∙ ap (λ (m : Bytes). little 8 (siphash c.args.self.now.tag_key m)) c.message_for.ensures))
