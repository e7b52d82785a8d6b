use Rattle.std.proofs.Common.{◌≡◌, refl, ap, ◌∙◌, rules, arith}
use lib.Bits.{bit_xor}
use lib.Lanes.{zip2}
use Rattle.layout.specs.Numbers.{Bytes}
use Rattle.cipher.specs.Chacha20.{block}
use Rattle.cipher.proofs.Zips.{zip_made}
use Rattle.seal.specs.Schemes.{keystream}
use Rattle.seal.proofs.street.StreetSealScheme.cover.Goals as goal

pub returns : goal.returns
unfolding keystream
returns c =
    let body = c.args.body in
    let stream = c.chacha20_block-stream.result in
    zip_made (λ p. (p.0 ≡ body) × (p.1.now ≡ stream)) bit_xor body.now stream
    (λ p i r q keeps called. (search rules, (called.met.1.0 ∙ keeps.0, cc called.met.1.1))) 52 _ _ (refl, refl) c.from_fn.ensures.items (omega arith) (omega arith)
    ∙ (ap (zip2 bit_xor body.now) c.chacha20_block-stream.ensures
    ∙ ap (λ (n : Bytes). zip2 bit_xor body.now (block c.args.self.now.body_key 0 n)) c.nonce_for.ensures)
