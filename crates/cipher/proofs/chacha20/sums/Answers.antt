use Rattle.std.proofs.Common.{◌≡◌, refl, ◌∙◌, rules, arith}
use Rattle.cipher.specs.Chacha20.{add32}
use Rattle.cipher.proofs.Zips.{zip_made}
use Rattle.cipher.proofs.chacha20.sums.Goals as goal

pub returns : goal.returns
returns c =
    zip_made (λ p. (p.0 ≡ c.args.a) × (p.1 ≡ c.args.b)) add32 c.args.a.now c.args.b.now
    (λ p i r q keeps called. (search rules, (called.met.1.0 ∙ keeps.0, called.met.1.1 ∙ keeps.1))) 16 _ _ (refl, refl) c.from_fn.ensures.items (omega arith) (omega arith)
