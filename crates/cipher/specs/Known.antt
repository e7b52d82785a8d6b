-- Published answers, as theorems about the definitions. Assumes nothing.
use Rattle.std.specs.Prelude.{◌≡◌, [], ◌∷◌}
use Rattle.std.specs.List.{range_with_len}
use Rattle.cipher.specs.Chacha20.{block_words}
use Rattle.cipher.specs.Siphash.{siphash}

-- RFC 8439, section 2.3.2: the state at the end of the block function
abbrev pub ChaCha20Known : Type 0
ChaCha20Known =
    block_words (range_with_len 0 32) 1 (0 ∷ 0 ∷ 0 ∷ 9 ∷ 0 ∷ 0 ∷ 0 ∷ 0x4a ∷ 0 ∷ 0 ∷ 0 ∷ 0 ∷ [])
    ≡ 0xe4e7f110 ∷ 0x15593bd1 ∷ 0x1fdd0f50 ∷ 0xc47120a3
    ∷ 0xc7f4d1c7 ∷ 0x0368c033 ∷ 0x9aaa2204 ∷ 0x4e6cd4c3
    ∷ 0x466482d2 ∷ 0x09aa9f07 ∷ 0x05d7c214 ∷ 0xa2028bd9
    ∷ 0xd19c12b5 ∷ 0xb94e16de ∷ 0xe883d0cb ∷ 0x4e3c50a2 ∷ []

-- SipHash, appendix A: the key is the bytes 0 to 15, the message the bytes 0 to 14
abbrev pub SipHashKnown : Type 0
SipHashKnown = siphash (range_with_len 0 16) (range_with_len 0 15) ≡ 0xa129ca6149be45e5
