-- When a published vector agrees with the definitions. Assumes nothing.
use Rattle.std.specs.Prelude.{◌≡◌, vec_items}
use Rattle.cipher.specs.Chacha20.{block}
use Rattle.cipher.specs.Siphash.{siphash}
use Rattle.vectors.specs.declared.published.BlockVector.{BlockVector}
use Rattle.vectors.specs.declared.published.TagVector.{TagVector}
use Rattle.vectors.specs.declared.published.Vector.{Vector}
use Rattle.vectors.specs.declared.published.Vector.TheVariants.{Block, Tag}

-- the block under this key, counter and nonce is the published one
abbrev pub BlockAgrees : BlockVector → Type 0
BlockAgrees v = block v.key v.counter v.nonce ≡ v.block

-- the tag of this message under this key is the published one
abbrev pub TagAgrees : TagVector → Type 0
TagAgrees v = siphash v.key (vec_items v.message) ≡ v.tag

abbrev pub Agrees : Vector → Type 0
Agrees (Block v) = BlockAgrees v
Agrees (Tag v) = TagAgrees v
