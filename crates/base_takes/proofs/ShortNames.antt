-- Names that are not empty.
use Rattle.std.proofs.Common.{◌≡◌, ℕ, ◌<◌, true, List, [], ◌∷◌, length, arith}
use Rattle.base_json.specs.Scopes.{is_block, is_short_name}

pub block_name : (x : List ℕ) → 0 < length x → is_block x ≡ true → is_short_name x ≡ true
block_name [] l e = absurd (omega arith)
block_name (c ∷ cs) l e = e
